-- Values corrected from the front of a list, each by the sum of normals of its entry and the flip that is chosen for it.
use Rattle.std.proofs.Common.{◌≡◌, ℕ, suc, ◌+◌, ◌*◌, ◌<◌, ◌≤◌, ℤ, pos, List, [], ◌∷◌, length, set, get_or, take, drop, Bool, true, false, not, nat_lt, Result, Ok, Err, sym, subst, ◌∙◌, ap, refl, arith}
use Rattle.std.specs.Prelude.{◌++◌, All}
use Rattle.std.proofs.lemmas.Bool.Decides.{nat_tests}
use Rattle.std.proofs.lemmas.List.{length-set, length-take, drop-set-lt, take_all, drop_all, append_assoc, append-nil, get_or_default}
use Rattle.std.proofs.lemmas.List.FromFn.{get_or-map-range_with_len, length-map-range_with_len}
use Rattle.std.proofs.lemmas.List.Elements.{All-nil, All-cons, All-append}
use Rattle.std.proofs.Math.Seq.{take-suc, take-suc-set}
use Rattle.drc_base.specs.Steps.{◌>>=◌}
use Rattle.drc_base.specs.declared.kinds.Kind.{Kind}
use Rattle.wrapped_vectors.specs.declared.vectors.Vector.{Vector}
use Rattle.octahedron.specs.declared.points.Point.{Point}
use Rattle.octahedron.specs.declared.points.Direction.{Direction}
use Rattle.octahedron.specs.Square.{point, IsValue}
use Rattle.octahedron.specs.Corrections.{correction_of, size}
use Rattle.octahedron.specs.Pairs.{pairs_of, pair_in}
use Rattle.octahedron.proofs.Listed.{pair-is, item-behind}
use Rattle.normal_prediction.specs.NormalSums.{vector_in}
use Rattle.normal_prediction.specs.Directions.{direction}
use Rattle.predict.specs.Stepping.{corrected_by, in_front}
use Rattle.octahedral_values.specs.Steps.{directed_value, normal_value, geometric_normal, is_flipped, flips_of, size_at, point_in}
use Rattle.octahedral_values.proofs.Predicted.{given}
use Rattle.octahedral_values.proofs.Restoring.{further, opened}

-- ---- the choice of a flip

pub corrected_at : (c : ℤ) (sum : Vector) (w : Direction) (flip : Bool) (p v a : Point) → w ≡ direction c sum → p ≡ directed_value c w flip → a ≡ correction_of c p v
    → a ≡ correction_of c (normal_value c sum flip) v
unfolding normal_value
corrected_at c sum w flip p v a ew ep ea = rw (ea, ep, ew) refl

less_is : (x y m n : ℕ) → m ≡ x → n ≡ y → m < n → false ≡ not (nat_lt x y)
less_is x y m n em en less =
    let below : x < y = omega arith in
    let test : nat_lt x y ≡ true = grind (arith, nat_tests) in
    rw test refl

least_is : (x y m n : ℕ) → m ≡ x → n ≡ y → n ≤ m → true ≡ not (nat_lt x y)
least_is x y m n em en least =
    let above : y ≤ x = omega arith in
    let test : nat_lt x y ≡ false = grind (arith, nat_tests) in
    rw test refl

pub kept_is : (c : ℤ) (sum : Vector) (v a b : Point) (m n : ℕ) → a ≡ correction_of c (normal_value c sum false) v → b ≡ correction_of c (normal_value c sum true) v
    → m ≡ size c a → n ≡ size c b → m < n → false ≡ is_flipped c sum v
unfolding is_flipped
kept_is c sum v a b m n ea eb em en less = less_is (size_at c sum false v) (size_at c sum true v) m n (em ∙ ap (size c) ea) (en ∙ ap (size c) eb) less

pub turned_is : (c : ℤ) (sum : Vector) (v a b : Point) (m n : ℕ) → a ≡ correction_of c (normal_value c sum false) v → b ≡ correction_of c (normal_value c sum true) v
    → m ≡ size c a → n ≡ size c b → n ≤ m → true ≡ is_flipped c sum v
unfolding is_flipped
turned_is c sum v a b m n ea eb em en least = least_is (size_at c sum false v) (size_at c sum true v) m n (em ∙ ap (size c) ea) (en ∙ ap (size c) eb) least

-- ---- the flips of all values

pub length-flips : (c : ℤ) (sums : List Vector) (values : List Point) → length (flips_of c sums values) ≡ length values
unfolding flips_of
length-flips c sums values = length-map-range_with_len (λ e. is_flipped c (vector_in sums e) (point_in values e)) 0 (length values)

flip-at : (c : ℤ) (sums : List Vector) (values : List Point) (e : ℕ) (d : Bool) (v : Point) → e < length values → v ≡ get_or values e v
    → get_or (flips_of c sums values) e d ≡ is_flipped c (vector_in sums e) v
unfolding flips_of
flip-at c sums values e d v has is =
    get_or-map-range_with_len (λ k. is_flipped c (vector_in sums k) (point_in values k)) 0 (length values) e e d has (omega arith)
    ∙ ap (is_flipped c (vector_in sums e)) (get_or_default values e (point (pos 0) (pos 0)) v has ∙ sym is)

-- ---- what is corrected

-- points that are made, in front of others or of what these lack
abbrev pub behind : List Point → Result (List Point) Kind → Result (List Point) Kind
behind made r = r >>= λ ps. Ok (made ++ ps)

behind-front : (made : List Point) (d : Point) (r : Result (List Point) Kind) → behind made (r >>= in_front d) ≡ behind (made ++ d ∷ []) r
behind-front made d (Err k) = refl
behind-front made d (Ok ps) = ap given (sym (append_assoc made (d ∷ []) ps))

-- the first e values are corrected with the flips chosen for them, and those behind are as they were
pub record Corrects (c : ℤ) (sums : List Vector) (flips : List Bool) (old new : List Point) (e : ℕ) : Type 0 where
  pub same : length new ≡ length old
  pub within : All (IsValue c) (take e new)
  pub rest : drop e new ≡ drop e old
  pub chosen : take e flips ≡ take e (flips_of c sums old)
  pub corrects : behind (take e new) (corrected_by (geometric_normal c sums) (correction_of c) (take e old) (drop e (flips_of c sums old)) (drop e old))
      ≡ corrected_by (geometric_normal c sums) (correction_of c) [] (flips_of c sums old) old

-- the beginning: none is corrected
behind-none : (r : Result (List Point) Kind) → behind [] r ≡ r
behind-none (Err k) = refl
behind-none (Ok ps) = refl

pub corrects-none : (c : ℤ) (sums : List Vector) (flips : List Bool) (values : List Point) → Corrects c sums flips values values 0
corrects-none c sums flips values = record {
  same = refl;
  within = All-nil (IsValue c);
  rest = refl;
  chosen = refl;
  corrects = behind-none (corrected_by (geometric_normal c sums) (correction_of c) [] (flips_of c sums values) values);
}

-- the value of the entry that comes next, as it was
pub value-is : (c : ℤ) (sums : List Vector) (flips : List Bool) (old xs : List ℤ) (e : ℕ) (v : Point) → Corrects c sums flips (pairs_of old) (pairs_of xs) e
    → 2 * e + 1 < length xs → v ≡ pair_in xs e → v ≡ get_or (pairs_of old) e v
value-is c sums flips old xs e v g inside is = is ∙ sym (pair-is xs e v inside) ∙ item-behind (pairs_of xs) (pairs_of old) e v g.rest

one-corrected : (c : ℤ) (sums : List Vector) (n : ℕ) (front before rest due made more : List Point) (left next : List Bool) (flip : Bool) (d v : Point) (r : Result (List Point) Kind)
    → length before ≡ n → front ≡ before ++ v ∷ [] → due ≡ v ∷ rest → left ≡ flip ∷ next → more ≡ made ++ d ∷ []
    → d ≡ correction_of c (normal_value c (vector_in sums n) flip) v
    → behind made (corrected_by (geometric_normal c sums) (correction_of c) before left due) ≡ r
    → behind more (corrected_by (geometric_normal c sums) (correction_of c) front next rest) ≡ r
unfolding corrected_by geometric_normal
one-corrected c sums n front before rest due made more left next flip d v r en ef ev el em ed is =
    rw (ef, em, ed, sym en) (sym (behind-front made (correction_of c (normal_value c (vector_in sums (length before)) flip) v)
    (corrected_by (geometric_normal c sums) (correction_of c) (before ++ v ∷ []) next rest)) ∙ (rw (ev, el) at is))

-- one more value is corrected
pub corrects-more : (c : ℤ) (sums : List Vector) (flips after : List Bool) (old new next : List Point) (e : ℕ) (flip : Bool) (d v : Point)
    → Corrects c sums flips old new e → e < length new → e < length flips → v ≡ get_or old e v → flip ≡ is_flipped c (vector_in sums e) v
    → d ≡ correction_of c (normal_value c (vector_in sums e) flip) v → IsValue c d → after ≡ set flips e flip → next ≡ set new e d
    → Corrects c sums after old next (suc e)
corrects-more c sums flips after old new next e flip d v g has more ev ef ed inside ea en =
    let there : e < length old = omega (arith, g.same, has) in
    let flagged : e < length (flips_of c sums old) = omega (arith, there, length-flips c sums old) in
    let front : take (suc e) (set new e d) ≡ take e new ++ d ∷ [] = take-suc-set new e d has in
    let before : take (suc e) old ≡ take e old ++ v ∷ [] = take-suc old e v there ∙ ap (λ (x : Point). take e old ++ x ∷ []) (sym ev) in
    let due : get_or (flips_of c sums old) e flip ≡ flip = flip-at c sums old e flip v there ev ∙ sym ef in
    let far : length (take e old) ≡ e = omega (arith, there, length-take e old) in
    rw (ea, en) (record {
      same = length-set new e d ∙ g.same;
      within = subst (All (IsValue c)) (sym front) (All-append (IsValue c) (take e new) (d ∷ []) g.within (All-cons (IsValue c) d [] inside (All-nil (IsValue c))));
      rest = drop-set-lt (suc e) new e d (omega arith) ∙ further new old e g.rest;
      chosen = take-suc-set flips e flip more ∙ ap (λ (fs : List Bool). fs ++ flip ∷ []) g.chosen
          ∙ sym (take-suc (flips_of c sums old) e flip flagged ∙ ap (λ (f : Bool). take e (flips_of c sums old) ++ f ∷ []) due);
      corrects = one-corrected c sums e (take (suc e) old) (take e old) (drop (suc e) old) (drop e old) (take e new) (take (suc e) (set new e d))
          (drop e (flips_of c sums old)) (drop (suc e) (flips_of c sums old)) flip d v (corrected_by (geometric_normal c sums) (correction_of c) [] (flips_of c sums old) old)
          far before (opened old e v there ev) (opened (flips_of c sums old) e flip flagged (sym due)) front ed g.corrects;
    })

-- the end: all are
pub chosen-all : (c : ℤ) (sums : List Vector) (flips : List Bool) (old new : List Point) (e : ℕ) → Corrects c sums flips old new e → length old ≤ e → length flips ≡ length old
    → flips ≡ flips_of c sums old
chosen-all c sums flips old new e g done same =
    sym (take_all e flips (omega (arith, done, same))) ∙ g.chosen ∙ take_all e (flips_of c sums old) (omega (arith, done, length-flips c sums old))

nothing : (c : ℤ) (sums : List Vector) (before rest made new : List Point) (left : List Bool) (r : Result (List Point) Kind) → made ≡ new → rest ≡ []
    → behind made (corrected_by (geometric_normal c sums) (correction_of c) before left rest) ≡ r → r ≡ Ok new
unfolding corrected_by
nothing c sums before rest made new left r em er is = sym (rw (em, er) at is) ∙ ap given (append-nil new)

pub corrects-all : (c : ℤ) (sums : List Vector) (flips : List Bool) (old new : List Point) (e : ℕ) → Corrects c sums flips old new e → length old ≤ e → length flips ≡ length old
    → corrected_by (geometric_normal c sums) (correction_of c) [] flips old ≡ Ok new
corrects-all c sums flips old new e g done same =
    ap (λ (fs : List Bool). corrected_by (geometric_normal c sums) (correction_of c) [] fs old) (chosen-all c sums flips old new e g done same)
    ∙ nothing c sums (take e old) (drop e old) (take e new) new (drop e (flips_of c sums old)) (corrected_by (geometric_normal c sums) (correction_of c) [] (flips_of c sums old) old)
    (take_all e new (omega (arith, done, g.same))) (drop_all e old done) g.corrects

pub corrects-within : (c : ℤ) (sums : List Vector) (flips : List Bool) (old new : List Point) (e : ℕ) → Corrects c sums flips old new e → length old ≤ e → All (IsValue c) new
corrects-within c sums flips old new e g done = subst (All (IsValue c)) (take_all e new (omega (arith, done, g.same))) g.within
