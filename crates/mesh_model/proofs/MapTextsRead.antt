-- What is read as a renumbering is its text.
use Rattle.std.proofs.Common.{◌≡◌, ℕ, zero, suc, ◌+◌, ◌-◌, ◌^◌, ◌<◌, ◌≤◌, Bool, true, false, ◌⊎◌, cond, ltb, leb, eqb, List, [], ◌∷◌, ◌++◌, length, drop, take, Option, Some, None, Result, Ok, Err, refl, sym, ap, ◌∙◌, subst, append_assoc, inl, inr, arith}
use Rattle.std.specs.Prelude.{All, option_map, option_and_then, nat_eq, codes}
use Rattle.std.specs.Fmt.{decimal}
use Rattle.std.specs.List.{flat_map, starts_with}
use Rattle.std.proofs.lemmas.Bool.{cases_Bool, false≢true, cond-true, cond-false, eqb-true, ltb-true, leb-true}
use Rattle.std.proofs.lemmas.Bool.Decides.{Decides-eqb}
use Rattle.std.proofs.lemmas.List.{length-append, take_at}
use Rattle.std.proofs.lemmas.List.Elements.{All-nil, All-cons}
use Rattle.std.proofs.lemmas.Slice.Eq.{bytes_eq-Decides, starts_is}
use Rattle.drc_base.specs.declared.faults.Fault.{Fault}
use Rattle.drc_base.specs.Steps.{◌>>=◌}
use Rattle.mesh_model.specs.declared.geometries.Geometry.{Geometry}
use Rattle.mesh_model.specs.declared.geometries.Geometry.TheVariants.{Mesh, Cloud}
use Rattle.mesh_model.specs.declared.map_reading.MapRead.{MapRead}
use Rattle.mesh_model.specs.MapRead.{words_then, map_head_at, map_row_at, rows_at, line_or_fault, limited, most_rows, limited_head_at, map_read}
use Rattle.mesh_model.specs.MapText.{map_words, row_line, map_text_of}
use Rattle.mesh_model.specs.MapTextLaws.{is_cloud, IsMapRow, IsMapTextOf, MapReadIsMapText}
use Rattle.mesh_model.specs.NumberText.{is_digit, digits_of, behind_digits, value_after, behind_byte, digits_then, is_spelled, number_then}
use Rattle.mesh_model.specs.Same.{Rows}
use Rattle.mesh_model.proofs.MapTextLaws.{joined}

none_some : {A : Type 0} {x : A} → ◌≡◌ {A = Option A} None (Some x) → ⊥
none_some e = cc

err_ok : {A : Type 0} {fault : Fault} {x : A} → ◌≡◌ {A = Result A Fault} (Err fault) (Ok x) → ⊥
err_ok e = cc

some_same : {A : Type 0} {x y : A} → ◌≡◌ {A = Option A} (Some x) (Some y) → x ≡ y
some_same e = cc

ok_same : {A : Type 0} {x y : A} → ◌≡◌ {A = Result A Fault} (Ok x) (Ok y) → x ≡ y
ok_same e = cc

-- steps that gave a value
map-some : {A B : Type 0} (f : A → B) (o : Option A) (y : B) → option_map f o ≡ Some y → (x : A) × (o ≡ Some x) × (f x ≡ y)
map-some f None y e = absurd (none_some e)
map-some f (Some x) y e = (x, refl, cc)

then-some : {A B : Type 0} (f : A → Option B) (o : Option A) (y : B) → option_and_then f o ≡ Some y → (x : A) × (o ≡ Some x) × (f x ≡ Some y)
then-some f None y e = absurd (none_some e)
then-some f (Some x) y e = (x, refl, e)

step-ok : {A B : Type 0} (r : Result A Fault) (f : A → Result B Fault) (y : B) → (r >>= f) ≡ Ok y → (x : A) × (r ≡ Ok x) × (f x ≡ Ok y)
step-ok (Ok x) f y e = (x, refl, e)
step-ok (Err fault) f y e = absurd (err_ok e)

line-ok : {A : Type 0} (line : ℕ) (o : Option A) (x : A) → line_or_fault line o ≡ Ok x → o ≡ Some x
line-ok line None x e = absurd (err_ok e)
line-ok line (Some y) x e = cc

-- a choice that gave a value
chosen : {A : Type 0} (b : Bool) (o : Option A) (y : A) → cond b o None ≡ Some y → (b ≡ true) × (o ≡ Some y)
chosen true o y e = (refl, e)
chosen false o y e = absurd (none_some e)

-- a byte that was read
byte-written : (c : ℕ) (text rest : List ℕ) → behind_byte c text ≡ Some rest → text ≡ c ∷ rest
byte-written c [] rest e = absurd (none_some e)
byte-written c (b ∷ bs) rest e =
    let p = chosen (eqb b c) (Some bs) rest e in
    let byte : b ≡ c = eqb-true b c p.0 in
    let same : bs ≡ rest = cc in
    rw (byte, same) refl

digits-split : (text : List ℕ) → digits_of text ++ behind_digits text ≡ text
digits-split [] = refl
digits-split (c ∷ cs) = elim (cases_Bool (is_digit c)) [
  | inl e ↦ rw e (ap (λ (t : List ℕ). c ∷ t) (digits-split cs))
  | inr e ↦ rw e refl
]

-- a number that was read
pub number-written : (c n : ℕ) (text rest : List ℕ) → number_then c text ≡ Some (n, rest) → (n < 2 ^ 32) × (text ≡ decimal n ++ c ∷ rest)
unfolding number_then digits_then
number-written c n text rest e =
    let v = value_after 0 (digits_of text) in
    let a = chosen (is_spelled text) (digits_then c 0 text) (n, rest) e in
    let b = chosen (ltb v (2 ^ 32)) (option_map (λ (behind : List ℕ). (v, behind)) (behind_byte c (behind_digits text))) (n, rest) a.1 in
    let m = map-some (λ (behind : List ℕ). (v, behind)) (behind_byte c (behind_digits text)) (n, rest) b.1 in
    let number : v ≡ n = ap (λ (p : ℕ × List ℕ). p.0) m.2 in
    let behind : m.0 ≡ rest = ap (λ (p : ℕ × List ℕ). p.1) m.2 in
    let digits : decimal n ≡ digits_of text = ap decimal (sym number) ∙ (bytes_eq-Decides (decimal v) (digits_of text)).0 a.0 in
    let after : behind_digits text ≡ c ∷ rest = byte-written c (behind_digits text) m.0 m.1 ∙ ap (λ (t : List ℕ). c ∷ t) behind in (
      subst (λ k. k < 2 ^ 32) number (ltb-true v (2 ^ 32) b.0),
      sym (digits-split text) ∙ ap (λ (t : List ℕ). t ++ behind_digits text) (sym digits) ∙ ap (λ (t : List ℕ). decimal n ++ t) after,
    )

-- a row that was read
abbrev IsRowOf : List ℕ → (ℕ × ℕ) × List ℕ → Type 0
IsRowOf text found = IsMapRow found.0 × (text ≡ row_line found.0 ++ found.1)

row-of : (face turn : ℕ) (text behind rest : List ℕ) → face < 2 ^ 32 → turn ≤ 2 → text ≡ decimal face ++ 32 ∷ behind → behind ≡ decimal turn ++ 10 ∷ rest → IsRowOf text ((face, turn), rest)
row-of face turn text behind rest small few first second = (
  (small, few),
  first ∙ ap (λ (l : List ℕ). decimal face ++ 32 ∷ l) second ∙ sym (simp append_assoc),
)

row-written : (found : (ℕ × ℕ) × List ℕ) (text : List ℕ) → map_row_at text ≡ Some found → IsRowOf text found
row-written found text e =
    let a = then-some _ (number_then 32 text) found e in
    let b = then-some _ (number_then 10 a.0.1) found a.2 in
    let t = chosen (leb b.0.0 2) (Some ((a.0.0, b.0.0), b.0.1)) found b.2 in
    let first = number-written 32 a.0.0 text a.0.1 a.1 in
    let second = number-written 10 b.0.0 a.0.1 b.0.1 b.1 in
    subst (IsRowOf text) (some_same t.1) (row-of a.0.0 b.0.0 text a.0.1 b.0.1 first.0 (leb-true b.0.0 2 t.0) first.1 second.1)

-- rows that were read
pub record AreWritten (n : ℕ) (text : List ℕ) (read : Rows × List ℕ) : Type 0 where
  pub count : length read.0 ≡ n
  pub each : All IsMapRow read.0
  pub text_is : text ≡ flat_map row_line read.0 ++ read.1

rows-written : (n line : ℕ) (text : List ℕ) (read : Rows × List ℕ) → rows_at n line text ≡ Ok read → AreWritten n text read
unfolding rows_at
rows-written zero line text read e =
    subst (AreWritten 0 text) (ok_same e) (record { count = refl; each = All-nil IsMapRow; text_is = refl })
rows-written (suc n) line text read e =
    let a = step-ok (line_or_fault line (map_row_at text)) _ read e in
    let b = step-ok (rows_at n (line + 1) a.0.1) _ read a.2 in
    let here = row-written a.0 text (line-ok line (map_row_at text) a.0 a.1) in
    let others = rows-written n (line + 1) a.0.1 b.0 b.1 in
    let is : AreWritten (suc n) text (a.0.0 ∷ b.0.0, b.0.1) = record {
      count = ap suc others.count;
      each = All-cons IsMapRow a.0.0 b.0.0 here.0 others.each;
      text_is =
          here.1
          ∙ ap (λ (t : List ℕ). row_line a.0.0 ++ t) others.text_is
          ∙ sym (append_assoc (row_line a.0.0) (flat_map row_line b.0.0) b.0.1);
    } in
    subst (AreWritten (suc n) text) (ok_same b.2) is

-- words that were read
chosen_words : (b : Bool) (x y : Bool × List ℕ) (o : Option (Bool × List ℕ)) → cond b (Some x) o ≡ Some y → ((b ≡ true) × (x ≡ y)) ⊎ (o ≡ Some y)
chosen_words true x y o e = inl (refl, cc)
chosen_words false x y o e = inr e

words-written : (g : Geometry) (text rest : List ℕ) → words_then text ≡ Some (is_cloud g, rest) → text ≡ map_words g ++ rest
unfolding words_then
words-written (Mesh m) text rest e = elim (chosen_words (starts_with nat_eq text (codes "map mesh ")) (false, drop 9 text) (false, rest) _ e) [
  | inl mesh ↦ (starts_is Decides-eqb text (codes "map mesh ") _ refl).0 mesh.0 ∙ ap (λ (x : Bool × List ℕ). codes "map mesh " ++ x.1) mesh.1
  | inr other ↦
      let cloud = chosen (starts_with nat_eq text (codes "map cloud ")) (Some (true, drop 10 text)) (false, rest) other in
      absurd (false≢true (sym (ap (λ (x : Bool × List ℕ). x.0) (some_same cloud.1))))
]
words-written (Cloud m) text rest e = elim (chosen_words (starts_with nat_eq text (codes "map mesh ")) (false, drop 9 text) (true, rest) _ e) [
  | inl mesh ↦ absurd (false≢true (ap (λ (x : Bool × List ℕ). x.0) mesh.1))
  | inr other ↦
      let cloud = chosen (starts_with nat_eq text (codes "map cloud ")) (Some (true, drop 10 text)) (true, rest) other in
      (starts_is Decides-eqb text (codes "map cloud ") _ refl).0 cloud.0 ∙ ap (λ (x : Bool × List ℕ). codes "map cloud " ++ x.1) (some_same cloud.1)
]

-- a first line that was read
limit-kept : (head found : (Bool × ℕ) × List ℕ) → limited head ≡ Ok found → (head ≡ found) × (head.0.1 ≤ most_rows head.0.0)
limit-kept head found e = elim (cases_Bool (leb head.0.1 (most_rows head.0.0))) [
  | inl few ↦ (ok_same (sym (cond-true (leb head.0.1 (most_rows head.0.0)) _ _ few) ∙ e), leb-true head.0.1 (most_rows head.0.0) few)
  | inr many ↦ absurd (err_ok (sym (cond-false (leb head.0.1 (most_rows head.0.0)) _ _ many) ∙ e))
]

-- the text of a first line and what stands behind it
pub record IsHeadOf (text : List ℕ) (head : (Bool × ℕ) × List ℕ) : Type 0 where
  pub few : head.0.1 ≤ most_rows head.0.0
  pub text_is : (g : Geometry) → is_cloud g ≡ head.0.0 → text ≡ map_words g ++ (decimal head.0.1 ++ 10 ∷ head.1)

head-written : (text : List ℕ) (head : (Bool × ℕ) × List ℕ) → limited_head_at text ≡ Ok head → IsHeadOf text head
unfolding limited_head_at
head-written text head e =
    let a = step-ok (line_or_fault 1 (map_head_at text)) limited head e in
    let few = limit-kept a.0 head a.2 in
    let w = then-some _ (words_then text) a.0 (line-ok 1 (map_head_at text) a.0 a.1) in
    let n = map-some _ (number_then 10 w.0.1) a.0 w.2 in
    let is : ((w.0.0, n.0.0), n.0.1) ≡ head = n.2 ∙ few.0 in
    let text_of : IsHeadOf text ((w.0.0, n.0.0), n.0.1) = record {
      few = subst (λ (h : (Bool × ℕ) × List ℕ). h.0.1 ≤ most_rows h.0.0) (sym n.2) few.1;
      text_is = λ g kind.
          words-written g text w.0.1 (w.1 ∙ ap (λ (b : Bool). Some (b, w.0.1)) (sym kind))
          ∙ ap (λ (t : List ℕ). map_words g ++ t) (number-written 10 n.0.0 w.0.1 n.0.1 n.1).1;
    } in
    subst (IsHeadOf text) is text_of

pub map-written : MapReadIsMapText
unfolding map_read
map-written text m e =
    let a = step-ok (limited_head_at text) _ m e in
    let r = step-ok (rows_at a.0.0.1 2 a.0.1) _ m a.2 in
    let head = head-written text a.0 a.1 in
    let lines = rows-written a.0.0.1 2 a.0.1 r.0 r.1 in
    let rows = r.0.0 in
    let read : MapRead = record { cloud = a.0.0.0; rows = record { rows = rows }; end = length text - length r.0.1 } in
    let whole : (g : Geometry) → is_cloud g ≡ a.0.0.0 → text ≡ map_text_of g rows ++ r.0.1 = λ g kind.
    head.text_is g kind
    ∙ ap (λ (k : ℕ). map_words g ++ (decimal k ++ 10 ∷ a.0.1)) (sym lines.count)
    ∙ ap (λ (t : List ℕ). map_words g ++ (decimal (length rows) ++ 10 ∷ t)) lines.text_is
    ∙ sym (joined (map_words g) (decimal (length rows)) (flat_map row_line rows) r.0.1) in
    let is : IsMapTextOf text read = record {
      few = subst (λ k. k ≤ most_rows a.0.0.0) (sym lines.count) head.few;
      each = lines.each;
      within = omega arith;
      text_is = λ g kind.
          let t : text ≡ map_text_of g rows ++ r.0.1 = whole g kind in
          let long : length (map_text_of g rows) ≡ length text - length r.0.1 = omega (arith, length-append (map_text_of g rows) r.0.1, ap length t) in
          ap (take (length text - length r.0.1)) t ∙ take_at (map_text_of g rows) r.0.1 (length text - length r.0.1) long;
    } in
    subst (IsMapTextOf text) (ok_same r.2) is
