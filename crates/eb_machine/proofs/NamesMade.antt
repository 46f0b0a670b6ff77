-- The vertices made are the names in the triangles and the S taken: rule by rule, and over whole runs.
use Rattle.std.proofs.Common.{◌≡◌, ◌≢◌, ℕ, zero, suc, ◌+◌, ◌<◌, ◌≤◌, Bool, true, false, not, ◌&&◌, ◌||◌, ◌==◌, nat_le, cond, List, [], ◌∷◌, ◌++◌, length, get_or, map, Option, Some, None, Result, Ok, Err, inl, inr, sym, refl, ap, ◌∙◌, subst, arith, eq-eqb}
use Rattle.std.specs.Prelude.{nat_eq}
use Rattle.std.specs.List.{count_by}
use Rattle.std.specs.Set.{distinct_count}
use Rattle.std.proofs.lemmas.Bool.{cases_Bool, cases_eq, cond-true, cond-false}
use Rattle.std.proofs.lemmas.List.Sums.{sum_by-cons}
use Rattle.drc_base.specs.declared.kinds.Kind.{Kind}
use Rattle.drc_base.specs.declared.kinds.Kind.TheVariants as kind
use Rattle.drc_base.specs.declared.faults.Fault.{Fault}
use Rattle.drc_base.specs.Steps.{◌>>=◌}
use Rattle.corner_table.specs.declared.symbols.Symbol.{Symbol}
use Rattle.corner_table.specs.declared.symbols.Symbol.TheVariants.{C, S, L, R, E}
use Rattle.corner_table.specs.declared.symbols.Event.{Event}
use Rattle.corner_table.specs.Sides.{Side, Place, first, second, third, side, same, next, prev, glue}
use Rattle.eb_machine.specs.Machine.{State, Plan, fault, must_be, pushed, note_events, step, close}
use Rattle.eb_machine.specs.Named.{Triangle, corner, no_triangle, Row, new_row, row_at_side, row_before, without, renamed, renamed_triangle, NamedState, named_start, row_or_gone, top_row, named_events, named_rule, named_step, named_fill, named_close_top, named_close, first_with_equal, named_finish, named_symbols, named_closes, named_rebuild}
use Rattle.eb_machine.specs.Shown.{Among, Shows, Agree, without_names, names_in, is_split}
use Rattle.eb_machine.proofs.RowLists.{found}
use Rattle.eb_machine.proofs.NamedLaw.{Stands, stands, symbols_agree, closes_agree, shows_start, named_right, named_left, tip_made, named_tip, split_made, named_split_last, named_split, fill_made}
use Rattle.eb_machine.proofs.NameCounts.{has, AreUnder, Counted, AreKnown, has_under, more_names, less_name, has_renamed, none_counted, made_of}

-- a value of which something is known, if there is one
abbrev After : {A : Type 0} → (A → Type 0) → Result A Fault → Type 0
After P (Ok x) = P x
After P (Err f) = Unit {0}

after_then : {A B : Type 0} (P : A → Type 0) (Q : B → Type 0) (r : Result A Fault) (f : A → Result B Fault) → After P r → ((x : A) → P x → After Q (f x)) → After Q (r >>= f)
after_then P Q (Ok x) f p h = h x p
after_then P Q (Err e) f p h = tt

after_any : {A B : Type 0} (Q : B → Type 0) (r : Result A Fault) (f : A → Result B Fault) → ((x : A) → After Q (f x)) → After Q (r >>= f)
after_any Q (Ok x) f h = h x
after_any Q (Err e) f h = tt

after_must : {B : Type 0} (Q : B → Type 0) (t : Bool) (k : Kind) (n : ℕ) (f : Unit {0} → Result B Fault) → (t ≡ true → After Q (f tt)) → After Q (must_be t k n >>= f)
after_must Q true k n f h = h refl
after_must Q false k n f h = tt

after_ok : {A : Type 0} (P : A → Type 0) (r : Result A Fault) (x : A) → r ≡ Ok x → After P r → P x
after_ok P r x e h = subst (After P) e h

-- the names of triangles, with one triangle more and renamed
names_more : (ts : List Triangle) (t : Triangle) → names_in (ts ++ (t ∷ [])) ≡ names_in ts ++ (t.0 ∷ t.1 ∷ t.2 ∷ [])
names_more [] t = refl
names_more (u ∷ ts) t = ap (λ (ns : List ℕ). u.0 ∷ u.1 ∷ u.2 ∷ ns) (names_more ts t)

names_renamed : (f : ℕ → ℕ) (ts : List Triangle) → names_in (map (renamed_triangle f) ts) ≡ map f (names_in ts)
names_renamed f [] = refl
names_renamed f (u ∷ ts) = ap (λ (ns : List ℕ). f u.0 ∷ f u.1 ∷ f u.2 ∷ ns) (names_renamed f ts)

-- a corner's name stands there
or_left : (t u : Bool) → t ≡ true → (t || u) ≡ true
or_left true u e = refl
or_left false u e = absurd (cc)

or_right : (t u : Bool) → u ≡ true → (t || u) ≡ true
or_right true u e = refl
or_right false u e = e

has_here : (v : ℕ) (ns : List ℕ) → has (v ∷ ns) v ≡ true
has_here v ns = or_left (nat_eq v v) (has ns v) (eq-eqb v v refl)

has_later : (v u : ℕ) (ns : List ℕ) → has ns v ≡ true → has (u ∷ ns) v ≡ true
has_later v u ns e = or_right (nat_eq v u) (has ns v) e

corner_stands : (t : Triangle) (k : Place) (ns : List ℕ) → has (t.0 ∷ t.1 ∷ t.2 ∷ ns) (corner t k) ≡ true
corner_stands t first ns = has_here t.0 (t.1 ∷ t.2 ∷ ns)
corner_stands t second ns = has_later t.1 t.0 (t.1 ∷ t.2 ∷ ns) (has_here t.1 (t.2 ∷ ns))
corner_stands t third ns = has_later t.2 t.0 (t.1 ∷ t.2 ∷ ns) (has_later t.2 t.1 (t.2 ∷ ns) (has_here t.2 ns))

stands_at : (ts : List Triangle) (i : ℕ) (k : Place) → i < length ts → has (names_in ts) (corner (get_or ts i no_triangle) k) ≡ true
stands_at [] i k l = absurd (omega arith)
stands_at (t ∷ ts) zero k l = corner_stands t k (names_in ts)
stands_at (t ∷ ts) (suc i) k l =
    let v = corner (get_or ts i no_triangle) k in
    let u : has (names_in ts) v ≡ true = stands_at ts i k (omega arith) in
    has_later v t.0 (t.1 ∷ t.2 ∷ names_in ts) (has_later v t.1 (t.2 ∷ names_in ts) (has_later v t.2 (names_in ts) u))

-- both ends of a row
abbrev IsKnownRow : List Triangle → Row → Type 0
IsKnownRow ts r = (has (names_in ts) r.from ≡ true) × (has (names_in ts) r.to ≡ true)

known_row : {x : NamedState} → Stands x → (r : Row) → Among r x.rows → IsKnownRow x.triangles r
known_row {x} W r m =
    let u = W.names.rows_are r m in
    subst (IsKnownRow x.triangles) (sym u.1) (stands_at x.triangles r.side.face (next r.side).place u.0.within, stands_at x.triangles r.side.face (prev r.side).place u.0.within)

gone_case : (i : ℕ) (P : Row → Type 0) (o : Option Row) → ((r : Row) → o ≡ Some r → P r) → After P (row_or_gone i o)
gone_case i P None h = tt
gone_case i P (Some r) h = h r refl

Some_is : {A : Type 0} (a b : A) → Some a ≡ Some b → a ≡ b
Some_is {A} a b e = let q : ◌≡◌ {A = Option A} (Some a) (Some b) = e in let r : a ≡ b = cc in r

side_row : {x : NamedState} → Stands x → (i : ℕ) (a : Side) → After (IsKnownRow x.triangles) (row_or_gone i (row_at_side a x.rows))
side_row {x} W i a = gone_case i (IsKnownRow x.triangles) (row_at_side a x.rows)
    (λ r e. elim (found (λ (q : Row). same q.side a) x.rows) [
      | inl n ↦ absurd (let no : ◌≡◌ {A = Option Row} None (Some r) = sym n.0 ∙ e in cc)
      | inr s ↦ subst (IsKnownRow x.triangles) (Some_is s.0 r (sym s.1 ∙ e)) (known_row W s.0 s.2)
    ])

top_known : {x : NamedState} → Stands x → (i : ℕ) (stack : List Side) → After (λ (a : Row × List Side). IsKnownRow x.triangles a.0) (top_row i x.rows stack)
top_known W i [] = tt
top_known {x} W i (a ∷ rest) =
    after_then (IsKnownRow x.triangles) (λ (a : Row × List Side). IsKnownRow x.triangles a.0) (row_or_gone i (row_at_side a x.rows)) (λ r. Ok (r, rest)) (side_row W i a) (λ r k. k)

before_known : {x : NamedState} → Stands x → (r : Row) → IsKnownRow x.triangles r → IsKnownRow x.triangles (row_before r x.rows)
before_known {x} W r K = elim (found (λ (q : Row). q.to == r.from) x.rows) [
  | inl n ↦ subst (IsKnownRow x.triangles) (sym (ap (λ (o : Option Row). let y : Row = elim o [ None ↦ r | Some t ↦ t ] in y) n.0)) K
  | inr s ↦ subst (IsKnownRow x.triangles) (sym (ap (λ (o : Option Row). let y : Row = elim o [ None ↦ r | Some t ↦ t ] in y) s.1)) (known_row W s.0 s.2)
]

-- the count of a state, d names of which were taken away
abbrev IsCounted : ℕ → NamedState → Type 0
IsCounted d x = Counted (names_in x.triangles) x.made d

one_more : (ts : List Triangle) (t : Triangle) (m e d : ℕ) → Counted (names_in ts) m d → AreUnder (m + e) (t.0 ∷ t.1 ∷ t.2 ∷ []) → AreKnown (names_in ts) m (t.0 ∷ t.1 ∷ t.2 ∷ []) →
    ((v : ℕ) → m ≤ v → v < m + e → has (t.0 ∷ t.1 ∷ t.2 ∷ []) v ≡ true) → Counted (names_in (ts ++ (t ∷ []))) (m + e) d
one_more ts t m e d W B K new = subst (λ (ns : List ℕ). Counted ns (m + e) d) (sym (names_more ts t)) (more_names (names_in ts) (t.0 ∷ t.1 ∷ t.2 ∷ []) m e d W B K new)

noted_counted : (n i d : ℕ) (x : NamedState) → IsCounted d x → After (IsCounted d) (named_events n i x)
noted_counted n i d x h = after_any (IsCounted d) (note_events n i x.events x.reserved) (λ noted. Ok (record x { events = noted.0; reserved = noted.1 })) (λ noted. h)

-- no new name
no_more : (ts : List Triangle) (t : Triangle) (m d : ℕ) → Counted (names_in ts) m d → has (names_in ts) t.0 ≡ true → has (names_in ts) t.1 ≡ true → has (names_in ts) t.2 ≡ true → Counted (names_in (ts ++ (t ∷ []))) m d
no_more ts t m d W a b c =
    let q : m + 0 ≡ m = omega arith in
    let x = has_under m (names_in ts) t.0 W.low a in
    let y = has_under m (names_in ts) t.1 W.low b in
    let z = has_under m (names_in ts) t.2 W.low c in
    subst (λ (k : ℕ). Counted (names_in (ts ++ (t ∷ []))) k d) q
    (one_more ts t m 0 d W (omega arith, (omega arith, (omega arith, tt))) ((λ l. a), ((λ l. b), ((λ l. c), tt))) (λ v k l. absurd (omega arith)))

is_number : (u v : ℕ) → u ≡ v → nat_eq u v ≡ true
is_number u v e = eq-eqb u v e

-- E
end_counted : (n d : ℕ) (x : NamedState) → IsCounted d x → After (IsCounted d) (named_step n E x)
unfolding named_rule
end_counted n d x W =
    let m = x.made in
    let i = length x.triangles in
    let t : Triangle = (m, m + 1, m + 2) in
    noted_counted n i d
    (record x {
      triangles = x.triangles ++ (t ∷ []);
      rows = x.rows ++ (new_row i t first ∷ new_row i t second ∷ new_row i t third ∷ []);
      stack = side i first ∷ x.stack;
      made = m + 3;
    })
    (one_more x.triangles t m 3 d W (omega arith, (omega arith, (omega arith, tt))) ((λ l. absurd (omega arith)), ((λ l. absurd (omega arith)), ((λ l. absurd (omega arith)), tt))) new)
  where
    new : (v : ℕ) → x.made ≤ v → v < x.made + 3 → has (x.made ∷ (x.made + 1) ∷ (x.made + 2) ∷ []) v ≡ true
    new v k l = elim (cases_eq v x.made) [
      | inl e ↦ or_left (nat_eq v x.made) (has ((x.made + 1) ∷ (x.made + 2) ∷ []) v) (is_number v x.made e)
      | inr e ↦ has_later v x.made ((x.made + 1) ∷ (x.made + 2) ∷ []) (elim (cases_eq v (x.made + 1)) [
        | inl q ↦ or_left (nat_eq v (x.made + 1)) (has ((x.made + 2) ∷ []) v) (is_number v (x.made + 1) q)
        | inr q ↦ has_later v (x.made + 1) ((x.made + 2) ∷ []) (or_left (nat_eq v (x.made + 2)) false (is_number v (x.made + 2) (omega arith)))
      ])
    ]

-- R and L: one new name among two that stand there
right_counted : (n d : ℕ) (x : NamedState) → Stands x → IsCounted d x → After (IsCounted d) (named_step n R x)
unfolding named_rule
right_counted n d x V W =
    after_then (λ (a : Row × List Side). IsKnownRow x.triangles a.0) (IsCounted d) (top_row (length x.triangles) x.rows x.stack) (named_right n x) (top_known V (length x.triangles) x.stack)
    (λ a K.
    let m = x.made in
    let i = length x.triangles in
    let t : Triangle = (a.0.to, a.0.from, m) in
    let p = has_under m (names_in x.triangles) a.0.from W.low K.0 in
    let q = has_under m (names_in x.triangles) a.0.to W.low K.1 in
    noted_counted n i d
    (record x {
      triangles = x.triangles ++ (t ∷ []);
      rows = without a.0.side x.rows ++ (new_row i t first ∷ new_row i t second ∷ []);
      glued = glue (side i third) a.0.side x.glued;
      stack = side i first ∷ a.1;
      made = m + 1;
    })
    (one_more x.triangles t m 1 d W (omega arith, (omega arith, (omega arith, tt))) ((λ l. K.1), ((λ l. K.0), ((λ l. absurd (omega arith)), tt)))
    (λ v k l. has_later v a.0.to (a.0.from ∷ m ∷ []) (has_later v a.0.from (m ∷ []) (or_left (nat_eq v m) false (is_number v m (omega arith)))))))

left_counted : (n d : ℕ) (x : NamedState) → Stands x → IsCounted d x → After (IsCounted d) (named_step n L x)
unfolding named_rule
left_counted n d x V W =
    after_then (λ (a : Row × List Side). IsKnownRow x.triangles a.0) (IsCounted d) (top_row (length x.triangles) x.rows x.stack) (named_left n x) (top_known V (length x.triangles) x.stack)
    (λ a K.
    let m = x.made in
    let i = length x.triangles in
    let t : Triangle = (a.0.from, m, a.0.to) in
    let p = has_under m (names_in x.triangles) a.0.from W.low K.0 in
    let q = has_under m (names_in x.triangles) a.0.to W.low K.1 in
    noted_counted n i d
    (record x {
      triangles = x.triangles ++ (t ∷ []);
      rows = without a.0.side x.rows ++ (new_row i t first ∷ new_row i t third ∷ []);
      glued = glue (side i second) a.0.side x.glued;
      stack = side i first ∷ a.1;
      made = m + 1;
    })
    (one_more x.triangles t m 1 d W (omega arith, (omega arith, (omega arith, tt))) ((λ l. K.0), ((λ l. absurd (omega arith)), ((λ l. K.1), tt)))
    (λ v k l. has_later v a.0.from (m ∷ a.0.to ∷ []) (or_left (nat_eq v m) (has (a.0.to ∷ []) v) (is_number v m (omega arith))))))

-- C: names that stand there
tip_counted : (n d : ℕ) (x : NamedState) → Stands x → IsCounted d x → After (IsCounted d) (named_step n C x)
unfolding named_rule
tip_counted n d x V W =
    after_then (λ (a : Row × List Side). IsKnownRow x.triangles a.0) (IsCounted d) (top_row (length x.triangles) x.rows x.stack) (named_tip x) (top_known V (length x.triangles) x.stack)
    (λ a K.
    let b = row_before a.0 x.rows in
    let t : Triangle = (a.0.from, b.from, a.0.to) in
    after_must (IsCounted d) (not (same b.side a.0.side)) kind.Alone (length x.triangles) (λ u. tip_made x a.0 a.1 b)
    (λ e. no_more x.triangles t x.made d W K.0 (before_known V a.0 K).0 K.1))

-- S: one name becomes another that stands there
split_counted : (n d : ℕ) (x : NamedState) → Stands x → IsCounted d x → After (IsCounted (suc d)) (named_step n S x)
unfolding named_rule
split_counted n d x V W =
    let i = length x.triangles in
    let Known : Row × List Side → Type 0 = λ a. IsKnownRow x.triangles a.0 in
    after_then Known (IsCounted (suc d)) (top_row i x.rows x.stack) (named_split x) (top_known V i x.stack)
    (λ b B. after_then Known (IsCounted (suc d)) (top_row i x.rows (pushed (x.reserved i) b.1)) (named_split_last x b.0) (top_known V i (pushed (x.reserved i) b.1))
    (λ a A. after_must (IsCounted (suc d)) (not (same a.0.side b.0.side)) kind.Gone i (λ u. must_be (not (b.0.from == a.0.to)) kind.SamePoint i >>= λ v. split_made x b.0 a.0 a.1)
    (λ e. after_must (IsCounted (suc d)) (not (b.0.from == a.0.to)) kind.SamePoint i (λ v. split_made x b.0 a.0 a.1)
    (λ q. taken b.0 a.0 B A (apart b.0.from a.0.to q)))))
  where
    apart : (n p : ℕ) → not (n == p) ≡ true → n ≢ p
    apart n p e q = absurd (let no : ◌≡◌ {A = Bool} false true = ap not (sym (eq-eqb n p q)) ∙ e in cc)

    taken : (b a : Row) → IsKnownRow x.triangles b → IsKnownRow x.triangles a → b.from ≢ a.to →
        let rename = renamed b.from a.to in let t : Triangle = (rename a.to, rename a.from, rename b.to) in
        Counted (names_in (map (renamed_triangle rename) x.triangles ++ (t ∷ []))) x.made (suc d)
    taken b a B A ne =
        let rename = renamed b.from a.to in
        let t : Triangle = (rename a.to, rename a.from, rename b.to) in
        let ts = map (renamed_triangle rename) x.triangles in
        let names : names_in ts ≡ map rename (names_in x.triangles) = names_renamed rename x.triangles in
        let less : Counted (names_in ts) x.made (suc d) = subst (λ (ns : List ℕ). Counted ns x.made (suc d)) (sym names) (less_name (names_in x.triangles) b.from a.to x.made d W B.0 A.1 ne) in
        let there : (v : ℕ) → has (names_in x.triangles) v ≡ true → has (names_in ts) (rename v) ≡ true = λ v h. ap (λ (ns : List ℕ). has ns (rename v)) names ∙ has_renamed b.from a.to (names_in x.triangles) v h in
        no_more ts t x.made (suc d) less (there a.to A.1) (there a.from A.0) (there b.to B.1)

-- one more is taken away by an S
abbrev taken : Symbol → ℕ → ℕ
taken symbol d = cond (is_split symbol) (suc d) d

step_counted : (n : ℕ) (symbol : Symbol) (d : ℕ) (x : NamedState) → Stands x → IsCounted d x → After (IsCounted (taken symbol d)) (named_step n symbol x)
step_counted n E d x V W = end_counted n d x W
step_counted n R d x V W = right_counted n d x V W
step_counted n L d x V W = left_counted n d x V W
step_counted n C d x V W = tip_counted n d x V W
step_counted n S d x V W = split_counted n d x V W

-- a close takes none away
fill_counted : (n : ℕ) (p : Plan) (d : ℕ) (x : NamedState) (a : Row) (rest : List Side) → Stands x → IsCounted d x → IsKnownRow x.triangles a → After (IsCounted d) (named_fill n p a rest x)
fill_counted n p d x a rest V W A =
    let b = row_before a x.rows in
    let c = row_before b x.rows in
    let B = before_known V a A in
    let t : Triangle = (b.from, a.to, a.from) in
    after_must (IsCounted d) (not (same b.side a.side) && not (same c.side a.side) && (c.from == a.to)) kind.Loop n
    (λ u. must_be (not (length x.triangles == p.faces)) kind.FaceCount (length x.triangles) >>= λ v. fill_made p x a b c rest)
    (λ e. after_must (IsCounted d) (not (length x.triangles == p.faces)) kind.FaceCount (length x.triangles) (λ v. fill_made p x a b c rest)
    (λ q. no_more x.triangles t x.made d W B.0 A.1 A.0))

top_closed : (n : ℕ) (p : Plan) (interior : Bool) (stack : List Side) (d : ℕ) (x : NamedState) → Stands x → IsCounted d x → After (IsCounted d) (named_close_top n p interior stack x)
top_closed n p true [] d x V W = W
top_closed n p false [] d x V W = W
top_closed n p true (a ∷ rest) d x V W =
    after_then (IsKnownRow x.triangles) (IsCounted d) (row_or_gone n (row_at_side a x.rows)) (λ r. named_fill n p r rest x) (side_row V n a) (λ r A. fill_counted n p d x r rest V W A)
top_closed n p false (a ∷ rest) d x V W = W

close_counted : (p : Plan) (interior : Bool) (d : ℕ) (x : NamedState) → Stands x → IsCounted d x → After (IsCounted d) (named_close p interior x)
unfolding named_close
close_counted p interior d x V W = top_closed (p.symbols + x.closes) p interior x.stack d x V W

-- names go on being those of the fans
after_agree : (r : Result NamedState Fault) (s : Result State Fault) → Agree Shows r s → After Stands r
after_agree (Ok x) (Ok t) h = stands h
after_agree (Ok x) (Err f) h = absurd h
after_agree (Err e) s h = tt

after_both : {A : Type 0} (P Q : A → Type 0) (r : Result A Fault) → After P r → After Q r → After (λ x. P x × Q x) r
after_both P Q (Ok x) p q = (p, q)
after_both P Q (Err e) p q = tt

shown : (x : NamedState) → Stands x → Shows x (without_names x)
shown x V = record { names = V.names; waiting = V.waiting; kept = V.kept; state = refl }

-- runs
abbrev IsReached : ℕ → NamedState → Type 0
IsReached d x = Stands x × IsCounted d x

count_more : (symbol : Symbol) (symbols : List Symbol) (d : ℕ) → taken symbol d + count_by is_split symbols ≡ d + count_by is_split (symbol ∷ symbols)
count_more symbol symbols d =
    let e = sum_by-cons (λ (s : Symbol). cond (is_split s) 1 0) symbol symbols in
    elim (cases_Bool (is_split symbol)) [
      | inl t ↦ (
          let a : ◌≡◌ {A = ℕ} (cond (is_split symbol) (suc d) d) (suc d) = cond-true (is_split symbol) (suc d) d t in
          let b : ◌≡◌ {A = ℕ} (cond (is_split symbol) 1 0) 1 = cond-true (is_split symbol) 1 0 t in
          omega arith)
      | inr f ↦ (
          let a : ◌≡◌ {A = ℕ} (cond (is_split symbol) (suc d) d) d = cond-false (is_split symbol) (suc d) d f in
          let b : ◌≡◌ {A = ℕ} (cond (is_split symbol) 1 0) 0 = cond-false (is_split symbol) 1 0 f in
          omega arith)
    ]

run_counted : (n : ℕ) (symbols : List Symbol) (d : ℕ) (x : NamedState) → IsReached d x → After (IsReached (d + count_by is_split symbols)) (named_symbols n symbols x)
unfolding named_symbols
run_counted n [] d x W = subst (λ (k : ℕ). IsReached k x) (let z : ◌≡◌ {A = ℕ} (count_by is_split []) 0 = refl in let q : d ≡ d + count_by is_split [] = omega arith in q) W
run_counted n (symbol ∷ symbols) d x W =
    after_then (IsReached (taken symbol d)) (IsReached (d + count_by is_split (symbol ∷ symbols))) (named_step n symbol x) (named_symbols n symbols)
    (after_both Stands (IsCounted (taken symbol d)) (named_step n symbol x) (after_agree (named_step n symbol x) (step n symbol (without_names x)) (symbols_agree n symbol x (without_names x) (shown x W.0))) (step_counted n symbol d x W.0 W.1))
    (λ y V. subst (λ (k : ℕ). After (IsReached k) (named_symbols n symbols y)) (count_more symbol symbols d) (run_counted n symbols (taken symbol d) y V))

closes_counted : (p : Plan) (bits : ℕ → Bool) (closed d : ℕ) (x : NamedState) → IsReached d x → After (IsReached d) (named_closes p bits closed x)
unfolding named_closes
closes_counted p bits zero d x W = W
closes_counted p bits (suc closed) d x W =
    after_then (IsReached d) (IsReached d) (named_close p (bits x.closes) x) (named_closes p bits closed)
    (after_both Stands (IsCounted d) (named_close p (bits x.closes) x) (after_agree (named_close p (bits x.closes) x) (close p (bits x.closes) (without_names x)) (closes_agree p (bits x.closes) x (without_names x) (shown x W.0))) (close_counted p (bits x.closes) d x W.0 W.1))
    (λ y V. closes_counted p bits closed d y V)

pub made_are : (p : Plan) (symbols : List Symbol) (events : List Event) (bits : ℕ → Bool) (closed : ℕ) (x : NamedState) →
    named_symbols p.symbols symbols (named_start events) >>= named_closes p bits closed ≡ Ok x →
    x.made ≡ distinct_count nat_eq (names_in x.triangles) + count_by is_split symbols
made_are p symbols events bits closed x e =
    let d = count_by is_split symbols in
    let reached : After (IsReached (0 + d)) (named_symbols p.symbols symbols (named_start events) >>= named_closes p bits closed) =
    after_then (IsReached (0 + d)) (IsReached (0 + d)) (named_symbols p.symbols symbols (named_start events)) (named_closes p bits closed)
    (run_counted p.symbols symbols 0 (named_start events) (stands (shows_start events), none_counted))
    (λ y V. closes_counted p bits closed (0 + d) y V) in
    let W = after_ok (IsReached (0 + d)) (named_symbols p.symbols symbols (named_start events) >>= named_closes p bits closed) x e reached in
    let m = made_of (names_in x.triangles) x.made (0 + d) W.1 in
    omega arith

-- the tests at the end change nothing
passed : (d : ℕ) (x : NamedState) (o : Option ℕ) → IsReached d x → After (IsReached d) (let r : Result NamedState Fault = elim o [ None ↦ Ok x | Some f ↦ Err (fault kind.Degenerate f) ] in r)
passed d x None W = W
passed d x (Some f) W = tt

finish_counted : (p : Plan) (d : ℕ) (x : NamedState) → IsReached d x → After (IsReached d) (named_finish p x)
unfolding named_finish
finish_counted p d x W =
    let last : Result NamedState Fault = elim (first_with_equal x.triangles (length x.triangles)) [ None ↦ Ok x | Some f ↦ Err (fault kind.Degenerate f) ] in
    after_must (IsReached d) (length x.triangles == p.faces) kind.FaceCount (length x.triangles) (λ u. must_be (nat_le x.made p.created) kind.VertexCount x.made >>= λ v. last)
    (λ e. after_must (IsReached d) (nat_le x.made p.created) kind.VertexCount x.made (λ v. last) (λ q. passed d x (first_with_equal x.triangles (length x.triangles)) W))

pub made_at_end : (p : Plan) (symbols : List Symbol) (events : List Event) (bits : ℕ → Bool) (x : NamedState) → named_rebuild p symbols events bits ≡ Ok x →
    x.made ≡ distinct_count nat_eq (names_in x.triangles) + count_by is_split symbols
unfolding named_rebuild
made_at_end p symbols events bits x e =
    let d = count_by is_split symbols in
    let reached : After (IsReached (0 + d)) (named_rebuild p symbols events bits) =
    after_then (IsReached (0 + d)) (IsReached (0 + d)) (named_symbols p.symbols symbols (named_start events)) (λ y. named_closes p bits (length y.stack) y >>= named_finish p)
    (run_counted p.symbols symbols 0 (named_start events) (stands (shows_start events), none_counted))
    (λ y V. after_then (IsReached (0 + d)) (IsReached (0 + d)) (named_closes p bits (length y.stack) y) (named_finish p) (closes_counted p bits (length y.stack) (0 + d) y V) (λ z U. finish_counted p (0 + d) z U)) in
    let W = after_ok (IsReached (0 + d)) (named_rebuild p symbols events bits) x e reached in
    let m = made_of (names_in x.triangles) x.made (0 + d) W.1 in
    omega arith
