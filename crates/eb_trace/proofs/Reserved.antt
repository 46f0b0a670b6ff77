-- What is reserved for splits to come, before and after one more face.
use Rattle.std.proofs.Common.{◌≡◌, ◌≢◌, ℕ, suc, ◌<◌, ◌≤◌, Bool, true, false, ◌&&◌, cond, nat_lt, nat_le, Option, Some, None, inl, inr, sym, refl, ap, ◌∙◌, subst, arith, lt-ltb, le-ltb, le-leb}
use Rattle.std.proofs.lemmas.Bool.{cases_lt, cases_eq, cond-true, cond-false, lt-leb, cases_Bool, ltb-true}
use Rattle.corner_table.specs.declared.symbols.Symbol.{Symbol}
use Rattle.corner_table.specs.declared.symbols.Symbol.TheVariants.{C, S, L, R, E}
use Rattle.corner_table.specs.Sides.{Side, Place, first, second, third, side, Gluing}
use Rattle.corner_table.proofs.Places.{option_tells, Some_injective}
use Rattle.eb_machine.specs.Shown.{is_split}
use Rattle.eb_trace.specs.Readable.{IsReadable, IsSplit, Says}
use Rattle.eb_trace.specs.Front.{is_entry, waiting_side, reserved_for, split_met}

pub three_first : (a b c : Bool) → a ≡ false → (a && b && c) ≡ false
three_first true b c e = absurd (cc)
three_first false true true e = refl
three_first false true false e = refl
three_first false false true e = refl
three_first false false false e = refl

pub three_second : (a b c : Bool) → b ≡ false → (a && b && c) ≡ false
three_second a true c e = absurd (cc)
three_second true false true e = refl
three_second true false false e = refl
three_second false false true e = refl
three_second false false false e = refl

three_third : (a b c : Bool) → c ≡ false → (a && b && c) ≡ false
three_third a b true e = absurd (cc)
three_third true true false e = refl
three_third true false false e = refl
three_third false true false e = refl
three_third false false false e = refl

pub three_all : (a b c : Bool) → a ≡ true → b ≡ true → c ≡ true → (a && b && c) ≡ true
three_all true true true e f h = refl
three_all false b c e f h = absurd (cc)
three_all true false c e f h = absurd (cc)
three_all true true false e f h = absurd (cc)

three_parts : (a b c : Bool) → (a && b && c) ≡ true → (a ≡ true) × (b ≡ true) × (c ≡ true)
three_parts true true true e = (refl, refl, refl)
three_parts false b c e = absurd (let no : false ≡ true = sym (three_first false b c refl) ∙ e in cc)
three_parts true false c e = absurd (let no : false ≡ true = sym (three_second true false c refl) ∙ e in cc)
three_parts true true false e = absurd (let no : false ≡ true = e in cc)

-- what waits across a side
pub waiting_later : (m : ℕ) (o : Option Side) (x : Side) → o ≡ Some x → m ≤ x.face → waiting_side m o ≡ None
waiting_later m o x e h = ap (waiting_side m) e ∙ cond-false (nat_lt x.face m) _ _ (le-ltb x.face m h)

entry_first : (k : Place) → k ≡ first → is_entry k ≡ true
entry_first k e = ap is_entry e

entry_not : (k : Place) → k ≢ first → is_entry k ≡ false
entry_not first n = absurd (n refl)
entry_not second n = refl
entry_not third n = refl

either_none : (t : Bool) → cond t (let o : Option Side = None in o) None ≡ None
either_none true = refl
either_none false = refl

pub waiting_entry : (m : ℕ) (o : Option Side) (x : Side) → o ≡ Some x → x.place ≡ first → waiting_side m o ≡ None
waiting_entry m o x e h =
    ap (waiting_side m) e ∙ ap (λ (t : Bool). cond (nat_lt x.face m) (cond t None (Some x)) None) (entry_first x.place h) ∙ either_none (nat_lt x.face m)

pub waiting_here : (m : ℕ) (o : Option Side) (x : Side) → o ≡ Some x → x.face < m → x.place ≢ first → waiting_side m o ≡ Some x
waiting_here m o x e h n = ap (waiting_side m) e ∙ cond-true (nat_lt x.face m) _ _ (lt-ltb x.face m h) ∙ cond-false (is_entry x.place) _ _ (entry_not x.place n)

waiting_same : (m : ℕ) (o : Option Side) (x : Side) → o ≡ Some x → x.face ≢ m → waiting_side (suc m) o ≡ waiting_side m o
waiting_same m o x e n = ap (waiting_side (suc m)) e ∙ ap (λ (t : Bool). cond t (cond (is_entry x.place) None (Some x)) None) tests ∙ sym (ap (waiting_side m) e)
  where
    tests : nat_lt x.face (suc m) ≡ nat_lt x.face m
    tests = elim (cases_lt x.face m) [
      | inl h ↦ lt-ltb x.face (suc m) (omega arith) ∙ sym (lt-ltb x.face m h)
      | inr h ↦ le-ltb x.face (suc m) (omega arith) ∙ sym (le-ltb x.face m h)
    ]

-- one more face lets a side wait only where the side is of that face
pub waiting_more : (m : ℕ) (o : Option Side) → ((x : Side) → o ≡ Some x → x.face ≡ m → x.place ≡ first) → waiting_side (suc m) o ≡ waiting_side m o
waiting_more m o only = elim (option_tells o) [
  | inl n ↦ ap (waiting_side (suc m)) n ∙ sym (ap (waiting_side m) n)
  | inr x ↦ elim (cases_eq x.0.face m) [
    | inl e ↦ (let f = only x.0 x.1 e in waiting_entry (suc m) o x.0 x.1 f ∙ sym (waiting_entry m o x.0 x.1 f))
    | inr n ↦ waiting_same m o x.0 x.1 n
  ]
]

pub reserved_early : (n : ℕ) (g : Gluing) (word : ℕ → Symbol) (m k : ℕ) → k < m → reserved_for n g word m k ≡ None
reserved_early n g word m k h = cond-false _ _ _ (three_first (nat_le m k) (nat_lt k n) (is_split (word k)) (lt-leb m k h))

pub reserved_late : (n : ℕ) (g : Gluing) (word : ℕ → Symbol) (m k : ℕ) → n ≤ k → reserved_for n g word m k ≡ None
reserved_late n g word m k h = cond-false _ _ _ (three_second (nat_le m k) (nat_lt k n) (is_split (word k)) (le-ltb k n h))

pub reserved_unsplit : (n : ℕ) (g : Gluing) (word : ℕ → Symbol) (m k : ℕ) → is_split (word k) ≡ false → reserved_for n g word m k ≡ None
reserved_unsplit n g word m k h = cond-false _ _ _ (three_third (nat_le m k) (nat_lt k n) (is_split (word k)) h)

pub reserved_is : (n : ℕ) (g : Gluing) (word : ℕ → Symbol) (m k : ℕ) → m ≤ k → k < n → is_split (word k) ≡ true → reserved_for n g word m k ≡ waiting_side m (g (side k third))
reserved_is n g word m k h l s = cond-true _ _ _ (three_all (nat_le m k) (nat_lt k n) (is_split (word k)) (le-leb m k h) (lt-ltb k n l) s)

-- for all numbers but m's own, what is kept stays where face m brings nothing that waits
pub reserved_stays : (n : ℕ) (g : Gluing) (word : ℕ → Symbol) (m k : ℕ) → k ≢ m → ((x : Side) → g (side k third) ≡ Some x → x.face ≡ m → m < k → x.place ≡ first) → reserved_for n g word (suc m) k ≡ reserved_for n g word m k
reserved_stays n g word m k ne only = elim (cases_lt k m) [
  | inl h ↦ reserved_early n g word (suc m) k (omega arith) ∙ sym (reserved_early n g word m k h)
  | inr h ↦ elim (cases_lt k n) [
    | inr l ↦ reserved_late n g word (suc m) k l ∙ sym (reserved_late n g word m k l)
    | inl l ↦ elim (cases_Bool (is_split (word k))) [
      | inr s ↦ reserved_unsplit n g word (suc m) k s ∙ sym (reserved_unsplit n g word m k s)
      | inl s ↦ reserved_is n g word (suc m) k (omega arith) l s ∙ waiting_more m (g (side k third)) (λ x e f. only x e f (omega arith)) ∙ sym (reserved_is n g word m k h l s)
    ]
  ]
]

pub split_is : (s : Symbol) → is_split s ≡ true → s ≡ S
split_is S e = refl
split_is C e = absurd (cc)
split_is L e = absurd (cc)
split_is R e = absurd (cc)
split_is E e = absurd (cc)

-- the S that is met across a side
pub met_tells : (n : ℕ) (word : ℕ → Symbol) (i : ℕ) (o : Option Side) (j : ℕ) → split_met n word i o ≡ Some j → (y : Side) × (o ≡ Some y) × (y.face ≡ j) × (i < j) × (j < n) × (is_split (word j) ≡ true)
met_tells n word i None j e = absurd (cc)
met_tells n word i (Some y) j e = elim (cases_Bool (nat_lt i y.face && nat_lt y.face n && is_split (word y.face))) [
  | inr f ↦ absurd (let no : None ≡ Some j = sym (cond-false _ _ _ f) ∙ e in cc)
  | inl t ↦ (
      let q : y.face ≡ j = Some_injective _ _ (sym (cond-true _ _ _ t) ∙ e) in
      let p = three_parts (nat_lt i y.face) (nat_lt y.face n) (is_split (word y.face)) t in
      (y, refl, q, subst (λ (k : ℕ). i < k) q (ltb-true i y.face p.0), subst (λ (k : ℕ). k < n) q (ltb-true y.face n p.1), ap (λ (k : ℕ). is_split (word k)) (sym q) ∙ p.2))
]

pub met_is : (n : ℕ) (word : ℕ → Symbol) (i : ℕ) (o : Option Side) (y : Side) → o ≡ Some y → i < y.face → y.face < n → is_split (word y.face) ≡ true → split_met n word i o ≡ Some y.face
met_is n word i o y e h l s = ap (split_met n word i) e ∙ cond-true _ _ _ (three_all (nat_lt i y.face) (nat_lt y.face n) (is_split (word y.face)) (lt-ltb i y.face h) (lt-ltb y.face n l) s)

-- what is glued to side 1 or 2 of a face before an S is side 2 of the S
pub third_of_split : {faces : ℕ} {g : Gluing} {n : ℕ} {word : ℕ → Symbol} → IsReadable faces g n word → (i : ℕ) (k : Place) (y : Side) → k ≢ first → g (side i k) ≡ Some y → i < y.face → y.face < n → is_split (word y.face) ≡ true → y ≡ side y.face third
third_of_split {faces} {g} {n} {word} T i k y ne e h l s = go y.place refl
  where
    back : g y ≡ Some (side i k)
    back = T.gluing.paired (side i k) y e

    at : (p : Place) → y.place ≡ p → g (side y.face p) ≡ Some (side i k)
    at p q = ap (λ (r : Place). g (side y.face r)) (sym q) ∙ back

    splits : IsSplit g y.face
    splits = subst (Says g y.face) (split_is (word y.face) s) (T.symbols y.face l)

    go : (p : Place) → y.place ≡ p → y ≡ side y.face third
    go first q = absurd (let c = T.entered y.face l (side i k) (at first q) in omega arith)
    go second q = absurd (
        let r = splits.right in
        let f : side r.before first ≡ side i k = Some_injective _ _ (sym r.onto ∙ at second q) in
        ne (sym (ap (λ (x : Side). x.place) f)))
    go third q = ap (side y.face) q

pub met_third : {faces : ℕ} {g : Gluing} {n : ℕ} {word : ℕ → Symbol} → IsReadable faces g n word → (i : ℕ) (k : Place) (j : ℕ) → k ≢ first → split_met n word i (g (side i k)) ≡ Some j →
    (i < j) × (j < n) × (is_split (word j) ≡ true) × (g (side j third) ≡ Some (side i k))
met_third {faces} {g} {n} {word} T i k j ne e =
    let t = met_tells n word i (g (side i k)) j e in
    let h : i < t.0.face = subst (λ (x : ℕ). i < x) (sym t.2) t.3 in
    let l : t.0.face < n = subst (λ (x : ℕ). x < n) (sym t.2) t.4 in
    let s : is_split (word t.0.face) ≡ true = ap (λ (x : ℕ). is_split (word x)) t.2 ∙ t.5 in
    let q : t.0 ≡ side j third = third_of_split T i k t.0 ne t.1 h l s ∙ ap (λ (f : ℕ). side f third) t.2 in
    (t.3, t.4, t.5, ap g (sym q) ∙ T.gluing.paired (side i k) t.0 t.1)

pub third_met : {faces : ℕ} {g : Gluing} {n : ℕ} {word : ℕ → Symbol} → IsReadable faces g n word → (i : ℕ) (k : Place) (j : ℕ) → i < j → j < n → is_split (word j) ≡ true → g (side j third) ≡ Some (side i k) →
    split_met n word i (g (side i k)) ≡ Some j
third_met {faces} {g} {n} {word} T i k j h l s e = met_is n word i (g (side i k)) (side j third) (T.gluing.paired (side j third) (side i k) e) h l s

-- nothing waits while nothing is built
pub reserved_none_yet : (n : ℕ) (g : Gluing) (word : ℕ → Symbol) (k : ℕ) → reserved_for n g word 0 k ≡ None
reserved_none_yet n g word k = elim (cases_lt k n) [
  | inr l ↦ reserved_late n g word 0 k l
  | inl l ↦ elim (cases_Bool (is_split (word k))) [
    | inr s ↦ reserved_unsplit n g word 0 k s
    | inl s ↦ reserved_is n g word 0 k (omega arith) l s ∙ elim (option_tells (g (side k third))) [
      | inl o ↦ ap (waiting_side 0) o
      | inr x ↦ waiting_later 0 (g (side k third)) x.0 x.1 (omega arith)
    ]
  ]
]
