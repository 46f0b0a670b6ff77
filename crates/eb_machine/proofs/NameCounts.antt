-- How many numbers stand in a list: counted below a bound, after more of them and after one is renamed.
use Rattle.std.proofs.Common.{◌≡◌, ◌≢◌, ℕ, zero, suc, ◌+◌, ◌<◌, ◌≤◌, Bool, true, false, ◌||◌, cond, List, [], ◌∷◌, ◌++◌, length, map, inl, inr, sym, refl, ap, ◌∙◌, subst, arith, eqb-true, eq-eqb}
use Rattle.std.specs.Prelude.{nat_eq}
use Rattle.std.specs.List.{list_any}
use Rattle.std.specs.Set.{unique_keys, distinct_count}
use Rattle.std.proofs.lemmas.Bool.{cases_Bool, cases_eq, cond-true, cond-false, or_cases}
use Rattle.std.proofs.lemmas.List.Folds.{list_any-append}
use Rattle.eb_machine.specs.Named.{renamed}
use Rattle.eb_machine.proofs.NamedRules.{renamed_from, renamed_case, renamed_below}

-- a number stands in a list
abbrev pub has : List ℕ → ℕ → Bool
has ns v = list_any (nat_eq v) ns

abbrev pub AreUnder : ℕ → List ℕ → Type 0
AreUnder m [] = Unit {0}
AreUnder m (v ∷ vs) = (v < m) × AreUnder m vs

-- how many numbers below a bound pass
pub counted : (ℕ → Bool) → ℕ → ℕ
counted p zero = 0
counted p (suc m) = counted p m + cond (p m) 1 0

-- m numbers were made: d were taken away, and the others stand in the list
pub record Counted (ns : List ℕ) (m d : ℕ) : Type 0 where
  pub low : AreUnder m ns
  pub count : counted (has ns) m + d ≡ m

or_left : (t u : Bool) → t ≡ true → (t || u) ≡ true
or_left true u e = refl
or_left false u e = absurd (cc)

or_right : (t u : Bool) → u ≡ true → (t || u) ≡ true
or_right true u e = refl
or_right false u e = e

one_truth : (t u : Bool) → (t ≡ true → u ≡ true) → (u ≡ true → t ≡ true) → t ≡ u
one_truth true u f h = sym (f refl)
one_truth false true f h = h refl
one_truth false false f h = refl

never : (t : Bool) → (t ≡ true → ⊥) → t ≡ false
never true h = absurd (h refl)
never false h = refl

counted_zero : (p : ℕ → Bool) → counted p zero ≡ 0
unfolding counted
counted_zero p = refl

counted_suc : (p : ℕ → Bool) (m : ℕ) → counted p (suc m) ≡ counted p m + cond (p m) 1 0
unfolding counted
counted_suc p m = refl

counted_alike : (p q : ℕ → Bool) (m : ℕ) → ((v : ℕ) → v < m → p v ≡ q v) → counted p m ≡ counted q m
counted_alike p q zero h = counted_zero p ∙ sym (counted_zero q)
counted_alike p q (suc m) h =
    let before = counted_alike p q m (λ v l. h v (omega arith)) in
    let one : ◌≡◌ {A = ℕ} (cond (p m) 1 0) (cond (q m) 1 0) = ap (λ (t : Bool). cond t 1 0) (h m (omega arith)) in
    let a = counted_suc p m in
    let b = counted_suc q m in
    omega arith

counted_none : (p : ℕ → Bool) (m : ℕ) → ((v : ℕ) → v < m → p v ≡ false) → counted p m ≡ 0
counted_none p zero h = counted_zero p
counted_none p (suc m) h =
    let before = counted_none p m (λ v l. h v (omega arith)) in
    let one : ◌≡◌ {A = ℕ} (cond (p m) 1 0) 0 = cond-false (p m) 1 0 (h m (omega arith)) in
    let a = counted_suc p m in
    omega arith

-- all of the last e pass
counted_all : (p : ℕ → Bool) (m e : ℕ) → ((v : ℕ) → m ≤ v → v < m + e → p v ≡ true) → counted p (m + e) ≡ counted p m + e
counted_all p m zero h = let q : m + 0 ≡ m = omega arith in let r = ap (counted p) q in omega arith
counted_all p m (suc e) h =
    let before = counted_all p m e (λ v k l. h v k (omega arith)) in
    let one : ◌≡◌ {A = ℕ} (cond (p (m + e)) 1 0) 1 = cond-true (p (m + e)) 1 0 (h (m + e) (omega arith) (omega arith)) in
    let a = counted_suc p (m + e) in
    let q : m + suc e ≡ suc (m + e) = omega arith in
    let r = ap (counted p) q in
    omega arith

-- one more passes
counted_one_more : (p q : ℕ → Bool) (x m : ℕ) → x < m → p x ≡ false → q x ≡ true → ((v : ℕ) → v ≢ x → q v ≡ p v) → counted q m ≡ suc (counted p m)
counted_one_more p q x zero l f t h = absurd (omega arith)
counted_one_more p q x (suc m) l f t h =
    let a = counted_suc p m in
    let b = counted_suc q m in
    elim (cases_eq x m) [
      | inl e ↦ (
          let before = counted_alike q p m (λ v k. h v (λ w. (omega arith))) in
          let one : ◌≡◌ {A = ℕ} (cond (p m) 1 0) 0 = cond-false (p m) 1 0 (ap p (sym e) ∙ f) in
          let two : ◌≡◌ {A = ℕ} (cond (q m) 1 0) 1 = cond-true (q m) 1 0 (ap q (sym e) ∙ t) in
          omega arith)
      | inr e ↦ (
          let before = counted_one_more p q x m (omega arith) f t h in
          let one : ◌≡◌ {A = ℕ} (cond (q m) 1 0) (cond (p m) 1 0) = ap (λ (u : Bool). cond u 1 0) (h m (λ w. e (sym w))) in
          omega arith)
    ]

pub has_under : (m : ℕ) (ns : List ℕ) (v : ℕ) → AreUnder m ns → has ns v ≡ true → v < m
has_under m [] v A e = absurd (let no : false ≡ true = e in cc)
has_under m (n ∷ ns) v A e = elim (or_cases (nat_eq v n) (has ns v) e) [
  | inl q ↦ subst (λ (w : ℕ). w < m) (sym (eqb-true v n q)) A.0
  | inr q ↦ has_under m ns v A.1 q
]

-- the distinct ones of a list of numbers below a bound
pub distinct_is : (m : ℕ) (ns : List ℕ) → AreUnder m ns → distinct_count nat_eq ns ≡ counted (has ns) m
distinct_is m [] A = sym (counted_none (has []) m (λ v l. refl))
distinct_is m (n ∷ ns) A = elim (cases_Bool (has ns n)) [
  | inl t ↦ (
      ap {A = List ℕ} length (cond-true (has ns n) (unique_keys nat_eq ns) (n ∷ unique_keys nat_eq ns) t)
      ∙ distinct_is m ns A.1
      ∙ counted_alike (has ns) (has (n ∷ ns)) m
      (λ v l. one_truth (has ns v) (has (n ∷ ns) v) (or_right (nat_eq v n) (has ns v))
      (λ e. elim (or_cases (nat_eq v n) (has ns v) e) [ inl q ↦ ap (has ns) (eqb-true v n q) ∙ t | inr q ↦ q ])))
  | inr f ↦ (
      ap {A = List ℕ} length (cond-false (has ns n) (unique_keys nat_eq ns) (n ∷ unique_keys nat_eq ns) f)
      ∙ ap suc (distinct_is m ns A.1)
      ∙ sym (counted_one_more (has ns) (has (n ∷ ns)) n m A.0 f (or_left (nat_eq n n) (has ns n) (eq-eqb n n refl))
      (λ v ne. ap (λ (t : Bool). t || has ns v) (never (nat_eq v n) (λ e. ne (eqb-true v n e))))))
]

-- more numbers: those below the bound stand there, and all at or above it are new
abbrev pub AreKnown : List ℕ → ℕ → List ℕ → Type 0
AreKnown ns m [] = Unit {0}
AreKnown ns m (u ∷ us) = (u < m → has ns u ≡ true) × AreKnown ns m us

known_has : (ns : List ℕ) (m : ℕ) (us : List ℕ) (v : ℕ) → AreKnown ns m us → v < m → has us v ≡ true → has ns v ≡ true
known_has ns m [] v K l e = absurd (let no : false ≡ true = e in cc)
known_has ns m (u ∷ us) v K l e = elim (or_cases (nat_eq v u) (has us v) e) [
  | inl q ↦ (let w : v ≡ u = eqb-true v u q in ap (has ns) w ∙ K.0 (omega arith))
  | inr q ↦ known_has ns m us v K.1 l q
]

under_more : (m e : ℕ) (ns us : List ℕ) → AreUnder m ns → AreUnder (m + e) us → AreUnder (m + e) (ns ++ us)
under_more m e [] us A B = B
under_more m e (n ∷ ns) us A B = (let l = A.0 in omega arith, under_more m e ns us A.1 B)

pub more_names : (ns us : List ℕ) (m e d : ℕ) → Counted ns m d → AreUnder (m + e) us → AreKnown ns m us → ((v : ℕ) → m ≤ v → v < m + e → has us v ≡ true) → Counted (ns ++ us) (m + e) d
more_names ns us m e d W B K new = record {
  low = under_more m e ns us W.low B;
  count = (
      let all = has (ns ++ us) in
      let parts : (v : ℕ) → all v ≡ (has ns v || has us v) = λ v. list_any-append (nat_eq v) ns us in
      let more = counted_all all m e (λ v k l. parts v ∙ or_right (has ns v) (has us v) (new v k l)) in
      let old = counted_alike all (has ns) m
      (λ v l. parts v ∙ one_truth (has ns v || has us v) (has ns v) (λ q. elim (or_cases (has ns v) (has us v) q) [ inl x ↦ x | inr x ↦ known_has ns m us v K l x ]) (or_left (has ns v) (has us v))) in
      let c = W.count in
      omega arith);
}

-- n becomes p, which stands there too
under_renamed : (n p m : ℕ) (ns : List ℕ) → p < m → AreUnder m ns → AreUnder m (map (renamed n p) ns)
under_renamed n p m [] l A = tt
under_renamed n p m (v ∷ ns) l A = (renamed_below n p v m l A.0, under_renamed n p m ns l A.1)

renamed_gone : (n p : ℕ) (ns : List ℕ) → n ≢ p → has (map (renamed n p) ns) n ≡ true → ⊥
renamed_gone n p [] ne e = absurd (let no : false ≡ true = e in cc)
renamed_gone n p (v ∷ ns) ne e = elim (or_cases (nat_eq n (renamed n p v)) (has (map (renamed n p) ns) n) e) [
  | inl q ↦ (
      let w : n ≡ renamed n p v = eqb-true n (renamed n p v) q in
      elim (renamed_case n p v) [
        | inl c ↦ ne (w ∙ c.1)
        | inr c ↦ ne (w ∙ ap (renamed n p) (sym (w ∙ c)) ∙ renamed_from n p)
      ])
  | inr q ↦ renamed_gone n p ns ne q
]

pub has_renamed : (n p : ℕ) (ns : List ℕ) (v : ℕ) → has ns v ≡ true → has (map (renamed n p) ns) (renamed n p v) ≡ true
has_renamed n p [] v e = absurd (let no : false ≡ true = e in cc)
has_renamed n p (x ∷ ns) v e = elim (or_cases (nat_eq v x) (has ns v) e) [
  | inl q ↦ or_left (nat_eq (renamed n p v) (renamed n p x)) (has (map (renamed n p) ns) (renamed n p v)) (eq-eqb (renamed n p v) (renamed n p x) (ap (renamed n p) (eqb-true v x q)))
  | inr q ↦ or_right (nat_eq (renamed n p v) (renamed n p x)) (has (map (renamed n p) ns) (renamed n p v)) (has_renamed n p ns v q)
]

has_before : (n p : ℕ) (ns : List ℕ) (v : ℕ) → v ≢ p → has (map (renamed n p) ns) v ≡ true → has ns v ≡ true
has_before n p [] v ne e = e
has_before n p (x ∷ ns) v ne e = elim (or_cases (nat_eq v (renamed n p x)) (has (map (renamed n p) ns) v) e) [
  | inl q ↦ (
      let w : v ≡ renamed n p x = eqb-true v (renamed n p x) q in
      elim (renamed_case n p x) [
        | inl c ↦ absurd (ne (w ∙ c.1))
        | inr c ↦ or_left (nat_eq v x) (has ns v) (eq-eqb v x (w ∙ c))
      ])
  | inr q ↦ or_right (nat_eq v x) (has ns v) (has_before n p ns v ne q)
]

renamed_other : (n p v : ℕ) → v ≢ n → renamed n p v ≡ v
renamed_other n p v ne = elim (renamed_case n p v) [ inl c ↦ absurd (ne c.0) | inr c ↦ c ]

has_alike : (n p : ℕ) (ns : List ℕ) → has ns p ≡ true → (v : ℕ) → v ≢ n → has ns v ≡ has (map (renamed n p) ns) v
has_alike n p ns P v ne = one_truth (has ns v) (has (map (renamed n p) ns) v)
    (λ e. ap (has (map (renamed n p) ns)) (sym (renamed_other n p v ne)) ∙ has_renamed n p ns v e)
    (λ e. elim (cases_eq v p) [ inl q ↦ ap (has ns) q ∙ P | inr q ↦ has_before n p ns v q e ])

pub less_name : (ns : List ℕ) (n p m d : ℕ) → Counted ns m d → has ns n ≡ true → has ns p ≡ true → n ≢ p → Counted (map (renamed n p) ns) m (suc d)
less_name ns n p m d W N P ne = record {
  low = under_renamed n p m ns (has_under m ns p W.low P) W.low;
  count = (
      let new = has (map (renamed n p) ns) in
      let one = counted_one_more new (has ns) n m (has_under m ns n W.low N) (never (new n) (renamed_gone n p ns ne)) N (has_alike n p ns P) in
      let c = W.count in
      omega arith);
}

pub none_counted : Counted [] 0 0
none_counted = record { low = tt; count = (let z = counted_zero (has []) in omega arith) }

pub made_of : (ns : List ℕ) (m d : ℕ) → Counted ns m d → m ≡ distinct_count nat_eq ns + d
made_of ns m d W = let c = W.count in let e = distinct_is m ns W.low in omega arith
