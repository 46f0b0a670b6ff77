-- The table of the entries of classes: what it is before the walk, what a new entry makes of it, and that it gives the order once every
-- class has an entry.
use Rattle.std.proofs.Common.{◌≡◌, ◌≢◌, ℕ, suc, ◌+◌, ◌<◌, ◌≤◌, Bool, true, false, not, ◌||◌, ◌==◌, cond, List, [], ◌∷◌, ◌++◌, length, get_or, set, map, inl, inr, sym, refl, ap, ◌∙◌, subst, arith, eqb-true, eq-eqb, ne_eqb, length-append, length-set, get_or-set_other, get_or-set_same}
use Rattle.std.specs.List.{list_any}
use Rattle.std.proofs.lemmas.Bool.{cases_Bool, cases_lt, cases_eq, lt-leb, not_from_true}
use Rattle.std.proofs.lemmas.List.{get_or_append_left, get_or-map, length-map}
use Rattle.std.proofs.Math.Seq.{get_or-append_seam}
use Rattle.std.proofs.lemmas.List.Folds.{list_any_at, list_any-append}
use Rattle.std.proofs.lemmas.List.Sums.{sum_by-set, sum_by-cons}
use Rattle.corner_table.specs.Sides.{Side, side_at}
use Rattle.corner_table.specs.Labels.{label_at}
use Rattle.walk_order.specs.Visits.{lacks, is_new}
use Rattle.walk_order.specs.Stored.{new_mark, is_mark, unused, IsEntryTable}

-- a class without an entry is no entry's
pub lacks_none : (labels : List ℕ) (entries : List Side) (k : ℕ) → lacks labels entries k ≡ true → (i : ℕ) → i < length entries → label_at labels (get_or entries i (side_at 0)) ≢ k
unfolding lacks
lacks_none labels entries k t i h e =
    let any = list_any_at (λ (x : Side). label_at labels x == k) entries i (side_at 0) h (eq-eqb (label_at labels (get_or entries i (side_at 0))) k e) in
    (let no : false ≡ true = sym (not_from_true _ any) ∙ t in absurd (let never : ⊥ = (cc) in never))

-- an entry is the one of its class
pub lacks_nothing : (labels : List ℕ) (k : ℕ) → lacks labels [] k ≡ true
unfolding lacks
lacks_nothing labels k = refl

-- a class with an entry is that of one of them
pub lacks_some : (labels : List ℕ) (entries : List Side) (k : ℕ) → lacks labels entries k ≡ false → (i : ℕ) × (i < length entries) × (label_at labels (get_or entries i (side_at 0)) ≡ k)
unfolding lacks
lacks_some labels [] k e = absurd (let no : true ≡ false = e in cc)
lacks_some labels (x ∷ xs) k e = elim (cases_Bool (label_at labels x == k)) [
  | inl t ↦ (0, omega arith, eqb-true (label_at labels x) k t)
  | inr f ↦ (let r = lacks_some labels xs k (sym (ap (λ (b : Bool). not (b || list_any (λ (y : Side). label_at labels y == k) xs)) f) ∙ e) in (suc r.0, (let l = r.1 in omega arith), r.2))
]

or_none : (b : Bool) → (b || false) ≡ b
or_none true = refl
or_none false = refl

not_or : (a b : Bool) → b ≡ false → not (a || b) ≡ not a
not_or a b e = ap (λ (x : Bool). not (a || x)) e ∙ ap not (or_none a)

not_or_right : (a b : Bool) → b ≡ true → not (a || b) ≡ false
not_or_right true b e = refl
not_or_right false b e = ap not e

-- the classes without an entry, after one more entry
lacks_last : (labels : List ℕ) (entries : List Side) (c : Side) (k : ℕ) → lacks labels (entries ++ (c ∷ [])) k ≡ not (list_any (λ (x : Side). label_at labels x == k) entries || (label_at labels c == k))
unfolding lacks
lacks_last labels entries c k =
    ap not (list_any-append (λ (x : Side). label_at labels x == k) entries (c ∷ []) ∙ ap (λ (b : Bool). list_any (λ (x : Side). label_at labels x == k) entries || b) (or_none (label_at labels c == k)))

-- others stay as they were
pub lacks_other : (labels : List ℕ) (entries : List Side) (c : Side) (k : ℕ) → label_at labels c ≢ k → lacks labels (entries ++ (c ∷ [])) k ≡ lacks labels entries k
unfolding lacks
lacks_other labels entries c k ne = lacks_last labels entries c k ∙ not_or (list_any (λ (x : Side). label_at labels x == k) entries) (label_at labels c == k) (ne_eqb (label_at labels c) k ne)

-- and the corner's own class has one
pub lacks_here : (labels : List ℕ) (entries : List Side) (c : Side) (k : ℕ) → label_at labels c ≡ k → lacks labels (entries ++ (c ∷ [])) k ≡ false
lacks_here labels entries c k e = lacks_last labels entries c k ∙ not_or_right (list_any (λ (x : Side). label_at labels x == k) entries) (label_at labels c == k) (eq-eqb (label_at labels c) k e)

-- marks are above the numbers of entries
pub mark_is : (b : Bool) → is_mark (new_mark b) ≡ true
mark_is true = refl
mark_is false = refl

pub mark_high : (b : Bool) → 4294967294 ≤ new_mark b
mark_high true = omega arith
mark_high false = omega arith

pub number_no_mark : (v : ℕ) → v < 4294967294 → is_mark v ≡ false
number_no_mark v h = lt-leb 4294967294 v h

unused_plain : (a b p q n m l : ℕ) → a + p ≡ b + q → p ≡ 1 → q ≡ 0 → b + n ≡ l → m ≡ n + 1 → a + m ≡ l
unused_plain a b p q n m l s e f t u = omega arith

unused_set : (table : List ℕ) (k v n m : ℕ) → k < length table → is_mark (get_or table k 0) ≡ true → is_mark v ≡ false → unused table + n ≡ length table → m ≡ n + 1 → unused (set table k v) + m ≡ length table
unfolding unused
unused_set table k v n m h e f t u =
    unused_plain _ _ _ _ n m _ (sum_by-set (λ (x : ℕ). cond (is_mark x) 1 0) table k v 0 h) (ap (λ (x : Bool). cond x 1 0) e) (ap (λ (x : Bool). cond x 1 0) f) t u

pub length-last : (entries : List Side) (c : Side) → length (entries ++ (c ∷ [])) ≡ length entries + 1
length-last entries c = length-append entries (c ∷ [])

pub last_is : (entries : List Side) (c : Side) (i : ℕ) → i ≡ length entries → get_or (entries ++ (c ∷ [])) i (side_at 0) ≡ c
last_is entries c i e = ap (λ (k : ℕ). get_or (entries ++ (c ∷ [])) k (side_at 0)) e ∙ get_or-append_seam entries c [] (side_at 0)

-- a new entry is the last one
pub table_more : (labels : List ℕ) (ends : List Bool) (entries : List Side) (table : List ℕ) (c : Side) → IsEntryTable labels ends entries table → label_at labels c < length table → length table < 4294967294 →
    is_new labels entries c ≡ true → IsEntryTable labels ends (entries ++ (c ∷ [])) (set table (label_at labels c) (length entries))
table_more labels ends entries table c T h few new = record { long = long; counted = counted; new = fresh; told = told; back = back }
  where
    was_mark : is_mark (get_or table (label_at labels c) 0) ≡ true
    was_mark = ap is_mark (T.new (label_at labels c) h new) ∙ mark_is _

    long : length (set table (label_at labels c) (length entries)) ≡ length ends
    long = length-set table (label_at labels c) (length entries) ∙ T.long

    few_entries : length entries < 4294967294
    few_entries = let t = T.counted in omega arith

    counted : unused (set table (label_at labels c) (length entries)) + length (entries ++ (c ∷ [])) ≡ length (set table (label_at labels c) (length entries))
    counted =
        unused_set table (label_at labels c) (length entries) (length entries) _ h was_mark (number_no_mark (length entries) few_entries) T.counted (length-last entries c)
        ∙ sym (length-set table (label_at labels c) (length entries))

    fresh : (j : ℕ) → j < length (set table (label_at labels c) (length entries)) → lacks labels (entries ++ (c ∷ [])) j ≡ true → get_or (set table (label_at labels c) (length entries)) j 0 ≡ new_mark (get_or ends j false)
    fresh j l t = elim (cases_eq j (label_at labels c)) [
      | inl e ↦ absurd (let f = lacks_here labels entries c j (sym e) in let no : true ≡ false = sym t ∙ f in cc)
      | inr ne ↦ get_or-set_other table (label_at labels c) j (length entries) 0 ne ∙ T.new j (let s = length-set table (label_at labels c) (length entries) in omega arith) (sym (lacks_other labels entries c j (λ e. ne (sym e))) ∙ t)
    ]

    told : (j : ℕ) → j < length (set table (label_at labels c) (length entries)) → lacks labels (entries ++ (c ∷ [])) j ≡ false →
        (get_or (set table (label_at labels c) (length entries)) j 0 < length (entries ++ (c ∷ []))) × (label_at labels (get_or (entries ++ (c ∷ [])) (get_or (set table (label_at labels c) (length entries)) j 0) (side_at 0)) ≡ j)
    told j l t =
        let m = length-last entries c in
        elim (cases_eq j (label_at labels c)) [
          | inl e ↦ (
              let at : get_or (set table (label_at labels c) (length entries)) j 0 ≡ length entries = ap (λ (x : ℕ). get_or (set table (label_at labels c) (length entries)) x 0) e ∙ get_or-set_same table (label_at labels c) (length entries) 0 h in
              (omega arith, ap (label_at labels) (last_is entries c _ at) ∙ sym e))
          | inr ne ↦ (
              let at : get_or (set table (label_at labels c) (length entries)) j 0 ≡ get_or table j 0 = get_or-set_other table (label_at labels c) j (length entries) 0 ne in
              let p = T.told j (let s = length-set table (label_at labels c) (length entries) in omega arith) (sym (lacks_other labels entries c j (λ e. ne (sym e))) ∙ t) in
              let low = p.0 in (
                omega arith,
                ap (λ (x : ℕ). label_at labels (get_or (entries ++ (c ∷ [])) x (side_at 0))) at
                    ∙ ap (label_at labels) (get_or_append_left entries (c ∷ []) (side_at 0) (get_or table j 0) low)
                    ∙ p.1,
              ))
        ]

    back : (i : ℕ) → i < length (entries ++ (c ∷ [])) → get_or (set table (label_at labels c) (length entries)) (label_at labels (get_or (entries ++ (c ∷ [])) i (side_at 0))) 0 ≡ i
    back i l =
        let m = length-last entries c in
        elim (cases_lt i (length entries)) [
          | inl low ↦ (
              let old : get_or (entries ++ (c ∷ [])) i (side_at 0) ≡ get_or entries i (side_at 0) = get_or_append_left entries (c ∷ []) (side_at 0) i low in
              ap (λ (x : Side). get_or (set table (label_at labels c) (length entries)) (label_at labels x) 0) old
              ∙ get_or-set_other table (label_at labels c) (label_at labels (get_or entries i (side_at 0))) (length entries) 0 (lacks_none labels entries (label_at labels c) new i low)
              ∙ T.back i low)
          | inr high ↦ (
              let at : i ≡ length entries = omega arith in
              ap (λ (x : Side). get_or (set table (label_at labels c) (length entries)) (label_at labels x) 0) (last_is entries c i at)
              ∙ get_or-set_same table (label_at labels c) (length entries) 0 h ∙ sym at)
        ]

plus_none : (n m : ℕ) → n ≡ m → n + 0 ≡ m
plus_none n m e = omega arith

one_more : (n m : ℕ) → n ≡ m → 1 + n ≡ suc m
one_more n m e = omega arith

all_unused : (xs : List Bool) → unused (map new_mark xs) ≡ length (map new_mark xs)
unfolding unused
all_unused [] = refl
all_unused (x ∷ xs) = sum_by-cons (λ (v : ℕ). cond (is_mark v) 1 0) (new_mark x) (map new_mark xs) ∙ ap (λ (b : Bool). cond b 1 0 + unused (map new_mark xs)) (mark_is x) ∙ one_more _ _ (all_unused xs)

-- before the walk no class has an entry
pub table_none : (labels : List ℕ) (ends : List Bool) (table : List ℕ) → table ≡ map new_mark ends → IsEntryTable labels ends [] table
table_none labels ends table e = subst (IsEntryTable labels ends []) (sym e) (record {
  long = length-map ends new_mark;
  counted = plus_none _ _ (all_unused ends);
  new = λ k h t. get_or-map new_mark ends k false 0 (let l = length-map ends new_mark in omega arith);
  told = λ k h t. absurd (let no : true ≡ false = sym (lacks_nothing labels k) ∙ t in cc);
  back = λ i h. absurd (let no : i < 0 = h in omega arith);
})

-- what is kept for a class shows whether it has an entry
pub kept_new : (labels : List ℕ) (ends : List Bool) (entries : List Side) (table : List ℕ) → IsEntryTable labels ends entries table → length table < 4294967294 → (k v : ℕ) → k < length table → v ≡ get_or table k 0 →
    (4294967294 ≤ v → lacks labels entries k ≡ true) × (v < 4294967294 → lacks labels entries k ≡ false)
kept_new labels ends entries table T few k v h e = (
  λ high. elim (cases_Bool (lacks labels entries k)) [
    | inl t ↦ t
    | inr f ↦ absurd (let p = (T.told k h f).0 in let q = T.counted in omega arith)
  ],
  λ low. elim (cases_Bool (lacks labels entries k)) [
    | inl t ↦ absurd (let m = T.new k h t in let a = mark_high (get_or ends k false) in omega arith)
    | inr f ↦ f
  ],
)
