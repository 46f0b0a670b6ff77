-- A table of distinct words names back: each value is what its word names, and a word that names a value is its word.
use Rattle.std.proofs.Common.{◌≡◌, ℕ, zero, suc, Bool, true, false, List, [], ◌∷◌, map, Option, Some, refl, sym, ap, ◌∙◌, subst, cond, option_map, arith}
use Rattle.std.specs.Prelude.{Contains, ◌&&◌, if◌then◌else◌}
use Rattle.std.specs.Bool.{Decides}
use Rattle.std.specs.Map.{lookup, keys_of}
use Rattle.std.specs.Str.{bytes_eq}
use Rattle.std.proofs.lemmas.Bool.{false≢true}
use Rattle.std.proofs.lemmas.Map.Views.{Contains-from_lookup}
use Rattle.std.proofs.lemmas.Slice.Eq.{bytes_eq-Decides}
use Rattle.drc_app.specs.Words.{Words, word_rows, value_named, naming}

pub Some_is : {A : Type 0} (x y : A) → ◌≡◌ {A = Option A} (Some x) (Some y) → x ≡ y
Some_is x y e = cc

pub head_is : {A : Type 0} (x y : A) (xs ys : List A) → x ∷ xs ≡ y ∷ ys → x ≡ y
head_is x y xs ys e = cc

pub tail_is : {A : Type 0} (x y : A) (xs ys : List A) → x ∷ xs ≡ y ∷ ys → xs ≡ ys
tail_is x y xs ys e = cc

both : (a b : Bool) → a && b ≡ true → (a ≡ true) × (b ≡ true)
both true b e = (refl, e)
both false b e = absurd (false≢true e)

-- what a computation over a whole list shows of each of its values
pub each-of : {A B : Type 0} (f g : A → B) (xs : List A) (x : A) → map f xs ≡ map g xs → Contains xs x → f x ≡ g x
each-of f g [] x e (k, below, is) = absurd (omega (arith, below))
each-of f g (y ∷ ys) x e (zero, below, is) = subst (λ z. f z ≡ g z) is (head_is _ _ _ _ e)
each-of f g (y ∷ ys) x e (suc k, below, is) = each-of f g ys x (tail_is _ _ _ _ e) (k, omega (arith, below), is)

-- whether no key passes the test, and whether no two keys are equal
abbrev pub passes_none : {K : Type 0} → (K → Bool) → List K → Bool
passes_none test [] = true
passes_none test (k ∷ ks) = if test k then false else passes_none test ks

abbrev pub are_distinct : {K : Type 0} → (K → K → Bool) → List K → Bool
are_distinct eq [] = true
are_distinct eq (k ∷ ks) = passes_none (eq k) ks && are_distinct eq ks

none-passes : {K A : Type 0} (test : K → Bool) (rows : List (K × A)) (k : K) (a : A) → passes_none test (keys_of rows) ≡ true → Contains rows (k, a) → test k ≡ false
none-passes test [] k a none (j, below, is) = absurd (omega (arith, below))
none-passes test (row ∷ rows) k a none (zero, below, is) = subst (λ r. test r.0 ≡ false) is (by (test row.0) none)
  where
    by : (b : Bool) → (if b then false else passes_none test (keys_of rows)) ≡ true → b ≡ false
    by true e = absurd (false≢true e)
    by false e = refl
none-passes test (row ∷ rows) k a none (suc j, below, is) = none-passes test rows k a (by (test row.0) none) (j, omega (arith, below), is)
  where
    by : (b : Bool) → (if b then false else passes_none test (keys_of rows)) ≡ true → passes_none test (keys_of rows) ≡ true
    by true e = absurd (false≢true e)
    by false e = e

-- in a table of distinct keys each value is what its key finds
pub finds_back : {K A : Type 0} (eq : K → K → Bool) (decides : (x y : K) → Decides (eq x y) (x ≡ y)) (rows : List (K × A)) (k : K) (a : A)
    → are_distinct eq (keys_of rows) ≡ true → Contains rows (k, a) → lookup (eq k) rows ≡ Some a
finds_back eq decides [] k a distinct (j, below, is) = absurd (omega (arith, below))
finds_back eq decides (row ∷ rows) k a distinct (zero, below, is) =
    ap (λ b. cond b (Some row.1) (lookup (eq k) rows)) ((decides k row.0).1 (sym (ap (λ r. r.0) is))) ∙ ap (λ r. Some r.1) is
finds_back {A = A} eq decides (row ∷ rows) k a distinct (suc j, below, is) =
    let split = both (passes_none (eq row.0) (keys_of rows)) (are_distinct eq (keys_of rows)) distinct in
    let inside : Contains rows (k, a) = (j, omega (arith, below), is) in
    let other : eq row.0 k ≡ false = none-passes (eq row.0) rows k a split.0 inside in
    behind (eq k row.0) (λ same. false≢true (sym other ∙ (decides row.0 k).1 (sym ((decides k row.0).0 same))))
    (finds_back eq decides rows k a split.1 inside)
  where
    behind : (b : Bool) → (b ≡ true → ⊥) → lookup (eq k) rows ≡ Some a → ◌≡◌ {A = Option A} (cond b (Some row.1) (lookup (eq k) rows)) (Some a)
    behind true never e = absurd (never refl)
    behind false never e = e

pub names_back : {A : Type 0} (rows : Words A) (w : List ℕ) (a : A) → are_distinct bytes_eq (keys_of rows) ≡ true → Contains rows (w, a) → value_named rows w ≡ Some a
names_back rows w a distinct is = finds_back bytes_eq bytes_eq-Decides rows w a distinct is

-- a word that names a value stands beside it
pub named_is : {A : Type 0} (rows : Words A) (w : List ℕ) (a : A) → value_named rows w ≡ Some a → Contains rows (w, a)
named_is rows w a e = Contains-from_lookup (λ x y. (bytes_eq-Decides x y).0) w a rows e

-- a word that names one of some values is its word
pub word_is : {A : Type 0} (word : A → List ℕ) (all : List A) (w : List ℕ) (x : A) → value_named (word_rows word all) w ≡ Some x → w ≡ word x
word_is {A} word all w x e = beside all (named_is (word_rows word all) w x e)
  where
    beside : (all : List A) → Contains (word_rows word all) (w, x) → w ≡ word x
    beside [] (k, below, is) = absurd (omega (arith, below))
    beside (y ∷ ys) (zero, below, is) = sym (ap (λ r. r.0) is) ∙ ap (λ r. word r.1) is
    beside (y ∷ ys) (suc k, below, is) = beside ys (k, omega (arith, below), is)

-- and is among these values
pub value_among : {A : Type 0} (word : A → List ℕ) (all : List A) (w : List ℕ) (x : A) → value_named (word_rows word all) w ≡ Some x → Contains all x
value_among {A} word all w x e = beside all (named_is (word_rows word all) w x e)
  where
    beside : (all : List A) → Contains (word_rows word all) (w, x) → Contains all x
    beside [] (k, below, is) = absurd (omega (arith, below))
    beside (y ∷ ys) (zero, below, is) = (0, omega arith, ap (λ r. r.1) is)
    beside (y ∷ ys) (suc k, below, is) =
        let r = beside ys (k, omega (arith, below), is) in
        (suc r.0, omega (arith, r.1), r.2)

-- a value among these stands beside its word
pub row_among : {A B : Type 0} (row : A → B) (all : List A) (x : A) → Contains all x → Contains (map row all) (row x)
row_among row [] x (k, below, is) = absurd (omega (arith, below))
row_among row (y ∷ ys) x (zero, below, is) = (0, omega arith, ap row is)
row_among row (y ∷ ys) x (suc k, below, is) =
    let r = row_among row ys x (k, omega (arith, below), is) in
    (suc r.0, omega (arith, r.1), r.2)

-- what a word names among the values that are made of others
pub named_naming : {A B : Type 0} (f : A → B) (rows : Words A) (w : List ℕ) → value_named (naming f rows) w ≡ option_map f (value_named rows w)
named_naming f [] w = refl
named_naming {B = B} f (row ∷ rows) w = behind (bytes_eq w row.0) (named_naming f rows w)
  where
    behind : (b : Bool) → value_named (naming f rows) w ≡ option_map f (value_named rows w)
        → ◌≡◌ {A = Option B} (cond b (Some (f row.1)) (value_named (naming f rows) w)) (option_map f (cond b (Some row.1) (value_named rows w)))
    behind true e = refl
    behind false e = e
