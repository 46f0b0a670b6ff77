-- The entries of corners by their classes.
use Rattle.std.proofs.Common.{ℕ, ◌<◌, List, [], ◌∷◌, length, map, get_or}
use Rattle.std.specs.List.{All}
use Rattle.std.proofs.lemmas.List.Elements.{All-nil, All-cons, All-head, All-tail}

-- they are below a number, where those of the classes are
pub entries_below : (n : ℕ) (labels entry_of_class : List ℕ) → All (λ (k : ℕ). k < length entry_of_class) labels → All (λ (e : ℕ). e < n) entry_of_class
    → All (λ (e : ℕ). e < n) (map (λ (k : ℕ). get_or entry_of_class k 0) labels)
entries_below n [] entry_of_class classes entries = All-nil (λ (e : ℕ). e < n)
entries_below n (k ∷ labels) entry_of_class classes entries =
    All-cons (λ (e : ℕ). e < n) (get_or entry_of_class k 0) (map (λ (k : ℕ). get_or entry_of_class k 0) labels)
    (entries k 0 (All-head (λ (k : ℕ). k < length entry_of_class) k labels classes))
    (entries_below n labels entry_of_class (All-tail (λ (k : ℕ). k < length entry_of_class) k labels classes) entries)
