-- Entries beside numbers that rise, spread over all symbols.
use Rattle.std.proofs.Common.{◌≡◌, ◌≢◌, ℕ, zero, suc, ◌<◌, List, [], ◌∷◌, length, get_or, set, replicate, sym, refl, ap, ◌∙◌, arith, get_or-set_other, get_or-set_same}
use Rattle.std.proofs.lemmas.List.{length-set, set-get_or, set_comm, length-replicate, get_or_default}
use Rattle.std.proofs.lemmas.List.Elements.{All-get_or}
use Rattle.std.proofs.lemmas.Map.Keys.{sorted_from_strictly_increasing, below_from_sorted}
use Rattle.std.specs.List.Sorted.{IsStrictlyIncreasing}
use Rattle.corner_table.specs.Table.{free_entry}
use Rattle.corner_table.proofs.TableSteps.{get_or-replicate}
use Rattle.eb_rebuild.specs.Kept.{spread, AreBeside, Lacks}

-- each number is below all later ones
abbrev pub Rise : List ℕ → Type 0
Rise numbers = (i j : ℕ) → i < j → j < length numbers → get_or numbers i 0 < get_or numbers j 0

pub rise_of : (numbers : List ℕ) → IsStrictlyIncreasing numbers → Rise numbers
rise_of numbers h i j first second = below_from_sorted numbers i j 0 (sorted_from_strictly_increasing numbers h) first second

rise_rest : (k : ℕ) (numbers : List ℕ) → Rise (k ∷ numbers) → Rise numbers
rise_rest k numbers h i j first second = h (suc i) (suc j) (omega arith) (omega arith)

-- the first number is none of the others
first_other : (k : ℕ) (numbers : List ℕ) (i : ℕ) → Rise (k ∷ numbers) → i < length numbers → get_or numbers i 0 ≢ k
first_other k numbers i h within e = let l = h 0 (suc i) (omega arith) (omega arith) in absurd (omega arith)

pub length-spread : (n : ℕ) (numbers sides : List ℕ) → length (spread n numbers sides) ≡ n
length-spread n [] sides = length-replicate n free_entry
length-spread n (k ∷ numbers) [] = length-replicate n free_entry
length-spread n (k ∷ numbers) (x ∷ sides) = length-set (spread n numbers sides) k x ∙ length-spread n numbers sides

-- the entry of a number is that beside it
pub spread_at : (n : ℕ) (numbers sides : List ℕ) (i d : ℕ) → Rise numbers → ((j : ℕ) → j < length numbers → get_or numbers j 0 < n) → length sides ≡ length numbers → i < length numbers →
    get_or (spread n numbers sides) (get_or numbers i 0) d ≡ get_or sides i d
spread_at n [] sides i d h below long within = absurd (omega arith)
spread_at n (k ∷ numbers) [] i d h below long within = absurd (omega arith)
spread_at n (k ∷ numbers) (x ∷ sides) zero d h below long within =
    get_or-set_same (spread n numbers sides) k x d (let b = below 0 within in let l = length-spread n numbers sides in omega arith)
spread_at n (k ∷ numbers) (x ∷ sides) (suc i) d h below long within =
    get_or-set_other (spread n numbers sides) k (get_or numbers i 0) x d (first_other k numbers i h (omega arith))
    ∙ spread_at n numbers sides i d (rise_rest k numbers h) (λ j l. below (suc j) (omega arith)) (omega arith) (omega arith)

-- that of any other number is none
pub spread_lacks : (n : ℕ) (numbers sides : List ℕ) (k : ℕ) → Lacks numbers k → get_or (spread n numbers sides) k free_entry ≡ free_entry
spread_lacks n [] sides k h = get_or-replicate n free_entry k
spread_lacks n (j ∷ numbers) [] k h = get_or-replicate n free_entry k
spread_lacks n (j ∷ numbers) (x ∷ sides) k h =
    get_or-set_other (spread n numbers sides) j k x free_entry (λ e. h 0 (omega arith) (sym e))
    ∙ spread_lacks n numbers sides k (λ i l. h (suc i) (omega arith))

set_again : (xs : List ℕ) (k a b : ℕ) → set (set xs k a) k b ≡ set xs k b
set_again [] k a b = refl
set_again (x ∷ xs) zero a b = refl
set_again (x ∷ xs) (suc k) a b = ap (λ (l : List ℕ). x ∷ l) (set_again xs k a b)

-- a write beside a number is a write at the number
pub spread_set : (n : ℕ) (numbers sides : List ℕ) (i v : ℕ) → Rise numbers → length sides ≡ length numbers → i < length numbers →
    spread n numbers (set sides i v) ≡ set (spread n numbers sides) (get_or numbers i 0) v
spread_set n [] sides i v h long within = absurd (omega arith)
spread_set n (k ∷ numbers) [] i v h long within = absurd (omega arith)
spread_set n (k ∷ numbers) (x ∷ sides) zero v h long within = sym (set_again (spread n numbers sides) k x v)
spread_set n (k ∷ numbers) (x ∷ sides) (suc i) v h long within =
    ap (λ (l : List ℕ). set l k x) (spread_set n numbers sides i v (rise_rest k numbers h) (omega arith) (omega arith))
    ∙ set_comm (spread n numbers sides) (get_or numbers i 0) k v x (first_other k numbers i h (omega arith))

-- none beside each is none for each
pub spread_none : (n : ℕ) (numbers : List ℕ) → spread n numbers (replicate (length numbers) free_entry) ≡ replicate n free_entry
spread_none n [] = refl
spread_none n (k ∷ numbers) =
    ap (λ (l : List ℕ). set l k free_entry) (spread_none n numbers)
    ∙ ap (set (replicate n free_entry) k) (sym (get_or-replicate n free_entry k))
    ∙ set-get_or (replicate n free_entry) k free_entry

-- the entry at a place and that of its number, of entries that stand beside numbers
pub beside_at : {n : ℕ} {numbers sides : List ℕ} (i k d e : ℕ) → AreBeside n numbers sides → i < length numbers → get_or numbers i 0 ≡ k → get_or sides i d ≡ get_or (spread n numbers sides) k e
beside_at {n} {numbers} {sides} i k d e B within is =
    let below = λ (j : ℕ) (l : j < length numbers). All-get_or (λ (m : ℕ). m < n) numbers j 0 l B.below in
    let l = length-spread n numbers sides in
    let b = below i within in
    sym (spread_at n numbers sides i d (rise_of numbers B.rise) below B.long within)
    ∙ ap (λ (m : ℕ). get_or (spread n numbers sides) m d) is
    ∙ get_or_default (spread n numbers sides) k d e (omega arith)

pub beside_set : {n : ℕ} {numbers sides : List ℕ} (i k v : ℕ) → AreBeside n numbers sides → i < length numbers → get_or numbers i 0 ≡ k → spread n numbers (set sides i v) ≡ set (spread n numbers sides) k v
beside_set {n} {numbers} {sides} i k v B within e =
    spread_set n numbers sides i v (rise_of numbers B.rise) B.long within ∙ ap (λ (m : ℕ). set (spread n numbers sides) m v) e
