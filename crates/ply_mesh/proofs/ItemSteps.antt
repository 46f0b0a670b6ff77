-- Items that are read line by line.
use Rattle.std.proofs.Common.{◌≡◌, ℕ, suc, ◌+◌, ◌-◌, ◌<◌, ◌≤◌, List, [], ◌∷◌, ◌++◌, length, Result, Ok, Err, refl, sym, ap, ◌∙◌, append_assoc, arith}
use Rattle.std.specs.Prelude.{ℤ}
use Rattle.std.proofs.lemmas.List.{append-nil}
use Rattle.std.proofs.lemmas.List.Concat.{flat_map-append}
use Rattle.drc_base.specs.declared.faults.Fault.{Fault}
use Rattle.drc_base.specs.declared.faults.Refusal.{Refusal}
use Rattle.drc_base.specs.declared.faults.Refusal.TheVariants as refusal
use Rattle.drc_base.specs.declared.kinds.Kind.TheVariants.{PlyShort}
use Rattle.drc_base.specs.Refusals.{Refuses}
use Rattle.drc_base.specs.Steps.{◌>>=◌}
use Rattle.mesh_model.specs.Parts.{cells_of}
use Rattle.ply_mesh.specs.Body.{items_from, Appends, AreRowsRead}

-- items in front of those that are still read
abbrev pub with_front : {A : Type 0} → List A → Result (List A × List (List (List ℕ))) Fault → Result (List A × List (List (List ℕ))) Fault
with_front {A} front read = read >>= λ (x : List A × List (List (List ℕ))). Ok (front ++ x.0, x.1)

pub begun : {A : Type 0} (read : Result (List A × List (List (List ℕ))) Fault) → with_front [] read ≡ read
begun (Ok x) = refl
begun (Err f) = refl

regroup : {A : Type 0} (front : List A) (x : A) (read : Result (List A × List (List (List ℕ))) Fault) → with_front front (read >>= λ (y : List A × List (List (List ℕ))). Ok (x ∷ y.0, y.1)) ≡ with_front (front ++ x ∷ []) read
regroup {A} front x (Ok y) = ap (λ (ys : List A). Ok (ys, y.1)) (sym (append_assoc front (x ∷ []) y.0))
regroup front x (Err f) = refl

pub item_more : {A : Type 0} (item : ℕ → List (List ℕ) → Result A Fault) (front : List A) (count i at : ℕ) (line : List (List ℕ)) (lines : List (List (List ℕ))) (x : A) → i < count → item (at + i) line ≡ Ok x
    → with_front front (items_from item (count - i) (at + i) (line ∷ lines)) ≡ with_front (front ++ x ∷ []) (items_from item (count - (i + 1)) (at + (i + 1)) lines)
item_more {A} item front count i at line lines x lt e =
    let k : count - i ≡ suc (count - (i + 1)) = omega arith in
    let n : at + i + 1 ≡ at + (i + 1) = omega arith in
    ap (λ m. with_front front (items_from item m (at + i) (line ∷ lines))) k
    ∙ ap (λ (r : Result A Fault). with_front front (r >>= λ first. items_from item (count - (i + 1)) (at + i + 1) lines >>= λ (y : List A × List (List (List ℕ))). Ok (first ∷ y.0, y.1))) e
    ∙ regroup front x (items_from item (count - (i + 1)) (at + i + 1) lines)
    ∙ ap (λ m. with_front (front ++ x ∷ []) (items_from item (count - (i + 1)) m lines)) n

pub item_short : {A : Type 0} (item : ℕ → List (List ℕ) → Result A Fault) (front : List A) (count i at : ℕ) → i < count → with_front front (items_from item (count - i) (at + i) []) ≡ Err (record { kind = PlyShort; at = at + i })
item_short item front count i at lt =
    let k : count - i ≡ suc (count - (i + 1)) = omega arith in
    ap (λ m. with_front front (items_from item m (at + i) [])) k

pub item_fault : {A : Type 0} (item : ℕ → List (List ℕ) → Result A Fault) (front : List A) (count i at : ℕ) (line : List (List ℕ)) (lines : List (List (List ℕ))) (e : Refusal) (due : Result (List A × List (List (List ℕ))) Fault) → i < count → Refuses (item (at + i) line) e
    → with_front front (items_from item (count - i) (at + i) (line ∷ lines)) ≡ due → Refuses due e
item_fault item front count i at line lines refusal.Memory due lt r h = tt
item_fault {A} item front count i at line lines (refusal.Fault f) due lt r h =
    let k : count - i ≡ suc (count - (i + 1)) = omega arith in
    sym h ∙ ap (λ m. with_front front (items_from item m (at + i) (line ∷ lines))) k
    ∙ ap (λ (r : Result A Fault). with_front front (r >>= λ first. items_from item (count - (i + 1)) (at + i + 1) lines >>= λ (y : List A × List (List (List ℕ))). Ok (first ∷ y.0, y.1))) r

-- with a line taken off, fewer are left
pub shorter : (line : List ℕ) (before after : List (List ℕ)) → before ≡ line ∷ after → length after ≤ length before
shorter line before after e = omega (arith, ap length e)

-- where the first line is refused, so are all
pub first_refused : {A : Type 0} (item : ℕ → List (List ℕ) → Result A Fault) (front : List A) (count i at : ℕ) (lines : List (List (List ℕ))) (e : Refusal) (due : Result (List A × List (List (List ℕ))) Fault) → i < count → Refuses (items_from item 1 (at + i) lines) e
    → with_front front (items_from item (count - i) (at + i) lines) ≡ due → Refuses due e
first_refused item front count i at lines refusal.Memory due lt r h = tt
first_refused item front count i at [] (refusal.Fault f) due lt r h = sym h ∙ item_short item front count i at lt ∙ r
first_refused {A} item front count i at (line ∷ lines) (refusal.Fault f) due lt r h =
    item_fault item front count i at line lines (refusal.Fault f) due lt (go (item (at + i) line) r) h where
      go : (o : Result A Fault) → ◌>>=◌ {B = List A × List (List (List ℕ))} o (λ first. Ok (first ∷ [], lines)) ≡ Err f → o ≡ Err f
      go (Ok x) r = absurd cc
      go (Err g) r = cc

pub item_last : {A : Type 0} (item : ℕ → List (List ℕ) → Result A Fault) (front : List A) (count i at : ℕ) (lines : List (List (List ℕ))) → count ≤ i → with_front front (items_from item (count - i) (at + i) lines) ≡ Ok (front, lines)
item_last {A} item front count i at lines le =
    let k : count - i ≡ 0 = omega arith in
    ap (λ m. with_front front (items_from item m (at + i) lines)) k ∙ ap (λ (ys : List A). Ok (ys, lines)) (append-nil front)

-- ---- rows in one list

pub record AreRowsSoFar (due : Result (List (List ℤ) × List (List (List ℕ))) Fault) (cells : List ℤ) (now : Result (List (List ℤ) × List (List (List ℕ))) Fault) : Type 0 where
  pub front : List (List ℤ)
  pub cells-are : cells ≡ cells_of front
  pub whole : with_front front now ≡ due

pub rows_begun : (due : Result (List (List ℤ) × List (List (List ℕ))) Fault) → AreRowsSoFar due [] due
rows_begun due = record { front = []; cells-are = refl; whole = begun due }

pub rows_more : (due : Result (List (List ℤ) × List (List (List ℕ))) Fault) (item : ℕ → List (List ℕ) → Result (List ℤ) Fault) (cells new : List ℤ) (count i at : ℕ) (line : List (List ℕ)) (lines : List (List (List ℕ))) → i < count → Appends (item (at + i) line) cells new
    → AreRowsSoFar due cells (items_from item (count - i) (at + i) (line ∷ lines)) → AreRowsSoFar due new (items_from item (count - (i + 1)) (at + (i + 1)) lines)
rows_more due item cells new count i at line lines lt a h = record {
  front = h.front ++ a.0 ∷ [];
  cells-are = a.2 ∙ ap (λ (cs : List ℤ). cs ++ a.0) h.cells-are ∙ ap (λ (cs : List ℤ). cells_of h.front ++ cs) (sym (append-nil a.0)) ∙ sym (flat_map-append (λ (row : List ℤ). row) h.front (a.0 ∷ []));
  whole = sym (item_more item h.front count i at line lines a.0 lt a.1) ∙ h.whole;
}

pub rows_last : (due : Result (List (List ℤ) × List (List (List ℕ))) Fault) (item : ℕ → List (List ℕ) → Result (List ℤ) Fault) (cells : List ℤ) (count i at : ℕ) (lines : List (List (List ℕ))) → count ≤ i → AreRowsSoFar due cells (items_from item (count - i) (at + i) lines) → AreRowsRead due cells lines
rows_last due item cells count i at lines le h = (h.front, sym h.whole ∙ item_last item h.front count i at lines le, h.cells-are)
