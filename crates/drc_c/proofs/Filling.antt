-- Arrays that are filled from their front.
use Rattle.std.proofs.Common.{◌≡◌, ◌≤◌, ◌<◌, ◌+◌, ℕ, suc, List, [], ◌∷◌, ◌++◌, length, map, take, drop, get_or, set, refl, ap, ◌∙◌, sym, append_assoc, add-one, arith}
use Rattle.std.proofs.lemmas.List.{take_more, map-append, length-map, length-take-le, length-append}
use Rattle.std.proofs.Math.Seq.{set-append_seam, drop-cons}
use Rattle.attr_heads.specs.declared.heads.Head.{Head}
use Rattle.drc_c.specs.declared.heads.DrcHead.{DrcHead}
use Rattle.drc_c.specs.Arrays.{filled}
use Rattle.drc_c.specs.Heads.{head_told}

-- the item behind a front is written
set-front : {Y : Type 0} (front : List Y) (room : List Y) (k : ℕ) (y : Y) → length front ≡ k → k < length room →
    set (front ++ drop k room) k y ≡ front ++ (y ∷ drop (suc k) room)
set-front front room k y long inside =
    ap (λ t. set (front ++ t) k y) (drop-cons room k y inside)
    ∙ ap (λ (n : ℕ). set (front ++ (get_or room k y ∷ drop (suc k) room)) n y) (sym long)
    ∙ set-append_seam front (get_or room k y) (drop (suc k) room) y

-- one more head, as C has it
pub heads_more : (heads : List Head) (room : List DrcHead) (k : ℕ) (h : Head) → k < length heads → length heads ≤ length room → h ≡ get_or heads k h →
    set (map head_told (take k heads) ++ drop k room) k (head_told h) ≡ map head_told (take (k + 1) heads) ++ drop (k + 1) room
heads_more heads room k h inside fits is =
    let front = map head_told (take k heads) in
    let long : length front ≡ k = length-map (take k heads) head_told ∙ length-take-le k heads (omega arith) in
    set-front front room k (head_told h) long (omega arith)
    ∙ ap (λ (n : ℕ). front ++ (head_told h ∷ drop n room)) (sym (add-one k))
    ∙ ap (λ (g : Head). front ++ (head_told g ∷ drop (k + 1) room)) is
    ∙ sym (append_assoc front (head_told (get_or heads k h) ∷ []) (drop (k + 1) room))
    ∙ ap (λ t. t ++ drop (k + 1) room) (sym (map-append head_told (take k heads) (get_or heads k h ∷ [])))
    ∙ ap (λ t. map head_told t ++ drop (k + 1) room) (sym (take_more heads k h inside))

-- a zero behind a text
pub zero_more : (text room : List ℕ) → length text < length room → set (filled text room) (length text) 0 ≡ filled (text ++ 0 ∷ []) room
zero_more text room fits =
    let long : length (text ++ 0 ∷ []) ≡ suc (length text) = length-append text (0 ∷ []) ∙ add-one (length text) in
    set-front text room (length text) 0 refl fits
    ∙ sym (append_assoc text (0 ∷ []) (drop (suc (length text)) room))
    ∙ ap (λ (n : ℕ). (text ++ 0 ∷ []) ++ drop n room) (sym long)
