-- Digits that are copied in a piece of fixed length.
use Rattle.std.proofs.Common.{◌≡◌, ℕ, ◌+◌, ◌-◌, ◌≤◌, List, ◌++◌, length, take, drop, sym, ap, ◌∙◌, arith}
use Rattle.std.proofs.lemmas.List.{take-append-le, take-take, length-take, length-drop}
use Rattle.std.proofs.lemmas.Slice.{take-put_mid}
use Rattle.std.proofs.Math.Seq.{take-append-add, take-append_seam}
use borrow.Rule.Slice.PartMut.{put_mid}

-- the first of a piece that begins with digits
piece_begins : (piece digits ds rest : List ℕ) (r m : ℕ) → piece ≡ take m (drop r digits) → drop r digits ≡ ds ++ rest → length ds ≤ m → take (length ds) piece ≡ ds
piece_begins piece digits ds rest r m is cut le =
    ap (take (length ds)) is
    ∙ take-take (length ds) m (drop r digits) le
    ∙ ap (take (length ds)) cut
    ∙ take-append_seam ds rest

-- a piece over the bytes from `at` on
pub piece_put : (at k r m : ℕ) (buf piece digits ds rest : List ℕ) → at + m ≤ length buf → piece ≡ take m (drop r digits) → length piece ≡ m → drop r digits ≡ ds ++ rest → r + length ds ≡ m
    → take (at + (m - r)) (put_mid at k buf piece) ≡ take at buf ++ ds
piece_put at k r m buf piece digits ds rest room is long cut n =
    let within : at + length ds ≤ at + m = omega arith in
    let front : length (take at buf) ≡ at = omega (arith, length-take at buf) in
    let much : m - r ≡ length ds = omega arith in
    ap (λ j. take (at + j) (put_mid at k buf piece)) much
    ∙ sym (take-take (at + length ds) (at + m) (put_mid at k buf piece) within)
    ∙ ap (take (at + length ds)) (take-put_mid at k buf piece (at + m) (omega arith) (omega arith))
    ∙ ap (λ j. take (j + length ds) (take at buf ++ piece)) (sym front)
    ∙ take-append-add (take at buf) piece (length ds)
    ∙ ap (λ (t : List ℕ). take at buf ++ t) (piece_begins piece digits ds rest r m is cut (omega arith))

pub long_piece : (at m : ℕ) (buf : List ℕ) → at + m ≤ length buf → length (take m (drop at buf)) ≡ m
long_piece at m buf room = omega (arith, length-take m (drop at buf), length-drop at buf)
