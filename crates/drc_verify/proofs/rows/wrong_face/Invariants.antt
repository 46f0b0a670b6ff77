use Rattle.std.proofs.Common.{◌≡◌, ℕ, ◌<◌, length, true}
use Rattle.drc_verify.specs.RowTests.{AreSeen, face_is_right}
use Rattle.drc_verify.proofs.rows.wrong_face.Given as goal

-- all rows so far are right, and what they name is marked
abbrev pub invariant-loop-i : goal.invariant-loop-i
invariant-loop-i l = record {
  marks : length l.seen.items ≡ length l.m.faces;
  marked : AreSeen l.rows l.i l.seen.items;
  right : (k : ℕ) → k < l.i → face_is_right l.m l.n l.rows k ≡ true;
}
