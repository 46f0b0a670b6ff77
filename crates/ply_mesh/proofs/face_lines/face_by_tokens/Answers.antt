use Rattle.std.proofs.Common.{◌<◌, sym, subst, List, length, arith}
use Rattle.std.specs.Borrow.{Bor}
use Rattle.std.specs.Prelude.{ℕ, Result}
use Rattle.std.proofs.lemmas.List.{take_rest}
use Rattle.drc_base.specs.declared.faults.Fault.{Fault}
use Rattle.drc_base.specs.Refusals.{Answers}
use Rattle.ply_mesh.proofs.FaceSteps.{face_is}
use Rattle.ply_mesh.proofs.face_lines.face_by_tokens.Goals as goal

pub returns : goal.returns
returns c =
    let some : 0 < length c.args.found.now = omega arith in
    let is = face_is c.args.list c.args.points c.args.at c.args.found.now _ some in
    subst (λ (due : Result (List ℕ) Fault). Answers {A = List ℕ} {B = List ℕ} (λ face. face) due c.counted_face.result) (sym is) (rw (take_rest {X = Bor (List ℕ)}) at c.counted_face.ensures)
