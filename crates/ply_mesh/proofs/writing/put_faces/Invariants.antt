use Rattle.std.proofs.Common.{◌++◌, ◌≤◌, take, drop}
use Rattle.ply_mesh.specs.Text.{text_of, face_lines}
use Rattle.ply_mesh.specs.Printing.{AppendsAllBut}
use Rattle.ply_mesh.specs.declared.writing.TheConstants.{PIECE_BYTES}
use Rattle.ply_mesh.proofs.writing.put_faces.Given as goal

-- all was appended but what the chunk holds and what is still to be put
abbrev pub invariant-loop-f : goal.invariant-loop-f
invariant-loop-f g l =
    let sink = g.O.Sink in
    AppendsAllBut (sink.held l.fn.out) (sink.held l.out) (take l.before l.fn.chunk ++ text_of (face_lines l.mesh.faces)) (take l.held l.chunk ++ text_of (face_lines (drop l.f l.mesh.faces)))
    × (l.held ≤ PIECE_BYTES)
    × (sink.faults l.fn.out ≤ sink.faults l.out)
