use Rattle.std.proofs.Common.{◌≡◌, ◌≤◌, ◌+◌, ◌-◌, ◌*◌, ◌++◌, length, take, vec_len, vec_capacity}
use Rattle.std.specs.List.{flat_map}
use Rattle.seq_section.specs.Indices.{face_bytes}
use Rattle.seq_section.proofs.plain_writing.put_plain.Given as goal

abbrev pub invariant-loop-face : goal.invariant-loop-face
invariant-loop-face l = record {
  bytes : l.out.items ≡ l.fn.front.items ++ flat_map (face_bytes l.points) (take l.face-index l.faces);
  room : vec_len l.out + 12 * (length l.faces - l.face-index) ≤ vec_capacity l.out;
}
