use Rattle.std.proofs.Common.{◌≡◌, ◌<◌, ◌-◌, ◌++◌}
use Rattle.arrayvec.specs.ArrayVec.{array_vec_len}
use Rattle.drc_bits.specs.Varint.{spelling}
use Rattle.drc_bits.proofs.Groups.{weight_of}
use Rattle.drc_bits.proofs.varints.put_var64.Given as goal

abbrev pub invariant-loop-left : goal.invariant-loop-left
invariant-loop-left l =
    (l.bytes.items ++ spelling (10 - array_vec_len l.bytes) l.left ≡ spelling 10 l.fn.v)
    × (l.left < weight_of (10 - array_vec_len l.bytes)) × (array_vec_len l.bytes < 10)

abbrev pub decreases-loop-left : goal.decreases-loop-left
decreases-loop-left l = l.left
