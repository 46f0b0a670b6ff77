-- No more bits are left than there were.
use Rattle.std.proofs.Common.{◌≤◌, ◌*◌, length, arith}
use Rattle.std.proofs.lemmas.List.{length-drop}
use Rattle.drc_bits.specs.Bits.{BitPlace, bits_left, bits_of}
use Rattle.drc_bits.proofs.BitLists.{length-bits_of}
use Rattle.eb_section.proofs.sources.BitSourceSymbolSource.most.Goals as goal

left_within : (p : BitPlace) → length (bits_left p) ≤ 8 * length p.bytes
left_within p = let d = length-drop p.taken (bits_of p.bytes) in let l = length-bits_of p.bytes in omega arith

pub returns-clause-enough : goal.returns-clause-enough
returns-clause-enough c = left_within c.args.self.now.place.place
