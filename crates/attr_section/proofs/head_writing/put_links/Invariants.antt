use Rattle.std.proofs.Common.{◌≡◌, ◌++◌, take, flat_map}
use Rattle.attr_section.specs.Heads.{link_bytes}
use Rattle.attr_section.proofs.head_writing.put_links.Given as goal

abbrev pub invariant-loop-decoder : goal.invariant-loop-decoder
invariant-loop-decoder l =
    (l.out.items ≡ l.fn.out.items ++ flat_map link_bytes (take l.decoder-index l.decoders))
