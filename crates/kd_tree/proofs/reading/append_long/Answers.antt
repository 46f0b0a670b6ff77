use Rattle.std.proofs.Common.{◌≡◌, ◌-◌, ◌++◌, length, ap, ◌∙◌, arith, length-append}
use Rattle.rans_binary.specs.Blocks.{first_bits}
use Rattle.rans_binary.proofs.BitNumbers.{length-first_bits}
use Rattle.kd_tree.proofs.reading.append_long.Goals as goal

pub push-requires : goal.push-requires
push-requires c =
    let bits = first_bits (c.depth.result - c.len-deep.result) c.args.rest.now in
    let long : length (c.args.path.now.items ++ bits) ≡ c.args.out.now.depth =
    length-append c.args.path.now.items bits ∙ omega (arith, length-first_bits (c.depth.result - c.len-deep.result) c.args.rest.now, c.depth.ensures, c.len-deep.ensures, c.requires) in
    ap length (c.as_slice.ensures.value ∙ c.in_ok-append_bits.ensures.bits) ∙ long
