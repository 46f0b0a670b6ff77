use Rattle.std.proofs.Common.{◌<◌, ◌^◌, length, vec_len, vec_capacity, arith}
use Rattle.std.proofs.lemmas.List.Elements.{All-from_get_or}
use Rattle.attr_section.proofs.PlainValues.{room-more, bytes-more}
use Rattle.attr_section.proofs.integer_writing.put_all.Goals as goal

pub loop-k-preserved : goal.loop-k-preserved
loop-k-preserved c =
    let has : c.loop-k.k < length c.args.symbols.now = omega arith in
    record {
      bytes = bytes-more c.args.width c.loop-k.k c.args.symbols.now c.args.front.items c.loop-k.out.items c.put_symbol.new.out.items has c.put_symbol.ensures.bytes c.loop-k.invariant.bytes;
      room = rw c.put_symbol.ensures.capacity (room-more c.args.width (length c.args.symbols.now) c.loop-k.k (vec_len c.loop-k.out) (vec_len c.put_symbol.new.out) (vec_capacity c.loop-k.out)
          has c.put_symbol.ensures.len c.loop-k.invariant.room);
    }

pub returns-clause-fit : goal.returns-clause-fit
returns-clause-fit c = All-from_get_or (λ s. s < 2 ^ 32) c.args.symbols.now 0 (λ i below. (c.type_inv.symbols i).fits)
