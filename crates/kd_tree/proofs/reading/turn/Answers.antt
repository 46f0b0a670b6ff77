use Rattle.std.proofs.Common.{◌<◌, length, reverse, arith}
use Rattle.kd_tree.proofs.Turns.{descended-fewer, descended-turned}
use Rattle.kd_tree.proofs.reading.turn.Goals as goal

pub returns-then-len-depth-clause-turned : goal.returns-then-len-depth-clause-turned
returns-then-len-depth-clause-turned c =
    let deep : length c.args.path.now.items < c.args.out.now.depth = omega (arith, c.if-len-depth.true, c.len.ensures, c.depth.ensures) in
    descended-turned c.args.fault c.args.out.now.depth c.args.count c.args.path.now.items (reverse c.args.stack.now.items) c.args.out.now.rows c.args.split.now c.args.rest.now
    c.descend.new.split c.descend.new.path.items (reverse c.descend.new.stack.items) c.descend.result deep c.if-count-ge2.true c.requires.nested c.descend.ensures

pub returns-then-len-depth-clause-fewer : goal.returns-then-len-depth-clause-fewer
returns-then-len-depth-clause-fewer c =
    let deep : length c.args.path.now.items < c.args.out.now.depth = omega (arith, c.if-len-depth.true, c.len.ensures, c.depth.ensures) in
    descended-fewer c.args.fault c.args.out.now.depth c.args.count c.args.path.now.items (reverse c.args.stack.now.items) c.args.split.now
    c.descend.new.split c.descend.new.path.items (reverse c.descend.new.stack.items) c.descend.result deep c.descend.ensures

pub returns-clause-turned : goal.returns-clause-turned
returns-clause-turned c = c.in_ok-next.ensures.next c.args.fault c.args.split.now
