use Rattle.std.proofs.Common.{◌≡◌, ◌++◌, length, sym, ap, ◌∙◌, arith}
use Rattle.std.proofs.lemmas.List.{append-nil, drop_all}
use Rattle.kd_tree.specs.Keys.{key_at}
use Rattle.kd_tree.proofs.Packed.{count-is, key-length, rest-step}
use Rattle.kd_tree.proofs.Orders.{word-rest, word-there}
use Rattle.kd_tree.proofs.keys.Keys.append_rest.Goals as goal

pub loop-d-preserved : goal.loop-d-preserved
loop-d-preserved c =
    let long : length (key_at c.args.self.now.rows c.args.point) ≡ c.self.inside.depth = key-length _ _ _ _ c.args.point c.self.view_is c.requires.point in
    rest-step (key_at c.args.self.now.rows c.args.point) c.loop-d.out.items c.push.new.self.items _ c.loop-d.d c.bit.result (omega (arith, long)) c.bit.ensures c.in_ok-push.ensures.items c.loop-d.invariant

pub returns : goal.returns
returns c =
    let long : length (key_at c.args.self.now.rows c.args.point) ≡ c.self.inside.depth = key-length _ _ _ _ c.args.point c.self.view_is c.requires.point in
    sym (append-nil c.loop-d.out.items) ∙ ap (λ xs. c.loop-d.out.items ++ xs) (sym (drop_all c.loop-d.d (key_at c.args.self.now.rows c.args.point) (omega (arith, long)))) ∙ c.loop-d.invariant

pub index-requires : goal.index-requires
index-requires c =
    let count = count-is _ _ _ _ c.self.view_is in
    let h = word-there c.self.inside.depth c.self.inside.count c.args.point (length c.self.inside.words.items) c.if-self-lt64.true c.self.invariant.0 (omega (arith, count, c.requires.point)) in
    omega (arith, h)

pub returns-then-self-lt64 : goal.returns-then-self-lt64
returns-then-self-lt64 c =
    c.in_ok-append_number.ensures
    ∙ ap (λ xs. c.args.out.now.items ++ xs) (word-rest c.self.inside.depth c.self.inside.count c.self.inside.words.items c.args.self.now c.args.point c.args.depth c.index.result.now
    c.self.view_is c.if-self-lt64.true c.self.invariant.0 c.requires.point c.index.ensures)
