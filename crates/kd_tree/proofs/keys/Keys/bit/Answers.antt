use Rattle.std.proofs.Common.{◌≡◌, ◌%◌, ap, ◌∙◌, arith}
use Rattle.kd_tree.specs.Keys.{KeyRows, bit_at}
use Rattle.kd_tree.specs.Trees.{high_bits}
use Rattle.kd_tree.proofs.Packed.{read-word, table-part, table-whole, table-word}
use Rattle.kd_tree.proofs.keys.Keys.bit.Goals as goal

pub overflow_mul-point : goal.overflow_mul-point
overflow_mul-point c = let h = table-word _ _ c.self.inside.words.items _ c.args.point c.args.depth c.words_of.result c.self.view_is c.self.invariant.0 c.words_of.ensures.words c.requires.point c.requires.depth in omega (arith, h)

pub overflow_add-point : goal.overflow_add-point
overflow_add-point c = let h = table-word _ _ c.self.inside.words.items _ c.args.point c.args.depth c.words_of.result c.self.view_is c.self.invariant.0 c.words_of.ensures.words c.requires.point c.requires.depth in omega (arith, h)

pub index-word-requires : goal.index-word-requires
index-word-requires c = let h = table-word _ _ c.self.inside.words.items _ c.args.point c.args.depth c.words_of.result c.self.view_is c.self.invariant.0 c.words_of.ensures.words c.requires.point c.requires.depth in omega (arith, h)

pub returns-then-depth-self : goal.returns-then-depth-self
returns-then-depth-self c =
    let h = table-word _ _ c.self.inside.words.items _ c.args.point c.args.depth c.words_of.result c.self.view_is c.self.invariant.0 c.words_of.ensures.words c.requires.point c.requires.depth in
    c.bit_in.ensures
    ∙ ap (λ w. bit_at (c.args.depth % 64) (high_bits 64 w)) (read-word c.self.inside.depth c.self.inside.words.items c.args.point c.args.depth c.words_of.result c.index-word.result.now c.words_of.ensures.words h c.index-word.ensures)
    ∙ table-whole _ _ _ _ c.args.point c.args.depth c.self.view_is c.requires.point c.if-depth-self.true

pub returns : goal.returns
returns c =
    let depth : c.self.inside.depth ≡ c.args.self.now.depth = ap (λ (x : KeyRows). x.depth) c.self.view_is in
    let h = table-word _ _ c.self.inside.words.items _ c.args.point c.args.depth c.words_of.result c.self.view_is c.self.invariant.0 c.words_of.ensures.words c.requires.point c.requires.depth in
    c.bit_in-2.ensures
    ∙ ap (λ w. bit_at (c.args.depth % 64) (high_bits (c.self.inside.depth % 64) w)) (read-word c.self.inside.depth c.self.inside.words.items c.args.point c.args.depth c.words_of.result c.index-word.result.now c.words_of.ensures.words h c.index-word.ensures)
    ∙ table-part _ _ _ _ c.args.point c.args.depth c.self.view_is c.requires.point (omega (arith, depth, c.requires.depth)) c.if-depth-self.false
