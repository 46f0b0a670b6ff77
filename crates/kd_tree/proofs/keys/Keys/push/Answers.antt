use Rattle.kd_tree.proofs.Packed.{clean-push, table-push}
use Rattle.std.proofs.Common.{◌≡◌, ℕ, ◌+◌, ◌*◌, ◌/◌, ◌%◌, ◌^◌, ◌<◌, get_or, subst, arith, length, drop, sym, ap, ◌∙◌}
use Rattle.kd_tree.specs.Keys.{KeyRows}
use Rattle.kd_tree.specs.Packing.{front_key, words_for}
use Rattle.kd_tree.proofs.keys.Keys.push.Goals as goal

pub returns-in-Ok-clause-added : goal.returns-in-Ok-clause-added
returns-in-Ok-clause-added c =
    let depth : c.self.inside.depth ≡ length c.args.key.now = ap (λ (x : KeyRows). x.depth) c.self.view_is ∙ sym c.requires in
    table-push c.self.inside.depth c.self.inside.count c.self.inside.words.items c.append_words.new.words.items c.args.key.now c.args.self.now c.self.view_is c.self.invariant.0
    c.in-Ok.ensures.kept (ap (λ n. front_key n (drop (length c.self.inside.words.items) c.append_words.new.words.items)) depth ∙ c.in-Ok.ensures.key)

pub invariant_of-self : goal.invariant_of-self
invariant_of-self c =
    let depth : c.self.inside.depth ≡ length c.args.key.now = ap (λ (x : KeyRows). x.depth) c.self.view_is ∙ sym c.requires in
    let long : length c.append_words.new.words.items ≡ (c.self.inside.count + 1) * words_for c.self.inside.depth =
    c.in-Ok.ensures.length ∙ ap (λ n. length c.self.inside.words.items + words_for n) (sym depth) ∙ ap (λ n. n + words_for c.self.inside.depth) c.self.invariant.0
    ∙ (let e : c.self.inside.count * words_for c.self.inside.depth + words_for c.self.inside.depth ≡ (c.self.inside.count + 1) * words_for c.self.inside.depth = omega arith in e) in
    let last : get_or c.append_words.new.words.items (length c.self.inside.words.items + c.self.inside.depth / 64) 0 < 2 ^ (c.self.inside.depth % 64) =
    subst (λ (n : ℕ). get_or c.append_words.new.words.items (length c.self.inside.words.items + n / 64) 0 < 2 ^ (n % 64)) (sym depth) c.in-Ok.ensures.last in
    (long, clean-push c.self.inside.depth c.self.inside.count c.self.inside.words.items c.append_words.new.words.items c.self.invariant.0 c.in-Ok.ensures.kept c.self.invariant.1 last)
