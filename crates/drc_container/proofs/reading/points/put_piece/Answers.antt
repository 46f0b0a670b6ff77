-- Values that are pushed one after another stand behind those before.
use Rattle.std.proofs.Common.{rules, ◌≡◌, ◌++◌, ◌∷◌, [], ℤ, pos, List, length, take, drop, get_or, ap, ◌∙◌, arith, append_assoc}
use Rattle.drc_container.proofs.reading.points.put_piece.Goals as goal

two_pushed : (xs ys zs part : List ℤ) → length part ≡ 2 → ys ≡ xs ++ get_or part 0 (pos 0) ∷ [] → zs ≡ ys ++ get_or part 1 (pos 0) ∷ [] → zs ≡ xs ++ part
two_pushed xs ys zs [] two first second = absurd (omega arith)
two_pushed xs ys zs (a ∷ []) two first second = absurd (omega arith)
two_pushed xs ys zs (a ∷ b ∷ []) two first second = second ∙ ap (λ (l : List ℤ). l ++ b ∷ []) first ∙ append_assoc xs (a ∷ []) (b ∷ [])
two_pushed xs ys zs (a ∷ b ∷ c ∷ part) two first second = absurd (omega arith)

three_pushed : (ws xs ys zs part : List ℤ) → length part ≡ 3 → xs ≡ ws ++ get_or part 0 (pos 0) ∷ [] → ys ≡ xs ++ get_or part 1 (pos 0) ∷ [] → zs ≡ ys ++ get_or part 2 (pos 0) ∷ [] → zs ≡ ws ++ part
three_pushed ws xs ys zs [] three first second third = absurd (omega arith)
three_pushed ws xs ys zs (a ∷ part) three first second third =
    two_pushed xs ys zs part (omega arith) second third ∙ ap (λ (l : List ℤ). l ++ part) first ∙ append_assoc ws (a ∷ []) part

pub returns-in_ok-push-in-len2-2 : goal.returns-in_ok-push-in-len2-2
returns-in_ok-push-in-len2-2 c =
    two_pushed c.args.cells.now.items c.push-in-len2.new.self.items c.push-in-len2-2.new.self.items (take c.args.comps (drop c.args.start c.args.column.now))
    (search rules) (search rules) (search rules)

pub returns-in_ok-push-in-len3-3 : goal.returns-in_ok-push-in-len3-3
returns-in_ok-push-in-len3-3 c =
    three_pushed c.args.cells.now.items c.push-in-len3.new.self.items c.push-in-len3-2.new.self.items c.push-in-len3-3.new.self.items (take c.args.comps (drop c.args.start c.args.column.now))
    (search rules) (search rules) (search rules) (search rules)
