-- No entry is lost.
use Rattle.std.proofs.Common.{◌≡◌, List, ℕ, length, ap, ◌∙◌, arith}
use Rattle.std.proofs.lemmas.List.{length-set}
use Rattle.eb_rebuild.proofs.Noting.{still_events, still_room}
use Rattle.eb_rebuild.proofs.splits.Splits.take.Goals as goal

pub invariant_of-self : goal.invariant_of-self
invariant_of-self c =
    let old = c.self.inside.kept.sides in
    let more = c.take-side.new.self.sides in
    let long : length more ≡ length old = ap (λ (l : List ℕ). length l) c.take-side.ensures.sides ∙ length-set old c.args.symbol 4294967295 in
    let small = c.self.invariant.1 in
    (c.self.invariant.0, omega arith, still_events old more _ long c.self.invariant.2, still_room old more _ _ _ long c.take-side.ensures.numbers c.self.invariant.3)
