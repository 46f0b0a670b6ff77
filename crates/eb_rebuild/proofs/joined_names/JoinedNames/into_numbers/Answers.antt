-- Where no names were joined, each is its own root.
use Rattle.std.proofs.Common.{◌≡◌, subst}
use Rattle.eb_rebuild.specs.JoinedNames.{JoinedValue, root_in}
use Rattle.eb_rebuild.proofs.Roots.{plain_roots}
use Rattle.eb_rebuild.proofs.joined_names.JoinedNames.into_numbers.Goals as goal

pub returns-else-self-clause-none : goal.returns-else-self-clause-none
returns-else-self-clause-none c x =
    subst (λ (v : JoinedValue). root_in v.up x ≡ x) c.self.view_is (plain_roots c.self.inside.up.items (c.self.invariant.1 c.if-self.false) x)
