-- What was noted, turned round, are the lists of the contexts.
use Rattle.std.proofs.Common.{◌≡◌, ◌∙◌, ℕ, List, [], ap, map, reverse, replicate, length}
use Rattle.corner_table.specs.declared.symbols.Event.{Event}
use Rattle.corner_table.specs.declared.symbols.Symbol.{Symbol}
use Rattle.eb_machine.specs.Machine.{State, start}
use Rattle.eb_valence.specs.declared.context_lists.TheConstants.{CONTEXTS}
use Rattle.eb_valence.specs.Contexts.{coded}
use Rattle.eb_valence.specs.Noting.{noted}
use Rattle.eb_valence.proofs.Noted.{noted_all}
use Rattle.eb_valence.proofs.noting.contexts_of.Goals as goal

from_start : (n : ℕ) (word : List Symbol) (s t : State) (none lists : List (List ℕ)) → none ≡ replicate CONTEXTS [] → s ≡ t → lists ≡ noted none (coded n word s) →
    lists ≡ noted (replicate CONTEXTS []) (coded n word t)
from_start n word s t none lists p q e = e ∙ ap (λ l. noted l (coded n word s)) p ∙ ap (λ (r : State). noted (replicate CONTEXTS []) (coded n word r)) q

pub returns-clause-lists : goal.returns-clause-lists
returns-clause-lists g c =
    c.turned_round.ensures
    ∙ ap (map reverse) (from_start (length c.args.symbols.now) (reverse c.args.symbols.now) _ (start (reverse c.args.events.now)) _ _ c.none-lists.ensures (c.in_ok-machine.ensures.state ∙ ap (λ (l : List Event). start (reverse l)) (c.in_ok-events.ensures.items_if_clones_equal (λ x y e. e))) c.in_ok-note_all.ensures.lists)
    ∙ noted_all (coded (length c.args.symbols.now) (reverse c.args.symbols.now) (start (reverse c.args.events.now)))
