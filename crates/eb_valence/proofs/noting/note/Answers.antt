-- The first symbol isn't coded; any other is, in the context of the degree that the machine has.
use Rattle.std.proofs.Common.{◌∙◌, ap, sym}
use Rattle.eb_valence.specs.Numbers.{context_of}
use Rattle.eb_valence.proofs.Noted.{noted_none, noted_one}
use Rattle.eb_valence.proofs.noting.note.Goals as goal

pub returns-then-first : goal.returns-then-first
returns-then-first g c = noted_none _ (g.R.Rebuild.state c.args.machine.now) _ (sym c.requires.first ∙ c.if-first.true)

pub returns : goal.returns
returns g c =
    noted_one _ _ (g.R.Rebuild.state c.args.machine.now) _ _ _ (sym c.requires.first ∙ c.if-first.false)
    (c.context_of_degree-context.ensures.context ∙ ap context_of c.degree.ensures) c.number_of_symbol.ensures c.in_ok-put.ensures
