use Rattle.std.proofs.Common.{◌≡◌, List, ℕ, All, subst, rules}
use Rattle.drc_base.specs.declared.limits.TheConstants.{MAX_FACES}
use Rattle.eb_valence.specs.Contexts.{context_lists}
use Rattle.eb_section.specs.CodedBlocks.{IsSymbolBlock}
use Rattle.eb_section.proofs.WrittenBlocks.{short-contexts}
use Rattle.eb_section.proofs.writing_valence.put_contexts.Goals as goal

pub put_lists-requires-clause-short : goal.put_lists-requires-clause-short
put_lists-requires-clause-short c = short-contexts c.args.t.now.symbols c.args.t.now.events MAX_FACES c.in_ok-lists.lists c.requires.few (search rules)

pub returns-clause-coded : goal.returns-clause-coded
returns-clause-coded c =
    let is : c.in_ok-lists.lists ≡ context_lists c.args.t.now.symbols c.args.t.now.events = search rules in
    subst (λ (l : List (List ℕ)). All IsSymbolBlock l) is c.in_ok-put_lists.ensures.coded
