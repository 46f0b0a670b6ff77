use Rattle.std.proofs.Common.{subst, sym}
use Rattle.std.specs.List.{All}
use Rattle.std.proofs.lemmas.List.Elements.{All-weaker}
use Rattle.attr_heads.specs.HeadItems.{HeadPasses}
use Rattle.eb_section.specs.Connectivity.{meaning}
use Rattle.drc_container.specs.reading.AsRead.{classes_of, attributes_read_on}
use Rattle.drc_container.proofs.lemmas.reading.Headed.{IsCoded, heads-read}
use Rattle.drc_container.proofs.lemmas.reading.Linked.{IsCut, heads-linked}
use Rattle.drc_container.proofs.lemmas.reading.Tabled.{tables-whole}
use Rattle.drc_container.proofs.reading.decoders.read_attributes_on.Goals as goal

pub read_each-requires-clause-heads : goal.read_each-requires-clause-heads
read_each-requires-clause-heads c =
    let read = heads-read _ _ c.args.c.now (c.in_ok-decoders.decoders.items, _) c.in_ok-decoders.ensures.item in
    λ k d below. All-weaker IsCoded HeadPasses (λ h is. is.passes) _ (read.each k d below).heads

pub read_each-requires-clause-seams : goal.read_each-requires-clause-seams
read_each-requires-clause-seams c =
    let linked = heads-linked _ c.args.surface.now.attr_data c.args.c.now (c.in_ok-decoders.decoders.items, _) c.in_ok-decoders.ensures.item in
    subst (λ n. All (IsCut n) c.in_ok-decoders.decoders.items) (sym c.requires.seams) linked

pub returns-clause-tables : goal.returns-clause-tables
returns-clause-tables c =
    let s = meaning c.args.surface.now in
    tables-whole c.args.profile.number s c.args.c.now _ _ c.in_ok-decoders.decoders.items (attributes_read_on (classes_of s) c.in_ok-attributes.attributes)
    c.in_ok-decoders.ensures.item c.in_ok-attributes.ensures.item c.requires.faces c.in_ok-attributes.ensures.columns
