use Rattle.drc_base.specs.Profile.{profile_numbered}
use Rattle.std.proofs.Common.{List, get_or, sym, ◌∙◌, ap, subst}
use Rattle.std.specs.Prelude.{IfOk, IfSome}
use Rattle.drc_bits.specs.Reading.{Gives}
use Rattle.corner_table.specs.Ordered.{Ordered}
use Rattle.corner_table.specs.Table.{Table, gluing_of}
use Rattle.rans_binary.specs.Blocks.{Block}
use Rattle.eb_section.specs.Connectivity.{meaning}
use Rattle.attr_section.specs.TablePositions.{read_in}
use Rattle.drc_container.specs.reading.OnSurface.{no_block, decoder_on}
use Rattle.drc_container.specs.reading.AsRead.{classes_of, decoder_read_on}
use Rattle.drc_container.specs.surface.CutSurfaces.{IsCutFrom}
use Rattle.drc_container.proofs.lemmas.reading.DecodersOnSurface.{ordered-seams}
use Rattle.drc_container.proofs.reading.decoders.read_on_its_surface.Goals as goal

pub returns-clause-item : goal.returns-clause-item
returns-clause-item c =
    let s = meaning c.args.surface.now in
    let block = c.seams_of-block.ensures ∙ ap (λ (l : List Block). get_or l c.in-Some.id no_block) c.as_slice.ensures.items in
    let cut = ordered-seams s c.args.decoder c.in-Some.id c.seams_of-block.result c.table-table.result.now
    c.if-decoder.true c.in-Some.is block (ap (λ (t : Table). t.faces) c.table-table.ensures) (ap gluing_of c.table-table.ensures) in
    subst (λ (w : Ordered). Gives (decoder_read_on (classes_of s)) (decoder_on (profile_numbered c.args.profile.number) w (read_in c.args.found) c.args.decoder c.args.spent.now c.args.c.now) c.read_on_cut.new.c c.read_on_cut.result)
    cut (c.read_on_cut.ensures.item (classes_of s))

pub read_on_cut-requires-clause-kept : goal.read_on_cut-requires-clause-kept
read_on_cut-requires-clause-kept c = subst (λ (t : Table). IfSome c.args.kept.now (IsCutFrom t)) (sym c.table-table.ensures) c.requires.kept

pub returns-clause-kept : goal.returns-clause-kept
returns-clause-kept c =
    subst (λ (t : Table). IfOk c.read_on_cut.result (λ _. IfSome c.read_on_cut.new.kept (IsCutFrom t))) c.table-table.ensures c.read_on_cut.ensures.kept
