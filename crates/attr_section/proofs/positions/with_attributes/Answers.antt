use Rattle.std.proofs.Common.{◌<◌, ◌≤◌, length, take, get_or, sym, ap, ◌∙◌, arith}
use Rattle.std.proofs.lemmas.List.{take_all}
use Rattle.std.specs.Option.{option_map}
use Rattle.predict.specs.Surfaces.{surface_of}
use Rattle.attr_section.specs.Positions.{with_attribute, with_attributes, entries_on}
use Rattle.attr_section.specs.TablePositions.{read_in}
use Rattle.attr_section.proofs.PositionsRead.{one_more, none_more}
use Rattle.attr_section.proofs.positions.with_attributes.Goals as goal

pub loop-k-preserved : goal.loop-k-preserved
loop-k-preserved c =
    let w = surface_of (option_map (λ t. t.now) c.args.on) in
    let within : c.loop-k.k < length c.args.read.now = omega arith in
    let inside : c.loop-k.k < length c.args.heads.now = omega (arith, c.requires) in
    let v = get_or c.args.read.now c.loop-k.k c.index-read-k.result in
    c.with_one-positions.ensures
    ∙ ap (λ vs. with_attribute (read_in c.loop-k.positions) c.index-heads-k.result vs (entries_on w)) c.as_slice.ensures.items
    ∙ ap (λ f. with_attribute f c.index-heads-k.result v.values (entries_on w)) c.loop-k.invariant
    ∙ ap (λ h. with_attribute (with_attributes w (read_in c.args.found) c.args.heads.now (take c.loop-k.k c.args.read.now)) h v.values (entries_on w)) c.index-heads-k.is
    ∙ sym (one_more w (read_in c.args.found) c.args.heads.now c.args.read.now c.loop-k.k c.index-heads-k.result c.index-read-k.result inside within)

pub returns : goal.returns
returns c =
    let done : length c.args.read.now ≤ c.loop-k.k = omega arith in rw (take_all c.loop-k.k c.args.read.now done) at c.loop-k.invariant

pub loop-k-init : goal.loop-k-init
loop-k-init c = sym (none_more (surface_of (option_map (λ t. t.now) c.args.on)) (read_in c.args.found) c.args.heads.now)
