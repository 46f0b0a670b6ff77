use Rattle.std.proofs.Common.{◌≡◌, ◌<◌, ◌≤◌, ◌++◌, ◌∷◌, [], ℕ, List, length, map, get_or, ap, sym, ◌∙◌, arith}
use Rattle.std.specs.List.{range_with_len}
use Rattle.attr_heads.specs.declared.heads.Head.{Head}
use Rattle.attr_heads.specs.Head.{width_of}
use Rattle.attr_heads.proofs.Widths.{width_of-bounds}
use Rattle.attr_section.specs.declared.values.Values.{Values}
use Rattle.drc_container.specs.choice.Predicts.{asked}
use Rattle.drc_container.specs.writing.WrittenOnSurface.{coded_values, coded_by}
use Rattle.drc_container.specs.surface.AttributeSurfaces.{glued_on}
use Rattle.drc_container.proofs.lemmas.surface.AttributeSurfaces.{cut-each}
use Rattle.drc_container.proofs.lemmas.writing.SurfaceParts.{asked-of, columns-more, kept-corners, kept-values, one-width, next-start, part-within}
use Rattle.drc_container.proofs.writing.surface_values.columns_on.Goals.{After-as_slice-corners}
use Rattle.drc_container.proofs.writing.surface_values.columns_on.Goals as goal

pub surface_at-requires : goal.surface_at-requires
surface_at-requires c = omega (arith, cut-each c.args.coding.now.degree c.args.s.now c.requires, ap length c.heads-head-items.ensures.value)

-- the attribute is one of the mesh, and its head is known
record Named (c : After-as_slice-corners) : Type 0 where
  pub has : c.loop-attr.attr < length c.args.s.now.mesh.heads
  pub named : c.head-item.result ≡ get_or c.args.s.now.mesh.heads c.loop-attr.attr c.head-item.result

at_head : (c : After-as_slice-corners) → Named c
at_head c =
    let h = c.head-item.result in
    record {
      has = omega (arith, ap length c.heads-head-items.ensures.value);
      named = c.head-item.is ∙ ap (λ (hs : List Head). get_or hs c.loop-attr.attr h) c.heads-head-items.ensures.value;
    }

pub column_at-requires-clause-corners : goal.column_at-requires-clause-corners
column_at-requires-clause-corners c =
    kept-corners c.args.coding.now c.args.s.now c.loop-attr.attr c.surface_at.result.now c.as_slice-corners.result.now c.requires
    (at_head (goal.at.column_at-requires-clause-corners c).After-as_slice-corners).has c.surface_at.ensures c.as_slice-corners.ensures.items

pub column_at-requires-clause-few : goal.column_at-requires-clause-few
column_at-requires-clause-few c = omega (arith, c.surface_at.result.now.few_entries, ap length c.as_slice-corners.ensures.items)

pub column_at-requires-clause-comps : goal.column_at-requires-clause-comps
column_at-requires-clause-comps c =
    let n = at_head (goal.at.column_at-requires-clause-comps c).After-as_slice-corners in
    one-width c.args.s.now.mesh.heads c.loop-attr.attr c.head-item.result n.has n.named

pub column_at-requires-clause-within : goal.column_at-requires-clause-within
column_at-requires-clause-within c =
    let n = at_head (goal.at.column_at-requires-clause-within c).After-as_slice-corners in
    part-within c.args.s.now.mesh.heads c.loop-attr.attr c.loop-attr.start c.head-item.result n.has n.named c.loop-attr.invariant.start

pub overflow_add-start : goal.overflow_add-start
overflow_add-start c =
    let heads = c.args.s.now.mesh.heads in
    let n = at_head (goal.at.overflow_add-start c).After-as_slice-corners in
    let narrow : width_of heads ≤ 128 = (width_of-bounds heads c.heads-head-items.ensures.sound.points.heads_pass).1 in
    let within = part-within heads c.loop-attr.attr c.loop-attr.start c.head-item.result n.has n.named c.loop-attr.invariant.start in
    omega (arith, narrow, within)

pub loop-attr-preserved : goal.loop-attr-preserved
loop-attr-preserved c =
    let coding = c.args.coding.now in
    let s = c.args.s.now in
    let k = c.loop-attr.attr in
    let n = at_head (goal.at.loop-attr-preserved c).After-as_slice-corners in
    let head = ap (asked coding.predict) n.named ∙ sym (asked-of coding (glued_on s) k c.head-item.result n.has) in
    let values = kept-values coding s k c.surface_at.result.now c.as_slice-corners.result.now c.in_ok-column.column.items (asked coding.predict c.head-item.result) c.requires n.has c.surface_at.ensures c.as_slice-corners.ensures.items c.in_ok-column.ensures head in
    let more = columns-more coding (glued_on s) k in
    record {
      values =
          c.in_ok-push.ensures.items
          ∙ ap (λ (v : Values). c.loop-attr.values.items ++ v ∷ []) (c.values_asked.ensures ∙ values)
          ∙ ap (λ (vs : List Values). vs ++ coded_by coding (glued_on s) k ∷ []) c.loop-attr.invariant.values
          ∙ sym more;
      start = next-start s.mesh.heads k c.loop-attr.start c.head-item.result n.has n.named c.loop-attr.invariant.start;
    }

pub returns : goal.returns
unfolding coded_values
returns c =
    let d = glued_on c.args.s.now in
    let end : c.loop-attr.attr ≡ length d.mesh.heads = omega (arith, ap length c.heads-head-items.ensures.value) in
    c.loop-attr.invariant.values ∙ ap (λ (n : ℕ). map (coded_by c.args.coding.now d) (range_with_len 0 n)) end
