use Rattle.std.proofs.Common.{◌≡◌, ◌+◌, ◌*◌, ◌^◌, ◌<◌, ◌≤◌, ℕ, List, length, get_or, ap, sym, ◌∙◌, arith}
use Rattle.std.specs.List.{range_with_len}
use Rattle.std.specs.Prelude.{map}
use Rattle.attr_heads.specs.declared.heads.Head.{Head}
use Rattle.attr_heads.proofs.Passing.{heads_say}
use Rattle.attr_section.specs.Attributes.{values_in}
use Rattle.drc_container.specs.writing.WrittenOnSurface.{coded_values, coded_by}
use Rattle.drc_container.specs.surface.AttributeSurfaces.{glued_on}
use Rattle.drc_container.proofs.lemmas.surface.AttributeSurfaces.{cut-each}
use Rattle.drc_container.proofs.lemmas.writing.SurfaceParts.{values-more, kept-long, comps-few, product-few}
use Rattle.drc_container.proofs.writing.surface_values.value_count.Goals.{After-from}
use Rattle.drc_container.proofs.writing.surface_values.value_count.Goals as goal

pub surface_at-requires : goal.surface_at-requires
surface_at-requires c = omega (arith, cut-each c.args.coding.now.degree c.args.s.now c.requires, ap length c.heads-head-items.ensures.value)

-- what an attribute adds
record Adds (c : After-from) : Type 0 where
  pub has : c.loop-attr.attr < length c.args.s.now.mesh.heads
  pub values : length (coded_by c.args.coding.now (glued_on c.args.s.now) c.loop-attr.attr).values ≡ c.len-entries.result * c.from.result
  pub few : c.len-entries.result * c.from.result ≤ 2 ^ 40

adds : (c : After-from) → Adds c
adds c =
    let s = c.args.s.now in
    let k = c.loop-attr.attr in
    let h = c.head-item.result in
    let has : k < length s.mesh.heads = omega (arith, ap length c.heads-head-items.ensures.value) in
    let named : h ≡ get_or s.mesh.heads k h = c.head-item.is ∙ ap (λ (hs : List Head). get_or hs k h) c.heads-head-items.ensures.value in
    let few : h.comps ≤ 8 = comps-few s.mesh k h c.heads-head-items.ensures.sound has named in
    let entries = c.surface_at.result.now.few_entries in
    record {
      has = has;
      values =
          kept-long c.args.coding.now s k c.surface_at.result.now h c.requires c.heads-head-items.ensures.sound has c.surface_at.ensures named
          ∙ ap (λ (n : ℕ). n * h.comps) (sym c.len-entries.ensures)
          ∙ ap (λ (n : ℕ). c.len-entries.result * n) (sym c.from.ensures);
      few = product-few c.len-entries.result c.from.result (omega (arith, entries, c.len-entries.ensures)) (omega (arith, few, c.from.ensures));
    }

pub overflow_add-count : goal.overflow_add-count
overflow_add-count c =
    let more = (adds (goal.at.overflow_add-count c).After-from).few in
    let say = heads_say c.args.s.now.mesh.heads c.heads-head-items.ensures.sound.points.heads_pass in
    omega (arith, more, say.few, ap length c.heads-head-items.ensures.value)

pub loop-attr-preserved : goal.loop-attr-preserved
loop-attr-preserved c =
    let more = adds (goal.at.loop-attr-preserved c).After-from in
    let d = glued_on c.args.s.now in
    record {
      count =
          ap (λ (n : ℕ). n + c.len-entries.result * c.from.result) c.loop-attr.invariant.count
          ∙ ap (λ (n : ℕ). values_in (map (coded_by c.args.coding.now d) (range_with_len 0 c.loop-attr.attr)) + n) (sym more.values)
          ∙ sym (values-more c.args.coding.now d c.loop-attr.attr);
      small = omega (arith, more.few);
    }

pub returns : goal.returns
unfolding coded_values
returns c =
    let d = glued_on c.args.s.now in
    let end : c.loop-attr.attr ≡ length d.mesh.heads = omega (arith, ap length c.heads-head-items.ensures.value) in
    c.loop-attr.invariant.count ∙ ap (λ (n : ℕ). values_in (map (coded_by c.args.coding.now d) (range_with_len 0 n))) end
