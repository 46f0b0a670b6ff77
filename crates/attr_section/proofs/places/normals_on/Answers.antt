use Rattle.std.proofs.Common.{◌≡◌, ◌<◌, ℕ, length, sym, ap, subst, ◌∙◌}
use Rattle.std.specs.List.{All}
use Rattle.corner_table.specs.Ordered.{entries_by}
use Rattle.attr_section.proofs.Corrections.{length-normals}
use Rattle.attr_section.proofs.places.normals_on.Goals as goal

pub normals_round-requires-clause-entries : goal.normals_round-requires-clause-entries
normals_round-requires-clause-entries c =
    let few : length c.deref.result.now ≡ length c.args.on.now.order.now.corner_of_entry = ap length c.deref.ensures.value ∙ c.in_ok-places.ensures.len in
    subst (λ (n : ℕ). All (λ (e : ℕ). e < n) (entries_by c.as_slice-classes.result.now c.as_slice-entry_of_class.result.now)) (sym few)
    (rw (c.as_slice-classes.ensures.items, c.as_slice-entry_of_class.ensures.items) c.requires.entries)

pub returns-clause-len : goal.returns-clause-len
returns-clause-len c =
    ap length c.in_ok-sums.ensures
    ∙ length-normals (entries_by c.as_slice-classes.result.now c.as_slice-entry_of_class.result.now) c.deref.result.now
    ∙ ap length c.deref.ensures.value ∙ c.in_ok-places.ensures.len
