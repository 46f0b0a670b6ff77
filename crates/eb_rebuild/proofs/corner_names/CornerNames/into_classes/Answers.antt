-- The numbers of the names' roots are the labels.
use Rattle.std.proofs.Common.{◌≡◌, ℕ, ◌*◌, ◌<◌, Bool, List, length, get_or, sym, ap, ◌∙◌, subst, arith}
use Rattle.corner_table.specs.Table.{glued_in}
use Rattle.corner_table.specs.Labels.{IsLabelled}
use Rattle.eb_rebuild.specs.JoinedNames.{root_in, roots_below}
use Rattle.eb_rebuild.specs.CornerNames.{NamedCorners, IsNaming, AreMarked}
use Rattle.eb_rebuild.proofs.CornerLabels.{names_below, labels_below, labelled}
use Rattle.eb_rebuild.proofs.corner_names.CornerNames.into_classes.Goals as goal

pub labels_of-labels-requires-clause-below : goal.labels_of-labels-requires-clause-below
labels_of-labels-requires-clause-below c i h =
    let N = subst (IsNaming c.args.faces (glued_in c.args.across.now)) (sym c.self.view_is) c.requires.naming in
    let made : length c.self.inside.joined.up ≡ c.args.made = ap (λ (v : NamedCorners). length v.up) c.self.view_is ∙ c.requires.made in
    let b : get_or c.self.inside.names.items i 0 < length c.self.inside.joined.up = names_below N i h in
    omega arith

pub boundary_labels-requires-clause-below : goal.boundary_labels-requires-clause-below
boundary_labels-requires-clause-below c i h =
    let N = subst (IsNaming c.args.faces (glued_in c.args.across.now)) (sym c.self.view_is) c.requires.naming in
    let made : length c.self.inside.joined.up ≡ c.args.made = ap (λ (v : NamedCorners). length v.up) c.self.view_is ∙ c.requires.made in
    let labels = c.labels_of-labels.result.of_corner.items in
    let counted = c.labels_of-labels.ensures.count ∙ ap (roots_below (root_in c.self.inside.joined.up)) (sym made) in
    subst (λ (l : List ℕ). get_or l i 0 < c.labels_of-labels.result.count) (sym c.as_slice.ensures.value) (labels_below N labels c.labels_of-labels.result.count c.labels_of-labels.ensures.labels counted i h)

pub returns : goal.returns
returns c =
    let N = subst (IsNaming c.args.faces (glued_in c.args.across.now)) (sym c.self.view_is) c.requires.naming in
    let made : length c.self.inside.joined.up ≡ c.args.made = ap (λ (v : NamedCorners). length v.up) c.self.view_is ∙ c.requires.made in
    let labels = c.labels_of-labels.result.of_corner.items in
    let count = c.labels_of-labels.result.count in
    let ends = c.in_ok-ends.ends.items in
    let counted = c.labels_of-labels.ensures.count ∙ ap (roots_below (root_in c.self.inside.joined.up)) (sym made) in
    let M = subst (λ (l : List ℕ). AreMarked c.args.across.now l (3 * c.args.faces) count ends) c.as_slice.ensures.value c.in_ok-ends.ensures in
    subst (λ (l : List ℕ). IsLabelled c.args.faces (glued_in c.args.across.now) l count c.from_vec-2.result) (sym c.from_vec.ensures)
    (subst (λ (l : List Bool). IsLabelled c.args.faces (glued_in c.args.across.now) labels count l) (sym c.from_vec-2.ensures)
    (labelled c.args.across.now N labels count ends c.labels_of-labels.ensures.labels counted M))
