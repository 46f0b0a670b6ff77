use Rattle.std.proofs.Common.{ℕ, List, rules, sym, subst, ◌∙◌, length, drop, get_or}
use Rattle.std.proofs.lemmas.List.{take_at, length-map}
use Rattle.corner_table.specs.Ordered.{entries_by}
use Rattle.normal_prediction.specs.NormalSums.{AreSums}
use Rattle.octahedral_values.proofs.Predicted.{sums-round}
use Rattle.octahedral_values.proofs.sums.normals_round.Goals as goal

pub returns : goal.returns
returns c =
    let sums = c.add_normals.new.sums in
    let entries : List ℕ = entries_by c.args.classes.now c.args.entry_of_class.now in
    let long = length-map c.args.classes.now (λ (k : ℕ). get_or c.args.entry_of_class.now k 0) in
    take_at sums (drop (length sums) c.in_ok-sums.sums.items) c.in_ok-sums.sums.len (search rules)
    ∙ sums-round entries c.args.places.now sums (search rules)
    (subst (λ (n : ℕ). AreSums entries c.args.places.now sums n) (sym long) c.add_normals.ensures)
