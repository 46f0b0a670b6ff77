-- The corrections stand on the entries of the order.
use Rattle.std.proofs.Common.{ℕ, ◌≡◌, ◌*◌, ap, sym, ◌∙◌, length}
use Rattle.std.proofs.lemmas.List.{length-map}
use Rattle.corner_table.specs.Sides.{side_at}
use Rattle.tests_surface.proofs.predict_surface_tests.come_back.Goals as goal

pub restore_with_flags-requires-clause-stand : goal.restore_with_flags-requires-clause-stand
restore_with_flags-requires-clause-stand g c =
    let same : c.expect-copy.result.items ≡ c.args.corrections.now = rw c.expect-copy.ensures at c.from_slice.ensures.items in
    let count : length c.new-source.result ≡ length c.args.corrections.now = ap length (c.new-source.ensures ∙ same) in
    record {
      stand = λ needs. count ∙ c.requires.whole ∙ ap (λ (k : ℕ). k * c.args.comps) (sym (length-map c.args.on.now.order.now.corner_of_entry side_at));
    }
