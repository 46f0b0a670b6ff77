-- Values of so many entries stand on an ordered surface over them.
use Rattle.std.proofs.Common.{◌≡◌, ℕ, ◌*◌, false, ap, ◌∙◌, sym, Option, None, Some}
use Rattle.std.specs.Option.{option_map}
use Rattle.std.proofs.lemmas.Bool.{false≢true}
use Rattle.std.proofs.lemmas.List.{length-map}
use Rattle.corner_table.specs.Sides.{side_at}
use Rattle.predict.specs.declared.schemes.Prediction.{Prediction}
use Rattle.predict.specs.declared.orders.Ordered.{Ordered as OrderedTable}
use Rattle.predict.specs.Surfaces.{surface_of, lacks_surface, MayBeOrderedOf, MayBeOver, CanStand}
use Rattle.attr_section.proofs.predicting.read_predicted.Goals as goal

over_it : (entries : ℕ) (on : Option OrderedTable) → MayBeOrderedOf entries on → MayBeOver on
over_it entries None of = tt
over_it entries (Some t) of = of.over

stand_on : (q : Prediction) (on : Option OrderedTable) (entries comps n : ℕ) → n ≡ entries * comps → MayBeOrderedOf entries on
    → lacks_surface q (surface_of on) ≡ false → CanStand q (surface_of on) comps n
stand_on q None entries comps n count of there = record { stand = λ needs. absurd (false≢true (sym there ∙ needs)) }
stand_on q (Some t) entries comps n count of there = record {
  stand = λ needs. count ∙ ap (λ (k : ℕ). k * comps) (of.each_entry ∙ sym (length-map t.order.now.corner_of_entry side_at));
}

pub read_corrected-requires-clause-over : goal.read_corrected-requires-clause-over
read_corrected-requires-clause-over c =
    let (entries, count, of) = c.requires.on in over_it entries (option_map (λ t. t.now) c.args.on) of

pub read_corrected-requires-clause-stand : goal.read_corrected-requires-clause-stand
read_corrected-requires-clause-stand c =
    let (entries, count, of) = c.requires.on in
    stand_on c.args.prediction (option_map (λ t. t.now) c.args.on) entries c.args.comps c.args.n count of (sym c.lacks_surface.ensures ∙ c.if-lacks_surface.false)
