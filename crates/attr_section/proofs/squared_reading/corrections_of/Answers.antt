use Rattle.std.proofs.Common.{rules, ◌≡◌, ◌+ℤ◌, ◌++◌, ℕ, ℤ, List, pos, true, length, take, drop, sym, ap, subst, ◌∙◌}
use Rattle.std.proofs.lemmas.List.{take_at}
use Rattle.std.specs.List.{list_all}
use Rattle.octahedron.specs.Pairs.{AreValues}
use Rattle.attr_section.specs.Squared.{is_correction, centre_of}
use Rattle.attr_section.proofs.Corrections.{corrections_are, twice_centre}
use Rattle.attr_section.proofs.squared_reading.corrections_of.Goals as goal

pub returns-clause-within : goal.returns-clause-within
returns-clause-within c =
    let greatest = c.greatest_coordinate-greatest.result in
    let centre = centre_of c.args.bits in
    let taken = c.take_corrections.new.integers in
    let items = c.in_ok-values.values.items in
    let twice : pos greatest ≡ centre +ℤ centre = ap (λ (n : ℕ). pos n) c.greatest_coordinate-greatest.ensures.value ∙ twice_centre c.args.bits c.requires.some in
    let all : list_all (is_correction greatest) c.deref_mut.result.now ≡ true = search rules in
    let whole : take c.in_ok-values.values.len (taken ++ drop (length taken) items) ≡ taken = take_at taken (drop (length taken) items) c.in_ok-values.values.len (search rules) in
    subst (λ (xs : List ℤ). AreValues centre xs) (sym (whole ∙ c.take_corrections.ensures.corrections))
    (corrections_are greatest centre c.deref_mut.result.now twice all)
