-- Values of a prediction that corrects are read back from their corrections, and those of any other from integers.
use Rattle.std.proofs.Common.{◌≡◌, ◌∙◌, sym, true, false, ap, OnOk, Result, Ok, Err}
use Rattle.std.specs.Option.{option_map}
use Rattle.predict.specs.declared.schemes.Facts.{Facts}
use Rattle.predict.specs.Schemes.{facts}
use Rattle.predict.specs.Surfaces.{surface_of}
use Rattle.attr_section.proofs.SpelledFlags.{few_or}
use Rattle.attr_section.proofs.SpelledCorrections.{stands_there, Spells-corrected, Spells-uncorrected}
use Rattle.attr_section.proofs.predicted_writing.put_predicted.Goals as goal

on_ok : {A E P Q : Type 0} (r : Result A E) → (P → Q) → OnOk r P → OnOk r Q
on_ok (Ok x) f p = f p
on_ok (Err e) f p = p

pub returns-then-facts-clause-again : goal.returns-then-facts-clause-again
returns-then-facts-clause-again c =
    let w = surface_of (option_map (λ t. t.now) c.args.on) in
    let q = c.args.prediction in
    let corrects : (facts q).corrects ≡ true = sym (ap (λ (f : Facts). f.corrects) c.facts.ensures) ∙ c.if-facts.true in
    on_ok c.put_corrected.result
    (λ spelled. record {
      again = λ few at. Spells-corrected c.args.plain at w q c.args.comps c.args.values.now corrects (stands_there q w c.args.comps _ c.requires.predicted.stand) (spelled (few_or w few) at);
    })
    c.put_corrected.ensures.again

pub returns-else-facts-clause-again : goal.returns-else-facts-clause-again
returns-else-facts-clause-again c =
    let w = surface_of (option_map (λ t. t.now) c.args.on) in
    let q = c.args.prediction in
    let none : (facts q).corrects ≡ false = sym (ap (λ (f : Facts). f.corrects) c.facts.ensures) ∙ c.if-facts.false in
    on_ok c.put_integers.result
    (λ spelled. record { again = λ few at. Spells-uncorrected c.args.plain at w q c.args.comps c.args.values.now none spelled })
    c.put_integers.ensures.again
