use Rattle.std.proofs.Common.{◌≡◌, ◌≤◌, ◌++◌, ℕ, ℤ, [], ◌∷◌, append_assoc, Bool, List, rules, FitsSigned, w32, length, ap, ◌∙◌, subst}
use Rattle.std.specs.Option.{option_map}
use Rattle.std.proofs.lemmas.Int.{to_z-of_z}
use Rattle.std.proofs.lemmas.List.Elements.{All-same}
use Rattle.drc_bits.specs.Spells.{Spells}
use Rattle.predict.specs.declared.schemes.Facts.{Facts}
use Rattle.predict.specs.declared.schemes.Behind.{Behind}
use Rattle.predict.specs.Schemes.{facts, flag_lists}
use Rattle.predict.specs.Restored.{corrections}
use Rattle.predict.specs.Wrap.{Range}
use Rattle.predict.specs.Surfaces.{surface_of, surface_or}
use Rattle.predict.specs.Foretold.{foretold, marks_of}
use Rattle.predict.proofs.Foretold.{length-marks}
use Rattle.attr_section.specs.Values.{corrected_at}
use Rattle.attr_section.specs.WrittenParts.{range_of, integers_bytes, flagged_bytes, BehindSpelled}
use Rattle.attr_section.proofs.SpelledIntegers.{Spells-integers}
use Rattle.attr_section.proofs.SpelledFlags.{lists_few}
use Rattle.attr_section.proofs.SpelledCorrections.{Spells-flagged}
use Rattle.attr_section.proofs.predicted_writing.put_corrected.Goals as goal

-- pieces that are appended one after another
joined : (o p s r a b : List ℕ) (x : ℕ) → p ≡ o ++ x ∷ [] → s ≡ p ++ a → r ≡ s ++ b → r ≡ o ++ (x ∷ (a ++ b))
joined o p s r a b x first second last =
    let e : ((o ++ x ∷ []) ++ a) ++ b ≡ o ++ (x ∷ (a ++ b)) = simp append_assoc in
    last ∙ ap (λ (l : List ℕ). l ++ b) (second ∙ ap (λ (l : List ℕ). l ++ a) first) ∙ e

pub returns-clause-bytes : goal.returns-clause-bytes
unfolding flagged_bytes integers_bytes
returns-clause-bytes c =
    let low : FitsSigned w32 c.range_of-least.result.0 = search rules in
    let high : FitsSigned w32 c.range_of-least.result.1 = search rules in
    let w = surface_or (surface_of (option_map (λ t. t.now) c.args.on)) in
    let behind : c.facts.result.behind ≡ (facts c.args.prediction).behind = ap (λ (f : Facts). f.behind) c.facts.ensures in
    let bytes : c.put_behind.new.out.items ≡ c.args.out.now.items ++ flagged_bytes c.args.plain w c.args.prediction c.args.comps c.in_ok-symbols.flags.lists c.args.values.now =
    rw (← c.in_ok-symbols.ensures.symbols, c.range_of-least.ensures)
    (joined c.args.out.now.items c.push.new.self.items c.put_symbols.new.out.items c.put_behind.new.out.items _ _ _
    (rw c.byte.ensures at c.in_ok-push.ensures.items) c.in_ok-put_symbols.ensures.bytes (simp to_z-of_z at (rw behind at c.in_ok-put_behind.ensures.bytes))) in
    subst (λ (lists : List (List Bool)). c.put_behind.new.out.items ≡ c.args.out.now.items ++ flagged_bytes c.args.plain w c.args.prediction c.args.comps lists c.args.values.now)
    c.in_ok-symbols.ensures.flags bytes

pub returns-clause-again : goal.returns-clause-again
returns-clause-again c = λ few at.
    let low : FitsSigned w32 c.range_of-least.result.0 = search rules in
    let high : FitsSigned w32 c.range_of-least.result.1 = search rules in
    let w = surface_or (surface_of (option_map (λ t. t.now) c.args.on)) in
    let q = c.args.prediction in
    let values = c.args.values.now in
    let lists : List (List Bool) = c.in_ok-symbols.flags.lists in
    let is : lists ≡ marks_of q w c.args.comps values = c.in_ok-symbols.ensures.flags in
    let f : List ℤ → ℤ = foretold q w c.args.comps lists in
    let count : length lists ≡ flag_lists q = ap (λ (l : List (List Bool)). length l) is ∙ length-marks q w c.args.comps values in
    let kept : c.facts.result.behind ≡ (facts q).behind = ap (λ (f : Facts). f.behind) c.facts.ensures in
    let r : Range = record { low = c.range_of-least.result.0; high = c.range_of-least.result.1 } in
    let spelled : BehindSpelled (facts q).behind lists (range_of values) =
    rw c.range_of-least.ensures (subst (λ (b : Behind). BehindSpelled b lists r) kept (simp to_z-of_z at c.in_ok-put_behind.ensures.again)) in
    subst (λ (l : List (List Bool)). Spells (corrected_at at w q c.args.comps (length values)) (flagged_bytes c.args.plain w q c.args.comps l values) values) is
    (Spells-flagged c.args.plain at w q c.args.comps lists values
    (Spells-integers c.args.plain c.args.comps (corrections f (range_of values) values)
    (rw c.in_ok-symbols.ensures.symbols at c.in_ok-put_symbols.ensures.again))
    (spelled.over w count (All-same (λ (flags : List Bool). length flags ≤ length w.entries) lists (marks_of q w c.args.comps values) is (lists_few q w c.args.comps values few)))
    c.in_ok-symbols.ensures.again)
