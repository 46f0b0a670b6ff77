use Rattle.std.proofs.Common.{◌≡◌, ◌<◌, ◌^◌, ◌∙◌, ℤ, Bool, List, sym, ap, length, FitsSigned, w32}
use Rattle.std.specs.Option.{option_map}
use Rattle.std.proofs.lemmas.Int.{to_z-of_z}
use Rattle.std.proofs.lemmas.List.{length-map}
use Rattle.std.proofs.lemmas.List.Elements.{All-same}
use Rattle.predict.specs.Symbols.{zigzag_of}
use Rattle.predict.specs.Restored.{corrections}
use Rattle.predict.specs.Surfaces.{surface_of, surface_or}
use Rattle.predict.specs.Foretold.{foretold, marks_of}
use Rattle.predict.proofs.Restoring.{length-corrections}
use Rattle.attr_section.specs.WrittenParts.{range_of}
use Rattle.attr_section.proofs.SpelledIntegers.{range_of-bounds}
use Rattle.attr_section.proofs.SpelledFlags.{lists_short}
use Rattle.attr_section.proofs.correcting.corrected_symbols.Goals.{After-wrap_of-wrap}
use Rattle.attr_section.proofs.correcting.corrected_symbols.Goals as goal

-- the wrap has the range of the values
wrap_is : (c : After-wrap_of-wrap) → c.wrap_of-wrap.result ≡ range_of c.args.values.now
wrap_is c =
    let low : FitsSigned w32 c.args.low = c.ranges.low in
    let high : FitsSigned w32 c.args.high = c.ranges.high in
    (simp to_z-of_z at c.wrap_of-wrap.ensures) ∙ sym c.requires.range

pub correct-requires-clause-within : goal.correct-requires-clause-within
correct-requires-clause-within c = rw (wrap_is c.before) (range_of-bounds c.args.values.now)

pub returns-clause-few : goal.returns-clause-few
returns-clause-few c =
    let w = surface_of (option_map (λ t. t.now) c.args.on) in
    All-same (λ (flags : List Bool). length flags < 2 ^ 31) c.in_ok-symbols.flags.lists (marks_of c.args.prediction (surface_or w) c.args.comps c.args.values.now)
    c.in_ok-symbols.ensures.flags (lists_short c.args.prediction w c.args.comps c.args.values.now c.requires.comps c.requires.few c.requires.stand)

pub returns-clause-len : goal.returns-clause-len
returns-clause-len c =
    let w = surface_or (surface_of (option_map (λ t. t.now) c.args.on)) in
    let f : List ℤ → ℤ = foretold c.args.prediction w c.args.comps c.in_ok-symbols.flags.lists in
    ap length c.in_ok-symbols.ensures.symbols
    ∙ length-map (corrections f c.wrap_of-wrap.result c.args.values.now) zigzag_of
    ∙ length-corrections f c.wrap_of-wrap.result c.args.values.now
