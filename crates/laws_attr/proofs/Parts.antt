-- Lists of flags, integers and ranges are read as what they were made of.
use Rattle.std.proofs.Common.{◌≡◌, ℕ, ◌%◌, ◌^◌, ◌<◌, ◌≤◌, Bool, true, false, List, length, map, inl, inr, ap, ◌∙◌, arith}
use Rattle.std.specs.List.{All}
use Rattle.std.proofs.lemmas.Bool.{cases_eq}
use Rattle.std.proofs.lemmas.List.{length-map}
use Rattle.drc_base.specs.declared.limits.TheConstants.{MAX_VALUES}
use Rattle.drc_bits.specs.Spells.{Spells}
use Rattle.predict.specs.Symbols.{zigzag_of}
use Rattle.attr_section.specs.Values.{signed_of, integers_at}
use Rattle.attr_section.specs.WrittenParts.{symbols_bytes}
use Rattle.attr_section.proofs.SpelledFlags.{Spells-no_flags, Spells-flag_bits, Spells-flags}
use Rattle.attr_section.proofs.SpelledIntegers.{Spells-plain_symbols, Spells-compressed_symbols, Spells-integers, Spells-range}
use Rattle.laws_entropy.proofs.Again.{symbols-again, bits-again}
use Rattle.laws_attr.specs.Laws.{FlagsAreRead, IntegersAreRead, RangesAreRead}
use Rattle.laws_attr.proofs.Fitting.{fit_symbols}

-- a list of flags
pub flags_read : FlagsAreRead
flags_read flags short = Spells-flags flags short (elim (cases_eq (length flags) 0) [
  | inl none ↦ Spells-no_flags flags none
  | inr some ↦ Spells-flag_bits flags some (bits-again flags short)
])

-- symbols, as they are or in a block
pub symbols_read : (plain : Bool) (comps : ℕ) (symbols : List ℕ) → 0 < comps → length symbols % comps ≡ 0 → length symbols ≤ MAX_VALUES
    → All (λ s. s < 2 ^ 32) symbols → Spells (integers_at comps (length symbols)) (symbols_bytes plain comps symbols) (map signed_of symbols)
symbols_read true comps symbols some whole few fit = Spells-plain_symbols comps symbols fit
symbols_read false comps symbols some whole few fit = Spells-compressed_symbols comps symbols (symbols-again symbols comps whole few fit)

-- integers
pub integers_read : IntegersAreRead
integers_read plain comps values some whole few fit =
    let same : length (map zigzag_of values) ≡ length values = length-map values zigzag_of in
    Spells-integers plain comps values
    (symbols_read plain comps (map zigzag_of values) some (ap (λ n. n % comps) same ∙ whole) (omega (arith, same, few)) (fit_symbols values fit))

-- ranges
pub ranges_read : RangesAreRead
ranges_read r can ends = Spells-range r can ends.low ends.high
