-- Decoders of attributes, one at a time.
use Rattle.drc_base.specs.Profile.{Profile}
use Rattle.std.proofs.Common.{◌≡◌, ℕ, ◌+◌, List, [], ◌∷◌, ◌++◌, length, None, Ok, refl, sym, ◌∙◌}
use Rattle.std.proofs.lemmas.List.Sums.{sum_by-append}
use Rattle.drc_base.specs.declared.faults.Refusal.{Refusal}
use Rattle.drc_base.specs.declared.faults.Refusal.TheVariants as refusal
use Rattle.drc_base.specs.Refusals.{Refuses}
use Rattle.drc_bits.specs.Reading.{Reading, Item}
use Rattle.attr_heads.specs.declared.heads.Head.{Head}
use Rattle.attr_section.specs.declared.decoder_heads.DecoderHead.{DecoderHead}
use Rattle.attr_section.specs.declared.values.Values.{Values}
use Rattle.attr_section.specs.Positions.{PositionsRead}
use Rattle.attr_section.specs.Attributes.{decoder_values_at, values_in}
use Rattle.drc_container.specs.declared.reading.attributes.Attributes.{Attributes}
use Rattle.drc_container.specs.reading.Stream.{decoders_values_at}

-- the next decoder was read
pub decoders_at-next : (p : Profile) (n : ℕ) (heads : List Head) (values new : List Values) (d e : DecoderHead) (ds rest : List DecoderHead) (c next : Reading) (whole : Item Attributes)
    → decoders_values_at p n (record { heads = heads; values = values }) ds c ≡ whole → ds ≡ d ∷ rest
    → decoder_values_at p None PositionsRead.NotYet d n (values_in values) c ≡ Ok ((new, e), next)
    → decoders_values_at p n (record { heads = heads ++ e.heads; values = values ++ new }) rest next ≡ whole
unfolding decoders_values_at
decoders_at-next p n heads values new d e ds rest c next whole so is read = sym (rw (is, read) refl) ∙ so

-- the next decoder is refused
pub decoders_at-refuses : (p : Profile) (n : ℕ) (heads : List Head) (values : List Values) (d : DecoderHead) (ds rest : List DecoderHead) (c : Reading) (r : Refusal) (whole : Item Attributes)
    → decoders_values_at p n (record { heads = heads; values = values }) ds c ≡ whole → ds ≡ d ∷ rest
    → Refuses (decoder_values_at p None PositionsRead.NotYet d n (values_in values) c) r → Refuses whole r
unfolding decoders_values_at
decoders_at-refuses p n heads values d ds rest c refusal.Memory whole so is refuses = tt
decoders_at-refuses p n heads values d ds rest c (refusal.Fault f) whole so is refuses = sym so ∙ rw (is, refuses) refl

-- no decoder is left
pub decoders_at-end : (p : Profile) (n : ℕ) (heads : List Head) (values : List Values) (ds : List DecoderHead) (c : Reading) (whole : Item Attributes)
    → decoders_values_at p n (record { heads = heads; values = values }) ds c ≡ whole → ds ≡ [] → whole ≡ Ok (record { heads = heads; values = values }, c)
unfolding decoders_values_at
decoders_at-end p n heads values ds c whole so none = sym so ∙ rw none refl

-- the values of two lists of attributes
pub values_in-append : (values more : List Values) → values_in (values ++ more) ≡ values_in values + values_in more
values_in-append values more = sum_by-append (λ v. length v.values) values more
