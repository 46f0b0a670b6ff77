-- The number of attributes of the first decoder of a sequential stream is the first item behind that of decoders.
use Rattle.std.proofs.Common.{◌≡◌, ℕ, zero, suc, ◌<◌, Option, Some, None, Err, refl, arith}
use Rattle.drc_base.specs.declared.faults.Fault.{Fault}
use Rattle.drc_base.specs.Profile.{Profile}
use Rattle.drc_base.specs.Steps.{◌>>=◌}
use Rattle.drc_bits.specs.Reading.{Reading}
use Rattle.attr_section.specs.Each.{each_at}
use Rattle.attr_section.specs.Heads.{links_at, decoder_at, decoders_at}
use Rattle.attr_section.specs.Openings.{first_count_at}

-- where it is a fault, the heads of all decoders are
pub first_count_fails : (p : Profile) (attr_data : Option ℕ) (n : ℕ) (c : Reading) (f : Fault) → 0 < n → first_count_at attr_data c ≡ Err f
    → (links_at attr_data n c >>= λ links. decoders_at p links.0 links.1) ≡ Err f
unfolding links_at decoders_at each_at decoder_at
first_count_fails p None zero c f some fails = absurd (omega (arith, some))
first_count_fails p None (suc n) c f some fails = rw fails refl
first_count_fails p (Some attr_data) n c f some fails = absurd (let e = fails in cc)
