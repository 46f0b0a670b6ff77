-- Lists of valence contexts as they are kept until their symbols are drawn. These are the code's own words; what is read is defined in
-- `Connectivity`.
use Rattle.std.specs.Prelude.{ℕ, List, Ok}
use Rattle.drc_base.specs.Steps.{◌>>=◌}
use Rattle.drc_bits.specs.Reading.{Reading, Item}
use Rattle.eb_valence.specs.Reading.{kept_list}
use Rattle.eb_section.specs.Connectivity.{list_at}

-- the symbols of one context, as a reader keeps them
unfoldable pub kept_list_at : ℕ → Reading → Item (List ℕ)
kept_list_at symbols c = do
  numbers ← list_at symbols c
  Ok (kept_list numbers.0, numbers.1)
