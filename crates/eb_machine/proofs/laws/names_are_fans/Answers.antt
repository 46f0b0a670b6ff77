use Rattle.eb_machine.proofs.NamedLaw.{symbols_agree, closes_agree, ends_agree, runs_agree, stops_agree}
use Rattle.eb_machine.proofs.laws.names_are_fans.Goals as goal

pub returns : goal.returns
returns c = record { symbols = symbols_agree; closes = closes_agree; ends = ends_agree; runs = runs_agree; stops = stops_agree }
