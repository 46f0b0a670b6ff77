use Rattle.pairing.proofs.CarriedPairs.{inverted_leads_back, carried_is_the_one, carried_is_proper, fit_is_carried, mesh_fit_is_carried}
use Rattle.pairing.proofs.laws.carrying_keeps_pairs.Goals as goal

pub returns : goal.returns
returns c = record { back = inverted_leads_back; one = carried_is_the_one; proper = carried_is_proper; fit = fit_is_carried; mesh = mesh_fit_is_carried }
