-- What is answered is what the steps of the prediction restore.
use Rattle.std.proofs.Common.{ℤ, Vec, Global}
use Rattle.std.specs.Option.{option_map}
use Rattle.predict.specs.Surfaces.{surface_of}
use Rattle.predict.proofs.Stepped.{restored_due}
use Rattle.predict.proofs.restored.restore_with_flags.Goals as goal

pub returns-clause-due : goal.returns-clause-due
returns-clause-due g c =
    restored_due (λ (v : Vec ℤ Global). v.items) c.args.prediction (surface_of (option_map (λ t. t.now) c.args.on)) c.args.comps c.args.flags.now.lists c.args.w.now
    (g.C.CorrectionSource.left c.args.source) c.in_ok-restored.restored c.requires.some c.requires.stand c.in_ok-restored.ensures.values c.in_ok-restored.ensures.flags
