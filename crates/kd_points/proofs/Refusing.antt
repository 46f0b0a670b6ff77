-- A loop over items that may take memory: an item that is refused.
use Rattle.std.proofs.Common.{◌≡◌, ℕ, ◌-◌, ◌<◌, List}
use Rattle.drc_base.specs.declared.faults.Refusal.{Refusal}
use Rattle.drc_base.specs.declared.faults.Refusal.TheVariants as refusal
use Rattle.drc_base.specs.Refusals.{Refuses}
use Rattle.drc_bits.specs.Reading.{Reading, Item, many_at}
use Rattle.drc_bits.proofs.Many.{with_front, many_at-fault}

-- the next item is refused
pub many_at-refuses : {A : Type 0} (item : Reading → Item A) (n k : ℕ) (c : Reading) (front : List A) (e : Refusal) (whole : Item (List A))
    → with_front front (many_at item (n - k) c) ≡ whole → k < n → Refuses (item c) e → Refuses whole e
many_at-refuses item n k c front (refusal.Fault f) whole so fits is = many_at-fault item n k c front f whole so fits is
many_at-refuses item n k c front refusal.Memory whole so fits is = tt
