use Rattle.std.proofs.Common.{◌≡◌, ℕ, ◌-◌, ◌<◌, List, arith}
use Rattle.std.proofs.lemmas.Result.{err_from_is_err_and}
use Rattle.drc_base.specs.declared.faults.Refusal.{Refusal}
use Rattle.drc_base.specs.declared.faults.Refusal.TheVariants as refusal
use Rattle.drc_base.specs.Refusals.{Refuses}
use Rattle.drc_bits.specs.Reading.{Reading, Item, many_at}
use Rattle.drc_bits.proofs.Many.{with_front, many_at-next, many_at-fault, many_at-end}
use Rattle.attr_section.specs.Values.{flags_at}
use Rattle.attr_section.proofs.flag_lists.read_flag_lists.Goals as goal

-- the next list is refused
many_at-refuses : {A : Type 0} (item : Reading → Item A) (n k : ℕ) (c : Reading) (front : List A) (e : Refusal) (whole : Item (List A))
    → with_front front (many_at item (n - k) c) ≡ whole → k < n → Refuses (item c) e → Refuses whole e
many_at-refuses item n k c front (refusal.Fault f) whole so fits is = many_at-fault item n k c front f whole so fits is
many_at-refuses item n k c front refusal.Memory whole so fits is = tt

pub returns-in_err-flags : goal.returns-in_err-flags
returns-in_err-flags c =
    let p = err_from_is_err_and c.from_residual.result c.from_residual.ensures.1 in
    rw (p.1, p.2) (many_at-refuses (flags_at c.args.corners) c.args.count c.loop-number._number c.loop-number.c c.loop-number.lists.items c.in_err-flags.field-0.0 (many_at (flags_at c.args.corners) c.args.count c.args.c.now) c.loop-number.invariant (omega arith) c.in_err-flags.ensures)

pub loop-number-preserved : goal.loop-number-preserved
loop-number-preserved c =
    rw c.in_ok-push.ensures.items
    (many_at-next (flags_at c.args.corners) c.args.count c.loop-number._number c.loop-number.c c.read_flags.new.c c.loop-number.lists.items c.in_ok-flags.flags (many_at (flags_at c.args.corners) c.args.count c.args.c.now) c.loop-number.invariant (omega arith) c.in_ok-flags.ensures)

pub returns : goal.returns
returns c =
    rw c.from_vec.ensures
    (many_at-end (flags_at c.args.corners) c.args.count c.loop-number._number c.loop-number.c c.loop-number.lists.items (many_at (flags_at c.args.corners) c.args.count c.args.c.now) c.loop-number.invariant (omega arith))
