use Rattle.std.proofs.Common.{arith, sym, subst, inl, inr, ◌∙◌, ap, ◌≡◌, ◌<◌, get_or, length}
use Rattle.std.proofs.lemmas.Bool.{cases_lt}
use Rattle.std.proofs.lemmas.List.{get_or_default}
use Rattle.kd_points.specs.Laws.{KdHeadFits}
use Rattle.kd_points.specs.Written.{kd_head_bytes}
use Rattle.kd_points.proofs.Appending.{appended-more}
use Rattle.kd_points.proofs.head_writing.put_heads.Goals as goal

pub loop-head-preserved : goal.loop-head-preserved
loop-head-preserved c = (
  appended-more kd_head_bytes c.args.heads.now c.loop-head.head-index c.head-item.result c.args.out.now.items c.loop-head.out.items c.put_head.new.out.items (omega arith) c.head-item.is c.loop-head.invariant.0 c.in_ok-put_head.ensures.bytes,
  λ j d low. elim (cases_lt j c.loop-head.head-index) [
    | inl below ↦ c.loop-head.invariant.1 j d below
    | inr past ↦
        let here : j ≡ c.loop-head.head-index = omega arith in
        let inside : c.loop-head.head-index < length c.args.heads.now = omega arith in
        let is : c.head-item.result ≡ get_or c.args.heads.now j d =
        c.head-item.is ∙ get_or_default c.args.heads.now c.loop-head.head-index c.head-item.result d inside ∙ ap (λ k. get_or c.args.heads.now k d) (sym here) in
        subst KdHeadFits is c.in_ok-put_head.ensures.fields
  ],
)
