-- Each turn of the loop halves the way, which keeps all roots.
use Rattle.std.proofs.Common.{◌≡◌, ℕ, ◌<◌, List, length, sym, ap, ◌∙◌, subst, arith}
use Rattle.eb_rebuild.specs.JoinedNames.{root_in, Falls}
use Rattle.eb_rebuild.proofs.Roots.{root_fixed, halved_falls, halved_roots, halved_here}
use Rattle.eb_rebuild.proofs.joined_names.find.Goals as goal

pub returns-then-first-at-clause-root : goal.returns-then-first-at-clause-root
returns-then-first-at-clause-root c =
    sym (root_fixed c.climbing.up.items c.climbing.at (sym c.over-first.ensures.own ∙ c.if-first-at.true)) ∙ c.climbing.invariant.here

pub climbing-preserved : goal.climbing-preserved
climbing-preserved c =
    let up = c.climbing.up.items in
    let F = c.climbing.invariant.falls in
    let at = c.climbing.at in
    let first = c.over-first.result in
    let second = c.over-second.result in
    let a = c.over-first.ensures.own in
    let b = c.over-second.ensures.own in
    let k = F.low at in
    let l = F.low first in
    let len = c.climbing.up.ok.0 in
    let w = c.climbing.invariant.within in
    let h : at < length up = omega arith in
    let e = c.put.ensures.items in
    let roots : (z : ℕ) → root_in c.put.new.list.items z ≡ root_in up z = λ (z : ℕ). ap (λ (l : List ℕ). root_in l z) e ∙ halved_roots up F at first second h a b z in
    record {
      falls = subst Falls (sym e) (halved_falls up F at first second h a b);
      within = (let m = c.put.ensures.len in omega arith);
      here = roots second ∙ halved_here up F at first second a b ∙ c.climbing.invariant.here;
      roots = λ z. roots z ∙ c.climbing.invariant.roots z;
      len = c.put.ensures.len ∙ c.climbing.invariant.len;
      capacity = c.put.ensures.capacity ∙ c.climbing.invariant.capacity;
    }
