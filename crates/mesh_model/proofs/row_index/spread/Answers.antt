use Rattle.std.proofs.Common.{◌≡◌, ◌+◌, ◌-◌, ◌<◌, ℕ, get_or, length, replicate, refl, sym, ◌∙◌, subst, arith, rules}
use Rattle.std.specs.List.{All}
use Rattle.std.proofs.lemmas.List.Elements.{All-replicate}
use Rattle.std.proofs.lemmas.List.{get_or_past, length-set}
use Rattle.mesh_model.proofs.Spreads.{Spread-none, Spread-link, Spread-skip, spread_link-at}
use Rattle.mesh_model.proofs.row_index.spread.Goals as goal

pub loop-i-init : goal.loop-i-init
loop-i-init c =
    let is : c.in_ok-twins.twins.items ≡ replicate c.args.count 0 = c.in_ok-twins.ensures.items_if_clones_equal (λ y e. e) in
    let zeros : All (λ (t : ℕ). t ≡ 0) c.in_ok-twins.twins.items = subst (All (λ (t : ℕ). t ≡ 0)) (sym is) (All-replicate (λ (t : ℕ). t ≡ 0) c.args.count 0 refl) in
    record {
      spread = Spread-none c.args.chosen.now c.args.links.now c.in_ok-twins.twins.items zeros (λ p past. get_or_past c.in_ok-twins.twins.items p 0 past);
      long = search rules;
    }

pub loop-i-preserved-then-link-eq0 : goal.loop-i-preserved-then-link-eq0
loop-i-preserved-then-link-eq0 c = record {
  spread = Spread-skip c.args.chosen.now c.args.links.now c.loop-i.twins.items c.loop-i.i c.loop-i.invariant.spread c.requires.rising c.loop-i-test.true c.if-link-eq0.true;
  long = c.loop-i.invariant.long;
}

pub loop-i-preserved : goal.loop-i-preserved
loop-i-preserved c =
    let chosen = c.args.chosen.now in
    let links = c.args.links.now in
    let i = c.loop-i.i in
    let twins = c.loop-i.twins.items in
    let link = get_or links i 0 in
    let p = get_or chosen i 0 in
    let within : p < length twins = omega (arith, c.requires.chosen i 0 c.loop-i-test.true, c.loop-i.invariant.long) in
    let some : 0 < link = omega arith in
    record {
      spread = Spread-link chosen links twins i (get_or chosen (link - 1) 0 + 1) c.loop-i.invariant.spread c.requires.rising c.loop-i-test.true within (sym (spread_link-at chosen link some));
      long = length-set twins p (get_or chosen (link - 1) 0 + 1) ∙ c.loop-i.invariant.long;
    }
