-- The walk begins at the start, goes on by one corner, and ends or comes round.
use Rattle.std.proofs.Common.{◌≡◌, sym, refl, ◌∙◌, arith}
use Rattle.corner_table.specs.Table.{free_entry}
use Rattle.corner_table.proofs.Labelling.{fewer_unlabelled, left_begins_at, left_steps_at, left_comes_round_at, left_ends}
use Rattle.corner_table.proofs.labels.label_left.Goals as goal

pub leftwards-init : goal.leftwards-init
leftwards-init c = record {
  len = refl;
  within = c.requires.start;
  walk = λ R. left_begins_at _ _ _ c.args.start R (omega arith);
  looks =
      (let u = fewer_unlabelled c.args.labels.now.items c.args.start c.args.label (let r = c.requires.room in let s = c.requires.start in omega arith) c.requires.fresh (λ (e : c.args.label ≡ free_entry). (let r = c.requires.real in omega arith)) in
      let l = c.requires.looks in omega arith);
}

pub returns-in-None-clause-left : goal.returns-in-None-clause-left
returns-in-None-clause-left c = λ R. left_ends _ _ _ _ _ _ (c.leftwards.invariant.walk R) (sym c.in-None.ensures.corner)

pub returns-then-label_of-clause-left : goal.returns-then-label_of-clause-left
returns-then-label_of-clause-left c = λ R.
    left_comes_round_at c.requires.gluing _ _ _ _ c.leftwards.at c.in-Some.found _ R (c.leftwards.invariant.walk R) c.in-Some.ensures.corner c.label_of.ensures c.if-label_of.true

pub leftwards-preserved : goal.leftwards-preserved
leftwards-preserved c = record {
  len = c.leftwards.invariant.len;
  within = c.in-Some.ensures.within;
  walk = λ R. left_steps_at c.requires.gluing _ _ _ _ c.leftwards.at c.in-Some.found R (c.leftwards.invariant.walk R) c.in-Some.ensures.corner
      (let w = c.in-Some.ensures.within in let l = c.leftwards.invariant.len in omega arith) (sym c.if-label_of.false ∙ c.label_of.ensures);
  looks =
      (let u = fewer_unlabelled c.leftwards.labels.items c.in-Some.found c.args.label (let w = c.in-Some.ensures.within in let l = c.leftwards.invariant.len in let r = c.requires.room in omega arith)
      (sym (sym c.if-label_of.false ∙ c.label_of.ensures)) (λ (e : c.args.label ≡ free_entry). (let r = c.requires.real in omega arith)) in
      let i = c.leftwards.invariant.looks in let t = c.in-Some.ensures.look in omega arith);
}

pub leftwards-smaller : goal.leftwards-smaller
leftwards-smaller c =
    let u = fewer_unlabelled c.leftwards.labels.items c.in-Some.found c.args.label (let w = c.in-Some.ensures.within in let l = c.leftwards.invariant.len in let r = c.requires.room in omega arith)
    (sym (sym c.if-label_of.false ∙ c.label_of.ensures)) (λ (e : c.args.label ≡ free_entry). (let r = c.requires.real in omega arith)) in
    omega arith
