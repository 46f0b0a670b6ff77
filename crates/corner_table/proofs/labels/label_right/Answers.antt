-- The walk goes on by one corner, and ends.
use Rattle.std.proofs.Common.{◌≡◌, sym, refl, ◌∙◌, arith}
use Rattle.corner_table.specs.Table.{free_entry}
use Rattle.corner_table.proofs.Labelling.{fewer_unlabelled, right_begins, right_steps_at, right_meets_at, right_ends}
use Rattle.corner_table.proofs.labels.label_right.Goals as goal

pub rightwards-init : goal.rightwards-init
rightwards-init c = record {
  len = refl;
  within = c.requires.start;
  walk = λ before R D. right_begins _ _ before _ _ D;
  looks = c.requires.looks;
}

pub returns-in-None-clause-right : goal.returns-in-None-clause-right
returns-in-None-clause-right c = λ before R D. right_ends _ _ before _ _ _ (c.rightwards.invariant.walk before R D) (sym c.in-None.ensures.corner)

pub returns-then-label_of-clause-right : goal.returns-then-label_of-clause-right
returns-then-label_of-clause-right c = λ before R D.
    right_meets_at _ _ before _ _ c.rightwards.at c.in-Some.found _ R (c.rightwards.invariant.walk before R D) c.in-Some.ensures.corner c.label_of.ensures c.if-label_of.true

pub rightwards-preserved : goal.rightwards-preserved
rightwards-preserved c = record {
  len = c.rightwards.invariant.len;
  within = c.in-Some.ensures.within;
  walk = λ before R D. right_steps_at c.requires.gluing _ before _ _ c.rightwards.at c.in-Some.found R (c.rightwards.invariant.walk before R D) c.in-Some.ensures.corner
      (let w = c.in-Some.ensures.within in let l = c.rightwards.invariant.len in omega arith) (sym c.if-label_of.false ∙ c.label_of.ensures);
  looks =
      (let u = fewer_unlabelled c.rightwards.labels.items c.in-Some.found c.args.label (let w = c.in-Some.ensures.within in let l = c.rightwards.invariant.len in let r = c.requires.room in omega arith)
      (sym (sym c.if-label_of.false ∙ c.label_of.ensures)) (λ (e : c.args.label ≡ free_entry). (let r = c.requires.real in omega arith)) in
      let i = c.rightwards.invariant.looks in let t = c.in-Some.ensures.look in omega arith);
}

pub rightwards-smaller : goal.rightwards-smaller
rightwards-smaller c =
    let u = fewer_unlabelled c.rightwards.labels.items c.in-Some.found c.args.label (let w = c.in-Some.ensures.within in let l = c.rightwards.invariant.len in let r = c.requires.room in omega arith)
    (sym (sym c.if-label_of.false ∙ c.label_of.ensures)) (λ (e : c.args.label ≡ free_entry). (let r = c.requires.real in omega arith)) in
    omega arith
