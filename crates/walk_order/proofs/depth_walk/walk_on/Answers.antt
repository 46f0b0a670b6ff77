-- A turn of the loop is a turn of the walk.
use Rattle.std.proofs.Common.{◌≡◌, ℕ, ◌*◌, ◌<◌, length, Some, sym, subst, ◌∙◌, arith}
use Rattle.std.specs.Option.{IfSome}
use Rattle.std.proofs.lemmas.List.Elements.{All-nil, All-same, All-pop}
use Rattle.walk_order.specs.Stored.{gluing_in, marked_walk}
use Rattle.walk_order.proofs.Walking.{stored_few, nothing_in, comes_first, comes_next, comes_back, comes_to_end, falls_on, falls_back}
use Rattle.walk_order.proofs.depth_walk.walk_on.Goals as goal

pub walking-init : goal.walking-init
walking-init c =
    let e : length c.args.stack.now.items ≡ 0 = omega arith in
    record {
      within = c.requires.corner;
      stored = c.requires.stored;
      stack = All-same (λ (k : ℕ). k < 3 * c.args.s.now.faces) _ _ (nothing_in _ e) (All-nil (λ (k : ℕ). k < 3 * c.args.s.now.faces));
      same = comes_first _ _ _ _ (marked_walk c.args.marks.now) c.args.start c.args.stack.now.items e;
    }

pub walking-smaller-in-Some : goal.walking-smaller-in-Some
walking-smaller-in-Some c =
    let f = falls_on (gluing_in c.args.s.now) c.args.s.now.labels.now c.args.s.now.ends.now (marked_walk c.walking.marks) (marked_walk c.visit.new.marks) c.walking.at c.in-Some.next c.walking.stack.items c.visit.new.stack.items c.in_ok-next.field-0 c.in_ok-next.ensures.turn c.in-Some.is in
    omega arith

pub walking-preserved-in-Some : goal.walking-preserved-in-Some
walking-preserved-in-Some c = record {
  within = subst (λ (o : _). IfSome o (λ (k : ℕ). k < 3 * c.args.s.now.faces)) c.in-Some.is c.in_ok-next.ensures.within;
  stored = c.in_ok-next.ensures.stored;
  stack = c.in_ok-next.ensures.stack;
  same = c.walking.invariant.same
      ∙ comes_next (gluing_in c.args.s.now) c.args.s.now.labels.now c.args.s.now.ends.now c.args.s.now.faces (marked_walk c.walking.marks) (marked_walk c.visit.new.marks) c.walking.at c.in-Some.next c.walking.stack.items c.visit.new.stack.items c.in_ok-next.field-0
      (stored_few c.walking.invariant.stored) c.in_ok-next.ensures.turn c.in-Some.is;
}

pub walking-smaller : goal.walking-smaller
walking-smaller c =
    let f = falls_back (gluing_in c.args.s.now) c.args.s.now.labels.now c.args.s.now.ends.now (marked_walk c.walking.marks) (marked_walk c.visit.new.marks) c.walking.at c.walking.stack.items c.visit.new.stack.items c.in_ok-next.field-0 c.in_ok-next.ensures.turn in
    let p = c.in-Some-pop.ensures.cases in
    omega arith

pub walking-preserved : goal.walking-preserved
walking-preserved c =
    let p = All-pop (λ (k : ℕ). k < 3 * c.args.s.now.faces) _ _ (Some c.in-Some-pop.last) c.in-Some-pop.ensures.items c.in_ok-next.ensures.stack in
    record {
      within = p.1;
      stored = c.in_ok-next.ensures.stored;
      stack = p.0;
      same = c.walking.invariant.same
          ∙ comes_back (gluing_in c.args.s.now) c.args.s.now.labels.now c.args.s.now.ends.now c.args.s.now.faces (marked_walk c.walking.marks) (marked_walk c.visit.new.marks) c.walking.at c.in-Some-pop.last c.walking.stack.items c.visit.new.stack.items c.pop.new.self.items c.in_ok-next.field-0
          (stored_few c.walking.invariant.stored) c.in_ok-next.ensures.turn c.in-None.is c.in-Some-pop.ensures.items;
    }

pub returns-in-None-pop-clause-walk : goal.returns-in-None-pop-clause-walk
returns-in-None-pop-clause-walk c =
    let p = c.in-None-pop.ensures.cases.0 in
    let e : length c.visit.new.stack.items ≡ 0 = omega arith in
    sym (c.walking.invariant.same
    ∙ comes_to_end (gluing_in c.args.s.now) c.args.s.now.labels.now c.args.s.now.ends.now c.args.s.now.faces (marked_walk c.walking.marks) (marked_walk c.visit.new.marks) c.walking.at c.walking.stack.items c.visit.new.stack.items c.in_ok-next.field-0
    (stored_few c.walking.invariant.stored) c.in_ok-next.ensures.turn c.in-None.is e)
