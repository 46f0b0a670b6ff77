-- There is room, and the side is on top.
use Rattle.std.proofs.Common.{◌<◌, ◌∷◌, length, sym, ap, subst, ◌∙◌, arith, add-one}
use Rattle.eb_rebuild.specs.Kept.{StackValue}
use Rattle.eb_rebuild.proofs.Lists.{length-counted_down}
use Rattle.eb_rebuild.proofs.side_stack.SideStack.push.Goals as goal

pub put-requires-clause-room : goal.put-requires-clause-room
put-requires-clause-room c =
    let P : StackValue → Type 0 = λ v. length v.sides < v.room in
    let h = subst P (sym c.self.view_is) c.requires in
    let e = length-counted_down 0 c.self.inside.height c.self.inside.sides.items in
    let r = c.self.invariant.2 in
    omega arith

pub overflow_add-self : goal.overflow_add-self
overflow_add-self c =
    let P : StackValue → Type 0 = λ v. length v.sides < v.room in
    let h = subst P (sym c.self.view_is) c.requires in
    let e = length-counted_down 0 c.self.inside.height c.self.inside.sides.items in
    omega arith

pub invariant_of-self : goal.invariant_of-self
invariant_of-self c =
    let P : StackValue → Type 0 = λ v. length v.sides < v.room in
    let h = subst P (sym c.self.view_is) c.requires in
    let e = length-counted_down 0 c.self.inside.height c.self.inside.sides.items in
    let l = c.put.ensures.len in
    let k = c.put.ensures.capacity in
    let i = c.self.invariant.0 in
    let j = c.self.invariant.1 in
    let r = c.self.invariant.2 in
    (omega arith, omega arith, omega arith)

pub returns-clause-sides : goal.returns-clause-sides
returns-clause-sides c = rw add-one (c.put.ensures.top ∙ ap (λ (v : StackValue). c.args.side ∷ v.sides) c.self.view_is)
