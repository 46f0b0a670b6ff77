-- The stack's length is its height.
use Rattle.std.proofs.Common.{◌≤◌, length, sym, ap, subst, ◌∙◌, arith}
use Rattle.eb_rebuild.specs.Kept.{StackValue}
use Rattle.eb_rebuild.proofs.Lists.{length-counted_down}
use Rattle.eb_rebuild.proofs.side_stack.SideStack.len.Goals as goal

pub returns-clause-len : goal.returns-clause-len
returns-clause-len c = sym (length-counted_down 0 c.self.inside.height c.self.inside.sides.items) ∙ ap (λ (v : StackValue). length v.sides) c.self.view_is

pub returns-clause-room : goal.returns-clause-room
returns-clause-room c =
    let P : StackValue → Type 0 = λ v. length v.sides ≤ v.room in
    subst P c.self.view_is (let e = length-counted_down 0 c.self.inside.height c.self.inside.sides.items in let h = c.self.invariant.0 in omega arith)
