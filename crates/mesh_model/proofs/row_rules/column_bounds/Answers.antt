use Rattle.std.proofs.Common.{◌≡◌, ℕ, List, ◌+◌, ◌-◌, ◌≤◌, ◌++◌, length, take, drop, replicate, true, sym, subst, ap, ◌∙◌, arith}
use Rattle.std.proofs.lemmas.List.{length-take, length-drop}
use Rattle.std.proofs.lemmas.Slice.{take-put_mid}
use Rattle.attr_heads.specs.declared.heads.Head.{Head}
use Rattle.attr_heads.specs.Octahedra.{has_square_bits}
use Rattle.attr_heads.specs.Bounds.{bounds_of}
use Rattle.attr_heads.proofs.Passing.{heads_say}
use Rattle.attr_heads.specs.Head.{row_bounds, width_of}
use Rattle.attr_heads.proofs.Widths.{row_bounds-more, width_of-more, width_of-take_le}
use Rattle.mesh_model.proofs.row_rules.column_bounds.Goals as goal

-- the length of the part from `at` on for n elements
length-part : {X : Type 0} (at n : ℕ) (xs : List X) → at + n ≤ length xs → length (take (at + n - at) (drop at xs)) ≡ n
length-part at n xs fits = simp (length-take, length-drop) (omega arith)

-- the square of a head that passes, where it has one, may have its bits
pub bounds-requires : goal.bounds-requires
bounds-requires c =
    let say = heads_say c.args.heads.now c.requires.heads in
    subst (λ (h : Head). has_square_bits h.octa ≡ true) (sym c.head-item.is)
    (say.each c.loop-head.head-index c.head-item.result c.loop-head-test.true).square

pub loop-head-preserved : goal.loop-head-preserved
loop-head-preserved c =
    let heads = c.args.heads.now in
    let i = c.loop-head.head-index in
    let h = c.head-item.result in
    let at = c.loop-head.at in
    let inside = c.loop-head-test.true in
    let is = c.head-item.is in
    let wider : width_of (take (i + 1) heads) ≡ at + h.comps = omega (arith, width_of-more heads i h inside is, c.loop-head.invariant.0) in
    let fits : at + h.comps ≤ 128 = omega (arith, wider, width_of-take_le heads (i + 1), c.requires.width) in
    let part = length-part at h.comps c.loop-head.bounds (omega arith) in
    let long : length c.fill.new.self ≡ h.comps = c.fill.ensures.len ∙ part in
    let filled : c.fill.new.self ≡ replicate h.comps (bounds_of h) = c.fill.ensures.after (λ y same. same) ∙ ap (λ b. replicate (length (take (at + h.comps - at) (drop at c.loop-head.bounds))) b) c.bounds.ensures ∙ ap (λ n. replicate n (bounds_of h)) part in (
      sym wider,
      take-put_mid at _ c.loop-head.bounds c.fill.new.self (at + h.comps) (omega arith) (omega arith)
          ∙ ap (λ xs. xs ++ c.fill.new.self) c.loop-head.invariant.1
          ∙ ap (λ ys. row_bounds (take i heads) ++ ys) filled
          ∙ sym (row_bounds-more heads i h inside is),
    )
