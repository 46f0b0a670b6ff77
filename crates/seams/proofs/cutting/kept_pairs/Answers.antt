-- Each turn adds the entry of one side.
use Rattle.std.proofs.Common.{◌≡◌, ℕ, ◌+◌, ◌*◌, sym, subst, arith}
use Rattle.corner_table.specs.Table.{glued_in}
use Rattle.seams.specs.Seams.{flag_at, unseamed}
use Rattle.seams.specs.Pairs.{TellPairs}
use Rattle.seams.proofs.Kept.{tell_more, kept_told}
use Rattle.seams.proofs.cutting.kept_pairs.Goals as goal

pub loop-side-preserved : goal.loop-side-preserved
loop-side-preserved c =
    let h = unseamed (flag_at c.args.seam.now) (glued_in c.args.across.now) in
    record {
      pairs = subst (TellPairs h (c.loop-side.side + 1)) (sym c.push_reserved.ensures.items)
          (tell_more h c.loop-side.side c.kept_entry.result c.loop-side.pairs.items c.loop-side.invariant.pairs c.kept_entry.ensures);
      len = omega arith;
      room = omega arith;
    }

pub returns : goal.returns
returns c =
    let n = c.loop-side-test.false in
    let e = c.loop-side.auto.side-end in
    let all : c.loop-side.side ≡ 3 * c.args.faces = omega arith in
    let g = glued_in c.args.across.now in
    let T = subst (λ (k : ℕ). TellPairs (unseamed (flag_at c.args.seam.now) g) k c.loop-side.pairs.items) all c.loop-side.invariant.pairs in
    let told = kept_told c.args.faces g c.args.seam.now c.loop-side.pairs.items c.requires.gluing c.requires.flags T in
    record { each = T.each; pairs = told.0; gluing = told.1 }
