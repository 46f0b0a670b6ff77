-- One side more, and all sides.
use Rattle.std.proofs.Common.{◌≡◌, ℕ, ◌/◌, ◌<◌, ◌≤◌, subst, ap, sym, ◌∙◌, get_or, length, List, arith, length-set}
use Rattle.std.proofs.lemmas.List.{get_or_read}
use Rattle.corner_table.specs.Sides.{next, side_at}
use Rattle.pairing.specs.Positions.{position_in}
use Rattle.first_items.specs.FirstItems.{AreFirstItems}
use Rattle.pairing.specs.Classes.{class_at, AreEdges}
use Rattle.pairing.proofs.Pushes.{rest_unwritten}
use Rattle.pairing.proofs.EdgeNumbers.{IsNextEdge, class_half, edge_counted, edges_more, classed_more}
use Rattle.pairing.proofs.ClassLists.{AreDirected, classes_are}
use Rattle.pairing.proofs.classes.classes_of.Goals as goal

pub loop-x-preserved : goal.loop-x-preserved
loop-x-preserved c =
    let t = c.loop-x-test.true in
    let end = c.loop-x.auto.x-end in
    let n = c.requires.triangles.each in
    let bl = c.in_ok-lows.ensures.each_low in
    let F : AreFirstItems c.in_ok-lows.lows.items c.in_ok-lows.highs.items c.in_ok-of.of.items = rw c.as_slice.ensures.value at c.in_ok-of.ensures in
    let ne = F.each in
    let l = c.loop-x.invariant.each in
    let counted = c.loop-x.invariant.counted in
    let in_edges : c.loop-x.x < length c.loop-x.of.items = omega arith in
    let in_lows : c.loop-x.x < length c.in_ok-lows.lows.items = omega arith in
    let was = c.loop-x.invariant.rest c.loop-x.x (omega arith) in
    let low = get_or_read c.in_ok-lows.lows.items c.loop-x.x c.index.result.now in_lows c.index.ensures 0 in
    let class : c.class_at.result ≡ class_at c.edge_of-edge.result (position_in c.args.numbers.now (next (side_at c.loop-x.x))) (get_or c.in_ok-lows.lows.items c.loop-x.x 0) =
    c.class_at.ensures
    ∙ ap (λ (s : ℕ). class_at c.edge_of-edge.result s c.index.result.now) c.start_of-start.ensures
    ∙ ap (class_at c.edge_of-edge.result (position_in c.args.numbers.now (next (side_at c.loop-x.x)))) low in
    let half : c.class_at.result / 2 ≡ c.edge_of-edge.result = ap (λ (k : ℕ). k / 2) class ∙ class_half c.edge_of-edge.result _ _ in
    let edge = rw c.as_slice-in-loop-x.ensures.value at c.edge_of-edge.ensures in
    let E : IsNextEdge c.in_ok-lows.lows.items c.in_ok-lows.highs.items c.in_ok-of.of.items c.loop-x.of.items c.loop-x.edges c.loop-x.x c.edge_of-edge.result c.class_at.result = record {
      inside = in_lows;
      each = omega arith;
      first_items = F;
      so_far = c.loop-x.invariant.edges_are;
      new = λ e. edge.new (was ∙ e);
      old = λ m. edge.old (λ e. m (sym was ∙ e)) ∙ ap (λ (i : ℕ). get_or c.loop-x.of.items i 0 / 2) was;
      half = half;
    } in
    let most : c.edge_of-edge.result ≤ c.loop-x.edges = edge_counted E in
    record {
      each = length-set c.loop-x.of.items c.loop-x.x c.class_at.result ∙ l;
      counted = (let m = c.max-edges.ensures in omega arith);
      edges_are = rw c.max-edges.ensures (edges_more E);
      class_is = classed_more (λ (k e : ℕ). class_at e (position_in c.args.numbers.now (next (side_at k))) (get_or c.in_ok-lows.lows.items k 0)) c.loop-x.of.items c.loop-x.x c.class_at.result in_edges
          (class ∙ ap (λ (e : ℕ). class_at e (position_in c.args.numbers.now (next (side_at c.loop-x.x))) (get_or c.in_ok-lows.lows.items c.loop-x.x 0)) (sym half))
          c.loop-x.invariant.class_is;
      rest = rest_unwritten c.in_ok-of.of.items c.loop-x.of.items c.loop-x.x c.class_at.result c.loop-x.invariant.rest;
    }

pub returns-clause-classes : goal.returns-clause-classes
returns-clause-classes c =
    let t = c.loop-x-test.false in
    let e = c.loop-x.auto.x-end in
    let n = c.requires.triangles.each in
    let l = c.loop-x.invariant.each in
    let ne = c.in_ok-of.ensures.each in
    let av = ap (λ (l : List ℕ). length l) c.as_slice.ensures.value in
    let bl = c.in_ok-lows.ensures.each_low in
    let D : AreDirected c.args.faces c.args.numbers.now c.in_ok-lows.lows.items c.in_ok-lows.highs.items c.in_ok-of.of.items c.loop-x.of.items c.loop-x.edges = record {
      triangles = c.requires.triangles;
      bounds = c.in_ok-lows.ensures;
      first_items = rw c.as_slice.ensures.value at c.in_ok-of.ensures;
      edges = subst (AreEdges c.in_ok-of.of.items c.loop-x.of.items c.loop-x.edges) (omega arith) c.loop-x.invariant.edges_are;
      each = omega arith;
      class_is = λ k h. c.loop-x.invariant.class_is k (omega arith);
    } in
    classes_are D
