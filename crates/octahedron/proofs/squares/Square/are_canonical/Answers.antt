use Rattle.std.proofs.Common.{rules, ◌<◌, length, sym, subst, arith, IsTrue, false}
use Rattle.std.specs.Prelude.{All}
use Rattle.std.proofs.lemmas.List.{take_all}
use Rattle.std.proofs.lemmas.List.Elements.{All-more}
use Rattle.octahedron.specs.declared.points.Point.{Point}
use Rattle.octahedron.specs.Square.{IsValue, IsCanonicalValue}
use Rattle.octahedron.specs.Pairs.{pairs_of}
use Rattle.octahedron.proofs.Listed.{item-is, length-pairs}
use Rattle.octahedron.proofs.squares.Square.are_canonical.Goals as goal

pub is_canonical-requires : goal.is_canonical-requires
is_canonical-requires c =
    let there : c.loop-e.e < length (pairs_of c.args.integers.now) = omega (arith, length-pairs c.args.integers.now) in
    let item = item-is c.args.integers.now c.loop-e.e c.pair_at.result c.loop-e-test.true c.pair_at.ensures in
    subst (λ (p : Point). IsValue c.args.self.centre p) item (c.requires c.loop-e.e c.pair_at.result there)

pub returns-then-not-is_canonical : goal.returns-then-not-is_canonical
returns-then-not-is_canonical c =
    let there : c.loop-e.e < length (pairs_of c.args.integers.now) = omega (arith, length-pairs c.args.integers.now) in
    let item = item-is c.args.integers.now c.loop-e.e c.pair_at.result c.loop-e-test.true c.pair_at.ensures in
    let never : IsCanonicalValue c.args.self.centre c.pair_at.result → IsTrue false = search rules in (
      λ no. search rules,
      λ canonical. never (subst (λ (p : Point). IsCanonicalValue c.args.self.centre p) item (canonical c.loop-e.e c.pair_at.result there)),
    )

pub loop-e-preserved : goal.loop-e-preserved
loop-e-preserved c =
    let there : c.loop-e.e < length (pairs_of c.args.integers.now) = omega (arith, length-pairs c.args.integers.now) in
    let item = item-is c.args.integers.now c.loop-e.e c.pair_at.result c.loop-e-test.true c.pair_at.ensures in
    let here : IsCanonicalValue c.args.self.centre c.pair_at.result = search rules in
    All-more (IsCanonicalValue c.args.self.centre) (pairs_of c.args.integers.now) c.loop-e.e c.pair_at.result there c.loop-e.invariant
    (subst (λ (p : Point). IsCanonicalValue c.args.self.centre p) (sym item) here)

pub returns : goal.returns
returns c =
    let all = take_all c.loop-e.e (pairs_of c.args.integers.now) (omega (arith, length-pairs c.args.integers.now)) in
    (λ yes. subst (All (IsCanonicalValue c.args.self.centre)) all c.loop-e.invariant, λ canonical. search rules)
