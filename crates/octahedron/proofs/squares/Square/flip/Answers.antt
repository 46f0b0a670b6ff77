use Rattle.std.proofs.Common.{◌≡◌, ◌∙◌, ℤ, sym, arith}
use Rattle.std.proofs.lemmas.Int.{ints}
use Rattle.octahedron.specs.declared.points.Point.{Point}
use Rattle.octahedron.specs.Square.{IsIn, flip}
use Rattle.octahedron.proofs.Flipping.{flip-first, flip-last, flip-last', flip-right, flip-left, flip_inside, point-same}
use Rattle.octahedron.proofs.squares.Square.flip.Goals as goal

both : (k : ℤ) (p q : Point) → IsIn k p → q ≡ flip k p → record { value : q ≡ flip k p; inside : IsIn k q }
both k p q inside is = record { value = is; inside = flip_inside k p q inside is }

pub returns-then-t-lt0 : goal.returns-then-t-lt0
returns-then-t-lt0 c =
    both c.args.self.centre c.args.p c.point_at.result c.requires
    (c.point_at.ensures ∙ point-same _ _ _ _ (omega (arith, ints)) (omega (arith, ints))
    ∙ sym (flip-right c.args.self.centre c.args.p (omega (arith, ints)) (omega (arith, ints))))

pub returns-else-t-lt0 : goal.returns-else-t-lt0
returns-else-t-lt0 c =
    both c.args.self.centre c.args.p c.point_at-else-t-lt0.result c.requires
    (c.point_at-else-t-lt0.ensures ∙ point-same _ _ _ _ (omega (arith, ints)) (omega (arith, ints))
    ∙ sym (flip-first c.args.self.centre c.args.p (omega (arith, ints)) (omega (arith, ints))))

pub returns-then-t-gt0 : goal.returns-then-t-gt0
returns-then-t-gt0 c =
    both c.args.self.centre c.args.p c.point_at-then-t-gt0.result c.requires
    (c.point_at-then-t-gt0.ensures ∙ point-same _ _ _ _ (omega (arith, ints)) (omega (arith, ints))
    ∙ sym (flip-left c.args.self.centre c.args.p (omega (arith, ints)) (omega (arith, ints))))

pub returns-else-t-gt0 : goal.returns-else-t-gt0
returns-else-t-gt0 c =
    both c.args.self.centre c.args.p c.point_at-else-t-gt0.result c.requires
    (c.point_at-else-t-gt0.ensures ∙ point-same _ _ _ _ (omega (arith, ints)) (omega (arith, ints))
    ∙ sym (flip-last' c.args.self.centre c.args.p (omega (arith, ints)) (omega (arith, ints))))

pub returns-then-t-lt0-2 : goal.returns-then-t-lt0-2
returns-then-t-lt0-2 c =
    both c.args.self.centre c.args.p c.point_at-then-t-lt0-2.result c.requires
    (c.point_at-then-t-lt0-2.ensures ∙ point-same _ _ _ _ (omega (arith, ints)) (omega (arith, ints))
    ∙ sym (flip-last c.args.self.centre c.args.p (omega (arith, ints)) (omega (arith, ints))))

pub returns-else-t-lt0-2 : goal.returns-else-t-lt0-2
returns-else-t-lt0-2 c =
    both c.args.self.centre c.args.p c.point_at-else-t-lt0-2.result c.requires
    (c.point_at-else-t-lt0-2.ensures ∙ point-same _ _ _ _ (omega (arith, ints)) (omega (arith, ints))
    ∙ sym (flip-first c.args.self.centre c.args.p (omega (arith, ints)) (omega (arith, ints))))
