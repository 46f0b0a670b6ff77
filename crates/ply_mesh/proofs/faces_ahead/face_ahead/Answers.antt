use Rattle.std.proofs.Common.{◌≡◌, ◌<◌, ℕ, true, pos, subst, rules, arith}
use Rattle.attr_heads.specs.Bounds.{in_bounds}
use Rattle.ply_text.specs.InPlace.{IsNumberAt}
use Rattle.ply_mesh.proofs.AheadSteps.{face_is_ahead}
use Rattle.ply_mesh.proofs.faces_ahead.face_ahead.Goals as goal

pub returns : goal.returns
returns c =
    let text = c.args.text.now in
    let points = c.args.points in
    let n = c.in_ok-n in
    let a = c.in_ok-a in
    let b = c.in_ok-b in
    let d = c.in_ok-c in
    let three : n.n.0 ≡ 3 = search rules in
    let counted : IsNumberAt text 0 n.n.1 (pos 3) = subst (λ (k : ℕ). IsNumberAt text 0 n.n.1 (pos k)) three n.ensures.number in
    let most : in_bounds c.args.counts (pos 3) ≡ true = subst (λ (k : ℕ). in_bounds c.args.counts (pos k) ≡ true) three n.ensures.bounds in
    let below_a : a.a.0 < points = omega arith in
    let below_b : b.b.0 < points = omega arith in
    let below_c : d.c.0 < points = omega arith in
    face_is_ahead c.args.list points text n.n.1 a.a.1 b.b.1 d.c.1 c.args.counts c.args.indices a.a.0 b.b.0 d.c.0 c.requires.counts c.requires.indices most
    counted n.ensures.end a.ensures.number a.ensures.end b.ensures.number b.ensures.end d.ensures.number d.ensures.more d.ensures.end
    a.ensures.bounds b.ensures.bounds d.ensures.bounds below_a below_b below_c
