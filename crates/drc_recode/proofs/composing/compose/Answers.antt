use Rattle.std.proofs.Common.{◌≡◌, ◌≤◌, length, ap, ◌∙◌, sym, subst, arith}
use Rattle.std.proofs.lemmas.List.{take_all}
use Rattle.mesh_model.specs.Same.{Same}
use Rattle.mesh_model.specs.Renumbering.{composed}
use Rattle.drc_recode.proofs.composing.compose.Goals as goal

pub returns-clause-same : goal.returns-clause-same
returns-clause-same c =
    let a = c.args.a.now.rows in
    let b = c.args.b.now.rows in
    let whole : length b ≤ c.loop-row.row-index = omega (arith, ap length c.as_slice-row-items.ensures.items) in
    let is : c.from_vec.result ≡ composed a b = c.from_vec.ensures ∙ c.loop-row.invariant ∙ ap (composed a) (take_all c.loop-row.row-index b whole) in
    λ g n o first second. subst (Same g o) (sym is) (c.same_is_an_equivalence.ensures.transitive g n o a b first second)
