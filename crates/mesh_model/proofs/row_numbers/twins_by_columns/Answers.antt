-- The first rows as links.
use Rattle.std.proofs.Common.{◌≡◌, ◌++◌, ℕ, List, length, drop, take, sym, ap, ◌∙◌, subst, arith, rules}
use Rattle.std.proofs.lemmas.List.{take_at}
use Rattle.mesh_model.specs.RowIndex.{AreTwins}
use Rattle.mesh_model.specs.RowNumbers.{AreFirstRows}
use Rattle.mesh_model.proofs.RowNumbers.{firsts_are_twins}
use Rattle.mesh_model.proofs.row_numbers.twins_by_columns.Goals as goal

pub returns-clause-found : goal.returns-clause-found
returns-clause-found c =
    let table = c.args.rows.now.table in
    let firsts = c.in_ok-links.links.items in
    let links = c.link_firsts.new.firsts in
    let F : AreFirstRows table.rows table.width table.count firsts = rw c.width-width.ensures.value at c.in_ok-links.ensures.numbers in
    let given : c.as_mut_slice.result.now ≡ firsts = c.as_mut_slice.ensures.value in
    let many = ap (λ (l : List ℕ). length l) given in
    let all : length links ≡ length firsts = search rules in
    let whole : take c.in_ok-links.links.len (links ++ drop (length links) firsts) ≡ links = take_at links (drop (length links) firsts) c.in_ok-links.links.len (search rules) in
    let each = rw given at c.link_firsts.ensures in
    let e = F.each in
    let T : AreTwins table.rows table.count links = firsts_are_twins table.rows table.width table.count firsts links
    (λ p h. c.width-width.ensures.each p h) F (λ p h. each p (omega arith)) in
    subst (λ (l : List ℕ). AreTwins table.rows table.count l × (length l ≡ table.count)) (sym whole) (T, all ∙ e)
