use Rattle.std.proofs.lemmas.Result.{on_ok_weaker}
use Rattle.ply_mesh.proofs.Printing.{AllBut-parts, Prefix-parts, Prefix-first, Prefix-then, all-then, ply_parts}
use Rattle.ply_mesh.proofs.texts.print.Goals as goal

pub returns-in_err-held-clause-prefix : goal.returns-in_err-held-clause-prefix
returns-in_err-held-clause-prefix g c =
    Prefix-first _ _ _ _ _ (ply_parts c.args.g.now c.args.header.now c.requires) c.in_err-held.ensures.text

pub returns-in_err-held-2-clause-prefix : goal.returns-in_err-held-2-clause-prefix
returns-in_err-held-2-clause-prefix g c =
    Prefix-parts _ _ _ _ _ _ _ (ply_parts c.args.g.now c.args.header.now c.requires) c.in_ok-held.ensures.text c.in_err-held-2.ensures.text

pub returns-clause-all : goal.returns-clause-all
returns-clause-all g c =
    let put = AllBut-parts _ _ _ _ _ _ _ _ (ply_parts c.args.g.now c.args.header.now c.requires) c.in_ok-held.ensures.text c.in_ok-held-2.ensures.text in
    on_ok_weaker c.write_all.result (λ rest. all-then _ _ _ _ _ put rest) c.write_all.ensures.all

pub returns-clause-prefix : goal.returns-clause-prefix
returns-clause-prefix g c =
    let put = AllBut-parts _ _ _ _ _ _ _ _ (ply_parts c.args.g.now c.args.header.now c.requires) c.in_ok-held.ensures.text c.in_ok-held-2.ensures.text in
    Prefix-then _ _ _ _ _ put c.write_all.ensures.prefix
