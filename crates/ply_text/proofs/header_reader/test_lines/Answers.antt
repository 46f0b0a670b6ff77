use Rattle.std.proofs.Common.{ℕ, List, length, map, refl, sym, ap, subst, ◌∙◌, arith}
use Rattle.std.proofs.lemmas.Result.{err_from_is_err_and}
use Rattle.ply_text.specs.Tokens.{tokens_of}
use Rattle.ply_text.specs.DeclaredLines.{OutlineParts, declared_from}
use Rattle.ply_text.specs.Header.{no_draft}
use Rattle.ply_text.proofs.OutlineSteps.{Declares, declares_all, declares_end, declares_fault, declares_next, no_detail}
use Rattle.ply_text.proofs.header_reader.test_lines.Goals as goal

pub loop-line-init : goal.loop-line-init
loop-line-init c =
    let lines = map tokens_of c.args.lines.now in
    record {
      declares = subst (λ (o : OutlineParts). Declares c.args.profile.number 2 o lines (declared_from c.args.profile.number 2 no_draft lines)) (sym c.none-outline.ensures) (declares_all c.args.profile.number lines);
      room = refl;
    }

pub returns-then-is_outline_end : goal.returns-then-is_outline_end
returns-then-is_outline_end c =
    let due = declared_from c.args.profile.number 2 no_draft (map tokens_of c.args.lines.now) in
    let line = tokens_of c.in-Some.line.now in
    let rest = map tokens_of c.next.new.self in
    let here = subst (λ (ls : List (List ℕ)). Declares c.args.profile.number c.loop-line.at c.loop-line.outline (map tokens_of ls) due) c.in-Some.ensures c.loop-line.invariant.declares in
    declares_end c.args.profile.number c.loop-line.at c.loop-line.outline line rest due here (λ heads properties. sym c.if-is_outline_end.true ∙ c.is_outline_end.ensures heads properties)

pub statement-requires : goal.statement-requires
statement-requires c =
    no_detail c.args.profile.number c.loop-line.outline (tokens_of c.in-Some.line.now) (λ heads properties. sym c.if-is_outline_end.false ∙ c.is_outline_end.ensures heads properties)

pub returns-in_err-statement : goal.returns-in_err-statement
returns-in_err-statement c =
    let due = declared_from c.args.profile.number 2 no_draft (map tokens_of c.args.lines.now) in
    let line = tokens_of c.in-Some.line.now in
    let rest = map tokens_of c.next.new.self in
    let here = subst (λ (ls : List (List ℕ)). Declares c.args.profile.number c.loop-line.at c.loop-line.outline (map tokens_of ls) due) c.in-Some.ensures c.loop-line.invariant.declares in
    let p = err_from_is_err_and c.from_residual.result c.from_residual.ensures.1 in
    rw (p.1, p.2) (declares_fault c.args.profile.number c.loop-line.at c.loop-line.outline c.statement.new.self line rest due _ here
    (λ heads properties. sym c.if-is_outline_end.false ∙ c.is_outline_end.ensures heads properties) c.in_err-statement.ensures)

pub loop-line-preserved : goal.loop-line-preserved
loop-line-preserved c =
    let due = declared_from c.args.profile.number 2 no_draft (map tokens_of c.args.lines.now) in
    let line = tokens_of c.in-Some.line.now in
    let rest = map tokens_of c.next.new.self in
    let here = subst (λ (ls : List (List ℕ)). Declares c.args.profile.number c.loop-line.at c.loop-line.outline (map tokens_of ls) due) c.in-Some.ensures c.loop-line.invariant.declares in
    record {
      declares = declares_next c.args.profile.number c.loop-line.at c.loop-line.outline c.statement.new.self line rest due _ here
          (λ heads properties. sym c.if-is_outline_end.false ∙ c.is_outline_end.ensures heads properties) c.in_ok-statement.ensures;
      room = omega (arith, ap length c.in-Some.ensures, c.loop-line.invariant.room);
    }
