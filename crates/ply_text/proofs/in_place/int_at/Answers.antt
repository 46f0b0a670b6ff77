use Rattle.std.proofs.Common.{ap, ◌∙◌, sym, drop, w32, rules, arith}
use Rattle.std.specs.Prelude.{Some}
use Rattle.std.proofs.lemmas.Int.{to_z-of_z, to_z_pos}
use Rattle.ply_text.specs.Tokens.{tokens_of}
use Rattle.ply_text.specs.Numbers.{first_integer}
use Rattle.ply_text.proofs.InPlace.{plus_at, minus_at}
use Rattle.ply_text.proofs.NoNumber.{same_tokens, outside_none, outside_above, outside_under}
use Rattle.ply_text.proofs.in_place.int_at.Goals as goal

pub returns-then-line-start-eq45-clause-first : goal.returns-then-line-start-eq45-clause-first
returns-then-line-start-eq45-clause-first c =
    let line = c.args.line.now in
    let found = c.in_ok-found in
    let e = minus_at line c.token_start-start.result found.found.1 found.found.0 c.if-line-start-eq45.true found.ensures.digits found.ensures.some found.ensures.within found.ensures.stops in
    ap first_integer c.token_start-start.ensures.same ∙ e ∙ ap (λ z. Some (z, tokens_of (drop found.found.1 line))) (sym c.negated.ensures ∙ sym (to_z-of_z w32 c.negated.result (search rules)))

pub returns-clause-first : goal.returns-clause-first
returns-clause-first c =
    let line = c.args.line.now in
    let found = c.in_ok-found-2 in
    let e = plus_at line c.token_start-start.result found.found.1 found.found.0 found.ensures.digits found.ensures.some found.ensures.within found.ensures.stops in
    ap first_integer c.token_start-start.ensures.same ∙ e ∙ ap (λ z. Some (z, tokens_of (drop found.found.1 line))) (sym (to_z_pos w32 found.found.0 (omega (arith, found.ensures.few))))

pub returns-then-start-line-clause-none : goal.returns-then-start-line-clause-none
returns-then-start-line-clause-none c =
    let line = c.args.line.now in
    same_tokens c.args.below c.args.most (tokens_of (drop c.args.place line)) (tokens_of (drop c.token_start-start.result line)) c.token_start-start.ensures.same
    (outside_none c.args.below c.args.most line c.token_start-start.result (omega arith))

pub returns-in_err-found-clause-none : goal.returns-in_err-found-clause-none
returns-in_err-found-clause-none c =
    let line = c.args.line.now in
    let start = c.token_start-start.result in
    rw c.from_residual.ensures
    (same_tokens c.args.below c.args.most (tokens_of (drop c.args.place line)) (tokens_of (drop start line)) c.token_start-start.ensures.same
    (outside_under c.args.below c.args.most line start (omega arith) (c.token_start-start.ensures.solid (omega arith)) c.if-line-start-eq45.true c.in_err-found.ensures.none))

pub returns-in_err-found-2-clause-none : goal.returns-in_err-found-2-clause-none
returns-in_err-found-2-clause-none c =
    let line = c.args.line.now in
    let start = c.token_start-start.result in
    rw c.from_residual-in_err-found-2.ensures
    (same_tokens c.args.below c.args.most (tokens_of (drop c.args.place line)) (tokens_of (drop start line)) c.token_start-start.ensures.same
    (outside_above c.args.below c.args.most line start (omega arith) (c.token_start-start.ensures.solid (omega arith)) c.if-line-start-eq45.false c.in_err-found-2.ensures.none))
