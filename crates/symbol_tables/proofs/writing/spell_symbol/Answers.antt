use Rattle.std.proofs.Common.{◌≡◌, ℕ, ◌-◌, ◌+◌, ◌*◌, ◌++◌, ◌∷◌, [], ap, sym, ◌∙◌, arith, drop, get_or, append_assoc}
use Rattle.symbol_tables.specs.Tables.{probs_bytes, prob_bytes}
use Rattle.symbol_tables.proofs.Spelling.{probs_bytes-run, probs_bytes-zeros, probs_bytes-some}
use Rattle.symbol_tables.proofs.writing.spell_symbol.Goals as goal

pub returns-then-run-gt0-clause-bytes : goal.returns-then-run-gt0-clause-bytes
returns-then-run-gt0-clause-bytes c =
    ap (λ xs. c.args.out.now.items ++ xs) (probs_bytes-run c.args.probs.now c.args.s c.args.run (c.args.run - 1) c.requires.within (omega arith))

pub returns-then-probs-s-eq0-clause-bytes : goal.returns-then-probs-s-eq0-clause-bytes
returns-then-probs-s-eq0-clause-bytes c =
    let more : ℕ = c.run_from-more.result in
    let none : c.args.run ≡ 0 = omega arith in
    let rest = probs_bytes more (drop (c.args.s + 1) c.args.probs.now) in
    ap (λ r. c.args.out.now.items ++ probs_bytes r (drop c.args.s c.args.probs.now)) none
    ∙ ap (λ xs. c.args.out.now.items ++ xs) (probs_bytes-zeros c.args.probs.now c.args.s more c.requires.within c.if-probs-s-eq0.true c.run_from-more.ensures.run)
    ∙ sym (append_assoc c.args.out.now.items ((4 * more + 3) ∷ []) rest)
    ∙ ap (λ xs. xs ++ rest) (sym c.in_ok-push.ensures.items)

pub returns-clause-bytes : goal.returns-clause-bytes
returns-clause-bytes c =
    let none : c.args.run ≡ 0 = omega arith in
    let rest = probs_bytes 0 (drop (c.args.s + 1) c.args.probs.now) in
    let p : ℕ = get_or c.args.probs.now c.args.s 0 in
    ap (λ r. c.args.out.now.items ++ probs_bytes r (drop c.args.s c.args.probs.now)) none
    ∙ ap (λ xs. c.args.out.now.items ++ xs) (probs_bytes-some c.args.probs.now c.args.s c.requires.within (omega arith))
    ∙ sym (append_assoc c.args.out.now.items (prob_bytes p) rest)
    ∙ ap (λ xs. (c.args.out.now.items ++ xs) ++ rest) (sym (c.as_slice.ensures.value ∙ c.spell_prob.ensures))
    ∙ ap (λ xs. xs ++ rest) (sym c.in_ok-extend_from_slice.ensures.items)
