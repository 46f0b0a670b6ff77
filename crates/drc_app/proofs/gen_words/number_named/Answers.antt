use Rattle.std.proofs.Common.{sym, ◌∙◌, arith}
use Rattle.std.proofs.lemmas.Bool.{false≢true}
use Rattle.std.proofs.lemmas.Slice.Eq.{bytes_eq-Decides}
use Rattle.drc_app.proofs.Numbers.{number_parsed, number_unparsed, number_unlike}
use Rattle.drc_app.proofs.gen_words.number_named.Goals as goal

pub returns-in-Err : goal.returns-in-Err
returns-in-Err c = sym (number_unparsed c.args.word.now c.in-Err.field-0 c.in-Err.ensures.value.0)

pub returns-then-eq : goal.returns-then-eq
returns-then-eq c =
    let same = (bytes_eq-Decides c.format.result.now c.args.word.now).0 (sym c.eq.ensures ∙ c.if-eq.true) in
    sym (number_parsed c.args.word.now c.in-Ok.number (omega arith) (sym c.format.ensures.text ∙ same))

pub returns : goal.returns
returns c = sym (number_unlike c.args.word.now c.in-Ok.number c.in-Ok.ensures.value.0 (λ same. false≢true (
    sym (sym c.eq.ensures ∙ c.if-eq.false)
    ∙ (bytes_eq-Decides c.format.result.now c.args.word.now).1 (c.format.ensures.text ∙ same))))
