use Rattle.std.proofs.Common.{ℕ, get_or, take, subst}
use Rattle.std.specs.List.{All}
use Rattle.std.proofs.lemmas.List.{take_all}
use Rattle.std.proofs.lemmas.List.Elements.{All-more, All-weaker}
use Rattle.mesh_model.specs.BitSet.{HasBit}
use Rattle.mesh_model.specs.Hash.{sieve_of}
use Rattle.mesh_model.proofs.row_filter.put_kept.Goals as goal

pub loop-i-preserved : goal.loop-i-preserved
loop-i-preserved c =
    let hashes = c.args.hashes.now in
    let mask = c.args.mask in
    let kept = c.args.kept.now in
    let at = c.loop-i.i-index in
    let before = c.loop-i.words in
    let after = c.put_bit-was.new.words in
    All-more (λ (p : ℕ). HasBit after (sieve_of mask (get_or hashes p 0))) kept at 0 c.loop-i-test.true
    (All-weaker (λ (p : ℕ). HasBit before (sieve_of mask (get_or hashes p 0))) (λ (p : ℕ). HasBit after (sieve_of mask (get_or hashes p 0)))
    (λ p has. c.put_bit-was.ensures.others (sieve_of mask (get_or hashes p 0)) has) (take at kept) c.loop-i.invariant)
    (subst (HasBit after) c.sieve_of.ensures.bucket c.put_bit-was.ensures.there)

pub returns : goal.returns
returns c =
    subst (All (λ (p : ℕ). HasBit c.loop-i.words (sieve_of c.args.mask (get_or c.args.hashes.now p 0))))
    (take_all c.loop-i.i-index c.args.kept.now c.loop-i-test.false) c.loop-i.invariant
