use Rattle.std.proofs.Common.{◌+◌, List, ℕ, get_or, sym, ◌∙◌, subst}
use Rattle.std.proofs.lemmas.Bool.{false≢true}
use Rattle.mesh_model.specs.BitSet.{HasBit}
use Rattle.mesh_model.specs.Hash.{sieve_of}
use Rattle.mesh_model.specs.RowIndex.{ArePassing}
use Rattle.mesh_model.proofs.Filters.{Passing-none, Passing-chosen, Passing-other}
use Rattle.mesh_model.proofs.row_filter.passing_hashes.Goals as goal

pub loop-i-init : goal.loop-i-init
loop-i-init c =
    let passes : ℕ → Type 0 = λ p. HasBit c.args.words.now (sieve_of c.args.mask (get_or c.args.hashes.now p 0)) in
    subst (λ (chosen : List ℕ). ArePassing passes 0 chosen) (sym c.new-chosen.ensures.items) (Passing-none passes)

pub loop-i-preserved-then-not-passes : goal.loop-i-preserved-then-not-passes
loop-i-preserved-then-not-passes c =
    let passes : ℕ → Type 0 = λ p. HasBit c.args.words.now (sieve_of c.args.mask (get_or c.args.hashes.now p 0)) in
    Passing-other passes c.loop-i.i c.loop-i.chosen.items c.loop-i.invariant
    (λ has. false≢true (sym c.if-not-passes.true ∙ c.has_bit-passes.ensures.1 (subst (HasBit c.args.words.now) (sym c.sieve_of.ensures.bucket) has)))

pub loop-i-preserved : goal.loop-i-preserved
loop-i-preserved c =
    let i = c.loop-i.i in
    let passes : ℕ → Type 0 = λ p. HasBit c.args.words.now (sieve_of c.args.mask (get_or c.args.hashes.now p 0)) in
    subst (λ (chosen : List ℕ). ArePassing passes (i + 1) chosen) (sym c.in_ok-push.ensures.items) (Passing-chosen passes i c.loop-i.chosen.items c.loop-i.invariant)
