use Rattle.std.proofs.Common.{◌+◌, List, ℕ, sym, ◌∙◌, subst}
use Rattle.std.proofs.lemmas.Bool.{false≢true}
use Rattle.mesh_model.specs.BitSet.{HasBit}
use Rattle.mesh_model.proofs.Filters.{KeepsHashes, KeepsHashes-none, KeepsHashes-kept, KeepsHashes-new}
use Rattle.mesh_model.proofs.row_filter.kept_hashes.Goals as goal

pub loop-i-init : goal.loop-i-init
loop-i-init c =
    subst (λ (kept : List ℕ). KeepsHashes c.args.hashes.now c.args.mask 0 c.args.words.now kept) (sym c.new-kept.ensures.items)
    (KeepsHashes-none c.args.hashes.now c.args.mask c.args.words.now)

pub loop-i-preserved-then-not-was : goal.loop-i-preserved-then-not-was
loop-i-preserved-then-not-was c =
    let hashes = c.args.hashes.now in
    let bucket = c.bucket_of.ensures.bucket in
    KeepsHashes-new hashes c.args.mask c.loop-i.i c.loop-i.words c.put_bit-was.new.words c.loop-i.kept.items c.loop-i.invariant c.put_bit-was.ensures.others
    (subst (HasBit c.put_bit-was.new.words) bucket c.put_bit-was.ensures.there)
    (λ has. false≢true (sym c.if-not-was.true ∙ c.put_bit-was.ensures.was.1 (subst (HasBit c.loop-i.words) (sym bucket) has)))

pub loop-i-preserved : goal.loop-i-preserved
loop-i-preserved c =
    let hashes = c.args.hashes.now in
    let i = c.loop-i.i in
    let after = c.put_bit-was.new.words in
    subst (λ (kept : List ℕ). KeepsHashes hashes c.args.mask (i + 1) after kept) (sym c.in_ok-push.ensures.items)
    (KeepsHashes-kept hashes c.args.mask i c.loop-i.words after c.loop-i.kept.items c.loop-i.invariant c.put_bit-was.ensures.others
    (subst (HasBit after) c.bucket_of.ensures.bucket c.put_bit-was.ensures.there))
