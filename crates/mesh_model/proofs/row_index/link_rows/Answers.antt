use Rattle.std.proofs.Common.{◌≡◌, ◌+◌, get_or, length, set, sym, ◌∙◌, ap, subst, arith, rules}
use Rattle.std.proofs.lemmas.List.{length_push}
use Rattle.mesh_model.specs.RowIndex.{rows_at, row_bucket, AreChained}
use Rattle.mesh_model.proofs.Hashes.{bucket-chosen}
use Rattle.mesh_model.proofs.Indexes.{IsIndex, IsIndex-more}
use Rattle.mesh_model.proofs.row_index.link_rows.Goals as goal

pub loop-i-preserved : goal.loop-i-preserved
loop-i-preserved c =
    let chosen = c.args.chosen.now in
    let mask = c.args.mask in
    let tops = c.loop-i.tops in
    let links = c.loop-i.links.items in
    let i = c.loop-i.i in
    let bucket = c.bucket_of-bucket.result in
    record {
      index = λ rows are.
          let at : bucket ≡ row_bucket (rows_at rows chosen) mask i =
          c.bucket_of-bucket.ensures.bucket ∙ bucket-chosen rows c.args.hashes.now chosen mask i are c.requires.chosen (search rules) in
          subst (λ ls. IsIndex (rows_at rows chosen) mask (i + 1) (set tops bucket (i + 1)) ls) (sym c.push_reserved.ensures.items)
          (IsIndex-more (rows_at rows chosen) mask i tops links bucket (c.loop-i.invariant.index rows are) (search rules) c.bucket_of-bucket.ensures.bound at);
      long = ap length c.push_reserved.ensures.items ∙ length_push links (get_or tops bucket 0) ∙ ap (λ n. n + 1) c.loop-i.invariant.long;
      room = search rules;
    }

pub returns-clause-chains : goal.returns-clause-chains
returns-clause-chains c =
    let at : c.loop-i.i ≡ length c.args.chosen.now = omega arith in λ rows are. record {
      mask = c.args.mask;
      linked = subst (λ n. AreChained (rows_at rows c.args.chosen.now) c.args.mask n c.loop-i.links.items) at (c.loop-i.invariant.index rows are).linked;
    }
