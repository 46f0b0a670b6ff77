use Rattle.drc_base.specs.Profile.{profile_numbered}
use Rattle.std.proofs.Common.{◌≡◌, suc, ◌++◌, ◌+◌, [], sym, ◌∙◌, ap, arith}
use Rattle.std.proofs.lemmas.Result.{err_from_is_err_and}
use Rattle.std.proofs.lemmas.List.{nil_from_length}
use Rattle.std.specs.Vec.Iter.{into_iter_items}
use Rattle.attr_section.specs.Attributes.{values_in}
use Rattle.attr_section.proofs.Columned.{AreColumns-append}
use Rattle.drc_container.proofs.lemmas.reading.Decoders.{decoders_at-next, decoders_at-refuses, decoders_at-end, values_in-append}
use Rattle.drc_container.proofs.reading.attributes.read_decoders.Goals as goal

pub returns-in_err-read-clause-attributes : goal.returns-in_err-read-clause-attributes
returns-in_err-read-clause-attributes c =
    let p = err_from_is_err_and c.from_residual.result c.from_residual.ensures.1 in
    rw (p.1, p.2) (decoders_at-refuses (profile_numbered c.args.profile.number) c.args.entries c.loop-decoder.heads.items c.loop-decoder.values.items c.in-Some.decoder _ _ c.loop-decoder.c _ _
    c.loop-decoder.invariant.0 c.in-Some.ensures.steps.0 (rw c.loop-decoder.invariant.1 at c.in_err-read.ensures.values))

pub loop-decoder-preserved : goal.loop-decoder-preserved
loop-decoder-preserved c =
    let heads : c.append-in-loop-decoder.new.self.items ≡ c.loop-decoder.heads.items ++ c.read_decoder.new.h.heads =
    c.in_ok-append-2.ensures.items ∙ ap (λ l. c.loop-decoder.heads.items ++ l) c.heads_of-its_heads.ensures in
    rw (heads, c.in_ok-append.ensures.items, values_in-append c.loop-decoder.values.items c.in_ok-read.read.items) (
      decoders_at-next (profile_numbered c.args.profile.number) c.args.entries c.loop-decoder.heads.items c.loop-decoder.values.items c.in_ok-read.read.items c.in-Some.decoder c.read_decoder.new.h _ _ c.loop-decoder.c c.read_decoder.new.c _
          c.loop-decoder.invariant.0 c.in-Some.ensures.steps.0 (rw c.loop-decoder.invariant.1 at c.in_ok-read.ensures.values),
      c.in_ok-read.ensures.spent ∙ ap (λ n. n + values_in c.in_ok-read.read.items) c.loop-decoder.invariant.1,
      c.in_ok-read.ensures.few,
      AreColumns-append c.args.entries c.loop-decoder.heads.items c.read_decoder.new.h.heads c.loop-decoder.values.items c.in_ok-read.read.items
          c.loop-decoder.invariant.3 c.in_ok-read.ensures.columns,
      (let steps = c.in-Some.ensures.steps.0 in let all = rw steps at c.loop-decoder.invariant.4 in λ k d h k' d'. all (suc k) d (omega (arith, h)) k' d'),
      (let steps = c.in-Some.ensures.steps.0 in let all = rw steps at c.loop-decoder.invariant.5 in λ k d h k' d'. all (suc k) d (omega (arith, h)) k' d'),
    )

pub returns-clause-attributes : goal.returns-clause-attributes
returns-clause-attributes c =
    let none : into_iter_items c.loop-decoder.decoder-iterator ≡ [] =
    nil_from_length (into_iter_items c.loop-decoder.decoder-iterator) (sym c.loop-decoder.decoder-iterator.rest.ok.0 ∙ c.in-None.ensures.steps.0) in
    rw (c.from_vec.ensures, c.from_vec-2.ensures) (decoders_at-end (profile_numbered c.args.profile.number) c.args.entries c.loop-decoder.heads.items c.loop-decoder.values.items _ c.loop-decoder.c _ c.loop-decoder.invariant.0 none)
