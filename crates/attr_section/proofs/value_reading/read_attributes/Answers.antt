use Rattle.drc_base.specs.Profile.{profile_numbered}
use Rattle.std.proofs.Common.{◌≡◌, ◌+◌, ◌++◌, ◌∷◌, ◌∙◌, [], List, length, take, ap, arith}
use Rattle.std.proofs.lemmas.List.{length-take-le}
use Rattle.std.proofs.lemmas.Grind.{common_steps}
use Rattle.std.proofs.lemmas.Result.{err_from_is_err_and}
use Rattle.std.specs.Option.{option_map}
use Rattle.predict.specs.Surfaces.{surface_of}
use Rattle.attr_section.specs.declared.values.Values.{Values}
use Rattle.attr_section.specs.Attributes.{attribute_at, values_in, attributes_at}
use Rattle.attr_section.specs.Positions.{with_attributes}
use Rattle.attr_section.specs.TablePositions.{read_in}
use Rattle.attr_section.proofs.Columned.{AreColumns-next, AreColumns-length}
use Rattle.attr_section.proofs.FirstAttributes.{opens_here, opens_none, fresh_positions}
use Rattle.attr_section.proofs.Each.{each_at-next, each_at-refuses, each_at-end}
use Rattle.attr_section.proofs.value_reading.read_attributes.Goals as goal

values_in-push : (vs : List Values) (v : Values) → values_in (vs ++ v ∷ []) ≡ values_in vs + length v.values
values_in-push vs v = grind (arith, common_steps)

pub returns-in_err-values-clause-item : goal.returns-in_err-values-clause-item
unfolding attributes_at
returns-in_err-values-clause-item c =
    let p = err_from_is_err_and c.from_residual.result c.from_residual.ensures.1 in
    rw (p.1, p.2) (each_at-refuses (attribute_at (profile_numbered c.args.profile.number) (surface_of (option_map (λ t. t.now) c.args.on)) (read_in c.args.found) c.args.heads.now c.args.entries c.args.spent) c.args.heads.now c.loop-head.head-index c.head-item.result c.loop-head.attributes.items c.loop-head.c c.in_err-values.field-0.0
    (attributes_at (profile_numbered c.args.profile.number) (surface_of (option_map (λ t. t.now) c.args.on)) (read_in c.args.found) c.args.heads.now c.args.entries c.args.spent c.args.c.now) c.loop-head.invariant.0 (omega arith) c.head-item.is
    (rw (c.loop-head.invariant.1, c.with_attributes-positions.ensures, c.deref.ensures.value) at c.in_err-values.ensures.item))

pub loop-head-preserved : goal.loop-head-preserved
unfolding attributes_at
loop-head-preserved c =
    let count : c.len.result ≡ length c.in_ok-values.values.values = c.len.ensures in
    rw (c.in_ok-push.ensures.items, values_in-push, count) (
      each_at-next (attribute_at (profile_numbered c.args.profile.number) (surface_of (option_map (λ t. t.now) c.args.on)) (read_in c.args.found) c.args.heads.now c.args.entries c.args.spent) c.args.heads.now c.loop-head.head-index c.head-item.result c.loop-head.attributes.items c.loop-head.c c.read_values.new.c c.in_ok-values.values
          (attributes_at (profile_numbered c.args.profile.number) (surface_of (option_map (λ t. t.now) c.args.on)) (read_in c.args.found) c.args.heads.now c.args.entries c.args.spent c.args.c.now) c.loop-head.invariant.0 (omega arith) c.head-item.is
          (rw (c.loop-head.invariant.1, c.with_attributes-positions.ensures, c.deref.ensures.value) at c.in_ok-values.ensures.item),
      omega (arith, c.loop-head.invariant.1),
      c.in_ok-values.ensures.few,
      AreColumns-next c.args.entries c.loop-head.head-index c.args.heads.now c.loop-head.attributes.items c.head-item.result c.in_ok-values.values c.loop-head.invariant.3 (omega arith) c.head-item.is c.in_ok-values.ensures.len,
      λ f fails. absurd (let e = c.in_ok-values.ensures.early f (opens_here (profile_numbered c.args.profile.number) (surface_of (option_map (λ t. t.now) c.args.on)) (read_in c.args.found) (read_in c.with_attributes-positions.result) c.args.heads.now c.loop-head.head-index c.head-item.result c.args.entries c.args.spent c.loop-head.total c.loop-head.c c.args.c.now f
          fails (c.loop-head.invariant.4 f fails) (λ first. c.with_attributes-positions.ensures ∙ ap (λ vs. with_attributes (surface_of (option_map (λ t. t.now) c.args.on)) (read_in c.args.found) c.args.heads.now vs) c.deref.ensures.value ∙ fresh_positions (surface_of (option_map (λ t. t.now) c.args.on)) (read_in c.args.found) c.args.entries c.loop-head.head-index c.args.heads.now c.loop-head.attributes.items first c.loop-head.invariant.3) (omega arith) c.head-item.is) in cc),
    )

pub returns-clause-item : goal.returns-clause-item
unfolding attributes_at
returns-clause-item c =
    each_at-end (attribute_at (profile_numbered c.args.profile.number) (surface_of (option_map (λ t. t.now) c.args.on)) (read_in c.args.found) c.args.heads.now c.args.entries c.args.spent) c.args.heads.now c.loop-head.head-index c.loop-head.attributes.items c.loop-head.c (attributes_at (profile_numbered c.args.profile.number) (surface_of (option_map (λ t. t.now) c.args.on)) (read_in c.args.found) c.args.heads.now c.args.entries c.args.spent c.args.c.now) c.loop-head.invariant.0 (omega arith)

pub returns-in_err-values-clause-early : goal.returns-in_err-values-clause-early
returns-in_err-values-clause-early c f fails =
    let p = err_from_is_err_and c.from_residual.result c.from_residual.ensures.1 in
    let at = opens_here (profile_numbered c.args.profile.number) (surface_of (option_map (λ t. t.now) c.args.on)) (read_in c.args.found) (read_in c.with_attributes-positions.result) c.args.heads.now c.loop-head.head-index c.head-item.result c.args.entries c.args.spent c.loop-head.total c.loop-head.c c.args.c.now f
    fails (c.loop-head.invariant.4 f fails) (λ first. c.with_attributes-positions.ensures ∙ ap (λ vs. with_attributes (surface_of (option_map (λ t. t.now) c.args.on)) (read_in c.args.found) c.args.heads.now vs) c.deref.ensures.value ∙ fresh_positions (surface_of (option_map (λ t. t.now) c.args.on)) (read_in c.args.found) c.args.entries c.loop-head.head-index c.args.heads.now c.loop-head.attributes.items first c.loop-head.invariant.3) (omega arith) c.head-item.is in
    let e = c.in_err-values.ensures.early f at in
    cc

pub returns-clause-early : goal.returns-clause-early
returns-clause-early c f fails =
    absurd (opens_none (profile_numbered c.args.profile.number) (surface_of (option_map (λ t. t.now) c.args.on)) (read_in c.args.found) c.args.heads.now c.loop-head.head-index c.args.entries c.args.spent c.loop-head.total c.loop-head.c c.args.c.now f
    fails (c.loop-head.invariant.4 f fails) (omega arith))

pub with_attributes-positions-requires : goal.with_attributes-positions-requires
with_attributes-positions-requires c =
    let count = AreColumns-length c.args.entries (take c.loop-head.head-index c.args.heads.now) c.loop-head.attributes.items c.loop-head.invariant.3 in
    let few = length-take-le c.loop-head.head-index c.args.heads.now (omega arith) in
    omega (arith, count, few, ap length c.deref.ensures.value)
