use Rattle.std.proofs.Common.{rules, ◌≡◌, ℕ, ◌+◌, ◌-◌, ◌≤◌, List, length, length-take-le, take, drop, refl, sym, ap, ◌∙◌, arith}
use Rattle.std.proofs.lemmas.List.{length-drop, take_all}
use Rattle.attr_heads.specs.declared.heads.Head.{Head}
use Rattle.mesh_model.specs.Groups.{tables_of}
use Rattle.attr_section.specs.Positions.{PositionsRead}
use Rattle.attr_section.specs.TablePositions.{read_in}
use Rattle.drc_container.specs.reading.OnSurface.{positions_from}
use Rattle.drc_container.specs.reading.AsRead.{group_on}
use Rattle.drc_container.proofs.lemmas.reading.PositionsAmong.{from-none, room, among-more, counted-more}
use Rattle.drc_container.proofs.reading.positions.positions_among.Goals as goal

pub loop-decoder-init : goal.loop-decoder-init
loop-decoder-init c = record { placed = sym (from-none PositionsRead.NotYet c.args.heads.now); counted = refl }

pub offset_bounds-heads-k : goal.offset_bounds-heads-k
offset_bounds-heads-k c =
    let few = room c.args.whole.now c.args.decoders.now c.loop-decoder.decoder-index c.loop-decoder.k (length c.args.heads.now) c.decoder-item.result
    c.loop-decoder-test.true c.decoder-item.is c.loop-decoder.invariant.counted c.requires in
    let within : c.loop-decoder.k ≤ length c.args.heads.now = omega (arith, few) in
    search rules

pub slice_bounds-positions_behind-count : goal.slice_bounds-positions_behind-count
slice_bounds-positions_behind-count c =
    let few = room c.args.whole.now c.args.decoders.now c.loop-decoder.decoder-index c.loop-decoder.k (length c.args.heads.now) c.decoder-item.result
    c.loop-decoder-test.true c.decoder-item.is c.loop-decoder.invariant.counted c.requires in
    omega (arith, few)

pub slice_bounds-positions_behind-start : goal.slice_bounds-positions_behind-start
slice_bounds-positions_behind-start c =
    let few = room c.args.whole.now c.args.decoders.now c.loop-decoder.decoder-index c.loop-decoder.k (length c.args.heads.now) c.decoder-item.result
    c.loop-decoder-test.true c.decoder-item.is c.loop-decoder.invariant.counted c.requires in
    omega (arith, few)

pub positions_behind-positions-requires : goal.positions_behind-positions-requires
positions_behind-positions-requires c =
    let heads = c.args.heads.now in
    let k = c.loop-decoder.k in
    let few = room c.args.whole.now c.args.decoders.now c.loop-decoder.decoder-index k (length heads) c.decoder-item.result
    c.loop-decoder-test.true c.decoder-item.is c.loop-decoder.invariant.counted c.requires in
    let long : length (drop k heads) ≡ length heads - k = length-drop k heads in
    let part : length (take (length heads - k) (drop k heads)) ≡ length heads - k = length-take-le (length heads - k) (drop k heads) (omega (arith, long)) in
    omega (arith, few, part)

pub overflow_add-k : goal.overflow_add-k
overflow_add-k c =
    let few = room c.args.whole.now c.args.decoders.now c.loop-decoder.decoder-index c.loop-decoder.k (length c.args.heads.now) c.decoder-item.result
    c.loop-decoder-test.true c.decoder-item.is c.loop-decoder.invariant.counted c.requires in
    let same : c.len-k.result ≡ length c.decoder-item.result.values.items = omega (arith, c.len-k.ensures) in
    let within : c.loop-decoder.k + c.len-k.result ≤ length c.args.heads.now = omega (arith, few, same) in
    search rules

pub loop-decoder-preserved : goal.loop-decoder-preserved
loop-decoder-preserved c =
    let whole = c.args.whole.now in
    let heads = c.args.heads.now in
    let i = c.loop-decoder.decoder-index in
    let k = c.loop-decoder.k in
    let d = c.decoder-item.result in
    let at = read_in c.loop-decoder.positions in
    let long : length (drop k heads) ≡ length heads - k = length-drop k heads in
    let rest : take (length heads - k) (drop k heads) ≡ drop k heads = take_all (length heads - k) (drop k heads) (omega (arith, long)) in
    let more = c.positions_behind-positions.ensures ∙ ap (λ (hs : List Head). positions_from at hs (tables_of (group_on whole d))) rest in
    let same : c.len-k.result ≡ length d.values.items = omega (arith, c.len-k.ensures) in
    record {
      placed = among-more whole heads c.args.decoders.now i k d at (read_in c.positions_behind-positions.result) c.loop-decoder-test.true c.decoder-item.is
          c.loop-decoder.invariant.counted c.requires c.loop-decoder.invariant.placed more;
      counted = ap (λ (n : ℕ). k + n) same
          ∙ counted-more whole c.args.decoders.now i k d c.loop-decoder-test.true c.decoder-item.is c.loop-decoder.invariant.counted;
    }
