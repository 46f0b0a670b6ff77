-- Entry after entry is corrected, with its orientation.
use Rattle.std.proofs.Common.{◌<◌, ◌≤◌, Bool, List, [], ◌∷◌, ◌++◌, length, reverse, pos, refl, sym, ap, ◌∙◌, arith, length-append, Result, Ok}
use Rattle.std.proofs.Math.Numerals.{add-one}
use Rattle.std.proofs.lemmas.List.{reverse-reverse}
use Rattle.drc_base.specs.declared.kinds.Kind.{Kind}
use Rattle.texture_prediction.specs.declared.pairs.Pair.{Pair}
use Rattle.texture_prediction.specs.Projection.{pair}
use Rattle.predict.specs.Wrap.{Range}
use Rattle.predict.specs.Surfaces.{surface}
use Rattle.texture_values.specs.Pairs.{pair_of, pairs_of}
use Rattle.texture_values.specs.Chosen.{chosen_texture}
use Rattle.texture_values.specs.Corrected.{correction_pair}
use Rattle.texture_values.proofs.Listed.{length-pairs, pairs-push}
use Rattle.texture_values.proofs.Putting.{small-none, small-by, within-pair}
use Rattle.texture_values.proofs.Writing.{writes-none, writes-more, writes-not, all-chosen, all-corrected, corrections-flat, restored-again}
use Rattle.texture_values.proofs.corrected.correct_texture.Goals as goal

pub loop-e-init : goal.loop-e-init
unfolding pairs_of
loop-e-init c = record {
  len = omega (arith, c.in_ok-corrections.ensures.len);
  long = ap length c.in_ok-corrections.ensures.items;
  room = c.in_ok-corrections.ensures.exact;
  few = omega (arith, c.in_ok-orientations.ensures.len);
  places = c.in_ok-orientations.ensures.exact;
  small = small-none c.args.wrap.now c.in_ok-corrections.corrections.items c.in_ok-corrections.ensures.items;
  writes = writes-none (surface c.args.on.now) c.args.places.now c.args.wrap.now (pairs_of c.args.values.now) (pairs_of c.in_ok-corrections.corrections.items)
      c.in_ok-orientations.orientations.items (ap pairs_of c.in_ok-corrections.ensures.items) c.in_ok-orientations.ensures.items;
}

pub returns-in-Err-clause-orientations : goal.returns-in-Err-clause-orientations
unfolding chosen_texture
returns-in-Err-clause-orientations c =
    let has : c.loop-e.e < length (pairs_of c.args.values.now) = omega (arith, length-pairs c.args.values.now, c.requires.whole, c.len-entries.ensures) in
    writes-not (surface c.args.on.now) c.args.places.now c.args.wrap.now (pairs_of c.args.values.now) (pairs_of c.loop-e.corrections.items)
    c.loop-e.orientations.items c.loop-e.e (pair_of (pairs_of c.args.values.now) c.loop-e.e) (pair (pos 0) (pos 0)) c.in-Err.kind
    c.loop-e.invariant.writes has refl (sym c.choice_at.ensures ∙ c.in-Err.is)

pub put_correction-requires-clause-u : goal.put_correction-requires-clause-u
put_correction-requires-clause-u c =
    let has : c.loop-e.e < length (pairs_of c.args.values.now) = omega (arith, length-pairs c.args.values.now, c.requires.whole, c.len-entries.ensures) in
    (within-pair c.args.wrap.now c.copy-wrap.result c.args.values.now c.loop-e.e c.pair_at.result c.copy-wrap.ensures.same c.pair_at.ensures c.requires.within has).0

pub put_correction-requires-clause-v : goal.put_correction-requires-clause-v
put_correction-requires-clause-v c =
    let has : c.loop-e.e < length (pairs_of c.args.values.now) = omega (arith, length-pairs c.args.values.now, c.requires.whole, c.len-entries.ensures) in
    (within-pair c.args.wrap.now c.copy-wrap.result c.args.values.now c.loop-e.e c.pair_at.result c.copy-wrap.ensures.same c.pair_at.ensures c.requires.within has).1

pub loop-e-preserved : goal.loop-e-preserved
loop-e-preserved c =
    let has : c.loop-e.e < length (pairs_of c.args.values.now) = omega (arith, length-pairs c.args.values.now, c.requires.whole, c.len-entries.ensures) in
    let put = ap pairs_of c.put_correction.ensures.put
    ∙ pairs-push c.loop-e.corrections.items (correction_pair c.copy-wrap.result c.in-Ok.prediction c.pair_at.result).u
    (correction_pair c.copy-wrap.result c.in-Ok.prediction c.pair_at.result).v c.loop-e.e c.loop-e.invariant.long
    ∙ ap (λ (r : Range). pairs_of c.loop-e.corrections.items ++ correction_pair r c.in-Ok.prediction c.pair_at.result ∷ []) c.copy-wrap.ensures.same
    ∙ ap (λ (x : Pair). pairs_of c.loop-e.corrections.items ++ correction_pair c.args.wrap.now c.in-Ok.prediction x ∷ []) c.pair_at.ensures in
    record {
      len = omega (arith, c.put_correction.ensures.len, c.loop-e.invariant.len);
      long = ap length c.put_correction.ensures.put
          ∙ omega (
            arith,
            length-append c.loop-e.corrections.items ((correction_pair c.copy-wrap.result c.in-Ok.prediction c.pair_at.result).u
                ∷ (correction_pair c.copy-wrap.result c.in-Ok.prediction c.pair_at.result).v ∷ []),
            c.loop-e.invariant.long,
          );
      room = c.put_correction.ensures.capacity ∙ c.loop-e.invariant.room;
      few = omega (arith, c.put_orientation.ensures.few, c.loop-e.invariant.few);
      places = c.put_orientation.ensures.capacity ∙ c.loop-e.invariant.places;
      small = small-by c.args.wrap.now c.copy-wrap.result c.loop-e.corrections.items c.put_correction.new.out.items c.copy-wrap.ensures.same c.put_correction.ensures.small
          c.loop-e.invariant.small;
      writes = rw (add-one c.loop-e.e) (writes-more (surface c.args.on.now) c.args.places.now c.args.wrap.now (pairs_of c.args.values.now)
          (pairs_of c.loop-e.corrections.items) (pairs_of c.put_correction.new.out.items) c.loop-e.orientations.items c.put_orientation.new.out.items c.loop-e.e
          (pair_of (pairs_of c.args.values.now) c.loop-e.e) (pair (pos 0) (pos 0)) (c.in-Ok.prediction, c.in-Ok.orientation) c.loop-e.invariant.writes has refl
          (sym c.choice_at.ensures ∙ c.in-Ok.is) put c.put_orientation.ensures.put);
    }

pub returns-clause-orientations : goal.returns-clause-orientations
unfolding chosen_texture
returns-clause-orientations c =
    let done : length (pairs_of c.args.values.now) ≤ c.loop-e.e = omega (arith, length-pairs c.args.values.now, c.requires.whole, c.len-entries.ensures) in
    all-chosen (surface c.args.on.now) c.args.places.now c.args.wrap.now (pairs_of c.args.values.now) (pairs_of c.loop-e.corrections.items)
    c.loop-e.orientations.items c.loop-e.e c.loop-e.invariant.writes done
    ∙ ap chosen (sym (ap reverse c.turn_round.ensures ∙ reverse-reverse c.loop-e.orientations.items))
  where
    chosen : List Bool → Result (List Bool) Kind
    chosen l = Ok l

pub returns-clause-corrections : goal.returns-clause-corrections
returns-clause-corrections c =
    let done : length (pairs_of c.args.values.now) ≤ c.loop-e.e = omega (arith, length-pairs c.args.values.now, c.requires.whole, c.len-entries.ensures) in
    corrections-flat (surface c.args.on.now) c.args.places.now c.args.wrap.now c.turn_round.new.list.items c.loop-e.orientations.items c.args.values.now
    c.loop-e.corrections.items c.loop-e.e (ap reverse c.turn_round.ensures ∙ reverse-reverse c.loop-e.orientations.items) c.loop-e.invariant.long
    (all-corrected (surface c.args.on.now) c.args.places.now c.args.wrap.now (pairs_of c.args.values.now) (pairs_of c.loop-e.corrections.items)
    c.loop-e.orientations.items c.loop-e.e c.loop-e.invariant.writes done)

pub returns-clause-restores : goal.returns-clause-restores
returns-clause-restores c =
    let done : length (pairs_of c.args.values.now) ≤ c.loop-e.e = omega (arith, length-pairs c.args.values.now, c.requires.whole, c.len-entries.ensures) in
    restored-again (surface c.args.on.now) c.args.places.now c.args.wrap.now c.turn_round.new.list.items c.loop-e.orientations.items c.args.values.now
    c.loop-e.corrections.items (length c.args.on.now.order.now.corner_of_entry) c.copy-wrap.ensures.can_wrap c.copy-wrap.ensures.ends c.requires.within c.requires.whole
    (ap reverse c.turn_round.ensures ∙ reverse-reverse c.loop-e.orientations.items)
    (all-corrected (surface c.args.on.now) c.args.places.now c.args.wrap.now (pairs_of c.args.values.now) (pairs_of c.loop-e.corrections.items)
    c.loop-e.orientations.items c.loop-e.e c.loop-e.invariant.writes done)
