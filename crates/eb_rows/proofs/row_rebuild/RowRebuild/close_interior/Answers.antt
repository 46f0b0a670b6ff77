-- The loop of the top side is one of three and is filled, or the fault of its rule.
use Rattle.std.proofs.Common.{◌≡◌, ◌+◌, ◌<◌, true, ℕ, suc, sym, refl, ap, ◌∙◌, subst, arith, add-one}
use Rattle.corner_table.specs.Sides.{Side, side, first, second, third, side_at, glue}
use Rattle.corner_table.specs.Fans.{side_before}
use Rattle.corner_table.specs.Table.{gluing_of, room_of}
use Rattle.eb_rebuild.specs.Kept.{AreKeptBelow, AreSidesBelow}
use Rattle.eb_rebuild.specs.Linked.{LinkValue}
use Rattle.eb_rows.specs.Rowed.{RowValue, plain_of}
use Rattle.eb_rebuild.proofs.Noting.{kept_below_more}
use Rattle.eb_rebuild.proofs.Linking.{IsLoop, to_fill, fill_does, loop_passes, link_popped, link_closed, sides_below_more, sides_rest}
use Rattle.eb_rows.proofs.row_rebuild.RowRebuild.close_interior.Goals as goal

pub rows_to_fill-requires : goal.rows_to_fill-requires
rows_to_fill-requires g c = (sides_rest c.self.inside.named.table.faces c.self.inside.stack.sides c.in-Some.a c.pop.new.self.sides c.in-Some.ensures.top c.self.invariant.sides).0

pub invariant_of-self-2 : goal.invariant_of-self-2
invariant_of-self-2 g c = link_popped (plain_of (record { plan = record { faces = c.self.inside.faces; created = c.self.inside.created; symbols = c.self.inside.symbols }; named = c.self.inside.named; stack = c.self.inside.stack; splits = c.self.inside.splits; closes = c.self.inside.closes })) c.pop.new.self c.in-Some.a c.self.invariant c.in-Some.ensures.top c.pop.ensures.room

pub returns-in-Err-clause-does : goal.returns-in-Err-clause-does
returns-in-Err-clause-does g c =
    let v : LinkValue = plain_of (record { plan = record { faces = c.self.inside.faces; created = c.self.inside.created; symbols = c.self.inside.symbols }; named = c.self.inside.named; stack = c.self.inside.stack; splits = c.self.inside.splits; closes = c.self.inside.closes }) in
    rw (← c.self.view_is) (to_fill v c.in-Some.a c.pop.new.self.sides c.in-Some.ensures.top ∙ c.in-Err.ensures.err)

pub fill-requires-clause-room : goal.fill-requires-clause-room
fill-requires-clause-room g c =
    let more = c.in-Ok.ensures.more in
    subst (λ (w : RowValue). w.named.table.faces < w.plan.faces → w.named.table.faces < room_of w.named.table) (sym c.self.view_is) c.requires.room more

pub invariant_of-self-3 : goal.invariant_of-self-3
invariant_of-self-3 g c =
    let v : LinkValue = plain_of (record { plan = record { faces = c.self.inside.faces; created = c.self.inside.created; symbols = c.self.inside.symbols }; named = c.self.inside.named; stack = c.self.inside.stack; splits = c.self.inside.splits; closes = c.self.inside.closes }) in
    let f = v.table.faces in
    let a = c.in-Some.a in
    let rest = c.pop.new.self.sides in
    let below = sides_rest f v.stack.sides a rest c.in-Some.ensures.top c.self.invariant.sides in
    let faces : c.fill.new.self.table.faces ≡ suc f = c.in_ok-fill.ensures.faces in
    let new : LinkValue = plain_of (record { plan = record { faces = c.self.inside.faces; created = c.self.inside.created; symbols = c.self.inside.symbols }; named = c.fill.new.self; stack = c.pop.new.self; splits = c.self.inside.splits; closes = c.self.inside.closes + 1 }) in
    link_closed {v = v} {new = new} c.self.invariant a rest 1 c.in-Some.ensures.top refl c.in_ok-fill.ensures.room (faces ∙ sym (add-one f)) refl c.pop.ensures.room refl c.in_ok-fill.ensures.made (add-one _)
    (subst (λ (n : ℕ). AreSidesBelow n rest) (sym faces) (sides_below_more f rest below.1))
    (subst (λ (n : ℕ). AreKeptBelow n v.splits.kept) (sym faces) (kept_below_more _ _ c.self.invariant.kept))

pub returns-clause-does : goal.returns-clause-does
returns-clause-does g c =
    let v : LinkValue = plain_of (record { plan = record { faces = c.self.inside.faces; created = c.self.inside.created; symbols = c.self.inside.symbols }; named = c.self.inside.named; stack = c.self.inside.stack; splits = c.self.inside.splits; closes = c.self.inside.closes }) in
    let f = v.table.faces in
    let G = gluing_of v.table in
    let a = c.in-Some.a in
    let at = c.in-Ok.ensures.top in
    let T = c.in-Ok.ensures.rows in
    let B = side_at c.in-Ok.rows.1.side in
    let D = side_at c.in-Ok.rows.2.side in
    let Z = side_before f G D in
    let top = ap side_at at in
    let W : IsLoop v a c.pop.new.self.sides B D Z = record {
      stack = c.in-Some.ensures.top;
      free = ap G (sym top) ∙ T.one.free.free;
      first_before = T.joined ∙ ap (side_before f G) top;
      second_before = T.joined_again;
      third_before = refl;
    } in
    let new : LinkValue = plain_of (record { plan = record { faces = c.self.inside.faces; created = c.self.inside.created; symbols = c.self.inside.symbols }; named = c.fill.new.self; stack = c.pop.new.self; splits = c.self.inside.splits; closes = c.self.inside.closes + 1 }) in
    rw (← c.self.view_is) (fill_does v new a c.pop.new.self.sides B D Z true W
    (record {
      faces = c.in_ok-fill.ensures.faces;
      glued = c.in_ok-fill.ensures.glued ∙ ap (λ (x : Side). glue (side f third) D (glue (side f second) B (glue (side f first) x G))) top;
      stack = refl;
      splits = refl;
      made = c.in_ok-fill.ensures.made;
      closes = add-one _;
    })
    (loop_passes (side_at a) B D Z (λ e. T.apart (e ∙ sym top)) (λ e. T.apart_again (e ∙ sym top)) (T.joined_round ∙ top)) refl (λ e. absurd (let more = c.in-Ok.ensures.more in omega arith)))
