use Rattle.std.proofs.Common.{◌≡◌, ◌≢◌, ◌+◌, ◌-◌, ◌*◌, ◌<◌, ◌++◌, [], ◌∷◌, List, ℤ, get_or, set, length, sym, ap, ◌∙◌, subst, arith}
use Rattle.std.proofs.lemmas.List.{get_or-set_other, get_or_push, length_push, length-append}
use Rattle.mesh_model.specs.Parts.{rows_of}
use Rattle.mesh_model.specs.RowIndex.{RowsAreNumbered, IsPointOf, IsTwin}
use Rattle.mesh_model.proofs.Growing.{Grows-found, Grows-twinless, AreNumbered-more, IsPointOf-twin}
use Rattle.mesh_model.proofs.Rows.{length-rows, rows_of-push}
use Rattle.mesh_model.proofs.numbering.merge.Goals as goal

-- the row of an earlier twin
pub loop-i-preserved-then-twin-ne0 : goal.loop-i-preserved-then-twin-ne0
loop-i-preserved-then-twin-ne0 c =
    let rows = rows_of c.args.width c.args.cells.now in
    let i = c.loop-i.i in
    let numbers = c.loop-i.twins in
    let points = rows_of c.args.width c.loop-i.kept.items in
    let twin = get_or numbers i 0 in
    let p = get_or numbers (twin - 1) 0 in
    let so_far = c.loop-i.invariant in
    let inside : i < length rows = omega (arith, length-rows c.args.width c.args.count c.args.cells.now c.requires.wide c.requires.whole) in
    let within : i < length numbers = omega (arith, c.requires.long) in
    let at : IsPointOf points (get_or rows i []) p =
    IsPointOf-twin rows i twin numbers points so_far.numbered (so_far.twins i (omega arith) c.loop-i-test.true) (omega arith) in
    record {
      numbered = AreNumbered-more rows i p numbers points points so_far.numbered inside within (Grows-found points (get_or rows i []) p at) at;
      stored = so_far.stored;
      twins = λ k behind below.
          let other : k ≢ i = omega arith in
          subst (IsTwin rows k) (sym (get_or-set_other numbers i k p 0 other)) (so_far.twins k (omega arith) below);
    }

pub overflow_add-points : goal.overflow_add-points
overflow_add-points c =
    let many = length-rows c.args.width c.loop-i.points c.loop-i.kept.items c.requires.wide c.loop-i.invariant.stored in
    omega (arith, many, c.loop-i.invariant.numbered.few)

-- a row that is a point
pub loop-i-preserved : goal.loop-i-preserved
loop-i-preserved c =
    let w = c.args.width in
    let rows = rows_of w c.args.cells.now in
    let i = c.loop-i.i in
    let numbers = c.loop-i.twins in
    let p = c.loop-i.points in
    let before = rows_of w c.loop-i.kept.items in
    let row = get_or rows i [] in
    let so_far = c.loop-i.invariant in
    let added = c.in_ok-extend_from_slice.ensures.items in
    let inside : i < length rows = omega (arith, length-rows w c.args.count c.args.cells.now c.requires.wide c.requires.whole) in
    let within : i < length numbers = omega (arith, c.requires.long) in
    let grown : rows_of w c.extend_from_slice.new.self.items ≡ before ++ row ∷ [] =
    ap (rows_of w) added ∙ rows_of-push w p c.loop-i.kept.items c.stored_row.result.now c.requires.wide so_far.stored c.stored_row.ensures.len
    ∙ ap (λ (r : List ℤ). before ++ r ∷ []) c.stored_row.ensures.row in
    let last : length before ≡ p = length-rows w p c.loop-i.kept.items c.requires.wide so_far.stored in
    let alone : IsTwin rows i 0 = subst (IsTwin rows i) c.if-twin-ne0.false (so_far.twins i (omega arith) c.loop-i-test.true) in
    let at : IsPointOf (before ++ row ∷ []) row p = (omega (arith, length_push before row, last), get_or_push before row [] p last) in
    let whole : length c.loop-i.kept.items + length c.stored_row.result.now ≡ (p + 1) * w = omega (arith, so_far.stored, c.stored_row.ensures.len) in
    record {
      numbered = subst (RowsAreNumbered rows (i + 1) (set numbers i p)) (sym grown)
          (AreNumbered-more rows i p numbers before (before ++ row ∷ []) so_far.numbered inside within (Grows-twinless rows i numbers before so_far.numbered alone inside) at);
      stored = ap length added ∙ length-append c.loop-i.kept.items c.stored_row.result.now ∙ whole;
      twins = λ k behind below.
          let other : k ≢ i = omega arith in
          subst (IsTwin rows k) (sym (get_or-set_other numbers i k p 0 other)) (so_far.twins k (omega arith) below);
    }
