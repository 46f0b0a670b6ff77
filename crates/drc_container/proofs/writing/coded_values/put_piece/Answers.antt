-- One integer more stands behind those that were put.
use Rattle.std.proofs.Common.{rules, ◌≡◌, ◌++◌, ◌∷◌, [], ℤ, pos, List, take, get_or, refl, ap, sym, ◌∙◌, append_assoc, append-nil, arith}
use Rattle.std.proofs.lemmas.List.{take_more, take_all}
use Rattle.drc_container.proofs.writing.coded_values.put_piece.Goals as goal

pub loop-x-init : goal.loop-x-init
loop-x-init c = record { items = sym (append-nil c.args.column.now.items); len = omega arith; capacity = refl }

pub push_reserved-requires : goal.push_reserved-requires
push_reserved-requires c = omega (arith, c.requires, c.loop-x.invariant.len, c.loop-x.invariant.capacity, c.loop-x-test.true)

pub loop-x-preserved : goal.loop-x-preserved
loop-x-preserved c =
    let front = c.args.column.now.items in
    let piece = c.args.piece.now in
    let k = c.loop-x.x-index in
    let x = get_or piece k (pos 0) in
    let pushed : c.push_reserved.new.self.items ≡ c.loop-x.column.items ++ x ∷ [] = search rules in
    record {
      items =
          pushed
          ∙ ap (λ (l : List ℤ). l ++ x ∷ []) c.loop-x.invariant.items
          ∙ append_assoc front (take k piece) (x ∷ [])
          ∙ ap (λ (l : List ℤ). front ++ l) (sym (take_more piece k (pos 0) c.loop-x-test.true));
      len = omega (arith, c.push_reserved.ensures.len, c.loop-x.invariant.len);
      capacity = c.push_reserved.ensures.capacity ∙ c.loop-x.invariant.capacity;
    }

pub returns-clause-items : goal.returns-clause-items
returns-clause-items c =
    let front = c.args.column.now.items in
    c.loop-x.invariant.items ∙ ap (λ (l : List ℤ). front ++ l) (take_all c.loop-x.x-index c.args.piece.now c.loop-x-test.false)

pub returns-clause-capacity : goal.returns-clause-capacity
returns-clause-capacity c = c.loop-x.invariant.capacity
