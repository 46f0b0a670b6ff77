use Rattle.std.proofs.Common.{◌≡◌, ℕ, ◌+◌, ◌*◌, ◌≤◌, ◌++◌, List, length, sym, ap, ◌∙◌, subst, arith}
use Rattle.kd_tree.specs.Keys.{KeyRows}
use Rattle.kd_tree.specs.Packing.{AreClean, keys_in, packed_row, words_for}
use Rattle.kd_tree.proofs.Packed.{clean-from, count-is, length-from, row-in, table-from}
use Rattle.kd_tree.proofs.keys.Keys.push_from.Goals as goal

pub row_of-row-requires : goal.row_of-row-requires
row_of-row-requires c =
    let count = count-is _ _ _ _ c.keys.view_is in
    let h = row-in c.keys.inside.depth c.keys.inside.count c.args.point c.words_of.result (length c.keys.inside.words.items) c.keys.invariant.0 c.words_of.ensures.words (omega (arith, count, c.requires.point)) in
    subst (λ (xs : List ℕ). c.args.point * c.words_of.result + c.words_of.result ≤ length xs) (sym c.as_slice.ensures.value) h

depths : (c : goal.After-self-1) → c.keys.inside.depth ≡ c.self.inside.depth
depths c = ap (λ (x : KeyRows). x.depth) c.keys.view_is ∙ c.requires.depth ∙ sym (ap (λ (x : KeyRows). x.depth) c.self.view_is)

abbrev RowsAre : ℕ → ℕ → List ℕ → KeyRows → Type 0
RowsAre depth n words v = ◌≡◌ {A = KeyRows} (record { depth = depth; rows = keys_in depth n words }) v

rows : (c : goal.After-self-1) → RowsAre c.self.inside.depth c.keys.inside.count c.keys.inside.words.items c.args.keys.now
rows c = subst (λ (k : ℕ). RowsAre k c.keys.inside.count c.keys.inside.words.items c.args.keys.now) (depths c) c.keys.view_is

long : (c : goal.After-self-1) → length c.keys.inside.words.items ≡ c.keys.inside.count * words_for c.self.inside.depth
long c = c.keys.invariant.0 ∙ ap (λ k. c.keys.inside.count * words_for k) (depths c)

put : (c : goal.After-self-1) → c.extend_from_slice.new.self.items ≡ c.self.inside.words.items ++ packed_row (words_for c.self.inside.depth) c.keys.inside.words.items c.args.point
put c =
    c.in_ok-extend_from_slice.ensures.items
    ∙ ap (λ xs. c.self.inside.words.items ++ xs) (c.row_of-row.ensures
    ∙ ap (λ n. packed_row n c.as_slice.result.now c.args.point) (c.words_of.ensures.words ∙ ap words_for (depths c))
    ∙ ap (λ xs. packed_row (words_for c.self.inside.depth) xs c.args.point) c.as_slice.ensures.value)

pub invariant_of-self-2 : goal.invariant_of-self-2
invariant_of-self-2 c = (
  length-from c.self.inside.depth c.self.inside.count c.keys.inside.count c.self.inside.words.items c.extend_from_slice.new.self.items c.keys.inside.words.items c.args.self.now c.args.keys.now
      c.args.point c.self.view_is c.self.invariant.0 (rows c) (long c) c.requires.point (put c),
  clean-from c.self.inside.depth c.self.inside.count c.keys.inside.count c.self.inside.words.items c.extend_from_slice.new.self.items c.keys.inside.words.items c.args.self.now c.args.keys.now
      c.args.point c.self.view_is c.self.invariant.0 (rows c) (long c) c.requires.point (put c)
      c.self.invariant.1 (subst (λ (k : ℕ). AreClean k c.keys.inside.count c.keys.inside.words.items) (depths c) c.keys.invariant.1),
)

pub returns : goal.returns
returns c =
    table-from c.self.inside.depth c.self.inside.count c.keys.inside.count c.self.inside.words.items c.extend_from_slice.new.self.items c.keys.inside.words.items c.args.self.now c.args.keys.now
    c.args.point c.self.view_is c.self.invariant.0 (rows c) (long c) c.requires.point (put c)
