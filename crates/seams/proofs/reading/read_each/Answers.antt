-- Block after block.
use Rattle.std.proofs.Common.{◌≡◌, ◌*◌, ◌<◌, Bool, true, List, Vec, Global, length, get_or, set, replicate, ap, sym, ◌∙◌, arith}
use Rattle.std.specs.Vec.{with_items}
use Rattle.std.proofs.lemmas.List.{with_items_is, length-replicate}
use Rattle.std.proofs.lemmas.List.Edits.{map_over_more}
use Rattle.corner_table.specs.Table.{gluing_of, glued_in}
use Rattle.corner_table.specs.Pairs.{bit_sides}
use Rattle.rans_binary.specs.Blocks.{behind, bit_of}
use Rattle.seams.specs.SeamBits.{flag_of_bits, flags_of_bits}
use Rattle.seams.proofs.Listing.{length-listed}
use Rattle.seams.proofs.Filling.{filled_at, filled_more, passed_at}
use Rattle.seams.proofs.reading.read_each.Goals as goal

pub read_block-requires-clause-set : goal.read_block-requires-clause-set
read_block-requires-clause-set c =
    let test = c.loop-k-test.true in
    let long = c.loop-k.auto.blocks in
    let end = c.loop-k.auto.k-end in
    let faces = c.args.t.now.faces in
    c.as_mut_slice.ensures.value
    ∙ filled_at (λ (v : Vec Bool Global). v.items) (flags_of_bits faces (gluing_of c.args.t.now)) (replicate (3 * faces) true) c.args.blocks.now c.loop-k.lists.items c.loop-k.k c.index_mut.result.now (omega arith)
    c.loop-k.invariant.lists c.index_mut.ensures.value
    ∙ ap (λ n. replicate (3 * n) true) (sym c.face_count-faces.ensures.count)

pub loop-k-preserved : goal.loop-k-preserved
loop-k-preserved c =
    let test = c.loop-k-test.true in
    let long = c.loop-k.auto.blocks in
    let end = c.loop-k.auto.k-end in
    let faces = c.args.t.now.faces in
    let g = gluing_of c.args.t.now in
    let es = c.sides_across-across.ensures.entries in
    let count = c.face_count-faces.ensures.count in
    let b = get_or c.loop-k.blocks c.loop-k.k c.index-blocks-k.result in
    let is = c.index-blocks-k.is in
    let inside : c.loop-k.k < length c.args.blocks.now = omega arith in
    let block_is : b ≡ get_or c.args.blocks.now c.loop-k.k b =
    passed_at (behind (length (bit_sides faces g))) c.args.blocks.now c.loop-k.blocks c.loop-k.k b inside c.loop-k.invariant.blocks (ap (λ x. get_or c.loop-k.blocks c.loop-k.k x) is) in
    let copied : c.copy.result ≡ b = c.copy.ensures in
    let told_is : c.read_block.new.flags ≡ flags_of_bits faces g b =
    c.read_block.ensures.flags ∙ ap (flags_of_bits c.face_count-faces.result (glued_in c.sides_across-across.result.now)) copied ∙ ap (λ xs. flags_of_bits c.face_count-faces.result (glued_in xs) b) es ∙ ap (λ n. flags_of_bits n g b) count in
    let after_is : c.read_block.result ≡ behind (length (bit_sides faces g)) b =
    c.read_block.ensures.after ∙ ap (behind (length (bit_sides c.face_count-faces.result (glued_in c.sides_across-across.result.now)))) copied
    ∙ ap (λ xs. behind (length (bit_sides c.face_count-faces.result (glued_in xs))) b) es ∙ ap (λ n. behind (length (bit_sides n g)) b) count in
    let v = c.index_mut.result.now in
    let first : v.items ≡ replicate (3 * faces) true =
    filled_at (λ (w : Vec Bool Global). w.items) (flags_of_bits faces g) (replicate (3 * faces) true) c.args.blocks.now c.loop-k.lists.items c.loop-k.k v inside c.loop-k.invariant.lists c.index_mut.ensures.value in
    let old_long : v.len ≡ 3 * faces = sym c.as_mut_slice.ensures.len ∙ ap (λ (xs : List Bool). length xs) (c.as_mut_slice.ensures.value ∙ first) ∙ length-replicate (3 * faces) true in
    let new_long : length c.read_block.new.flags ≡ 3 * faces = ap (λ (xs : List Bool). length xs) told_is ∙ length-listed faces (flag_of_bits faces g (bit_of b)) in
    record {
      lists = filled_more (λ (w : Vec Bool Global). w.items) (flags_of_bits faces g) (replicate (3 * faces) true) c.args.blocks.now c.loop-k.lists.items c.loop-k.k b (with_items v c.read_block.new.flags) inside
          c.loop-k.invariant.lists block_is (with_items_is v c.read_block.new.flags (new_long ∙ sym old_long) ∙ told_is);
      blocks = ap (λ x. set c.loop-k.blocks c.loop-k.k x) after_is ∙ map_over_more (behind (length (bit_sides faces g))) c.args.blocks.now c.loop-k.blocks c.loop-k.k b inside c.loop-k.invariant.blocks
          (ap (λ x. get_or c.loop-k.blocks c.loop-k.k x) is);
    }
