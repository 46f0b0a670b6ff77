-- A bit for two sides each is room enough, and the bits give the flags.
use Rattle.std.proofs.Common.{◌≡◌, Bool, List, length, take, ap, ◌∙◌, arith}
use Rattle.std.proofs.lemmas.List.{length-map, with_items_is}
use Rattle.corner_table.specs.Table.{gluing_of, glued_in}
use Rattle.corner_table.specs.Pairs.{bit_sides}
use Rattle.corner_table.proofs.PairLaws.{pairs_have_two_sides}
use Rattle.seams.specs.Seams.{flag_at}
use Rattle.seams.specs.SeamBits.{seam_bits as bits_for}
use Rattle.seams.proofs.Blocks.{block_tells_flags}
use Rattle.seams.proofs.writing.seam_bits.Goals as goal

pub put_bits-count-requires-clause-room : goal.put_bits-count-requires-clause-room
put_bits-count-requires-clause-room c =
    let f = c.face_count-faces.ensures.count in
    let two = pairs_have_two_sides c.args.t.now.faces (gluing_of c.args.t.now) c.face_count-faces.ensures.gluing in
    let same : length (bit_sides c.face_count-faces.result (glued_in c.sides_across.result.now)) ≡ length (bit_sides c.args.t.now.faces (gluing_of c.args.t.now)) =
    ap (λ xs. length (bit_sides c.face_count-faces.result (glued_in xs))) c.sides_across.ensures.entries ∙ ap (λ n. length (bit_sides n (gluing_of c.args.t.now))) f in
    let l = c.in_ok-bits.ensures.len in
    let m = c.as_mut_slice.ensures.len in
    omega arith

pub returns-clause-again : goal.returns-clause-again
returns-clause-again c b first =
    let bits : c.truncate.new.self.items ≡ bits_for c.args.t.now.faces (gluing_of c.args.t.now) (flag_at c.args.seam.now) =
    c.truncate.ensures.items
    ∙ ap (take c.put_bits-count.result) (with_items_is c.in_ok-bits.bits c.put_bits-count.new.bits (c.put_bits-count.auto.bits ∙ c.as_mut_slice.ensures.len))
    ∙ c.put_bits-count.ensures
    ∙ ap (λ xs. bits_for c.face_count-faces.result (glued_in xs) (flag_at c.args.seam.now)) c.sides_across.ensures.entries
    ∙ ap (λ n. bits_for n (gluing_of c.args.t.now) (flag_at c.args.seam.now)) c.face_count-faces.ensures.count in
    block_tells_flags c.args.t.now.faces (gluing_of c.args.t.now) c.args.seam.now b c.face_count-faces.ensures.gluing c.requires
    (rw (ap (λ (xs : List Bool). length xs) bits ∙ length-map (bit_sides c.args.t.now.faces (gluing_of c.args.t.now)) (flag_at c.args.seam.now), bits) at first)
