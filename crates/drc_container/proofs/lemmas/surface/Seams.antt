-- The surfaces on which the values of a mesh that is written by Edgebreaker stand, as its decoders walk them.
use Rattle.std.proofs.Common.{◌≡◌, ℕ, zero, suc, ◌-◌, ◌<◌, Bool, true, false, List, [], ◌∷◌, map, length, get_or, None, Some, refl, sym, ◌∙◌, ap, subst, arith}
use Rattle.std.specs.Prelude.{if◌then◌else◌, nat_lt}
use Rattle.std.specs.List.{All, list_any}
use Rattle.std.proofs.lemmas.Bool.{and_parts, ltb-true, ne_eqb}
use Rattle.std.proofs.lemmas.List.{length-map}
use Rattle.std.proofs.lemmas.List.Elements.{All-head, All-tail, All-weaker, All-filter}
use Rattle.std.proofs.lemmas.List.FromFn.{get_or-map-range_with_len, length-map-range_with_len}
use Rattle.attr_heads.specs.declared.heads.Head.{Head}
use Rattle.mesh_model.specs.Parts.{MeshParts, IsMesh}
use Rattle.corner_table.specs.Sides.{Side, Gluing, IsGluing}
use Rattle.corner_table.specs.Fans.{corners_of}
use Rattle.corner_table.specs.Pairs.{has_bit, bit_sides}
use Rattle.corner_table.proofs.Numbers.{face-lt}
use Rattle.corner_table.proofs.PairLaws.{length-corners_of, corner_at}
use Rattle.pairing.specs.Degenerate.{degenerate_fault}
use Rattle.rans_binary.specs.Blocks.{Block, first_bits}
use Rattle.seams.specs.Seams.{flag_at, flags_listed, unseamed}
use Rattle.seams.specs.SeamBits.{seam_bits}
use Rattle.seams.specs.Values.{is_seam}
use Rattle.seams.proofs.Listing.{flag_at-listed}
use Rattle.seams.proofs.Values.{seams_are_flags}
use Rattle.seams.proofs.Blocks.{block_tells_flags}
use Rattle.seams.proofs.Chains.{list_cuts_alike}
use Rattle.attr_section.specs.Heads.{position_id, bare_decoder}
use Rattle.eb_section.specs.ReadAgain.{BeginsWith, BeginWith}
use Rattle.drc_container.specs.declared.choice.codings.Coding.{Coding}
use Rattle.drc_container.specs.reading.OnSurface.{no_block, seams_of, cut_at, cut_for, ordered_by, ordered_for}
use Rattle.drc_container.specs.writing.WrittenOnSurface.{GluedMesh, decoded, seam_bits_of, is_cornered, cut_of, is_by_degree, surface_order, data_id_of, decoder_for, seam_lists}
use Rattle.drc_container.proofs.lemmas.surface.Traced.{decoded-proper, decoded-faces, decoded-heads}
use Rattle.drc_container.proofs.lemmas.writing.SurfaceConnectivity.{connectivity_written}

-- maps by functions that agree at each item
pub map-agree : {A B : Type 0} (f g : A → B) (xs : List A) → All (λ x. f x ≡ g x) xs → map f xs ≡ map g xs
map-agree f g [] same = refl
map-agree f g (x ∷ xs) same =
    ap (λ y. y ∷ map f xs) (All-head (λ y. f y ≡ g y) x xs same) ∙ ap (λ ys. g x ∷ ys) (map-agree f g xs (All-tail (λ y. f y ≡ g y) x xs same))

-- the corners of a surface are those of its faces
corners-within : (faces : ℕ) → All (λ (x : Side). x.face < faces) (corners_of faces)
corners-within faces i d below =
    let inside = length-corners_of faces in
    subst (λ (x : Side). x.face < faces) (sym (corner_at faces i d (omega arith))) (face-lt i faces (omega arith))

-- flags as a list have the same seam bits
bits-listed : (faces : ℕ) (g : Gluing) (flags : Side → Bool) → seam_bits faces g (flag_at (flags_listed faces flags)) ≡ seam_bits faces g flags
bits-listed faces g flags =
    map-agree (flag_at (flags_listed faces flags)) flags (bit_sides faces g)
    (All-weaker (λ (x : Side). x.face < faces) (λ x. flag_at (flags_listed faces flags) x ≡ flags x) (λ x below. flag_at-listed faces flags x below) (bit_sides faces g)
    (All-filter (has_bit g) (λ (x : Side). x.face < faces) (corners_of faces) (corners-within faces)))

-- a block that begins with the seam bits of an attribute cuts the surface at its seams
cut-told : (faces : ℕ) (g : Gluing) (m : MeshParts) (k : ℕ) (b : Block) → IsGluing faces g → BeginsWith (seam_bits faces g (is_seam m k g)) b
    → cut_at faces g b ≡ unseamed (is_seam m k g) g
cut-told faces g m k b gluing begins =
    let flags : List Bool = flags_listed faces (is_seam m k g) in
    let count : length (seam_bits faces g (is_seam m k g)) ≡ length (bit_sides faces g) = length-map (bit_sides faces g) (is_seam m k g) in
    let first : first_bits (length (bit_sides faces g)) b ≡ seam_bits faces g (flag_at flags) =
    ap (λ (n : ℕ). first_bits n b) (sym count) ∙ begins.first ∙ sym (bits-listed faces g (is_seam m k g)) in
    ap (λ (fs : List Bool). unseamed (flag_at fs) g) (block_tells_flags faces g flags b gluing (seams_are_flags faces g m k gluing) first)
    ∙ list_cuts_alike faces g (is_seam m k g) gluing

-- of lists and the blocks that begin with them, one list and its block
block-begins : (lists : List (List Bool)) (blocks : List Block) (k : ℕ) (bits : List Bool) (b : Block) → BeginWith lists blocks → k < length lists
    → BeginsWith (get_or lists k bits) (get_or blocks k b)
block-begins [] blocks k bits b begin below = absurd (omega arith)
block-begins (first ∷ lists) [] k bits b begin below = absurd begin
block-begins (first ∷ lists) (c ∷ blocks) zero bits b begin below = begin.0
block-begins (first ∷ lists) (c ∷ blocks) (suc k) bits b begin below = block-begins lists blocks k bits b begin.1 (omega arith)

-- the block of attribute k, which isn't the first
seams-begin : (d : GluedMesh) (blocks : List Block) (k : ℕ) → BeginWith (seam_lists d) blocks → 0 < k → k < length d.mesh.heads
    → BeginsWith (seam_bits_of d k) (get_or blocks (k - 1) no_block)
seams-begin d blocks k begin later below =
    let long : length (seam_lists d) ≡ length d.mesh.heads - 1 = length-map-range_with_len (seam_bits_of d) 1 (length d.mesh.heads - 1) in
    subst (λ (bits : List Bool). BeginsWith bits (get_or blocks (k - 1) no_block))
    (get_or-map-range_with_len (seam_bits_of d) 1 (length d.mesh.heads - 1) (k - 1) k [] (omega arith) (omega arith))
    (block-begins (seam_lists d) blocks (k - 1) [] no_block begin (omega arith))

-- values that belong to corners aren't those of the first attribute
cornered-later : (d : GluedMesh) (k : ℕ) → is_cornered d k ≡ true → 0 < k
unfolding is_cornered
cornered-later d k cornered = ltb-true 0 k (and_parts (nat_lt 0 k) (list_any (λ bit. bit) (seam_bits_of d k)) cornered).0

-- one of two, where the first is given in two ways
pub chosen_alike : {A : Type 0} (c : Bool) (one same other : A) → (c ≡ true → one ≡ same) → (if c then one else other) ≡ (if c then same else other)
chosen_alike true one same other alike = alike refl
chosen_alike false one same other alike = refl

-- the surface of attribute k is read as it was written
cut-read : (coding : Coding) (m : MeshParts) (blocks : List Block) (k : ℕ) (h : Head) → IsMesh m → degenerate_fault m ≡ None
    → BeginWith (seam_lists (decoded m)) blocks → k < length m.heads
    → cut_for (connectivity_written coding m blocks) (bare_decoder (decoder_for coding (decoded m) k h)) ≡ cut_of (decoded m) k
cut-read coding m blocks k h is none begin below =
    let d : GluedMesh = decoded m in
    let faces = decoded-faces m is none in
    let heads : length d.mesh.heads ≡ length m.heads = ap (λ (l : List Head). length l) (decoded-heads m) in
    let cut : ℕ → Block → Gluing = λ n b. cut_at n d.pairs b in
    chosen_alike (is_cornered d k) (cut (length m.faces) (seams_of blocks (Some (data_id_of k)))) (unseamed (is_seam d.mesh k d.pairs) d.pairs) d.pairs
    (λ cornered.
    let later = cornered-later d k cornered in
    let id : data_id_of k ≡ k - 1 = ap (λ (b : Bool). if b then position_id else k - 1) (ne_eqb k 0 (λ e. omega arith)) in
    let begins : BeginsWith (seam_bits_of d k) (get_or blocks (k - 1) no_block) = seams-begin d blocks k begin later (omega arith) in
    let gluing : IsGluing (length d.mesh.faces) d.pairs = subst (λ (n : ℕ). IsGluing n d.pairs) (sym faces) (decoded-proper m is none).gluing in
    ap (λ (n : ℕ). cut n (seams_of blocks (Some (data_id_of k)))) (sym faces)
    ∙ ap (λ (n : ℕ). cut (length d.mesh.faces) (seams_of blocks (Some n))) id
    ∙ cut-told (length d.mesh.faces) d.pairs d.mesh k (get_or blocks (k - 1) no_block) gluing begins)

-- and walked as it was written
pub ordered-read : (coding : Coding) (m : MeshParts) (blocks : List Block) (k : ℕ) (h : Head) → IsMesh m → degenerate_fault m ≡ None
    → BeginWith (seam_lists (decoded m)) blocks → k < length m.heads
    → ordered_for (connectivity_written coding m blocks) (bare_decoder (decoder_for coding (decoded m) k h)) ≡ surface_order coding (decoded m) k
unfolding surface_order
ordered-read coding m blocks k h is none begin below =
    let d : GluedMesh = decoded m in
    ap (ordered_by (is_by_degree coding d k) (length m.faces)) (cut-read coding m blocks k h is none begin below)
    ∙ ap (λ (n : ℕ). ordered_by (is_by_degree coding d k) n (cut_of d k)) (sym (decoded-faces m is none))
