-- Decoders of attributes on a surface, one at a time.
use Rattle.drc_base.specs.Profile.{Profile}
use Rattle.std.proofs.Common.{◌≡◌, ℕ, Bool, true, List, [], ◌∷◌, Some, Ok, refl, sym, ◌∙◌, ap}
use Rattle.std.specs.Prelude.{if◌then◌else◌}
use Rattle.drc_base.specs.declared.faults.Refusal.{Refusal}
use Rattle.drc_base.specs.declared.faults.Refusal.TheVariants as refusal
use Rattle.drc_base.specs.Refusals.{Refuses}
use Rattle.drc_bits.specs.Reading.{Reading, Item}
use Rattle.corner_table.specs.Sides.{Gluing}
use Rattle.corner_table.specs.Table.{Table, gluing_of}
use Rattle.rans_binary.specs.Blocks.{Block}
use Rattle.attr_section.specs.declared.decoder_heads.DecoderHead.{DecoderHead}
use Rattle.eb_section.specs.Connectivity.{Connectivity}
use Rattle.drc_container.specs.reading.OnSurface.{SurfaceAttributes, seams_of, cut_at, ordered_by, ordered_for, attributes_joined, values_on, positions_among, decoder_on, surface_decoders_at}

-- the next decoder was read
pub surface_decoders_at-next : (p : Profile) (s : Connectivity) (before x : SurfaceAttributes) (d : DecoderHead) (ds rest : List DecoderHead) (c next : Reading) (whole : Item SurfaceAttributes)
    → surface_decoders_at p s before ds c ≡ whole → ds ≡ d ∷ rest → decoder_on p (ordered_for s d) (positions_among before) d (values_on before.tables) c ≡ Ok (x, next)
    → surface_decoders_at p s (attributes_joined before x) rest next ≡ whole
unfolding surface_decoders_at
surface_decoders_at-next p s before x d ds rest c next whole so is read = sym (rw (is, read) refl) ∙ so

-- the next decoder is refused
pub surface_decoders_at-refuses : (p : Profile) (s : Connectivity) (before : SurfaceAttributes) (d : DecoderHead) (ds rest : List DecoderHead) (c : Reading) (r : Refusal) (whole : Item SurfaceAttributes)
    → surface_decoders_at p s before ds c ≡ whole → ds ≡ d ∷ rest → Refuses (decoder_on p (ordered_for s d) (positions_among before) d (values_on before.tables) c) r
    → Refuses whole r
unfolding surface_decoders_at
surface_decoders_at-refuses p s before d ds rest c refusal.Memory whole so is refuses = tt
surface_decoders_at-refuses p s before d ds rest c (refusal.Fault f) whole so is refuses = sym so ∙ rw (is, refuses) refl

-- no decoder is left
pub surface_decoders_at-end : (p : Profile) (s : Connectivity) (before : SurfaceAttributes) (ds : List DecoderHead) (c : Reading) (whole : Item SurfaceAttributes)
    → surface_decoders_at p s before ds c ≡ whole → ds ≡ [] → whole ≡ Ok (before, c)
unfolding surface_decoders_at
surface_decoders_at-end p s before ds c whole so none = sym so ∙ rw none refl

-- a table that was cut at the seams of a block is ordered as the cut surface
pub ordered-cut : (degree : Bool) (t u : Table) (block : Block) → u.faces ≡ t.faces → gluing_of u ≡ cut_at t.faces (gluing_of t) block
    → ordered_by degree u.faces (gluing_of u) ≡ ordered_by degree t.faces (cut_at t.faces (gluing_of t) block)
ordered-cut degree t u block same pairs =
    ap (λ (n : ℕ). ordered_by degree n (gluing_of u)) same ∙ ap (ordered_by degree t.faces) pairs

-- the surface that is cut at the seams of a decoder's attribute data is that of the decoder
pub ordered-seams : (s : Connectivity) (d : DecoderHead) (id : ℕ) (block : Block) (t : Table) → d.corner ≡ true → d.data_id ≡ Some id
    → block ≡ seams_of s.seams (Some id) → t.faces ≡ s.faces → gluing_of t ≡ s.glued
    → ordered_by d.degree t.faces (cut_at t.faces (gluing_of t) block) ≡ ordered_for s d
ordered-seams s d id block t corner is seams faces glued =
    let whole : Gluing = cut_at s.faces s.glued (seams_of s.seams d.data_id) in
    let cut : cut_at t.faces (gluing_of t) block ≡ whole =
    ap (λ (n : ℕ). cut_at n (gluing_of t) block) faces ∙ ap (λ (g : Gluing). cut_at s.faces g block) glued
    ∙ ap (λ (b : Block). cut_at s.faces s.glued b) (seams ∙ ap (seams_of s.seams) (sym is)) in
    let chosen : Bool → Gluing = λ c. if c then whole else s.glued in
    ap (λ (n : ℕ). ordered_by d.degree n (cut_at t.faces (gluing_of t) block)) faces ∙ ap (ordered_by d.degree s.faces) (cut ∙ ap chosen (sym corner))
