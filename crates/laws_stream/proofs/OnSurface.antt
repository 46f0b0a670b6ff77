-- The attributes of a mesh that is written by Edgebreaker are read back: the heads of their decoders, and the values of each.
use Rattle.std.proofs.Common.{◌≡◌, ℕ, ◌+◌, ◌-◌, ◌<◌, List, [], ◌∷◌, length, map, get_or, Some, sym, subst, arith}
use Rattle.std.specs.List.{All, enumerate_from}
use Rattle.std.proofs.lemmas.List.Elements.{All-nil, All-cons, All-head, All-tail, All-get_or}
use Rattle.std.proofs.lemmas.List.FromFn.{length-enumerate_from, get_or-enumerate_from}
use Rattle.drc_base.specs.Profile.{profile_numbered}
use Rattle.drc_bits.specs.Spells.{Spells}
use Rattle.attr_heads.specs.declared.heads.Head.{Head}
use Rattle.mesh_model.specs.Parts.{MeshParts, IsMesh}
use Rattle.corner_table.specs.Sides.{IsGluing}
use Rattle.attr_section.specs.declared.decoder_heads.DecoderHead.{DecoderHead}
use Rattle.attr_section.specs.Heads.{bare_decoder, heads_at}
use Rattle.laws_attr.specs.Laws.{HeadFits, HeadsAreRead, DecoderValuesAreRead}
use Rattle.drc_container.specs.declared.choice.codings.Coding.{Coding}
use Rattle.drc_container.specs.writing.WrittenOnSurface.{coded_values, GluedMesh, decoded, surface_order, coded_by, positions_before, decoder_for, decoders_for, decoder_heads_bytes}
use Rattle.drc_container.specs.writing.Encoded.{CanCodeSurface, AttributeSpelled}
use Rattle.drc_container.specs.choice.CanCode.{CanCode}
use Rattle.drc_container.specs.choice.Predicts.{needed_number}
use Rattle.drc_container.proofs.lemmas.surface.Decoded.{decoded-keeps}
use Rattle.drc_container.proofs.lemmas.writing.SurfaceLinks.{are-linked, codings-for}
use Rattle.drc_container.proofs.lemmas.writing.Needed.{read-needed_at}
use Rattle.drc_container.proofs.lemmas.writing.SurfaceParts.{asked-of, decoders-pass, decoder-values-pass, decoder-entries}
use Rattle.laws_stream.proofs.Ordered.{walk-few}

-- ---- the heads

-- the one head of each decoder is one of the mesh's
decoders-fit : (coding : Coding) (d : GluedMesh) (k : ℕ) (heads : List Head) → All HeadFits heads
    → All (λ (x : DecoderHead). All HeadFits x.heads) (map (λ (j, h). decoder_for coding d j h) (enumerate_from k heads))
decoders-fit coding d k [] fit = All-nil (λ (x : DecoderHead). All HeadFits x.heads)
decoders-fit coding d k (h ∷ heads) fit =
    let f : ℕ × Head → DecoderHead = λ (j, x). decoder_for coding d j x in
    All-cons (λ (x : DecoderHead). All HeadFits x.heads) (decoder_for coding d k h) (map f (enumerate_from (k + 1) heads))
    (All-cons HeadFits h [] (All-head HeadFits h heads fit) (All-nil HeadFits)) (decoders-fit coding d (k + 1) heads (All-tail HeadFits h heads fit))

-- the heads of the decoders
heads-again : HeadsAreRead → (coding : Coding) (d : GluedMesh) → IsMesh d.mesh → All HeadFits d.mesh.heads
    → Spells (heads_at (profile_numbered (needed_number coding.predict d.mesh.heads)) (Some (length d.mesh.heads - 1))) (decoder_heads_bytes coding d) (map bare_decoder (decoders_for coding d))
unfolding decoders_for
heads-again read coding d is fit =
    read (needed_number coding.predict d.mesh.heads) (Some (length d.mesh.heads - 1)) (decoders_for coding d) (codings-for coding d) (decoders-pass coding d is) (decoders-fit coding d 0 d.mesh.heads fit) (are-linked coding d is)

pub surface_heads-again : HeadsAreRead → (coding : Coding) (m : MeshParts) → IsMesh m → CanCodeSurface coding m → All HeadFits m.heads
    → Spells (heads_at (profile_numbered (needed_number coding.predict m.heads)) (Some (length m.heads - 1))) (decoder_heads_bytes coding (decoded m)) (map bare_decoder (decoders_for coding (decoded m)))
surface_heads-again read coding m is can fit =
    let d = decoded m in
    let D = decoded-keeps m is can.proper in
    subst (λ (hs : List Head). Spells (heads_at (profile_numbered (needed_number coding.predict hs)) (Some (length hs - 1))) (decoder_heads_bytes coding d) (map bare_decoder (decoders_for coding d))) D.heads
    (heads-again read coding d D.mesh (subst (All HeadFits) (sym D.heads) fit))

-- ---- the values

-- the values of attribute k
values-again : DecoderValuesAreRead → (coding : Coding) (d : GluedMesh) → IsMesh d.mesh → IsGluing (length d.mesh.faces) d.pairs → 0 < length d.mesh.faces
    → CanCode d.mesh.heads (coded_values coding d)
    → All HeadFits d.mesh.heads → (k : ℕ) (e : Head) → k < length d.mesh.heads → AttributeSpelled (needed_number coding.predict d.mesh.heads) coding d k (get_or d.mesh.heads k e)
values-again read coding d is G faces can fit k e has =
    let h = get_or d.mesh.heads k e in
    let w = surface_order coding d k in
    let fits : All HeadFits (h ∷ []) = All-cons HeadFits h [] (All-get_or HeadFits d.mesh.heads k e has fit) (All-nil HeadFits) in
    record {
      reads = λ spent place rest few.
          read coding.plain (Some w) (positions_before coding d k) (decoder_for coding d k h) (coded_by coding d k ∷ [])
          (decoder-values-pass coding d is G faces can k e has) fits (walk-few coding d k G)
          (needed_number coding.predict d.mesh.heads) (positions_before coding d k) (length w.corners) spent place rest
          (read-needed_at coding.predict d.mesh.heads k e (coded_by coding d k) (positions_before coding d k) has (asked-of coding d k e has))
          (decoder-entries coding d is k e has) few;
    }

-- what holds of each numbered item
numbered-all : (P : ℕ × Head → Type 0) (xs : List Head) → ((k : ℕ) (e : Head) → k < length xs → P (k, get_or xs k e)) → All P (enumerate_from 0 xs)
numbered-all P xs each i y below =
    let long = length-enumerate_from 0 xs in
    let at : (j : ℕ) → i ≡ j → P (j, get_or xs i y.1) = λ j same. subst (λ (n : ℕ). P (n, get_or xs i y.1)) same (each i y.1 (omega (arith, below, long))) in
    subst P (sym (get_or-enumerate_from 0 xs i y (omega (arith, below, long)))) (at (0 + i) (omega arith))

pub surface_values-again : DecoderValuesAreRead → (coding : Coding) (m : MeshParts) → IsMesh m
    → CanCodeSurface coding m → All HeadFits m.heads
    → All (λ (k, h). AttributeSpelled (needed_number coding.predict m.heads) coding (decoded m) k h) (enumerate_from 0 m.heads)
surface_values-again read coding m is can fit =
    let d = decoded m in
    let D = decoded-keeps m is can.proper in
    let some : 0 < length d.mesh.faces = omega (arith, D.faces, can.some) in
    let coded : CanCode d.mesh.heads (coded_values coding d) = subst (λ (hs : List Head). CanCode hs (coded_values coding d)) (sym D.heads) can.values in
    subst (λ (hs : List Head). All (λ (k, h). AttributeSpelled (needed_number coding.predict hs) coding d k h) (enumerate_from 0 hs)) D.heads
    (numbered-all (λ (k, h). AttributeSpelled (needed_number coding.predict d.mesh.heads) coding d k h) d.mesh.heads
    (values-again read coding d D.mesh D.gluing some coded (subst (All HeadFits) (sym D.heads) fit)))
