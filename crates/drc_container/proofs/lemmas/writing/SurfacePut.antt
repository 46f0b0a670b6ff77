-- The values of a mesh's attributes by Edgebreaker, written one attribute after another.
use Rattle.std.proofs.Common.{◌≡◌, ℕ, zero, suc, ◌+◌, ◌-◌, ◌<◌, ◌≤◌, List, [], ◌∷◌, ◌++◌, length, map, length-take-le, take, drop, get_or, Some, None, refl, sym, ap, ◌∙◌, subst, arith, drop-cons, append_assoc, append-nil}
use Rattle.std.specs.Prelude.{flat_map}
use Rattle.std.specs.List.{All, enumerate_from, range_with_len}
use Rattle.std.proofs.lemmas.Grind.{flat_map-append}
use Rattle.std.proofs.lemmas.List.{take_all, take_more}
use Rattle.std.proofs.lemmas.List.FromFn.{length-map-range_with_len, map-range_with_len_more}
use Rattle.std.proofs.lemmas.List.Elements.{All-nil, All-cons, All-append}
use Rattle.attr_heads.specs.declared.heads.Head.{Head}
use Rattle.mesh_model.specs.Groups.{AttrTable}
use Rattle.mesh_model.specs.Parts.{IsMesh}
use Rattle.corner_table.specs.Ordered.{Ordered}
use Rattle.corner_table.specs.Sides.{IsGluing}
use Rattle.attr_section.specs.declared.decoder_heads.DecoderHead.{DecoderHead}
use Rattle.attr_section.specs.declared.values.Values.{Values}
use Rattle.attr_section.specs.Positions.{PositionsRead, with_attribute}
use Rattle.attr_section.specs.Written.{DecoderValuesPass, HaveEntries, IsReadIn, any_came_later, decoder_values_bytes}
use Rattle.drc_container.specs.declared.choice.codings.Coding.{Coding}
use Rattle.drc_container.specs.writing.WrittenOnSurface.{GluedMesh, surface_order, table_by, positions_before, coded_by, coded_values, decoder_for, decoders_for, attribute_bytes, values_bytes_on}
use Rattle.drc_container.specs.writing.Encoded.{AttributeSpelled, AreReadAgain}
use Rattle.drc_container.specs.choice.CanCode.{CanCode}
use Rattle.drc_container.specs.choice.Predicts.{needed_number}
use Rattle.drc_container.specs.reading.OnSurface.{positions_from}
use Rattle.drc_container.proofs.lemmas.reading.PositionsAmong.{from-one}
use Rattle.drc_container.proofs.lemmas.writing.Needed.{read-needed_at}
use Rattle.drc_container.proofs.lemmas.writing.SurfaceParts.{asked-of, enumerate-more, values-at, values-each, decoder-at, decoders-each, decoder-values-pass, decoder-entries}

-- what stands for the head of an attribute that isn't there
pub no_head : Head
no_head = record { usage = 0; dtype = 0; comps = 0; normalized = 0; id = 0; quant = None; octa = None }

-- the head of attribute k
abbrev pub head_at : GluedMesh → ℕ → Head
head_at d k = get_or d.mesh.heads k no_head

get_or-alike : {A : Type 0} (xs : List A) (k : ℕ) (a b : A) → k < length xs → get_or xs k a ≡ get_or xs k b
get_or-alike [] k a b has = absurd (omega (arith, has))
get_or-alike (x ∷ xs) zero a b has = refl
get_or-alike (x ∷ xs) (suc k) a b has = get_or-alike xs k a b (omega (arith, has))

-- what is known of attribute k: its decoder, and its values
pub record IsAt (coding : Coding) (d : GluedMesh) (k : ℕ) (x : DecoderHead) (part : List Values) : Type 0 where
  pub has : k < length d.mesh.heads
  pub decoder : x ≡ decoder_for coding d k (head_at d k)
  pub values : part ≡ coded_by coding d k ∷ []

pub is-at : (coding : Coding) (d : GluedMesh) (decoders : List DecoderHead) (values : List Values) (k : ℕ) (x : DecoderHead) → decoders ≡ decoders_for coding d
    → values ≡ coded_values coding d → k < length decoders → x ≡ get_or decoders k x → IsAt coding d k x (take (k + 1 - k) (drop k values))
is-at coding d decoders values k x same_decoders same_values below is =
    let has : k < length d.mesh.heads = omega (arith, below, ap length same_decoders, decoders-each coding d) in
    let one : k + 1 - k ≡ 1 = omega arith in
    let v = coded_by coding d k in
    let there : k < length (coded_values coding d) = omega (arith, has, values-each coding d) in
    record {
      has = has;
      decoder = is ∙ ap (λ (l : List DecoderHead). get_or l k x) same_decoders ∙ decoder-at coding d k x no_head has;
      values = rw (one, same_values, drop-cons (coded_values coding d) k v there, values-at coding d k v has) refl;
    }

-- they pass
pub put-pass : (coding : Coding) (d : GluedMesh) (k : ℕ) (x : DecoderHead) (part : List Values) → IsMesh d.mesh → IsGluing (length d.mesh.faces) d.pairs
    → 0 < length d.mesh.faces → CanCode d.mesh.heads (coded_values coding d)
    → IsAt coding d k x part → DecoderValuesPass (Some (surface_order coding d k)) x.heads part
put-pass coding d k x part is G faces can at =
    let w = Some (surface_order coding d k) in
    subst (λ (l : List Values). DecoderValuesPass w x.heads l) (sym at.values)
    (subst (λ (y : DecoderHead). DecoderValuesPass w y.heads (coded_by coding d k ∷ [])) (sym at.decoder) (decoder-values-pass coding d is G faces can k no_head at.has))

-- and are those of each entry
pub put-entries : (coding : Coding) (d : GluedMesh) (k : ℕ) (x : DecoderHead) (part : List Values) → IsMesh d.mesh
    → IsAt coding d k x part → HaveEntries (length (surface_order coding d k).corners) x.heads part
put-entries coding d k x part is at =
    let n = length (surface_order coding d k).corners in
    subst (λ (l : List Values). HaveEntries n x.heads l) (sym at.values)
    (subst (λ (y : DecoderHead). HaveEntries n y.heads (coded_by coding d k ∷ [])) (sym at.decoder) (decoder-entries coding d is k no_head at.has))

-- what is written of them is the attribute's bytes
pub put-bytes : (coding : Coding) (d : GluedMesh) (k : ℕ) (x : DecoderHead) (part : List Values) (found : PositionsRead) → IsAt coding d k x part
    → found ≡ positions_before coding d k
    → decoder_values_bytes coding.plain (Some (surface_order coding d k)) found x.heads part ≡ attribute_bytes coding d k (head_at d k)
put-bytes coding d k x part found at behind =
    let w = Some (surface_order coding d k) in
    ap (λ (l : List Values). decoder_values_bytes coding.plain w found x.heads l) at.values
    ∙ ap (λ (y : DecoderHead). decoder_values_bytes coding.plain w found y.heads (coded_by coding d k ∷ [])) at.decoder
    ∙ ap (λ (f : PositionsRead). decoder_values_bytes coding.plain w f (head_at d k ∷ []) (coded_by coding d k ∷ [])) behind

-- which is read back as the attribute
pub put-again : (coding : Coding) (d : GluedMesh) (k : ℕ) (x : DecoderHead) (part : List Values) (found : PositionsRead) → IsAt coding d k x part → found ≡ positions_before coding d k
    → ((n : ℕ) → IsReadIn n found found (any_came_later x.heads part) → AreReadAgain n coding.plain (surface_order coding d k) found x part)
    → AttributeSpelled (needed_number coding.predict d.mesh.heads) coding d k (head_at d k)
put-again coding d k x part found at behind again =
    let w = surface_order coding d k in
    let n = needed_number coding.predict d.mesh.heads in
    let v = coded_by coding d k in
    let needed : IsReadIn n found found (any_came_later (head_at d k ∷ []) (v ∷ [])) = read-needed_at coding.predict d.mesh.heads k no_head v found at.has (asked-of coding d k no_head at.has) in
    let here : IsReadIn n found found (any_came_later x.heads part) =
    subst (λ (l : List Values). IsReadIn n found found (any_came_later x.heads l)) (sym at.values)
    (subst (λ (y : DecoderHead). IsReadIn n found found (any_came_later y.heads (v ∷ []))) (sym at.decoder) needed) in
    subst (λ (f : PositionsRead). AreReadAgain n coding.plain w f (decoder_for coding d k (head_at d k)) (v ∷ [])) behind
    (subst (λ (y : DecoderHead). AreReadAgain n coding.plain w found y (v ∷ [])) at.decoder
    (subst (λ (l : List Values). AreReadAgain n coding.plain w found x l) at.values (again n here)))

-- its head and its values, each in a list of those of all
pub head-named : (d : GluedMesh) (k : ℕ) (own heads : List Head) (h : Head) → k < length d.mesh.heads → heads ≡ own → own ≡ d.mesh.heads → h ≡ get_or heads k h → h ≡ head_at d k
head-named d k own heads h has is same named =
    named ∙ ap (λ (l : List Head). get_or l k h) (is ∙ same) ∙ get_or-alike d.mesh.heads k h no_head has

pub value-named : (coding : Coding) (d : GluedMesh) (k : ℕ) (values : List Values) (v : Values) → k < length d.mesh.heads → values ≡ coded_values coding d
    → v ≡ get_or values k v → v ≡ coded_by coding d k
value-named coding d k values v has is named = named ∙ ap (λ (l : List Values). get_or l k v) is ∙ values-at coding d k v has

-- nothing was found in front of the first
pub found-none : (coding : Coding) (d : GluedMesh) → PositionsRead.NotYet ≡ positions_before coding d 0
unfolding positions_before
found-none coding d = refl

-- and behind one attribute more stands what is found with its values
pub found-more : (coding : Coding) (d : GluedMesh) (k : ℕ) (h : Head) (v : Values) (w : Ordered) (found next : PositionsRead) → k < length d.mesh.heads
    → found ≡ positions_before coding d k → h ≡ head_at d k → v ≡ coded_by coding d k → w ≡ surface_order coding d k
    → next ≡ with_attribute found h v.values (Some w.entries) → next ≡ positions_before coding d (k + 1)
unfolding positions_before
found-more coding d k h v w found next has behind is_h is_v is_w is =
    let t : AttrTable = table_by coding d k in
    let heads = take k d.mesh.heads in
    let front = map (table_by coding d) (range_with_len 0 k) in
    let joined : take (k + 1) d.mesh.heads ≡ heads ++ head_at d k ∷ [] = take_more d.mesh.heads k no_head has in
    let tables : map (table_by coding d) (range_with_len 0 (k + 1)) ≡ front ++ t ∷ [] = map-range_with_len_more (table_by coding d) 0 k k (omega arith) in
    let long : length front ≡ length heads = length-map-range_with_len (table_by coding d) 0 k ∙ sym (length-take-le k d.mesh.heads (omega (arith, has))) in
    is
    ∙ ap (λ (f : PositionsRead). with_attribute f h v.values (Some w.entries)) behind
    ∙ ap (λ (x : Head). with_attribute (positions_from PositionsRead.NotYet heads front) x v.values (Some w.entries)) is_h
    ∙ ap (λ (x : Values). with_attribute (positions_from PositionsRead.NotYet heads front) (head_at d k) x.values (Some w.entries)) is_v
    ∙ ap (λ (x : Ordered). with_attribute (positions_from PositionsRead.NotYet heads front) (head_at d k) (coded_by coding d k).values (Some x.entries)) is_w
    ∙ sym (from-one PositionsRead.NotYet heads (head_at d k) front t long)
    ∙ ap (λ (hs : List Head). positions_from PositionsRead.NotYet hs (front ++ t ∷ [])) (sym joined)
    ∙ ap (λ (ts : List AttrTable). positions_from PositionsRead.NotYet (take (k + 1) d.mesh.heads) ts) (sym tables)

-- ---- one attribute more

-- the bytes
pub bytes-more : (coding : Coding) (d : GluedMesh) (k : ℕ) → k < length d.mesh.heads
    → flat_map (λ (j, h). attribute_bytes coding d j h) (enumerate_from 0 (take (k + 1) d.mesh.heads))
    ≡ flat_map (λ (j, h). attribute_bytes coding d j h) (enumerate_from 0 (take k d.mesh.heads)) ++ attribute_bytes coding d k (head_at d k)
bytes-more coding d k has =
    let f : ℕ × Head → List ℕ = λ (j, h). attribute_bytes coding d j h in
    let front = enumerate_from 0 (take k d.mesh.heads) in
    let zero_k : 0 + k ≡ k = omega arith in
    ap (flat_map f) (enumerate-more 0 d.mesh.heads k no_head has)
    ∙ flat_map-append f front ((0 + k, head_at d k) ∷ [])
    ∙ ap (λ (l : List ℕ). flat_map f front ++ l) (append-nil (f (0 + k, head_at d k)) ∙ ap (λ (j : ℕ). attribute_bytes coding d j (head_at d k)) zero_k)

-- behind what was there
pub put-more : (coding : Coding) (d : GluedMesh) (k : ℕ) (x : DecoderHead) (part : List Values) (found : PositionsRead) (old new front : List ℕ) → IsAt coding d k x part
    → found ≡ positions_before coding d k → new ≡ front ++ decoder_values_bytes coding.plain (Some (surface_order coding d k)) found x.heads part
    → front ≡ old ++ flat_map (λ (j, h). attribute_bytes coding d j h) (enumerate_from 0 (take k d.mesh.heads))
    → new ≡ old ++ flat_map (λ (j, h). attribute_bytes coding d j h) (enumerate_from 0 (take (k + 1) d.mesh.heads))
put-more coding d k x part found old new front at behind more so =
    let f : ℕ × Head → List ℕ = λ (j, h). attribute_bytes coding d j h in
    let before = flat_map f (enumerate_from 0 (take k d.mesh.heads)) in
    more
    ∙ ap (λ (l : List ℕ). front ++ l) (put-bytes coding d k x part found at behind)
    ∙ ap (λ (l : List ℕ). l ++ attribute_bytes coding d k (head_at d k)) so
    ∙ append_assoc old before (attribute_bytes coding d k (head_at d k))
    ∙ ap (λ (l : List ℕ). old ++ l) (sym (bytes-more coding d k at.has))

-- and what is read back
pub again-more : (n : ℕ) (coding : Coding) (d : GluedMesh) (k : ℕ) → k < length d.mesh.heads
    → All (λ (j, h). AttributeSpelled n coding d j h) (enumerate_from 0 (take k d.mesh.heads)) → AttributeSpelled n coding d k (head_at d k)
    → All (λ (j, h). AttributeSpelled n coding d j h) (enumerate_from 0 (take (k + 1) d.mesh.heads))
again-more n coding d k has front here =
    let P : ℕ × Head → Type 0 = λ (j, h). AttributeSpelled n coding d j h in
    let h = head_at d k in
    let zero_k : 0 + k ≡ k = omega arith in
    let last : P (0 + k, h) = subst (λ (j : ℕ). AttributeSpelled n coding d j h) (sym zero_k) here in
    subst (All P) (sym (enumerate-more 0 d.mesh.heads k no_head has))
    (All-append P (enumerate_from 0 (take k d.mesh.heads)) ((0 + k, h) ∷ []) front (All-cons P (0 + k, h) [] last (All-nil P)))

-- ---- at the end

pub bytes-end : (coding : Coding) (d : GluedMesh) (k : ℕ) (old out : List ℕ) → length d.mesh.heads ≤ k
    → out ≡ old ++ flat_map (λ (j, h). attribute_bytes coding d j h) (enumerate_from 0 (take k d.mesh.heads)) → out ≡ old ++ values_bytes_on coding d
bytes-end coding d k old out done so =
    so ∙ ap (λ (hs : List Head). old ++ flat_map (λ (j, h). attribute_bytes coding d j h) (enumerate_from 0 hs)) (take_all k d.mesh.heads done)

pub again-end : (n : ℕ) (coding : Coding) (d : GluedMesh) (k : ℕ) → length d.mesh.heads ≤ k
    → All (λ (j, h). AttributeSpelled n coding d j h) (enumerate_from 0 (take k d.mesh.heads)) → All (λ (j, h). AttributeSpelled n coding d j h) (enumerate_from 0 d.mesh.heads)
again-end n coding d k done so =
    subst (λ (hs : List Head). All (λ (j, h). AttributeSpelled n coding d j h) (enumerate_from 0 hs)) (take_all k d.mesh.heads done) so
