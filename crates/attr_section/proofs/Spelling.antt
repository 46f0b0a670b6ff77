-- Heads that are read back from their bytes.
use Rattle.std.proofs.Common.{◌≡◌, ℕ, ◌+◌, ◌<◌, ◌≤◌, Bool, true, false, not, List, [], ◌∷◌, ◌++◌, length, map, flat_map, replicate, Option, None, Some, option_map, is_some, inl, inr, Ok, nat_le, nat_lt, ◌==◌, ◌&&◌, if◌then◌else◌, refl, sym, ◌∙◌, ap, subst, append_assoc, append-nil, arith}
use Rattle.std.specs.List.{All, range_with_len}
use Rattle.std.proofs.lemmas.Grind.{common_steps}
use Rattle.std.proofs.lemmas.List.{length-map}
use Rattle.std.proofs.lemmas.List.Elements.{All-head, All-tail}
use Rattle.std.proofs.lemmas.Bool.{cases_eq, false≢true}
use Rattle.drc_base.specs.declared.kinds.Kind.TheVariants as kind
use Rattle.drc_base.specs.declared.limits.TheConstants.{MAX_ATTRIBUTES}
use Rattle.drc_base.specs.Profile.{profile_numbered}
use Rattle.drc_base.specs.Steps.{◌>>=◌}
use Rattle.drc_bits.specs.Reading.{Reading, Item, must, many_at}
use Rattle.drc_bits.specs.Numbers.{number_at}
use Rattle.drc_bits.specs.Varint.{var32_at, spelling}
use Rattle.drc_bits.specs.Spells.{Spells}
use Rattle.drc_bits.proofs.Spelled.{Spells-none, Spells-then, Spells-must, Spells-byte, Spells-var32}
use Rattle.attr_heads.specs.declared.heads.Head.{Head}
use Rattle.attr_section.specs.declared.decoder_heads.DecoderHead.{DecoderHead}
use Rattle.attr_section.specs.declared.links.Link.{Link}
use Rattle.attr_section.specs.Each.{each_at}
use Rattle.attr_heads.specs.HeadItems.{head_at, head_bytes, stream_head, bare_head, HeadPasses}
use Rattle.attr_heads.specs.DataTypes.{is_float, is_type}
use Rattle.attr_heads.specs.declared.codings.Coding.{Coding}
use Rattle.attr_heads.proofs.Types.{integer_type}
use Rattle.attr_heads.specs.declared.codings.Coding.TheVariants.{Generic, Integer, Quantised, Octahedral}
use Rattle.attr_heads.specs.declared.octahedra.TheConstants.{OCTAHEDRAL_COMPONENTS}
use Rattle.attr_heads.specs.Codings.{coding_facts, coding_of, coding_under, coded_under, coding_byte, goes_with, coded}
use Rattle.attr_section.specs.Heads.{position_id, no_link, decoder_count_at, is_known_id, is_used_id, most_element, most_walk, link_at, linked_at, links_at, known_coding_at, coding_at, coded_at, codings_at, attributes_of, attribute_count_at, decoder_at, decoders_at, heads_at, id_byte, link_bytes, decoder_bytes, links_bytes, heads_bytes, bare_decoder, link_of, DecoderPasses, DecodersPass, LinkPasses, LinksPass, AreAcceptedLinks, DecoderSpelled, HasSquareType, HasCoding, HaveCodings}

-- a value that is changed after it is read
pub Spells-map : {A B : Type 0} (f : A → B) (item : Reading → Item A) (bytes : List ℕ) (x : A) → Spells item bytes x → Spells (λ c. item c >>= λ r. Ok (f r.0, r.1)) bytes (f x)
Spells-map f item bytes x spells = record { reads = λ place rest. rw (spells.reads place rest) refl }

-- a coding that the profiles of a number have
Spells-known : (n : ℕ) (q : Coding) → (coding_facts q).since ≤ n → Spells (known_coding_at (profile_numbered n)) ((coding_facts q).byte ∷ []) q
unfolding known_coding_at
Spells-known n q has =
    let there : nat_le (coding_facts q).since n ≡ true = grind (arith, has) in
    record { reads = λ place rest. rw ((Spells-byte (coding_facts q).byte).reads place rest, of_byte q, there) refl }
  where
    of_byte : (q : Coding) → coding_of (coding_facts q).byte ≡ Some q
    of_byte Generic = refl
    of_byte Integer = refl
    of_byte Quantised = refl
    of_byte Octahedral = refl

-- a head by a coding that goes with it
Spells-coded : (n : ℕ) (q : Coding) (h : Head) → (coding_facts q).since ≤ n → goes_with q h ≡ true
    → Spells (coded_at (profile_numbered n) h) ((coding_facts q).byte ∷ []) (coded q h)
unfolding coded_at coding_at
Spells-coded n q h has goes =
    Spells-map (λ q. coded q h) (must kind.Coding (λ q. goes_with q h) (known_coding_at (profile_numbered n))) ((coding_facts q).byte ∷ []) q
    (Spells-must kind.Coding (λ q. goes_with q h) (known_coding_at (profile_numbered n)) ((coding_facts q).byte ∷ []) q goes (Spells-known n q has))

-- a head of these components, as a stream says it, and as it is read
abbrev in_stream : Head → ℕ → Head
in_stream h comps = record h { comps = comps; quant = None; octa = None }

abbrev as_read : Head → ℕ → Option ℕ → Head
as_read h comps octa = record h { comps = comps; quant = None; octa = octa }

-- a head without a square, which is coded as its type asks
Spells-unsquared : (n : ℕ) (h : Head) (float : Bool) → is_float h.dtype ≡ float → is_type h.dtype ≡ true
    → (coding_facts (if float then Quantised else Integer)).since ≤ n
    → Spells (coded_at (profile_numbered n) (in_stream h (coded_under (coding_facts (if float then Quantised else Integer)).fixed h.comps))) ((coding_facts (if float then Quantised else Integer)).byte ∷ []) (as_read h h.comps None)
Spells-unsquared n h true is typed has = Spells-coded n Quantised (in_stream h h.comps) has (rw is refl)
Spells-unsquared n h false is typed has = Spells-coded n Integer (in_stream h h.comps) has (rw (integer_type h.dtype typed is) refl)

-- a head with a square or without one
Spells-octa : (n : ℕ) (h : Head) (o : Option ℕ) → HasSquareType h o → is_type h.dtype ≡ true → (coding_facts (coding_under h.dtype o)).since ≤ n
    → Spells (coded_at (profile_numbered n) (in_stream h (coded_under (coding_facts (coding_under h.dtype o)).fixed h.comps))) ((coding_facts (coding_under h.dtype o)).byte ∷ []) (as_read h h.comps (option_map (λ (_ : ℕ). 0) o))
Spells-octa n h None square typed has = Spells-unsquared n h (is_float h.dtype) refl typed has
Spells-octa n h (Some bits) (float, comps) typed has =
    subst (λ (k : ℕ). Spells (coded_at (profile_numbered n) (in_stream h OCTAHEDRAL_COMPONENTS)) ((coding_facts Octahedral).byte ∷ []) (as_read h k (Some 0))) (sym comps)
    (Spells-coded n Octahedral (in_stream h OCTAHEDRAL_COMPONENTS) has (rw float refl))

Spells-coding : (n : ℕ) (h : Head) → HasSquareType h h.octa → is_type h.dtype ≡ true → HasCoding n h
    → Spells (coded_at (profile_numbered n) (stream_head h)) (coding_byte h ∷ []) (bare_head h)
Spells-coding n h square typed has = Spells-octa n h h.octa square typed has

-- the codings behind those read before
Spells-codings_behind : (n : ℕ) (front heads : List Head) → All (λ h. HasSquareType h h.octa) heads → All HeadPasses heads → All (HasCoding n) heads
    → Spells (each_at (λ _ h. coded_at (profile_numbered n) h) front (map stream_head heads)) (map coding_byte heads) (front ++ map bare_head heads)
unfolding each_at
Spells-codings_behind n front [] squares passes has = subst (λ l. Spells (λ c. Ok (front, c)) [] l) (sym (append-nil front)) (Spells-none front)
Spells-codings_behind n front (h ∷ heads) squares passes has =
    Spells-then (coded_at (profile_numbered n) (stream_head h)) (λ x c. each_at (λ _ g. coded_at (profile_numbered n) g) (front ++ x ∷ []) (map stream_head heads) c)
    (coding_byte h ∷ []) (map coding_byte heads) (bare_head h) (front ++ map bare_head (h ∷ heads))
    (Spells-coding n h (All-head (λ (g : Head). HasSquareType g g.octa) h heads squares) (All-head HeadPasses h heads passes).dtype (All-head (HasCoding n) h heads has))
    (subst (λ l. Spells (each_at (λ _ g. coded_at (profile_numbered n) g) (front ++ bare_head h ∷ []) (map stream_head heads)) (map coding_byte heads) l)
    (append_assoc front (bare_head h ∷ []) (map bare_head heads))
    (Spells-codings_behind n (front ++ bare_head h ∷ []) heads (All-tail (λ (g : Head). HasSquareType g g.octa) h heads squares) (All-tail HeadPasses h heads passes) (All-tail (HasCoding n) h heads has)))

-- heads, each of which is read back
Spells-heads : (heads : List Head) → All (λ h. Spells head_at (head_bytes h) (stream_head h)) heads → Spells (many_at head_at (length heads)) (flat_map head_bytes heads) (map stream_head heads)
unfolding many_at
Spells-heads [] each = Spells-none []
Spells-heads (h ∷ heads) each =
    Spells-then head_at (λ v c. many_at head_at (length heads) c >>= λ vs. Ok (v ∷ vs.0, vs.1)) (head_bytes h) (flat_map head_bytes heads) (stream_head h) (stream_head h ∷ map stream_head heads)
    (All-head (λ h. Spells head_at (head_bytes h) (stream_head h)) h heads each)
    (Spells-map (λ vs. stream_head h ∷ vs) (many_at head_at (length heads)) (flat_map head_bytes heads) (map stream_head heads)
    (Spells-heads heads (All-tail (λ h. Spells head_at (head_bytes h) (stream_head h)) h heads each)))

pub decoder_spelled : (d : DecoderHead) → DecoderPasses d → All (λ h. Spells head_at (head_bytes h) (stream_head h)) d.heads → DecoderSpelled d
unfolding decoder_at
decoder_spelled d passes each = record {
  behind = λ n before has few.
      let some : nat_lt 0 (length d.heads) ≡ true = grind (arith, passes.some) in
      let within : nat_le (before + length d.heads) MAX_ATTRIBUTES ≡ true = grind (arith, few) in
      let link = link_of d in
      Spells-then (attribute_count_at before) (λ m c. many_at head_at m c >>= λ hs. codings_at (profile_numbered n) hs.0 hs.1 >>= λ ks. Ok (record { data_id = link.data_id; corner = link.corner; degree = link.degree; heads = ks.0 }, ks.1))
      (spelling 5 (length d.heads)) (flat_map head_bytes d.heads ++ map coding_byte d.heads) (length d.heads) (bare_decoder d)
      (Spells-must kind.AttrLimit (λ m. nat_le (before + m) MAX_ATTRIBUTES) (must kind.NoAttribute (λ m. nat_lt 0 m) var32_at) (spelling 5 (length d.heads)) (length d.heads) within
      (Spells-must kind.NoAttribute (λ m. nat_lt 0 m) var32_at (spelling 5 (length d.heads)) (length d.heads) some (Spells-var32 (length d.heads) (omega (arith, few)))))
      (Spells-then (many_at head_at (length d.heads)) (λ hs c. codings_at (profile_numbered n) hs c >>= λ ks. Ok (record { data_id = link.data_id; corner = link.corner; degree = link.degree; heads = ks.0 }, ks.1))
      (flat_map head_bytes d.heads) (map coding_byte d.heads) (map stream_head d.heads) (bare_decoder d) (Spells-heads d.heads each)
      (Spells-map (λ ks. record { data_id = link.data_id; corner = link.corner; degree = link.degree; heads = ks }) (codings_at (profile_numbered n) (map stream_head d.heads)) (map coding_byte d.heads) (map bare_head d.heads) (Spells-codings_behind n [] d.heads passes.squares passes.heads has)));
}

-- decoders behind others, each of which is read back
Spells-decoders : (n : ℕ) (front ds : List DecoderHead) → HaveCodings n ds → All DecoderSpelled ds → attributes_of front + attributes_of ds ≤ MAX_ATTRIBUTES
    → Spells (each_at (λ before link. decoder_at (profile_numbered n) (attributes_of before) link) front (map link_of ds)) (flat_map decoder_bytes ds) (front ++ map bare_decoder ds)
unfolding each_at
Spells-decoders n front [] has each few = subst (λ l. Spells (λ c. Ok (front, c)) [] l) (sym (append-nil front)) (Spells-none front)
Spells-decoders n front (d ∷ ds) has each few =
    let spelled = All-head DecoderSpelled d ds each in
    let more : attributes_of (front ++ bare_decoder d ∷ []) ≡ attributes_of front + length d.heads = bare_more front d in
    let all : attributes_of (d ∷ ds) ≡ length d.heads + attributes_of ds = grind (arith, common_steps) in
    Spells-then (decoder_at (profile_numbered n) (attributes_of front) (link_of d)) (λ x c. each_at (λ before link. decoder_at (profile_numbered n) (attributes_of before) link) (front ++ x ∷ []) (map link_of ds) c)
    (decoder_bytes d) (flat_map decoder_bytes ds) (bare_decoder d) (front ++ map bare_decoder (d ∷ ds))
    (spelled.behind n (attributes_of front) (All-head (λ (e : DecoderHead). All (HasCoding n) e.heads) d ds has) (omega (arith, few, all)))
    (subst (λ l. Spells (each_at (λ before link. decoder_at (profile_numbered n) (attributes_of before) link) (front ++ bare_decoder d ∷ []) (map link_of ds)) (flat_map decoder_bytes ds) l)
    (append_assoc front (bare_decoder d ∷ []) (map bare_decoder ds))
    (Spells-decoders n (front ++ bare_decoder d ∷ []) ds (All-tail (λ (e : DecoderHead). All (HasCoding n) e.heads) d ds has) (All-tail DecoderSpelled d ds each) (omega (arith, more, few, all))))
  where
    bare_more : (front : List DecoderHead) (d : DecoderHead) → attributes_of (front ++ bare_decoder d ∷ []) ≡ attributes_of front + length d.heads
    bare_more front d =
        let push : attributes_of (front ++ bare_decoder d ∷ []) ≡ attributes_of front + length (map bare_head d.heads) = grind (arith, common_steps) in
        push ∙ ap (λ n. attributes_of front + n) (length-map d.heads bare_head)

-- a link of this element type and walk
element_spelled : (attr_data : ℕ) (before : List Link) (id element on : ℕ) → is_known_id attr_data id ≡ true → is_used_id before id ≡ false
    → nat_le element (most_element id) ≡ true → nat_le on (most_walk element) ≡ true
    → Spells (link_at attr_data before) (id ∷ element ∷ on ∷ []) (record { data_id = Some id; corner = (element == 1); degree = (on == 1) })
unfolding link_at
element_spelled attr_data before id element on known unused fits walks =
    let new : (is_known_id attr_data id && not (is_used_id before id)) ≡ true = rw (known, unused) refl in
    Spells-then (must kind.DataId (λ id. is_known_id attr_data id && not (is_used_id before id)) (number_at 1))
    (λ i c. must kind.Element (λ e. nat_le e (most_element i)) (number_at 1) c >>= λ e. must kind.Walk (λ w. nat_le w (most_walk e.0)) (number_at 1) e.1 >>= λ w. Ok (record { data_id = Some i; corner = (e.0 == 1); degree = (w.0 == 1) }, w.1))
    (id ∷ []) (element ∷ on ∷ []) id (record { data_id = Some id; corner = (element == 1); degree = (on == 1) })
    (Spells-must kind.DataId (λ id. is_known_id attr_data id && not (is_used_id before id)) (number_at 1) (id ∷ []) id new (Spells-byte id))
    (Spells-then (must kind.Element (λ e. nat_le e (most_element id)) (number_at 1))
    (λ e c. must kind.Walk (λ w. nat_le w (most_walk e)) (number_at 1) c >>= λ w. Ok (record { data_id = Some id; corner = (e == 1); degree = (w.0 == 1) }, w.1))
    (element ∷ []) (on ∷ []) element (record { data_id = Some id; corner = (element == 1); degree = (on == 1) })
    (Spells-must kind.Element (λ e. nat_le e (most_element id)) (number_at 1) (element ∷ []) element fits (Spells-byte element))
    (Spells-map (λ w. record { data_id = Some id; corner = (element == 1); degree = (w == 1) }) (must kind.Walk (λ w. nat_le w (most_walk element)) (number_at 1)) (on ∷ []) on
    (Spells-must kind.Walk (λ w. nat_le w (most_walk element)) (number_at 1) (on ∷ []) on walks (Spells-byte on))))

link_spelled : (attr_data : ℕ) (before : List Link) (id : ℕ) (corner degree : Bool) → is_known_id attr_data id ≡ true → is_used_id before id ≡ false
    → (id ≡ position_id → corner ≡ false) → (corner ≡ true → degree ≡ false)
    → Spells (link_at attr_data before) (id ∷ (if corner then 1 else 0) ∷ (if degree then 1 else 0) ∷ []) (record { data_id = Some id; corner = corner; degree = degree })
link_spelled attr_data before id false false known unused vertex walks = element_spelled attr_data before id 0 0 known unused (grind arith) refl
link_spelled attr_data before id false true known unused vertex walks = element_spelled attr_data before id 0 1 known unused (grind arith) refl
link_spelled attr_data before id true true known unused vertex walks = absurd (false≢true (sym (walks refl)))
link_spelled attr_data before id true false known unused vertex walks = element_spelled attr_data before id 1 0 known unused (one_fits id vertex) refl
  where
    one_fits : (id : ℕ) → (id ≡ position_id → true ≡ false) → nat_le 1 (most_element id) ≡ true
    one_fits id vertex = elim (cases_eq id position_id) [ inl is ↦ absurd (false≢true (sym (vertex is))) | inr other ↦ grind (arith, other) ]

-- a link behind others
Spells-link : (attr_data : ℕ) (before : List Link) (d : DecoderHead) → LinkPasses attr_data before d → Spells (link_at attr_data before) (link_bytes d) (link_of d)
Spells-link attr_data before d passes =
    let spelled = link_spelled attr_data before (id_byte d.data_id) d.corner d.degree passes.known passes.unused passes.vertex passes.depth_first in
    subst (λ o. Spells (link_at attr_data before) (id_byte d.data_id ∷ (if d.corner then 1 else 0) ∷ (if d.degree then 1 else 0) ∷ []) (record { data_id = o; corner = d.corner; degree = d.degree })) (sym passes.has) spelled

-- the links behind others
Spells-links : (attr_data start : ℕ) (front : List Link) (ds : List DecoderHead) → LinksPass attr_data front ds
    → Spells (each_at (λ before _. link_at attr_data before) front (range_with_len start (length ds))) (flat_map link_bytes ds) (front ++ map link_of ds)
unfolding each_at
Spells-links attr_data start front [] pass = subst (λ l. Spells (λ c. Ok (front, c)) [] l) (sym (append-nil front)) (Spells-none front)
Spells-links attr_data start front (d ∷ ds) pass =
    Spells-then (link_at attr_data front) (λ x c. each_at (λ before _. link_at attr_data before) (front ++ x ∷ []) (range_with_len (start + 1) (length ds)) c)
    (link_bytes d) (flat_map link_bytes ds) (link_of d) (front ++ map link_of (d ∷ ds))
    (Spells-link attr_data front d pass.0)
    (subst (λ l. Spells (each_at (λ before _. link_at attr_data before) (front ++ link_of d ∷ []) (range_with_len (start + 1) (length ds))) (flat_map link_bytes ds) l)
    (append_assoc front (link_of d ∷ []) (map link_of ds))
    (Spells-links attr_data (start + 1) (front ++ link_of d ∷ []) ds pass.1))

-- the links of all decoders
Spells-linked : (attr_data : Option ℕ) (ds : List DecoderHead) → AreAcceptedLinks attr_data ds
    → Spells (links_at attr_data (length ds)) (links_bytes (is_some attr_data) ds) (map link_of ds)
unfolding links_at linked_at
Spells-linked None ds linked = subst (λ l. Spells (λ c. Ok (replicate (length ds) no_link, c)) [] l) (sym linked) (Spells-none (replicate (length ds) no_link))
Spells-linked (Some attr_data) ds linked = Spells-links attr_data 0 [] ds linked

-- each decoder has an attribute
pub attributes_of-some : (ds : List DecoderHead) → All DecoderPasses ds → length ds ≤ attributes_of ds
attributes_of-some [] each = omega arith
attributes_of-some (d ∷ ds) each =
    let all : attributes_of (d ∷ ds) ≡ length d.heads + attributes_of ds = grind (arith, common_steps) in
    let first : 0 < length d.heads = (All-head DecoderPasses d ds each).some in
    let rest : length ds ≤ attributes_of ds = attributes_of-some ds (All-tail DecoderPasses d ds each) in
    omega (arith, all, first, rest)

-- the heads of all decoders
pub heads_spelled : (n : ℕ) (attr_data : Option ℕ) (ds : List DecoderHead) → HaveCodings n ds → DecodersPass ds → AreAcceptedLinks attr_data ds → All DecoderSpelled ds
    → Spells (heads_at (profile_numbered n) attr_data) (heads_bytes (is_some attr_data) ds) (map bare_decoder ds)
unfolding heads_at heads_bytes decoder_count_at decoders_at
heads_spelled n attr_data ds has pass linked each =
    let some : nat_lt 0 (length ds) ≡ true = grind (arith, pass.some) in
    let few : nat_le (length ds) MAX_ATTRIBUTES ≡ true = grind (arith, attributes_of-some ds pass.each, pass.few) in
    Spells-then decoder_count_at (λ m c. links_at attr_data m c >>= λ ls. decoders_at (profile_numbered n) ls.0 ls.1)
    (length ds ∷ []) (links_bytes (is_some attr_data) ds ++ flat_map decoder_bytes ds) (length ds) (map bare_decoder ds)
    (Spells-must kind.AttrLimit (λ m. nat_le m MAX_ATTRIBUTES) (must kind.NoAttribute (λ m. nat_lt 0 m) (number_at 1)) (length ds ∷ []) (length ds) few
    (Spells-must kind.NoAttribute (λ m. nat_lt 0 m) (number_at 1) (length ds ∷ []) (length ds) some (Spells-byte (length ds))))
    (Spells-then (links_at attr_data (length ds)) (λ ls c. decoders_at (profile_numbered n) ls c)
    (links_bytes (is_some attr_data) ds) (flat_map decoder_bytes ds) (map link_of ds) (map bare_decoder ds)
    (Spells-linked attr_data ds linked)
    (Spells-decoders n [] ds has each (omega (arith, pass.few))))
