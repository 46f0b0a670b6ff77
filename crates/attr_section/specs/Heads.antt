-- The heads of attribute decoders (Draco Bitstream Specification 2.2, sections "Attributes Decoder" and "Sequential
-- Attributes"; the limits and what is refused are this project's choice).
use Rattle.std.specs.Prelude.{◌≡◌, ◌≤◌, ◌<◌, ℕ, ◌+◌, ◌==◌, ◌&&◌, ◌||◌, Bool, true, false, not, IsTrue, List, [], ◌∷◌, ◌++◌, length, map}
use Rattle.std.specs.Prelude.{replicate, Option, None, Some, Ok, sum_by, nat_le, nat_lt, if◌then◌else◌, All, flat_map}
use Rattle.std.specs.List.{list_any, range_with_len}
use Rattle.drc_base.specs.declared.kinds.Kind.TheVariants as kind
use Rattle.drc_base.specs.declared.limits.TheConstants.{MAX_ATTRIBUTES}
use Rattle.drc_base.specs.Profile.{Profile, profile_numbered}
use Rattle.drc_base.specs.Steps.{◌>>=◌}
use Rattle.attr_heads.specs.declared.heads.Head.{Head}
use Rattle.attr_heads.specs.declared.codings.Coding.{Coding}
use Rattle.attr_heads.specs.Codings.{coding_facts, coding_of, coding_byte, goes_with, coded, head_coding}
use Rattle.attr_heads.specs.DataTypes.{is_float}
use Rattle.attr_heads.specs.declared.octahedra.TheConstants.{OCTAHEDRAL_INTEGERS}
use Rattle.attr_heads.specs.HeadItems.{head_at, head_bytes, bare_head, HeadPasses}
use Rattle.drc_bits.specs.Reading.{Reading, Item, must, many_at, fault_at}
use Rattle.drc_bits.specs.Numbers.{number_at}
use Rattle.drc_bits.specs.Varint.{var32_at, spelling}
use Rattle.drc_bits.specs.Spells.{Spells}
use Rattle.attr_section.specs.declared.decoder_heads.DecoderHead.{DecoderHead}
use Rattle.attr_section.specs.declared.links.Link.{Link}
use Rattle.attr_section.specs.Each.{each_at}

-- the connectivity of the positions
abbrev pub position_id : ℕ
position_id = 255

-- a decoder of a sequential stream is linked to none
abbrev pub no_link : Link
no_link = record { data_id = None; corner = false; degree = false }

-- the number of decoders
unfoldable pub decoder_count_at : Reading → Item ℕ
decoder_count_at c = must kind.AttrLimit (λ n. nat_le n MAX_ATTRIBUTES) (must kind.NoAttribute (λ n. nat_lt 0 n) (number_at 1)) c

-- whether a link's data id is this one
abbrev pub is_id : ℕ → Option ℕ → Bool
is_id id None = false
is_id id (Some n) = n == id

-- a data id is the positions' or the number of an attribute data
abbrev pub is_known_id : ℕ → ℕ → Bool
is_known_id attr_data id = id == position_id || nat_lt id attr_data

-- a link before has this data id
abbrev pub is_used_id : List Link → ℕ → Bool
is_used_id before id = list_any (λ l. is_id id l.data_id) before

-- the greatest element type: at the positions' connectivity values belong to vertices alone
abbrev pub most_element : ℕ → ℕ
most_element id = if id == position_id then 0 else 1

-- the greatest walk: entries of vertices alone may be ordered by prediction degree
abbrev pub most_walk : ℕ → ℕ
most_walk element = if element == 0 then 1 else 0

-- the link of an Edgebreaker decoder behind those before: data id, element type, and walk: depth first, or by prediction degree
unfoldable pub link_at : ℕ → List Link → Reading → Item Link
link_at attr_data before c = do
  id ← must kind.DataId (λ id. is_known_id attr_data id && not (is_used_id before id)) (number_at 1) c
  element ← must kind.Element (λ e. nat_le e (most_element id.0)) (number_at 1) id.1
  walk ← must kind.Walk (λ w. nat_le w (most_walk element.0)) (number_at 1) element.1
  Ok (record { data_id = Some id.0; corner = (element.0 == 1); degree = (walk.0 == 1) }, walk.1)

-- the links of n decoders beside so many attribute data
unfoldable pub linked_at : ℕ → ℕ → Reading → Item (List Link)
linked_at attr_data n c = each_at (λ before _. link_at attr_data before) [] (range_with_len 0 n) c

-- the links of n decoders; under Edgebreaker, beside so many attribute data, they are read
unfoldable pub links_at : Option ℕ → ℕ → Reading → Item (List Link)
links_at None n c = Ok (replicate n no_link, c)
links_at (Some attr_data) n c = linked_at attr_data n c

-- a coding that a profile has; any other is refused at its byte
abbrev pub tested_coding : Profile → Reading → Option Coding → Reading → Item Coding
tested_coding p c None after = fault_at kind.Coding c
tested_coding p c (Some q) after = if nat_le (coding_facts q).since p.number then Ok (q, after) else fault_at (coding_facts q).refused_as c

-- a coding that a profile has
unfoldable pub known_coding_at : Profile → Reading → Item Coding
known_coding_at p c = number_at 1 c >>= λ k. tested_coding p c (coding_of k.0) k.1

-- the coding of an attribute with this head
unfoldable pub coding_at : Profile → Head → Reading → Item Coding
coding_at p h c = must kind.Coding (λ q. goes_with q h) (known_coding_at p) c

-- a head by its coding
unfoldable pub coded_at : Profile → Head → Reading → Item Head
coded_at p h c = coding_at p h c >>= λ q. Ok (coded q.0 h, q.1)

-- heads by their codings
abbrev pub codings_at : Profile → List Head → Reading → Item (List Head)
codings_at p heads c = each_at (λ _ h. coded_at p h) [] heads c

-- how many attributes decoders have
abbrev pub attributes_of : List DecoderHead → ℕ
attributes_of decoders = sum_by (λ d. length d.heads) decoders

-- how many attributes a decoder has, behind so many others
abbrev pub attribute_count_at : ℕ → Reading → Item ℕ
attribute_count_at before c =
    must kind.AttrLimit (λ n. nat_le (before + n) MAX_ATTRIBUTES) (must kind.NoAttribute (λ n. nat_lt 0 n) var32_at) c

-- a decoder of this link, behind so many attributes
unfoldable pub decoder_at : Profile → ℕ → Link → Reading → Item DecoderHead
decoder_at p before link c = do
  n ← attribute_count_at before c
  heads ← many_at head_at n.0 n.1
  coded ← codings_at p heads.0 heads.1
  Ok (record { data_id = link.data_id; corner = link.corner; degree = link.degree; heads = coded.0 }, coded.1)

-- the decoders of these links
unfoldable pub decoders_at : Profile → List Link → Reading → Item (List DecoderHead)
decoders_at p links c = each_at (λ before link. decoder_at p (attributes_of before) link) [] links c

-- the heads of all decoders; under Edgebreaker there are so many attribute data
unfoldable pub heads_at : Profile → Option ℕ → Reading → Item (List DecoderHead)
heads_at p attr_data c = do
  n ← decoder_count_at c
  links ← links_at attr_data n.0 n.1
  decoders_at p links.0 links.1

-- the byte of a data id
abbrev pub id_byte : Option ℕ → ℕ
id_byte None = 0
id_byte (Some id) = id

-- the bytes of a link: data id, element type and walk
abbrev pub link_bytes : DecoderHead → List ℕ
link_bytes d = id_byte d.data_id ∷ (if d.corner then 1 else 0) ∷ (if d.degree then 1 else 0) ∷ []

-- the bytes of a decoder's heads: their number, the heads, their codings
abbrev pub decoder_bytes : DecoderHead → List ℕ
decoder_bytes d = spelling 5 (length d.heads) ++ (flat_map head_bytes d.heads ++ map coding_byte d.heads)

-- the bytes of the links, which stand under Edgebreaker alone
abbrev pub links_bytes : Bool → List DecoderHead → List ℕ
links_bytes eb decoders = if eb then flat_map link_bytes decoders else []

-- the bytes of the heads of all decoders, with their links under Edgebreaker
unfoldable pub heads_bytes : Bool → List DecoderHead → List ℕ
heads_bytes eb decoders = length decoders ∷ links_bytes eb decoders ++ flat_map decoder_bytes decoders

-- a decoder without what stands at its end for its heads
abbrev pub bare_decoder : DecoderHead → DecoderHead
bare_decoder d = record d { heads = map bare_head d.heads }

-- the link of a decoder
abbrev pub link_of : DecoderHead → Link
link_of d = record { data_id = d.data_id; corner = d.corner; degree = d.degree }

-- a head whose square, where there is one, its coding can say: that of points of two integers, whose type is that of floats
abbrev pub HasSquareType : Head → Option ℕ → Type 0
HasSquareType h None = Unit {0}
HasSquareType h (Some bits) = (is_float h.dtype ≡ true) × (h.comps ≡ OCTAHEDRAL_INTEGERS)

-- a decoder whose heads are accepted
pub record DecoderPasses (d : DecoderHead) : Type 0 where
  pub some : 0 < length d.heads
  pub heads : All HeadPasses d.heads
  pub squares : All (λ h. HasSquareType h h.octa) d.heads

-- decoders whose heads are accepted
pub record DecodersPass (decoders : List DecoderHead) : Type 0 where
  pub some : 0 < length decoders
  pub few : attributes_of decoders ≤ MAX_ATTRIBUTES
  pub each : All DecoderPasses decoders

-- behind these links a decoder's link is accepted beside so many attribute data
pub record LinkPasses (attr_data : ℕ) (before : List Link) (d : DecoderHead) : Type 0 where
  pub has : d.data_id ≡ Some (id_byte d.data_id)
  pub known : IsTrue (is_known_id attr_data (id_byte d.data_id))
  pub unused : is_used_id before (id_byte d.data_id) ≡ false
  pub vertex : id_byte d.data_id ≡ position_id → d.corner ≡ false
  pub depth_first : d.corner ≡ true → d.degree ≡ false

-- behind these links each decoder's link is accepted
abbrev pub LinksPass : ℕ → List Link → List DecoderHead → Type 0
LinksPass attr_data before [] = Unit {0}
LinksPass attr_data before (d ∷ decoders) = LinkPasses attr_data before d × LinksPass attr_data (before ++ link_of d ∷ []) decoders

-- the links are those of a sequential stream, or are accepted beside so many attribute data
abbrev pub AreAcceptedLinks : Option ℕ → List DecoderHead → Type 0
AreAcceptedLinks None decoders = map link_of decoders ≡ replicate (length decoders) no_link
AreAcceptedLinks (Some attr_data) decoders = LinksPass attr_data [] decoders

-- the profiles of a number have the coding of a head, and those of heads
abbrev pub HasCoding : ℕ → Head → Type 0
HasCoding n h = (coding_facts (head_coding h)).since ≤ n

abbrev pub HaveCodings : ℕ → List DecoderHead → Type 0
HaveCodings n decoders = All (λ d. All (HasCoding n) d.heads) decoders

-- a decoder is read back behind others, in each profile that has its codings
pub record DecoderSpelled (d : DecoderHead) : Type 0 where
  pub behind : (n before : ℕ) → All (HasCoding n) d.heads → before + length d.heads ≤ MAX_ATTRIBUTES
      → Spells (decoder_at (profile_numbered n) before (link_of d)) (decoder_bytes d) (bare_decoder d)
