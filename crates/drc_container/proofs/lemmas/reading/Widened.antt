-- A stream that is a geometry in a profile is the same one in each wider profile.
use Rattle.std.proofs.Common.{◌≡◌, ℕ, ◌+◌, ◌*◌, ◌==◌, ◌&&◌, ◌||◌, Bool, true, false, not, Option, List, [], ◌∷◌, ◌++◌, length, None, Some, is_some, Ok, refl, sym, ap, ◌∙◌, inl, inr, lit≤}
use Rattle.std.specs.Prelude.{nat_le}
use Rattle.std.proofs.lemmas.Bool.{cases_Bool, eqb-true, and_parts, false≢true}
use Rattle.drc_base.specs.declared.kinds.Kind.TheVariants as kind
use Rattle.drc_base.specs.Profile.{Profile, profile_one, profile, profile_numbered}
use Rattle.drc_base.specs.Steps.{◌>>=◌}
use Rattle.drc_bits.specs.Reading.{Reading, Item, must, many_at, start_of}
use Rattle.drc_bits.specs.Numbers.{number_at}
use Rattle.drc_bits.specs.Varint.{var32_at}
use Rattle.drc_bits.proofs.Results.{err≢ok}
use Rattle.drc_bits.proofs.Spelled.{Spells-byte}
use Rattle.attr_heads.specs.declared.codings.Coding.{Coding}
use Rattle.attr_heads.specs.declared.heads.Head.{Head}
use Rattle.attr_heads.specs.Codings.{coding_facts, coding_of, goes_with, coded}
use Rattle.attr_heads.specs.HeadItems.{head_at}
use Rattle.corner_table.specs.Ordered.{Ordered}
use Rattle.seq_section.specs.declared.reading.SeqRead.{SeqRead}
use Rattle.seq_section.specs.Indices.{indices_opening_at, indices_at}
use Rattle.eb_section.specs.Opening.{traversal_at, opening_at as edgebreaker_opening_at}
use Rattle.eb_section.specs.Connectivity.{Connectivity, connectivity_at}
use Rattle.predict.specs.Schemes.{facts, prediction_of}
use Rattle.attr_section.specs.declared.decoder_heads.DecoderHead.{DecoderHead}
use Rattle.attr_section.specs.Heads.{decoder_count_at, links_at, tested_coding, known_coding_at, coding_at, coded_at, codings_at, attributes_of, attribute_count_at, decoder_at, decoders_at, heads_at}
use Rattle.predict.specs.declared.schemes.Prediction.{Prediction}
use Rattle.attr_section.specs.declared.links.Link.{Link}
use Rattle.attr_section.specs.declared.square_predictions.SquarePrediction.{SquarePrediction}
use Rattle.attr_section.specs.declared.textured.TheConstants.{TEXTURE_PREDICTION, TEXTURE_SINCE}
use Rattle.attr_section.specs.declared.values.Values.{Values}
use Rattle.attr_section.specs.Positions.{PositionsRead, with_attributes}
use Rattle.attr_section.specs.Squared.{square_facts, square_prediction_of, is_square_prediction, tested_square_prediction, square_prediction_at}
use Rattle.attr_section.specs.Textured.{next_is, is_textured}
use Rattle.attr_section.specs.Values.{tested_prediction, prediction_at}
use Rattle.attr_section.specs.Attributes.{plain_typed_at, textured_typed_at, squared_typed_at, unsquared_typed_at, typed_values_at, values_at, values_in, attribute_at, attributes_at as columns_at, decoder_values_at}
use Rattle.drc_container.specs.declared.headers.Form.{Form}
use Rattle.drc_container.specs.declared.headers.Form.TheVariants as form
use Rattle.drc_container.specs.declared.reading.attributes.Attributes.{Attributes}
use Rattle.drc_container.specs.Header.{header_at, cloud_points_at}
use Rattle.drc_container.specs.reading.Stream.{decoders_values_at, sequential_attributes_at, points_behind, mesh_behind, mesh_at, cloud_behind, cloud_at, surface_behind, edgebreaker_at, body_at, stream_in}
use Rattle.drc_container.specs.reading.OnSurface.{SurfaceAttributes, ordered_for, attributes_joined, values_on, positions_among, no_attributes, decoder_on, surface_decoders_at, attributes_on, assembled_at}
use Rattle.drc_container.specs.reading.Profiles.{IsWider, WiderMeansTheSame, OldFilesMeanTheSame, LaterProfilesMeanTheSame}
use Rattle.drc_container.proofs.lemmas.reading.Parted.{parts, passed, either}
use Rattle.drc_container.proofs.lemmas.reading.Keeping.{Keeps, keeps-must, keeps-either, keeps-each}
use Rattle.drc_container.proofs.lemmas.reading.ProfileCounts.{within, assembled-wider}

opening : (p q : Profile) → IsWider p q → (c : Reading) → Keeps (indices_opening_at p c) (indices_opening_at q c)
unfolding indices_opening_at
opening p q wider c y is =
    let a = parts (must kind.FaceLimit (λ n. nat_le n p.faces) var32_at c) _ y is in
    let b = parts (must kind.PointLimit (λ n. nat_le n p.points) var32_at a.0.1) _ y a.2 in
    let faces = keeps-must kind.FaceLimit (λ n. nat_le n p.faces) (λ n. nat_le n q.faces) var32_at var32_at c
    (λ n. within n p.faces q.faces wider.faces) (λ y same. same) a.0 a.1 in
    let points = keeps-must kind.PointLimit (λ n. nat_le n p.points) (λ n. nat_le n q.points) var32_at var32_at a.0.1
    (λ n. within n p.points q.points wider.points) (λ y same. same) b.0 b.1 in
    rw (faces, points) b.2

indices : (p q : Profile) → IsWider p q → (c : Reading) → Keeps (indices_at p c) (indices_at q c)
unfolding indices_at
indices p q wider c y is =
    let a = parts (indices_opening_at p c) _ y is in
    rw (opening p q wider c a.0 a.1) a.2

cloud_points : (p q : Profile) → IsWider p q → (c : Reading) → Keeps (cloud_points_at p c) (cloud_points_at q c)
cloud_points p q wider c y is =
    keeps-must kind.PointLimit (λ n. nat_le n p.points) (λ n. nat_le n q.points) (number_at 4) (number_at 4) c
    (λ n. within n p.points q.points wider.points) (λ y same. same) y is

-- a prediction of a profile is one of each wider profile
known : (p q : Profile) → IsWider p q → (x : Prediction) → nat_le (facts x).since p.number ≡ true → nat_le (facts x).since q.number ≡ true
known p q wider x is = within (facts x).since p.number q.number wider.number is

tested : (p q : Profile) → IsWider p q → (c after : Reading) (x : Option Prediction) → Keeps (tested_prediction p c x after) (tested_prediction q c x after)
tested p q wider c after None y is = is
tested p q wider c after (Some x) y is =
    let t = passed (nat_le (facts x).since p.number) _ _ y is in
    rw (known p q wider x t.0) t.1

prediction_read : (p q : Profile) → IsWider p q → (c : Reading) → Keeps (prediction_at p c) (prediction_at q c)
unfolding prediction_at
prediction_read p q wider c y is =
    let a = parts (number_at 1 c) (λ b. tested_prediction p c (prediction_of b.0) b.1) y is in
    rw a.1 (tested p q wider c a.0.1 (prediction_of a.0.0) y a.2)

plain : (p q : Profile) → IsWider p q → (w : Option Ordered) (h : Head) (n : ℕ) (c : Reading)
    → Keeps (plain_typed_at p w h n c) (plain_typed_at q w h n c)
unfolding plain_typed_at
plain p q wider w h n c y is =
    let a = parts (prediction_at p c) _ y is in
    rw (prediction_read p q wider c a.0 a.1) a.2

-- a prediction of octahedral values of a profile is one of each wider profile
and-later : (a b x : Bool) → (a ≡ true → b ≡ true) → (a && x) ≡ true → (b && x) ≡ true
and-later true true x later is = is
and-later true false x later is = absurd (false≢true (later refl))
and-later false b x later is = absurd (false≢true is)

tested_square : (p q : Profile) → IsWider p q → (w : Option Ordered) (c after : Reading) (x : Option SquarePrediction)
    → Keeps (tested_square_prediction p w c x after) (tested_square_prediction q w c x after)
tested_square p q wider w c after None y is = is
tested_square p q wider w c after (Some x) y is =
    let t = passed (is_square_prediction p w x) _ _ y is in
    let stands = is_some w || not (square_facts x).takes_positions in
    let holds : is_square_prediction q w x ≡ true =
    and-later (nat_le (square_facts x).since p.number) (nat_le (square_facts x).since q.number) stands
    (within (square_facts x).since p.number q.number wider.number) t.0 in
    rw holds t.1

squared : (p q : Profile) → IsWider p q → (w : Option Ordered) (found : PositionsRead) (n : ℕ) (c : Reading)
    → Keeps (squared_typed_at p w found n c) (squared_typed_at q w found n c)
unfolding squared_typed_at square_prediction_at
squared p q wider w found n c y is =
    let a = parts (number_at 1 c >>= λ b. tested_square_prediction p w c (square_prediction_of b.0) b.1) _ y is in
    let b = parts (number_at 1 c) (λ b. tested_square_prediction p w c (square_prediction_of b.0) b.1) a.0 a.1 in
    rw (b.1, tested_square p q wider w c b.0.1 (square_prediction_of b.0.0) a.0 b.2) a.2

-- the byte of the prediction of texture coordinates is none of a prediction that takes no positions
next-byte : (p : Profile) (place : ℕ) (bytes : List ℕ) → next_is TEXTURE_PREDICTION bytes ≡ true → (y : Prediction × Reading)
    → prediction_at p (record { place = place; rest = bytes }) ≡ Ok y → ⊥
unfolding prediction_at
next-byte p place [] next y is = false≢true next
next-byte p place (b ∷ bytes) next y is =
    let at = eqb-true b TEXTURE_PREDICTION next in
    let read = (Spells-byte b).reads place bytes in
    let c : Reading = record { place = place; rest = b ∷ bytes } in
    let after : Reading = record { place = place + 1; rest = bytes } in
    let told : tested_prediction p c (prediction_of b) after ≡ Ok y =
    sym (ap (λ (x : Item ℕ). x >>= λ z. tested_prediction p c (prediction_of z.0) z.1) read) ∙ is in
    err≢ok (ap (λ (n : ℕ). tested_prediction p c (prediction_of n) after) (sym at) ∙ told)

-- so where it is next and values are read, they are texture coordinates in each wider profile, if they are in one
not-plain : (p : Profile) (w : Option Ordered) (h : Head) (n : ℕ) (c : Reading) (y : Values × Reading) → next_is TEXTURE_PREDICTION c.rest ≡ true
    → plain_typed_at p w h n c ≡ Ok y → ⊥
unfolding plain_typed_at
not-plain p w h n c y next is =
    let a = parts (prediction_at p c) _ y is in
    next-byte p c.place c.rest next a.0 a.1

textured-later : (p q : Profile) → IsWider p q → (w : Option Ordered) (comps : ℕ) (c : Reading) → is_textured p w comps c ≡ true → is_textured q w comps c ≡ true
textured-later p q wider w comps c is =
    and-later (nat_le TEXTURE_SINCE p.number) (nat_le TEXTURE_SINCE q.number) (comps == 2 && (is_some w && next_is TEXTURE_PREDICTION c.rest))
    (within TEXTURE_SINCE p.number q.number wider.number) is

textured-next : (p : Profile) (w : Option Ordered) (comps : ℕ) (c : Reading) → is_textured p w comps c ≡ true → next_is TEXTURE_PREDICTION c.rest ≡ true
textured-next p w comps c is =
    let next = next_is TEXTURE_PREDICTION c.rest in
    let a = and_parts (nat_le TEXTURE_SINCE p.number) (comps == 2 && (is_some w && next)) is in
    let b = and_parts (comps == 2) (is_some w && next) a.1 in
    (and_parts (is_some w) next b.1).1

unsquared : (p q : Profile) → IsWider p q → (w : Option Ordered) (found : PositionsRead) (h : Head) (n : ℕ) (c : Reading)
    → Keeps (unsquared_typed_at p w found h n c) (unsquared_typed_at q w found h n c)
unsquared p q wider w found h n c y is =
    either (unsquared_typed_at q w found h n c ≡ Ok y) (is_textured p w h.comps c) (textured_typed_at w found h n c) (plain_typed_at p w h n c) y is
    (λ on read. rw (textured-later p q wider w h.comps c on) read)
    (λ off read. elim (cases_Bool (is_textured q w h.comps c)) [
      | inl on ↦ absurd (not-plain p w h n c y (textured-next q w h.comps c on) read)
      | inr none ↦ rw none (plain p q wider w h n c y read)
    ])

typed_values : (p q : Profile) → IsWider p q → (w : Option Ordered) (found : PositionsRead) (h : Head) (n : ℕ) (c : Reading)
    → Keeps (typed_values_at p w found h n c) (typed_values_at q w found h n c)
unfolding typed_values_at
typed_values p q wider w found h n c y is =
    keeps-either (is_some h.octa) (squared_typed_at p w found n c) (unsquared_typed_at p w found h n c) (squared_typed_at q w found n c) (unsquared_typed_at q w found h n c)
    (squared p q wider w found n c) (unsquared p q wider w found h n c) y is

values : (p q : Profile) → IsWider p q → (w : Option Ordered) (found : PositionsRead) (h : Head) (entries spent : ℕ) (c : Reading)
    → Keeps (values_at p w found h entries spent c) (values_at q w found h entries spent c)
unfolding values_at
values p q wider w found h entries spent c y is =
    let t = passed (nat_le (spent + entries * h.comps) p.values) _ _ y is in
    rw (within (spent + entries * h.comps) p.values q.values wider.values t.0) (typed_values p q wider w found h (entries * h.comps) c y t.1)

columns : (p q : Profile) → IsWider p q → (w : Option Ordered) (found : PositionsRead) (heads : List Head) (entries spent : ℕ) (c : Reading)
    → Keeps (columns_at p w found heads entries spent c) (columns_at q w found heads entries spent c)
unfolding columns_at
columns p q wider w found heads entries spent c y is =
    keeps-each (attribute_at p w found heads entries spent) (attribute_at q w found heads entries spent)
    (λ before h c. values p q wider w (with_attributes w found heads before) h entries (spent + values_in before) c) [] heads c y is

-- the values of a decoder, over any walk
decoder_values : (p q : Profile) → IsWider p q → (w : Option Ordered) (found : PositionsRead) (d : DecoderHead) (entries spent : ℕ) (c : Reading)
    → Keeps (decoder_values_at p w found d entries spent c) (decoder_values_at q w found d entries spent c)
unfolding decoder_values_at
decoder_values p q wider w found d entries spent c y is =
    let a = parts (columns_at p w found d.heads entries spent c) _ y is in
    rw (columns p q wider w found d.heads entries spent c a.0 a.1) a.2

-- a coding of a profile is one of each wider profile, and so heads are read alike
tested_codings : (p q : Profile) → IsWider p q → (c after : Reading) (x : Option Coding) → Keeps (tested_coding p c x after) (tested_coding q c x after)
tested_codings p q wider c after None y is = is
tested_codings p q wider c after (Some x) y is =
    let t = passed (nat_le (coding_facts x).since p.number) _ _ y is in
    rw (within (coding_facts x).since p.number q.number wider.number t.0) t.1

known_coding : (p q : Profile) → IsWider p q → (c : Reading) → Keeps (known_coding_at p c) (known_coding_at q c)
unfolding known_coding_at
known_coding p q wider c y is =
    let a = parts (number_at 1 c) (λ k. tested_coding p c (coding_of k.0) k.1) y is in
    rw a.1 (tested_codings p q wider c a.0.1 (coding_of a.0.0) y a.2)

coded_head : (p q : Profile) → IsWider p q → (h : Head) (c : Reading) → Keeps (coded_at p h c) (coded_at q h c)
unfolding coded_at coding_at
coded_head p q wider h c y is =
    let test : Coding → Bool = λ x. goes_with x h in
    let a = parts (must kind.Coding test (known_coding_at p) c) (λ x. Ok (coded x.0 h, x.1)) y is in
    rw (keeps-must kind.Coding test test (known_coding_at p) (known_coding_at q) c (λ x same. same) (known_coding p q wider c) a.0 a.1) a.2

decoder_head : (p q : Profile) → IsWider p q → (before : ℕ) (link : Link) (c : Reading) → Keeps (decoder_at p before link c) (decoder_at q before link c)
unfolding decoder_at
decoder_head p q wider before link c y is =
    let a = parts (attribute_count_at before c) _ y is in
    let b = parts (many_at head_at a.0.0 a.0.1) _ y a.2 in
    let d = parts (codings_at p b.0.0 b.0.1) _ y b.2 in
    let same = keeps-each (λ (_ : List Head) h. coded_at p h) (λ (_ : List Head) h. coded_at q h) (λ front h c. coded_head p q wider h c) [] b.0.0 b.0.1 d.0 d.1 in
    rw (a.1, b.1, same) d.2

heads_read : (p q : Profile) → IsWider p q → (a : Option ℕ) (c : Reading) → Keeps (heads_at p a c) (heads_at q a c)
unfolding heads_at decoders_at
heads_read p q wider a c y is =
    let n = parts (decoder_count_at c) _ y is in
    let links = parts (links_at a n.0.0 n.0.1) _ y n.2 in
    let same = keeps-each (λ before link. decoder_at p (attributes_of before) link) (λ before link. decoder_at q (attributes_of before) link)
    (λ before link c. decoder_head p q wider (attributes_of before) link c) [] links.0.0 links.0.1 y links.2 in
    rw (n.1, links.1) same

decoders : (p q : Profile) → IsWider p q → (entries : ℕ) (ds : List DecoderHead) (before : Attributes) (c : Reading)
    → Keeps (decoders_values_at p entries before ds c) (decoders_values_at q entries before ds c)
unfolding decoders_values_at
decoders p q wider entries [] before c y is = is
decoders p q wider entries (d ∷ ds) before c y is =
    let a = parts (decoder_values_at p None PositionsRead.NotYet d entries (values_in before.values) c) _ y is in
    rw (decoder_values p q wider None PositionsRead.NotYet d entries (values_in before.values) c a.0 a.1)
    (decoders p q wider entries ds (record { heads = before.heads ++ a.0.0.1.heads; values = before.values ++ a.0.0.0 }) a.0.1 y a.2)

attributes : (p q : Profile) → IsWider p q → (entries : ℕ) (c : Reading) → Keeps (sequential_attributes_at p entries c) (sequential_attributes_at q entries c)
unfolding sequential_attributes_at
attributes p q wider entries c y is =
    let none : Attributes = record { heads = []; values = [] } in
    let a = parts (heads_at p None c) (λ d. decoders_values_at p entries none d.0 d.1) y is in
    rw (heads_read p q wider None c a.0 a.1) (decoders p q wider entries a.0.0 none a.0.1 y a.2)

points_read : (p q : Profile) → IsWider p q → (from points : ℕ) (c : Reading) → Keeps (points_behind p from points c) (points_behind q from points c)
unfolding points_behind
points_read p q wider from points c y is =
    let a = parts (sequential_attributes_at p points c) _ y is in
    rw (attributes p q wider points c a.0 a.1) a.2

mesh_values : (p q : Profile) → IsWider p q → (from : ℕ) (r : SeqRead) (c : Reading) → Keeps (mesh_behind p from r c) (mesh_behind q from r c)
unfolding mesh_behind
mesh_values p q wider from r c y is =
    let a = parts (points_behind p from r.points c) _ y is in
    rw (points_read p q wider from r.points c a.0 a.1) a.2

mesh : (p q : Profile) → IsWider p q → (c : Reading) → Keeps (mesh_at p c) (mesh_at q c)
unfolding mesh_at
mesh p q wider c y is =
    let a = parts (indices_at p c) _ y is in
    rw (indices p q wider c a.0 a.1) (mesh_values p q wider c.place a.0.0 a.0.1 y a.2)

cloud_values : (p q : Profile) → IsWider p q → (from points : ℕ) (c : Reading) → Keeps (cloud_behind p from points c) (cloud_behind q from points c)
unfolding cloud_behind
cloud_values p q wider from points c y is =
    let a = parts (points_behind p from points c) _ y is in
    rw (points_read p q wider from points c a.0 a.1) a.2

cloud : (p q : Profile) → IsWider p q → (c : Reading) → Keeps (cloud_at p c) (cloud_at q c)
unfolding cloud_at
cloud p q wider c y is =
    let a = parts (cloud_points_at p c) _ y is in
    rw (cloud_points p q wider c a.0 a.1) (cloud_values p q wider c.place a.0.0 a.0.1 y a.2)

edgebreaker_opening : (p q : Profile) → IsWider p q → (c : Reading) → Keeps (edgebreaker_opening_at p c) (edgebreaker_opening_at q c)
unfolding edgebreaker_opening_at
edgebreaker_opening p q wider c y is =
    let a = parts (traversal_at c) _ y is in
    let b = parts (must kind.PointLimit (λ n. nat_le n p.points) var32_at a.0.1) _ y a.2 in
    let d = parts (must kind.FaceLimit (λ n. nat_le n p.faces) var32_at b.0.1) _ y b.2 in
    let points = keeps-must kind.PointLimit (λ n. nat_le n p.points) (λ n. nat_le n q.points) var32_at var32_at a.0.1
    (λ n. within n p.points q.points wider.points) (λ y same. same) b.0 b.1 in
    let faces = keeps-must kind.FaceLimit (λ n. nat_le n p.faces) (λ n. nat_le n q.faces) var32_at var32_at b.0.1
    (λ n. within n p.faces q.faces wider.faces) (λ y same. same) d.0 d.1 in
    rw (a.1, points, faces) d.2

connectivity : (p q : Profile) → IsWider p q → (c : Reading) → Keeps (connectivity_at p c) (connectivity_at q c)
unfolding connectivity_at
connectivity p q wider c y is =
    let a = parts (edgebreaker_opening_at p c) _ y is in
    rw (edgebreaker_opening p q wider c a.0 a.1) a.2

-- the attributes of a decoder on a surface
decoder_values_on : (p q : Profile) → IsWider p q → (w : Ordered) (found : PositionsRead) (d : DecoderHead) (spent : ℕ) (c : Reading)
    → Keeps (decoder_on p w found d spent c) (decoder_on q w found d spent c)
unfolding decoder_on
decoder_values_on p q wider w found d spent c y is =
    let a = parts (decoder_values_at p (Some w) found d (length w.corners) spent c) _ y is in
    rw (decoder_values p q wider (Some w) found d (length w.corners) spent c a.0 a.1) a.2

placed : (p q : Profile) → IsWider p q → (s : Connectivity) (ds : List DecoderHead) (before : SurfaceAttributes) (c : Reading)
    → Keeps (surface_decoders_at p s before ds c) (surface_decoders_at q s before ds c)
unfolding surface_decoders_at
placed p q wider s [] before c y is = is
placed p q wider s (d ∷ ds) before c y is =
    let spent = values_on before.tables in
    let found = positions_among before in
    let a = parts (decoder_on p (ordered_for s d) found d spent c) (λ x. surface_decoders_at p s (attributes_joined before x.0) ds x.1) y is in
    rw (decoder_values_on p q wider (ordered_for s d) found d spent c a.0 a.1) (placed p q wider s ds (attributes_joined before a.0.0) a.0.1 y a.2)

on_surface : (p q : Profile) → IsWider p q → (s : Connectivity) (c : Reading) → Keeps (attributes_on p s c) (attributes_on q s c)
unfolding attributes_on
on_surface p q wider s c y is =
    let a = parts (heads_at p (Some s.attr_data) c) (λ d. surface_decoders_at p s no_attributes d.0 d.1) y is in
    rw (heads_read p q wider (Some s.attr_data) c a.0 a.1) (placed p q wider s a.0.0 no_attributes a.0.1 y a.2)

surface_values : (p q : Profile) → IsWider p q → (from : ℕ) (s : Connectivity) (c : Reading) → Keeps (surface_behind p from s c) (surface_behind q from s c)
unfolding surface_behind
surface_values p q wider from s c y is =
    let a = parts (attributes_on p s c) _ y is in
    let b = parts (assembled_at p a.0.1.place s.faces a.0.0) _ y a.2 in
    rw (on_surface p q wider s c a.0 a.1, assembled-wider p q wider a.0.1.place s.faces a.0.0 b.0 b.1) b.2

edgebreaker : (p q : Profile) → IsWider p q → (c : Reading) → Keeps (edgebreaker_at p c) (edgebreaker_at q c)
unfolding edgebreaker_at
edgebreaker p q wider c y is =
    let a = parts (connectivity_at p c) _ y is in
    rw (connectivity p q wider c a.0 a.1) (surface_values p q wider c.place a.0.0 a.0.1 y a.2)

body : (p q : Profile) → IsWider p q → (said : Form) (c : Reading) → Keeps (body_at p said c) (body_at q said c)
body p q wider form.SequentialMesh c y is = mesh p q wider c y is
body p q wider form.EdgebreakerMesh c y is = edgebreaker p q wider c y is
body p q wider form.Cloud c y is = cloud p q wider c y is

pub wider-same : WiderMeansTheSame
unfolding stream_in
wider-same p q wider bytes d is =
    let a = parts (header_at (start_of bytes)) _ d is in
    rw a.1 (body p q wider a.0.0 a.0.1 d a.2)

pub old-same : OldFilesMeanTheSame
old-same bytes d is =
    wider-same profile_one profile (record { faces = lit≤ tt; points = lit≤ tt; values = lit≤ tt; number = lit≤ tt }) bytes d is

pub later-same : LaterProfilesMeanTheSame
later-same n m later bytes d is =
    wider-same (profile_numbered n) (profile_numbered m) (record { faces = lit≤ tt; points = lit≤ tt; values = lit≤ tt; number = later }) bytes d is
