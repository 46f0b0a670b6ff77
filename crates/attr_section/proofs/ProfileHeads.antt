-- What a profile without octahedral attributes reads of decoders has heads without a square.
use Rattle.std.proofs.Common.{◌≡◌, ℕ, false, true, List, [], ◌∷◌, ◌++◌, length, get_or, is_some, Option, None, Some, Ok, refl, sym, ◌∙◌, ap}
use Rattle.std.specs.Prelude.{nat_le}
use Rattle.std.specs.List.{All}
use Rattle.std.proofs.lemmas.Bool.{false≢true}
use Rattle.std.proofs.lemmas.List.Elements.{All-nil, All-cons, All-head, All-tail, All-append}
use Rattle.drc_base.specs.declared.kinds.Kind.TheVariants as kind
use Rattle.drc_base.specs.Profile.{Profile}
use Rattle.drc_base.proofs.Parted.{given, parts, passed, either}
use Rattle.drc_bits.specs.Reading.{Reading, Item, must, many_at}
use Rattle.drc_bits.specs.Numbers.{number_at}
use Rattle.drc_bits.proofs.Results.{err≢ok}
use Rattle.drc_bits.proofs.Parted.{must-passed}
use Rattle.attr_heads.specs.declared.heads.Head.{Head}
use Rattle.attr_heads.specs.declared.codings.Coding.{Coding}
use Rattle.attr_heads.specs.declared.codings.Coding.TheVariants.{Generic, Integer, Quantised, Octahedral}
use Rattle.attr_heads.specs.declared.octahedra.TheConstants.{OCTAHEDRAL_SINCE}
use Rattle.attr_heads.specs.Codings.{coding_facts, coding_of, goes_with, coded}
use Rattle.attr_heads.specs.HeadItems.{head_at}
use Rattle.attr_heads.specs.ProfileHeads.{IsUnsquared}
use Rattle.corner_table.specs.Ordered.{Ordered}
use Rattle.attr_section.specs.declared.decoder_heads.DecoderHead.{DecoderHead}
use Rattle.attr_section.specs.declared.links.Link.{Link}
use Rattle.attr_section.specs.declared.values.Values.{Values}
use Rattle.attr_section.specs.Each.{each_at}
use Rattle.attr_section.specs.Heads.{tested_coding, known_coding_at, coding_at, coded_at, codings_at, attribute_count_at, attributes_of, decoder_at, decoder_count_at, links_at, decoders_at, heads_at}
use Rattle.attr_section.specs.Positions.{PositionsRead}
use Rattle.attr_section.specs.Attributes.{quant_of_at, quantised_at, squared_at, completed_at, no_values, next_completed_at, attributes_at, quants_at, decoder_values_at}

-- each of the items has what their item gives of what they are read from
each-passed : {A B : Type 0} (P : A → Type 0) (Q : B → Type 0) (item : List A → B → Reading → Item A)
    → ((front : List A) (b : B) (c : Reading) (x : A × Reading) → Q b → item front b c ≡ Ok x → P x.0)
    → (front : List A) (bs : List B) (c : Reading) (y : List A × Reading) → All P front → All Q bs → each_at item front bs c ≡ Ok y → All P y.0
unfolding each_at
each-passed {A} {B} P Q item gives front [] c y are from is = given (λ (z : List A × Reading). All P z.0) (front, c) y is are
each-passed {A} {B} P Q item gives front (b ∷ bs) c y are from is =
    let p = parts (item front b c) (λ x. each_at item (front ++ x.0 ∷ []) bs x.1) y is in
    let here = gives front b c p.0 (All-head Q b bs from) p.1 in
    each-passed P Q item gives (front ++ p.0.0 ∷ []) bs p.0.1 y (All-append P front (p.0.0 ∷ []) are (All-cons P p.0.0 [] here (All-nil P))) (All-tail Q b bs from) p.2

-- a decoder of heads without a square
abbrev pub HasUnsquared : DecoderHead → Type 0
HasUnsquared d = All IsUnsquared d.heads

-- a profile without octahedral attributes
abbrev pub IsOld : Profile → Type 0
IsOld p = nat_le OCTAHEDRAL_SINCE p.number ≡ false

-- the profile has the coding that is read
coding-known : (p : Profile) (c after : Reading) (q : Option Coding) (y : Coding × Reading) → tested_coding p c q after ≡ Ok y
    → nat_le (coding_facts y.0).since p.number ≡ true
coding-known p c after None y is = absurd (err≢ok is)
coding-known p c after (Some q) y is =
    let t = passed (nat_le (coding_facts q).since p.number) _ _ y is in
    given (λ (z : Coding × Reading). nat_le (coding_facts z.0).since p.number ≡ true) (q, after) y t.1 t.0

-- a coding that the profile has leaves a head without a square
coding-unsquared : (p : Profile) → IsOld p → (q : Coding) → nat_le (coding_facts q).since p.number ≡ true → (h : Head) → IsUnsquared (coded q h)
coding-unsquared p old Generic known h = refl
coding-unsquared p old Integer known h = refl
coding-unsquared p old Quantised known h = refl
coding-unsquared p old Octahedral known h = absurd (false≢true (sym old ∙ known))

coded-unsquared : (p : Profile) → IsOld p → (h : Head) (c : Reading) (y : Head × Reading) → coded_at p h c ≡ Ok y → IsUnsquared y.0
unfolding coded_at coding_at known_coding_at
coded-unsquared p old h c y is =
    let q = parts (must kind.Coding (λ q. goes_with q h) (known_coding_at p) c) (λ q. Ok (coded q.0 h, q.1)) y is in
    let goes = must-passed kind.Coding (λ q. goes_with q h) (known_coding_at p) c q.0 q.1 in
    let k = parts (number_at 1 c) (λ k. tested_coding p c (coding_of k.0) k.1) q.0 goes.1 in
    given (λ (z : Head × Reading). IsUnsquared z.0) (coded q.0.0 h, q.0.1) y q.2
    (coding-unsquared p old q.0.0 (coding-known p c k.0.1 (coding_of k.0.0) q.0 k.2) h)

decoder-unsquared : (p : Profile) → IsOld p → (before : ℕ) (link : Link) (c : Reading) (y : DecoderHead × Reading) → decoder_at p before link c ≡ Ok y
    → HasUnsquared y.0
unfolding decoder_at
decoder-unsquared profile old before link c y is =
    let p = parts (attribute_count_at before c) _ y is in
    let q = parts (many_at head_at p.0.0 p.0.1) _ y p.2 in
    let r = parts (codings_at profile q.0.0 q.0.1) _ y q.2 in
    let heads = each-passed IsUnsquared (λ (_ : Head). Unit {0}) (λ _ h. coded_at profile h)
    (λ front h c x none read. coded-unsquared profile old h c x read) [] q.0.0 q.0.1 r.0 (All-nil IsUnsquared) (λ k d below. tt) r.1 in
    let d : DecoderHead = record { data_id = link.data_id; corner = link.corner; degree = link.degree; heads = r.0.0 } in
    given (λ (z : DecoderHead × Reading). HasUnsquared z.0) (d, r.0.1) y r.2 heads

-- the heads of all decoders
pub heads-unsquared : (p : Profile) → IsOld p → (a : Option ℕ) (c : Reading) (y : List DecoderHead × Reading) → heads_at p a c ≡ Ok y → All HasUnsquared y.0
unfolding heads_at decoders_at
heads-unsquared profile old a c y is =
    let p = parts (decoder_count_at c) _ y is in
    let q = parts (links_at a p.0.0 p.0.1) _ y p.2 in
    each-passed HasUnsquared (λ (_ : Link). Unit {0}) (λ before link. decoder_at profile (attributes_of before) link)
    (λ front link c x none read. decoder-unsquared profile old (attributes_of front) link c x read) [] q.0.0 q.0.1 y (All-nil HasUnsquared) (λ k d below. tt) q.2

-- what stands at a decoder's end gives no square to a head without one
completed-unsquared : (h : Head) (v : Values) → IsUnsquared h → (c : Reading) (y : Head × Reading) → completed_at h v c ≡ Ok y → IsUnsquared y.0
unfolding completed_at quantised_at
completed-unsquared h v none c y is =
    either (IsUnsquared y.0) (is_some h.octa) (squared_at h v c) (quantised_at h c) y is
    (λ some square. absurd (false≢true (ap is_some (sym none) ∙ some)))
    (λ other quant.
    let p = parts (quant_of_at h c) (λ q. Ok (record h { quant = q.0 }, q.1)) y quant in
    let o : Head = record h { quant = p.0.0 } in
    given (λ (z : Head × Reading). IsUnsquared z.0) (o, p.0.1) y p.2 none)

-- the decoder with what stands at its end
pub values-unsquared : (p : Profile) (w : Option Ordered) (found : PositionsRead) (d : DecoderHead) → HasUnsquared d → (entries spent : ℕ) (c : Reading)
    (y : (List Values × DecoderHead) × Reading) → decoder_values_at p w found d entries spent c ≡ Ok y → HasUnsquared y.0.1
unfolding decoder_values_at quants_at
values-unsquared profile w found d are entries spent c y is =
    let v = parts (attributes_at profile w found d.heads entries spent c) _ y is in
    let q = parts (quants_at d.heads v.0.0 v.0.1) _ y v.2 in
    let heads = each-passed IsUnsquared IsUnsquared (next_completed_at v.0.0)
    (λ front h c x none read. completed-unsquared h (get_or v.0.0 (length front) no_values) none c x read) [] d.heads v.0.1 q.0 (All-nil IsUnsquared) are q.1 in
    let e : DecoderHead = record d { heads = q.0.0 } in
    given (λ (z : (List Values × DecoderHead) × Reading). HasUnsquared z.0.1) ((v.0.0, e), q.0.1) y q.2 heads
