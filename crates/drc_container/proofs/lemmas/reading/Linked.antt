-- The links of Edgebreaker decoders that were read: where values belong to corners, the data id is that of an attribute data.
use Rattle.std.proofs.Common.{◌≡◌, ℕ, ◌<◌, ◌≤◌, ◌==◌, ◌&&◌, ◌||◌, Bool, true, false, not, List, [], ◌∷◌, ◌++◌, Option, Some, Ok, refl, subst, arith}
use Rattle.std.specs.Prelude.{nat_le, nat_lt, if◌then◌else◌}
use Rattle.std.specs.List.{All, range_with_len}
use Rattle.std.proofs.lemmas.Bool.{leb-true, ltb-true, eqb-true, and_parts}
use Rattle.std.proofs.lemmas.List.Elements.{All-nil, All-cons, All-head, All-tail, All-append}
use Rattle.drc_base.specs.declared.kinds.Kind.TheVariants as kind
use Rattle.drc_base.specs.Profile.{Profile}
use Rattle.drc_bits.specs.Reading.{Reading, Item, must, many_at}
use Rattle.drc_bits.specs.Numbers.{number_at}
use Rattle.attr_section.specs.declared.decoder_heads.DecoderHead.{DecoderHead}
use Rattle.attr_section.specs.declared.links.Link.{Link}
use Rattle.attr_section.specs.Each.{each_at}
use Rattle.attr_heads.specs.HeadItems.{head_at}
use Rattle.attr_section.specs.Heads.{position_id, is_known_id, is_used_id, most_element, most_walk, link_at, linked_at, links_at, codings_at, attributes_of, attribute_count_at, decoder_at, decoders_at, decoder_count_at, heads_at}
use Rattle.drc_container.specs.reading.OnSurface.{HasSeams}
use Rattle.drc_container.proofs.lemmas.reading.Parted.{given, parts, must-passed}

-- each of the items has what their item gives of what they are read from
pub each-passed : {A B : Type 0} (P : A → Type 0) (Q : B → Type 0) (item : List A → B → Reading → Item A)
    → ((front : List A) (b : B) (c : Reading) (x : A × Reading) → Q b → item front b c ≡ Ok x → P x.0)
    → (front : List A) (bs : List B) (c : Reading) (y : List A × Reading) → All P front → All Q bs → each_at item front bs c ≡ Ok y → All P y.0
unfolding each_at
each-passed {A} {B} P Q item gives front [] c y are from is = given (λ (z : List A × Reading). All P z.0) (front, c) y is are
each-passed {A} {B} P Q item gives front (b ∷ bs) c y are from is =
    let p = parts (item front b c) (λ x. each_at item (front ++ x.0 ∷ []) bs x.1) y is in
    let here = gives front b c p.0 (All-head Q b bs from) p.1 in
    each-passed P Q item gives (front ++ p.0.0 ∷ []) bs p.0.1 y (All-append P front (p.0.0 ∷ []) are (All-cons P p.0.0 [] here (All-nil P))) (All-tail Q b bs from) p.2

-- where values belong to corners, the data id is one of so many
pub record IsKnown (blocks : ℕ) (id : Option ℕ) : Type 0 where
  pub id_read : ℕ
  pub is : id ≡ Some id_read
  pub within : id_read < blocks

abbrev pub IsLinked : ℕ → Link → Type 0
IsLinked blocks l = l.corner ≡ true → IsKnown blocks l.data_id

-- at the positions' connectivity no element is that of corners
known-by : (blocks id : ℕ) (positions : Bool) → (positions || nat_lt id blocks) ≡ true → 1 ≤ (if positions then 0 else 1) → id < blocks
known-by blocks id true known few = absurd (omega (arith, few))
known-by blocks id false known few = ltb-true id blocks known

known : (blocks id element : ℕ) → is_known_id blocks id ≡ true → nat_le element (most_element id) ≡ true → (element == 1) ≡ true → id < blocks
known blocks id element is_known within corner =
    known-by blocks id (id == position_id) is_known
    (subst (λ e. e ≤ most_element id) (eqb-true element 1 corner) (leb-true element (most_element id) within))

link-passed : (blocks : ℕ) (before : List Link) (c : Reading) (y : Link × Reading) → link_at blocks before c ≡ Ok y → IsLinked blocks y.0
unfolding link_at
link-passed blocks before c y is =
    let is_id : ℕ → Bool = λ id. is_known_id blocks id && not (is_used_id before id) in
    let p = parts (must kind.DataId is_id (number_at 1) c) _ y is in
    let is_element : ℕ → Bool = λ e. nat_le e (most_element p.0.0) in
    let q = parts (must kind.Element is_element (number_at 1) p.0.1) _ y p.2 in
    let is_walk : ℕ → Bool = λ w. nat_le w (most_walk q.0.0) in
    let r = parts (must kind.Walk is_walk (number_at 1) q.0.1) _ y q.2 in
    let id = must-passed kind.DataId is_id (number_at 1) c p.0 p.1 in
    let element = must-passed kind.Element is_element (number_at 1) p.0.1 q.0 q.1 in
    let ids = and_parts (is_known_id blocks p.0.0) (not (is_used_id before p.0.0)) id.0 in
    let l : Link = record { data_id = Some p.0.0; corner = (q.0.0 == 1); degree = (r.0.0 == 1) } in
    given (λ (z : Link × Reading). IsLinked blocks z.0) (l, r.0.1) y r.2
    (λ corner. record { id_read = p.0.0; is = refl; within = known blocks p.0.0 q.0.0 ids.0 element.0 corner })

abbrev pub IsCut : ℕ → DecoderHead → Type 0
IsCut blocks d = d.corner ≡ true → HasSeams blocks d

decoder-linked : (p : Profile) (blocks before : ℕ) (link : Link) (c : Reading) (y : DecoderHead × Reading) → IsLinked blocks link
    → decoder_at p before link c ≡ Ok y → IsCut blocks y.0
unfolding decoder_at
decoder-linked profile blocks before link c y linked is =
    let p = parts (attribute_count_at before c) _ y is in
    let q = parts (many_at head_at p.0.0 p.0.1) _ y p.2 in
    let r = parts (codings_at profile q.0.0 q.0.1) _ y q.2 in
    let d : DecoderHead = record { data_id = link.data_id; corner = link.corner; degree = link.degree; heads = r.0.0 } in
    given (λ (z : DecoderHead × Reading). IsCut blocks z.0) (d, r.0.1) y r.2
    (λ corner. let known = linked corner in record { id = known.id_read; is = known.is; within = known.within })

-- the decoders of an Edgebreaker stream beside so many attribute data
pub heads-linked : (p : Profile) (blocks : ℕ) (c : Reading) (y : List DecoderHead × Reading) → heads_at p (Some blocks) c ≡ Ok y → All (IsCut blocks) y.0
unfolding heads_at links_at linked_at decoders_at
heads-linked profile blocks c y is =
    let p = parts (decoder_count_at c) _ y is in
    let q = parts (linked_at blocks p.0.0 p.0.1) _ y p.2 in
    let links = each-passed (IsLinked blocks) (λ (_ : ℕ). Unit {0}) (λ before _. link_at blocks before)
    (λ front b c x none read. link-passed blocks front c x read) [] (range_with_len 0 p.0.0) p.0.1 q.0 (All-nil (IsLinked blocks)) (λ k d below. tt) q.1 in
    each-passed (IsCut blocks) (IsLinked blocks) (λ before link. decoder_at profile (attributes_of before) link)
    (λ front link c x linked read. decoder-linked profile blocks (attributes_of front) link c x linked read) [] q.0.0 q.0.1 y (All-nil (IsCut blocks)) links q.2
