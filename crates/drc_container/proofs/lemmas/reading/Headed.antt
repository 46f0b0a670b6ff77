-- Heads of attributes that were read have no fault, with the quantisations and the squares that were read behind them.
use Rattle.std.proofs.Common.{◌≡◌, ℕ, suc, ◌+◌, ◌≤◌, Bool, true, false, List, [], ◌∷◌, ◌++◌, length, get_or, Option, None, Some, is_some, Ok, refl, sym, ◌∙◌, ap, subst, arith, lit≤, length-append, replicate}
use Rattle.std.specs.Prelude.{◌==◌, ◌&&◌, nat_lt, nat_le}
use Rattle.std.specs.List.{All, list_all, range_with_len}
use Rattle.std.proofs.lemmas.Bool.{leb-true, ltb-true, le-leb, eq-eqb, and_parts, and_from, false≢true}
use Rattle.std.proofs.lemmas.List.{length-replicate}
use Rattle.std.proofs.lemmas.List.FromFn.{length-range_with_len}
use Rattle.std.proofs.lemmas.List.Sums.{sum_by-cons, sum_by-append}
use Rattle.std.proofs.lemmas.List.Elements.{All-nil, All-cons, All-head, All-tail, All-append}
use Rattle.drc_base.specs.declared.kinds.Kind.TheVariants as kind
use Rattle.drc_base.specs.declared.limits.TheConstants.{MAX_ATTRIBUTES, MAX_COMPONENTS}
use Rattle.drc_base.specs.Profile.{Profile}
use Rattle.drc_base.specs.Steps.{◌>>=◌}
use Rattle.drc_bits.specs.Reading.{Reading, Item, must, many_at}
use Rattle.drc_bits.specs.Numbers.{number_at}
use Rattle.drc_bits.specs.Varint.{var32_at}
use Rattle.drc_bits.proofs.Results.{Ok-injective}
use Rattle.attr_heads.specs.declared.heads.Head.{Head}
use Rattle.attr_heads.specs.declared.quants.Quant.{Quant}
use Rattle.attr_heads.specs.Quants.{has_minima, has_bits}
use Rattle.attr_heads.specs.declared.codings.Coding.{Coding}
use Rattle.attr_heads.specs.declared.codings.Coding.TheVariants.{Generic, Integer, Quantised, Octahedral}
use Rattle.attr_heads.specs.Bounds.{in_bounds}
use Rattle.attr_heads.specs.Octahedra.{are_octahedral_bits, has_square_bits, has_coordinates, square_bounds}
use Rattle.attr_heads.specs.Codings.{coding_facts, codes_type, has_fixed, goes_with, coded}
use Rattle.attr_heads.specs.Head.{has_type, head_fault, each_fault, heads_fault}
use Rattle.attr_heads.proofs.Passing.{HeadSays}
use Rattle.attr_heads.proofs.FirstFaults.{unless-true, first_fault-cons}
use Rattle.attr_section.specs.declared.decoder_heads.DecoderHead.{DecoderHead}
use Rattle.attr_section.specs.declared.links.Link.{Link}
use Rattle.attr_section.specs.Each.{each_at}
use Rattle.attr_heads.specs.DataTypes.{is_type, is_float}
use Rattle.attr_heads.specs.HeadItems.{head_at, HeadPasses}
use Rattle.attr_heads.proofs.Types.{integer_type}
use Rattle.attr_heads.proofs.HeadsBack.{head_passed}
use Rattle.attr_section.specs.declared.values.Values.{Values}
use Rattle.attr_section.specs.Orders.{HasCoordinates}
use Rattle.attr_section.specs.Heads.{known_coding_at, coding_at, coded_at, codings_at, attributes_of, attribute_count_at, decoder_at, decoders_at, decoder_count_at, link_at, linked_at, links_at, no_link, heads_at}
use Rattle.attr_heads.specs.HeadItems.{quant_bits_at, square_bits_at}
use Rattle.attr_section.specs.Attributes.{quant_at, quant_of_at, quantised_at, squared_at, completed_at, no_values, next_completed_at, quants_at}
use Rattle.drc_container.proofs.lemmas.reading.Parted.{given, parts, passed, either, must-passed, many-passed}
use Rattle.drc_container.proofs.lemmas.reading.Linked.{each-passed}

-- items of which each may depend on those before it: as many as there are to read
pub each-counted : {A B : Type 0} (item : List A → B → Reading → Item A) (front : List A) (bs : List B) (c : Reading) (y : List A × Reading)
    → each_at item front bs c ≡ Ok y → length y.0 ≡ length front + length bs
unfolding each_at
each-counted {A} {B} item front [] c y is =
    let same : length front ≡ length front + 0 = omega arith in
    given (λ (z : List A × Reading). length z.0 ≡ length front + 0) (front, c) y is same
each-counted {A} {B} item front (b ∷ bs) c y is =
    let p = parts (item front b c) (λ x. each_at item (front ++ x.0 ∷ []) bs x.1) y is in
    let rest = each-counted item (front ++ p.0.0 ∷ []) bs p.0.1 y p.2 in
    rest ∙ omega (arith, length-append front (p.0.0 ∷ []))

-- a quantisation that fits a head without a square
record QuantFits (h : Head) (q : Option Quant) : Type 0 where
  type_fits : has_type h.dtype q None ≡ true
  minima : has_minima h.comps q ≡ true
  bits : has_bits q ≡ true

quant_fits : (h : Head) → is_type h.dtype ≡ true → (c : Reading) (y : Option Quant × Reading) → quant_of_at h c ≡ Ok y → QuantFits h y.0
unfolding quant_of_at quant_at
quant_fits h is_type c y is =
    either (QuantFits h y.0) (is_float h.dtype) (quant_at h.comps c >>= λ q. Ok (Some q.0, q.1)) (Ok (None, c)) y is
    (λ float read.
    let p = parts (quant_at h.comps c) (λ q. Ok (Some q.0, q.1)) y read in
    let q = parts (many_at (number_at 4) h.comps c) _ p.0 p.1 in
    let r = parts (number_at 4 q.0.1) _ p.0 q.2 in
    let s = parts (quant_bits_at r.0.1) _ p.0 r.2 in
    let has_bits : ℕ → Bool = λ b. nat_le 1 b && nat_le b 30 in
    let minima = (many-passed (λ _. Unit {0}) (number_at 4) (λ _ _ _. tt) h.comps c q.0 q.1).0 in
    let bits = must-passed kind.QuantBits has_bits (number_at 1) r.0.1 s.0 s.1 in
    let quant : Quant = record { bits = s.0.0; range = r.0.0; min = q.0.0 } in
    let found : QuantFits h (Some quant) =
    record { type_fits = float; minima = eq-eqb (length q.0.0) h.comps minima; bits = bits.0 } in
    given (λ (z : Option Quant × Reading). QuantFits h z.0) (Some p.0.0, p.0.1) y p.2
    (given (λ (z : Quant × Reading). QuantFits h (Some z.0)) (quant, s.0.1) p.0 s.2 found))
    (λ integer read.
    subst (λ (z : Option Quant × Reading). QuantFits h z.0) (Ok-injective read)
    (record { type_fits = integer_type h.dtype is_type integer; minima = refl; bits = refl }))

-- a head without a fault, at whatever place it stands
abbrev pub IsHead : Head → Type 0
IsHead h = (k : ℕ) → head_fault k h ≡ None

-- where all is as it is to be, there is no fault
says-none : (h : Head) → HeadSays h → IsHead h
says-none h says k =
    let comps = and_from (nat_le 1 h.comps && nat_le h.comps MAX_COMPONENTS) (has_minima h.comps h.quant && has_coordinates h.comps h.octa)
    (and_from (nat_le 1 h.comps) (nat_le h.comps MAX_COMPONENTS) (le-leb 1 h.comps says.some) (le-leb h.comps MAX_COMPONENTS says.few))
    (and_from (has_minima h.comps h.quant) (has_coordinates h.comps h.octa) says.minima says.coordinates) in
    let bits = and_from (has_bits h.quant) (has_square_bits h.octa) says.bits says.square in
    first_fault-cons _ _ (unless-true _ kind.AttrType k (le-leb h.usage 4 says.usage))
    (first_fault-cons _ _ (unless-true _ kind.DataType k says.typed)
    (first_fault-cons _ _ (unless-true _ kind.Components k comps)
    (first_fault-cons _ [] (unless-true _ kind.QuantBits k bits) refl)))

-- a head by its coding: with a square it codes floats, and has two integers a point
pub record IsCoded (h : Head) : Type 0 where
  pub passes : HeadPasses h
  pub coordinates : HasCoordinates h
  pub float : is_some h.octa ≡ true → is_float h.dtype ≡ true

coding-passes : (q : Coding) (h : Head) → HeadPasses h → goes_with q h ≡ true → IsCoded (coded q h)
coding-passes Generic h passes goes = record {
  passes = record { usage = passes.usage; dtype = passes.dtype; some = passes.some; few = passes.few };
  coordinates = refl;
  float = λ some. absurd (false≢true some);
}
coding-passes Integer h passes goes = record {
  passes = record { usage = passes.usage; dtype = passes.dtype; some = passes.some; few = passes.few };
  coordinates = refl;
  float = λ some. absurd (false≢true some);
}
coding-passes Quantised h passes goes = record {
  passes = record { usage = passes.usage; dtype = passes.dtype; some = passes.some; few = passes.few };
  coordinates = refl;
  float = λ some. absurd (false≢true some);
}
coding-passes Octahedral h passes goes = record {
  passes = record { usage = passes.usage; dtype = passes.dtype; some = lit≤ tt; few = lit≤ tt };
  coordinates = refl;
  float = λ some. (and_parts (codes_type Octahedral h.dtype) (has_fixed (coding_facts Octahedral).fixed h.comps) goes).0;
}

coded-passed : (p : Profile) (h : Head) → HeadPasses h → (c : Reading) (y : Head × Reading) → coded_at p h c ≡ Ok y → IsCoded y.0
unfolding coded_at coding_at
coded-passed p h passes c y is =
    let q = parts (must kind.Coding (λ q. goes_with q h) (known_coding_at p) c) (λ q. Ok (coded q.0 h, q.1)) y is in
    let goes = must-passed kind.Coding (λ q. goes_with q h) (known_coding_at p) c q.0 q.1 in
    given (λ (z : Head × Reading). IsCoded z.0) (coded q.0.0 h, q.0.1) y q.2 (coding-passes q.0.0 h passes goes.0)

-- no square, where a test says so
pub none-of : (octa : Option ℕ) → is_some octa ≡ false → octa ≡ None
none-of None none = refl
none-of (Some bits) none = absurd (false≢true (sym none))

-- where a head has a square there are two integers a point
two-of : (comps : ℕ) (octa : Option ℕ) → has_coordinates comps octa ≡ true → is_some octa ≡ true → (comps == 2) ≡ true
two-of comps None two some = absurd (false≢true some)
two-of comps (Some bits) two some = two

-- a head with what stands at its decoder's end has no fault
quantised-head : (h : Head) → IsCoded h → is_some h.octa ≡ false → (c : Reading) (y : Head × Reading) → quantised_at h c ≡ Ok y → IsHead y.0
unfolding quantised_at
quantised-head h is_coded none c y is =
    let p = parts (quant_of_at h c) (λ q. Ok (record h { quant = q.0 }, q.1)) y is in
    let passes = is_coded.passes in
    let fits = quant_fits h passes.dtype c p.0 p.1 in
    let no_square = none-of h.octa none in
    let o : Head = record h { quant = p.0.0 } in
    given (λ (z : Head × Reading). IsHead z.0) (o, p.0.1) y p.2 (says-none o (record {
      usage = passes.usage;
      typed = ap (has_type h.dtype p.0.0) no_square ∙ fits.type_fits;
      some = passes.some;
      few = passes.few;
      minima = fits.minima;
      coordinates = is_coded.coordinates;
      bits = fits.bits;
      square = ap has_square_bits no_square;
    }))

squared-head : (h : Head) (v : Values) → IsCoded h → is_some h.octa ≡ true → (c : Reading) (y : Head × Reading) → squared_at h v c ≡ Ok y → IsHead y.0
unfolding squared_at
squared-head h v is_coded some c y is =
    let p = parts (square_bits_at c) _ y is in
    let t = passed (list_all (in_bounds (square_bounds p.0.0)) v.values) _ _ y p.2 in
    let passes = is_coded.passes in
    let bits = must-passed kind.QuantBits are_octahedral_bits (number_at 1) c p.0 p.1 in
    let o : Head = record h { quant = None; octa = Some p.0.0 } in
    given (λ (z : Head × Reading). IsHead z.0) (o, p.0.1) y t.1 (says-none o (record {
      usage = passes.usage;
      typed = is_coded.float some;
      some = passes.some;
      few = passes.few;
      minima = refl;
      coordinates = two-of h.comps h.octa is_coded.coordinates some;
      bits = refl;
      square = bits.0;
    }))

completed-head : (h : Head) (v : Values) → IsCoded h → (c : Reading) (y : Head × Reading) → completed_at h v c ≡ Ok y → IsHead y.0
unfolding completed_at
completed-head h v is_coded c y is =
    either (IsHead y.0) (is_some h.octa) (squared_at h v c) (quantised_at h c) y is
    (λ some read. squared-head h v is_coded some c y read)
    (λ none read. quantised-head h is_coded none c y read)

-- heads with what stands at their decoder's end
pub heads-completed : (heads : List Head) (values : List Values) → All IsCoded heads → (c : Reading) (y : List Head × Reading) → quants_at heads values c ≡ Ok y
    → All IsHead y.0
unfolding quants_at
heads-completed heads values are c y is =
    each-passed IsHead IsCoded (next_completed_at values)
    (λ front h c x is_coded read. completed-head h (get_or values (length front) no_values) is_coded c x read) [] heads c y (All-nil IsHead) are is

-- the heads of a decoder: at least one, all accepted
pub record DecoderRead (d : DecoderHead) : Type 0 where
  pub some : 1 ≤ length d.heads
  pub heads : All IsCoded d.heads

decoder-passed : (p : Profile) (before : ℕ) (link : Link) (c : Reading) (y : DecoderHead × Reading) → decoder_at p before link c ≡ Ok y
    → DecoderRead y.0 × (before + length y.0.heads ≤ MAX_ATTRIBUTES)
unfolding decoder_at
decoder-passed profile before link c y is =
    let few : ℕ → Bool = λ n. nat_le (before + n) MAX_ATTRIBUTES in
    let some : ℕ → Bool = λ n. nat_lt 0 n in
    let p = parts (attribute_count_at before c) _ y is in
    let q = parts (many_at head_at p.0.0 p.0.1) _ y p.2 in
    let r = parts (codings_at profile q.0.0 q.0.1) _ y q.2 in
    let most = must-passed kind.AttrLimit few (λ c. must kind.NoAttribute some var32_at c) c p.0 p.1 in
    let least = must-passed kind.NoAttribute some var32_at c p.0 most.1 in
    let heads = many-passed HeadPasses head_at head_passed p.0.0 p.0.1 q.0 q.1 in
    let are = each-passed IsCoded HeadPasses (λ (_ : List Head) h. coded_at profile h)
    (λ front h c x passes read. coded-passed profile h passes c x read) [] q.0.0 q.0.1 r.0 (All-nil IsCoded) heads.1 r.1 in
    let same = each-counted (λ (_ : List Head) h. coded_at profile h) [] q.0.0 q.0.1 r.0 r.1 in
    let d : DecoderHead = record { data_id = link.data_id; corner = link.corner; degree = link.degree; heads = r.0.0 } in
    given (λ (z : DecoderHead × Reading). DecoderRead z.0 × (before + length z.0.heads ≤ MAX_ATTRIBUTES)) (d, r.0.1) y r.2 (
      record { some = omega (arith, ltb-true 0 p.0.0 least.0, heads.0, same); heads = are },
      omega (arith, leb-true (before + p.0.0) MAX_ATTRIBUTES most.0, heads.0, same),
    )

-- decoders that were read: at least so many, and not too many attributes
pub record DecodersRead (n : ℕ) (ds : List DecoderHead) : Type 0 where
  pub some : n ≤ attributes_of ds
  pub few : attributes_of ds ≤ MAX_ATTRIBUTES
  pub each : All DecoderRead ds

decoders-from : (p : Profile) (links : List Link) (n : ℕ) (front : List DecoderHead) → DecodersRead n front
    → (c : Reading) (y : List DecoderHead × Reading)
    → each_at (λ before link. decoder_at p (attributes_of before) link) front links c ≡ Ok y → DecodersRead (n + length links) y.0
unfolding each_at
decoders-from profile [] n front are c y is =
    let none : n + 0 ≡ n = omega arith in
    rw none (subst (λ (z : List DecoderHead × Reading). DecodersRead n z.0) (Ok-injective is) are)
decoders-from profile (link ∷ links) n front are c y is =
    let p = parts (decoder_at profile (attributes_of front) link c) (λ x. each_at (λ before link. decoder_at profile (attributes_of before) link) (front ++ x.0 ∷ []) links x.1) y is in
    let here = decoder-passed profile (attributes_of front) link c p.0 p.1 in
    let heads_in : DecoderHead → ℕ = λ d. length d.heads in
    let sum = sum_by-append heads_in front (p.0.0 ∷ []) in
    let one = sum_by-cons heads_in p.0.0 [] in
    let more : n + 1 + length links ≡ n + suc (length links) = omega arith in
    let next : DecodersRead (n + 1) (front ++ p.0.0 ∷ []) = record {
      some = omega (arith, are.some, here.0.some, sum, one);
      few = omega (arith, here.1, sum, one);
      each = All-append DecoderRead front (p.0.0 ∷ []) are.each (All-cons DecoderRead p.0.0 [] here.0 (All-nil DecoderRead));
    } in
    subst (λ m. DecodersRead m y.0) more (decoders-from profile links (n + 1) (front ++ p.0.0 ∷ []) next p.0.1 y p.2)

-- as many links as decoders
links-counted : (a : Option ℕ) (n : ℕ) (c : Reading) (y : List Link × Reading) → links_at a n c ≡ Ok y → length y.0 ≡ n
unfolding links_at linked_at
links-counted None n c y is =
    given (λ (z : List Link × Reading). length z.0 ≡ n) (replicate n no_link, c) y is (length-replicate n no_link)
links-counted (Some k) n c y is =
    each-counted (λ before _. link_at k before) [] (range_with_len 0 n) c y is ∙ omega (arith, length-range_with_len 0 n)

-- the heads of all decoders, beside so many attribute data in an Edgebreaker stream
pub heads-read : (p : Profile) (a : Option ℕ) (c : Reading) (y : List DecoderHead × Reading) → heads_at p a c ≡ Ok y → DecodersRead 1 y.0
unfolding heads_at decoder_count_at decoders_at
heads-read profile a c y is =
    let few : ℕ → Bool = λ n. nat_le n MAX_ATTRIBUTES in
    let some : ℕ → Bool = λ n. nat_lt 0 n in
    let p = parts (must kind.AttrLimit few (λ c. must kind.NoAttribute some (number_at 1) c) c) _ y is in
    let q = parts (links_at a p.0.0 p.0.1) _ y p.2 in
    let most = must-passed kind.AttrLimit few (λ c. must kind.NoAttribute some (number_at 1) c) c p.0 p.1 in
    let least = must-passed kind.NoAttribute some (number_at 1) c p.0 most.1 in
    let count = links-counted a p.0.0 p.0.1 q.0 q.1 in
    let none : DecodersRead 0 [] = record { some = omega arith; few = omega arith; each = All-nil DecoderRead } in
    let all = decoders-from profile q.0.0 0 [] none q.0.1 y q.2 in
    record { some = omega (arith, all.some, count, ltb-true 0 p.0.0 least.0); few = all.few; each = all.each }

-- the heads of all decoders of a sequential stream
pub heads-passed : (p : Profile) (c : Reading) (y : List DecoderHead × Reading) → heads_at p None c ≡ Ok y → DecodersRead 1 y.0
heads-passed p c y is = heads-read p None c y is

each-none : (k : ℕ) (heads : List Head) → All IsHead heads → each_fault k heads ≡ None
each-none k [] are = refl
each-none k (h ∷ heads) are = first_fault-cons (head_fault k h) _ (All-head IsHead h heads are k) (each-none (k + 1) heads (All-tail IsHead h heads are))

-- heads without a fault, at least one and not too many
pub heads-none : (heads : List Head) → 1 ≤ length heads → length heads ≤ MAX_ATTRIBUTES → All IsHead heads → heads_fault heads ≡ None
unfolding heads_fault
heads-none heads some few are =
    first_fault-cons _ _ (unless-true _ kind.NoAttribute (length heads) (le-leb 1 (length heads) some))
    (first_fault-cons _ _ (unless-true _ kind.AttrLimit (length heads) (le-leb (length heads) MAX_ATTRIBUTES few))
    (first_fault-cons _ [] (each-none 0 heads are) refl))
