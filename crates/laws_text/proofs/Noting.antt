-- A line that describes a head, and its fields.
use Rattle.std.proofs.Common.{◌≡◌, ℕ, zero, suc, ◌-◌, ◌≤◌, ◌<◌, ◌^◌, ◌&&◌, ◌||◌, Bool, true, false, cond, List, [], ◌∷◌, length, eqb, leb, Option, Some, None, refl, sym, ap, subst, ◌∙◌, arith}
use Rattle.std.specs.Prelude.{codes, is_none, IsTrue, slice_get, option_map}
use Rattle.std.specs.List.{AllZip}
use Rattle.std.specs.Str.{bytes_eq}
use Rattle.std.proofs.lemmas.Bool.{and_parts, and_from, leb-true, eqb-true, eq-eqb}
use Rattle.attr_heads.specs.declared.heads.Head.{Head}
use Rattle.attr_heads.specs.declared.quants.Quant.{Quant}
use Rattle.attr_heads.specs.Usages.{is_usage}
use Rattle.attr_heads.specs.DataTypes.{is_type, is_float}
use Rattle.attr_heads.specs.Head.{has_comps}
use Rattle.attr_heads.specs.Quants.{are_quant_bits}
use Rattle.attr_heads.specs.Octahedra.{are_octahedral_bits}
use Rattle.attr_heads.proofs.Types.{type_few}
use Rattle.ply_text.specs.Numbers.{natural_within, only_if, pattern_of}
use Rattle.ply_text.specs.Comments.{byte_of, head_of, attr_of, patterns_of, is_bare, fields_of, quant_of, with_quant, takes_square, square_of, octa_of, with_octa}
use Rattle.ply_text.specs.IsHeader.{QuantFits, SquareFits}
use Rattle.laws_text.specs.HeaderShape.{Line, writes, Writes, WritesPattern, has_form, is_attr, is_quant, is_octa, is_detail, IsAttrLine, IsQuantLine, IsOctaLine}
use Rattle.laws_text.proofs.Lines.{word_from, bind_some, only_if_some, only_if_passes, within_writes, writes_within}

-- the tokens behind the three words
pub form_behind : (form : List ℕ) (line : Line) → has_form form line ≡ true → (tokens : Line) × (line ≡ codes "comment" ∷ codes "drc" ∷ form ∷ tokens)
form_behind form [] e = absurd (cc)
form_behind form (a ∷ []) e = absurd (cc)
form_behind form (a ∷ b ∷ []) e = absurd (cc)
form_behind form (a ∷ b ∷ c ∷ tokens) e =
    let p = and_parts (bytes_eq a (codes "comment")) (bytes_eq b (codes "drc") && bytes_eq c form) e in
    let q = and_parts (bytes_eq b (codes "drc")) (bytes_eq c form) p.1 in
    let x = word_from a (codes "comment") p.0 in
    let y = word_from b (codes "drc") q.0 in
    let z = word_from c form q.1 in
    (tokens, rw (x, y, z) refl)

-- ---- heads

-- a head before its quantisation and its square
abbrev pub base : Head → Head
base head = record head { quant = None; octa = None }

-- these numbers give head k
record AttrSays (k : ℕ) (head : Head) (numbers : Line) : Type 0 where
  say : AllZip Writes (k ∷ head.usage ∷ head.dtype ∷ head.comps ∷ head.normalized ∷ head.id ∷ []) numbers
  usage : IsTrue (is_usage head.usage)
  dtype : IsTrue (is_type head.dtype)
  comps : IsTrue (has_comps head.comps)
  flag : head.normalized < 2 ^ 8
  id : head.id < 2 ^ 32
  quant : head.quant ≡ None
  octa : head.octa ≡ None

head_says : (number : ℕ) (k usage dtype comps normalized id : List ℕ) (head : Head) → head_of number k usage dtype comps normalized id ≡ Some head → AttrSays number head (k ∷ usage ∷ dtype ∷ comps ∷ normalized ∷ id ∷ [])
unfolding head_of
head_says number k usage dtype comps normalized id head e =
    let a = bind_some (only_if (λ n. eqb n number) (natural_within 15 k)) _ head e in
    let b = bind_some (only_if is_usage (byte_of usage)) _ head a.2 in
    let c = bind_some (only_if is_type (byte_of dtype)) _ head b.2 in
    let d = bind_some (only_if has_comps (byte_of comps)) _ head c.2 in
    let f = bind_some (byte_of normalized) _ head d.2 in
    let g = bind_some (natural_within (2 ^ 32 - 1) id) _ head f.2 in
    let made : Head = record { usage = b.0; dtype = c.0; comps = d.0; normalized = f.0; id = g.0; quant = None; octa = None } in
    let last : Some made ≡ Some head = g.2 in
    let same : made ≡ head = cc last in
    let a' = only_if_some (λ n. eqb n number) (natural_within 15 k) a.0 a.1 in
    let b' = only_if_some is_usage (byte_of usage) b.0 b.1 in
    let c' = only_if_some is_type (byte_of dtype) c.0 c.1 in
    let d' = only_if_some has_comps (byte_of comps) d.0 d.1 in
    let wa = within_writes 15 k a.0 a'.0 in
    let wb = within_writes 255 usage b.0 b'.0 in
    let wc = within_writes 255 dtype c.0 c'.0 in
    let wd = within_writes 255 comps d.0 d'.0 in
    let wf = within_writes 255 normalized f.0 f.1 in
    let wg = within_writes (2 ^ 32 - 1) id g.0 g.1 in
    let first : writes number k ≡ true = ap (λ n. writes n k) (sym (eqb-true a.0 number a'.1)) ∙ wa.0 in
    let says : AttrSays number made (k ∷ usage ∷ dtype ∷ comps ∷ normalized ∷ id ∷ []) = record {
      say = (first, (wb.0, (wc.0, (wd.0, (wf.0, (wg.0, tt))))));
      usage = b'.1;
      dtype = c'.1;
      comps = d'.1;
      flag = let le = wf.1 in omega arith;
      id = let le = wg.1 in omega arith;
      quant = refl;
      octa = refl;
    } in
    subst (λ (h : Head). AttrSays number h (k ∷ usage ∷ dtype ∷ comps ∷ normalized ∷ id ∷ [])) same says

attr_says : (number : ℕ) (a b c : List ℕ) (tokens : Line) (head : Head) → attr_of number (a ∷ b ∷ c ∷ tokens) ≡ Some head → AttrSays number head tokens
unfolding attr_of
attr_says number a b c [] head e = absurd (cc)
attr_says number a b c (k ∷ []) head e = absurd (cc)
attr_says number a b c (k ∷ usage ∷ []) head e = absurd (cc)
attr_says number a b c (k ∷ usage ∷ dtype ∷ []) head e = absurd (cc)
attr_says number a b c (k ∷ usage ∷ dtype ∷ comps ∷ []) head e = absurd (cc)
attr_says number a b c (k ∷ usage ∷ dtype ∷ comps ∷ normalized ∷ []) head e = absurd (cc)
attr_says number a b c (k ∷ usage ∷ dtype ∷ comps ∷ normalized ∷ id ∷ []) head e = head_says number k usage dtype comps normalized id head e
attr_says number a b c (k ∷ usage ∷ dtype ∷ comps ∷ normalized ∷ id ∷ more ∷ tokens) head e = absurd (cc)

-- an attr line that is read gives its head
pub attr_given : (k : ℕ) (line : Line) (head : Head) → is_attr line ≡ true → attr_of k line ≡ Some head → IsAttrLine k head line × ((head.quant ≡ None) × (head.octa ≡ None))
attr_given k line head is e =
    let f = form_behind (codes "attr") line is in
    let s = attr_says k (codes "comment") (codes "drc") (codes "attr") f.0 head (ap (attr_of k) (sym f.1) ∙ e) in
    (record { numbers = f.0; form = f.1; say = s.say; usage = s.usage; dtype = s.dtype; comps = s.comps; flag = s.flag; id = s.id }, (s.quant, s.octa))

attr_back : (number : ℕ) (a b c : List ℕ) (tokens : Line) (head : Head) → number ≤ 15 → AttrSays number (base head) tokens → attr_of number (a ∷ b ∷ c ∷ tokens) ≡ Some (base head)
unfolding attr_of head_of
attr_back number a b c [] head few s = absurd s.say
attr_back number a b c (k ∷ []) head few s = absurd s.say.1
attr_back number a b c (k ∷ usage ∷ []) head few s = absurd s.say.1.1
attr_back number a b c (k ∷ usage ∷ dtype ∷ []) head few s = absurd s.say.1.1.1
attr_back number a b c (k ∷ usage ∷ dtype ∷ comps ∷ []) head few s = absurd s.say.1.1.1.1
attr_back number a b c (k ∷ usage ∷ dtype ∷ comps ∷ normalized ∷ []) head few s = absurd s.say.1.1.1.1.1
attr_back number a b c (k ∷ usage ∷ dtype ∷ comps ∷ normalized ∷ id ∷ []) head few s =
    let w = s.say in
    let flag = s.flag in
    let small = s.id in
    let several = and_parts (leb 1 head.comps) (leb head.comps 8) s.comps in
    rw (
      writes_within 15 k number w.0 few,
      eq-eqb number number refl,
      only_if_passes is_usage (byte_of usage) head.usage (writes_within 255 usage head.usage w.1.0 (omega (arith, leb-true head.usage 4 s.usage))) s.usage,
      only_if_passes is_type (byte_of dtype) head.dtype (writes_within 255 dtype head.dtype w.1.1.0 (omega (arith, type_few head.dtype s.dtype))) s.dtype,
      only_if_passes has_comps (byte_of comps) head.comps (writes_within 255 comps head.comps w.1.1.1.0 (omega (arith, leb-true head.comps 8 several.1))) s.comps,
      writes_within 255 normalized head.normalized w.1.1.1.1.0 (omega arith),
      writes_within (2 ^ 32 - 1) id head.id w.1.1.1.1.1.0 (omega arith),
    ) refl
attr_back number a b c (k ∷ usage ∷ dtype ∷ comps ∷ normalized ∷ id ∷ more ∷ tokens) head few s = absurd s.say.1.1.1.1.1.1

-- a line that gives a head is read as it, before its quantisation and its square
pub attr_read : (k : ℕ) (line : Line) (head : Head) → k ≤ 15 → IsAttrLine k head line → attr_of k line ≡ Some (base head)
attr_read k line head few is =
    ap (attr_of k) is.form
    ∙ attr_back k (codes "comment") (codes "drc") (codes "attr") is.numbers head few (record { say = is.say; usage = is.usage; dtype = is.dtype; comps = is.comps; flag = is.flag; id = is.id; quant = refl; octa = refl })

-- ---- quantisations

patterns_say : (tokens : Line) (ms : List ℕ) → patterns_of tokens ≡ Some ms → AllZip WritesPattern ms tokens
patterns_say [] ms e = let f : [] ≡ ms = cc e in subst (λ (ms : List ℕ). AllZip WritesPattern ms []) f tt
patterns_say (token ∷ tokens) ms e =
    let a = bind_some (pattern_of token) _ ms e in
    let b = bind_some (patterns_of tokens) _ ms a.2 in
    let s : a.0 ∷ b.0 ≡ ms = cc b.2 in
    subst (λ (ms : List ℕ). AllZip WritesPattern ms (token ∷ tokens)) s (a.1, patterns_say tokens b.0 b.1)

patterns_back : (tokens : Line) (ms : List ℕ) → AllZip WritesPattern ms tokens → patterns_of tokens ≡ Some ms
patterns_back [] [] h = refl
patterns_back [] (m ∷ ms) h = absurd h
patterns_back (token ∷ tokens) [] h = absurd h
patterns_back (token ∷ tokens) (m ∷ ms) h = rw (h.0, patterns_back tokens ms h.1) refl

-- these fields give the quantisation of a head
record FieldsSay (head : Head) (q : Quant) (bits range : List ℕ) (minima : Line) : Type 0 where
  none : is_bare head ≡ true
  says_bits : Writes q.bits bits
  says_range : WritesPattern q.range range
  says_minima : AllZip WritesPattern q.min minima
  fits : QuantFits head.comps q

fields_say : (head : Head) (bits range : List ℕ) (minima : Line) (q : Quant) → fields_of head bits range minima ≡ Some q → FieldsSay head q bits range minima
unfolding fields_of
fields_say head bits range minima q e =
    let test : List ℕ → Bool = λ min. is_bare head && eqb (length min) head.comps in
    let a = bind_some (only_if are_quant_bits (byte_of bits)) _ q e in
    let b = bind_some (pattern_of range) _ q a.2 in
    let c = bind_some (only_if test (patterns_of minima)) _ q b.2 in
    let made : Quant = record { bits = a.0; range = b.0; min = c.0 } in
    let last : Some made ≡ Some q = c.2 in
    let same : made ≡ q = cc last in
    let a' = only_if_some are_quant_bits (byte_of bits) a.0 a.1 in
    let c' = only_if_some test (patterns_of minima) c.0 c.1 in
    let w = within_writes 255 bits a.0 a'.0 in
    let t = and_parts (is_bare head) (eqb (length c.0) head.comps) c'.1 in
    let says : FieldsSay head made bits range minima = record {
      none = t.0;
      says_bits = w.0;
      says_range = b.1;
      says_minima = patterns_say minima c.0 c'.0;
      fits = record { bits = a'.1; minima = eqb-true (length c.0) head.comps t.1 };
    } in
    subst (λ (q : Quant). FieldsSay head q bits range minima) same says

fields_back : (head : Head) (bits range : List ℕ) (minima : Line) (q : Quant) → FieldsSay head q bits range minima → fields_of head bits range minima ≡ Some q
unfolding fields_of
fields_back head bits range minima q s =
    let few = leb-true q.bits 30 (and_parts (leb 1 q.bits) (leb q.bits 30) s.fits.bits).1 in
    rw (
      only_if_passes are_quant_bits (byte_of bits) q.bits (writes_within 255 bits q.bits s.says_bits (omega (arith, few))) s.fits.bits,
      s.says_range,
      patterns_back minima q.min s.says_minima,
      s.none,
      eq-eqb (length q.min) head.comps s.fits.minima,
    ) refl

none_from : {A : Type 0} (o : Option A) → is_none o ≡ true → o ≡ None
none_from None e = refl
none_from (Some q) e = absurd (cc e)

bare_from : (head : Head) → is_bare head ≡ true → (head.quant ≡ None) × (head.octa ≡ None)
bare_from head e = let p = and_parts (is_none head.quant) (is_none head.octa) e in (none_from head.quant p.0, none_from head.octa p.1)

bare_is : (head : Head) → head.quant ≡ None → head.octa ≡ None → is_bare head ≡ true
bare_is head q o = rw (q, o) refl

-- a quant line that is read: its head is bare, and it gives the quantisation
record QuantGiven (heads : List Head) (n : ℕ) (q : Quant) (line : Line) : Type 0 where
  head : Head
  there : slice_get heads n ≡ Some head
  bare : is_bare head ≡ true
  says : IsQuantLine n head.comps q line

quant_given : (heads : List Head) (line : Line) (p : ℕ × Quant) → is_quant line ≡ true → quant_of heads line ≡ Some p → QuantGiven heads p.0 p.1 line
unfolding quant_of
quant_given heads line p is e = go f.0 f.1 where
  f : (tokens : Line) × (line ≡ codes "comment" ∷ codes "drc" ∷ codes "quant" ∷ tokens)
  f = form_behind (codes "quant") line is

  go : (tokens : Line) → line ≡ codes "comment" ∷ codes "drc" ∷ codes "quant" ∷ tokens → QuantGiven heads p.0 p.1 line
  go [] l = let x = ap (quant_of heads) (sym l) ∙ e in absurd (cc x)
  go (k ∷ []) l = let x = ap (quant_of heads) (sym l) ∙ e in absurd (cc x)
  go (k ∷ bits ∷ []) l = let x = ap (quant_of heads) (sym l) ∙ e in absurd (cc x)
  go (k ∷ bits ∷ range ∷ minima) l =
      let a = bind_some (natural_within 15 k) _ p (ap (quant_of heads) (sym l) ∙ e) in
      let b = bind_some (slice_get heads a.0) _ p a.2 in
      let c = bind_some (fields_of b.0 bits range minima) _ p b.2 in
      let last : ◌≡◌ {A = Option (ℕ × Quant)} (Some (a.0, c.0)) (Some p) = c.2 in
      let same : ◌≡◌ {A = ℕ × Quant} (a.0, c.0) p = cc last in
      let s = fields_say b.0 bits range minima c.0 c.1 in
      let given : QuantGiven heads a.0 c.0 line = record {
        head = b.0;
        there = b.1;
        bare = s.none;
        says = record { number = k; bits = bits; range = range; minima = minima; form = l; head = (within_writes 15 k a.0 a.1).0; says_bits = s.says_bits; says_range = s.says_range; says_minima = s.says_minima; fits = s.fits };
      } in
      subst (λ (p : ℕ × Quant). QuantGiven heads p.0 p.1 line) same given

quant_read : (heads : List Head) (line : Line) (n : ℕ) (q : Quant) (head : Head) → n ≤ 15 → slice_get heads n ≡ Some head → is_bare head ≡ true → IsQuantLine n head.comps q line → quant_of heads line ≡ Some (n, q)
unfolding quant_of
quant_read heads line n q head few there bare is =
    let s : FieldsSay head q is.bits is.range is.minima = record { none = bare; says_bits = is.says_bits; says_range = is.says_range; says_minima = is.says_minima; fits = is.fits } in
    ap (quant_of heads) is.form ∙ rw (writes_within 15 is.number n is.head few, there, fields_back head is.bits is.range is.minima q s) refl

-- ---- squares

-- this token gives the bits of the square of a head
record SquareSays (head : Head) (bits : ℕ) (token : List ℕ) : Type 0 where
  bare : is_bare head ≡ true
  float : is_float head.dtype ≡ true
  says : Writes bits token
  fits : SquareFits head.comps bits

square_says : (head : Head) (token : List ℕ) (bits : ℕ) → square_of head token ≡ Some bits → SquareSays head bits token
unfolding square_of
square_says head token bits e =
    let a = only_if_some (λ b. takes_square head && are_octahedral_bits b) (byte_of token) bits e in
    let t = and_parts (takes_square head) (are_octahedral_bits bits) a.1 in
    let p = and_parts (is_bare head) (is_float head.dtype && eqb head.comps 2) t.0 in
    let q = and_parts (is_float head.dtype) (eqb head.comps 2) p.1 in
    record { bare = p.0; float = q.0; says = (within_writes 255 token bits a.0).0; fits = record { bits_fit = t.1; coordinates = eqb-true head.comps 2 q.1 } }

square_back : (head : Head) (token : List ℕ) (bits : ℕ) → SquareSays head bits token → square_of head token ≡ Some bits
unfolding square_of
square_back head token bits s =
    let few = leb-true bits 30 (and_parts (leb 2 bits) (leb bits 30) s.fits.bits_fit).1 in
    let two : (is_float head.dtype && eqb head.comps 2) ≡ true = and_from (is_float head.dtype) _ s.float (eq-eqb head.comps 2 s.fits.coordinates) in
    let takes : takes_square head ≡ true = and_from (is_bare head) _ s.bare two in
    only_if_passes (λ b. takes_square head && are_octahedral_bits b) (byte_of token) bits (writes_within 255 token bits s.says (omega (arith, few))) (and_from _ _ takes s.fits.bits_fit)

-- an octa line that is read: its head is bare, and it gives the square
record OctaGiven (profile : ℕ) (heads : List Head) (n bits : ℕ) (line : Line) : Type 0 where
  head : Head
  there : slice_get heads n ≡ Some head
  bare : is_bare head ≡ true
  says : IsOctaLine profile n head.dtype head.comps bits line

octa_given : (profile : ℕ) (heads : List Head) (line : Line) (p : ℕ × ℕ) → is_octa profile line ≡ true → octa_of heads line ≡ Some p → OctaGiven profile heads p.0 p.1 line
unfolding octa_of
octa_given profile heads line p is e = go f.0 f.1 where
  parts : (leb 3 profile ≡ true) × (has_form (codes "octa") line ≡ true)
  parts = and_parts (leb 3 profile) (has_form (codes "octa") line) is

  f : (tokens : Line) × (line ≡ codes "comment" ∷ codes "drc" ∷ codes "octa" ∷ tokens)
  f = form_behind (codes "octa") line parts.1

  go : (tokens : Line) → line ≡ codes "comment" ∷ codes "drc" ∷ codes "octa" ∷ tokens → OctaGiven profile heads p.0 p.1 line
  go [] l = let x = ap (octa_of heads) (sym l) ∙ e in absurd (cc x)
  go (k ∷ []) l = let x = ap (octa_of heads) (sym l) ∙ e in absurd (cc x)
  go (k ∷ bits ∷ more ∷ tokens) l = let x = ap (octa_of heads) (sym l) ∙ e in absurd (cc x)
  go (k ∷ bits ∷ []) l =
      let a = bind_some (natural_within 15 k) _ p (ap (octa_of heads) (sym l) ∙ e) in
      let b = bind_some (slice_get heads a.0) _ p a.2 in
      let c = bind_some (square_of b.0 bits) _ p b.2 in
      let last : ◌≡◌ {A = Option (ℕ × ℕ)} (Some (a.0, c.0)) (Some p) = c.2 in
      let same : ◌≡◌ {A = ℕ × ℕ} (a.0, c.0) p = cc last in
      let s = square_says b.0 bits c.0 c.1 in
      let given : OctaGiven profile heads a.0 c.0 line = record {
        head = b.0;
        there = b.1;
        bare = s.bare;
        says = record { since = leb-true 3 profile parts.0; number = k; written = bits; form = l; head = (within_writes 15 k a.0 a.1).0; says_bits = s.says; float = s.float; fits = s.fits };
      } in
      subst (λ (p : ℕ × ℕ). OctaGiven profile heads p.0 p.1 line) same given

octa_read : (profile : ℕ) (heads : List Head) (line : Line) (n bits : ℕ) (head : Head) → n ≤ 15 → slice_get heads n ≡ Some head → is_bare head ≡ true → IsOctaLine profile n head.dtype head.comps bits line → octa_of heads line ≡ Some (n, bits)
unfolding octa_of
octa_read profile heads line n bits head few there bare is =
    let s : SquareSays head bits is.written = record { bare = bare; float = is.float; says = is.says_bits; fits = is.fits } in
    ap (octa_of heads) is.form ∙ rw (writes_within 15 is.number n is.head few, there, square_back head is.written bits s) refl

-- ---- both

-- what a line says more of a head
pub data Detail : Type 0 where
  quantisation : Quant → Detail
  square : ℕ → Detail

-- a head with it
abbrev pub given : Detail → Head → Head
given (quantisation q) head = record head { quant = Some q }
given (square bits) head = record head { octa = Some bits }

-- head n with it
abbrev pub with_detail : ℕ → Detail → List Head → List Head
with_detail n d [] = []
with_detail zero d (head ∷ heads) = given d head ∷ heads
with_detail (suc n) d (head ∷ heads) = head ∷ with_detail n d heads

pub with_quantisation : (n : ℕ) (q : Quant) (heads : List Head) → with_quant n q heads ≡ with_detail n (quantisation q) heads
with_quantisation n q [] = refl
with_quantisation zero q (head ∷ heads) = refl
with_quantisation (suc n) q (head ∷ heads) = ap (λ (hs : List Head). head ∷ hs) (with_quantisation n q heads)

pub with_square : (n bits : ℕ) (heads : List Head) → with_octa n bits heads ≡ with_detail n (square bits) heads
with_square n bits [] = refl
with_square zero bits (head ∷ heads) = refl
with_square (suc n) bits (head ∷ heads) = ap (λ (hs : List Head). head ∷ hs) (with_square n bits heads)

-- the head that a line says more of, and what
abbrev pub detail_of : List Head → Line → Option (ℕ × Detail)
detail_of heads line = cond (is_quant line) (option_map (λ p. (p.0, quantisation p.1)) (quant_of heads line)) (option_map (λ p. (p.0, square p.1)) (octa_of heads line))

-- the line says it of head k
abbrev pub IsDetailLine : ℕ → ℕ → ℕ → ℕ → Detail → Line → Type 0
IsDetailLine profile k dtype comps (quantisation q) line = IsQuantLine k comps q line
IsDetailLine profile k dtype comps (square bits) line = IsOctaLine profile k dtype comps bits line

-- a line that is read: its head is bare, and it says more of it
pub record DetailGiven (profile : ℕ) (heads : List Head) (n : ℕ) (d : Detail) (line : Line) : Type 0 where
  pub head : Head
  pub there : slice_get heads n ≡ Some head
  pub bare : (head.quant ≡ None) × (head.octa ≡ None)
  pub says : IsDetailLine profile n head.dtype head.comps d line

pub mapped : {A B : Type 0} (f : A → B) (o : Option A) (y : B) → option_map f o ≡ Some y → (x : A) × (o ≡ Some x) × (f x ≡ y)
mapped f None y e = absurd (cc)
mapped {A} {B} f (Some x) y e = let s : ◌≡◌ {A = Option B} (Some (f x)) (Some y) = e in (x, refl, cc s)

pub detail_given : (profile : ℕ) (heads : List Head) (line : Line) (p : ℕ × Detail) → is_detail profile line ≡ true → detail_of heads line ≡ Some p → DetailGiven profile heads p.0 p.1 line
detail_given profile heads line p is e = go (is_quant line) refl is e where
  go : (b : Bool) → is_quant line ≡ b → (b || is_octa profile line) ≡ true
      → cond b (option_map (λ p. (p.0, quantisation p.1)) (quant_of heads line)) (option_map (λ p. (p.0, square p.1)) (octa_of heads line)) ≡ Some p → DetailGiven profile heads p.0 p.1 line
  go true q i m =
      let x = mapped (λ (p : ℕ × Quant). (p.0, quantisation p.1)) (quant_of heads line) p m in
      let g = quant_given heads line x.0 q x.1 in
      let made : DetailGiven profile heads x.0.0 (quantisation x.0.1) line = record { head = g.head; there = g.there; bare = bare_from g.head g.bare; says = g.says } in
      subst (λ (p : ℕ × Detail). DetailGiven profile heads p.0 p.1 line) x.2 made
  go false q i m =
      let x = mapped (λ (p : ℕ × ℕ). (p.0, square p.1)) (octa_of heads line) p m in
      let g = octa_given profile heads line x.0 i x.1 in
      let made : DetailGiven profile heads x.0.0 (square x.0.1) line = record { head = g.head; there = g.there; bare = bare_from g.head g.bare; says = g.says } in
      subst (λ (p : ℕ × Detail). DetailGiven profile heads p.0 p.1 line) x.2 made

pub detail_read : (profile : ℕ) (heads : List Head) (line : Line) (n : ℕ) (d : Detail) (head : Head) → n ≤ 15 → slice_get heads n ≡ Some head → head.quant ≡ None → head.octa ≡ None → IsDetailLine profile n head.dtype head.comps d line → detail_of heads line ≡ Some (n, d)
detail_read profile heads line n (quantisation q) head few there a b is =
    let form : is_quant line ≡ true = rw is.form refl in
    rw (form, quant_read heads line n q head few there (bare_is head a b) is) refl
detail_read profile heads line n (square bits) head few there a b is =
    let form : is_quant line ≡ false = rw is.form refl in
    rw (form, octa_read profile heads line n bits head few there (bare_is head a b) is) refl
