-- A header that is written is read line by line.
use Rattle.std.proofs.Common.{◌≡◌, ℕ, zero, suc, ◌+◌, ◌-◌, ◌<◌, ◌≤◌, ◌^◌, Bool, true, false, leb, List, [], ◌∷◌, ◌++◌, length, map, Option, Some, None, Ok, refl, sym, ap, subst, ◌∙◌, append_assoc, arith}
use Rattle.std.specs.Prelude.{codes, IfSome, slice_get, is_none, ◌&&◌, ◌||◌}
use Rattle.std.specs.List.{AllByRecursion, list_all}
use Rattle.std.specs.Fmt.{decimal}
use Rattle.std.specs.Str.{bytes_eq}
use Rattle.std.proofs.lemmas.Bool.{lt-leb, le-leb, eq-eqb, leb-true, and_parts, and_from, false≢true}
use Rattle.std.proofs.lemmas.List.{length-append, append-nil}
use Rattle.drc_base.specs.declared.limits.TheConstants.{MAX_POINTS, MAX_FACES}
use Rattle.attr_heads.specs.declared.heads.Head.{Head}
use Rattle.attr_heads.specs.declared.quants.Quant.{Quant}
use Rattle.attr_heads.specs.Quants.{are_quant_bits, has_minima, has_bits}
use Rattle.attr_heads.specs.Usages.{is_usage}
use Rattle.attr_heads.specs.DataTypes.{is_type, is_float}
use Rattle.attr_heads.specs.Octahedra.{are_octahedral_bits, has_coordinates, has_square_bits}
use Rattle.attr_heads.specs.Head.{has_comps, has_type}
use Rattle.attr_heads.proofs.Types.{type_passes, type_few}
use Rattle.attr_heads.proofs.Passing.{HeadSays}
use Rattle.ply_text.specs.Words.{keyword_of, is_indices}
use Rattle.ply_text.specs.PropertyTypes.{type_of, type_word, column_type}
use Rattle.ply_text.specs.Numbers.{only_if}
use Rattle.ply_text.specs.Comments.{is_form, byte_of, head_of, attr_of, patterns_of, fields_of, quant_of, with_quant, takes_square, square_of, octa_of, with_octa}
use Rattle.ply_text.specs.Declarations.{element_of, is_list, scalar_of, list_of}
use Rattle.ply_text.specs.Draft.{Draft, PropertyParts, property, element, scalar, list, attribute, quantisation, square, comment, body, statement}
use Rattle.ply_text.specs.Header.{ends_header, header_from}
use Rattle.ply_mesh.specs.Fields.{QuantFields, HasFields}
use Rattle.attr_heads.specs.ProfileHeads.{has_heads}
use Rattle.ply_mesh.specs.Text.{pattern_text, attr_line, quant_line, quant_lines, octa_line, octa_lines, detail_lines, head_lines, name_at, property_line, component_lines, property_lines, has_usage_names, element_line, list_line}
use Rattle.ply_mesh.proofs.NumberTexts.{within_again, is_digits_again, pattern_again}

abbrev pub Lines : Type 0
Lines = List (List (List ℕ))

-- from one draft to another by these lines
pub record Passes (profile : ℕ) (d : Draft) (ls : Lines) (d' : Draft) : Type 0 where
  pub passes : (at : ℕ) (rest : Lines) → header_from profile at d (ls ++ rest) ≡ header_from profile (at + length ls) d' rest

pub Passes-nil : (profile : ℕ) (d : Draft) → Passes profile d [] d
Passes-nil profile d = record { passes = λ at rest. ap (λ n. header_from profile n d rest) (let e : at ≡ at + 0 = omega arith in e) }

pub Passes-one : (profile : ℕ) (d : Draft) (line : List (List ℕ)) (d' : Draft) → ends_header d line ≡ false → ((at : ℕ) → statement profile at d line ≡ Ok d') → Passes profile d (line ∷ []) d'
Passes-one profile d line d' e step = record { passes = λ at rest. rw (e, step at) refl }

pub Passes-append : (profile : ℕ) (d d' d'' : Draft) (ls ms : Lines) → Passes profile d ls d' → Passes profile d' ms d'' → Passes profile d (ls ++ ms) d''
Passes-append profile d d' d'' ls ms p q = record {
  passes = λ at rest.
      let n : at + length ls + length ms ≡ at + length (ls ++ ms) = omega (arith, length-append ls ms) in
      ap (header_from profile at d) (append_assoc ls ms rest) ∙ p.passes at (ms ++ rest) ∙ q.passes (at + length ls) rest ∙ ap (λ k. header_from profile k d'' rest) n;
}

-- ---- heads

-- a value that passes a test
passing : {A : Type 0} (test : A → Bool) (o : Option A) (x : A) → o ≡ Some x → test x ≡ true → only_if test o ≡ Some x
passing test o x e p = rw (e, p) refl

type_right : (h : Head) → HeadSays h → (is_type h.dtype ≡ true) × (h.dtype ≤ 9)
type_right h p = let is = type_passes h.dtype h.quant h.octa p.typed in (is, type_few h.dtype is)

-- a head as its attr line gives it
abbrev given_head : Head → Head
given_head h = record h { quant = None; octa = None }

head_again : (number : ℕ) (h : Head) → number ≤ 15 → HeadSays h → HasFields h → head_of number (decimal number) (decimal h.usage) (decimal h.dtype) (decimal h.comps) (decimal h.normalized) (decimal h.id) ≡ Some (given_head h)
unfolding head_of
head_again number h few p f =
    let t = type_right h p in
    rw (
      within_again 15 number few (omega arith),
      eq-eqb number number refl,
      passing is_usage (byte_of (decimal h.usage)) h.usage (within_again 255 h.usage (omega (arith, p.usage)) (omega arith)) (le-leb h.usage 4 p.usage),
      passing is_type (byte_of (decimal h.dtype)) h.dtype (within_again 255 h.dtype (omega (arith, t.1)) (omega arith)) t.0,
      passing has_comps (byte_of (decimal h.comps)) h.comps (within_again 255 h.comps (omega (arith, p.few)) (omega arith)) (and_from _ _ (le-leb 1 h.comps p.some) (le-leb h.comps 8 p.few)),
      within_again 255 h.normalized (omega (arith, f.normalized)) (omega arith),
      within_again (2 ^ 32 - 1) h.id (omega (arith, f.id)) (omega arith),
    ) refl

-- a header whose heads are read
abbrev pub with_heads : List Head → Draft
with_heads heads = record { formatted = true; heads = heads; vertices = None; properties = []; faces = None; list = None }

attr_step : (profile : ℕ) (done : List Head) (h : Head) (at : ℕ) → length done ≤ 15 → HeadSays h → HasFields h → statement profile at (with_heads done) (attr_line (length done) h) ≡ Ok (with_heads (done ++ given_head h ∷ []))
unfolding statement comment attribute attr_line keyword_of is_form attr_of
attr_step profile done h at few p f = rw (lt-leb 16 (length done) (omega arith), head_again (length done) h few p f) refl

attr_end : (done : List Head) (k : ℕ) (h : Head) → ends_header (with_heads done) (attr_line k h) ≡ false
unfolding attr_line keyword_of
attr_end done k h = refl

patterns_again : (min : List ℕ) → AllByRecursion (λ m. m < 2 ^ 32) min → patterns_of (map pattern_text min) ≡ Some min
patterns_again [] h = refl
patterns_again (m ∷ ms) h = rw (pattern_again m h.0, patterns_again ms h.1) refl

last_head : (done : List Head) (x : Head) → slice_get (done ++ x ∷ []) (length done) ≡ Some x
last_head [] x = refl
last_head (y ∷ ys) x = last_head ys x

last_quant : (done : List Head) (x : Head) (q : Quant) → with_quant (length done) q (done ++ x ∷ []) ≡ done ++ record x { quant = Some q } ∷ []
last_quant [] x q = refl
last_quant (y ∷ ys) x q = ap (λ (hs : List Head). y ∷ hs) (last_quant ys x q)

fields_again : (h : Head) (q : Quant) → has_minima h.comps (Some q) ≡ true → has_bits (Some q) ≡ true → QuantFields q → fields_of (given_head h) (decimal q.bits) (pattern_text q.range) (map pattern_text q.min) ≡ Some q
unfolding fields_of
fields_again h q m b f =
    let p = and_parts (leb 1 q.bits) (leb q.bits 30) b in
    rw (passing are_quant_bits (byte_of (decimal q.bits)) q.bits (within_again 255 q.bits (omega (arith, leb-true q.bits 30 p.1)) (omega arith)) b, pattern_again q.range f.range, patterns_again q.min f.min, m) refl

quant_step : (profile : ℕ) (done : List Head) (h : Head) (q : Quant) (at : ℕ) → length done ≤ 15 → has_minima h.comps (Some q) ≡ true → has_bits (Some q) ≡ true → QuantFields q
    → statement profile at (with_heads (done ++ given_head h ∷ [])) (quant_line (length done) q) ≡ Ok (with_heads (done ++ record (given_head h) { quant = Some q } ∷ []))
unfolding statement comment quantisation quant_line keyword_of is_form quant_of
quant_step profile done h q at few m b f = rw (within_again 15 (length done) few (omega arith), last_head done (given_head h), fields_again h q m b f, last_quant done (given_head h) q) refl

quant_end : (d : List Head) (k : ℕ) (q : Quant) → ends_header (with_heads d) (quant_line k q) ≡ false
unfolding quant_line keyword_of
quant_end d k q = refl

last_octa : (done : List Head) (x : Head) (bits : ℕ) → with_octa (length done) bits (done ++ x ∷ []) ≡ done ++ record x { octa = Some bits } ∷ []
last_octa [] x bits = refl
last_octa (y ∷ ys) x bits = ap (λ (hs : List Head). y ∷ hs) (last_octa ys x bits)

square_again : (h : Head) (bits : ℕ) → is_float h.dtype ≡ true → has_coordinates h.comps (Some bits) ≡ true → are_octahedral_bits bits ≡ true → square_of (given_head h) (decimal bits) ≡ Some bits
unfolding square_of
square_again h bits float two b =
    let p = and_parts (leb 2 bits) (leb bits 30) b in
    let takes : takes_square (given_head h) ≡ true = and_from (is_float h.dtype) _ float two in
    passing (λ n. takes_square (given_head h) && are_octahedral_bits n) (byte_of (decimal bits)) bits (within_again 255 bits (omega (arith, leb-true bits 30 p.1)) (omega arith)) (and_from _ _ takes b)

octa_step : (profile : ℕ) (done : List Head) (h : Head) (bits at : ℕ) → length done ≤ 15 → leb 3 profile ≡ true → is_float h.dtype ≡ true → has_coordinates h.comps (Some bits) ≡ true → are_octahedral_bits bits ≡ true
    → statement profile at (with_heads (done ++ given_head h ∷ [])) (octa_line (length done) bits) ≡ Ok (with_heads (done ++ record (given_head h) { octa = Some bits } ∷ []))
unfolding statement comment square octa_line keyword_of is_form octa_of
octa_step profile done h bits at few had float two b = rw (had, within_again 15 (length done) few (omega arith), last_head done (given_head h), square_again h bits float two b, last_octa done (given_head h) bits) refl

octa_end : (d : List Head) (k bits : ℕ) → ends_header (with_heads d) (octa_line k bits) ≡ false
unfolding octa_line keyword_of
octa_end d k bits = refl

-- the profile has a head: it has octahedral attributes, or the head has no square
abbrev pub is_had : ℕ → Head → Bool
is_had profile h = leb 3 profile || is_none h.octa

pub all_had : (profile : ℕ) (hs : List Head) → has_heads profile hs ≡ true → AllByRecursion (λ h. is_had profile h ≡ true) hs
all_had profile hs e = go (leb 3 profile) hs e where
  go : (b : Bool) (hs : List Head) → (b || list_all (λ h. is_none h.octa) hs) ≡ true → AllByRecursion (λ h. (b || is_none h.octa) ≡ true) hs
  go b [] e = tt
  go true (h ∷ hs) e = (refl, go true hs refl)
  go false (h ∷ hs) e = let p = and_parts (is_none h.octa) (list_all (λ h. is_none h.octa) hs) e in (p.0, go false hs p.1)

or_last : (b : Bool) → (b || false) ≡ true → b ≡ true
or_last true e = refl
or_last false e = absurd cc

-- the lines of a head that has this quantisation and this square
abbrev details : ℕ → Option Quant → Option ℕ → Lines
details k q o = quant_lines k q ++ octa_lines k o

one_head : (profile : ℕ) (done : List Head) (h : Head) → length done ≤ 15 → HeadSays h → HasFields h → is_had profile h ≡ true → Passes profile (with_heads done) (attr_line (length done) h ∷ detail_lines (length done) h) (with_heads (done ++ h ∷ []))
one_head profile done h few p f had = go h.quant h.octa refl refl where
  first : Passes profile (with_heads done) (attr_line (length done) h ∷ []) (with_heads (done ++ given_head h ∷ []))
  first = Passes-one profile (with_heads done) (attr_line (length done) h) (with_heads (done ++ given_head h ∷ [])) (attr_end done (length done) h) (λ at. attr_step profile done h at few p f)

  go : (q : Option Quant) (o : Option ℕ) → h.quant ≡ q → h.octa ≡ o → Passes profile (with_heads done) (attr_line (length done) h ∷ details (length done) q o) (with_heads (done ++ record (given_head h) { quant = q; octa = o } ∷ []))
  go None None e i = first
  go (Some q) None e i =
      let m = subst (λ (o : Option Quant). has_minima h.comps o ≡ true) e p.minima in
      let b = subst (λ (o : Option Quant). has_bits o ≡ true) e p.bits in
      let fq = subst (λ (o : Option Quant). IfSome o QuantFields) e f.quant in
      Passes-append profile (with_heads done) (with_heads (done ++ given_head h ∷ [])) (with_heads (done ++ record (given_head h) { quant = Some q } ∷ [])) (attr_line (length done) h ∷ []) (quant_line (length done) q ∷ []) first
      (Passes-one profile (with_heads (done ++ given_head h ∷ [])) (quant_line (length done) q) (with_heads (done ++ record (given_head h) { quant = Some q } ∷ [])) (quant_end (done ++ given_head h ∷ []) (length done) q) (λ at. quant_step profile done h q at few m b fq))
  go None (Some bits) e i =
      let since : leb 3 profile ≡ true = or_last (leb 3 profile) (subst (λ (o : Option ℕ). (leb 3 profile || is_none o) ≡ true) i had) in
      let two = subst (λ (o : Option ℕ). has_coordinates h.comps o ≡ true) i p.coordinates in
      let b = subst (λ (o : Option ℕ). has_square_bits o ≡ true) i p.square in
      let float : is_float h.dtype ≡ true = subst (λ (q : Option Quant). has_type h.dtype q (Some bits) ≡ true) e (subst (λ (o : Option ℕ). has_type h.dtype h.quant o ≡ true) i p.typed) in
      Passes-append profile (with_heads done) (with_heads (done ++ given_head h ∷ [])) (with_heads (done ++ record (given_head h) { octa = Some bits } ∷ [])) (attr_line (length done) h ∷ []) (octa_line (length done) bits ∷ []) first
      (Passes-one profile (with_heads (done ++ given_head h ∷ [])) (octa_line (length done) bits) (with_heads (done ++ record (given_head h) { octa = Some bits } ∷ [])) (octa_end (done ++ given_head h ∷ []) (length done) bits) (λ at. octa_step profile done h bits at few since float two b))
  go (Some q) (Some bits) e i =
      let both : has_type h.dtype (Some q) (Some bits) ≡ true = subst (λ (q : Option Quant). has_type h.dtype q (Some bits) ≡ true) e (subst (λ (o : Option ℕ). has_type h.dtype h.quant o ≡ true) i p.typed) in
      absurd (false≢true both)

pub heads_step : (profile : ℕ) (k : ℕ) (done : List Head) (hs : List Head) → k ≡ length done → length done + length hs ≤ 16 → AllByRecursion HeadSays hs → AllByRecursion HasFields hs → AllByRecursion (λ h. is_had profile h ≡ true) hs → Passes profile (with_heads done) (head_lines k hs) (with_heads (done ++ hs))
heads_step profile k done [] e few p f had = subst (λ (xs : List Head). Passes profile (with_heads done) [] (with_heads xs)) (sym (append-nil done)) (Passes-nil profile (with_heads done))
heads_step profile k done (h ∷ hs) e few p f had =
    let n : length (done ++ h ∷ []) ≡ length done + 1 = length-append done (h ∷ []) in
    let one : Passes profile (with_heads done) (attr_line k h ∷ detail_lines k h) (with_heads (done ++ h ∷ [])) = subst (λ (j : ℕ). Passes profile (with_heads done) (attr_line j h ∷ detail_lines j h) (with_heads (done ++ h ∷ []))) (sym e) (one_head profile done h (omega arith) p.0 f.0 had.0) in
    let rest = heads_step profile (k + 1) (done ++ h ∷ []) hs (ap (λ j. j + 1) e ∙ sym n) (omega arith) p.1 f.1 had.1 in
    subst (λ (xs : List Head). Passes profile (with_heads done) (head_lines k (h ∷ hs)) (with_heads xs)) (append_assoc done (h ∷ []) hs)
    (Passes-append profile (with_heads done) (with_heads (done ++ h ∷ [])) (with_heads ((done ++ h ∷ []) ++ hs)) (attr_line k h ∷ detail_lines k h) (head_lines (k + 1) hs) one rest)

-- ---- points

abbrev pub with_points : List Head → ℕ → List PropertyParts → Draft
with_points heads n properties = record { formatted = true; heads = heads; vertices = Some n; properties = properties; faces = None; list = None }

vertex_end : (heads : List Head) (n : ℕ) → ends_header (with_heads heads) (element_line (codes "vertex") n) ≡ false
unfolding element_line keyword_of
vertex_end heads n = refl

vertex_is : (profile : ℕ) (heads : List Head) (n at : ℕ) → n ≤ MAX_POINTS → statement profile at (with_heads heads) (element_line (codes "vertex") n) ≡ Ok (with_points heads n [])
unfolding statement body element element_of element_line keyword_of
vertex_is profile heads n at few = rw (is_digits_again n (omega arith), within_again MAX_POINTS n few (omega arith)) refl

pub vertex_step : (profile : ℕ) (heads : List Head) (n : ℕ) → n ≤ MAX_POINTS → Passes profile (with_heads heads) (element_line (codes "vertex") n ∷ []) (with_points heads n [])
vertex_step profile heads n few = Passes-one profile (with_heads heads) (element_line (codes "vertex") n) (with_points heads n []) (vertex_end heads n) (λ at. vertex_is profile heads n at few)

word_right : (d : ℕ) → (is_type d ≡ true) × (d ≤ 9) → (type_of (type_word d) ≡ Some (column_type d)) × (bytes_eq (type_word d) (codes "list") ≡ false)
unfolding type_of type_word
word_right zero h = absurd (false≢true h.0)
word_right (suc zero) h = (refl, refl)
word_right (suc (suc zero)) h = (refl, refl)
word_right (suc (suc (suc zero))) h = (refl, refl)
word_right (suc (suc (suc (suc zero)))) h = (refl, refl)
word_right (suc (suc (suc (suc (suc zero))))) h = (refl, refl)
word_right (suc (suc (suc (suc (suc (suc zero)))))) h = (refl, refl)
word_right (suc (suc (suc (suc (suc (suc (suc zero))))))) h = absurd (false≢true h.0)
word_right (suc (suc (suc (suc (suc (suc (suc (suc zero)))))))) h = absurd (false≢true h.0)
word_right (suc (suc (suc (suc (suc (suc (suc (suc (suc zero))))))))) h = (refl, refl)
word_right (suc (suc (suc (suc (suc (suc (suc (suc (suc (suc d)))))))))) h = let few = h.1 in absurd (omega arith)

abbrev property_of : ℕ → List ℕ → PropertyParts
property_of dtype name = property (column_type dtype) name

property_is : (profile : ℕ) (heads : List Head) (n : ℕ) (ps : List PropertyParts) (d : ℕ) (name : List ℕ) (at : ℕ) → (is_type d ≡ true) × (d ≤ 9) → statement profile at (with_points heads n ps) (property_line d name) ≡ Ok (with_points heads n (ps ++ property_of d name ∷ []))
unfolding statement body property_line keyword_of is_list scalar scalar_of
property_is profile heads n ps d name at h = let w = word_right d h in rw (w.1, w.0) refl

property_end : (heads : List Head) (n : ℕ) (ps : List PropertyParts) (d : ℕ) (name : List ℕ) → ends_header (with_points heads n ps) (property_line d name) ≡ false
unfolding property_line keyword_of
property_end heads n ps d name = refl

-- the properties that the components of a head give
abbrev pub components_of : Bool → ℕ → Head → ℕ → ℕ → List PropertyParts
components_of named k h j zero = []
components_of named k h j (suc n) = property_of h.dtype (name_at named k h.usage j) ∷ components_of named k h (j + 1) n

components_step : (profile : ℕ) (heads : List Head) (n : ℕ) (ps : List PropertyParts) (named : Bool) (k : ℕ) (h : Head) (j m : ℕ) → (is_type h.dtype ≡ true) × (h.dtype ≤ 9) → Passes profile (with_points heads n ps) (component_lines named k h j m) (with_points heads n (ps ++ components_of named k h j m))
components_step profile heads n ps named k h j zero t = subst (λ (xs : List PropertyParts). Passes profile (with_points heads n ps) [] (with_points heads n xs)) (sym (append-nil ps)) (Passes-nil profile (with_points heads n ps))
components_step profile heads n ps named k h j (suc m) t =
    let p = property_of h.dtype (name_at named k h.usage j) in
    let one = Passes-one profile (with_points heads n ps) (property_line h.dtype (name_at named k h.usage j)) (with_points heads n (ps ++ p ∷ [])) (property_end heads n ps h.dtype (name_at named k h.usage j)) (λ at. property_is profile heads n ps h.dtype (name_at named k h.usage j) at t) in
    let rest = components_step profile heads n (ps ++ p ∷ []) named k h (j + 1) m t in
    subst (λ (xs : List PropertyParts). Passes profile (with_points heads n ps) (component_lines named k h j (suc m)) (with_points heads n xs)) (append_assoc ps (p ∷ []) (components_of named k h (j + 1) m))
    (Passes-append profile (with_points heads n ps) (with_points heads n (ps ++ p ∷ [])) (with_points heads n ((ps ++ p ∷ []) ++ components_of named k h (j + 1) m)) (property_line h.dtype (name_at named k h.usage j) ∷ []) (component_lines named k h (j + 1) m) one rest)

-- the properties that heads give
abbrev pub all_properties : List Head → ℕ → List Head → List PropertyParts
all_properties all k [] = []
all_properties all k (h ∷ hs) = components_of (has_usage_names all k h) k h 0 h.comps ++ all_properties all (k + 1) hs

pub properties_step : (profile : ℕ) (heads : List Head) (n : ℕ) (ps : List PropertyParts) (all : List Head) (k : ℕ) (hs : List Head) → AllByRecursion HeadSays hs → Passes profile (with_points heads n ps) (property_lines all k hs) (with_points heads n (ps ++ all_properties all k hs))
properties_step profile heads n ps all k [] p = subst (λ (xs : List PropertyParts). Passes profile (with_points heads n ps) [] (with_points heads n xs)) (sym (append-nil ps)) (Passes-nil profile (with_points heads n ps))
properties_step profile heads n ps all k (h ∷ hs) p =
    let cs = components_of (has_usage_names all k h) k h 0 h.comps in
    let one = components_step profile heads n ps (has_usage_names all k h) k h 0 h.comps (type_right h p.0) in
    let rest = properties_step profile heads n (ps ++ cs) all (k + 1) hs p.1 in
    subst (λ (xs : List PropertyParts). Passes profile (with_points heads n ps) (property_lines all k (h ∷ hs)) (with_points heads n xs)) (append_assoc ps cs (all_properties all (k + 1) hs))
    (Passes-append profile (with_points heads n ps) (with_points heads n (ps ++ cs)) (with_points heads n ((ps ++ cs) ++ all_properties all (k + 1) hs)) (component_lines (has_usage_names all k h) k h 0 h.comps) (property_lines all (k + 1) hs) one rest)

-- ---- faces

abbrev pub with_faces : List Head → ℕ → List PropertyParts → ℕ → Option (ℕ × ℕ) → Draft
with_faces heads n properties m list = record { formatted = true; heads = heads; vertices = Some n; properties = properties; faces = Some m; list = list }

face_is : (profile : ℕ) (heads : List Head) (n : ℕ) (ps : List PropertyParts) (m at : ℕ) → m ≤ MAX_FACES → statement profile at (with_points heads n ps) (element_line (codes "face") m) ≡ Ok (with_faces heads n ps m None)
unfolding statement body element element_of element_line keyword_of
face_is profile heads n ps m at few = rw (is_digits_again m (omega arith), within_again MAX_FACES m few (omega arith)) refl

face_end : (heads : List Head) (n : ℕ) (ps : List PropertyParts) (m : ℕ) → ends_header (with_points heads n ps) (element_line (codes "face") m) ≡ false
unfolding element_line keyword_of
face_end heads n ps m = refl

list_is : (profile : ℕ) (heads : List Head) (n : ℕ) (ps : List PropertyParts) (m at : ℕ) → statement profile at (with_faces heads n ps m None) list_line ≡ Ok (with_faces heads n ps m (Some (2, 5)))
unfolding statement body keyword_of is_list list list_of type_of is_indices
list_is profile heads n ps m at = refl

list_end : (heads : List Head) (n : ℕ) (ps : List PropertyParts) (m : ℕ) → ends_header (with_faces heads n ps m None) list_line ≡ false
unfolding keyword_of
list_end heads n ps m = refl

pub faces_step : (profile : ℕ) (heads : List Head) (n : ℕ) (ps : List PropertyParts) (m : ℕ) → m ≤ MAX_FACES → Passes profile (with_points heads n ps) (element_line (codes "face") m ∷ list_line ∷ []) (with_faces heads n ps m (Some (2, 5)))
faces_step profile heads n ps m few =
    Passes-append profile (with_points heads n ps) (with_faces heads n ps m None) (with_faces heads n ps m (Some (2, 5))) (element_line (codes "face") m ∷ []) (list_line ∷ [])
    (Passes-one profile (with_points heads n ps) (element_line (codes "face") m) (with_faces heads n ps m None) (face_end heads n ps m) (λ at. face_is profile heads n ps m at few))
    (Passes-one profile (with_faces heads n ps m None) list_line (with_faces heads n ps m (Some (2, 5))) (list_end heads n ps m) (λ at. list_is profile heads n ps m at))
