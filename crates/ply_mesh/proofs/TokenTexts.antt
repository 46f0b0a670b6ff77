-- Each token that is written is one or more bytes above the space.
use Rattle.std.proofs.Common.{◌≡◌, ℕ, zero, suc, ◌+◌, ◌<◌, ◌^◌, Bool, true, false, ltb, eqb, List, [], ◌∷◌, length, map, Option, Some, None, refl, arith}
use Rattle.std.specs.Prelude.{codes, ℤ}
use Rattle.std.specs.List.{list_all, AllByRecursion}
use Rattle.std.specs.Fmt.{decimal, signed_decimal}
use Rattle.std.proofs.lemmas.Bool.{cond_both, and_from, lt-ltb}
use Rattle.attr_heads.specs.declared.heads.Head.{Head}
use Rattle.attr_heads.specs.declared.quants.Quant.{Quant}
use Rattle.attr_heads.specs.Quants.{has_bits}
use Rattle.attr_heads.specs.Octahedra.{has_square_bits}
use Rattle.attr_heads.proofs.Passing.{HeadSays}
use Rattle.ply_mesh.specs.Fields.{HasFields}
use Rattle.ply_text.specs.PropertyTypes.{type_word}
use Rattle.ply_text.proofs.PropertyTypes.{written_word}
use Rattle.ply_mesh.specs.Text.{pattern_text, attr_line, quant_line, quant_lines, octa_line, octa_lines, detail_lines, head_lines, usage_name, plain_name, name_at, has_usage_names, property_line, component_lines, property_lines, element_line, face_line}
use Rattle.ply_mesh.proofs.Lexing.{is_token, are_tokens, are_lines, list_all-append}
use Rattle.ply_mesh.proofs.NumberTexts.{decimal_token, decimal_above, signed_token, pattern_token, IsSmall}
use Rattle.std.proofs.lemmas.Bool.{leb-true, and_parts}
use Rattle.std.proofs.Common.{leb}

abbrev pub Token : List ℕ → Type 0
Token t = is_token t ≡ true

more : (t : List ℕ) (ts : List (List ℕ)) → Token t → are_tokens ts ≡ true → are_tokens (t ∷ ts) ≡ true
more t ts h k = and_from (is_token t) (are_tokens ts) h k

record Tokens (ts : List (List ℕ)) : Type 0 where
  all : are_tokens ts ≡ true

none : Tokens []
none = record { all = refl }

next : {t : List ℕ} {ts : List (List ℕ)} → Token t → Tokens ts → Tokens (t ∷ ts)
next {t} {ts} h k = record { all = more t ts h k.all }

word_token : (d : ℕ) → Token (type_word d)
word_token d = written_word Token refl refl refl refl refl refl d

usage_token : (u j : ℕ) → Token (usage_name u j)
unfolding usage_name
usage_token u j =
    cond_both (eqb u 0) _ _ Token (λ _. cond_both (eqb j 0) (codes "x") _ Token (λ _. refl) (λ _. cond_both (eqb j 1) (codes "y") (codes "z") Token (λ _. refl) (λ _. refl))) (λ _.
    cond_both (eqb u 1) _ _ Token (λ _. cond_both (eqb j 0) (codes "nx") _ Token (λ _. refl) (λ _. cond_both (eqb j 1) (codes "ny") (codes "nz") Token (λ _. refl) (λ _. refl))) (λ _.
    cond_both (eqb u 2) _ _ Token (λ _. cond_both (eqb j 0) (codes "red") _ Token (λ _. refl) (λ _. cond_both (eqb j 1) (codes "green") _ Token (λ _. refl) (λ _. cond_both (eqb j 2) (codes "blue") (codes "alpha") Token (λ _. refl) (λ _. refl))))
    (λ _. cond_both (eqb j 0) (codes "s") (codes "t") Token (λ _. refl) (λ _. refl))))

plain_token : (k j : ℕ) → k < 2 ^ 64 → j < 2 ^ 64 → Token (plain_name k j)
plain_token k j hk hj =
    let rest = list_all-append (λ c. ltb 32 c) (decimal k) (95 ∷ decimal j) (decimal_above k hk) (decimal_above j hj) in
    and_from (ltb 0 (length (plain_name k j))) (list_all (λ c. ltb 32 c) (plain_name k j)) (lt-ltb 0 (length (plain_name k j)) (omega arith)) rest

name_token : (named : Bool) (k u j : ℕ) → k < 2 ^ 64 → j < 2 ^ 64 → Token (name_at named k u j)
name_token true k u j hk hj = usage_token u j
name_token false k u j hk hj = plain_token k j hk hj

pub component_tokens : (named : Bool) (k : ℕ) (h : Head) (j n : ℕ) → k < 2 ^ 32 → j + n < 2 ^ 32 → are_lines (component_lines named k h j n) ≡ true
unfolding property_line
component_tokens named k h j zero hk hj = refl
component_tokens named k h j (suc n) hk hj =
    let name = name_at named k h.usage j in
    and_from _ _ (more (codes "property") (type_word h.dtype ∷ name ∷ []) refl (more (type_word h.dtype) (name ∷ []) (word_token h.dtype) (more name [] (name_token named k h.usage j (omega arith) (omega arith)) refl)))
    (component_tokens named k h (j + 1) n hk (omega arith))

pub property_tokens : (all : List Head) (k : ℕ) (hs : List Head) → k + length hs < 2 ^ 32 → AllByRecursion HeadSays hs → are_lines (property_lines all k hs) ≡ true
property_tokens all k [] hk p = refl
property_tokens all k (h ∷ hs) hk p = list_all-append are_tokens (component_lines (has_usage_names all k h) k h 0 h.comps) (property_lines all (k + 1) hs) (component_tokens (has_usage_names all k h) k h 0 h.comps (omega arith) (omega (arith, p.0.few))) (property_tokens all (k + 1) hs (omega arith) p.1)

attr_all : (k : ℕ) (h : Head) → k < 2 ^ 32 → HeadSays h → HasFields h → h.dtype < 2 ^ 32 → Tokens (attr_line k h)
unfolding attr_line
attr_all k h hk p f d =
    next {t = codes "comment"} refl (next {t = codes "drc"} refl (next {t = codes "attr"} refl (next {t = decimal k} (decimal_token k (omega arith))
    (next {t = decimal h.usage} (decimal_token h.usage (omega (arith, p.usage))) (next {t = decimal h.dtype} (decimal_token h.dtype (omega arith)) (next {t = decimal h.comps} (decimal_token h.comps (omega (arith, p.few)))
    (next {t = decimal h.normalized} (decimal_token h.normalized (omega (arith, f.normalized))) (next {t = decimal h.id} (decimal_token h.id (omega (arith, f.id))) none))))))))

pub attr_tokens : (k : ℕ) (h : Head) → k < 2 ^ 32 → HeadSays h → HasFields h → h.dtype < 2 ^ 32 → are_tokens (attr_line k h) ≡ true
attr_tokens k h hk p f d = (attr_all k h hk p f d).all

min_tokens : (min : List ℕ) → are_tokens (map pattern_text min) ≡ true
min_tokens [] = refl
min_tokens (m ∷ ms) = more (pattern_text m) (map pattern_text ms) (pattern_token m) (min_tokens ms)

quant_all : (k : ℕ) (q : Quant) → k < 2 ^ 32 → q.bits < 2 ^ 32 → Tokens (quant_line k q)
unfolding quant_line
quant_all k q hk b =
    next {t = codes "comment"} refl (next {t = codes "drc"} refl (next {t = codes "quant"} refl (next {t = decimal k} (decimal_token k (omega arith))
    (next {t = decimal q.bits} (decimal_token q.bits (omega arith)) (next {t = pattern_text q.range} (pattern_token q.range) (record { all = min_tokens q.min }))))))

pub quant_tokens : (k : ℕ) (q : Quant) → k < 2 ^ 32 → q.bits < 2 ^ 32 → are_tokens (quant_line k q) ≡ true
quant_tokens k q hk b = (quant_all k q hk b).all

quants_tokens : (k : ℕ) (o : Option Quant) → k < 2 ^ 32 → has_bits o ≡ true → are_lines (quant_lines k o) ≡ true
quants_tokens k None hk b = refl
quants_tokens k (Some q) hk b =
    let p = and_parts (leb 1 q.bits) (leb q.bits 30) b in
    and_from _ _ (quant_tokens k q hk (omega (arith, leb-true q.bits 30 p.1))) refl

octa_all : (k bits : ℕ) → k < 2 ^ 32 → bits < 2 ^ 32 → Tokens (octa_line k bits)
unfolding octa_line
octa_all k bits hk b =
    next {t = codes "comment"} refl (next {t = codes "drc"} refl (next {t = codes "octa"} refl (next {t = decimal k} (decimal_token k (omega arith))
    (next {t = decimal bits} (decimal_token bits (omega arith)) none))))

octas_tokens : (k : ℕ) (o : Option ℕ) → k < 2 ^ 32 → has_square_bits o ≡ true → are_lines (octa_lines k o) ≡ true
octas_tokens k None hk b = refl
octas_tokens k (Some bits) hk b =
    let p = and_parts (leb 2 bits) (leb bits 30) b in
    and_from _ _ (octa_all k bits hk (omega (arith, leb-true bits 30 p.1))).all refl

pub head_tokens : (k : ℕ) (hs : List Head) → k + length hs < 2 ^ 32 → AllByRecursion HeadSays hs → AllByRecursion HasFields hs → AllByRecursion (λ h. h.dtype < 2 ^ 32) hs → are_lines (head_lines k hs) ≡ true
head_tokens k [] hk p f d = refl
head_tokens k (h ∷ hs) hk p f d =
    let details = list_all-append are_tokens (quant_lines k h.quant) (octa_lines k h.octa) (quants_tokens k h.quant (omega arith) p.0.bits) (octas_tokens k h.octa (omega arith) p.0.square) in
    list_all-append are_tokens (attr_line k h ∷ detail_lines k h) (head_lines (k + 1) hs)
    (and_from _ _ (attr_tokens k h (omega arith) p.0 f.0 d.0) details)
    (head_tokens (k + 1) hs (omega arith) p.1 f.1 d.1)

element_all : (name : List ℕ) (n : ℕ) → Token name → n < 2 ^ 32 → Tokens (element_line name n)
unfolding element_line
element_all name n h small = next {t = codes "element"} refl (next {t = name} h (next {t = decimal n} (decimal_token n (omega arith)) none))

pub element_tokens : (name : List ℕ) (n : ℕ) → Token name → n < 2 ^ 32 → are_tokens (element_line name n) ≡ true
element_tokens name n h small = (element_all name n h small).all

pub row_tokens : (row : List ℤ) → AllByRecursion IsSmall row → are_tokens (map signed_decimal row) ≡ true
row_tokens [] h = refl
row_tokens (v ∷ vs) h = more (signed_decimal v) (map signed_decimal vs) (signed_token v h.0) (row_tokens vs h.1)

pub point_tokens : (points : List (List ℤ)) → AllByRecursion (AllByRecursion IsSmall) points → are_lines (map (λ row. map signed_decimal row) points) ≡ true
point_tokens [] h = refl
point_tokens (r ∷ rs) h = and_from _ _ (row_tokens r h.0) (point_tokens rs h.1)

decimals_tokens : (face : List ℕ) → AllByRecursion (λ p. p < 2 ^ 32) face → are_tokens (map decimal face) ≡ true
decimals_tokens [] h = refl
decimals_tokens (p ∷ ps) h = let s = h.0 in more (decimal p) (map decimal ps) (decimal_token p (omega arith)) (decimals_tokens ps h.1)

pub face_tokens : (faces : List (List ℕ)) → AllByRecursion (AllByRecursion (λ p. p < 2 ^ 32)) faces → are_lines (map face_line faces) ≡ true
unfolding face_line
face_tokens [] h = refl
face_tokens (f ∷ fs) h = and_from _ _ (more (51 ∷ []) (map decimal f) refl (decimals_tokens f h.0)) (face_tokens fs h.1)
