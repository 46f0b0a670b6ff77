-- Lines that are written piece by piece.
use Rattle.std.proofs.Common.{◌≡◌, ℕ, ◌+◌, ◌<◌, List, [], ◌∷◌, ◌++◌, length, drop, get_or, map, refl, sym, ap, ◌∙◌, append_assoc}
use Rattle.std.specs.Prelude.{codes, Some, Option}
use Rattle.std.specs.Fmt.{decimal}
use Rattle.std.proofs.lemmas.List.{append-nil, at_drop_more}
use Rattle.std.proofs.lemmas.List.Concat.{flat_map-append}
use Rattle.attr_heads.specs.declared.heads.Head.{Head}
use Rattle.attr_heads.specs.declared.quants.Quant.{Quant}
use Rattle.ply_mesh.specs.Text.{spaced, rest_text, line_text, text_of, pattern_text, attr_line, quant_line, quant_lines, octa_line, octa_lines, detail_lines, head_lines}

-- pieces that are appended one after another
pub eight : (o a b c d e f g h : List ℕ) → (((((((o ++ a) ++ b) ++ c) ++ d) ++ e) ++ f) ++ g) ++ h ≡ o ++ (a ++ (b ++ (c ++ (d ++ (e ++ (f ++ (g ++ h)))))))
eight o a b c d e f g h = simp append_assoc

pub six : (o a b c d e f : List ℕ) → (((((o ++ a) ++ b) ++ c) ++ d) ++ e) ++ f ≡ o ++ (a ++ (b ++ (c ++ (d ++ (e ++ f)))))
six o a b c d e f = simp append_assoc

pub four : (o a b c d : List ℕ) → (((o ++ a) ++ b) ++ c) ++ d ≡ o ++ (a ++ (b ++ (c ++ d)))
four o a b c d = simp append_assoc

pub rest_is : (tokens : List (List ℕ)) → spaced tokens ++ 10 ∷ [] ≡ rest_text tokens
rest_is [] = refl
rest_is (t ∷ ts) = ap (λ (r : List ℕ). 32 ∷ r) (append_assoc t (spaced ts) (10 ∷ []) ∙ ap (λ (r : List ℕ). t ++ r) (rest_is ts))

pub attr_text : (out : List ℕ) (k : ℕ) (h : Head) → (((((((out ++ codes "comment drc attr") ++ (32 ∷ decimal k)) ++ (32 ∷ decimal h.usage)) ++ (32 ∷ decimal h.dtype)) ++ (32 ∷ decimal h.comps)) ++ (32 ∷ decimal h.normalized)) ++ (32 ∷ decimal h.id)) ++ 10 ∷ [] ≡ out ++ line_text (attr_line k h)
unfolding line_text attr_line
attr_text out k h = eight out (codes "comment drc attr") (32 ∷ decimal k) (32 ∷ decimal h.usage) (32 ∷ decimal h.dtype) (32 ∷ decimal h.comps) (32 ∷ decimal h.normalized) (32 ∷ decimal h.id) (10 ∷ [])

pub quant_text : (out : List ℕ) (k : ℕ) (q : Quant) → (((((out ++ codes "comment drc quant") ++ (32 ∷ decimal k)) ++ (32 ∷ decimal q.bits)) ++ (32 ∷ pattern_text q.range)) ++ spaced (map pattern_text q.min)) ++ 10 ∷ [] ≡ out ++ line_text (quant_line k q)
unfolding line_text quant_line
quant_text out k q =
    six out (codes "comment drc quant") (32 ∷ decimal k) (32 ∷ decimal q.bits) (32 ∷ pattern_text q.range) (spaced (map pattern_text q.min)) (10 ∷ [])
    ∙ ap (λ (r : List ℕ). out ++ (codes "comment drc quant" ++ ((32 ∷ decimal k) ++ ((32 ∷ decimal q.bits) ++ ((32 ∷ pattern_text q.range) ++ r))))) (rest_is (map pattern_text q.min))

pub patterns_more : (out : List ℕ) (min : List ℕ) (i : ℕ) → i < length min → (out ++ (32 ∷ pattern_text (get_or min i 0))) ++ spaced (map pattern_text (drop (i + 1) min)) ≡ out ++ spaced (map pattern_text (drop i min))
patterns_more out min i lt = append_assoc out (32 ∷ pattern_text (get_or min i 0)) (spaced (map pattern_text (drop (i + 1) min))) ∙ ap (λ (t : List ℕ). out ++ t) (sym (at_drop_more (λ (ms : List ℕ). spaced (map pattern_text ms)) min i 0 lt))

pub head_more : (out : List ℕ) (heads : List Head) (k : ℕ) (h : Head) → k < length heads → h ≡ get_or heads k h → (out ++ text_of (attr_line k h ∷ detail_lines k h)) ++ text_of (head_lines (k + 1) (drop (k + 1) heads)) ≡ out ++ text_of (head_lines k (drop k heads))
head_more out heads k h lt e =
    append_assoc out (text_of (attr_line k h ∷ detail_lines k h)) (text_of (head_lines (k + 1) (drop (k + 1) heads)))
    ∙ ap (λ (t : List ℕ). out ++ t) (sym (flat_map-append line_text (attr_line k h ∷ detail_lines k h) (head_lines (k + 1) (drop (k + 1) heads)))
    ∙ ap (λ (x : Head). text_of ((attr_line k x ∷ detail_lines k x) ++ head_lines (k + 1) (drop (k + 1) heads))) e ∙ sym (at_drop_more (λ (hs : List Head). text_of (head_lines k hs)) heads k h lt))

pub octa_text : (out : List ℕ) (k bits : ℕ) → (((out ++ codes "comment drc octa") ++ (32 ∷ decimal k)) ++ (32 ∷ decimal bits)) ++ 10 ∷ [] ≡ out ++ line_text (octa_line k bits)
unfolding line_text octa_line
octa_text out k bits = four out (codes "comment drc octa") (32 ∷ decimal k) (32 ∷ decimal bits) (10 ∷ [])

-- one line, and none
pub one_line : (out : List ℕ) (line : List (List ℕ)) → out ++ line_text line ≡ out ++ text_of (line ∷ [])
one_line out line = ap (λ (t : List ℕ). out ++ t) (sym (append-nil (line_text line)))

pub quant_after : (out : List ℕ) (k : ℕ) (o : Option Quant) (q : Quant) → o ≡ Some q → out ++ line_text (quant_line k q) ≡ out ++ text_of (quant_lines k o)
quant_after out k o q e = one_line out (quant_line k q) ∙ ap (λ (o : Option Quant). out ++ text_of (quant_lines k o)) (sym e)

pub octa_after : (out : List ℕ) (k : ℕ) (o : Option ℕ) (bits : ℕ) → o ≡ Some bits → out ++ line_text (octa_line k bits) ≡ out ++ text_of (octa_lines k o)
octa_after out k o bits e = one_line out (octa_line k bits) ∙ ap (λ (o : Option ℕ). out ++ text_of (octa_lines k o)) (sym e)

pub head_text : (out : List ℕ) (k : ℕ) (h : Head) → ((out ++ line_text (attr_line k h)) ++ text_of (quant_lines k h.quant)) ++ text_of (octa_lines k h.octa) ≡ out ++ text_of (attr_line k h ∷ detail_lines k h)
head_text out k h =
    append_assoc (out ++ line_text (attr_line k h)) (text_of (quant_lines k h.quant)) (text_of (octa_lines k h.octa))
    ∙ ap (λ (t : List ℕ). (out ++ line_text (attr_line k h)) ++ t) (sym (flat_map-append line_text (quant_lines k h.quant) (octa_lines k h.octa)))
    ∙ append_assoc out (line_text (attr_line k h)) (text_of (detail_lines k h))

-- one more piece
pub onto : {a b c : List ℕ} (p : List ℕ) → a ≡ b ++ p → b ≡ c → a ≡ c ++ p
onto p h e = h ∙ ap (λ (o : List ℕ). o ++ p) e
