-- Lines of points and faces that are written one after another.
use Rattle.std.proofs.Common.{◌≡◌, ℕ, ◌+◌, ◌<◌, ◌≤◌, List, [], ◌∷◌, ◌++◌, length, drop, get_or, map, refl, sym, ap, ◌∙◌, append_assoc, arith}
use Rattle.std.specs.Prelude.{codes, ℤ}
use Rattle.std.specs.Fmt.{decimal, signed_decimal}
use Rattle.std.proofs.lemmas.List.{at_drop_more, at_drop_all, append-nil, drop_more, drop_all, length-drop}
use Rattle.std.proofs.lemmas.List.Concat.{flat_map-append}
use Rattle.ply_mesh.specs.Text.{line_text, text_of, element_line, point_lines, face_line, face_lines}

-- the line of numbers begins with the first and a space, where more follow
line_cons : (v : ℤ) (vs : List ℤ) → 0 < length vs → line_text (map signed_decimal (v ∷ vs)) ≡ (signed_decimal v ++ 32 ∷ []) ++ line_text (map signed_decimal vs)
unfolding line_text
line_cons v [] some = absurd (omega arith)
line_cons v (w ∷ ws) some = sym (append_assoc (signed_decimal v) (32 ∷ []) (line_text (map signed_decimal (w ∷ ws))))

-- one more number that isn't the last
pub row_more : (whole front now : List ℕ) (row : List ℤ) (j : ℕ) (d : ℤ) → j + 1 < length row → now ≡ front ++ (signed_decimal (get_or row j d) ++ 32 ∷ [])
    → front ++ line_text (map signed_decimal (drop j row)) ≡ whole → now ++ line_text (map signed_decimal (drop (j + 1) row)) ≡ whole
row_more whole front now row j d lt is h =
    let piece = signed_decimal (get_or row j d) ++ 32 ∷ [] in
    let rest = line_text (map signed_decimal (drop (j + 1) row)) in
    let cut : drop j row ≡ get_or row j d ∷ drop (j + 1) row = drop_more row j d (omega arith) in
    let some : 0 < length (drop (j + 1) row) = omega (arith, length-drop (j + 1) row) in
    ap (λ (t : List ℕ). t ++ rest) is
    ∙ append_assoc front piece rest
    ∙ ap (λ (t : List ℕ). front ++ t) (sym (line_cons (get_or row j d) (drop (j + 1) row) some) ∙ sym (ap (λ (vs : List ℤ). line_text (map signed_decimal vs)) cut))
    ∙ h

-- the last number
pub row_end : (whole front now : List ℕ) (row : List ℤ) (j : ℕ) (d : ℤ) → j + 1 ≡ length row → now ≡ front ++ (signed_decimal (get_or row j d) ++ 10 ∷ [])
    → front ++ line_text (map signed_decimal (drop j row)) ≡ whole → now ≡ whole
unfolding line_text
row_end whole front now row j d last is h =
    let cut : drop j row ≡ get_or row j d ∷ [] = drop_more row j d (omega arith) ∙ ap (λ (vs : List ℤ). get_or row j d ∷ vs) (drop_all (j + 1) row (omega arith)) in
    is ∙ ap (λ (t : List ℕ). front ++ t) (sym (ap (λ (vs : List ℤ). line_text (map signed_decimal vs)) cut)) ∙ h

pub face_text : (start : List ℕ) (a b c : ℕ) → (((start ++ 51 ∷ 32 ∷ []) ++ (decimal a ++ 32 ∷ [])) ++ (decimal b ++ 32 ∷ [])) ++ (decimal c ++ 10 ∷ []) ≡ start ++ line_text (face_line (a ∷ b ∷ c ∷ []))
unfolding line_text face_line
face_text start a b c = simp append_assoc

pub four : (o a b c d : List ℕ) → (((o ++ a) ++ b) ++ c) ++ d ≡ o ++ (a ++ (b ++ (c ++ d)))
four o a b c d = simp append_assoc

pub element_text : (out name : List ℕ) (n : ℕ) → (((out ++ codes "element ") ++ name) ++ (32 ∷ decimal n)) ++ 10 ∷ [] ≡ out ++ line_text (element_line name n)
unfolding line_text element_line
element_text out name n = four out (codes "element ") name (32 ∷ decimal n) (10 ∷ [])

pub point_more : (points : List (List ℤ)) (i : ℕ) → i < length points → line_text (map signed_decimal (get_or points i [])) ++ text_of (point_lines (drop (i + 1) points)) ≡ text_of (point_lines (drop i points))
point_more points i lt = sym (at_drop_more (λ (ps : List (List ℤ)). text_of (point_lines ps)) points i [] lt)

pub no_more_points : (out : List ℕ) (points : List (List ℤ)) (i : ℕ) → length points ≤ i → out ++ text_of (point_lines (drop i points)) ≡ out
no_more_points out points i le = ap (λ (t : List ℕ). out ++ t) (at_drop_all (λ (ps : List (List ℤ)). text_of (point_lines ps)) points i le) ∙ append-nil out

pub three_of : (face : List ℕ) → length face ≡ 3 → get_or face 0 0 ∷ get_or face 1 0 ∷ get_or face 2 0 ∷ [] ≡ face
three_of [] e = absurd (omega arith)
three_of (x ∷ []) e = absurd (omega arith)
three_of (x ∷ y ∷ []) e = absurd (omega arith)
three_of (x ∷ y ∷ z ∷ []) e = refl
three_of (x ∷ y ∷ z ∷ w ∷ ws) e = absurd (omega arith)

pub face_more : (faces : List (List ℕ)) (f : ℕ) (face : List ℕ) → f < length faces → face ≡ get_or faces f [] → length face ≡ 3
    → line_text (face_line (get_or face 0 0 ∷ get_or face 1 0 ∷ get_or face 2 0 ∷ [])) ++ text_of (face_lines (drop (f + 1) faces)) ≡ text_of (face_lines (drop f faces))
face_more faces f face lt e n =
    ap (λ (x : List ℕ). line_text (face_line x) ++ text_of (face_lines (drop (f + 1) faces))) (three_of face n ∙ e)
    ∙ sym (at_drop_more (λ (fs : List (List ℕ)). text_of (face_lines fs)) faces f [] lt)

pub no_more_faces : (out : List ℕ) (faces : List (List ℕ)) (f : ℕ) → length faces ≤ f → out ++ text_of (face_lines (drop f faces)) ≡ out
no_more_faces out faces f le = ap (λ (t : List ℕ). out ++ t) (at_drop_all (λ (fs : List (List ℕ)). text_of (face_lines fs)) faces f le) ∙ append-nil out

-- ---- the parts of a text

pub two_parts : (a b : List (List (List ℕ))) → text_of a ++ text_of b ≡ text_of (a ++ b)
two_parts a b = sym (flat_map-append line_text a b)

pub three_parts : (a b c : List (List (List ℕ))) → ((text_of a ++ text_of b) ++ text_of c) ≡ text_of (a ++ b ++ c)
three_parts a b c = ap (λ (t : List ℕ). t ++ text_of c) (two_parts a b) ∙ two_parts (a ++ b) c
