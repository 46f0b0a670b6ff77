-- Faces that are read token by token.
use Rattle.std.proofs.Common.{◌≡◌, ℕ, ◌<◌, true, cond, List, [], ◌∷◌, length, take, drop, get_or, Option, Some, Result, Ok, Err, refl, sym, ap, ◌∙◌, arith}
use Rattle.std.specs.Prelude.{ℤ, pos}
use Rattle.std.specs.Borrow.{Bor}
use Rattle.std.specs.Ordering.{int_eq}
use Rattle.std.proofs.lemmas.Bool.{ne_eqb}
use Rattle.std.proofs.lemmas.List.{length-map}
use Rattle.drc_base.specs.declared.faults.Fault.{Fault}
use Rattle.drc_base.specs.declared.kinds.Kind.TheVariants.{PlyRow, PlyNumber, PlyFace}
use Rattle.drc_base.specs.Steps.{◌>>=◌}
use Rattle.ply_text.specs.Faults.{or_refuse}
use Rattle.ply_text.specs.Tokens.{tokens_of}
use Rattle.attr_heads.specs.declared.bounds.Bounds.{Bounds}
use Rattle.attr_heads.specs.Bounds.{in_bounds, type_bounds}
use Rattle.ply_text.specs.Numbers.{first_integer}
use Rattle.ply_mesh.specs.Body.{token_number, numbers_of, points_numbered, indices_of, face_count_read, counted_face, face_of, texts}
use Rattle.ply_mesh.proofs.BoundedNumbers.{number_in}
use Rattle.ply_mesh.proofs.RowSteps.{first_parts}

pub three_texts : (found : List (Bor (List ℕ))) (a b c : Bor (List ℕ)) → length found ≡ 3 → texts found ≡ (get_or found 0 a).now ∷ (get_or found 1 b).now ∷ (get_or found 2 c).now ∷ []
three_texts [] a b c e = absurd (omega arith)
three_texts (x ∷ []) a b c e = absurd (omega arith)
three_texts (x ∷ y ∷ []) a b c e = absurd (omega arith)
three_texts (x ∷ y ∷ z ∷ []) a b c e = refl
three_texts (x ∷ y ∷ z ∷ w ∷ ws) a b c e = absurd (omega arith)

pub first_text : (found : List (Bor (List ℕ))) (a : Bor (List ℕ)) → 0 < length found → texts found ≡ (get_or found 0 a).now ∷ texts (drop 1 found)
first_text [] a h = absurd (omega arith)
first_text (x ∷ xs) a h = refl

pub not_three : (itype points at : ℕ) (found : List (Bor (List ℕ))) → (length found ≡ 3 → ⊥) → indices_of itype points at (texts found) ≡ Err (record { kind = PlyRow; at = at })
unfolding indices_of
not_three itype points at found ne = rw (ne_eqb (length (texts found)) 3 (λ h. ne (sym (length-map found (λ (t : Bor (List ℕ)). t.now)) ∙ h))) refl

pub no_face : (list : ℕ × ℕ) (points at : ℕ) (found : List (Bor (List ℕ))) → length found ≡ 0 → face_of list points at (texts found) ≡ Err (record { kind = PlyRow; at = at })
unfolding face_of
no_face list points at [] e = refl
no_face list points at (x ∷ xs) e = absurd (omega arith)

not_three_tokens : (itype points at : ℕ) (tokens : List (List ℕ)) → 3 < length tokens → indices_of itype points at tokens ≡ Err (record { kind = PlyRow; at = at })
unfolding indices_of
not_three_tokens itype points at tokens many = rw (ne_eqb (length tokens) 3 (λ h. omega arith)) refl

-- five tokens show as much of a face as all
pub face_few : (list : ℕ × ℕ) (points at : ℕ) (tokens : List (List ℕ)) → face_of list points at (take 5 tokens) ≡ face_of list points at tokens
unfolding face_of
face_few list points at [] = refl
face_few list points at (a ∷ []) = refl
face_few list points at (a ∷ b ∷ []) = refl
face_few list points at (a ∷ b ∷ c ∷ []) = refl
face_few list points at (a ∷ b ∷ c ∷ d ∷ []) = refl
face_few list points at (a ∷ b ∷ c ∷ d ∷ e ∷ more) =
    ap (λ (r : Result (List ℕ) Fault). face_count_read list.0 at a >>= λ _. r)
    (not_three_tokens list.1 points at (b ∷ c ∷ d ∷ e ∷ []) (omega arith) ∙ sym (not_three_tokens list.1 points at (b ∷ c ∷ d ∷ e ∷ more) (omega arith)))

pub face_is : (list : ℕ × ℕ) (points at : ℕ) (found : List (Bor (List ℕ))) (a : Bor (List ℕ)) → 0 < length found → face_of list points at (texts found) ≡ counted_face list points at (get_or found 0 a).now (texts (drop 1 found))
unfolding face_of
face_is list points at found a h = ap (face_of list points at) (first_text found a h)

-- the face of four numbers and no more
pub face_whole : (list : ℕ × ℕ) (points : ℕ) (line : List ℕ) (p0 p1 p2 p3 : ℕ) (counts indices : Bounds) (v a b c : ℤ) (face : List ℕ) → counts ≡ type_bounds list.0 → indices ≡ type_bounds list.1 → v ≡ pos 3
    → first_integer (tokens_of (drop 0 line)) ≡ Some (v, tokens_of (drop p0 line)) → in_bounds counts v ≡ true
    → first_integer (tokens_of (drop p0 line)) ≡ Some (a, tokens_of (drop p1 line)) → in_bounds indices a ≡ true
    → first_integer (tokens_of (drop p1 line)) ≡ Some (b, tokens_of (drop p2 line)) → in_bounds indices b ≡ true
    → first_integer (tokens_of (drop p2 line)) ≡ Some (c, tokens_of (drop p3 line)) → in_bounds indices c ≡ true
    → tokens_of (drop p3 line) ≡ [] → points_numbered points (a ∷ b ∷ c ∷ []) ≡ Some face → (at : ℕ) → face_of list points at (tokens_of line) ≡ Ok face
unfolding face_of indices_of
face_whole list points line p0 p1 p2 p3 counts indices v a b c face r0 r1 three e0 i0 ea ia eb ib ec ic last made at =
    let t0 = first_parts (tokens_of line) (tokens_of (drop p0 line)) v e0 in
    let ta = first_parts (tokens_of (drop p0 line)) (tokens_of (drop p1 line)) a ea in
    let tb = first_parts (tokens_of (drop p1 line)) (tokens_of (drop p2 line)) b eb in
    let tc = first_parts (tokens_of (drop p2 line)) (tokens_of (drop p3 line)) c ec in
    let n0 : token_number (type_bounds list.0) t0.0 ≡ Some v = ap (λ (x : Bounds). token_number x t0.0) (sym r0) ∙ number_in counts t0.0 v t0.2 i0 in
    let na : token_number (type_bounds list.1) ta.0 ≡ Some a = ap (λ (x : Bounds). token_number x ta.0) (sym r1) ∙ number_in indices ta.0 a ta.2 ia in
    let nb : token_number (type_bounds list.1) tb.0 ≡ Some b = ap (λ (x : Bounds). token_number x tb.0) (sym r1) ∙ number_in indices tb.0 b tb.2 ib in
    let nc : token_number (type_bounds list.1) tc.0 ≡ Some c = ap (λ (x : Bounds). token_number x tc.0) (sym r1) ∙ number_in indices tc.0 c tc.2 ic in
    let whole : tokens_of line ≡ t0.0 ∷ ta.0 ∷ tb.0 ∷ tc.0 ∷ [] =
    t0.1 ∙ ap (λ (ts : List (List ℕ)). t0.0 ∷ ts) (ta.1 ∙ ap (λ (ts : List (List ℕ)). ta.0 ∷ ts) (tb.1 ∙ ap (λ (ts : List (List ℕ)). tb.0 ∷ ts) (tc.1 ∙ ap (λ (ts : List (List ℕ)). tc.0 ∷ ts) last))) in
    let counted : face_count_read list.0 at t0.0 ≡ Ok v = ap (λ (o : Option ℤ). or_refuse PlyNumber at o >>= λ n. cond (int_eq n (pos 3)) (Ok n) (Err (record { kind = PlyFace; at = at }))) n0 ∙ ap (λ (z : ℤ). cond (int_eq z (pos 3)) (Ok v) (Err (record { kind = PlyFace; at = at }))) three in
    let values : numbers_of (type_bounds list.1 ∷ type_bounds list.1 ∷ type_bounds list.1 ∷ []) (ta.0 ∷ tb.0 ∷ tc.0 ∷ []) ≡ Some (a ∷ b ∷ c ∷ []) = rw (na, nb, nc) refl in
    ap (face_of list points at) whole ∙ rw (counted, values, made) refl
