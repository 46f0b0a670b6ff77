-- Lines that are read from the rest of a text, number by number.
use Rattle.std.proofs.Common.{◌≡◌, ℕ, ◌+◌, ◌-◌, ◌<◌, ◌≤◌, true, List, [], ◌∷◌, ◌++◌, length, take, drop, get_or, Some, refl, ap, ◌∙◌, append_assoc, inl, inr, arith}
use Rattle.std.specs.Prelude.{ℤ, pos}
use Rattle.std.proofs.lemmas.Bool.{cases_lt, lt-ltb}
use Rattle.std.proofs.lemmas.List.{get_or-take, length-take, take_at}
use Rattle.ply_text.specs.Tokens.{is_blank, tokens_of}
use Rattle.attr_heads.specs.declared.bounds.Bounds.{Bounds}
use Rattle.attr_heads.specs.Bounds.{in_bounds, type_bounds}
use Rattle.ply_text.specs.Numbers.{first_integer}
use Rattle.ply_text.specs.InPlace.{IsNumberAt}
use Rattle.ply_text.proofs.Cutting.{IsPlain, none_plain, cuts_plain}
use Rattle.ply_text.proofs.Splitting.{skips_blank, no_token}
use Rattle.ply_mesh.specs.Body.{numbers_of, points_numbered}
use Rattle.ply_mesh.specs.Ahead.{IsFirstLine, IsRowAhead, IsFaceAhead}
use Rattle.ply_mesh.proofs.FaceSteps.{face_whole}
use Rattle.ply_mesh.proofs.RowSteps.{IsRowSoFar, row_begun, row_more, row_done, row_undone}

-- ---- a number and the byte behind it

pub plain_to : (text : List ℕ) (i j : ℕ) (v : ℤ) → IsPlain text i → IsNumberAt text i j v → IsPlain text j
plain_to text i j v p n = record { plain = λ k below lf. elim (cases_lt k i) [ inl lt ↦ p.plain k lt lf | inr le ↦ omega (arith, n.plain k le below) ] }

pub plain_on : (text : List ℕ) (i j : ℕ) (v : ℤ) → IsPlain text i → IsNumberAt text i j v → get_or text j 0 ≡ 32 → IsPlain text (j + 1)
plain_on text i j v p n space = record {
  plain = λ k below lf. elim (cases_lt k j) [
    | inl lt ↦ (plain_to text i j v p n).plain k lt lf
    | inr le ↦ let e : k ≡ j = omega arith in omega (arith, ap (λ m. get_or text m 0) e, space)
  ];
}

space_blank : (c : ℕ) → c ≡ 32 → is_blank c ≡ true
space_blank c e = rw e refl

-- a number with a space behind it, in a line that goes on
pub spaced_number : (text : List ℕ) (i j e : ℕ) (v : ℤ) → IsNumberAt text i j v → get_or text j 0 ≡ 32 → j < e → e ≤ length text → first_integer (tokens_of (drop i (take e text))) ≡ Some (v, tokens_of (drop (j + 1) (take e text)))
spaced_number text i j e v n space inside most =
    let line = take e text in
    let blank : is_blank (get_or line j 0) ≡ true = space_blank (get_or line j 0) (get_or-take e text j 0 inside ∙ space) in
    n.reads e (omega arith) most (λ _. space_blank (get_or text j 0) space)
    ∙ ap (λ (ts : List (List ℕ)). Some (v, ts)) (skips_blank line j (omega (arith, length-take e text)) blank)

-- the last number of a line
pub last_number : (text : List ℕ) (i j : ℕ) (v : ℤ) → IsNumberAt text i j v → first_integer (tokens_of (drop i (take j text))) ≡ Some (v, tokens_of (drop j (take j text)))
last_number text i j v n = n.reads j (omega arith) n.within (λ below. absurd (omega arith))

no_more : (text : List ℕ) (j : ℕ) → tokens_of (drop j (take j text)) ≡ []
no_more text j = no_token (take j text) j (omega (arith, length-take j text))

first_line : (text : List ℕ) (i j : ℕ) (v : ℤ) → IsPlain text i → IsNumberAt text i j v → j < length text → get_or text j 0 ≡ 10 → IsFirstLine text j
first_line text i j v p n inside lf = record {
  within = inside;
  cut = cuts_plain text j inside (omega (arith, n.after)) (plain_to text i j v p n) lf (omega (arith, n.plain (j - 1) (omega (arith, n.after)) (omega (arith, n.after))));
}

-- ---- rows

-- the numbers so far, whatever line they begin
pub record IsAhead (columns : List Bounds) (text : List ℕ) (old out : List ℤ) (j at : ℕ) : Type 0 where
  pub plain : IsPlain text at
  pub within : at ≤ length text
  pub rows : (e : ℕ) → at ≤ e → e ≤ length text → IsRowSoFar (numbers_of columns (tokens_of (take e text))) old out (numbers_of (drop j columns) (tokens_of (drop at (take e text))))

pub ahead_begun : (columns : List Bounds) (text : List ℕ) (old : List ℤ) → IsAhead columns text old old 0 0
ahead_begun columns text old = record {
  plain = none_plain text;
  within = omega arith;
  rows = λ e le most. row_begun (numbers_of columns (tokens_of (take e text))) old;
}

pub ahead_more : (columns : List Bounds) (text : List ℕ) (old out : List ℤ) (j at next : ℕ) (bounds d : Bounds) (v : ℤ) → j < length columns → bounds ≡ get_or columns j d → in_bounds bounds v ≡ true
    → IsNumberAt text at next v → next < length text → get_or text next 0 ≡ 32 → IsAhead columns text old out j at → IsAhead columns text old (out ++ v ∷ []) (j + 1) (next + 1)
ahead_more columns text old out j at next bounds d v lt is inside n more space h = record {
  plain = plain_on text at next v h.plain n space;
  within = omega arith;
  rows = λ e le top.
      row_more (numbers_of columns (tokens_of (take e text))) old out columns (take e text) j at (next + 1) bounds d v lt is inside
      (spaced_number text at next e v n space (omega arith) top) (h.rows e (omega (arith, n.after)) top);
}

pub ahead_last : (columns : List Bounds) (text : List ℕ) (old out : List ℤ) (j at next : ℕ) (bounds d : Bounds) (v : ℤ) → j + 1 ≡ length columns → bounds ≡ get_or columns j d → in_bounds bounds v ≡ true
    → IsNumberAt text at next v → next < length text → get_or text next 0 ≡ 10 → IsAhead columns text old out j at → IsRowAhead columns text next old (out ++ v ∷ [])
ahead_last columns text old out j at next bounds d v last is inside n more lf h = record {
  line = first_line text at next v h.plain n more lf;
  row =
      row_done (numbers_of columns (tokens_of (take next text))) old (out ++ v ∷ []) columns (tokens_of (drop next (take next text))) (j + 1) (omega arith) (no_more text next)
      (row_more (numbers_of columns (tokens_of (take next text))) old out columns (take next text) j at next bounds d v (omega arith) is inside
      (last_number text at next v n) (h.rows next (omega (arith, n.after)) n.within));
}

-- what was there before stands in front
pub ahead_front : (columns : List Bounds) (text : List ℕ) (old out : List ℤ) (j at : ℕ) → IsAhead columns text old out j at → take (length old) out ≡ old
ahead_front columns text old out j at h = row_undone _ _ old out (length old) refl (h.rows at (omega arith) h.within)

-- and still does after one more number
pub row_none : (columns : List Bounds) (text : List ℕ) (old out : List ℤ) (j at : ℕ) (v : ℤ) → IsAhead columns text old out j at → take (length old) (out ++ v ∷ []) ≡ old
row_none columns text old out j at v h =
    let r = h.rows at (omega arith) h.within in
    ap (λ (xs : List ℤ). take (length old) (xs ++ v ∷ [])) r.out-is ∙ ap (take (length old)) (append_assoc old r.front (v ∷ [])) ∙ take_at old (r.front ++ v ∷ []) (length old) refl

-- ---- faces

pub face_is_ahead : (list : ℕ × ℕ) (points : ℕ) (text : List ℕ) (p0 p1 p2 p3 : ℕ) (counts indices : Bounds) (a b c : ℕ) → counts ≡ type_bounds list.0 → indices ≡ type_bounds list.1 → in_bounds counts (pos 3) ≡ true
    → IsNumberAt text 0 p0 (pos 3) → get_or text p0 0 ≡ 32 → IsNumberAt text (p0 + 1) p1 (pos a) → get_or text p1 0 ≡ 32 → IsNumberAt text (p1 + 1) p2 (pos b) → get_or text p2 0 ≡ 32
    → IsNumberAt text (p2 + 1) p3 (pos c) → p3 < length text → get_or text p3 0 ≡ 10 → in_bounds indices (pos a) ≡ true → in_bounds indices (pos b) ≡ true → in_bounds indices (pos c) ≡ true → a < points → b < points → c < points → IsFaceAhead list points text p3 (a ∷ b ∷ c ∷ [])
face_is_ahead list points text p0 p1 p2 p3 counts indices a b c r0 r1 three n0 s0 na sa nb sb nc more lf am bm cm ap' bp cp =
    let plain0 = plain_on text 0 p0 (pos 3) (none_plain text) n0 s0 in
    let plain1 = plain_on text (p0 + 1) p1 (pos a) plain0 na sa in
    let plain2 = plain_on text (p1 + 1) p2 (pos b) plain1 nb sb in
    let made : points_numbered points (pos a ∷ pos b ∷ pos c ∷ []) ≡ Some (a ∷ b ∷ c ∷ []) = rw (lt-ltb a points ap', lt-ltb b points bp, lt-ltb c points cp) refl in
    let o0 = na.after in
    let o1 = nb.after in
    let o2 = nc.after in
    record {
      line = first_line text (p2 + 1) p3 (pos c) plain2 nc more lf;
      face_is =
          face_whole list points (take p3 text) (p0 + 1) (p1 + 1) (p2 + 1) p3 counts indices (pos 3) (pos a) (pos b) (pos c) (a ∷ b ∷ c ∷ []) r0 r1 refl
          (spaced_number text 0 p0 p3 (pos 3) n0 s0 (omega arith) (omega arith)) three
          (spaced_number text (p0 + 1) p1 p3 (pos a) na sa (omega arith) (omega arith)) am
          (spaced_number text (p1 + 1) p2 p3 (pos b) nb sb (omega arith) (omega arith)) bm
          (last_number text (p2 + 1) p3 (pos c) nc) cm
          (no_more text p3) made;
    }
