-- The start bits of the walk are those that the decoded table determines, and the whole: reverse decoding of what the walk notes keeps the
-- surface.
use Rattle.std.proofs.Common.{◌≡◌, ℕ, zero, suc, ◌+◌, ◌-◌, ◌<◌, ◌≤◌, Bool, true, false, cond, is_some, List, [], ◌∷◌, ◌++◌, map, reverse, length, Option, Some, None, inl, inr, sym, refl, ap, ◌∙◌, subst, arith, append_assoc, append-nil}
use Rattle.std.proofs.lemmas.List.{reverse-append, length-map}
use Rattle.corner_table.specs.Sides.{Side, first, side, Gluing, IsGluing}
use Rattle.corner_table.specs.Fans.{HasThreeFans}
use Rattle.corner_table.specs.Carried.{carry, IsCarried}
use Rattle.corner_table.specs.Prefixes.{prefix}
use Rattle.corner_table.proofs.Places.{option_tells}
use Rattle.corner_table.proofs.Prefixing.{tells-prefix, prefix-free, prefix_none}
use Rattle.eb_trace.specs.Readable.{IsReadable}
use Rattle.eb_trace.specs.Front.{free_firsts, events_left, start_bits}
use Rattle.eb_trace.specs.Rebuilt.{word_symbol}
use Rattle.eb_trace.specs.Trace.{TracedEntry, trace, order_of, word_of}
use Rattle.eb_trace.specs.Kept.{WalkOrders, WalkIsReadable}
use Rattle.eb_trace.proofs.Waiting.{firsts_none, firsts_free, firsts_glued}
use Rattle.eb_trace.proofs.Visited.{is_inside}
use Rattle.eb_trace.proofs.Walking.{bits_to, bits_across, bits_none, bits_more}
use Rattle.eb_trace.proofs.Walked.{entries_of, insides_of, trace_ok}
use Rattle.eb_trace.proofs.Order.{Numbered, of_symbol, of_inside, inside_is, first_is, renumbers}
use Rattle.eb_trace.proofs.Decoded.{cor, outside_of, down, up, number_of, readable}
use Rattle.eb_trace.proofs.Noted.{events_told}

one_back : (b : Bool) → reverse (cond b (true ∷ []) []) ≡ cond b (true ∷ []) []
one_back true = refl
one_back false = refl

module _ (faces : ℕ) (g : Gluing) (G : IsGluing faces g) (F : HasThreeFans faces g) (h : Gluing) (K : IsCarried faces g (order_of (trace faces g)) h) where
  abbrev n : ℕ
  n = length (entries_of faces g)

  abbrev bit : Option Side → List Bool
  bit o = bits_across faces g G F (entries_of faces g) (insides_of faces g) o

  abbrev told : ℕ → List Bool
  told k = bits_to faces g G F (entries_of faces g) (insides_of faces g) k

  bit_back : (o : Option Side) → reverse (bit o) ≡ bit o
  bit_back None = refl
  bit_back (Some y) = one_back (is_inside (insides_of faces g) y.face)

  -- the bits of the first d decoded faces, the last first
  bits_up : ℕ → List Bool
  bits_up zero = []
  bits_up (suc d) = bit (g (cor faces g G F h K (n - suc d))) ++ bits_up d

  up_none : bits_up zero ≡ []
  unfolding bits_up
  up_none = refl

  up_more : (d : ℕ) → bits_up (suc d) ≡ bit (g (cor faces g G F h K (n - suc d))) ++ bits_up d
  unfolding bits_up
  up_more d = refl

  turned_round : (k d : ℕ) → k + d ≡ n → reverse (told k) ++ bits_up d ≡ bits_up n
  turned_round zero d e =
      ap (λ (l : List Bool). reverse l ++ bits_up d) (bits_none faces g G F (entries_of faces g) (insides_of faces g))
      ∙ ap bits_up (let q : d ≡ n = omega (arith, e) in q)
  turned_round (suc k) d e =
      let b = bit (g (cor faces g G F h K k)) in
      ap (λ (l : List Bool). reverse l ++ bits_up d) (bits_more faces g G F (entries_of faces g) (insides_of faces g) k)
      ∙ ap (λ (l : List Bool). l ++ bits_up d) (reverse-append b (told k))
      ∙ append_assoc (reverse (told k)) (reverse b) (bits_up d)
      ∙ ap (λ (l : List Bool). reverse (told k) ++ (l ++ bits_up d)) (bit_back (g (cor faces g G F h K k)))
      ∙ ap (λ (l : List Bool). reverse (told k) ++ l) (ap (λ (j : ℕ). bit (g (cor faces g G F h K j)) ++ bits_up d) (let q : k ≡ n - suc d = omega (arith, e) in q) ∙ sym (up_more d))
      ∙ turned_round k (suc d) (omega (arith, e))

  abbrev shown : List Side → List Bool
  shown l = map (λ (a : Side). is_some (h a)) l

  waits : (j : ℕ) → j ≤ n → shown (free_firsts (prefix n h) j) ≡ bits_up j
  waits zero l = ap shown (firsts_none (prefix n h)) ∙ sym up_none
  waits (suc j) l =
      let k = n - suc j in
      let e : suc (j + k) ≡ n = omega arith in
      let rest = waits j (omega arith) in
      let f = (readable faces g G F h K).fewer in
      let corner_is = first_is faces g G F j k e in
      elim (option_tells (h (side j first))) [
        | inl o ↦ (
            let open_side : g (cor faces g G F h K k) ≡ None = elim (option_tells (g (cor faces g G F h K k))) [
              | inl q ↦ q
              | inr z ↦ absurd (let u = up faces g G F h K (side j first) z.0 (omega arith) (ap g corner_is ∙ z.1) in let no : None ≡ Some u.0 = sym o ∙ u.3 in cc)
            ] in
            ap shown (firsts_free (prefix n h) j (prefix_none n h (side j first) o))
            ∙ ap (λ (s : Option Side). is_some s ∷ shown (free_firsts (prefix n h) j)) o
            ∙ ap (λ (t : List Bool). false ∷ t) rest
            ∙ sym (up_more j ∙ ap (λ (s : Option Side). bit s ++ bits_up j) open_side))
        | inr y ↦ (
            let across : g (cor faces g G F h K k) ≡ Some (carry (order_of (trace faces g)) y.0) = ap g (sym corner_is) ∙ down faces g G F h K (side j first) y.0 y.1 in
            let w = K.within (side j first) y.0 y.1 in
            by_number j y.0 (omega arith) y.1 rest (up_more j ∙ ap (λ (s : Option Side). bit s ++ bits_up j) across) (number_of faces g G F h K y.0.face w.1))
      ]
    where
      by_number : (j : ℕ) (y : Side) → j < n → h (side j first) ≡ Some y → shown (free_firsts (prefix n h) j) ≡ bits_up j → bits_up (suc j) ≡ bit (Some (carry (order_of (trace faces g)) y)) ++ bits_up j → Numbered faces g G F y.face → shown (free_firsts (prefix n h) (suc j)) ≡ bits_up (suc j)
      by_number j y l e rest more (of_symbol k a b) =
          let inside : is_inside (insides_of faces g) (carry (order_of (trace faces g)) y).face ≡ false = ap (is_inside (insides_of faces g)) b ∙ outside_of faces g G F h K k (omega arith) in
          ap shown (firsts_glued (prefix n h) j y (tells-prefix n h (side j first) y l (omega arith) e))
          ∙ rest
          ∙ sym (more ∙ ap (λ (t : Bool). cond t (true ∷ []) [] ++ bits_up j) inside)
      by_number j y l e rest more (of_inside q r s c d) =
          let inside : is_inside (insides_of faces g) (carry (order_of (trace faces g)) y).face ≡ true = ap (is_inside (insides_of faces g)) d ∙ inside_is (insides_of faces g) r (omega arith) in
          ap shown (firsts_free (prefix n h) j (prefix-free n h (side j first) y e (omega arith)))
          ∙ ap (λ (o : Option Side). is_some o ∷ shown (free_firsts (prefix n h) j)) e
          ∙ ap (λ (t : List Bool). true ∷ t) rest
          ∙ sym (more ∙ ap (λ (t : Bool). cond t (true ∷ []) [] ++ bits_up j) inside)

  pub bits_told : reverse (trace faces g).bits ≡ start_bits n h
  bits_told =
      ap reverse ((trace_ok faces g G F).0.bits (λ k l. (trace_ok faces g G F).0.logged.outside k l))
      ∙ sym (append-nil (reverse (told n)))
      ∙ ap (λ (l : List Bool). reverse (told n) ++ l) (sym up_none)
      ∙ turned_round n zero (let q : n + zero ≡ n = omega arith in q)
      ∙ sym (waits n (omega arith))

  word_length : length (word_of (trace faces g)) ≡ n
  word_length = length-map (entries_of faces g) (λ (e : TracedEntry). e.symbol)

  pub word_readable : IsReadable faces h (length (word_of (trace faces g))) (word_symbol (word_of (trace faces g)))
  word_readable = subst (λ (k : ℕ). IsReadable faces h k (word_symbol (word_of (trace faces g)))) (sym word_length) (readable faces g G F h K)

  pub word_events : (trace faces g).events ≡ events_left (length (word_of (trace faces g))) h (word_symbol (word_of (trace faces g))) (length (word_of (trace faces g)))
  word_events = events_told faces g G F h K ∙ ap (λ (k : ℕ). events_left k h (word_symbol (word_of (trace faces g))) k) (sym word_length)

  pub word_bits : reverse (trace faces g).bits ≡ start_bits (length (word_of (trace faces g))) h
  word_bits = bits_told ∙ ap (λ (k : ℕ). start_bits k h) (sym word_length)

-- the laws
pub walk_orders : WalkOrders
walk_orders faces g G F = renumbers faces g G F

pub walk_is_readable : WalkIsReadable
walk_is_readable faces g h G F K = record { readable = word_readable faces g G F h K; events = word_events faces g G F h K; bits = word_bits faces g G F h K }
