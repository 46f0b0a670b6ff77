-- Where no number up to a bound is at a place of a line.
use Rattle.std.proofs.Common.{◌≡◌, ℕ, zero, suc, ◌+◌, ◌-◌, ◌*◌, ◌<◌, ◌≤◌, Bool, true, false, cond, ltb, List, [], ◌∷◌, length, take, drop, get_or, Option, Some, None, refl, sym, ap, subst, ◌∙◌, inl, inr, arith}
use Rattle.std.specs.Prelude.{ℤ, pos, neg_ℤ, option_map, IfSome}
use Rattle.std.specs.List.{list_all}
use Rattle.std.proofs.lemmas.Bool.{cases_lt, cases_Bool, le-leb, lt-leb, ne_eqb, and_parts}
use Rattle.std.proofs.lemmas.List.{drop_more, get_or-drop, get_or-take, length-take, length-drop}
use Rattle.std.proofs.lemmas.List.Sums.{AllPass-from_list_all}
use Rattle.ply_text.specs.Tokens.{is_blank, tokens_of}
use Rattle.ply_text.specs.Numbers.{is_digit, is_digits, digits_value, natural_of, integer_of, first_integer, is_between}
use Rattle.ply_text.specs.InPlace.{AreDigits, IsPiece, HasNoNumber}
use Rattle.ply_text.proofs.Digits.{value_after, le_value_after}
use Rattle.ply_text.proofs.InPlace.{digits_solid}
use Rattle.ply_text.proofs.Signs.{plus_between, minus_between}
use Rattle.ply_text.proofs.Splitting.{IsSolid, more_solid, one_solid, takes_token, no_token}

chosen : (b : Bool) (m n : ℕ) → cond b (Some m) None ≡ Some n → (b ≡ true) × (m ≡ n)
chosen true m n e = (refl, cc)
chosen false m n e = absurd cc

-- a token that writes a number is of digits, one or more
written : (t : List ℕ) (n : ℕ) → natural_of t ≡ Some n → (ltb 0 (length t) ≡ true) × (list_all is_digit t ≡ true) × (digits_value t ≡ n)
unfolding natural_of is_digits
written t n e =
    let p = chosen (is_digits t) (digits_value t) n e in
    let q = and_parts (ltb 0 (length t)) (list_all is_digit t) p.0 in
    (q.0, q.1, p.1)

empty_written : (t : List ℕ) (n : ℕ) → length t ≡ 0 → natural_of t ≡ Some n → ⊥
empty_written [] n e w = let no = (written [] n w).0 in cc
empty_written (c ∷ cs) n e w = omega arith

-- the value of more digits is no less
more_value : (n k m : ℕ) (cs : List ℕ) → k ≤ m → value_after n (take k cs) ≤ value_after n (take m cs)
more_value n zero m cs le = le_value_after n (take m cs)
more_value n (suc k) zero cs le = absurd (omega arith)
more_value n (suc k) (suc m) [] le = omega arith
more_value n (suc k) (suc m) (c ∷ cs) le = more_value (n * 10 + (c - 48)) k m cs (omega arith)

-- the byte at k, in what is from i to j
at_piece : (line : List ℕ) (i j k : ℕ) → i ≤ k → k < j → j ≤ length line → get_or (take (j - i) (drop i line)) (k - i) 0 ≡ get_or line k 0
at_piece line i j k from below within =
    let short : k - i < j - i = omega arith in
    let at : i + (k - i) ≡ k = omega arith in
    get_or-take (j - i) (drop i line) (k - i) 0 short ∙ get_or-drop i line (k - i) 0 ∙ ap (λ m. get_or line m 0) at

-- with a byte in it that is no digit, what is from i to j writes no number
other_in : (line : List ℕ) (i j k n : ℕ) → i ≤ k → k < j → j ≤ length line → is_digit (get_or line k 0) ≡ false → natural_of (take (j - i) (drop i line)) ≡ Some n → ⊥
other_in line i j k n from below within other w =
    let t = take (j - i) (drop i line) in
    let inside : k - i < length t = omega (arith, length-take (j - i) (drop i line), length-drop i line) in
    let yes = AllPass-from_list_all is_digit t (written t n w).1 (k - i) 0 inside in
    let same = ap is_digit (at_piece line i j k from below within) in
    cc

-- a piece goes at least as far as the digits that it begins with
digits_inside : (line : List ℕ) (i j k m : ℕ) → i ≤ k → k ≤ length line → AreDigits line i k m → IsPiece line i j → j < k → ⊥
digits_inside line i j k m le within h p lt =
    let solid = (digits_solid line i k m le within h).solid j p.after lt in
    let blank = p.stops (omega arith) in
    cc

-- nothing writes no number
nothing_there : (line : List ℕ) (i n : ℕ) → natural_of (take (i - i) (drop i line)) ≡ Some n → ⊥
nothing_there line i n w = empty_written (take (i - i) (drop i line)) n (omega (arith, length-take (i - i) (drop i line))) w

pub low_other : (c : ℕ) → c < 48 → is_digit c ≡ false
low_other c h = rw (lt-leb 48 c h) refl

pub high_other : (c : ℕ) → 57 < c → is_digit c ≡ false
high_other c h = rw (le-leb 48 c (omega arith), lt-leb c 57 h) refl

-- a byte that is no digit, where a number would begin
pub other_first : (line : List ℕ) (i most : ℕ) → i < length line → is_digit (get_or line i 0) ≡ false → HasNoNumber line i most
other_first line i most lt other = record {
  past = λ j n p w. elim (cases_lt i j) [
    | inl more ↦ absurd (other_in line i j i n (omega arith) more p.within other w)
    | inr none ↦ let e : j ≡ i = omega (arith, p.after) in absurd (nothing_there line i n (ap (λ k. natural_of (take (k - i) (drop i line))) (sym e) ∙ w))
  ];
}

-- a byte after digits that is neither a digit nor a blank
pub other_next : (line : List ℕ) (i j m most : ℕ) → i ≤ j → j < length line → AreDigits line i j m → is_digit (get_or line j 0) ≡ false → is_blank (get_or line j 0) ≡ false → HasNoNumber line i most
other_next line i j m most le lt h other solid = record {
  past = λ k n p w. elim (cases_lt j k) [
    | inl more ↦ absurd (other_in line i k j n le more p.within other w)
    | inr none ↦ elim (cases_lt k j) [
      | inl less ↦ absurd (digits_inside line i k j m le (omega arith) h p less)
      | inr all ↦ let e : k ≡ j = omega arith in let blank = ap (λ k. is_blank (get_or line k 0)) (sym e) ∙ p.stops (omega arith) in absurd cc
    ]
  ];
}

-- digits whose number is past most already
pub past_most : (line : List ℕ) (i j m most : ℕ) → i ≤ j → j ≤ length line → AreDigits line i j m → most < m → HasNoNumber line i most
unfolding digits_value
past_most line i j m most le within h past = record {
  past = λ k n p w. elim (cases_lt k j) [
    | inl less ↦ absurd (digits_inside line i k j m le within h p less)
    | inr all ↦ omega (arith, more_value 0 (j - i) (k - i) (drop i line) (omega arith), h.value, (written (take (k - i) (drop i line)) n w).2)
  ];
}

-- the end of the line
pub nothing_at_end : (line : List ℕ) (i most : ℕ) → length line ≤ i → HasNoNumber line i most
nothing_at_end line i most le = record {
  past = λ j n p w. let e : j ≡ i = omega (arith, p.after, p.within) in absurd (nothing_there line i n (ap (λ k. natural_of (take (k - i) (drop i line))) (sym e) ∙ w));
}

-- the piece from i ends at j or after it
record Ended (line : List ℕ) (i j : ℕ) : Type 0 where
  pub end : ℕ
  pub after : j ≤ end
  pub piece : IsPiece line i end

ends_by : (fuel : ℕ) (line : List ℕ) (i j : ℕ) → i ≤ j → j ≤ length line → length line ≤ j + fuel → IsSolid line i j → Ended line i j
ends_by zero line i j le within short s = record {
  end = j;
  after = omega arith;
  piece = record { after = le; within = within; solid = s.solid; stops = λ more. absurd (omega arith) };
}
ends_by (suc fuel) line i j le within short s = elim (cases_lt j (length line)) [
  | inr none ↦ record {
    end = j;
    after = omega arith;
    piece = record { after = le; within = within; solid = s.solid; stops = λ more. absurd (omega arith) };
  }
  | inl more ↦ elim (cases_Bool (is_blank (get_or line j 0))) [
    | inl blank ↦ record {
      end = j;
      after = omega arith;
      piece = record { after = le; within = within; solid = s.solid; stops = λ more. blank };
    }
    | inr solid ↦
        let found = ends_by fuel line i (j + 1) (omega arith) (omega arith) (omega arith) (more_solid line i j s solid) in
        record { end = found.end; after = omega (arith, found.after); piece = found.piece }
  ]
]

-- what is no blank begins a token that ends at a blank or the end of the line
ends : (line : List ℕ) (i : ℕ) → i < length line → is_blank (get_or line i 0) ≡ false → Ended line i (i + 1)
ends line i lt solid = ends_by (length line) line i (i + 1) (omega arith) (omega arith) (omega arith) (one_solid line i solid)

-- there is no number, or one that isn't from -below up to most
abbrev pub Outside : ℕ → ℕ → Option (ℤ × List (List ℕ)) → Type 0
Outside below most o = IfSome o (λ r. is_between below most r.0 ≡ false)

outside_plus : (below most : ℕ) (o : Option ℕ) (rest : List (List ℕ)) → ((n : ℕ) → o ≡ Some n → most < n) → Outside below most (option_map (λ v. (v, rest)) (option_map pos o))
outside_plus below most None rest h = tt
outside_plus below most (Some n) rest h = plus_between below most n ∙ lt-leb n most (h n refl)

outside_minus : (below most : ℕ) (o : Option ℕ) (rest : List (List ℕ)) → ((n : ℕ) → o ≡ Some n → below < n) → Outside below most (option_map (λ v. (v, rest)) (option_map (λ n. neg_ℤ (pos n)) o))
outside_minus below most None rest h = tt
outside_minus below most (Some n) rest h = minus_between below most n ∙ lt-leb n below (h n refl)

pub same_tokens : (below most : ℕ) (a b : List (List ℕ)) → a ≡ b → Outside below most (first_integer b) → Outside below most (first_integer a)
same_tokens below most a b e h = subst (λ ts. Outside below most (first_integer ts)) (sym e) h

-- no token is left
pub outside_none : (below most : ℕ) (line : List ℕ) (i : ℕ) → length line ≤ i → Outside below most (first_integer (tokens_of (drop i line)))
outside_none below most line i le = same_tokens below most (tokens_of (drop i line)) [] (no_token line i le) tt

-- the first byte of what is from i to j, and the rest
front : (line : List ℕ) (i j : ℕ) → i < j → j ≤ length line → take (j - i) (drop i line) ≡ get_or line i 0 ∷ take (j - (i + 1)) (drop (i + 1) line)
front line i j lt within =
    let n-is : j - i ≡ suc (j - (i + 1)) = omega arith in
    ap (λ k. take k (drop i line)) n-is ∙ ap (take (suc (j - (i + 1)))) (drop_more line i 0 (omega arith))

minus_first : (cs : List ℕ) → integer_of (45 ∷ cs) ≡ option_map (λ n. neg_ℤ (pos n)) (natural_of cs)
unfolding integer_of
minus_first cs = refl

plus_first : (c : ℕ) (cs : List ℕ) → (c ≡ 45 → ⊥) → integer_of (c ∷ cs) ≡ option_map pos (natural_of (c ∷ cs))
unfolding integer_of
plus_first c cs ne = rw (ne_eqb c 45 ne) refl

-- the first token begins with no -, and is no number up to most
pub outside_above : (below most : ℕ) (line : List ℕ) (i : ℕ) → i < length line → is_blank (get_or line i 0) ≡ false → (get_or line i 0 ≡ 45 → ⊥) → HasNoNumber line i most → Outside below most (first_integer (tokens_of (drop i line)))
outside_above below most line i lt solid ne h =
    let found = ends line i lt solid in
    let j = found.end in
    let p = found.piece in
    let t = take (j - i) (drop i line) in
    let rest = tokens_of (drop j line) in
    let after : i < j = omega (arith, found.after) in
    let s : IsSolid line i j = record { solid = p.solid } in
    let first : tokens_of (drop i line) ≡ t ∷ rest = takes_token line i j after p.within s p.stops in
    let cut = front line i j after p.within in
    let number : integer_of t ≡ option_map pos (natural_of t) = ap integer_of cut ∙ plus_first (get_or line i 0) (take (j - (i + 1)) (drop (i + 1) line)) ne ∙ ap (λ u. option_map pos (natural_of u)) (sym cut) in
    subst (Outside below most) (sym (ap first_integer first ∙ ap (option_map (λ v. (v, rest))) number)) (outside_plus below most (natural_of t) rest (λ n w. h.past j n p w))

-- the first token begins with a -, and what follows is no number up to below
pub outside_under : (below most : ℕ) (line : List ℕ) (i : ℕ) → i < length line → is_blank (get_or line i 0) ≡ false → get_or line i 0 ≡ 45 → HasNoNumber line (i + 1) below → Outside below most (first_integer (tokens_of (drop i line)))
outside_under below most line i lt solid minus h =
    let found = ends line i lt solid in
    let j = found.end in
    let p = found.piece in
    let t = take (j - i) (drop i line) in
    let cs = take (j - (i + 1)) (drop (i + 1) line) in
    let rest = tokens_of (drop j line) in
    let after : i < j = omega (arith, found.after) in
    let s : IsSolid line i j = record { solid = p.solid } in
    let q : IsPiece line (i + 1) j = record { after = omega arith; within = p.within; solid = λ k from below. p.solid k (omega arith) below; stops = p.stops } in
    let first : tokens_of (drop i line) ≡ t ∷ rest = takes_token line i j after p.within s p.stops in
    let number : integer_of t ≡ option_map (λ n. neg_ℤ (pos n)) (natural_of cs) = ap integer_of (front line i j after p.within ∙ ap (λ c. c ∷ cs) minus) ∙ minus_first cs in
    subst (Outside below most) (sym (ap first_integer first ∙ ap (option_map (λ v. (v, rest))) number)) (outside_minus below most (natural_of cs) rest (λ n w. h.past j n q w))
