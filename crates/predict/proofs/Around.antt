-- Gathering the faces round a vertex, corner after corner.
use Rattle.std.proofs.Common.{◌≡◌, ◌≢◌, ℕ, zero, suc, ◌+◌, ◌≤◌, true, false, ◌&&◌, nat_lt, List, [], ◌∷◌, ◌++◌, length, take, Option, Some, None, IfSome, option_map, inl, inr, refl, sym, subst, ◌∙◌, ap, arith, append-nil, append_assoc}
use Rattle.std.specs.Option.{option_to_list}
use Rattle.std.specs.List.{All, filter_map}
use Rattle.std.proofs.lemmas.Bool.{cond-true, cond-false, cases_Bool, and_parts, ltb-true}
use Rattle.std.proofs.lemmas.List.{take-append-le, take_all, length-take, length-append}
use Rattle.std.proofs.lemmas.List.Elements.{All-nil, All-cons, All-append, All-same, All-take, filter_map-append}
use Rattle.corner_table.specs.Sides.{Side, side_at, same, number, next, prev, Gluing}
use Rattle.corner_table.specs.Fans.{swing_left}
use Rattle.corner_table.proofs.Numbers.{number-side_at}
use Rattle.corner_table.proofs.Places.{same_refl, not_same}
use Rattle.corner_table.specs.declared.corner_lists.FaceAcross.{FaceAcross}
use Rattle.corner_table.specs.Ordered.{Ordered, IsBelow, is_below, only_below, face_entries, corner_at, at_corner}
use Rattle.predict.specs.declared.gathering.Turn.{Turn as StoredTurn}
use Rattle.predict.specs.Gathered.{Turn, turn_at, turn_on, rightwards, leftwards_from, round_from, round, gathered}
use Rattle.predict.specs.Stored.{stored_turn, way_on}

-- a turn to the right
pub turn_right : (g : Gluing) (start : Side) (t : StoredTurn) (o : Option Turn) → t.leftwards ≡ false → side_at t.across ≡ way_on (stored_turn t)
    → ((c : Side) → side_at t.across ≡ prev c → o ≡ rightwards g c) → o ≡ turn_on g start (stored_turn t)
turn_right g start t o right goes is =
    is (side_at t.at) (goes ∙ cond-false t.leftwards (next (side_at t.at)) (prev (side_at t.at)) right)
    ∙ sym (cond-false t.leftwards (leftwards_from g start (swing_left g (side_at t.at))) (rightwards g (side_at t.at)) right)

-- a turn to the left, by what lies across
pub turn_left : (g : Gluing) (start : Side) (t : StoredTurn) (across : Option Side) (o : Option Turn) → t.leftwards ≡ true → side_at t.across ≡ way_on (stored_turn t)
    → across ≡ g (side_at t.across) → o ≡ leftwards_from g start (option_map next across) → o ≡ turn_on g start (stored_turn t)
turn_left g start t across o left goes found is =
    is
    ∙ ap (λ (x : Option Side). leftwards_from g start (option_map next x)) (found ∙ ap g (goes ∙ cond-true t.leftwards (next (side_at t.at)) (prev (side_at t.at)) left))
    ∙ sym (cond-true t.leftwards (leftwards_from g start (swing_left g (side_at t.at))) (rightwards g (side_at t.at)) left)

-- the start
pub gathered_start : (w : Ordered) (e : ℕ) (c : Side) (n : ℕ) (found : List FaceAcross) → found ≡ [] → c ≡ corner_at w e → n ≡ length w.entries
    → take 4 (found ++ filter_map (at_corner w e) (round_from w.gluing c n (Some (turn_at c true)))) ≡ gathered w e
unfolding gathered
gathered_start w e c n found none at fuel = rw (none, at, fuel) refl

-- what one corner adds
filter_map_cons : (f : Side → Option FaceAcross) (c : Side) (cs : List Side) → filter_map f (c ∷ cs) ≡ option_to_list (f c) ++ filter_map f cs
filter_map_cons f c cs = filter_map-append f (c ∷ []) cs ∙ ap (λ (l : List FaceAcross). l ++ filter_map f cs) (alone f c)
  where
    alone : (f : Side → Option FaceAcross) (c : Side) → filter_map f (c ∷ []) ≡ option_to_list (f c)
    alone f c = elim (f c) as (λ (o : Option FaceAcross). filter_map (λ (x : Side). o) (c ∷ []) ≡ option_to_list o) [ None ↦ refl | Some x ↦ refl ]

found_at : (f : Side → Option FaceAcross) (g : Gluing) (start : Side) (n : ℕ) (t : Turn)
    → filter_map f (round_from g start (suc n) (Some t)) ≡ option_to_list (f t.at) ++ filter_map f (round_from g start n (turn_on g start t))
unfolding round_from
found_at f g start n t = filter_map_cons f t.at (round_from g start n (turn_on g start t))

-- one corner more on the way round
pub gathered_step : (f : Side → Option FaceAcross) (g : Gluing) (start : Side) (m n : ℕ) (o next : Option Turn) (t : Turn) (found now whole : List FaceAcross)
    → m ≡ suc n → o ≡ Some t → next ≡ turn_on g start t → now ≡ found ++ option_to_list (f t.at)
    → take 4 (found ++ filter_map f (round_from g start m o)) ≡ whole
    → take 4 (now ++ filter_map f (round_from g start n next)) ≡ whole
gathered_step f g start m n o next t found now whole fuel is goes push so =
    let before : take 4 (found ++ filter_map f (round_from g start (suc n) (Some t))) ≡ whole =
    ap (λ (x : Option Turn). take 4 (found ++ filter_map f (round_from g start (suc n) x))) (sym is)
    ∙ ap (λ (k : ℕ). take 4 (found ++ filter_map f (round_from g start k o))) (sym fuel) ∙ so in
    ap (λ (x : Option Turn). take 4 (now ++ filter_map f (round_from g start n x))) goes
    ∙ ap (λ (l : List FaceAcross). take 4 (l ++ filter_map f (round_from g start n (turn_on g start t)))) push
    ∙ ap (take 4) (append_assoc found (option_to_list (f t.at)) (filter_map f (round_from g start n (turn_on g start t))))
    ∙ ap (λ (l : List FaceAcross). take 4 (found ++ l)) (sym (found_at f g start n t))
    ∙ before

-- four are found
pub gathered_full : (found rest whole : List FaceAcross) → length found ≡ 4 → take 4 (found ++ rest) ≡ whole → found ≡ whole
gathered_full found rest whole n so = sym (take_all 4 found (omega arith)) ∙ sym (take-append-le 4 found rest (omega arith)) ∙ so

-- the way round ends
pub gathered_end : (f : Side → Option FaceAcross) (g : Gluing) (start : Side) (n : ℕ) (t : Option Turn) (found whole : List FaceAcross)
    → length found ≤ 4 → t ≡ None → take 4 (found ++ filter_map f (round_from g start n t)) ≡ whole → found ≡ whole
unfolding round_from
gathered_end f g start zero t found whole few e so = sym (take_all 4 found few) ∙ ap (take 4) (sym (append-nil found)) ∙ so
gathered_end f g start (suc n) None found whole few e so = sym (take_all 4 found few) ∙ ap (take 4) (sym (append-nil found)) ∙ so
gathered_end f g start (suc n) (Some t) found whole few e so = absurd (let h : Some t ≡ None = e in cc)

pub gathered_stop : (f : Side → Option FaceAcross) (g : Gluing) (start : Side) (n : ℕ) (t : Option Turn) (found whole : List FaceAcross)
    → length found ≤ 4 → n ≡ 0 → take 4 (found ++ filter_map f (round_from g start n t)) ≡ whole → found ≡ whole
unfolding round_from
gathered_stop f g start zero t found whole few e so = sym (take_all 4 found few) ∙ ap (take 4) (sym (append-nil found)) ∙ so
gathered_stop f g start (suc n) t found whole few e so = absurd (omega arith)

-- what is gathered
pub gathered_is : (w : Ordered) (e : ℕ) (found : List FaceAcross) → found ≡ take 4 (filter_map (at_corner w e) (round w (corner_at w e))) → found ≡ gathered w e
unfolding gathered
gathered_is w e found is = is

-- two corners are one exactly where their numbers are
pub same_numbers : (a b : ℕ) → a ≡ b → same (side_at a) (side_at b) ≡ true
same_numbers a b e = ap (λ (n : ℕ). same (side_at n) (side_at b)) e ∙ same_refl (side_at b)

pub other_numbers : (a b : ℕ) → a ≢ b → same (side_at a) (side_at b) ≡ false
other_numbers a b h = not_same (side_at a) (side_at b) (λ e. h (sym (number-side_at a) ∙ ap number e ∙ number-side_at b))

-- what is found at a corner comes before the entry
only_below-below : (e : ℕ) (t : FaceAcross) → IfSome (only_below e t) (IsBelow e)
only_below-below e t = elim (cases_Bool (is_below e t)) [
  | inl h ↦ subst (λ (o : Option FaceAcross). IfSome o (IsBelow e)) (sym (cond-true (is_below e t) (Some t) None h)) (below h)
  | inr h ↦ subst (λ (o : Option FaceAcross). IfSome o (IsBelow e)) (sym (cond-false (is_below e t) (Some t) None h)) tt
]
  where
    below : is_below e t ≡ true → IsBelow e t
    below h =
        let p = and_parts (nat_lt t.across e) (nat_lt t.after e && nat_lt t.before e) h in
        let q = and_parts (nat_lt t.after e) (nat_lt t.before e) p.1 in
        record { across = ltb-true _ _ p.0; after = ltb-true _ _ q.0; before = ltb-true _ _ q.1 }

pub at_corner-below : (w : Ordered) (e : ℕ) (c : Side) → IfSome (at_corner w e c) (IsBelow e)
unfolding at_corner
at_corner-below w e c = of (w.gluing c)
  where
    of : (o : Option Side) → IfSome (elim o [ None ↦ None | Some o ↦ only_below e (face_entries w o) ]) (IsBelow e)
    of None = tt
    of (Some o) = only_below-below e (face_entries w o)

all_found : (f : Side → Option FaceAcross) (e : ℕ) → ((c : Side) → IfSome (f c) (IsBelow e)) → (cs : List Side) → All (IsBelow e) (filter_map f cs)
all_found f e below [] = All-nil (IsBelow e)
all_found f e below (c ∷ cs) =
    subst (λ (l : List FaceAcross). All (IsBelow e) l) (sym (filter_map_cons f c cs))
    (All-append (IsBelow e) (option_to_list (f c)) (filter_map f cs) (of (f c) (below c)) (all_found f e below cs))
  where
    of : (o : Option FaceAcross) → IfSome o (IsBelow e) → All (IsBelow e) (option_to_list o)
    of None h = All-nil (IsBelow e)
    of (Some t) h = All-cons (IsBelow e) t [] h (All-nil (IsBelow e))

-- no more than one face is added
pub found_more : (o : Option FaceAcross) (found now : List FaceAcross) → now ≡ found ++ option_to_list o → length now ≤ length found + 1
found_more None found now push = omega (arith, ap (λ (l : List FaceAcross). length l) push, length-append found [])
found_more (Some t) found now push = omega (arith, ap (λ (l : List FaceAcross). length l) push, length-append found (t ∷ []))

pub gathered_below : (w : Ordered) (e : ℕ) → All (IsBelow e) (gathered w e)
unfolding gathered
gathered_below w e = All-take (IsBelow e) 4 (filter_map (at_corner w e) (round w (corner_at w e))) (all_found (at_corner w e) e (at_corner-below w e) (round w (corner_at w e)))

-- faces that are those gathered
pub all_gathered : (w : Ordered) (e : ℕ) (found : List FaceAcross) → found ≡ gathered w e → All (IsBelow e) found
all_gathered w e found is = All-same (IsBelow e) found (gathered w e) is (gathered_below w e)

pub gathered_few : (w : Ordered) (e : ℕ) → length (gathered w e) ≤ 4
unfolding gathered
gathered_few w e = omega (arith, length-take 4 (filter_map (at_corner w e) (round w (corner_at w e))))
