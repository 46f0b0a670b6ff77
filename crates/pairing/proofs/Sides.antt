-- What a side chooses is what the definition gives it.
use Rattle.std.proofs.Common.{◌≡◌, ℕ, ◌*◌, ◌<◌, Bool, true, false, List, length, get_or, set, Option, Some, None, inl, inr, sym, refl, ap, ◌∙◌, subst, arith, length-set, get_or-set_same, get_or-set_other}
use Rattle.std.specs.Option.{is_some}
use Rattle.std.proofs.lemmas.List.{get_or_read}
use Rattle.std.proofs.lemmas.Bool.{cases_Bool, cases_eq}
use Rattle.corner_table.specs.Sides.{Side, side_at, number, Gluing, glue}
use Rattle.corner_table.proofs.Places.{glue_tells, at_first, at_second, elsewhere}
use Rattle.corner_table.proofs.Numbers.{number-side_at}
use Rattle.pairing.specs.Pairing.{is_choice, turn_of}
use Rattle.pairing.specs.Positions.{position_in, same_in}
use Rattle.pairing.specs.Classes.{reversed}
use Rattle.pairing.specs.Choosing.{ArePlaced, IsFreeOther, IsChosen}
use Rattle.pairing.specs.Turns.{AreSides, IsUpTo}
use Rattle.pairing.proofs.Least.{least_is, least_is_none}
use Rattle.pairing.proofs.Turns.{MayTake, choice-tells, tells-choice, turn-none, turn-some}

-- what is chosen, by the numbers that the code reads
pub chosen_here : (classes thirds : List ℕ) (taken : List Bool) (y class third read_class : ℕ) (o : Option ℕ) → y < length classes → y < length thirds → read_class ≡ get_or classes y read_class → class ≡ reversed read_class → third ≡ get_or thirds y third →
    IsChosen classes thirds taken class third y o → IsChosen classes thirds taken (reversed (get_or classes y 0)) (get_or thirds y 0) y o
chosen_here classes thirds taken y class third read_class o h k r e t C =
    let c : class ≡ reversed (get_or classes y 0) = e ∙ ap reversed (get_or_read classes y read_class h r 0) in
    let d : third ≡ get_or thirds y 0 = get_or_read thirds y third k t 0 in
    subst (λ (n : ℕ). IsChosen classes thirds taken n (get_or thirds y 0) y o) c (subst (λ (n : ℕ). IsChosen classes thirds taken class n y o) d C)

-- side y's turn
pub record IsTurn (faces : ℕ) (thirds classes nexts : List ℕ) (count : ℕ) (g : Gluing) (taken : List Bool) (firsts others : List ℕ) (y : ℕ) : Type 0 where
  pub sides : AreSides faces thirds classes nexts count
  pub within : y < 3 * faces
  pub up_to : IsUpTo thirds classes count g taken firsts others

false_is : (b : Bool) → (b ≡ true → ⊥) → b ≡ false
false_is b h = elim (cases_Bool b) [ inl t ↦ absurd (h t) | inr f ↦ f ]

some_none : (o : Option Side) → is_some o ≡ false → o ≡ None
some_none None e = refl
some_none (Some x) e = absurd (cc)

module _ {faces : ℕ} {thirds classes nexts : List ℕ} {count : ℕ} {g : Gluing} {taken : List Bool} {firsts others : List ℕ} {y : ℕ} (T : IsTurn faces thirds classes nexts count g taken firsts others y) where
  third_is : (x : ℕ) → position_in thirds (side_at x) ≡ get_or thirds x 0
  third_is x = ap (λ (n : ℕ). get_or thirds n 0) (number-side_at x)

  -- a choice of the definition is a free side of the reversed class with another third position
  pub choice-other : (x : ℕ) → x < y → is_choice (same_in thirds) g (side_at y) x ≡ true → IsFreeOther classes thirds taken (reversed (get_or classes y 0)) (get_or thirds y 0) x
  choice-other x h e =
      let c = choice-tells thirds g (side_at y) x e in
      let R = c.1 in
      let l = T.sides.triangles.each in
      let k = T.sides.classes_are.each in
      let w = T.within in
      record {
        same = T.sides.classes_are.alike x y (omega arith) (omega arith) R.starts R.ends;
        free = T.up_to.taken_are x (omega arith) ∙ ap is_some c.0;
        other = λ q. R.thirds (third_is x ∙ q ∙ sym (third_is y));
      }

  other-may_take : (x : ℕ) → x < y → IsFreeOther classes thirds taken (reversed (get_or classes y 0)) (get_or thirds y 0) x → MayTake faces thirds y x g
  other-may_take x h O =
      let l = T.sides.triangles.each in
      let k = T.sides.classes_are.each in
      let w = T.within in
      let a = T.sides.classes_are.apart x y (omega arith) (omega arith) O.same in
      record {
        earlier = h;
        within = w;
        free = some_none (g (side_at x)) (sym (T.up_to.taken_are x (omega arith)) ∙ O.free);
        reversed = record { starts = a.0; ends = a.1; thirds = λ q. O.other (sym (third_is x) ∙ q ∙ third_is y) };
      }

  other-choice : (x : ℕ) → x < y → IsFreeOther classes thirds taken (reversed (get_or classes y 0)) (get_or thirds y 0) x → is_choice (same_in thirds) g (side_at y) x ≡ true
  other-choice x h O = let M = other-may_take x h O in tells-choice thirds g (side_at y) x M.free M.reversed

  -- so the turn is the definition's
  pub no_turn : IsChosen classes thirds taken (reversed (get_or classes y 0)) (get_or thirds y 0) y None → turn_of (same_in thirds) y g ≡ g
  no_turn C = turn-none (same_in thirds) y g (least_is_none (is_choice (same_in thirds) g (side_at y)) y (λ j h. false_is _ (λ e. C j h (choice-other j h e))))

  pub the_turn : (x : ℕ) → IsChosen classes thirds taken (reversed (get_or classes y 0)) (get_or thirds y 0) y (Some x) → turn_of (same_in thirds) y g ≡ glue (side_at x) (side_at y) g
  the_turn x C = turn-some (same_in thirds) y x g (least_is (is_choice (same_in thirds) g (side_at y)) y x (record {
    below = C.0;
    passes_it = other-choice x C.0 C.1;
    first = λ j h. false_is _ (λ e. C.2 j h (choice-other j (let b = C.0 in omega arith) e));
  }))

  -- the lists after it
  taken_now : (x : ℕ) → x < y → (z : ℕ) → z < length classes → get_or (set (set taken x true) y true) z false ≡ is_some (glue (side_at x) (side_at y) g (side_at z))
  taken_now x h z k = elim (glue_tells (side_at x) (side_at y) (side_at z) g) [
    | at_first p q ↦ elim (cases_eq z y) [
      | inl e ↦ ap (λ (i : ℕ). get_or (set (set taken x true) y true) i false) e ∙ get_or-set_same (set taken x true) y true false in_second ∙ sym (ap is_some q)
      | inr m ↦
          get_or-set_other (set taken x true) y z true false m
          ∙ ap (λ (i : ℕ). get_or (set taken x true) i false) (same_number z x p) ∙ get_or-set_same taken x true false in_first ∙ sym (ap is_some q)
    ]
    | at_second n p q ↦
        ap (λ (i : ℕ). get_or (set (set taken x true) y true) i false) (same_number z y p) ∙ get_or-set_same (set taken x true) y true false in_second ∙ sym (ap is_some q)
    | elsewhere n m q ↦
        get_or-set_other (set taken x true) y z true false (λ e. m (ap side_at e))
        ∙ get_or-set_other taken x z true false (λ e. n (ap side_at e))
        ∙ T.up_to.taken_are z k ∙ sym (ap is_some q)
  ]
    where
      same_number : (a b : ℕ) → side_at a ≡ side_at b → a ≡ b
      same_number a b e = sym (number-side_at a) ∙ ap number e ∙ number-side_at b

      in_first : x < length taken
      in_first = let a = T.up_to.long in let b = T.sides.classes_are.each in let c = T.sides.triangles.each in let w = T.within in omega arith

      in_second : y < length (set taken x true)
      in_second = let l = length-set taken x true in let a = T.up_to.long in let b = T.sides.classes_are.each in let c = T.sides.triangles.each in let w = T.within in omega arith

  still_taken : (x z : ℕ) → get_or taken z false ≡ true → x < y → get_or (set (set taken x true) y true) z false ≡ true
  still_taken x z e h = elim (cases_eq z y) [
    | inl q ↦ ap (λ (i : ℕ). get_or (set (set taken x true) y true) i false) q ∙ get_or-set_same (set taken x true) y true false
        (let l = length-set taken x true in let a = T.up_to.long in let b = T.sides.classes_are.each in let c = T.sides.triangles.each in let w = T.within in omega arith)
    | inr m ↦ get_or-set_other (set taken x true) y z true false m ∙ elim (cases_eq z x) [
      | inl q ↦ ap (λ (i : ℕ). get_or (set taken x true) i false) q ∙ get_or-set_same taken x true false
          (let a = T.up_to.long in let b = T.sides.classes_are.each in let c = T.sides.triangles.each in let w = T.within in omega arith)
      | inr n ↦ get_or-set_other taken x z true false n ∙ e
    ]
  ]

  pub up_to_now : (x : ℕ) → x < y → {now_firsts now_others : List ℕ} → ArePlaced classes thirds taken now_firsts now_others count → IsUpTo thirds classes count (glue (side_at x) (side_at y) g) (set (set taken x true) y true) now_firsts now_others
  up_to_now x h {now_firsts} {now_others} P = record {
    long = length-set (set taken x true) y true ∙ length-set taken x true ∙ T.up_to.long;
    taken_are = taken_now x h;
    placed = record {
      each_first = P.each_first;
      each_other = P.each_other;
      first_same = P.first_same;
      other_same = P.other_same;
      passed = λ z k l. still_taken x z (P.passed z k l) h;
      alike = λ z k l f. P.alike z k l (false_is (get_or taken z false) (λ e. (let no : true ≡ false = sym (still_taken x z e h) ∙ f in cc)));
    };
  }
