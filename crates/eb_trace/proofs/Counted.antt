-- The vertices made are the fans of the surface and the S of its word, so that no fewer need be declared.
use Rattle.std.proofs.Common.{◌≡◌, ℕ, zero, suc, ◌+◌, ◌<◌, ◌≤◌, Bool, false, cond, nat_lt, List, length, get_or, take, reverse, Option, Some, None, Ok, Err, ◌⊎◌, inl, inr, sym, refl, ap, ◌∙◌, subst, arith, add-one, lt-ltb, le-ltb}
use Rattle.std.proofs.lemmas.Bool.{cases_lt, cases_Bool, cond-true, cond-false}
use Rattle.std.proofs.lemmas.List.{take_all}
use Rattle.std.proofs.lemmas.List.Sums.{count_by_more_yes, count_by_more_no}
use Rattle.std.specs.List.{count_by}
use Rattle.drc_base.specs.declared.kinds.Kind.TheVariants as kind
use Rattle.corner_table.specs.declared.symbols.Symbol.{Symbol}
use Rattle.corner_table.specs.declared.symbols.Symbol.TheVariants.{E}
use Rattle.corner_table.specs.declared.symbols.Event.{Event}
use Rattle.corner_table.specs.Sides.{Side, Gluing, IsGluing}
use Rattle.corner_table.specs.Fans.{HasThreeFans}
use Rattle.corner_table.specs.Carried.{carry, IsRenumbering, IsCarried}
use Rattle.corner_table.proofs.Places.{option_tells, Some_injective}
use Rattle.corner_table.proofs.Carrying.{carry-within, carry_injective, carry_onto, three_fans_carried}
use Rattle.eb_machine.specs.Machine.{Plan, start, take_symbols, rebuild, fault}
use Rattle.eb_machine.proofs.Steps.{Next}
use Rattle.eb_trace.specs.Readable.{IsReadable}
use Rattle.eb_machine.specs.Shown.{is_split}
use Rattle.eb_trace.specs.Front.{made_by, events_left, start_bits}
use Rattle.eb_trace.specs.Rebuilt.{word_symbol, finished, CountsWord}
use Rattle.eb_trace.specs.Trace.{fan_count, trace, order_of, word_of}
use Rattle.eb_trace.specs.Kept.{WalkPassesFronts, WalkIsCounted, WalkNeedsAll}
use Rattle.eb_trace.proofs.Vertices.{fans_are, renumbered_alike}
use Rattle.eb_trace.proofs.Counting.{splits_before, splits_none, splits_more, made_in_all}
use Rattle.eb_trace.proofs.Order.{renumbers}
use Rattle.eb_trace.proofs.StartBits.{word_readable, word_events, word_bits}
use Rattle.eb_trace.proofs.Whole.{passes_fronts, rebuilds_word, refuses_fewer}

count_zero : (xs : List Symbol) → count_by is_split (take 0 xs) ≡ 0
count_zero xs = refl

module _ (faces : ℕ) (g : Gluing) (word : List Symbol) (T : IsReadable faces g (length word) (word_symbol word)) where
  -- the S among the first symbols of a list
  splits_taken : (m : ℕ) → m ≤ length word → splits_before faces g (length word) (word_symbol word) T m ≡ count_by is_split (take m word)
  splits_taken zero h = splits_none faces g (length word) (word_symbol word) T ∙ sym (count_zero word)
  splits_taken (suc m) h =
      let before = splits_taken m (omega arith) in
      let more = splits_more faces g (length word) (word_symbol word) T m in
      let one : count_by is_split (take (m + 1) word) ≡ count_by is_split (take (suc m) word) = ap (λ (k : ℕ). count_by is_split (take k word)) (add-one m) in
      elim (cases_Bool (is_split (word_symbol word m))) [
        | inl t ↦ (
            let b : ◌≡◌ {A = ℕ} (cond (is_split (word_symbol word m)) 1 0) 1 = cond-true (is_split (word_symbol word m)) 1 0 t in
            let c = count_by_more_yes is_split word m E (omega arith) t in
            omega arith)
        | inr t ↦ (
            let b : ◌≡◌ {A = ℕ} (cond (is_split (word_symbol word m)) 1 0) 0 = cond-false (is_split (word_symbol word m)) 1 0 t in
            let c = count_by_more_no is_split word m E (omega arith) t in
            omega arith)
      ]

  made_is : made_by (word_symbol word) (length word) ≡ fan_count faces g + count_by is_split word
  made_is =
      let t = made_in_all faces g (length word) (word_symbol word) T in
      let fans : fan_count faces g ≡ t.0 = fans_are faces g T.gluing t.0 t.1 in
      let splits : splits_before faces g (length word) (word_symbol word) T (length word) ≡ count_by is_split word =
      splits_taken (length word) (omega arith) ∙ ap (count_by is_split) (take_all (length word) word (omega arith)) in
      t.2 ∙ ap (λ (k : ℕ). k + splits_before faces g (length word) (word_symbol word) T (length word)) (sym fans) ∙ ap (λ (k : ℕ). fan_count faces g + k) splits

pub counts_word : CountsWord
counts_word faces g word T = made_is faces g word T

-- there is a surface under new numbers
module _ (faces : ℕ) (g : Gluing) (rows : List (ℕ × ℕ)) (G : IsGluing faces g) (R : IsRenumbering faces rows) where
  new_of : (y : Side) → (y.face < faces) ⊎ (faces ≤ y.face) → Side
  new_of y (inl h) = (carry_onto R y h).0
  new_of y (inr h) = y

  new_is : (y : Side) (s : (y.face < faces) ⊎ (faces ≤ y.face)) → y.face < faces → ((new_of y s).face < faces) × (carry rows (new_of y s) ≡ y)
  unfolding new_of
  new_is y (inl h) l = let t = carry_onto R y h in (t.1, t.2)
  new_is y (inr h) l = absurd (omega arith)

  new_across : Option Side → Option Side
  new_across None = None
  new_across (Some y) = Some (new_of y (cases_lt y.face faces))

  across_none : new_across None ≡ None
  unfolding new_across
  across_none = refl

  across_some : (y : Side) → new_across (Some y) ≡ Some (new_of y (cases_lt y.face faces))
  unfolding new_across
  across_some y = refl

  renumbered : Gluing
  renumbered x = cond (nat_lt x.face faces) (new_across (g (carry rows x))) None

  renumbered_in : (x : Side) → x.face < faces → renumbered x ≡ new_across (g (carry rows x))
  unfolding renumbered
  renumbered_in x h = cond-true _ _ _ (lt-ltb x.face faces h)

  renumbered_out : (x : Side) → faces ≤ x.face → renumbered x ≡ None
  unfolding renumbered
  renumbered_out x h = cond-false _ _ _ (le-ltb x.face faces h)

  -- what a side of it is glued to is glued so in g
  tells : (x y : Side) → x.face < faces → renumbered x ≡ Some y → (y.face < faces) × (g (carry rows x) ≡ Some (carry rows y))
  tells x y h e = elim (option_tells (g (carry rows x))) [
    | inl n ↦ absurd (let no : None ≡ Some y = sym across_none ∙ ap new_across (sym n) ∙ sym (renumbered_in x h) ∙ e in cc)
    | inr z ↦ (
        let i : new_of z.0 (cases_lt z.0.face faces) ≡ y = Some_injective _ _ (sym (across_some z.0) ∙ ap new_across (sym z.1) ∙ sym (renumbered_in x h) ∙ e) in
        let l : z.0.face < faces = G.within z.0 (carry rows x) (G.paired (carry rows x) z.0 z.1) in
        let t = new_is z.0 (cases_lt z.0.face faces) l in
        (subst (λ (s : Side). s.face < faces) i t.0, z.1 ∙ ap {A = Side} Some (sym t.1 ∙ ap (carry rows) i)))
  ]

  pub is_renumbered : (h : Gluing) × IsCarried faces g rows h
  is_renumbered = (
    renumbered,
    record {
      pairs = λ x y a b. (
        λ e. (tells x y a e).1,
        λ e. (
            let t = new_is (carry rows y) (cases_lt (carry rows y).face faces) (carry-within R y b) in
            renumbered_in x a ∙ ap new_across e ∙ across_some (carry rows y) ∙ ap {A = Side} Some (carry_injective R (new_of (carry rows y) (cases_lt (carry rows y).face faces)) y t.0 b t.1)),
      );
      within = λ x y e. elim (cases_lt x.face faces) [
        | inl h ↦ (h, (tells x y h e).0)
        | inr h ↦ absurd (let no : None ≡ Some y = sym (renumbered_out x h) ∙ e in cc)
      ];
    },
  )

pub walk_passes_fronts : WalkPassesFronts
walk_passes_fronts faces g h G F K m l =
    let w = word_of (trace faces g) in
    ap (λ (events : List Event). take_symbols (length w) (take m w) (start events)) (word_events faces g G F h K)
    ∙ passes_fronts faces h w (word_readable faces g G F h K) m l

pub walk_is_counted : WalkIsCounted
walk_is_counted faces g G F = go (is_renumbered faces g (order_of (trace faces g)) G (renumbers faces g G F))
  where
    go : (h : Gluing) × IsCarried faces g (order_of (trace faces g)) h → made_by (word_symbol (word_of (trace faces g))) (length (word_of (trace faces g))) ≡ fan_count faces g + count_by is_split (word_of (trace faces g))
    go (h, K) =
        let T = word_readable faces g G F h K in
        made_is faces h (word_of (trace faces g)) T
        ∙ ap (λ (k : ℕ). k + count_by is_split (word_of (trace faces g))) (renumbered_alike faces g h (order_of (trace faces g)) G (renumbers faces g G F) K)

-- the walk's own events and bits are those that the surface determines
as_told : (p : Plan) (g h : Gluing) (G : IsGluing p.faces g) (F : HasThreeFans p.faces g) (K : IsCarried p.faces g (order_of (trace p.faces g)) h) →
    rebuild p (word_of (trace p.faces g)) (trace p.faces g).events (λ k. get_or (reverse (trace p.faces g).bits) k false)
    ≡ rebuild p (word_of (trace p.faces g)) (events_left (length (word_of (trace p.faces g))) h (word_symbol (word_of (trace p.faces g))) (length (word_of (trace p.faces g)))) (λ k. get_or (start_bits (length (word_of (trace p.faces g))) h) k false)
as_told p g h G F K =
    let w = word_of (trace p.faces g) in
    ap (λ (events : List Event). rebuild p w events (λ k. get_or (reverse (trace p.faces g).bits) k false)) (word_events p.faces g G F h K)
    ∙ ap (λ (bits : List Bool). rebuild p w (events_left (length w) h (word_symbol w) (length w)) (λ k. get_or bits k false)) (word_bits p.faces g G F h K)

pub walk_rebuilds : (p : Plan) (g h : Gluing) → IsGluing p.faces g → HasThreeFans p.faces g → IsCarried p.faces g (order_of (trace p.faces g)) h → p.symbols ≡ length (word_of (trace p.faces g)) →
    fan_count p.faces g + count_by is_split (word_of (trace p.faces g)) ≤ p.created →
    rebuild p (word_of (trace p.faces g)) (trace p.faces g).events (λ k. get_or (reverse (trace p.faces g).bits) k false) ≡ Ok (finished p.faces h (word_of (trace p.faces g)))
walk_rebuilds p g h G F K symbols enough =
    let w = word_of (trace p.faces g) in
    let made = walk_is_counted p.faces g G F in
    let few : made_by (word_symbol w) (length w) ≤ p.created = subst (λ (k : ℕ). k ≤ p.created) (sym made) enough in
    as_told p g h G F K
    ∙ rebuilds_word p h w (word_readable p.faces g G F h K) symbols (three_fans_carried (renumbers p.faces g G F) K F) few

pub walk_needs_all : WalkNeedsAll
walk_needs_all p g h G F K symbols few =
    let w = word_of (trace p.faces g) in
    let made = walk_is_counted p.faces g G F in
    let less : p.created < made_by (word_symbol w) (length w) = subst (λ (k : ℕ). p.created < k) (sym made) few in
    as_told p g h G F K
    ∙ refuses_fewer p h w (word_readable p.faces g G F h K) symbols less
    ∙ ap (λ (k : ℕ). let x : Next = Err (fault kind.VertexCount k) in x) made
