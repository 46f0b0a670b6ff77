-- The start bits: each side that waits is closed, a boundary or an interior start face, until the whole table is built.
use Rattle.std.proofs.Common.{◌≡◌, ◌≢◌, ℕ, zero, suc, ◌+◌, ◌<◌, ◌≤◌, Bool, true, false, not, is_some, List, [], ◌∷◌, length, get_or, map, Option, Some, None, Ok, inl, inr, sym, refl, ap, ◌∙◌, subst, arith}
use Rattle.std.proofs.lemmas.Bool.{cases_lt, cases_eq}
use Rattle.drc_base.specs.Steps.{◌>>=◌}
use Rattle.corner_table.specs.Sides.{Side, Place, first, second, third, side, same, Gluing, glue}
use Rattle.corner_table.specs.Fans.{side_before}
use Rattle.corner_table.proofs.Places.{option_tells, Some_injective, same_refl, not_same}
use Rattle.corner_table.proofs.Prefixing.{tells-prefix, prefix-free, prefix-tells, gap, gap_before, surrounded_more}
use Rattle.eb_machine.specs.Machine.{State, Plan, close, close_all}
use Rattle.eb_machine.proofs.Steps.{Next, the_state, same_state, then_ok, close_boundary, close_interior, fill_steps, loop_test}
use Rattle.corner_table.specs.declared.symbols.Symbol.{Symbol}
use Rattle.corner_table.specs.Prefixes.{prefix, IsSurrounded, IsGap}
use Rattle.eb_trace.specs.Readable.{IsReadable, IsInterior}
use Rattle.eb_trace.specs.Front.{free_firsts}
use Rattle.eb_trace.proofs.Below.{adds_three}
use Rattle.eb_trace.proofs.Waiting.{firsts_none, firsts_free, firsts_glued}
use Rattle.eb_trace.proofs.Reserved.{three_all}

closed_none : (p : Plan) (bits : ℕ → Bool) (s : State) → close_all p bits zero s ≡ Ok s
unfolding close_all
closed_none p bits s = refl

closed_more : (p : Plan) (bits : ℕ → Bool) (left : ℕ) (s t : State) (interior : Bool) → bits s.closes ≡ interior → close p interior s ≡ Ok t → close_all p bits (suc left) s ≡ close_all p bits left t
unfolding close_all
closed_more p bits left s t interior b e = ap (λ (x : Bool). close p x s >>= close_all p bits left) b ∙ then_ok (close p interior s) t (close_all p bits left) e

-- three sides of one loop
loop_holds : (s : State) (a b c : Side) → side_before s.built s.glued a ≡ b → side_before s.built s.glued b ≡ c → side_before s.built s.glued c ≡ a → b ≢ a → c ≢ a → loop_test s a ≡ true
loop_holds s a b c p q r n m =
    let before : Side → Side = side_before s.built s.glued in
    let second_is : before (before a) ≡ c = ap before p ∙ q in
    let third_is : before (before (before a)) ≡ a = ap before second_is ∙ r in
    three_all (not (same (before a) a)) (not (same (before (before a)) a)) (same (before (before (before a))) a)
    (ap not (not_same (before a) a (λ e. n (sym p ∙ e))))
    (ap not (not_same (before (before a)) a (λ e. m (sym second_is ∙ e))))
    (ap (λ (x : Side). same x a) third_is ∙ same_refl a)

module _ (p : Plan) (g : Gluing) (n : ℕ) (word : ℕ → Symbol) (T : IsReadable p.faces g n word) (bits : ℕ → Bool) (made : ℕ) where
  -- f faces are built, these sides wait, and c are closed
  abbrev pub stage : ℕ → List Side → ℕ → State
  stage f waits c = the_state f (prefix f g) waits (λ k. None) [] made c

  -- the interior start faces below f have had their runs closed; those from f on have theirs below the bound
  record IsHalfway (f bound : ℕ) : Type 0 where
    from : n ≤ f
    to : f ≤ p.faces
    done : (e j : ℕ) → n ≤ e → e < f → g (side e first) ≡ Some (side j first) → bound ≤ j
    due : (e j : ℕ) → f ≤ e → e < p.faces → g (side e first) ≡ Some (side j first) → j < bound

  -- the bits from number c on are those of the sides that wait
  abbrev AreBits : List Side → ℕ → Type 0
  AreBits waits c = (k : ℕ) → get_or (map (λ (a : Side). is_some (g a)) waits) k false ≡ bits (c + k)

  abbrev Closes : ℕ → ℕ → List Side → Type 0
  Closes f c waits = AreBits waits c → close_all p bits (length waits) (stage f waits c) ≡ Ok (stage p.faces [] (c + length waits))

  rest_bits : (a : Side) (waits : List Side) (c : ℕ) → AreBits (a ∷ waits) c → AreBits waits (suc c)
  rest_bits a waits c b k = b (suc k) ∙ ap bits (let e : c + suc k ≡ suc c + k = omega arith in e)

  first_bit : (a : Side) (waits : List Side) (c : ℕ) → AreBits (a ∷ waits) c → bits c ≡ is_some (g a)
  first_bit a waits c b = ap bits (let e : c ≡ c + 0 = omega arith in e) ∙ sym (b 0)

  last_stage : (waits : List Side) (a : Side) (c : ℕ) → Ok (stage p.faces [] (suc c + length waits)) ≡ (let x : Next = Ok (stage p.faces [] (c + length (a ∷ waits))) in x)
  last_stage waits a c = ap (λ (k : ℕ). let x : Next = Ok (stage p.faces [] k) in x) (let e : suc c + length waits ≡ c + suc (length waits) = omega arith in e)

  -- a face fills the loop of the side across its side 0
  fills : (f j c : ℕ) (waits : List Side) → n ≤ f → f < p.faces → j < n → g (side f first) ≡ Some (side j first) → close p true (stage f (side j first ∷ waits) c) ≡ Ok (stage (suc f) waits (suc c))
  fills f j c waits h l k e = go (gap f (side f first) T.gluing (omega arith) (ring first)) (gap f (side f second) T.gluing (omega arith) (ring second)) (gap f (side f third) T.gluing (omega arith) (ring third))
    where
      inner : IsInterior g n f
      inner = T.interior f h l

      ring : (q : Place) → IsSurrounded g f (side f q)
      ring q = surrounded_more f (side f q) h (inner.rings q)

      go : (x y : Side) × IsGap g f (side f first) x y → (x y : Side) × IsGap g f (side f second) x y → (x y : Side) × IsGap g f (side f third) x y → close p true (stage f (side j first ∷ waits) c) ≡ Ok (stage (suc f) waits (suc c))
      go (b, d, u) (d2, a1, v) (a2, b2, w) =
          close_interior p (stage f (side j first ∷ waits) c) (side j first) waits refl
          ∙ fill_steps (p.symbols + c) p (stage f (side j first ∷ waits) c) (side j first) waits
          (prefix-free f g (side j first) (side f first) (T.gluing.paired (side f first) (side j first) e) (omega arith))
          (loop_holds (stage f (side j first ∷ waits) c) (side j first) b d before_a before_b before_d
          (λ q. apart first second (λ i. (cc)) (side j first) e (u.right_is ∙ ap {A = Side} Some q))
          (λ q. apart first third (λ i. (cc)) (side j first) e (u.left_is ∙ ap {A = Side} Some q)))
          (λ q. (omega arith))
          ∙ ap {A = State} (λ s. let x : Next = Ok s in x) (same_state refl glued refl refl refl refl refl)
        where
          -- two sides of the face aren't glued to one
          apart : (q r : Place) → (q ≡ r → ⊥) → (x : Side) → g (side f q) ≡ Some x → g (side f r) ≡ Some x → ⊥
          apart q r ne x i o = ne (ap (λ (s : Side). s.place) (Some_injective _ _ (sym (T.gluing.paired (side f q) x i) ∙ T.gluing.paired (side f r) x o)))

          before_a : side_before f (prefix f g) (side j first) ≡ b
          before_a =
              ap (side_before f (prefix f g)) (Some_injective _ _ (sym e ∙ w.right_is))
              ∙ sym (gap_before T.gluing f (side f third) a2 b2 w)
              ∙ Some_injective _ _ (sym w.left_is ∙ u.right_is)

          before_b : side_before f (prefix f g) b ≡ d
          before_b = sym (gap_before T.gluing f (side f first) b d u)

          before_d : side_before f (prefix f g) d ≡ side j first
          before_d =
              ap (side_before f (prefix f g)) (Some_injective _ _ (sym u.left_is ∙ v.right_is))
              ∙ sym (gap_before T.gluing f (side f second) d2 a1 v)
              ∙ Some_injective _ _ (sym v.left_is ∙ e)

          glued : glue (side f third) (side_before f (prefix f g) (side_before f (prefix f g) (side j first))) (glue (side f second) (side_before f (prefix f g) (side j first)) (glue (side f first) (side j first) (prefix f g))) ≡ prefix (suc f) g
          glued =
              ap (λ (z : Side). glue (side f third) (side_before f (prefix f g) z) (glue (side f second) z (glue (side f first) (side j first) (prefix f g)))) before_a
              ∙ ap (λ (z : Side). glue (side f third) z (glue (side f second) b (glue (side f first) (side j first) (prefix f g)))) before_b
              ∙ sym (adds_three T.gluing f (side j first) b d (omega arith) u.right_below u.left_below e u.right_is u.left_is)

  closes : (bound f c : ℕ) → bound ≤ n → IsHalfway f bound → Closes f c (free_firsts (prefix n g) bound)
  closes zero f c l H = subst (Closes f c) (sym (firsts_none (prefix n g))) (λ b. closed_none p bits (stage f [] c) ∙ ap {A = State} (λ s. let x : Next = Ok s in x) (ap (λ (k : ℕ). stage k [] c) all ∙ ap (stage p.faces []) (let e : c ≡ c + 0 = omega arith in e)))
    where
      -- no interior face is left
      all : f ≡ p.faces
      all = elim (cases_lt f p.faces) [
        | inl h ↦ (let i = T.interior f H.from h in let w = H.due f i.run (omega arith) h i.begins in absurd (omega arith))
        | inr h ↦ (let t = H.to in omega arith)
      ]
  closes (suc j) f c l H = elim (option_tells (prefix n g (side j first))) [
    | inr z ↦ subst (Closes f c) (sym (firsts_glued (prefix n g) j z.0 z.1)) (closes j f c (omega arith) (passed z.0 z.1))
    | inl free ↦ subst (Closes f c) (sym (firsts_free (prefix n g) j free)) (λ b. elim (option_tells (g (side j first))) [
      | inl o ↦ (
          closed_more p bits (length rest) (stage f (side j first ∷ rest) c) (stage f rest (suc c)) false (first_bit (side j first) rest c b ∙ ap {A = Option Side} is_some o) (close_boundary p (stage f (side j first ∷ rest) c) (side j first) rest refl)
          ∙ closes j f (suc c) (omega arith) (boundary o) (rest_bits (side j first) rest c b)
          ∙ last_stage rest (side j first) c)
      | inr y ↦ (
          let s = starts_at free y.0 y.1 in
          closed_more p bits (length rest) (stage f (side j first ∷ rest) c) (stage (suc f) rest (suc c)) true (first_bit (side j first) rest c b ∙ ap {A = Option Side} is_some y.1) (fills f j c rest H.from s.0 (omega arith) s.1)
          ∙ closes j (suc f) (suc c) (omega arith) (begun s.0 s.1) (rest_bits (side j first) rest c b)
          ∙ last_stage rest (side j first) c)
    ])
  ]
    where
      rest : List Side
      rest = free_firsts (prefix n g) j

      passed : (z : Side) → prefix n g (side j first) ≡ Some z → IsHalfway f j
      passed z e = record {
        from = H.from;
        to = H.to;
        done = λ i k a b q. (let w = H.done i k a b q in omega arith);
        due = λ i k a b q. (
            let w = H.due i k a b q in
            elim (cases_eq k j) [
              | inr ne ↦ (omega arith)
              | inl s ↦ (
                  let t = prefix-tells n g (side j first) z e in
                  let back : g (side j first) ≡ Some (side i first) = T.gluing.paired (side i first) (side j first) (q ∙ ap (λ (x : ℕ). Some (side x first)) s) in
                  let u : z.face ≡ i = ap (λ (x : Side). x.face) (Some_injective _ _ (sym t.2 ∙ back)) in
                  let v = t.1 in
                  let r = H.from in
                  absurd (omega arith))
            ]);
      }

      boundary : g (side j first) ≡ None → IsHalfway f j
      boundary o = record {
        from = H.from;
        to = H.to;
        done = λ i k a b q. (let w = H.done i k a b q in omega arith);
        due = λ i k a b q. (
            let w = H.due i k a b q in
            elim (cases_eq k j) [
              | inr ne ↦ (omega arith)
              | inl s ↦ absurd (
                  let back : g (side j first) ≡ Some (side i first) = T.gluing.paired (side i first) (side j first) (q ∙ ap (λ (x : ℕ). Some (side x first)) s) in
                  let no : None ≡ Some (side i first) = sym o ∙ back in
                  cc)
            ]);
      }

      -- what lies across is the next interior start face
      starts_at : prefix n g (side j first) ≡ None → (y : Side) → g (side j first) ≡ Some y → (f < p.faces) × (g (side f first) ≡ Some (side j first))
      starts_at free y e =
          let above : n ≤ y.face = elim (cases_lt y.face n) [
            | inr h ↦ h
            | inl h ↦ absurd (let no : None ≡ Some y = sym free ∙ tells-prefix n g (side j first) y (omega arith) h e in cc)
          ] in
          let at_first : y ≡ side y.face first = ap (side y.face) (T.starts j y (omega arith) e above) in
          let back : g (side y.face first) ≡ Some (side j first) = ap g (sym at_first) ∙ T.gluing.paired (side j first) y e in
          let within : y.face < p.faces = T.gluing.within y (side j first) (T.gluing.paired (side j first) y e) in
          elim (cases_eq y.face f) [
            | inl q ↦ (subst (λ (k : ℕ). k < p.faces) q within, ap (λ (k : ℕ). g (side k first)) (sym q) ∙ back)
            | inr q ↦ absurd (elim (cases_lt y.face f) [
              | inl h ↦ (let w = H.done y.face j above h back in omega arith)
              | inr h ↦ (
                  let i = T.interior f H.from (omega arith) in
                  let w = H.due f i.run (omega arith) (omega arith) i.begins in
                  let v = T.order f y.face i.run j H.from (omega arith) i.begins back in
                  omega arith)
            ])
          ]

      begun : f < p.faces → g (side f first) ≡ Some (side j first) → IsHalfway (suc f) j
      begun h e = record {
        from = (let r = H.from in omega arith);
        to = h;
        done = λ i k a b q. elim (cases_eq i f) [
          | inl s ↦ (let u : k ≡ j = ap (λ (x : Side). x.face) (Some_injective _ _ (sym q ∙ ap (λ (x : ℕ). g (side x first)) s ∙ e)) in omega arith)
          | inr s ↦ (let w = H.done i k a (omega arith) q in omega arith)
        ];
        due = λ i k a b q. T.order f i j k H.from a e q;
      }

  -- all that wait after the symbols
  pub closes_all : AreBits (free_firsts (prefix n g) n) 0 → close_all p bits (length (free_firsts (prefix n g) n)) (stage n (free_firsts (prefix n g) n) 0) ≡ Ok (stage p.faces [] (0 + length (free_firsts (prefix n g) n)))
  closes_all b = closes n n 0 (omega arith) (record {
    from = omega arith;
    to = T.fewer;
    done = λ e j a h q. (absurd (omega arith));
    due = λ e j a h q. (
        let i = T.interior e a h in
        let r = i.is_run in
        let s : i.run ≡ j = ap (λ (x : Side). x.face) (Some_injective _ _ (sym i.begins ∙ q)) in
        omega arith);
  }) b
