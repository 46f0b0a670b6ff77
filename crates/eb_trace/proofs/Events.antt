-- The events of one face: the machine notes exactly them, and keeps exactly the sides that wait.
use Rattle.std.proofs.Common.{◌≡◌, ◌≢◌, ℕ, zero, suc, ◌-◌, ◌<◌, ◌≤◌, Bool, true, false, List, [], ◌∷◌, ◌++◌, Option, Some, None, Ok, ◌⊎◌, inl, inr, sym, refl, ap, ◌∙◌, subst, arith, ◌==◌, eq-eqb, ne_eqb}
use Rattle.std.proofs.lemmas.Bool.{cases_lt, cases_eq, cond-true, cond-false, cases_Bool}
use mathlib.Core.Path.{fun_ext}
use Rattle.corner_table.specs.declared.symbols.Symbol.{Symbol}
use Rattle.corner_table.specs.declared.symbols.Event.{Event}
use Rattle.corner_table.specs.Sides.{Side, Place, first, second, third, side, Gluing}
use Rattle.corner_table.proofs.Places.{option_tells, Some_injective}
use Rattle.eb_machine.specs.Machine.{note_events, reserve, event_place}
use Rattle.eb_machine.specs.Shown.{is_split}
use Rattle.eb_machine.proofs.NotedEvents.{note_none, note_later, note_more}
use Rattle.eb_trace.specs.Readable.{IsReadable}
use Rattle.eb_trace.specs.Front.{reserved_for, waiting_side, split_met, event_told, events_of_face, events_left}
use Rattle.eb_trace.proofs.Reserved.{reserved_early, reserved_late, reserved_unsplit, reserved_is, waiting_later, waiting_here, waiting_entry, waiting_more, met_third, third_met}

-- a list of events begins with one of a source below d, if with any
abbrev pub Leads : ℕ → List Event → Type 0
Leads d events = (events ≡ []) ⊎ ((e : Event) × (rest : List Event) × (events ≡ e ∷ rest) × (e.source < d))

leads_told : (n i d : ℕ) (right : Bool) (o : Option ℕ) (events : List Event) → n - suc i < d → Leads d events → Leads d (event_told n i right o ++ events)
leads_told n i d right None events h l = l
leads_told n i d right (Some j) events h l = inr (record { source = n - suc i; split = n - suc j; right = right }, events, refl, h)

leads_more : (d : ℕ) (events : List Event) → Leads d events → Leads (suc d) events
leads_more d events l = elim l [ inl e ↦ inl e | inr t ↦ (let h = t.3 in inr (t.0, t.1, t.2, omega arith)) ]

pub left_zero : (n : ℕ) (g : Gluing) (word : ℕ → Symbol) → events_left n g word zero ≡ []
unfolding events_left
left_zero n g word = refl

pub left_suc : (n : ℕ) (g : Gluing) (word : ℕ → Symbol) (d : ℕ) → events_left n g word (suc d) ≡ events_of_face n g word (n - suc d) false ++ (events_of_face n g word (n - suc d) true ++ events_left n g word d)
unfolding events_left
left_suc n g word d = refl

leads : (n : ℕ) (g : Gluing) (word : ℕ → Symbol) (d : ℕ) → d ≤ n → Leads d (events_left n g word d)
leads n g word zero h = inl (left_zero n g word)
leads n g word (suc d) h =
    let i = n - suc d in
    let rest = leads_more d (events_left n g word d) (leads n g word d (omega arith)) in
    let small : n - suc i < suc d = omega arith in
    subst (Leads (suc d)) (sym (left_suc n g word d))
    (leads_told n i (suc d) false (split_met n word i (g (side i third))) (events_of_face n g word i true ++ events_left n g word d) small
    (leads_told n i (suc d) true (split_met n word i (g (side i second))) (events_left n g word d) small rest))

-- such events are due later
note_leads : (n i d : ℕ) (events : List Event) (kept : ℕ → Option Side) → d ≤ n - suc i → Leads d events → note_events n i events kept ≡ Ok (events, kept)
note_leads n i d events kept h l = elim l [
  | inl e ↦ subst (λ (es : List Event). note_events n i es kept ≡ Ok (es, kept)) (sym e) (note_none n i kept)
  | inr t ↦ (
      let s = t.3 in
      subst (λ (es : List Event). note_events n i es kept ≡ Ok (es, kept)) (sym t.2) (note_later n i t.0 t.1 kept (omega arith)))
]

-- an event that is noted keeps its side
abbrev kept_by : Option ℕ → Side → (ℕ → Option Side) → ℕ → Option Side
kept_by None a kept = kept
kept_by (Some j) a kept = reserve j a kept

by_hit : (o : Option ℕ) (a : Side) (kept : ℕ → Option Side) (k : ℕ) → o ≡ Some k → kept_by o a kept k ≡ Some a
by_hit o a kept k e = ap (λ (p : Option ℕ). kept_by p a kept k) e ∙ cond-true (k == k) _ _ (eq-eqb k k refl)

by_miss : (o : Option ℕ) (a : Side) (kept : ℕ → Option Side) (k : ℕ) → (o ≡ Some k → ⊥) → kept_by o a kept k ≡ kept k
by_miss None a kept k n = refl
by_miss (Some j) a kept k n = cond-false (k == j) _ _ (ne_eqb k j (λ e. n (ap {A = ℕ} Some (sym e))))

note_told : (n i : ℕ) (right : Bool) (o : Option ℕ) (events : List Event) (kept : ℕ → Option Side) → ((j : ℕ) → o ≡ Some j → (j < n) × (kept j ≡ None)) →
    note_events n i (event_told n i right o ++ events) kept ≡ note_events n i events (kept_by o (side i (event_place right)) kept)
note_told n i right None events kept h = refl
note_told n i right (Some j) events kept h =
    let t = h j refl in
    let l = t.0 in
    let back : n - suc (n - suc j) ≡ j = omega arith in
    note_more n i (record { source = n - suc i; split = n - suc j; right = right }) events kept refl (ap kept back ∙ t.1)
    ∙ ap (λ (k : ℕ). note_events n i events (reserve k (side i (event_place right)) kept)) back

module _ (faces : ℕ) (g : Gluing) (n : ℕ) (word : ℕ → Symbol) (T : IsReadable faces g n word) where
  -- the S that the left side of face m met, and the right side
  abbrev on_left : ℕ → Option ℕ
  on_left m = split_met n word m (g (side m third))

  abbrev on_right : ℕ → Option ℕ
  on_right m = split_met n word m (g (side m second))

  not_both : (m k : ℕ) → on_left m ≡ Some k → on_right m ≡ Some k → ⊥
  not_both m k a b =
      let s = met_third T m third k (λ q. (cc)) a in
      let t = met_third T m second k (λ q. (cc)) b in
      let same_side : side m third ≡ side m second = Some_injective _ _ (sym s.3 ∙ t.3) in
      let same_place : third ≡ second = ap (λ (x : Side). x.place) same_side in
      cc

  -- what is kept after both
  abbrev kept_both : ℕ → ℕ → Option Side
  kept_both m = kept_by (on_right m) (side m second) (kept_by (on_left m) (side m third) (reserved_for n g word m))

  neither : (m k : ℕ) → (on_left m ≡ Some k → ⊥) → (on_right m ≡ Some k → ⊥) → kept_both m k ≡ reserved_for n g word m k
  neither m k a b = by_miss (on_right m) (side m second) _ k b ∙ by_miss (on_left m) (side m third) _ k a

  kept_after : (m : ℕ) → is_split (word m) ≡ false → (k : ℕ) → kept_both m k ≡ reserved_for n g word (suc m) k
  kept_after m s k = elim (cases_lt m k) [
    | inr h ↦ neither m k (λ a. (let t = met_third T m third k (λ q. (cc)) a in let l = t.0 in absurd (omega arith))) (λ a. (let t = met_third T m second k (λ q. (cc)) a in let l = t.0 in absurd (omega arith)))
        ∙ early h ∙ sym (reserved_early n g word (suc m) k (omega arith))
    | inl h ↦ elim (cases_lt k n) [
      | inr l ↦ neither m k (λ a. (let t = met_third T m third k (λ q. (cc)) a in let w = t.1 in absurd (omega arith))) (λ a. (let t = met_third T m second k (λ q. (cc)) a in let w = t.1 in absurd (omega arith)))
          ∙ reserved_late n g word m k l ∙ sym (reserved_late n g word (suc m) k l)
      | inl l ↦ elim (cases_Bool (is_split (word k))) [
        | inr f ↦ neither m k (λ a. (let t = met_third T m third k (λ q. (cc)) a in let no : false ≡ true = sym f ∙ t.2 in cc)) (λ a. (let t = met_third T m second k (λ q. (cc)) a in let no : false ≡ true = sym f ∙ t.2 in cc))
            ∙ reserved_unsplit n g word m k f ∙ sym (reserved_unsplit n g word (suc m) k f)
        | inl t ↦ live h l t
      ]
    ]
  ]
    where
      early : k ≤ m → reserved_for n g word m k ≡ None
      early h = elim (cases_eq k m) [
        | inl e ↦ reserved_unsplit n g word m k (ap (λ (i : ℕ). is_split (word i)) e ∙ s)
        | inr e ↦ reserved_early n g word m k (omega arith)
      ]

      live : m < k → k < n → is_split (word k) ≡ true → kept_both m k ≡ reserved_for n g word (suc m) k
      live h l t = elim (option_tells (g (side k third))) [
        | inl o ↦ neither m k (λ a. (let u = met_third T m third k (λ q. (cc)) a in let no : None ≡ Some (side m third) = sym o ∙ u.3 in cc)) (λ a. (let u = met_third T m second k (λ q. (cc)) a in let no : None ≡ Some (side m second) = sym o ∙ u.3 in cc))
            ∙ before ∙ ap (waiting_side m) o ∙ sym (ap (waiting_side (suc m)) o) ∙ sym after
        | inr x ↦ elim (cases_eq x.0.face m) [
          | inr e ↦ neither m k (λ a. (let u = met_third T m third k (λ q. (cc)) a in e (ap (λ (z : Side). z.face) (Some_injective _ _ (sym x.1 ∙ u.3))))) (λ a. (let u = met_third T m second k (λ q. (cc)) a in e (ap (λ (z : Side). z.face) (Some_injective _ _ (sym x.1 ∙ u.3)))))
              ∙ before ∙ sym (waiting_more m (g (side k third)) (λ z i f. absurd (e (ap (λ (z : Side). z.face) (Some_injective _ _ (sym x.1 ∙ i)) ∙ f)))) ∙ sym after
          | inl e ↦ here x.0.place (x.1 ∙ ap {A = Side} Some (ap (λ (f : ℕ). side f x.0.place) e))
        ]
      ]
        where
          before : reserved_for n g word m k ≡ waiting_side m (g (side k third))
          before = reserved_is n g word m k (omega arith) l t

          after : reserved_for n g word (suc m) k ≡ waiting_side (suc m) (g (side k third))
          after = reserved_is n g word (suc m) k (omega arith) l t

          here : (p : Place) → g (side k third) ≡ Some (side m p) → kept_both m k ≡ reserved_for n g word (suc m) k
          here first i =
              neither m k
              (λ a. (let u = met_third T m third k (λ q. (cc)) a in let w : side m first ≡ side m third = Some_injective _ _ (sym i ∙ u.3) in let v : first ≡ third = ap (λ (z : Side). z.place) w in cc))
              (λ a. (let u = met_third T m second k (λ q. (cc)) a in let w : side m first ≡ side m second = Some_injective _ _ (sym i ∙ u.3) in let v : first ≡ second = ap (λ (z : Side). z.place) w in cc))
              ∙ before ∙ waiting_entry m (g (side k third)) (side m first) i refl ∙ sym (waiting_entry (suc m) (g (side k third)) (side m first) i refl) ∙ sym after
          here second i =
              by_hit (on_right m) (side m second) _ k (third_met T m second k h l t i)
              ∙ sym (waiting_here (suc m) (g (side k third)) (side m second) i (omega arith) (λ q. (cc))) ∙ sym after
          here third i =
              by_miss (on_right m) (side m second) _ k (λ b. not_both m k (third_met T m third k h l t i) b)
              ∙ by_hit (on_left m) (side m third) _ k (third_met T m third k h l t i)
              ∙ sym (waiting_here (suc m) (g (side k third)) (side m third) i (omega arith) (λ q. (cc))) ∙ sym after

  -- nothing was kept for the S that is met
  unkept : (m j : ℕ) (k : Place) → k ≢ first → split_met n word m (g (side m k)) ≡ Some j → (j < n) × (reserved_for n g word m j ≡ None)
  unkept m j k ne e =
      let t = met_third T m k j ne e in
      let l = t.0 in
      (t.1, reserved_is n g word m j (omega arith) t.1 t.2 ∙ waiting_later m (g (side j third)) (side m k) t.3 (omega arith))

  -- the events that are left before face m are its own, and then those left after it
  told : (m : ℕ) → m < n → events_left n g word (n - m) ≡ events_of_face n g word m false ++ (events_of_face n g word m true ++ events_left n g word (n - suc m))
  told m h =
      let d = n - suc m in
      let count : n - m ≡ suc d = omega arith in
      let face : n - suc d ≡ m = omega arith in
      ap (events_left n g word) count ∙ left_suc n g word d ∙ ap (λ (i : ℕ). events_of_face n g word i false ++ (events_of_face n g word i true ++ events_left n g word d)) face

  -- face m notes its events, and keeps what waits after it
  pub notes_face : (m : ℕ) → m < n → is_split (word m) ≡ false → note_events n m (events_left n g word (n - m)) (reserved_for n g word m) ≡ Ok (events_left n g word (n - suc m), reserved_for n g word (suc m))
  notes_face m h s =
      let d = n - suc m in
      let rest = events_left n g word d in
      ap (λ (es : List Event). note_events n m es (reserved_for n g word m)) (told m h)
      ∙ note_told n m false (on_left m) (events_of_face n g word m true ++ rest) (reserved_for n g word m) (λ j e. unkept m j third (λ q. (cc)) e)
      ∙ note_told n m true (on_right m) rest (kept_by (on_left m) (side m third) (reserved_for n g word m))
      (λ j e. (let t = unkept m j second (λ q. (cc)) e in (t.0, by_miss (on_left m) (side m third) _ j (λ a. not_both m j a e) ∙ t.1)))
      ∙ note_leads n m d rest (kept_both m) (omega arith) (leads n g word d (omega arith))
      ∙ ap (λ (kept : ℕ → Option Side). Ok (rest, kept)) (fun_ext (kept_after m s))

  -- what is glued to an earlier face met no split
  unmet : (m : ℕ) (k : Place) (y : Side) → k ≢ first → g (side m k) ≡ Some y → y.face < m → split_met n word m (g (side m k)) ≡ None
  unmet m k y ne e h = elim (option_tells (split_met n word m (g (side m k)))) [
    | inl o ↦ o
    | inr j ↦ (
        let t = met_third T m k j.0 ne j.1 in
        let l = t.0 in
        let q : y ≡ side j.0 third = Some_injective _ _ (sym e ∙ T.gluing.paired (side j.0 third) (side m k) t.3) in
        let f : y.face ≡ j.0 = ap (λ (z : Side). z.face) q in
        absurd (omega arith))
  ]

  -- a face with both sides glued to earlier faces has no event
  pub tells_none : (m : ℕ) → m < n → (x y : Side) → g (side m second) ≡ Some x → x.face < m → g (side m third) ≡ Some y → y.face < m → events_left n g word (n - m) ≡ events_left n g word (n - suc m)
  tells_none m h x y r rl l ll =
      let rest = events_left n g word (n - suc m) in
      told m h
      ∙ ap (λ (o : Option ℕ). event_told n m false o ++ (events_of_face n g word m true ++ rest)) (unmet m third y (λ q. (cc)) l ll)
      ∙ ap (λ (o : Option ℕ). event_told n m true o ++ rest) (unmet m second x (λ q. (cc)) r rl)
