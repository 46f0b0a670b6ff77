-- The events that the walk notes: each is of a symbol that met an earlier S, they come in order, and no S has two.
use Rattle.std.proofs.Common.{◌≡◌, ◌≢◌, ℕ, zero, suc, ◌+◌, ◌-◌, ◌<◌, ◌≤◌, Bool, true, false, List, [], ◌++◌, All, AllPairs, length, reverse, get_or, Option, Some, None, inl, inr, sym, refl, ap, ◌∙◌, subst, arith}
use Rattle.std.proofs.lemmas.List.{get_or-reverse, length-reverse}
use Rattle.std.proofs.lemmas.List.Elements.{All-nil, All-cons, All-weaker}
use Rattle.std.proofs.lemmas.List.Kept.{AllPairs-cons}
use Rattle.corner_table.specs.declared.symbols.Symbol.{Symbol}
use Rattle.corner_table.specs.declared.symbols.Symbol.TheVariants.{C, S, L, R, E}
use Rattle.corner_table.specs.declared.symbols.Event.{Event}
use Rattle.corner_table.specs.Sides.{Side, Place, first, second, third, side, Gluing}
use Rattle.corner_table.specs.Carried.{IsCarried}
use Rattle.corner_table.proofs.Places.{Some_injective}
use Rattle.corner_table.proofs.Prefixing.{gap}
use Rattle.eb_machine.specs.Machine.{event_place}
use Rattle.eb_trace.specs.Front.{split_met, event_told, events_of_face, events_left}
use Rattle.eb_trace.specs.Readable.{IsReadable, Says}
use Rattle.eb_trace.specs.Rebuilt.{word_symbol}
use Rattle.eb_trace.specs.Trace.{trace, word_of, order_of}
use Rattle.eb_trace.specs.Events.{may_meet, IsSplitEvent, ComesBefore, AreSplitEvents, WalkNotesSplits}
use Rattle.eb_trace.proofs.Reserved.{split_is, met_third}
use Rattle.eb_trace.proofs.Events.{left_zero, left_suc}
use Rattle.eb_trace.proofs.Order.{renumbers}
use Rattle.eb_trace.proofs.StartBits.{word_readable, word_events}
use Rattle.eb_trace.proofs.Counted.{is_renumbered}

-- lists turned round
All-reverse : {X : Type 0} (P : X → Type 0) (xs : List X) → All P xs → All P (reverse xs)
All-reverse P xs h k d l =
    let e = length-reverse xs in
    subst P (sym (get_or-reverse xs k d (omega arith))) (h (length xs - 1 - k) d (omega arith))

AllPairs-reverse : {X : Type 0} (Q : X → X → Type 0) (xs : List X) → AllPairs (λ (x y : X). Q y x) xs → AllPairs Q (reverse xs)
AllPairs-reverse {X} Q xs h i j d l m =
    let e = length-reverse xs in
    subst (λ (x : X). Q x (get_or (reverse xs) j d)) (sym (get_or-reverse xs i d (omega arith)))
    (subst (λ (y : X). Q (get_or xs (length xs - 1 - i) d) y) (sym (get_or-reverse xs j d (omega arith)))
    (h (length xs - 1 - j) (length xs - 1 - i) d (omega arith) (omega arith)))

AllPairs-nil : {X : Type 0} (Q : X → X → Type 0) → AllPairs Q []
AllPairs-nil Q i j d l m = absurd (let n : j < 0 = m in omega arith)

place_of_event : (a b : Bool) → event_place a ≡ event_place b → a ≡ b
place_of_event true true e = refl
place_of_event false false e = refl
place_of_event true false e = absurd (cc)
place_of_event false true e = absurd (cc)

place_not_first : (a : Bool) → event_place a ≢ first
place_not_first true e = cc
place_not_first false e = cc

module _ {faces : ℕ} {g : Gluing} {n : ℕ} {word : ℕ → Symbol} (T : IsReadable faces g n word) where
  -- an event of the last d faces to be decoded: a face met the S of a later one across its side
  record IsTold (d : ℕ) (e : Event) : Type 0 where
    face : ℕ
    met : ℕ
    recent : n ≤ face + d
    later : face < met
    within : met < n
    source_is : e.source ≡ n - suc face
    split_is : e.split ≡ n - suc met
    splits : word met ≡ S
    meets : may_meet (word face) e.right ≡ true
    onto : g (side met third) ≡ Some (side face (event_place e.right))

  -- what is glued to a face below it met no S
  not_below : (i j : ℕ) (p : Place) (y : Side) → g (side i p) ≡ Some y → y.face < i → g (side j third) ≡ Some (side i p) → i < j → ⊥
  not_below i j p y e l o m =
      let q : side j third ≡ y = Some_injective _ _ (sym (T.gluing.paired (side j third) (side i p) o) ∙ e) in
      let f : j ≡ y.face = ap (λ (z : Side). z.face) q in
      omega arith

  meets_at : (i j : ℕ) (right : Bool) → i < j → j < n → g (side j third) ≡ Some (side i (event_place right)) → (s : Symbol) → Says g i s → may_meet s right ≡ true
  meets_at i j true m l o C t = let u = gap i (side i first) T.gluing (omega arith) t.ring in absurd (not_below i j second u.0 u.2.right_is u.2.right_below o m)
  meets_at i j false m l o C t = let u = gap i (side i first) T.gluing (omega arith) t.ring in absurd (not_below i j third u.1 u.2.left_is u.2.left_below o m)
  meets_at i j true m l o S t = let r = t.right.is_before in absurd (not_below i j second (side t.right.before first) t.right.onto (omega arith) o m)
  meets_at i j false m l o S t = absurd (not_below i j third t.across t.left t.below o m)
  meets_at i j true m l o L t = let r = t.0.is_before in absurd (not_below i j second (side t.0.before first) t.0.onto (omega arith) o m)
  meets_at i j false m l o L t = refl
  meets_at i j true m l o R t = refl
  meets_at i j false m l o R t = let r = t.1.is_before in absurd (not_below i j third (side t.1.before first) t.1.onto (omega arith) o m)
  meets_at i j right m l o E t = refl

  -- the one event of a side, if there is one, is before others that it may stand before
  with_told : (d i : ℕ) (right : Bool) (o : Option ℕ) → suc (i + d) ≡ n → o ≡ split_met n word i (g (side i (event_place right))) → (events : List Event) →
      All (IsTold (suc d)) events → AllPairs (λ (x y : Event). ComesBefore y x) events →
      ((e : Event) → e.source ≡ n - suc i → e.right ≡ right → All (λ (y : Event). ComesBefore y e) events) →
      All (IsTold (suc d)) (event_told n i right o ++ events) × AllPairs (λ (x y : Event). ComesBefore y x) (event_told n i right o ++ events)
  with_told d i right None number s events a p before = (a, p)
  with_told d i right (Some j) number s events a p before =
      let e : Event = record { source = n - suc i; split = n - suc j; right = right } in
      let t = met_third T i (event_place right) j (place_not_first right) (sym s) in
      let told : IsTold (suc d) e = record {
        face = i;
        met = j;
        recent = omega arith;
        later = t.0;
        within = t.1;
        source_is = refl;
        split_is = refl;
        splits = split_is (word j) t.2;
        meets = meets_at i j right t.0 t.1 t.3 (word i) (T.symbols i (omega arith));
        onto = t.3;
      } in
      (All-cons (IsTold (suc d)) e events told a, AllPairs-cons (λ (x y : Event). ComesBefore y x) e events (before e refl refl) p)

  told_all : (P : Event → Type 0) (i : ℕ) (right : Bool) (o : Option ℕ) (events : List Event) → ((e : Event) → e.source ≡ n - suc i → e.right ≡ right → P e) → All P events → All P (event_told n i right o ++ events)
  told_all P i right None events h a = a
  told_all P i right (Some j) events h a = All-cons P (record { source = n - suc i; split = n - suc j; right = right }) events (h (record { source = n - suc i; split = n - suc j; right = right }) refl refl) a

  told_later : (d : ℕ) (e : Event) → IsTold d e → IsTold (suc d) e
  told_later d e t = record { face = t.face; met = t.met; recent = (let r = t.recent in omega arith); later = t.later; within = t.within; source_is = t.source_is; split_is = t.split_is; splits = t.splits; meets = t.meets; onto = t.onto }

  told_source : (d : ℕ) (e : Event) → IsTold d e → e.source < d
  told_source d e t =
      let r = t.recent in
      let l = t.later in
      let w = t.within in
      let s = t.source_is in
      omega arith

  abbrev Told : ℕ → List Event → Type 0
  Told d events = All (IsTold d) events × AllPairs (λ (x y : Event). ComesBefore y x) events

  -- the events of one face come after those of the faces decoded after it
  told_face : (d i : ℕ) → suc (i + d) ≡ n → (events : List Event) → Told d events → Told (suc d) (events_of_face n g word i false ++ (events_of_face n g word i true ++ events))
  told_face d i number events t =
      let old = All-weaker (IsTold d) (IsTold (suc d)) (told_later d) events t.0 in
      let less : (e : Event) → e.source ≡ n - suc i → All (λ (y : Event). y.source < e.source) events =
      (λ e q. All-weaker (IsTold d) (λ (y : Event). y.source < e.source) (λ y u. (let s = told_source d y u in omega arith)) events t.0) in
      let rights = with_told d i true (split_met n word i (g (side i second))) number refl events old t.1
      (λ e q r. All-weaker (λ (y : Event). y.source < e.source) (λ (y : Event). ComesBefore y e) (λ y u. inl u) events (less e q)) in
      with_told d i false (split_met n word i (g (side i third))) number refl (events_of_face n g word i true ++ events) rights.0 rights.1
      (λ e q r. told_all (λ (y : Event). ComesBefore y e) i true (split_met n word i (g (side i second))) events (λ y s u. inr (s ∙ sym q, u, r))
      (All-weaker (λ (y : Event). y.source < e.source) (λ (y : Event). ComesBefore y e) (λ y u. inl u) events (less e q)))

  told_left : (d : ℕ) → d ≤ n → Told d (events_left n g word d)
  told_left zero h = subst (Told zero) (sym (left_zero n g word)) (All-nil (IsTold zero), AllPairs-nil (λ (x y : Event). ComesBefore y x))
  told_left (suc d) h = subst (Told (suc d)) (sym (left_suc n g word d)) (told_face d (n - suc d) (omega arith) (events_left n g word d) (told_left d (omega arith)))

  -- one S is met across one side
  differ : (x y : Event) → IsTold n x → IsTold n y → ComesBefore y x → y.split ≢ x.split
  differ x y a b p e =
      let wa = a.within in
      let wb = b.within in
      let sa = a.split_is in
      let sb = b.split_is in
      let same : b.met ≡ a.met = omega arith in
      let sides : side b.face (event_place y.right) ≡ side a.face (event_place x.right) = Some_injective _ _ (sym b.onto ∙ ap (λ (k : ℕ). g (side k third)) same ∙ a.onto) in
      let face : b.face ≡ a.face = ap (λ (s : Side). s.face) sides in
      let right : y.right ≡ x.right = place_of_event y.right x.right (ap (λ (s : Side). s.place) sides) in
      let ta = a.source_is in
      let tb = b.source_is in
      elim p [
        | inl l ↦ (let q : y.source ≡ x.source = tb ∙ ap (λ (k : ℕ). n - suc k) face ∙ sym ta in omega arith)
        | inr q ↦ (let no : true ≡ false = sym q.1 ∙ right ∙ q.2 in cc)
      ]

-- in the order of the walk
split_events : {faces : ℕ} {g : Gluing} (word : List Symbol) → IsReadable faces g (length word) (word_symbol word) → AreSplitEvents (reverse word) (reverse (events_left (length word) g (word_symbol word) (length word)))
split_events {faces} {g} word T =
    let events = events_left (length word) g (word_symbol word) (length word) in
    let t = told_left T (length word) (omega arith) in
    record {
      fit = All-reverse (IsSplitEvent (reverse word)) events (All-weaker (IsTold T (length word)) (IsSplitEvent (reverse word)) fits events t.0);
      in_order = AllPairs-reverse ComesBefore events t.1;
      once = AllPairs-reverse (λ (d e : Event). d.split ≢ e.split) events
          (λ i j d l m. differ T (get_or events i d) (get_or events j d) (t.0 i d (omega arith)) (t.0 j d m) (t.1 i j d l m));
    }
  where
    turned : (k i : ℕ) → k ≡ length word - suc i → i < length word → word_symbol (reverse word) k ≡ word_symbol word i
    turned k i e l = get_or-reverse word k E (omega arith) ∙ ap (word_symbol word) (let q : length word - 1 - k ≡ i = omega arith in q)

    fits : (e : Event) → IsTold T (length word) e → IsSplitEvent (reverse word) e
    fits e a =
        let l = length-reverse word in
        let m = a.later in
        let w = a.within in
        let s = a.source_is in
        let p = a.split_is in
        record {
          within = omega arith;
          earlier = omega arith;
          splits = turned e.split a.met p w ∙ a.splits;
          meets = ap (λ (x : Symbol). may_meet x e.right) (turned e.source a.face s (omega arith)) ∙ a.meets;
        }

pub walk_notes_splits : WalkNotesSplits
walk_notes_splits faces g G F = go (is_renumbered faces g (order_of (trace faces g)) G (renumbers faces g G F))
  where
    go : (h : Gluing) × IsCarried faces g (order_of (trace faces g)) h → AreSplitEvents (reverse (word_of (trace faces g))) (reverse (trace faces g).events)
    go (h, K) = subst (λ (events : List Event). AreSplitEvents (reverse (word_of (trace faces g))) (reverse events)) (sym (word_events faces g G F h K)) (split_events (word_of (trace faces g)) (word_readable faces g G F h K))
