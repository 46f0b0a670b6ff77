-- A rebuilding symbol after symbol and side after side, and as a whole.
use Rattle.std.proofs.Common.{◌≡◌, ℕ, zero, suc, ◌+◌, ◌-◌, ◌*◌, ◌<◌, ◌≤◌, min, Bool, true, false, not, ◌==◌, nat_le, is_none, IfOk, Some, None, List, [], ◌∷◌, length, Result, Ok, Err, sym, refl, ap, subst, ◌∙◌, arith, ne_eqb, eqb-true}
use Rattle.std.proofs.lemmas.Bool.{cond-false, eqb-false}
use Rattle.drc_bits.proofs.Results.{Ok-injective, err≢ok}
use Rattle.drc_base.specs.declared.kinds.Kind.{Kind}
use Rattle.drc_base.specs.declared.kinds.Kind.TheVariants as kind
use Rattle.drc_base.specs.declared.faults.Fault.{Fault}
use Rattle.drc_base.specs.declared.faults.Refusal.{Refusal}
use Rattle.drc_base.specs.declared.faults.Refusal.TheVariants as refusal
use Rattle.drc_base.specs.Refusals.{Refuses}
use Rattle.drc_base.specs.Steps.{◌>>=◌}
use Rattle.drc_bits.proofs.Many.{one_fewer}
use Rattle.corner_table.specs.declared.symbols.Symbol.{Symbol}
use Rattle.corner_table.specs.declared.symbols.Symbol.TheVariants.{C, S, L, R, E}
use Rattle.corner_table.specs.Sides.{Side}
use Rattle.rans_binary.specs.Blocks.{Block, behind, bit_of, next_bit}
use Rattle.eb_machine.specs.Machine.{Plan, State, step, close, close_all, close_top, finish, must_be, fault, first_degenerate}
use Rattle.eb_machine.proofs.Steps.{Next, fill_loop, fill_count, filled_state, loop_test}
use Rattle.eb_machine.proofs.Counts.{If, if_ok, if_then, close_counts}
use Rattle.eb_rebuild.specs.Calls.{symbol_calls}
use Rattle.eb_rebuild.specs.Rebuilding.{BuiltValue, Moves, Ends}
use Rattle.eb_section.specs.Calls.{most_calls}
use Rattle.eb_section.specs.Feeding.{Source, fed, rebuilt, EndsAs}

-- ---- symbols

-- the next symbol is taken
pub fed-next : {S : Type 0} (next : Source S) (n k : ℕ) (source left : S) (s t : State) (x : Symbol) (whole : Result State Fault) →
    fed next n (n - k) source s ≡ whole → k < n → next source s ≡ Ok (x, left) → step n x s ≡ Ok t → fed next n (n - (k + 1)) left t ≡ whole
unfolding fed
fed-next {S} next n k source left s t x whole so fits drawn stepped =
    sym (rw (one_fewer n k fits, drawn, stepped) refl) ∙ so

-- it isn't there
pub fed-missing : {S : Type 0} (next : Source S) (n k : ℕ) (source : S) (s : State) (f : Fault) (whole : Result State Fault) →
    fed next n (n - k) source s ≡ whole → k < n → next source s ≡ Err f → whole ≡ Err f
unfolding fed
fed-missing next n k source s f whole so fits drawn = sym so ∙ rw (one_fewer n k fits, drawn) refl

-- the machine refuses it
pub fed-refused : {S : Type 0} (next : Source S) (n k : ℕ) (source left : S) (s : State) (x : Symbol) (f : Fault) (whole : Result State Fault) →
    fed next n (n - k) source s ≡ whole → k < n → next source s ≡ Ok (x, left) → step n x s ≡ Err f → whole ≡ Err f
unfolding fed
fed-refused next n k source left s x f whole so fits drawn stepped = sym so ∙ rw (one_fewer n k fits, drawn, stepped) refl

-- no symbol is left
pub fed-end : {S : Type 0} (next : Source S) (n k : ℕ) (source : S) (s : State) (whole : Result State Fault) →
    fed next n (n - k) source s ≡ whole → n ≤ k → whole ≡ Ok s
unfolding fed
fed-end next n k source s whole so done = let none : n - k ≡ 0 = omega arith in sym so ∙ rw none refl

-- the symbols taken, and those that can still come, are no more than one and those that could come: each takes one of them, but the first
pub came-on : (k more left whole : ℕ) → more + min k 1 ≤ left → k + left ≤ suc whole → (k ≡ 0 → left ≤ whole) → k + 1 + more ≤ suc whole
came-on zero more left whole drawn came first = let f = first refl in omega arith
came-on (suc k) more left whole drawn came first = omega arith

-- ---- closes

-- the next side is closed
pub closes-next : (p : Plan) (bits : ℕ → Bool) (n k : ℕ) (s t : State) (whole : Result State Fault) →
    close_all p bits (n - k) s ≡ whole → k < n → close p (bits s.closes) s ≡ Ok t → close_all p bits (n - (k + 1)) t ≡ whole
unfolding close_all
closes-next p bits n k s t whole so fits closed = sym (rw (one_fewer n k fits, closed) refl) ∙ so

-- the machine refuses the close
pub closes-refused : (p : Plan) (bits : ℕ → Bool) (n k : ℕ) (s : State) (f : Fault) (whole : Result State Fault) →
    close_all p bits (n - k) s ≡ whole → k < n → close p (bits s.closes) s ≡ Err f → whole ≡ Err f
unfolding close_all
closes-refused p bits n k s f whole so fits closed = sym so ∙ rw (one_fewer n k fits, closed) refl

-- no side is left
pub closes-end : (p : Plan) (bits : ℕ → Bool) (n k : ℕ) (s : State) (whole : Result State Fault) →
    close_all p bits (n - k) s ≡ whole → n ≤ k → whole ≡ Ok s
unfolding close_all
closes-end p bits n k s whole so done = let none : n - k ≡ 0 = omega arith in sym so ∙ rw none refl

-- a boundary builds no face, an interior face is one of those declared
abbrev pub ClosedBy : Plan → Bool → State → State → Type 0
ClosedBy p false s t = t.built ≡ s.built
ClosedBy p true s t = (t.built ≡ suc s.built) × (s.built ≤ p.faces → t.built ≤ p.faces)

counted : (p : Plan) (s : State) (a : Side) (rest : List Side) (b : Bool) → (s.built == p.faces) ≡ b →
    If (ClosedBy p true s) (must_be (not b) kind.FaceCount s.built >>= λ w. (let x : Next = Ok (filled_state a rest s) in x))
counted p s a rest true is = tt
counted p s a rest false is = let other = eqb-false s.built p.faces is in (refl, λ within. omega arith)

closed_by : (n : ℕ) (p : Plan) (b : Bool) (s : State) (a : Side) (rest : List Side) → If (ClosedBy p b s) (close_top n p b (a ∷ rest) s)
closed_by n p false s a rest = refl
closed_by n p true s a rest =
    if_then (ClosedBy p true s) (must_be (is_none (s.glued a)) kind.Gone n) (fill_loop n p a rest s)
    (λ u. if_then (ClosedBy p true s) (must_be (loop_test s a) kind.Loop n) (fill_count p a rest s)
    (λ v. counted p s a rest (s.built == p.faces) refl))

-- what a close counts where a side waits
pub record CloseCounts (p : Plan) (interior : Bool) (s t : State) : Type 0 where
  pub waiting : length t.stack + 1 ≡ length s.stack
  pub closes : t.closes ≡ s.closes + 1
  pub built : ClosedBy p interior s t

pub close_counted : (p : Plan) (b : Bool) (s t : State) → close p b s ≡ Ok t → 0 < length s.stack → CloseCounts p b s t
unfolding close
close_counted p b s t e some = go s.stack refl some
  where
    go : (l : List Side) → s.stack ≡ l → 0 < length l → CloseCounts p b s t
    go [] q h = absurd (omega arith)
    go (a ∷ rest) q h =
        let k = close_counts p b s t a rest q e in
        let x = ap {A = List Side} length k.0 in
        let y = ap {A = List Side} length q in
        record {
          waiting = omega arith;
          closes = (let z = k.2 in omega arith);
          built = if_ok (ClosedBy p b s) (close p b s) t e (subst (λ (l : List Side). If (ClosedBy p b s) (close_top (p.symbols + s.closes) p b l s)) (sym q) (closed_by (p.symbols + s.closes) p b s a rest));
        }

-- ---- refusals

-- a refused step refuses the whole run
pub moves-err : {B : Type 0} (next : Next) (new : State) (live : Bool) (e : Refusal) (whole : Result B Fault) → Moves next new live (Err e) → ((f : Fault) → next ≡ Err f → whole ≡ Err f) → Refuses whole e
moves-err next new live (refusal.Fault f) whole h so = so f h
moves-err next new live refusal.Memory whole h so = tt

-- ---- the whole

pub refuses-then : {A B : Type 0} (r : Result A Fault) (f : A → Result B Fault) (e : Refusal) → Refuses r e → Refuses (r >>= f) e
refuses-then r f (refusal.Fault x) h = ap (λ (q : Result _ Fault). q >>= f) h
refuses-then r f refusal.Memory h = tt

-- a refusal among the symbols refuses the whole
pub refused-symbol : {S : Type 0} (next : Source S) (p : Plan) (n : ℕ) (source : S) (starts : Block) (s : State) (e : Refusal) → p.symbols ≡ n →
    Refuses (fed next n n source s) e → Refuses (rebuilt next p source starts s) e
unfolding rebuilt
refused-symbol next p n source starts s e all h =
    refuses-then (fed next p.symbols p.symbols source s) (λ t. close_all p (bit_of starts) (length t.stack) t >>= finish p) e
    (subst (λ (m : ℕ). Refuses (fed next m m source s) e) (sym all) h)

-- behind all symbols the whole is what follows
behind_symbols : {S : Type 0} (next : Source S) (p : Plan) (n : ℕ) (source : S) (starts : Block) (s t : State) → p.symbols ≡ n →
    fed next n n source s ≡ Ok t → rebuilt next p source starts s ≡ (close_all p (bit_of starts) (length t.stack) t >>= finish p)
unfolding rebuilt
behind_symbols next p n source starts s t all taken =
    ap (λ (r : Next). r >>= λ t. close_all p (bit_of starts) (length t.stack) t >>= finish p) (ap (λ (m : ℕ). fed next m m source s) all ∙ taken)

-- a refusal among the closes refuses the whole
pub refused-close : {S : Type 0} (next : Source S) (p q : Plan) (n : ℕ) (source : S) (starts : Block) (s t : State) (e : Refusal) → p.symbols ≡ n → q ≡ p →
    fed next n n source s ≡ Ok t → Refuses (close_all q (bit_of starts) (length t.stack) t) e → Refuses (rebuilt next p source starts s) e
refused-close next p q n source starts s t e all same taken h =
    subst (λ (r : Next). Refuses r e) (sym (behind_symbols next p n source starts s t all taken))
    (refuses-then (close_all p (bit_of starts) (length t.stack) t) (finish p) e (subst (λ (o : Plan). Refuses (close_all o (bit_of starts) (length t.stack) t) e) same h))

-- behind all closes the whole is the tests at the end
pub behind-closes : {S : Type 0} (next : Source S) (p q : Plan) (n : ℕ) (source : S) (starts : Block) (s t u : State) → p.symbols ≡ n → q ≡ p →
    fed next n n source s ≡ Ok t → close_all q (bit_of starts) (length t.stack) t ≡ Ok u → rebuilt next p source starts s ≡ finish p u
behind-closes next p q n source starts s t u all same taken closed =
    behind_symbols next p n source starts s t all taken
    ∙ ap (λ (r : Next). r >>= finish p) (subst (λ (o : Plan). close_all o (bit_of starts) (length t.stack) t ≡ Ok u) same closed)

-- no symbols change nothing
pub fed-none : {S : Type 0} (next : Source S) (n : ℕ) (source : S) (s t : State) → fed next n n source s ≡ Ok t → n ≡ 0 → length s.stack ≡ 0 → length t.stack ≡ 0
unfolding fed
fed-none next n source s t taken none empty =
    let same : s ≡ t = Ok-injective (subst (λ (m : ℕ). fed next m m source s ≡ Ok t) none taken) in
    subst (λ (x : State). length x.stack ≡ 0) same empty

pub ends-as : (run : Next) (p : Plan) (u : State) (r : Result BuiltValue Refusal) → run ≡ finish p u → Ends p u r → EndsAs run r
ends-as run p u (Ok b) same h = (u, same ∙ h.0, h.1)
ends-as run p u (Err (refusal.Fault f)) same h = same ∙ h
ends-as run p u (Err refusal.Memory) same h = tt

-- an end without a fault has the declared faces
must-then : (b : Bool) (k : Kind) (n : ℕ) (f : Unit {0} → Next) (t : State) → (must_be b k n >>= f) ≡ Ok t → b ≡ true
must-then true k n f t e = refl
must-then false k n f t e = absurd (err≢ok e)

finish-faces : (p : Plan) (s t : State) → finish p s ≡ Ok t → s.built ≡ p.faces
unfolding finish
finish-faces p s t e = eqb-true s.built p.faces (must-then (s.built == p.faces) kind.FaceCount s.built (λ u. must_be (nat_le s.made p.created) kind.VertexCount s.made >>= λ v. last p s) t e)
  where
    last : Plan → State → Next
    last p s = elim (first_degenerate s.built s.glued s.built) [ None ↦ Ok s | Some f ↦ Err (fault kind.Degenerate f) ]

pub ended-faces : (p q : Plan) (s : State) (r : Result BuiltValue Refusal) → q ≡ p → Ends q s r → IfOk r (λ b. b.table.faces ≡ p.faces)
ended-faces p q s (Ok b) same h = h.1.faces ∙ finish-faces q s s h.0 ∙ ap (λ (o : Plan). o.faces) same
ended-faces p q s (Err e) same h = tt

-- ---- table calls

-- a symbol takes eight at most
pub few_calls : (x : Symbol) → symbol_calls x ≤ 8
few_calls C = omega arith
few_calls S = omega arith
few_calls L = omega arith
few_calls R = omega arith
few_calls E = omega arith

-- some faces take eleven each, and four more
most_calls_are : (f : ℕ) → most_calls (suc f) ≡ 11 * suc f + 4
most_calls_are f = cond-false _ _ _ (ne_eqb (suc f) 0 (λ e. omega arith))

-- fewer faces take no more calls
pub most_calls-le : (a b : ℕ) → a ≤ b → most_calls a ≤ most_calls b
most_calls-le zero b h = omega arith
most_calls-le (suc a) zero h = absurd (omega arith)
most_calls-le (suc a) (suc b) h =
    let bound : 11 * suc a + 4 ≤ 11 * suc b + 4 = omega arith in
    subst (λ (m : ℕ). m ≤ most_calls (suc b)) (sym (most_calls_are a)) (subst (λ (m : ℕ). 11 * suc a + 4 ≤ m) (sym (most_calls_are b)) bound)

-- what comes of so many faces and symbols
pub built_from : (faces count : ℕ) → count ≤ faces → (count ≤ min faces (2 * count)) × (min faces (2 * count) ≤ 2 * count)
built_from faces count few = (omega arith, omega arith)

-- symbols that were refused
pub symbols-within : (before after drawn faces room : ℕ) → after ≤ before + 8 * drawn → drawn ≤ faces → min faces (2 * drawn) ≤ room → after ≤ before + most_calls room
symbols-within before after drawn faces zero cost few fits = let b = built_from faces drawn few in omega arith
symbols-within before after drawn faces (suc room) cost few fits =
    let b = built_from faces drawn few in
    let most : after ≤ before + (11 * suc room + 4) = omega arith in
    subst (λ (m : ℕ). after ≤ before + m) (sym (most_calls_are room)) most

-- symbols, closes and the labelling, where there is room for what is built
within-room : (before between after last count built room : ℕ) → between ≤ before + 8 * count → after + 8 * count ≤ between + 8 * built + 4 → last ≤ after + 3 * room →
    count ≤ built → built ≤ room → (count ≡ 0 → after ≡ between) → last ≤ before + most_calls room
within-room before between after last count built zero first second third few fits none = let k = none (omega arith) in omega arith
within-room before between after last count built (suc room) first second third few fits none =
    let most : last ≤ before + (11 * suc room + 4) = omega arith in
    subst (λ (m : ℕ). last ≤ before + m) (sym (most_calls_are room)) most

pub calls-within : (p q : Plan) (before between after last count built left room : ℕ) → count ≤ p.faces → built ≡ count → q ≡ p → count ≤ suc left →
    between ≤ before + 8 * min count (suc left) → after + 8 * built ≤ between + 8 * min q.faces (2 * built) + 4 → last ≤ after + 3 * room →
    min p.faces (2 * min count (suc left)) ≤ room → (count ≡ 0 → after ≡ between) → last ≤ before + most_calls room
calls-within p q before between after last count built left room few all same came first second third fits none =
    let n : min count (suc left) ≡ count = omega arith in
    let faces : q.faces ≡ p.faces = ap (λ (o : Plan). o.faces) same in
    let one : between ≤ before + 8 * count = subst (λ (m : ℕ). between ≤ before + 8 * m) n first in
    let two : after + 8 * count ≤ between + 8 * min p.faces (2 * count) + 4 =
    subst (λ (f : ℕ). after + 8 * count ≤ between + 8 * min f (2 * count) + 4) faces (subst (λ (b : ℕ). after + 8 * b ≤ between + 8 * min q.faces (2 * b) + 4) all second) in
    let room_for : min p.faces (2 * count) ≤ room = subst (λ (m : ℕ). min p.faces (2 * m) ≤ room) n fits in
    within-room before between after last count (min p.faces (2 * count)) room one two third (built_from p.faces count few).0 room_for none

-- a labelling where there is this room
pub labelled-within : (after last was is : ℕ) → was ≡ is → last ≤ after + 3 * was → last ≤ after + 3 * is
labelled-within after last was is same h = omega arith

-- none
pub unlabelled : (after room : ℕ) → after ≤ after + 3 * room
unlabelled after room = omega arith

-- a close that builds no face takes no call
pub closed-cost : (p : Plan) (b : Bool) (s t : State) (first before between after : ℕ) → CloseCounts p b s t → between + 8 * first ≤ before + 8 * s.built →
    after ≤ between + 8 → (b ≡ false → after ≡ between) → after + 8 * first ≤ before + 8 * t.built
closed-cost p false s t first before between after counts so most none = let e = none refl in let f = counts.built in omega arith
closed-cost p true s t first before between after counts so most none = let f = counts.built.0 in omega arith

-- no close takes a face away, and none builds more than one, or more than are declared
pub closed-built : (p : Plan) (b : Bool) (s t : State) → CloseCounts p b s t → (s.built ≤ t.built) × (s.built ≤ p.faces → t.built ≤ p.faces) × (t.built ≤ s.built + 1)
closed-built p false s t counts = let f = counts.built in (omega arith, λ within. omega arith, omega arith)
closed-built p true s t counts = let f = counts.built.0 in (omega arith, counts.built.1, omega arith)

-- the bit that is drawn has the number of the close
pub bit-drawn : (left starts : Block) (k closes : ℕ) (interior : Bool) → left ≡ behind k starts → closes ≡ k → interior ≡ next_bit left → interior ≡ bit_of starts closes
bit-drawn left starts k closes interior at number drawn = drawn ∙ ap next_bit at ∙ ap (bit_of starts) (sym number)
