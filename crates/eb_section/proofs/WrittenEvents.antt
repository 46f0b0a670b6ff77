-- Written events are read again.
use Rattle.std.proofs.Common.{◌≡◌, ℕ, suc, ◌+◌, ◌-◌, ◌^◌, ◌<◌, ◌≤◌, ◌==◌, Bool, true, false, List, [], ◌∷◌, ◌++◌, length, map, Ok, nat_le, nat_lt, if◌then◌else◌, sym, refl, ap, ◌∙◌, subst, arith, append_assoc, append-nil, le-leb, lt-ltb}
use Rattle.std.specs.List.{All}
use Rattle.std.proofs.lemmas.List.{length-map}
use Rattle.drc_base.specs.declared.kinds.Kind.TheVariants as kind
use Rattle.drc_base.specs.Steps.{◌>>=◌}
use Rattle.drc_bits.specs.Reading.{must, chain_at}
use Rattle.drc_bits.specs.Bits.{AreBits, bits_at, packed}
use Rattle.drc_bits.specs.Varint.{var32_at, spelling}
use Rattle.drc_bits.specs.Spells.{Spells}
use Rattle.drc_bits.proofs.Spelled.{Spells-none, Spells-then, Spells-must, Spells-var32}
use Rattle.drc_bits.proofs.PackedBits.{Spells-bits}
use Rattle.drc_bits.proofs.Chains.{chain_bytes, ChainSpelled, Spells-chain}
use Rattle.corner_table.specs.declared.symbols.Event.{Event}
use Rattle.eb_machine.specs.Events.{IsEventOf}
use Rattle.eb_trace.specs.Writable.{RiseFrom}
use Rattle.eb_section.specs.declared.opening.Opening.{Opening}
use Rattle.eb_section.specs.declared.events.EventNumbers.{EventNumbers}
use Rattle.eb_section.specs.Events.{no_numbers, numbers_at, events_of, event_count_at, events_at}
use Rattle.eb_section.specs.Written.{numbers_bytes, side_bit, events_bytes}

-- the numbers of an event
abbrev numbers_of : Event → EventNumbers
numbers_of e = record { source = e.source; split = e.split }

-- ---- numbers

-- the bytes of numbers behind those of an event before
abbrev bytes_of : EventNumbers → EventNumbers → List ℕ
bytes_of before x = spelling 5 (x.source - before.source) ++ spelling 5 (x.source - x.split)

Spells-event : (symbols : ℕ) (before x : EventNumbers) → symbols < 2 ^ 32 → before.source ≤ x.source → x.source < symbols → x.split ≤ x.source
    → Spells (numbers_at symbols before) (bytes_of before x) x
unfolding numbers_at
Spells-event symbols before x small rises below earlier =
    let ahead : ℕ = x.source - before.source in
    let back : ℕ = x.source - x.split in
    let there : before.source + ahead ≡ x.source = omega (arith, rises) in
    let split_is : before.source + ahead - back ≡ x.split = omega (arith, rises, earlier) in
    let told : EventNumbers = record { source = before.source + ahead; split = before.source + ahead - back } in
    let same : told ≡ x = ap (λ (s : ℕ). let y : EventNumbers = record { source = s; split = before.source + ahead - back } in y) there
    ∙ ap (λ (p : ℕ). let y : EventNumbers = record { source = x.source; split = p } in y) split_is in
    let first : nat_lt (before.source + ahead) symbols ≡ true = lt-ltb (before.source + ahead) symbols (omega (arith, there, below)) in
    let second : nat_le back (before.source + ahead) ≡ true = le-leb back (before.source + ahead) (omega (arith, there)) in
    subst (λ y. Spells (numbers_at symbols before) (bytes_of before x) y) same
    (subst (λ bytes. Spells (numbers_at symbols before) bytes told) (ap (λ l. spelling 5 ahead ++ l) (append-nil (spelling 5 back)))
    (Spells-then (must kind.EventDelta (λ d. nat_lt (before.source + d) symbols) var32_at)
    (λ a c. must kind.EventDelta (λ d. nat_le d (before.source + a)) var32_at c >>= λ b. Ok (record { source = before.source + a; split = before.source + a - b.0 }, b.1))
    (spelling 5 ahead) (spelling 5 back ++ []) ahead told
    (Spells-must kind.EventDelta (λ d. nat_lt (before.source + d) symbols) var32_at (spelling 5 ahead) ahead first (Spells-var32 ahead (omega (arith, small, below))))
    (Spells-then (must kind.EventDelta (λ d. nat_le d (before.source + ahead)) var32_at)
    (λ b c. Ok (record { source = before.source + ahead; split = before.source + ahead - b }, c))
    (spelling 5 back) [] back told
    (Spells-must kind.EventDelta (λ d. nat_le d (before.source + ahead)) var32_at (spelling 5 back) back second (Spells-var32 back (omega (arith, small, below))))
    (Spells-none told))))

-- each event of those that rise is
each-spelled : (symbols : ℕ) (before : EventNumbers) (events : List Event) → symbols < 2 ^ 32 → RiseFrom before.source events → All (IsEventOf symbols) events
    → ChainSpelled (numbers_at symbols) bytes_of before (map numbers_of events)
each-spelled symbols before [] small rise fit = tt
each-spelled symbols before (e ∷ events) small rise fit =
    let here = fit 0 e (omega arith) in (
      Spells-event symbols before (numbers_of e) small rise.0 here.0 here.1,
      each-spelled symbols (numbers_of e) events small rise.1 (λ k d h. fit (suc k) d (omega (arith, h))),
    )

chain-is : (before : EventNumbers) (events : List Event) → chain_bytes bytes_of before (map numbers_of events) ≡ numbers_bytes before.source events
unfolding numbers_bytes
chain-is before [] = refl
chain-is before (e ∷ events) = ap (λ l. bytes_of before (numbers_of e) ++ l) (chain-is (numbers_of e) events)

Spells-chained : (symbols : ℕ) (events : List Event) → symbols < 2 ^ 32 → RiseFrom 0 events → All (IsEventOf symbols) events
    → Spells (chain_at (numbers_at symbols) (length events) no_numbers) (numbers_bytes 0 events) (map numbers_of events)
Spells-chained symbols events small rise fit =
    subst (λ bytes. Spells (chain_at (numbers_at symbols) (length events) no_numbers) bytes (map numbers_of events)) (chain-is no_numbers events)
    (subst (λ n. Spells (chain_at (numbers_at symbols) n no_numbers) (chain_bytes bytes_of no_numbers (map numbers_of events)) (map numbers_of events)) (length-map events numbers_of)
    (Spells-chain (numbers_at symbols) bytes_of no_numbers (map numbers_of events) (each-spelled symbols no_numbers events small rise fit)))

-- ---- sides

AreBits-sides : (events : List Event) → AreBits (map side_bit events)
AreBits-sides [] = tt
AreBits-sides (e ∷ events) = (low e.right, AreBits-sides events)
  where
    low : (right : Bool) → (if right then 1 else 0) < 2
    low true = omega arith
    low false = omega arith

Spells-sides : (events : List Event) → Spells (bits_at (length events)) (packed (map side_bit events)) (map side_bit events)
Spells-sides events =
    subst (λ n. Spells (bits_at n) (packed (map side_bit events)) (map side_bit events)) (length-map events side_bit)
    (Spells-bits (map side_bit events) (AreBits-sides events))

-- ---- events

side-again : (e : Event) → (side_bit e == 1) ≡ e.right
side-again e = is e.right
  where
    is : (right : Bool) → ((if right then 1 else 0) == 1) ≡ right
    is true = refl
    is false = refl

events-again : (events : List Event) → events_of (map numbers_of events) (map side_bit events) ≡ events
events-again [] = refl
events-again (e ∷ events) =
    ap (λ (b : Bool). let x : Event = record { source = e.source; split = e.split; right = b } in x ∷ events_of (map numbers_of events) (map side_bit events)) (side-again e)
    ∙ ap (λ l. e ∷ l) (events-again events)

pub Spells-events : (o : Opening) (events : List Event) → length events ≤ o.symbols → o.symbols ≤ o.faces → o.faces < 2 ^ 32
    → RiseFrom 0 events → All (IsEventOf o.symbols) events → Spells (events_at o) (events_bytes events) events
unfolding events_at events_bytes
Spells-events o events few_events few_symbols small rise fit =
    let numbers : List ℕ = numbers_bytes 0 events in
    let sides : List ℕ = packed (map side_bit events) in
    let n : ℕ = length events in
    subst (λ bytes. Spells (events_at o) bytes events) (by_groups (spelling 5 n) numbers sides)
    (Spells-then (event_count_at o.faces)
    (λ count c. chain_at (numbers_at o.symbols) count no_numbers c >>= λ xs. bits_at count xs.1 >>= λ bits. Ok (events_of xs.0 bits.0, bits.1))
    (spelling 5 n) (numbers ++ (sides ++ [])) n events
    (Spells-must kind.Count (λ n. nat_le n o.faces) var32_at (spelling 5 n) n (le-leb n o.faces (omega (arith, few_events, few_symbols))) (Spells-var32 n (omega (arith, few_events, few_symbols, small))))
    (Spells-then (chain_at (numbers_at o.symbols) n no_numbers)
    (λ xs c. bits_at n c >>= λ bits. Ok (events_of xs bits.0, bits.1))
    numbers (sides ++ []) (map numbers_of events) events (Spells-chained o.symbols events (omega (arith, few_symbols, small)) rise fit)
    (Spells-then (bits_at n) (λ bits c. Ok (events_of (map numbers_of events) bits, c)) sides [] (map side_bit events) events (Spells-sides events)
    (subst (λ x. Spells (λ c. Ok (x, c)) [] events) (sym (events-again events)) (Spells-none events)))))
  where
    by_groups : (a b d : List ℕ) → a ++ (b ++ (d ++ [])) ≡ a ++ b ++ d
    by_groups a b d = simp (append_assoc, append-nil)
