-- Written symbols are fed to the machine as they were, and of written start bits no others are looked at.
use Rattle.std.proofs.Common.{◌≡◌, ℕ, zero, suc, ◌+◌, ◌*◌, ◌<◌, ◌≤◌, Bool, false, List, [], ◌∷◌, ◌++◌, length, reverse, flat_map, get_or, Option, Some, None, Result, Ok, Err, sym, refl, ap, ◌∙◌, arith, append_assoc, append-nil, length-append}
use Rattle.std.specs.Prelude.{slice_get, count_by}
use Rattle.std.proofs.lemmas.Grind.{flat_map-append}
use Rattle.std.proofs.lemmas.List.{reverse-append, length-reverse}
use Rattle.std.proofs.lemmas.Option.{get_or_from_slice_get}
use Rattle.drc_base.specs.declared.faults.Fault.{Fault}
use Rattle.drc_base.specs.Steps.{◌>>=◌}
use Rattle.drc_bits.specs.Bits.{AreBits, bits_left}
use Rattle.drc_bits.proofs.PackedBits.{AreBits-append, AreBits-low_bits}
use Rattle.drc_bits.proofs.BitLists.{length-low_bits}
use Rattle.corner_table.specs.declared.symbols.Symbol.{Symbol}
use Rattle.corner_table.specs.declared.symbols.Symbol.TheVariants.{C, S, L, R, E}
use Rattle.corner_table.specs.declared.symbols.Event.{Event}
use Rattle.corner_table.specs.Sides.{Side}
use Rattle.rans_binary.specs.Blocks.{Block, bit_of}
use Rattle.eb_machine.specs.Machine.{Plan, State, start, step, take_symbols, close, close_all, finish, rebuild}
use Rattle.eb_machine.proofs.Closes.{symbols_close_none, close_takes_one, run_closes_all}
use Rattle.eb_standard.specs.SymbolBits.{symbol_bits, reversed_bits, place_behind_symbol}
use Rattle.eb_standard.proofs.Reading.{reads_back}
use Rattle.eb_valence.specs.Contexts.{context_lists, symbol_at, fed_by_context as context_fed}
use Rattle.eb_valence.proofs.ReadBack.{words_read_back}
use Rattle.eb_machine.specs.Shown.{is_split}
use Rattle.eb_valence.specs.Noting.{TakesWord}
use Rattle.eb_trace.specs.Writable.{IsReadBack, IsWritable}
use Rattle.eb_section.specs.Feeding.{Source, fed, rebuilt, Standard, standard}

-- ---- steps that go on alike

bind-same : {A B : Type 0} (r : Result A Fault) (f g : A → Result B Fault) → ((x : A) → r ≡ Ok x → f x ≡ g x) → (r >>= f) ≡ (r >>= g)
bind-same (Ok x) f g same = same x refl
bind-same (Err e) f g same = refl

-- ---- the bits of symbols

-- the bits of the symbols from the last on are those of the list turned round
pub bits-reversed : (symbols : List Symbol) → reversed_bits symbols ≡ flat_map symbol_bits (reverse symbols)
bits-reversed [] = refl
bits-reversed (x ∷ symbols) =
    ap (λ bits. bits ++ symbol_bits x) (bits-reversed symbols)
    ∙ sym (
    ap (flat_map symbol_bits) (reverse-append (x ∷ []) symbols)
    ∙ flat_map-append symbol_bits (reverse symbols) (x ∷ [])
    ∙ ap (λ bits. flat_map symbol_bits (reverse symbols) ++ bits) (append-nil (symbol_bits x)))

AreBits-symbol : (x : Symbol) → AreBits (symbol_bits x)
AreBits-symbol C = AreBits-low_bits 1 0
AreBits-symbol S = AreBits-low_bits 3 1
AreBits-symbol L = AreBits-low_bits 3 3
AreBits-symbol R = AreBits-low_bits 3 5
AreBits-symbol E = AreBits-low_bits 3 7

pub AreBits-symbols : (symbols : List Symbol) → AreBits (reversed_bits symbols)
AreBits-symbols [] = tt
AreBits-symbols (x ∷ symbols) = AreBits-append (reversed_bits symbols) (symbol_bits x) (AreBits-symbols symbols) (AreBits-symbol x)

three-most : (x : Symbol) → length (symbol_bits x) ≤ 3
three-most C = omega (arith, length-low_bits 1 0)
three-most S = omega (arith, length-low_bits 3 1)
three-most L = omega (arith, length-low_bits 3 3)
three-most R = omega (arith, length-low_bits 3 5)
three-most E = omega (arith, length-low_bits 3 7)

-- they are three a symbol at most
pub length-symbols : (symbols : List Symbol) → length (reversed_bits symbols) ≤ 3 * length symbols
length-symbols [] = omega arith
length-symbols (x ∷ symbols) = omega (arith, length-append (reversed_bits symbols) (symbol_bits x), length-symbols symbols, three-most x)

-- ---- symbols as they are fed

-- where the bits of a word come next, the machine takes exactly the word, also to a fault
fed-word : (n : ℕ) (word : List Symbol) (source : Standard) (s : State) (rest : List ℕ)
    → source.place.begun ≡ false → bits_left source.place.place ≡ flat_map symbol_bits word ++ rest
    → fed standard n (length word) source s ≡ take_symbols n word s
unfolding fed take_symbols
fed-word n [] source s rest begun bits = refl
fed-word n (x ∷ word) source s rest begun bits =
    let read = reads_back source.place x (flat_map symbol_bits word ++ rest) begun (bits ∙ append_assoc (symbol_bits x) (flat_map symbol_bits word) rest) in
    let left : Standard = record { short = source.short; place = place_behind_symbol source.place } in
    let drawn : Option Symbol → Result (Symbol × Standard) Fault = λ o. elim o [ None ↦ Err source.short | Some y ↦ Ok (y, left) ] in
    ap (λ o. drawn o >>= λ y. step n y.0 s >>= fed standard n (length word) y.1) read.0
    ∙ bind-same (step n x s) (fed standard n (length word) left) (take_symbols n word) (λ t is. fed-word n word left t rest read.2 read.1)

-- so for the symbols of a section, the last first
pub fed-standard : (symbols : List Symbol) (source : Standard) (s : State) (rest : List ℕ)
    → source.place.begun ≡ false → bits_left source.place.place ≡ reversed_bits symbols ++ rest
    → fed standard (length symbols) (length symbols) source s ≡ take_symbols (length symbols) (reverse symbols) s
fed-standard symbols source s rest begun bits =
    ap (λ n. fed standard (length symbols) n source s) (sym (length-reverse symbols))
    ∙ fed-word (length symbols) (reverse symbols) source s rest begun (bits ∙ ap (λ xs. xs ++ rest) (bits-reversed symbols))

-- the machine is fed from contexts as it is there
fed-same : (n left : ℕ) (lists : List (List ℕ)) (s : State) → fed symbol_at n left lists s ≡ context_fed n left lists s
unfolding fed context_fed
fed-same n zero lists s = refl
fed-same n (suc left) lists s =
    bind-same (symbol_at lists s) (λ x. step n x.0 s >>= fed symbol_at n left x.1) (λ x. step n x.0 s >>= context_fed n left x.1)
    (λ x is. bind-same (step n x.0 s) (fed symbol_at n left x.1) (context_fed n left x.1) (λ t so. fed-same n left x.1 t))

-- where it takes the symbols of a section without a fault, it does so from their contexts
pub fed-contexts : (symbols : List Symbol) (events : List Event) (t : State)
    → take_symbols (length symbols) (reverse symbols) (start (reverse events)) ≡ Ok t
    → fed symbol_at (length symbols) (length symbols) (context_lists symbols events) (start (reverse events)) ≡ Ok t
fed-contexts symbols events t takes =
    ap (λ n. fed symbol_at (length symbols) n (context_lists symbols events) (start (reverse events))) (sym (length-reverse symbols))
    ∙ fed-same (length symbols) (length (reverse symbols)) (context_lists symbols events) (start (reverse events))
    ∙ words_read_back (length symbols) (reverse symbols) (start (reverse events)) t (λ none. refl) takes

-- ---- start bits

-- closes look at no other bits than those of the sides that wait
closes-same : (p : Plan) (f g : ℕ → Bool) (most : ℕ) → ((k : ℕ) → k < most → f k ≡ g k) → (sides : List Side) (s : State)
    → s.stack ≡ sides → s.closes + length sides ≤ most → close_all p f (length sides) s ≡ close_all p g (length sides) s
unfolding close_all
closes-same p f g most same [] s wait few = refl
closes-same p f g most same (a ∷ sides) s wait few =
    ap (λ bit. close p bit s >>= close_all p f (length sides)) (same s.closes (omega arith))
    ∙ bind-same (close p (g s.closes) s) (close_all p f (length sides)) (close_all p g (length sides))
    (λ t is. let one = close_takes_one p (g s.closes) s t a sides wait is in closes-same p f g most same sides t one.0 (omega (arith, one.1, few)))

-- ---- the whole

-- a source from which the machine is fed as by the symbols, and a block that begins with the start bits, rebuild what these do
pub rebuilt-again : {A : Type 0} (next : Source A) (source : A) (b : Block) (p : Plan) (symbols : List Symbol) (events : List Event) (starts : List Bool)
    → p.symbols ≡ length symbols
    → (back : IsReadBack p symbols events starts)
    → ((t : State) → take_symbols (length symbols) (reverse symbols) (start (reverse events)) ≡ Ok t
    → fed next (length symbols) (length symbols) source (start (reverse events)) ≡ Ok t)
    → ((k : ℕ) → k < length starts → slice_get starts k ≡ Some (bit_of b k))
    → rebuilt next p source b (start (reverse events)) ≡ Ok back.last
unfolding rebuilt rebuild
rebuilt-again next source b p symbols events starts many back feeds numbered =
    let bits : ℕ → Bool = λ k. get_or starts k false in
    let m = run_closes_all p (reverse symbols) (reverse events) bits back.last back.no_fault in
    let taken : take_symbols (length symbols) (reverse symbols) (start (reverse events)) ≡ Ok m.between =
    ap (λ n. take_symbols n (reverse symbols) (start (reverse events))) (sym many) ∙ m.symbols_taken in
    let same : (k : ℕ) → k < length starts → bit_of b k ≡ bits k = λ k below. sym (get_or_from_slice_get starts k (bit_of b k) false (numbered k below)) in
    let none = (symbols_close_none (length symbols) (reverse symbols) (start (reverse events)) m.between taken).1 in
    let few : m.between.closes + length m.between.stack ≤ length starts = omega (arith, none, m.waiting, back.closes) in
    let next_is : fed next p.symbols p.symbols source (start (reverse events)) ≡ Ok m.between =
    ap (λ n. fed next n n source (start (reverse events))) many ∙ feeds m.between taken in
    ap (λ (r : Result State Fault). r >>= λ t. close_all p (bit_of b) (length t.stack) t >>= finish p) next_is
    ∙ ap (λ (r : Result State Fault). r >>= finish p) (closes-same p (bit_of b) bits (length starts) same m.between.stack m.between refl few)
    ∙ sym (ap (λ (r : Result State Fault). r >>= λ t. close_all p bits (length t.stack) t >>= finish p) m.symbols_taken)
    ∙ back.no_fault

-- the machine takes the symbols of a trace that is written
pub takes-of : (faces vertices : ℕ) (symbols : List Symbol) (events : List Event) (starts : List Bool) → IsWritable faces vertices symbols events starts
    → TakesWord (length symbols) (reverse symbols) (start (reverse events))
takes-of faces vertices symbols events starts w =
    let created : ℕ = vertices + count_by is_split (reverse symbols) in
    let back = w.read_back created (omega arith) in
    let m = run_closes_all (record { faces = faces; created = created; symbols = length symbols }) (reverse symbols) (reverse events) (λ k. get_or starts k false) back.last back.no_fault in
    (m.between, m.symbols_taken)
