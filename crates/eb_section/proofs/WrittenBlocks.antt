-- Written blocks of bits and lists of contexts are read again.
use Rattle.std.proofs.Common.{◌≡◌, ℕ, suc, ◌^◌, ◌<◌, ◌≤◌, Bool, true, false, cond, ◌==◌, List, [], ◌∷◌, ◌++◌, length, map, flat_map, reverse, Result, Ok, Err, nat_le, sym, ap, subst, arith, le-leb}
use Rattle.std.specs.List.{All, filter, range_with_len}
use Rattle.std.proofs.lemmas.List.{length-append, length-map, length-reverse}
use Rattle.std.proofs.lemmas.List.Elements.{All-head, All-tail, All-map}
use Rattle.std.proofs.lemmas.List.Sums.{length-filter, count_by-le-length}
use Rattle.drc_base.specs.declared.kinds.Kind.TheVariants as kind
use Rattle.drc_base.specs.declared.faults.Fault.{Fault}
use Rattle.drc_base.specs.Steps.{◌>>=◌}
use Rattle.drc_bits.specs.Reading.{Reading, Item, must, many_at}
use Rattle.drc_bits.specs.Varint.{var32_at, spelling}
use Rattle.drc_bits.specs.Spells.{Spells}
use Rattle.drc_bits.proofs.Spelled.{Spells-none, Spells-then, Spells-must, Spells-var32}
use Rattle.rans_binary.specs.Blocks.{Block, IsBlockOf, block, bit_block_at}
use Rattle.symbol_coding.specs.Block.{block_bytes, block_at as symbols_at}
use Rattle.corner_table.specs.declared.symbols.Symbol.{Symbol}
use Rattle.corner_table.specs.declared.symbols.Event.{Event}
use Rattle.eb_machine.specs.Machine.{State, start, step}
use Rattle.eb_valence.specs.declared.context_lists.TheConstants.{CONTEXTS}
use Rattle.eb_valence.specs.Numbers.{symbol_number}
use Rattle.eb_valence.specs.Contexts.{CodedSymbol, context, coded, context_coded_at, context_list, context_lists}
use Rattle.eb_section.specs.Connectivity.{list_at}
use Rattle.eb_section.specs.Written.{list_bytes, blocks_bytes}
use Rattle.eb_section.specs.ReadAgain.{BeginWith}
use Rattle.eb_section.specs.CodedBlocks.{AreBlocks, IsSymbolBlock}

-- ---- items one after another

-- one item more
Spells-more : {A : Type 0} (item : Reading → Item A) (n : ℕ) (a b : List ℕ) (x : A) (xs : List A) → Spells item a x → Spells (many_at item n) b xs → Spells (many_at item (suc n)) (a ++ b) (x ∷ xs)
unfolding many_at
Spells-more item n a b x xs first rest =
    Spells-then item (λ v c. many_at item n c >>= λ vs. Ok (v ∷ vs.0, vs.1)) a b x (x ∷ xs) first
    (record { reads = λ place after. ap (λ r. r >>= λ vs. Ok (x ∷ vs.0, vs.1)) (rest.reads place after) })

Spells-no_more : {A : Type 0} (item : Reading → Item A) → Spells (many_at item 0) [] []
unfolding many_at
Spells-no_more item = Spells-none []

-- ---- blocks of bits

-- blocks that are read from the bytes of these lists, and begin with their bits
pub record AreRead (lists : List (List Bool)) : Type 0 where
  pub blocks : List Block
  pub spells : Spells (many_at bit_block_at (length lists)) (blocks_bytes lists) blocks
  pub begin : BeginWith lists blocks

pub blocks-again : (lists : List (List Bool)) → AreBlocks lists → AreRead lists
blocks-again [] each = record { blocks = []; spells = Spells-no_more bit_block_at; begin = tt }
blocks-again (bits ∷ lists) each =
    let here : IsBlockOf bits (block bits) = All-head (λ x. IsBlockOf x (block x)) bits lists each in
    let rest = blocks-again lists (All-tail (λ x. IsBlockOf x (block x)) bits lists each) in
    record {
      blocks = here.start ∷ rest.blocks;
      spells = Spells-more bit_block_at (length lists) (block bits) (blocks_bytes lists) here.start rest.blocks here.spells rest.spells;
      begin = (record { first = here.first; numbered = here.numbered }, rest.begin);
    }

-- ---- lists of contexts

Spells-list : (symbols : ℕ) (numbers : List ℕ) → length numbers ≤ symbols → symbols < 2 ^ 32 → IsSymbolBlock numbers
    → Spells (list_at symbols) (list_bytes numbers) numbers
unfolding list_at
Spells-list symbols numbers few small reads =
    Spells-then (must kind.Count (λ n. nat_le n symbols) var32_at) (λ n c. symbols_at n 1 c) (spelling 5 (length numbers)) (block_bytes numbers 1) (length numbers) numbers
    (Spells-must kind.Count (λ n. nat_le n symbols) var32_at (spelling 5 (length numbers)) (length numbers) (le-leb (length numbers) symbols few) (Spells-var32 (length numbers) (omega (arith, few, small))))
    reads

pub Spells-lists : (symbols : ℕ) (lists : List (List ℕ)) → symbols < 2 ^ 32 → All (λ numbers. length numbers ≤ symbols) lists → All IsSymbolBlock lists
    → Spells (many_at (list_at symbols) (length lists)) (flat_map list_bytes lists) lists
Spells-lists symbols [] small short each = Spells-no_more (list_at symbols)
Spells-lists symbols (numbers ∷ lists) small short each =
    Spells-more (list_at symbols) (length lists) (list_bytes numbers) (flat_map list_bytes lists) numbers lists
    (Spells-list symbols numbers (All-head (λ x. length x ≤ symbols) numbers lists short) small (All-head IsSymbolBlock numbers lists each))
    (Spells-lists symbols lists small (All-tail (λ x. length x ≤ symbols) numbers lists short) (All-tail IsSymbolBlock numbers lists each))

-- a context has no more numbers than there are symbols
one-most : (s : State) (x : Symbol) → length (context_coded_at s x) ≤ 1
one-most s x = is (s.built == 0) (record { context = context s; number = symbol_number x })
  where
    is : (b : Bool) (c : CodedSymbol) → length (let l : List CodedSymbol = cond b [] (c ∷ []) in l) ≤ 1
    is true c = omega arith
    is false c = omega arith

fewer-coded : (n : ℕ) (word : List Symbol) (s : State) → length (coded n word s) ≤ length word
unfolding coded
fewer-coded n [] s = omega arith
fewer-coded n (x ∷ word) s =
    elim (step n x s) as (λ (r : Result State Fault). length (let l : List CodedSymbol = elim r [ Err f ↦ [] | Ok t ↦ context_coded_at s x ++ coded n word t ] in l) ≤ suc (length word)) [
      | Err f ↦ omega arith
      | Ok t ↦ omega (arith, length-append (context_coded_at s x) (coded n word t), fewer-coded n word t, one-most s x)
    ]

fewer-numbers : (symbols : List Symbol) (events : List Event) (k : ℕ)
    → length (context_list (coded (length symbols) (reverse symbols) (start (reverse events))) k) ≤ length symbols
unfolding context_list
fewer-numbers symbols events k =
    let codes : List CodedSymbol = coded (length symbols) (reverse symbols) (start (reverse events)) in
    let chosen : List CodedSymbol = filter (λ c. c.context == k) codes in
    omega (
      arith,
      length-reverse (map (λ c. c.number) chosen),
      length-map chosen (λ c. c.number),
      length-filter (λ c. c.context == k) codes,
      count_by-le-length (λ c. c.context == k) codes,
      fewer-coded (length symbols) (reverse symbols) (start (reverse events)),
      length-reverse symbols,
    )

pub short-lists : (symbols : List Symbol) (events : List Event) → All (λ numbers. length numbers ≤ length symbols) (context_lists symbols events)
short-lists symbols events =
    All-map (λ numbers. length numbers ≤ length symbols) (context_list (coded (length symbols) (reverse symbols) (start (reverse events)))) (range_with_len 0 CONTEXTS)
    (λ k d below. fewer-numbers symbols events _)

-- so no more than a limit
pub short-contexts : (symbols : List Symbol) (events : List Event) (most : ℕ) (lists : List (List ℕ)) → length symbols ≤ most → lists ≡ context_lists symbols events
    → All (λ numbers. length numbers ≤ most) lists
short-contexts symbols events most lists few is =
    let P : List (List ℕ) → Type 0 = λ l. All (λ numbers. length numbers ≤ most) l in
    subst P (sym is) (λ k d below. omega (arith, short-lists symbols events k d below, few))
