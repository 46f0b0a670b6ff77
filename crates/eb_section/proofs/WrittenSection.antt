-- A written section is read again.
use Rattle.std.proofs.Common.{◌≡◌, ℕ, ◌+◌, ◌^◌, ◌<◌, ◌≤◌, Bool, true, false, cond, List, [], ◌∷◌, ◌++◌, length, reverse, flat_map, Result, Ok, if◌then◌else◌, sym, refl, ap, ◌∙◌, subst, arith, append_assoc, append-nil, length-append}
use Rattle.std.specs.List.{All, count_by}
use Rattle.std.proofs.lemmas.List.{reverse-append}
use Rattle.std.proofs.lemmas.List.Sums.{count_by-le-length, sum_by-append}
use Rattle.drc_base.specs.declared.kinds.Kind.TheVariants as kind
use Rattle.drc_base.specs.declared.limits.TheConstants.{MAX_FACES, MAX_POINTS, MAX_ATTRIBUTES}
use Rattle.drc_base.specs.declared.faults.Fault.{Fault}
use Rattle.drc_base.specs.Profile.{profile}
use Rattle.drc_base.specs.Steps.{◌>>=◌}
use Rattle.drc_bits.specs.Reading.{Reading, Item, many_at}
use Rattle.drc_bits.specs.Bits.{packed}
use Rattle.drc_bits.specs.Varint.{spelling}
use Rattle.drc_bits.specs.Spells.{Spells}
use Rattle.drc_bits.proofs.Spelled.{Spells-none, Spells-then, Spells-same}
use Rattle.drc_bits.proofs.PackedBits.{length-packed, packed-again}
use Rattle.drc_bits.proofs.Written.{reading, bytes_at-front, var64_at-spelling}
use Rattle.corner_table.specs.declared.symbols.Symbol.{Symbol}
use Rattle.corner_table.specs.declared.symbols.Event.{Event}
use Rattle.rans_binary.specs.Blocks.{IsBlockOf, block, bit_block_at}
use Rattle.eb_machine.specs.Machine.{Plan, State, start}
use Rattle.eb_machine.specs.Shown.{is_split}
use Rattle.eb_standard.specs.SymbolBits.{reversed_bits}
use Rattle.eb_valence.specs.declared.context_lists.TheConstants.{CONTEXTS}
use Rattle.eb_valence.specs.Contexts.{context_lists, symbol_at}
use Rattle.eb_trace.specs.declared.tracing.Traced.{Traced}
use Rattle.eb_trace.specs.Writable.{IsWritable, IsReadBack}
use Rattle.eb_section.specs.declared.opening.Opening.{Opening}
use Rattle.eb_section.specs.Opening.{opening_at, plan_of}
use Rattle.eb_section.specs.Events.{events_at}
use Rattle.eb_section.specs.Feeding.{rebuilt, Standard, standard}
use Rattle.eb_section.specs.Connectivity.{Connectivity, section_of, standard_at, list_at, standard_behind, valence_behind, behind_at, connectivity_at}
use Rattle.eb_section.specs.Written.{opening_of, opening_bytes, events_bytes, standard_bytes, list_bytes, blocks_bytes, standard_behind_bytes, valence_behind_bytes, connectivity_bytes}
use Rattle.eb_section.specs.ReadAgain.{IsReadAgain}
use Rattle.eb_section.specs.CodedBlocks.{IsSymbolBlock, AreCoded}
use Rattle.eb_section.proofs.WrittenSymbols.{AreBits-symbols, length-symbols, fed-standard, fed-contexts, rebuilt-again}
use Rattle.eb_section.proofs.WrittenOpening.{IsWithin, Spells-opening}
use Rattle.eb_section.proofs.WrittenEvents.{Spells-events}
use Rattle.eb_section.proofs.WrittenBlocks.{AreRead, blocks-again, Spells-lists, short-lists}

-- ---- counts

count-append : (p : Symbol → Bool) (xs ys : List Symbol) → count_by p (xs ++ ys) ≡ count_by p xs + count_by p ys
count-append p xs ys = sum_by-append (λ x. cond (p x) 1 0) xs ys

count-reverse : (p : Symbol → Bool) (xs : List Symbol) → count_by p (reverse xs) ≡ count_by p xs
count-reverse p [] = refl
count-reverse p (x ∷ xs) =
    ap (count_by p) (reverse-append (x ∷ []) xs)
    ∙ count-append p (reverse xs) (x ∷ [])
    ∙ (let rest = count-reverse p xs in let one = count-append p (x ∷ []) xs in omega arith)

-- ---- the standard traversal

-- what is read of written symbols at a place
abbrev source_at : ℕ → List Symbol → Standard
source_at place symbols = record {
  short = record { kind = kind.Short; at = place + length (spelling 10 (length (packed (reversed_bits symbols)))) };
  place = record { place = record { bytes = packed (reversed_bits symbols); taken = 0 }; begun = false };
}

symbols-again : (symbols : List Symbol) (place : ℕ) (rest : List ℕ) → length symbols ≤ MAX_FACES
    → standard_at (reading place (standard_bytes symbols ++ rest)) ≡ Ok (source_at place symbols, reading (place + length (standard_bytes symbols)) rest)
unfolding standard_at standard_bytes
symbols-again symbols place rest few =
    let coded : List ℕ = packed (reversed_bits symbols) in
    let n : ℕ = length coded in
    let small : n < 2 ^ 64 = omega (arith, length-packed (reversed_bits symbols), length-symbols symbols, few) in
    let end : place + length (spelling 10 n) + n ≡ place + length (spelling 10 n ++ coded) = omega (arith, length-append (spelling 10 n) coded) in
    ap (λ xs. standard_at (reading place xs)) (append_assoc (spelling 10 n) coded rest)
    ∙ rw (var64_at-spelling place n (coded ++ rest) small, bytes_at-front (place + length (spelling 10 n)) coded rest)
    (ap (λ m. Ok (source_at place symbols, reading m rest)) end)

-- one item at a place, then what follows it
at-then : {A B : Type 0} (item : Reading → Item A) (next : A → Reading → Item B) (a b : List ℕ) (x : A) (y : B) (place : ℕ) (rest : List ℕ)
    → ((after : List ℕ) → item (reading place (a ++ after)) ≡ Ok (x, reading (place + length a) after)) → Spells (next x) b y
    → (item (reading place ((a ++ b) ++ rest)) >>= λ r. next r.0 r.1) ≡ Ok (y, reading (place + length (a ++ b)) rest)
at-then item next a b x y place rest first second =
    ap (λ bytes. item (reading place bytes) >>= λ r. next r.0 r.1) (append_assoc a b rest)
    ∙ ap (λ r. r >>= λ r. next r.0 r.1) (first (b ++ rest))
    ∙ second.reads (place + length a) rest
    ∙ ap (λ n. Ok (y, reading n rest)) (let e : place + length a + length b ≡ place + length (a ++ b) = omega (arith, length-append a b) in e)

-- a rebuilding that is known takes no bytes
Spells-rebuilt : (run : Result State Fault) (last : State) (view : State → Connectivity) → run ≡ Ok last → Spells (λ c. run >>= λ s. Ok (view s, c)) [] (view last)
Spells-rebuilt run last view is =
    Spells-same (λ c. Ok (view last, c)) (λ c. run >>= λ s. Ok (view s, c)) [] (view last) (λ c. ap (λ (r : Result State Fault). r >>= λ s. Ok (view s, c)) is) (Spells-none (view last))

-- what a section of the standard traversal is behind its events
standard-again : (o : Opening) (t : Traced) (seams : List (List Bool)) (p : Plan) → o.attr_data ≡ length seams → plan_of o ≡ p → p.symbols ≡ length t.symbols
    → length t.symbols ≤ MAX_FACES → (back : IsReadBack p t.symbols t.events t.starts) → (starts : IsBlockOf t.starts (block t.starts)) → (read : AreRead seams)
    → Spells (standard_behind o t.events) (standard_behind_bytes t seams) (section_of o t.events read.blocks back.last)
unfolding standard_behind standard_behind_bytes
standard-again o t seams p attr plan many few back starts read =
    let s : State = start (reverse t.events) in
    let value : Connectivity = section_of o t.events read.blocks back.last in
    let more = packed-again (reversed_bits t.symbols) (AreBits-symbols t.symbols) in
    let run : (place : ℕ) → rebuilt standard (plan_of o) (source_at place t.symbols) starts.start s ≡ Ok back.last = λ place.
    ap (λ q. rebuilt standard q (source_at place t.symbols) starts.start s) plan
    ∙ rebuilt-again standard (source_at place t.symbols) starts.start p t.symbols t.events t.starts many back
    (λ u takes. fed-standard t.symbols (source_at place t.symbols) s more.0 refl more.1 ∙ takes) starts.numbered in
    let seams_spell : Spells (many_at bit_block_at o.attr_data) (blocks_bytes seams) read.blocks =
    subst (λ n. Spells (many_at bit_block_at n) (blocks_bytes seams) read.blocks) (sym attr) read.spells in
    let tail : (place : ℕ) → Spells (λ c. bit_block_at c >>= λ b. many_at bit_block_at o.attr_data b.1 >>= λ seams. rebuilt standard (plan_of o) (source_at place t.symbols) b.0 s >>= λ u. Ok (section_of o t.events seams.0 u, seams.1))
    (block t.starts ++ (blocks_bytes seams ++ [])) value = λ place.
    Spells-then bit_block_at
    (λ b c. many_at bit_block_at o.attr_data c >>= λ seams. rebuilt standard (plan_of o) (source_at place t.symbols) b s >>= λ u. Ok (section_of o t.events seams.0 u, seams.1))
    (block t.starts) (blocks_bytes seams ++ []) starts.start value starts.spells
    (Spells-then (many_at bit_block_at o.attr_data)
    (λ seams c. rebuilt standard (plan_of o) (source_at place t.symbols) starts.start s >>= λ u. Ok (section_of o t.events seams u, c))
    (blocks_bytes seams) [] read.blocks value seams_spell
    (Spells-rebuilt (rebuilt standard (plan_of o) (source_at place t.symbols) starts.start s) back.last (section_of o t.events read.blocks) (run place))) in
    subst (λ bytes. Spells (standard_behind o t.events) bytes value) (by_groups (standard_bytes t.symbols) (block t.starts) (blocks_bytes seams))
    (record {
      reads = λ place rest.
          at-then standard_at
          (λ source c. bit_block_at c >>= λ b. many_at bit_block_at o.attr_data b.1 >>= λ seams. rebuilt standard (plan_of o) source b.0 s >>= λ u. Ok (section_of o t.events seams.0 u, seams.1))
          (standard_bytes t.symbols) (block t.starts ++ (blocks_bytes seams ++ [])) (source_at place t.symbols) value place rest
          (λ after. symbols-again t.symbols place after few) (tail place);
    })
  where
    by_groups : (a b d : List ℕ) → a ++ (b ++ (d ++ [])) ≡ a ++ b ++ d
    by_groups a b d = simp (append_assoc, append-nil)

-- ---- the valence traversal

valence-again : (o : Opening) (t : Traced) (seams : List (List Bool)) (p : Plan) → o.attr_data ≡ length seams → plan_of o ≡ p → p.symbols ≡ length t.symbols
    → length t.symbols ≤ MAX_FACES → (back : IsReadBack p t.symbols t.events t.starts) → (starts : IsBlockOf t.starts (block t.starts)) → (read : AreRead seams)
    → All IsSymbolBlock (context_lists t.symbols t.events)
    → Spells (valence_behind o t.events) (valence_behind_bytes t seams) (section_of o t.events read.blocks back.last)
unfolding valence_behind valence_behind_bytes
valence-again o t seams p attr plan many few back starts read lists =
    let s : State = start (reverse t.events) in
    let value : Connectivity = section_of o t.events read.blocks back.last in
    let codes : List (List ℕ) = context_lists t.symbols t.events in
    let run : rebuilt symbol_at (plan_of o) codes starts.start s ≡ Ok back.last =
    ap (λ q. rebuilt symbol_at q codes starts.start s) plan
    ∙ rebuilt-again symbol_at codes starts.start p t.symbols t.events t.starts many back (λ u takes. fed-contexts t.symbols t.events u takes) starts.numbered in
    let seams_spell : Spells (many_at bit_block_at o.attr_data) (blocks_bytes seams) read.blocks =
    subst (λ n. Spells (many_at bit_block_at n) (blocks_bytes seams) read.blocks) (sym attr) read.spells in
    let lists_spell : Spells (many_at (list_at o.symbols) CONTEXTS) (flat_map list_bytes codes) codes =
    subst (λ n. Spells (many_at (list_at n) CONTEXTS) (flat_map list_bytes codes) codes) (sym (ap (λ (q : Plan). q.symbols) plan ∙ many))
    (Spells-lists (length t.symbols) codes (omega (arith, few)) (short-lists t.symbols t.events) lists) in
    subst (λ bytes. Spells (valence_behind o t.events) bytes value) (by_groups (block t.starts) (blocks_bytes seams) (flat_map list_bytes codes))
    (Spells-then bit_block_at
    (λ b c. many_at bit_block_at o.attr_data c >>= λ seams. many_at (list_at o.symbols) CONTEXTS seams.1 >>= λ lists. rebuilt symbol_at (plan_of o) lists.0 b s >>= λ u. Ok (section_of o t.events seams.0 u, lists.1))
    (block t.starts) (blocks_bytes seams ++ (flat_map list_bytes codes ++ [])) starts.start value starts.spells
    (Spells-then (many_at bit_block_at o.attr_data)
    (λ seams c. many_at (list_at o.symbols) CONTEXTS c >>= λ lists. rebuilt symbol_at (plan_of o) lists.0 starts.start s >>= λ u. Ok (section_of o t.events seams u, lists.1))
    (blocks_bytes seams) (flat_map list_bytes codes ++ []) read.blocks value seams_spell
    (Spells-then (many_at (list_at o.symbols) CONTEXTS)
    (λ lists c. rebuilt symbol_at (plan_of o) lists starts.start s >>= λ u. Ok (section_of o t.events read.blocks u, c))
    (flat_map list_bytes codes) [] codes value lists_spell
    (Spells-rebuilt (rebuilt symbol_at (plan_of o) codes starts.start s) back.last (section_of o t.events read.blocks) run))))
  where
    by_groups : (a b d : List ℕ) → a ++ (b ++ (d ++ [])) ≡ a ++ b ++ d
    by_groups a b d = simp (append_assoc, append-nil)

-- ---- the section

-- what lies behind the events of a section
abbrev behind_of : Opening → List Event → Reading → Item Connectivity
behind_of o events c = if o.valence then valence_behind o events c else standard_behind o events c

-- an opening, events, and what lies behind them
Spells-parts : (o : Opening) (events : List Event) (front text behind : List ℕ) (value : Connectivity)
    → Spells (opening_at profile) front o → Spells (events_at o) text events → Spells (behind_of o events) behind value
    → Spells (connectivity_at profile) ((front ++ text) ++ behind) value
unfolding connectivity_at behind_at
Spells-parts o events front text behind value first second third =
    subst (λ bytes. Spells (connectivity_at profile) bytes value) (sym (append_assoc front text behind))
    (Spells-then (opening_at profile) behind_at front (text ++ behind) o value first
    (Spells-then (events_at o) (behind_of o) text behind events value second third))

pub section-again : (valence : Bool) (faces : ℕ) (t : Traced) (seams : List (List Bool)) → faces ≤ MAX_FACES → t.vertices ≤ MAX_POINTS → length seams ≤ MAX_ATTRIBUTES
    → IsWritable faces t.vertices t.symbols t.events t.starts → AreCoded valence t seams
    → IsReadAgain valence faces t seams (connectivity_bytes valence faces t seams)
unfolding connectivity_bytes
section-again valence faces t seams few_faces few_vertices few_seams w coded =
    let o : Opening = opening_of valence faces (length seams) t in
    let splits = count_by-le-length is_split t.symbols in
    let turned = count-reverse is_split t.symbols in
    let back : IsReadBack (plan_of o) t.symbols t.events t.starts = w.read_back (t.vertices + count_by is_split t.symbols) (omega (arith, turned)) in
    let read : AreRead seams = blocks-again seams coded.seams in
    let within : IsWithin o = record { vertices = few_vertices; faces = few_faces; attr_data = few_seams; symbols = w.few_symbols; splits = splits } in
    let few : length t.symbols ≤ MAX_FACES = omega (arith, w.few_symbols, few_faces) in
    let behind : (v : Bool) → v ≡ valence → Spells (behind_of (opening_of v faces (length seams) t) t.events) (if v then valence_behind_bytes t seams else standard_behind_bytes t seams)
    (section_of (opening_of v faces (length seams) t) t.events read.blocks back.last) = λ v.
    elim v as (λ v. v ≡ valence → Spells (behind_of (opening_of v faces (length seams) t) t.events) (if v then valence_behind_bytes t seams else standard_behind_bytes t seams)
    (section_of (opening_of v faces (length seams) t) t.events read.blocks back.last)) [
      | true ↦ λ is. valence-again (opening_of true faces (length seams) t) t seams (plan_of o) refl refl refl few back coded.starts read (coded.contexts (sym is))
      | false ↦ λ is. standard-again (opening_of false faces (length seams) t) t seams (plan_of o) refl refl refl few back coded.starts read
    ] in
    record {
      last = back.last;
      blocks = read.blocks;
      built = back.no_fault;
      seam_bits = read.begin;
      read = Spells-parts o t.events (opening_bytes o) (events_bytes t.events) (if valence then valence_behind_bytes t seams else standard_behind_bytes t seams) _
          (Spells-opening o within) (Spells-events o t.events w.few_events w.few_symbols (omega (arith, few_faces)) w.sources_rise w.events_fit) (behind valence refl);
    }
