-- Reverse decoding reads every readable table: the steps, and the whole (Isenburg and Snoeyink 2001; as a law of tables: this project's
-- choice).
use Rattle.std.specs.Prelude.{◌≡◌, ℕ, suc, ◌+◌, ◌<◌, ◌≤◌, false, List, length, take, get_or, None, [], Ok, Err, count_by}
use Rattle.drc_base.specs.declared.kinds.Kind.TheVariants as kind
use Rattle.drc_base.specs.Steps.{◌>>=◌}
use Rattle.corner_table.specs.declared.symbols.Symbol.{Symbol}
use Rattle.corner_table.specs.declared.symbols.Symbol.TheVariants.{E}
use Rattle.corner_table.specs.Sides.{Gluing}
use Rattle.corner_table.specs.Fans.{HasThreeFans}
use Rattle.eb_machine.specs.Machine.{State, Plan, start, step, take_symbols, close_all, rebuild, fault}
use Rattle.eb_trace.specs.Readable.{IsReadable}
use Rattle.eb_machine.specs.Shown.{is_split}
use Rattle.eb_trace.specs.Front.{front, events_left, start_bits, made_by}
use Rattle.eb_trace.specs.Trace.{fan_count}

-- the symbols of a word by their numbers
abbrev pub word_symbol : List Symbol → ℕ → Symbol
word_symbol word i = get_or word i E

-- each symbol takes the state before it to the state after it
abbrev pub EachStepReads : Type 0
EachStepReads = (faces : ℕ) (g : Gluing) (n : ℕ) (word : ℕ → Symbol) → IsReadable faces g n word → (m : ℕ) → m < n →
    step n (word m) (front n g word m) ≡ Ok (front n g word (suc m))

-- from the start, any number of symbols of a word take it to the state after so many
abbrev pub PassesFronts : Type 0
PassesFronts = (faces : ℕ) (g : Gluing) (word : List Symbol) → IsReadable faces g (length word) (word_symbol word) → (m : ℕ) →
    m ≤ length word →
    take_symbols (length word) (take m word) (start (events_left (length word) g (word_symbol word) (length word)))
    ≡ Ok (front (length word) g (word_symbol word) m)

-- the state in which the whole table is built
abbrev pub finished : ℕ → Gluing → List Symbol → State
finished faces g word = record {
  built = faces;
  glued = g;
  stack = [];
  reserved = λ k. None;
  events = [];
  made = made_by (word_symbol word) (length word);
  closes = length (start_bits (length word) g);
}

-- the start bits take the state after all symbols to it
abbrev pub ClosesLast : Type 0
ClosesLast = (p : Plan) (g : Gluing) (word : List Symbol) → IsReadable p.faces g (length word) (word_symbol word) →
    let s = front (length word) g (word_symbol word) (length word) in
    close_all p (λ k. get_or (start_bits (length word) g) k false) (length s.stack) s ≡ Ok (finished p.faces g word)

-- the machine that is fed the word, all events and the start bits meets no fault, and has built the table
abbrev pub ReadsWord : Type 0
ReadsWord = (p : Plan) (g : Gluing) (word : List Symbol) → IsReadable p.faces g (length word) (word_symbol word) → p.symbols ≡ length word →
    let n = length word in
    let bits : ℕ → _ = λ k. get_or (start_bits n g) k false in
    (take_symbols n word (start (events_left n g (word_symbol word) n)) >>= λ s. close_all p bits (length s.stack) s)
    ≡ Ok (finished p.faces g word)

-- where its faces have three fans each and no fewer vertices are declared than are made, it passes the tests at the end
abbrev pub RebuildsWord : Type 0
RebuildsWord = (p : Plan) (g : Gluing) (word : List Symbol) → IsReadable p.faces g (length word) (word_symbol word) →
    p.symbols ≡ length word →
    HasThreeFans p.faces g → made_by (word_symbol word) (length word) ≤ p.created →
    rebuild p word (events_left (length word) g (word_symbol word) (length word)) (λ k. get_or (start_bits (length word) g) k false)
    ≡ Ok (finished p.faces g word)

-- where fewer are declared, it refuses them and says how many are made
abbrev pub RefusesFewer : Type 0
RefusesFewer = (p : Plan) (g : Gluing) (word : List Symbol) → IsReadable p.faces g (length word) (word_symbol word) →
    p.symbols ≡ length word →
    p.created < made_by (word_symbol word) (length word) →
    rebuild p word (events_left (length word) g (word_symbol word) (length word)) (λ k. get_or (start_bits (length word) g) k false)
    ≡ Err (fault kind.VertexCount (made_by (word_symbol word) (length word)))

-- the vertices made are the fans of the table and, once more, each vertex that an S takes away
abbrev pub CountsWord : Type 0
CountsWord = (faces : ℕ) (g : Gluing) (word : List Symbol) → IsReadable faces g (length word) (word_symbol word) →
    made_by (word_symbol word) (length word) ≡ fan_count faces g + count_by is_split word
