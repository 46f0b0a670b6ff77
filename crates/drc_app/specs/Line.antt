-- Which words are a command line, and which word of other words is the bad one (this project's choice).
use Rattle.std.specs.Prelude.{◌≡◌, true, ℕ, suc, ◌<◌, ◌^◌, ◌⊎◌, List, [], ◌∷◌, ◌++◌, length, take, codes, decimal}
use Rattle.std.specs.Prelude.{Result, Ok, Err}
use Rattle.drc_gen.specs.declared.kinds.GenKind.{GenKind}
use Rattle.drc_gen.specs.declared.kinds.GenKind.TheVariants.{Grid, Torus, Holes, Fans, Seams}
use Rattle.drc_gen.specs.GeneratedLaws.{IsSize}
use Rattle.drc_app.specs.Options.{Setting, words_of, AreOf, SetsOnce, with_settings, none_chosen, goes_together}
use Rattle.drc_app.specs.Commands.{command_word, command_row}
use Rattle.drc_app.specs.declared.commands.Command.{Command}
use Rattle.drc_app.specs.declared.commands.Command.TheVariants as command
use Rattle.drc_app.specs.declared.command_table.CommandName.{CommandName}
use Rattle.drc_app.specs.declared.command_table.CommandWord.TheVariants.{Gen as GenWord}

-- the words of the kinds of generated meshes, and all of them
abbrev pub gen_word : GenKind → List ℕ
gen_word Grid = codes "grid"
gen_word Torus = codes "torus"
gen_word Holes = codes "holes"
gen_word Fans = codes "fans"
gen_word Seams = codes "seams"

abbrev pub kinds : List GenKind
kinds = Grid ∷ Torus ∷ Holes ∷ Fans ∷ Seams ∷ []

-- these words are the command line of this command: the words of a command of the table and behind them options that it takes, in any
-- order, each at most once, which go together; or `gen` with a kind, a size and a seed, the two numbers as their decimal texts, so without
-- leading zeros
pub data IsLine (words : List (List ℕ)) (c : Command) : Type 0 where
  named : (by : CommandName) (settings : List Setting) → AreOf (command_row by).takes settings → SetsOnce settings
      → goes_together (with_settings none_chosen settings) ≡ true
      → words ≡ (command_row by).words ++ words_of settings
      → c ≡ (command_row by).command (with_settings none_chosen settings) → IsLine words c
  gen : (kind : GenKind) (size seed : ℕ) → IsSize size → seed < 2 ^ 64
      → words ≡ command_word GenWord ∷ gen_word kind ∷ decimal size ∷ decimal seed ∷ []
      → c ≡ command.Gen (record { kind = kind; size = size; seed = seed }) → IsLine words c

-- a generated mesh that is asked for has a size that a mesh may have
abbrev pub IsSized : Command → Type 0
IsSized (command.Gen mesh) = IsSize mesh.size
IsSized c = Unit {0}

-- these words begin a command line, or are one
pub record Begins (words : List (List ℕ)) : Type 0 where
  pub rest : List (List ℕ)
  pub command : Command
  pub line : IsLine (words ++ rest) command

-- i is the number of the bad word: the least such that the first i + 1 words begin no command line; or how many words there
-- are, where all of them begin one and they aren't one
pub record IsBadWord (words : List (List ℕ)) (i : ℕ) : Type 0 where
  pub least : (j : ℕ) → j < i → Begins (take (suc j) words)
  pub bad : ((i < length words) × ¬ Begins (take (suc i) words)) ⊎ ((i ≡ length words) × ((c : Command) → ¬ IsLine words c))

-- what the words say: the command whose line they are, or the number of the bad word
abbrev pub WordsSay : List (List ℕ) → Result Command ℕ → Type 0
WordsSay words (Ok c) = IsLine words c
WordsSay words (Err i) = IsBadWord words i

-- what the words say has this property
abbrev pub OfWords : List (List ℕ) → (Result Command ℕ → Type 0) → Type 0
OfWords words property = (line : Result Command ℕ) × WordsSay words line × property line
