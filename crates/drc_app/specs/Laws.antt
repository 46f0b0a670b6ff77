-- Reading a command line word by word finds what its words say, and they say nothing else; the lines that the table makes, by their kinds;
-- each value is what its word names; and no choice that fits a mesh refuses a generated one.
use Rattle.std.specs.Prelude.{◌≡◌, ◌↔◌, ℕ, ◌<◌, ◌^◌, List, [], ◌∷◌, ◌++◌, map, codes, decimal, Some, None, Result, true, false, Contains}
use Rattle.std.specs.List.{flat_map}
use Rattle.drc_base.specs.declared.profiles.Profile.{Profile}
use Rattle.drc_base.specs.declared.profiles.TheConstants.{PROFILE_THREE, PROFILE_TWO}
use Rattle.mesh_model.specs.declared.geometries.Geometry.TheVariants.{Mesh}
use Rattle.drc_gen.specs.declared.kinds.GenKind.{GenKind}
use Rattle.drc_gen.specs.Generated.{generated}
use Rattle.drc_gen.specs.GeneratedLaws.{IsSize}
use Rattle.drc_container.specs.declared.choice.predicts.Predict.{Predict}
use Rattle.drc_container.specs.choice.Predicts.{predict_word, predicts}
use Rattle.drc_container.specs.declared.choice.choices.Choice.{Choice}
use Rattle.drc_container.specs.declared.choice.choices.Index.{Index}
use Rattle.drc_container.specs.declared.choice.choices.Walk.{Walk}
use Rattle.drc_container.specs.declared.choice.methods.Method.{Method}
use Rattle.drc_container.specs.choice.Refused.{choice_fault, refused}
use Rattle.drc_app.specs.Words.{word_rows, value_named}
use Rattle.drc_app.specs.Options.{method_word, methods, index_word, indices, walk_word, walks, profile_words}
use Rattle.drc_app.specs.Options.{Setting, words_of, AreOf, SetsOnce, with_settings, coding_options, none_chosen, profile_of, goes_together}
use Rattle.drc_app.specs.Commands.{command_word, topic_words, help_topics}
use Rattle.drc_app.specs.Line.{gen_word, IsLine, WordsSay}
use Rattle.drc_app.specs.Progress.{gen_named, line_of}
use Rattle.drc_app.specs.declared.commands.Command.{Command}
use Rattle.drc_app.specs.declared.commands.Command.TheVariants as command
use Rattle.drc_app.specs.declared.command_table.CommandWord.{CommandWord}
use Rattle.drc_app.specs.declared.command_table.CommandWord.TheVariants as word

-- what is found is what the words say
abbrev pub WordsSaySomething : Type 0
WordsSaySomething = (words : List (List ℕ)) → WordsSay words (line_of words)

-- what the words say is what is found
abbrev pub WordsSayOneThing : Type 0
WordsSayOneThing = (words : List (List ℕ)) (line : Result Command ℕ) → WordsSay words line → line ≡ line_of words

-- the lines of the commands that read a stream and don't encode as chosen, and their commands in a profile
abbrev pub reading_lines : List (List (List ℕ) × (Profile → Command))
reading_lines =
    (command_word word.Dec ∷ [], command.Dec)
    ∷ (command_word word.Info ∷ [], command.Info)
    ∷ (command_word word.Recode ∷ codes "--restore" ∷ [], command.Restore)
    ∷ (command_word word.Verify ∷ [], command.Verify false)
    ∷ (command_word word.Verify ∷ codes "--surface" ∷ [], command.Verify true)
    ∷ []

-- what may stand behind such a line, and the profile that it chooses: nothing, or the option and a profile's number
abbrev pub profile_ends : List (List (List ℕ) × Profile)
profile_ends =
    ([], PROFILE_TWO)
    ∷ (codes "--profile" ∷ codes "2" ∷ [], PROFILE_TWO)
    ∷ (codes "--profile" ∷ codes "3" ∷ [], PROFILE_THREE)
    ∷ []

-- such a line with each of these behind it
abbrev pub with_profiles : List (List ℕ) × (Profile → Command) → List (List (List ℕ) × Command)
with_profiles line = map (λ end. (line.0 ++ end.0, line.1 end.1)) profile_ends

-- the lines that have neither options of encoding nor numbers of a generated mesh, and their commands
abbrev pub plain_lines : List (List (List ℕ) × Command)
plain_lines =
    (command_word word.Kd ∷ codes "enc" ∷ [], command.KdEnc)
    ∷ (command_word word.Kd ∷ codes "dec" ∷ [], command.KdDec)
    ∷ (command_word word.Version ∷ [], command.Version)
    ∷ map (λ t. (command_word word.Help ∷ topic_words t, command.Help t)) help_topics
    ++ flat_map with_profiles reading_lines

-- a first word, and behind it options of encoding in any order, each at most once, which go together
abbrev pub IsEncoding : List (List ℕ) → CommandWord → List Setting → Type 0
IsEncoding words by settings =
    AreOf coding_options settings × SetsOnce settings × (goes_together (with_settings none_chosen settings) ≡ true)
    × (words ≡ command_word by ∷ words_of settings)

-- a command that encodes as settings say, in the profile that they choose
abbrev pub coding_as : (Choice → Profile → Command) → List Setting → Command
coding_as make settings = make (with_settings none_chosen settings).coding (profile_of (with_settings none_chosen settings))

-- the command lines by their kinds: a line of the list above; `enc` or `recode` with options of encoding; or `gen` with a kind, a size and
-- a seed
pub data IsOfKind (words : List (List ℕ)) (c : Command) : Type 0 where
  plain : Contains plain_lines (words, c) → IsOfKind words c
  enc : (settings : List Setting) → IsEncoding words word.Enc settings → c ≡ coding_as command.Enc settings → IsOfKind words c
  recode : (settings : List Setting) → IsEncoding words word.Recode settings → c ≡ coding_as command.Recode settings → IsOfKind words c
  gen : (kind : GenKind) (size seed : ℕ) → IsSize size → seed < 2 ^ 64
      → words ≡ command_word word.Gen ∷ gen_word kind ∷ decimal size ∷ decimal seed ∷ []
      → c ≡ command.Gen (record { kind = kind; size = size; seed = seed }) → IsOfKind words c

-- the lines that the table makes are these
abbrev pub LinesAreOfKinds : Type 0
LinesAreOfKinds = (words : List (List ℕ)) (c : Command) → IsLine words c ↔ IsOfKind words c

-- each method, index coding, prediction, walk, profile and kind of generated mesh is what its word names
abbrev pub WordsNameBack : Type 0
WordsNameBack =
    ((m : Method) → value_named (word_rows method_word methods) (method_word m) ≡ Some m)
    × ((i : Index) → value_named (word_rows index_word indices) (index_word i) ≡ Some i)
    × ((p : Predict) → value_named (word_rows predict_word predicts) (predict_word p) ≡ Some p)
    × ((w : Walk) → value_named (word_rows walk_word walks) (walk_word w) ≡ Some w)
    × ((w : List ℕ) (p : Profile) → Contains profile_words (w, p) → value_named profile_words w ≡ Some p)
    × ((k : GenKind) → gen_named (gen_word k) ≡ Some k)

-- no choice that fits a mesh refuses a generated one
abbrev pub GeneratedIsEncoded : Type 0
GeneratedIsEncoded = (kind : GenKind) (n seed : ℕ) (choice : Choice) → IsSize n
    → choice_fault (Mesh (generated kind n seed)) choice ≡ None → refused (Mesh (generated kind n seed)) choice ≡ None
