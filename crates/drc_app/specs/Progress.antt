-- A command line read word by word: how far it has come (this project's choice). It finds what the words say.
use Rattle.std.specs.Prelude.{ℕ, ◌+◌, ◌^◌, ◌&&◌, nat_lt, nat_le, List, [], ◌∷◌, map, decimal, if◌then◌else◌}
use Rattle.std.specs.Prelude.{Option, Some, None, Result, Ok, Err, option_and_then}
use Rattle.std.specs.Option.{option_map, option_or}
use Rattle.std.specs.Cmp.Lexicographic.{pointwise}
use Rattle.std.specs.Map.{lookup}
use Rattle.std.specs.Str.{bytes_eq}
use Rattle.std.specs.Str.Parse.{digits_value}
use Rattle.drc_gen.specs.declared.kinds.GenKind.{GenKind}
use Rattle.drc_gen.specs.declared.sizes.TheConstants.{LEAST_SIZE, MOST_SIZE}
use Rattle.drc_app.specs.Words.{word_rows, value_named}
use Rattle.drc_app.specs.Options.{OptionKind, flag, one_of, option_row, option_word, option_values, none_chosen, goes_together, may_stand}
use Rattle.drc_app.specs.Commands.{command_word, first_words, command_row, command_names}
use Rattle.drc_app.specs.Line.{gen_word, kinds}
use Rattle.drc_app.specs.declared.commands.Command.{Command}
use Rattle.drc_app.specs.declared.commands.Command.TheVariants as command
use Rattle.drc_app.specs.declared.options.LineChoice.{LineChoice}
use Rattle.drc_app.specs.declared.options.LineOption.{LineOption}
use Rattle.drc_app.specs.declared.options.ValueOption.{ValueOption}
use Rattle.drc_app.specs.declared.command_table.CommandName.{CommandName}
use Rattle.drc_app.specs.declared.command_table.CommandWord.{CommandWord}
use Rattle.drc_app.specs.declared.command_table.CommandWord.TheVariants.{Gen}
use Rattle.drc_app.specs.declared.command_lines.Progress.{Progress}
use Rattle.drc_app.specs.declared.command_lines.Progress.TheVariants as progress

-- the first word that this word is, and the command of the table whose words these are
abbrev pub command_named : List ℕ → Option CommandWord
command_named w = value_named (word_rows command_word first_words) w

abbrev pub name_worded : List (List ℕ) → Option CommandName
name_worded ws = lookup (pointwise bytes_eq ws) (map (λ by. ((command_row by).words, by)) command_names)

-- the kind of generated mesh of a word
abbrev pub gen_named : List ℕ → Option GenKind
gen_named w = value_named (word_rows gen_word kinds) w

-- the number below 2^64 whose decimal text the word is
abbrev pub number_named : List ℕ → Option ℕ
number_named w =
    if nat_lt (digits_value 10 w) (2 ^ 64) && bytes_eq w (decimal (digits_value 10 w)) then Some (digits_value 10 w) else None

-- the number, if it is the size of a mesh
abbrev pub sized : ℕ → Option ℕ
sized n = if nat_le LEAST_SIZE n && nat_le n MOST_SIZE then Some n else None

-- the size whose decimal text the word is
abbrev pub size_named : List ℕ → Option ℕ
size_named w = option_and_then sized (number_named w)

-- the choice behind an option, and the option whose value is due
abbrev pub behind_kind : OptionKind → LineChoice → LineChoice × Option ValueOption
behind_kind (flag set) c = (set c, None)
behind_kind (one_of o) c = (c, Some o)

-- the same behind the option of this word, which is one of these and which the choice doesn't have
abbrev pub option_read : List LineOption → LineChoice → List ℕ → Option (LineChoice × Option ValueOption)
option_read os c w =
    option_and_then (λ o. if (option_row o).has c then None else Some (behind_kind (option_row o).takes c)) (value_named (word_rows option_word os) w)

-- a choice with the value of this word for an option
abbrev pub valued : LineChoice → ValueOption → List ℕ → Option LineChoice
valued c o w = option_map (λ set. set c) (value_named (option_values o) w)

-- the same where it may stand beside the others
abbrev pub standing : LineChoice → Option LineChoice
standing c = if may_stand c then Some c else None

abbrev pub with_value : LineChoice → ValueOption → List ℕ → Option LineChoice
with_value c o w = option_and_then standing (valued c o w)

-- a line with an option more
abbrev pub behind_option : CommandName → LineChoice → Option ValueOption → Progress
behind_option by c None = progress.Options by c
behind_option by c (Some o) = progress.Value by c o

abbrev pub with_option : CommandName → LineChoice → List ℕ → Option Progress
with_option by c w = option_map (λ r. behind_option by r.0 r.1) (option_read (command_row by).takes c w)

-- `gen` and a kind, or a command of one word and the first of its options
abbrev pub first_argument : CommandWord → List ℕ → Option Progress
first_argument Gen w = option_map progress.SizeDue (gen_named w)
first_argument k w = option_and_then (λ by. with_option by none_chosen w) (name_worded (command_word k ∷ []))

-- a first word and one word more
abbrev pub behind_command : CommandWord → List ℕ → Option Progress
behind_command k w =
    option_or (option_map (λ by. progress.Options by none_chosen) (name_worded (command_word k ∷ w ∷ []))) (first_argument k w)

-- a line with one word more, where such a line begins a command line
abbrev pub after_word : Progress → List ℕ → Option Progress
after_word progress.Nothing w = option_map progress.Named (command_named w)
after_word (progress.Named k) w = behind_command k w
after_word (progress.Options by c) w = with_option by c w
after_word (progress.Value by c o) w = option_map (progress.Options by) (with_value c o w)
after_word (progress.SizeDue kind) w = option_map (progress.SeedDue kind) (size_named w)
after_word (progress.SeedDue kind size) w =
    option_map (λ seed. progress.Whole (command.Gen (record { kind = kind; size = size; seed = seed }))) (number_named w)
after_word (progress.Whole c) w = None

-- the command of a whole line
abbrev pub whole : Progress → Option Command
whole (progress.Named k) = option_map (λ by. (command_row by).command none_chosen) (name_worded (command_word k ∷ []))
whole (progress.Options by c) = if goes_together c then Some ((command_row by).command c) else None
whole (progress.Whole c) = Some c
whole p = None

-- the command, or else the number of the words
abbrev pub or_count : ℕ → Option Command → Result Command ℕ
or_count i None = Err i
or_count i (Some c) = Ok c

-- the command of a whole line; else the number of its words, i
abbrev pub whole_line : ℕ → Progress → Result Command ℕ
whole_line i p = or_count i (whole p)

-- what follows the word of number i, where it begins a command line
abbrev pub continued : ℕ → Option Progress → (Progress → Result Command ℕ) → Result Command ℕ
continued i None next = Err i
continued i (Some q) next = next q

-- the command of these words behind i words, or the number of the first that begins no command line
abbrev pub line_from : ℕ → Progress → List (List ℕ) → Result Command ℕ
line_from i p [] = whole_line i p
line_from i p (w ∷ ws) = continued i (after_word p w) (λ q. line_from (i + 1) q ws)

-- the command of a line, or the number of its bad word
abbrev pub line_of : List (List ℕ) → Result Command ℕ
line_of words = line_from 0 progress.Nothing words
