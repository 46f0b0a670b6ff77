-- The table of commands: their words, the options that each takes, and what it does by what these choose (this project's choice).
use Rattle.std.specs.Prelude.{ℕ, List, [], ◌∷◌, map, codes, true, false}
use Rattle.drc_app.specs.Options.{coding_options, reading_options, profile_of}
use Rattle.drc_app.specs.declared.options.LineChoice.{LineChoice}
use Rattle.drc_app.specs.declared.options.LineOption.{LineOption}
use Rattle.drc_app.specs.declared.commands.Command.{Command}
use Rattle.drc_app.specs.declared.commands.Command.TheVariants as command
use Rattle.drc_app.specs.declared.help.HelpTopic.{HelpTopic}
use Rattle.drc_app.specs.declared.help.HelpTopic.TheVariants as topic
use Rattle.drc_app.specs.declared.command_table.CommandName.{CommandName}
use Rattle.drc_app.specs.declared.command_table.CommandName.TheVariants as name
use Rattle.drc_app.specs.declared.command_table.CommandWord.{CommandWord}
use Rattle.drc_app.specs.declared.command_table.CommandWord.TheVariants.{Enc, Dec, Info, Gen, Recode, Verify, Kd, Help, Version}

-- the first words of command lines, and all of them
abbrev pub command_word : CommandWord → List ℕ
command_word Enc = codes "enc"
command_word Dec = codes "dec"
command_word Info = codes "info"
command_word Gen = codes "gen"
command_word Recode = codes "recode"
command_word Verify = codes "verify"
command_word Kd = codes "kd"
command_word Help = codes "help"
command_word Version = codes "version"

abbrev pub first_words : List CommandWord
first_words = Enc ∷ Dec ∷ Info ∷ Gen ∷ Recode ∷ Verify ∷ Kd ∷ Help ∷ Version ∷ []

-- the words behind `help`, and all topics
abbrev pub topic_words : HelpTopic → List (List ℕ)
topic_words topic.All = []
topic_words topic.Enc = command_word Enc ∷ []
topic_words topic.Dec = command_word Dec ∷ []
topic_words topic.Info = command_word Info ∷ []
topic_words topic.Gen = command_word Gen ∷ []
topic_words topic.Recode = command_word Recode ∷ []
topic_words topic.Verify = command_word Verify ∷ []
topic_words topic.Kd = command_word Kd ∷ []

abbrev pub help_topics : List HelpTopic
help_topics =
    topic.All
    ∷ topic.Enc
    ∷ topic.Dec
    ∷ topic.Info
    ∷ topic.Gen
    ∷ topic.Recode
    ∷ topic.Verify
    ∷ topic.Kd
    ∷ []

-- a command: its words, the options that may stand behind them, and what it does by what these choose
pub record CommandRow : Type 0 where
  pub words : List (List ℕ)
  pub takes : List LineOption
  pub command : LineChoice → Command

abbrev pub command_row : CommandName → CommandRow
command_row name.Enc = record {
  words = command_word Enc ∷ [];
  takes = coding_options;
  command = λ c. command.Enc c.coding (profile_of c);
}
command_row name.Dec = record { words = command_word Dec ∷ []; takes = reading_options; command = λ c. command.Dec (profile_of c) }
command_row name.Info = record { words = command_word Info ∷ []; takes = reading_options; command = λ c. command.Info (profile_of c) }
command_row name.Recode = record {
  words = command_word Recode ∷ [];
  takes = coding_options;
  command = λ c. command.Recode c.coding (profile_of c);
}
command_row name.Restore = record {
  words = command_word Recode ∷ codes "--restore" ∷ [];
  takes = reading_options;
  command = λ c. command.Restore (profile_of c);
}
command_row name.Verify = record {
  words = command_word Verify ∷ [];
  takes = reading_options;
  command = λ c. command.Verify false (profile_of c);
}
command_row name.VerifySurface = record {
  words = command_word Verify ∷ codes "--surface" ∷ [];
  takes = reading_options;
  command = λ c. command.Verify true (profile_of c);
}
command_row name.KdEnc = record { words = command_word Kd ∷ codes "enc" ∷ []; takes = []; command = λ c. command.KdEnc }
command_row name.KdDec = record { words = command_word Kd ∷ codes "dec" ∷ []; takes = []; command = λ c. command.KdDec }
command_row (name.Help t) = record { words = command_word Help ∷ topic_words t; takes = []; command = λ c. command.Help t }
command_row name.Version = record { words = command_word Version ∷ []; takes = []; command = λ c. command.Version }

-- all of them
abbrev pub command_names : List CommandName
command_names =
    name.Enc
    ∷ name.Dec
    ∷ name.Info
    ∷ name.Recode
    ∷ name.Restore
    ∷ name.Verify
    ∷ name.VerifySurface
    ∷ name.KdEnc
    ∷ name.KdDec
    ∷ name.Version
    ∷ map name.Help help_topics
