-- The notes that a command leaves (this project's choice).
use Rattle.std.specs.Prelude.{ℕ, List, [], ◌++◌, codes, decimal}
use Rattle.drc_base.specs.Kind.{kind_word}
use Rattle.drc_base.specs.declared.faults.Fault.{Fault}
use Rattle.drc_verify.specs.declared.verdicts.Verdict.{Verdict}
use Rattle.drc_verify.specs.declared.verdicts.Verdict.TheVariants as verdict

-- the first fault of the input, or why it isn't encoded
abbrev pub refused_note : Fault → List ℕ
refused_note f = codes "refused " ++ kind_word f.kind ++ codes " " ++ decimal f.at ++ codes "\n"

-- the number of the first word that begins no command line
abbrev pub bad_word_note : ℕ → List ℕ
bad_word_note i = codes "bad word " ++ decimal i ++ codes "\n"

-- why what was verified isn't the same: none where it is
abbrev pub verdict_note : Verdict → List ℕ
verdict_note verdict.Same = []
verdict_note verdict.Heads = codes "not same heads " ++ decimal 0 ++ codes "\n"
verdict_note (verdict.Rows r) = codes "not same rows " ++ decimal r ++ codes "\n"
verdict_note (verdict.Row i) = codes "not same row " ++ decimal i ++ codes "\n"
verdict_note (verdict.Pair s) = codes "not same pair " ++ decimal s ++ codes "\n"

abbrev pub read_failed_note : List ℕ
read_failed_note = codes "read failed\n"

abbrev pub write_failed_note : List ℕ
write_failed_note = codes "write failed\n"

abbrev pub memory_note : List ℕ
memory_note = codes "memory wanting\n"
