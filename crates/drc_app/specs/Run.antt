-- What one call of the program does, status by status (this project's choice).
use Rattle.std.specs.Prelude.{◌≡◌, ◌≢◌, ℕ, ◌≤◌, ◌⊎◌, List, Result, Ok, Err, IfSome, IsErr, IsOkAnd, IsErrAnd, IfOk, IsTrue}
use Rattle.drc_base.specs.declared.faults.Fault.{Fault}
use Rattle.drc_app.specs.Ends.{Taking, Putting, HasReadFault, HasWriteFault, IsUntaken, IsUntouched, IsWritten, IsTried}
use Rattle.drc_verify.specs.declared.verdicts.Verdict.{Verdict}
use Rattle.drc_app.specs.Given.{Written, Differs}
use Rattle.drc_app.specs.Notes.{refused_note, bad_word_note, verdict_note, read_failed_note, memory_note}
use Rattle.drc_app.specs.Due.{reads, takes_memory, command_due}
use Rattle.drc_app.specs.Outcome.{WasReadWhole, WasReadFor, RanOut, told_to, GivesFrom, Kept, MayDiffer, IsCutShort}
use Rattle.drc_app.specs.declared.commands.Command.{Command}

-- the words are a command, the whole input was read where it reads, and all that it gives was written; what the command has to keep of its
-- input it kept
abbrev pub IsDone : Command → Taking → Putting → Putting → Type 0
IsDone c input output notes =
    WasReadWhole c input
    × ((text : List ℕ) × (note : List ℕ) × GivesFrom c input (Ok (Written (text, note))) × Kept c input (Written (text, note))
    × IsWritten output text × IsWritten notes note)

-- the words are a command, and this is the first fault, for which as much was read as shows it
abbrev pub IsRefused : Command → Taking → Putting → Type 0
IsRefused c input notes = (f : Fault) × WasReadFor c f input × GivesFrom c input (Err f) × IsTried notes (refused_note f)

-- the words are `verify`, all was read, and this verdict, which isn't yes, is all that is due
abbrev pub IsUnlike : Command → Taking → Putting → Type 0
IsUnlike c input notes =
    WasReadWhole c input
    × ((v : Verdict) × MayDiffer c v × GivesFrom c input (Ok (Differs v)) × Kept c input (Differs v) × IsTried notes (verdict_note v))

-- an output is due, and a sink failed
abbrev pub IsStopped : Command → Taking → Putting → Putting → Type 0
IsStopped c input output notes =
    WasReadWhole c input
    × ((text : List ℕ) × (note : List ℕ) × GivesFrom c input (Ok (Written (text, note))) × IsCutShort output notes text note)

-- what a call with this line did to its source and its sinks, by its status; reading fails only for a command that reads, and memory
-- runs out only for one that takes some
pub record HasRun (line : Result Command ℕ) (input : Taking) (output notes : Putting) (status : ℕ) : Type 0 where
  pub known : status ≤ 6
  pub done : status ≡ 0 → IsOkAnd line (λ c. IsDone c input output notes)
  pub bad_words : status ≡ 1 → IsErrAnd line (λ i. IsUntaken input × IsTried notes (bad_word_note i))
  pub bad_words_only : IsErr line → status ≡ 1
  pub refused : status ≡ 2 → IsOkAnd line (λ c. IsRefused c input notes)
  pub read_failed : status ≡ 3 → IsOkAnd line (λ c. IsTrue (reads c)) × HasReadFault input × IsTried notes read_failed_note
  pub write_failed : status ≡ 4 → IsOkAnd line (λ c. IsStopped c input output notes)
  pub memory : status ≡ 5 → IsOkAnd line (λ c. IsTrue (takes_memory c) × RanOut c input) × IsTried notes memory_note
  pub unlike : status ≡ 6 → IsOkAnd line (λ c. IsUnlike c input notes)
  pub kept : status ≢ 0 → status ≢ 4 → IsUntouched output

-- where what the command works from is known and gives an output, and nothing failed, the call is done, unless memory ran out
abbrev pub IsComplete : Result Command ℕ → Taking → Putting → Putting → ℕ → Type 0
IsComplete line input output notes status =
    IfOk line (λ c. IfSome (told_to c input) (λ bytes. (answer : List ℕ × List ℕ) → command_due c bytes ≡ Ok (Written answer)
    → ¬ HasReadFault input → ¬ HasWriteFault output → ¬ HasWriteFault notes → (status ≡ 0) ⊎ (status ≡ 5)))

-- the status is this one, unless the input failed or memory ran out
abbrev pub EndsWith : ℕ → Taking → ℕ → Type 0
EndsWith command_due input status = (status ≡ command_due) ⊎ ((status ≡ 3) × HasReadFault input) ⊎ (status ≡ 5)

-- where what the command works from is known and has a fault, the call names it
abbrev pub NamesFault : Result Command ℕ → Taking → ℕ → Type 0
NamesFault line input status =
    IfOk line (λ c. IfSome (told_to c input) (λ bytes. (f : Fault) → command_due c bytes ≡ Err f → EndsWith 2 input status))

-- where what the command works from is known and gives a verdict that isn't yes, the call notes it
abbrev pub NotesVerdict : Result Command ℕ → Taking → ℕ → Type 0
NotesVerdict line input status =
    IfOk line (λ c. IfSome (told_to c input) (λ bytes. (v : Verdict) → command_due c bytes ≡ Ok (Differs v) → EndsWith 6 input status))
