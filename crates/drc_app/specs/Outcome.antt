-- What a command line came to before anything is written, and what was then written (this project's choice).
use Rattle.std.specs.Prelude.{◌≡◌, ◌≢◌, ℕ, zero, suc, ◌⊎◌, false, List, [], Option, Some, Result, Ok, Err, IfSome, IsOkAnd, IsTrue, MatchBool}
use Rattle.std.specs.Prelude.{if◌then◌else◌}
use Rattle.drc_base.specs.Sinks.{AppendsPrefix}
use Rattle.drc_base.specs.declared.faults.Fault.{Fault}
use Rattle.drc_app.specs.Ends.{Taking, HasReadFault, IsReadWhole, IsPastMost, IsUntaken}
use Rattle.drc_app.specs.Ends.{Putting, HasWriteFault, IsUntouched, IsWritten, IsTried}
use Rattle.drc_verify.specs.declared.verdicts.Verdict.{Verdict}
use Rattle.drc_verify.specs.declared.verdicts.Verdict.TheVariants as verdict
use Rattle.drc_app.specs.Given.{Given, Written, Differs}
use Rattle.drc_app.specs.Notes.{refused_note, bad_word_note, verdict_note, read_failed_note, write_failed_note, memory_note}
use Rattle.drc_app.specs.Due.{input_limit, reads, takes_memory, command_due}
use Rattle.drc_app.specs.Early.{HasNoEarlyFault}
use Rattle.drc_app.specs.Kept.{KeepsGeometry}
use Rattle.drc_app.specs.declared.commands.Command.{Command}
use Rattle.drc_app.specs.declared.commands.Command.TheVariants as command
use Rattle.drc_app.specs.declared.outcomes.Answer.{Answer}
use Rattle.drc_app.specs.declared.outcomes.Answer.TheVariants as answer
use Rattle.drc_app.specs.declared.outcomes.Output.{Output}
use Rattle.drc_app.specs.declared.outcomes.Output.TheVariants as output
use Rattle.drc_app.specs.declared.outcomes.Due.{Due}
use Rattle.drc_app.specs.declared.outcomes.Outcome.{Outcome}
use Rattle.drc_app.specs.declared.outcomes.Outcome.TheVariants as outcome

-- the input was read to its end, where the command reads; else nothing was taken
abbrev pub WasReadWhole : Command → Taking → Type 0
WasReadWhole c input = MatchBool (reads c) (IsReadWhole input) (IsUntaken input)

-- the input was read to its end and its bytes have this fault, or it was read past the most bytes and the fault says that
abbrev pub ShowsFault : Command → Fault → Taking → Type 0
ShowsFault c f input = ((whole : IsReadWhole input) × (command_due c whole.taken ≡ Err f)) ⊎ (IsPastMost input × (f ≡ input_limit))

-- as much was read as shows this fault, where the command reads; else nothing was taken
abbrev pub WasReadFor : Command → Fault → Taking → Type 0
WasReadFor c f input = MatchBool (reads c) (ShowsFault c f input) (IsUntaken input)

-- memory ran out before anything was taken, or before the input's end; or all was read, and the command has no early fault in it
abbrev pub RanShort : Command → Taking → Type 0
RanShort c input = IsUntaken input ⊎ ((input.ended ≡ false) ⊎ ((whole : IsReadWhole input) × HasNoEarlyFault c whole.taken))

-- so it ran out, where the command reads; else nothing was taken
abbrev pub RanOut : Command → Taking → Type 0
RanOut c input = MatchBool (reads c) (RanShort c input) (IsUntaken input)

-- the bytes that a command works from: those of its input, where it reads and the source shows them; none, where it doesn't read
abbrev pub told_to : Command → Taking → Option (List ℕ)
told_to c input = if reads c then input.left else Some []

-- where its bytes are known, this is what the command gives from them
abbrev pub GivesFrom : Command → Taking → Result Given Fault → Type 0
GivesFrom c input given = IfSome (told_to c input) (λ bytes. command_due c bytes ≡ given)

-- where its bytes are known, the command keeps of them what it has to
abbrev pub Kept : Command → Taking → Given → Type 0
Kept c input given = IfSome (told_to c input) (λ bytes. KeepsGeometry c bytes given)

-- the bytes of an output, and of an output and its note
abbrev pub output_bytes : Output → List ℕ
output_bytes (output.Bytes bytes) = bytes.items
output_bytes (output.Text text) = text
output_bytes (output.Fixed text) = text.now

abbrev pub due_bytes : Due → List ℕ × List ℕ
due_bytes d = (output_bytes d.output, d.note.items)

-- what an answer gives
abbrev pub seen : Answer → Given
seen (answer.Due d) = Written (due_bytes d)
seen (answer.Differs v) = Differs v

-- a command gives a verdict alone only where it verifies, and no yes
abbrev pub MayDiffer : Command → Verdict → Type 0
MayDiffer (command.Verify surface profile) v = v ≢ verdict.Same
MayDiffer c v = ⊥

abbrev pub MayAnswer : Command → Answer → Type 0
MayAnswer c (answer.Due d) = Unit {0}
MayAnswer c (answer.Differs v) = MayDiffer c v

-- what the line and its input came to
abbrev pub IsOutcome : Result Command ℕ → Taking → Outcome → Type 0
IsOutcome line input (outcome.BadWord i) = (line ≡ Err i) × IsUntaken input
IsOutcome line input outcome.ReadFailed = IsOkAnd line (λ c. IsTrue (reads c)) × HasReadFault input
IsOutcome line input outcome.NoMemory = IsOkAnd line (λ c. IsTrue (takes_memory c) × RanOut c input)
IsOutcome line input (outcome.Refused f) = IsOkAnd line (λ c. WasReadFor c f input × GivesFrom c input (Err f))
IsOutcome line input (outcome.Done d) = IsOkAnd line (λ c.
    WasReadWhole c input × GivesFrom c input (Ok (Written (due_bytes d))) × Kept c input (Written (due_bytes d)))
IsOutcome line input (outcome.Differs v) = IsOkAnd line (λ c.
    MayDiffer c v × WasReadWhole c input × GivesFrom c input (Ok (Differs v)) × Kept c input (Differs v))

-- what a command came to on all bytes of its input
abbrev pub IsOutcomeAt : Command → List ℕ → Outcome → Type 0
IsOutcomeAt c bytes (outcome.BadWord i) = ⊥
IsOutcomeAt c bytes outcome.ReadFailed = ⊥
IsOutcomeAt c bytes outcome.NoMemory = IsTrue (takes_memory c) × HasNoEarlyFault c bytes
IsOutcomeAt c bytes (outcome.Refused f) = command_due c bytes ≡ Err f
IsOutcomeAt c bytes (outcome.Done d) = (command_due c bytes ≡ Ok (Written (due_bytes d))) × KeepsGeometry c bytes (Written (due_bytes d))
IsOutcomeAt c bytes (outcome.Differs v) = MayDiffer c v × (command_due c bytes ≡ Ok (Differs v)) × KeepsGeometry c bytes (Differs v)

-- the writing of an output and then of its note stopped: in the output, and then the note of the failure is tried; or in the note
abbrev pub IsCutShort : Putting → Putting → List ℕ → List ℕ → Type 0
IsCutShort output notes text note =
    (HasWriteFault output × AppendsPrefix output.held output.held_after text × IsTried notes write_failed_note)
    ⊎ (IsWritten output text × HasWriteFault notes × AppendsPrefix notes.held notes.held_after note)

-- an output and its note were written, and the status is 0; or the writing stopped, and it is 4
abbrev pub IsDelivered : Putting → Putting → List ℕ → List ℕ → ℕ → Type 0
IsDelivered output notes text note zero = IsWritten output text × IsWritten notes note
IsDelivered output notes text note (suc k) = (k ≡ 3) × IsCutShort output notes text note

-- what was written of an outcome, and its status
abbrev pub Delivers : Outcome → Putting → Putting → ℕ → Type 0
Delivers (outcome.BadWord i) output notes status = (status ≡ 1) × IsUntouched output × IsTried notes (bad_word_note i)
Delivers (outcome.Refused f) output notes status = (status ≡ 2) × IsUntouched output × IsTried notes (refused_note f)
Delivers (outcome.Differs v) output notes status = (status ≡ 6) × IsUntouched output × IsTried notes (verdict_note v)
Delivers outcome.ReadFailed output notes status = (status ≡ 3) × IsUntouched output × IsTried notes read_failed_note
Delivers outcome.NoMemory output notes status = (status ≡ 5) × IsUntouched output × IsTried notes memory_note
Delivers (outcome.Done d) output notes status = IsDelivered output notes (output_bytes d.output) d.note.items status
