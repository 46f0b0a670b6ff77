use Rattle.std.proofs.Common.{◌≡◌, ℕ, zero, suc, List, Option, Some, None, Result, Ok, Err, ◌⊎◌, inl, inr, refl}
use Rattle.std.specs.Prelude.{IfSome}
use Rattle.drc_base.specs.declared.faults.Fault.{Fault}
use Rattle.drc_app.specs.declared.commands.Command.{Command}
use Rattle.drc_app.specs.declared.outcomes.Outcome.{Outcome}
use Rattle.drc_app.specs.declared.outcomes.Outcome.TheVariants as outcome
use Rattle.drc_app.specs.Ends.{Taking, Putting, HasWriteFault, puts}
use Rattle.drc_verify.specs.declared.verdicts.Verdict.{Verdict}
use Rattle.drc_app.specs.Given.{Given, Written, Differs}
use Rattle.drc_app.specs.Due.{command_due}
use Rattle.drc_app.specs.Outcome.{due_bytes, IsOutcome, IsDelivered, Delivers, told_to}
use Rattle.drc_app.specs.Run.{IsComplete, NamesFault, NotesVerdict}
use Rattle.drc_app.proofs.running.run_by_word.Goals as goal

always : {A : Type 0} (x : Option A) (Q : A → Type 0) → ((a : A) → Q a) → IfSome x Q
always None Q each = tt
always (Some a) Q each = each a

weaker : {A : Type 0} (x : Option A) (P Q : A → Type 0) → ((a : A) → P a → Q a) → IfSome x P → IfSome x Q
weaker None P Q each holds = tt
weaker (Some a) P Q each holds = each a holds

-- what is due isn't both given and a fault, or both an output and a verdict
apart : (d : Result Given Fault) (a : Given) (f : Fault) → d ≡ Err f → d ≡ Ok a → ⊥
apart (Ok b) a f bad good = cc
apart (Err e) a f bad good = cc

other : (d : Result Given Fault) (a : List ℕ × List ℕ) (v : Verdict) → d ≡ Ok (Differs v) → d ≡ Ok (Written a) → ⊥
other (Ok b) a v unlike done = cc
other (Err e) a v unlike done = cc

-- where no sink failed, what is due was written
written : (output notes : Putting) (text note : List ℕ) (status : ℕ) → IsDelivered output notes text note status → ¬ HasWriteFault output → ¬ HasWriteFault notes
    → (status ≡ 0) ⊎ (status ≡ 5)
written output notes text note zero is whole all = inl refl
written output notes text note (suc k) is whole all = elim is.1 [
  | inl cut ↦ absurd (whole cut.0)
  | inr cut ↦ absurd (all cut.1)
]

-- a call that came to this and delivered it is complete
complete : (line : Result Command ℕ) (input : Taking) (output notes : Putting) (o : Outcome) (status : ℕ) → IsOutcome line input o → Delivers o output notes status
    → IsComplete line input output notes status
complete (Err i) input output notes o status is given = tt
complete (Ok c) input output notes (outcome.BadWord i) status is given = absurd (let e = is.0 in cc)
complete (Ok c) input output notes outcome.ReadFailed status is given =
    always (told_to c input) _ (λ bytes answer good read whole all. absurd (read is.1))
complete (Ok c) input output notes outcome.NoMemory status is given =
    always (told_to c input) _ (λ bytes answer good read whole all. inr given.0)
complete (Ok c) input output notes (outcome.Refused f) status is given =
    weaker (told_to c input) (λ bytes. command_due c bytes ≡ Err f) _ (λ bytes bad answer good read whole all. absurd (apart (command_due c bytes) (Written answer) f bad good)) is.1
complete (Ok c) input output notes (outcome.Differs v) status is given =
    weaker (told_to c input) (λ bytes. command_due c bytes ≡ Ok (Differs v)) _ (λ bytes unlike answer good read whole all. absurd (other (command_due c bytes) answer v unlike good)) is.2
complete (Ok c) input output notes (outcome.Done d) status is given =
    always (told_to c input) _ (λ bytes answer good read whole all. written output notes _ _ status given whole all)

-- a call that came to this and delivered it names each fault that is known
named : (line : Result Command ℕ) (input : Taking) (output notes : Putting) (o : Outcome) (status : ℕ) → IsOutcome line input o → Delivers o output notes status
    → NamesFault line input status
named (Err i) input output notes o status is given = tt
named (Ok c) input output notes (outcome.BadWord i) status is given = absurd (let e = is.0 in cc)
named (Ok c) input output notes outcome.ReadFailed status is given = always (told_to c input) _ (λ bytes f bad. inr (inl (given.0, is.1)))
named (Ok c) input output notes outcome.NoMemory status is given = always (told_to c input) _ (λ bytes f bad. inr (inr given.0))
named (Ok c) input output notes (outcome.Refused e) status is given = always (told_to c input) _ (λ bytes f bad. inl given.0)
named (Ok c) input output notes (outcome.Differs v) status is given =
    weaker (told_to c input) (λ bytes. command_due c bytes ≡ Ok (Differs v)) _ (λ bytes unlike f bad. absurd (apart (command_due c bytes) (Differs v) f bad unlike)) is.2
named (Ok c) input output notes (outcome.Done d) status is given =
    let given = Written (due_bytes d) in
    weaker (told_to c input) (λ bytes. command_due c bytes ≡ Ok given) _ (λ bytes good f bad. absurd (apart (command_due c bytes) given f bad good)) is.1

-- and notes each verdict that is known
noted : (line : Result Command ℕ) (input : Taking) (output notes : Putting) (o : Outcome) (status : ℕ) → IsOutcome line input o → Delivers o output notes status
    → NotesVerdict line input status
noted (Err i) input output notes o status is given = tt
noted (Ok c) input output notes (outcome.BadWord i) status is given = absurd (let e = is.0 in cc)
noted (Ok c) input output notes outcome.ReadFailed status is given = always (told_to c input) _ (λ bytes v unlike. inr (inl (given.0, is.1)))
noted (Ok c) input output notes outcome.NoMemory status is given = always (told_to c input) _ (λ bytes v unlike. inr (inr given.0))
noted (Ok c) input output notes (outcome.Refused f) status is given =
    weaker (told_to c input) (λ bytes. command_due c bytes ≡ Err f) _ (λ bytes bad v unlike. absurd (apart (command_due c bytes) (Differs v) f bad unlike)) is.1
noted (Ok c) input output notes (outcome.Differs w) status is given = always (told_to c input) _ (λ bytes v unlike. inl given.0)
noted (Ok c) input output notes (outcome.Done d) status is given =
    let answer = due_bytes d in
    weaker (told_to c input) (λ bytes. command_due c bytes ≡ Ok (Written answer)) _ (λ bytes good v unlike. absurd (other (command_due c bytes) answer v unlike good)) is.1

pub returns-clause-complete : goal.returns-clause-complete
returns-clause-complete g c = complete _ _ _ _ c.outcome_of-outcome.result c.deliver.result c.outcome_of-outcome.ensures.outcome c.deliver.ensures.delivered

pub returns-clause-named : goal.returns-clause-named
returns-clause-named g c =
    let o = c.outcome_of-outcome in
    named _ _ (puts g.O.Sink.held g.O.Sink.faults g.O.Sink.finished c.args.output.now c.deliver.new.output)
    (puts g.N.Sink.held g.N.Sink.faults g.N.Sink.finished c.args.notes.now c.deliver.new.notes) o.result c.deliver.result o.ensures.outcome c.deliver.ensures.delivered

pub returns-clause-noted : goal.returns-clause-noted
returns-clause-noted g c =
    let o = c.outcome_of-outcome in
    noted _ _ (puts g.O.Sink.held g.O.Sink.faults g.O.Sink.finished c.args.output.now c.deliver.new.output)
    (puts g.N.Sink.held g.N.Sink.faults g.N.Sink.finished c.args.notes.now c.deliver.new.notes) o.result c.deliver.result o.ensures.outcome c.deliver.ensures.delivered
