use Rattle.std.proofs.Common.{rules, ◌≡◌, ℕ, ◌+◌, ◌<◌, Bool, true, false, ltb, List, [], ◌++◌, length, Option, Some, None, Ok, Err, inl, inr, refl, sym, ap, ◌∙◌, subst, append-nil, arith}
use Rattle.std.specs.Prelude.{IfSome, MatchBool, if◌then◌else◌}
use Rattle.std.specs.Io.KnownBytes.{Consumes, IsAtEnd, Keeps}
use Rattle.std.proofs.lemmas.Bool.{false≢true, and_from, lt-ltb}
use Rattle.std.proofs.lemmas.List.{length-append}
use Rattle.drc_base.specs.Sources.{EndsAt}
use Rattle.drc_base.specs.declared.faults.Fault.{Fault}
use Rattle.drc_base.specs.declared.limits.TheConstants.{MAX_INPUT_BYTES}
use Rattle.drc_app.specs.declared.commands.Command.{Command}
use Rattle.drc_app.specs.declared.commands.Command.TheVariants as command
use Rattle.drc_app.specs.declared.outcomes.Outcome.{Outcome}
use Rattle.drc_app.specs.declared.outcomes.Outcome.TheVariants as outcome
use Rattle.drc_app.specs.Ends.{Taking, IsReadWhole, IsPastMost, IsUntaken, takes}
use Rattle.drc_app.specs.Given.{Written, Differs}
use Rattle.drc_app.specs.Due.{input_limit, reads, takes_memory, worked, command_due}
use Rattle.drc_app.specs.Kept.{KeepsGeometry}
use Rattle.drc_app.specs.Outcome.{due_bytes, RanShort, IsOutcome, IsOutcomeAt}
use Rattle.drc_app.proofs.outcomes.outcome_of.Goals as goal

-- where all was read, the bytes that were left are those that were taken
all-taken : (left after : Option (List ℕ)) (bytes : List ℕ) → Consumes left after bytes → IsAtEnd after → IfSome left (λ xs. xs ≡ bytes)
all-taken None after bytes consumed none = tt
all-taken (Some xs) None bytes consumed none = absurd consumed
all-taken (Some xs) (Some ys) bytes consumed none = consumed ∙ ap (λ r. bytes ++ r) none ∙ append-nil bytes

told : (b : Bool) (left : Option (List ℕ)) (bytes : List ℕ) (P : List ℕ → Type 0) → b ≡ true → IfSome left (λ xs. xs ≡ bytes) → P bytes
    → IfSome (if b then left else Some []) P
told true None bytes P on all holds = tt
told true (Some xs) bytes P on all holds = subst P (sym all) holds
told false left bytes P on all holds = absurd (false≢true on)

limit-told : (b : Bool) (left : Option (List ℕ)) (P : List ℕ → Type 0) → b ≡ true → IfSome left P → IfSome (if b then left else Some []) P
limit-told true left P on holds = holds
limit-told false left P on holds = absurd (false≢true on)

on-true : {A : Type 0} (B : Type 0) (b : Bool) → b ≡ true → A → MatchBool b A B
on-true B true on a = a
on-true B false on a = absurd (false≢true on)

-- what a command that reads came to on all bytes of its input is what its line came to
whole-outcome : (c : Command) (input : Taking) (whole : IsReadWhole input) (o : Outcome) → reads c ≡ true → IfSome input.left (λ xs. xs ≡ whole.taken)
    → IsOutcomeAt c whole.taken o → IsOutcome (Ok c) input o
whole-outcome c input whole (outcome.BadWord i) on all at = absurd at
whole-outcome c input whole outcome.ReadFailed on all at = absurd at
whole-outcome c input whole outcome.NoMemory on all at = (at.0, on-true (IsUntaken input) (reads c) on (inr (inr (whole, at.1))))
whole-outcome c input whole (outcome.Refused f) on all at =
    (on-true (IsUntaken input) (reads c) on (inl (whole, at)), told (reads c) input.left whole.taken (λ b. command_due c b ≡ Err f) on all at)
whole-outcome c input whole (outcome.Done d) on all at =
    let given = Written (due_bytes d) in (
      on-true (IsUntaken input) (reads c) on whole,
      told (reads c) input.left whole.taken (λ b. command_due c b ≡ Ok given) on all at.0,
      told (reads c) input.left whole.taken (λ b. KeepsGeometry c b given) on all at.1,
    )
whole-outcome c input whole (outcome.Differs v) on all at = (
  at.0,
  on-true (IsUntaken input) (reads c) on whole,
  told (reads c) input.left whole.taken (λ b. command_due c b ≡ Ok (Differs v)) on all at.1,
  told (reads c) input.left whole.taken (λ b. KeepsGeometry c b (Differs v)) on all at.2,
)

-- a command that reads takes memory
reads-takes : (c : Command) → reads c ≡ true → takes_memory c ≡ true
reads-takes (command.Help topic) on = on
reads-takes command.Version on = on
reads-takes c on = refl

-- more bytes than a command reads are a fault
past-limit : (c : Command) (left after : Option (List ℕ)) (taken : List ℕ) → reads c ≡ true → Consumes left after taken → length taken ≡ MAX_INPUT_BYTES + 1
    → IfSome left (λ xs. command_due c xs ≡ Err input_limit)
past-limit c None after taken on consumed more = tt
past-limit c (Some xs) None taken on consumed more = absurd consumed
past-limit c (Some xs) (Some ys) taken on consumed more =
    let many : MAX_INPUT_BYTES < length xs = omega (arith, ap length consumed, length-append taken ys, more) in
    ap (λ b. if b then Err input_limit else worked c xs) (and_from (reads c) (ltb MAX_INPUT_BYTES (length xs)) on (lt-ltb MAX_INPUT_BYTES (length xs) many))

-- what a command that reads came to on too many bytes is what its line came to
past-outcome : (c : Command) (input : Taking) (f : Fault) → reads c ≡ true → IsPastMost input → f ≡ input_limit → IsOutcome (Ok c) input (outcome.Refused f)
past-outcome c input f on past is =
    subst (λ e. IsOutcome (Ok c) input (outcome.Refused e)) (sym is) (
      on-true (IsUntaken input) (reads c) on (inr (past, refl)),
      limit-told (reads c) input.left (λ b. command_due c b ≡ Err input_limit) on (past-limit c input.left input.left_after past.taken on past.gave.consumed past.more),
    )

-- nothing is taken for bad words
unmoved : (left : Option (List ℕ)) → Keeps left left
unmoved None = tt
unmoved (Some xs) = refl

pub returns-in-Err-clause-outcome : goal.returns-in-Err-clause-outcome
returns-in-Err-clause-outcome g c =
    (sym c.in-Err.ensures.line, record { kept = unmoved (g.I.Source.left c.args.input.now); given = refl; faults = refl })

-- a source that is as it was gave nothing
untaken-same : {S : Type 0} (left : S → Option (List ℕ)) (given faults : S → ℕ) (ended : S → Bool) (old new : S) → new ≡ old
    → IsUntaken (takes left given faults ended old new)
untaken-same left given faults ended old new same =
    subst (λ n. IsUntaken (takes left given faults ended old n)) (sym same) (record { kept = unmoved (left old); given = refl; faults = refl })

pub returns-in-Err-Memory-clause-outcome : goal.returns-in-Err-Memory-clause-outcome
returns-in-Err-Memory-clause-outcome g c =
    let source = g.I.Source in
    let input = takes source.left source.given source.faults source.ended c.args.input.now c.read_all.new.input in
    let command = c.in-Ok.command in
    let on : reads command ≡ true = search rules in
    let short : RanShort command input = elim (c.in-Err-Memory.ensures.memory (ap Err c.in-Err-Memory.field-0-is)) [
      | inl same ↦ inl (untaken-same source.left source.given source.faults source.ended c.args.input.now c.read_all.new.input same)
      | inr more ↦ inr (inl more)
    ] in
    subst (λ l. IsOutcome l input outcome.NoMemory) c.in-Ok.ensures.line (reads-takes command on, on-true (IsUntaken input) (reads command) on short)

pub returns-in-Err-TooLong-clause-outcome : goal.returns-in-Err-TooLong-clause-outcome
returns-in-Err-TooLong-clause-outcome g c =
    let source = g.I.Source in
    let input = takes source.left source.given source.faults source.ended c.args.input.now c.read_all.new.input in
    let gave = c.in-Err-TooLong.ensures.gave in
    let command = c.in-Ok.command in
    let on : reads command ≡ true = search rules in
    let more : length gave.0 ≡ MAX_INPUT_BYTES + 1 = subst (λ e. EndsAt MAX_INPUT_BYTES gave.0 e) c.in-Err-TooLong.field-0-is gave.2 in
    let past : IsPastMost input = record { taken = gave.0; more = more; gave = gave.1 } in
    let f = c.input_limit.result in
    subst (λ l. IsOutcome l input (outcome.Refused f)) c.in-Ok.ensures.line (past-outcome command input f on past c.input_limit.ensures)

pub returns-in-Ok-read_all-clause-outcome : goal.returns-in-Ok-read_all-clause-outcome
returns-in-Ok-read_all-clause-outcome g c =
    let source = g.I.Source in
    let input = takes source.left source.given source.faults source.ended c.args.input.now c.read_all.new.input in
    let gave = c.in-Ok-read_all.ensures.gave in
    let command = c.in-Ok.command in
    let on : reads command ≡ true = search rules in
    let whole : IsReadWhole input = record {
      taken = gave.0;
      few = gave.2.1;
      gave = gave.1;
      ended = c.in-Ok-read_all.ensures.ended;
      none_left = c.in-Ok-read_all.ensures.none_left;
    } in
    let taken : IfSome (source.left c.args.input.now) (λ xs. xs ≡ gave.0) =
    all-taken (source.left c.args.input.now) (source.left c.read_all.new.input) gave.0 gave.1.consumed c.in-Ok-read_all.ensures.none_left in
    let o = c.outcome_at-in-Ok-read_all.result in
    subst (λ l. IsOutcome l input o) c.in-Ok.ensures.line (whole-outcome command input whole o on taken
    (subst (λ bytes. IsOutcomeAt command bytes o) gave.2.0 c.outcome_at-in-Ok-read_all.ensures))
