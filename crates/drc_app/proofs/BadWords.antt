-- Reading word by word finds what words say: the command whose line they are, or their bad word.
use Rattle.std.proofs.Common.{◌≡◌, ℕ, zero, suc, ◌+◌, ◌<◌, Bool, true, false, map, List, [], ◌∷◌, ◌++◌, length, take, drop, Option, Some, None, Result, Ok, Err, ◌⊎◌, inl, inr, refl, sym, ap, ◌∙◌, subst, option_map, arith}
use Rattle.std.specs.Prelude.{◌||◌, not, is_none, codes, decimal, IfOk, Contains, option_and_then, if◌then◌else◌}
use Rattle.std.specs.Option.{option_or}
use Rattle.std.proofs.lemmas.Bool.{false≢true, or_right}
use Rattle.std.proofs.lemmas.List.{take-append-drop}
use Rattle.std.proofs.lemmas.Option.{none-some}
use Rattle.drc_gen.specs.declared.kinds.GenKind.TheVariants.{Grid}
use Rattle.drc_base.specs.declared.profiles.Profile.{Profile}
use Rattle.drc_base.specs.declared.profiles.TheConstants.{PROFILE_THREE}
use Rattle.predict.specs.declared.schemes.Prediction.TheVariants as prediction
use Rattle.drc_container.specs.declared.choice.predicts.Predict.TheVariants.{Plain}
use Rattle.drc_container.specs.declared.choice.methods.Method.TheVariants as method
use Rattle.drc_container.specs.declared.choice.choices.Index.TheVariants as index
use Rattle.drc_container.specs.declared.choice.choices.Walk.TheVariants as walk
use Rattle.drc_app.specs.declared.commands.Command.{Command}
use Rattle.drc_app.specs.declared.commands.Command.TheVariants as command
use Rattle.drc_app.specs.declared.options.LineChoice.{LineChoice}
use Rattle.drc_app.specs.declared.options.LineOption.{LineOption}
use Rattle.drc_app.specs.declared.options.LineOption.TheVariants.{Valued, PlainValues}
use Rattle.drc_app.specs.declared.options.ValueOption.{ValueOption}
use Rattle.drc_app.specs.declared.options.ValueOption.TheVariants as option
use Rattle.drc_app.specs.declared.command_table.CommandName.{CommandName}
use Rattle.drc_app.specs.declared.command_table.CommandName.TheVariants as name
use Rattle.drc_app.specs.declared.command_table.CommandWord.{CommandWord}
use Rattle.drc_app.specs.declared.command_table.CommandWord.TheVariants.{Gen, Kd}
use Rattle.drc_app.specs.declared.command_lines.Progress.{Progress}
use Rattle.drc_app.specs.declared.command_lines.Progress.TheVariants as progress
use Rattle.drc_app.specs.Options.{option_row, option_word, option_values, coding_options, reading_options, with_settings, none_chosen, predicts_texture, needs_three, goes_together, may_stand}
use Rattle.drc_app.specs.Commands.{command_word, command_row}
use Rattle.drc_app.specs.Line.{IsLine, named, gen, IsSized, Begins, IsBadWord, WordsSay}
use Rattle.drc_app.specs.Words.{word_rows, value_named}
use Rattle.drc_app.specs.Progress.{command_named, name_worded, gen_named, number_named, size_named, behind_kind, option_read, behind_option, with_option, valued, with_value, first_argument, after_word, whole, or_count, continued, line_from, line_of}
use Rattle.drc_app.specs.Laws.{WordsSaySomething, WordsSayOneThing}
use Rattle.drc_app.proofs.Settings.{sets_of, keeps_predict, contains-value, same-predict}
use Rattle.drc_app.proofs.Tables.{Some_is, named_is, value_among}
use Rattle.drc_app.proofs.Lines.{mapped, stood, ends, step, is_line, seed_ends, size_ends, kind_ends, line_ends}

-- words that bring a line to its end, with the words so far
record BeginsAt (p : Progress) (ws : List (List ℕ)) : Type 0 where
  rest : List (List ℕ)
  command : Command
  ended : ends p (ws ++ rest) ≡ Some command

begins_back : (p : Progress) (w : List ℕ) (q : Progress) (xs : List (List ℕ)) → after_word p w ≡ Some q → BeginsAt q xs → BeginsAt p (w ∷ xs)
begins_back p w q xs is b = record { rest = b.rest; command = b.command; ended = step p w (xs ++ b.rest) q is ∙ b.ended }

begins_behind : (p : Progress) (w : List ℕ) (q : Progress) (xs : List (List ℕ)) → after_word p w ≡ Some q → BeginsAt p (w ∷ xs) → BeginsAt q xs
begins_behind p w q xs is b = record { rest = b.rest; command = b.command; ended = sym (step p w (xs ++ b.rest) q is) ∙ b.ended }

-- a word behind which no line goes on
unread : (p : Progress) (w : List ℕ) (ws : List (List ℕ)) (c : Command) → after_word p w ≡ None → ends p (w ∷ ws) ≡ Some c → ⊥
unread p w ws c is e = none-some c (sym (ap (option_and_then (λ q. ends q ws)) is) ∙ e)

-- ---- every line that was begun can be brought to its end

begun_with : (p : Progress) (rest : List (List ℕ)) (c : Command) → ends p rest ≡ Some c → BeginsAt p []
begun_with p rest c e = record { rest = rest; command = c; ended = e }

named_end : (k : CommandWord) → BeginsAt (progress.Named k) []
named_end Gen = begun_with _ (codes "grid" ∷ decimal 3 ∷ decimal 0 ∷ []) _ (kind_ends Grid 3 0 (omega arith, omega arith) (omega arith))
named_end Kd = begun_with _ (codes "enc" ∷ []) _ refl
named_end k = begun_with _ [] _ refl

-- the options of a choice may stand in a line, and where they need a profile the command takes one
record Fits (by : CommandName) (ch : LineChoice) : Type 0 where
  stands : may_stand ch ≡ true
  takes : needs_three ch ≡ true → (command_row by).takes ≡ coding_options

-- a line that was begun has such options
abbrev Stands : Progress → Type 0
Stands (progress.Options by ch) = Fits by ch
Stands (progress.Value by ch o) = Fits by ch × Contains (command_row by).takes (Valued o)
Stands p = Unit {0}

none_fits : (by : CommandName) → Fits by none_chosen
none_fits by = record { stands = refl; takes = λ needs. absurd (false≢true needs) }

-- a command that takes a prediction takes all options of encoding
not_reading : Contains reading_options (Valued option.Predict) → ⊥
not_reading (zero, below, is) = let same : Valued option.Profile ≡ Valued option.Predict = is in cc
not_reading (suc k, below, is) = omega (arith, below)

nothing : (o : LineOption) → Contains [] o → ⊥
nothing o (k, below, is) = omega (arith, below)

takes_coding : (by : CommandName) → Contains (command_row by).takes (Valued option.Predict) → (command_row by).takes ≡ coding_options
takes_coding name.Enc is = refl
takes_coding name.Recode is = refl
takes_coding name.Dec is = absurd (not_reading is)
takes_coding name.Info is = absurd (not_reading is)
takes_coding name.Restore is = absurd (not_reading is)
takes_coding name.Verify is = absurd (not_reading is)
takes_coding name.VerifySurface is = absurd (not_reading is)
takes_coding name.KdEnc is = absurd (nothing (Valued option.Predict) is)
takes_coding name.KdDec is = absurd (nothing (Valued option.Predict) is)
takes_coding name.Version is = absurd (nothing (Valued option.Predict) is)
takes_coding (name.Help t) is = absurd (nothing (Valued option.Predict) is)

-- a line with an option more
option_stands : (by : CommandName) (ch : LineChoice) (w : List ℕ) (q : Progress) → Fits by ch → with_option by ch w ≡ Some q → Stands q
option_stands by ch w q fits e = found (value_named (word_rows option_word (command_row by).takes) w) refl e
  where
    entered : (o : LineOption) → Contains (command_row by).takes o → Stands (behind_option by (behind_kind (option_row o).takes ch).0 (behind_kind (option_row o).takes ch).1)
    entered (Valued option.Method) is = (fits, is)
    entered (Valued option.Index) is = (fits, is)
    entered (Valued option.Predict) is = (fits, is)
    entered (Valued option.Walk) is = (fits, is)
    entered (Valued option.Profile) is = (fits, is)
    entered PlainValues is = record { stands = fits.stands; takes = fits.takes }

    tested : (o : LineOption) (b : Bool) → Contains (command_row by).takes o
        → option_map (λ r. behind_option by r.0 r.1) (if b then None else Some (behind_kind (option_row o).takes ch)) ≡ Some q → Stands q
    tested o true is h = absurd (none-some q h)
    tested o false is h = subst Stands (Some_is _ _ h) (entered o is)

    found : (o : Option LineOption) → value_named (word_rows option_word (command_row by).takes) w ≡ o
        → option_map (λ r. behind_option by r.0 r.1)
        (option_and_then (λ o. if (option_row o).has ch then None else Some (behind_kind (option_row o).takes ch)) o) ≡ Some q → Stands q
    found None is h = absurd (none-some q h)
    found (Some o) is h = tested o ((option_row o).has ch) (value_among option_word (command_row by).takes w o is) h

-- a line with a value more
value_stands : (by : CommandName) (ch : LineChoice) (o : ValueOption) (w : List ℕ) (d : LineChoice) → Fits by ch → Contains (command_row by).takes (Valued o)
    → with_value ch o w ≡ Some d → Fits by d
value_stands by ch o w d fits is e =
    let s = stood (valued ch o w) d e in
    let v = mapped (λ set. set ch) (value_named (option_values o) w) d s.0 in
    record { stands = s.1; takes = needed o is v.0 (contains-value (option_values o) w v.0 (named_is (option_values o) w v.0 v.1)) v.2 }
  where
    as_before : (o : LineOption) (f : LineChoice → LineChoice) → keeps_predict ch o → Contains (sets_of (option_row o).takes) f → f ch ≡ d → needs_three d ≡ true
        → (command_row by).takes ≡ coding_options
    as_before o f all among same needs =
        fits.takes (ap predicts_texture (sym (same-predict ch o f all among) ∙ ap (λ (c : LineChoice). c.coding.predict) same) ∙ needs)

    needed : (o : ValueOption) → Contains (command_row by).takes (Valued o) → (f : LineChoice → LineChoice)
        → Contains (map (λ (v : List ℕ × (LineChoice → LineChoice)). v.1) (option_values o)) f → f ch ≡ d → needs_three d ≡ true
        → (command_row by).takes ≡ coding_options
    needed option.Predict is f among same needs = takes_coding by is
    needed option.Method is f among same needs = as_before (Valued option.Method) f refl among same needs
    needed option.Index is f among same needs = as_before (Valued option.Index) f refl among same needs
    needed option.Walk is f among same needs = as_before (Valued option.Walk) f refl among same needs
    needed option.Profile is f among same needs = as_before (Valued option.Profile) f refl among same needs

-- a first word with one word more
argument_stands : (k : CommandWord) (w : List ℕ) (q : Progress) → first_argument k w ≡ Some q → Stands q
argument_stands Gen w q e = let m = mapped progress.SizeDue (gen_named w) q e in subst Stands m.2 tt
argument_stands k w q e = found (name_worded (command_word k ∷ [])) e
  where
    found : (o : Option CommandName) → option_and_then (λ by. with_option by none_chosen w) o ≡ Some q → Stands q
    found None h = absurd (none-some q h)
    found (Some by) h = option_stands by none_chosen w q (none_fits by) h

-- what a line goes on to, where it was begun so
next_stands : (p : Progress) (w : List ℕ) (q : Progress) → after_word p w ≡ Some q → Stands p → Stands q
next_stands progress.Nothing w q e st = let m = mapped progress.Named (command_named w) q e in subst Stands m.2 tt
next_stands (progress.Named k) w q e st = found (name_worded (command_word k ∷ w ∷ [])) e
  where
    found : (o : Option CommandName) → option_or (option_map (λ by. progress.Options by none_chosen) o) (first_argument k w) ≡ Some q → Stands q
    found None h = argument_stands k w q h
    found (Some by) h = subst Stands (Some_is _ _ h) (none_fits by)
next_stands (progress.Options by ch) w q e st = option_stands by ch w q st e
next_stands (progress.Value by ch o) w q e st =
    let m = mapped (progress.Options by) (with_value ch o w) q e in subst Stands m.2 (value_stands by ch o w m.0 st.0 st.1 m.1)
next_stands (progress.SizeDue kind) w q e st = let m = mapped (progress.SeedDue kind) (size_named w) q e in subst Stands m.2 tt
next_stands (progress.SeedDue kind size) w q e st =
    let m = mapped (λ seed. progress.Whole (command.Gen (record { kind = kind; size = size; seed = seed }))) (number_named w) q e in subst Stands m.2 tt
next_stands (progress.Whole d) w q e st = absurd (none-some q e)

-- with a word in front
in_front : (p : Progress) (w : List ℕ) (q : Progress) → after_word p w ≡ Some q → BeginsAt q [] → BeginsAt p []
in_front p w q is b = record { rest = w ∷ b.rest; command = b.command; ended = step p w b.rest q is ∙ b.ended }

-- options that go together are a line
together_end : (by : CommandName) (ch : LineChoice) → goes_together ch ≡ true → BeginsAt (progress.Options by ch) []
together_end by ch together = begun_with _ [] ((command_row by).command ch) (ap (λ (b : Bool). if b then Some ((command_row by).command ch) else None) together)

or_true : (b : Bool) → (not b || true) ≡ true
or_true true = refl
or_true false = refl

-- with profile 3 they do
three_end : (by : CommandName) (ch : LineChoice) → BeginsAt (progress.Value by ch option.Profile) []
three_end by ch =
    let d : LineChoice = record ch { profile = Some PROFILE_THREE } in
    in_front (progress.Value by ch option.Profile) (codes "3") (progress.Options by d)
    (ap (λ (b : Bool). option_map (progress.Options by) (if b then Some d else None)) (or_true (needs_three ch)))
    (together_end by d (or_true (needs_three ch)))

options_end : (by : CommandName) (ch : LineChoice) → Fits by ch → BeginsAt (progress.Options by ch) []
options_end by ch fits = by_need (needs_three ch) refl
  where
    by_profile : (o : Option Profile) → ch.profile ≡ o → needs_three ch ≡ true → BeginsAt (progress.Options by ch) []
    by_profile (Some p) is needs = together_end by ch (sym (ap (λ (o : Option Profile). is_none o || goes_together ch) is) ∙ fits.stands)
    by_profile None is needs =
        in_front (progress.Options by ch) (codes "--profile") (progress.Value by ch option.Profile)
        (ap (λ os. option_map (λ r. behind_option by r.0 r.1) (option_read os ch (codes "--profile"))) (fits.takes needs) ∙ rw is refl)
        (three_end by ch)

    by_need : (b : Bool) → needs_three ch ≡ b → BeginsAt (progress.Options by ch) []
    by_need false is = together_end by ch (rw is refl)
    by_need true is = by_profile ch.profile refl is

-- a value that is due can be given
value_end : (by : CommandName) (ch : LineChoice) (o : ValueOption) → Fits by ch → BeginsAt (progress.Value by ch o) []
value_end by ch option.Profile fits = three_end by ch
value_end by ch option.Predict fits =
    let d : LineChoice = record ch { coding = record ch.coding { predict = Some (Plain prediction.Off) } } in
    in_front (progress.Value by ch option.Predict) (codes "none") (progress.Options by d)
    (ap (λ (b : Bool). option_map (progress.Options by) (if b then Some d else None)) (or_right (is_none ch.profile) true refl))
    (together_end by d refl)
value_end by ch option.Method fits =
    let d : LineChoice = record ch { coding = record ch.coding { method = Some method.Seq } } in
    in_front (progress.Value by ch option.Method) (codes "seq") (progress.Options by d)
    (ap (λ (b : Bool). option_map (progress.Options by) (if b then Some d else None)) fits.stands)
    (options_end by d (record { stands = fits.stands; takes = fits.takes }))
value_end by ch option.Index fits =
    let d : LineChoice = record ch { coding = record ch.coding { index = Some index.Plain } } in
    in_front (progress.Value by ch option.Index) (codes "plain") (progress.Options by d)
    (ap (λ (b : Bool). option_map (progress.Options by) (if b then Some d else None)) fits.stands)
    (options_end by d (record { stands = fits.stands; takes = fits.takes }))
value_end by ch option.Walk fits =
    let d : LineChoice = record ch { coding = record ch.coding { walk = Some walk.Depth } } in
    in_front (progress.Value by ch option.Walk) (codes "depth") (progress.Options by d)
    (ap (λ (b : Bool). option_map (progress.Options by) (if b then Some d else None)) fits.stands)
    (options_end by d (record { stands = fits.stands; takes = fits.takes }))

can_end : (p : Progress) → Stands p → BeginsAt p []
can_end progress.Nothing st = begun_with _ (codes "dec" ∷ []) _ refl
can_end (progress.Named k) st = named_end k
can_end (progress.Options by ch) st = options_end by ch st
can_end (progress.Value by ch o) st = value_end by ch o st.0
can_end (progress.SizeDue kind) st = begun_with _ (decimal 3 ∷ decimal 0 ∷ []) _ (size_ends kind 3 0 (omega arith, omega arith) (omega arith))
can_end (progress.SeedDue kind size) st = begun_with _ (decimal 0 ∷ []) _ (seed_ends kind size 0 (omega arith))
can_end (progress.Whole d) st = begun_with _ [] d refl

-- ---- the ends of readings

counted : (i : ℕ) (o : Option Command) (c : Command) → or_count i o ≡ Ok c → o ≡ Some c
counted i None c e = cc
counted i (Some d) c e = ap Some (let s : ◌≡◌ {A = Result Command ℕ} (Ok d) (Ok c) = e in cc)

uncounted : (i : ℕ) (o : Option Command) (j : ℕ) → or_count i o ≡ Err j → (j ≡ i) × (o ≡ None)
uncounted i None j e = ((let s : ◌≡◌ {A = Result Command ℕ} (Err i) (Err j) = e in cc), refl)
uncounted i (Some d) j e = cc

-- a command that is found is that of the end
found : (p : Progress) (ws : List (List ℕ)) (i : ℕ) (c : Command) → line_from i p ws ≡ Ok c → ends p ws ≡ Some c
found p [] i c e = counted i (whole p) c e
found p (w ∷ ws) i c e = behind (after_word p w) refl e (λ q h. found q ws (i + 1) c h)
  where
    behind : (o : Option Progress) → after_word p w ≡ o → continued i o (λ q. line_from (i + 1) q ws) ≡ Ok c
        → ((q : Progress) → line_from (i + 1) q ws ≡ Ok c → ends q ws ≡ Some c) → ends p (w ∷ ws) ≡ Some c
    behind None is h rest = cc
    behind (Some q) is h rest = step p w ws q is ∙ rest q h

finds : (p : Progress) (ws : List (List ℕ)) (i : ℕ) (c : Command) → ends p ws ≡ Some c → line_from i p ws ≡ Ok c
finds p [] i c e = ap (or_count i) e
finds p (w ∷ ws) i c e = behind (after_word p w) refl (λ q h. finds q ws (i + 1) c h)
  where
    behind : (o : Option Progress) → after_word p w ≡ o → ((q : Progress) → ends q ws ≡ Some c → line_from (i + 1) q ws ≡ Ok c)
        → line_from i p (w ∷ ws) ≡ Ok c
    behind None is rest = absurd (unread p w ws c is e)
    behind (Some q) is rest = ap (λ o. continued i o (λ q. line_from (i + 1) q ws)) is ∙ rest q (sym (step p w ws q is) ∙ e)

-- the word of number k is the bad one of words behind a line
record IsBadAt (p : Progress) (ws : List (List ℕ)) (k : ℕ) : Type 0 where
  least : (j : ℕ) → j < k → BeginsAt p (take (suc j) ws)
  bad : ((k < length ws) × ¬ BeginsAt p (take (suc k) ws)) ⊎ ((k ≡ length ws) × ((c : Command) → ¬ (ends p ws ≡ Some c)))

-- it is the next one, with a word in front
bad_back : (p : Progress) (w : List ℕ) (q : Progress) (ws : List (List ℕ)) (k : ℕ) → after_word p w ≡ Some q → Stands q → IsBadAt q ws k → IsBadAt p (w ∷ ws) (suc k)
bad_back p w q ws k is st b = record {
  least = first;
  bad = elim b.bad [
    | inl early ↦ inl (omega (arith, early.0), λ begins. early.1 (begins_behind p w q (take (suc k) ws) is begins))
    | inr late ↦ inr (ap suc late.0, λ c e. late.1 c (sym (step p w ws q is) ∙ e))
  ];
}
  where
    first : (j : ℕ) → j < suc k → BeginsAt p (take (suc j) (w ∷ ws))
    first zero below = begins_back p w q [] is (can_end q st)
    first (suc j) below = begins_back p w q (take (suc j) ws) is (b.least j (omega (arith, below)))

-- a word that isn't read on is the bad one
bad_here : (p : Progress) (w : List ℕ) (ws : List (List ℕ)) → after_word p w ≡ None → IsBadAt p (w ∷ ws) 0
bad_here p w ws is = record {
  least = λ j below. absurd (omega (arith, below));
  bad = inl (omega arith, λ b. unread p w b.rest b.command is b.ended);
}

is_bad : (p : Progress) (ws : List (List ℕ)) (i j : ℕ) → Stands p → line_from i p ws ≡ Err j → (k : ℕ) × (j ≡ i + k) × IsBadAt p ws k
is_bad p [] i j st e =
    let end = uncounted i (whole p) j e in (
      0,
      end.0 ∙ omega arith,
      record { least = λ j below. absurd (omega (arith, below)); bad = inr (refl, λ c h. none-some c (sym end.1 ∙ h)) },
    )
is_bad p (w ∷ ws) i j st e = behind (after_word p w) refl e (λ q st h. is_bad q ws (i + 1) j st h)
  where
    behind : (o : Option Progress) → after_word p w ≡ o → continued i o (λ q. line_from (i + 1) q ws) ≡ Err j
        → ((q : Progress) → Stands q → line_from (i + 1) q ws ≡ Err j → (k : ℕ) × (j ≡ i + 1 + k) × IsBadAt q ws k)
        → (k : ℕ) × (j ≡ i + k) × IsBadAt p (w ∷ ws) k
    behind None is h rest = (0, here i j h ∙ omega arith, bad_here p w ws is)
      where
        here : (i j : ℕ) → ◌≡◌ {A = Result Command ℕ} (Err i) (Err j) → j ≡ i
        here i j e = cc
    behind (Some q) is h rest =
        let on = next_stands p w q is st in
        let r = rest q on h in
        (suc r.0, omega (arith, r.1), bad_back p w q ws r.0 is on r.2)

-- ---- what words say

begins : (words : List (List ℕ)) → BeginsAt progress.Nothing words → Begins words
begins words b = record { rest = b.rest; command = b.command; line = is_line (words ++ b.rest) b.command b.ended }

begun : (words : List (List ℕ)) → Begins words → BeginsAt progress.Nothing words
begun words b = record { rest = b.rest; command = b.command; ended = line_ends (words ++ b.rest) b.command b.line }

bad_word : (words : List (List ℕ)) (i : ℕ) → IsBadAt progress.Nothing words i → IsBadWord words i
bad_word words i b = record {
  least = λ j below. begins (take (suc j) words) (b.least j below);
  bad = elim b.bad [
    | inl early ↦ inl (early.0, λ h. early.1 (begun (take (suc i) words) h))
    | inr late ↦ inr (late.0, λ c line. late.1 c (line_ends words c line))
  ];
}

pub words_say : WordsSaySomething
words_say words = said (line_of words) refl
  where
    said : (line : Result Command ℕ) → line_of words ≡ line → WordsSay words line
    said (Ok c) e = is_line words c (found progress.Nothing words 0 c e)
    said (Err i) e =
        let r = is_bad progress.Nothing words 0 i tt e in
        bad_word words i (subst (IsBadAt progress.Nothing words) (sym (r.1 ∙ omega arith)) r.2)

-- words that are a line begin one, however few of them are taken
line_begins : (words : List (List ℕ)) (c : Command) (n : ℕ) → IsLine words c → Begins (take n words)
line_begins words c n line = record { rest = drop n words; command = c; line = subst (λ ws. IsLine ws c) (sym (take-append-drop n words)) line }

no_line : (words : List (List ℕ)) (c : Command) (i : ℕ) → IsLine words c → IsBadWord words i → ⊥
no_line words c i line b = elim b.bad [
  | inl early ↦ early.1 (line_begins words c (suc i) line)
  | inr late ↦ late.1 c line
]

not_before : (words : List (List ℕ)) (i j : ℕ) → IsBadWord words i → IsBadWord words j → i < j → ⊥
not_before words i j a b below = elim a.bad [
  | inl early ↦ early.1 (b.least i below)
  | inr late ↦ elim b.bad [
    | inl other ↦ omega (arith, late.0, other.0, below)
    | inr other ↦ omega (arith, late.0, other.0, below)
  ]
]

one_bad : (words : List (List ℕ)) (i j : ℕ) → IsBadWord words i → IsBadWord words j → i ≡ j
one_bad words i j a b = elim (cases_order i j) [
  | inl below ↦ absurd (not_before words i j a b below)
  | inr rest ↦ elim rest [
    | inl same ↦ same
    | inr above ↦ absurd (not_before words j i b a above)
  ]
]
  where
    cases_order : (i j : ℕ) → (i < j) ⊎ (i ≡ j) ⊎ (j < i)
    cases_order i j = grind arith

pub say_one_thing : WordsSayOneThing
say_one_thing words (Ok c) line = sym (finds progress.Nothing words 0 c (line_ends words c line))
say_one_thing words (Err i) b = said (line_of words) refl
  where
    said : (line : Result Command ℕ) → line_of words ≡ line → ◌≡◌ {A = Result Command ℕ} (Err i) (line_of words)
    said (Ok c) e = absurd (no_line words c i (is_line words c (found progress.Nothing words 0 c e)) b)
    said (Err j) e = ap Err (one_bad words i j b (subst (WordsSay words) e (words_say words))) ∙ sym e

-- ---- sizes

-- a command of the table asks for no mesh
unasked : (by : CommandName) (ch : LineChoice) → IsSized ((command_row by).command ch)
unasked name.Enc ch = tt
unasked by ch = tt

sized_line : (words : List (List ℕ)) (c : Command) → IsLine words c → IsSized c
sized_line words c (named by settings among once together e is) = subst IsSized (sym is) (unasked by (with_settings none_chosen settings))
sized_line words c (gen kind size seed may small e is) = subst IsSized (sym is) may

-- a command that words say is of a size that a mesh may have
pub sized_command : (words : List (List ℕ)) (r : Result Command ℕ) → r ≡ line_of words → IfOk r IsSized
sized_command words (Ok c) e = sized_line words c (subst (WordsSay words) (sym e) (words_say words))
sized_command words (Err i) e = tt
