-- Words that bring a reading to its end are a command's line, and each command's line is read to its end.
use Rattle.std.proofs.Common.{◌≡◌, ℕ, zero, suc, ◌^◌, ◌<◌, Bool, true, false, List, [], ◌∷◌, ◌++◌, map, Option, Some, None, refl, sym, ap, ◌∙◌, subst, option_map, arith}
use Rattle.std.specs.Prelude.{decimal, Contains, if◌then◌else◌, option_and_then}
use Rattle.std.specs.Option.{option_or}
use Rattle.std.specs.Cmp.Lexicographic.{pointwise_decides}
use Rattle.std.proofs.lemmas.Map.Views.{Contains-from_lookup}
use Rattle.std.proofs.lemmas.Option.{none-some}
use Rattle.std.proofs.lemmas.Slice.Eq.{bytes_eq-Decides}
use Rattle.drc_gen.specs.declared.kinds.GenKind.{GenKind}
use Rattle.drc_gen.specs.GeneratedLaws.{IsSize}
use Rattle.drc_app.specs.declared.commands.Command.{Command}
use Rattle.drc_app.specs.declared.commands.Command.TheVariants as command
use Rattle.drc_app.specs.declared.options.LineOption.{LineOption}
use Rattle.drc_app.specs.declared.options.LineChoice.{LineChoice}
use Rattle.drc_app.specs.declared.options.ValueOption.{ValueOption}
use Rattle.drc_app.specs.declared.command_table.CommandName.{CommandName}
use Rattle.drc_app.specs.declared.command_table.CommandName.TheVariants as name
use Rattle.drc_app.specs.declared.command_table.CommandWord.{CommandWord}
use Rattle.drc_app.specs.declared.command_table.CommandWord.TheVariants as word
use Rattle.drc_app.specs.declared.help.HelpTopic.{HelpTopic}
use Rattle.drc_app.specs.declared.help.HelpTopic.TheVariants as topic
use Rattle.drc_app.specs.declared.command_lines.Progress.{Progress}
use Rattle.drc_app.specs.declared.command_lines.Progress.TheVariants as progress
use Rattle.drc_app.specs.Words.{word_rows, value_named}
use Rattle.drc_app.specs.Options.{OptionKind, flag, one_of, option_row, option_word, all_options, option_values, Sets, Setting, words_of, AreOf, with_settings, none_chosen, goes_together, may_stand}
use Rattle.drc_app.specs.Commands.{command_word, first_words, command_row, command_names}
use Rattle.drc_app.specs.Line.{gen_word, kinds, IsLine, named, gen}
use Rattle.drc_app.specs.Progress.{command_named, name_worded, gen_named, number_named, size_named, behind_kind, behind_option, with_option, valued, standing, with_value, first_argument, behind_command, after_word, whole}
use Rattle.drc_app.proofs.Numbers.{number_is, number_back, size_is, size_back}
use Rattle.drc_app.proofs.Settings.{is_option, option_back, value_back, AreNew, new-once, once-new_choice, stands-before, gen_back}
use Rattle.drc_app.proofs.Tables.{Some_is, each-of, named_is, word_is, value_among}

-- the command of a line behind which these words bring a reading to its end
abbrev pub ends : Progress → List (List ℕ) → Option Command
ends p [] = whole p
ends p (w ∷ ws) = option_and_then (λ q. ends q ws) (after_word p w)

pub step : (p : Progress) (w : List ℕ) (ws : List (List ℕ)) (q : Progress) → after_word p w ≡ Some q → ends p (w ∷ ws) ≡ ends q ws
step p w ws q e = ap (option_and_then (λ q. ends q ws)) e

pub mapped : {A B : Type 0} (f : A → B) (x : Option A) (y : B) → option_map f x ≡ Some y → (z : A) × (x ≡ Some z) × (f z ≡ y)
mapped f None y e = absurd (none-some y e)
mapped f (Some z) y e = (z, refl, Some_is (f z) y e)

-- a choice that may stand in a line
pub stood : (x : Option LineChoice) (d : LineChoice) → option_and_then standing x ≡ Some d → (x ≡ Some d) × (may_stand d ≡ true)
stood None d e = absurd (none-some d e)
stood (Some c) d e = by (may_stand c) refl e
  where
    by : (b : Bool) → may_stand c ≡ b → (if b then Some c else None) ≡ Some d → (◌≡◌ {A = Option LineChoice} (Some c) (Some d)) × (may_stand d ≡ true)
    by true is h = (h, sym (ap may_stand (Some_is c d h)) ∙ is)
    by false is h = absurd (none-some d h)

-- ---- what the words behind a line are, where they bring it to its end

-- settings of options that the command takes and the choice doesn't have, which make this command
record SetBy (by : CommandName) (ch : LineChoice) (ws : List (List ℕ)) (c : Command) : Type 0 where
  settings : List Setting
  taken : AreOf (command_row by).takes settings
  spelled : ws ≡ words_of settings
  new : AreNew ch settings
  made : c ≡ (command_row by).command (with_settings ch settings)
  together : goes_together (with_settings ch settings) ≡ true

-- a value of the option, and such settings behind it
record ValueBy (by : CommandName) (ch : LineChoice) (o : ValueOption) (ws : List (List ℕ)) (c : Command) : Type 0 where
  value : List ℕ
  set : LineChoice → LineChoice
  rest : List (List ℕ)
  spelled : ws ≡ value ∷ rest
  is : Contains (option_values o) (value, set)
  behind : SetBy by (set ch) rest c

-- a seed behind a kind and a size
record SeedFollows (kind : GenKind) (size : ℕ) (ws : List (List ℕ)) (c : Command) : Type 0 where
  seed : ℕ
  small : seed < 2 ^ 64
  spelled : ws ≡ decimal seed ∷ []
  made : c ≡ command.Gen (record { kind = kind; size = size; seed = seed })

-- a size and a seed behind a kind
record SizeFollows (kind : GenKind) (ws : List (List ℕ)) (c : Command) : Type 0 where
  size : ℕ
  rest : List (List ℕ)
  may : IsSize size
  spelled : ws ≡ decimal size ∷ rest
  seeded : SeedFollows kind size rest c

-- words that make a line that began so a command's
Completes : Progress → List (List ℕ) → Command → Type 0
Completes progress.Nothing ws c = IsLine ws c
Completes (progress.Named k) ws c = IsLine (command_word k ∷ ws) c
Completes (progress.Options by ch) ws c = SetBy by ch ws c
Completes (progress.Value by ch o) ws c = ValueBy by ch o ws c
Completes (progress.SizeDue kind) ws c = SizeFollows kind ws c
Completes (progress.SeedDue kind size) ws c = SeedFollows kind size ws c
Completes (progress.Whole d) ws c = (ws ≡ []) × (c ≡ d)

set_none : (by : CommandName) (ch : LineChoice) → goes_together ch ≡ true → SetBy by ch [] ((command_row by).command ch)
set_none by ch together = record { settings = []; taken = tt; spelled = refl; new = tt; made = refl; together = together }

-- the words of a command, in front of its options
options_line : (by : CommandName) (ws : List (List ℕ)) (c : Command) → SetBy by none_chosen ws c → IsLine ((command_row by).words ++ ws) c
options_line by ws c x =
    named by x.settings x.taken (new-once x.settings x.new) x.together (ap (λ r. (command_row by).words ++ r) x.spelled) x.made

-- a command whose words were read
words_are : (ws : List (List ℕ)) (by : CommandName) → name_worded ws ≡ Some by → ws ≡ (command_row by).words
words_are ws by e = beside command_names (Contains-from_lookup (λ x y. (pointwise_decides bytes_eq-Decides x y).0) ws by (map (λ n. ((command_row n).words, n)) command_names) e)
  where
    beside : (all : List CommandName) → Contains {X = List (List ℕ) × CommandName} (map (λ n. ((command_row n).words, n)) all) (ws, by)
        → ws ≡ (command_row by).words
    beside [] (k, below, is) = absurd (omega (arith, below))
    beside (n ∷ ns) (zero, below, is) = sym (ap (λ r. r.0) is) ∙ ap (λ r. (command_row r.1).words) is
    beside (n ∷ ns) (suc k, below, is) = beside ns (k, omega (arith, below), is)

-- an option that was read
setting_read : (by : CommandName) (ch : LineChoice) (w : List ℕ) (ws : List (List ℕ)) (c : Command) (q : Progress)
    → with_option by ch w ≡ Some q → Completes q ws c → SetBy by ch (w ∷ ws) c
unfolding Completes
setting_read by ch w ws c q e x = found (value_named (word_rows option_word (command_row by).takes) w) refl e
  where
    taken : (o : LineOption) (t : OptionKind) → Contains (command_row by).takes o → w ≡ option_word o → (option_row o).has ch ≡ false
        → (option_row o).takes ≡ t → Completes (behind_option by (behind_kind t ch).0 (behind_kind t ch).1) ws c → SetBy by ch (w ∷ ws) c
    taken o (flag f) is word free takes x = record {
      settings = record { option = o; value = []; set = f; sets = subst (λ t. Sets t [] f) (sym takes) (refl, refl) } ∷ x.settings;
      taken = (is, x.taken);
      spelled = ap (λ v. v ∷ ws) word ∙ ap (λ r. option_word o ∷ r) x.spelled;
      new = (free, x.new);
      made = x.made;
      together = x.together;
    }
    taken o (one_of v) is word free takes x = record {
      settings = record {
        option = o;
        value = x.value ∷ [];
        set = x.set;
        sets = subst (λ t. Sets t (x.value ∷ []) x.set) (sym takes) (x.value, refl, x.is);
      } ∷ x.behind.settings;
      taken = (is, x.behind.taken);
      spelled = ap (λ v. v ∷ ws) word ∙ ap (λ r. option_word o ∷ r) (x.spelled ∙ ap (λ r. x.value ∷ r) x.behind.spelled);
      new = (free, x.behind.new);
      made = x.behind.made;
      together = x.behind.together;
    }

    tested : (o : LineOption) (b : Bool) → Contains (command_row by).takes o → w ≡ option_word o → (option_row o).has ch ≡ b
        → option_map (λ r. behind_option by r.0 r.1) (if b then None else Some (behind_kind (option_row o).takes ch)) ≡ Some q → SetBy by ch (w ∷ ws) c
    tested o true is word has h = absurd (none-some q h)
    tested o false is word has h = taken o (option_row o).takes is word has refl (subst (λ q. Completes q ws c) (sym (Some_is _ _ h)) x)

    found : (o : Option LineOption) → value_named (word_rows option_word (command_row by).takes) w ≡ o
        → option_map (λ r. behind_option by r.0 r.1)
        (option_and_then (λ o. if (option_row o).has ch then None else Some (behind_kind (option_row o).takes ch)) o) ≡ Some q
        → SetBy by ch (w ∷ ws) c
    found None is h = absurd (none-some q h)
    found (Some o) is h =
        tested o ((option_row o).has ch) (value_among option_word (command_row by).takes w o is) (word_is option_word (command_row by).takes w o is) refl h

-- the first word behind a first word that was read, where the two are no command
argument_back : (k : CommandWord) (w : List ℕ) (ws : List (List ℕ)) (c : Command) (q : Progress)
    → first_argument k w ≡ Some q → Completes q ws c → IsLine (command_word k ∷ w ∷ ws) c
unfolding Completes
argument_back word.Gen w ws c q e x = by (mapped progress.SizeDue (gen_named w) q e)
  where
    by : (kind : GenKind) × (gen_named w ≡ Some kind) × (progress.SizeDue kind ≡ q) → IsLine (command_word word.Gen ∷ w ∷ ws) c
    by m =
        let s : SizeFollows m.0 ws c = subst (λ q. Completes q ws c) (sym m.2) x in
        gen m.0 s.size s.seeded.seed s.may s.seeded.small
        (ap (λ v. command_word word.Gen ∷ v ∷ ws) (word_is gen_word kinds w m.0 m.1)
        ∙ ap (λ r. command_word word.Gen ∷ gen_word m.0 ∷ r) (s.spelled ∙ ap (λ r. decimal s.size ∷ r) s.seeded.spelled))
        s.seeded.made
argument_back k w ws c q e x = found (name_worded (command_word k ∷ [])) refl e
  where
    found : (o : Option CommandName) → name_worded (command_word k ∷ []) ≡ o → option_and_then (λ by. with_option by none_chosen w) o ≡ Some q
        → IsLine (command_word k ∷ w ∷ ws) c
    found None is h = absurd (none-some q h)
    found (Some by) is h =
        subst (λ r. IsLine (r ++ w ∷ ws) c) (sym (words_are (command_word k ∷ []) by is))
        (options_line by (w ∷ ws) c (setting_read by none_chosen w ws c q h x))

-- a line that words bring to its end is brought there by the word before and them
back : (p : Progress) (w : List ℕ) (ws : List (List ℕ)) (c : Command) (q : Progress) → after_word p w ≡ Some q → Completes q ws c → Completes p (w ∷ ws) c
unfolding Completes
back progress.Nothing w ws c q e x =
    let m = mapped progress.Named (command_named w) q e in
    let line : IsLine (command_word m.0 ∷ ws) c = subst (λ q. Completes q ws c) (sym m.2) x in
    subst (λ v. IsLine (v ∷ ws) c) (sym (word_is command_word first_words w m.0 m.1)) line
back (progress.Named k) w ws c q e x = found (name_worded (command_word k ∷ w ∷ [])) refl e
  where
    found : (o : Option CommandName) → name_worded (command_word k ∷ w ∷ []) ≡ o
        → option_or (option_map (λ by. progress.Options by none_chosen) o) (first_argument k w) ≡ Some q → IsLine (command_word k ∷ w ∷ ws) c
    found None is h = argument_back k w ws c q h x
    found (Some by) is h =
        subst (λ r. IsLine (r ++ ws) c) (sym (words_are (command_word k ∷ w ∷ []) by is))
        (options_line by ws c (subst (λ q. Completes q ws c) (sym (Some_is _ _ h)) x))
back (progress.Options by ch) w ws c q e x = setting_read by ch w ws c q e x
back (progress.Value by ch o) w ws c q e x =
    let m = mapped (progress.Options by) (with_value ch o w) q e in
    let v = mapped (λ set. set ch) (value_named (option_values o) w) m.0 (stood (valued ch o w) m.0 m.1).0 in
    record {
      value = w;
      set = v.0;
      rest = ws;
      spelled = refl;
      is = named_is (option_values o) w v.0 v.1;
      behind = subst (λ q. Completes q ws c) (sym m.2 ∙ ap (progress.Options by) (sym v.2)) x;
    }
back (progress.SizeDue kind) w ws c q e x =
    let m = mapped (progress.SeedDue kind) (size_named w) q e in
    let is = size_is w m.0 m.1 in
    record { size = m.0; rest = ws; may = is.1; spelled = ap (λ v. v ∷ ws) is.0; seeded = subst (λ q. Completes q ws c) (sym m.2) x }
back (progress.SeedDue kind size) w ws c q e x =
    let m = mapped (λ seed. progress.Whole (command.Gen (record { kind = kind; size = size; seed = seed }))) (number_named w) q e in
    let is = number_is w m.0 m.1 in
    let end : (ws ≡ []) × (c ≡ command.Gen (record { kind = kind; size = size; seed = m.0 })) = subst (λ q. Completes q ws c) (sym m.2) x in
    record { seed = m.0; small = is.1; spelled = ap (λ v. v ∷ ws) is.0 ∙ ap (λ r. decimal m.0 ∷ r) end.0; made = end.1 }
back (progress.Whole d) w ws c q e x = absurd (none-some q e)

whole_is : (p : Progress) (c : Command) → whole p ≡ Some c → Completes p [] c
unfolding Completes
whole_is (progress.Named k) c e =
    let m = mapped (λ by. (command_row by).command none_chosen) (name_worded (command_word k ∷ [])) c e in
    subst (IsLine _) m.2
    (subst (λ r. IsLine (r ++ []) ((command_row m.0).command none_chosen)) (sym (words_are (command_word k ∷ []) m.0 m.1))
    (options_line m.0 [] _ (set_none m.0 none_chosen refl)))
whole_is (progress.Options by ch) c e = tested (goes_together ch) refl e
  where
    tested : (b : Bool) → goes_together ch ≡ b → (if b then Some ((command_row by).command ch) else None) ≡ Some c → SetBy by ch [] c
    tested true is h = subst (SetBy by ch []) (Some_is _ _ h) (set_none by ch is)
    tested false is h = absurd (none-some c h)
whole_is (progress.Whole d) c e = (refl, sym (Some_is _ _ e))
whole_is p c e = absurd (none-some c e)

completes : (p : Progress) (ws : List (List ℕ)) (c : Command) → ends p ws ≡ Some c → Completes p ws c
completes p [] c e = whole_is p c e
completes p (w ∷ ws) c e = found (after_word p w) refl e (λ q h. completes q ws c h)
  where
    found : (o : Option Progress) → after_word p w ≡ o → option_and_then (λ q. ends q ws) o ≡ Some c
        → ((q : Progress) → ends q ws ≡ Some c → Completes q ws c) → Completes p (w ∷ ws) c
    found None is h rest = absurd (none-some c h)
    found (Some q) is h rest = back p w ws c q is (rest q h)

-- words that are read to an end are a line
pub is_line : (words : List (List ℕ)) (c : Command) → ends progress.Nothing words ≡ Some c → IsLine words c
unfolding Completes
is_line words c e = completes progress.Nothing words c e

-- ---- lines are read to their ends

-- an option that the command takes and the choice doesn't have, with its value
setting_ends : (by : CommandName) (ch : LineChoice) (p : Progress) (s : Setting) (ws : List (List ℕ)) → Contains (command_row by).takes s.option
    → (option_row s.option).has ch ≡ false → may_stand (s.set ch) ≡ true → after_word p (option_word s.option) ≡ with_option by ch (option_word s.option)
    → ends p (option_word s.option ∷ s.value ++ ws) ≡ ends (progress.Options by (s.set ch)) ws
setting_ends by ch p s ws among free stands same = taken (option_row s.option).takes s.value s.set s.sets stands (same ∙ entered)
  where
    entered : with_option by ch (option_word s.option)
        ≡ Some (behind_option by (behind_kind (option_row s.option).takes ch).0 (behind_kind (option_row s.option).takes ch).1)
    entered =
        ap (λ o. option_map (λ r. behind_option by r.0 r.1)
        (option_and_then (λ o. if (option_row o).has ch then None else Some (behind_kind (option_row o).takes ch)) o)) (option_back by s.option among)
        ∙ ap (λ b. option_map (λ r. behind_option by r.0 r.1) (if b then None else Some (behind_kind (option_row s.option).takes ch))) free

    taken : (t : OptionKind) (value : List (List ℕ)) (set : LineChoice → LineChoice) → Sets t value set → may_stand (set ch) ≡ true
        → after_word p (option_word s.option) ≡ Some (behind_option by (behind_kind t ch).0 (behind_kind t ch).1)
        → ends p (option_word s.option ∷ value ++ ws) ≡ ends (progress.Options by (set ch)) ws
    taken (flag f) value set is stands e =
        ap (λ v. ends p (option_word s.option ∷ v ++ ws)) is.0
        ∙ step p (option_word s.option) ws _ e
        ∙ ap (λ f. ends (progress.Options by (f ch)) ws) (sym is.1)
    taken (one_of o) value set is stands e =
        ap (λ v. ends p (option_word s.option ∷ v ++ ws)) is.1
        ∙ step p (option_word s.option) (is.0 ∷ ws) _ e
        ∙ step (progress.Value by ch o) is.0 ws _ (ap (λ r. option_map (progress.Options by) (option_and_then standing (option_map (λ set. set ch) r))) (value_back o is.0 set is.2)
        ∙ ap (λ (b : Bool). option_map (progress.Options by) (if b then Some (set ch) else None)) stands)

settings_end : (by : CommandName) (ch : LineChoice) (ss : List Setting) → AreOf (command_row by).takes ss → AreNew ch ss
    → goes_together (with_settings ch ss) ≡ true → ends (progress.Options by ch) (words_of ss) ≡ Some ((command_row by).command (with_settings ch ss))
settings_end by ch [] among new together = ap (λ (b : Bool). if b then Some ((command_row by).command ch) else None) together
settings_end by ch (s ∷ ss) among new together =
    setting_ends by ch (progress.Options by ch) s (words_of ss) among.0 new.0 (stands-before (s.set ch) ss new.1 together) refl
    ∙ settings_end by (s.set ch) ss among.1 new.1 together

-- where the words of a command lead, which is a whole line: behind them stand its options
record Reached (by : CommandName) : Type 0 where
  at : Progress
  led : (ws : List (List ℕ)) → ends progress.Nothing ((command_row by).words ++ ws) ≡ ends at ws
  alone : whole at ≡ Some ((command_row by).command none_chosen)
  goes_on : (o : LineOption) → after_word at (option_word o) ≡ with_option by none_chosen (option_word o)

-- by two words at its options, at once
behind_two : (by : CommandName) → ((ws : List (List ℕ)) → ends progress.Nothing ((command_row by).words ++ ws) ≡ ends (progress.Options by none_chosen) ws)
    → Reached by
behind_two by led = record { at = progress.Options by none_chosen; led = led; alone = refl; goes_on = λ o. refl }

-- by one word at this first word, of which options are no second words of commands
behind_one : (by : CommandName) (k : CommandWord)
    → ((ws : List (List ℕ)) → ends progress.Nothing ((command_row by).words ++ ws) ≡ ends (progress.Named k) ws)
    → whole (progress.Named k) ≡ Some ((command_row by).command none_chosen)
    → map (λ o. behind_command k (option_word o)) all_options ≡ map (λ o. with_option by none_chosen (option_word o)) all_options
    → Reached by
behind_one by k led alone goes_on = record {
  at = progress.Named k;
  led = led;
  alone = alone;
  goes_on = λ o. each-of (λ o. behind_command k (option_word o)) (λ o. with_option by none_chosen (option_word o)) all_options o goes_on (is_option o);
}

reached_help : (t : HelpTopic) → Reached (name.Help t)
reached_help topic.All = behind_one (name.Help topic.All) word.Help (λ ws. refl) refl refl
reached_help t = behind_two (name.Help t) (λ ws. refl)

reached : (by : CommandName) → Reached by
reached name.Enc = behind_one name.Enc word.Enc (λ ws. refl) refl refl
reached name.Dec = behind_one name.Dec word.Dec (λ ws. refl) refl refl
reached name.Info = behind_one name.Info word.Info (λ ws. refl) refl refl
reached name.Recode = behind_one name.Recode word.Recode (λ ws. refl) refl refl
reached name.Verify = behind_one name.Verify word.Verify (λ ws. refl) refl refl
reached (name.Help t) = reached_help t
reached name.Version = behind_one name.Version word.Version (λ ws. refl) refl refl
reached by = behind_two by (λ ws. refl)

command_ends : (by : CommandName) (ss : List Setting) → AreOf (command_row by).takes ss → AreNew none_chosen ss
    → goes_together (with_settings none_chosen ss) ≡ true → ends progress.Nothing ((command_row by).words ++ words_of ss) ≡ Some ((command_row by).command (with_settings none_chosen ss))
command_ends by [] among new together = (reached by).led [] ∙ (reached by).alone
command_ends by (s ∷ ss) among new together =
    (reached by).led (words_of (s ∷ ss))
    ∙ setting_ends by none_chosen (reached by).at s (words_of ss) among.0 new.0 (stands-before (s.set none_chosen) ss new.1 together) ((reached by).goes_on s.option)
    ∙ settings_end by (s.set none_chosen) ss among.1 new.1 together

-- the numbers of a generated mesh, and its kind in front of them
pub seed_ends : (kind : GenKind) (size seed : ℕ) → seed < 2 ^ 64
    → ends (progress.SeedDue kind size) (decimal seed ∷ []) ≡ Some (command.Gen (record { kind = kind; size = size; seed = seed }))
seed_ends kind size seed small =
    step (progress.SeedDue kind size) (decimal seed) [] _
    (ap (option_map (λ seed. progress.Whole (command.Gen (record { kind = kind; size = size; seed = seed })))) (number_back seed small))

pub size_ends : (kind : GenKind) (size seed : ℕ) → IsSize size → seed < 2 ^ 64
    → ends (progress.SizeDue kind) (decimal size ∷ decimal seed ∷ []) ≡ Some (command.Gen (record { kind = kind; size = size; seed = seed }))
size_ends kind size seed may small =
    step (progress.SizeDue kind) (decimal size) (decimal seed ∷ []) (progress.SeedDue kind size) (ap (option_map (progress.SeedDue kind)) (size_back size may))
    ∙ seed_ends kind size seed small

pub kind_ends : (kind : GenKind) (size seed : ℕ) → IsSize size → seed < 2 ^ 64
    → ends (progress.Named word.Gen) (gen_word kind ∷ decimal size ∷ decimal seed ∷ []) ≡ Some (command.Gen (record { kind = kind; size = size; seed = seed }))
kind_ends kind size seed may small =
    step (progress.Named word.Gen) (gen_word kind) (decimal size ∷ decimal seed ∷ []) (progress.SizeDue kind) (ap (option_map progress.SizeDue) (gen_back kind))
    ∙ size_ends kind size seed may small

-- a command's line is read to its end
pub line_ends : (words : List (List ℕ)) (c : Command) → IsLine words c → ends progress.Nothing words ≡ Some c
line_ends words c (named by ss among once together e is) =
    ap (ends progress.Nothing) e ∙ command_ends by ss among (once-new_choice ss once) together ∙ ap Some (sym is)
line_ends words c (gen kind size seed may small e is) = ap (ends progress.Nothing) e ∙ kind_ends kind size seed may small ∙ ap Some (sym is)
