-- Settings whose options a choice doesn't have yet, one behind another, are settings of each option at most once.
use Rattle.std.proofs.Common.{◌≡◌, ℕ, zero, suc, Bool, true, false, List, [], ◌∷◌, map, Option, None, Some, refl, sym, ap, ◌∙◌, arith}
use Rattle.std.specs.Prelude.{◌≢◌, ◌||◌, is_some, Contains}
use Rattle.std.specs.Map.{keys_of}
use Rattle.std.specs.Str.{bytes_eq}
use Rattle.std.proofs.lemmas.Bool.{false≢true}
use Rattle.std.proofs.lemmas.Slice.Eq.{bytes_eq-Decides}
use Rattle.drc_base.specs.declared.profiles.Profile.{Profile}
use Rattle.drc_container.specs.declared.choice.choices.Index.{Index}
use Rattle.drc_container.specs.declared.choice.choices.Index.TheVariants as index
use Rattle.predict.specs.declared.schemes.Prediction.{Prediction}
use Rattle.predict.specs.declared.schemes.Prediction.TheVariants as prediction
use Rattle.drc_container.specs.declared.choice.predicts.Predict.{Predict}
use Rattle.drc_container.specs.declared.choice.predicts.Predict.TheVariants.{Plain, Shape}
use Rattle.drc_container.specs.choice.Predicts.{predict_word, predicts}
use Rattle.drc_container.specs.declared.choice.choices.Walk.{Walk}
use Rattle.drc_container.specs.declared.choice.choices.Walk.TheVariants as walk
use Rattle.drc_container.specs.declared.choice.methods.Method.{Method}
use Rattle.drc_container.specs.declared.choice.methods.Method.TheVariants as method
use Rattle.drc_gen.specs.declared.kinds.GenKind.{GenKind}
use Rattle.drc_gen.specs.declared.kinds.GenKind.TheVariants.{Grid}
use Rattle.drc_app.specs.declared.command_table.CommandName.{CommandName}
use Rattle.drc_app.specs.declared.command_table.CommandName.TheVariants as name
use Rattle.drc_app.specs.declared.options.LineOption.{LineOption}
use Rattle.drc_app.specs.declared.options.LineOption.TheVariants.{Valued, PlainValues}
use Rattle.drc_app.specs.declared.options.LineChoice.{LineChoice}
use Rattle.drc_app.specs.declared.options.ValueOption.{ValueOption}
use Rattle.drc_app.specs.declared.options.ValueOption.TheVariants as option
use Rattle.drc_app.specs.Words.{Words, word_rows, value_named}
use Rattle.drc_app.specs.Options.{OptionKind, flag, one_of, option_row, option_word, all_options, option_values, Sets, Setting, SetsNone, SetsOnce, with_settings, none_chosen, goes_together, may_stand}
use Rattle.drc_app.specs.Options.{method_word, methods, index_word, indices, walk_word, walks, profile_words}
use Rattle.drc_app.specs.Commands.{command_row}
use Rattle.drc_app.specs.Line.{gen_word}
use Rattle.drc_app.specs.Progress.{gen_named}
use Rattle.drc_app.specs.Laws.{WordsNameBack}
use Rattle.drc_app.proofs.Tables.{Some_is, each-of, are_distinct, names_back, value_among, row_among}

-- ---- computations over all rows

-- each option is what its word names among all of them, and so is among them
word_back : (o : LineOption) → value_named (word_rows option_word all_options) (option_word o) ≡ Some o
word_back (Valued v) = valued v
  where
    valued : (v : ValueOption) → value_named (word_rows option_word all_options) (option_word (Valued v)) ≡ Some (Valued v)
    valued option.Method = refl
    valued v = refl
word_back o = refl

pub is_option : (o : LineOption) → Contains all_options o
is_option o = value_among option_word all_options (option_word o) o (word_back o)

-- an option that a command takes is what its word names among these
pub option_back : (by : CommandName) (o : LineOption) → Contains (command_row by).takes o
    → value_named (word_rows option_word (command_row by).takes) (option_word o) ≡ Some o
option_back by o is =
    names_back (word_rows option_word (command_row by).takes) (option_word o) o (distinct by)
    (row_among (λ x. (option_word x, x)) (command_row by).takes o is)
  where
    distinct : (by : CommandName) → are_distinct bytes_eq (keys_of (word_rows option_word (command_row by).takes)) ≡ true
    distinct name.Enc = refl
    distinct by = refl

-- options of one word are one
one_option : (o p : LineOption) → option_word o ≡ option_word p → o ≡ p
one_option o p e = Some_is o p (sym (word_back o) ∙ ap (value_named (word_rows option_word all_options)) e ∙ word_back p)

pub value_back : (o : ValueOption) (w : List ℕ) (set : LineChoice → LineChoice) → Contains (option_values o) (w, set) → value_named (option_values o) w ≡ Some set
value_back o w set is = names_back (option_values o) w set (distinct o) is
  where
    distinct : (o : ValueOption) → are_distinct bytes_eq (keys_of (option_values o)) ≡ true
    distinct option.Method = refl
    distinct o = refl

-- what the settings of an option set
abbrev pub sets_of : OptionKind → List (LineChoice → LineChoice)
sets_of (flag f) = f ∷ []
sets_of (one_of o) = map (λ v. v.1) (option_values o)

-- which options a choice has, behind each setting of an option; and which it had, with that option more
abbrev had : LineChoice → List Bool
had c = map (λ o. (option_row o).has c) all_options

abbrev had_more : LineChoice → List ℕ → List Bool
had_more c w = map (λ o. bytes_eq (option_word o) w || (option_row o).has c) all_options

abbrev behind_each : LineChoice → LineOption → List (List Bool)
behind_each c o = map (λ (f : LineChoice → LineChoice). had (f c)) (sets_of (option_row o).takes)

abbrev more_each : LineChoice → LineOption → List (List Bool)
more_each c o = map (λ (f : LineChoice → LineChoice). had_more c (option_word o)) (sets_of (option_row o).takes)

-- a setting gives its own option alone
gives_own : (c : LineChoice) → map (behind_each c) all_options ≡ map (more_each c) all_options
gives_own c = refl

none_given : had none_chosen ≡ map (λ (o : LineOption). false) all_options
none_given = refl

-- ---- each setting

pub contains-value : (rows : Words (LineChoice → LineChoice)) (w : List ℕ) (f : LineChoice → LineChoice) → Contains rows (w, f) → Contains (map (λ v. v.1) rows) f
contains-value [] w f (k, below, is) = absurd (omega (arith, below))
contains-value (row ∷ rows) w f (zero, below, is) = (0, omega arith, ap (λ r. r.1) is)
contains-value (row ∷ rows) w f (suc k, below, is) =
    let r = contains-value rows w f (k, omega (arith, below), is) in
    (suc r.0, omega (arith, r.1), r.2)

set_is : (t : OptionKind) (words : List (List ℕ)) (f : LineChoice → LineChoice) → Sets t words f → Contains (sets_of t) f
set_is (flag g) words f is = (0, omega arith, sym is.1)
set_is (one_of o) words f is = contains-value (option_values o) is.0 f is.2

has-set : (c : LineChoice) (s t : Setting)
    → (option_row t.option).has (s.set c) ≡ (bytes_eq (option_word t.option) (option_word s.option) || (option_row t.option).has c)
has-set c s t =
    let own = each-of (behind_each c) (more_each c) all_options s.option (gives_own c) (is_option s.option) in
    let kind = (option_row s.option).takes in
    let set = each-of (λ f. had (f c)) (λ f. had_more c (option_word s.option)) (sets_of kind) s.set own (set_is kind s.value s.set s.sets) in
    each-of (λ o. (option_row o).has (s.set c)) (λ o. bytes_eq (option_word o) (option_word s.option) || (option_row o).has c) all_options t.option set
    (is_option t.option)

neither : (a b : Bool) → (a || b) ≡ false → (a ≡ false) × (b ≡ false)
neither true b e = absurd (false≢true (sym e))
neither false b e = (refl, e)

unlike : (o p : LineOption) → o ≢ p → bytes_eq (option_word o) (option_word p) ≡ false
unlike o p n = by (bytes_eq (option_word o) (option_word p)) (bytes_eq-Decides (option_word o) (option_word p)).0
  where
    by : (b : Bool) → (b ≡ true → option_word o ≡ option_word p) → b ≡ false
    by true is = absurd (n (one_option o p (is refl)))
    by false is = refl

-- ---- what a setting keeps

-- a setting whose option a choice doesn't have keeps a profile, and what is chosen of predictions, that it has
abbrev IsKept : LineChoice → LineChoice → Type 0
IsKept c d = (is_some c.profile ≡ true → d.profile ≡ c.profile) × (is_some c.coding.predict ≡ true → d.coding.predict ≡ c.coding.predict)

abbrev keeps_both : LineChoice → LineOption → Type 0
keeps_both c o =
    map (λ (f : LineChoice → LineChoice). (f c).profile) (sets_of (option_row o).takes) ≡ map (λ (f : LineChoice → LineChoice). c.profile) (sets_of (option_row o).takes)

abbrev pub keeps_predict : LineChoice → LineOption → Type 0
keeps_predict c o =
    map (λ (f : LineChoice → LineChoice). (f c).coding.predict) (sets_of (option_row o).takes)
    ≡ map (λ (f : LineChoice → LineChoice). c.coding.predict) (sets_of (option_row o).takes)

kept-profile : (c : LineChoice) (o : LineOption) (f : LineChoice → LineChoice) → Contains (sets_of (option_row o).takes) f → (option_row o).has c ≡ false
    → is_some c.profile ≡ true → (f c).profile ≡ c.profile
kept-profile c o f is free some = by o is free
  where
    kept : (o : LineOption) → keeps_both c o → Contains (sets_of (option_row o).takes) f → (f c).profile ≡ c.profile
    kept o all is = each-of (λ (g : LineChoice → LineChoice). (g c).profile) (λ (g : LineChoice → LineChoice). c.profile) (sets_of (option_row o).takes) f all is

    valued : (v : ValueOption) → Contains (sets_of (option_row (Valued v)).takes) f → (option_row (Valued v)).has c ≡ false → (f c).profile ≡ c.profile
    valued option.Profile is free = absurd (false≢true (sym free ∙ some))
    valued option.Method is free = kept (Valued option.Method) refl is
    valued option.Index is free = kept (Valued option.Index) refl is
    valued option.Predict is free = kept (Valued option.Predict) refl is
    valued option.Walk is free = kept (Valued option.Walk) refl is

    by : (o : LineOption) → Contains (sets_of (option_row o).takes) f → (option_row o).has c ≡ false → (f c).profile ≡ c.profile
    by (Valued v) is free = valued v is free
    by PlainValues is free = kept PlainValues refl is

pub same-predict : (c : LineChoice) (o : LineOption) (f : LineChoice → LineChoice) → keeps_predict c o → Contains (sets_of (option_row o).takes) f
    → (f c).coding.predict ≡ c.coding.predict
same-predict c o f all is = each-of (λ (g : LineChoice → LineChoice). (g c).coding.predict) (λ (g : LineChoice → LineChoice). c.coding.predict) (sets_of (option_row o).takes) f all is

kept-predict : (c : LineChoice) (o : LineOption) (f : LineChoice → LineChoice) → Contains (sets_of (option_row o).takes) f → (option_row o).has c ≡ false
    → is_some c.coding.predict ≡ true → (f c).coding.predict ≡ c.coding.predict
kept-predict c o f is free some = by o is free
  where
    kept : (o : LineOption) → keeps_predict c o → Contains (sets_of (option_row o).takes) f → (f c).coding.predict ≡ c.coding.predict
    kept o all is = same-predict c o f all is

    valued : (v : ValueOption) → Contains (sets_of (option_row (Valued v)).takes) f → (option_row (Valued v)).has c ≡ false → (f c).coding.predict ≡ c.coding.predict
    valued option.Predict is free = absurd (false≢true (sym free ∙ some))
    valued option.Method is free = kept (Valued option.Method) refl is
    valued option.Index is free = kept (Valued option.Index) refl is
    valued option.Walk is free = kept (Valued option.Walk) refl is
    valued option.Profile is free = kept (Valued option.Profile) refl is

    by : (o : LineOption) → Contains (sets_of (option_row o).takes) f → (option_row o).has c ≡ false → (f c).coding.predict ≡ c.coding.predict
    by (Valued v) is free = valued v is free
    by PlainValues is free = kept PlainValues refl is

-- ---- lists of settings

-- no setting's option was given before it
abbrev pub AreNew : LineChoice → List Setting → Type 0
AreNew c [] = Unit {0}
AreNew c (s ∷ ss) = ((option_row s.option).has c ≡ false) × AreNew (s.set c) ss

-- no setting's option was given in this choice
abbrev AreFree : LineChoice → List Setting → Type 0
AreFree c [] = Unit {0}
AreFree c (s ∷ ss) = ((option_row s.option).has c ≡ false) × AreFree c ss

-- settings of other options stay free behind one, and those that are free behind one are of other options
free-behind : (c : LineChoice) (s : Setting) (ss : List Setting) → SetsNone s.option ss → AreFree c ss → AreFree (s.set c) ss
free-behind c s [] none free = tt
free-behind c s (t ∷ ts) none free =
    (has-set c s t ∙ ap (λ b. b || (option_row t.option).has c) (unlike t.option s.option none.0) ∙ free.0, free-behind c s ts none.1 free.1)

free-before : (c : LineChoice) (s : Setting) (ss : List Setting) → AreFree (s.set c) ss → SetsNone s.option ss × AreFree c ss
free-before c s [] free = (tt, tt)
free-before c s (t ∷ ts) free =
    let n = neither (bytes_eq (option_word t.option) (option_word s.option)) ((option_row t.option).has c) (sym (has-set c s t) ∙ free.0) in
    let r = free-before c s ts free.1 in
    let other = λ (same : t.option ≡ s.option).
    false≢true (sym n.0 ∙ (bytes_eq-Decides (option_word t.option) (option_word s.option)).1 (ap option_word same)) in
    ((other, r.0), (n.1, r.1))

once-new : (c : LineChoice) (ss : List Setting) → SetsOnce ss → AreFree c ss → AreNew c ss
once-new c [] once free = tt
once-new c (s ∷ ss) once free = (free.0, once-new (s.set c) ss once.1 (free-behind c s ss once.0 free.1))

new-once-free : (c : LineChoice) (ss : List Setting) → AreNew c ss → SetsOnce ss × AreFree c ss
new-once-free c [] new = (tt, tt)
new-once-free c (s ∷ ss) new =
    let behind = new-once-free (s.set c) ss new.1 in
    let before = free-before c s ss behind.1 in
    ((before.0, behind.0), (new.0, before.1))

pub new-once : (ss : List Setting) → AreNew none_chosen ss → SetsOnce ss
new-once ss new = (new-once-free none_chosen ss new).0

pub once-new_choice : (ss : List Setting) → SetsOnce ss → AreNew none_chosen ss
once-new_choice ss once = once-new none_chosen ss once (free ss)
  where
    free : (ss : List Setting) → AreFree none_chosen ss
    free [] = tt
    free (s ∷ ss) = (each-of (λ o. (option_row o).has none_chosen) (λ o. false) all_options s.option none_given (is_option s.option), free ss)

-- what settings of other options are behind keeps a profile and what is chosen of predictions
kept-all : (c : LineChoice) (ss : List Setting) → AreNew c ss → IsKept c (with_settings c ss)
kept-all c [] new = (λ some. refl, λ some. refl)
kept-all c (s ∷ ss) new =
    let is = set_is (option_row s.option).takes s.value s.set s.sets in
    let rest = kept-all (s.set c) ss new.1 in (
      λ some.
          let here = kept-profile c s.option s.set is new.0 some in
          rest.0 (ap is_some here ∙ some) ∙ here,
      λ some.
          let here = kept-predict c s.option s.set is new.0 some in
          rest.1 (ap is_some here ∙ some) ∙ here,
    )

-- where the settings go together that are behind a choice, it may stand in a line
pub stands-before : (c : LineChoice) (ss : List Setting) → AreNew c ss → goes_together (with_settings c ss) ≡ true → may_stand c ≡ true
stands-before c ss new together = by c.profile c.coding.predict refl refl
  where
    by : (p : Option Profile) (q : Option Predict) → c.profile ≡ p → c.coding.predict ≡ q → may_stand c ≡ true
    by None q none is = rw none refl
    by (Some p) None some none = rw (some, none) refl
    by (Some p) (Some q) some chosen =
        let d = with_settings c ss in
        let kept : IsKept c d = kept-all c ss new in
        let profile : d.profile ≡ Some p = kept.0 (ap is_some some) ∙ some in
        let predict : d.coding.predict ≡ Some q = kept.1 (ap is_some chosen) ∙ chosen in
        rw (some, chosen) (sym (rw (profile, predict) refl) ∙ together)

-- ---- each value's word names it back

method_back : (m : Method) → value_named (word_rows method_word methods) (method_word m) ≡ Some m
method_back method.Seq = refl
method_back m = refl

index_back : (i : Index) → value_named (word_rows index_word indices) (index_word i) ≡ Some i
index_back index.Plain = refl
index_back i = refl

prediction_back : (p : Predict) → value_named (word_rows predict_word predicts) (predict_word p) ≡ Some p
prediction_back (Plain q) = plain_back q
  where
    plain_back : (q : Prediction) → value_named (word_rows predict_word predicts) (predict_word (Plain q)) ≡ Some (Plain q)
    plain_back prediction.Off = refl
    plain_back q = refl
prediction_back Shape = refl

walk_back : (w : Walk) → value_named (word_rows walk_word walks) (walk_word w) ≡ Some w
walk_back walk.Depth = refl
walk_back w = refl

profile_back : (w : List ℕ) (p : Profile) → Contains profile_words (w, p) → value_named profile_words w ≡ Some p
profile_back w p is = names_back profile_words w p refl is

pub gen_back : (k : GenKind) → gen_named (gen_word k) ≡ Some k
gen_back Grid = refl
gen_back k = refl

pub name_back : WordsNameBack
name_back = (method_back, index_back, prediction_back, walk_back, profile_back, gen_back)
