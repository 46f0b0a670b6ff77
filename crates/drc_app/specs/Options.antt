-- The options of command lines: their words, and what they choose (this project's choice).
use Rattle.std.specs.Prelude.{◌≡◌, ◌≢◌, ℕ, ◌||◌, not, nat_le, Bool, List, [], ◌∷◌, ◌++◌, codes, Option, Some, None, true, false, is_none, is_some, unwrap_or}
use Rattle.std.specs.Prelude.{Contains}
use Rattle.drc_base.specs.declared.profiles.Profile.{Profile}
use Rattle.drc_base.specs.declared.profiles.TheConstants.{PROFILE_THREE, PROFILE_TWO}
use Rattle.drc_container.specs.choice.Predicts.{predict_word, predicts, takes_texture}
use Rattle.drc_container.specs.declared.choice.choices.Choice.{Choice}
use Rattle.drc_container.specs.declared.choice.predicts.Predict.{Predict}
use Rattle.drc_container.specs.declared.choice.methods.Method.{Method}
use Rattle.drc_container.specs.declared.choice.methods.Method.TheVariants as method
use Rattle.drc_container.specs.declared.choice.choices.Index.{Index}
use Rattle.drc_container.specs.declared.choice.choices.Index.TheVariants as index
use Rattle.drc_container.specs.declared.choice.choices.Walk.{Walk}
use Rattle.drc_container.specs.declared.choice.choices.Walk.TheVariants as walk
use Rattle.drc_app.specs.Words.{Words, word_rows, naming}
use Rattle.drc_app.specs.declared.options.LineChoice.{LineChoice}
use Rattle.drc_app.specs.declared.options.LineOption.{LineOption}
use Rattle.drc_app.specs.declared.options.LineOption.TheVariants.{Valued, PlainValues}
use Rattle.drc_app.specs.declared.options.ValueOption.{ValueOption}
use Rattle.drc_app.specs.declared.options.ValueOption.TheVariants as option

-- the methods, index codings and walks, each with its word; what is chosen of predictions has its words in its own table
abbrev pub method_word : Method → List ℕ
method_word method.Seq = codes "seq"
method_word method.Eb = codes "eb"
method_word method.Valence = codes "valence"

abbrev pub methods : List Method
methods = method.Seq ∷ method.Eb ∷ method.Valence ∷ []

abbrev pub index_word : Index → List ℕ
index_word index.Plain = codes "plain"
index_word index.Packed = codes "packed"

abbrev pub indices : List Index
indices = index.Plain ∷ index.Packed ∷ []

abbrev pub walk_word : Walk → List ℕ
walk_word walk.Depth = codes "depth"
walk_word walk.Degree = codes "degree"

abbrev pub walks : List Walk
walks = walk.Depth ∷ walk.Degree ∷ []

-- the profiles that can be chosen, each with its word
abbrev pub profile_words : Words Profile
profile_words = (codes "2", PROFILE_TWO) ∷ (codes "3", PROFILE_THREE) ∷ []

-- a choice with another coding
abbrev pub coded : (Choice → Choice) → LineChoice → LineChoice
coded set c = record c { coding = set c.coding }

-- the values of an option that takes one: their words, and what each sets
abbrev pub option_values : ValueOption → Words (LineChoice → LineChoice)
option_values option.Method = naming (λ m. coded (λ c. record c { method = Some m })) (word_rows method_word methods)
option_values option.Index = naming (λ i. coded (λ c. record c { index = Some i })) (word_rows index_word indices)
option_values option.Predict = naming (λ p. coded (λ c. record c { predict = Some p })) (word_rows predict_word predicts)
option_values option.Walk = naming (λ w. coded (λ c. record c { walk = Some w })) (word_rows walk_word walks)
option_values option.Profile = naming (λ p c. record c { profile = Some p }) profile_words

-- what stands behind an option: nothing, and it sets this itself; or one of these values
pub data OptionKind : Type 0 where
  flag : (LineChoice → LineChoice) → OptionKind
  one_of : ValueOption → OptionKind

-- an option: its word, whether a choice has it, and what stands behind it
pub record OptionRow : Type 0 where
  pub word : List ℕ
  pub has : LineChoice → Bool
  pub takes : OptionKind

abbrev pub option_row : LineOption → OptionRow
option_row (Valued option.Method) = record { word = codes "--method"; has = λ c. is_some c.coding.method; takes = one_of option.Method }
option_row (Valued option.Index) = record { word = codes "--index"; has = λ c. is_some c.coding.index; takes = one_of option.Index }
option_row (Valued option.Predict) = record { word = codes "--predict"; has = λ c. is_some c.coding.predict; takes = one_of option.Predict }
option_row (Valued option.Walk) = record { word = codes "--walk"; has = λ c. is_some c.coding.walk; takes = one_of option.Walk }
option_row (Valued option.Profile) = record { word = codes "--profile"; has = λ c. is_some c.profile; takes = one_of option.Profile }
option_row PlainValues = record {
  word = codes "--plain-values";
  has = λ c. c.coding.plain_values;
  takes = flag (coded (λ c. record c { plain_values = true }));
}

abbrev pub option_word : LineOption → List ℕ
option_word o = (option_row o).word

-- the options of the commands that encode, those of the others that read a stream, and those of all commands
abbrev pub coding_options : List LineOption
coding_options =
    Valued option.Method
    ∷ Valued option.Index
    ∷ Valued option.Predict
    ∷ Valued option.Walk
    ∷ PlainValues
    ∷ Valued option.Profile
    ∷ []

abbrev pub reading_options : List LineOption
reading_options = Valued option.Profile ∷ []

abbrev pub all_options : List LineOption
all_options = coding_options

-- these words stand behind such an option, and this is what it then sets
abbrev pub Sets : OptionKind → List (List ℕ) → (LineChoice → LineChoice) → Type 0
Sets (flag f) words set = (words ≡ []) × (set ≡ f)
Sets (one_of o) words set = (w : List ℕ) × (words ≡ w ∷ []) × Contains (option_values o) (w, set)

-- an option with its value, where it takes one, and what it sets
pub record Setting : Type 0 where
  pub option : LineOption
  pub value : List (List ℕ)
  pub set : LineChoice → LineChoice
  pub sets : Sets (option_row option).takes value set

-- the words of settings: each its option, then its value, as words of their own
abbrev pub words_of : List Setting → List (List ℕ)
words_of [] = []
words_of (s ∷ ss) = option_word s.option ∷ s.value ++ words_of ss

-- all of the settings are of these options
abbrev pub AreOf : List LineOption → List Setting → Type 0
AreOf options [] = Unit {0}
AreOf options (s ∷ ss) = Contains options s.option × AreOf options ss

-- none of the settings is of this option
abbrev pub SetsNone : LineOption → List Setting → Type 0
SetsNone o [] = Unit {0}
SetsNone o (s ∷ ss) = (s.option ≢ o) × SetsNone o ss

-- each option is set at most once
abbrev pub SetsOnce : List Setting → Type 0
SetsOnce [] = Unit {0}
SetsOnce (s ∷ ss) = SetsNone s.option ss × SetsOnce ss

-- a choice with these settings more
abbrev pub with_settings : LineChoice → List Setting → LineChoice
with_settings c [] = c
with_settings c (s ∷ ss) = with_settings (s.set c) ss

-- what no option chooses: of the coding, the one choice of which every field is written; and of all
abbrev pub no_choice : Choice
no_choice = record { method = None; index = None; predict = None; walk = None; plain_values = false }

abbrev pub none_chosen : LineChoice
none_chosen = record { coding = no_choice; profile = None }

-- the profile of a line: the one that it chooses, else profile 2
abbrev pub profile_of : LineChoice → Profile
profile_of c = unwrap_or c.profile PROFILE_TWO

-- whether texture coordinates are predicted from positions
abbrev pub predicts_texture : Option Predict → Bool
predicts_texture None = false
predicts_texture (Some p) = takes_texture p

-- whether what is chosen of predictions needs profile 3: a prediction from positions
abbrev pub needs_three : LineChoice → Bool
needs_three c = predicts_texture c.coding.predict

-- whether the options of a choice go together: where predictions need profile 3, it is chosen
abbrev pub goes_together : LineChoice → Bool
goes_together c = not (needs_three c) || nat_le PROFILE_THREE.number (profile_of c).number

-- whether they may stand in one line, in which others may follow: where predictions need profile 3, no other is chosen
abbrev pub may_stand : LineChoice → Bool
may_stand c = is_none c.profile || goes_together c
