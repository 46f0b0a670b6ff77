-- The lines that the table of commands makes, by their kinds.
use Rattle.std.proofs.Common.{◌≡◌, ℕ, zero, suc, List, [], ◌∷◌, ◌++◌, map, Some, refl, sym, ap, ◌∙◌, subst, append-nil, arith}
use Rattle.std.specs.Prelude.{Contains, codes}
use Rattle.std.specs.Cmp.Lexicographic.{pointwise, pointwise_decides}
use Rattle.std.specs.Map.{lookup}
use Rattle.std.specs.Str.{bytes_eq}
use Rattle.std.proofs.lemmas.Map.Views.{Contains-from_lookup}
use Rattle.std.proofs.lemmas.Slice.Eq.{bytes_eq-Decides}
use Rattle.drc_app.specs.declared.commands.Command.{Command}
use Rattle.drc_app.specs.declared.commands.Command.TheVariants as command
use Rattle.drc_app.specs.declared.command_table.CommandName.{CommandName}
use Rattle.drc_app.specs.declared.command_table.CommandName.TheVariants as name
use Rattle.drc_app.specs.declared.help.HelpTopic.{HelpTopic}
use Rattle.drc_app.specs.declared.help.HelpTopic.TheVariants as topic
use Rattle.drc_app.specs.declared.command_lines.Progress.TheVariants as progress
use Rattle.drc_base.specs.declared.profiles.Profile.{Profile}
use Rattle.drc_base.specs.declared.profiles.TheConstants.{PROFILE_THREE, PROFILE_TWO}
use Rattle.drc_app.specs.declared.options.LineChoice.{LineChoice}
use Rattle.drc_app.specs.declared.options.LineOption.{LineOption}
use Rattle.drc_app.specs.declared.options.LineOption.TheVariants.{Valued}
use Rattle.drc_app.specs.declared.options.ValueOption.TheVariants as option
use Rattle.drc_app.specs.Options.{Setting, Sets, option_row, option_word, option_values, reading_options, words_of, AreOf, SetsOnce, with_settings, none_chosen}
use Rattle.drc_app.specs.Commands.{command_row}
use Rattle.drc_app.specs.Line.{IsLine, named, gen as of_gen}
use Rattle.drc_app.specs.Laws.{plain_lines, IsOfKind, plain, enc, recode, gen, LinesAreOfKinds}
use Rattle.drc_app.proofs.Tables.{each-of}
use Rattle.drc_app.proofs.Lines.{ends, is_line}

-- a line that is found in the list
listed : (words : List (List ℕ)) (c : Command) (ws : List (List ℕ)) (d : Command) → lookup (pointwise bytes_eq ws) plain_lines ≡ Some d → words ≡ ws → c ≡ d
    → IsOfKind words c
listed words c ws d found e f =
    plain (Contains-from_lookup (λ x y. (pointwise_decides bytes_eq-Decides x y).0) words c plain_lines
    (ap (λ w. lookup (pointwise bytes_eq w) plain_lines) e ∙ found ∙ ap Some (sym f)))

-- a command that takes no options stands in the list
without : (by : CommandName) (words : List (List ℕ)) (c : Command) (ss : List Setting) → (command_row by).takes ≡ [] → AreOf (command_row by).takes ss
    → lookup (pointwise bytes_eq (command_row by).words) plain_lines ≡ Some ((command_row by).command none_chosen)
    → words ≡ (command_row by).words ++ words_of ss
    → c ≡ (command_row by).command (with_settings none_chosen ss) → IsOfKind words c
without by words c [] none among found e f = listed words c (command_row by).words _ found (e ∙ append-nil (command_row by).words) f
without by words c (s ∷ ss) none among found e f = absurd (nothing (subst (λ os. Contains os s.option) none among.0))
  where
    nothing : Contains [] s.option → ⊥
    nothing (k, below, is) = omega (arith, below)

-- the one option of a command that reads alone
profile_option : (o : LineOption) → Contains reading_options o → o ≡ Valued option.Profile
profile_option o (zero, below, is) = sym is
profile_option o (suc k, below, is) = absurd (omega (arith, below))

-- a line with a profile of this word behind it, which sets so
abbrev with_profile : CommandName → List ℕ → List (List ℕ)
with_profile by w = (command_row by).words ++ codes "--profile" ∷ w ∷ []

abbrev set_profile : Profile → LineChoice → LineChoice
set_profile p c = record c { profile = Some p }

-- a line of some words, an option and its one value
spelled : (words front value : List (List ℕ)) (o a w v : List ℕ) → o ≡ a → value ≡ w ∷ [] → v ≡ w → words ≡ front ++ (o ∷ value ++ [])
    → words ≡ front ++ a ∷ v ∷ []
spelled words front value o a w v option valued same e =
    subst (λ x. words ≡ front ++ a ∷ x ∷ []) (sym same)
    (subst (λ x. words ≡ front ++ (a ∷ x ++ [])) valued (subst (λ x. words ≡ front ++ (x ∷ value ++ [])) option e))

-- where such a line stands in the list, it is of a kind
profiled : (by : CommandName) (words : List (List ℕ)) (c : Command) (s : Setting) (w v : List ℕ) (p : Profile)
    → lookup (pointwise bytes_eq (with_profile by v)) plain_lines ≡ Some ((command_row by).command (set_profile p none_chosen))
    → s.option ≡ Valued option.Profile → s.value ≡ w ∷ []
    → ◌≡◌ {A = List ℕ × (LineChoice → LineChoice)} (v, set_profile p) (w, s.set)
    → words ≡ (command_row by).words ++ words_of (s ∷ [])
    → c ≡ (command_row by).command (s.set none_chosen) → IsOfKind words c
profiled by words c s w v p found is value row e f =
    listed words c (with_profile by v) ((command_row by).command (set_profile p none_chosen)) found
    (spelled words (command_row by).words s.value (option_word s.option) (codes "--profile") w v (ap option_word is) value
    (ap (λ (r : List ℕ × (LineChoice → LineChoice)). r.0) row) e)
    (f ∙ ap (λ (r : List ℕ × (LineChoice → LineChoice)). (command_row by).command (r.1 none_chosen)) (sym row))

-- a command that reads alone stands in the list, without a profile and with each
reading : (by : CommandName) (words : List (List ℕ)) (c : Command) (ss : List Setting) → (command_row by).takes ≡ reading_options
    → AreOf (command_row by).takes ss → SetsOnce ss
    → lookup (pointwise bytes_eq (command_row by).words) plain_lines ≡ Some ((command_row by).command none_chosen)
    → lookup (pointwise bytes_eq (with_profile by (codes "2"))) plain_lines ≡ Some ((command_row by).command (set_profile PROFILE_TWO none_chosen))
    → lookup (pointwise bytes_eq (with_profile by (codes "3"))) plain_lines ≡ Some ((command_row by).command (set_profile PROFILE_THREE none_chosen))
    → words ≡ (command_row by).words ++ words_of ss
    → c ≡ (command_row by).command (with_settings none_chosen ss) → IsOfKind words c
reading by words c [] takes among once none two three e f =
    listed words c (command_row by).words _ none (e ∙ append-nil (command_row by).words) f
reading by words c (s ∷ []) takes among once none two three e f =
    valued (subst (λ o. Sets (option_row o).takes s.value s.set) of_profile s.sets)
  where
    of_profile : s.option ≡ Valued option.Profile
    of_profile = profile_option s.option (subst (λ os. Contains os s.option) takes among.0)

    rows : (w : List ℕ) → s.value ≡ w ∷ [] → Contains (option_values option.Profile) (w, s.set) → IsOfKind words c
    rows w value (zero, below, is) = profiled by words c s w (codes "2") PROFILE_TWO two of_profile value is e f
    rows w value (suc zero, below, is) = profiled by words c s w (codes "3") PROFILE_THREE three of_profile value is e f
    rows w value (suc (suc k), below, is) = absurd (omega (arith, below))

    valued : Sets (option_row (Valued option.Profile)).takes s.value s.set → IsOfKind words c
    valued v = rows v.0 v.1 v.2
reading by words c (s ∷ t ∷ ss) takes among once none two three e f =
    absurd (once.0.0 (profile_option t.option (subst (λ os. Contains os t.option) takes among.1.0)
    ∙ sym (profile_option s.option (subst (λ os. Contains os s.option) takes among.0))))

help_found : (t : HelpTopic) → lookup (pointwise bytes_eq (command_row (name.Help t)).words) plain_lines ≡ Some (command.Help t)
help_found topic.All = refl
help_found t = refl

of_kind : (words : List (List ℕ)) (c : Command) → IsLine words c → IsOfKind words c
of_kind words c (named name.Enc ss among once together e f) = enc ss (among, once, together, e) f
of_kind words c (named name.Recode ss among once together e f) = recode ss (among, once, together, e) f
of_kind words c (named (name.Help t) ss among once together e f) = without (name.Help t) words c ss refl among (help_found t) e f
of_kind words c (named name.KdEnc ss among once together e f) = without name.KdEnc words c ss refl among refl e f
of_kind words c (named name.KdDec ss among once together e f) = without name.KdDec words c ss refl among refl e f
of_kind words c (named name.Version ss among once together e f) = without name.Version words c ss refl among refl e f
of_kind words c (named by ss among once together e f) = reading by words c ss refl among once refl refl refl e f
of_kind words c (of_gen kind size seed may small e f) = gen kind size seed may small e f

-- the lines of the list are read to their ends
plain_ends : map (λ (l : List (List ℕ) × Command). ends progress.Nothing l.0) plain_lines ≡ map (λ (l : List (List ℕ) × Command). Some l.1) plain_lines
plain_ends = refl

from_kind : (words : List (List ℕ)) (c : Command) → IsOfKind words c → IsLine words c
from_kind words c (plain is) = is_line words c (each-of (λ l. ends progress.Nothing l.0) (λ l. Some l.1) plain_lines (words, c) plain_ends is)
from_kind words c (enc ss is f) = named name.Enc ss is.0 is.1 is.2 is.3 f
from_kind words c (recode ss is f) = named name.Recode ss is.0 is.1 is.2 is.3 f
from_kind words c (gen kind size seed may small e f) = of_gen kind size seed may small e f

pub of_kinds : LinesAreOfKinds
of_kinds words c = (of_kind words c, from_kind words c)
