-- What the lines of a header declare, as far as it is known before a list is made: up to `end_header` or the first line
-- that says more of an attribute (this project's choice).
use Rattle.std.specs.Prelude.{ℕ, ◌≡◌, ◌+◌, ◌||◌, Bool, false, List, [], ◌∷◌, length, codes, Option, None, Result, Ok, Err, if◌then◌else◌}
use Rattle.drc_base.specs.declared.faults.Fault.{Fault}
use Rattle.drc_base.specs.declared.kinds.Kind.TheVariants.{PlyMagic, PlyShort}
use Rattle.drc_base.specs.declared.profiles.TheConstants.{PROFILE_TWO}
use Rattle.drc_base.specs.Steps.{◌>>=◌}
use Rattle.attr_heads.specs.declared.heads.Head.{Head}
use Rattle.ply_text.specs.declared.headers.Property.{Property}
use Rattle.ply_text.specs.declared.words.Keyword.{Keyword}
use Rattle.ply_text.specs.declared.words.Keyword.TheVariants as keyword
use Rattle.ply_text.specs.Comments.{is_form, is_octa}
use Rattle.ply_text.specs.Declarations.{is_magic, keyword_at}
use Rattle.ply_text.specs.Draft.{Draft, statement}
use Rattle.ply_text.specs.Faults.{refuse}
use Rattle.ply_text.specs.Header.{ends_header, no_draft}
use Rattle.ply_text.specs.Tokens.{token_lines}

-- a comment that says more of an attribute: its quantisation, or its square in a profile that has such
abbrev pub is_detail_by : ℕ → Keyword → List (List ℕ) → Bool
is_detail_by profile keyword.Comment line = is_form (codes "quant") line || is_octa profile line
is_detail_by profile _ line = false

abbrev pub is_detail : ℕ → List (List ℕ) → Bool
is_detail profile line = is_detail_by profile (keyword_at line) line

-- what the lines from line number `at` on declare, up to one that ends the header or says more of an attribute, or the first
-- fault of a line before it
abbrev pub declared_from : ℕ → ℕ → Draft → List (List (List ℕ)) → Result Draft Fault
declared_from profile at d [] = refuse PlyShort at
declared_from profile at d (line ∷ lines) =
    if ends_header d line || is_detail profile line then Ok d
    else (statement profile at d line >>= λ next. declared_from profile (at + 1) next lines)

-- the same of all lines
abbrev pub declared_of_lines : ℕ → List (List (List ℕ)) → Result Draft Fault
declared_of_lines profile [] = refuse PlyShort 1
declared_of_lines profile (first ∷ lines) = if is_magic first then declared_from profile 2 no_draft lines else refuse PlyMagic 1

-- what the lines of a PLY text declare in the profile of this number, up to `end_header` or the first line that says more of an
-- attribute, or the first fault of a line before it
unfoldable pub declared_of_text_in : ℕ → List ℕ → Result Draft Fault
declared_of_text_in profile text = declared_of_lines profile (token_lines text)

-- the same in the profile for which no other one is chosen
abbrev pub declared_of_text : List ℕ → Result Draft Fault
declared_of_text text = declared_of_text_in PROFILE_TWO.number text

-- what was declared so far, as far as the next lines are tested by it: of the attributes of comments their number
pub record OutlineParts : Type 0 where
  pub formatted : Bool
  pub heads : ℕ
  pub vertices : Option ℕ
  pub faces : Option ℕ
  pub list : Option (ℕ × ℕ)

-- a draft with these attributes and properties, and else what an outline has
abbrev pub draft_with : OutlineParts → List Head → List Property → Draft
draft_with o heads properties = record {
  formatted = o.formatted;
  heads = heads;
  vertices = o.vertices;
  properties = properties;
  faces = o.faces;
  list = o.list;
}

-- a draft that has this outline is due
pub record HasOutline (due : Result Draft Fault) (o : OutlineParts) : Type 0 where
  pub heads : List Head
  pub properties : List Property
  pub is : due ≡ Ok (draft_with o heads properties)
  pub each : length heads ≡ o.heads

-- a draft that has this outline is due, or the fault is
abbrev pub Outlines : Result Draft Fault → OutlineParts → Result (Unit {0}) Fault → Type 0
Outlines due o (Ok _) = HasOutline due o
Outlines due o (Err f) = due ≡ Err f

-- the same of a step from any draft that has the outline `old`
abbrev pub Follows : (Draft → Result Draft Fault) → OutlineParts → OutlineParts → Result (Unit {0}) Fault → Type 0
Follows step old new result =
    (heads : List Head) (properties : List Property) → length heads ≡ old.heads →
    Outlines (step (draft_with old heads properties)) new result

-- the outline of nothing
abbrev pub no_outline : OutlineParts
no_outline = record { formatted = false; heads = 0; vertices = None; faces = None; list = None }
