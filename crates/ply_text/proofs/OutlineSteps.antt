-- The first fault of a line that is tested without memory is that of the header.
use Rattle.std.proofs.Common.{◌≡◌, ℕ, ◌+◌, ◌||◌, Bool, true, false, List, [], ◌∷◌, length, cond, Result, Ok, Err, IsOk, refl, sym, ap, subst, ◌∙◌}
use Rattle.std.specs.Prelude.{codes}
use Rattle.drc_base.specs.declared.faults.Fault.{Fault}
use Rattle.drc_base.specs.declared.kinds.Kind.TheVariants.{PlyFormat, PlyMagic, PlyShort}
use Rattle.drc_base.specs.Steps.{◌>>=◌}
use Rattle.attr_heads.specs.declared.heads.Head.{Head}
use Rattle.ply_text.specs.declared.headers.Property.{Property}
use Rattle.ply_text.specs.declared.words.Keyword.{Keyword}
use Rattle.ply_text.specs.declared.words.Keyword.TheVariants as keyword
use Rattle.ply_text.specs.Comments.{is_form, is_octa}
use Rattle.ply_text.specs.Declarations.{is_format, is_list, is_magic, keyword_at}
use Rattle.ply_text.specs.DeclaredLines.{Follows, OutlineParts, Outlines, declared_from, declared_of_lines, declared_of_text_in, draft_with, no_outline, is_detail_by, is_detail}
use Rattle.ply_text.specs.Draft.{Draft, attribute, body, comment, declaration, list, quantisation, square, scalar, statement, statement_by}
use Rattle.ply_text.specs.Header.{ends_header, header_from, header_of_in, header_of_lines, no_draft, ply_header_at}
use Rattle.ply_text.specs.Faults.{refuse}
use Rattle.ply_text.specs.Tokens.{token_lines}

pub declared_from_fault : (profile at : ℕ) (d : Draft) (lines : List (List (List ℕ))) (f : Fault) → declared_from profile at d lines ≡ Err f → header_from profile at d lines ≡ Err f
declared_from_fault profile at d [] f e = cc
declared_from_fault profile at d (line ∷ lines) f e = go (ends_header d line) (is_detail profile line) (statement profile at d line) (λ next h. declared_from_fault profile (at + 1) next lines f h) e where
  go : (last detail : Bool) (step : Result Draft Fault) → ((next : Draft) → declared_from profile (at + 1) next lines ≡ Err f → header_from profile (at + 1) next lines ≡ Err f) →
      cond (last || detail) (Ok d) (step >>= λ next. declared_from profile (at + 1) next lines) ≡ Err f →
      cond last (ply_header_at at d line) (step >>= λ next. header_from profile (at + 1) next lines) ≡ Err f
  go true detail step more h = absurd cc
  go false true step more h = absurd cc
  go false false (Ok next) more h = more next h
  go false false (Err g) more h = cc

pub declared_fault : (profile : ℕ) (text : List ℕ) (f : Fault) → declared_of_text_in profile text ≡ Err f → header_of_in profile text ≡ Err f
unfolding declared_of_text_in header_of_in
declared_fault profile text f e = of_lines (token_lines text) e where
  of_lines : (lines : List (List (List ℕ))) → declared_of_lines profile lines ≡ Err f → header_of_lines profile lines ≡ Err f
  of_lines [] h = cc
  of_lines (first ∷ lines) h = by_magic (is_magic first) h where
    by_magic : (magic : Bool) → cond magic (declared_from profile 2 no_draft lines) (refuse PlyMagic 1) ≡ Err f → cond magic (header_from profile 2 no_draft lines) (refuse PlyMagic 1) ≡ Err f
    by_magic true h = declared_from_fault profile 2 no_draft lines f h
    by_magic false h = cc

-- a property of lists, and one of numbers
pub list_follows : (at : ℕ) (line : List (List ℕ)) (old new : OutlineParts) (result : Result (Unit {0}) Fault) → is_list line ≡ true →
    Follows (λ d. list at d line) old new result → Follows (λ d. declaration at d line keyword.Property) old new result
list_follows at line old new result e step heads properties each =
    subst (λ (b : Bool). Outlines (cond b (list at (draft_with old heads properties) line) (scalar at (draft_with old heads properties) line)) new result) (sym e)
    (step heads properties each)

pub scalar_follows : (at : ℕ) (line : List (List ℕ)) (old new : OutlineParts) (result : Result (Unit {0}) Fault) → is_list line ≡ false →
    Follows (λ d. scalar at d line) old new result → Follows (λ d. declaration at d line keyword.Property) old new result
scalar_follows at line old new result e step heads properties each =
    subst (λ (b : Bool). Outlines (cond b (list at (draft_with old heads properties) line) (scalar at (draft_with old heads properties) line)) new result) (sym e)
    (step heads properties each)

-- a line after the format's
pub body_follows : (at : ℕ) (line : List (List ℕ)) (word : Keyword) (old new : OutlineParts) (result : Result (Unit {0}) Fault) → old.formatted ≡ true →
    Follows (λ d. declaration at d line word) old new result → Follows (λ d. body at d line word) old new result
unfolding body
body_follows at line word old new result e step heads properties each =
    let d = draft_with old heads properties in
    subst (λ (b : Bool). Outlines (cond b (declaration at d line word) (cond (is_format line) (Ok (record d { formatted = true })) (refuse PlyFormat at))) new result) (sym e)
    (step heads properties each)

-- these lines, after a draft that has this outline, declare what is due
pub record Declares (profile at : ℕ) (o : OutlineParts) (lines : List (List (List ℕ))) (due : Result Draft Fault) : Type 0 where
  pub heads : List Head
  pub properties : List Property
  pub each : length heads ≡ o.heads
  pub same : declared_from profile at (draft_with o heads properties) lines ≡ due

pub declares_all : (profile : ℕ) (lines : List (List (List ℕ))) → Declares profile 2 no_outline lines (declared_from profile 2 no_draft lines)
declares_all profile lines = record { heads = []; properties = []; each = refl; same = refl }

pub declares_short : (profile at : ℕ) (o : OutlineParts) (due : Result Draft Fault) → Declares profile at o [] due → due ≡ refuse PlyShort at
declares_short profile at o due h = sym h.same

-- whether a line ends what is tested, whatever draft has the outline
abbrev pub IsOutlineEnd : ℕ → OutlineParts → List (List ℕ) → Bool → Type 0
IsOutlineEnd profile o line is = (heads : List Head) (properties : List Property) → is ≡ (ends_header (draft_with o heads properties) line || is_detail profile line)

pub declares_end : (profile at : ℕ) (o : OutlineParts) (line : List (List ℕ)) (lines : List (List (List ℕ))) (due : Result Draft Fault) → Declares profile at o (line ∷ lines) due → IsOutlineEnd profile o line true → IsOk due
declares_end profile at o line lines due h ends =
    let d = draft_with o h.heads h.properties in
    subst (λ (r : Result Draft Fault). IsOk r) h.same
    (subst (λ (b : Bool). IsOk (cond b (Ok d) (statement profile at d line >>= λ next. declared_from profile (at + 1) next lines))) (ends h.heads h.properties) refl)

-- the due of a line that isn't the last one tested
declares_step : (profile at : ℕ) (o : OutlineParts) (line : List (List ℕ)) (lines : List (List (List ℕ))) (due : Result Draft Fault) (h : Declares profile at o (line ∷ lines) due) → IsOutlineEnd profile o line false →
    (statement profile at (draft_with o h.heads h.properties) line >>= λ next. declared_from profile (at + 1) next lines) ≡ due
declares_step profile at o line lines due h ends =
    let d = draft_with o h.heads h.properties in
    subst (λ (b : Bool). cond b (Ok d) (statement profile at d line >>= λ next. declared_from profile (at + 1) next lines) ≡ due) (sym (ends h.heads h.properties)) h.same

pub declares_fault : (profile at : ℕ) (o new : OutlineParts) (line : List (List ℕ)) (lines : List (List (List ℕ))) (due : Result Draft Fault) (f : Fault) → Declares profile at o (line ∷ lines) due → IsOutlineEnd profile o line false →
    Follows (λ d. statement profile at d line) o new (Err f) → due ≡ Err f
declares_fault profile at o new line lines due f h ends step =
    let go = declares_step profile at o line lines due h ends in
    let is : statement profile at (draft_with o h.heads h.properties) line ≡ Err f = step h.heads h.properties h.each in
    sym go ∙ ap (λ (r : Result Draft Fault). r >>= λ next. declared_from profile (at + 1) next lines) is

pub declares_next : (profile at : ℕ) (o new : OutlineParts) (line : List (List ℕ)) (lines : List (List (List ℕ))) (due : Result Draft Fault) (u : Unit {0}) → Declares profile at o (line ∷ lines) due → IsOutlineEnd profile o line false →
    Follows (λ d. statement profile at d line) o new (Ok u) → Declares profile (at + 1) new lines due
declares_next profile at o new line lines due u h ends step =
    let go = declares_step profile at o line lines due h ends in
    let next = step h.heads h.properties h.each in
    record {
      heads = next.heads;
      properties = next.properties;
      each = next.each;
      same = sym (ap (λ (r : Result Draft Fault). r >>= λ d. declared_from profile (at + 1) d lines) next.is) ∙ go;
    }

-- such a line says no more of an attribute
pub no_detail : (profile : ℕ) (o : OutlineParts) (line : List (List ℕ)) → IsOutlineEnd profile o line false → is_detail profile line ≡ false
no_detail profile o line ends = go (ends_header (draft_with o [] []) line) (is_detail profile line) (ends [] []) where
  go : (a b : Bool) → false ≡ (a || b) → b ≡ false
  go true b e = absurd cc
  go false true e = absurd cc
  go false false e = refl

-- a comment that describes an attribute
pub comment_follows : (profile at : ℕ) (line : List (List ℕ)) (old new : OutlineParts) (result : Result (Unit {0}) Fault) → is_form (codes "attr") line ≡ true →
    Follows (λ d. attribute at d line) old new result → Follows (λ d. comment profile at d line) old new result
unfolding comment
comment_follows profile at line old new result e step heads properties each =
    let d = draft_with old heads properties in
    subst (λ (b : Bool). Outlines (cond b (attribute at d line) (cond (is_form (codes "quant") line) (quantisation at d line) (cond (is_octa profile line) (square at d line) (Ok d)))) new result) (sym e) (step heads properties each)

-- a line by its first word
pub comment_line : (profile at : ℕ) (line : List (List ℕ)) (old new : OutlineParts) (result : Result (Unit {0}) Fault) → keyword_at line ≡ keyword.Comment →
    Follows (λ d. comment profile at d line) old new result → Follows (λ d. statement profile at d line) old new result
unfolding statement
comment_line profile at line old new result e step heads properties each =
    subst (λ (w : Keyword). Outlines (statement_by profile at (draft_with old heads properties) line w) new result) (sym e) (step heads properties each)

pub other_line : (profile at : ℕ) (line : List (List ℕ)) (word : Keyword) (old new : OutlineParts) (result : Result (Unit {0}) Fault) → keyword_at line ≡ word →
    (word ≡ keyword.Comment → ⊥) → (word ≡ keyword.ObjInfo → ⊥) →
    Follows (λ d. body at d line word) old new result → Follows (λ d. statement profile at d line) old new result
unfolding statement
other_line profile at line word old new result e no_comment no_info step heads properties each =
    subst (λ (w : Keyword). Outlines (statement_by profile at (draft_with old heads properties) line w) new result) (sym e) (go word no_comment no_info (step heads properties each)) where
      go : (w : Keyword) → (w ≡ keyword.Comment → ⊥) → (w ≡ keyword.ObjInfo → ⊥) → Outlines (body at (draft_with old heads properties) line w) new result →
          Outlines (statement_by profile at (draft_with old heads properties) line w) new result
      go keyword.Comment c i o = absurd (c refl)
      go keyword.ObjInfo c i o = absurd (i refl)
      go keyword.Element c i o = o
      go keyword.Property c i o = o
      go keyword.EndHeader c i o = o
      go keyword.Other c i o = o
