-- The attributes that the names of properties give, as a shape (this project's choice): the properties in pieces from the
-- left, and a head for each piece.
use Rattle.std.specs.Prelude.{ℕ, ◌≡◌, ◌+◌, ◌++◌, ◌⊎◌, List, [], ◌∷◌, length}
use Rattle.std.specs.List.{AllZip, AllByRecursion}
use Rattle.attr_heads.specs.declared.heads.Head.{Head}
use Rattle.attr_heads.specs.declared.usages.TheConstants.{GENERIC}
use Rattle.ply_text.specs.Draft.{PropertyParts}
use Rattle.ply_text.specs.NamedHeads.{NameRun, name_runs, named_head}

-- each property has its name of these, and all have this type
abbrev pub AreNamed : List (List ℕ) → ℕ → List PropertyParts → Type 0
AreNamed words dtype properties = AllZip (λ word p. (p.name ≡ word) × (p.dtype ≡ dtype)) words properties

-- the names of a row don't stand in front of these properties, whatever the type
abbrev pub IsAbsent : List PropertyParts → NameRun → Type 0
IsAbsent properties run = (dtype : ℕ) (piece rest : List PropertyParts) → properties ≡ piece ++ rest → AreNamed run.words dtype piece → ⊥

-- the piece in front has the names of a row, those of no row above it stand there, and head number k is the row's
pub record IsRowHead (k : ℕ) (piece rest : List PropertyParts) (head : Head) : Type 0 where
  pub run : NameRun
  pub dtype : ℕ
  pub above : List NameRun
  pub below : List NameRun
  pub place : name_runs ≡ above ++ run ∷ below
  pub named : AreNamed run.words dtype piece
  pub first : AllByRecursion (IsAbsent (piece ++ rest)) above
  pub is : head ≡ named_head k dtype (run.usage, length run.words)

-- the names of no row stand in front, the piece is one property, and head number k is generic
pub record IsPlainHead (k : ℕ) (piece rest : List PropertyParts) (head : Head) : Type 0 where
  pub property : PropertyParts
  pub one : piece ≡ property ∷ []
  pub none : AllByRecursion (IsAbsent (piece ++ rest)) name_runs
  pub is : head ≡ named_head k property.dtype (GENERIC, 1)

-- head number k is that of the piece in front, before the rest
abbrev pub IsNamedHead : ℕ → List PropertyParts → List PropertyParts → Head → Type 0
IsNamedHead k piece rest head = IsRowHead k piece rest head ⊎ IsPlainHead k piece rest head

-- the properties are pieces in a row, which give the heads from number k on
abbrev pub NamesGive : ℕ → List PropertyParts → List Head → Type 0
NamesGive k properties [] = properties ≡ []
NamesGive k properties (head ∷ heads) = (piece : List PropertyParts) × (rest : List PropertyParts)
    × (properties ≡ piece ++ rest) × IsNamedHead k piece rest head × NamesGive (k + 1) rest heads
