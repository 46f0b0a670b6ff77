-- What a trace promises of its surface: that there is one in the order of decoding, and that reverse decoding builds it, with as many
-- vertices (Rossignac 1999; Isenburg and Snoeyink 2001; the order: this project's choice).
use Rattle.std.specs.Prelude.{◌≡◌, ℕ, ◌+◌, ◌≤◌, Bool, false, nat_eq, List, length, reverse, get_or, count_by, Ok}
use Rattle.std.specs.Set.{distinct_count}
use Rattle.corner_table.specs.declared.symbols.Symbol.{Symbol}
use Rattle.corner_table.specs.declared.symbols.Event.{Event}
use Rattle.corner_table.specs.Sides.{Gluing}
use Rattle.corner_table.specs.Carried.{IsCarried}
use Rattle.eb_machine.specs.Machine.{rebuild}
use Rattle.eb_machine.specs.Named.{NamedState, named_rebuild}
use Rattle.eb_machine.specs.Shown.{is_split, Shows, names_in}
use Rattle.eb_trace.specs.Front.{start_bits}
use Rattle.eb_trace.specs.Rebuilt.{finished}
use Rattle.eb_trace.specs.Trace.{fan_count}

-- there is a surface with the pairs of g under new numbers of the faces, and only one
pub record CarriesOne (faces : ℕ) (g : Gluing) (rows : List (ℕ × ℕ)) : Type 0 where
  pub carried : Gluing
  pub is_carried : IsCarried faces g rows carried
  pub only : (h : Gluing) → IsCarried faces g rows h → h ≡ carried

-- such a surface has so many fans
abbrev pub CarriesFans : ℕ → Gluing → List (ℕ × ℕ) → ℕ → Type 0
CarriesFans faces g rows count = (h : Gluing) → IsCarried faces g rows h → fan_count faces h ≡ count

-- the machine of reverse decoding that is made for all faces, the symbols and no fewer vertices than the surface has and the S take, and is
-- fed the symbols with the last first, the events and the start bits, meets no fault, and has built the surface in the order of decoding
abbrev pub IsRebuiltFrom : ℕ → Gluing → List Symbol → List Event → List Bool → List (ℕ × ℕ) → ℕ → Type 0
IsRebuiltFrom faces g symbols events starts order vertices =
    (created : ℕ) (h : Gluing) → IsCarried faces g order h → vertices + count_by is_split (reverse symbols) ≤ created →
    rebuild (record { faces = faces; created = created; symbols = length symbols }) (reverse symbols) (reverse events)
    (λ k. get_or starts k false) ≡ Ok (finished faces h (reverse symbols))

-- the surface in that order determines the start bits: one for each side that waits after the symbols
abbrev pub AreStartBits : ℕ → Gluing → List Symbol → List Bool → List (ℕ × ℕ) → Type 0
AreStartBits faces g symbols starts order = (h : Gluing) → IsCarried faces g order h → starts ≡ start_bits (length symbols) h

-- the machine that names vertices, fed the same, meets no fault; its last state shows the surface in the order of decoding, with as many
-- distinct names in its triangles as the surface has vertices
pub record EndsNamed (faces created : ℕ) (g : Gluing) (symbols : List Symbol) (events : List Event) (starts : List Bool)
    (order : List (ℕ × ℕ)) (vertices : ℕ) : Type 0 where
  pub last : NamedState
  pub no_fault : named_rebuild (record { faces = faces; created = created; symbols = length symbols }) (reverse symbols) (reverse events)
      (λ k. get_or starts k false) ≡ Ok last
  pub shows : (h : Gluing) → IsCarried faces g order h → Shows last (finished faces h (reverse symbols))
  pub names : distinct_count nat_eq (names_in last.triangles) ≡ vertices

-- so it is where no fewer vertices are declared than the surface has and the S take
abbrev pub NamesVertices : ℕ → Gluing → List Symbol → List Event → List Bool → List (ℕ × ℕ) → ℕ → Type 0
NamesVertices faces g symbols events starts order vertices =
    (created : ℕ) → vertices + count_by is_split (reverse symbols) ≤ created →
    EndsNamed faces created g symbols events starts order vertices
