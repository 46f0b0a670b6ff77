-- The attributes that the names of properties give where no comment line does (this project's choice).
use Rattle.std.specs.Prelude.{ℕ, zero, suc, ◌+◌, ◌-◌, ◌&&◌, Bool, true, false, List, [], ◌∷◌, length, None, ◌==◌, codes, if◌then◌else◌}
use Rattle.std.specs.Str.{bytes_eq}
use Rattle.attr_heads.specs.declared.heads.Head.{Head}
use Rattle.attr_heads.specs.declared.usages.TheConstants.{POSITION, NORMAL, COLOUR, TEXTURE_COORDINATE, GENERIC}
use Rattle.ply_text.specs.declared.headers.Property.{Property}

-- an attribute that is known by names: its usage, and the names of its components
pub record NameRun : Type 0 where
  pub usage : ℕ
  pub words : List (List ℕ)

-- the names that an attribute is known by: where two rows fit, the one above is taken
abbrev pub name_runs : List NameRun
name_runs =
    record { usage = POSITION; words = codes "x" ∷ codes "y" ∷ codes "z" ∷ [] }
    ∷ record { usage = NORMAL; words = codes "nx" ∷ codes "ny" ∷ codes "nz" ∷ [] }
    ∷ record { usage = COLOUR; words = codes "red" ∷ codes "green" ∷ codes "blue" ∷ codes "alpha" ∷ [] }
    ∷ record { usage = COLOUR; words = codes "red" ∷ codes "green" ∷ codes "blue" ∷ [] }
    ∷ record { usage = TEXTURE_COORDINATE; words = codes "s" ∷ codes "t" ∷ [] }
    ∷ record { usage = TEXTURE_COORDINATE; words = codes "u" ∷ codes "v" ∷ [] }
    ∷ []

-- a property has this name and this type
abbrev pub is_named : List ℕ → ℕ → Property → Bool
is_named word dtype p = bytes_eq p.name word && (p.dtype == dtype)

-- properties of one type with these names stand in front
abbrev pub stand : List (List ℕ) → ℕ → List Property → Bool
stand [] dtype ps = true
stand (word ∷ words) dtype [] = false
stand (word ∷ words) dtype (p ∷ ps) = is_named word dtype p && stand words dtype ps

-- the usage and the components of the attribute in front: by the first row whose names stand there, else generic
abbrev pub run_by : List NameRun → ℕ → List Property → ℕ × ℕ
run_by [] dtype ps = (GENERIC, 1)
run_by (run ∷ runs) dtype ps = if stand run.words dtype ps then (run.usage, length run.words) else run_by runs dtype ps

-- the same, by the names above
unfoldable pub run_of : ℕ → List Property → ℕ × ℕ
run_of dtype ps = run_by name_runs dtype ps

-- attribute number k with this usage, type and components
abbrev pub named_head : ℕ → ℕ → ℕ × ℕ → Head
named_head k dtype run =
    record { usage = run.0; dtype = dtype; comps = run.1; normalized = if run.0 == COLOUR then 1 else 0; id = k; quant = None; octa = None }

-- the attributes from number k on, from the left; the next `skip` properties belong to the one before
abbrev pub named_heads : ℕ → ℕ → List Property → List Head
named_heads k skip [] = []
named_heads k (suc skip) (p ∷ ps) = named_heads k skip ps
named_heads k zero (p ∷ ps) =
    let run = run_of p.dtype (p ∷ ps) in
    named_head k p.dtype run ∷ named_heads (k + 1) (run.1 - 1) ps
