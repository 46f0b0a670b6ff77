-- Faults of arrays that come before out of memory.
use Rattle.std.proofs.Common.{◌≡◌, ◌≤◌, ◌<◌, ◌/◌, ℕ, ℤ, Bool, true, false, ◌&&◌, ◌==◌, cond, eqb, List, [], ◌∷◌, ◌++◌, length, map, min, Option, None, Some, Ok, Err, refl, sym, arith, subst}
use Rattle.std.proofs.lemmas.Bool.{eq-eqb}
use Rattle.std.proofs.lemmas.List.{length-take-le}
use Rattle.drc_base.specs.declared.faults.Fault.{Fault}
use Rattle.attr_heads.specs.declared.heads.Head.{Head}
use Rattle.attr_heads.specs.FirstFault.{first_fault, value_unless}
use Rattle.attr_heads.specs.DataTypes.{is_float}
use Rattle.attr_heads.specs.Quants.{has_minima}
use Rattle.attr_heads.specs.Head.{heads_fault, width_of}
use Rattle.mesh_model.specs.Parts.{count_fault, faces_fault, index_fault, range_fault, mesh_fault, cloud_fault}
use Rattle.mesh_model.specs.Held.{geometry_of}
use Rattle.attr_heads.proofs.Widths.{width_of-bounds}
use Rattle.drc_c.specs.declared.heads.DrcHead.{DrcHead}
use Rattle.drc_c.specs.Heads.{head_meant, quant_under}
use Rattle.drc_c.specs.Inputs.{width_told, geometry_meant, geometry_made}
use Rattle.drc_c.specs.Early.{arrays_early_fault}
use Rattle.drc_c.proofs.WholeRows.{width_of-meant}

-- a head with a quantisation, or without one, has a minimum for each of up to eight components
minima_when : (quantised : Bool) (h : DrcHead) → length h.min ≡ 8 → h.comps ≤ 8 →
    has_minima h.comps (quant_under quantised h) ≡ true
minima_when true h eight few =
    let least : min h.comps 8 ≡ h.comps = omega arith in
    let long = length-take-le (min h.comps 8) h.min (omega arith) in
    rw (long, least) (eq-eqb h.comps h.comps refl)
minima_when false h eight few = refl

-- the head that is meant has them
pub minima_there : (h : DrcHead) → length h.min ≡ 8 → h.comps ≤ 8 → has_minima h.comps (head_meant h).quant ≡ true
minima_there h eight few = minima_when (is_float h.dtype && h.octahedral_bits == 0) h eight few

-- of heads that pass the width is 1 to 128
pub width_bounds : (heads : List DrcHead) → heads_fault (map head_meant heads) ≡ None → (0 < width_told heads) × (width_told heads ≤ 128)
width_bounds heads pass =
    subst (λ (n : ℕ). (0 < n) × (n ≤ 128)) (width_of-meant heads) (width_of-bounds (map head_meant heads) pass)

-- the first fault of some tests is the first of more
front : (tests rest : List (Option Fault)) (f : Fault) → first_fault tests ≡ Some f → first_fault (tests ++ rest) ≡ Some f
front [] rest f e = absurd cc
front (None ∷ tests) rest f e = front tests rest f e
front (Some x ∷ tests) rest f e = e

-- a test that there isn't gives no fault
skipped : (a b : Option Fault) (rest : List (Option Fault)) (f : Fault) → first_fault (a ∷ b ∷ None ∷ []) ≡ Some f → first_fault (a ∷ b ∷ rest) ≡ Some f
skipped (Some x) b rest f e = e
skipped None (Some x) rest f e = e
skipped None None rest f e = absurd cc

-- what has a fault is refused by it
refused : {A : Type 0} (fault : Option Fault) (x : A) (f : Fault) → fault ≡ Some f → value_unless fault x ≡ Err f
refused fault x f e = rw e refl

-- the same of a mesh and of a cloud
made_not : (is_mesh : Bool) (heads : List Head) (faces : List (List ℕ)) (cells : List ℤ) (f : Fault) →
    first_fault (heads_fault heads ∷ count_fault (length cells / width_of heads) (width_of heads) ∷ cond is_mesh (faces_fault faces) None ∷ []) ≡ Some f →
    geometry_of heads cells (cond is_mesh (Some faces) None) ≡ Err f
made_not true heads faces cells f e =
    let points = length cells / width_of heads in
    refused (mesh_fault heads cells faces) _ f
    (front (heads_fault heads ∷ count_fault points (width_of heads) ∷ faces_fault faces ∷ []) (index_fault points faces ∷ range_fault heads cells ∷ []) f e)
made_not false heads faces cells f e =
    refused (cloud_fault heads cells) _ f (skipped (heads_fault heads) (count_fault (length cells / width_of heads) (width_of heads)) _ f e)

-- a fault that comes before out of memory is the first of the arrays
pub early_refused : (mesh : ℕ) (heads : List DrcHead) (corners : List (List ℕ)) (values : List ℤ) (f : Fault) →
    arrays_early_fault mesh heads corners values ≡ Some f → geometry_meant mesh heads corners values ≡ Err f
unfolding arrays_early_fault geometry_made
early_refused mesh heads corners values f e =
    made_not (eqb mesh 1) (map head_meant heads) corners values f (rw (sym (width_of-meant heads)) at e)

-- where there is no such fault, what is answered is what is meant
pub meant-there : {A : Type 0} (fault : Option Fault) (x y : A) → value_unless fault x ≡ Ok y → y ≡ x
meant-there None x y e = cc
meant-there (Some f) x y e = cc
