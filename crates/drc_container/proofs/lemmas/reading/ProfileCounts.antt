-- The counts of an assembled mesh in a profile: a wider one accepts what a profile accepts, and the one of decoding all that is assembled.
use Rattle.std.proofs.Common.{◌≡◌, ℕ, ◌*◌, ◌≤◌, true, List, [], ◌∷◌, length, Option, None, Some, Result, Ok, Err, refl, ◌∙◌, ap, arith}
use Rattle.std.specs.Prelude.{nat_le}
use Rattle.std.proofs.lemmas.Bool.{leb-true, le-leb}
use Rattle.drc_base.specs.declared.faults.Fault.{Fault}
use Rattle.drc_base.specs.declared.kinds.Kind.TheVariants.{PointLimit, ValueLimit}
use Rattle.drc_base.specs.Profile.{Profile, profile_numbered}
use Rattle.drc_base.specs.Steps.{◌>>=◌}
use Rattle.drc_bits.proofs.Results.{err≢ok}
use Rattle.attr_heads.specs.declared.heads.Head.{Head}
use Rattle.mesh_model.specs.Groups.{AttrTable}
use Rattle.attr_heads.specs.FirstFault.{unless, value_unless}
use Rattle.attr_heads.specs.Head.{width_of}
use Rattle.mesh_model.specs.Parts.{MeshParts}
use Rattle.mesh_model.specs.Assembled.{assembled, assembled_parts}
use Rattle.attr_heads.proofs.FirstFaults.{unless-none, unless-true, first_fault-none, first_fault-cons}
use Rattle.drc_container.specs.reading.OnSurface.{SurfaceAttributes, at_end, counts_in, accepted, assembled_in, assembled_at}
use Rattle.drc_container.specs.reading.Profiles.{IsWider}
use Rattle.drc_container.proofs.lemmas.reading.Keeping.{Keeps, keeps-then}

-- what is within a limit is within a greater one
pub within : (n m k : ℕ) → m ≤ k → nat_le n m ≡ true → nat_le n k ≡ true
within n m k wider is = le-leb n k (omega (arith, wider, leb-true n m is))

-- a test that finds again what was found before
found-again : (k : ℕ) (fault : Option Fault) (m : MeshParts) → counts_in (profile_numbered k) m ≡ fault → (value_unless fault m >>= accepted (profile_numbered k)) ≡ value_unless fault m
found-again k None m is = ap (λ f. value_unless f m) is
found-again k (Some f) m is = refl

-- a profile of the limits of decoding accepts each mesh that is assembled
pub assembled-all : (k : ℕ) (heads : List Head) (tables : List AttrTable) (faces : ℕ) → assembled_in (profile_numbered k) heads tables faces ≡ assembled heads tables faces
unfolding assembled_in assembled
assembled-all k heads tables faces = found-again k _ (assembled_parts heads tables faces) refl

-- the counts that a profile accepts are accepted by a wider one
counts-wider : (p q : Profile) → IsWider p q → (m : MeshParts) → counts_in p m ≡ None → counts_in q m ≡ None
counts-wider p q wider m none =
    let points = length m.points in
    let values = points * width_of m.heads in
    let a = first_fault-none (unless (nat_le points p.points) PointLimit points) (unless (nat_le values p.values) ValueLimit values ∷ []) none in
    let b = first_fault-none (unless (nat_le values p.values) ValueLimit values) [] a.1 in
    let few_points = within points p.points q.points wider.points (unless-none _ PointLimit points a.0) in
    let few_values = within values p.values q.values wider.values (unless-none _ ValueLimit values b.0) in
    first_fault-cons _ _ (unless-true _ PointLimit points few_points) (first_fault-cons _ [] (unless-true _ ValueLimit values few_values) refl)

-- a value that a weaker test doesn't refuse
keeps-unless : {A : Type 0} (f g : Option Fault) (x : A) → (f ≡ None → g ≡ None) → Keeps (value_unless f x) (value_unless g x)
keeps-unless None g x weaker y is = ap (λ h. value_unless h x) (weaker refl) ∙ is
keeps-unless (Some f) g x weaker y is = absurd (err≢ok is)

keeps-at_end : {A : Type 0} (end : ℕ) (r s : Result A Fault) → Keeps r s → Keeps (at_end end r) (at_end end s)
keeps-at_end end (Ok x) s item y is = ap (at_end end) (item x refl) ∙ is
keeps-at_end end (Err f) s item y is = absurd (err≢ok is)

-- a mesh that is assembled in a profile is the same one in a wider profile
pub assembled-wider : (p q : Profile) → IsWider p q → (end faces : ℕ) (a : SurfaceAttributes) → Keeps (assembled_at p end faces a) (assembled_at q end faces a)
unfolding assembled_in
assembled-wider p q wider end faces a =
    let made = assembled a.heads a.tables faces in
    keeps-at_end end (made >>= accepted p) (made >>= accepted q) (keeps-then made made (accepted p) (accepted q) (λ y same. same)
    (λ m. keeps-unless (counts_in p m) (counts_in q m) m (counts-wider p q wider m)))
