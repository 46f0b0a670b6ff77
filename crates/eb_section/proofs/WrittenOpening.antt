-- The written front of the section is read again.
use Rattle.std.proofs.Common.{◌≡◌, ℕ, ◌^◌, ◌<◌, ◌≤◌, ◌==◌, ◌||◌, Bool, true, false, List, [], ◌∷◌, ◌++◌, Ok, nat_le, if◌then◌else◌, refl, ap, subst, arith, append_assoc, append-nil, le-leb}
use Rattle.drc_base.specs.declared.kinds.Kind.TheVariants as kind
use Rattle.drc_base.specs.declared.limits.TheConstants.{MAX_FACES, MAX_POINTS, MAX_ATTRIBUTES}
use Rattle.drc_base.specs.Profile.{profile}
use Rattle.drc_base.specs.Steps.{◌>>=◌}
use Rattle.drc_bits.specs.Reading.{must}
use Rattle.drc_bits.specs.Numbers.{number_at}
use Rattle.drc_bits.specs.Varint.{var32_at, spelling}
use Rattle.drc_bits.specs.Spells.{Spells}
use Rattle.drc_bits.proofs.Spelled.{Spells-none, Spells-then, Spells-must, Spells-var32, Spells-byte}
use Rattle.eb_section.specs.declared.opening.Opening.{Opening}
use Rattle.eb_section.specs.Opening.{traversal_at, opening_at}
use Rattle.eb_section.specs.Written.{opening_bytes}

-- a varint of 32 bits that is no greater than a limit
limited : (least most : ℕ) (kind' : _) → least ≤ most → most < 2 ^ 32 → Spells (must kind' (λ n. nat_le n most) var32_at) (spelling 5 least) least
limited least most kind' within small =
    Spells-must kind' (λ n. nat_le n most) var32_at (spelling 5 least) least (le-leb least most within) (Spells-var32 least (omega (arith, within, small)))

-- the numbers of an opening are within what is tested
pub record IsWithin (o : Opening) : Type 0 where
  pub vertices : o.vertices ≤ MAX_POINTS
  pub faces : o.faces ≤ MAX_FACES
  pub attr_data : o.attr_data ≤ MAX_ATTRIBUTES
  pub symbols : o.symbols ≤ o.faces
  pub splits : o.splits ≤ o.symbols

-- the opening as its traversal's number says it
told_by : ℕ → Opening → Opening
told_by t o = record { valence = (t == 2); vertices = o.vertices; faces = o.faces; attr_data = o.attr_data; symbols = o.symbols; splits = o.splits }

Spells-numbers : (t : ℕ) (o : Opening) → (t == 0 || t == 2) ≡ true → IsWithin o
    → Spells (opening_at profile)
    ((t ∷ []) ++ (spelling 5 o.vertices ++ (spelling 5 o.faces ++ ((o.attr_data ∷ []) ++ (spelling 5 o.symbols ++ (spelling 5 o.splits ++ []))))))
    (told_by t o)
unfolding opening_at told_by
Spells-numbers t o known within =
    Spells-then traversal_at
    (λ t c. must kind.PointLimit (λ n. nat_le n MAX_POINTS) var32_at c >>= λ v. must kind.FaceLimit (λ n. nat_le n MAX_FACES) var32_at v.1 >>= λ f.
    must kind.AttrLimit (λ n. nat_le n MAX_ATTRIBUTES) (number_at 1) f.1 >>= λ a. must kind.Count (λ n. nat_le n f.0) var32_at a.1 >>= λ s.
    must kind.Count (λ n. nat_le n s.0) var32_at s.1 >>= λ p.
    Ok (record { valence = (t == 2); vertices = v.0; faces = f.0; attr_data = a.0; symbols = s.0; splits = p.0 }, p.1))
    (t ∷ []) (spelling 5 o.vertices ++ (spelling 5 o.faces ++ ((o.attr_data ∷ []) ++ (spelling 5 o.symbols ++ (spelling 5 o.splits ++ []))))) t (told_by t o)
    (Spells-must kind.Traversal (λ t. t == 0 || t == 2) (number_at 1) (t ∷ []) t known (Spells-byte t))
    (Spells-then (must kind.PointLimit (λ n. nat_le n MAX_POINTS) var32_at)
    (λ v c. must kind.FaceLimit (λ n. nat_le n MAX_FACES) var32_at c >>= λ f.
    must kind.AttrLimit (λ n. nat_le n MAX_ATTRIBUTES) (number_at 1) f.1 >>= λ a. must kind.Count (λ n. nat_le n f.0) var32_at a.1 >>= λ s.
    must kind.Count (λ n. nat_le n s.0) var32_at s.1 >>= λ p.
    Ok (record { valence = (t == 2); vertices = v; faces = f.0; attr_data = a.0; symbols = s.0; splits = p.0 }, p.1))
    (spelling 5 o.vertices) (spelling 5 o.faces ++ ((o.attr_data ∷ []) ++ (spelling 5 o.symbols ++ (spelling 5 o.splits ++ [])))) o.vertices (told_by t o)
    (limited o.vertices MAX_POINTS kind.PointLimit within.vertices (omega arith))
    (Spells-then (must kind.FaceLimit (λ n. nat_le n MAX_FACES) var32_at)
    (λ f c. must kind.AttrLimit (λ n. nat_le n MAX_ATTRIBUTES) (number_at 1) c >>= λ a. must kind.Count (λ n. nat_le n f) var32_at a.1 >>= λ s.
    must kind.Count (λ n. nat_le n s.0) var32_at s.1 >>= λ p.
    Ok (record { valence = (t == 2); vertices = o.vertices; faces = f; attr_data = a.0; symbols = s.0; splits = p.0 }, p.1))
    (spelling 5 o.faces) ((o.attr_data ∷ []) ++ (spelling 5 o.symbols ++ (spelling 5 o.splits ++ []))) o.faces (told_by t o)
    (limited o.faces MAX_FACES kind.FaceLimit within.faces (omega arith))
    (Spells-then (must kind.AttrLimit (λ n. nat_le n MAX_ATTRIBUTES) (number_at 1))
    (λ a c. must kind.Count (λ n. nat_le n o.faces) var32_at c >>= λ s. must kind.Count (λ n. nat_le n s.0) var32_at s.1 >>= λ p.
    Ok (record { valence = (t == 2); vertices = o.vertices; faces = o.faces; attr_data = a; symbols = s.0; splits = p.0 }, p.1))
    (o.attr_data ∷ []) (spelling 5 o.symbols ++ (spelling 5 o.splits ++ [])) o.attr_data (told_by t o)
    (Spells-must kind.AttrLimit (λ n. nat_le n MAX_ATTRIBUTES) (number_at 1) (o.attr_data ∷ []) o.attr_data (le-leb o.attr_data MAX_ATTRIBUTES within.attr_data) (Spells-byte o.attr_data))
    (Spells-then (must kind.Count (λ n. nat_le n o.faces) var32_at)
    (λ s c. must kind.Count (λ n. nat_le n s) var32_at c >>= λ p.
    Ok (record { valence = (t == 2); vertices = o.vertices; faces = o.faces; attr_data = o.attr_data; symbols = s; splits = p.0 }, p.1))
    (spelling 5 o.symbols) (spelling 5 o.splits ++ []) o.symbols (told_by t o)
    (limited o.symbols o.faces kind.Count within.symbols (omega (arith, within.faces)))
    (Spells-then (must kind.Count (λ n. nat_le n o.symbols) var32_at)
    (λ p c. Ok (record { valence = (t == 2); vertices = o.vertices; faces = o.faces; attr_data = o.attr_data; symbols = o.symbols; splits = p }, c))
    (spelling 5 o.splits) [] o.splits (told_by t o)
    (limited o.splits o.symbols kind.Count within.splits (omega (arith, within.symbols, within.faces)))
    (Spells-none (told_by t o)))))))

-- the written opening
by_groups : (t a : ℕ) (v f s p : List ℕ) → (t ∷ []) ++ (v ++ (f ++ ((a ∷ []) ++ (s ++ (p ++ []))))) ≡ t ∷ v ++ f ++ a ∷ s ++ p
by_groups t a v f s p = simp (append_assoc, append-nil)

known : (valence : Bool) → ((if valence then 2 else 0) == 0 || (if valence then 2 else 0) == 2) ≡ true
known true = refl
known false = refl

same-opening : (o : Opening) → told_by (if o.valence then 2 else 0) o ≡ o
unfolding told_by
same-opening o = ap (λ (v : Bool). let x : Opening = record { valence = v; vertices = o.vertices; faces = o.faces; attr_data = o.attr_data; symbols = o.symbols; splits = o.splits } in x) (is o.valence)
  where
    is : (v : Bool) → ((if v then 2 else 0) == 2) ≡ v
    is true = refl
    is false = refl

pub Spells-opening : (o : Opening) → IsWithin o → Spells (opening_at profile) (opening_bytes o) o
unfolding opening_bytes
Spells-opening o within =
    let t : ℕ = if o.valence then 2 else 0 in
    subst (λ x. Spells (opening_at profile) (opening_bytes o) x) (same-opening o)
    (subst (λ bytes. Spells (opening_at profile) bytes (told_by t o)) (by_groups t o.attr_data (spelling 5 o.vertices) (spelling 5 o.faces) (spelling 5 o.symbols) (spelling 5 o.splits))
    (Spells-numbers t o (known o.valence) within))
