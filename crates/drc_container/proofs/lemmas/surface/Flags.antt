-- The seams of attributes: bits and flags, and the surfaces that are cut at them.
use Rattle.std.proofs.Common.{◌≡◌, ℕ, ◌+◌, ◌-◌, ◌<◌, ◌&&◌, Bool, true, false, List, [], ◌∷◌, ◌++◌, length, map, get_or, Option, Some, None, refl, sym, ap, ◌∙◌, subst, arith, Vec, Global}
use Rattle.std.specs.Prelude.{option_map, IfSome, Result, Ok, Err, IfOk, nat_lt, if◌then◌else◌}
use Rattle.std.specs.List.{All, range_with_len, list_any}
use Rattle.std.proofs.lemmas.Bool.{lt-ltb}
use Rattle.std.proofs.lemmas.List.{map-append, length-map, get_or-map}
use Rattle.std.proofs.lemmas.Simd.{map-map}
use Rattle.std.proofs.lemmas.List.FromFn.{map-range_with_len_more, length-map-range_with_len, get_or-map-range_with_len}
use Rattle.std.proofs.lemmas.List.Elements.{All-head, All-tail, All-weaker, filter_passes}
use Rattle.drc_base.specs.declared.faults.Memory.{Memory}
use Rattle.corner_table.specs.Sides.{Side, Gluing, IsGluing}
use Rattle.corner_table.specs.Fans.{corners_of}
use Rattle.corner_table.specs.Pairs.{has_bit, bit_sides}
use Rattle.corner_table.specs.Table.{Table, gluing_of}
use Rattle.seams.specs.Seams.{AreFlags, flag_at, flags_listed, unseamed}
use Rattle.seams.specs.SeamBits.{seam_bits}
use Rattle.seams.specs.Values.{is_seam}
use Rattle.seams.proofs.Bits.{bit_tells}
use Rattle.seams.proofs.Chains.{list_cuts_alike}
use Rattle.seams.proofs.Listing.{flag_at-listed}
use Rattle.seams.proofs.Values.{seams_are_flags}
use Rattle.drc_container.specs.declared.surface.attribute_surfaces.AttributeSurfaces.{AttributeSurfaces}
use Rattle.drc_container.specs.declared.surface.seam_lists.SeamLists.{SeamLists}
use Rattle.drc_container.specs.reading.OnSurface.{ordered_by}
use Rattle.drc_container.specs.writing.WrittenOnSurface.{GluedMesh, seam_bits_of, is_cornered}
use Rattle.drc_container.specs.surface.AttributeSurfaces.{glued_on, corner_flags_of, flag_lists, cut_order, order_cut, order_in, AreAttributeSurfaces}
use Rattle.drc_container.proofs.lemmas.surface.Seams.{map-agree}

map-alike : (f g : Side → Bool) (xs : List Side) → All (λ x. f x ≡ g x) xs → map f xs ≡ map g xs
map-alike f g [] alike = refl
map-alike f g (x ∷ xs) alike =
    let P : Side → Type 0 = λ (y : Side). f y ≡ g y in
    ap (λ b. b ∷ map f xs) (All-head P x xs alike) ∙ ap (λ bs. g x ∷ bs) (map-alike f g xs (All-tail P x xs alike))

-- a list of flags and what it was made of have the same seam bits
pub bits-listed : (faces : ℕ) (g : Gluing) (flags : Side → Bool) → IsGluing faces g → seam_bits faces g (flag_at (flags_listed faces flags)) ≡ seam_bits faces g flags
bits-listed faces g flags G =
    map-alike (flag_at (flags_listed faces flags)) flags (bit_sides faces g)
    (All-weaker (λ (x : Side). has_bit g x ≡ true) (λ (x : Side). flag_at (flags_listed faces flags) x ≡ flags x)
    (λ x has. let t = bit_tells g x has in flag_at-listed faces flags x (G.within x t.0 t.1)) (bit_sides faces g) (filter_passes (has_bit g) (corners_of faces)))

-- the bits of the flags of an attribute
pub bits-are : (d : GluedMesh) (k faces : ℕ) (flags given bits : List Bool) → IsGluing faces d.pairs → faces ≡ length d.mesh.faces → flags ≡ flags_listed faces (is_seam d.mesh k d.pairs)
    → given ≡ flags → bits ≡ seam_bits faces d.pairs (flag_at given) → bits ≡ seam_bits_of d k
bits-are d k faces flags given bits G one is same told =
    told
    ∙ ap (λ (l : List Bool). seam_bits faces d.pairs (flag_at l)) (same ∙ is)
    ∙ bits-listed faces d.pairs (is_seam d.mesh k d.pairs) G
    ∙ ap (λ (n : ℕ). seam_bits n d.pairs (is_seam d.mesh k d.pairs)) one

-- where there is no seam, no flags are kept
pub flags-none : (d : GluedMesh) (k : ℕ) → list_any (λ bit. bit) (seam_bits_of d k) ≡ false → None ≡ corner_flags_of d k
unfolding is_cornered
flags-none d k none = rw none (at (nat_lt 0 k))
  where
    at : (b : Bool) → None ≡ (if b && false then Some (flags_listed (length d.mesh.faces) (is_seam d.mesh k d.pairs)) else None)
    at true = refl
    at false = refl

-- else the flags of the attribute are
pub flags-some : (d : GluedMesh) (k faces : ℕ) (flags : List Bool) → 0 < k → faces ≡ length d.mesh.faces → flags ≡ flags_listed faces (is_seam d.mesh k d.pairs)
    → list_any (λ bit. bit) (seam_bits_of d k) ≡ true → Some flags ≡ corner_flags_of d k
unfolding is_cornered
flags-some d k faces flags later one is some =
    let yes : nat_lt 0 k ≡ true = lt-ltb 0 k later in
    rw (some, yes) (ap Some (is ∙ ap (λ (n : ℕ). flags_listed n (is_seam d.mesh k d.pairs)) one))

-- the first attribute has none
pub flags-first : (d : GluedMesh) → None ≡ corner_flags_of d 0
unfolding is_cornered
flags-first d = refl

-- a mesh with one attribute has no flags
one-flags : (d : GluedMesh) → length d.mesh.heads ≡ 1 → None ∷ [] ≡ flag_lists d
one-flags d one = ap (λ (o : Option (List Bool)). o ∷ []) (flags-first d) ∙ sym (ap (λ (k : ℕ). map (corner_flags_of d) (range_with_len 0 k)) one)

-- the flags of an answer, as lists
pub no-flags : (d : GluedMesh) (answer : Result SeamLists Memory) → length d.mesh.heads ≡ 1 → IfOk answer (λ s. s.flags.items ≡ None ∷ [])
    → IfOk answer (λ s. map (option_map (λ (v : Vec Bool Global). v.items)) s.flags.items ≡ flag_lists d)
no-flags d (Ok s) one is = ap (map (option_map (λ (v : Vec Bool Global). v.items))) is ∙ one-flags d one
no-flags d (Err e) one is = tt

-- a surface that is cut at the flags of an attribute is walked as the attribute's surface
pub cut-ordered : (d : GluedMesh) (t : Table) (k : ℕ) → IsGluing t.faces (gluing_of t) → t.faces ≡ length d.mesh.faces → gluing_of t ≡ d.pairs
    → option_map (order_cut t) (corner_flags_of d k) ≡ cut_order d k
cut-ordered d t k G one is = at (is_cornered d k)
  where
    faces : ℕ
    faces = length d.mesh.faces

    seam : Side → Bool
    seam = is_seam d.mesh k d.pairs

    H : IsGluing faces d.pairs
    H = subst (λ (n : ℕ). IsGluing n d.pairs) one (subst (IsGluing t.faces) is G)

    cut : order_cut t (flags_listed faces seam) ≡ ordered_by false faces (unseamed seam d.pairs)
    cut =
        ap (λ (n : ℕ). ordered_by false n (unseamed (flag_at (flags_listed faces seam)) (gluing_of t))) one
        ∙ ap (λ (g : Gluing). ordered_by false faces (unseamed (flag_at (flags_listed faces seam)) g)) is
        ∙ ap (ordered_by false faces) (list_cuts_alike faces d.pairs seam H)

    at : (b : Bool) → option_map (order_cut t) (if b then Some (flags_listed faces seam) else None)
        ≡ (if b then Some (ordered_by false faces (if b then unseamed seam d.pairs else d.pairs)) else None)
    at true = ap Some cut
    at false = refl

-- and these are flags of its sides
pub flags-each : (d : GluedMesh) (t : Table) → IsGluing t.faces (gluing_of t) → t.faces ≡ length d.mesh.faces → gluing_of t ≡ d.pairs
    → (k : ℕ) → IfSome (corner_flags_of d k) (AreFlags t.faces (gluing_of t))
flags-each d t G one is k = at (is_cornered d k)
  where
    flags : AreFlags t.faces (gluing_of t) (flags_listed (length d.mesh.faces) (is_seam d.mesh k d.pairs))
    flags =
        subst (λ (g : Gluing). AreFlags t.faces (gluing_of t) (flags_listed (length d.mesh.faces) (is_seam d.mesh k g))) is
        (subst (λ (n : ℕ). AreFlags t.faces (gluing_of t) (flags_listed n (is_seam d.mesh k (gluing_of t)))) one (seams_are_flags t.faces (gluing_of t) d.mesh k G))

    at : (b : Bool) → IfSome (if b then Some (flags_listed (length d.mesh.faces) (is_seam d.mesh k d.pairs)) else None) (AreFlags t.faces (gluing_of t))
    at true = flags
    at false = tt

-- ---- attribute after attribute

-- one item more of a list that is seen so
pub pushed : {A B : Type 0} (f : A → B) (xs ys : List A) (x : A) (front : List B) (y : B) → ys ≡ xs ++ x ∷ [] → map f xs ≡ front → f x ≡ y → map f ys ≡ front ++ y ∷ []
pushed {A} {B} f xs ys x front y more info here =
    ap (map f) more ∙ map-append f xs (x ∷ []) ∙ ap (λ (l : List B). l ++ f x ∷ []) info ∙ ap (λ (z : B). front ++ z ∷ []) here

-- the seam bits of one attribute more
pub lists-more : (d : GluedMesh) (k : ℕ) → 0 < k → map (seam_bits_of d) (range_with_len 1 (k + 1 - 1)) ≡ map (seam_bits_of d) (range_with_len 1 (k - 1)) ++ seam_bits_of d k ∷ []
lists-more d k later =
    let n : k + 1 - 1 ≡ k - 1 + 1 = omega arith in
    ap (λ (m : ℕ). map (seam_bits_of d) (range_with_len 1 m)) n ∙ map-range_with_len_more (seam_bits_of d) 1 (k - 1) k (omega arith)

-- the flags of one attribute more
pub flags-more : (d : GluedMesh) (k : ℕ) → map (corner_flags_of d) (range_with_len 0 (k + 1)) ≡ map (corner_flags_of d) (range_with_len 0 k) ++ corner_flags_of d k ∷ []
flags-more d k = map-range_with_len_more (corner_flags_of d) 0 k k (omega arith)

-- ---- all together

-- the surfaces that are cut at the flags of each attribute
pub cuts-ordered : (d : GluedMesh) (t : Table) → IsGluing t.faces (gluing_of t) → t.faces ≡ length d.mesh.faces → gluing_of t ≡ d.pairs
    → map (option_map (order_cut t)) (flag_lists d) ≡ map (cut_order d) (range_with_len 0 (length d.mesh.heads))
cuts-ordered d t G one is =
    let attrs = range_with_len 0 (length d.mesh.heads) in
    map-map (option_map (order_cut t)) (corner_flags_of d) attrs
    ∙ map-agree (λ (k : ℕ). option_map (order_cut t) (corner_flags_of d k)) (cut_order d) attrs (λ i k below. cut-ordered d t (get_or attrs i k) G one is)

-- each list that is kept is one of flags
pub each-flags : (d : GluedMesh) (t : Table) (lists : List (Option (Vec Bool Global))) → IsGluing t.faces (gluing_of t) → t.faces ≡ length d.mesh.faces → gluing_of t ≡ d.pairs
    → map (option_map (λ (v : Vec Bool Global). v.items)) lists ≡ flag_lists d
    → All (λ (o : Option (Vec Bool Global)). IfSome o (λ v. AreFlags t.faces (gluing_of t) v.items)) lists
each-flags d t lists G one is told i o below =
    let items : Option (Vec Bool Global) → Option (List Bool) = option_map (λ (v : Vec Bool Global). v.items) in
    let many : length lists ≡ length d.mesh.heads = sym (length-map lists items) ∙ ap length told ∙ length-map-range_with_len (corner_flags_of d) 0 (length d.mesh.heads) in
    let here : items (get_or lists i o) ≡ corner_flags_of d i =
    sym (get_or-map items lists i o None below) ∙ ap (λ (l : List (Option (List Bool))). get_or l i None) told
    ∙ get_or-map-range_with_len (corner_flags_of d) 0 (length d.mesh.heads) i i None (omega arith) (omega arith) in
    at (get_or lists i o) (subst (λ (x : Option (List Bool)). IfSome x (AreFlags t.faces (gluing_of t))) (sym here) (flags-each d t G one is i))
  where
    at : (x : Option (Vec Bool Global)) → IfSome (option_map (λ (v : Vec Bool Global). v.items) x) (AreFlags t.faces (gluing_of t)) → IfSome x (λ v. AreFlags t.faces (gluing_of t) v.items)
    at None has = tt
    at (Some v) has = has

-- what is kept for a mesh and its pairs
pub are-attribute-surfaces : (degree : Bool) (s : AttributeSurfaces) (d : GluedMesh) → glued_on s ≡ d
    → order_in s.whole ≡ ordered_by degree (length d.mesh.faces) d.pairs
    → map (option_map order_in) s.cut.items ≡ map (cut_order d) (range_with_len 0 (length d.mesh.heads)) → AreAttributeSurfaces degree s
are-attribute-surfaces degree s d is whole cut =
    let P : GluedMesh → Type 0 = λ (e : GluedMesh).
    (order_in s.whole ≡ ordered_by degree (length e.mesh.faces) e.pairs)
    × (map (option_map order_in) s.cut.items ≡ map (cut_order e) (range_with_len 0 (length e.mesh.heads))) in
    let all : P (glued_on s) = subst P (sym is) (whole, cut) in
    record { whole = all.0; cut = all.1 }
