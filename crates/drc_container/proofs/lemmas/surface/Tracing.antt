-- The trace of a mesh, and the mesh as it is decoded, from what the calls that make them promise; and which fault comes first.
use Rattle.std.proofs.Common.{◌≡◌, ℕ, Bool, true, List, [], ◌∷◌, length, reverse, Option, Some, None, Ok, Err, refl, sym, ap, ◌∙◌, subst}
use Rattle.std.specs.Prelude.{Result, ◌↔◌, nat_le}
use Rattle.drc_base.specs.declared.faults.Fault.{Fault}
use Rattle.drc_base.specs.declared.faults.Refusal.{Refusal}
use Rattle.drc_base.specs.declared.faults.Refusal.TheVariants as refusal
use Rattle.drc_base.specs.Refusals.{Refuses}
use Rattle.drc_base.specs.declared.kinds.Kind.TheVariants.{PointLimit}
use Rattle.drc_base.specs.declared.limits.TheConstants.{MAX_POINTS}
use Rattle.attr_heads.specs.FirstFault.{unless, first_fault, value_unless}
use Rattle.mesh_model.specs.Parts.{MeshParts}
use Rattle.attr_heads.proofs.FirstFaults.{unless-none, unless-true}
use Rattle.corner_table.specs.declared.symbols.Symbol.{Symbol}
use Rattle.corner_table.specs.declared.symbols.Event.{Event}
use Rattle.corner_table.specs.Sides.{Gluing}
use Rattle.pairing.specs.Pairing.{pairing}
use Rattle.pairing.specs.CarriedPairs.{carried}
use Rattle.pairing.specs.Degenerate.{degenerate_fault}
use Rattle.eb_trace.specs.declared.tracing.Traced.{Traced}
use Rattle.eb_trace.specs.Trace.{trace, word_of, order_of, fan_count}
use Rattle.drc_container.specs.choice.Refused.{vertices_fault, tracing_fault}
use Rattle.drc_container.specs.writing.WrittenOnSurface.{traced, decoded}

-- what a trace of these faces and pairs is
pub record IsTraceOf (faces : ℕ) (g : Gluing) (r : Traced) : Type 0 where
  pub symbols : r.symbols ≡ reverse (word_of (trace faces g))
  pub events : r.events ≡ reverse (trace faces g).events
  pub starts : r.starts ≡ reverse (trace faces g).bits
  pub order : r.order ≡ order_of (trace faces g)
  pub vertices : r.vertices ≡ fan_count faces g

same-trace : (r t : Traced) → r.symbols ≡ t.symbols → r.events ≡ t.events → r.starts ≡ t.starts → r.order ≡ t.order → r.vertices ≡ t.vertices → r ≡ t
same-trace r t symbols events starts order vertices =
    let a : List Symbol → Traced = λ x. record { symbols = x; events = r.events; starts = r.starts; order = r.order; vertices = r.vertices } in
    let b : List Event → Traced = λ x. record { symbols = t.symbols; events = x; starts = r.starts; order = r.order; vertices = r.vertices } in
    let c : List Bool → Traced = λ x. record { symbols = t.symbols; events = t.events; starts = x; order = r.order; vertices = r.vertices } in
    let d : List (ℕ × ℕ) → Traced = λ x. record { symbols = t.symbols; events = t.events; starts = t.starts; order = x; vertices = r.vertices } in
    let e : ℕ → Traced = λ x. record { symbols = t.symbols; events = t.events; starts = t.starts; order = t.order; vertices = x } in
    ap a symbols ∙ ap b events ∙ ap c starts ∙ ap d order ∙ ap e vertices

-- the trace of a mesh
pub traced-is : (m : MeshParts) (faces : ℕ) (g : Gluing) (r : Traced) → faces ≡ length m.faces → g ≡ pairing m → IsTraceOf faces g r → r ≡ traced m
unfolding traced
traced-is m faces g r many pairs is =
    let told : IsTraceOf (length m.faces) (pairing m) r =
    subst (λ (n : ℕ). IsTraceOf n (pairing m) r) many (subst (λ (h : Gluing). IsTraceOf faces h r) pairs is) in
    same-trace r (traced m) told.symbols told.events told.starts told.order told.vertices

-- the pairs as they are decoded
pub decoded-pairs : (m : MeshParts) (rows given : List (ℕ × ℕ)) (g h : Gluing) → g ≡ pairing m → rows ≡ (traced m).order → given ≡ rows → h ≡ carried g given
    → h ≡ (decoded m).pairs
unfolding decoded
decoded-pairs m rows given g h pairs is same told = told ∙ ap (λ (k : Gluing). carried k given) pairs ∙ ap (carried (pairing m)) (same ∙ is)

-- ---- which fault comes first

-- a value that isn't given, since there is a fault
pub value-refused : {A : Type 0} (t : Option Fault) (x : A) (f : Fault) → t ≡ Some f → value_unless t x ≡ Err f
value-refused {A} t x f is = ap (λ (u : Option Fault). value_unless u x) is

-- a value that is given, since there is none
pub value-there : {A : Type 0} (t : Option Fault) (x y : A) → t ≡ None → y ≡ x → value_unless t x ≡ Ok y
value-there {A} t x y none is = ap (λ (u : Option Fault). value_unless u x) none ∙ ap Ok (sym is)

-- an answer is a fault exactly where a mesh has one: where it is a value, there is none
pub no-fault : {A : Type 0} (t : Option Fault) (r : Result A Refusal) (x : A) → r ≡ Ok x → ((f : Fault) → (r ≡ Err (refusal.Fault f)) ↔ (t ≡ Some f)) → t ≡ None
no-fault {A} None r x is tells = refl
no-fault {A} (Some f) r x is tells = let e = (tells f).1 refl in cc

-- a surface that isn't paired has a degenerate face, or memory is out
pub pair-refuses : {T A : Type 0} (m : MeshParts) (x : A) (e : Refusal)
    → ((f : Fault) → (◌≡◌ {A = Result T Refusal} (Err e) (Err (refusal.Fault f))) ↔ (degenerate_fault m ≡ Some f)) → Refuses (value_unless (tracing_fault m) x) e
pair-refuses {T} {A} m x refusal.Memory tells = tt
pair-refuses {T} {A} m x (refusal.Fault g) tells = ap (λ (t : Option Fault). value_unless (first_fault (t ∷ vertices_fault m ∷ [])) x) ((tells g).0 refl)

-- no more vertices than there may be
pub vertices-none : (m : MeshParts) (faces n at : ℕ) (g : Gluing) → faces ≡ length m.faces → g ≡ pairing m → n ≡ fan_count faces g
    → unless (nat_le n MAX_POINTS) PointLimit at ≡ None → vertices_fault m ≡ None
vertices-none m faces n at g many pairs is none =
    let few : nat_le n MAX_POINTS ≡ true = unless-none (nat_le n MAX_POINTS) PointLimit at none in
    let count : n ≡ fan_count (length m.faces) (pairing m) = is ∙ ap (λ (k : ℕ). fan_count k g) many ∙ ap (fan_count (length m.faces)) pairs in
    let vertices = fan_count (length m.faces) (pairing m) in
    unless-true (nat_le vertices MAX_POINTS) PointLimit vertices (subst (λ (k : ℕ). nat_le k MAX_POINTS ≡ true) count few)

-- more vertices than there may be
pub vertices-over : (m : MeshParts) (faces n at : ℕ) (g : Gluing) (f : Fault) → faces ≡ length m.faces → g ≡ pairing m → n ≡ fan_count faces g → at ≡ n
    → unless (nat_le n MAX_POINTS) PointLimit at ≡ Some f → vertices_fault m ≡ Some f
vertices-over m faces n at g f many pairs is place told =
    let count : n ≡ fan_count (length m.faces) (pairing m) = is ∙ ap (λ (k : ℕ). fan_count k g) many ∙ ap (fan_count (length m.faces)) pairs in
    sym (ap (λ (k : ℕ). unless (nat_le k MAX_POINTS) PointLimit k) count)
    ∙ ap (λ (k : ℕ). unless (nat_le n MAX_POINTS) PointLimit k) (sym place)
    ∙ told

-- without a degenerate face the vertices alone are tested
pub tracing-is : (m : MeshParts) → degenerate_fault m ≡ None → tracing_fault m ≡ vertices_fault m
tracing-is m none = ap (λ (t : Option Fault). first_fault (t ∷ vertices_fault m ∷ [])) none ∙ one (vertices_fault m)
  where
    one : (t : Option Fault) → first_fault (t ∷ []) ≡ t
    one None = refl
    one (Some f) = refl

-- a degenerate face is reported first
pub tracing-degenerate : (m : MeshParts) (f : Fault) → degenerate_fault m ≡ Some f → tracing_fault m ≡ Some f
tracing-degenerate m f is = ap (λ (t : Option Fault). first_fault (t ∷ vertices_fault m ∷ [])) is
