-- Edgebreaker connectivity that was read is a surface: its gluing pairs sides of its faces, which have three fans each and are
-- within the limit, and each attribute data has its block of seam bits.
use Rattle.drc_base.specs.Profile.{profile_numbered}
use Rattle.std.proofs.Common.{◌≡◌, ℕ, zero, suc, ◌≤◌, ◌==◌, Bool, true, false, List, length, reverse, Option, None, Some, Result, inl, inr, Ok, Err, refl, sym, ◌∙◌, ap, subst, arith}
use Rattle.std.specs.Prelude.{nat_le}
use Rattle.std.proofs.lemmas.Bool.{leb-true, eqb-true}
use Rattle.drc_base.specs.declared.faults.Fault.{Fault}
use Rattle.drc_base.specs.declared.kinds.Kind.{Kind}
use Rattle.drc_base.specs.declared.kinds.Kind.TheVariants as kind
use Rattle.drc_base.specs.declared.limits.TheConstants.{MAX_FACES, MAX_POINTS, MAX_ATTRIBUTES}
use Rattle.drc_base.specs.Steps.{◌>>=◌}
use Rattle.drc_bits.specs.Reading.{Reading, must, many_at}
use Rattle.drc_bits.specs.Numbers.{number_at}
use Rattle.drc_bits.specs.Varint.{var32_at}
use Rattle.drc_bits.proofs.Results.{err≢ok}
use Rattle.corner_table.specs.declared.symbols.Symbol.{Symbol}
use Rattle.corner_table.specs.declared.symbols.Event.{Event}
use Rattle.corner_table.specs.Sides.{IsGluing}
use Rattle.corner_table.specs.Fans.{HasThreeFans}
use Rattle.corner_table.proofs.Places.{option_tells}
use Rattle.rans_binary.specs.Blocks.{Block, bit_of, bit_block_at}
use Rattle.eb_machine.specs.Machine.{State, Plan, start, step, close, close_all, finish, must_be, fault, first_degenerate}
use Rattle.eb_machine.specs.Named.{NamedState, named_start, named_step, named_close}
use Rattle.eb_machine.specs.Shown.{Shows, Agree}
use Rattle.eb_machine.proofs.NamedLaw.{symbols_agree, closes_agree, shows_start}
use Rattle.eb_machine.proofs.RowsOnce.{sound}
use Rattle.eb_machine.proofs.Closes.{finish_keeps_state}
use Rattle.eb_valence.specs.declared.context_lists.TheConstants.{CONTEXTS}
use Rattle.eb_valence.specs.Contexts.{symbol_at}
use Rattle.eb_section.specs.Opening.{traversal_at, opening_at, plan_of}
use Rattle.eb_section.specs.Calls.{declared_faces}
use Rattle.eb_section.specs.Events.{events_at}
use Rattle.eb_section.specs.Feeding.{Source, standard, fed, rebuilt}
use Rattle.eb_section.specs.Connectivity.{Connectivity, section_of, standard_at, list_at, standard_behind, valence_behind, behind_at, connectivity_at}
use Rattle.drc_container.proofs.lemmas.reading.Parted.{given, parts, either, must-passed, many-passed}
use Rattle.laws_stream.proofs.reading.Fans.{three-fans}

-- a state whose fans have names
pub record IsShown (s : State) : Type 0 where
  pub named : NamedState
  pub shows : Shows named s

-- of two answers that agree, the second is a value: so is the first
agreed : (r : Result NamedState Fault) (q : Result State Fault) (t : State) → Agree Shows r q → q ≡ Ok t → IsShown t
agreed (Ok x) (Ok s) t agree is = given IsShown s t is (record { named = x; shows = agree })
agreed (Ok x) (Err f) t agree is = absurd (err≢ok is)
agreed (Err e) (Ok s) t agree is = absurd agree
agreed (Err e) (Err f) t agree is = absurd (err≢ok is)

-- after symbols of a source
fed-shown : {S : Type 0} (next : Source S) (n left : ℕ) (source : S) (s t : State) → IsShown s → fed next n left source s ≡ Ok t → IsShown t
unfolding fed
fed-shown {S} next n zero source s t shown is = given IsShown s t is shown
fed-shown {S} next n (suc left) source s t shown is =
    let behind : Symbol × S → Result State Fault = λ x. step n x.0 s >>= fed next n left x.1 in
    let p = parts (next source s) behind t is in
    let q = parts (step n p.0.0 s) (fed next n left p.0.1) t p.2 in
    let here = agreed (named_step n p.0.0 shown.named) (step n p.0.0 s) q.0 (symbols_agree n p.0.0 shown.named s shown.shows) q.1 in
    fed-shown next n left p.0.1 q.0 t here q.2

-- after closes
closed-shown : (p : Plan) (bits : ℕ → Bool) (left : ℕ) (s t : State) → IsShown s → close_all p bits left s ≡ Ok t → IsShown t
unfolding close_all
closed-shown p bits zero s t shown is = given IsShown s t is shown
closed-shown p bits (suc left) s t shown is =
    let q = parts (close p (bits s.closes) s) (close_all p bits left) t is in
    let here = agreed (named_close p (bits s.closes) shown.named) (close p (bits s.closes) s) q.0 (closes_agree p (bits s.closes) shown.named s shown.shows) q.1 in
    closed-shown p bits left q.0 t here q.2

-- a test that was passed
test-passed : (t : Bool) (k : Kind) (n : ℕ) (u : Unit {0}) → must_be t k n ≡ Ok u → t ≡ true
test-passed true k n u is = refl
test-passed false k n u is = absurd (err≢ok is)

-- at the end there are as many faces as were declared
finished-faces : (p : Plan) (s t : State) → finish p s ≡ Ok t → s.built ≡ p.faces
unfolding finish
finished-faces p s t is =
    let q = parts (must_be (s.built == p.faces) kind.FaceCount s.built) _ t is in
    eqb-true s.built p.faces (test-passed (s.built == p.faces) kind.FaceCount s.built q.0 q.1)

-- at the end no face is degenerate
finished-none : (p : Plan) (s t : State) → finish p s ≡ Ok t → first_degenerate s.built s.glued s.built ≡ None
unfolding finish
finished-none p s t is =
    let q = parts (must_be (s.built == p.faces) kind.FaceCount s.built) _ t is in
    let r = parts (must_be (nat_le s.made p.created) kind.VertexCount s.made) _ t q.2 in
    elim (option_tells (first_degenerate s.built s.glued s.built)) [
      | inl none ↦ none
      | inr found ↦ (
          let last : Option ℕ → Result State Fault = λ o. elim o [ None ↦ Ok s | Some f ↦ Err (fault kind.Degenerate f) ] in
          absurd (err≢ok (sym (ap last found.1) ∙ r.2)))
    ]

-- a state of a finished surface of so many faces
pub record IsFinished (faces : ℕ) (s : State) : Type 0 where
  pub gluing : IsGluing s.built s.glued
  pub three_fans : HasThreeFans s.built s.glued
  pub counted : s.built ≡ faces

-- a whole rebuilding
rebuilt-finished : {S : Type 0} (next : Source S) (p : Plan) (source : S) (starts : Block) (events : List Event) (t : State)
    → rebuilt next p source starts (start events) ≡ Ok t → IsFinished p.faces t
unfolding rebuilt
rebuilt-finished {S} next p source starts events t is =
    let a = parts (fed next p.symbols p.symbols source (start events)) (λ s. close_all p (bit_of starts) (length s.stack) s >>= finish p) t is in
    let b = parts (close_all p (bit_of starts) (length a.0.stack) a.0) (finish p) t a.2 in
    let begun : IsShown (start events) = record { named = named_start events; shows = shows_start events } in
    let fed = fed-shown next p.symbols p.symbols source (start events) a.0 begun a.1 in
    let closed = closed-shown p (bit_of starts) (length a.0.stack) a.0 b.0 fed b.1 in
    let same : t ≡ b.0 = finish_keeps_state p b.0 t b.2 in
    let gluing = (sound closed.named b.0 closed.shows).0 in
    subst (IsFinished p.faces) (sym same) (record {
      gluing = gluing;
      three_fans = three-fans b.0.built b.0.glued gluing (finished-none p b.0 t b.2);
      counted = finished-faces p b.0 t b.2;
    })

-- a number that is at most n where a first part is a fault, and behind each value that it may be
at_most : {A B : Type 0} (measure : Result B Fault → ℕ) (n : ℕ) (first : Result A Fault) (next : A → Result B Fault)
    → ((f : Fault) → measure (Err f) ≤ n) → ((x : A) → first ≡ Ok x → measure (next x) ≤ n) → measure (first >>= next) ≤ n
at_most measure n (Ok x) next none some = some x refl
at_most measure n (Err f) next none some = none f

-- the faces that an opening declares are within the limit
few-declared : (k : ℕ) (c : Reading) → declared_faces (opening_at (profile_numbered k) c) ≤ MAX_FACES
unfolding opening_at
few-declared k c =
    let none : (f : Fault) → 0 ≤ MAX_FACES = λ f. omega arith in
    at_most declared_faces MAX_FACES (traversal_at c) _ none (λ a _.
    at_most declared_faces MAX_FACES (must kind.PointLimit (λ n. nat_le n MAX_POINTS) var32_at a.1) _ none (λ b _.
    at_most declared_faces MAX_FACES (must kind.FaceLimit (λ n. nat_le n MAX_FACES) var32_at b.1) _ none (λ d read.
    at_most declared_faces MAX_FACES (must kind.AttrLimit (λ n. nat_le n MAX_ATTRIBUTES) (number_at 1) d.1) _ none (λ e _.
    at_most declared_faces MAX_FACES (must kind.Count (λ n. nat_le n d.0) var32_at e.1) _ none (λ f _.
    at_most declared_faces MAX_FACES (must kind.Count (λ n. nat_le n f.0) var32_at f.1) _ none (λ g _.
    leb-true d.0 MAX_FACES (must-passed kind.FaceLimit (λ n. nat_le n MAX_FACES) var32_at b.1 d read).0))))))

-- connectivity that is a surface
pub record IsSurfaceRead (s : Connectivity) : Type 0 where
  pub gluing : IsGluing s.faces s.glued
  pub three_fans : HasThreeFans s.faces s.glued
  pub few_faces : s.faces ≤ MAX_FACES
  pub each_seam : length s.seams ≡ s.attr_data

surface-read : (o : _) (events : List Event) (seams : List Block) (s : State) → (plan_of o).faces ≤ MAX_FACES → length seams ≡ (section_of o events seams s).attr_data
    → IsFinished (plan_of o).faces s → IsSurfaceRead (section_of o events seams s)
surface-read o events seams s few each is = record { gluing = is.gluing; three_fans = is.three_fans; few_faces = omega (arith, few, is.counted); each_seam = each }

-- as many blocks as are read
blocks-counted : (n : ℕ) (c : Reading) (y : List Block × Reading) → many_at bit_block_at n c ≡ Ok y → length y.0 ≡ n
blocks-counted n c y is = (many-passed (λ (_ : Block). Unit {0}) bit_block_at (λ _ _ _. tt) n c y is).0

standard-surface : (o : _) (events : List Event) → (plan_of o).faces ≤ MAX_FACES → (c : Reading) (y : Connectivity × Reading)
    → standard_behind o events c ≡ Ok y → IsSurfaceRead y.0
unfolding standard_behind
standard-surface o events few c y is =
    let a = parts (standard_at c) _ y is in
    let b = parts (bit_block_at a.0.1) _ y a.2 in
    let d = parts (many_at bit_block_at o.attr_data b.0.1) _ y b.2 in
    let e = parts (rebuilt standard (plan_of o) a.0.0 b.0.0 (start (reverse events))) _ y d.2 in
    let finished = rebuilt-finished standard (plan_of o) a.0.0 b.0.0 (reverse events) e.0 e.1 in
    given (λ (z : Connectivity × Reading). IsSurfaceRead z.0) (section_of o events d.0.0 e.0, d.0.1) y e.2
    (surface-read o events d.0.0 e.0 few (blocks-counted o.attr_data b.0.1 d.0 d.1) finished)

valence-surface : (o : _) (events : List Event) → (plan_of o).faces ≤ MAX_FACES → (c : Reading) (y : Connectivity × Reading)
    → valence_behind o events c ≡ Ok y → IsSurfaceRead y.0
unfolding valence_behind
valence-surface o events few c y is =
    let b = parts (bit_block_at c) _ y is in
    let d = parts (many_at bit_block_at o.attr_data b.0.1) _ y b.2 in
    let a = parts (many_at (list_at o.symbols) CONTEXTS d.0.1) _ y d.2 in
    let e = parts (rebuilt symbol_at (plan_of o) a.0.0 b.0.0 (start (reverse events))) _ y a.2 in
    let finished = rebuilt-finished symbol_at (plan_of o) a.0.0 b.0.0 (reverse events) e.0 e.1 in
    given (λ (z : Connectivity × Reading). IsSurfaceRead z.0) (section_of o events d.0.0 e.0, a.0.1) y e.2
    (surface-read o events d.0.0 e.0 few (blocks-counted o.attr_data b.0.1 d.0 d.1) finished)

behind-surface : (o : _) → (plan_of o).faces ≤ MAX_FACES → (c : Reading) (y : Connectivity × Reading) → behind_at o c ≡ Ok y → IsSurfaceRead y.0
unfolding behind_at
behind-surface o few c y is =
    let a = parts (events_at o c) _ y is in
    either (IsSurfaceRead y.0) o.valence (valence_behind o a.0.0 a.0.1) (standard_behind o a.0.0 a.0.1) y a.2
    (λ _ read. valence-surface o a.0.0 few a.0.1 y read)
    (λ _ read. standard-surface o a.0.0 few a.0.1 y read)

pub connectivity-surface : (k : ℕ) (c : Reading) (y : Connectivity × Reading) → connectivity_at (profile_numbered k) c ≡ Ok y → IsSurfaceRead y.0
unfolding connectivity_at
connectivity-surface k c y is =
    let a = parts (opening_at (profile_numbered k) c) _ y is in
    let few : (plan_of a.0.0).faces ≤ MAX_FACES = subst (λ n. n ≤ MAX_FACES) (ap declared_faces a.1) (few-declared k c) in
    behind-surface a.0.0 few a.0.1 y a.2
