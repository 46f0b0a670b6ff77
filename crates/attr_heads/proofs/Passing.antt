-- What heads that pass their tests say.
use Rattle.std.proofs.Common.{◌≡◌, ℕ, ◌+◌, ◌≤◌, true, ◌&&◌, leb, List, [], ◌∷◌, length, Option, None}
use Rattle.std.specs.Prelude.{map}
use Rattle.std.specs.List.{All, enumerate_from}
use Rattle.std.proofs.lemmas.Bool.{leb-true, and_parts}
use Rattle.std.proofs.lemmas.List.Elements.{All-nil, All-cons}
use Rattle.drc_base.specs.declared.faults.Fault.{Fault}
use Rattle.drc_base.specs.declared.kinds.Kind.TheVariants.{NoAttribute, AttrLimit, AttrType, DataType, Components, QuantBits}
use Rattle.drc_base.specs.declared.limits.TheConstants.{MAX_ATTRIBUTES, MAX_COMPONENTS}
use Rattle.attr_heads.specs.declared.heads.Head.{Head}
use Rattle.attr_heads.specs.FirstFault.{unless}
use Rattle.attr_heads.specs.Quants.{has_minima, has_bits}
use Rattle.attr_heads.specs.Octahedra.{has_coordinates, has_square_bits}
use Rattle.attr_heads.specs.Head.{has_type, head_fault, each_fault, heads_fault}
use Rattle.attr_heads.proofs.FirstFaults.{unless-none, first_fault-none}

-- what a head that passes says
pub record HeadSays (h : Head) : Type 0 where
  pub usage : h.usage ≤ 4
  pub typed : has_type h.dtype h.quant h.octa ≡ true
  pub some : 1 ≤ h.comps
  pub few : h.comps ≤ MAX_COMPONENTS
  pub minima : has_minima h.comps h.quant ≡ true
  pub coordinates : has_coordinates h.comps h.octa ≡ true
  pub bits : has_bits h.quant ≡ true
  pub square : has_square_bits h.octa ≡ true

pub head_says : (k : ℕ) (h : Head) → head_fault k h ≡ None → HeadSays h
head_says k h e =
    let t1 = unless (leb h.usage 4) AttrType k in
    let t2 = unless (has_type h.dtype h.quant h.octa) DataType k in
    let c = leb 1 h.comps && leb h.comps MAX_COMPONENTS && (has_minima h.comps h.quant && has_coordinates h.comps h.octa) in
    let t3 = unless c Components k in
    let t4 = unless (has_bits h.quant && has_square_bits h.octa) QuantBits k in
    let a = first_fault-none t1 (t2 ∷ t3 ∷ t4 ∷ []) e in
    let b = first_fault-none t2 (t3 ∷ t4 ∷ []) a.1 in
    let d = first_fault-none t3 (t4 ∷ []) b.1 in
    let f = first_fault-none t4 [] d.1 in
    let p = and_parts (leb 1 h.comps && leb h.comps MAX_COMPONENTS) (has_minima h.comps h.quant && has_coordinates h.comps h.octa) (unless-none c Components k d.0) in
    let m = and_parts (has_minima h.comps h.quant) (has_coordinates h.comps h.octa) p.1 in
    let s = and_parts (has_bits h.quant) (has_square_bits h.octa) (unless-none (has_bits h.quant && has_square_bits h.octa) QuantBits k f.0) in
    let q = and_parts (leb 1 h.comps) (leb h.comps MAX_COMPONENTS) p.0 in
    record {
      usage = leb-true h.usage 4 (unless-none (leb h.usage 4) AttrType k a.0);
      typed = unless-none (has_type h.dtype h.quant h.octa) DataType k b.0;
      some = leb-true 1 h.comps q.0;
      few = leb-true h.comps MAX_COMPONENTS q.1;
      minima = m.0;
      coordinates = m.1;
      bits = s.0;
      square = s.1;
    }

abbrev faults : ℕ → List Head → List (Option Fault)
faults k heads = map (λ (j, h). head_fault j h) (enumerate_from k heads)

each_says : (k : ℕ) (heads : List Head) → each_fault k heads ≡ None → All HeadSays heads
each_says k [] e = All-nil HeadSays
each_says k (h ∷ hs) e =
    let a = first_fault-none (head_fault k h) (faults (k + 1) hs) e in
    All-cons HeadSays h hs (head_says k h a.0) (each_says (k + 1) hs a.1)

-- what heads that pass say
pub record HeadsSay (heads : List Head) : Type 0 where
  pub some : 1 ≤ length heads
  pub few : length heads ≤ MAX_ATTRIBUTES
  pub each : All HeadSays heads

pub heads_say : (heads : List Head) → heads_fault heads ≡ None → HeadsSay heads
unfolding heads_fault
heads_say heads e =
    let t1 = unless (leb 1 (length heads)) NoAttribute (length heads) in
    let t2 = unless (leb (length heads) MAX_ATTRIBUTES) AttrLimit (length heads) in
    let a = first_fault-none t1 (t2 ∷ each_fault 0 heads ∷ []) e in
    let b = first_fault-none t2 (each_fault 0 heads ∷ []) a.1 in
    let c = first_fault-none (each_fault 0 heads) [] b.1 in
    record {
      some = leb-true 1 (length heads) (unless-none (leb 1 (length heads)) NoAttribute (length heads) a.0);
      few = leb-true (length heads) MAX_ATTRIBUTES (unless-none (leb (length heads) MAX_ATTRIBUTES) AttrLimit (length heads) b.0);
      each = each_says 0 heads c.0;
    }
