-- Heads and extents that are read back from their bytes.
use Rattle.std.proofs.Common.{◌≡◌, ℕ, ◌≤◌, true, false, FitsSigned, [], ◌∷◌, ◌++◌, length, flat_map, Option, None, Some, Bool, if◌then◌else◌, Ok, refl, sym, ◌∙◌, ap, subst, arith}
use Rattle.std.specs.Prelude.{◌&&◌, nat_le}
use Rattle.std.specs.Int.{w32, cast_unsigned}
use Rattle.std.proofs.lemmas.Bool.{le-leb, eqb-true}
use Rattle.std.proofs.lemmas.List.{map-id}
use Rattle.drc_base.specs.declared.kinds.Kind.TheVariants as kind
use Rattle.drc_base.specs.Steps.{◌>>=◌}
use Rattle.drc_bits.specs.Reading.{must, many_at}
use Rattle.drc_bits.specs.Numbers.{number_at, signed_at}
use Rattle.drc_bits.specs.Bits.{low_bytes}
use Rattle.drc_bits.specs.Spells.{Spells}
use Rattle.drc_bits.proofs.Spelled.{Spells-all, Spells-byte, Spells-low_bytes, Spells-map, Spells-must, Spells-none, Spells-signed, Spells-then}
use Rattle.attr_heads.specs.declared.heads.Head.{Head}
use Rattle.attr_heads.specs.declared.quants.Quant.{Quant}
use Rattle.attr_heads.specs.Quants.{has_minima, has_bits}
use Rattle.attr_heads.specs.Head.{has_type}
use Rattle.attr_heads.proofs.Passing.{HeadSays}
use Rattle.kd_points.specs.declared.extents.Extent.{Extent}
use Rattle.attr_heads.specs.HeadItems.{head_at, head_bytes, stream_head, HeadPasses}
use Rattle.attr_heads.specs.declared.codings.Coding.{Coding}
use Rattle.attr_heads.specs.declared.codings.Coding.TheVariants.{Integer, Quantised}
use Rattle.attr_heads.specs.Codings.{coding_facts, coding_under, coded_under}
use Rattle.attr_heads.specs.DataTypes.{is_float}
use Rattle.attr_heads.proofs.Types.{integer_no_float, type_passes}
use Rattle.attr_heads.proofs.HeadsBack.{Spells-head as Spells-bare}
use Rattle.kd_points.specs.Header.{extent_at, kd_head_at, kd_quant_at, kd_quant_of_at}
use Rattle.kd_points.specs.Laws.{KdHeadFits, KdQuantFits}
use Rattle.kd_points.specs.Written.{extent_bytes, kd_head_bytes, kd_quant_bytes}

-- an extent
pub Spells-extent : (e : Extent) → FitsSigned w32 e.least → e.bits ≤ 32 → Spells extent_at (extent_bytes e) e
unfolding extent_at
Spells-extent e fits few =
    Spells-then signed_at (λ l c. must kind.KdBits (λ n. nat_le n 32) (number_at 1) c >>= λ b. Ok (record { least = l; bits = b.0 }, b.1))
    (low_bytes 4 (cast_unsigned w32 e.least)) (e.bits ∷ []) e.least e (Spells-signed e.least fits)
    (Spells-map (λ b. record { least = e.least; bits = b }) (must kind.KdBits (λ n. nat_le n 32) (number_at 1)) (e.bits ∷ []) e.bits
    (Spells-must kind.KdBits (λ n. nat_le n 32) (number_at 1) (e.bits ∷ []) e.bits (le-leb e.bits 32 few) (Spells-byte e.bits)))

-- a quantisation
Spells-quant : (comps : ℕ) (q : Quant) → length q.min ≡ comps → has_bits (Some q) ≡ true → KdQuantFits (Some q) → Spells (kd_quant_at comps) (kd_quant_bytes (Some q)) q
unfolding kd_quant_at
Spells-quant comps q long bits fit =
    let minima : Spells (many_at (number_at 4) comps) (flat_map (low_bytes 4) q.min) q.min =
    subst (λ n. Spells (many_at (number_at 4) n) (flat_map (low_bytes 4) q.min) q.min) long
    (subst (λ l. Spells (many_at (number_at 4) (length q.min)) (flat_map (low_bytes 4) q.min) l) (map-id q.min)
    (Spells-all (number_at 4) (low_bytes 4) (λ m. m) q.min (λ k d h. Spells-low_bytes 4 _ (omega (arith, fit.0 k d h))))) in
    Spells-then (must kind.QuantBits (λ n. nat_le 1 n && nat_le n 30) (number_at 1)) (λ b c. number_at 4 c >>= λ r. many_at (number_at 4) comps r.1 >>= λ m. Ok (record { bits = b; range = r.0; min = m.0 }, m.1))
    (q.bits ∷ []) (low_bytes 4 q.range ++ flat_map (low_bytes 4) q.min) q.bits q
    (Spells-must kind.QuantBits (λ n. nat_le 1 n && nat_le n 30) (number_at 1) (q.bits ∷ []) q.bits bits (Spells-byte q.bits))
    (Spells-then (number_at 4) (λ r c. many_at (number_at 4) comps c >>= λ m. Ok (record { bits = q.bits; range = r; min = m.0 }, m.1))
    (low_bytes 4 q.range) (flat_map (low_bytes 4) q.min) q.range q (Spells-low_bytes 4 q.range (omega (arith, fit.1)))
    (Spells-map (λ m. record { bits = q.bits; range = q.range; min = m }) (many_at (number_at 4) comps) (flat_map (low_bytes 4) q.min) q.min minima))

-- the quantisation of a head, and none
Spells-quant_of : (dtype comps : ℕ) (quant : Option Quant) → has_type dtype quant None ≡ true → has_minima comps quant ≡ true → has_bits quant ≡ true → KdQuantFits quant
    → Spells (kd_quant_of_at dtype comps) (kd_quant_bytes quant) quant
unfolding kd_quant_of_at
Spells-quant_of dtype comps None typed minima bits fit =
    let other = integer_no_float dtype typed in
    record { reads = λ place rest. rw other ((Spells-none {A = Option Quant} None).reads place rest) }
Spells-quant_of dtype comps (Some q) typed minima bits fit =
    let spelled = Spells-map (λ (x : Quant). Some x) (kd_quant_at comps) (kd_quant_bytes (Some q)) q (Spells-quant comps q (eqb-true (length q.min) comps minima) bits fit) in
    record { reads = λ place rest. rw typed (spelled.reads place rest) }

-- a head without a square stands in a stream with its integers as components
stream-unsquared : (h : Head) → h.octa ≡ None → stream_head h ≡ record h { quant = None; octa = None }
stream-unsquared h unsquared =
    ap (λ (q : Coding). record h { comps = coded_under (coding_facts q).fixed h.comps; quant = None; octa = None }) (ap (coding_under h.dtype) unsquared)
    ∙ by_type (is_float h.dtype)
  where
    by_type : (float : Bool) → record h { comps = coded_under (coding_facts (if float then Quantised else Integer)).fixed h.comps; quant = None; octa = None }
        ≡ record h { quant = None; octa = None }
    by_type true = refl
    by_type false = refl

unsquared-typed : (h : Head) → h.octa ≡ None → has_type h.dtype h.quant h.octa ≡ true → has_type h.dtype h.quant None ≡ true
unsquared-typed h unsquared typed = subst (λ (o : Option ℕ). has_type h.dtype h.quant o ≡ true) unsquared typed

-- a head
pub Spells-head : (h : Head) → h.octa ≡ None → HeadSays h → KdHeadFits h → Spells kd_head_at (kd_head_bytes h) h
unfolding kd_head_at
Spells-head h unsquared says fits =
    let passes : HeadPasses h = record { usage = says.usage; dtype = type_passes h.dtype h.quant h.octa says.typed; some = says.some; few = says.few } in
    let bare : Spells head_at (head_bytes h) (record h { quant = None; octa = None }) =
    subst (λ (g : Head). Spells head_at (head_bytes h) g) (stream-unsquared h unsquared) (Spells-bare h passes fits.id) in
    subst (λ (o : Option ℕ). Spells kd_head_at (kd_head_bytes h) (record h { octa = o })) (sym unsquared)
    (Spells-then head_at (λ b c. kd_quant_of_at b.dtype b.comps c >>= λ q. Ok (record b { quant = q.0; octa = None }, q.1))
    (head_bytes h) (kd_quant_bytes h.quant) (record h { quant = None; octa = None }) (record h { octa = None }) bare
    (Spells-map (λ q. record h { quant = q; octa = None }) (kd_quant_of_at h.dtype h.comps) (kd_quant_bytes h.quant) h.quant
    (Spells-quant_of h.dtype h.comps h.quant (unsquared-typed h unsquared says.typed) says.minima says.bits fits.quant)))
