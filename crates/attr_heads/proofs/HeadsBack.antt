-- Heads that are read back from their bytes, and heads that were read.
use Rattle.std.proofs.Common.{◌≡◌, ℕ, ◌^◌, ◌<◌, ◌≤◌, Bool, true, false, [], ◌∷◌, Option, None, Some, Ok, nat_le, ◌&&◌, if◌then◌else◌, refl, arith}
use Rattle.std.proofs.lemmas.Bool.{leb-true, and_parts}
use Rattle.drc_base.specs.declared.kinds.Kind.TheVariants as kind
use Rattle.drc_base.specs.declared.limits.TheConstants.{MAX_COMPONENTS}
use Rattle.drc_base.specs.Steps.{◌>>=◌}
use Rattle.drc_bits.specs.Reading.{Reading, must}
use Rattle.drc_bits.specs.Numbers.{number_at}
use Rattle.drc_bits.specs.Varint.{var32_at, spelling}
use Rattle.drc_bits.specs.Spells.{Spells}
use Rattle.drc_base.proofs.Parted.{given, parts}
use Rattle.drc_bits.proofs.Parted.{must-passed}
use Rattle.drc_bits.proofs.Spelled.{Spells-map, Spells-then, Spells-must, Spells-byte, Spells-var32}
use Rattle.attr_heads.specs.declared.heads.Head.{Head}
use Rattle.attr_heads.specs.DataTypes.{is_type, is_float}
use Rattle.attr_heads.specs.declared.codings.Coding.TheVariants.{Integer, Quantised}
use Rattle.attr_heads.specs.Codings.{coding_facts, coding_under, coded_under, coded_comps}
use Rattle.attr_heads.specs.HeadItems.{head_at, head_bytes, stream_head, HeadPasses}

-- the components that a stream says for a head are accepted where its integers are
comps_pass : (dtype comps : ℕ) (octa : Option ℕ) → 1 ≤ comps → comps ≤ MAX_COMPONENTS
    → (nat_le 1 (coded_under (coding_facts (coding_under dtype octa)).fixed comps)
    && nat_le (coded_under (coding_facts (coding_under dtype octa)).fixed comps) MAX_COMPONENTS) ≡ true
comps_pass dtype comps None some few = by_type (is_float dtype) where
  by_type : (float : Bool)
      → (nat_le 1 (coded_under (coding_facts (if float then Quantised else Integer)).fixed comps)
      && nat_le (coded_under (coding_facts (if float then Quantised else Integer)).fixed comps) MAX_COMPONENTS) ≡ true
  by_type true = grind (arith, some, few)
  by_type false = grind (arith, some, few)
comps_pass dtype comps (Some bits) some few = refl

-- a head whose id has 32 bits
pub Spells-head : (h : Head) → HeadPasses h → h.id < 2 ^ 32 → Spells head_at (head_bytes h) (stream_head h)
unfolding head_at
Spells-head h passes fits =
    let usage : nat_le h.usage 4 ≡ true = grind (arith, passes.usage) in
    let comps : (nat_le 1 (coded_comps h) && nat_le (coded_comps h) MAX_COMPONENTS) ≡ true = comps_pass h.dtype h.comps h.octa passes.some passes.few in
    Spells-then (must kind.AttrType (λ n. nat_le n 4) (number_at 1)) (λ u c. must kind.DataType is_type (number_at 1) c >>= λ t. must kind.Components (λ n. nat_le 1 n && nat_le n MAX_COMPONENTS) (number_at 1) t.1 >>= λ k. number_at 1 k.1 >>= λ n. var32_at n.1 >>= λ i. Ok (record { usage = u; dtype = t.0; comps = k.0; normalized = n.0; id = i.0; quant = None; octa = None }, i.1))
    (h.usage ∷ []) (h.dtype ∷ coded_comps h ∷ h.normalized ∷ spelling 5 h.id) h.usage (stream_head h)
    (Spells-must kind.AttrType (λ n. nat_le n 4) (number_at 1) (h.usage ∷ []) h.usage usage (Spells-byte h.usage))
    (Spells-then (must kind.DataType is_type (number_at 1)) (λ t c. must kind.Components (λ n. nat_le 1 n && nat_le n MAX_COMPONENTS) (number_at 1) c >>= λ k. number_at 1 k.1 >>= λ n. var32_at n.1 >>= λ i. Ok (record { usage = h.usage; dtype = t; comps = k.0; normalized = n.0; id = i.0; quant = None; octa = None }, i.1))
    (h.dtype ∷ []) (coded_comps h ∷ h.normalized ∷ spelling 5 h.id) h.dtype (stream_head h)
    (Spells-must kind.DataType is_type (number_at 1) (h.dtype ∷ []) h.dtype passes.dtype (Spells-byte h.dtype))
    (Spells-then (must kind.Components (λ n. nat_le 1 n && nat_le n MAX_COMPONENTS) (number_at 1)) (λ k c. number_at 1 c >>= λ n. var32_at n.1 >>= λ i. Ok (record { usage = h.usage; dtype = h.dtype; comps = k; normalized = n.0; id = i.0; quant = None; octa = None }, i.1))
    (coded_comps h ∷ []) (h.normalized ∷ spelling 5 h.id) (coded_comps h) (stream_head h)
    (Spells-must kind.Components (λ n. nat_le 1 n && nat_le n MAX_COMPONENTS) (number_at 1) (coded_comps h ∷ []) (coded_comps h) comps (Spells-byte (coded_comps h)))
    (Spells-then (number_at 1) (λ n c. var32_at c >>= λ i. Ok (record { usage = h.usage; dtype = h.dtype; comps = coded_comps h; normalized = n; id = i.0; quant = None; octa = None }, i.1))
    (h.normalized ∷ []) (spelling 5 h.id) h.normalized (stream_head h) (Spells-byte h.normalized)
    (Spells-map (λ i. record { usage = h.usage; dtype = h.dtype; comps = coded_comps h; normalized = h.normalized; id = i; quant = None; octa = None }) var32_at (spelling 5 h.id) h.id (Spells-var32 h.id fits)))))

-- a head that was read is accepted
pub head_passed : (c : Reading) (y : Head × Reading) → head_at c ≡ Ok y → HeadPasses y.0
unfolding head_at
head_passed c y is =
    let has_comps : ℕ → Bool = λ n. nat_le 1 n && nat_le n MAX_COMPONENTS in
    let p = parts (must kind.AttrType (λ n. nat_le n 4) (number_at 1) c) _ y is in
    let q = parts (must kind.DataType is_type (number_at 1) p.0.1) _ y p.2 in
    let r = parts (must kind.Components has_comps (number_at 1) q.0.1) _ y q.2 in
    let s = parts (number_at 1 r.0.1) _ y r.2 in
    let t = parts (var32_at s.0.1) _ y s.2 in
    let usage = must-passed kind.AttrType (λ n. nat_le n 4) (number_at 1) c p.0 p.1 in
    let dtype = must-passed kind.DataType is_type (number_at 1) p.0.1 q.0 q.1 in
    let comps = must-passed kind.Components has_comps (number_at 1) q.0.1 r.0 r.1 in
    let bounds = and_parts (nat_le 1 r.0.0) (nat_le r.0.0 MAX_COMPONENTS) comps.0 in
    let h : Head = record { usage = p.0.0; dtype = q.0.0; comps = r.0.0; normalized = s.0.0; id = t.0.0; quant = None; octa = None } in
    given (λ (z : Head × Reading). HeadPasses z.0) (h, t.0.1) y t.2
    (record { usage = leb-true p.0.0 4 usage.0; dtype = dtype.0; some = leb-true 1 r.0.0 bounds.0; few = leb-true r.0.0 MAX_COMPONENTS bounds.1 })
