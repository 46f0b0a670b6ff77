-- Tables, symbol blocks and bit blocks are read as what they were made of.
use Rattle.std.proofs.Common.{◌≡◌, ℕ, ◌%◌, ◌^◌, ◌<◌, ◌≤◌, Bool, true, false, All, List, length, sum, get_or, sym, ap, ◌∙◌, inl, inr, arith, pow_mono, eq-eqb, ne_eqb}
use Rattle.std.proofs.lemmas.Bool.{cases_Bool, cases_lt, cond-true, cond-false, true≢false}
use Rattle.std.proofs.lemmas.List.{get_or_past}
use Rattle.drc_base.specs.declared.limits.TheConstants.{MAX_VALUES}
use Rattle.drc_bits.specs.Spells.{Spells}
use Rattle.symbol_tables.specs.Tables.{table_at, table_bytes}
use Rattle.symbol_tables.specs.Normal.{HasTable, greatest_count, normal}
use Rattle.symbol_tables.proofs.Sharing.{normal-length, normal-sum}
use Rattle.symbol_tables.proofs.Spelling.{table_at-Spells}
use Rattle.symbol_coding.specs.Block.{block_at, block_bytes, is_raw, raw_bytes, tagged_bytes}
use Rattle.symbol_coding.proofs.Again.{none-again, raw-again, tagged-again}
use Rattle.symbol_coding.proofs.Tables.{not-raw-large}
use Rattle.rans_binary.specs.Blocks.{IsBlockOf, block}
use Rattle.rans_binary.proofs.Again.{block-again}
use Rattle.laws_entropy.proofs.CodedLengths.{coded_bits-most}
use Rattle.laws_entropy.proofs.BlockLengths.{length-raw_bytes, length-tagged_bytes}

-- ---- tables

pub table-again : (counts : List ℕ) (bits : ℕ) → bits ≤ 20 → HasTable counts bits → Spells (table_at bits) (table_bytes (normal counts bits)) (normal counts bits)
table-again counts bits high table =
    let whole : sum (normal counts bits) ≡ 2 ^ bits = normal-sum counts bits table in
    let len : length (normal counts bits) ≡ length counts = normal-length counts bits in
    let room : 2 ^ bits ≤ 2 ^ 20 = pow_mono {i = bits} {j = 20} high in
    table_at-Spells bits (normal counts bits) (omega (arith, len, table.some)) (omega (arith, len, table.few)) (omega (arith, whole, room)) whole

-- ---- symbols

-- an item past the end is 0
each-small : (values : List ℕ) → All (λ v. v < 2 ^ 32) values → (k : ℕ) → get_or values k 0 < 2 ^ 32
each-small values all k = elim (cases_lt k (length values)) [ inl inside ↦ all k 0 inside | inr past ↦ (let e = get_or_past values k 0 past in omega (arith, e)) ]

block-none : (values : List ℕ) (comps : ℕ) → length values ≡ 0 → Spells (block_at (length values) comps) (block_bytes values comps) values
unfolding block_bytes
block-none values comps none = none-again values (block_bytes values comps) comps none (cond-true _ _ _ (eq-eqb (length values) 0 none))

block-raw : (values : List ℕ) (comps : ℕ) → 0 < length values → is_raw values comps ≡ true → block_bytes values comps ≡ raw_bytes values
unfolding block_bytes
block-raw values comps some raw = cond-false _ _ _ (ne_eqb (length values) 0 (λ e. absurd (omega (arith, e, some)))) ∙ cond-true _ _ _ raw

block-tagged : (values : List ℕ) (comps : ℕ) → 0 < length values → is_raw values comps ≡ false → block_bytes values comps ≡ tagged_bytes values comps
unfolding block_bytes
block-tagged values comps some tagged = cond-false _ _ _ (ne_eqb (length values) 0 (λ e. absurd (omega (arith, e, some)))) ∙ cond-false _ _ _ tagged

-- symbols are written only of values below 2 ^ 18
raw-small : (values : List ℕ) (comps : ℕ) → is_raw values comps ≡ true → greatest_count values < 2 ^ 18
raw-small values comps raw = elim (cases_lt (greatest_count values) (2 ^ 18)) [
  | inl small ↦ small
  | inr large ↦ absurd (true≢false (sym raw ∙ not-raw-large values comps large))
]

pub symbols-again : (values : List ℕ) (comps : ℕ) → length values % comps ≡ 0 → length values ≤ MAX_VALUES → All (λ v. v < 2 ^ 32) values
    → Spells (block_at (length values) comps) (block_bytes values comps) values
symbols-again values comps divides few all =
    elim (cases_lt 0 (length values)) [
      | inr none ↦ block-none values comps (omega (arith, none))
      | inl some ↦ elim (cases_Bool (is_raw values comps)) [
        | inl raw ↦
            let small : greatest_count values < 2 ^ 18 = raw-small values comps raw in
            let is : block_bytes values comps ≡ raw_bytes values = block-raw values comps some raw in
            let l : length (block_bytes values comps) ≡ length (raw_bytes values) = ap length is in
            let h = length-raw_bytes values small in
            raw-again values (block_bytes values comps) comps some few small is (omega (arith, l, h, few))
        | inr tagged ↦
            let each = each-small values all in
            let is : block_bytes values comps ≡ tagged_bytes values comps = block-tagged values comps some tagged in
            let l : length (block_bytes values comps) ≡ length (tagged_bytes values comps) = ap length is in
            let h = length-tagged_bytes values comps divides few each in
            tagged-again values (block_bytes values comps) comps divides some few each is (omega (arith, l, h))
      ]
    ]

-- ---- bits

pub bits-again : (bits : List Bool) → length bits < 2 ^ 31 → IsBlockOf bits (block bits)
bits-again bits few = block-again bits (let h = coded_bits-most bits in omega (arith, h, few))
