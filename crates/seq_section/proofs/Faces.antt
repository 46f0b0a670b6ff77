-- Faces of indices that were read one after another, and where their indices are short.
use Rattle.std.proofs.Common.{◌≡◌, ℕ, ◌+◌, ◌≤◌, Bool, true, false, List, [], ◌∷◌, length, drop, Ok, Err, nat_lt, if◌then◌else◌, sym, ◌∙◌, ap, arith, length-drop}
use Rattle.drc_base.specs.declared.kinds.Kind.{Kind}
use Rattle.drc_base.specs.declared.kinds.Kind.TheVariants as kind
use Rattle.drc_base.specs.Steps.{◌>>=◌}
use Rattle.drc_bits.specs.Reading.{Reading, Item, advanced, fault_at}
use Rattle.drc_bits.proofs.Advancing.{advanced-advanced}
use Rattle.drc_bits.proofs.Results.{Ok-injective, err≢ok}
use Rattle.seq_section.specs.Indices.{index_width, number_of_width, index_at, face_at}
use Rattle.seq_section.specs.Short.{IsShort}

-- three indices are a face
pub face-quick : (points x y z a b d : ℕ) (bytes : List ℕ)
    → ((c : Reading) → c.rest ≡ bytes → index_at points c ≡ Ok (x, advanced a c))
    → ((c : Reading) → c.rest ≡ drop a bytes → index_at points c ≡ Ok (y, advanced b c))
    → ((c : Reading) → c.rest ≡ drop b (drop a bytes) → index_at points c ≡ Ok (z, advanced d c))
    → (c : Reading) → c.rest ≡ bytes → face_at points c ≡ Ok (x ∷ y ∷ z ∷ [], advanced (a + b + d) c)
unfolding face_at
face-quick points x y z a b d bytes first second third c here =
    let one = first c here in
    let two = second (advanced a c) (ap (drop a) here) in
    let three = third (advanced b (advanced a c)) (ap (λ l. drop b (drop a l)) here) in
    ap (λ (r : Item ℕ). r >>= λ p. index_at points p.1 >>= λ q. index_at points q.1 >>= λ t. Ok (p.0 ∷ q.0 ∷ t.0 ∷ [], t.1)) one
    ∙ ap (λ (r : Item ℕ). r >>= λ q. index_at points q.1 >>= λ t. Ok (x ∷ q.0 ∷ t.0 ∷ [], t.1)) two
    ∙ ap (λ (r : Item ℕ). r >>= λ t. Ok (x ∷ y ∷ t.0 ∷ [], t.1)) three
    ∙ ap (λ (e : Reading). Ok (x ∷ y ∷ z ∷ [], e)) (ap (advanced d) (advanced-advanced a b c) ∙ advanced-advanced (a + b) d c)

-- the item of which a test held
tested : (k : Kind) (test : ℕ → Bool) (c : Reading) (item : Item ℕ) (x : ℕ × Reading)
    → (item >>= λ y. if test y.0 then Ok y else fault_at k c) ≡ Ok x → item ≡ Ok x
tested k test c (Err f) x is = absurd (err≢ok is)
tested k test c (Ok y) x is = passed (test y.0) is
  where
    passed : (b : Bool) → ◌≡◌ {A = Item ℕ} (if b then Ok y else fault_at k c) (Ok x) → ◌≡◌ {A = Item ℕ} (Ok y) (Ok x)
    passed true is = is
    passed false is = absurd (err≢ok is)

-- the number of a short index is short
pub short-number : (points k : ℕ) (c : Reading) → IsShort (index_at points) c k → IsShort (number_of_width (index_width points)) c k
short-number points k c short =
    record {
      few = short.few;
      value = short.value;
      read = tested kind.IndexRange (λ i. nat_lt i points) c (number_of_width (index_width points) c) (short.value, advanced k c) short.read;
    }

-- the bytes behind a short index, and that at most three are before them
pub behind-short : (points x a k : ℕ) (bytes rest : List ℕ) (c : Reading) → c.rest ≡ bytes → rest ≡ drop a bytes
    → index_at points c ≡ Ok (x, advanced a c) → IsShort (index_at points) c k → ((advanced k c).rest ≡ rest) × (length bytes ≤ length rest + 3)
behind-short points x a k bytes rest c here left read short =
    let moved : c.place + a ≡ c.place + k = ap (λ (p : ℕ × Reading). p.1.place) (Ok-injective (sym read ∙ short.read)) in
    let size : a ≡ k = omega (arith, moved) in
    (ap (λ n. drop n c.rest) (sym size) ∙ ap (drop a) here ∙ sym left, omega (arith, size, short.few, ap length left, length-drop a bytes))
