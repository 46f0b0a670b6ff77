-- Products of differences, and that all three corners of a face see one normal.
use Rattle.std.proofs.Common.{◌≡◌, zero, suc, ℤ, pos, negsuc, ◌+ℤ◌, ◌-ℤ◌, ◌*ℤ◌, sym, ◌∙◌, ap, refl, arith}
use Rattle.std.proofs.lemmas.Int.{ints}
use Rattle.std.proofs.Math.IntN.{suc_ℤ-*ℤ, pred_ℤ-*ℤ, zero-*ℤ, *ℤ_comm, suc_ℤ-+ℤ, pred_ℤ-+ℤ, +ℤ_idl, suc_ℤ, pred_ℤ}
use Rattle.wrapped_vectors.specs.Vectors.{vector, cross, apart}
use Rattle.wrapped_vectors.specs.declared.places.Place.{Place}

shuffled : (x y z : ℤ) → (x +ℤ y) +ℤ z ≡ (x +ℤ z) +ℤ y
shuffled x y z = omega (arith, ints)

shuffled-down : (x y z : ℤ) → (x +ℤ y) -ℤ z ≡ (x -ℤ z) +ℤ y
shuffled-down x y z = omega (arith, ints)

one_up : (m n k : ℤ) → (m +ℤ n) *ℤ k ≡ m *ℤ k +ℤ n *ℤ k → (suc_ℤ m +ℤ n) *ℤ k ≡ suc_ℤ m *ℤ k +ℤ n *ℤ k
one_up m n k h =
    ap (λ (x : ℤ). x *ℤ k) (suc_ℤ-+ℤ m n) ∙ suc_ℤ-*ℤ (m +ℤ n) k ∙ ap (λ (x : ℤ). x +ℤ k) h ∙ shuffled (m *ℤ k) (n *ℤ k) k
    ∙ ap (λ (x : ℤ). x +ℤ n *ℤ k) (sym (suc_ℤ-*ℤ m k))

one_down : (m n k : ℤ) → (m +ℤ n) *ℤ k ≡ m *ℤ k +ℤ n *ℤ k → (pred_ℤ m +ℤ n) *ℤ k ≡ pred_ℤ m *ℤ k +ℤ n *ℤ k
one_down m n k h =
    ap (λ (x : ℤ). x *ℤ k) (pred_ℤ-+ℤ m n) ∙ pred_ℤ-*ℤ (m +ℤ n) k ∙ ap (λ (x : ℤ). x -ℤ k) h ∙ shuffled-down (m *ℤ k) (n *ℤ k) k
    ∙ ap (λ (x : ℤ). x +ℤ n *ℤ k) (sym (pred_ℤ-*ℤ m k))

none-times : (n k : ℤ) → (pos zero +ℤ n) *ℤ k ≡ pos zero *ℤ k +ℤ n *ℤ k
none-times n k = rw (+ℤ_idl n, zero-*ℤ k) (sym (+ℤ_idl (n *ℤ k)))

-- a sum times a number
pub sum-times : (m n k : ℤ) → (m +ℤ n) *ℤ k ≡ m *ℤ k +ℤ n *ℤ k
sum-times (pos zero) n k = none-times n k
sum-times (pos (suc a)) n k = one_up (pos a) n k (sum-times (pos a) n k)
sum-times (negsuc zero) n k = one_down (pos zero) n k (none-times n k)
sum-times (negsuc (suc a)) n k = one_down (negsuc a) n k (sum-times (negsuc a) n k)

-- a difference times a number: from (m - n) + n
difference-times : (m n k : ℤ) → (m -ℤ n) *ℤ k ≡ m *ℤ k -ℤ n *ℤ k
difference-times m n k =
    let whole : (m -ℤ n) +ℤ n ≡ m = omega (arith, ints) in
    let both : ((m -ℤ n) +ℤ n) *ℤ k ≡ (m -ℤ n) *ℤ k +ℤ n *ℤ k = sum-times (m -ℤ n) n k in
    let same : m *ℤ k ≡ (m -ℤ n) *ℤ k +ℤ n *ℤ k = ap (λ (x : ℤ). x *ℤ k) (sym whole) ∙ both in
    omega (arith, ints)

times-difference : (k m n : ℤ) → k *ℤ (m -ℤ n) ≡ k *ℤ m -ℤ k *ℤ n
times-difference k m n = *ℤ_comm k (m -ℤ n) ∙ difference-times m n k ∙ rw (*ℤ_comm m k, *ℤ_comm n k) refl

-- two differences
spread : (a b c d : ℤ) → (a -ℤ b) *ℤ (c -ℤ d) ≡ (a *ℤ c -ℤ a *ℤ d) -ℤ (b *ℤ c -ℤ b *ℤ d)
spread a b c d = difference-times a b (c -ℤ d) ∙ rw (times-difference a c d, times-difference b c d) refl

-- a component of the normal, seen from a and from b
turned : (ay az by bz cy cz : ℤ) → (by -ℤ ay) *ℤ (cz -ℤ az) -ℤ (bz -ℤ az) *ℤ (cy -ℤ ay) ≡ (cy -ℤ by) *ℤ (az -ℤ bz) -ℤ (cz -ℤ bz) *ℤ (ay -ℤ by)
turned ay az by bz cy cz =
    rw (
      spread by ay cz az,
      spread bz az cy ay,
      spread cy by az bz,
      spread cz bz ay by,
      *ℤ_comm az cy,
      *ℤ_comm az ay,
      *ℤ_comm bz cy,
      *ℤ_comm bz ay,
      *ℤ_comm cz ay,
      *ℤ_comm cz by,
      *ℤ_comm bz by,
    ) (omega (arith, ints))

vector-same : (x x' y y' z z' : ℤ) → x ≡ x' → y ≡ y' → z ≡ z' → vector x y z ≡ vector x' y' z'
vector-same x x' y y' z z' ex ey ez = cc

-- the corners of a face see one normal
pub one-normal : (a b c : Place) → cross (apart b a) (apart c a) ≡ cross (apart c b) (apart a b)
one-normal a b c = vector-same _ _ _ _ _ _ (turned a.y a.z b.y b.z c.y c.z) (turned a.z a.x b.z b.x c.z c.x) (turned a.x a.y b.x b.y c.x c.y)
