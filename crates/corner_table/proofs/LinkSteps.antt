-- The links after a new face and after a gluing are those of the new boundary.
use Rattle.std.proofs.Common.{◌≡◌, ◌≢◌, ℕ, ◌*◌, ◌<◌, ◌≤◌, List, length, get_or, set, ◌⊎◌, inl, inr, sym, ap, ◌∙◌, subst, arith, get_or-set_other, get_or-set_same}
use Rattle.corner_table.specs.Sides.{Side, number, Gluing, glue, IsGluing, IsFree}
use Rattle.corner_table.specs.Fans.{side_before, side_after, Follows}
use Rattle.corner_table.proofs.Places.{same_tells, face_apart}
use Rattle.corner_table.proofs.Numbers.{number-lt, number_injective}
use Rattle.corner_table.proofs.Boundary.{side_after-follows, side_after_only, side_before-follows, side_before_only}
use Rattle.corner_table.proofs.Gluings.{glued_is, free_before, free_after, follows_kept, follows_over_first, follows_over_second, follows_past_first, follows_past_second}

pub number_apart : (x y : Side) → x ≢ y → number x ≢ number y
number_apart x y h e = h (number_injective x y e)

-- one write, read at the place and elsewhere
pub read_here : (l : List ℕ) (x : Side) (v faces : ℕ) → x.face < faces → 3 * faces ≤ length l → get_or (set l (number x) v) (number x) 0 ≡ v
read_here l x v faces h k = let b = number-lt x faces h in let lt : number x < length l = omega arith in get_or-set_same l (number x) v 0 lt

pub read_else : (l : List ℕ) (x y : Side) (v : ℕ) → y ≢ x → get_or (set l (number x) v) (number y) 0 ≡ get_or l (number y) 0
read_else l x y v h = let ne : number y ≢ number x = number_apart y x h in get_or-set_other l (number x) (number y) v 0 ne

-- walks along the boundary go there and back
pub after-before : {faces : ℕ} {g : Gluing} → IsGluing faces g → (x : Side) → IsFree faces g x → side_after faces g (side_before faces g x) ≡ x
after-before G x X = let f = side_before-follows G x X in sym (side_after_only G (side_before _ _ x) x f.0 f.1)

pub before-after : {faces : ℕ} {g : Gluing} → IsGluing faces g → (x : Side) → IsFree faces g x → side_before faces g (side_after faces g x) ≡ x
before-after G x X = let f = side_after-follows G x X in sym (side_before_only G x (side_after _ _ x) X f)

pub after_free : {faces : ℕ} {g : Gluing} → IsGluing faces g → (x : Side) → IsFree faces g x → IsFree faces g (side_after faces g x)
after_free G x X = (side_after-follows G x X).free

pub before_free : {faces : ℕ} {g : Gluing} → IsGluing faces g → (x : Side) → IsFree faces g x → IsFree faces g (side_before faces g x)
before_free G x X = (side_before-follows G x X).0

pub after_injective : {faces : ℕ} {g : Gluing} → IsGluing faces g → (x y : Side) → IsFree faces g x → IsFree faces g y → side_after faces g x ≡ side_after faces g y → x ≡ y
after_injective {faces} {g} G x y X Y e = sym (before-after G x X) ∙ ap (side_before faces g) e ∙ before-after G y Y

-- the boundary after a gluing, from the one before: what follows x
pub data NextCase (faces : ℕ) (g : Gluing) (a b x y : Side) : Type 0 where
  stays : side_after faces g x ≢ a → side_after faces g x ≢ b → y ≡ side_after faces g x → NextCase faces g a b x y
  over_first : side_after faces g x ≡ a → side_after faces g b ≢ b → y ≡ side_after faces g b → NextCase faces g a b x y
  over_second : side_after faces g x ≡ b → side_after faces g a ≢ a → y ≡ side_after faces g a → NextCase faces g a b x y
  past_second : side_after faces g x ≡ a → side_after faces g b ≡ b → y ≡ side_after faces g a → NextCase faces g a b x y
  past_first : side_after faces g x ≡ b → side_after faces g a ≡ a → y ≡ side_after faces g b → NextCase faces g a b x y

pub after-glue : {faces : ℕ} {g : Gluing} → IsGluing faces g → (a b : Side) → IsFree faces g a → IsFree faces g b → a.face ≢ b.face →
    (x : Side) → IsFree faces (glue a b g) x → NextCase faces g a b x (side_after faces (glue a b g) x)
after-glue {faces} {g} G a b A B h x X = go (same_tells (n x) a) (same_tells (n x) b)
  where
    n : Side → Side
    n = side_after faces g

    G' : IsGluing faces (glue a b g)
    G' = glued_is a b G A B h

    ne : a ≢ b
    ne = face_apart a b h

    F : (x ≢ a) × (x ≢ b) × IsFree faces g x
    F = free_before a b x ne X

    fx : Follows faces g x (side_after faces g x)
    fx = side_after-follows G x F.2

    fa : Follows faces g a (side_after faces g a)
    fa = side_after-follows G a A

    fb : Follows faces g b (side_after faces g b)
    fb = side_after-follows G b B

    only : (y : Side) → Follows faces (glue a b g) x y → side_after faces (glue a b g) x ≡ y
    only y f = sym (side_after_only G' x y X f)

    -- x comes before a: it isn't b, and a isn't alone
    case_first : side_after faces g x ≡ a → (side_after faces g b ≡ b) ⊎ (side_after faces g b ≢ b) → NextCase faces g a b x (side_after faces (glue a b g) x)
    case_first e (inl lone) =
        let p : side_after faces g a ≢ a = λ q. F.0 (after_injective G x a F.2 A (e ∙ sym q)) in
        let q : side_after faces g a ≢ b = λ q. ne (after_injective G a b A B (q ∙ sym lone)) in
        past_second e lone (only _ (follows_past_second a b x (side_after faces g a) G' A B p q (subst (Follows faces g x) e fx) (subst (Follows faces g b) lone fb) fa))
    case_first e (inr other) =
        let p : side_after faces g b ≢ a = λ q. F.1 (after_injective G x b F.2 B (e ∙ sym q)) in
        over_first e other (only _ (follows_over_first a b x (side_after faces g b) A B p other (subst (Follows faces g x) e fx) fb))

    case_second : side_after faces g x ≡ b → (side_after faces g a ≡ a) ⊎ (side_after faces g a ≢ a) → NextCase faces g a b x (side_after faces (glue a b g) x)
    case_second e (inl lone) =
        let p : side_after faces g b ≢ a = λ q. ne (sym (after_injective G b a B A (q ∙ sym lone))) in
        let q : side_after faces g b ≢ b = λ q. F.1 (after_injective G x b F.2 B (e ∙ sym q)) in
        past_first e lone (only _ (follows_past_first a b x (side_after faces g b) G' A B p q (subst (Follows faces g x) e fx) (subst (Follows faces g a) lone fa) fb))
    case_second e (inr other) =
        let q : side_after faces g a ≢ b = λ q. F.0 (after_injective G x a F.2 A (e ∙ sym q)) in
        over_second e other (only _ (follows_over_second a b x (side_after faces g a) G' A B other q (subst (Follows faces g x) e fx) fa))

    go : (side_after faces g x ≡ a) ⊎ (side_after faces g x ≢ a) → (side_after faces g x ≡ b) ⊎ (side_after faces g x ≢ b) → NextCase faces g a b x (side_after faces (glue a b g) x)
    go (inl e) k = case_first e (same_tells (side_after faces g b) b)
    go (inr m) (inl e) = case_second e (same_tells (side_after faces g a) a)
    go (inr m) (inr k) = stays m k (only _ (follows_kept a b x (side_after faces g x) A B m k fx))

-- and what comes before x
pub data PrevCase (faces : ℕ) (g : Gluing) (a b x y : Side) : Type 0 where
  was_stays : side_before faces g x ≢ a → side_before faces g x ≢ b → y ≡ side_before faces g x → PrevCase faces g a b x y
  was_over_first : side_before faces g x ≡ b → side_after faces g a ≢ a → y ≡ side_before faces g a → PrevCase faces g a b x y
  was_over_second : side_before faces g x ≡ a → side_after faces g b ≢ b → y ≡ side_before faces g b → PrevCase faces g a b x y
  was_past_second : side_before faces g x ≡ a → side_after faces g b ≡ b → y ≡ side_before faces g a → PrevCase faces g a b x y
  was_past_first : side_before faces g x ≡ b → side_after faces g a ≡ a → y ≡ side_before faces g b → PrevCase faces g a b x y

pub before-glue : {faces : ℕ} {g : Gluing} → IsGluing faces g → (a b : Side) → IsFree faces g a → IsFree faces g b → a.face ≢ b.face →
    (x : Side) → IsFree faces (glue a b g) x → PrevCase faces g a b x (side_before faces (glue a b g) x)
before-glue {faces} {g} G a b A B h x X = go (same_tells (side_before faces g x) a) (same_tells (side_before faces g x) b)
  where
    G' : IsGluing faces (glue a b g)
    G' = glued_is a b G A B h

    ne : a ≢ b
    ne = face_apart a b h

    F : (x ≢ a) × (x ≢ b) × IsFree faces g x
    F = free_before a b x ne X

    fx : IsFree faces g (side_before faces g x) × Follows faces g (side_before faces g x) x
    fx = side_before-follows G x F.2

    fa : IsFree faces g (side_before faces g a) × Follows faces g (side_before faces g a) a
    fa = side_before-follows G a A

    fb : IsFree faces g (side_before faces g b) × Follows faces g (side_before faces g b) b
    fb = side_before-follows G b B

    only : (y : Side) → y ≢ a → y ≢ b → IsFree faces g y → Follows faces (glue a b g) y x → side_before faces (glue a b g) x ≡ y
    only y p q Y f = sym (side_before_only G' y x (free_after a b y p q Y) f)

    -- if the side before x is z, x is what follows z
    next_is : (z : Side) → side_before faces g x ≡ z → side_after faces g z ≡ x
    next_is z e = ap (side_after faces g) (sym e) ∙ after-before G x F.2

    alone_back : (z : Side) → IsFree faces g z → side_before faces g z ≡ z → side_after faces g z ≡ z
    alone_back z Z e = ap (side_after faces g) (sym e) ∙ after-before G z Z

    case_first : side_before faces g x ≡ b → (side_after faces g a ≡ a) ⊎ (side_after faces g a ≢ a) → PrevCase faces g a b x (side_before faces (glue a b g) x)
    case_first e (inl lone) =
        let p : side_before faces g b ≢ a = λ q. (let r : side_after faces g a ≡ b = ap (side_after faces g) (sym q) ∙ after-before G b B in ne (sym lone ∙ r)) in
        let q : side_before faces g b ≢ b = λ q. F.1 (sym (next_is b e) ∙ alone_back b B q) in
        was_past_first e lone (only (side_before faces g b) p q fb.0 (follows_past_first a b (side_before faces g b) x G' A B F.0 F.1 fb.1 (subst (Follows faces g a) lone (side_after-follows G a A)) (subst (λ z. Follows faces g z x) e fx.1)))
    case_first e (inr other) =
        let p : side_before faces g a ≢ a = λ q. other (alone_back a A q) in
        let q : side_before faces g a ≢ b = λ q. F.0 (sym (next_is b e) ∙ ap (side_after faces g) (sym q) ∙ after-before G a A) in
        was_over_first e other (only (side_before faces g a) p q fa.0 (follows_over_first a b (side_before faces g a) x A B F.0 F.1 fa.1 (subst (λ z. Follows faces g z x) e fx.1)))

    case_second : side_before faces g x ≡ a → (side_after faces g b ≡ b) ⊎ (side_after faces g b ≢ b) → PrevCase faces g a b x (side_before faces (glue a b g) x)
    case_second e (inl lone) =
        let p : side_before faces g a ≢ a = λ q. F.0 (sym (next_is a e) ∙ alone_back a A q) in
        let q : side_before faces g a ≢ b = λ q. (let r : side_after faces g b ≡ a = ap (side_after faces g) (sym q) ∙ after-before G a A in ne (sym r ∙ lone)) in
        was_past_second e lone (only (side_before faces g a) p q fa.0 (follows_past_second a b (side_before faces g a) x G' A B F.0 F.1 fa.1 (subst (Follows faces g b) lone (side_after-follows G b B)) (subst (λ z. Follows faces g z x) e fx.1)))
    case_second e (inr other) =
        let p : side_before faces g b ≢ b = λ q. other (alone_back b B q) in
        let q : side_before faces g b ≢ a = λ q. F.1 (sym (next_is a e) ∙ ap (side_after faces g) (sym q) ∙ after-before G b B) in
        was_over_second e other (only (side_before faces g b) q p fb.0 (follows_over_second a b (side_before faces g b) x G' A B F.0 F.1 fb.1 (subst (λ z. Follows faces g z x) e fx.1)))

    go : (side_before faces g x ≡ a) ⊎ (side_before faces g x ≢ a) → (side_before faces g x ≡ b) ⊎ (side_before faces g x ≢ b) → PrevCase faces g a b x (side_before faces (glue a b g) x)
    go (inl e) k = case_second e (same_tells (side_after faces g b) b)
    go (inr m) (inl e) = case_first e (same_tells (side_after faces g a) a)
    go (inr m) (inr k) = was_stays m k (only (side_before faces g x) m k fx.0 (follows_kept a b (side_before faces g x) x A B F.0 F.1 fx.1))
