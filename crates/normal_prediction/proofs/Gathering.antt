-- Sums of normals, corner after corner.
use Rattle.std.proofs.Common.{◌≡◌, ◌≢◌, ℕ, suc, ◌+◌, ◌<◌, List, length, set, get_or, true, false, eqb, inl, inr, sym, ◌∙◌, ap, subst, refl, arith}
use Rattle.std.proofs.Math.Numerals.{add-one}
use Rattle.std.proofs.lemmas.List.{length-set, get_or-set_same, get_or-set_other}
use Rattle.std.specs.Int.{w64, int_wrap}
use Rattle.std.proofs.lemmas.Int.{int_wrap-add_left}
use Rattle.std.proofs.lemmas.Bool.{cases_eq}
use Rattle.std.proofs.lemmas.Bool.Decides.{nat_tests}
use Rattle.wrapped_vectors.specs.Vectors.{vector_sum, reduced}
use Rattle.wrapped_vectors.specs.declared.vectors.Vector.{Vector}
use Rattle.wrapped_vectors.specs.declared.places.Place.{Place}
use Rattle.std.specs.Prelude.{All}
use Rattle.normal_prediction.specs.NormalSums.{fan_sum, AreSums, normal_at, vector_in, no_vector}

reduced-sum : (a b : Vector) → reduced (vector_sum (reduced a) b) ≡ reduced (vector_sum a b)
reduced-sum a b = rw (int_wrap-add_left w64 a.x b.x, int_wrap-add_left w64 a.y b.y, int_wrap-add_left w64 a.z b.z) refl

fan-same : (entries : List ℕ) (places : List Place) (e n : ℕ) → get_or entries n 0 ≡ e
    → fan_sum entries places e (suc n) ≡ vector_sum (fan_sum entries places e n) (normal_at entries places n)
unfolding fan_sum
fan-same entries places e n is = let test : eqb (get_or entries n 0) e ≡ true = grind (arith, nat_tests) in rw test refl

fan-other : (entries : List ℕ) (places : List Place) (e n : ℕ) → get_or entries n 0 ≢ e
    → fan_sum entries places e (suc n) ≡ fan_sum entries places e n
unfolding fan_sum
fan-other entries places e n isnt = let test : eqb (get_or entries n 0) e ≡ false = grind (arith, nat_tests) in rw test refl

-- the entry of the corner gets its normal
here : (entries : List ℕ) (places : List Place) (sums : List Vector) (i e : ℕ) (v : Vector) → AreSums entries places sums i
    → e ≡ get_or entries i 0 → e < length sums → v ≡ reduced (vector_sum (vector_in sums e) (normal_at entries places i))
    → vector_in (set sums e v) e ≡ reduced (fan_sum entries places e (suc i))
here entries places sums i e v so is has ev =
    get_or-set_same sums e v no_vector has
    ∙ ev
    ∙ ap (λ (x : Vector). reduced (vector_sum x (normal_at entries places i))) (so e has)
    ∙ reduced-sum (fan_sum entries places e i) (normal_at entries places i)
    ∙ ap reduced (sym (fan-same entries places e i (sym is)))

-- any other stays
there : (entries : List ℕ) (places : List Place) (sums : List Vector) (i e k : ℕ) (v : Vector) → AreSums entries places sums i
    → e ≡ get_or entries i 0 → k ≢ e → k < length sums
    → vector_in (set sums e v) k ≡ reduced (fan_sum entries places k (suc i))
there entries places sums i e k v so is other has =
    get_or-set_other sums e k v no_vector other
    ∙ so k has
    ∙ ap reduced (sym (fan-other entries places k i (λ same. other (sym (is ∙ same)))))

pub sums-more : (entries : List ℕ) (places : List Place) (sums : List Vector) (i e : ℕ) (v : Vector) → AreSums entries places sums i
    → e ≡ get_or entries i 0 → e < length sums → v ≡ reduced (vector_sum (vector_in sums e) (normal_at entries places i))
    → AreSums entries places (set sums e v) (i + 1)
sums-more entries places sums i e v so is has ev k within =
    let inside : k < length sums = omega (arith, length-set sums e v) in
    rw add-one (elim (cases_eq k e) [
      | inl same ↦ subst (λ (x : ℕ). vector_in (set sums e v) x ≡ reduced (fan_sum entries places x (suc i))) (sym same)
          (here entries places sums i e v so is has ev)
      | inr other ↦ there entries places sums i e k v so is other inside
    ])

-- zeros are the sums over no corner
zeros : no_vector ≡ reduced no_vector
unfolding int_wrap
zeros = refl

none-at : (entries : List ℕ) (places : List Place) (e : ℕ) → reduced no_vector ≡ reduced (fan_sum entries places e 0)
unfolding fan_sum
none-at entries places e = refl

pub none-summed : (entries : List ℕ) (places : List Place) (sums : List Vector) → All (λ (v : Vector). v ≡ no_vector) sums → AreSums entries places sums 0
none-summed entries places sums none e has = none e no_vector has ∙ zeros ∙ none-at entries places e
