-- Items that were read, taken apart.
use Rattle.std.proofs.Common.{◌≡◌, ℕ, zero, suc, Bool, true, List, ◌∷◌, length, Ok, refl, sym, ◌∙◌, ap, subst}
use Rattle.std.specs.Prelude.{if◌then◌else◌}
use Rattle.std.specs.List.{All}
use Rattle.std.proofs.lemmas.List.Elements.{All-nil, All-cons}
use Rattle.drc_base.specs.declared.kinds.Kind.{Kind}
use Rattle.drc_base.specs.Steps.{◌>>=◌}
use Rattle.drc_base.proofs.Parted.{parts, passed}
use Rattle.drc_bits.specs.Reading.{Reading, Item, must, many_at, fault_at}
use Rattle.drc_bits.proofs.Results.{Ok-injective}

-- an item that passed its test
pub must-passed : {A : Type 0} (kind : Kind) (test : A → Bool) (item : Reading → Item A) (c : Reading) (y : A × Reading)
    → must kind test item c ≡ Ok y
    → (test y.0 ≡ true) × (item c ≡ Ok y)
must-passed {A} kind test item c y is =
    let next : A × Reading → Item A = λ x. if test x.0 then Ok x else fault_at kind c in
    let p = parts (item c) next y is in
    let t = passed (test p.0.0) (record { kind = kind; at = c.place }) (Ok p.0) y p.2 in
    let same : p.0 ≡ y = Ok-injective t.1 in
    (ap (λ (z : A × Reading). test z.0) (sym same) ∙ t.0, p.1 ∙ t.1)

-- n items: so many, each of which has what its item gives
pub many-passed : {A : Type 0} (P : A → Type 0) (item : Reading → Item A) → ((c : Reading) (x : A × Reading) → item c ≡ Ok x → P x.0)
    → (n : ℕ) (c : Reading) (y : List A × Reading) → many_at item n c ≡ Ok y → (length y.0 ≡ n) × All P y.0
unfolding many_at
many-passed {A} P item gives zero c y is =
    subst (λ (z : List A × Reading). (length z.0 ≡ 0) × All P z.0) (Ok-injective is) (refl, All-nil P)
many-passed {A} P item gives (suc n) c y is =
    let behind : A × Reading → Item (List A) = λ x. many_at item n x.1 >>= λ xs. Ok (x.0 ∷ xs.0, xs.1) in
    let p = parts (item c) behind y is in
    let joined : List A × Reading → Item (List A) = λ xs. Ok (p.0.0 ∷ xs.0, xs.1) in
    let q = parts (many_at item n p.0.1) joined y p.2 in
    let rest = many-passed P item gives n p.0.1 q.0 q.1 in
    subst (λ (z : List A × Reading). (length z.0 ≡ suc n) × All P z.0) (Ok-injective q.2)
    (ap suc rest.0, All-cons P p.0.0 q.0.0 (gives c p.0 p.1) rest.1)
