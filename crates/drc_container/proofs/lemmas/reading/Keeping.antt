-- Where one item is read, another is read alike.
use Rattle.std.proofs.Common.{◌≡◌, ℕ, zero, suc, Bool, true, false, List, [], ◌∷◌, ◌++◌, Result, Ok, Err, ◌∙◌, ap}
use Rattle.std.specs.Prelude.{if◌then◌else◌}
use Rattle.drc_base.specs.declared.faults.Fault.{Fault}
use Rattle.drc_base.specs.declared.kinds.Kind.{Kind}
use Rattle.drc_base.specs.Steps.{◌>>=◌}
use Rattle.drc_bits.specs.Reading.{Reading, Item, must, many_at, fault_at}
use Rattle.attr_section.specs.Each.{each_at}
use Rattle.drc_container.proofs.lemmas.reading.Parted.{parts, passed, must-passed}

-- where the first is a value, the second is the same one
abbrev pub Keeps : {A : Type 0} → Result A Fault → Result A Fault → Type 0
Keeps {A} r s = (y : A) → r ≡ Ok y → s ≡ Ok y

-- one step after another
pub keeps-then : {A B : Type 0} (r s : Result A Fault) (f g : A → Result B Fault) → Keeps r s → ((x : A) → Keeps (f x) (g x))
    → Keeps (r >>= f) (s >>= g)
keeps-then {A} {B} r s f g first next y is =
    let p = parts r f y is in
    ap (λ (z : Result A Fault). z >>= g) (first p.0 p.1) ∙ next p.0 y p.2

-- a test, and one that passes wherever it passes
pub keeps-test : {A : Type 0} (a b : Bool) (f g : Fault) (r s : Result A Fault) → (a ≡ true → b ≡ true) → Keeps r s
    → Keeps (if a then r else Err f) (if b then s else Err g)
keeps-test {A} a b f g r s weaker item y is =
    let p = passed a f r y is in
    ap (λ (t : Bool). let z : Result A Fault = if t then s else Err g in z) (weaker p.0) ∙ item y p.1

-- an item whose value is tested
pub keeps-must : {A : Type 0} (kind : Kind) (t u : A → Bool) (i j : Reading → Item A) (c : Reading) → ((a : A) → t a ≡ true → u a ≡ true)
    → Keeps (i c) (j c) → Keeps (must kind t i c) (must kind u j c)
keeps-must {A} kind t u i j c weaker item y is =
    let p = must-passed kind t i c y is in
    let tested : A × Reading → Item A = λ x. if u x.0 then Ok x else fault_at kind c in
    ap (λ (r : Item A). r >>= tested) (item y p.1)
    ∙ ap (λ (b : Bool). let z : Item A = if b then Ok y else fault_at kind c in z) (weaker y.0 p.0)

-- one of two forms
pub keeps-either : {A : Type 0} (b : Bool) (r s v w : Result A Fault) → Keeps r v → Keeps s w → Keeps (if b then r else s) (if b then v else w)
keeps-either true r s v w one other y is = one y is
keeps-either false r s v w one other y is = other y is

-- n items, one after another
pub keeps-many : {A : Type 0} (i j : Reading → Item A) → ((c : Reading) → Keeps (i c) (j c)) → (n : ℕ) (c : Reading)
    → Keeps (many_at i n c) (many_at j n c)
unfolding many_at
keeps-many {A} i j item zero c y is = is
keeps-many {A} i j item (suc n) c y is =
    let front : A × Reading → Item (List A) = λ x. many_at i n x.1 >>= λ xs. Ok (x.0 ∷ xs.0, xs.1) in
    let back : A × Reading → Item (List A) = λ x. many_at j n x.1 >>= λ xs. Ok (x.0 ∷ xs.0, xs.1) in
    keeps-then (i c) (j c) front back (item c)
    (λ x. let join : List A × Reading → Item (List A) = λ xs. Ok (x.0 ∷ xs.0, xs.1) in
    keeps-then (many_at i n x.1) (many_at j n x.1) join join (keeps-many i j item n x.1) (λ xs y same. same)) y is

-- items of which each may depend on those before it
pub keeps-each : {A B : Type 0} (i j : List A → B → Reading → Item A) → ((front : List A) (b : B) (c : Reading) → Keeps (i front b c) (j front b c))
    → (front : List A) (bs : List B) (c : Reading) → Keeps (each_at i front bs c) (each_at j front bs c)
unfolding each_at
keeps-each {A} {B} i j item front [] c y is = is
keeps-each {A} {B} i j item front (b ∷ bs) c y is =
    let one : A × Reading → Item (List A) = λ x. each_at i (front ++ x.0 ∷ []) bs x.1 in
    let other : A × Reading → Item (List A) = λ x. each_at j (front ++ x.0 ∷ []) bs x.1 in
    keeps-then (i front b c) (j front b c) one other (item front b c) (λ x. keeps-each i j item (front ++ x.0 ∷ []) bs x.1) y is
