-- Reading items from left to right, with the first fault that is met (this project's choice).
use Rattle.std.specs.Prelude.{◌≡◌, ℕ, zero, suc, ◌+◌, Bool, List, [], ◌∷◌, length, take, drop, Result, Ok, Err, nat_lt, if◌then◌else◌}
use Rattle.drc_base.specs.declared.faults.Fault.{Fault}
use Rattle.drc_base.specs.declared.kinds.Kind.{Kind}
use Rattle.drc_base.specs.declared.kinds.Kind.TheVariants as kind
use Rattle.drc_base.specs.declared.faults.Refusal.{Refusal}
use Rattle.drc_base.specs.Refusals.{Refuses}
use Rattle.drc_base.specs.Steps.{◌>>=◌}

-- where reading stands: how many bytes lie before, and the bytes that are left
pub record Reading : Type 0 where
  pub place : ℕ
  pub rest : List ℕ

-- the start of these bytes
abbrev pub start_of : List ℕ → Reading
start_of bytes = record { place = 0; rest = bytes }

-- the reading n bytes further on
abbrev pub advanced : ℕ → Reading → Reading
advanced n c = record { place = c.place + n; rest = drop n c.rest }

-- an item: its value and where reading stands after it, or the first fault
abbrev pub Item : Type 0 → Type 0
Item A = Result (A × Reading) Fault

-- a fault of this kind where reading stands
abbrev pub fault_at : {A : Type 0} → Kind → Reading → Result A Fault
fault_at kind c = Err (record { kind = kind; at = c.place })

-- an item whose value passes the test, else this fault at the item's own place
abbrev pub must : {A : Type 0} → Kind → (A → Bool) → (Reading → Item A) → Reading → Item A
must kind test item c = item c >>= λ x. if test x.0 then Ok x else fault_at kind c

-- n items, one after another
unfoldable pub many_at : {A : Type 0} → (Reading → Item A) → ℕ → Reading → Item (List A)
many_at item zero c = Ok ([], c)
many_at item (suc n) c = item c >>= λ x. many_at item n x.1 >>= λ xs. Ok (x.0 ∷ xs.0, xs.1)

-- n items, each read with the value of the one before it, the first with this value; so are running sums
unfoldable pub chain_at : {A : Type 0} → (A → Reading → Item A) → ℕ → A → Reading → Item (List A)
chain_at item zero before c = Ok ([], c)
chain_at item (suc n) before c = item before c >>= λ x. chain_at item n x.0 x.1 >>= λ xs. Ok (x.0 ∷ xs.0, xs.1)

-- n bytes; Short where they aren't all there
abbrev pub bytes_at : ℕ → Reading → Item (List ℕ)
bytes_at n c = if nat_lt (length c.rest) n then fault_at kind.Short c else Ok (take n c.rest, advanced n c)

-- a cursor's own call gave this item, as contracts see its value; at a fault the cursor is unchanged
abbrev pub Takes : {A B : Type 0} → (A → B) → Item B → Reading → Reading → Result A Fault → Type 0
Takes view item old new (Ok x) = item ≡ Ok (view x, new)
Takes view item old new (Err f) = (item ≡ Err f) × (new ≡ old)

-- a part of a stream gave this item; nothing is said of the cursor at a fault
abbrev pub Reads : {A B : Type 0} → (A → B) → Item B → Reading → Result A Fault → Type 0
Reads view item new (Ok x) = item ≡ Ok (view x, new)
Reads view item new (Err f) = item ≡ Err f

-- a part of a stream that takes memory gave this item; running out of memory is free
abbrev pub Gives : {A B : Type 0} → (A → B) → Item B → Reading → Result A Refusal → Type 0
Gives view item new (Ok x) = item ≡ Ok (view x, new)
Gives view item new (Err e) = Refuses item e
