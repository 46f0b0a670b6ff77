-- The walk of reading: what a turn keeps of what is due.
use Rattle.std.proofs.Common.{◌≡◌, ℕ, zero, suc, ◌+◌, ◌-◌, ◌<◌, ◌≤◌, ◌≢◌, true, false, nat_lt, List, [], ◌∷◌, ◌++◌, length, take, reverse, Result, Ok, Err, Some, sym, refl, ap, ◌∙◌, subst, arith, append_assoc, lt-ltb, le-ltb, ne_eqb}
use Rattle.std.specs.Prelude.{◌==◌, Option, replicate}
use Rattle.std.proofs.lemmas.Bool.{cond-true, cond-false}
use Rattle.std.proofs.lemmas.List.{append-nil, length-take-le, length_push, take-take, take_all, take_at}
use Rattle.drc_base.specs.declared.faults.Fault.{Fault}
use Rattle.drc_base.specs.declared.faults.Refusal.{Refusal}
use Rattle.drc_base.specs.declared.faults.Refusal.TheVariants as refusal
use Rattle.drc_base.specs.Steps.{◌>>=◌}
use Rattle.drc_base.specs.Refusals.{Refuses}
use Rattle.rans_binary.specs.Blocks.{Block, first_bits}
use Rattle.kd_tree.specs.Keys.{Key, KeyRows}
use Rattle.drc_bits.specs.Digits.{digits}
use Rattle.kd_tree.specs.Reading.{Streams, after_rest, behind_split_bits, boxes_of, keys_before, split_bits_number}
use Rattle.kd_tree.specs.Turns.{AreNested, IsDescended, IsFewer, IsDueNext, IsBoxRefused, IsTaken, IsTurned, low_count, going, nodes_waiting, turns_left, waiting}
use Rattle.kd_tree.specs.Walk.{nodes}
use Rattle.kd_tree.specs.declared.reading.Pending.{Pending}
use Rattle.kd_tree.proofs.Walks.{nodes-two}

pub then-same : {A B E : Type 0} (x : Result A E) (f g : A → Result B E) → ((y : A) → f y ≡ g y) → x >>= f ≡ x >>= g
then-same (Ok y) f g h = h y
then-same (Err e) f g h = refl

pub then-then : {A B C E : Type 0} (x : Result A E) (f : A → Result B E) (g : B → Result C E) → (x >>= f) >>= g ≡ x >>= (λ y. f y >>= g)
then-then (Ok y) f g = refl
then-then (Err e) f g = refl

-- ---- a box of the definition

pub boxes-last : (fault : Fault) (n : ℕ) (key : Key) (s : Streams) → boxes_of fault 0 n key s ≡ Ok (replicate n key, s)
unfolding boxes_of
boxes-last fault n key s = refl

pub boxes-none : (fault : Fault) (left : ℕ) (key : Key) (s : Streams) → boxes_of fault left 0 key s ≡ Ok ([], s)
unfolding boxes_of
boxes-none fault zero key s = refl
boxes-none fault (suc left) key s = refl

pub boxes-one : (fault : Fault) (left : ℕ) (key : Key) (s : Streams) → boxes_of fault left 1 key s ≡ Ok ((key ++ first_bits left s.rest) ∷ [], after_rest left s)
unfolding boxes_of
boxes-one fault zero key s = ap (λ k. Ok (k ∷ [], s)) (sym (append-nil key))
boxes-one fault (suc left) key s = refl

pub boxes-more : (fault : Fault) (left n : ℕ) (key : Key) (s : Streams) → 2 ≤ n → split_bits_number (digits n) s ≤ n →
    boxes_of fault (suc left) n key s
    ≡ boxes_of fault left (split_bits_number (digits n) s) (key ++ false ∷ []) (behind_split_bits (digits n) s) >>= λ low.
    boxes_of fault left (n - split_bits_number (digits n) s) (key ++ true ∷ []) low.1 >>= keys_before low.0
unfolding boxes_of
boxes-more fault left n key s h k =
    cond-false (n == 0) _ _ (ne_eqb n 0 (λ e. absurd (omega (arith, e, h))))
    ∙ cond-false (n == 1) _ _ (ne_eqb n 1 (λ e. absurd (omega (arith, e, h))))
    ∙ cond-false (nat_lt n (split_bits_number (digits n) s)) _ _ (le-ltb n (split_bits_number (digits n) s) k)

pub boxes-refused : (fault : Fault) (left n : ℕ) (key : Key) (s : Streams) → 2 ≤ n → n < split_bits_number (digits n) s → boxes_of fault (suc left) n key s ≡ Err fault
unfolding boxes_of
boxes-refused fault left n key s h k =
    cond-false (n == 0) _ _ (ne_eqb n 0 (λ e. absurd (omega (arith, e, h))))
    ∙ cond-false (n == 1) _ _ (ne_eqb n 1 (λ e. absurd (omega (arith, e, h))))
    ∙ cond-true (nat_lt n (split_bits_number (digits n) s)) _ _ (lt-ltb n (split_bits_number (digits n) s) k)

-- ---- boxes that wait

-- boxes that wait look at the front of the path alone
pub same-waiting : (fault : Fault) (depth deep : ℕ) (path other : Key) (stack : List Pending) (keys : List Key) (s : Streams) → AreNested deep stack → take deep path ≡ take deep other →
    waiting fault depth path stack keys s ≡ waiting fault depth other stack keys s
same-waiting fault depth deep path other [] keys s nested same = refl
same-waiting fault depth deep path other (p ∷ rest) keys s nested same =
    let front : take p.depth path ≡ take p.depth other =
    sym (take-take p.depth deep path (omega (arith, nested.0))) ∙ ap (take p.depth) same ∙ take-take p.depth deep other (omega (arith, nested.0)) in
    ap (λ k. boxes_of fault (depth - (p.depth + 1)) p.count (k ++ true ∷ []) s >>= (λ x. waiting fault depth path rest (keys ++ x.0) x.1)) front
    ∙ then-same (boxes_of fault (depth - (p.depth + 1)) p.count (take p.depth other ++ true ∷ []) s) (λ x. waiting fault depth path rest (keys ++ x.0) x.1) (λ x. waiting fault depth other rest (keys ++ x.0) x.1)
    (λ x. same-waiting fault depth p.depth path other rest (keys ++ x.0) x.1 nested.1 front)

-- what is less deep than this is less deep than one more
pub deeper : (deep : ℕ) (stack : List Pending) → AreNested deep stack → AreNested (deep + 1) stack
deeper deep [] nested = tt
deeper deep (p ∷ rest) nested = (omega (arith, nested.0), nested.1)

-- down into the lower box
pub descends : (fault : Fault) (depth n : ℕ) (path : Key) (stack : List Pending) (keys : List Key) (s : Streams) → length path < depth → 2 ≤ n → split_bits_number (digits n) s ≤ n → AreNested (length path) stack →
    going fault depth n path stack keys s
    ≡ going fault depth (split_bits_number (digits n) s) (path ++ false ∷ []) (record { count = n - split_bits_number (digits n) s; depth = length path } ∷ stack) keys (behind_split_bits (digits n) s)
descends fault depth n path stack keys s deep many few nested =
    let left : ℕ = depth - (length path + 1) in
    let k : ℕ = split_bits_number (digits n) s in
    let low : Key = path ++ false ∷ [] in
    let high : Key = path ++ true ∷ [] in
    let t : Streams = behind_split_bits (digits n) s in
    let whole : boxes_of fault (depth - length path) n path s ≡ boxes_of fault left k low t >>= (λ x. boxes_of fault left (n - k) high x.1 >>= keys_before x.0) =
    ap (λ m. boxes_of fault m n path s) (let e : depth - length path ≡ suc left = omega (arith, deep) in e) ∙ boxes-more fault left n path s many few in
    let front : take (length path) low ≡ path = take_at path (false ∷ []) (length path) refl in
    let all : take (length path) path ≡ take (length path) low = take_all (length path) path (omega arith) ∙ sym front in
    let each : (x : List Key × Streams) → (boxes_of fault left (n - k) high x.1 >>= keys_before x.0) >>= (λ y. waiting fault depth path stack (keys ++ y.0) y.1)
    ≡ boxes_of fault left (n - k) (take (length path) low ++ true ∷ []) x.1 >>= (λ y. waiting fault depth low stack (keys ++ x.0 ++ y.0) y.1) =
    λ x. then-then (boxes_of fault left (n - k) high x.1) (keys_before x.0) (λ y. waiting fault depth path stack (keys ++ y.0) y.1)
    ∙ then-same (boxes_of fault left (n - k) high x.1) (λ y. waiting fault depth path stack (keys ++ (x.0 ++ y.0)) y.1) (λ y. waiting fault depth low stack (keys ++ x.0 ++ y.0) y.1)
    (λ y. same-waiting fault depth (length path) path low stack (keys ++ (x.0 ++ y.0)) y.1 nested all ∙ ap (λ ks. waiting fault depth low stack ks y.1) (sym (append_assoc keys x.0 y.0)))
    ∙ ap (λ p. boxes_of fault left (n - k) (p ++ true ∷ []) x.1 >>= (λ y. waiting fault depth low stack (keys ++ x.0 ++ y.0) y.1)) (sym front) in
    ap (λ r. r >>= (λ x. waiting fault depth path stack (keys ++ x.0) x.1)) whole
    ∙ then-then (boxes_of fault left k low t) (λ x. boxes_of fault left (n - k) high x.1 >>= keys_before x.0) (λ x. waiting fault depth path stack (keys ++ x.0) x.1)
    ∙ then-same (boxes_of fault left k low t) (λ x. (boxes_of fault left (n - k) high x.1 >>= keys_before x.0) >>= (λ y. waiting fault depth path stack (keys ++ y.0) y.1))
    (λ x. boxes_of fault left (n - k) (take (length path) low ++ true ∷ []) x.1 >>= (λ y. waiting fault depth low stack (keys ++ x.0 ++ y.0) y.1)) each
    ∙ ap (λ m. boxes_of fault m k low t >>= (λ x. waiting fault depth low (record { count = n - k; depth = length path } ∷ stack) (keys ++ x.0) x.1))
    (let e : left ≡ depth - length low = omega (arith, length_push path false) in e)

-- the next box
pub pops : (fault : Fault) (depth : ℕ) (path : Key) (p : Pending) (rest : List Pending) (keys : List Key) (s : Streams) → p.depth ≤ length path → AreNested p.depth rest →
    waiting fault depth path (p ∷ rest) keys s ≡ going fault depth p.count (take p.depth path ++ true ∷ []) rest keys s
pops fault depth path p rest keys s deep nested =
    let next : Key = take p.depth path ++ true ∷ [] in
    let long : length (take p.depth path) ≡ p.depth = length-take-le p.depth path deep in
    let front : take p.depth path ≡ take p.depth next = sym (take_at (take p.depth path) (true ∷ []) p.depth long) in
    then-same (boxes_of fault (depth - (p.depth + 1)) p.count next s) (λ x. waiting fault depth path rest (keys ++ x.0) x.1) (λ x. waiting fault depth next rest (keys ++ x.0) x.1)
    (λ x. same-waiting fault depth p.depth path next rest (keys ++ x.0) x.1 nested front)
    ∙ ap (λ m. boxes_of fault m p.count next s >>= (λ x. waiting fault depth next rest (keys ++ x.0) x.1)) (let e : depth - (p.depth + 1) ≡ depth - length next = omega (arith, length_push (take p.depth path) true, long) in e)

-- a taken box keeps what is due
pub taken-next : (fault : Fault) (depth : ℕ) (path : Key) (stack : List Pending) (after : Key) (rest : List Pending) (next : Option ℕ) (keys : List Key) (s : Streams) (deep : ℕ) →
    deep ≤ length path → deep ≤ depth → AreNested deep stack → IsTaken path stack after rest next → IsDueNext fault depth (waiting fault depth path stack keys s) after rest keys s next
taken-next fault depth path [] after rest next keys s deep most few nested taken =
    subst (IsDueNext fault depth (Ok (keys, s)) after rest keys s) (sym taken) refl
taken-next fault depth path (p ∷ stack) after rest next keys s deep most few nested taken =
    let long : length (take p.depth path ++ true ∷ []) ≡ p.depth + 1 = length_push (take p.depth path) true ∙ (let l = length-take-le p.depth path (omega (arith, nested.0, most)) in omega (arith, l)) in
    let at : IsDueNext fault depth (waiting fault depth path (p ∷ stack) keys s) (take p.depth path ++ true ∷ []) stack keys s (Some p.count) =
    (pops fault depth path p stack keys s (omega (arith, nested.0, most)) nested.1, omega (arith, long, nested.0, few), subst (λ n. AreNested n stack) (sym long) (deeper p.depth stack nested.1)) in
    subst (IsDueNext fault depth (waiting fault depth path (p ∷ stack) keys s) after rest keys s) (sym taken.0)
    (subst (λ k. IsDueNext fault depth (waiting fault depth path (p ∷ stack) keys s) k rest keys s (Some p.count)) (sym taken.1)
    (subst (λ r. IsDueNext fault depth (waiting fault depth path (p ∷ stack) keys s) (take p.depth path ++ true ∷ []) r keys s (Some p.count)) (sym taken.2) at))

-- the first box
pub begins : (fault : Fault) (depth n : ℕ) (s : Streams) → boxes_of fault depth n [] s ≡ going fault depth n [] [] [] s
begins fault depth n s = ap (λ m. boxes_of fault m n [] s) (let e : depth ≡ depth - 0 = omega arith in e) ∙ same (boxes_of fault (depth - 0) n [] s) where
  same : (x : Result (List Key × Streams) Fault) → x ≡ x >>= (λ y. Ok (y.0, y.1))
  same (Ok y) = refl
  same (Err e) = refl

-- a box of one key, or of equal ones, and then those that wait
pub single-ends : (fault : Fault) (depth : ℕ) (path : Key) (stack : List Pending) (keys : List Key) (s : Streams) →
    going fault depth 1 path stack keys s ≡ waiting fault depth path stack (keys ++ (path ++ first_bits (depth - length path) s.rest) ∷ []) (after_rest (depth - length path) s)
single-ends fault depth path stack keys s =
    ap (λ r. r >>= (λ x. waiting fault depth path stack (keys ++ x.0) x.1)) (boxes-one fault (depth - length path) path s)

pub copies-end : (fault : Fault) (depth n : ℕ) (path : Key) (stack : List Pending) (keys : List Key) (s : Streams) → length path ≤ depth → (2 ≤ n → length path ≡ depth) → (n ≡ 1 → ⊥) →
    going fault depth n path stack keys s ≡ waiting fault depth path stack (keys ++ replicate n path) s
copies-end fault depth zero path stack keys s deep leaf many =
    ap (λ r. r >>= (λ x. waiting fault depth path stack (keys ++ x.0) x.1)) (boxes-none fault (depth - length path) path s)
copies-end fault depth (suc n) path stack keys s deep leaf many =
    let last : depth - length path ≡ 0 = let more : 2 ≤ suc n = (let some : n ≢ 0 = (λ e. many (ap suc e)) in omega (arith, some)) in let e = leaf more in omega (arith, e) in
    ap (λ m. boxes_of fault m (suc n) path s >>= (λ x. waiting fault depth path stack (keys ++ x.0) x.1)) last
    ∙ ap (λ r. r >>= (λ x. waiting fault depth path stack (keys ++ x.0) x.1)) (boxes-last fault (suc n) path s)

-- a taken box leaves fewer turns
pub taken-fewer : (depth before : ℕ) (path : Key) (stack : List Pending) (after : Key) (rest : List Pending) (next : Option ℕ) (deep : ℕ) → deep ≤ length path → AreNested deep stack → 0 < before → IsTaken path stack after rest next →
    turns_left depth after rest next < before + nodes_waiting depth stack
taken-fewer depth before path [] after rest next deep most nested some taken =
    subst (λ n. turns_left depth after rest n < before + 0) (sym taken) (omega (arith, some))
taken-fewer depth before path (p ∷ stack) after rest next deep most nested some taken =
    let long : length (take p.depth path ++ true ∷ []) ≡ p.depth + 1 = length_push (take p.depth path) true ∙ (let l = length-take-le p.depth path (omega (arith, nested.0, most)) in omega (arith, l)) in
    let whole : ℕ = before + (nodes (depth - (p.depth + 1)) + nodes_waiting depth stack) in
    let at : turns_left depth (take p.depth path ++ true ∷ []) stack (Some p.count) < whole =
    subst (λ n. nodes (depth - n) + nodes_waiting depth stack < whole) (sym long) (omega (arith, some)) in
    subst (λ n. turns_left depth after rest n < whole) (sym taken.0)
    (subst (λ k. turns_left depth k rest (Some p.count) < whole) (sym taken.1)
    (subst (λ r. turns_left depth (take p.depth path ++ true ∷ []) r (Some p.count) < whole) (sym taken.2) at))

-- fewer turns are left in the lower box
pub descends-fewer : (depth n k : ℕ) (path : Key) (stack : List Pending) → length path < depth →
    nodes (depth - length (path ++ false ∷ [])) + nodes_waiting depth (record { count = n; depth = length path } ∷ stack) < nodes (depth - length path) + nodes_waiting depth stack
descends-fewer depth n k path stack deep =
    let left : ℕ = depth - (length path + 1) in
    let long : depth - length (path ++ false ∷ []) ≡ left = omega (arith, length_push path false) in
    let two : nodes (depth - length path) ≡ nodes left + nodes left + 1 = nodes-two (depth - length path) left (omega (arith, deep)) in
    let same : nodes (depth - length (path ++ false ∷ [])) ≡ nodes left = ap nodes long in
    omega (arith, two, same)

-- the fault is due
pub refuses : (fault : Fault) (depth n : ℕ) (path : Key) (stack : List Pending) (keys : List Key) (s : Streams) → length path < depth → 2 ≤ n → n < split_bits_number (digits n) s → going fault depth n path stack keys s ≡ Err fault
refuses fault depth n path stack keys s deep many most =
    ap (λ r. r >>= (λ x. waiting fault depth path stack (keys ++ x.0) x.1))
    (ap (λ m. boxes_of fault m n path s) (let e : depth - length path ≡ suc (depth - length path - 1) = omega (arith, deep) in e) ∙ boxes-refused fault (depth - length path - 1) n path s many most)

pub refused-turned : (fault : Fault) (depth n : ℕ) (path : Key) (stack : List Pending) (keys : List Key) (s : Streams) (e : Refusal) → length path < depth → 2 ≤ n → IsBoxRefused fault n (split_bits_number (digits n) s) e →
    Refuses (going fault depth n path stack keys s) e
refused-turned fault depth n path stack keys s (refusal.Fault f) deep many h = refuses fault depth n path stack keys s deep many h.1 ∙ ap (λ (x : Fault). Err x) (sym h.0)
refused-turned fault depth n path stack keys s refusal.Memory deep many h = tt

-- going down is a turn
pub descended-turned : (fault : Fault) (depth n : ℕ) (path : Key) (stack : List Pending) (keys : List Key) (split rest : Block) (split' : Block) (path' : Key) (stack' : List Pending) (r : Result (Option ℕ) Refusal) →
    length path < depth → 2 ≤ n → AreNested (length path) stack → IsDescended fault n split path stack split' path' stack' r →
    IsTurned fault depth (going fault depth n path stack keys (record { split = split; rest = rest })) path' stack' keys (record { split = split'; rest = rest }) r
descended-turned fault depth n path stack keys split rest split' path' stack' (Ok next) deep many nested h =
    let s : Streams = record { split = split; rest = rest } in
    let k : ℕ = low_count n split in
    let low : Key = path ++ false ∷ [] in
    let p : Pending = record { count = n - k; depth = length path } in
    let long : length low ≡ length path + 1 = length_push path false in
    let due : Result (List Key × Streams) Fault = going fault depth n path stack keys s in
    let at : IsDueNext fault depth due low (p ∷ stack) keys (behind_split_bits (digits n) s) (Some k) =
    (descends fault depth n path stack keys s deep many h.0 nested, omega (arith, long, deep), (omega (arith, long), nested)) in
    subst (IsDueNext fault depth due path' stack' keys (record { split = split'; rest = rest })) (sym h.1)
    (subst (λ (b : Block). IsDueNext fault depth due path' stack' keys (record { split = b; rest = rest }) (Some k)) (sym h.2)
    (subst (λ x. IsDueNext fault depth due x stack' keys (behind_split_bits (digits n) s) (Some k)) (sym h.3)
    (subst (λ x. IsDueNext fault depth due low x keys (behind_split_bits (digits n) s) (Some k)) (sym h.4) at)))
descended-turned fault depth n path stack keys split rest split' path' stack' (Err e) deep many nested h =
    refused-turned fault depth n path stack keys (record { split = split; rest = rest }) e deep many h

pub descended-fewer : (fault : Fault) (depth n : ℕ) (path : Key) (stack : List Pending) (split : Block) (split' : Block) (path' : Key) (stack' : List Pending) (r : Result (Option ℕ) Refusal) →
    length path < depth → IsDescended fault n split path stack split' path' stack' r → IsFewer (nodes (depth - length path) + nodes_waiting depth stack) depth path' stack' r
descended-fewer fault depth n path stack split split' path' stack' (Ok next) deep h =
    let k : ℕ = low_count n split in
    let before : ℕ = nodes (depth - length path) + nodes_waiting depth stack in
    let at = descends-fewer depth (n - k) k path stack deep in
    subst (λ x. turns_left depth path' stack' x < before) (sym h.1)
    (subst (λ x. turns_left depth x stack' (Some k) < before) (sym h.3)
    (subst (λ x. turns_left depth (path ++ false ∷ []) x (Some k) < before) (sym h.4) at))
descended-fewer fault depth n path stack split split' path' stack' (Err e) deep h = tt

-- before the first turn
pub begins-next : (fault : Fault) (depth n : ℕ) (s : Streams) (path : Key) (stack : List Pending) (out : KeyRows) → path ≡ [] → stack ≡ [] → out ≡ record { depth = depth; rows = [] } →
    IsDueNext fault depth (boxes_of fault depth n [] s) path (reverse stack) out.rows s (Some n)
begins-next fault depth n s path stack out no_path no_stack no_keys =
    let due : Result (List Key × Streams) Fault = boxes_of fault depth n [] s in
    let at : IsDueNext fault depth due [] [] [] s (Some n) = (begins fault depth n s, omega arith, tt) in
    subst (λ p. IsDueNext fault depth due p (reverse stack) out.rows s (Some n)) (sym no_path)
    (subst (λ (st : List Pending). IsDueNext fault depth due [] (reverse st) out.rows s (Some n)) (sym no_stack)
    (subst (λ (k : KeyRows). IsDueNext fault depth due [] [] k.rows s (Some n)) (sym no_keys) at))
