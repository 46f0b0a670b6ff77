-- As many keys are read as a tree has.
use Rattle.std.proofs.Common.{◌≡◌, ℕ, zero, suc, ◌-◌, ◌==◌, Bool, true, false, nat_lt, List, [], ◌∷◌, ◌++◌, length, replicate, Result, Ok, Err, refl, sym, arith, ltb-false, length-append}
use Rattle.std.specs.Prelude.{if◌then◌else◌}
use Rattle.std.proofs.lemmas.Bool.{eqb-true}
use Rattle.std.proofs.lemmas.List.{length-replicate}
use Rattle.drc_base.specs.declared.faults.Fault.{Fault}
use Rattle.drc_base.specs.Steps.{◌>>=◌}
use Rattle.drc_base.proofs.Parted.{given, parts, either}
use Rattle.drc_bits.proofs.Results.{err≢ok}
use Rattle.rans_binary.specs.Blocks.{first_bits}
use Rattle.kd_tree.specs.Keys.{Key}
use Rattle.drc_bits.specs.Digits.{digits}
use Rattle.kd_tree.specs.Reading.{Streams, after_rest, behind_split_bits, boxes_of, keys_before, split_bits_number}

-- a test that would have refused fails
kept : {A : Type 0} (b : Bool) (f : Fault) (r : Result A Fault) (y : A) → (if b then Err f else r) ≡ Ok y → (b ≡ false) × (r ≡ Ok y)
kept true f r y is = absurd (err≢ok is)
kept false f r y is = (refl, is)

pub boxes_counted : (fault : Fault) (left n : ℕ) (key : Key) (s : Streams) (y : List Key × Streams) → boxes_of fault left n key s ≡ Ok y → length y.0 ≡ n
unfolding boxes_of
boxes_counted fault zero n key s y is = given (λ (z : List Key × Streams). length z.0 ≡ n) (replicate n key, s) y is (length-replicate n key)
boxes_counted fault (suc left) n key s y is =
    let k = split_bits_number (digits n) s in
    let P : Type 0 = length y.0 ≡ n in
    let one : List Key = (key ++ first_bits (suc left) s.rest) ∷ [] in
    let more : Result (List Key × Streams) Fault =
    boxes_of fault left k (key ++ false ∷ []) (behind_split_bits (digits n) s) >>= λ low.
    boxes_of fault left (n - k) (key ++ true ∷ []) low.1 >>= keys_before low.0 in
    let several : Result (List Key × Streams) Fault = if nat_lt n k then Err fault else more in
    either P (n == 0) (Ok ([], s)) (if n == 1 then Ok (one, after_rest (suc left) s) else several) y is
    (λ none read. given (λ (z : List Key × Streams). length z.0 ≡ n) ([], s) y read (sym (eqb-true n 0 none)))
    (λ some rest.
    either P (n == 1) (Ok (one, after_rest (suc left) s)) several y rest
    (λ single read. given (λ (z : List Key × Streams). length z.0 ≡ n) (one, after_rest (suc left) s) y read (sym (eqb-true n 1 single)))
    (λ many read.
    let within = kept (nat_lt n k) fault more y read in
    let p = parts (boxes_of fault left k (key ++ false ∷ []) (behind_split_bits (digits n) s)) _ y within.1 in
    let q = parts (boxes_of fault left (n - k) (key ++ true ∷ []) p.0.1) (keys_before p.0.0) y p.2 in
    let low = boxes_counted fault left k (key ++ false ∷ []) (behind_split_bits (digits n) s) p.0 p.1 in
    let high = boxes_counted fault left (n - k) (key ++ true ∷ []) p.0.1 q.0 q.1 in
    given (λ (z : List Key × Streams). length z.0 ≡ n) (p.0.0 ++ q.0.0, q.0.1) y q.2
    (omega (arith, length-append p.0.0 q.0.0, low, high, ltb-false n k within.0))))
