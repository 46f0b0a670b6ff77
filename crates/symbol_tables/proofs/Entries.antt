-- Reading probabilities entry by entry.
use Rattle.std.proofs.Common.{◌≡◌, ◌≢◌, ◌⊎◌, ℕ, zero, suc, ◌+◌, ◌-◌, ◌*◌, ◌/◌, ◌%◌, ◌^◌, ◌<◌, ◌≤◌, ◌==◌, nat_le, nat_lt, true, List, [], ◌∷◌, ◌++◌, length, replicate, sum, Ok, Err, refl, sym, ◌∙◌, ap, subst, inl, inr, append_assoc, arith, add-one, le-leb, leb-true, lt-ltb, length-append, eq-eqb}
use Rattle.std.proofs.lemmas.Bool.{cases_Bool, cond-true, cond-false, eqb-false, eqb-true}
use Rattle.std.proofs.lemmas.List.{length-replicate}
use Rattle.drc_base.specs.declared.faults.Fault.{Fault}
use Rattle.drc_base.specs.declared.kinds.Kind.TheVariants as kind
use Rattle.drc_base.specs.Steps.{◌>>=◌}
use Rattle.drc_base.specs.declared.limits.TheConstants.{MAX_TABLE_SYMBOLS}
use Rattle.drc_bits.specs.Reading.{Reading, Item, many_at, must}
use Rattle.drc_bits.specs.Numbers.{little_endian, number_at}
use Rattle.drc_bits.specs.Spells.{Spells}
use Rattle.drc_bits.specs.Varint.{var32_at}
use Rattle.drc_bits.proofs.Results.{Ok-injective, err≢ok}
use Rattle.drc_bits.proofs.Spelled.{Spells-must}
use Rattle.drc_bits.proofs.Written.{reading, number_at-byte}
use Rattle.symbol_tables.specs.Tables.{count_at, prob_at, probs_at, long_at, run_at, table_at}
use Rattle.symbol_tables.specs.Spellings.{Entry, slots, zeros, IsEntry, entry_bytes, entry_probs, probs_of, bytes_of, AreEntries, IsTold}
use Rattle.symbol_tables.proofs.Spelling.{prob_at-item, prob_at-zeros}

-- these probabilities in front of others
abbrev pub in_front : List ℕ → Item (List ℕ) → Item (List ℕ)
in_front front item = item >>= λ xs. Ok (front ++ xs.0, xs.1)

in_front-nil : (item : Item (List ℕ)) → item ≡ in_front [] item
in_front-nil (Ok x) = refl
in_front-nil (Err f) = refl

in_front-cons : (p : ℕ) (front : List ℕ) (item : Item (List ℕ)) → (in_front front item >>= λ xs. Ok (p ∷ xs.0, xs.1)) ≡ in_front (p ∷ front) item
in_front-cons p front (Ok x) = refl
in_front-cons p front (Err f) = refl

-- a run that goes on is so many zeros
run-zeros : (run n : ℕ) (c : Reading) → probs_at (run + n) run c ≡ in_front (replicate run 0) (probs_at n 0 c)
unfolding probs_at
run-zeros zero n c = ap (λ k. probs_at k 0 c) (let e : 0 + n ≡ n = omega arith in e) ∙ in_front-nil (probs_at n 0 c)
run-zeros (suc run) n c =
    let step : suc run + n ≡ suc (run + n) = omega arith in
    ap (λ k. probs_at k (suc run) c) step
    ∙ ap (λ r. r >>= λ xs. Ok (0 ∷ xs.0, xs.1)) (run-zeros run n c)
    ∙ in_front-cons 0 (replicate run 0) (probs_at n 0 c)

-- bytes, each an item of its own
each-byte : (place : ℕ) (bytes rest : List ℕ) → many_at (number_at 1) (length bytes) (reading place (bytes ++ rest)) ≡ Ok (bytes, reading (place + length bytes) rest)
unfolding many_at
each-byte place [] rest = ap (λ n. Ok ([], reading n rest)) (let e : place ≡ place + 0 = omega arith in e)
each-byte place (b ∷ bytes) rest =
    rw (number_at-byte place b (bytes ++ rest), each-byte (place + 1) bytes rest)
    (ap (λ n. Ok (b ∷ bytes, reading n rest)) (let e : place + 1 + length bytes ≡ place + suc (length bytes) = omega arith in e))

-- ---- one entry

-- an entry is read, then the symbols behind it
pub entry-reads : (e : Entry) (n place : ℕ) (rest : List ℕ) → IsEntry e →
    probs_at (length (entry_probs e) + n) 0 (reading place (entry_bytes e ++ rest))
    ≡ in_front (entry_probs e) (probs_at n 0 (reading (place + length (entry_bytes e)) rest))
unfolding probs_at
entry-reads (slots low above) n place rest is =
    let p : ℕ = low + 64 * little_endian above in
    let b : ℕ = 4 * low + length above in
    let c : Reading = reading place ((b ∷ above) ++ rest) in
    let long : long_at low (length above) (reading (place + 1) (above ++ rest)) ≡ Ok ((p, 0), reading (place + 1 + length above) rest) =
    ap (λ r. r >>= λ xs. Ok ((low + 64 * little_endian xs.0, 0), xs.1)) (each-byte (place + 1) above rest) in
    let first : prob_at n 0 c ≡ Ok ((p, 0), reading (place + 1 + length above) rest) =
    prob_at-item n place b low (length above) (above ++ rest) refl (omega (arith, is)) ∙ long in
    ap (λ k. probs_at k 0 c) (let e : 1 + n ≡ suc n = omega arith in e)
    ∙ ap (λ r. r >>= λ x. probs_at n x.0.1 x.1 >>= λ xs. Ok (x.0.0 ∷ xs.0, xs.1)) first
    ∙ ap (λ k. in_front (p ∷ []) (probs_at n 0 (reading k rest))) (let e : place + 1 + length above ≡ place + suc (length above) = omega arith in e)
entry-reads (zeros m) n place rest is =
    let c : Reading = reading place ((4 * m + 3) ∷ rest) in
    let first : prob_at (m + n) 0 c ≡ Ok ((0, m), reading (place + 1) rest) = prob_at-zeros (m + n) place m rest (omega arith) in
    let l : length {A = ℕ} (replicate (m + 1) 0) ≡ m + 1 = length-replicate (m + 1) 0 in
    ap (λ k. probs_at k 0 c) (let e : length {A = ℕ} (replicate (m + 1) 0) + n ≡ suc (m + n) = omega (arith, l) in e)
    ∙ ap (λ r. r >>= λ x. probs_at (m + n) x.0.1 x.1 >>= λ xs. Ok (x.0.0 ∷ xs.0, xs.1)) first
    ∙ ap (λ r. r >>= λ xs. Ok (0 ∷ xs.0, xs.1)) (run-zeros m n (reading (place + 1) rest))
    ∙ in_front-cons 0 (replicate m 0) (probs_at n 0 (reading (place + 1) rest))
    ∙ ap (λ k. in_front k (probs_at n 0 (reading (place + 1) rest))) (ap (λ k. replicate k 0) (sym (add-one m)))

-- ---- every spelling

-- the probabilities of entries are read from their bytes, whatever follows these
pub entries-Spells : (entries : List Entry) → AreEntries entries → Spells (probs_at (length (probs_of entries)) 0) (bytes_of entries) (probs_of entries)
unfolding probs_at
entries-Spells [] are = record { reads = λ place rest. ap (λ n. Ok ([], reading n rest)) (let e : place ≡ place + 0 = omega arith in e) }
entries-Spells (e ∷ entries) are =
    let front : List ℕ = entry_probs e in
    let probs : List ℕ = probs_of entries in
    let text : List ℕ = entry_bytes e in
    let bytes : List ℕ = bytes_of entries in record {
      reads = λ place rest.
          ap (λ n. probs_at n 0 (reading place ((text ++ bytes) ++ rest))) (length-append front probs)
          ∙ ap (λ xs. probs_at (length front + length probs) 0 (reading place xs)) (append_assoc text bytes rest)
          ∙ entry-reads e (length probs) place (bytes ++ rest) are.0
          ∙ ap (in_front front) ((entries-Spells entries are.1).reads (place + length text) rest)
          ∙ ap (λ n. Ok (front ++ probs, reading n rest))
          (let l = length-append text bytes in let a : place + length text + length bytes ≡ place + length (text ++ bytes) = omega (arith, l) in a);
    }

-- ---- nothing else

-- a value or a fault
item_cases : {A : Type 0} (r : Item A) → ((x : A × Reading) × (r ≡ Ok x)) ⊎ ((f : Fault) × (r ≡ Err f))
item_cases (Ok x) = inl (x, refl)
item_cases (Err f) = inr (f, refl)

-- this number in front of others
abbrev with_first : ℕ → Item (List ℕ) → Item (List ℕ)
with_first b item = item >>= λ ys. Ok (b ∷ ys.0, ys.1)

-- what a list with one more number in front comes from
tail_of : (b : ℕ) (r : Item (List ℕ)) (xs : List ℕ) (d : Reading) → with_first b r ≡ Ok (xs, d) → (ys : List ℕ) × (r ≡ Ok (ys, d)) × (xs ≡ b ∷ ys)
tail_of b (Ok y) xs d is =
    let e : ◌≡◌ {A = List ℕ × Reading} (b ∷ y.0, y.1) (xs, d) = Ok-injective is in
    (y.0, ap (λ (z : List ℕ × Reading). Ok (y.0, z.1)) e, sym (ap (λ (z : List ℕ × Reading). z.0) e))
tail_of b (Err f) xs d is = absurd (err≢ok is)

-- n bytes that were read are the next ones
bytes-read : (n place : ℕ) (rest xs : List ℕ) (d : Reading) → many_at (number_at 1) n (reading place rest) ≡ Ok (xs, d)
    → (length xs ≡ n) × (rest ≡ xs ++ d.rest) × (d.place ≡ place + length xs)
unfolding many_at
bytes-read zero place rest xs d is =
    let e : ◌≡◌ {A = List ℕ × Reading} ([], reading place rest) (xs, d) = Ok-injective is in
    let none : [] ≡ xs = ap (λ (z : List ℕ × Reading). z.0) e in
    let same : reading place rest ≡ d = ap (λ (z : List ℕ × Reading). z.1) e in
    let l : 0 ≡ length xs = ap (λ (ys : List ℕ). length ys) none in
    let at : place ≡ d.place = ap (λ (c : Reading). c.place) same in (
      sym l,
      ap (λ (c : Reading). c.rest) same ∙ ap (λ ys. ys ++ d.rest) none,
      omega (arith, l, at),
    )
bytes-read (suc n) place [] xs d is = absurd (err≢ok is)
bytes-read (suc n) place (b ∷ rest) xs d is =
    let first : with_first b (many_at (number_at 1) n (reading (place + 1) rest)) ≡ Ok (xs, d) =
    sym (ap (λ r. r >>= λ x. many_at (number_at 1) n x.1 >>= λ ys. Ok (x.0 ∷ ys.0, ys.1)) (number_at-byte place b rest)) ∙ is in
    let t = tail_of b (many_at (number_at 1) n (reading (place + 1) rest)) xs d first in
    let ys : List ℕ = t.0 in
    let more = bytes-read n (place + 1) rest ys d t.1 in
    let l : length xs ≡ suc (length ys) = ap (λ (zs : List ℕ). length zs) t.2 in (
      omega (arith, l, more.0),
      ap (λ zs. b ∷ zs) more.1 ∙ ap (λ zs. zs ++ d.rest) (sym t.2),
      omega (arith, l, more.2),
    )

-- what holds of a reading behind an entry holds of the reading in front of it
told-step : (e : Entry) (n place : ℕ) (rest : List ℕ) (r : Item (List ℕ)) → IsEntry e → IsTold n (reading (place + length (entry_bytes e)) rest) r
    → IsTold (length (entry_probs e) + n) (reading place (entry_bytes e ++ rest)) (in_front (entry_probs e) r)
told-step e n place rest (Ok x) is told =
    let l = length-append (entry_probs e) x.0 in
    let k = length-append (entry_bytes e) (bytes_of told.entries) in record {
      entries = e ∷ told.entries;
      are = (is, told.are);
      probs_are = ap (λ xs. entry_probs e ++ xs) told.probs_are;
      count = omega (arith, l, told.count);
      bytes = ap (λ xs. entry_bytes e ++ xs) told.bytes ∙ sym (append_assoc (entry_bytes e) (bytes_of told.entries) x.1.rest);
      place = omega (arith, k, told.place);
    }
told-step e n place rest (Err f) is told =
    let l = length-append (entry_probs e) (probs_of told.entries) in
    let k = length-append (entry_bytes e) (bytes_of told.entries) in
    let same : length (entry_probs e) + n - length (entry_probs e ++ probs_of told.entries) - 1 ≡ n - length (probs_of told.entries) - 1 = omega (arith, l) in record {
      entries = e ∷ told.entries;
      are = (is, told.are);
      few = omega (arith, l, told.few);
      behind = told.behind;
      bytes = ap (λ xs. entry_bytes e ++ xs) told.bytes ∙ sym (append_assoc (entry_bytes e) (bytes_of told.entries) told.behind.rest);
      place = omega (arith, k, told.place);
      stops = ap (λ m. prob_at m 0 told.behind) same ∙ told.stops;
    }

-- what reading n probabilities at a place answers is true
abbrev TrulyTold : ℕ → ℕ → List ℕ → Type 0
TrulyTold n place bytes = IsTold n (reading place bytes) (probs_at n 0 (reading place bytes))

-- no entry is there
told-fault : (n place : ℕ) (bytes : List ℕ) (f : Fault) → prob_at n 0 (reading place bytes) ≡ Err f → TrulyTold (suc n) place bytes
unfolding probs_at
told-fault n place bytes f is =
    let same : suc n - 0 - 1 ≡ n = omega arith in
    subst (λ r. IsTold (suc n) (reading place bytes) r) (sym (ap (λ r. r >>= λ x. probs_at n x.0.1 x.1 >>= λ xs. Ok (x.0.0 ∷ xs.0, xs.1)) is)) (record {
      entries = [];
      are = tt;
      few = omega arith;
      behind = reading place bytes;
      bytes = refl;
      place = omega arith;
      stops = ap (λ m. prob_at m 0 (reading place bytes)) same ∙ is;
    })

-- an entry is there
told-entry : (e : Entry) (n n' place : ℕ) (bytes rest : List ℕ) → IsEntry e → n' ≡ length (entry_probs e) + n → bytes ≡ entry_bytes e ++ rest
    → TrulyTold n (place + length (entry_bytes e)) rest → TrulyTold n' place bytes
told-entry e n n' place bytes rest is count text told =
    subst (λ m. TrulyTold m place bytes) (sym count) (subst (λ xs. TrulyTold (length (entry_probs e) + n) place xs) (sym text)
    (subst (λ r. IsTold (length (entry_probs e) + n) (reading place (entry_bytes e ++ rest)) r) (sym (entry-reads e n place rest is))
    (told-step e n place rest (probs_at n 0 (reading (place + length (entry_bytes e)) rest)) is told)))

told-none : (place : ℕ) (bytes : List ℕ) → TrulyTold 0 place bytes
unfolding probs_at
told-none place bytes = record { entries = []; are = tt; probs_are = refl; count = refl; bytes = refl; place = omega arith }

-- what is read are the probabilities of entries, or the first fault behind entries
pub all-told : (fuel n place : ℕ) (bytes : List ℕ) → n ≤ fuel → TrulyTold n place bytes
unfolding probs_at
all-told fuel zero place bytes h = told-none place bytes
all-told zero (suc n) place bytes h = absurd (omega (arith, h))
all-told (suc fuel) (suc n) place [] h = told-fault n place [] (record { kind = kind.Short; at = place }) refl
all-told (suc fuel) (suc n) place (b ∷ rest) h =
    let c : Reading = reading place (b ∷ rest) in
    let after : Reading = reading (place + 1) rest in
    let byte = number_at-byte place b rest in
    elim (cases_Bool (b % 4 == 3)) [
      | inl run ↦
          let m : ℕ = b / 4 in
          let token : b % 4 ≡ 3 = eqb-true (b % 4) 3 run in
          let is : prob_at n 0 c ≡ run_at n m c after = rw byte (cond-true _ _ _ run) in
          elim (cases_Bool (nat_le m n)) [
            | inl fits ↦
                let few : m ≤ n = leb-true m n fits in
                let l : length {A = ℕ} (replicate (m + 1) 0) ≡ m + 1 = length-replicate (m + 1) 0 in
                told-entry (zeros m) (n - m) (suc n) place (b ∷ rest) rest tt (omega (arith, l, few)) (ap (λ x. x ∷ rest) (let e : b ≡ 4 * m + 3 = omega (arith, token) in e))
                (all-told fuel (n - m) (place + 1) rest (omega (arith, h)))
            | inr passes ↦ told-fault n place (b ∷ rest) (record { kind = kind.Run; at = place }) (is ∙ cond-false _ _ _ passes)
          ]
      | inr own ↦
          let t : ℕ = b % 4 in
          let small : t ≤ 2 = let other : b % 4 ≢ 3 = eqb-false (b % 4) 3 own in omega (arith, other) in
          let is : prob_at n 0 c ≡ long_at (b / 4) t after = rw byte (cond-false _ _ _ own) in
          elim (item_cases (many_at (number_at 1) t after)) [
            | inl read ↦
                let xs : List ℕ = read.0.0 in
                let d : Reading = read.0.1 in
                let are = bytes-read t (place + 1) rest xs d read.1 in
                let first : b ≡ 4 * (b / 4) + length xs = omega (arith, are.0) in
                told-entry (slots (b / 4) xs) n (suc n) place (b ∷ rest) d.rest (omega (arith, are.0, small)) (omega arith)
                (ap (λ x. x ∷ rest) first ∙ ap (λ ys. (4 * (b / 4) + length xs) ∷ ys) are.1)
                (all-told fuel n (place + suc (length xs)) d.rest (omega (arith, h)))
            | inr fault ↦ told-fault n place (b ∷ rest) fault.0 (is ∙ ap (λ r. r >>= λ xs. Ok ((b / 4 + 64 * little_endian xs.0, 0), xs.1)) fault.1)
          ]
    ]

pub told : (n : ℕ) (c : Reading) → IsTold n c (probs_at n 0 c)
told n c = all-told n n c.place c.rest (omega arith)

-- ---- whole tables

pub table-Spells : (bits : ℕ) (text : List ℕ) (entries : List Entry) → AreEntries entries → 0 < length (probs_of entries)
    → length (probs_of entries) ≤ MAX_TABLE_SYMBOLS → sum (probs_of entries) ≡ 2 ^ bits → Spells var32_at text (length (probs_of entries))
    → Spells (table_at bits) (text ++ bytes_of entries) (probs_of entries)
unfolding table_at
table-Spells bits text entries are some few whole number =
    let probs : List ℕ = probs_of entries in
    let bytes : List ℕ = bytes_of entries in
    let full : (sum probs == 2 ^ bits) ≡ true = eq-eqb (sum probs) (2 ^ bits) whole in
    let enough : nat_lt 0 (length probs) ≡ true = lt-ltb 0 (length probs) some in
    let within : nat_le (length probs) MAX_TABLE_SYMBOLS ≡ true = le-leb (length probs) MAX_TABLE_SYMBOLS few in
    let count : Spells count_at text (length probs) =
    Spells-must kind.EmptyTable (λ n. nat_lt 0 n) (must kind.TableLimit (λ n. nat_le n MAX_TABLE_SYMBOLS) var32_at) text (length probs) enough
    (Spells-must kind.TableLimit (λ n. nat_le n MAX_TABLE_SYMBOLS) var32_at text (length probs) within number) in record {
      reads = λ place rest.
          let l = length-append text bytes in
          ap (λ xs. table_at bits (reading place xs)) (append_assoc text bytes rest)
          ∙ rw (count.reads place (bytes ++ rest), (entries-Spells entries are).reads (place + length text) rest)
          (cond-true _ _ _ full ∙ ap (λ n. Ok (probs, reading n rest)) (let e : place + length text + length bytes ≡ place + length (text ++ bytes) = omega (arith, l) in e));
    }
