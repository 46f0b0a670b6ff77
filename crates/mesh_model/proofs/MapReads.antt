-- Rows that are read one after another.
use Rattle.std.proofs.Common.{◌≡◌, ℕ, suc, ◌+◌, ◌-◌, ◌<◌, ◌≤◌, List, [], ◌∷◌, ◌++◌, Some, None, Result, Ok, Err, refl, sym, ap, ◌∙◌, append_assoc, append-nil, arith}
use Rattle.drc_base.specs.declared.faults.Fault.{Fault}
use Rattle.drc_base.specs.declared.kinds.Kind.TheVariants.{MapForm}
use Rattle.drc_base.specs.Steps.{◌>>=◌}
use Rattle.mesh_model.specs.MapRead.{map_row_at, rows_at}
use Rattle.mesh_model.specs.Same.{Rows}

-- these rows in front of those that are read
abbrev pub with_front : Rows → Result (Rows × List ℕ) Fault → Result (Rows × List ℕ) Fault
with_front front read = read >>= λ rows. Ok (front ++ rows.0, rows.1)

with_front-nil : (read : Result (Rows × List ℕ) Fault) → with_front [] read ≡ read
with_front-nil (Ok x) = refl
with_front-nil (Err f) = refl

with_front-cons : (front : Rows) (row : ℕ × ℕ) (read : Result (Rows × List ℕ) Fault) → with_front front (read >>= λ rows. Ok (row ∷ rows.0, rows.1)) ≡ with_front (front ++ row ∷ []) read
with_front-cons front row (Ok rows) = ap (λ (l : Rows). Ok (l, rows.1)) (sym (append_assoc front (row ∷ []) rows.0))
with_front-cons front row (Err f) = refl

one_fewer : (n k : ℕ) → k < n → n - k ≡ suc (n - (k + 1))
one_fewer n k fits = omega arith

-- no row is read yet
pub rows-begun : (n line : ℕ) (text : List ℕ) → with_front [] (rows_at (n - 0) (0 + line) text) ≡ rows_at n line text
rows-begun n line text =
    let none : n - 0 ≡ n = omega arith in
    let first : 0 + line ≡ line = omega arith in
    rw (none, first) (with_front-nil (rows_at n line text))

-- one more row was read
pub rows-next : (n k line : ℕ) (text rest : List ℕ) (front : Rows) (row : ℕ × ℕ) (whole : Result (Rows × List ℕ) Fault)
    → with_front front (rows_at (n - k) (k + line) text) ≡ whole → k < n → map_row_at text ≡ Some (row, rest)
    → with_front (front ++ row ∷ []) (rows_at (n - (k + 1)) (k + 1 + line) rest) ≡ whole
unfolding rows_at
rows-next n k line text rest front row whole so fits is =
    let behind : k + 1 + line ≡ k + line + 1 = omega arith in
    sym (with_front-cons front row (rows_at (n - (k + 1)) (k + 1 + line) rest))
    ∙ (rw (one_fewer n k fits, is, behind) refl)
    ∙ so

-- the next line is none of a row
pub rows-fault : (n k line : ℕ) (text : List ℕ) (front : Rows) (whole : Result (Rows × List ℕ) Fault)
    → with_front front (rows_at (n - k) (k + line) text) ≡ whole → k < n → map_row_at text ≡ None
    → whole ≡ Err (record { kind = MapForm; at = k + line })
unfolding rows_at
rows-fault n k line text front whole so fits is = sym so ∙ rw (one_fewer n k fits, is) refl

-- each row was read
pub rows-end : (n k line : ℕ) (text : List ℕ) (front : Rows) (whole : Result (Rows × List ℕ) Fault)
    → with_front front (rows_at (n - k) (k + line) text) ≡ whole → n ≤ k → whole ≡ Ok (front, text)
unfolding rows_at
rows-end n k line text front whole so past =
    let none : n - k ≡ 0 = omega arith in
    sym so ∙ rw none (ap (λ (l : Rows). Ok (l, text)) (append-nil front))
