-- The points of rows, with one more row.
use Rattle.std.proofs.Common.{◌≡◌, ◌≢◌, ℕ, zero, suc, ◌+◌, ◌-◌, ◌<◌, ◌≤◌, true, false, cond, List, [], ◌∷◌, ◌++◌, length, get_or, set, take, ℤ, refl, sym, ap, ◌∙◌, subst, inl, inr, add-one, arith}
use Rattle.std.specs.List.{list_any}
use Rattle.std.proofs.lemmas.Bool.{cases_lt}
use Rattle.std.proofs.lemmas.List.{length_push, length-take, get_or-set_same, get_or-set_other, get_or-take, get_or_append_left, take_more}
use Rattle.std.proofs.lemmas.List.Elements.{All-from_get_or}
use Rattle.std.proofs.lemmas.List.Folds.{list_any_at, list_any_none}
use Rattle.mesh_model.specs.Assembled.{same_row, distinct}
use Rattle.mesh_model.specs.RowIndex.{IsPointOf, IsTwin, AreUnlike, RowsAreNumbered}
use Rattle.mesh_model.proofs.AssembledParts.{All-distinct}
use Rattle.mesh_model.proofs.DistinctRows.{same_row-refl, same_row-apart, distinct-push, with_row}

-- the rows before stay in their places, and others may have come behind them
pub record KeepsRows (before after : List (List ℤ)) : Type 0 where
  pub no_fewer : length before ≤ length after
  pub kept : (q : ℕ) → q < length before → get_or after q [] ≡ get_or before q []

Keeps-same : (rows : List (List ℤ)) → KeepsRows rows rows
Keeps-same rows = record { no_fewer = omega arith; kept = λ q below. refl }

Keeps-push : (rows : List (List ℤ)) (row : List ℤ) → KeepsRows rows (rows ++ row ∷ [])
Keeps-push rows row = record {
  no_fewer = omega (arith, length_push rows row);
  kept = λ q below. get_or_append_left rows (row ∷ []) [] q below;
}

IsPointOf-keeps : (before after : List (List ℤ)) (row : List ℤ) (p : ℕ) → KeepsRows before after → IsPointOf before row p → IsPointOf after row p
IsPointOf-keeps before after row p keeps at = (omega (arith, at.0, keeps.no_fewer), keeps.kept p at.0 ∙ at.1)

-- points with one more, where its row is new
pub record Grows (before after : List (List ℤ)) (row : List ℤ) : Type 0 where
  pub points : after ≡ with_row before row
  pub one_more : length after ≤ length before + 1
  pub keeps : KeepsRows before after

-- a row that a point has brings no point
pub Grows-found : (points : List (List ℤ)) (row : List ℤ) (p : ℕ) → IsPointOf points row p → Grows points points row
Grows-found points row p at =
    let found : list_any (same_row row) points ≡ true = list_any_at (same_row row) points p [] at.0 (same_row-refl row (get_or points p []) (sym at.1)) in
    record {
      points = sym (ap (λ b. cond b points (points ++ row ∷ [])) found);
      one_more = omega arith;
      keeps = Keeps-same points;
    }

-- a row that no point has brings one
pub Grows-new : (points : List (List ℤ)) (row : List ℤ) → ((q : ℕ) → q < length points → get_or points q [] ≢ row) → Grows points (points ++ row ∷ []) row
Grows-new points row apart =
    let fails = All-from_get_or (λ r. same_row row r ≡ false) points [] (λ q below.
    same_row-apart row (get_or points q []) (λ e. apart q below (sym e))) in
    let missing : list_any (same_row row) points ≡ false = list_any_none (same_row row) points fails in
    record {
      points = sym (ap (λ b. cond b points (points ++ row ∷ [])) missing);
      one_more = omega (arith, length_push points row);
      keeps = Keeps-push points row;
    }

-- rows of which no two are equal are distinct
pub distinct-unlike : (rows : List (List ℤ)) (n : ℕ) → n ≤ length rows → AreUnlike rows n → distinct (take n rows) ≡ take n rows
distinct-unlike rows zero inside unlike = refl
distinct-unlike rows (suc n) inside unlike =
    let row = get_or rows n [] in
    let more : take (suc n) rows ≡ take n rows ++ row ∷ [] = ap (λ m. take m rows) (sym (add-one n)) ∙ take_more rows n [] (omega arith) in
    let rest : distinct (take n rows) ≡ take n rows = distinct-unlike rows n (omega arith) (λ p q below before. unlike p q (omega arith) before) in
    let apart : (q : ℕ) → q < length (take n rows) → get_or (take n rows) q [] ≢ row =
    λ q below e.
    let early : q < n = omega (arith, length-take n rows) in
    unlike n q (omega arith) early (sym (get_or-take n rows q [] early) ∙ e) in
    ap distinct more ∙ distinct-push (take n rows) row ∙ ap (λ ds. with_row ds row) rest ∙ sym (Grows-new (take n rows) row apart).points ∙ sym more

-- no points of no rows
pub AreNumbered-none : (rows : List (List ℤ)) (numbers : List ℕ) (points : List (List ℤ)) → length points ≡ 0 → RowsAreNumbered rows 0 numbers points
AreNumbered-none rows numbers (row ∷ points) none = absurd (omega (arith, none))
AreNumbered-none rows numbers [] none = record {
  distinct_rows = refl;
  few = omega arith;
  numbered = λ p below. absurd (omega arith);
}

-- one more row
pub AreNumbered-more : (rows : List (List ℤ)) (i p : ℕ) (numbers : List ℕ) (before after : List (List ℤ)) → RowsAreNumbered rows i numbers before → i < length rows → i < length numbers → Grows before after (get_or rows i []) → IsPointOf after (get_or rows i []) p → RowsAreNumbered rows (i + 1) (set numbers i p) after
AreNumbered-more rows i p numbers before after are inside within grows at = record {
  distinct_rows =
      grows.points ∙ ap (λ ps. with_row ps (get_or rows i [])) are.distinct_rows
      ∙ sym (ap distinct (take_more rows i [] inside) ∙ distinct-push (take i rows) (get_or rows i []));
  few = omega (arith, grows.one_more, are.few);
  numbered = λ q below. elim (cases_lt q i) [
    | inl early ↦
        let other : q ≢ i = omega arith in
        subst (IsPointOf after (get_or rows q [])) (sym (get_or-set_other numbers i q p 0 other))
        (IsPointOf-keeps before after (get_or rows q []) _ grows.keeps (are.numbered q early))
    | inr past ↦
        let same : i ≡ q = omega arith in
        subst (λ k. IsPointOf after (get_or rows k []) (get_or (set numbers i p) k 0)) same
        (subst (IsPointOf after (get_or rows i [])) (sym (get_or-set_same numbers i p 0 within)) at)
  ];
}

-- a row that is equal to an earlier one has its point
pub IsPointOf-twin : (rows : List (List ℤ)) (i link : ℕ) (numbers : List ℕ) (points : List (List ℤ)) → RowsAreNumbered rows i numbers points → IsTwin rows i link → 0 < link → IsPointOf points (get_or rows i []) (get_or numbers (link - 1) 0)
IsPointOf-twin rows i link numbers points are twin some =
    subst (λ row. IsPointOf points row (get_or numbers (link - 1) 0)) (twin.equal some) (are.numbered (link - 1) (omega (arith, twin.back)))

-- a row that is equal to no earlier one brings a point
pub Grows-twinless : (rows : List (List ℤ)) (i : ℕ) (numbers : List ℕ) (points : List (List ℤ)) → RowsAreNumbered rows i numbers points → IsTwin rows i 0 → i < length rows → Grows points (points ++ get_or rows i [] ∷ []) (get_or rows i [])
Grows-twinless rows i numbers points are twin inside =
    let row = get_or rows i [] in
    let unlike = All-from_get_or (λ (r : List ℤ). r ≢ row) (take i rows) [] (λ q below e.
    let early : q < i = omega (arith, length-take i rows) in
    twin.none refl q early (sym (get_or-take i rows q [] early) ∙ e)) in
    let all = All-distinct (λ (r : List ℤ). r ≢ row) (take i rows) unlike in
    Grows-new points row (λ q below e.
    all q [] (omega (arith, ap length are.distinct_rows)) (ap (λ ps. get_or ps q []) (sym are.distinct_rows) ∙ e))
