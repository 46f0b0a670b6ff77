-- The hashes of rows.
use Rattle.std.proofs.Common.{◌≡◌, ℕ, ◌+◌, ◌<◌, List, [], ◌∷◌, ◌++◌, ℤ, length, get_or, refl, sym, ap, ◌∙◌, subst, inl, inr, arith}
use Rattle.std.specs.List.{All}
use Rattle.std.proofs.lemmas.Bool.{cases_lt}
use Rattle.std.proofs.lemmas.List.{length_push, get_or_push, get_or_append_left, get_or-map}
use Rattle.mesh_model.specs.Hash.{bucket_of, row_hash}
use Rattle.mesh_model.specs.RowIndex.{rows_at, row_bucket, AreHashes, AreChosen, AreChosenHashes}

-- no rows
pub Hashes-none : (rows : List (List ℤ)) → AreHashes rows 0 []
Hashes-none rows = record { each = refl; at = λ p below. absurd (omega arith) }

-- one more row
pub Hashes-more : (rows : List (List ℤ)) (i : ℕ) (hashes : List ℕ) (hash : ℕ) → AreHashes rows i hashes → hash ≡ row_hash (get_or rows i []) →
    AreHashes rows (i + 1) (hashes ++ hash ∷ [])
Hashes-more rows i hashes hash are is = record {
  each = length_push hashes hash ∙ ap (λ n. n + 1) are.each;
  at = λ p below. elim (cases_lt p i) [
    | inl early ↦ get_or_append_left hashes (hash ∷ []) 0 p (omega (arith, are.each)) ∙ are.at p early
    | inr past ↦
        let last : length hashes ≡ p = omega (arith, are.each) in
        let same : i ≡ p = omega arith in
        get_or_push hashes hash 0 p last ∙ is ∙ ap (λ k. row_hash (get_or rows k [])) same
  ];
}

-- equal rows have equal hashes
pub Chosen-hashes : (rows : List (List ℤ)) (count : ℕ) (hashes chosen : List ℕ) → AreHashes rows count hashes → AreChosenHashes hashes (length hashes) chosen → AreChosen rows count chosen
Chosen-hashes rows count hashes chosen are chosen_hashes =
    let passing : AreChosenHashes hashes count chosen = subst (λ n. AreChosenHashes hashes n chosen) are.each chosen_hashes in
    record {
      few = passing.few;
      within = passing.within;
      rising = passing.rising;
      all = λ p below same. passing.all p below (record {
        other = same.other;
        within = same.within;
        apart = same.apart;
        equal = are.at same.other same.within ∙ ap row_hash same.equal ∙ sym (are.at p below);
      });
    }

-- the bucket of a chosen row is that of its hash
pub bucket-chosen : (rows : List (List ℤ)) (hashes chosen : List ℕ) (mask i : ℕ) → AreHashes rows (length hashes) hashes → All (λ p. p < length hashes) chosen → i < length chosen →
    bucket_of mask (get_or hashes (get_or chosen i 0) 0) ≡ row_bucket (rows_at rows chosen) mask i
bucket-chosen rows hashes chosen mask i are inside below =
    ap (bucket_of mask) (are.at (get_or chosen i 0) (inside i 0 below) ∙ ap row_hash (sym (get_or-map (λ (p : ℕ). get_or rows p []) chosen i 0 [] below)))

-- chosen rows are equal where the rows with their numbers are
pub chosen-equal : (rows : List (List ℤ)) (chosen : List ℕ) (i j : ℕ) → i < length chosen → j < length chosen →
    get_or rows (get_or chosen i 0) [] ≡ get_or rows (get_or chosen j 0) [] → get_or (rows_at rows chosen) i [] ≡ get_or (rows_at rows chosen) j []
chosen-equal rows chosen i j first second equal =
    get_or-map (λ (p : ℕ). get_or rows p []) chosen i 0 [] first ∙ equal ∙ sym (get_or-map (λ (p : ℕ). get_or rows p []) chosen j 0 [] second)

-- and the other way round
pub chosen-back : (rows : List (List ℤ)) (chosen : List ℕ) (i j : ℕ) → i < length chosen → j < length chosen →
    get_or (rows_at rows chosen) i [] ≡ get_or (rows_at rows chosen) j [] → get_or rows (get_or chosen i 0) [] ≡ get_or rows (get_or chosen j 0) []
chosen-back rows chosen i j first second equal =
    sym (get_or-map (λ (p : ℕ). get_or rows p []) chosen i 0 [] first) ∙ equal ∙ get_or-map (λ (p : ℕ). get_or rows p []) chosen j 0 [] second
