-- Marks of the numbers that rows have named.
use Rattle.std.proofs.Common.{◌≡◌, ℕ, ◌+◌, ◌<◌, ◌≤◌, Bool, true, false, cond, eqb, List, [], ◌∷◌, ◌++◌, length, get_or, set, take, refl, sym, ap, ◌∙◌, subst, inl, inr, arith}
use Rattle.std.specs.List.{All, count_by, list_all}
use Rattle.std.proofs.lemmas.Bool.{cases_eq, eq-eqb, ne_eqb, true_from_ne_false}
use Rattle.std.proofs.lemmas.List.{length-set, get_or-set_same, get_or-set_other, take_more}
use Rattle.std.proofs.lemmas.List.Elements.{All-nil, All-push, All-from_get_or}
use Rattle.std.proofs.lemmas.List.Sums.{sum_by_push, sum_by-take-le, AllPass-from_list_all, list_all-from_AllPass}
use Rattle.mesh_model.specs.Same.{Rows, NamesEachOnce}

-- a number is marked exactly where a row has named it, and no row has named one twice
pub record Marks (count : ℕ) (seen : List Bool) (rows : Rows) : Type 0 where
  pub long : length seen ≡ count
  pub within : All (λ row. row.0 < count) rows
  pub once : (f : ℕ) → f < count → count_by (λ row. eqb row.0 f) rows ≡ cond (get_or seen f false) 1 0

pub Marks-none : (seen : List Bool) → All (λ mark. mark ≡ false) seen → Marks (length seen) seen []
Marks-none seen none = record {
  long = refl;
  within = All-nil (λ row. row.0 < length seen);
  once = λ f below. ap (λ b. cond b 1 0) (sym (none f false below));
}

pub Marks-more : (count : ℕ) (seen : List Bool) (rows : Rows) (row : ℕ × ℕ) → Marks count seen rows → row.0 < count → get_or seen row.0 false ≡ false → Marks count (set seen row.0 true) (rows ++ row ∷ [])
Marks-more count seen rows row marks inside new = record {
  long = length-set seen row.0 true ∙ marks.long;
  within = All-push (λ (r : ℕ × ℕ). r.0 < count) rows row marks.within inside;
  once = λ f below.
      sum_by_push (λ (r : ℕ × ℕ). cond (eqb r.0 f) 1 0) rows row
      ∙ elim (cases_eq row.0 f) [
        | inl same ↦
            let before : count_by (λ (r : ℕ × ℕ). eqb r.0 f) rows ≡ 0 =
            marks.once f below ∙ ap (λ b. cond b 1 0) (subst (λ n. get_or seen n false ≡ false) same new) in
            let here : ◌≡◌ {A = ℕ} (cond (eqb row.0 f) 1 0) 1 = ap (λ b. cond b 1 0) (eq-eqb row.0 f same) in
            let marked : get_or (set seen row.0 true) f false ≡ true =
            subst (λ n. get_or (set seen row.0 true) n false ≡ true) same (get_or-set_same seen row.0 true false (omega (arith, marks.long))) in
            omega (arith, before, here) ∙ sym (ap (λ b. cond b 1 0) marked)
        | inr other ↦
            let here : ◌≡◌ {A = ℕ} (cond (eqb row.0 f) 1 0) 0 = ap (λ b. cond b 1 0) (ne_eqb row.0 f other) in
            let kept : get_or (set seen row.0 true) f false ≡ get_or seen f false =
            get_or-set_other seen row.0 f true false (λ e. other (sym e)) in
            omega (arith, here) ∙ marks.once f below ∙ sym (ap (λ b. cond b 1 0) kept)
      ];
}

-- a mark says whether a number was named
pub Marks-all : (count : ℕ) (seen : List Bool) (rows : Rows) → Marks count seen rows → list_all (λ b. b) seen ≡ true → NamesEachOnce count rows
Marks-all count seen rows marks all = record {
  within = marks.within;
  once = λ f below.
      let marked : get_or seen f false ≡ true = AllPass-from_list_all (λ b. b) seen all f false (omega (arith, marks.long)) in
      marks.once f below ∙ ap (λ b. cond b 1 0) marked;
}

pub Marks-back : (count : ℕ) (seen : List Bool) (rows : Rows) → Marks count seen rows → NamesEachOnce count rows → list_all (λ b. b) seen ≡ true
Marks-back count seen rows marks names =
    list_all-from_AllPass (λ b. b) seen (All-from_get_or (λ b. b ≡ true) seen false (λ f below.
    true_from_ne_false _ (λ unmarked.
    let none : count_by (λ row. eqb row.0 f) rows ≡ 0 = marks.once f (omega (arith, marks.long)) ∙ ap (λ b. cond b 1 0) unmarked in
    let one = names.once f (omega (arith, marks.long)) in
    absurd (omega (arith, none, one)))))

-- a row that names a number past the end
pub past_end : (count : ℕ) (rows : Rows) (i : ℕ) → i < length rows → count ≤ (get_or rows i (0, 0)).0 → NamesEachOnce count rows → ⊥
past_end count rows i inside past names = let below = names.within i (0, 0) inside in omega (arith, below)

-- a row that names a number that one before it named
pub named_twice : (count : ℕ) (seen : List Bool) (rows : Rows) (i : ℕ) → i < length rows → Marks count seen (take i rows) → (get_or rows i (0, 0)).0 < count → get_or seen (get_or rows i (0, 0)).0 false ≡ true → NamesEachOnce count rows → ⊥
named_twice count seen rows i inside marks below marked names =
    let row = get_or rows i (0, 0) in
    let f = row.0 in
    let tell : ℕ × ℕ → ℕ = λ (r : ℕ × ℕ). cond (eqb r.0 f) 1 0 in
    let before : count_by (λ (r : ℕ × ℕ). eqb r.0 f) (take i rows) ≡ 1 = marks.once f below ∙ ap (λ b. cond b 1 0) marked in
    let here : ◌≡◌ {A = ℕ} (cond (eqb f f) 1 0) 1 = ap (λ b. cond b 1 0) (eq-eqb f f refl) in
    let two : count_by (λ (r : ℕ × ℕ). eqb r.0 f) (take (i + 1) rows) ≡ 2 =
    ap (λ rs. count_by (λ (r : ℕ × ℕ). eqb r.0 f) rs) (take_more rows i (0, 0) inside) ∙ sum_by_push tell (take i rows) row ∙ omega (arith, before, here) in
    let most = sum_by-take-le tell rows (i + 1) in
    let one = names.once f below in
    omega (arith, two, most, one)
