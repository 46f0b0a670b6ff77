-- A table with names after a face more, and what its rows say of its free sides.
use Rattle.std.proofs.Common.{◌≡◌, ◌≢◌, ℕ, suc, ◌+◌, ◌*◌, ◌<◌, ◌≤◌, Bool, true, false, not, ◌||◌, ◌==◌, List, [], ◌∷◌, ◌++◌, length, map, filter, find, Option, Some, None, inl, inr, sym, refl, ap, ◌∙◌, subst, arith, cond, option_map, eqb-true, eq-eqb, length-append}
use Rattle.std.specs.List.{list_any}
use Rattle.std.proofs.lemmas.List.{length-map}
use Rattle.corner_table.specs.Sides.{Side, first, second, third, side, glue, side_at, number, same, next, prev, Gluing, IsFree}
use Rattle.corner_table.specs.Fans.{side_before}
use Rattle.corner_table.specs.Table.{Table, gluing_of}
use Rattle.corner_table.proofs.Places.{option_tells, same-true, same_refl}
use Rattle.corner_table.proofs.Numbers.{number-side_at}
use Rattle.eb_machine.specs.declared.beside.Beside.{Beside}
use Rattle.eb_machine.specs.Beside.{glued_place, free_place, new_triangle}
use Rattle.eb_machine.specs.Named.{Triangle, Row, row_at_side, row_to, row_before, without, new_row, renamed, renamed_triangle, renamed_row, NamedState, first_with_equal}
use Rattle.eb_machine.specs.Shown.{AreNames, name_of, row_named}
use Rattle.eb_machine.specs.Machine.{first_degenerate}
use Rattle.eb_machine.proofs.NamedLaw.{Stands, first_is}
use Rattle.eb_machine.proofs.NamedRules.{row_is, no_row, row_before_is, before_ends, one_point_is, end_names, beside_names, tip_names, split_names, fill_names}
use Rattle.eb_rows.specs.declared.active_rows.Row.{Row as NumberedRow}
use Rattle.eb_rebuild.specs.NamedTables.{NamedTable, IsNamedTable}
use Rattle.eb_rebuild.proofs.NamedTables.{alone, stands_alone}
use Rattle.eb_rows.specs.Rowed.{row_listed, all_listed, IsRowIn, IsGluedIn, IsThree}

one_truth : (t u : Bool) → (t ≡ true → u ≡ true) → (u ≡ true → t ≡ true) → t ≡ u
one_truth true u f h = sym (f refl)
one_truth false true f h = h refl
one_truth false false f h = refl

-- one side by its number and by its face and place
pub side_test : (x y : ℕ) → same (side_at x) (side_at y) ≡ (x == y)
side_test x y = one_truth _ _
    (λ e. eq-eqb x y (sym (number-side_at x) ∙ ap number (same-true (side_at x) (side_at y) e) ∙ number-side_at y))
    (λ e. ap (same (side_at x)) (ap side_at (sym (eqb-true x y e))) ∙ same_refl (side_at x))

find_step : (b b' : Bool) (x : NumberedRow) (o : Option NumberedRow) (o' : Option Row) → b' ≡ b → option_map row_listed o ≡ o' → option_map row_listed (cond b (Some x) o) ≡ cond b' (Some (row_listed x)) o'
find_step true true x o o' e h = refl
find_step false false x o o' e h = h
find_step true false x o o' e h = absurd (cc)
find_step false true x o o' e h = absurd (cc)

find_listed : (p : NumberedRow → Bool) (q : Row → Bool) → ((r : NumberedRow) → q (row_listed r) ≡ p r) → (rows : List NumberedRow) → option_map row_listed (find p rows) ≡ find q (all_listed rows)
find_listed p q h [] = refl
find_listed p q h (x ∷ rows) = find_step (p x) (q (row_listed x)) x (find p rows) (find q (all_listed rows)) (h x) (find_listed p q h rows)

filter_step : (b b' : Bool) (x : NumberedRow) (rows : List NumberedRow) (rows' : List Row) → b' ≡ b → all_listed rows ≡ rows' → all_listed (cond b (x ∷ rows) rows) ≡ cond b' (row_listed x ∷ rows') rows'
filter_step true true x rows rows' e h = ap (λ (l : List Row). row_listed x ∷ l) h
filter_step false false x rows rows' e h = h
filter_step true false x rows rows' e h = absurd (cc)
filter_step false true x rows rows' e h = absurd (cc)

filter_listed : (p : NumberedRow → Bool) (q : Row → Bool) → ((r : NumberedRow) → q (row_listed r) ≡ p r) → (rows : List NumberedRow) → all_listed (filter p rows) ≡ filter q (all_listed rows)
filter_listed p q h [] = refl
filter_listed p q h (x ∷ rows) = filter_step (p x) (q (row_listed x)) x (filter p rows) (filter q (all_listed rows)) (h x) (filter_listed p q h rows)

pub without_listed : (side : ℕ) (rows : List NumberedRow) → all_listed (filter (λ (r : NumberedRow). not (r.side == side)) rows) ≡ without (side_at side) (all_listed rows)
without_listed side rows = filter_listed (λ (r : NumberedRow). not (r.side == side)) (λ (r : Row). not (same r.side (side_at side))) (λ r. ap not (side_test r.side side)) rows

pub row_of_listed : (side : ℕ) (rows : List NumberedRow) → option_map row_listed (find (λ (r : NumberedRow). r.side == side) rows) ≡ row_at_side (side_at side) (all_listed rows)
row_of_listed side rows = find_listed (λ (r : NumberedRow). r.side == side) (λ (r : Row). same r.side (side_at side)) (λ r. side_test r.side side) rows

pub row_to_listed : (v : ℕ) (rows : List NumberedRow) → option_map row_listed (find (λ (r : NumberedRow). r.to == v) rows) ≡ row_to v (all_listed rows)
row_to_listed v rows = find_listed (λ (r : NumberedRow). r.to == v) (λ (r : Row). r.to == v) (λ r. refl) rows

Some_inside : (x y : Row) → Some x ≡ Some y → x ≡ y
Some_inside x y e = cc

-- a row's side and its names, found by its side
pub found_row : (v : NamedTable) → IsNamedTable v → (side : ℕ) → side < 3 * v.table.faces → (rows : List NumberedRow) → all_listed rows ≡ v.rows → (r : NumberedRow) → find (λ (r : NumberedRow). r.side == side) rows ≡ Some r → (r.side ≡ side) × IsRowIn v r
found_row v I side h rows e r f = elim (option_tells (gluing_of v.table (side_at side))) [
  | inl n ↦ (
      let A : IsFree (length v.triangles) (gluing_of v.table) (side_at side) = record { within = (let l = I.long in omega arith); free = n } in
      let is : row_listed r ≡ row_named v.triangles (side_at side) = Some_inside _ _ (sym (ap (option_map row_listed) f) ∙ row_of_listed side rows ∙ ap (row_at_side (side_at side)) e ∙ row_is I.names (side_at side) A) in
      let at : r.side ≡ side = sym (number-side_at r.side) ∙ ap (λ (q : Row). number q.side) is ∙ number-side_at side in (
        at,
        record {
          free = subst (λ (k : ℕ). IsFree v.table.faces (gluing_of v.table) (side_at k)) (sym at) (record { within = omega arith; free = n });
          is = is ∙ ap (λ (k : ℕ). row_named v.triangles (side_at k)) (sym at);
        },
      ))
  | inr b ↦ absurd (let no : Some (row_listed r) ≡ None = sym (ap (option_map row_listed) f) ∙ row_of_listed side rows ∙ ap (row_at_side (side_at side)) e ∙ no_row I.names (side_at side) b.0 b.1 in cc)
]

pub no_row_found : (v : NamedTable) → IsNamedTable v → (side : ℕ) → side < 3 * v.table.faces → (rows : List NumberedRow) → all_listed rows ≡ v.rows → find (λ (r : NumberedRow). r.side == side) rows ≡ None → IsGluedIn v.table (side_at side)
no_row_found v I side h rows e f = elim (option_tells (gluing_of v.table (side_at side))) [
  | inl n ↦ absurd (
      let A : IsFree (length v.triangles) (gluing_of v.table) (side_at side) = record { within = (let l = I.long in omega arith); free = n } in
      let no : None ≡ Some (row_named v.triangles (side_at side)) = sym (ap (option_map row_listed) f) ∙ row_of_listed side rows ∙ ap (row_at_side (side_at side)) e ∙ row_is I.names (side_at side) A in cc)
  | inr b ↦ b
]

-- a row is free in the table whose faces are counted by the triangles
pub row_free : (v : NamedTable) → IsNamedTable v → (r : NumberedRow) → IsRowIn v r → IsFree (length v.triangles) (gluing_of v.table) (side_at r.side)
row_free v I r R = subst (λ (n : ℕ). IsFree n (gluing_of v.table) (side_at r.side)) (sym I.long) R.free

pub row_from : (v : NamedTable) (r : NumberedRow) → IsRowIn v r → r.from ≡ name_of v.triangles (next (side_at r.side))
row_from v r R = ap (λ (q : Row). q.from) R.is

pub row_end : (v : NamedTable) (r : NumberedRow) → IsRowIn v r → r.to ≡ name_of v.triangles (prev (side_at r.side))
row_end v r R = ap (λ (q : Row). q.to) R.is

-- the row that ends where a row starts is found
pub before_found : (v : NamedTable) → IsNamedTable v → (r b : NumberedRow) → IsRowIn v r → row_listed b ≡ row_before (row_listed r) v.rows → IsRowIn v b × (side_at b.side ≡ side_before v.table.faces (gluing_of v.table) (side_at r.side))
before_found v I r b R e =
    let A = row_free v I r R in
    let is : row_listed b ≡ row_named v.triangles (side_before (length v.triangles) (gluing_of v.table) (side_at r.side)) = e ∙ ap (λ (q : Row). row_before q v.rows) R.is ∙ row_before_is I.names (side_at r.side) A in
    let at : side_at b.side ≡ side_before (length v.triangles) (gluing_of v.table) (side_at r.side) = ap (λ (q : Row). q.side) is in
    let F = before_ends I.names (side_at r.side) A in (
      record {
        free = subst (λ (n : ℕ). IsFree n (gluing_of v.table) (side_at b.side)) I.long (subst (IsFree (length v.triangles) (gluing_of v.table)) (sym at) F.0);
        is = is ∙ ap (row_named v.triangles) (sym at);
      },
      at ∙ ap (λ (n : ℕ). side_before n (gluing_of v.table) (side_at r.side)) I.long,
    )

pub before_some : (v : NamedTable) → IsNamedTable v → (r b : NumberedRow) → IsRowIn v r → (rows : List NumberedRow) → all_listed rows ≡ v.rows → find (λ (q : NumberedRow). q.to == r.from) rows ≡ Some b →
    IsRowIn v b × (side_at b.side ≡ side_before v.table.faces (gluing_of v.table) (side_at r.side))
before_some v I r b R rows e f =
    before_found v I r b R (ap (λ (o : Option Row). let x : Row = elim o [ None ↦ row_listed r | Some t ↦ t ] in x) (sym (ap (option_map row_listed) f) ∙ row_to_listed r.from rows ∙ ap (row_to r.from) e))

pub before_none : (v : NamedTable) → IsNamedTable v → (r : NumberedRow) → IsRowIn v r → (rows : List NumberedRow) → all_listed rows ≡ v.rows → find (λ (q : NumberedRow). q.to == r.from) rows ≡ None →
    IsRowIn v r × (side_at r.side ≡ side_before v.table.faces (gluing_of v.table) (side_at r.side))
before_none v I r R rows e f =
    before_found v I r r R (ap (λ (o : Option Row). let x : Row = elim o [ None ↦ row_listed r | Some t ↦ t ] in x) (sym (ap (option_map row_listed) f) ∙ row_to_listed r.from rows ∙ ap (row_to r.from) e))

-- one row starts where another ends
pub joined_is : (v : NamedTable) → IsNamedTable v → (b a : NumberedRow) → IsRowIn v b → IsRowIn v a → (b.from == a.to) ≡ same (side_before v.table.faces (gluing_of v.table) (side_at b.side)) (side_at a.side)
joined_is v I b a B A =
    ap (λ (n : ℕ). n == a.to) (row_from v b B) ∙ ap (λ (n : ℕ). name_of v.triangles (next (side_at b.side)) == n) (row_end v a A)
    ∙ one_point_is I.names (side_at b.side) (side_at a.side) (row_free v I b B) (row_free v I a A)
    ∙ ap (λ (n : ℕ). same (side_before n (gluing_of v.table) (side_at b.side)) (side_at a.side)) I.long

-- names for equal lists and gluings
pub names_along : {ts us : List Triangle} {rows qs : List Row} {g h : Gluing} {m n : ℕ} → ts ≡ us → rows ≡ qs → g ≡ h → m ≡ n → AreNames ts rows g m → AreNames us qs h n
names_along {ts} {us} {rows} {qs} {g} {h} {m} {n} p q r s N =
    subst (λ (l : List Triangle). AreNames l qs h n) p
    (subst (λ (l : List Row). AreNames ts l h n) q
    (subst (λ (k : Gluing). AreNames ts rows k n) r
    (subst (λ (k : ℕ). AreNames ts rows g k) s N)))

-- lists with items more, as definitions see them
append_one : (kept : List NumberedRow) (x : NumberedRow) → all_listed (kept ++ (x ∷ [])) ≡ all_listed kept ++ (row_listed x ∷ [])
append_one [] x = refl
append_one (r ∷ kept) x = ap (λ (l : List Row). row_listed r ∷ l) (append_one kept x)

append_two : (rows : List Row) (x y : Row) → (rows ++ (x ∷ [])) ++ (y ∷ []) ≡ rows ++ (x ∷ y ∷ [])
append_two [] x y = refl
append_two (r ∷ rows) x y = ap (λ (l : List Row). r ∷ l) (append_two rows x y)

append_three : (rows : List Row) (x y z : Row) → (rows ++ (x ∷ y ∷ [])) ++ (z ∷ []) ≡ rows ++ (x ∷ y ∷ z ∷ [])
append_three [] x y z = refl
append_three (r ∷ rows) x y z = ap (λ (l : List Row). r ∷ l) (append_three rows x y z)

pub listed_one : (kept one : List NumberedRow) (x : NumberedRow) (k : List Row) (p : Row) → one ≡ kept ++ (x ∷ []) → all_listed kept ≡ k → row_listed x ≡ p → all_listed one ≡ k ++ (p ∷ [])
listed_one kept one x k p e h q = ap all_listed e ∙ append_one kept x ∙ ap (λ (l : List Row). l ++ (row_listed x ∷ [])) h ∙ ap (λ (r : Row). k ++ (r ∷ [])) q

pub listed_two : (kept one two : List NumberedRow) (x y : NumberedRow) (k : List Row) (p q : Row) → one ≡ kept ++ (x ∷ []) → two ≡ one ++ (y ∷ []) → all_listed kept ≡ k → row_listed x ≡ p → row_listed y ≡ q → all_listed two ≡ k ++ (p ∷ q ∷ [])
listed_two kept one two x y k p q e f h u w = listed_one one two y (k ++ (p ∷ [])) q f (listed_one kept one x k p e h u) w ∙ append_two k p q

pub listed_three : (kept one two three : List NumberedRow) (x y z : NumberedRow) (k : List Row) (p q r : Row) → one ≡ kept ++ (x ∷ []) → two ≡ one ++ (y ∷ []) → three ≡ two ++ (z ∷ []) → all_listed kept ≡ k → row_listed x ≡ p → row_listed y ≡ q → row_listed z ≡ r →
    all_listed three ≡ k ++ (p ∷ q ∷ r ∷ [])
listed_three kept one two three x y z k p q r e f g h u w v = listed_one two three z (k ++ (p ∷ q ∷ [])) r g (listed_two kept one two x y k p q e f h u w) v ∙ append_three k p q r

pub listed_without : (rows kept : List NumberedRow) (a : ℕ) (k : List Row) → kept ≡ filter (λ (r : NumberedRow). not (r.side == a)) rows → all_listed rows ≡ k → all_listed kept ≡ without (side_at a) k
listed_without rows kept a k e h = ap all_listed e ∙ without_listed a rows ∙ ap (without (side_at a)) h

renamed_numbered : (from to : ℕ) → NumberedRow → NumberedRow
renamed_numbered from to r = record { side = r.side; from = renamed from to r.from; to = renamed from to r.to }

pub listed_renamed : (from to : ℕ) (rows told : List NumberedRow) (k : List Row) → told ≡ map (λ (r : NumberedRow). record { side = r.side; from = renamed from to r.from; to = renamed from to r.to }) rows → all_listed rows ≡ k → all_listed told ≡ map (renamed_row (renamed from to)) k
listed_renamed from to rows told k e h = ap all_listed e ∙ go rows ∙ ap (map (renamed_row (renamed from to))) h
  where
    go : (rows : List NumberedRow) → all_listed (map (λ (r : NumberedRow). record { side = r.side; from = renamed from to r.from; to = renamed from to r.to }) rows) ≡ map (renamed_row (renamed from to)) (all_listed rows)
    go [] = refl
    go (r ∷ rows) = ap (λ (l : List Row). renamed_row (renamed from to) (row_listed r) ∷ l) (go rows)

-- what a new table has to be
pub record Grown (v : NamedTable) (table : Table) (made : ℕ) (g : Gluing) : Type 0 where
  pub faces : table.faces ≡ v.table.faces + 1
  pub glued : gluing_of table ≡ g
  pub few : made ≤ v.made + 3

grown_table : (v : NamedTable) → IsNamedTable v → (table : Table) (made : ℕ) (g : Gluing) (triangles : List Triangle) (rows : List Row) → Grown v table made g → length triangles ≡ suc (length v.triangles) → AreNames triangles rows g made →
    IsNamedTable (record { table = table; triangles = triangles; rows = rows; made = made })
grown_table v I table made g triangles rows W long N = record {
  long = (let a = I.long in let b = W.faces in omega arith);
  names = names_along refl refl (sym W.glued) refl N;
  few = (let a = I.few in let b = W.few in let c = W.faces in omega arith);
}

one_longer : (ts us : List Triangle) (t : Triangle) → us ≡ ts ++ (t ∷ []) → length us ≡ suc (length ts)
one_longer ts us t e = let a = ap {A = List Triangle} length e in let b = length-append ts (t ∷ []) in omega arith

pub end_table : (v : NamedTable) → IsNamedTable v → (table : Table) (triangles : List Triangle) (rows : List Row) → Grown v table (v.made + 3) (gluing_of v.table) →
    let t : Triangle = (v.made, v.made + 1, v.made + 2) in let f = v.table.faces in
    triangles ≡ v.triangles ++ (t ∷ []) → rows ≡ v.rows ++ (new_row f t first ∷ new_row f t second ∷ new_row f t third ∷ []) → IsNamedTable (record { table = table; triangles = triangles; rows = rows; made = v.made + 3 })
end_table v I table triangles rows W e h =
    let t : Triangle = (v.made, v.made + 1, v.made + 2) in
    grown_table v I table (v.made + 3) (gluing_of v.table) triangles rows W (one_longer v.triangles triangles t e)
    (names_along (sym e) (ap (λ (f : ℕ). v.rows ++ (new_row f t first ∷ new_row f t second ∷ new_row f t third ∷ [])) I.long ∙ sym h) refl refl (end_names I.names))

triple : {x x' y y' z z' : ℕ} → x ≡ x' → y ≡ y' → z ≡ z' → (let t : Triangle = (x, y, z) in t) ≡ (x', y', z')
triple p q r = λ i. (p i, q i, r i)

pub beside_table : (b : Beside) (v : NamedTable) → IsNamedTable v → (a : NumberedRow) → IsRowIn v a → (table : Table) (triangles : List Triangle) (rows : List Row) → Grown v table (v.made + 1) (glue (side v.table.faces (glued_place b)) (side_at a.side) (gluing_of v.table)) →
    let t : Triangle = new_triangle b a.from a.to v.made in let f = v.table.faces in
    triangles ≡ v.triangles ++ (t ∷ []) → rows ≡ without (side_at a.side) v.rows ++ (new_row f t first ∷ new_row f t (free_place b) ∷ []) → IsNamedTable (record { table = table; triangles = triangles; rows = rows; made = v.made + 1 })
beside_table b v I a R table triangles rows W e h =
    let t : Triangle = new_triangle b a.from a.to v.made in
    let q : new_triangle b (name_of v.triangles (next (side_at a.side))) (name_of v.triangles (prev (side_at a.side))) v.made ≡ t =
    ap (λ (n : ℕ). new_triangle b n (name_of v.triangles (prev (side_at a.side))) v.made) (sym (row_from v a R)) ∙ ap (λ (n : ℕ). new_triangle b a.from n v.made) (sym (row_end v a R)) in
    grown_table v I table (v.made + 1) (glue (side v.table.faces (glued_place b)) (side_at a.side) (gluing_of v.table)) triangles rows W (one_longer v.triangles triangles t e)
    (names_along (ap (λ (u : Triangle). v.triangles ++ (u ∷ [])) q ∙ sym e)
    (ap (λ (u : Triangle). without (side_at a.side) v.rows ++ (new_row (length v.triangles) u first ∷ new_row (length v.triangles) u (free_place b) ∷ [])) q
    ∙ ap (λ (f : ℕ). without (side_at a.side) v.rows ++ (new_row f t first ∷ new_row f t (free_place b) ∷ [])) I.long ∙ sym h)
    (ap (λ (f : ℕ). glue (side f (glued_place b)) (side_at a.side) (gluing_of v.table)) I.long) refl (beside_names b I.names (side_at a.side) (row_free v I a R)))

-- names where one side comes before another
meet_names : (v : NamedTable) → IsNamedTable v → (a b : NumberedRow) → IsRowIn v a → side_at b.side ≡ side_before v.table.faces (gluing_of v.table) (side_at a.side) → name_of v.triangles (prev (side_at b.side)) ≡ name_of v.triangles (next (side_at a.side))
meet_names v I a b A e =
    ap (λ (x : Side). name_of v.triangles (prev x)) (e ∙ ap (λ (n : ℕ). side_before n (gluing_of v.table) (side_at a.side)) (sym I.long)) ∙ (before_ends I.names (side_at a.side) (row_free v I a A)).1

pub tip_table : (v : NamedTable) → IsNamedTable v → (a b : NumberedRow) → IsRowIn v a → IsRowIn v b → side_at b.side ≢ side_at a.side → side_at b.side ≡ side_before v.table.faces (gluing_of v.table) (side_at a.side) → (table : Table) (triangles : List Triangle) (rows : List Row) →
    Grown v table v.made (glue (side v.table.faces third) (side_at b.side) (glue (side v.table.faces second) (side_at a.side) (gluing_of v.table))) →
    let t : Triangle = (a.from, b.from, a.to) in let f = v.table.faces in
    triangles ≡ v.triangles ++ (t ∷ []) → rows ≡ without (side_at b.side) (without (side_at a.side) v.rows) ++ (new_row f t first ∷ []) → IsNamedTable (record { table = table; triangles = triangles; rows = rows; made = v.made })
tip_table v I a b A B ne j table triangles rows W e h =
    let t : Triangle = (a.from, b.from, a.to) in
    let q = triple (sym (row_from v a A)) (sym (row_from v b B)) (sym (row_end v a A)) in
    grown_table v I table v.made (glue (side v.table.faces third) (side_at b.side) (glue (side v.table.faces second) (side_at a.side) (gluing_of v.table))) triangles rows W (one_longer v.triangles triangles t e)
    (names_along (ap (λ (u : Triangle). v.triangles ++ (u ∷ [])) q ∙ sym e)
    (ap (λ (u : Triangle). without (side_at b.side) (without (side_at a.side) v.rows) ++ (new_row (length v.triangles) u first ∷ [])) q
    ∙ ap (λ (f : ℕ). without (side_at b.side) (without (side_at a.side) v.rows) ++ (new_row f t first ∷ [])) I.long ∙ sym h)
    (ap (λ (f : ℕ). glue (side f third) (side_at b.side) (glue (side f second) (side_at a.side) (gluing_of v.table))) I.long) refl
    (tip_names I.names (side_at a.side) (side_at b.side) (row_free v I a A) (row_free v I b B) ne (meet_names v I a b A j)))

-- the new triangle of an S, and all others, under a renaming
abbrev split_triangle : ℕ → ℕ → ℕ → ℕ → Triangle
split_triangle n p o q = (renamed n p p, renamed n p o, renamed n p q)

abbrev split_triangles : List Triangle → ℕ → ℕ → ℕ → ℕ → List Triangle
split_triangles ts n p o q = map (renamed_triangle (renamed n p)) ts ++ (split_triangle n p o q ∷ [])

abbrev split_rows : ℕ → List Row → ℕ → ℕ → ℕ → ℕ → List Row
split_rows f rest n p o q = map (renamed_row (renamed n p)) rest ++ (new_row f (split_triangle n p o q) first ∷ [])

four : {A : Type 0} (f : ℕ → ℕ → ℕ → ℕ → A) {n n' p p' o o' q q' : ℕ} → n ≡ n' → p ≡ p' → o ≡ o' → q ≡ q' → f n p o q ≡ f n' p' o' q'
four f a b c d = λ i. f (a i) (b i) (c i) (d i)

renamed_longer : (ts us : List Triangle) (rename : ℕ → ℕ) (t : Triangle) → us ≡ map (renamed_triangle rename) ts ++ (t ∷ []) → length us ≡ suc (length ts)
renamed_longer ts us rename t e = let a = ap {A = List Triangle} length e in let b = length-append (map (renamed_triangle rename) ts) (t ∷ []) in let c = length-map ts (renamed_triangle rename) in omega arith

pub split_table : (v : NamedTable) → IsNamedTable v → (b a : NumberedRow) → IsRowIn v b → IsRowIn v a → side_at b.side ≢ side_at a.side → (table : Table) (triangles : List Triangle) (rows : List Row) →
    Grown v table v.made (glue (side v.table.faces second) (side_at b.side) (glue (side v.table.faces third) (side_at a.side) (gluing_of v.table))) →
    let r = renamed b.from a.to in let t : Triangle = (r a.to, r a.from, r b.to) in let f = v.table.faces in
    triangles ≡ map (renamed_triangle r) v.triangles ++ (t ∷ []) → rows ≡ map (renamed_row r) (without (side_at b.side) (without (side_at a.side) v.rows)) ++ (new_row f t first ∷ []) →
    IsNamedTable (record { table = table; triangles = triangles; rows = rows; made = v.made })
split_table v I b a B A ne table triangles rows W e h =
    let r = renamed b.from a.to in
    let t : Triangle = (r a.to, r a.from, r b.to) in
    let rest = without (side_at b.side) (without (side_at a.side) v.rows) in
    grown_table v I table v.made (glue (side v.table.faces second) (side_at b.side) (glue (side v.table.faces third) (side_at a.side) (gluing_of v.table))) triangles rows W (renamed_longer v.triangles triangles r t e)
    (names_along
    (four (split_triangles v.triangles) (sym (row_from v b B)) (sym (row_end v a A)) (sym (row_from v a A)) (sym (row_end v b B)) ∙ sym e)
    (four (split_rows (length v.triangles) rest) (sym (row_from v b B)) (sym (row_end v a A)) (sym (row_from v a A)) (sym (row_end v b B))
    ∙ ap (λ (f : ℕ). split_rows f rest b.from a.to a.from b.to) I.long ∙ sym h)
    (ap (λ (f : ℕ). glue (side f second) (side_at b.side) (glue (side f third) (side_at a.side) (gluing_of v.table))) I.long) refl
    (split_names I.names (side_at b.side) (side_at a.side) (row_free v I b B) (row_free v I a A) ne))

-- the second and the third row of a loop of three differ
pub three_apart : {v : NamedTable} {a b c : NumberedRow} → IsThree v a b c → side_at c.side ≢ side_at b.side
three_apart {v} {a} {b} {c} T q = T.apart (sym q ∙ T.joined_again ∙ sym (ap (side_before v.table.faces (gluing_of v.table)) q) ∙ T.joined_round)

pub fill_table : (v : NamedTable) → IsNamedTable v → (a b c : NumberedRow) → IsThree v a b c → (table : Table) (triangles : List Triangle) (rows : List Row) →
    Grown v table v.made (glue (side v.table.faces third) (side_at c.side) (glue (side v.table.faces second) (side_at b.side) (glue (side v.table.faces first) (side_at a.side) (gluing_of v.table)))) →
    let t : Triangle = (b.from, a.to, a.from) in
    triangles ≡ v.triangles ++ (t ∷ []) → rows ≡ without (side_at c.side) (without (side_at b.side) (without (side_at a.side) v.rows)) → IsNamedTable (record { table = table; triangles = triangles; rows = rows; made = v.made })
fill_table v I a b c T table triangles rows W e h =
    let t : Triangle = (b.from, a.to, a.from) in
    let q = triple (sym (row_from v b T.two)) (sym (row_end v a T.one)) (sym (row_from v a T.one)) in
    let last : name_of v.triangles (next (side_at c.side)) ≡ name_of v.triangles (prev (side_at a.side)) =
    sym (before_ends I.names (side_at c.side) (row_free v I c T.three)).1
    ∙ ap (λ (x : Side). name_of v.triangles (prev x)) (ap (λ (n : ℕ). side_before n (gluing_of v.table) (side_at c.side)) I.long ∙ T.joined_round) in
    grown_table v I table v.made (glue (side v.table.faces third) (side_at c.side) (glue (side v.table.faces second) (side_at b.side) (glue (side v.table.faces first) (side_at a.side) (gluing_of v.table)))) triangles rows W
    (one_longer v.triangles triangles t e)
    (names_along (ap (λ (u : Triangle). v.triangles ++ (u ∷ [])) q ∙ sym e) (sym h)
    (ap (λ (f : ℕ). glue (side f third) (side_at c.side) (glue (side f second) (side_at b.side) (glue (side f first) (side_at a.side) (gluing_of v.table)))) I.long) refl
    (fill_names I.names (side_at a.side) (side_at b.side) (side_at c.side) (row_free v I a T.one) (row_free v I b T.two) (row_free v I c T.three) T.apart T.apart_again (three_apart T)
    (meet_names v I a b T.one T.joined) (meet_names v I b c T.two T.joined_again) last))

-- two equal names are two equal vertices
pub first_equal_is : (v : NamedTable) → IsNamedTable v → first_with_equal v.triangles v.table.faces ≡ first_degenerate v.table.faces (gluing_of v.table) v.table.faces
first_equal_is v I =
    let go : (n : ℕ) → n ≡ length v.triangles → first_with_equal v.triangles n ≡ first_degenerate n (gluing_of v.table) n = λ n e.
    ap (first_with_equal v.triangles) e ∙ first_is {x = alone v} (stands_alone v I) (length v.triangles) (omega arith) ∙ ap (λ (m : ℕ). first_degenerate m (gluing_of v.table) m) (sym e) in
    go v.table.faces (sym I.long)

-- rows by the numbers of their sides
pub any_listed : (v : ℕ) (rows : List NumberedRow) → list_any (λ (r : NumberedRow). r.from == v) rows ≡ list_any (λ (r : Row). r.from == v) (all_listed rows)
any_listed v [] = refl
any_listed v (r ∷ rows) = ap (λ (t : Bool). (r.from == v) || t) (any_listed v rows)
