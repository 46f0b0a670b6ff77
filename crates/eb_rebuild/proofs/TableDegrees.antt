-- The degrees kept beside a table, after each symbol.
use Rattle.std.proofs.Common.{◌≡◌, ◌≢◌, ℕ, suc, ◌+◌, ◌*◌, ◌<◌, ◌≤◌, min, Bool, true, ◌==◌, cond, is_none, IsTrue, OnOk, Some, false, replicate, List, [], ◌∷◌, ◌++◌, length, get_or, set, map, None, Result, Ok, Err, inl, inr, sym, refl, ap, ◌∙◌, subst, arith, length-append, eq-eqb}
use Rattle.std.specs.List.{list_any}
use Rattle.std.proofs.lemmas.Bool.{cases_Bool, cond-true, cond-false}
use Rattle.std.proofs.lemmas.List.{get_or_append_left, length-map, length-set, length-replicate}
use Rattle.drc_base.specs.declared.faults.Fault.{Fault}
use Rattle.drc_base.specs.declared.faults.Refusal.{Refusal}
use Rattle.drc_base.specs.declared.limits.TheConstants.{MAX_FACES}
use Rattle.corner_table.specs.Sides.{Side, first, second, third, side, side_at, number, next, prev, Gluing, unglued, glue, IsFree}
use Rattle.corner_table.specs.Fans.{Follows}
use Rattle.corner_table.specs.declared.symbols.Event.{Event}
use Rattle.corner_table.specs.Table.{Table, gluing_of, room_of, IsFreeIn, free_entry, other_at}
use Rattle.corner_table.proofs.Numbers.{number-lt, number-side_at, face-lt}
use Rattle.corner_table.proofs.Places.{option_tells}
use Rattle.corner_table.proofs.TableSteps.{get_or-replicate}
use Rattle.eb_machine.specs.declared.beside.Beside.{Beside}
use Rattle.eb_machine.specs.Beside.{glued_place, new_triangle}
use Rattle.eb_machine.specs.Degree.{degree, top_degree}
use Rattle.eb_machine.specs.Machine.{State, Plan, start}
use Rattle.eb_machine.specs.Named.{Triangle, Row, renamed, renamed_triangle}
use Rattle.eb_machine.specs.Shown.{name_of, row_named, AreNames}
use Rattle.eb_machine.proofs.Steps.{same_state}
use Rattle.eb_machine.proofs.NamedRules.{names_start, end_names, beside_names, tip_names, split_names}
use Rattle.eb_rebuild.specs.Kept.{StackValue, SplitsValue, kept_in, AreSidesBelow, first_side}
use Rattle.eb_rebuild.specs.KeptDegrees.{degree_raised, KeepsDegrees, KeepsList, DegreesValue, IsReady, NotesBeside, NotesTip, NotesSplit, with_room, after_end, after_beside, after_tip, after_split}
use Rattle.eb_rebuild.specs.Linked.{LinkValue, IsLinkState, state_of, is_top_free, is_live, Does, refused_by}
use Rattle.eb_rebuild.specs.Rebuilding.{Moves}
use Rattle.eb_rebuild.specs.NamedTables.{NamedTable, IsNamedTable}
use Rattle.eb_rebuild.proofs.Degrees.{among_any, degree_is}
use Rattle.eb_rebuild.proofs.Linking.{side_at_first}
use Rattle.eb_rebuild.proofs.Lists.{first_some}
use Rattle.eb_rebuild.proofs.NameDegrees.{count, count_small}
use Rattle.eb_rebuild.proofs.SymbolDegrees.{AreCounts, IsAround, end_counts, beside_counts, tip_counts, split_counts}

-- where a free side starts, the degree is the corners and one
degree_at_free : (v : NamedTable) → IsNamedTable v → (s : Side) → IsFreeIn v.table s → degree v.table.faces (gluing_of v.table) (next s) ≡ suc (count (name_of v.triangles (next s)) v.triangles)
degree_at_free v I s S =
    let name = name_of v.triangles (next s) in
    let F : IsFree (length v.triangles) (gluing_of v.table) s = subst (λ (n : ℕ). IsFree n (gluing_of v.table) s) (sym I.long) S in
    let starts : list_any (λ (r : Row). r.from == name) v.rows ≡ true = among_any (λ (r : Row). r.from == name) (row_named v.triangles s) v.rows (I.names.sides_are s F) (eq-eqb name name refl) in
    let one : ◌≡◌ {A = ℕ} (cond (list_any (λ (r : Row). r.from == name) v.rows) 1 0) 1 = cond-true (list_any (λ (r : Row). r.from == name) v.rows) 1 0 starts in
    let is = degree_is v I (next s) S.within in
    omega arith

named_of : (table : Table) (made : ℕ) (ts : List Triangle) (rows : List Row) → length ts ≡ table.faces → AreNames ts rows (gluing_of table) made → made ≤ 3 * table.faces → IsNamedTable (record { table = table; triangles = ts; rows = rows; made = made })
named_of table made ts rows long N few = record { long = long; names = N; few = few }

counts_of : {table : Table} {made : ℕ} {ds : List ℕ} → (W : KeepsDegrees table made ds) → made ≤ 3 * table.faces → AreCounts W.triangles (gluing_of table) ds
counts_of {table} {made} {ds} W few s S =
    let F : IsFreeIn table s = subst (λ (n : ℕ). IsFree n (gluing_of table) s) W.long S in
    W.kept s F ∙ degree_at_free (record { table = table; triangles = W.triangles; rows = W.rows; made = made }) (named_of table made W.triangles W.rows W.long W.names few) s F

keeps_of : (table : Table) (made : ℕ) (ds : List ℕ) (ts : List Triangle) (rows : List Row) (g : Gluing) → gluing_of table ≡ g → length ts ≡ table.faces → AreNames ts rows g made → made ≤ 3 * table.faces → AreCounts ts g ds → KeepsDegrees table made ds
keeps_of table made ds ts rows g e long M few L =
    let N : AreNames ts rows (gluing_of table) made = subst (λ (h : Gluing). AreNames ts rows h made) (sym e) M in
    let K : AreCounts ts (gluing_of table) ds = subst (λ (h : Gluing). AreCounts ts h ds) (sym e) L in
    record {
      triangles = ts;
      rows = rows;
      long = long;
      names = N;
      kept = λ s S. K s (subst (λ (n : ℕ). IsFree n (gluing_of table) s) (sym long) S)
          ∙ sym (degree_at_free (record { table = table; triangles = ts; rows = rows; made = made }) (named_of table made ts rows long N few) s S);
    }

-- a degree is at most one more than there are corners
pub degree_small : {table : Table} {made : ℕ} {ds : List ℕ} → KeepsDegrees table made ds → made ≤ 3 * table.faces → (s : Side) → IsFreeIn table s → get_or ds (number s) 0 ≤ 3 * table.faces + 1
degree_small {table} W few s S =
    let k = counts_of W few s (subst (λ (n : ℕ). IsFree n (gluing_of table) s) (sym W.long) S) in
    let b = count_small (name_of W.triangles (next s)) W.triangles in
    let l = W.long in
    omega arith

-- places for the sides of a face more change no degree
pub long_room : (faces : ℕ) (ds : List ℕ) → length ds ≡ 3 * faces → length (with_room ds) ≡ 3 * suc faces
long_room faces ds e = let h = length-append ds (2 ∷ 2 ∷ 2 ∷ []) in omega arith

pub keeps_room : {table : Table} {made : ℕ} {ds : List ℕ} → KeepsDegrees table made ds → length ds ≡ 3 * table.faces → KeepsDegrees table made (with_room ds)
keeps_room {table} {made} {ds} W e = record {
  triangles = W.triangles;
  rows = W.rows;
  long = W.long;
  names = W.names;
  kept = λ s S. get_or_append_left ds _ 0 (number s) (let n = number-lt s table.faces S.within in omega arith) ∙ W.kept s S;
}

-- nothing is built
pub keeps_start : (table : Table) (ds : List ℕ) → table.faces ≡ 0 → gluing_of table ≡ unglued → KeepsDegrees table 0 ds
keeps_start table ds e h = record {
  triangles = [];
  rows = [];
  long = sym e;
  names = subst (λ (g : Gluing). AreNames [] [] g 0) (sym h) names_start;
  kept = λ s S. absurd (let w = S.within in omega arith);
}

around : {table : Table} {made : ℕ} {ds : List ℕ} → (W : KeepsDegrees table made ds) → (a na : Side) → IsFreeIn table a → Follows table.faces (gluing_of table) a na → IsAround W.triangles W.rows (gluing_of table) made a na
around {table} W a na A F = record {
  names = W.names;
  free = subst (λ (n : ℕ). IsFree n (gluing_of table) a) (sym W.long) A;
  after_free = subst (λ (n : ℕ). IsFree n (gluing_of table) na) (sym W.long) F.free;
  meets = sym (W.names.one_name (prev a) (next na) F.meets);
}

one_longer : (us : List Triangle) (t : Triangle) (f : ℕ) (n : ℕ) → length us ≡ f → n ≡ suc f → length (us ++ (t ∷ [])) ≡ n
one_longer us t f n e h = let a = length-append us (t ∷ []) in omega arith

pub keeps_end : (old new : Table) (made : ℕ) (ds : List ℕ) → KeepsDegrees old made ds → made ≤ 3 * old.faces → new.faces ≡ suc old.faces → gluing_of new ≡ gluing_of old → 3 * suc old.faces ≤ length ds →
    KeepsDegrees new (made + 3) (after_end old.faces ds)
keeps_end old new made ds W few e h room =
    let ts = W.triangles in
    let l = W.long in
    let t : Triangle = (made, made + 1, made + 2) in
    subst (λ (n : ℕ). KeepsDegrees new (made + 3) (after_end n ds)) W.long
    (keeps_of new (made + 3) (after_end (length ts) ds) (ts ++ (t ∷ [])) _ (gluing_of old) h (one_longer ts t old.faces new.faces l e) (end_names W.names) (omega arith)
    (end_counts W.names ds (omega arith) (counts_of W few)))

pub keeps_beside : (b : Beside) (old new : Table) (made : ℕ) (ds : List ℕ) (a : ℕ) (na : Side) → KeepsDegrees old made ds → made ≤ 3 * old.faces → new.faces ≡ suc old.faces → gluing_of new ≡ glue (side old.faces (glued_place b)) (side_at a) (gluing_of old) →
    IsFreeIn old (side_at a) → Follows old.faces (gluing_of old) (side_at a) na → 3 * suc old.faces ≤ length ds → KeepsDegrees new (made + 1) (after_beside b old.faces a (number na) ds)
keeps_beside b old new made ds a na W few e h A F room =
    let ts = W.triangles in
    let l = W.long in
    let R = around W (side_at a) na A F in
    let t : Triangle = new_triangle b (name_of ts (next (side_at a))) (name_of ts (prev (side_at a))) made in
    subst (λ (m : ℕ). KeepsDegrees new (made + 1) (after_beside b old.faces m (number na) ds)) (number-side_at a)
    (subst (λ (n : ℕ). KeepsDegrees new (made + 1) (after_beside b n (number (side_at a)) (number na) ds)) W.long
    (keeps_of new (made + 1) (after_beside b (length ts) (number (side_at a)) (number na) ds) (ts ++ (t ∷ [])) _ (glue (side (length ts) (glued_place b)) (side_at a) (gluing_of old))
    (h ∙ ap (λ (n : ℕ). glue (side n (glued_place b)) (side_at a) (gluing_of old)) (sym l)) (one_longer ts t old.faces new.faces l e) (beside_names b W.names (side_at a) R.free) (omega arith)
    (beside_counts b (side_at a) na R ds (omega arith) (counts_of W few))))

pub keeps_tip : (old new : Table) (made : ℕ) (ds : List ℕ) (a b na : Side) → KeepsDegrees old made ds → made ≤ 3 * old.faces → new.faces ≡ suc old.faces →
    gluing_of new ≡ glue (side old.faces third) b (glue (side old.faces second) a (gluing_of old)) → IsFreeIn old a → IsFreeIn old b → b ≢ a → Follows old.faces (gluing_of old) b a → Follows old.faces (gluing_of old) a na → 3 * suc old.faces ≤ length ds →
    KeepsDegrees new made (after_tip old.faces (number b) (number na) ds)
keeps_tip old new made ds a b na W few e h A B ne before F room =
    let ts = W.triangles in
    let l = W.long in
    let R = around W a na A F in
    let C : IsFree (length ts) (gluing_of old) b = subst (λ (n : ℕ). IsFree n (gluing_of old) b) (sym l) B in
    let t : Triangle = (name_of ts (next a), name_of ts (next b), name_of ts (prev a)) in
    subst (λ (n : ℕ). KeepsDegrees new made (after_tip n (number b) (number na) ds)) W.long
    (keeps_of new made (after_tip (length ts) (number b) (number na) ds) (ts ++ (t ∷ [])) _ (glue (side (length ts) third) b (glue (side (length ts) second) a (gluing_of old)))
    (h ∙ ap (λ (n : ℕ). glue (side n third) b (glue (side n second) a (gluing_of old))) (sym l)) (one_longer ts t old.faces new.faces l e) (tip_names W.names a b R.free C ne (W.names.one_name (prev b) (next a) before.meets)) (omega arith)
    (tip_counts a b na R C ne ds (omega arith) (counts_of W few)))

pub keeps_split : (old new : Table) (made : ℕ) (ds : List ℕ) (b a : ℕ) (nb na : Side) → KeepsDegrees old made ds → made ≤ 3 * old.faces → new.faces ≡ suc old.faces →
    gluing_of new ≡ glue (side old.faces second) (side_at b) (glue (side old.faces third) (side_at a) (gluing_of old)) → IsFreeIn old (side_at b) → IsFreeIn old (side_at a) → side_at b ≢ side_at a →
    Follows old.faces (gluing_of old) (side_at b) nb → Follows old.faces (gluing_of old) (side_at a) na → 3 * suc old.faces ≤ length ds →
    KeepsDegrees new made (after_split old.faces b a (number nb) (number na) ds)
keeps_split old new made ds b a nb na W few e h B A ne G F room =
    let ts = W.triangles in
    let l = W.long in
    let V = around W (side_at b) nb B G in
    let R = around W (side_at a) na A F in
    let rename = renamed (name_of ts (next (side_at b))) (name_of ts (prev (side_at a))) in
    let t : Triangle = (rename (name_of ts (prev (side_at a))), rename (name_of ts (next (side_at a))), rename (name_of ts (prev (side_at b)))) in
    let us = map (renamed_triangle rename) ts in
    subst (λ (x : ℕ). KeepsDegrees new made (after_split old.faces x a (number nb) (number na) ds)) (number-side_at b)
    (subst (λ (x : ℕ). KeepsDegrees new made (after_split old.faces (number (side_at b)) x (number nb) (number na) ds)) (number-side_at a)
    (subst (λ (n : ℕ). KeepsDegrees new made (after_split n (number (side_at b)) (number (side_at a)) (number nb) (number na) ds)) W.long
    (keeps_of new made (after_split (length ts) (number (side_at b)) (number (side_at a)) (number nb) (number na) ds) (us ++ (t ∷ [])) _ (glue (side (length ts) second) (side_at b) (glue (side (length ts) third) (side_at a) (gluing_of old)))
    (h ∙ ap (λ (n : ℕ). glue (side n second) (side_at b) (glue (side n third) (side_at a) (gluing_of old))) (sym l)) (one_longer us t old.faces new.faces (length-map ts (renamed_triangle rename) ∙ l) e)
    (split_names W.names (side_at b) (side_at a) V.free R.free ne) (omega arith)
    (split_counts (side_at b) (side_at a) nb na V R ne ds (omega arith) (counts_of W few)))))

-- so it is a small number
pub small_at : {v : LinkValue} {ds : List ℕ} → IsLinkState v → v.table.faces < v.plan.symbols → KeepsDegrees v.table v.made ds → (s : Side) (n : ℕ) → n ≡ number s → IsFreeIn v.table s → get_or ds n 0 ≤ 3 * MAX_FACES
small_at {v} {ds} I more W s n e S =
    let d = degree_small W I.made s S in
    let l = I.limit in
    let f = I.fewer in
    let i = ap (λ (m : ℕ). get_or ds m 0) e in
    omega arith

-- there is a place for the sides of a face more
pub ready_at : {v : LinkValue} {d : DegreesValue} → IsLinkState v → v.table.faces < v.plan.symbols → v.table.faces < room_of v.table → KeepsList v.table v.made d → IsReady v.table d
ready_at {v} {d} I more wide W = record {
  places = (W.long, (let r = W.room in omega arith));
  small = λ s S. small_at I more W.keeps s (number s) refl S;
}

-- nor is one too great once there are these places
pub small_ready : {table : Table} {d : DegreesValue} → IsReady table d → (s : Side) (n : ℕ) → n ≡ number s → IsFreeIn table s → (items : List ℕ) → items ≡ with_room d.list → get_or items n 0 ≤ 3 * MAX_FACES
small_ready {table} {d} I s n at S items is =
    let low = number-lt s table.faces S.within in
    let long = I.places.0 in
    let same = ap (λ (l : List ℕ). get_or l n 0) is ∙ get_or_append_left d.list (2 ∷ 2 ∷ 2 ∷ []) 0 n (omega arith) ∙ ap (λ (m : ℕ). get_or d.list m 0) at in
    let small = I.small s S in
    omega arith

pub list_start : (table : Table) (d : DegreesValue) → table.faces ≡ 0 → gluing_of table ≡ unglued → d.list ≡ [] → 3 * room_of table ≤ d.room → KeepsList table 0 d
list_start table d e h none room = record {
  long = (let n = ap {A = List ℕ} length none in omega arith);
  room = room;
  keeps = keeps_start table d.list e h;
}

-- a list with places for a face more, some of which are written
long_places : (faces n : ℕ) (ds es : List ℕ) → length ds ≡ 3 * faces → n ≡ suc faces → length es ≡ length (with_room ds) → length es ≡ 3 * n
long_places faces n ds es l e h = let r = long_room faces ds l in omega arith

pub list_end : (old new : Table) (made : ℕ) (d e : DegreesValue) → KeepsList old made d → made ≤ 3 * old.faces → new.faces ≡ suc old.faces → gluing_of new ≡ gluing_of old → room_of new ≡ room_of old → e.room ≡ d.room →
    e.list ≡ after_end old.faces (with_room d.list) → KeepsList new (made + 3) e
list_end old new made d e W few f g wide room is =
    let r = with_room d.list in
    let one = set r (3 * old.faces) 2 in
    let two = set one (3 * old.faces + 1) 2 in
    record {
      long = long_places old.faces new.faces d.list e.list W.long f (ap {A = List ℕ} length is ∙ length-set two (3 * old.faces + 2) 2 ∙ length-set one (3 * old.faces + 1) 2 ∙ length-set r (3 * old.faces) 2);
      room = (let w = W.room in omega arith);
      keeps = subst (KeepsDegrees new (made + 3)) (sym is)
          (keeps_end old new made r (keeps_room W.keeps W.long) few f g (let l = long_room old.faces d.list W.long in omega arith));
    }

pub list_beside : (b : Beside) (old new : Table) (made : ℕ) (d e : DegreesValue) (a : ℕ) → KeepsList old made d → made ≤ 3 * old.faces → new.faces ≡ suc old.faces →
    gluing_of new ≡ glue (side old.faces (glued_place b)) (side_at a) (gluing_of old) → room_of new ≡ room_of old → IsFreeIn old (side_at a) → e.room ≡ d.room → NotesBeside old b a d e → KeepsList new (made + 1) e
list_beside b old new made d e a W few f g wide A room (na, F, is) =
    let r = with_room d.list in
    let more = degree_raised (number na) 1 r in
    let start = get_or more a 0 + 1 in
    let glued = side old.faces (glued_place b) in
    let one = set more (number (next glued)) start in
    record {
      long = long_places old.faces new.faces d.list e.list W.long f
          (ap {A = List ℕ} length is ∙ length-set one (number (prev glued)) 2 ∙ length-set more (number (next glued)) start ∙ length-set r (number na) (get_or r (number na) 0 + 1));
      room = (let w = W.room in omega arith);
      keeps = subst (KeepsDegrees new (made + 1)) (sym is)
          (keeps_beside b old new made r a na (keeps_room W.keeps W.long) few f g A F (let l = long_room old.faces d.list W.long in omega arith));
    }

pub list_tip : (old new : Table) (made : ℕ) (d e : DegreesValue) (a t : ℕ) (b : Side) → t ≡ number b → KeepsList old made d → made ≤ 3 * old.faces → new.faces ≡ suc old.faces →
    gluing_of new ≡ glue (side old.faces third) b (glue (side old.faces second) (side_at a) (gluing_of old)) → room_of new ≡ room_of old → IsFreeIn old (side_at a) → IsFreeIn old b → b ≢ side_at a →
    Follows old.faces (gluing_of old) b (side_at a) → e.room ≡ d.room → NotesTip old a t d e → KeepsList new made e
list_tip old new made d e a t b at W few f g wide A B ne before room (na, F, is) =
    let r = with_room d.list in
    let more = degree_raised (number na) 1 r in
    record {
      long = long_places old.faces new.faces d.list e.list W.long f
          (ap {A = List ℕ} length is ∙ length-set more (3 * old.faces) (get_or more t 0 + 1) ∙ length-set r (number na) (get_or r (number na) 0 + 1));
      room = (let w = W.room in omega arith);
      keeps = subst (KeepsDegrees new made) (sym (is ∙ ap (λ (n : ℕ). after_tip old.faces n (number na) r) at))
          (keeps_tip old new made r (side_at a) b na (keeps_room W.keeps W.long) few f g A B ne before F (let l = long_room old.faces d.list W.long in omega arith));
    }

pub list_split : (old new : Table) (made : ℕ) (d e : DegreesValue) (b a : ℕ) → KeepsList old made d → made ≤ 3 * old.faces → new.faces ≡ suc old.faces →
    gluing_of new ≡ glue (side old.faces second) (side_at b) (glue (side old.faces third) (side_at a) (gluing_of old)) → room_of new ≡ room_of old → IsFreeIn old (side_at b) → IsFreeIn old (side_at a) → side_at b ≢ side_at a →
    e.room ≡ d.room → NotesSplit old b a d e → KeepsList new made e
list_split old new made d e b a W few f g wide B A ne room (nb, na, G, F, is) =
    let r = with_room d.list in
    let one = degree_raised (number nb) 1 r in
    let merged = degree_raised (number na) (get_or one b 0) one in
    record {
      long = long_places old.faces new.faces d.list e.list W.long f
          (ap {A = List ℕ} length is ∙ length-set merged (3 * old.faces) (get_or merged a 0 + 1) ∙ length-set one (number na) (get_or one (number na) 0 + get_or one b 0) ∙ length-set r (number nb) (get_or r (number nb) 0 + 1));
      room = (let w = W.room in omega arith);
      keeps = subst (KeepsDegrees new made) (sym is)
          (keeps_split old new made r b a nb na (keeps_room W.keeps W.long) few f g B A ne G F (let l = long_room old.faces d.list W.long in omega arith));
    }

-- the top side after a symbol is side 0 of its face
pub live_top : (table : Table) (sides : List ℕ) (closes f : ℕ) (rest : List ℕ) (r : Result (Unit {0}) Fault) → sides ≡ (3 * f) ∷ rest → gluing_of table (side f first) ≡ None →
    OnOk r (IsTrue (cond (closes == 0) (is_top_free (gluing_of table) sides) true))
live_top table sides closes f rest r e h = on_ok r (elim (cases_Bool (closes == 0)) [
  | inl t ↦ cond-true (closes == 0) (is_top_free (gluing_of table) sides) true t ∙ ap (is_top_free (gluing_of table)) e ∙ ap (λ (x : Side). is_none (gluing_of table x)) (side_at_first f) ∙ ap is_none h
  | inr t ↦ cond-false (closes == 0) (is_top_free (gluing_of table) sides) true t
])
  where
    on_ok : (r : Result (Unit {0}) Fault) → IsTrue (cond (closes == 0) (is_top_free (gluing_of table) sides) true) → OnOk r (IsTrue (cond (closes == 0) (is_top_free (gluing_of table) sides) true))
    on_ok (Ok u) h = h
    on_ok (Err x) h = tt

-- a step, and that it leaves a live value, is what a call answers
pub moves_of : (next : Result State Fault) (t : State) (live : Bool) (done : Result (Unit {0}) Fault) (r : Result (Unit {0}) Refusal) → r ≡ refused_by done → Does next t done → OnOk done (IsTrue live) → Moves next t live r
moves_of next t live (Ok u) r e d l = subst (Moves next t live) (sym e) (d, l)
moves_of next t live (Err f) r e d l = subst (Moves next t live) (sym e) d

-- the top degree is read at the top side
is_none_true : (g : Gluing) (x : Side) → is_none (g x) ≡ true → g x ≡ None
is_none_true g x e = elim (option_tells (g x)) [ inl n ↦ n | inr y ↦ absurd (let no : false ≡ true = sym (ap is_none y.1) ∙ e in cc) ]

pub top_degree_is : (v : LinkValue) (ds : List ℕ) (a : ℕ) → IsLinkState v → v.closes ≡ 0 → KeepsDegrees v.table v.made ds → is_live v ≡ true → Some a ≡ first_side v.stack.sides → get_or ds a 0 ≡ top_degree (state_of v)
top_degree_is v ds a I none W live e =
    let u = first_some v.stack.sides a e in
    let top : is_top_free (gluing_of v.table) v.stack.sides ≡ true = sym (cond-true (v.closes == 0) (is_top_free (gluing_of v.table) v.stack.sides) true (eq-eqb v.closes 0 none)) ∙ live in
    let free : gluing_of v.table (side_at a) ≡ None = is_none_true (gluing_of v.table) (side_at a) (ap (is_top_free (gluing_of v.table)) (sym u.1) ∙ top) in
    let below = subst (AreSidesBelow v.table.faces) u.1 I.sides in
    ap (λ (n : ℕ). get_or ds n 0) (sym (number-side_at a))
    ∙ W.kept (side_at a) (record { within = face-lt a v.table.faces below.0; free = free })
    ∙ ap (λ (l : List ℕ). top_degree (record (state_of v) { stack = map side_at l })) (sym u.1)

pub top_below : (v : LinkValue) (a : ℕ) → IsLinkState v → Some a ≡ first_side v.stack.sides → a < 3 * v.table.faces
top_below v a I e = let u = first_some v.stack.sides a e in (subst (AreSidesBelow v.table.faces) u.1 I.sides).0

-- what is made has nothing built
none_kept : (n k : ℕ) → kept_in (replicate n free_entry) k ≡ None
none_kept n k = ap other_at (get_or-replicate n free_entry k)

pub start_state : (table : Table) (sides kept : List ℕ) (left events : List Event) (n : ℕ) → table.faces ≡ 0 → gluing_of table ≡ unglued → sides ≡ [] → kept ≡ replicate n free_entry → left ≡ events →
    ◌≡◌ {A = State} (record { built = table.faces; glued = gluing_of table; stack = map side_at sides; reserved = kept_in kept; events = left; made = 0; closes = 0 }) (start events)
start_state table sides kept left events n a b c d e = same_state a b (ap (map side_at) c) (ap kept_in d ∙ (λ i k. none_kept n k i)) e refl refl

pub start_link : (plan : Plan) (table : Table) (stack : StackValue) (splits : SplitsValue) (has_degrees : Bool) → plan.faces ≤ MAX_FACES → plan.symbols ≤ plan.faces → room_of table ≤ plan.faces → stack.sides ≡ [] → stack.room ≡ min plan.symbols (room_of table) → splits.kept ≡ replicate plan.symbols free_entry →
    IsLinkState (record { plan = plan; table = table; stack = stack; splits = splits; made = 0; closes = 0; has_degrees = has_degrees })
start_link plan table stack splits has_degrees limit fewer room none wide kept =
    let l = ap {A = List ℕ} length none in
    record {
      limit = limit;
      room = room;
      fewer = fewer;
      slots = ap {A = List ℕ} length kept ∙ length-replicate plan.symbols free_entry;
      stack_room = wide;
      low = omega arith;
      few = omega arith;
      sides = subst (AreSidesBelow table.faces) (sym none) tt;
      kept = λ k ne. absurd (ne (ap (λ (l : List ℕ). get_or l k free_entry) kept ∙ get_or-replicate plan.symbols free_entry k));
      made = omega arith;
    }
