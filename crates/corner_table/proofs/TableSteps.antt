-- What a new face and a gluing do to the lists of a table.
use Rattle.std.proofs.Common.{◌≡◌, ◌≢◌, ℕ, zero, suc, ◌+◌, ◌-◌, ◌*◌, ◌/◌, ◌<◌, ◌≤◌, Bool, true, false, cond, eqb, List, [], ◌∷◌, ◌++◌, length, length-append, get_or, set, replicate, Some, inl, inr, sym, refl, ap, ◌∙◌, subst, arith, length-set, get_or-set_other, get_or-set_same, eqb-true}
use Rattle.std.proofs.lemmas.List.{get_or_append_left, set-append_right}
use Rattle.std.proofs.lemmas.Bool.{cases_Bool, cond-false, cases_eq}
use mathlib.Core.Path.{fun_ext}
use Rattle.drc_base.specs.declared.limits.TheConstants.{MAX_FACES}
use Rattle.corner_table.specs.Sides.{Side, Place, first, second, third, side, next, prev, number, side_at, Gluing, unglued, glue, IsGluing, IsFree}
use Rattle.corner_table.specs.Fans.{InFan, here, side_before, side_after, Follows}
use Rattle.corner_table.specs.Links.{IsLinked, joined, relinked, new_loop, grown}
use Rattle.corner_table.specs.Entries.{with_three}
use Rattle.corner_table.specs.Table.{free_entry, other_at, glued_in, IsSideTable, IsLinkedTable}
use Rattle.corner_table.proofs.Places.{face_apart, glue_tells, at_first, at_second, elsewhere}
use Rattle.corner_table.proofs.Numbers.{number-lt, side_at-number}
use Rattle.corner_table.proofs.Boundary.{side_after-follows, side_after_only, side_before-follows, side_before_only}
use Rattle.corner_table.proofs.Gluings.{more_faces, new_free, glued_is, unglued_is}
use Rattle.corner_table.proofs.LinkSteps.{number_apart, read_here, read_else}
use Rattle.corner_table.proofs.LinkLists.{relinked_linked}

-- free among more faces, and not in the new one: free among those before
pub free_old : {faces : ℕ} {g : Gluing} (x : Side) → x.face < faces → IsFree (suc faces) g x → IsFree faces g x
free_old x h X = record { within = h; free = X.free }

pub free_more : {faces : ℕ} {g : Gluing} (x : Side) → IsFree faces g x → IsFree (suc faces) g x
free_more x X = record { within = (let h = X.within in omega arith); free = X.free }

pub follows_more : {faces : ℕ} {g : Gluing} (x y : Side) → Follows faces g x y → Follows (suc faces) g x y
follows_more x y F = record { free = free_more y F.free; meets = F.meets }

-- one more face changes no side's neighbours
pub after_more : {faces : ℕ} {g : Gluing} → IsGluing faces g → (x : Side) → IsFree faces g x → side_after (suc faces) g x ≡ side_after faces g x
after_more {faces} {g} G x X =
    sym (side_after_only (more_faces (suc faces) (omega arith) G) x (side_after faces g x) (free_more x X) (follows_more x (side_after faces g x) (side_after-follows G x X)))

pub before_more : {faces : ℕ} {g : Gluing} → IsGluing faces g → (x : Side) → IsFree faces g x → side_before (suc faces) g x ≡ side_before faces g x
before_more {faces} {g} G x X =
    let f = side_before-follows G x X in
    sym (side_before_only (more_faces (suc faces) (omega arith) G) (side_before faces g x) x (free_more (side_before faces g x) f.0) (follows_more (side_before faces g x) x f.1))

-- the sides of a new face
pub new_side : {faces : ℕ} {g : Gluing} → IsGluing faces g → (k : Place) → IsFree (suc faces) g (side faces k)
new_side {faces} G k = record { within = omega arith; free = new_free G (side faces k) (omega arith) }

pub new_follows : {faces : ℕ} {g : Gluing} → IsGluing faces g → (j k : Place) → prev (side faces j) ≡ next (side faces k) → Follows (suc faces) g (side faces j) (side faces k)
new_follows {faces} {g} G j k e = record { free = new_side G k; meets = subst (InFan g (prev (side faces j))) e here }

pub new_after : {faces : ℕ} {g : Gluing} → IsGluing faces g → (j k : Place) → prev (side faces j) ≡ next (side faces k) → side_after (suc faces) g (side faces j) ≡ side faces k
new_after {faces} {g} G j k e = sym (side_after_only (more_faces (suc faces) (omega arith) G) (side faces j) (side faces k) (new_side G j) (new_follows G j k e))

pub new_before : {faces : ℕ} {g : Gluing} → IsGluing faces g → (j k : Place) → prev (side faces j) ≡ next (side faces k) → side_before (suc faces) g (side faces k) ≡ side faces j
new_before {faces} {g} G j k e = sym (side_before_only (more_faces (suc faces) (omega arith) G) (side faces j) (side faces k) (new_side G j) (new_follows G j k e))

of_face : (x : Side) (f : ℕ) (k : Place) → x.face ≡ f → x.place ≡ k → x ≡ side f k
of_face x f k e h = ap (λ (n : ℕ). side n x.place) e ∙ ap (side f) h

-- three writes for the sides of one face, read at each of them and elsewhere
module _ (f : ℕ) (l : List ℕ) (u v w : ℕ) (p q r : Place) where
  abbrev pub thrice : List ℕ
  thrice = set (set (set l (number (side f p)) u) (number (side f q)) v) (number (side f r)) w

  pub thrice_else : (x : Side) → (x.face ≡ f → ⊥) → get_or thrice (number x) 0 ≡ get_or l (number x) 0
  thrice_else x h =
      read_else (set (set l (number (side f p)) u) (number (side f q)) v) (side f r) x w (face_apart x (side f r) h)
      ∙ read_else (set l (number (side f p)) u) (side f q) x v (face_apart x (side f q) h)
      ∙ read_else l (side f p) x u (face_apart x (side f p) h)

  pub thrice_third : 3 * suc f ≤ length l → get_or thrice (number (side f r)) 0 ≡ w
  thrice_third h =
      let e = length-set (set l (number (side f p)) u) (number (side f q)) v in
      let d = length-set l (number (side f p)) u in
      read_here (set (set l (number (side f p)) u) (number (side f q)) v) (side f r) w (suc f) (omega arith) (omega arith)

  pub thrice_second : 3 * suc f ≤ length l → (q ≡ r → ⊥) → get_or thrice (number (side f q)) 0 ≡ v
  thrice_second h ne =
      let d = length-set l (number (side f p)) u in
      read_else (set (set l (number (side f p)) u) (number (side f q)) v) (side f r) (side f q) w (λ e. ne (ap (λ (x : Side). x.place) e))
      ∙ read_here (set l (number (side f p)) u) (side f q) v (suc f) (omega arith) (omega arith)

  pub thrice_first : 3 * suc f ≤ length l → (p ≡ q → ⊥) → (p ≡ r → ⊥) → get_or thrice (number (side f p)) 0 ≡ u
  thrice_first h ne far =
      read_else (set (set l (number (side f p)) u) (number (side f q)) v) (side f r) (side f p) w (λ e. far (ap (λ (x : Side). x.place) e))
      ∙ read_else (set l (number (side f p)) u) (side f q) (side f p) v (λ e. ne (ap (λ (x : Side). x.place) e))
      ∙ read_here l (side f p) u (suc f) (omega arith) h

-- the links after a new face
abbrev after_list : ℕ → List ℕ → List ℕ
after_list f A = thrice f A (number (side f second)) (number (side f third)) (number (side f first)) first second third

abbrev before_list : ℕ → List ℕ → List ℕ
before_list f B = thrice f B (number (side f first)) (number (side f second)) (number (side f third)) second third first

after_new : (f : ℕ) (g : Gluing) (A : List ℕ) → IsGluing f g → 3 * suc f ≤ length A → (k : Place) → get_or (after_list f A) (number (side f k)) 0 ≡ number (side_after (suc f) g (side f k))
after_new f g A G h first = thrice_first f A _ _ _ first second third h (λ e. (cc)) (λ e. (cc)) ∙ ap number (sym (new_after G first second refl))
after_new f g A G h second = thrice_second f A _ _ _ first second third h (λ e. (cc)) ∙ ap number (sym (new_after G second third refl))
after_new f g A G h third = thrice_third f A _ _ _ first second third h ∙ ap number (sym (new_after G third first refl))

before_new : (f : ℕ) (g : Gluing) (B : List ℕ) → IsGluing f g → 3 * suc f ≤ length B → (k : Place) → get_or (before_list f B) (number (side f k)) 0 ≡ number (side_before (suc f) g (side f k))
before_new f g B G h second = thrice_first f B _ _ _ second third first h (λ e. (cc)) (λ e. (cc)) ∙ ap number (sym (new_before G first second refl))
before_new f g B G h third = thrice_second f B _ _ _ second third first h (λ e. (cc)) ∙ ap number (sym (new_before G second third refl))
before_new f g B G h first = thrice_third f B _ _ _ second third first h ∙ ap number (sym (new_before G third first refl))

pub new_loop_linked : (f : ℕ) (g : Gluing) (A B : List ℕ) → IsGluing f g → IsLinked f g A B → 3 * suc f ≤ length A → 3 * suc f ≤ length B →
    IsLinked (suc f) g (new_loop f (A, B)).0 (new_loop f (A, B)).1
new_loop_linked f g A B G N h k = record { after_is = after_is; before_is = before_is }
  where
    after_is : (x : Side) → IsFree (suc f) g x → get_or (after_list f A) (number x) 0 ≡ number (side_after (suc f) g x)
    after_is x X = elim (cases_eq x.face f) [
      | inl e ↦ (
          let q : side f x.place ≡ x = ap (λ (n : ℕ). side n x.place) (sym e) in
          subst (λ (w : Side). get_or (after_list f A) (number w) 0 ≡ number (side_after (suc f) g w)) q (after_new f g A G h x.place))
      | inr m ↦ (
          let O : IsFree f g x = free_old x (let w = X.within in omega arith) X in
          thrice_else f A _ _ _ first second third x m ∙ N.after_is x O ∙ ap number (sym (after_more G x O)))
    ]

    before_is : (x : Side) → IsFree (suc f) g x → get_or (before_list f B) (number x) 0 ≡ number (side_before (suc f) g x)
    before_is x X = elim (cases_eq x.face f) [
      | inl e ↦ (
          let q : side f x.place ≡ x = ap (λ (n : ℕ). side n x.place) (sym e) in
          subst (λ (w : Side). get_or (before_list f B) (number w) 0 ≡ number (side_before (suc f) g w)) q (before_new f g B G k x.place))
      | inr m ↦ (
          let O : IsFree f g x = free_old x (let w = X.within in omega arith) X in
          thrice_else f B _ _ _ second third first x m ∙ N.before_is x O ∙ ap number (sym (before_more G x O)))
    ]

-- the entry of a side within the limit is no free entry
pub entry_taken : (b : Side) (faces : ℕ) → b.face < faces → 3 * faces ≤ 3 * MAX_FACES → other_at (number b) ≡ Some b
entry_taken b faces h l =
    let n = number-lt b faces h in
    elim (cases_Bool (eqb (number b) free_entry)) [
      | inl t ↦ absurd (let e = eqb-true (number b) free_entry t in omega arith)
      | inr t ↦ cond-false _ _ _ t ∙ ap {A = Side} Some (side_at-number b)
    ]

-- two writes glue two sides
pub glued_in-set : (l : List ℕ) (a b : Side) (faces : ℕ) → a.face < faces → b.face < faces → a ≢ b → 3 * faces ≤ length l → 3 * faces ≤ 3 * MAX_FACES →
    glued_in (set (set l (number a) (number b)) (number b) (number a)) ≡ glue a b (glued_in l)
glued_in-set l a b faces h k ne room most = fun_ext at
  where
    l1 : List ℕ
    l1 = set l (number a) (number b)

    long : 3 * faces ≤ length (set l (number a) (number b))
    long = let e = length-set l (number a) (number b) in omega arith

    in_first : number a < length l
    in_first = let n = number-lt a faces h in omega arith

    in_second : number b < length (set l (number a) (number b))
    in_second = let n = number-lt b faces k in let e = length-set l (number a) (number b) in omega arith

    at : (x : Side) → glued_in (set (set l (number a) (number b)) (number b) (number a)) x ≡ glue a b (glued_in l) x
    at x = elim (glue_tells a b x (glued_in l)) [
      | at_first e q ↦
          ap (λ (z : Side). glued_in (set (set l (number a) (number b)) (number b) (number a)) z) e
          ∙ ap other_at (get_or-set_other (set l (number a) (number b)) (number b) (number a) (number a) free_entry (number_apart a b ne) ∙ get_or-set_same l (number a) (number b) free_entry in_first)
          ∙ entry_taken b faces k most ∙ sym q
      | at_second m e q ↦
          ap (λ (z : Side). glued_in (set (set l (number a) (number b)) (number b) (number a)) z) e
          ∙ ap other_at (get_or-set_same (set l (number a) (number b)) (number b) (number a) free_entry in_second)
          ∙ entry_taken a faces h most ∙ sym q
      | elsewhere m n q ↦
          ap other_at (get_or-set_other (set l (number a) (number b)) (number b) (number x) (number a) free_entry (number_apart x b n)
          ∙ get_or-set_other l (number a) (number x) (number b) free_entry (number_apart x a m))
          ∙ sym q
    ]

-- what a free side's links lead to lies within the lists
pub next_within : {faces : ℕ} {across after before : List ℕ} → IsLinkedTable faces across after before → (x : Side) → IsFree faces (glued_in across) x → get_or after (number x) 0 < 3 * faces
next_within T x X = let e = T.linked.after_is x X in let n = number-lt (side_after _ _ x) _ (side_after-follows T.table.gluing x X).free.within in omega arith

pub previous_within : {faces : ℕ} {across after before : List ℕ} → IsLinkedTable faces across after before → (x : Side) → IsFree faces (glued_in across) x → get_or before (number x) 0 < 3 * faces
previous_within T x X = let e = T.linked.before_is x X in let n = number-lt (side_before _ _ x) _ (side_before-follows T.table.gluing x X).0.within in omega arith

-- the table with one more face
pub table_grown : {faces : ℕ} {across : List ℕ} → IsSideTable faces across → 3 * suc faces ≤ length across → IsSideTable (suc faces) across
table_grown {faces} T h = record { limit = T.limit; whole = T.whole; fits = h; gluing = more_faces (suc faces) (omega arith) T.gluing }

-- more room leaves the links as they are
links_roomier : {f : ℕ} {g : Gluing} {A B : List ℕ} → IsLinked f g A B → length A ≡ 3 * f → length B ≡ 3 * f → IsLinked f g (with_three A 0 0 0) (with_three B 0 0 0)
links_roomier {f} {g} {A} {B} N a b = record {
  after_is = λ x X. get_or_append_left A _ 0 (number x) (let n = number-lt x f X.within in omega arith) ∙ N.after_is x X;
  before_is = λ x X. get_or_append_left B _ 0 (number x) (let n = number-lt x f X.within in omega arith) ∙ N.before_is x X;
}

length-three : (l : List ℕ) (a b d n : ℕ) → length l ≡ n → length (with_three l a b d) ≡ n + 3
length-three l a b d n e = let h = length-append l (a ∷ b ∷ d ∷ []) in omega arith

-- the entries of a new face, added or written into the room for them
set_in : (l m : List ℕ) (n i j v : ℕ) → length l ≡ n → i ≡ n + j → set (l ++ m) i v ≡ l ++ set m j v
set_in l m n i j v e h = set-append_right l m n i v e (omega arith) ∙ ap (λ (k : ℕ). l ++ set m k v) (let r : i - n ≡ j = omega arith in r)

pub after_added : (f : ℕ) (A B : List ℕ) → length A ≡ 3 * f → with_three A (3 * f + 1) (3 * f + 2) (3 * f) ≡ (new_loop f (grown (A, B))).0
after_added f A B e =
    sym (ap (λ (l : List ℕ). set (set l (number (side f second)) (number (side f third))) (number (side f third)) (number (side f first))) (set_in A (0 ∷ 0 ∷ 0 ∷ []) (3 * f) (number (side f first)) 0 (3 * f + 1) e (omega arith))
    ∙ ap (λ (l : List ℕ). set l (number (side f third)) (number (side f first))) (set_in A ((3 * f + 1) ∷ 0 ∷ 0 ∷ []) (3 * f) (number (side f second)) 1 (3 * f + 2) e (omega arith))
    ∙ set_in A ((3 * f + 1) ∷ (3 * f + 2) ∷ 0 ∷ []) (3 * f) (number (side f third)) 2 (number (side f first)) e (omega arith)
    ∙ ap (with_three A (3 * f + 1) (3 * f + 2)) (let r : number (side f first) ≡ 3 * f = omega arith in r))

pub before_added : (f : ℕ) (A B : List ℕ) → length B ≡ 3 * f → with_three B (3 * f + 2) (3 * f) (3 * f + 1) ≡ (new_loop f (grown (A, B))).1
before_added f A B e =
    sym (ap (λ (l : List ℕ). set (set l (number (side f third)) (number (side f second))) (number (side f first)) (number (side f third))) (set_in B (0 ∷ 0 ∷ 0 ∷ []) (3 * f) (number (side f second)) 1 (number (side f first)) e (omega arith))
    ∙ ap (λ (l : List ℕ). set l (number (side f first)) (number (side f third))) (set_in B (0 ∷ number (side f first) ∷ 0 ∷ []) (3 * f) (number (side f third)) 2 (3 * f + 1) e (omega arith))
    ∙ set_in B (0 ∷ number (side f first) ∷ (3 * f + 1) ∷ []) (3 * f) (number (side f first)) 0 (3 * f + 2) e (omega arith)
    ∙ ap (λ (n : ℕ). with_three B (3 * f + 2) n (3 * f + 1)) (let r : number (side f first) ≡ 3 * f = omega arith in r))

-- and with its links
pub links_grown : {faces : ℕ} {across after before : List ℕ} → IsLinkedTable faces across after before → 3 * suc faces ≤ length across →
    IsLinkedTable (suc faces) across (new_loop faces (grown (after, before))).0 (new_loop faces (grown (after, before))).1
links_grown {faces} {across} {after} {before} T h = record {
  table = table_grown T.table h;
  each_after = length-set _ _ _ ∙ length-set _ _ _ ∙ length-set _ _ _ ∙ length-three after 0 0 0 (3 * faces) T.each_after ∙ (omega arith);
  each_before = length-set _ _ _ ∙ length-set _ _ _ ∙ length-set _ _ _ ∙ length-three before 0 0 0 (3 * faces) T.each_before ∙ (omega arith);
  linked = new_loop_linked faces (glued_in across) (with_three after 0 0 0) (with_three before 0 0 0) T.table.gluing (links_roomier T.linked T.each_after T.each_before)
      (let e = length-three after 0 0 0 (3 * faces) T.each_after in omega arith) (let e = length-three before 0 0 0 (3 * faces) T.each_before in omega arith);
}

abbrev same_lengths : ℕ → List ℕ × List ℕ → Type 0
same_lengths n links = (length links.0 ≡ n) × (length links.1 ≡ n)

joined-lengths : (n x y : ℕ) (links : List ℕ × List ℕ) → same_lengths n links → same_lengths n (joined x y links)
joined-lengths n x y links h = (length-set links.0 x y ∙ h.0, length-set links.1 y x ∙ h.1)

relinked-lengths : (n a b : ℕ) (links : List ℕ × List ℕ) → same_lengths n links → same_lengths n (relinked a b links)
relinked-lengths n a b links h =
    both (eqb (get_or links.0 a 0) a) _ _ (both (eqb (get_or links.0 b 0) b) _ _ h (joined-lengths n _ _ links h))
    (both (eqb (get_or links.0 b 0) b) _ _ (joined-lengths n _ _ links h) (joined-lengths n _ _ (joined _ _ links) (joined-lengths n _ _ links h)))
  where
    both : (t : Bool) (x y : List ℕ × List ℕ) → same_lengths n x → same_lengths n y → same_lengths n (cond t x y)
    both true x y p q = p
    both false x y p q = q

-- the table with two sides glued
pub table_glued : {faces : ℕ} {across : List ℕ} (a b : Side) → IsSideTable faces across → IsFree faces (glued_in across) a → IsFree faces (glued_in across) b → a.face ≢ b.face →
    IsSideTable faces (set (set across (number a) (number b)) (number b) (number a))
table_glued {faces} {across} a b T A B h = record {
  limit = (let e = longs in let l = T.limit in omega arith);
  whole = (let e = longs in let w = T.whole in omega arith);
  fits = (let e = longs in let l = T.fits in omega arith);
  gluing = subst (IsGluing faces) (sym same) (glued_is a b T.gluing A B h);
}
  where
    longs : length (set (set across (number a) (number b)) (number b) (number a)) ≡ length across
    longs = length-set (set across (number a) (number b)) (number b) (number a) ∙ length-set across (number a) (number b)

    same : glued_in (set (set across (number a) (number b)) (number b) (number a)) ≡ glue a b (glued_in across)
    same = glued_in-set across a b faces A.within B.within (face_apart a b h) T.fits (let l = T.limit in let m = T.fits in omega arith)

-- and with its links, where the entries give the new gluing
pub links_glued : {faces : ℕ} {across now after before : List ℕ} (a b : Side) → IsLinkedTable faces across after before → IsFree faces (glued_in across) a → IsFree faces (glued_in across) b → a.face ≢ b.face →
    length now ≡ length across → glued_in now ≡ glue a b (glued_in across) →
    IsLinkedTable faces now (relinked (number a) (number b) (after, before)).0 (relinked (number a) (number b) (after, before)).1
links_glued {faces} {across} {now} {after} {before} a b T A B h long same = record {
  table = record {
    limit = (let l = T.table.limit in omega arith);
    whole = (let w = T.table.whole in omega arith);
    fits = (let l = T.table.fits in omega arith);
    gluing = subst (IsGluing faces) (sym same) (glued_is a b T.table.gluing A B h);
  };
  each_after = (relinked-lengths (3 * faces) _ _ (after, before) (T.each_after, T.each_before)).0;
  each_before = (relinked-lengths (3 * faces) _ _ (after, before) (T.each_after, T.each_before)).1;
  linked = subst (λ (g : Gluing). IsLinked faces g (relinked (number a) (number b) (after, before)).0 (relinked (number a) (number b) (after, before)).1) (sym same)
      (relinked_linked faces (glued_in across) a b after before (record {
        gluing = T.table.gluing;
        first_free = A;
        second_free = B;
        apart = h;
        linked = T.linked;
        room_after = (let e = T.each_after in omega arith);
        room_before = (let e = T.each_before in omega arith);
      }));
}

-- the entries of a table, from what a table states of itself
pub table_told : {faces room : ℕ} {across : List ℕ} → length across ≡ 3 * room → room ≤ MAX_FACES → faces ≤ room → IsGluing faces (glued_in across) → IsSideTable faces across
table_told e m f G = record { limit = omega arith; whole = omega arith; fits = omega arith; gluing = G }

-- the empty table
pub get_or-replicate : (n v i : ℕ) → get_or (replicate n v) i v ≡ v
get_or-replicate zero v i = refl
get_or-replicate (suc n) v zero = refl
get_or-replicate (suc n) v (suc i) = get_or-replicate n v i

pub glued_in-replicate : (n : ℕ) → glued_in (replicate n free_entry) ≡ unglued
glued_in-replicate n = fun_ext (λ x. ap other_at (get_or-replicate n free_entry (number x)))

pub length-replicate : (n v : ℕ) → length (replicate n v) ≡ n
length-replicate zero v = refl
length-replicate (suc n) v = ap suc (length-replicate n v)

pub table_empty : (room : ℕ) → room ≤ MAX_FACES → IsSideTable 0 (replicate (3 * room) free_entry)
table_empty room h = record {
  limit = (let e = length-replicate (3 * room) free_entry in omega arith);
  whole = (let e = length-replicate (3 * room) free_entry in omega arith);
  fits = omega arith;
  gluing = subst (IsGluing 0) (sym (glued_in-replicate (3 * room))) (unglued_is 0);
}

-- with links, where it has no faces
pub links_empty : {faces : ℕ} {across after before : List ℕ} → IsSideTable faces across → faces ≡ 0 → length after ≡ 0 → length before ≡ 0 → IsLinkedTable faces across after before
links_empty T none a b = record {
  table = T;
  each_after = omega arith;
  each_before = omega arith;
  linked = record { after_is = λ x X. absurd (let w = X.within in omega arith); before_is = λ x X. absurd (let w = X.within in omega arith) };
}

-- what the links of a free side say
pub next_is : {faces : ℕ} {across after before : List ℕ} → IsLinkedTable faces across after before → (x : Side) → IsFree faces (glued_in across) x → side_at (get_or after (number x) 0) ≡ side_after faces (glued_in across) x
next_is {faces} {across} T x X = ap side_at (T.linked.after_is x X) ∙ side_at-number (side_after faces (glued_in across) x)

pub previous_is : {faces : ℕ} {across after before : List ℕ} → IsLinkedTable faces across after before → (x : Side) → IsFree faces (glued_in across) x → side_at (get_or before (number x) 0) ≡ side_before faces (glued_in across) x
previous_is {faces} {across} T x X = ap side_at (T.linked.before_is x X) ∙ side_at-number (side_before faces (glued_in across) x)

-- an entry that isn't free is a side of one of the faces
pub entry_within : {faces : ℕ} {across : List ℕ} → IsSideTable faces across → (x : Side) (v : ℕ) → v ≡ get_or across (number x) free_entry → v ≢ free_entry → v / 3 < faces
entry_within {faces} {across} T x v e h =
    let is : glued_in across x ≡ Some (side_at v) =
    ap other_at (sym e) ∙ (elim (cases_Bool (eqb v free_entry)) [ inl t ↦ absurd (h (eqb-true v free_entry t)) | inr t ↦ cond-false _ _ _ t ]) in
    T.gluing.within (side_at v) x (T.gluing.paired x (side_at v) is)
