-- The names of corners after a face more.
use Rattle.std.proofs.Common.{◌≡◌, ◌≢◌, ℕ, suc, ◌+◌, ◌*◌, ◌<◌, ◌≤◌, max, min, List, [], ◌∷◌, ◌++◌, length, get_or, Some, None, ◌⊎◌, inl, inr, sym, refl, ap, ◌∙◌, subst, arith}
use Rattle.std.proofs.lemmas.Bool.{cases_lt, cases_eq}
use Rattle.std.proofs.lemmas.List.{get_or_append_left, get_or-append-add, get_or_past, length-append}
use Rattle.corner_table.specs.Sides.{Side, Place, first, second, third, side, side_at, number, next, prev, place_after, place_before, place_number, Gluing, IsGluing, IsFree, glue, unglued}
use Rattle.corner_table.specs.Fans.{InFan, here, leftwards, rightwards, Follows}
use Rattle.corner_table.specs.Table.{Table, gluing_of, room_of, IsFreeIn, free_entry}
use Rattle.corner_table.proofs.Numbers.{number-lt, face-lt}
use Rattle.corner_table.proofs.Places.{same_tells}
use Rattle.corner_table.proofs.Walks.{fan_trans, fan_sym}
use Rattle.corner_table.proofs.Gluings.{ends_join, starts_join, fan_stays, unglued_is}
use Rattle.eb_machine.specs.declared.beside.Beside.{Beside}
use Rattle.eb_machine.specs.declared.beside.Beside.TheVariants.{Left, Right}
use Rattle.eb_machine.specs.Beside.{glued_place, new_triangle}
use Rattle.eb_machine.specs.Named.{Triangle, corner, renamed}
use Rattle.eb_machine.specs.OneFaceMore.{Pairs, glue_all, PairsAreApart, Touches}
use Rattle.eb_machine.proofs.ManyGlued.{all_gluing, all_stay, Meet, new_is_free, old_is_free}
use Rattle.eb_machine.proofs.FaceNamed.{IsAlone, NamesAround, alike_around, together_around}
use Rattle.eb_machine.proofs.NamedRules.{renamed_from, renamed_to, renamed_case}
use Rattle.eb_rebuild.specs.JoinedNames.{root_in, Falls, joined}
use Rattle.eb_rebuild.specs.CornerNames.{NamedCorners, name_at, vertex_at, with_face, HasFaceOf, IsNaming, KeepsNames}
use Rattle.eb_rebuild.specs.Linked.{LinkValue, IsLinkState}
use Rattle.eb_rebuild.proofs.Roots.{root_low, pushed_falls, pushed_roots, root_fixed, none_falls}

-- the roots of the new names fit those at the ends of the sides to which the face is glued
abbrev pub FitsRoots : (ℕ → ℕ) → NamedCorners → Triangle → Pairs → Type 0
FitsRoots root v t [] = Unit {0}
FitsRoots root v t (p ∷ ps) = (root (corner t (place_before p.0)) ≡ root (name_at v (next p.1)))
    × (root (corner t (place_after p.0)) ≡ root (name_at v (prev p.1))) × FitsRoots root v t ps

-- a corner of the new face that has a name of its own
abbrev pub IsFresh : ℕ → Triangle → Place → Type 0
IsFresh made t k = (made ≤ corner t k) × ((j : Place) → j ≢ k → corner t j ≢ corner t k)

-- a name less than that of a new corner was made before, or stands at an earlier corner of the face
abbrev pub IsMet : ℕ → Triangle → Place → ℕ → Type 0
IsMet made t k x = (x < made) ⊎ ((j : Place) × (place_number j < place_number k) × (corner t j ≡ x))

-- a face more, whose corners have the names t
pub record IsNamedFace (f : ℕ) (g : Gluing) (v w : NamedCorners) (t : Triangle) (ps : Pairs) (rename : ℕ → ℕ) : Type 0 where
  pub naming : IsNaming f g v
  pub names : w.names ≡ with_face v.names t
  pub more : length v.up ≤ length w.up
  pub falls : Falls w.up
  pub roots : (x : ℕ) → root_in w.up x ≡ rename (root_in v.up x)
  pub kept : (x : ℕ) → length v.up ≤ x → root_in w.up x ≡ x
  pub apart : PairsAreApart f g ps
  pub fits : FitsRoots (root_in w.up) v t ps
  pub corners : (k : Place) → Touches k ps ⊎ IsFresh (length v.up) t k
  pub merged : (c d : Side) → c.face < f → d.face < f → rename (vertex_at v c) ≡ rename (vertex_at v d) → InFan (glue_all f ps g) c d
  pub below : (k : Place) → corner t k < length w.up
  pub before : (k : Place) (x : ℕ) → x < corner t k → IsMet (length v.up) t k x
  pub fresh : (x : ℕ) → length v.up ≤ x → x < length w.up → (k : Place) × (corner t k ≡ x)

-- what the list of one face more reads as
old_name : (names : List ℕ) (t : Triangle) (f : ℕ) → length names ≡ 3 * f → (c : Side) → c.face < f → get_or (with_face names t) (number c) 0 ≡ get_or names (number c) 0
old_name names t f e c h = get_or_append_left names (t.0 ∷ t.1 ∷ t.2 ∷ []) 0 (number c) (let l = number-lt c f h in omega arith)

new_name : (names : List ℕ) (t : Triangle) (f : ℕ) → length names ≡ 3 * f → (k : Place) → get_or (with_face names t) (number (side f k)) 0 ≡ corner t k
new_name names t f e first = ap (λ (n : ℕ). get_or (with_face names t) n 0) (let q : 3 * f + 0 ≡ length names + 0 = omega arith in q) ∙ get_or-append-add names (t.0 ∷ t.1 ∷ t.2 ∷ []) 0 0
new_name names t f e second = ap (λ (n : ℕ). get_or (with_face names t) n 0) (let q : 3 * f + 1 ≡ length names + 1 = omega arith in q) ∙ get_or-append-add names (t.0 ∷ t.1 ∷ t.2 ∷ []) 1 0
new_name names t f e third = ap (λ (n : ℕ). get_or (with_face names t) n 0) (let q : 3 * f + 2 ≡ length names + 2 = omega arith in q) ∙ get_or-append-add names (t.0 ∷ t.1 ∷ t.2 ∷ []) 2 0

pub length-with_face : (names : List ℕ) (t : Triangle) → length (with_face names t) ≡ length names + 3
length-with_face names t = length-append names (t.0 ∷ t.1 ∷ t.2 ∷ [])

-- so corners are one vertex exactly where they are one fan again
pub naming_grows : {f : ℕ} {g : Gluing} {v w : NamedCorners} {t : Triangle} {ps : Pairs} {rename : ℕ → ℕ} → IsNamedFace f g v w t ps rename → IsNaming (suc f) (glue_all f ps g) w
naming_grows {f} {g} {v} {w} {t} {ps} {rename} W = record {
  gluing = all_gluing N.gluing ps W.apart;
  each_corner = ap {A = List ℕ} length W.names ∙ length-with_face v.names t ∙ (let e = N.each_corner in omega arith);
  below = below;
  met = met;
  in_order = in_order;
  falls = W.falls;
  one_vertex = alike_around around;
  one_fan = together_around around;
}
  where
    N : IsNaming f g v
    N = W.naming

    at_old : (c : Side) → c.face < f → name_at w c ≡ name_at v c
    at_old c h = ap (λ (l : List ℕ). get_or l (number c) 0) W.names ∙ old_name v.names t f N.each_corner c h

    at_new : (k : Place) → name_at w (side f k) ≡ corner t k
    at_new k = ap (λ (l : List ℕ). get_or l (number (side f k)) 0) W.names ∙ new_name v.names t f N.each_corner k

    face_of : (x : Side) → x.face ≡ f → x ≡ side f x.place
    face_of x q = ap (λ (n : ℕ). side n x.place) q

    below : (c : Side) → c.face < suc f → name_at w c < length w.up
    below c l = elim (cases_lt c.face f) [
      | inl m ↦ (let a = at_old c m in let b = N.below c m in let u = W.more in omega arith)
      | inr m ↦ subst (λ (n : ℕ). n < length w.up) (sym (ap (name_at w) (face_of c (omega arith)) ∙ at_new c.place)) (W.below c.place)
    ]

    met_old : (x : ℕ) → x < length v.up → (c : Side) × (c.face < f) × (name_at w c ≡ x)
    met_old x l = let u = N.met x l in (u.0, u.1, at_old u.0 u.1 ∙ u.2)

    met : (x : ℕ) → x < length w.up → (c : Side) × (c.face < suc f) × (name_at w c ≡ x)
    met x l = elim (cases_lt x (length v.up)) [
      | inl m ↦ (let u = met_old x m in let h = u.1 in (u.0, omega arith, u.2))
      | inr m ↦ (let u = W.fresh x m l in (side f u.0, omega arith, at_new u.0 ∙ u.1))
    ]

    Before : Side → ℕ → Type 0
    Before c x = (b : Side) × (number b < number c) × (name_at w b ≡ x)

    before_new : (k : Place) (x : ℕ) → x < corner t k → Before (side f k) x
    before_new k x l = elim (W.before k x l) [
      | inl m ↦ (let u = met_old x m in let h = number-lt u.0 f u.1 in (u.0, omega arith, u.2))
      | inr u ↦ (let h = u.1 in (side f u.0, omega arith, at_new u.0 ∙ u.2))
    ]

    in_order : (c : Side) → c.face < suc f → (x : ℕ) → x < name_at w c → Before c x
    in_order c h x l = elim (cases_lt c.face f) [
      | inl m ↦ (
          let a = at_old c m in
          let u = N.in_order c m x (omega arith) in
          let k = u.1 in
          let n = number-lt c f m in
          (u.0, u.1, at_old u.0 (omega arith) ∙ u.2))
      | inr m ↦ (
          let q = face_of c (omega arith) in
          let a = ap (name_at w) q ∙ at_new c.place in
          subst (λ (y : Side). Before y x) (sym q) (before_new c.place x (omega arith)))
    ]

    vertex_new : (k : Place) → vertex_at w (side f k) ≡ root_in w.up (corner t k)
    vertex_new k = ap (root_in w.up) (at_new k)

    meeting : (qs : Pairs) → PairsAreApart f g qs → FitsRoots (root_in w.up) v t qs → Meet f (vertex_at w) qs
    meeting [] A F = tt
    meeting (p ∷ qs) A F = (
      vertex_new (place_before p.0) ∙ F.0 ∙ sym (ap (root_in w.up) (at_old (next p.1) A.0.within)),
      vertex_new (place_after p.0) ∙ F.1 ∙ sym (ap (root_in w.up) (at_old (prev p.1) A.0.within)),
      meeting qs A.3 F.2,
    )

    alone : (k : Place) → IsFresh (length v.up) t k → IsAlone f (vertex_at w) k
    alone k F d l e =
        let at : root_in w.up (name_at w d) ≡ corner t k = e ∙ vertex_new k ∙ W.kept (corner t k) F.0 in
        elim (cases_lt d.face f) [
          | inl m ↦ (let a = at_old d m in let b = N.below d m in let r = root_low w.up W.falls (name_at w d) in let o = F.0 in absurd (omega arith))
          | inr m ↦ (
              let q = face_of d (omega arith) in
              let is : name_at w d ≡ corner t d.place = ap (name_at w) q ∙ at_new d.place in
              elim (same_tells d (side f k)) [
                | inl s ↦ sym s
                | inr s ↦ elim (cases_lt (corner t d.place) (length v.up)) [
                  | inl b ↦ (let r = root_low w.up W.falls (name_at w d) in let o = F.0 in absurd (omega arith))
                  | inr b ↦ absurd (F.1 d.place (λ p. s (q ∙ ap (side f) p)) (sym (W.kept (corner t d.place) b) ∙ ap (root_in w.up) (sym is) ∙ at))
                ]
              ])
        ]

    around : NamesAround f g (vertex_at v) (vertex_at w) rename ps
    around = record {
      gluing = N.gluing;
      apart = W.apart;
      one_name = N.one_vertex;
      stay = λ c h. ap (root_in w.up) (at_old c h) ∙ W.roots (name_at v c);
      meets = meeting ps W.apart W.fits;
      corners = λ k. elim (W.corners k) [ inl m ↦ inl m | inr n ↦ inr (alone k n) ];
      merged = W.merged;
    }

-- nothing is built
pub naming_start : (g : Gluing) (v : NamedCorners) → g ≡ unglued → v.names ≡ [] → v.up ≡ [] → Falls v.up → IsNaming 0 g v
naming_start g v e n u F = record {
  gluing = subst (IsGluing 0) (sym e) (unglued_is 0);
  each_corner = ap {A = List ℕ} length n;
  below = λ c h. absurd (let w : c.face < 0 = h in omega arith);
  met = λ x h. absurd (let l = ap {A = List ℕ} length u in omega arith);
  in_order = λ c h. absurd (let w : c.face < 0 = h in omega arith);
  falls = F;
  one_vertex = λ c d w. lone c d (subst (λ (h : Gluing). InFan h c d) e w);
  one_fan = λ c d h. absurd (let w : c.face < 0 = h in omega arith);
}
  where
    lone : (c d : Side) → InFan unglued c d → vertex_at v c ≡ vertex_at v d
    lone c d here = refl
    lone c d (leftwards {d = x} s w) = absurd (let no : None ≡ Some x = s in cc)
    lone c d (rightwards {d = x} s w) = absurd (let no : None ≡ Some x = s in cc)

-- a name that isn't made yet is its own root
own_root : (up : List ℕ) (x : ℕ) → length up ≤ x → root_in up x ≡ x
own_root up x l = root_fixed up x (get_or_past up x x l)

-- fans that were one stay one
stay : {f : ℕ} {g : Gluing} {v : NamedCorners} → IsNaming f g v → (ps : Pairs) → PairsAreApart f g ps → (c d : Side) → c.face < f → d.face < f → vertex_at v c ≡ vertex_at v d → InFan (glue_all f ps g) c d
stay N ps A c d h k e = all_stay N.gluing ps A (N.one_fan c d h k e)

-- E
end_naming : {f : ℕ} {g : Gluing} {v w : NamedCorners} → IsNaming f g v → (made : ℕ) → length v.up ≡ made → w.names ≡ with_face v.names (made, made + 1, made + 2) →
    w.up ≡ v.up ++ (made ∷ []) ++ ((made + 1) ∷ []) ++ ((made + 2) ∷ []) → IsNaming (suc f) g w
end_naming {f} {g} {v} {w} N made e names up = naming_grows {t = t} {ps = []} {rename = λ m. m} (record {
  naming = N;
  names = names;
  more = (let l = long in omega arith);
  falls = subst Falls (sym up) F3;
  roots = roots;
  kept = λ x l. roots x ∙ own_root v.up x l;
  apart = tt;
  fits = tt;
  corners = λ k. inr (at_least k, other k);
  merged = N.one_fan;
  below = below;
  before = before;
  fresh = fresh;
})
  where
    t : Triangle
    t = (made, made + 1, made + 2)

    up1 : List ℕ
    up1 = v.up ++ (made ∷ [])

    up2 : List ℕ
    up2 = up1 ++ ((made + 1) ∷ [])

    long1 : length up1 ≡ length v.up + 1
    long1 = length-append v.up (made ∷ [])

    long2 : length up2 ≡ length up1 + 1
    long2 = length-append up1 ((made + 1) ∷ [])

    long : length w.up ≡ length v.up + 3
    long = let a = ap {A = List ℕ} length up in let b = length-append up2 ((made + 2) ∷ []) in let c = long1 in let d = long2 in omega arith

    F1 : Falls up1
    F1 = pushed_falls v.up N.falls made (sym e)

    e1 : made + 1 ≡ length up1
    e1 = let a = long1 in omega arith

    F2 : Falls up2
    F2 = pushed_falls up1 F1 (made + 1) e1

    e2 : made + 2 ≡ length up2
    e2 = let a = long1 in let b = long2 in omega arith

    F3 : Falls (up2 ++ ((made + 2) ∷ []))
    F3 = pushed_falls up2 F2 (made + 2) e2

    roots : (x : ℕ) → root_in w.up x ≡ root_in v.up x
    roots x = ap (λ (l : List ℕ). root_in l x) up ∙ pushed_roots up2 F2 (made + 2) e2 x ∙ pushed_roots up1 F1 (made + 1) e1 x ∙ pushed_roots v.up N.falls made (sym e) x

    at_least : (k : Place) → length v.up ≤ corner t k
    at_least first = omega arith
    at_least second = omega arith
    at_least third = omega arith

    other : (k j : Place) → j ≢ k → corner t j ≢ corner t k
    other first first h q = h refl
    other first second h q = absurd (let r : made + 1 ≡ made = q in omega arith)
    other first third h q = absurd (let r : made + 2 ≡ made = q in omega arith)
    other second first h q = absurd (let r : made ≡ made + 1 = q in omega arith)
    other second second h q = h refl
    other second third h q = absurd (let r : made + 2 ≡ made + 1 = q in omega arith)
    other third first h q = absurd (let r : made ≡ made + 2 = q in omega arith)
    other third second h q = absurd (let r : made + 1 ≡ made + 2 = q in omega arith)
    other third third h q = h refl

    below : (k : Place) → corner t k < length w.up
    below first = let l = long in omega arith
    below second = let l = long in omega arith
    below third = let l = long in omega arith

    before : (k : Place) (x : ℕ) → x < corner t k → IsMet (length v.up) t k x
    before first x h = inl (let l : x < made = h in omega arith)
    before second x h = elim (cases_lt x made) [
      | inl l ↦ inl (omega arith)
      | inr l ↦ inr (first, omega arith, (let r : x < made + 1 = h in omega arith))
    ]
    before third x h = elim (cases_lt x made) [
      | inl l ↦ inl (omega arith)
      | inr l ↦ elim (cases_eq x made) [
        | inl q ↦ inr (first, omega arith, sym q)
        | inr q ↦ inr (second, omega arith, (let r : x < made + 2 = h in omega arith))
      ]
    ]

    fresh : (x : ℕ) → length v.up ≤ x → x < length w.up → (k : Place) × (corner t k ≡ x)
    fresh x l h = elim (cases_eq x made) [
      | inl q ↦ (first, sym q)
      | inr q ↦ elim (cases_eq x (made + 1)) [
        | inl p ↦ (second, sym p)
        | inr p ↦ (third, (let a = long in omega arith))
      ]
    ]

-- L and R
beside_naming : (b : Beside) {f : ℕ} {g : Gluing} {v w : NamedCorners} → IsNaming f g v → (a : Side) → IsFree f g a → (made : ℕ) → length v.up ≡ made → w.names ≡ with_face v.names (new_triangle b (name_at v (next a)) (name_at v (prev a)) made) →
    w.up ≡ v.up ++ (made ∷ []) → IsNaming (suc f) (glue (side f (glued_place b)) a g) w
beside_naming b {f} {g} {v} {w} N a A made e names up = naming_grows {t = new_triangle b from to made} {ps = (glued_place b, a) ∷ []} {rename = λ m. m} (record {
  naming = N;
  names = names;
  more = (let l = long in omega arith);
  falls = subst Falls (sym up) (pushed_falls v.up N.falls made (sym e));
  roots = roots;
  kept = λ x l. roots x ∙ own_root v.up x l;
  apart = (A, tt, tt, tt);
  fits = fits b;
  corners = corners b;
  merged = stay N ((glued_place b, a) ∷ []) (A, tt, tt, tt);
  below = below b;
  before = before b;
  fresh = fresh b;
})
  where
    from : ℕ
    from = name_at v (next a)

    to : ℕ
    to = name_at v (prev a)

    from_old : from < length v.up
    from_old = N.below (next a) A.within

    to_old : to < length v.up
    to_old = N.below (prev a) A.within

    long : length w.up ≡ length v.up + 1
    long = ap {A = List ℕ} length up ∙ length-append v.up (made ∷ [])

    roots : (x : ℕ) → root_in w.up x ≡ root_in v.up x
    roots x = ap (λ (l : List ℕ). root_in l x) up ∙ pushed_roots v.up N.falls made (sym e) x

    fits : (b : Beside) → FitsRoots (root_in w.up) v (new_triangle b from to made) ((glued_place b, a) ∷ [])
    fits Left = (refl, refl, tt)
    fits Right = (refl, refl, tt)

    corners : (b : Beside) (k : Place) → Touches k ((glued_place b, a) ∷ []) ⊎ IsFresh (length v.up) (new_triangle b from to made) k
    corners Left first = inl (inr (inl refl))
    corners Left second = inr (omega arith, alone)
      where
        alone : (j : Place) → j ≢ second → corner (new_triangle Left from to made) j ≢ made
        alone first h q = absurd (let r : from ≡ made = q in let l = from_old in omega arith)
        alone second h q = h refl
        alone third h q = absurd (let r : to ≡ made = q in let l = to_old in omega arith)
    corners Left third = inl (inl refl)
    corners Right first = inl (inl refl)
    corners Right second = inl (inr (inl refl))
    corners Right third = inr (omega arith, alone)
      where
        alone : (j : Place) → j ≢ third → corner (new_triangle Right from to made) j ≢ made
        alone first h q = absurd (let r : to ≡ made = q in let l = to_old in omega arith)
        alone second h q = absurd (let r : from ≡ made = q in let l = from_old in omega arith)
        alone third h q = h refl

    small : (b : Beside) (k : Place) → corner (new_triangle b from to made) k ≤ made
    small Left first = let l = from_old in omega arith
    small Left second = omega arith
    small Left third = let l = to_old in omega arith
    small Right first = let l = to_old in omega arith
    small Right second = let l = from_old in omega arith
    small Right third = omega arith

    below : (b : Beside) (k : Place) → corner (new_triangle b from to made) k < length w.up
    below b k = let s = small b k in let l = long in omega arith

    before : (b : Beside) (k : Place) (x : ℕ) → x < corner (new_triangle b from to made) k → IsMet (length v.up) (new_triangle b from to made) k x
    before b k x h = inl (let s = small b k in omega arith)

    fresh : (b : Beside) (x : ℕ) → length v.up ≤ x → x < length w.up → (k : Place) × (corner (new_triangle b from to made) k ≡ x)
    fresh Left x l h = (second, (let a = long in omega arith))
    fresh Right x l h = (third, (let a = long in omega arith))

-- a face without a new vertex, all of whose corners meet others, where names are joined or not
joining_naming : {f : ℕ} {g : Gluing} {v w : NamedCorners} → IsNaming f g v → (t : Triangle) (ps : Pairs) (rename : ℕ → ℕ) → w.names ≡ with_face v.names t → length w.up ≡ length v.up → Falls w.up → ((x : ℕ) → root_in w.up x ≡ rename (root_in v.up x)) →
    ((x : ℕ) → length v.up ≤ x → rename x ≡ x) → PairsAreApart f g ps → FitsRoots (root_in w.up) v t ps → ((k : Place) → Touches k ps) →
    ((c d : Side) → c.face < f → d.face < f → rename (vertex_at v c) ≡ rename (vertex_at v d) → InFan (glue_all f ps g) c d) → ((k : Place) → corner t k < length v.up) → IsNaming (suc f) (glue_all f ps g) w
joining_naming {f} {g} {v} {w} N t ps rename names long F roots kept A fits touched merged below = naming_grows {t = t} {ps = ps} {rename = rename} (record {
  naming = N;
  names = names;
  more = omega arith;
  falls = F;
  roots = roots;
  kept = λ x l. roots x ∙ ap rename (own_root v.up x l) ∙ kept x l;
  apart = A;
  fits = fits;
  corners = λ k. inl (touched k);
  merged = merged;
  below = λ k. let b = below k in omega arith;
  before = λ k x h. inl (let b = below k in omega arith);
  fresh = λ x l h. absurd (omega arith);
})

-- C
tip_naming : {f : ℕ} {g : Gluing} {v w : NamedCorners} → IsNaming f g v → (a b : Side) → IsFree f g a → IsFree f g b → b ≢ a → InFan g (prev b) (next a) →
    w.names ≡ with_face v.names (name_at v (next a), name_at v (next b), name_at v (prev a)) → w.up ≡ v.up → IsNaming (suc f) (glue (side f third) b (glue (side f second) a g)) w
tip_naming {f} {g} {v} {w} N a b A B ne meet names up =
    joining_naming N t ps (λ m. m) names (ap {A = List ℕ} length up) (subst Falls (sym up) N.falls) same (λ x l. refl) apart fits touched (stay N ps apart) below
  where
    t : Triangle
    t = (name_at v (next a), name_at v (next b), name_at v (prev a))

    ps : Pairs
    ps = (third, b) ∷ (second, a) ∷ []

    same : (x : ℕ) → root_in w.up x ≡ root_in v.up x
    same x = ap (λ (l : List ℕ). root_in l x) up

    apart : PairsAreApart f g ps
    apart = (B, (ne, tt), ((λ q. (cc)), tt), (A, tt, tt, tt))

    fits : FitsRoots (root_in w.up) v t ps
    fits = (refl, same (name_at v (next a)) ∙ sym (N.one_vertex (prev b) (next a) meet) ∙ sym (same (name_at v (prev b))), (refl, refl, tt))

    touched : (k : Place) → Touches k ps
    touched first = inl refl
    touched second = inr (inl refl)
    touched third = inr (inr (inl refl))

    below : (k : Place) → corner t k < length v.up
    below first = N.below (next a) A.within
    below second = N.below (next b) B.within
    below third = N.below (prev a) A.within

-- S: what the renaming of the greater of two names to the lesser makes one
abbrev merging : ℕ → ℕ → ℕ → ℕ
merging n p = renamed (max n p) (min n p)

merging_first : (n p : ℕ) → merging n p n ≡ min n p
merging_first n p = elim (cases_lt n p) [
  | inl l ↦ (let e : n ≡ min n p = omega arith in ap (merging n p) e ∙ renamed_to (max n p) (min n p))
  | inr l ↦ (let e : n ≡ max n p = omega arith in ap (merging n p) e ∙ renamed_from (max n p) (min n p))
]

merging_second : (n p : ℕ) → merging n p p ≡ min n p
merging_second n p = elim (cases_lt n p) [
  | inl l ↦ (let e : p ≡ max n p = omega arith in ap (merging n p) e ∙ renamed_from (max n p) (min n p))
  | inr l ↦ (let e : p ≡ min n p = omega arith in ap (merging n p) e ∙ renamed_to (max n p) (min n p))
]

-- a name becomes itself, or is one of the two
merging_case : (n p x : ℕ) → (merging n p x ≡ x) ⊎ (((x ≡ n) ⊎ (x ≡ p)) × (merging n p x ≡ min n p))
merging_case n p x = elim (renamed_case (max n p) (min n p) x) [
  | inr c ↦ inl c
  | inl c ↦ (let q = c.0 in inr (elim (cases_lt n p) [ inl l ↦ inr (omega arith) | inr l ↦ inl (omega arith) ], c.1))
]

-- a name that becomes the lesser one was one of the two
merging_tells : (n p x y : ℕ) → merging n p x ≡ merging n p y → (x ≡ y) ⊎ (((x ≡ n) ⊎ (x ≡ p)) × ((y ≡ n) ⊎ (y ≡ p)))
merging_tells n p x y e = elim (merging_case n p x) [
  | inl a ↦ elim (merging_case n p y) [
    | inl b ↦ inl (sym a ∙ e ∙ b)
    | inr b ↦ inr ((let q : x ≡ min n p = sym a ∙ e ∙ b.1 in elim (cases_lt n p) [ inl l ↦ inl (omega arith) | inr l ↦ inr (omega arith) ]), b.0)
  ]
  | inr a ↦ elim (merging_case n p y) [
    | inl b ↦ inr (a.0, (let q : y ≡ min n p = sym b ∙ sym e ∙ a.1 in elim (cases_lt n p) [ inl l ↦ inl (omega arith) | inr l ↦ inr (omega arith) ]))
    | inr b ↦ inr (a.0, b.0)
  ]
]

split_naming : {f : ℕ} {g : Gluing} {v w : NamedCorners} → IsNaming f g v → (b a : Side) → IsFree f g b → IsFree f g a → b ≢ a →
    w.names ≡ with_face v.names (name_at v (prev a), name_at v (next a), name_at v (prev b)) → length w.up ≡ length v.up → Falls w.up → ((x : ℕ) → root_in w.up x ≡ joined (root_in v.up) (name_at v (next b)) (name_at v (prev a)) x) →
    IsNaming (suc f) (glue (side f second) b (glue (side f third) a g)) w
split_naming {f} {g} {v} {w} N b a B A ne names long F roots =
    joining_naming N t ps (merging n p) names long F roots kept apart fits touched merged below
  where
    n : ℕ
    n = vertex_at v (next b)

    p : ℕ
    p = vertex_at v (prev a)

    n_old : n < length v.up
    n_old = let r = root_low v.up N.falls (name_at v (next b)) in let l = N.below (next b) B.within in omega arith

    p_old : p < length v.up
    p_old = let r = root_low v.up N.falls (name_at v (prev a)) in let l = N.below (prev a) A.within in omega arith

    t : Triangle
    t = (name_at v (prev a), name_at v (next a), name_at v (prev b))

    ps : Pairs
    ps = (second, b) ∷ (third, a) ∷ []

    kept : (x : ℕ) → length v.up ≤ x → merging n p x ≡ x
    kept x l = elim (merging_case n p x) [
      | inl c ↦ c
      | inr c ↦ absurd (let i = n_old in let j = p_old in elim c.0 [ inl q ↦ omega arith | inr q ↦ omega arith ])
    ]

    apart : PairsAreApart f g ps
    apart = (B, (ne, tt), ((λ q. (cc)), tt), (A, tt, tt, tt))

    fits : FitsRoots (root_in w.up) v t ps
    fits = (roots (name_at v (prev a)) ∙ merging_second n p ∙ sym (merging_first n p) ∙ sym (roots (name_at v (next b))), refl, (refl, refl, tt))

    touched : (k : Place) → Touches k ps
    touched first = inr (inl refl)
    touched second = inr (inr (inr (inl refl)))
    touched third = inl refl

    below : (k : Place) → corner t k < length v.up
    below first = N.below (prev a) A.within
    below second = N.below (next a) A.within
    below third = N.below (prev b) B.within

    G : IsGluing (suc f) (glue_all f ps g)
    G = all_gluing N.gluing ps apart

    -- the two vertices meet at corner 0 of the new face
    across : InFan (glue_all f ps g) (next b) (prev a)
    across =
        fan_trans (fan_sym G (ends_join (side f second) b (glue (side f third) a g)))
        (fan_stays {faces = suc f} {g = glue (side f third) a g} (side f second) b
        (new_is_free N.gluing ((third, a) ∷ []) second (A, tt, tt, tt) ((λ q. (cc)), tt)) (old_is_free f g ((third, a) ∷ []) b B (ne, tt))
        (starts_join (side f third) a g))

    -- a corner of one of the two is in one fan with the start of b
    to_start : (c : Side) → c.face < f → (vertex_at v c ≡ n) ⊎ (vertex_at v c ≡ p) → InFan (glue_all f ps g) c (next b)
    to_start c h e = elim e [
      | inl q ↦ stay N ps apart c (next b) h B.within q
      | inr q ↦ fan_trans (stay N ps apart c (prev a) h A.within q) (fan_sym G across)
    ]

    merged : (c d : Side) → c.face < f → d.face < f → merging n p (vertex_at v c) ≡ merging n p (vertex_at v d) → InFan (glue_all f ps g) c d
    merged c d h k e = elim (merging_tells n p (vertex_at v c) (vertex_at v d) e) [
      | inl q ↦ stay N ps apart c d h k q
      | inr q ↦ fan_trans (to_start c h q.0) (fan_sym G (to_start d k q.1))
    ]

-- a face that fills a loop
fill_naming : {f : ℕ} {g : Gluing} {v w : NamedCorners} → IsNaming f g v → (a b c : Side) → IsFree f g a → IsFree f g b → IsFree f g c → b ≢ a → c ≢ a → c ≢ b →
    InFan g (prev b) (next a) → InFan g (prev c) (next b) → InFan g (prev a) (next c) →
    w.names ≡ with_face v.names (name_at v (next b), name_at v (prev a), name_at v (next a)) → w.up ≡ v.up → IsNaming (suc f) (glue (side f third) c (glue (side f second) b (glue (side f first) a g))) w
fill_naming {f} {g} {v} {w} N a b c A B X ba ca cb ab bc ac names up =
    joining_naming N t ps (λ m. m) names (ap {A = List ℕ} length up) (subst Falls (sym up) N.falls) same (λ x l. refl) apart fits touched (stay N ps apart) below
  where
    t : Triangle
    t = (name_at v (next b), name_at v (prev a), name_at v (next a))

    ps : Pairs
    ps = (third, c) ∷ (second, b) ∷ (first, a) ∷ []

    same : (x : ℕ) → root_in w.up x ≡ root_in v.up x
    same x = ap (λ (l : List ℕ). root_in l x) up

    alike : (x y : Side) → InFan g x y → root_in w.up (name_at v x) ≡ root_in w.up (name_at v y)
    alike x y q = same (name_at v x) ∙ N.one_vertex x y q ∙ sym (same (name_at v y))

    apart : PairsAreApart f g ps
    apart = (X, (cb, (ca, tt)), ((λ q. (cc)), ((λ q. (cc)), tt)), (B, (ba, tt), ((λ q. (cc)), tt), (A, tt, tt, tt)))

    fits : FitsRoots (root_in w.up) v t ps
    fits = (alike (prev a) (next c) ac, sym (alike (prev c) (next b) bc), (refl, sym (alike (prev b) (next a) ab), (refl, refl, tt)))

    touched : (k : Place) → Touches k ps
    touched first = inl refl
    touched second = inr (inl refl)
    touched third = inr (inr (inl refl))

    below : (k : Place) → corner t k < length v.up
    below first = N.below (next b) B.within
    below second = N.below (prev a) A.within
    below third = N.below (next a) A.within

-- the same for the tables of a rebuilding
naming_at : (new : Table) (f : ℕ) (g : Gluing) {w : NamedCorners} → new.faces ≡ suc f → gluing_of new ≡ g → IsNaming (suc f) g w → IsNaming new.faces (gluing_of new) w
naming_at new f g {w} e h N = subst (λ (n : ℕ). IsNaming n (gluing_of new) w) (sym e) (subst (λ (k : Gluing). IsNaming (suc f) k w) (sym h) N)

pub names_start : (table : Table) (v : NamedCorners) (faces : ℕ) → table.faces ≡ 0 → gluing_of table ≡ unglued → room_of table ≡ faces → v.names ≡ [] → v.up ≡ [] → v.room ≡ 3 * faces → KeepsNames table 0 v
names_start table v faces e h r n u room = record {
  naming = subst (λ (k : ℕ). IsNaming k (gluing_of table) v) (sym e) (naming_start (gluing_of table) v h n u (none_falls v.up u));
  as_many = ap {A = List ℕ} length u;
  room = omega arith;
}

pub names_end : (old new : Table) (made : ℕ) (v w : NamedCorners) → KeepsNames old made v → new.faces ≡ suc old.faces → gluing_of new ≡ gluing_of old → room_of new ≡ room_of old →
    w.names ≡ with_face v.names (made, made + 1, made + 2) → w.up ≡ v.up ++ (made ∷ []) ++ ((made + 1) ∷ []) ++ ((made + 2) ∷ []) → w.room ≡ v.room → KeepsNames new (made + 3) w
names_end old new made v w K e h r names up room = record {
  naming = naming_at new old.faces (gluing_of old) e h (end_naming K.naming made K.as_many names up);
  as_many = ap {A = List ℕ} length up ∙ three;
  room = (let k = K.room in omega arith);
}
  where
    three : length (v.up ++ (made ∷ []) ++ ((made + 1) ∷ []) ++ ((made + 2) ∷ [])) ≡ made + 3
    three =
        let a = length-append v.up (made ∷ []) in
        let b = length-append (v.up ++ (made ∷ [])) ((made + 1) ∷ []) in
        let c = length-append (v.up ++ (made ∷ []) ++ ((made + 1) ∷ [])) ((made + 2) ∷ []) in
        let k = K.as_many in
        omega arith

pub names_beside : (b : Beside) (old new : Table) (made : ℕ) (v w : NamedCorners) (a : Side) → KeepsNames old made v → new.faces ≡ suc old.faces → gluing_of new ≡ glue (side old.faces (glued_place b)) a (gluing_of old) → room_of new ≡ room_of old → IsFreeIn old a →
    w.names ≡ with_face v.names (new_triangle b (name_at v (next a)) (name_at v (prev a)) made) → w.up ≡ v.up ++ (made ∷ []) → w.room ≡ v.room → KeepsNames new (made + 1) w
names_beside b old new made v w a K e h r A names up room = record {
  naming = naming_at new old.faces (glue (side old.faces (glued_place b)) a (gluing_of old)) e h (beside_naming b K.naming a A made K.as_many names up);
  as_many = ap {A = List ℕ} length up ∙ length-append v.up (made ∷ []) ∙ (let k = K.as_many in omega arith);
  room = (let k = K.room in omega arith);
}

pub names_tip : (old new : Table) (made : ℕ) (v w : NamedCorners) (a b : Side) → KeepsNames old made v → new.faces ≡ suc old.faces → gluing_of new ≡ glue (side old.faces third) b (glue (side old.faces second) a (gluing_of old)) → room_of new ≡ room_of old →
    IsFreeIn old a → IsFreeIn old b → b ≢ a → Follows old.faces (gluing_of old) b a →
    w ≡ record v { names = with_face v.names (name_at v (next a), name_at v (next b), name_at v (prev a)) } → KeepsNames new made w
names_tip old new made v w a b K e h r A B ne F is = record {
  naming = naming_at new old.faces (glue (side old.faces third) b (glue (side old.faces second) a (gluing_of old))) e h (tip_naming K.naming a b A B ne F.meets (ap (λ (x : NamedCorners). x.names) is) (ap (λ (x : NamedCorners). x.up) is));
  as_many = ap (λ (x : NamedCorners). length x.up) is ∙ K.as_many;
  room = (let k = K.room in let q = ap (λ (x : NamedCorners). x.room) is in omega arith);
}

pub names_split : (old new : Table) (made : ℕ) (v w : NamedCorners) (b a : Side) → KeepsNames old made v → new.faces ≡ suc old.faces → gluing_of new ≡ glue (side old.faces second) b (glue (side old.faces third) a (gluing_of old)) → room_of new ≡ room_of old →
    IsFreeIn old b → IsFreeIn old a → b ≢ a → w.names ≡ with_face v.names (name_at v (prev a), name_at v (next a), name_at v (prev b)) → length w.up ≡ length v.up → Falls w.up →
    ((x : ℕ) → root_in w.up x ≡ joined (root_in v.up) (name_at v (next b)) (name_at v (prev a)) x) → w.room ≡ v.room → KeepsNames new made w
names_split old new made v w b a K e h r B A ne names long F roots room = record {
  naming = naming_at new old.faces (glue (side old.faces second) b (glue (side old.faces third) a (gluing_of old))) e h (split_naming K.naming b a B A ne names long F roots);
  as_many = long ∙ K.as_many;
  room = (let k = K.room in omega arith);
}

pub names_fill : (old new : Table) (made : ℕ) (v w : NamedCorners) (a b c : Side) → KeepsNames old made v → new.faces ≡ suc old.faces → gluing_of new ≡ glue (side old.faces third) c (glue (side old.faces second) b (glue (side old.faces first) a (gluing_of old))) → room_of new ≡ room_of old →
    IsFreeIn old a → IsFreeIn old b → IsFreeIn old c → b ≢ a → c ≢ a → c ≢ b → Follows old.faces (gluing_of old) b a → Follows old.faces (gluing_of old) c b → Follows old.faces (gluing_of old) a c →
    w ≡ record v { names = with_face v.names (name_at v (next b), name_at v (prev a), name_at v (next a)) } → KeepsNames new made w
names_fill old new made v w a b c K e h r A B X ba ca cb F G H is = record {
  naming = naming_at new old.faces (glue (side old.faces third) c (glue (side old.faces second) b (glue (side old.faces first) a (gluing_of old)))) e h
      (fill_naming K.naming a b c A B X ba ca cb F.meets G.meets H.meets (ap (λ (x : NamedCorners). x.names) is) (ap (λ (x : NamedCorners). x.up) is));
  as_many = ap (λ (x : NamedCorners). length x.up) is ∙ K.as_many;
  room = (let k = K.room in let q = ap (λ (x : NamedCorners). x.room) is in omega arith);
}

-- what the calls on names ask for: a side of the table has a face with names, and its number is one of a side
pub has_face : {table : Table} {made : ℕ} {v : NamedCorners} → KeepsNames table made v → (a : ℕ) → a < 3 * table.faces → HasFaceOf v.names a
has_face K a h = let e = K.naming.each_corner in omega arith

-- there is room for the corners of a face more, and for three names more
pub names_corners : {table : Table} {made : ℕ} {v : NamedCorners} → KeepsNames table made v → table.faces < room_of table → length v.names + 3 ≤ v.room
names_corners K h = let e = K.naming.each_corner in let r = K.room in omega arith

pub names_vertices : {table : Table} {made : ℕ} {v : NamedCorners} → KeepsNames table made v → made ≤ 3 * table.faces → table.faces < room_of table → length v.up + 3 ≤ v.room
names_vertices K few h = let e = K.as_many in let r = K.room in omega arith

-- the names at the ends of a side were made
pub start_below : {table : Table} {made : ℕ} {v : NamedCorners} → KeepsNames table made v → (a : ℕ) → a < 3 * table.faces → name_at v (next (side_at a)) < length v.up
start_below {table} K a h = K.naming.below (next (side_at a)) (face-lt a table.faces h)

pub end_below : {table : Table} {made : ℕ} {v : NamedCorners} → KeepsNames table made v → (a : ℕ) → a < 3 * table.faces → name_at v (prev (side_at a)) < length v.up
end_below {table} K a h = K.naming.below (prev (side_at a)) (face-lt a table.faces h)

-- the number of a side of a table is no free entry
pub is_real : {v : LinkValue} → IsLinkState v → (a : ℕ) → a < 3 * v.table.faces → v.table.faces < room_of v.table → a < free_entry
is_real I a h f = let l = I.limit in let r = I.room in omega arith
