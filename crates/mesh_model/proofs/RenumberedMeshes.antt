-- A mesh whose faces are put in another order and turned.
use Rattle.std.proofs.Common.{◌≡◌, ◌⊎◌, ℕ, zero, suc, ◌+◌, ◌%◌, ◌<◌, List, [], length, get_or, refl, sym, ap, ◌∙◌, subst, inl, inr, arith}
use Rattle.std.proofs.lemmas.List.{length-map, get_or-map}
use Rattle.std.proofs.lemmas.List.Elements.{All-from_get_or}
use Rattle.mesh_model.specs.Parts.{MeshParts, IsMesh, IsFaceOf}
use Rattle.mesh_model.specs.Renumbering.{NamesApart, turned_face, renumbered}
use Rattle.mesh_model.specs.Same.{Rows, named, turn, SameMesh}
use Rattle.mesh_model.proofs.Pigeonholes.{names-once}

three : (k : ℕ) → k < 3 → (k ≡ 0) ⊎ ((k ≡ 1) ⊎ (k ≡ 2))
three zero below = inl refl
three (suc zero) below = inr (inl refl)
three (suc (suc zero)) below = inr (inr refl)
three (suc (suc (suc k))) below = absurd (omega arith)

index-in : (n : ℕ) (face : List ℕ) (k : ℕ) → IsFaceOf n face → k < 3 → get_or face k 0 < n
index-in n face k is below = is.1 k 0 (omega (arith, is.0))

turned-fits : (n : ℕ) (face : List ℕ) (t : ℕ) → IsFaceOf n face → IsFaceOf n (turned_face face t)
turned-fits n face t is = (refl, All-from_get_or (λ p. p < n) (turned_face face t) 0 (λ k below. each k below)) where
  each : (k : ℕ) → k < 3 → get_or (turned_face face t) k 0 < n
  each k below = elim (three k below) [
    | inl e0 ↦ rw e0 (index-in n face (t % 3) is (omega arith))
    | inr later ↦ elim later [
      | inl e1 ↦ rw e1 (index-in n face ((1 + t) % 3) is (omega arith))
      | inr e2 ↦ rw e2 (index-in n face ((2 + t) % 3) is (omega arith))
    ]
  ]

turned-at : (face : List ℕ) (t k : ℕ) → k < 3 → get_or (turned_face face t) (k % 3) 0 ≡ get_or face ((k + t) % 3) 0
turned-at face t k below = elim (three k below) [
  | inl e0 ↦ rw e0 (ap (λ n. get_or face n 0) (omega arith))
  | inr later ↦ elim later [ inl e1 ↦ rw e1 refl | inr e2 ↦ rw e2 refl ]
]

module _ (m : MeshParts) (rows : Rows) (is : IsMesh m) (apart : NamesApart (length m.faces) rows) where
  abbrev face_of : ℕ × ℕ → List ℕ
  face_of row = turned_face (get_or m.faces row.0 []) row.1

  face-at : (i : ℕ) → i < length rows → get_or (renumbered m rows).faces i [] ≡ turned_face (get_or m.faces (named rows i) []) (turn rows i)
  face-at i below = get_or-map face_of rows i (0, 0) [] below

  many : length (renumbered m rows).faces ≡ length m.faces
  many = length-map rows face_of ∙ apart.one_each

  pub renumbered-mesh : IsMesh (renumbered m rows)
  renumbered-mesh = record {
    points = is.points;
    few_faces = omega (arith, many, is.few_faces);
    faces = All-from_get_or (IsFaceOf (length m.points)) (renumbered m rows).faces [] (λ i below.
        let inside : i < length m.faces = omega (arith, many) in
        let row : i < length rows = omega (arith, apart.one_each) in
        subst (IsFaceOf (length m.points)) (sym (face-at i row)) (turned-fits (length m.points) (get_or m.faces (named rows i) []) (turn rows i) (is.faces (named rows i) [] (apart.within i inside))));
  }

  pub renumbered-same : SameMesh m (renumbered m rows) rows
  renumbered-same = record {
    heads = refl;
    each_row = apart.one_each ∙ sym many;
    each_face = names-once (length m.faces) rows apart;
    faces = λ i below.
        let inside : i < length m.faces = omega (arith, many) in
        let row : i < length rows = omega (arith, apart.one_each) in (
          apart.turns i inside,
          λ k small.
              ap (λ (face : List ℕ). get_or m.points (get_or face (k % 3) 0) []) (face-at i row)
              ∙ ap (λ p. get_or m.points p []) (turned-at (get_or m.faces (named rows i) []) (turn rows i) k small),
        );
  }
