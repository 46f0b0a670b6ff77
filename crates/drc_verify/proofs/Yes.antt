-- What a yes and each no says of the rows.
use Rattle.std.proofs.Common.{◌≡◌, ℕ, ◌-◌, ◌%◌, ◌<◌, Bool, true, false, eqb, length, Option, Some, None, sym, ◌∙◌, subst, refl, inl, inr, arith}
use Rattle.std.specs.List.{position_or_len}
use Rattle.std.proofs.lemmas.List.FromFn.{length-map-range_with_len}
use Rattle.std.proofs.lemmas.Bool.{false≢true, and_parts, and_from, cases_order, eqb-true, eq-eqb}
use Rattle.mesh_model.specs.declared.geometries.Geometry.{Geometry}
use Rattle.mesh_model.specs.declared.geometries.Geometry.TheVariants.{Mesh, Cloud}
use Rattle.mesh_model.specs.Parts.{MeshParts, CloudParts}
use Rattle.mesh_model.specs.Same.{Rows, named, turn, NamesEachOnce, Same, SameMesh, SameCloud}
use Rattle.mesh_model.specs.Renumbering.{inverted}
use Rattle.mesh_model.proofs.Counts.{one_place}
use Rattle.mesh_model.proofs.Pigeonholes.{names-once}
use Rattle.mesh_model.proofs.SameLaws.{same-sym}
use Rattle.drc_verify.specs.declared.verdicts.Verdict.{Verdict}
use Rattle.drc_verify.specs.declared.verdicts.Verdict.TheVariants as verdict
use Rattle.drc_verify.specs.HeadTests.{same_heads}
use Rattle.drc_verify.specs.Firsts.{first_failing}
use Rattle.drc_verify.specs.RowTests.{NamesNew, FaceIsRight, PointIsRight, face_is_right, point_is_right}
use Rattle.drc_verify.specs.Judged.{verdict_by, count_fits, mesh_verdict, cloud_verdict, rows_verdict, AreOneKind}
use Rattle.drc_verify.specs.Laws.{YesIsSame, VerdictsAreTold, VerdictSays}
use Rattle.drc_verify.proofs.HeadsDecided.{same_heads-decides}
use Rattle.drc_verify.proofs.FirstsFound.{first_failing-none, first_failing-found}
use Rattle.drc_verify.proofs.RowsDecided.{face-decides, point-decides}

-- the tests that a verdict has passed
verdict-cases : (P : Verdict → Type 0) (heads counts : Bool) (count : ℕ) (wrong : Option ℕ)
    → (heads ≡ false → P verdict.Heads)
    → (heads ≡ true → counts ≡ false → P (verdict.Rows count))
    → (heads ≡ true → counts ≡ true → wrong ≡ None → P verdict.Same)
    → (heads ≡ true → counts ≡ true → (i : ℕ) → wrong ≡ Some i → P (verdict.Row i))
    → P (verdict_by heads counts count wrong)
verdict-cases P false counts count wrong a b c d = a refl
verdict-cases P true false count wrong a b c d = b refl refl
verdict-cases P true true count None a b c d = c refl refl refl
verdict-cases P true true count (Some i) a b c d = d refl refl i refl

-- whether there are as many is a test
counts-told : (rows given read : ℕ) → count_fits rows given read ≡ true → (rows ≡ given) × (rows ≡ read)
counts-told rows given read t =
    let parts = and_parts (eqb rows given) (eqb rows read) t in (eqb-true rows given parts.0, eqb-true rows read parts.1)

counts-fit : (rows given read : ℕ) → (rows ≡ given) × (rows ≡ read) → count_fits rows given read ≡ true
counts-fit rows given read h = and_from (eqb rows given) (eqb rows read) (eq-eqb rows given h.0) (eq-eqb rows read h.1)

-- rows that name something new each name no two the same
pub apart : (rows : Rows) (count n : ℕ) → ((i : ℕ) → i < n → NamesNew count rows i) → (i j : ℕ) → i < n → j < n → named rows i ≡ named rows j → i ≡ j
apart rows count n new i j bi bj same = elim (cases_order i j) [
  | inl e ↦ e
  | inr (inl before) ↦ absurd ((new j bj).1 i before same)
  | inr (inr behind) ↦ absurd ((new i bi).1 j behind (sym same))
]

-- where each number is named once, each row names a new one
pub new-row : (count : ℕ) (rows : Rows) → NamesEachOnce count rows → (i : ℕ) → i < length rows → NamesNew count rows i
new-row count rows names i below =
    let within = names.within i (0, 0) below in (
      within,
      λ j before same.
          let f = named rows i in
          let at = one_place (λ (row : ℕ × ℕ). eqb row.0 f) rows (0, 0) (names.once f within) in
          let own : i ≡ at.0 = at.1.alone i below (eq-eqb f f refl) in
          let other : j ≡ at.0 = at.1.alone j (omega arith) (eq-eqb (named rows j) f same) in
          absurd (omega (arith, own, other)),
    )

length-back : (rows : Rows) → length (inverted rows) ≡ length rows
length-back rows = length-map-range_with_len back 0 (length rows)
  where
    back : ℕ → ℕ × ℕ
    back f = let i = position_or_len (λ (row : ℕ × ℕ). eqb row.0 f) rows in (i, (3 - turn rows i) % 3)

-- ---- meshes

mesh-same : (m n : MeshParts) (rows : Rows) → m.heads ≡ n.heads → length rows ≡ length m.faces → length rows ≡ length n.faces
    → ((i : ℕ) → i < length rows → FaceIsRight m n rows i) → SameMesh m n rows
mesh-same m n rows heads given read each = record {
  heads = heads;
  each_row = read;
  each_face = names-once (length m.faces) rows (record {
    one_each = given;
    within = λ i below. (each i (omega (arith, given))).0.0;
    turns = λ i below. (each i (omega (arith, given))).1.0;
    apart = λ i j bi bj same.
        apart rows (length m.faces) (length rows) (λ k b. (each k b).0) i j (omega (arith, given)) (omega (arith, given)) same;
  });
  faces = λ i below. (each i (omega (arith, read))).1;
}

-- as many rows as faces that were given
pub mesh-given : (m n : MeshParts) (rows : Rows) → SameMesh m n rows → length rows ≡ length m.faces
mesh-given m n rows same =
    let back : SameMesh n m (inverted rows) = same-sym (Mesh m) (Mesh n) rows same in
    sym (length-back rows) ∙ back.each_row

mesh-right : (m n : MeshParts) (rows : Rows) → SameMesh m n rows → (i : ℕ) → i < length rows → FaceIsRight m n rows i
mesh-right m n rows same i below =
    (new-row (length m.faces) rows same.each_face i below, same.faces i (omega (arith, same.each_row)))

mesh-says : (m n : MeshParts) (rows : Rows) → VerdictSays false (Mesh m) (Mesh n) rows (mesh_verdict m n rows)
mesh-says m n rows =
    verdict-cases (VerdictSays false (Mesh m) (Mesh n) rows) (same_heads m.heads n.heads)
    (count_fits (length rows) (length m.faces) (length n.faces)) (length rows) (first_failing (face_is_right m n rows) (length rows))
    (λ no h. false≢true (sym no ∙ (same_heads-decides m.heads n.heads).1 h.1))
    (λ heads no. (
      ((refl, refl), (same_heads-decides m.heads n.heads).0 heads),
      λ h. false≢true (sym no ∙ counts-fit (length rows) (length m.faces) (length n.faces) h),
      refl,
    ))
    (λ heads counts none.
    let many = counts-told (length rows) (length m.faces) (length n.faces) counts in (
      (refl, refl),
      mesh-same m n rows ((same_heads-decides m.heads n.heads).0 heads) many.0 many.1
          (λ i below. (face-decides m n rows i below).0 (first_failing-none (face_is_right m n rows) (length rows) none i below)),
    ))
    (λ heads counts i found.
    let many = counts-told (length rows) (length m.faces) (length n.faces) counts in
    let at = first_failing-found (face_is_right m n rows) (length rows) i found in (
      ((refl, refl), (same_heads-decides m.heads n.heads).0 heads),
      many,
      at.0,
      λ right. false≢true (sym at.1 ∙ (face-decides m n rows i at.0).1 right),
      λ j before. (face-decides m n rows j (omega (arith, at.0))).0 (at.2 j before),
    ))

mesh-yes : (m n : MeshParts) (rows : Rows) → SameMesh m n rows → mesh_verdict m n rows ≡ verdict.Same
mesh-yes m n rows same =
    verdict-cases (λ v. v ≡ verdict.Same) (same_heads m.heads n.heads)
    (count_fits (length rows) (length m.faces) (length n.faces)) (length rows) (first_failing (face_is_right m n rows) (length rows))
    (λ no. absurd (false≢true (sym no ∙ (same_heads-decides m.heads n.heads).1 same.heads)))
    (λ heads no. absurd (false≢true (sym no ∙ counts-fit (length rows) (length m.faces) (length n.faces) (mesh-given m n rows same, same.each_row))))
    (λ heads counts none. refl)
    (λ heads counts i found.
    let at = first_failing-found (face_is_right m n rows) (length rows) i found in
    absurd (false≢true (sym at.1 ∙ (face-decides m n rows i at.0).1 (mesh-right m n rows same i at.0))))

-- ---- clouds

cloud-same : (m n : CloudParts) (rows : Rows) → m.heads ≡ n.heads → length rows ≡ length m.points → length rows ≡ length n.points
    → ((i : ℕ) → i < length rows → PointIsRight m n rows i) → SameCloud m n rows
cloud-same m n rows heads given read each = record {
  heads = heads;
  each_row = read;
  each_point = names-once (length m.points) rows (record {
    one_each = given;
    within = λ i below. (each i (omega (arith, given))).0.0;
    turns = λ i below. let none = (each i (omega (arith, given))).1.0 in omega (arith, none);
    apart = λ i j bi bj same.
        apart rows (length m.points) (length rows) (λ k b. (each k b).0) i j (omega (arith, given)) (omega (arith, given)) same;
  });
  points = λ i below. (each i (omega (arith, read))).1;
}

cloud-given : (m n : CloudParts) (rows : Rows) → SameCloud m n rows → length rows ≡ length m.points
cloud-given m n rows same =
    let back : SameCloud n m (inverted rows) = same-sym (Cloud m) (Cloud n) rows same in
    sym (length-back rows) ∙ back.each_row

cloud-right : (m n : CloudParts) (rows : Rows) → SameCloud m n rows → (i : ℕ) → i < length rows → PointIsRight m n rows i
cloud-right m n rows same i below =
    (new-row (length m.points) rows same.each_point i below, same.points i (omega (arith, same.each_row)))

cloud-says : (m n : CloudParts) (rows : Rows) → VerdictSays true (Cloud m) (Cloud n) rows (cloud_verdict m n rows)
cloud-says m n rows =
    verdict-cases (VerdictSays true (Cloud m) (Cloud n) rows) (same_heads m.heads n.heads)
    (count_fits (length rows) (length m.points) (length n.points)) (length rows) (first_failing (point_is_right m n rows) (length rows))
    (λ no h. false≢true (sym no ∙ (same_heads-decides m.heads n.heads).1 h.1))
    (λ heads no. (
      ((refl, refl), (same_heads-decides m.heads n.heads).0 heads),
      λ h. false≢true (sym no ∙ counts-fit (length rows) (length m.points) (length n.points) h),
      refl,
    ))
    (λ heads counts none.
    let many = counts-told (length rows) (length m.points) (length n.points) counts in (
      (refl, refl),
      cloud-same m n rows ((same_heads-decides m.heads n.heads).0 heads) many.0 many.1
          (λ i below. (point-decides m n rows i below).0 (first_failing-none (point_is_right m n rows) (length rows) none i below)),
    ))
    (λ heads counts i found.
    let many = counts-told (length rows) (length m.points) (length n.points) counts in
    let at = first_failing-found (point_is_right m n rows) (length rows) i found in (
      ((refl, refl), (same_heads-decides m.heads n.heads).0 heads),
      many,
      at.0,
      λ right. false≢true (sym at.1 ∙ (point-decides m n rows i at.0).1 right),
      λ j before. (point-decides m n rows j (omega (arith, at.0))).0 (at.2 j before),
    ))

cloud-yes : (m n : CloudParts) (rows : Rows) → SameCloud m n rows → cloud_verdict m n rows ≡ verdict.Same
cloud-yes m n rows same =
    verdict-cases (λ v. v ≡ verdict.Same) (same_heads m.heads n.heads)
    (count_fits (length rows) (length m.points) (length n.points)) (length rows) (first_failing (point_is_right m n rows) (length rows))
    (λ no. absurd (false≢true (sym no ∙ (same_heads-decides m.heads n.heads).1 same.heads)))
    (λ heads no. absurd (false≢true (sym no ∙ counts-fit (length rows) (length m.points) (length n.points) (cloud-given m n rows same, same.each_row))))
    (λ heads counts none. refl)
    (λ heads counts i found.
    let at = first_failing-found (point_is_right m n rows) (length rows) i found in
    absurd (false≢true (sym at.1 ∙ (point-decides m n rows i at.0).1 (cloud-right m n rows same i at.0))))

-- ---- geometries

pub verdicts-told : VerdictsAreTold
verdicts-told false (Mesh m) (Mesh n) rows = mesh-says m n rows
verdicts-told true (Mesh m) (Mesh n) rows = λ h. false≢true (sym h.0.0)
verdicts-told true (Cloud m) (Cloud n) rows = cloud-says m n rows
verdicts-told false (Cloud m) (Cloud n) rows = λ h. false≢true h.0.0
verdicts-told true (Mesh m) (Cloud n) rows = λ h. false≢true (sym h.0.0)
verdicts-told false (Mesh m) (Cloud n) rows = λ h. false≢true h.0.1
verdicts-told true (Cloud m) (Mesh n) rows = λ h. false≢true (sym h.0.1)
verdicts-told false (Cloud m) (Mesh n) rows = λ h. false≢true h.0.0

yes-back : (cloud : Bool) (g n : Geometry) (rows : Rows) → AreOneKind cloud g n → Same g n rows → rows_verdict cloud g n rows ≡ verdict.Same
yes-back false (Mesh m) (Mesh n) rows kind same = mesh-yes m n rows same
yes-back true (Mesh m) (Mesh n) rows kind same = absurd (false≢true (sym kind.0))
yes-back true (Cloud m) (Cloud n) rows kind same = cloud-yes m n rows same
yes-back false (Cloud m) (Cloud n) rows kind same = absurd (false≢true kind.0)
yes-back cloud (Mesh m) (Cloud n) rows kind same = absurd same
yes-back cloud (Cloud m) (Mesh n) rows kind same = absurd same

pub yes-same : YesIsSame
yes-same cloud g n rows = (
  λ yes. subst (VerdictSays cloud g n rows) yes (verdicts-told cloud g n rows),
  λ h. yes-back cloud g n rows h.0 h.1,
)
