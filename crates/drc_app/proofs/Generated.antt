-- Generated meshes are never refused.
use Rattle.std.proofs.Common.{◌≡◌, ℕ, ◌*◌, ◌^◌, ◌<◌, ◌≤◌, true, ℤ, pos, length, None, refl, arith}
use Rattle.std.specs.Prelude.{◌≤ℤ◌, ◌<ℤ◌}
use Rattle.std.specs.List.{All}
use Rattle.std.proofs.lemmas.Int.{ints}
use Rattle.std.proofs.lemmas.Nat.{mul-le}
use Rattle.std.proofs.lemmas.List.Elements.{All-weaker}
use Rattle.mesh_model.specs.declared.geometries.Geometry.TheVariants.{Mesh}
use Rattle.attr_heads.specs.Head.{width_of}
use Rattle.drc_gen.specs.declared.kinds.GenKind.{GenKind}
use Rattle.drc_gen.specs.declared.kinds.GenKind.TheVariants.{Grid, Torus, Holes, Fans, Seams}
use Rattle.drc_gen.specs.Generated.{generated_heads, generated_points, generated_faces, generated}
use Rattle.drc_gen.specs.GeneratedLaws.{IsSize, IsSmall}
use Rattle.drc_gen.proofs.Meshes.{generated-mesh, few-faces, narrow}
use Rattle.drc_gen.proofs.Proper.{some-faces, proper-faces, small-values}
use Rattle.drc_container.specs.declared.choice.methods.Method.{Method}
use Rattle.drc_container.specs.declared.choice.methods.Method.TheVariants as method
use Rattle.drc_container.specs.choice.Refused.{begins_with_position, refused}
use Rattle.drc_container.specs.choice.Encodable.{IsProperFace, IsEncodable}
use Rattle.drc_container.proofs.lemmas.choice.Encodable.{encodable-encoded}
use Rattle.drc_app.specs.Due.{by_method}
use Rattle.drc_app.specs.Laws.{GeneratedIsEncoded}

-- the first attribute is a position
begins : (kind : GenKind) → begins_with_position (generated_heads kind) ≡ true
begins Grid = refl
begins Torus = refl
begins Holes = refl
begins Fans = refl
begins Seams = refl

-- of three integers
proper : (kind : GenKind) (n seed f : ℕ) → IsSize n → f < length (generated_faces kind n) → IsProperFace (generated kind n seed) f
proper Grid n seed f size below = proper-faces Grid n seed f size below
proper Torus n seed f size below = proper-faces Torus n seed f size below
proper Holes n seed f size below = proper-faces Holes n seed f size below
proper Fans n seed f size below = proper-faces Fans n seed f size below
proper Seams n seed f size below = proper-faces Seams n seed f size below

-- the corners and their values are few
few-corners : (faces : ℕ) → faces ≤ 524288 → 3 * faces ≤ 1572864
few-corners faces few = omega arith

few-values : (faces width : ℕ) → faces ≤ 524288 → width ≤ 4 → 3 * faces * width ≤ 6291456
few-values faces width few thin = omega (arith, mul-le (3 * faces) width 1572864 4 (few-corners faces few) thin)

-- nothing in a generated mesh is at fault, and no limit is met
pub generated-encodable : (kind : GenKind) (n seed : ℕ) → IsSize n → IsEncodable (generated kind n seed)
generated-encodable kind n seed size =
    let few = few-faces kind n size.1 in
    record {
      mesh = generated-mesh kind n seed size;
      position = begins kind;
      some = some-faces kind n size;
      proper = λ f below. proper kind n seed f size below;
      few_corners = omega (arith, few-corners (length (generated_faces kind n)) few);
      few_values = omega (arith, few-values (length (generated_faces kind n)) (width_of (generated_heads kind)) few (narrow kind));
      range = record { low = pos 0; high = pos (2 ^ 20) };
      can_wrap = record { ordered = omega (arith, ints); narrow = omega (arith, ints) };
      near = All-weaker (λ row. All IsSmall row) (λ row. All (λ v. (pos 0 ≤ℤ v) × (v ≤ℤ pos (2 ^ 20))) row)
          (λ row small. All-weaker IsSmall (λ v. (pos 0 ≤ℤ v) × (v ≤ℤ pos (2 ^ 20))) (λ v is. (is.0, at_most v is.1)) row small)
          (generated_points kind n seed) (small-values kind n seed size);
    }
  where
    at_most : (v : ℤ) → v <ℤ pos (2 ^ 20) → v ≤ℤ pos (2 ^ 20)
    at_most v less = omega (arith, ints)

pub generated-encoded : GeneratedIsEncoded
generated-encoded kind n seed choice size fits = encodable-encoded (generated kind n seed) choice (generated-encodable kind n seed size) fits

-- so no method refuses one
pub generated-taken : (kind : GenKind) (n seed : ℕ) → IsSize n → (by : Method) → refused (Mesh (generated kind n seed)) (by_method by) ≡ None
generated-taken kind n seed size method.Seq = generated-encoded kind n seed (by_method method.Seq) size refl
generated-taken kind n seed size method.Eb = generated-encoded kind n seed (by_method method.Eb) size refl
generated-taken kind n seed size method.Valence = generated-encoded kind n seed (by_method method.Valence) size refl
