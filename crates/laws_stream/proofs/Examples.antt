-- A geometry that the laws are about: a triangle, by every choice that fits it, and its bytes by one of them.
use Rattle.std.proofs.Common.{◌≡◌, ℕ, zero, suc, ◌<◌, Bool, true, false, ◌&&◌, ℤ, pos, List, [], ◌∷◌, get_or, Option, None, Some, refl, ap, subst, arith}
use Rattle.std.specs.Prelude.{negsuc, ◌||◌, is_none}
use Rattle.std.specs.List.{All}
use Rattle.std.proofs.lemmas.Int.{ints}
use Rattle.std.proofs.lemmas.List.Elements.{All-nil, All-cons}
use Rattle.attr_heads.specs.declared.heads.Head.{Head}
use Rattle.mesh_model.specs.declared.geometries.Geometry.TheVariants.{Mesh}
use Rattle.attr_heads.specs.Bounds.{in_bounds, no_bounds, type_bounds}
use Rattle.attr_heads.specs.Head.{heads_fault}
use Rattle.mesh_model.specs.Parts.{MeshParts, RowFits, IsFaceOf, IsMesh}
use Rattle.predict.specs.Wrap.{Range}
use Rattle.predict.specs.declared.schemes.Prediction.TheVariants as prediction
use Rattle.laws_attr.specs.Laws.{HeadFits}
use Rattle.drc_container.specs.declared.choice.methods.Method.{Method}
use Rattle.drc_container.specs.declared.choice.methods.Method.TheVariants as method
use Rattle.drc_container.specs.declared.choice.choices.Walk.{Walk}
use Rattle.drc_bits.specs.Varint.{spelling}
use Rattle.seq_section.specs.Indices.{indices_bytes}
use Rattle.attr_section.specs.Heads.{heads_bytes}
use Rattle.attr_section.specs.WrittenParts.{plain_bytes, integers_bytes, predicted_bytes}
use Rattle.attr_section.specs.Written.{values_bytes, decoder_values_bytes}
use Rattle.drc_container.specs.writing.Written.{header_bytes, sequential_attributes_bytes, stream_bytes}
use Rattle.drc_container.specs.declared.choice.predicts.Predict.{Predict}
use Rattle.drc_container.specs.declared.choice.choices.Choice.{Choice}
use Rattle.drc_container.specs.choice.Choice.{is_sequential}
use Rattle.drc_container.specs.choice.Refused.{chooses_surface, choice_fault}
use Rattle.drc_container.specs.choice.Encodable.{IsProperFace, IsIn, IsEncodable}
use Rattle.drc_container.specs.writing.Chosen.{written}
use Rattle.drc_container.specs.writing.Encoded.{Means}
use Rattle.drc_container.specs.writing.Layout.{IsLaidOut}
use Rattle.drc_container.specs.declared.choice.predicts.Predict.TheVariants.{Plain}
use Rattle.drc_container.specs.choice.Predicts.{asked}
use Rattle.drc_container.proofs.lemmas.choice.Encodable.{encodable-encoded}
use Rattle.laws_stream.proofs.Whole.{written-means, written-laid_out}

-- a position of three integers of 32 bits
abbrev position : Head
position = record { usage = 0; dtype = 5; comps = 3; normalized = 0; id = 0; quant = None; octa = None }

abbrev point : ℤ → ℤ → ℤ → List ℤ
point x y z = x ∷ y ∷ z ∷ []

-- a triangle
abbrev triangle : MeshParts
triangle = record {
  heads = position ∷ [];
  points = point (pos 0) (pos 0) (pos 0) ∷ point (pos 10) (pos 0) (pos 0) ∷ point (pos 0) (pos 10) (negsuc 0) ∷ [];
  faces = (0 ∷ 1 ∷ 2 ∷ []) ∷ [];
}

-- each row has three integers of 32 bits
row-fits : (x y z : ℤ) → in_bounds (type_bounds 5) x ≡ true → in_bounds (type_bounds 5) y ≡ true → in_bounds (type_bounds 5) z ≡ true → RowFits (position ∷ []) (point x y z)
row-fits x y z hx hy hz = (refl, each)
  where
    each : (j : ℕ) → j < 3 → in_bounds (get_or (type_bounds 5 ∷ type_bounds 5 ∷ type_bounds 5 ∷ []) j no_bounds) (get_or (point x y z) j (pos 0)) ≡ true
    each zero low = hx
    each (suc zero) low = hy
    each (suc (suc zero)) low = hz
    each (suc (suc (suc j))) low = absurd (omega arith)

rows-fit : All (RowFits (position ∷ [])) triangle.points
unfolding in_bounds
rows-fit =
    let P = RowFits (position ∷ []) in
    let a = point (pos 0) (pos 0) (pos 0) in
    let b = point (pos 10) (pos 0) (pos 0) in
    let c = point (pos 0) (pos 10) (negsuc 0) in
    All-cons P a (b ∷ c ∷ []) (row-fits (pos 0) (pos 0) (pos 0) refl refl refl)
    (All-cons P b (c ∷ []) (row-fits (pos 10) (pos 0) (pos 0) refl refl refl)
    (All-cons P c [] (row-fits (pos 0) (pos 10) (negsuc 0) refl refl refl) (All-nil P)))

-- the points of the face
face-within : IsFaceOf 3 (0 ∷ 1 ∷ 2 ∷ [])
face-within = (refl, All-cons (λ p. p < 3) 0 (1 ∷ 2 ∷ []) (omega arith) (All-cons (λ p. p < 3) 1 (2 ∷ []) (omega arith) (All-cons (λ p. p < 3) 2 [] (omega arith) (All-nil (λ p. p < 3)))))

triangle-mesh : IsMesh triangle
unfolding heads_fault
triangle-mesh = record {
  points = record { heads_pass = refl; few_points = omega arith; few_values = omega arith; rows_fit = rows-fit };
  few_faces = omega arith;
  faces = All-cons (IsFaceOf 3) (0 ∷ 1 ∷ 2 ∷ []) [] face-within (All-nil (IsFaceOf 3));
}

-- no two of its positions are the same
abbrev first_of : List ℤ → ℤ
first_of row = get_or row 0 (pos 0)

abbrev second_of : List ℤ → ℤ
second_of row = get_or row 1 (pos 0)

face-proper : (f : ℕ) → f < 1 → IsProperFace triangle f
face-proper zero low = (
  λ e. absurd (let first = ap first_of e in omega (arith, ints, first)),
  λ e. absurd (let first = ap first_of e in omega (arith, ints, first)),
  λ e. absurd (let second = ap second_of e in omega (arith, ints, second)),
)
face-proper (suc f) low = absurd (omega arith)

-- its integers lie in a range
abbrev small : Range
small = record { low = negsuc 0; high = pos 10 }

row-small : (x y z : ℤ) → IsIn small x → IsIn small y → IsIn small z → All (IsIn small) (point x y z)
row-small x y z hx hy hz = All-cons (IsIn small) x (y ∷ z ∷ []) hx (All-cons (IsIn small) y (z ∷ []) hy (All-cons (IsIn small) z [] hz (All-nil (IsIn small))))

rows-small : All (λ (row : List ℤ). All (IsIn small) row) triangle.points
rows-small =
    let P : List ℤ → Type 0 = λ (row : List ℤ). All (IsIn small) row in
    let a = point (pos 0) (pos 0) (pos 0) in
    let b = point (pos 10) (pos 0) (pos 0) in
    let c = point (pos 0) (pos 10) (negsuc 0) in
    let none : IsIn small (pos 0) = (omega (arith, ints), omega (arith, ints)) in
    let ten : IsIn small (pos 10) = (omega (arith, ints), omega (arith, ints)) in
    let least : IsIn small (negsuc 0) = (omega (arith, ints), omega (arith, ints)) in
    All-cons P a (b ∷ c ∷ []) (row-small (pos 0) (pos 0) (pos 0) none none none)
    (All-cons P b (c ∷ []) (row-small (pos 10) (pos 0) (pos 0) ten none none)
    (All-cons P c [] (row-small (pos 0) (pos 10) (negsuc 0) none ten least) (All-nil P)))

triangle-encodable : IsEncodable triangle
triangle-encodable = record {
  mesh = triangle-mesh;
  position = refl;
  some = omega arith;
  proper = face-proper;
  few_corners = omega arith;
  few_values = omega arith;
  range = small;
  can_wrap = record { ordered = omega (arith, ints); narrow = omega (arith, ints) };
  near = rows-small;
}

-- so no choice that fits refuses it, and what is written of it by each means it and is coded as chosen
heads-fit : All HeadFits triangle.heads
heads-fit = All-cons HeadFits position [] (record { id = omega arith; quant = tt }) (All-nil HeadFits)

triangle-means : (choice : Choice) → choice_fault (Mesh triangle) choice ≡ None → Means (Mesh triangle) choice (written (Mesh triangle) choice).0 (written (Mesh triangle) choice).1
triangle-means choice fits = written-means (Mesh triangle) choice triangle-mesh heads-fit (encodable-encoded triangle choice triangle-encodable fits)

triangle-laid_out : (choice : Choice) → choice_fault (Mesh triangle) choice ≡ None → IsLaidOut (Mesh triangle) choice (written (Mesh triangle) choice).0
triangle-laid_out choice fits = written-laid_out (Mesh triangle) choice triangle-mesh heads-fit (encodable-encoded triangle choice triangle-encodable fits)

abbrev chosen : Method → Option Predict → Option Walk → Choice
chosen m p w = record { method = Some m; index = None; predict = p; walk = w; plain_values = true }

-- by Edgebreaker any prediction and any walk may be chosen, the shape of the surface too
and-false : (b : Bool) → (b && false) ≡ false
and-false true = refl
and-false false = refl

or-true : (b : Bool) → (b || true) ≡ true
or-true true = refl
or-true false = refl

surface-fits : (m : Method) (p : Option Predict) (w : Option Walk) → is_sequential m ≡ false → choice_fault (Mesh triangle) (chosen m p w) ≡ None
surface-fits m p w off = rw (off, and-false (chooses_surface p), or-true (is_none w)) refl

surface-means : (m : Method) (p : Option Predict) (w : Option Walk) → is_sequential m ≡ false
    → Means (Mesh triangle) (chosen m p w) (written (Mesh triangle) (chosen m p w)).0 (written (Mesh triangle) (chosen m p w)).1
surface-means m p w off = triangle-means (chosen m p w) (surface-fits m p w off)

-- by the sequential method, with its values as they are, these are the bytes
abbrev as_they_are : Choice
as_they_are = chosen method.Seq (Some (Plain prediction.Off)) None

triangle_bytes : (written (Mesh triangle) as_they_are).0
    ≡ 68 ∷ 82 ∷ 65 ∷ 67 ∷ 79 ∷ 2 ∷ 2 ∷ 1 ∷ 0 ∷ 0 ∷ 0 ∷ 1 ∷ 3 ∷ 1 ∷ 0 ∷ 1 ∷ 2 ∷ 1 ∷ 1 ∷ 0 ∷ 5 ∷ 3 ∷ 0 ∷ 0 ∷ 1 ∷ 254 ∷ 0 ∷ 1
    ∷ 0 ∷ 0 ∷ 0 ∷ 20 ∷ 0 ∷ 0 ∷ 0 ∷ 20 ∷ 1 ∷ []
unfolding stream_bytes header_bytes indices_bytes spelling sequential_attributes_bytes asked heads_bytes decoder_values_bytes values_bytes predicted_bytes integers_bytes plain_bytes
triangle_bytes = refl

bytes-mean : Means (Mesh triangle) as_they_are (
    68 ∷ 82 ∷ 65 ∷ 67 ∷ 79 ∷ 2 ∷ 2 ∷ 1 ∷ 0 ∷ 0 ∷ 0 ∷ 1 ∷ 3 ∷ 1 ∷ 0 ∷ 1 ∷ 2 ∷ 1 ∷ 1 ∷ 0 ∷ 5 ∷ 3 ∷ 0 ∷ 0 ∷ 1 ∷ 254 ∷ 0 ∷ 1
    ∷ 0 ∷ 0 ∷ 0 ∷ 20 ∷ 0 ∷ 0 ∷ 0 ∷ 20 ∷ 1 ∷ []) ((0, 0) ∷ [])
bytes-mean = subst (λ bytes. Means (Mesh triangle) as_they_are bytes ((0, 0) ∷ [])) triangle_bytes (triangle-means as_they_are refl)
