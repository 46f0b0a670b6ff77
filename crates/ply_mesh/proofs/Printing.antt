-- A text that is put to a sink by way of a chunk.
use Rattle.std.proofs.Common.{◌≡◌, ℕ, Option, List, ◌++◌, length, take, Result, Ok, Err, sym, ap, ◌∙◌, subst, append_assoc}
use Rattle.std.specs.Result.{IsErr}
use Rattle.std.specs.Io.KnownBytes.{Appends}
use Rattle.std.proofs.lemmas.Bool.{false≢true}
use Rattle.drc_base.specs.Sinks.{AppendsPrefix}
use Rattle.drc_base.proofs.Appending.{Appends-then}
use Rattle.mesh_model.specs.declared.geometries.Geometry.{Geometry}
use Rattle.mesh_model.specs.declared.geometries.Geometry.TheVariants.{Mesh, Cloud}
use Rattle.mesh_model.specs.Parts.{MeshParts}
use Rattle.ply_mesh.specs.Text.{text_of, points_header, faces_header, last_line, point_lines, face_lines, ply_text}
use Rattle.ply_mesh.specs.Printing.{header_lines, body_lines, AppendsAllBut, Prints}
use Rattle.ply_mesh.proofs.RowTexts.{two_parts}

-- the rest of some bytes before others
regrouped : (bytes p q x y : List ℕ) → bytes ≡ p ++ x → x ≡ q ++ y → bytes ≡ (p ++ q) ++ y
regrouped bytes p q x y e h = e ∙ ap (λ (t : List ℕ). p ++ t) h ∙ sym (append_assoc p q y)

behind : (bytes p x more : List ℕ) → bytes ≡ p ++ x → bytes ++ more ≡ p ++ (x ++ more)
behind bytes p x more e = ap (λ (t : List ℕ). t ++ more) e ∙ append_assoc p x more

-- others come behind
pub AllBut-more : (a b : Option (List ℕ)) (bytes rest more : List ℕ) → AppendsAllBut a b bytes rest → AppendsAllBut a b (bytes ++ more) (rest ++ more)
AllBut-more a b bytes rest more p = record { prefix = p.prefix; split = behind bytes p.prefix rest more p.split; appended = p.appended }

pub Prefix-more : (a b : Option (List ℕ)) (bytes more : List ℕ) → AppendsPrefix a b bytes → AppendsPrefix a b (bytes ++ more)
Prefix-more a b bytes more p = record { prefix = p.prefix; rest = p.rest ++ more; split = behind bytes p.prefix p.rest more p.split; appended = p.appended }

-- some of the rest was appended then
pub AllBut-then : (a b c : Option (List ℕ)) (bytes rest rest' : List ℕ) → AppendsAllBut a b bytes rest → AppendsAllBut b c rest rest' → AppendsAllBut a c bytes rest'
AllBut-then a b c bytes rest rest' p q = record {
  prefix = p.prefix ++ q.prefix;
  split = regrouped bytes p.prefix q.prefix rest rest' p.split q.split;
  appended = Appends-then a b c p.prefix q.prefix p.appended q.appended;
}

pub Prefix-then : (a b c : Option (List ℕ)) (bytes rest : List ℕ) → AppendsAllBut a b bytes rest → AppendsPrefix b c rest → AppendsPrefix a c bytes
Prefix-then a b c bytes rest p q = record {
  prefix = p.prefix ++ q.prefix;
  rest = q.rest;
  split = regrouped bytes p.prefix q.prefix rest q.rest p.split q.split;
  appended = Appends-then a b c p.prefix q.prefix p.appended q.appended;
}

-- one more line in the chunk, after room was made in it
pub line_more : (a b c : Option (List ℕ)) (bytes held now new line due rest : List ℕ) → AppendsAllBut a b bytes (held ++ due) → AppendsAllBut b c held now → new ≡ now ++ line → line ++ rest ≡ due
    → AppendsAllBut a c bytes (new ++ rest)
line_more a b c bytes held now new line due rest p q more cut =
    let same : now ++ due ≡ new ++ rest = ap (λ (t : List ℕ). now ++ t) (sym cut) ∙ sym (append_assoc now line rest) ∙ ap (λ (t : List ℕ). t ++ rest) (sym more) in
    subst (λ (t : List ℕ). AppendsAllBut a c bytes t) same (AllBut-then a b c bytes (held ++ due) (now ++ due) p (AllBut-more b c held now due q))

-- the sink failed
pub Prints-none : {E : Type 0} (a b : Option (List ℕ)) (bytes chunk : List ℕ) (r : Result ℕ E) → IsErr r → AppendsPrefix a b bytes → Prints a b bytes chunk r
Prints-none a b bytes chunk (Ok now) is p = absurd (false≢true is)
Prints-none a b bytes chunk (Err e) is p = p

-- the sink failed while room was made
pub line_none : {E : Type 0} (a b c : Option (List ℕ)) (bytes held due chunk : List ℕ) (r : Result ℕ E) → IsErr r → AppendsAllBut a b bytes (held ++ due) → AppendsPrefix b c held → Prints a c bytes chunk r
line_none a b c bytes held due chunk r is p q = Prints-none a c bytes chunk r is (Prefix-then a b c bytes (held ++ due) p (Prefix-more b c held due q))

-- no line is left
pub no_line : (a b : Option (List ℕ)) (bytes rest held : List ℕ) → rest ≡ held → AppendsAllBut a b bytes rest → AppendsAllBut a b bytes held
no_line a b bytes rest held same p = subst (λ (t : List ℕ). AppendsAllBut a b bytes t) same p

-- one part behind another
pub AllBut-parts : (a b c : Option (List ℕ)) (bytes rest more due rest' : List ℕ) → bytes ++ more ≡ due → AppendsAllBut a b bytes rest → AppendsAllBut b c (rest ++ more) rest' → AppendsAllBut a c due rest'
AllBut-parts a b c bytes rest more due rest' same p q =
    subst (λ (t : List ℕ). AppendsAllBut a c t rest') same (AllBut-then a b c (bytes ++ more) (rest ++ more) rest' (AllBut-more a b bytes rest more p) q)

pub Prefix-parts : (a b c : Option (List ℕ)) (bytes rest more due : List ℕ) → bytes ++ more ≡ due → AppendsAllBut a b bytes rest → AppendsPrefix b c (rest ++ more) → AppendsPrefix a c due
Prefix-parts a b c bytes rest more due same p q =
    subst (λ (t : List ℕ). AppendsPrefix a c t) same (Prefix-then a b c (bytes ++ more) (rest ++ more) (AllBut-more a b bytes rest more p) q)

pub Prints-parts : {E : Type 0} (a b c : Option (List ℕ)) (bytes rest more due chunk : List ℕ) (r : Result ℕ E) → bytes ++ more ≡ due → AppendsAllBut a b bytes rest → Prints b c (rest ++ more) chunk r → Prints a c due chunk r
Prints-parts a b c bytes rest more due chunk (Ok now) same p q = AllBut-parts a b c bytes rest more due (take now chunk) same p q
Prints-parts a b c bytes rest more due chunk (Err e) same p q = Prefix-parts a b c bytes rest more due same p q

-- the first part alone
pub Prefix-first : (a b : Option (List ℕ)) (bytes more due : List ℕ) → bytes ++ more ≡ due → AppendsPrefix a b bytes → AppendsPrefix a b due
Prefix-first a b bytes more due same p = subst (λ (t : List ℕ). AppendsPrefix a b t) same (Prefix-more a b bytes more p)

-- the rest too
pub all-then : (a b c : Option (List ℕ)) (bytes rest : List ℕ) → AppendsAllBut a b bytes rest → Appends b c rest → Appends a c bytes
all-then a b c bytes rest p q =
    subst (λ (t : List ℕ). Appends a c t) (sym p.split) (Appends-then a b c p.prefix rest p.appended q)

-- what is behind the header of a mesh, after other bytes
pub mesh_body : (front : List ℕ) (g : Geometry) (m : MeshParts) → g ≡ Mesh m → (front ++ text_of (point_lines m.points)) ++ text_of (face_lines m.faces) ≡ front ++ text_of (body_lines g)
mesh_body front g m is =
    append_assoc front (text_of (point_lines m.points)) (text_of (face_lines m.faces))
    ∙ ap (λ (t : List ℕ). front ++ t) (two_parts (point_lines m.points) (face_lines m.faces))
    ∙ ap (λ (x : Geometry). front ++ text_of (body_lines x)) (sym is)

-- the header, and what is behind it
whole_text : (g : Geometry) → text_of (header_lines g) ++ text_of (body_lines g) ≡ ply_text g
unfolding ply_text
whole_text (Mesh m) =
    let header = points_header m.heads (length m.points) ++ faces_header (length m.faces) ++ last_line in
    two_parts header (point_lines m.points ++ face_lines m.faces)
    ∙ ap text_of (sym (append_assoc header (point_lines m.points) (face_lines m.faces)))
whole_text (Cloud c) = two_parts (points_header c.heads (length c.points) ++ last_line) (point_lines c.points)

pub ply_parts : (g : Geometry) (header : List ℕ) → header ≡ text_of (header_lines g) → header ++ text_of (body_lines g) ≡ ply_text g
ply_parts g header is = ap (λ (t : List ℕ). t ++ text_of (body_lines g)) is ∙ whole_text g
