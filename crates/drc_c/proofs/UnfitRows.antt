-- Rows that aren't as many as a geometry has faces or points: the verdict on them says no more than their number.
use Rattle.std.proofs.Common.{◌≡◌, ◌↔◌, ℕ, Bool, true, false, List, map, length, Option, None, Some, Result, Ok, Err, refl, ap, sym, ◌∙◌}
use Rattle.std.proofs.lemmas.Bool.{ne_eqb}
use Rattle.std.proofs.lemmas.List.{length-map}
use Rattle.drc_base.specs.declared.faults.Fault.{Fault}
use Rattle.drc_base.specs.declared.faults.Refusal.{Refusal}
use Rattle.drc_base.specs.declared.faults.Refusal.TheVariants as refusal
use Rattle.drc_base.specs.declared.kinds.Kind.TheVariants.{NoPosition}
use Rattle.drc_base.specs.Profile.{Profile}
use Rattle.drc_base.specs.Refusals.{Refuses}
use Rattle.drc_base.specs.Steps.{◌>>=◌}
use Rattle.attr_heads.specs.FirstFault.{unless, value_unless}
use Rattle.mesh_model.specs.declared.geometries.Geometry.{Geometry}
use Rattle.mesh_model.specs.declared.geometries.Geometry.TheVariants.{Mesh, Cloud}
use Rattle.mesh_model.specs.Parts.{MeshParts}
use Rattle.mesh_model.specs.Same.{Rows}
use Rattle.mesh_model.specs.SameLaws.{count_of}
use Rattle.corner_table.specs.Sides.{Gluing}
use Rattle.drc_container.specs.reading.Meaning.{Surface, Meaning}
use Rattle.drc_container.specs.reading.Stream.{stream_in}
use Rattle.drc_verify.specs.declared.verdicts.Verdict.{Verdict}
use Rattle.drc_verify.specs.declared.verdicts.Verdict.TheVariants as verdict
use Rattle.drc_verify.specs.HeadTests.{same_heads}
use Rattle.drc_verify.specs.Judged.{verdict_by, count_fits, rows_verdict}
use Rattle.drc_verify.specs.Laws.{YesIsSame}
use Rattle.drc_verify.specs.Checked.{surface_asked, has_position, mesh_asked, pairs_asked, with_pairs, glued_verdict, surface_verdict, verdict_asked, read_in, IsSame}
use Rattle.drc_c.specs.declared.streams.DrcRow.{DrcRow}
use Rattle.drc_c.specs.Streams.{row_meant}
use Rattle.drc_c.specs.Verified.{with_count}

-- another number than the one that is wanted
abbrev Unfit : ℕ → Rows → Type 0
Unfit wanted rows = length rows ≡ wanted → ⊥

-- a verdict where the numbers don't fit
by-heads : (heads : Bool) (count other : ℕ) (w x : Option ℕ)
    → verdict_by heads false count w ≡ with_count count (verdict_by heads false other x)
by-heads true count other w x = refl
by-heads false count other w x = refl

glued-by-heads : (heads : Bool) (count other : ℕ) (w x o p : Option ℕ)
    → with_pairs (verdict_by heads false count w) o ≡ with_count count (with_pairs (verdict_by heads false other x) p)
glued-by-heads true count other w x o p = refl
glued-by-heads false count other w x o p = refl

-- the numbers don't fit
never-fits : (rows given read : ℕ) → (rows ≡ given → ⊥) → count_fits rows given read ≡ false
never-fits rows given read apart = rw (ne_eqb rows given apart) refl

-- on rows alone
unfit-rows : (cloud : Bool) (g n : Geometry) (rows others : Rows) → Unfit (count_of g) rows → Unfit (count_of g) others
    → rows_verdict cloud g n rows ≡ with_count (length rows) (rows_verdict cloud g n others)
unfit-rows false (Mesh m) (Mesh n) rows others apart away =
    rw (never-fits (length rows) (length m.faces) (length n.faces) apart, never-fits (length others) (length m.faces) (length n.faces) away)
    (by-heads (same_heads m.heads n.heads) (length rows) (length others) _ _)
unfit-rows true (Cloud m) (Cloud n) rows others apart away =
    rw (
      never-fits (length rows) (length m.points) (length n.points) apart,
      never-fits (length others) (length m.points) (length n.points) away,
    )
    (by-heads (same_heads m.heads n.heads) (length rows) (length others) _ _)
unfit-rows true (Mesh m) (Mesh n) rows others apart away = refl
unfit-rows false (Cloud m) (Cloud n) rows others apart away = refl
unfit-rows false (Mesh m) (Cloud n) rows others apart away = refl
unfit-rows true (Mesh m) (Cloud n) rows others apart away = refl
unfit-rows false (Cloud m) (Mesh n) rows others apart away = refl
unfit-rows true (Cloud m) (Mesh n) rows others apart away = refl

-- on rows and pairs
unfit-glued : (cloud : Bool) (m : MeshParts) (n : Geometry) (rows others : Rows) (pairs : Gluing) (s : Surface)
    → Unfit (length m.faces) rows → Unfit (length m.faces) others
    → glued_verdict cloud m n rows pairs s ≡ with_count (length rows) (glued_verdict cloud m n others pairs s)
unfit-glued false m (Mesh n) rows others pairs s apart away =
    rw (never-fits (length rows) (length m.faces) (length n.faces) apart, never-fits (length others) (length m.faces) (length n.faces) away)
    (glued-by-heads (same_heads m.heads n.heads) (length rows) (length others) _ _ _ _)
unfit-glued true m (Mesh n) rows others pairs s apart away = refl
unfit-glued false m (Cloud n) rows others pairs s apart away = refl
unfit-glued true m (Cloud n) rows others pairs s apart away = refl

-- the same behind the pairs, and behind the mesh
behind-pairs : (pairs : Result Gluing Fault) (f h : Gluing → Verdict) (count : ℕ) → ((x : Gluing) → f x ≡ with_count count (h x))
    → (pairs >>= λ x. Ok (f x)) ≡ ((pairs >>= λ x. Ok (h x)) >>= λ v. Ok (with_count count v))
behind-pairs (Ok x) f h count is = ap Ok (is x)
behind-pairs (Err e) f h count is = refl

behind-mesh : (test : Option Fault) (m : MeshParts) (f h : MeshParts → Result Verdict Fault) (count : ℕ)
    → f m ≡ (h m >>= λ v. Ok (with_count count v))
    → (value_unless test m >>= f) ≡ ((value_unless test m >>= h) >>= λ v. Ok (with_count count v))
behind-mesh None m f h count is = is
behind-mesh (Some e) m f h count is = refl

-- with surfaces
unfit-on : (cloud : Bool) (g n : Geometry) (s : Surface) (rows others : Rows) → Unfit (count_of g) rows → Unfit (count_of g) others
    → (mesh_asked g >>= λ m. pairs_asked m >>= λ pairs. Ok (glued_verdict cloud m n rows pairs s))
    ≡ ((mesh_asked g >>= λ m. pairs_asked m >>= λ pairs. Ok (glued_verdict cloud m n others pairs s))
    >>= λ v. Ok (with_count (length rows) v))
unfit-on cloud (Mesh m) n s rows others apart away =
    behind-mesh (unless (has_position m.heads) NoPosition 0) m
    (λ m. pairs_asked m >>= λ pairs. Ok (glued_verdict cloud m n rows pairs s))
    (λ m. pairs_asked m >>= λ pairs. Ok (glued_verdict cloud m n others pairs s)) (length rows)
    (behind-pairs (pairs_asked m) (λ pairs. glued_verdict cloud m n rows pairs s)
    (λ pairs. glued_verdict cloud m n others pairs s) (length rows)
    (λ pairs. unfit-glued cloud m n rows others pairs s apart away))
unfit-on cloud (Cloud c) n s rows others apart away = refl

behind-surface : (surface : Option Surface) (f h : Surface → Result Verdict Fault) (count : ℕ)
    → ((s : Surface) → f s ≡ (h s >>= λ v. Ok (with_count count v)))
    → (surface_asked surface >>= f) ≡ ((surface_asked surface >>= h) >>= λ v. Ok (with_count count v))
behind-surface None f h count is = refl
behind-surface (Some s) f h count is = is s

unfit-asked : (surface cloud : Bool) (g : Geometry) (n : Meaning) (rows others : Rows) → Unfit (count_of g) rows → Unfit (count_of g) others
    → verdict_asked surface cloud rows g n ≡ (verdict_asked surface cloud others g n >>= λ v. Ok (with_count (length rows) v))
unfolding surface_verdict
unfit-asked false cloud g n rows others apart away = ap Ok (unfit-rows cloud g n.geometry rows others apart away)
unfit-asked true cloud g n rows others apart away =
    behind-surface n.surface _ _ (length rows) (λ s. unfit-on cloud g n.geometry s rows others apart away)

-- no verdict on rows that don't fit is a yes, and they make nothing the same
no-yes : (heads : Bool) (count : ℕ) (w : Option ℕ) → verdict_by heads false count w ≡ verdict.Same → ⊥
no-yes true count w is = cc
no-yes false count w is = cc

never-yes : (cloud : Bool) (g n : Geometry) (rows : Rows) → Unfit (count_of g) rows → rows_verdict cloud g n rows ≡ verdict.Same → ⊥
never-yes false (Mesh m) (Mesh n) rows apart is =
    no-yes (same_heads m.heads n.heads) (length rows) _ (rw (never-fits (length rows) (length m.faces) (length n.faces) apart) at is)
never-yes true (Cloud m) (Cloud n) rows apart is =
    no-yes (same_heads m.heads n.heads) (length rows) _ (rw (never-fits (length rows) (length m.points) (length n.points) apart) at is)
never-yes true (Mesh m) (Mesh n) rows apart is = cc
never-yes false (Cloud m) (Cloud n) rows apart is = cc
never-yes false (Mesh m) (Cloud n) rows apart is = cc
never-yes true (Mesh m) (Cloud n) rows apart is = cc
never-yes false (Cloud m) (Mesh n) rows apart is = cc
never-yes true (Cloud m) (Mesh n) rows apart is = cc

never-same : (surface cloud : Bool) (g : Geometry) (n : Meaning) (rows : Rows) → YesIsSame → Unfit (count_of g) rows
    → IsSame surface cloud rows g n → ⊥
never-same false cloud g n rows law apart same = never-yes cloud g n.geometry rows apart ((law cloud g n.geometry rows).1 same)
never-same true cloud g n rows law apart same = never-yes cloud g n.geometry rows apart ((law cloud g n.geometry rows).1 same.0)

-- a verdict with another number is a yes where it was one
yes-before : (count : ℕ) (v : Verdict) → with_count count v ≡ verdict.Same → v ≡ verdict.Same
yes-before count verdict.Same is = refl
yes-before count verdict.Heads is = cc
yes-before count (verdict.Rows r) is = cc
yes-before count (verdict.Row i) is = cc
yes-before count (verdict.Pair s) is = cc

-- what C has of rows is as many
meant-unfit : (wanted : ℕ) (told : List DrcRow) → (length told ≡ wanted → ⊥) → Unfit wanted (map row_meant told)
meant-unfit wanted told apart is = apart (sym (length-map told row_meant) ∙ is)

counted : (p : Profile) (surface cloud : Bool) (told front : List DrcRow) (g : Geometry) (bytes : List ℕ)
    → (length told ≡ count_of g → ⊥) → (length front ≡ count_of g → ⊥)
    → read_in p surface cloud (map row_meant told) g bytes
    ≡ (read_in p surface cloud (map row_meant front) g bytes >>= λ v. Ok (with_count (length told) v))
counted p surface cloud told front g bytes apart away = read (stream_in p bytes) where
  read : (due : Result Meaning Fault) → (due >>= λ n. verdict_asked surface cloud (map row_meant told) g n)
      ≡ ((due >>= λ n. verdict_asked surface cloud (map row_meant front) g n) >>= λ v. Ok (with_count (length told) v))
  read (Ok n) =
      unfit-asked surface cloud g n (map row_meant told) (map row_meant front)
      (meant-unfit (count_of g) told apart) (meant-unfit (count_of g) front away)
      ∙ ap (λ k. verdict_asked surface cloud (map row_meant front) g n >>= λ v. Ok (with_count k v)) (length-map told row_meant)
  read (Err e) = refl

-- the answer by other rows that don't fit either, with the number of these
pub counted_answer : (p : Profile) (surface cloud : Bool) (told front : List DrcRow) (g : Geometry) (bytes : List ℕ) (v : Verdict)
    → (length told ≡ count_of g → ⊥) → (length front ≡ count_of g → ⊥)
    → read_in p surface cloud (map row_meant front) g bytes ≡ Ok v
    → read_in p surface cloud (map row_meant told) g bytes ≡ Ok (with_count (length told) v)
counted_answer p surface cloud told front g bytes v apart away due = counted p surface cloud told front g bytes apart away ∙ rw due refl

pub counted_refusal : (p : Profile) (surface cloud : Bool) (told front : List DrcRow) (g : Geometry) (bytes : List ℕ) (e : Refusal)
    → (length told ≡ count_of g → ⊥) → (length front ≡ count_of g → ⊥)
    → Refuses (read_in p surface cloud (map row_meant front) g bytes) e → Refuses (read_in p surface cloud (map row_meant told) g bytes) e
counted_refusal p surface cloud told front g bytes refusal.Memory apart away due = tt
counted_refusal p surface cloud told front g bytes (refusal.Fault f) apart away due =
    counted p surface cloud told front g bytes apart away ∙ rw due refl

-- such an answer is a yes exactly where the one is the other: never
pub counted_same : (surface cloud : Bool) (told front : List DrcRow) (g : Geometry) (n : Meaning) (v : Verdict) → YesIsSame
    → (length told ≡ count_of g → ⊥) → (length front ≡ count_of g → ⊥)
    → (v ≡ verdict.Same) ↔ IsSame surface cloud (map row_meant front) g n
    → (with_count (length told) v ≡ verdict.Same) ↔ IsSame surface cloud (map row_meant told) g n
counted_same surface cloud told front g n v law apart away same = (
  λ is. absurd (
      never-same surface cloud g n (map row_meant front) law (meant-unfit (count_of g) front away) (same.0 (yes-before (length told) v is))),
  λ is. absurd (never-same surface cloud g n (map row_meant told) law (meant-unfit (count_of g) told apart) is),
)
