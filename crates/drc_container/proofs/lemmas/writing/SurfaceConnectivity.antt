-- The connectivity of a mesh that is written by Edgebreaker, as it is read.
use Rattle.drc_base.specs.Profile.{profile}
use Rattle.std.proofs.Common.{◌≡◌, ◌+◌, Bool, cond, List, [], ◌∷◌, ◌++◌, length, reverse, None, refl, sym, ◌∙◌, ap, subst, arith}
use Rattle.std.specs.Prelude.{count_by}
use Rattle.std.proofs.lemmas.List.{reverse-append}
use Rattle.std.proofs.lemmas.List.Sums.{sum_by-append}
use Rattle.drc_bits.specs.Spells.{Spells}
use Rattle.drc_bits.proofs.Results.{Ok-injective}
use Rattle.mesh_model.specs.Parts.{MeshParts, IsMesh}
use Rattle.pairing.specs.Degenerate.{degenerate_fault}
use Rattle.corner_table.specs.declared.symbols.Symbol.{Symbol}
use Rattle.rans_binary.specs.Blocks.{Block}
use Rattle.eb_machine.specs.Machine.{State}
use Rattle.eb_machine.specs.Shown.{is_split}
use Rattle.eb_trace.specs.Rebuilt.{finished}
use Rattle.eb_section.specs.Connectivity.{Connectivity, section_of, connectivity_at}
use Rattle.eb_section.specs.Written.{opening_of}
use Rattle.eb_section.specs.ReadAgain.{IsReadAgain}
use Rattle.drc_container.specs.declared.choice.codings.Coding.{Coding}
use Rattle.drc_container.specs.writing.WrittenOnSurface.{traced, decoded, seam_lists, connectivity_of}
use Rattle.drc_container.proofs.lemmas.surface.Traced.{traced-rebuilds, decoded-carried}

-- as many pass from the back
count-append : (p : Symbol → Bool) (xs ys : List Symbol) → count_by p (xs ++ ys) ≡ count_by p xs + count_by p ys
count-append p xs ys = sum_by-append (λ x. cond (p x) 1 0) xs ys

count-reverse : (p : Symbol → Bool) (xs : List Symbol) → count_by p (reverse xs) ≡ count_by p xs
count-reverse p [] = refl
count-reverse p (x ∷ xs) =
    ap (count_by p) (reverse-append (x ∷ []) xs)
    ∙ count-append p (reverse xs) (x ∷ [])
    ∙ (let rest = count-reverse p xs in let one = count-append p (x ∷ []) xs in omega arith)

-- what is read, with these blocks of seam bits
abbrev pub connectivity_written : Coding → MeshParts → List Block → Connectivity
connectivity_written coding m blocks = record {
  faces = length m.faces;
  glued = (decoded m).pairs;
  valence = coding.valence;
  attr_data = length (seam_lists (decoded m));
  seams = blocks;
  symbols = length (traced m).symbols;
  splits = count_by is_split (traced m).symbols;
  events = length (traced m).events;
}

-- the machine ends with the surface in the order of decoding
last-is : (coding : Coding) (m : MeshParts) → IsMesh m → degenerate_fault m ≡ None
    → (again : IsReadAgain coding.valence (length m.faces) (traced m) (seam_lists (decoded m)) (connectivity_of coding.valence m))
    → again.last ≡ finished (length m.faces) (decoded m).pairs (reverse (traced m).symbols)
last-is coding m is none again =
    let turned = count-reverse is_split (traced m).symbols in
    Ok-injective (sym again.built
    ∙ traced-rebuilds m is none ((traced m).vertices + count_by is_split (traced m).symbols) (decoded m).pairs (decoded-carried m is none) (omega arith))

pub connectivity-read : (coding : Coding) (m : MeshParts) → IsMesh m → degenerate_fault m ≡ None
    → (again : IsReadAgain coding.valence (length m.faces) (traced m) (seam_lists (decoded m)) (connectivity_of coding.valence m))
    → Spells (connectivity_at profile) (connectivity_of coding.valence m) (connectivity_written coding m again.blocks)
connectivity-read coding m is none again =
    let says : State → Connectivity = section_of (opening_of coding.valence (length m.faces) (length (seam_lists (decoded m))) (traced m)) (traced m).events again.blocks in
    subst (λ (s : State). Spells (connectivity_at profile) (connectivity_of coding.valence m) (says s)) (last-is coding m is none again) again.read
