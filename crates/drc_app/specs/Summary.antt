-- The summary of a generated mesh (this project's choice).
use Rattle.std.specs.Prelude.{ℕ, List, ◌∷◌, ◌++◌, codes, decimal}
use Rattle.drc_container.specs.declared.choice.methods.Method.TheVariants as method
use Rattle.drc_app.specs.Line.{gen_word}
use Rattle.drc_app.specs.Options.{method_word}
use Rattle.drc_app.specs.declared.commands.GenMesh.{GenMesh}
use Rattle.drc_app.specs.declared.summaries.Summary.{Summary}

-- a line of a word, a space and a number
abbrev pub count_line : List ℕ → ℕ → List ℕ
count_line word n = word ++ (32 ∷ decimal n) ++ codes "\n"

-- the line of the words that ask for the mesh
abbrev pub asked_line : GenMesh → List ℕ
asked_line asked = codes "gen " ++ gen_word asked.kind ++ (32 ∷ decimal asked.size) ++ (32 ∷ decimal asked.seed) ++ codes "\n"

-- that line, the numbers of faces and points, and for each method how many bytes it gives
unfoldable pub summary_text : Summary → List ℕ
summary_text s = asked_line s.asked
    ++ count_line (codes "faces") s.faces
    ++ count_line (codes "points") s.points
    ++ count_line (method_word method.Seq) s.seq
    ++ count_line (method_word method.Eb) s.eb
    ++ count_line (method_word method.Valence) s.valence
