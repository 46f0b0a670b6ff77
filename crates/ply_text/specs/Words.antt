-- The words of a PLY header (PLY 1.0).
use Rattle.std.specs.Prelude.{ℕ, ◌||◌, Bool, List, codes, if◌then◌else◌}
use Rattle.std.specs.Str.{bytes_eq}
use Rattle.ply_text.specs.declared.words.Keyword.{Keyword}
use Rattle.ply_text.specs.declared.words.Keyword.TheVariants.{Comment, ObjInfo, Element, Property, EndHeader, Other}

-- what the first word of a line says
unfoldable pub keyword_of : List ℕ → Keyword
keyword_of word =
    if bytes_eq word (codes "comment") then Comment
    else (if bytes_eq word (codes "obj_info") then ObjInfo
    else (if bytes_eq word (codes "element") then Element
    else (if bytes_eq word (codes "property") then Property
    else (if bytes_eq word (codes "end_header") then EndHeader else Other))))

-- the two names of the list of a face's points
unfoldable pub is_indices : List ℕ → Bool
is_indices word = bytes_eq word (codes "vertex_indices") || bytes_eq word (codes "vertex_index")
