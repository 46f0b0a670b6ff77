-- Rows of names as the code keeps them, in the words of `NamedHeads`.
use Rattle.std.specs.Prelude.{◌&&◌, Bool, List, map, length, nat_le, nat_lt}
use Rattle.ply_text.specs.declared.name_runs.NameRun.{NameRun as KeptRun}
use Rattle.attr_heads.specs.Usages.{is_usage}
use Rattle.ply_text.specs.NamedHeads.{NameRun}

-- a row without its references
abbrev pub run_parts : KeptRun → NameRun
run_parts run = record { usage = run.usage; words = map (λ word. word.now) run.words.now }

-- the rows of a table
abbrev pub runs_of : List KeptRun → List NameRun
runs_of runs = map run_parts runs

-- a usage that there is, and one to four names
abbrev pub is_short : NameRun → Bool
is_short run = is_usage run.usage && nat_lt 0 (length run.words) && nat_le (length run.words) 4
