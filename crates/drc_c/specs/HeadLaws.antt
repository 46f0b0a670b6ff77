-- Nothing is lost of heads as C has them (this project's choice).
use Rattle.std.specs.Prelude.{◌≡◌, List, None, length, map, take}
use Rattle.attr_heads.specs.declared.heads.Head.{Head}
use Rattle.attr_heads.specs.Head.{heads_fault}
use Rattle.drc_c.specs.Heads.{heads_told, head_meant}

-- heads that pass are what those mean that C has of them, as many as there are
abbrev pub ToldHeadsMean : Type 0
ToldHeadsMean = (heads : List Head) → heads_fault heads ≡ None → map head_meant (take (length heads) (heads_told heads)) ≡ heads
