-- Geometries have at most sixteen heads.
use Rattle.std.proofs.Common.{◌≡◌, ◌≤◌, leb, None, List, length}
use Rattle.std.proofs.lemmas.Bool.{leb-true}
use Rattle.drc_base.specs.declared.kinds.Kind.TheVariants.{NoAttribute, AttrLimit}
use Rattle.attr_heads.specs.declared.heads.Head.{Head}
use Rattle.attr_heads.specs.FirstFault.{unless}
use Rattle.attr_heads.specs.Head.{heads_fault}
use Rattle.attr_heads.proofs.FirstFaults.{unless-none, first_fault-none}

-- heads that pass are at most sixteen
pub heads_few : (heads : List Head) → heads_fault heads ≡ None → length heads ≤ 16
unfolding heads_fault
heads_few heads e =
    let some = first_fault-none (unless (leb 1 (length heads)) NoAttribute (length heads)) _ e in
    let few = first_fault-none (unless (leb (length heads) 16) AttrLimit (length heads)) _ some.1 in
    leb-true (length heads) 16 (unless-none _ AttrLimit (length heads) few.0)
