use Rattle.std.proofs.Common.{◌≤◌, Bool, List, Vec, Global, map, length, arith}
use Rattle.std.proofs.lemmas.List.{length-map}
use Rattle.drc_base.specs.declared.limits.TheConstants.{MAX_ATTRIBUTES}
use Rattle.eb_section.proofs.WrittenSection.{section-again}
use Rattle.eb_section.proofs.WrittenSymbols.{takes-of}
use Rattle.eb_section.proofs.writing.write_connectivity.Goals as goal

pub put_coded-requires-clause-takes : goal.put_coded-requires-clause-takes
put_coded-requires-clause-takes c = takes-of c.args.faces c.args.t.now.vertices c.args.t.now.symbols c.args.t.now.events c.args.t.now.starts c.requires.writable

pub returns-clause-again : goal.returns-clause-again
returns-clause-again c =
    let lists : List (List Bool) = map (λ (s : Vec Bool Global). s.items) c.args.seams.now in
    let few : length lists ≤ MAX_ATTRIBUTES = omega (arith, length-map c.args.seams.now (λ (s : Vec Bool Global). s.items), c.requires.few) in
    section-again c.args.valence c.args.faces c.args.t.now lists c.requires.faces c.requires.vertices few c.requires.writable c.in_ok-put_coded.ensures.coded
