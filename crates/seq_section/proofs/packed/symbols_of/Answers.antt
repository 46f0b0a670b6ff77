use Rattle.std.proofs.Common.{◌<◌, length, [], arith, refl, ◌∙◌, ap, get_or}
use Rattle.seq_section.proofs.Symbols.{symbols-next, symbols-end, length-symbols_of}
use Rattle.seq_section.proofs.packed.symbols_of.Goals as goal

pub loop-face-init : goal.loop-face-init
loop-face-init c = record { told = rw c.new-symbols.ensures.items refl; bound = omega arith }

pub loop-face-preserved : goal.loop-face-preserved
loop-face-preserved c =
    let face = get_or c.args.faces.now c.loop-face.face-index [] in
    let below = c.requires.below c.loop-face.face-index [] c.loop-face-test.true in
    let third : get_or face 2 0 < c.args.points = below.1 2 0 (omega (arith, below.0)) in
    record {
      told = rw c.in_ok-put_symbols.ensures
          (symbols-next c.loop-face.last c.loop-face.face-index c.args.points c.args.faces.now _ _ c.loop-face-test.true below c.loop-face.invariant.told);
      bound = omega (arith, third);
    }

pub returns-clause-symbols : goal.returns-clause-symbols
returns-clause-symbols c = symbols-end c.loop-face.last c.loop-face.face-index c.args.faces.now _ _ c.loop-face-test.false c.loop-face.invariant.told

pub returns-clause-len : goal.returns-clause-len
returns-clause-len c = ap (λ l. length l) (returns-clause-symbols c) ∙ length-symbols_of c.args.points c.args.faces.now c.requires.below
