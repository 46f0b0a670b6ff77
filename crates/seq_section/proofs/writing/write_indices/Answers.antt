use Rattle.seq_section.proofs.Written.{Spells-section}
use Rattle.seq_section.proofs.writing.write_indices.Goals as goal

pub returns-clause-again : goal.returns-clause-again
returns-clause-again c =
    Spells-section c.args.packed c.args.faces.now c.args.points c.requires.few_faces c.requires.few_points c.in_ok-put_faces.ensures.behind
