use Rattle.ply_text.proofs.drafts.HeaderDraft.square.Goals as goal

pub set_octa-requires-clause-square : goal.set_octa-requires-clause-square
set_octa-requires-clause-square c = rw (c.in-Some.is, c.deref.ensures.value) at c.octa_of.ensures.fits
