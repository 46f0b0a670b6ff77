use Rattle.ply_text.proofs.drafts.HeaderDraft.quantisation.Goals as goal

pub set_quant-requires-clause-quant : goal.set_quant-requires-clause-quant
set_quant-requires-clause-quant c = rw (c.in-Some.is, c.deref.ensures.value) at c.in_ok-quant_of.ensures.fits
