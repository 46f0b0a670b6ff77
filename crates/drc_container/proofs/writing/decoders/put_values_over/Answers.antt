use Rattle.drc_container.proofs.writing.decoders.put_values_over.Goals as goal

pub write_decoder-requires-clause-values : goal.write_decoder-requires-clause-values
write_decoder-requires-clause-values c = c.requires.values

pub write_decoder-requires-clause-on : goal.write_decoder-requires-clause-on
write_decoder-requires-clause-on c = c.args.surface.now.is_ordered

pub returns-clause-bytes : goal.returns-clause-bytes
returns-clause-bytes c = c.in_ok-write_decoder.ensures.bytes

pub returns-clause-again : goal.returns-clause-again
returns-clause-again c =
    λ n since. record { reads = λ spent place rest few. c.in_ok-write_decoder.ensures.again c.args.surface.now.few_flags n _ _ spent place rest since c.requires.entries few }
