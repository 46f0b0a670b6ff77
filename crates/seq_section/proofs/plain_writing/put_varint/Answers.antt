use Rattle.seq_section.proofs.Varints.{push-two, push-three}
use Rattle.seq_section.proofs.plain_writing.put_varint.Goals as goal

pub returns-then-n-lt16384-clause-bytes : goal.returns-then-n-lt16384-clause-bytes
returns-then-n-lt16384-clause-bytes c =
    push-two c.args.out.now.items c.push_reserved-2.new.self.items c.push_reserved-then-n-lt16384.new.self.items c.args.n
    c.if-n-lt128.false c.if-n-lt16384.true c.push_reserved-2.ensures.items c.push_reserved-then-n-lt16384.ensures.items

pub returns-clause-bytes : goal.returns-clause-bytes
returns-clause-bytes c =
    push-three c.args.out.now.items c.push_reserved-2.new.self.items c.push_reserved-3.new.self.items c.push_reserved-4.new.self.items c.args.n
    c.if-n-lt16384.false c.requires.short c.push_reserved-2.ensures.items c.push_reserved-3.ensures.items c.push_reserved-4.ensures.items
