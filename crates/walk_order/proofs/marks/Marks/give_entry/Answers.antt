-- There are fewer entries than classes, and the new one is the last.
use Rattle.std.proofs.Common.{◌≡◌, length, refl, arith}
use Rattle.walk_order.proofs.Stored.{class_within, entry_stored, items_fit, room_for_entry, room_for_face}
use Rattle.walk_order.proofs.marks.Marks.give_entry.Goals as goal

pub overflow_cast-number : goal.overflow_cast-number
overflow_cast-number c = let f = items_fit c.requires.surface c.requires.stored in let l = c.len-number.ensures in omega arith

pub index_mut-requires : goal.index_mut-requires
index_mut-requires c = let h = class_within c.requires.surface c.requires.stored c.args.corner c.requires.corner in let k = c.requires.class in omega arith

pub returns-clause-stored : goal.returns-clause-stored
returns-clause-stored c =
    let n : c.len-number.result ≡ length c.args.self.now.entries.items = omega (arith, c.len-number.ensures) in
    entry_stored c.args.s.now c.args.self.now _ c.args.corner c.args.class c.len-number.result c.face_across-face.result c.requires.surface c.requires.stored c.requires.corner c.requires.class c.requires.new
    c.requires.stored.sized n c.face_across-face.ensures c.push_reserved.ensures.items c.push_reserved-2.ensures.items refl c.push_reserved.ensures.capacity c.push_reserved-2.ensures.capacity

pub push_reserved-requires : goal.push_reserved-requires
push_reserved-requires c = let r = room_for_entry c.requires.surface c.requires.stored c.args.corner c.requires.corner c.requires.new in omega arith

pub push_reserved-requires-2 : goal.push_reserved-requires-2
push_reserved-requires-2 c = let r = room_for_face c.requires.surface c.requires.stored c.args.corner c.requires.corner c.requires.new in omega arith
