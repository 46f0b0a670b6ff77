-- At first no corner is labelled; then one fan more, or a corner that has its label; at last all.
use Rattle.std.proofs.Common.{◌≡◌, ℕ, ◌*◌, ◌<◌, eqb, sym, ◌∙◌, arith}
use Rattle.std.proofs.lemmas.List.Sums.{count_by-le-length}
use Rattle.corner_table.specs.Table.{free_entry}
use Rattle.corner_table.proofs.LabelAll.{all_begins, all_skips, all_ready, all_steps, all_done}
use Rattle.corner_table.proofs.side_table.SideTable.label_vertices.Goals as goal
use Rattle.corner_table.proofs.side_table.SideTable.label_vertices.Goals.{then-label_of+in_ok-push, else-label_of}

pub loop-corner-init : goal.loop-corner-init
loop-corner-init g c =
    let n = c.face_count-corners.ensures.count in
    record {
      len = (let e = c.in_ok-labels.ensures.len in omega arith);
      looks = (
          let u = count_by-le-length (λ (v : ℕ). eqb v free_entry) c.in_ok-labels.labels.items in let e = c.in_ok-labels.ensures.len in
          let l = c.count-looks.ensures.looks in let n = c.entry_count.ensures in let all = c.face_count-corners.ensures.entries in let r = c.face_count-corners.ensures.room in omega arith);
      few = omega arith;
      labelling = rw (c.in_ok-labels.ensures.items, c.new-ends.ensures.items, n) (all_begins _ _);
    }

pub loop-corner-preserved : goal.loop-corner-preserved
loop-corner-preserved g c = elim c.if-label_of.branch [
  | then-label_of+in_ok-push w ↦ (
      let unlabelled = sym c.label_of.ensures ∙ w.if-label_of.true in
      let small : c.loop-corner.count < free_entry = (
      let a = c.loop-corner.invariant.few in let b = c.loop-corner-test.true in let l = c.face_count-corners.ensures.limit in let r = c.face_count-corners.ensures.room in omega arith) in
      let ready = all_ready _ _ _ _ _ _ c.loop-corner.invariant.labelling unlabelled small in
      rw (w.labels-is, w.looks-is, w.ends-is, w.count-is) (record {
        len = (let e = w.label_fan-open.ensures.len in let i = c.loop-corner.invariant.len in omega arith);
        looks = w.label_fan-open.ensures.looks;
        few = (let i = c.loop-corner.invariant.few in omega arith);
        labelling = rw w.in_ok-push.ensures.items
            (all_steps c.face_count-corners.ensures.gluing _ _ _ _ _ _ c.loop-corner.invariant.labelling unlabelled small (w.label_fan-open.ensures.fan ready));
      }))
  | else-label_of w ↦ (
      rw (w.labels-is, w.looks-is, w.ends-is, w.count-is) (record {
        len = c.loop-corner.invariant.len;
        looks = c.loop-corner.invariant.looks;
        few = (let i = c.loop-corner.invariant.few in omega arith);
        labelling = all_skips _ _ _ _ _ _ c.loop-corner.invariant.labelling (λ e. w.if-label_of.false (c.label_of.ensures ∙ e));
      }))
]

pub returns-clause-labels : goal.returns-clause-labels
returns-clause-labels g c =
    let n = c.face_count-corners.ensures.count in
    let last : c.loop-corner.corner ≡ 3 * c.args.self.now.faces = (let t = c.loop-corner-test.false in let e = c.loop-corner.auto.corner-end in omega arith) in
    rw (c.from_vec.ensures, c.from_vec-2.ensures) (all_done _ _ _ _ _ (rw last at c.loop-corner.invariant.labelling))
