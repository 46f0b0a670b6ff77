use Rattle.std.proofs.Common.{◌≡◌, ◌<◌, ◌≤◌, ◌-◌, ◌+◌, suc, ℕ, Bool, List, [], length, take, drop, get_or, set, ap, ◌∙◌, sym, arith}
use Rattle.corner_table.specs.declared.corner_lists.FaceAcross.{FaceAcross}
use Rattle.predict.specs.Gathered.{gathered}
use Rattle.predict.specs.Multi.{kept, flags_for}
use Rattle.predict.proofs.Kept.{kept_nothing, used_same, used_more, lacks_next, taken_are}
use Rattle.predict.proofs.multi.take_flags.Goals as goal
use Rattle.predict.proofs.multi.take_flags.Goals.{then-first-list-via-then-first-list, then-first-list-via-else-first-list+then-list-first}

pub returns-then-count-eq0-clause-faces : goal.returns-then-count-eq0-clause-faces
returns-then-count-eq0-clause-faces c = λ w e is U. (
  c.new.ensures ∙ kept_nothing (flags_for w c.args.flags.now.lists e) c.args.found.now c.if-count-eq0.true,
  used_same w c.args.flags.now.lists e c.args.used.now (sym (ap (λ (l : List FaceAcross). length l) is) ∙ c.if-count-eq0.true) U,
)

pub returns-then-first-list-clause-faces : goal.returns-then-first-list-clause-faces
returns-then-first-list-clause-faces c = λ w e is U.
    let k = length c.args.found.now - 1 in
    let count : length (gathered w e) ≡ length c.args.found.now = sym (ap (λ (l : List FaceAcross). length l) is) in
    let here : length (gathered w e) ≡ suc k = omega (arith, count, c.if-count-eq0.false) in
    let low : k < 4 = omega (arith, c.requires.few, c.if-count-eq0.false) in
    let list : length c.list_at-list.result.now ≡ length (get_or c.args.flags.now.lists k []) =
    ap (λ (l : List Bool). length l) c.list_at-list.ensures in
    let short : length (get_or c.args.flags.now.lists k []) < get_or c.args.used.now k 0 + suc k = elim c.then-first-list.branch [
      | then-first-list-via-then-first-list w ↦ omega (arith, list, w.if-first-list.true)
      | then-first-list-via-else-first-list+then-list-first w ↦ omega (arith, list, w.if-first-list.false, w.if-list-first.true, c.if-count-eq0.false)
    ] in
    lacks_next w c.args.flags.now.lists e k c.args.used.now low here short U

pub returns-clause-faces : goal.returns-clause-faces
returns-clause-faces c = λ w e is U.
    let lists = c.args.flags.now.lists in
    let k = length c.args.found.now - 1 in
    let first = get_or c.args.used.now k 0 in
    let count : length (gathered w e) ≡ length c.args.found.now = sym (ap (λ (l : List FaceAcross). length l) is) in
    let here : length (gathered w e) ≡ suc k = omega (arith, count, c.if-count-eq0.false) in
    let low : k < 4 = omega (arith, c.requires.few, c.if-count-eq0.false) in
    let list = c.list_at-list.ensures in
    let many : first + length c.args.found.now - first ≡ suc k = omega (arith, c.if-count-eq0.false) in
    let flags : take (first + length c.args.found.now - first) (drop first c.list_at-list.result.now) ≡ flags_for w lists e =
    ap (λ (n : ℕ). take n (drop first c.list_at-list.result.now)) many ∙ ap (λ (l : List Bool). take (suc k) (drop first l)) list ∙ taken_are w lists e k c.args.used.now low here U in
    let enough : first + suc k ≤ length (get_or lists k []) =
    omega (arith, ap (λ (l : List Bool). length l) list, c.if-first-list.false, c.if-list-first.false, c.if-count-eq0.false) in
    let next : first + length c.args.found.now ≡ first + suc k = omega (arith, c.if-count-eq0.false) in (
      c.keep.ensures.faces ∙ ap (λ (l : List Bool). kept l c.args.found.now) flags,
      used_more w lists e k c.args.used.now _ c.requires.used low here (ap (λ (n : ℕ). set c.args.used.now k n) next) enough U,
    )
