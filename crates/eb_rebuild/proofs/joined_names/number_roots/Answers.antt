-- Each turn of the loop numbers one name more.
use Rattle.std.proofs.Common.{◌≡◌, ℕ, suc, ◌<◌, List, length, Vec, Global, sym, ap, ◌∙◌, subst, arith, add-one}
use Rattle.eb_rebuild.specs.JoinedNames.{root_in, IsNumbering}
use Rattle.eb_rebuild.proofs.Roots.{below_few, numbers_begin, numbers_root, numbers_other, numbers_first}
use Rattle.eb_rebuild.proofs.joined_names.number_roots.Goals as goal
use Rattle.eb_rebuild.proofs.joined_names.number_roots.Goals.{then-first-name, else-first-name}

stands : (up : List ℕ) {i : ℕ} (count count' : ℕ) (numbers numbers' : List ℕ) → count ≡ count' → numbers ≡ numbers' → IsNumbering up i count' numbers' → IsNumbering up i count numbers
stands up {i} count count' numbers numbers' e f N = subst (λ (n : ℕ). IsNumbering up i n numbers) (sym e) (subst (λ (l : List ℕ). IsNumbering up i count' l) (sym f) N)

pub loop-name-init : goal.loop-name-init
loop-name-init c = numbers_begin c.args.up.items

pub overflow_add-count : goal.overflow_add-count
overflow_add-count c =
    let N = c.loop-name.invariant in
    let few = below_few (root_in c.args.up.items) c.loop-name.name in
    let e = N.counted in
    let fits = c.ranges.made.fits in
    omega arith

pub over-number-requires : goal.over-number-requires
over-number-requires c =
    let N = c.loop-name.invariant in
    let len = c.args.up.ok.0 in
    let now = c.loop-name.numbers.ok.0 in
    let long = N.long in
    let l = numbers_first c.args.up.items c.requires.falls c.loop-name.name c.loop-name.count c.over-first.result c.loop-name.numbers.items N (omega arith) c.over-first.ensures.zero in
    omega arith

pub loop-name-preserved : goal.loop-name-preserved
loop-name-preserved c =
    let N = c.loop-name.invariant in
    let up = c.args.up.items in
    let len = c.args.up.ok.0 in
    let h : c.loop-name.name < length up = omega arith in
    let at = subst (λ (i : ℕ). IsNumbering up i c.if-first-name.count c.if-first-name.numbers.items) (sym (add-one c.loop-name.name)) in
    let first = c.over-first.result in
    let zero = c.over-first.ensures.zero in
    let numbers = c.loop-name.numbers.items in
    elim c.if-first-name.branch [
      | then-first-name w ↦ at (stands up c.if-first-name.count (suc c.loop-name.count) c.if-first-name.numbers.items _ (w.count-is ∙ add-one _) (ap (λ (v : Vec ℕ Global). v.items) w.numbers-is ∙ w.put.ensures.items)
          (numbers_root up c.requires.falls c.loop-name.name c.loop-name.count first numbers N h zero w.if-first-name.true))
      | else-first-name w ↦ at (stands up c.if-first-name.count c.loop-name.count c.if-first-name.numbers.items _ w.count-is (ap (λ (v : Vec ℕ Global). v.items) w.numbers-is ∙ w.put-else-first-name.ensures.items)
          (numbers_other up c.requires.falls c.loop-name.name c.loop-name.count first w.over-number.result numbers N h zero w.if-first-name.false w.over-number.ensures.zero))
    ]
