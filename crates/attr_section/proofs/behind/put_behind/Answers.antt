-- What stands behind corrections is read back: the range alone, and behind lists of flags.
use Rattle.std.proofs.Common.{◌≡◌, ◌++◌, ◌∙◌, ℕ, List, FitsSigned, w32, ap, append_assoc}
use Rattle.std.proofs.lemmas.Int.{to_z-of_z}
use Rattle.attr_section.proofs.SpelledFlags.{Spells-range_alone, Spells-range_behind}
use Rattle.attr_section.proofs.behind.put_behind.Goals as goal

pub returns-in_ok-put_range-in-Nothing-clause-again : goal.returns-in_ok-put_range-in-Nothing-clause-again
returns-in_ok-put_range-in-Nothing-clause-again c =
    let low : FitsSigned w32 c.args.low = c.ranges.low in
    let high : FitsSigned w32 c.args.high = c.ranges.high in
    let range = simp to_z-of_z at c.in_ok-put_range-in-Nothing.ensures.again in
    rw c.in-Nothing.is (Spells-range_alone c.args.flags.now.lists (record { low = c.args.low; high = c.args.high }) range)

pub returns-in_ok-put_range-in-FlagLists-clause-bytes : goal.returns-in_ok-put_range-in-FlagLists-clause-bytes
returns-in_ok-put_range-in-FlagLists-clause-bytes c =
    let low : FitsSigned w32 c.args.low = c.ranges.low in
    let high : FitsSigned w32 c.args.high = c.ranges.high in
    let lists = rw c.as_slice.ensures.items at c.in_ok-put_flag_lists-in-FlagLists.ensures.bytes in
    let range = simp to_z-of_z at c.in_ok-put_range-in-FlagLists.ensures.bytes in
    rw c.in-FlagLists.is (joined c.args.out.now.items c.put_flag_lists.new.out.items c.put_range-in-FlagLists.new.out.items _ _ lists range)
  where
    joined : (o f r a b : List ℕ) → f ≡ o ++ a → r ≡ f ++ b → r ≡ o ++ (a ++ b)
    joined o f r a b first second = second ∙ ap (λ (l : List ℕ). l ++ b) first ∙ append_assoc o a b

pub returns-in_ok-put_range-in-FlagLists-clause-again : goal.returns-in_ok-put_range-in-FlagLists-clause-again
returns-in_ok-put_range-in-FlagLists-clause-again c =
    let low : FitsSigned w32 c.args.low = c.ranges.low in
    let high : FitsSigned w32 c.args.high = c.ranges.high in
    let lists = rw c.as_slice.ensures.items at c.in_ok-put_flag_lists-in-FlagLists.ensures.again in
    let range = simp to_z-of_z at c.in_ok-put_range-in-FlagLists.ensures.again in
    rw c.in-FlagLists.is (Spells-range_behind c.in-FlagLists.field-0 c.args.flags.now.lists (record { low = c.args.low; high = c.args.high }) lists range)
