-- What each prediction foretells a value to be, and the flags that it takes (Draco Bitstream Specification 2.2, section "Prediction
-- Decoder").
use Rattle.std.specs.Prelude.{ℕ, suc, ◌/◌, ◌<◌, ◌≤◌, ℤ, pos, Bool, List, [], length, get_or, nat_le, Result, Ok, Err, if◌then◌else◌}
use Rattle.std.specs.List.{list_all, range_with_len}
use Rattle.drc_base.specs.declared.kinds.Kind.{Kind}
use Rattle.drc_base.specs.declared.kinds.Kind.TheVariants as kind
use Rattle.predict.specs.Schemes.{flag_lists}
use Rattle.predict.specs.Wrap.{Range, restored_value}
use Rattle.predict.specs.Stepping.{Step, restored_by}
use Rattle.predict.specs.Restored.{entry_before}
use Rattle.corner_table.specs.Ordered.{Ordered}
use Rattle.predict.specs.Parallelogram.{parallelogram}
use Rattle.predict.specs.Multi.{multi, wanted, flag_lists_of}
use Rattle.predict.specs.declared.schemes.Prediction.{Prediction}
use Rattle.predict.specs.declared.schemes.Prediction.TheVariants as prediction
use Rattle.predict.specs.declared.transforms.Transform.{Transform}
use Rattle.predict.specs.declared.transforms.Transform.TheVariants as transform

-- the value that a prediction foretells over a surface, with these lists of flags, from the values before; none corrects 0
abbrev pub foretold : Prediction → Ordered → ℕ → List (List Bool) → List ℤ → ℤ
foretold prediction.Off w comps lists before = pos 0
foretold prediction.Difference w comps lists before = entry_before comps before
foretold prediction.Parallelogram w comps lists before = parallelogram w comps before
foretold prediction.Multi w comps lists before = multi w comps lists before

-- the lists of flags that are written with values over a surface
abbrev pub marks_of : Prediction → Ordered → ℕ → List ℤ → List (List Bool)
marks_of prediction.Multi w comps values = flag_lists_of w comps values
marks_of q w comps values = []

-- how many flags of list k the entries before e need of a prediction over a surface, and all entries
abbrev pub wanted_before : Prediction → Ordered → ℕ → ℕ → ℕ
wanted_before prediction.Multi w k e = wanted w (suc k) e
wanted_before q w k e = 0

abbrev pub wanted_of : Prediction → Ordered → ℕ → ℕ
wanted_of q w k = wanted_before q w k (length w.corners)

-- each list has the flags that are needed of it
abbrev pub HasWanted : Prediction → Ordered → List (List Bool) → Type 0
HasWanted q w lists = (k : ℕ) → k < flag_lists q → wanted_of q w k ≤ length (get_or lists k [])

-- a list has fewer flags than are needed of it
abbrev pub LacksWanted : Prediction → Ordered → List (List Bool) → Type 0
LacksWanted q w lists = (k : ℕ) × (k < flag_lists q) × (length (get_or lists k []) < wanted_of q w k)

-- whether each list has the flags that the entries before e need of it
abbrev pub has_flags : Prediction → Ordered → List (List Bool) → ℕ → Bool
has_flags q w lists e = list_all (λ k. nat_le (wanted_before q w k e) (length (get_or lists k []))) (range_with_len 0 (flag_lists q))

-- the step of a prediction over a surface: what it foretells of the next component, where each list has the flags that the component's
-- entry and those before need of it. The lists stay: an entry finds its flags behind those of the entries before
unfoldable pub step_of : Prediction → Ordered → ℕ → Step ℤ (List (List Bool)) Kind
step_of q w comps before lists =
    if has_flags q w lists (suc (length before / comps)) then Ok (foretold q w comps lists before, lists) else Err kind.FlagsShort

-- the values that corrections restore by a transform and a prediction over a surface, with these lists of flags, or why they restore none
unfoldable pub restored_with : Transform → Prediction → Ordered → ℕ → List (List Bool) → Range → List ℤ → Result (List ℤ) Kind
restored_with transform.Wrap q w comps lists r corrections = restored_by (step_of q w comps) (restored_value r) [] lists corrections
