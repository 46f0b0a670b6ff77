-- At the end it is the numbers of all lists.
use Rattle.std.proofs.Common.{◌≡◌, ◌+◌, ◌≤◌, ℕ, List, [], ◌∷◌, min, length, map, sum_by, take, ap, refl, ◌∙◌}
use Rattle.std.specs.List.{fold}
use Rattle.std.proofs.lemmas.List.{take_all}
use Rattle.eb_valence.proofs.context_reader.ContextReader.count_up_to.Goals as goal

total : {X : Type 0} (items : X → List ℕ) (lists : List X) (so_far : ℕ) → fold (λ n v. n + length (items v)) so_far lists ≡ fold (λ n v. n + length v) so_far (map items lists)
total items [] so_far = refl
total items (x ∷ lists) so_far = total items lists (so_far + length (items x))

counted : {X : Type 0} (items : X → List ℕ) (most k : ℕ) (lists held : List X) (shown : List (List ℕ)) → held ≡ lists → length held ≤ k → map items lists ≡ shown →
    min most (sum_by (λ v. length (items v)) (take k held)) ≡ min most (sum_by length shown)
counted {X} items most k lists held shown e all s =
    ap (λ (l : List X). min most (sum_by (λ v. length (items v)) l)) (take_all k held all ∙ e)
    ∙ ap (min most) (total items lists 0 ∙ ap (sum_by length) s)

pub returns : goal.returns
returns c = c.loop-list.invariant ∙ counted (λ v. v.items) c.args.most c.loop-list.list-index c.self.inside.left c.as_slice-list-items.result.now c.args.self.now c.as_slice-list-items.ensures c.loop-list-test.false c.self.view_is
