-- The boundary kept as links: for each free side the one that follows it and the one before it (loops of sides that are linked forth
-- and back, after Rossignac 1999).
use Rattle.std.specs.Prelude.{◌≡◌, ℕ, cond, eqb, List, get_or, set}
use Rattle.corner_table.specs.Entries.{with_three}
use Rattle.corner_table.specs.Sides.{Side, side, first, second, third, number, Gluing, IsFree}
use Rattle.corner_table.specs.Fans.{side_before, side_after}

-- each free side's entry in `after` is the number of the side that follows it, and in `before` of the one that comes before it
pub record IsLinked (faces : ℕ) (g : Gluing) (after before : List ℕ) : Type 0 where
  pub after_is : (x : Side) → IsFree faces g x → get_or after (number x) 0 ≡ number (side_after faces g x)
  pub before_is : (x : Side) → IsFree faces g x → get_or before (number x) 0 ≡ number (side_before faces g x)

-- From here on the code's own words: what a new face and a gluing write into the two lists. That the links stay
-- those of the boundary (`IsLinked`) is a part of the law `links_are_a_permutation`.

-- side number y follows side number x from now on
abbrev pub joined : ℕ → ℕ → List ℕ × List ℕ → List ℕ × List ℕ
joined x y links = (set links.0 x y, set links.1 y x)

-- sides a and b are taken out of the boundary: the side before each is joined to the side after the other. Where one of them is
-- alone in its loop, both its ends are one vertex, and what comes before the other is joined to what follows the other
abbrev pub taken_out : ℕ → ℕ → ℕ → ℕ → ℕ → ℕ → List ℕ × List ℕ → List ℕ × List ℕ
taken_out after_a before_a after_b before_b a b links =
    cond (eqb after_a a)
    (cond (eqb after_b b) links (joined before_b after_b links))
    (cond (eqb after_b b) (joined before_a after_a links) (joined before_b after_a (joined before_a after_b links)))

-- the same with the neighbours that the links give
abbrev pub relinked : ℕ → ℕ → List ℕ × List ℕ → List ℕ × List ℕ
relinked a b links = taken_out (get_or links.0 a 0) (get_or links.1 a 0) (get_or links.0 b 0) (get_or links.1 b 0) a b links

-- the three sides of a new face follow one another
abbrev pub new_loop : ℕ → List ℕ × List ℕ → List ℕ × List ℕ
new_loop f links =
    let x = number (side f first) in
    let y = number (side f second) in
    let z = number (side f third) in
    joined z x (joined y z (joined x y links))

-- the lists with room for the three sides of a new face
abbrev pub grown : List ℕ × List ℕ → List ℕ × List ℕ
grown links = (with_three links.0 0 0 0, with_three links.1 0 0 0)

-- sides x and y, which is linked after x, take the place of side t, where its neighbours are next and before. Where it is alone in its loop,
-- the two are the loop
abbrev pub put_for : ℕ → ℕ → ℕ → ℕ → ℕ → List ℕ × List ℕ → List ℕ × List ℕ
put_for next before t x y links =
    joined y (cond (eqb next t) x next) (joined (cond (eqb next t) y before) x links)

-- the same with the neighbours that the links give
abbrev pub replaced : ℕ → ℕ → ℕ → List ℕ × List ℕ → List ℕ × List ℕ
replaced t x y links = put_for (get_or links.0 t 0) (get_or links.1 t 0) t x y links

-- side x takes the place of side t and of side b before it, where the side after t is next and the one before b is earlier. Where the two
-- are the whole loop, x is alone in it
abbrev pub put_for_two : ℕ → ℕ → ℕ → ℕ → List ℕ × List ℕ → List ℕ × List ℕ
put_for_two next earlier b x links = joined x (cond (eqb next b) x next) (joined (cond (eqb next b) x earlier) x links)

-- the same with the neighbours that the links give
abbrev pub closed_up : ℕ → ℕ → ℕ → List ℕ × List ℕ → List ℕ × List ℕ
closed_up t b x links = put_for_two (get_or links.0 t 0) (get_or links.1 b 0) b x links
