-- Names of which some were joined (disjoint sets as a forest: Galler and Fischer 1964): each name has a name that it was joined to, itself
-- where to none. That a name is joined to a lesser one, so that the least of those joined stands for them, is this project's own choice.
use Rattle.std.specs.Prelude.{◌≡◌, ℕ, zero, suc, ◌+◌, ◌<◌, ◌≤◌, ◌==◌, max, min, cond, List, length, get_or}
use Rattle.eb_machine.specs.Named.{renamed}

-- where n steps lead from a name, of which each goes to the name that it was joined to
unfoldable pub climbed : List ℕ → ℕ → ℕ → ℕ
climbed up zero x = x
climbed up (suc n) x = climbed up n (get_or up x x)

-- the root of a name: where steps come to an end. Each but the last goes to a lesser name, so name x needs no more than x
abbrev pub root_in : List ℕ → ℕ → ℕ
root_in up x = climbed up x x

-- no name is joined to a greater one
pub record Falls (up : List ℕ) : Type 0 where
  pub low : (x : ℕ) → get_or up x x ≤ x

-- none is joined
abbrev pub IsPlain : List ℕ → Type 0
IsPlain up = (x : ℕ) → get_or up x x ≡ x

-- what each of the names 0, 1 and so on was joined to, and how many names there is room for
pub record JoinedValue : Type 0 where
  pub up : List ℕ
  pub room : ℕ

-- the roots after names a and b are joined: the greater root becomes the lesser one
abbrev pub joined : (ℕ → ℕ) → ℕ → ℕ → ℕ → ℕ
joined root a b x = renamed (max (root a) (root b)) (min (root a) (root b)) (root x)

-- how many roots there are below n
unfoldable pub roots_below : (ℕ → ℕ) → ℕ → ℕ
roots_below root zero = 0
roots_below root (suc n) = roots_below root n + cond (root n == n) 1 0

-- the number of a name: how many roots there are below its own
abbrev pub number_of : (ℕ → ℕ) → ℕ → ℕ
number_of root x = roots_below root (root x)

-- the numbers of the names below i, and what the others were joined to; there are so many roots below i. These are the code's own words
pub record IsNumbering (up : List ℕ) (i count : ℕ) (numbers : List ℕ) : Type 0 where
  pub long : length numbers ≡ length up
  pub counted : count ≡ roots_below (root_in up) i
  pub done : (x : ℕ) → x < i → get_or numbers x 0 ≡ number_of (root_in up) x
  pub left : (x : ℕ) → i ≤ x → get_or numbers x 0 ≡ get_or up x 0
