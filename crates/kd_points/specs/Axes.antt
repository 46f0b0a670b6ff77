-- The axes along which a cloud is halved, one after another (this project's choice): the bits of a point's components, those
-- of the widest components first.
use Rattle.std.specs.Prelude.{ℕ, zero, suc, ◌-◌, ◌==◌, List, [], ◌∷◌, max, sum, fold, slice_index, slice_set}
use Rattle.std.specs.List.{position_or_len}
use Rattle.kd_points.specs.declared.axes.Axis.{Axis}

-- the component with the most bits left, the least on ties
abbrev pub fullest : List ℕ → ℕ
fullest left = position_or_len (λ bits. bits == fold max 0 left) left

-- the bits that are left where a component has given one
abbrev pub one_fewer : List ℕ → ℕ → List ℕ
one_fewer left component = slice_set left component (slice_index left component - 1)

-- n axes, one after another: the fullest component gives its highest bit that is left
unfoldable pub axes_in : ℕ → List ℕ → List Axis
axes_in zero left = []
axes_in (suc n) left =
    record { component = fullest left; bit = slice_index left (fullest left) - 1 } ∷ axes_in n (one_fewer left (fullest left))

-- the axes of components with so many bits, until no bits are left
abbrev pub axes_of : List ℕ → List Axis
axes_of bits = axes_in (sum bits) bits
