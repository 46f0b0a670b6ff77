-- How many vertices a surface has: as many as fans.
use Rattle.std.specs.Prelude.{◌≡◌, ◌≢◌, ℕ, suc, ◌+◌, Bool, ◌||◌, ◌&&◌, cond, List}
use Rattle.corner_table.specs.Sides.{Side, next, prev, Gluing, glue, IsGluing, IsFree}
use Rattle.corner_table.specs.Fans.{meets}
use Rattle.corner_table.specs.Labels.{IsLabelled}
use Rattle.corner_table.specs.Carried.{IsRenumbering, IsCarried}
use Rattle.eb_trace.specs.Trace.{fan_count}

-- without faces there are no fans
abbrev pub NothingHasNone : Type 0
NothingHasNone = (g : Gluing) → fan_count 0 g ≡ 0

-- a face with no side glued
abbrev pub FaceAddsThree : Type 0
FaceAddsThree = (faces : ℕ) (g : Gluing) → IsGluing faces g → fan_count (suc faces) g ≡ fan_count faces g + 3

-- how many fans go where two fans meet: one, unless they are one already
abbrev pub goes_unless : Bool → ℕ
goes_unless together = cond together 0 1

-- how many fans go as sides a and b are glued. The end of each meets the start of the other; where the end of a meets the start of b first,
-- the start of a and the end of b may be together by that
abbrev pub fans_joined : ℕ → Gluing → Side → Side → ℕ
fans_joined faces g a b =
    goes_unless (meets faces g (prev a) (next b))
    + goes_unless (meets faces g (next a) (prev b)
    || ((meets faces g (next a) (prev a) && meets faces g (prev b) (next b))
    || (meets faces g (next a) (next b) && meets faces g (prev b) (prev a))))

-- as free sides of two faces are glued, so many fans go
abbrev pub GluingJoins : Type 0
GluingJoins = (faces : ℕ) (g : Gluing) (a b : Side) → IsGluing faces g → IsFree faces g a → IsFree faces g b → a.face ≢ b.face →
    fan_count faces (glue a b g) + fans_joined faces g a b ≡ fan_count faces g

-- the labels of the vertices are as many as the fans
abbrev pub LabelsAreFans : Type 0
LabelsAreFans = (faces : ℕ) (g : Gluing) (labels : List ℕ) (count : ℕ) (ends : List Bool) → IsGluing faces g →
    IsLabelled faces g labels count ends → count ≡ fan_count faces g

-- new numbers of the faces change nothing
abbrev pub RenumberedAlike : Type 0
RenumberedAlike = (faces : ℕ) (g h : Gluing) (rows : List (ℕ × ℕ)) → IsGluing faces g → IsRenumbering faces rows →
    IsCarried faces g rows h → fan_count faces h ≡ fan_count faces g
