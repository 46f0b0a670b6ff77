-- Items of which each may depend on those before it (this project's choice).
use Rattle.std.specs.Prelude.{List, [], ◌∷◌, ◌++◌, Ok}
use Rattle.drc_base.specs.Steps.{◌>>=◌}
use Rattle.drc_bits.specs.Reading.{Reading, Item}

-- behind these items one for each of a list, in order; each item sees those in front of it
unfoldable pub each_at : {A B : Type 0} → (List A → B → Reading → Item A) → List A → List B → Reading → Item (List A)
each_at item front [] c = Ok (front, c)
each_at item front (b ∷ bs) c = item front b c >>= λ x. each_at item (front ++ x.0 ∷ []) bs x.1
