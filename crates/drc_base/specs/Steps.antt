-- One step after another, up to the first error (this project's choice).
use Rattle.std.specs.Prelude.{Result, Ok, Err}

-- a step and what follows it; an error stays
infixl 10 ◌>>=◌
abbrev pub ◌>>=◌ : {A B E : Type 0} → Result A E → (A → Result B E) → Result B E
(Ok x) >>= f = f x
(Err e) >>= f = Err e
