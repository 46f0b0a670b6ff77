-- What a loop over `take` has taken so far.
use Rattle.std.proofs.Common.{◌≡◌, ℕ, Option, None, Some, List, [], ◌++◌, length, refl, sym, append_assoc, length-append, arith}
use Rattle.std.specs.Io.KnownBytes.{Consumes, Keeps}
use Rattle.drc_base.specs.Counters.{counted}
use Rattle.drc_base.specs.Sources.{Gave}

Consumes-none : (left : Option (List ℕ)) → Consumes left left []
Consumes-none None = tt
Consumes-none (Some xs) = refl

Consumes-then : (a b c : Option (List ℕ)) (xs ys : List ℕ) → Consumes a b xs → Consumes b c ys → Consumes a c (xs ++ ys)
Consumes-then None b c xs ys p q = tt
Consumes-then (Some x) None c xs ys p q = absurd p
Consumes-then (Some x) (Some y) None xs ys p q = absurd q
Consumes-then (Some x) (Some y) (Some z) xs ys p q = rw (p, q) (sym (append_assoc xs ys z))

Consumes-kept : (a b c : Option (List ℕ)) (xs : List ℕ) → Consumes a b xs → Keeps b c → Consumes a c xs
Consumes-kept None b c xs p q = tt
Consumes-kept (Some x) None c xs p q = absurd p
Consumes-kept (Some x) (Some y) None xs p q = absurd q
Consumes-kept (Some x) (Some y) (Some z) xs p q = rw (q, p) refl

pub Gave-start : (left : Option (List ℕ)) (given : ℕ) → Gave left left given given []
Gave-start left given = record { consumed = Consumes-none left; at_least = omega arith; at_most = omega arith }

-- a `take` that gave a piece
pub Gave-take : (a b c : Option (List ℕ)) (g h k n : ℕ) (bytes piece : List ℕ)
    → Gave a b g h bytes → Consumes b c piece → length piece ≡ n → k ≡ counted h n → Gave a c g k (bytes ++ piece)
Gave-take a b c g h k n bytes piece gave more len is = record {
  consumed = Consumes-then a b c bytes piece gave.consumed more;
  at_least = rw length-append (grind (arith, gave.at_least, len, is));
  at_most = rw length-append (grind (arith, gave.at_most, len, is));
}

-- a `take` that failed
pub Gave-kept : (a b c : Option (List ℕ)) (g h k : ℕ) (bytes : List ℕ)
    → Gave a b g h bytes → Keeps b c → k ≡ h → Gave a c g k bytes
Gave-kept a b c g h k bytes gave keeps is = record {
  consumed = Consumes-kept a b c bytes gave.consumed keeps;
  at_least = rw is gave.at_least;
  at_most = rw is gave.at_most;
}
