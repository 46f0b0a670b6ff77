-- What a loop over `put` has appended so far.
use Rattle.std.proofs.Common.{◌≡◌, ℕ, Option, None, Some, List, [], ◌++◌, ◌-◌, length, take, drop, refl, sym, ◌∙◌, ap, append_assoc, append-nil}
use Rattle.std.proofs.lemmas.List.{take-append-drop, take_rest}
use Rattle.std.specs.Io.KnownBytes.{Appends, Keeps}
use Rattle.drc_base.specs.Sinks.{AppendsPrefix}

-- all of `bytes` but the rest was appended
pub record Written (held held' : Option (List ℕ)) (bytes rest : List ℕ) : Type 0 where
  pub prefix : List ℕ
  pub split : bytes ≡ prefix ++ rest
  pub appended : Appends held held' prefix

pub Appends-none : (held : Option (List ℕ)) → Appends held held []
Appends-none None = tt
Appends-none (Some xs) = sym (append-nil xs)

pub Appends-then : (a b c : Option (List ℕ)) (xs ys : List ℕ) → Appends a b xs → Appends b c ys → Appends a c (xs ++ ys)
Appends-then None b c xs ys p q = tt
Appends-then (Some x) None c xs ys p q = absurd p
Appends-then (Some x) (Some y) None xs ys p q = absurd q
Appends-then (Some x) (Some y) (Some z) xs ys p q = rw (q, p) (append_assoc x xs ys)

pub Appends-kept : (a b c : Option (List ℕ)) (xs : List ℕ) → Appends a b xs → Keeps b c → Appends a c xs
Appends-kept None b c xs p q = tt
Appends-kept (Some x) None c xs p q = absurd p
Appends-kept (Some x) (Some y) None xs p q = absurd q
Appends-kept (Some x) (Some y) (Some z) xs p q = rw (q, p) refl

pub Written-start : (held : Option (List ℕ)) (bytes : List ℕ) → Written held held bytes bytes
Written-start held bytes = record { prefix = []; split = refl; appended = Appends-none held }

pub Written-put : (a b c : Option (List ℕ)) (bytes rest : List ℕ) (n : ℕ)
    → Written a b bytes rest → Appends b c (take n rest) → Written a c bytes (take (length rest - n) (drop n rest))
Written-put a b c bytes rest n w p = rw (take_rest rest n) (record {
  prefix = w.prefix ++ take n rest;
  split = w.split ∙ ap (λ r. w.prefix ++ r) (sym (take-append-drop n rest)) ∙ sym (append_assoc w.prefix (take n rest) (drop n rest));
  appended = Appends-then a b c w.prefix (take n rest) w.appended p;
})

pub Written-kept : (a b c : Option (List ℕ)) (bytes rest : List ℕ)
    → Written a b bytes rest → Keeps b c → AppendsPrefix a c bytes
Written-kept a b c bytes rest w k = record
    { prefix = w.prefix; rest = rest; split = w.split; appended = Appends-kept a b c w.prefix w.appended k }
