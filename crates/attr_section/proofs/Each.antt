-- Reading one item after another in a loop, where each may depend on those before it.
use Rattle.std.proofs.Common.{◌≡◌, ℕ, ◌+◌, ◌<◌, ◌≤◌, List, [], ◌∷◌, ◌++◌, length, drop, get_or, Ok, Err, sym, ◌∙◌, ap, arith}
use Rattle.std.proofs.lemmas.List.{drop_more, drop_all, get_or_default}
use Rattle.std.specs.List.{range_with_len}
use Rattle.std.proofs.lemmas.List.FromFn.{length-range_with_len}
use Rattle.drc_base.specs.declared.faults.Fault.{Fault}
use Rattle.drc_base.specs.declared.faults.Refusal.{Refusal}
use Rattle.drc_base.specs.declared.faults.Refusal.TheVariants as refusal
use Rattle.drc_base.specs.Refusals.{Refuses}
use Rattle.drc_base.specs.Steps.{◌>>=◌}
use Rattle.drc_bits.specs.Reading.{Reading, Item}
use Rattle.attr_section.specs.Each.{each_at}

-- the next item was read
pub each_at-next : {A B : Type 0} (item : List A → B → Reading → Item A) (bs : List B) (k : ℕ) (b : B) (front : List A) (c d : Reading) (x : A) (whole : Item (List A))
    → each_at item front (drop k bs) c ≡ whole → k < length bs → b ≡ get_or bs k b → item front b c ≡ Ok (x, d)
    → each_at item (front ++ x ∷ []) (drop (k + 1) bs) d ≡ whole
unfolding each_at
each_at-next item bs k b front c d x whole so fits at is =
    ap (λ r. r >>= λ x. each_at item (front ++ x.0 ∷ []) (drop (k + 1) bs) x.1) (sym is)
    ∙ ap (λ b. item front b c >>= λ x. each_at item (front ++ x.0 ∷ []) (drop (k + 1) bs) x.1) at
    ∙ ap (λ l. each_at item front l c) (sym (drop_more bs k b fits))
    ∙ so

-- the next item is a fault
pub each_at-fault : {A B : Type 0} (item : List A → B → Reading → Item A) (bs : List B) (k : ℕ) (b : B) (front : List A) (c : Reading) (f : Fault) (whole : Item (List A))
    → each_at item front (drop k bs) c ≡ whole → k < length bs → b ≡ get_or bs k b → item front b c ≡ Err f
    → whole ≡ Err f
unfolding each_at
each_at-fault item bs k b front c f whole so fits at is =
    sym so
    ∙ ap (λ l. each_at item front l c) (drop_more bs k b fits)
    ∙ ap (λ b. item front b c >>= λ x. each_at item (front ++ x.0 ∷ []) (drop (k + 1) bs) x.1) (sym at)
    ∙ ap (λ r. r >>= λ x. each_at item (front ++ x.0 ∷ []) (drop (k + 1) bs) x.1) is

-- no item is left
pub each_at-end : {A B : Type 0} (item : List A → B → Reading → Item A) (bs : List B) (k : ℕ) (front : List A) (c : Reading) (whole : Item (List A))
    → each_at item front (drop k bs) c ≡ whole → length bs ≤ k → whole ≡ Ok (front, c)
unfolding each_at
each_at-end item bs k front c whole so done = sym so ∙ ap (λ l. each_at item front l c) (drop_all k bs done)

-- the same for n items that don't look at a list
pub turns-next : {A : Type 0} (item : List A → Reading → Item A) (n k : ℕ) (front : List A) (c d : Reading) (x : A) (whole : Item (List A))
    → each_at (λ before _. item before) front (drop k (range_with_len 0 n)) c ≡ whole → k < n → item front c ≡ Ok (x, d)
    → each_at (λ before _. item before) (front ++ x ∷ []) (drop (k + 1) (range_with_len 0 n)) d ≡ whole
turns-next item n k front c d x whole so fits is =
    let within : k < length (range_with_len 0 n) = omega (arith, length-range_with_len 0 n) in
    each_at-next (λ before _. item before) (range_with_len 0 n) k (get_or (range_with_len 0 n) k 0) front c d x whole so within
    (get_or_default (range_with_len 0 n) k 0 (get_or (range_with_len 0 n) k 0) within) is

pub turns-fault : {A : Type 0} (item : List A → Reading → Item A) (n k : ℕ) (front : List A) (c : Reading) (f : Fault) (whole : Item (List A))
    → each_at (λ before _. item before) front (drop k (range_with_len 0 n)) c ≡ whole → k < n → item front c ≡ Err f
    → whole ≡ Err f
turns-fault item n k front c f whole so fits is =
    let within : k < length (range_with_len 0 n) = omega (arith, length-range_with_len 0 n) in
    each_at-fault (λ before _. item before) (range_with_len 0 n) k (get_or (range_with_len 0 n) k 0) front c f whole so within
    (get_or_default (range_with_len 0 n) k 0 (get_or (range_with_len 0 n) k 0) within) is

pub turns-end : {A : Type 0} (item : List A → Reading → Item A) (n k : ℕ) (front : List A) (c : Reading) (whole : Item (List A))
    → each_at (λ before _. item before) front (drop k (range_with_len 0 n)) c ≡ whole → n ≤ k → whole ≡ Ok (front, c)
turns-end item n k front c whole so done =
    each_at-end (λ before _. item before) (range_with_len 0 n) k front c whole so (omega (arith, length-range_with_len 0 n))

-- the next item is refused
pub each_at-refuses : {A B : Type 0} (item : List A → B → Reading → Item A) (bs : List B) (k : ℕ) (b : B) (front : List A) (c : Reading) (e : Refusal) (whole : Item (List A))
    → each_at item front (drop k bs) c ≡ whole → k < length bs → b ≡ get_or bs k b → Refuses (item front b c) e
    → Refuses whole e
each_at-refuses item bs k b front c (refusal.Fault f) whole so fits at is = each_at-fault item bs k b front c f whole so fits at is
each_at-refuses item bs k b front c refusal.Memory whole so fits at is = tt
