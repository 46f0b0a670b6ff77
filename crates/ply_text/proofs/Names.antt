-- Attributes that are named from the left.
use Rattle.std.proofs.Common.{◌≡◌, ℕ, zero, suc, ◌+◌, ◌-◌, ◌<◌, ◌≤◌, List, [], ◌∷◌, ◌++◌, length, drop, get_or, sym, ap, ◌∙◌, append_assoc, arith}
use Rattle.std.proofs.lemmas.List.{at_drop_more, at_drop_all, append-nil, length-append, length_push, drop_more}
use Rattle.attr_heads.specs.declared.heads.Head.{Head}
use Rattle.ply_text.specs.declared.headers.Property.{Property}
use Rattle.ply_text.specs.NamedHeads.{run_of, named_head, named_heads}

-- the heads so far and those of the properties that are left are all
pub record IsNamedSoFar (properties : List Property) (heads : List Head) (skip i : ℕ) : Type 0 where
  pub whole : heads ++ named_heads (length heads) skip (drop i properties) ≡ named_heads 0 0 properties

abbrev nothing : Property
nothing = record { dtype = 0; name = [] }

pub skips : (ps : List Property) (heads : List Head) (skip i : ℕ) → i < length ps → 0 < skip → IsNamedSoFar ps heads skip i → IsNamedSoFar ps heads (skip - 1) (i + 1)
skips ps heads zero i lt some h = absurd (omega arith)
skips ps heads (suc skip) i lt some h =
    let e : suc skip - 1 ≡ skip = omega arith in
    rw e (record { whole = ap (λ (hs : List Head). heads ++ hs) (sym (at_drop_more (named_heads (length heads) (suc skip)) ps i nothing lt)) ∙ h.whole })

-- the attribute in front, and those after it
abbrev first_named : ℕ → Property → List Property → List Property → List Head
first_named k p whole rest = named_head k p.dtype (run_of p.dtype whole) ∷ named_heads (k + 1) ((run_of p.dtype whole).1 - 1) rest

first_is : (ps : List Property) (k i : ℕ) (p : Property) → i < length ps → p ≡ get_or ps i p → named_heads k 0 (drop i ps) ≡ first_named k p (drop i ps) (drop (i + 1) ps)
first_is ps k i p lt e =
    let cut : drop i ps ≡ get_or ps i p ∷ drop (i + 1) ps = drop_more ps i p lt in
    at_drop_more (named_heads k 0) ps i p lt
    ∙ ap (λ (w : List Property). first_named k (get_or ps i p) w (drop (i + 1) ps)) (sym cut)
    ∙ ap (λ (x : Property). first_named k x (drop i ps) (drop (i + 1) ps)) (sym e)

pub adds : (ps : List Property) (heads : List Head) (i : ℕ) (p : Property) → i < length ps → p ≡ get_or ps i p → IsNamedSoFar ps heads 0 i
    → IsNamedSoFar ps (heads ++ named_head (length heads) p.dtype (run_of p.dtype (drop i ps)) ∷ []) ((run_of p.dtype (drop i ps)).1 - 1) (i + 1)
adds ps heads i p lt e h =
    let head = named_head (length heads) p.dtype (run_of p.dtype (drop i ps)) in
    let skip = (run_of p.dtype (drop i ps)).1 - 1 in
    record {
      whole =
          ap (λ (k : ℕ). (heads ++ head ∷ []) ++ named_heads k skip (drop (i + 1) ps)) (length_push heads head)
          ∙ append_assoc heads (head ∷ []) (named_heads (length heads + 1) skip (drop (i + 1) ps))
          ∙ ap (λ (hs : List Head). heads ++ hs) (sym (first_is ps (length heads) i p lt e))
          ∙ h.whole;
    }

pub too_many : (ps : List Property) (heads : List Head) (i : ℕ) → i < length ps → IsNamedSoFar ps heads 0 i → 16 ≤ length heads → 16 < length (named_heads 0 0 ps)
too_many ps heads i lt h many =
    let one = at_drop_more (named_heads (length heads) 0) ps i nothing lt in
    let p = get_or ps i nothing in
    let run = run_of p.dtype (p ∷ drop (i + 1) ps) in
    let rest = named_heads (length heads + 1) (run.1 - 1) (drop (i + 1) ps) in
    let n : length (named_heads (length heads) 0 (drop i ps)) ≡ suc (length rest) = ap length one in
    let all : length heads + length (named_heads (length heads) 0 (drop i ps)) ≡ length (named_heads 0 0 ps) = sym (length-append heads (named_heads (length heads) 0 (drop i ps))) ∙ ap length h.whole in
    omega arith

pub all_named : (ps : List Property) (heads : List Head) (skip i : ℕ) → length ps ≤ i → IsNamedSoFar ps heads skip i → heads ≡ named_heads 0 0 ps
all_named ps heads skip i le h =
    sym (append-nil heads) ∙ ap (λ (hs : List Head). heads ++ hs) (sym (at_drop_all (named_heads (length heads) skip) ps i le)) ∙ h.whole

-- properties give an attribute at least
pub some_named : (ps : List Property) (heads : List Head) → 0 < length ps → heads ≡ named_heads 0 0 ps → 1 ≤ length heads
some_named [] heads some e = absurd (omega arith)
some_named (p ∷ ps) heads some e = omega (arith, ap length e)
