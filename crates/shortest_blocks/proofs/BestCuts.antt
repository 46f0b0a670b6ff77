-- Cuts of bit lengths: the cut that is taken has what all cuts have.
use Rattle.std.proofs.Common.{◌≡◌, ℕ, zero, suc, ◌+◌, ◌-◌, ◌*◌, ◌^◌, ◌<◌, ◌≤◌, Bool, cond, All, List, [], ◌∷◌, ◌++◌, length, map, replicate, sum, take, get_or, sym, refl, ap, ◌∙◌, subst, inl, inr, arith, length-append, ne_eqb, eq-eqb, lt-ltb, le-ltb}
use Rattle.std.proofs.lemmas.Bool.{cases_Bool, cases_lt, cond-true, cond-false}
use Rattle.std.proofs.lemmas.List.{get_or_append_left, get_or-append_right, get_or-map, get_or-replicate, get_or_past, length-map, length-replicate, length_push, take_all}
use Rattle.std.proofs.lemmas.List.Elements.{All-push, All-map, All-weaker, All-head, All-tail, All-cons, All-nil, All-get_or}
use Rattle.std.proofs.lemmas.List.Sums.{sum_by_more, sum_by-take-le}
use Rattle.std.proofs.lemmas.List.MinMax.{IsFirstBest-from_best_of, IsFirstBest-keeps, IsFirstBest-takes, IsFirstBest-unique, IsStrictWeakOrder-by_number}
use Rattle.std.specs.Cmp.{IsStrictWeakOrder}
use Rattle.std.specs.List.{IsFirstBest, best_of}
use Rattle.drc_base.specs.declared.limits.TheConstants.{MAX_VALUES}
use Rattle.shortest_blocks.specs.declared.cuts.Cut.{Cut}
use Rattle.shortest_blocks.specs.declared.cuts.Run.{Run}
use Rattle.shortest_blocks.specs.Cuts.{AreCuts, best_cut, cost_behind, cuts_below, is_cheaper, no_cut, run_to, with_run}
use Rattle.shortest_blocks.proofs.RunCosts.{cost-most}

-- ---- the best of some is one of them

pub best-kept : {X : Type 0} (P : X → Type 0) (beats : X → X → Bool) (a : X) (xs : List X) → P a → All P xs → P (best_of beats a xs)
best-kept P beats a [] first others = first
best-kept P beats a (x ∷ xs) first others =
    let next : P (cond (beats x a) x a) = elim (cases_Bool (beats x a)) [
      | inl t ↦ subst P (sym (cond-true _ _ _ t)) (All-head P x xs others)
      | inr f ↦ subst P (sym (cond-false _ _ _ f)) first
    ] in
    best-kept P beats (cond (beats x a) x a) xs next (All-tail P x xs others)

pub best-cut-kept : (P Q : Cut → Type 0) (run : Run) (cuts : List Cut) → ((c : Cut) → Q c → P (with_run run c)) → 0 < length cuts → All Q cuts → P (best_cut run cuts)
best-cut-kept P Q run [] each some all = absurd (omega (arith, some))
best-cut-kept P Q run (c ∷ cs) each some all =
    best-kept P _ (with_run run c) (map (with_run run) cs) (each c (All-head Q c cs all))
    (All-map P (with_run run) cs (All-weaker Q (λ x. P (with_run run x)) each cs (All-tail Q c cs all)))

-- ---- the cut behind which a run costs least

order : IsStrictWeakOrder is_cheaper
order = IsStrictWeakOrder-by_number (λ (c : Cut). c.cost)

-- what a place of the cuts with the run behind them has
with-run-at : (run : Run) (cuts : List Cut) (i : ℕ) → i < length cuts → with_run run (get_or cuts i no_cut) ≡ get_or (map (with_run run) cuts) i (with_run run (get_or cuts i no_cut))
with-run-at run cuts i inside = sym (get_or-map (with_run run) cuts i no_cut (with_run run (get_or cuts i no_cut)) inside)

all-runs : (run : Run) (cuts : List Cut) (i : ℕ) → i < length cuts → i < length (map (with_run run) cuts)
all-runs run cuts i inside = let l = length-map cuts (with_run run) in omega (arith, l, inside)

pub takes : (run : Run) (cuts : List Cut) (i b : ℕ) → i < length cuts → b < length cuts → IsFirstBest is_cheaper (map (with_run run) cuts) i b
    → cost_behind run (get_or cuts i no_cut) < cost_behind run (get_or cuts b no_cut) → IsFirstBest is_cheaper (map (with_run run) cuts) (i + 1) i
takes run cuts i b inside within best less =
    IsFirstBest-takes order (map (with_run run) cuts) i b (with_run run (get_or cuts i no_cut)) (with_run run (get_or cuts b no_cut)) best (all-runs run cuts i inside)
    (with-run-at run cuts i inside) (with-run-at run cuts b within) (lt-ltb _ _ less)

pub keeps : (run : Run) (cuts : List Cut) (i b : ℕ) → i < length cuts → b < length cuts → IsFirstBest is_cheaper (map (with_run run) cuts) i b
    → cost_behind run (get_or cuts b no_cut) ≤ cost_behind run (get_or cuts i no_cut) → IsFirstBest is_cheaper (map (with_run run) cuts) (i + 1) b
keeps run cuts i b inside within best most =
    IsFirstBest-keeps order (map (with_run run) cuts) i b (with_run run (get_or cuts i no_cut)) (with_run run (get_or cuts b no_cut)) best (all-runs run cuts i inside)
    (with-run-at run cuts i inside) (with-run-at run cuts b within) (le-ltb _ _ most)

pub best-is : (run : Run) (cuts : List Cut) (b : ℕ) → 0 < length cuts → b < length cuts → IsFirstBest is_cheaper (map (with_run run) cuts) (length cuts) b
    → with_run run (get_or cuts b no_cut) ≡ best_cut run cuts
best-is run [] b some within best = absurd (omega (arith, some))
best-is run (c ∷ cs) b some within best =
    let runs : List Cut = map (with_run run) (c ∷ cs) in
    let first = IsFirstBest-from_best_of order (with_run run c) (map (with_run run) cs) in
    let all : length (c ∷ cs) ≡ length runs = sym (length-map (c ∷ cs) (with_run run)) in
    let same : b ≡ first.0 = IsFirstBest-unique order runs (length runs) b first.0 (with_run run c) (subst (λ n. IsFirstBest is_cheaper runs n b) all best) first.1 in
    sym (get_or-map (with_run run) (c ∷ cs) b no_cut (with_run run c) within) ∙ ap (λ i. get_or runs i (with_run run c)) same ∙ first.2

-- ---- cuts one after another

-- what a number has that occurs, and one that doesn't
pub cuts-next : (counts : List ℕ) (all comps last : ℕ) → 0 < get_or counts last 0
    → cuts_below counts all comps (suc last) ≡ cuts_below counts all comps last ++ best_cut (run_to counts all comps last) (cuts_below counts all comps last) ∷ []
unfolding cuts_below
cuts-next counts all comps last some = cond-false _ _ _ (ne_eqb (get_or counts last 0) 0 (λ e. absurd (omega (arith, e, some))))

pub cuts-same : (counts : List ℕ) (all comps last : ℕ) → get_or counts last 0 ≡ 0 → cuts_below counts all comps (suc last) ≡ cuts_below counts all comps last
unfolding cuts_below
cuts-same counts all comps last none = cond-true _ _ _ (eq-eqb (get_or counts last 0) 0 none)

pub cuts-some : (counts : List ℕ) (all comps last : ℕ) → 0 < length (cuts_below counts all comps last)
unfolding cuts_below
cuts-some counts all comps zero = omega arith
cuts-some counts all comps (suc last) = elim (cases_lt 0 (get_or counts last 0)) [
  | inl some ↦
      let e = ap length (cuts-next counts all comps last some) in
      let l = length_push (cuts_below counts all comps last) (best_cut (run_to counts all comps last) (cuts_below counts all comps last)) in
      omega (arith, e, l)
  | inr none ↦
      let e = ap length (cuts-same counts all comps last (omega (arith, none))) in
      let r = cuts-some counts all comps last in omega (arith, e, r)
]

-- what all cuts have, if the cut of no lengths has it, it is kept for more lengths, and a run keeps it
pub cuts-kept : (P : ℕ → Cut → Type 0) (counts : List ℕ) (all comps limit : ℕ) → P 0 no_cut → ((last : ℕ) (c : Cut) → P last c → P (suc last) c)
    → ((last : ℕ) (c : Cut) → last < limit → P last c → P (suc last) (with_run (run_to counts all comps last) c))
    → (last : ℕ) → last ≤ limit → All (P last) (cuts_below counts all comps last)
unfolding cuts_below
cuts-kept P counts all comps limit none more run zero within = All-cons (P 0) no_cut [] none (All-nil (P 0))
cuts-kept P counts all comps limit none more run (suc last) within =
    let cuts : List Cut = cuts_below counts all comps last in
    let before : All (P last) cuts = cuts-kept P counts all comps limit none more run last (omega (arith, within)) in
    let same : All (P (suc last)) cuts = All-weaker (P last) (P (suc last)) (more last) cuts before in
    elim (cases_lt 0 (get_or counts last 0)) [
      | inl some ↦ subst (λ cs. All (P (suc last)) cs) (sym (cuts-next counts all comps last some))
          (All-push (P (suc last)) cuts _ same
          (best-cut-kept (P (suc last)) (P last) (run_to counts all comps last) cuts (λ c p. run last c (omega (arith, within)) p) (cuts-some counts all comps last) before))
      | inr none' ↦ subst (λ cs. All (P (suc last)) cs) (sym (cuts-same counts all comps last (omega (arith, none')))) same
    ]

-- ---- what a cut is of, and what it costs

-- a cut of lengths below a number
pub record Fits (counts : List ℕ) (last : ℕ) (cut : Cut) : Type 0 where
  pub groups : cut.groups ≤ sum (take last counts)
  pub short : length cut.joined ≤ last
  pub cost : cut.cost ≤ last * 2 ^ 43

-- more counts sum to no less
more-groups : (last : ℕ) (counts : List ℕ) → sum (take last counts) + get_or counts last 0 ≡ sum (take (suc last) counts)
more-groups last counts = elim (cases_lt last (length counts)) [
  | inl inside ↦ (
      let s : sum (take (last + 1) counts) ≡ sum (take last counts) + get_or counts last 0 = sum_by_more (λ x. x) counts last 0 inside in
      let e : last + 1 ≡ suc last = omega arith in
      let f : sum (take (last + 1) counts) ≡ sum (take (suc last) counts) = ap (λ n. sum (take n counts)) e in omega (arith, s, f))
  | inr past ↦ (
      let a : sum (take last counts) ≡ sum counts = ap (λ xs. sum xs) (take_all last counts past) in
      let b : sum (take (suc last) counts) ≡ sum counts = ap (λ xs. sum xs) (take_all (suc last) counts (omega (arith, past))) in
      let z = get_or_past counts last 0 past in omega (arith, a, b, z))
]

pub run-groups : (counts : List ℕ) (all comps last : ℕ) → (run_to counts all comps last).groups ≡ sum (take last counts) + get_or counts last 0
run-groups counts all comps last =
    let e : last + 1 ≡ suc last = omega arith in
    ap (λ n. sum (take n counts)) e ∙ sym (more-groups last counts)

-- a part of the counts sums to no more
part : (n : ℕ) (counts : List ℕ) → sum (take n counts) ≤ sum counts
part n counts = sum_by-take-le (λ x. x) counts n

pub cuts-fit : (counts : List ℕ) (all comps last : ℕ) → sum counts ≤ all → all < 2 ^ 32 → all * comps ≤ MAX_VALUES → last ≤ 33
    → All (Fits counts last) (cuts_below counts all comps last)
cuts-fit counts all comps last whole few small within =
    cuts-kept (Fits counts) counts all comps 33
    (record { groups = omega arith; short = omega arith; cost = omega arith })
    (λ n c p. let m = more-groups n counts in record { groups = omega (arith, m, p.groups); short = omega (arith, p.short); cost = omega (arith, p.cost) })
    (λ n c inside p.
    let l = length-append c.joined (replicate (n + 1 - length c.joined) n) in
    let r = length-replicate (n + 1 - length c.joined) n in
    let g = part (n + 1) counts in
    let cost = cost-most all comps (length c.joined) n (sum (take (n + 1) counts) - c.groups) (omega (arith, g, whole)) few small (omega (arith, inside)) in
    let e : n + 1 ≡ suc n = omega arith in
    record {
      groups = subst (λ k. sum (take (n + 1) counts) ≤ sum (take k counts)) e (omega arith);
      short = omega (arith, l, r, p.short);
      cost = omega (arith, cost, p.cost);
    })
    last within

-- the groups so far, with those of one length more
pub groups-more : (counts : List ℕ) (last groups all : ℕ) → last < length counts → groups ≡ sum (take last counts) → sum counts ≤ all → groups + get_or counts last 0 ≤ all
groups-more counts last groups all inside so whole =
    let m = more-groups last counts in
    let p = part (suc last) counts in omega (arith, m, p, so, whole)

pub groups-next : (counts : List ℕ) (last groups : ℕ) → groups ≡ sum (take last counts) → groups + get_or counts last 0 ≡ sum (take (last + 1) counts)
groups-next counts last groups so = ap (λ k. k + get_or counts last 0) so ∙ sym (run-groups counts 0 0 last)

-- the cut of no lengths alone
abbrev alone : List ℕ → List Cut
alone joined = record { groups = 0; cost = 0; joined = joined } ∷ []

pub first-cuts : (counts : List ℕ) (all comps : ℕ) (next before : List Cut) (joined : List ℕ) → next ≡ before ++ record { groups = 0; cost = 0; joined = joined } ∷ [] → before ≡ [] → joined ≡ []
    → next ≡ cuts_below counts all comps 0
unfolding cuts_below
first-cuts counts all comps next before joined after none empty = after ∙ ap (λ (cs : List Cut). cs ++ alone joined) none ∙ ap alone empty

-- the cuts that a run may stand behind
pub are-cuts : (counts : List ℕ) (all comps last groups : ℕ) (cuts : List Cut) → cuts ≡ cuts_below counts all comps last → groups ≡ sum (take last counts)
    → sum counts ≤ all → all < 2 ^ 32 → all * comps ≤ MAX_VALUES → last ≤ 32 → 0 < get_or counts last 0
    → AreCuts (record { all = all; comps = comps; last = last; groups = groups + get_or counts last 0 }) cuts
are-cuts counts all comps last groups cuts is so whole few small within some = λ i inside.
    let fit : Fits counts last (get_or cuts i no_cut) =
    All-get_or (Fits counts last) cuts i no_cut inside (subst (λ cs. All (Fits counts last) cs) (sym is) (cuts-fit counts all comps last whole few small (omega (arith, within)))) in
    (omega (arith, fit.groups, so, some), fit.short, fit.cost)

-- one length more
pub next-cuts : (counts : List ℕ) (all comps last groups : ℕ) (cuts next : List Cut) → cuts ≡ cuts_below counts all comps last → groups ≡ sum (take last counts) → 0 < get_or counts last 0
    → next ≡ cuts ++ best_cut (record { all = all; comps = comps; last = last; groups = groups + get_or counts last 0 }) cuts ∷ []
    → next ≡ cuts_below counts all comps (last + 1)
next-cuts counts all comps last groups cuts next is so some after =
    let n : groups + get_or counts last 0 ≡ sum (take (last + 1) counts) = ap (λ k. k + get_or counts last 0) so ∙ sym (run-groups counts all comps last) in
    let e : suc last ≡ last + 1 = omega arith in
    after
    ∙ ap (λ k. cuts ++ best_cut (record { all = all; comps = comps; last = last; groups = k }) cuts ∷ []) n
    ∙ ap (λ cs. cs ++ best_cut (run_to counts all comps last) cs ∷ []) is
    ∙ sym (cuts-next counts all comps last some) ∙ ap (cuts_below counts all comps) e

pub same-cuts : (counts : List ℕ) (all comps last : ℕ) (cuts : List Cut) → cuts ≡ cuts_below counts all comps last → get_or counts last 0 ≤ 0 → cuts ≡ cuts_below counts all comps (last + 1)
same-cuts counts all comps last cuts is none =
    let e : suc last ≡ last + 1 = omega arith in
    is ∙ sym (cuts-same counts all comps last (omega (arith, none))) ∙ ap (cuts_below counts all comps) e

-- ---- what lengths become

-- each length becomes one that is no less, and below a number
pub record Holds (last : ℕ) (cut : Cut) : Type 0 where
  pub short : length cut.joined ≤ last
  pub holds : (l : ℕ) → l < length cut.joined → (l ≤ get_or cut.joined l 0) × (get_or cut.joined l 0 < last)

holds-run : (counts : List ℕ) (all comps last : ℕ) (c : Cut) → Holds last c → Holds (suc last) (with_run (run_to counts all comps last) c)
holds-run counts all comps last c p =
    let n : ℕ = last + 1 - length c.joined in
    let len = length-append c.joined (replicate n last) in
    let rep = length-replicate n last in record {
      short = omega (arith, len, rep, p.short);
      holds = λ l h. elim (cases_lt l (length c.joined)) [
        | inl inside ↦ (
            let e = get_or_append_left c.joined (replicate n last) 0 l inside in
            let b = p.holds l inside in (omega (arith, e, b.0), omega (arith, e, b.1)))
        | inr past ↦ (
            let e = get_or-append_right c.joined (replicate n last) (length c.joined) l 0 refl past in
            let v = get_or-replicate n (l - length c.joined) last 0 (omega (arith, h, len, rep, past)) in
            (omega (arith, e, v, h, len, rep, p.short), omega (arith, e, v)))
      ];
    }

pub cuts-hold : (counts : List ℕ) (all comps last : ℕ) → All (Holds last) (cuts_below counts all comps last)
cuts-hold counts all comps last =
    cuts-kept Holds counts all comps last
    (record { short = omega arith; holds = λ l h. absurd (omega (arith, h)) })
    (λ n c p. record { short = omega (arith, p.short); holds = λ l h. let b = p.holds l h in (b.0, omega (arith, b.1)) })
    (λ n c inside p. holds-run counts all comps n c p)
    last (omega arith)
