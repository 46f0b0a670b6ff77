-- No cut costs less than the one that is taken.
use Rattle.std.proofs.Common.{◌≡◌, ℕ, zero, suc, ◌+◌, ◌-◌, ◌*◌, ◌<◌, ◌≤◌, nat_lt, Bool, cond, List, [], ◌∷◌, ◌++◌, length, map, replicate, sum, take, get_or, sym, refl, ap, ◌∙◌, subst, inl, inr, arith, length-append, ltb-true, ltb-false}
use Rattle.std.proofs.lemmas.Bool.{cases_Bool, cases_lt, cond-true, cond-false}
use Rattle.std.proofs.lemmas.List.{get_or-map, get_or_append_left, get_or_at, length-map, length-replicate}
use Rattle.std.specs.List.{best_of}
use Rattle.symbol_tables.specs.Normal.{greatest_count}
use Rattle.symbol_coding.specs.Symbols.{counts_of}
use Rattle.symbol_coding.proofs.Counts.{counts_of-length}
use Rattle.shortest_blocks.specs.declared.cuts.Cut.{Cut}
use Rattle.shortest_blocks.specs.declared.cuts.Run.{Run}
use Rattle.shortest_blocks.specs.AllCuts.{AreLasts, cut_along}
use Rattle.shortest_blocks.specs.Costs.{cost_of_run}
use Rattle.shortest_blocks.specs.Cuts.{best_cut, cost_behind, cuts_below, is_cheaper, no_cut, run_to, with_run}
use Rattle.shortest_blocks.specs.Joined.{cut_of, last_cut}
use Rattle.shortest_blocks.proofs.BestCuts.{Holds, best-cut-kept, cuts-hold, cuts-next, cuts-same, cuts-some}

-- a cut that costs no more than another of the same lengths
pub record IsNoDearer (other cut : Cut) : Type 0 where
  pub cost : cut.cost ≤ other.cost
  pub groups : cut.groups ≡ other.groups
  pub long : length cut.joined ≡ length other.joined

-- one of some cuts costs no more than another of its lengths
pub record Has (cuts : List Cut) (other : Cut) : Type 0 where
  pub at : ℕ
  pub inside : at < length cuts
  pub is : IsNoDearer other (get_or cuts at no_cut)

-- ---- the cuts up to a length are among those up to a greater one

has-push : (cuts : List Cut) (cut other : Cut) → Has cuts other → Has (cuts ++ cut ∷ []) other
has-push cuts cut other h =
    let l = length-append cuts (cut ∷ []) in
    let e : get_or (cuts ++ cut ∷ []) h.at no_cut ≡ get_or cuts h.at no_cut = get_or_append_left cuts (cut ∷ []) no_cut h.at h.inside in
    record { at = h.at; inside = omega (arith, l, h.inside); is = subst (λ c. IsNoDearer other c) (sym e) h.is }

has-next : (counts : List ℕ) (all comps last : ℕ) (other : Cut) → Has (cuts_below counts all comps last) other → Has (cuts_below counts all comps (suc last)) other
has-next counts all comps last other h = elim (cases_lt 0 (get_or counts last 0)) [
  | inl some ↦ subst (λ cs. Has cs other) (sym (cuts-next counts all comps last some)) (has-push (cuts_below counts all comps last) _ other h)
  | inr none ↦ subst (λ cs. Has cs other) (sym (cuts-same counts all comps last (omega (arith, none)))) h
]

has-later : (counts : List ℕ) (all comps last more : ℕ) (other : Cut) → Has (cuts_below counts all comps last) other → Has (cuts_below counts all comps (more + last)) other
has-later counts all comps last zero other h = subst (λ n. Has (cuts_below counts all comps n) other) (let e : last ≡ 0 + last = omega arith in e) h
has-later counts all comps last (suc more) other h =
    subst (λ n. Has (cuts_below counts all comps n) other) (let e : suc (more + last) ≡ suc more + last = omega arith in e)
    (has-next counts all comps (more + last) other (has-later counts all comps last more other h))

-- ---- the best costs no more than each

best-least : (a : Cut) (xs : List Cut) → (best_of is_cheaper a xs).cost ≤ a.cost
best-least a [] = omega arith
best-least a (x ∷ xs) =
    let rest = best-least (cond (is_cheaper x a) x a) xs in
    elim (cases_Bool (is_cheaper x a)) [
      | inl t ↦ (let e : (cond (is_cheaper x a) x a).cost ≡ x.cost = ap (λ (c : Cut). c.cost) (cond-true _ _ _ t) in let l : x.cost < a.cost = ltb-true x.cost a.cost t in omega (arith, e, l, rest))
      | inr f ↦ (let e : (cond (is_cheaper x a) x a).cost ≡ a.cost = ap (λ (c : Cut). c.cost) (cond-false _ _ _ f) in omega (arith, e, rest))
    ]

best-each : (a : Cut) (xs : List Cut) (k : ℕ) → k < length xs → (best_of is_cheaper a xs).cost ≤ (get_or xs k no_cut).cost
best-each a [] k inside = absurd (omega (arith, inside))
best-each a (x ∷ xs) zero inside =
    let rest = best-least (cond (is_cheaper x a) x a) xs in
    elim (cases_Bool (is_cheaper x a)) [
      | inl t ↦ (let e : (cond (is_cheaper x a) x a).cost ≡ x.cost = ap (λ (c : Cut). c.cost) (cond-true _ _ _ t) in omega (arith, e, rest))
      | inr f ↦ (let e : (cond (is_cheaper x a) x a).cost ≡ a.cost = ap (λ (c : Cut). c.cost) (cond-false _ _ _ f) in let l : a.cost ≤ x.cost = ltb-false x.cost a.cost f in omega (arith, e, l, rest))
    ]
best-each a (x ∷ xs) (suc k) inside = best-each (cond (is_cheaper x a) x a) xs k (omega (arith, inside))

cut-each : (run : Run) (cuts : List Cut) (k : ℕ) → k < length cuts → (best_cut run cuts).cost ≤ cost_behind run (get_or cuts k no_cut)
cut-each run [] k inside = absurd (omega (arith, inside))
cut-each run (c ∷ cs) zero inside = best-least (with_run run c) (map (with_run run) cs)
cut-each run (c ∷ cs) (suc k) inside =
    let l = length-map cs (with_run run) in
    let e : get_or (map (with_run run) cs) k no_cut ≡ with_run run (get_or cs k no_cut) = get_or-map (with_run run) cs k no_cut no_cut (omega (arith, inside)) in
    let h = best-each (with_run run c) (map (with_run run) cs) k (omega (arith, l, inside)) in
    let f : (get_or (map (with_run run) cs) k no_cut).cost ≡ cost_behind run (get_or cs k no_cut) = ap (λ (x : Cut). x.cost) e in omega (arith, h, f)

-- ---- a run behind cuts of the same lengths

long-run : (run : Run) (c : Cut) → length c.joined ≤ run.last → length (with_run run c).joined ≡ run.last + 1
long-run run c short =
    let l = length-append c.joined (replicate (run.last + 1 - length c.joined) run.last) in
    let r = length-replicate (run.last + 1 - length c.joined) run.last in omega (arith, l, r, short)

same-cost : (run : Run) (other cut : Cut) → IsNoDearer other cut → cost_behind run cut ≤ cost_behind run other
same-cost run other cut is =
    let e : cost_of_run run.all run.comps (length cut.joined) run.last (run.groups - cut.groups) ≡ cost_of_run run.all run.comps (length other.joined) run.last (run.groups - other.groups) =
    ap (λ n. cost_of_run run.all run.comps n run.last (run.groups - cut.groups)) is.long
    ∙ ap (λ n. cost_of_run run.all run.comps (length other.joined) run.last (run.groups - n)) is.groups in
    omega (arith, e, is.cost)

has-best : (counts : List ℕ) (all comps last : ℕ) (other : Cut) → Has (cuts_below counts all comps last) other → length other.joined ≤ last
    → IsNoDearer (with_run (run_to counts all comps last) other) (best_cut (run_to counts all comps last) (cuts_below counts all comps last))
has-best counts all comps last other h short =
    let run : Run = run_to counts all comps last in
    let cuts : List Cut = cuts_below counts all comps last in
    let some = cuts-some counts all comps last in
    let each = cut-each run cuts h.at h.inside in
    let same = same-cost run other (get_or cuts h.at no_cut) h.is in
    let long : length (best_cut run cuts).joined ≡ last + 1 =
    best-cut-kept (λ x. length x.joined ≡ last + 1) (Holds last) run cuts (λ x p. long-run run x p.short) some (cuts-hold counts all comps last) in
    let groups : (best_cut run cuts).groups ≡ run.groups = best-cut-kept (λ x. x.groups ≡ run.groups) (Holds last) run cuts (λ x p. refl) some (cuts-hold counts all comps last) in record {
      cost = omega (arith, each, same);
      groups = groups;
      long = long ∙ sym (long-run run other short);
    }

-- ---- each cut

along-short : (counts : List ℕ) (all comps limit : ℕ) (lasts : List ℕ) → AreLasts counts limit lasts → length (cut_along counts all comps lasts).joined ≤ limit
along-short counts all comps limit [] are = omega arith
along-short counts all comps limit (l ∷ ls) are =
    let rest = along-short counts all comps l ls are.2 in
    let e = long-run (run_to counts all comps l) (cut_along counts all comps ls) rest in omega (arith, e, are.0)

has-none : (counts : List ℕ) (all comps : ℕ) → Has (cuts_below counts all comps 0) no_cut
unfolding cuts_below
has-none counts all comps = record { at = 0; inside = omega arith; is = record { cost = omega arith; groups = refl; long = refl } }

has-each : (counts : List ℕ) (all comps limit : ℕ) (lasts : List ℕ) → AreLasts counts limit lasts → Has (cuts_below counts all comps limit) (cut_along counts all comps lasts)
has-each counts all comps limit [] are =
    subst (λ n. Has (cuts_below counts all comps n) no_cut) (let e : limit + 0 ≡ limit = omega arith in e)
    (has-later counts all comps 0 limit no_cut (has-none counts all comps))
has-each counts all comps limit (l ∷ ls) are =
    let cuts : List Cut = cuts_below counts all comps l in
    let best : Cut = best_cut (run_to counts all comps l) cuts in
    let rest = has-each counts all comps l ls are.2 in
    let is = has-best counts all comps l (cut_along counts all comps ls) rest (along-short counts all comps l ls are.2) in
    let n = length-append cuts (best ∷ []) in
    let at : get_or (cuts ++ best ∷ []) (length cuts) no_cut ≡ best = get_or_at cuts best [] no_cut (length cuts) refl in
    let next : Has (cuts_below counts all comps (suc l)) (cut_along counts all comps (l ∷ ls)) =
    subst (λ cs. Has cs (cut_along counts all comps (l ∷ ls))) (sym (cuts-next counts all comps l are.1))
    (record { at = length cuts; inside = omega (arith, n); is = subst (λ c. IsNoDearer (cut_along counts all comps (l ∷ ls)) c) (sym at) is }) in
    subst (λ k. Has (cuts_below counts all comps k) (cut_along counts all comps (l ∷ ls))) (let e : limit - suc l + suc l ≡ limit = omega (arith, are.0) in e)
    (has-later counts all comps (suc l) (limit - suc l) (cut_along counts all comps (l ∷ ls)) next)

-- no cut of all lengths costs less
pub none-cheaper : (comps : ℕ) (lengths lasts : List ℕ) → AreLasts (counts_of lengths) (length (counts_of lengths)) (greatest_count lengths ∷ lasts)
    → (cut_of comps lengths).cost ≤ (cut_along (counts_of lengths) (length lengths) comps (greatest_count lengths ∷ lasts)).cost
none-cheaper comps lengths lasts are =
    let counts : List ℕ = counts_of lengths in
    let all : ℕ = length lengths in
    let g : ℕ = greatest_count lengths in
    let cuts : List Cut = cuts_below counts all comps g in
    let best : Cut = best_cut (run_to counts all comps g) cuts in
    let is = has-best counts all comps g (cut_along counts all comps lasts) (has-each counts all comps g lasts are.2) (along-short counts all comps g lasts are.2) in
    let n : suc g ≡ length counts = (let l = counts_of-length lengths in omega (arith, l)) in
    let e : last_cut (cuts_below counts all comps (length counts)) ≡ best =
    ap (λ k. last_cut (cuts_below counts all comps k)) (sym n) ∙ ap last_cut (cuts-next counts all comps g are.1)
    ∙ get_or_at cuts best [] no_cut (length (cuts ++ best ∷ []) - 1) (let l = length-append cuts (best ∷ []) in omega (arith, l)) in
    let c : (cut_of comps lengths).cost ≡ best.cost = ap (λ (x : Cut). x.cost) e in
    omega (arith, c, is.cost)
