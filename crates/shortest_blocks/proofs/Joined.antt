-- Joined bit lengths hold what the groups have.
use Rattle.std.proofs.Common.{◌≡◌, ℕ, zero, suc, ◌+◌, ◌-◌, ◌*◌, ◌/◌, ◌%◌, ◌^◌, ◌<◌, ◌≤◌, All, List, [], ◌∷◌, ◌++◌, length, map, replicate, take, drop, get_or, sym, refl, ap, ◌∙◌, subst, inl, inr, arith, append_assoc, length-append, add-mul, pow_mono}
use Rattle.std.proofs.lemmas.Bool.{cases_lt}
use Rattle.std.proofs.lemmas.List.{get_or-drop, get_or-map, get_or_past, get_or_at, get_or_read, length-drop, length-map, length-replicate, length-take, take_all, take-append-drop}
use Rattle.std.proofs.lemmas.List.Elements.{All-get_or}
use Rattle.drc_bits.proofs.Digits.{digits-above, digits-most}
use Rattle.symbol_tables.specs.Normal.{greatest_count}
use Rattle.symbol_coding.specs.Block.{HasWidths, groups_of, widths}
use Rattle.symbol_coding.specs.Symbols.{counts_of}
use Rattle.symbol_coding.proofs.Counts.{counts_of-length, counts_of-positive, each-greatest, greatest-below, greatest-reached}
use Rattle.symbol_coding.proofs.Widths.{Fit-append, Fit-replicate, behind-group, get-take, whole-groups}
use Rattle.shortest_blocks.specs.declared.cuts.Cut.{Cut}
use Rattle.shortest_blocks.specs.declared.cuts.Run.{Run}
use Rattle.shortest_blocks.specs.Cuts.{best_cut, cuts_below, no_cut, run_to}
use Rattle.shortest_blocks.specs.Joined.{cut_of, digits_of_group, digits_of_groups, joined_lengths, last_cut}
use Rattle.shortest_blocks.proofs.BestCuts.{Holds, best-cut-kept, cuts-hold, cuts-next, cuts-some}

-- ---- the cut of all lengths

last-push : (cuts : List Cut) (cut : Cut) → last_cut (cuts ++ cut ∷ []) ≡ cut
last-push cuts cut = get_or_at cuts cut [] no_cut (length (cuts ++ cut ∷ []) - 1) (let l = length-append cuts (cut ∷ []) in omega (arith, l))

-- it says what each length below a number becomes, of which the last one occurs
last-long : (counts : List ℕ) (all comps last : ℕ) → 0 < get_or counts last 0 → suc last ≤ length (last_cut (cuts_below counts all comps (suc last))).joined
last-long counts all comps last some =
    let cuts : List Cut = cuts_below counts all comps last in
    let run : Run = run_to counts all comps last in
    let e : last_cut (cuts_below counts all comps (suc last)) ≡ best_cut run cuts = ap last_cut (cuts-next counts all comps last some) ∙ last-push cuts (best_cut run cuts) in
    subst (λ (c : Cut). suc last ≤ length c.joined) (sym e)
    (best-cut-kept (λ c. suc last ≤ length c.joined) (λ c. 0 ≤ length c.joined) run cuts
    (λ c p.
    let l = length-append c.joined (replicate (last + 1 - length c.joined) last) in
    let r = length-replicate (last + 1 - length c.joined) last in omega (arith, l, r))
    (cuts-some counts all comps last) (λ k d h. omega arith))

last-holds : (counts : List ℕ) (all comps last : ℕ) → Holds last (last_cut (cuts_below counts all comps last))
last-holds counts all comps last =
    let cuts : List Cut = cuts_below counts all comps last in
    let some = cuts-some counts all comps last in
    All-get_or (Holds last) cuts (length cuts - 1) no_cut (omega (arith, some)) (cuts-hold counts all comps last)

-- how many lengths it is of
pub cut-long : (comps : ℕ) (lengths : List ℕ) → 0 < length lengths → greatest_count lengths < length (cut_of comps lengths).joined
cut-long comps lengths some =
    let g : ℕ = greatest_count lengths in
    let at = greatest-reached lengths some in
    let p : 0 < get_or (counts_of lengths) g 0 = subst (λ s. 0 < get_or (counts_of lengths) s 0) at.2 (counts_of-positive lengths at.0 at.1) in
    let n : suc g ≡ length (counts_of lengths) = (let l = counts_of-length lengths in omega (arith, l)) in
    let h = last-long (counts_of lengths) (length lengths) comps g p in
    subst (λ m. suc g ≤ length (last_cut (cuts_below (counts_of lengths) (length lengths) comps m)).joined) n h

-- what one of them becomes
pub cut-holds : (comps : ℕ) (lengths : List ℕ) (k : ℕ) → k < length lengths
    → (get_or lengths k 0 < length (cut_of comps lengths).joined) × (get_or lengths k 0 ≤ get_or (cut_of comps lengths).joined (get_or lengths k 0) 0)
    × (get_or (cut_of comps lengths).joined (get_or lengths k 0) 0 ≤ greatest_count lengths)
cut-holds comps lengths k inside =
    let long = cut-long comps lengths (omega (arith, inside)) in
    let most = each-greatest lengths k in
    let n = counts_of-length lengths in
    let below : get_or lengths k 0 < length (cut_of comps lengths).joined = omega (arith, long, most) in
    let h = (last-holds (counts_of lengths) (length lengths) comps (length (counts_of lengths))).holds (get_or lengths k 0) below in
    (below, h.0, omega (arith, h.1, n))

-- ---- joined lengths

pub length-joined : (comps : ℕ) (lengths : List ℕ) → length (joined_lengths comps lengths) ≡ length lengths
unfolding joined_lengths
length-joined comps lengths = length-map lengths (λ l. get_or (cut_of comps lengths).joined l 0)

-- joined lengths are at least the lengths, and at most the greatest
pub record AreAbove (most : ℕ) (lengths joined : List ℕ) : Type 0 where
  pub len : length joined ≡ length lengths
  pub above : (k : ℕ) → get_or lengths k 0 ≤ get_or joined k 0
  pub most_is : (k : ℕ) → get_or joined k 0 ≤ most

joined-at : (comps : ℕ) (lengths : List ℕ) (k : ℕ) → k < length lengths
    → get_or (joined_lengths comps lengths) k 0 ≡ get_or (cut_of comps lengths).joined (get_or lengths k 0) 0
unfolding joined_lengths
joined-at comps lengths k inside = get_or-map (λ l. get_or (cut_of comps lengths).joined l 0) lengths k 0 0 inside

pub joined-above : (comps : ℕ) (lengths : List ℕ) → AreAbove (greatest_count lengths) lengths (joined_lengths comps lengths)
joined-above comps lengths = record {
  len = length-joined comps lengths;
  above = λ k. elim (cases_lt k (length lengths)) [
    | inl inside ↦ (let e = joined-at comps lengths k inside in let h = cut-holds comps lengths k inside in omega (arith, e, h.1))
    | inr past ↦ (let e = get_or_past lengths k 0 past in omega (arith, e))
  ];
  most_is = λ k. elim (cases_lt k (length lengths)) [
    | inl inside ↦ (let e = joined-at comps lengths k inside in let h = cut-holds comps lengths k inside in omega (arith, e, h.2))
    | inr past ↦ (let l = length-joined comps lengths in let e = get_or_past (joined_lengths comps lengths) k 0 (omega (arith, l, past)) in omega (arith, e))
  ];
}

-- a cut that was read is that of all lengths
pub cut-is : (comps : ℕ) (lengths counts : List ℕ) (cuts : List Cut) (n : ℕ) (x : Cut) → counts ≡ counts_of lengths → cuts ≡ cuts_below counts (length lengths) comps (length counts)
    → n ≡ length cuts → x ≡ get_or cuts (n - 1) x → x.joined ≡ (cut_of comps lengths).joined
cut-is comps lengths counts cuts n x counted are count read =
    let some : 0 < length cuts = subst (λ (cs : List Cut). 0 < length cs) (sym are) (cuts-some counts (length lengths) comps (length counts)) in
    let at : x ≡ get_or cuts (n - 1) no_cut = get_or_read cuts (n - 1) x (omega (arith, some, count)) read no_cut in
    let last : x ≡ last_cut cuts = at ∙ ap (λ k. get_or cuts (k - 1) no_cut) count in
    let whole : x ≡ cut_of comps lengths = last ∙ ap last_cut are ∙ ap (λ cs. last_cut (cuts_below cs (length lengths) comps (length cs))) counted in
    ap (λ (c : Cut). c.joined) whole

-- all lengths were joined
pub joined-all : (comps : ℕ) (lengths joined all : List ℕ) (n : ℕ) → all ≡ map (λ l. get_or joined l 0) (take n lengths) → length lengths ≤ n → joined ≡ (cut_of comps lengths).joined
    → all ≡ joined_lengths comps lengths
unfolding joined_lengths
joined-all comps lengths joined all n so done is =
    so ∙ ap (map (λ l. get_or joined l 0)) (take_all n lengths done) ∙ ap (λ xs. map (λ l. get_or xs l 0) lengths) is

-- joined lengths of lengths of at most 32
pub joined-hold : (comps : ℕ) (lengths : List ℕ) → All (λ l. l ≤ 32) lengths
    → (length (joined_lengths comps lengths) ≡ length lengths) × ((k : ℕ) → get_or lengths k 0 ≤ get_or (joined_lengths comps lengths) k 0)
    × ((k : ℕ) → get_or (joined_lengths comps lengths) k 0 ≤ 32)
joined-hold comps lengths few =
    let are = joined-above comps lengths in
    let most : greatest_count lengths < 33 = greatest-below lengths 33 (omega arith) (λ k. elim (cases_lt k (length lengths)) [
      | inl inside ↦ (let h = few k 0 inside in omega (arith, h))
      | inr past ↦ (let e = get_or_past lengths k 0 past in omega (arith, e))
    ]) in
    (are.len, are.above, (λ k. let h = are.most_is k in omega (arith, h, most)))

-- ---- the digits of groups

length-groups : (n comps : ℕ) (values : List ℕ) → length (groups_of n comps values) ≡ n
length-groups zero comps values = refl
length-groups (suc n) comps values = let r = length-groups n comps (drop comps values) in omega (arith, r)

pub length-digits : (comps : ℕ) (values : List ℕ) → length (digits_of_groups comps values) ≡ length values / comps
unfolding digits_of_groups
length-digits comps values = length-map (groups_of (length values / comps) comps values) digits_of_group ∙ length-groups (length values / comps) comps values

digits-few : (n comps : ℕ) (values : List ℕ) (k : ℕ) → get_or (map digits_of_group (groups_of n comps values)) k 0 ≤ 32
digits-few zero comps values k = omega arith
digits-few (suc n) comps values zero = digits-most 32 (greatest_count (take comps values))
digits-few (suc n) comps values (suc k) = digits-few n comps (drop comps values) k

pub digits-of-most : (comps : ℕ) (values : List ℕ) (k : ℕ) → get_or (digits_of_groups comps values) k 0 ≤ 32
unfolding digits_of_groups
digits-of-most comps values k = digits-few (length values / comps) comps values k

one_fewer : (n k : ℕ) → k < n → n - k ≡ suc (n - (k + 1))
one_fewer n k inside = omega arith

-- one group more
pub digits-next : (n g comps m x : ℕ) (values lengths next whole : List ℕ) → g < n → m ≡ comps → x ≡ digits_of_group (take m (drop (g * comps) values))
    → next ≡ lengths ++ x ∷ [] → lengths ++ map digits_of_group (groups_of (n - g) comps (drop (g * comps) values)) ≡ whole
    → next ++ map digits_of_group (groups_of (n - (g + 1)) comps (drop ((g + 1) * comps) values)) ≡ whole
digits-next n g comps m x values lengths next whole inside size is after so =
    let rest : List ℕ = map digits_of_group (groups_of (n - (g + 1)) comps (drop ((g + 1) * comps) values)) in
    let same : map digits_of_group (groups_of (n - (g + 1)) comps (drop comps (drop (g * comps) values))) ≡ rest =
    ap (λ xs. map digits_of_group (groups_of (n - (g + 1)) comps xs)) (behind-group g comps values) in
    let first : x ≡ digits_of_group (take comps (drop (g * comps) values)) = is ∙ ap (λ k. digits_of_group (take k (drop (g * comps) values))) size in
    ap (λ xs. xs ++ rest) after ∙ append_assoc lengths (x ∷ []) rest
    ∙ ap (λ y. lengths ++ (y ∷ rest)) first
    ∙ ap (λ ys. lengths ++ (digits_of_group (take comps (drop (g * comps) values)) ∷ ys)) (sym same)
    ∙ ap (λ k. lengths ++ map digits_of_group (groups_of k comps (drop (g * comps) values))) (sym (one_fewer n g inside))
    ∙ so

get-drop : (n k : ℕ) (xs : List ℕ) → get_or (drop n xs) k 0 ≡ get_or xs (n + k) 0
get-drop n k xs = get_or-drop n xs k 0

suc-times : (n comps : ℕ) → suc n * comps ≡ comps + n * comps
suc-times n comps = let e : suc n ≡ 1 + n = omega arith in ap (λ k. k * comps) e ∙ add-mul 1 n comps ∙ (let f : 1 * comps + n * comps ≡ comps + n * comps = omega arith in f)

-- values fit lengths that are no less than their groups' digits
groups-fit : (n comps : ℕ) (values ws : List ℕ) → length values ≡ n * comps → length ws ≡ n → ((k : ℕ) → get_or values k 0 < 2 ^ 32)
    → ((k : ℕ) → get_or (map digits_of_group (groups_of n comps values)) k 0 ≤ get_or ws k 0) → ((k : ℕ) → get_or ws k 0 ≤ 32) → HasWidths (widths comps ws) values
groups-fit zero comps [] [] len count each above most = tt
groups-fit zero comps (v ∷ vs) ws len count each above most = absurd (omega (arith, len))
groups-fit zero comps [] (w ∷ ws) len count each above most = absurd (omega (arith, count))
groups-fit (suc n) comps values [] len count each above most = absurd (omega (arith, count))
groups-fit (suc n) comps values (w ∷ ws) len count each above most =
    let group : List ℕ = take comps values in
    let rest : List ℕ = drop comps values in
    let m : suc n * comps ≡ comps + n * comps = suc-times n comps in
    let l : length group ≡ comps = (let h = length-take comps values in omega (arith, h, len, m)) in
    let lr : length rest ≡ n * comps = (let h = length-drop comps values in omega (arith, h, len, m)) in
    let small : greatest_count group < 2 ^ 32 = greatest-below group (2 ^ 32) (omega arith) (λ k. let h = get-take comps k values in let e = each k in omega (arith, h, e)) in
    let enough : digits_of_group group ≤ w = above 0 in
    let fits : greatest_count group < 2 ^ digits_of_group group = digits-above 32 (greatest_count group) small in
    let room : 2 ^ digits_of_group group ≤ 2 ^ w = pow_mono {i = digits_of_group group} {j = w} enough in
    let first : HasWidths (replicate comps w) group =
    subst (λ c. HasWidths (replicate c w) group) l (Fit-replicate w group (most 0) (λ k h. let g = each-greatest group k in omega (arith, g, fits, room))) in
    let others = groups-fit n comps rest ws lr (omega (arith, count)) (λ k. let h = get-drop comps k values in let e = each (comps + k) in omega (arith, h, e)) (λ k. above (suc k)) (λ k. most (suc k)) in
    subst (λ xs. HasWidths (replicate comps w ++ widths comps ws) xs) (take-append-drop comps values) (Fit-append (replicate comps w) group (widths comps ws) rest first others)

pub held : (comps most : ℕ) (values joined : List ℕ) → length values % comps ≡ 0 → ((k : ℕ) → get_or values k 0 < 2 ^ 32) → most ≤ 32
    → AreAbove most (digits_of_groups comps values) joined → HasWidths (widths comps joined) values
unfolding digits_of_groups
held comps most values joined divides each few are =
    let count : length joined ≡ length values / comps = are.len ∙ length-digits comps values in
    groups-fit (length values / comps) comps values joined (whole-groups (length values) comps divides) count each are.above (λ k. let h = are.most_is k in omega (arith, h, few))
