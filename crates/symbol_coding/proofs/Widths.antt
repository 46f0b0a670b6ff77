-- Values of the widths of their groups, and their bits.
use Rattle.std.proofs.Common.{◌≡◌, ℕ, zero, suc, ◌+◌, ◌-◌, ◌*◌, ◌/◌, ◌%◌, ◌^◌, ◌<◌, ◌≤◌, List, [], ◌∷◌, ◌++◌, length, take, drop, map, replicate, sum, get_or, Ok, sym, refl, ap, ◌∙◌, subst, arith, append_assoc, le-ltb, pow_mono, length-append, take_at, drop_at, add-mul, div-add-mod', mod-eq_of_lt, drop-drop, drop-cons, mul-le-mul_right}
use Rattle.std.proofs.lemmas.Bool.{cond-false}
use Rattle.std.proofs.lemmas.List.{length-take, length-drop, length-map, length-replicate, take-append-drop}
use Rattle.drc_bits.specs.Bits.{low_bits, number_of}
use Rattle.drc_bits.proofs.BitLists.{length-low_bits, number_of-low_bits}
use Rattle.symbol_tables.specs.Normal.{greatest_count}
use Rattle.symbol_tables.proofs.Symbols.{sum-cons}
use Rattle.drc_bits.specs.Digits.{digits}
use Rattle.symbol_coding.specs.Block.{HasWidths, groups_of, length_of, lengths_of, value_bits, values_in_groups, widths}
use Rattle.symbol_coding.proofs.Counts.{each-greatest, greatest-below}
use Rattle.drc_bits.proofs.Digits.{digits-above, digits-most}

-- the bits of such values give them back
pub values_in-bits : (long short : ℕ) (ws vs more : List ℕ) → HasWidths ws vs → values_in_groups long short ws (value_bits ws vs ++ more) ≡ Ok vs
unfolding values_in_groups
values_in-bits long short [] [] more fit = refl
values_in-bits long short [] (v ∷ vs) more fit = absurd fit
values_in-bits long short (w ∷ ws) [] more fit = absurd fit
values_in-bits long short (w ∷ ws) (v ∷ vs) more fit =
    let rest : List ℕ = value_bits ws vs ++ more in
    let whole : value_bits (w ∷ ws) (v ∷ vs) ++ more ≡ low_bits w v ++ rest = append_assoc (low_bits w v) (value_bits ws vs) more in
    let l : length (low_bits w v) ≡ w = length-low_bits w v in
    let enough : w ≤ length (low_bits w v ++ rest) = (let a = length-append (low_bits w v) rest in omega (arith, a, l)) in
    let front : take w (low_bits w v ++ rest) ≡ low_bits w v = take_at (low_bits w v) rest w l in
    let back : drop w (low_bits w v ++ rest) ≡ rest = drop_at (low_bits w v) rest w l in
    let number : number_of (low_bits w v) ≡ v = number_of-low_bits w v ∙ mod-eq_of_lt fit.1 in
    ap (values_in_groups long short (w ∷ ws)) whole
    ∙ rw (cond-false _ _ _ (le-ltb 32 w fit.0), cond-false _ _ _ (le-ltb (length (low_bits w v ++ rest)) w enough), front, back, number, values_in-bits long short ws vs more fit.2) refl

-- how many bits they have
pub length-value_bits : (ws vs : List ℕ) → HasWidths ws vs → length (value_bits ws vs) ≡ sum ws
length-value_bits [] [] fit = refl
length-value_bits [] (v ∷ vs) fit = absurd fit
length-value_bits (w ∷ ws) [] fit = absurd fit
length-value_bits (w ∷ ws) (v ∷ vs) fit =
    let a = length-append (low_bits w v) (value_bits ws vs) in
    let l = length-low_bits w v in
    let s = sum-cons w ws in
    let r = length-value_bits ws vs fit.2 in omega (arith, a, l, s, r)

pub Fit-append : (ws vs us xs : List ℕ) → HasWidths ws vs → HasWidths us xs → HasWidths (ws ++ us) (vs ++ xs)
Fit-append [] [] us xs a b = b
Fit-append [] (v ∷ vs) us xs a b = absurd a
Fit-append (w ∷ ws) [] us xs a b = absurd a
Fit-append (w ∷ ws) (v ∷ vs) us xs a b = (a.0, a.1, Fit-append ws vs us xs a.2 b)

-- values of one width
pub Fit-replicate : (w : ℕ) (vs : List ℕ) → w ≤ 32 → ((k : ℕ) → k < length vs → get_or vs k 0 < 2 ^ w) → HasWidths (replicate (length vs) w) vs
Fit-replicate w [] small each = tt
Fit-replicate w (v ∷ vs) small each = (small, each 0 (omega arith), Fit-replicate w vs small (λ k h. each (suc k) (omega (arith, h))))

-- a group's values fit its bit length
pub group-fits : (group : List ℕ) → ((k : ℕ) → get_or group k 0 < 2 ^ 32) → (length_of group ≤ 32) × ((k : ℕ) → get_or group k 0 < 2 ^ length_of group)
group-fits group each =
    let most = digits-most 32 (greatest_count group) in
    let above : greatest_count group < 2 ^ digits (greatest_count group) = digits-above 32 (greatest_count group) (greatest-below group (2 ^ 32) (omega arith) each) in
    let room : 2 ^ digits (greatest_count group) ≤ 2 ^ length_of group = pow_mono {i = digits (greatest_count group)} {j = length_of group} (omega arith) in
    (omega (arith, most), (λ k. let h = each-greatest group k in omega (arith, h, above, room)))

pub get-take : (n k : ℕ) (xs : List ℕ) → get_or (take n xs) k 0 ≤ get_or xs k 0
get-take zero k xs = omega arith
get-take (suc n) k [] = omega arith
get-take (suc n) zero (x ∷ xs) = omega arith
get-take (suc n) (suc k) (x ∷ xs) = get-take n k xs

get-drop : (n k : ℕ) (xs : List ℕ) → get_or (drop n xs) k 0 ≡ get_or xs (n + k) 0
get-drop zero k xs = ap (λ i. get_or xs i 0) (let e : k ≡ 0 + k = omega arith in e)
get-drop (suc n) k [] = refl
get-drop (suc n) k (x ∷ xs) = get-drop n k xs ∙ ap (λ i. get_or (x ∷ xs) i 0) (let e : suc (n + k) ≡ suc n + k = omega arith in e)

suc-times : (n comps : ℕ) → suc n * comps ≡ comps + n * comps
suc-times n comps = let e : suc n ≡ 1 + n = omega arith in ap (λ k. k * comps) e ∙ add-mul 1 n comps ∙ (let f : 1 * comps + n * comps ≡ comps + n * comps = omega arith in f)

-- the values of all groups fit
groups-fit : (n comps : ℕ) (values : List ℕ) → length values ≡ n * comps → ((k : ℕ) → get_or values k 0 < 2 ^ 32) → HasWidths (widths comps (map length_of (groups_of n comps values))) values
groups-fit zero comps [] len each = tt
groups-fit zero comps (v ∷ vs) len each = absurd (omega (arith, len))
groups-fit (suc n) comps values len each =
    let group : List ℕ = take comps values in
    let rest : List ℕ = drop comps values in
    let m : suc n * comps ≡ comps + n * comps = suc-times n comps in
    let l : length group ≡ comps = (let h = length-take comps values in omega (arith, h, len, m)) in
    let lr : length rest ≡ n * comps = (let h = length-drop comps values in omega (arith, h, len, m)) in
    let fits = group-fits group (λ k. let h = get-take comps k values in let e = each k in omega (arith, h, e)) in
    let first : HasWidths (replicate comps (length_of group)) group =
    subst (λ c. HasWidths (replicate c (length_of group)) group) l (Fit-replicate (length_of group) group fits.0 (λ k h. fits.1 k)) in
    let others = groups-fit n comps rest lr (λ k. let h = get-drop comps k values in let e = each (comps + k) in omega (arith, h, e)) in
    subst (λ xs. HasWidths (replicate comps (length_of group) ++ widths comps (map length_of (groups_of n comps rest))) xs) (take-append-drop comps values)
    (Fit-append (replicate comps (length_of group)) group (widths comps (map length_of (groups_of n comps rest))) rest first others)

pub whole-groups : (n comps : ℕ) → n % comps ≡ 0 → n ≡ n / comps * comps
whole-groups n comps h = let e = div-add-mod' n comps in omega (arith, e, h)

pub widths-fit : (values : List ℕ) (comps : ℕ) → length values % comps ≡ 0 → ((k : ℕ) → get_or values k 0 < 2 ^ 32) → HasWidths (widths comps (lengths_of comps values)) values
unfolding lengths_of
widths-fit values comps divides each = groups-fit (length values / comps) comps values (whole-groups (length values) comps divides) each

-- ---- the bit lengths

length-groups_of : (n comps : ℕ) (values : List ℕ) → length (groups_of n comps values) ≡ n
length-groups_of zero comps values = refl
length-groups_of (suc n) comps values = let r = length-groups_of n comps (drop comps values) in omega (arith, r)

lengths-most : (n comps : ℕ) (values : List ℕ) → ((k : ℕ) → get_or values k 0 < 2 ^ 32) → (k : ℕ) → get_or (map length_of (groups_of n comps values)) k 0 ≤ 32
lengths-most zero comps values each k = omega arith
lengths-most (suc n) comps values each zero = (group-fits (take comps values) (λ k. let h = get-take comps k values in let e = each k in omega (arith, h, e))).0
lengths-most (suc n) comps values each (suc k) = lengths-most n comps (drop comps values) (λ i. let h = get-drop comps i values in let e = each (comps + i) in omega (arith, h, e)) k

pub lengths_of-most : (values : List ℕ) (comps : ℕ) → ((k : ℕ) → get_or values k 0 < 2 ^ 32) → (k : ℕ) → get_or (lengths_of comps values) k 0 ≤ 32
unfolding lengths_of
lengths_of-most values comps each k = lengths-most (length values / comps) comps values each k

pub length-lengths_of : (values : List ℕ) (comps : ℕ) → length (lengths_of comps values) ≡ length values / comps
unfolding lengths_of
length-lengths_of values comps = length-map (groups_of (length values / comps) comps values) length_of ∙ length-groups_of (length values / comps) comps values

one_fewer : (n k : ℕ) → k < n → n - k ≡ suc (n - (k + 1))
one_fewer n k inside = omega arith

-- behind one group more
pub behind-group : (g comps : ℕ) (values : List ℕ) → drop comps (drop (g * comps) values) ≡ drop ((g + 1) * comps) values
behind-group g comps values =
    drop-drop comps (g * comps) values ∙ ap (λ n. drop n values) (let m : (g + 1) * comps ≡ g * comps + 1 * comps = add-mul g 1 comps in let e : g * comps + comps ≡ (g + 1) * comps = omega (arith, m) in e)

-- one bit length more
pub lengths-next : (n g comps m x : ℕ) (values lengths next whole : List ℕ) → g < n → m ≡ comps → x ≡ length_of (take m (drop (g * comps) values)) → next ≡ lengths ++ x ∷ []
    → lengths ++ map length_of (groups_of (n - g) comps (drop (g * comps) values)) ≡ whole
    → next ++ map length_of (groups_of (n - (g + 1)) comps (drop ((g + 1) * comps) values)) ≡ whole
lengths-next n g comps m x values lengths next whole inside size is after so =
    let rest : List ℕ = map length_of (groups_of (n - (g + 1)) comps (drop ((g + 1) * comps) values)) in
    let same : map length_of (groups_of (n - (g + 1)) comps (drop comps (drop (g * comps) values))) ≡ rest = ap (λ xs. map length_of (groups_of (n - (g + 1)) comps xs)) (behind-group g comps values) in
    let first : x ≡ length_of (take comps (drop (g * comps) values)) = is ∙ ap (λ k. length_of (take k (drop (g * comps) values))) size in
    ap (λ xs. xs ++ rest) after ∙ append_assoc lengths (x ∷ []) rest
    ∙ ap (λ y. lengths ++ (y ∷ rest)) first
    ∙ ap (λ ys. lengths ++ (length_of (take comps (drop (g * comps) values)) ∷ ys)) (sym same)
    ∙ ap (λ k. lengths ++ map length_of (groups_of k comps (drop (g * comps) values))) (sym (one_fewer n g inside))
    ∙ so

-- ---- putting values

-- the values of one group, and those of the groups after it
value_bits-append : (ws us xs vs : List ℕ) → length ws ≡ length xs → value_bits (ws ++ us) (xs ++ vs) ≡ value_bits ws xs ++ value_bits us vs
value_bits-append [] us [] vs len = refl
value_bits-append [] us (x ∷ xs) vs len = absurd (omega (arith, len))
value_bits-append (w ∷ ws) us [] vs len = absurd (omega (arith, len))
value_bits-append (w ∷ ws) us (x ∷ xs) vs len =
    ap (λ bits. low_bits w x ++ bits) (value_bits-append ws us xs vs (omega (arith, len))) ∙ sym (append_assoc (low_bits w x) (value_bits ws xs) (value_bits us vs))

-- one value more of a group
pub put-next : (w k : ℕ) (group new next whole : List ℕ) → k < length group → next ≡ new ++ low_bits w (get_or group k 0)
    → new ++ value_bits (replicate (length group - k) w) (drop k group) ≡ whole → next ++ value_bits (replicate (length group - (k + 1)) w) (drop (k + 1) group) ≡ whole
put-next w k group new next whole inside is so =
    let rest : List ℕ = value_bits (replicate (length group - (k + 1)) w) (drop (k + 1) group) in
    let split : drop k group ≡ get_or group k 0 ∷ drop (k + 1) group = drop-cons group k 0 inside ∙ ap (λ n. get_or group k 0 ∷ drop n group) (let e : suc k ≡ k + 1 = omega arith in e) in
    ap (λ xs. xs ++ rest) is ∙ append_assoc new (low_bits w (get_or group k 0)) rest
    ∙ ap (λ xs. new ++ value_bits (w ∷ replicate (length group - (k + 1)) w) xs) (sym split)
    ∙ ap (λ n. new ++ value_bits (replicate n w) (drop k group)) (sym (one_fewer (length group) k inside))
    ∙ so

group-length : (comps g m : ℕ) (lengths values group : List ℕ) → g < length lengths → length lengths * comps ≡ length values → m ≡ comps → group ≡ take m (drop (g * comps) values) → length group ≡ comps
group-length comps g m lengths values group inside all size is =
    let t = length-take m (drop (g * comps) values) in
    let d = length-drop (g * comps) values in
    let e : length group ≡ length (take m (drop (g * comps) values)) = ap length is in
    let room : (g + 1) * comps ≤ length lengths * comps = mul-le-mul_right comps (omega arith) in
    let one : (g + 1) * comps ≡ g * comps + 1 * comps = add-mul g 1 comps in
    omega (arith, t, d, e, room, one, all, size)

-- one group more
pub put-group : (comps g m : ℕ) (lengths values group new next whole : List ℕ) → g < length lengths → length lengths * comps ≡ length values → m ≡ comps
    → group ≡ take m (drop (g * comps) values) → next ≡ new ++ value_bits (replicate (length group) (get_or lengths g 0)) group
    → new ++ value_bits (widths comps (drop g lengths)) (drop (g * comps) values) ≡ whole → next ++ value_bits (widths comps (drop (g + 1) lengths)) (drop ((g + 1) * comps) values) ≡ whole
put-group comps g m lengths values group new next whole inside all size is after so =
    let w : ℕ = get_or lengths g 0 in
    let rest : List ℕ = drop ((g + 1) * comps) values in
    let others : List ℕ = widths comps (drop (g + 1) lengths) in
    let l : length group ≡ comps = group-length comps g m lengths values group inside all size is in
    let split : drop g lengths ≡ w ∷ drop (g + 1) lengths = drop-cons lengths g 0 inside ∙ ap (λ n. w ∷ drop n lengths) (let e : suc g ≡ g + 1 = omega arith in e) in
    let values_split : drop (g * comps) values ≡ group ++ rest =
    sym (take-append-drop comps (drop (g * comps) values)) ∙ ap (λ xs. xs ++ drop comps (drop (g * comps) values)) (ap (λ n. take n (drop (g * comps) values)) (sym size) ∙ sym is)
    ∙ ap (λ xs. group ++ xs) (behind-group g comps values) in
    let joined : value_bits (widths comps (drop g lengths)) (drop (g * comps) values) ≡ value_bits (replicate comps w) group ++ value_bits others rest =
    ap (λ ls. value_bits (widths comps ls) (drop (g * comps) values)) split ∙ ap (λ xs. value_bits (replicate comps w ++ others) xs) values_split
    ∙ value_bits-append (replicate comps w) others group rest (length-replicate comps w ∙ sym l) in
    ap (λ xs. xs ++ value_bits others rest) (after ∙ ap (λ n. new ++ value_bits (replicate n w) group) l)
    ∙ append_assoc new (value_bits (replicate comps w) group) (value_bits others rest)
    ∙ ap (λ xs. new ++ xs) (sym joined) ∙ so

within_group : (w n v : ℕ) (vs : List ℕ) → w ≤ 32 → v < 2 ^ w → ((k : ℕ) → k < n → (w ≤ 32) × (get_or vs k 0 < 2 ^ w)) → (k : ℕ) → k < suc n → (w ≤ 32) × (get_or (v ∷ vs) k 0 < 2 ^ w)
within_group w n v vs small fits rest zero h = (small, fits)
within_group w n v vs small fits rest (suc k) h = rest k (omega (arith, h))

-- a group's width, and its values
HasWidths-split : (w : ℕ) (n : ℕ) (ws values : List ℕ) → HasWidths (replicate n w ++ ws) values → HasWidths ws (drop n values) × ((k : ℕ) → k < n → (w ≤ 32) × (get_or values k 0 < 2 ^ w))
HasWidths-split w zero ws values has = (has, λ k h. absurd (omega (arith, h)))
HasWidths-split w (suc n) ws [] has = absurd has
HasWidths-split w (suc n) ws (v ∷ vs) has =
    let rest = HasWidths-split w n ws vs has.2 in (rest.0, within_group w n v vs has.0 has.1 rest.1)

-- what stands behind a group still has its widths
pub HasWidths-next : (comps g : ℕ) (lengths values : List ℕ) → g < length lengths → HasWidths (widths comps (drop g lengths)) (drop (g * comps) values)
    → HasWidths (widths comps (drop (g + 1) lengths)) (drop ((g + 1) * comps) values) × ((k : ℕ) → k < comps → (get_or lengths g 0 ≤ 32) × (get_or (drop (g * comps) values) k 0 < 2 ^ get_or lengths g 0))
HasWidths-next comps g lengths values inside has =
    let w : ℕ = get_or lengths g 0 in
    let split : drop g lengths ≡ w ∷ drop (g + 1) lengths = drop-cons lengths g 0 inside ∙ ap (λ n. w ∷ drop n lengths) (let e : suc g ≡ g + 1 = omega arith in e) in
    let both = HasWidths-split w comps (widths comps (drop (g + 1) lengths)) (drop (g * comps) values) (subst (λ ls. HasWidths (widths comps ls) (drop (g * comps) values)) split has) in
    (subst (λ xs. HasWidths (widths comps (drop (g + 1) lengths)) xs) (behind-group g comps values) both.0, both.1)
