-- The walk of writing: what a step takes from the boxes that are due.
use Rattle.std.proofs.Common.{◌≡◌, ℕ, zero, suc, ◌+◌, ◌-◌, ◌<◌, ◌≤◌, Bool, List, [], ◌∷◌, ◌++◌, length, take, drop, reverse, sym, refl, ap, ◌∙◌, subst, arith, append_assoc}
use Rattle.std.proofs.lemmas.List.{reverse-append, take-take, drop-drop, drop-take, take_at, drop_at}
use Rattle.kd_tree.specs.Keys.{Key, key_at}
use Rattle.drc_bits.specs.Digits.{digits}
use Rattle.kd_tree.specs.Trees.{high_bits, lower, upper, split_bits, rest_bits, IsSettled}
use Rattle.kd_tree.specs.Walk.{AreDue, nodes, nodes_due, part, rests_due, splits_due}
use Rattle.kd_tree.specs.declared.writing.Due.{Due}
use Rattle.kd_tree.proofs.Boxes.{key-part, length-part, length-parts, rest-last, rest-more, rest-none, rest-one, split-last, split-more, split-none}

pub reverse-push : {A : Type 0} (xs : List A) (x : A) → reverse (xs ++ x ∷ []) ≡ x ∷ reverse xs
reverse-push xs x = reverse-append xs (x ∷ [])

-- a settled box that is divided
pub settled-more : (left n d : ℕ) (box : List Key) → left ≡ suc n → IsSettled left d box → (box ≡ lower d box ++ upper d box) × IsSettled n (d + 1) (lower d box) × IsSettled n (d + 1) (upper d box)
settled-more left n d box e s = subst (λ m. IsSettled m d box) e s

-- a box with few keys or at the last depth writes no split bits
pub splits-few : (depth : ℕ) (keys : List Key) (begin : ℕ) (due : Due) (rest : List Due) → begin ≤ due.end → due.end ≤ length keys → due.end < begin + 2 → splits_due depth keys due.end rest ≡ splits_due depth keys begin (due ∷ rest)
splits-few depth keys begin due rest h k few =
    ap (λ xs. xs ++ splits_due depth keys due.end rest) (sym (split-none (depth - due.depth) due.depth (part begin due.end keys) (let l = length-part begin due.end keys h k in omega (arith, l, few))))

pub splits-last : (depth : ℕ) (keys : List Key) (begin : ℕ) (due : Due) (rest : List Due) → due.depth ≡ depth → splits_due depth keys due.end rest ≡ splits_due depth keys begin (due ∷ rest)
splits-last depth keys begin due rest e =
    ap (λ xs. xs ++ splits_due depth keys due.end rest) (sym (ap (λ n. split_bits n due.depth (part begin due.end keys)) (let g : depth - due.depth ≡ 0 = omega (arith, e) in g) ∙ split-last due.depth (part begin due.end keys)))

pub rests-last : (depth : ℕ) (keys : List Key) (begin : ℕ) (due : Due) (rest : List Due) → due.depth ≡ depth → rests_due depth keys due.end rest ≡ rests_due depth keys begin (due ∷ rest)
rests-last depth keys begin due rest e =
    ap (λ xs. xs ++ rests_due depth keys due.end rest) (sym (ap (λ n. rest_bits n due.depth (part begin due.end keys)) (let g : depth - due.depth ≡ 0 = omega (arith, e) in g) ∙ rest-last due.depth (part begin due.end keys)))

-- a box without keys writes no rest bits
pub rests-none : (depth : ℕ) (keys : List Key) (begin : ℕ) (due : Due) (rest : List Due) → due.end ≡ begin → due.end ≤ length keys → rests_due depth keys due.end rest ≡ rests_due depth keys begin (due ∷ rest)
rests-none depth keys begin due rest e k =
    ap (λ xs. xs ++ rests_due depth keys due.end rest) (sym (rest-none (depth - due.depth) due.depth (part begin due.end keys) (let l = length-part begin due.end keys (omega (arith, e)) k in omega (arith, l, e))))

-- a box of one key writes its rest
pub rests-one : (depth : ℕ) (keys : List Key) (begin : ℕ) (due : Due) (rest : List Due) → due.end ≡ begin + 1 → due.end ≤ length keys → due.depth < depth →
    drop due.depth (key_at keys begin) ++ rests_due depth keys due.end rest ≡ rests_due depth keys begin (due ∷ rest)
rests-one depth keys begin due rest e k deep =
    let box : List Key = part begin due.end keys in
    let one : length box ≡ 1 = length-part begin due.end keys (omega (arith, e)) k ∙ (let g : due.end - begin ≡ 1 = omega (arith, e) in g) in
    let first : key_at box 0 ≡ key_at keys begin = ap (key_at box) (let g : 0 ≡ begin - begin = omega arith in g) ∙ key-part begin due.end keys begin (omega arith) (omega (arith, e)) in
    let bits : rest_bits (depth - due.depth) due.depth box ≡ drop due.depth (key_at keys begin) =
    ap (λ n. rest_bits n due.depth box) (let g : depth - due.depth ≡ suc (depth - due.depth - 1) = omega (arith, deep) in g)
    ∙ rest-one (depth - due.depth - 1) due.depth box one ∙ ap (drop due.depth) first in
    ap (λ xs. xs ++ rests_due depth keys due.end rest) (sym bits)

pub nodes-some : (n : ℕ) → 0 < nodes n
unfolding nodes
nodes-some zero = omega arith
nodes-some (suc n) = omega arith

pub nodes-two : (n m : ℕ) → n ≡ suc m → nodes n ≡ nodes m + nodes m + 1
unfolding nodes
nodes-two n m e = ap nodes e

-- a box less
pub nodes-end : (depth : ℕ) (due : Due) (rest : List Due) → nodes_due depth rest < nodes_due depth (due ∷ rest)
nodes-end depth due rest = let h = nodes-some (depth - due.depth) in omega (arith, h)

-- ---- a box that is divided at `middle`

abbrev IsDivided : List Key → ℕ → ℕ → ℕ → ℕ → Type 0
IsDivided keys d begin end middle =
    (begin ≤ end) × (end ≤ length keys) × (part begin end keys ≡ lower d (part begin end keys) ++ upper d (part begin end keys)) × (middle ≡ begin + length (lower d (part begin end keys)))

-- what a divided box is made of: its length, and that its parts lie in it
middle-in : (keys : List Key) (d begin end middle : ℕ) → IsDivided keys d begin end middle → (begin ≤ middle) × (middle ≤ end)
middle-in keys d begin end middle h =
    let all = length-parts d (part begin end keys) in
    let long = length-part begin end keys h.0 h.1 in
    (omega (arith, h.3), omega (arith, h.3, h.0, all, long))

front : (keys : List Key) (d begin end middle : ℕ) → IsDivided keys d begin end middle → part begin middle keys ≡ lower d (part begin end keys)
front keys d begin end middle h =
    let low : ℕ = length (lower d (part begin end keys)) in
    let all = middle-in keys d begin end middle h in
    ap (λ n. take n (drop begin keys)) (let e : middle - begin ≡ low = omega (arith, h.3) in e)
    ∙ sym (take-take low (end - begin) (drop begin keys) (omega (arith, h.3, all)))
    ∙ ap (take low) h.2 ∙ take_at (lower d (part begin end keys)) (upper d (part begin end keys)) low refl

back : (keys : List Key) (d begin end middle : ℕ) → IsDivided keys d begin end middle → part middle end keys ≡ upper d (part begin end keys)
back keys d begin end middle h =
    let low : ℕ = length (lower d (part begin end keys)) in
    let all = middle-in keys d begin end middle h in
    ap (λ n. take (end - middle) (drop n keys)) h.3
    ∙ ap (take (end - middle)) (sym (drop-drop low begin keys))
    ∙ sym (drop-take low (end - middle) (drop begin keys))
    ∙ ap (λ n. drop low (take n (drop begin keys))) (let e : low + (end - middle) ≡ end - begin = omega (arith, h.3, all) in e)
    ∙ ap (drop low) h.2 ∙ drop_at (lower d (part begin end keys)) (upper d (part begin end keys)) low refl

-- what a step of dividing says
abbrev IsStep : ℕ → List Key → ℕ → Due → List Due → ℕ → Type 0
IsStep depth keys begin due rest middle =
    (begin + 2 ≤ due.end) × (due.depth < depth) × AreDue depth keys begin (due ∷ rest) × (middle ≡ begin + length (lower due.depth (part begin due.end keys)))

-- the two boxes that take its place
abbrev pub with_parts : ℕ → ℕ → ℕ → List Due → List Due
with_parts middle end depth rest = record { end = middle; depth = depth } ∷ record { end = end; depth = depth } ∷ rest

left-is : (depth d : ℕ) → d < depth → depth - d ≡ suc (depth - (d + 1))
left-is depth d h = omega arith

pub parted : (depth : ℕ) (keys : List Key) (begin : ℕ) (due : Due) (rest : List Due) → due.depth < depth → AreDue depth keys begin (due ∷ rest) →
    part begin due.end keys ≡ lower due.depth (part begin due.end keys) ++ upper due.depth (part begin due.end keys)
parted depth keys begin due rest deep ready = (settled-more (depth - due.depth) (depth - (due.depth + 1)) due.depth (part begin due.end keys) (left-is depth due.depth deep) ready.3).0

divided : (depth : ℕ) (keys : List Key) (begin : ℕ) (due : Due) (rest : List Due) (middle : ℕ) → IsStep depth keys begin due rest middle → IsDivided keys due.depth begin due.end middle
divided depth keys begin due rest middle h = (h.2.0, h.2.1, parted depth keys begin due rest h.1 h.2, h.3)

pub splits-more : (depth : ℕ) (keys : List Key) (begin : ℕ) (due : Due) (rest : List Due) (middle : ℕ) → IsStep depth keys begin due rest middle →
    high_bits (digits (due.end - begin)) (middle - begin) ++ splits_due depth keys begin (with_parts middle due.end (due.depth + 1) rest) ≡ splits_due depth keys begin (due ∷ rest)
splits-more depth keys begin due rest middle h =
    let d : ℕ = due.depth in
    let end : ℕ = due.end in
    let n : ℕ = depth - (d + 1) in
    let box : List Key = part begin end keys in
    let D = divided depth keys begin due rest middle h in
    let long : length box ≡ end - begin = length-part begin end keys h.2.0 h.2.1 in
    let S : List Bool = splits_due depth keys end rest in
    let low : List Bool = split_bits n (d + 1) (lower d box) in
    let high : List Bool = split_bits n (d + 1) (upper d box) in
    let H : List Bool = high_bits (digits (end - begin)) (middle - begin) in
    let whole : split_bits (depth - d) d box ≡ H ++ (low ++ high) =
    ap (λ m. split_bits m d box) (left-is depth d h.1) ∙ split-more n d box (omega (arith, long, h.0))
    ∙ ap (λ m. high_bits (digits m) (length (lower d box)) ++ (low ++ high)) long
    ∙ ap (λ m. high_bits (digits (end - begin)) m ++ (low ++ high)) (let e : length (lower d box) ≡ middle - begin = omega (arith, h.3) in e) in
    sym (
    ap (λ xs. xs ++ S) whole ∙ append_assoc H (low ++ high) S ∙ ap (λ xs. H ++ xs) (append_assoc low high S)
    ∙ ap (λ k. H ++ (split_bits n (d + 1) k ++ (high ++ S))) (sym (front keys d begin end middle D))
    ∙ ap (λ k. H ++ (split_bits n (d + 1) (part begin middle keys) ++ (split_bits n (d + 1) k ++ S))) (sym (back keys d begin end middle D)))

pub rests-more : (depth : ℕ) (keys : List Key) (begin : ℕ) (due : Due) (rest : List Due) (middle : ℕ) → IsStep depth keys begin due rest middle →
    rests_due depth keys begin (with_parts middle due.end (due.depth + 1) rest) ≡ rests_due depth keys begin (due ∷ rest)
rests-more depth keys begin due rest middle h =
    let d : ℕ = due.depth in
    let end : ℕ = due.end in
    let n : ℕ = depth - (d + 1) in
    let box : List Key = part begin end keys in
    let D = divided depth keys begin due rest middle h in
    let long : length box ≡ end - begin = length-part begin end keys h.2.0 h.2.1 in
    let S : List Bool = rests_due depth keys end rest in
    let low : List Bool = rest_bits n (d + 1) (lower d box) in
    let high : List Bool = rest_bits n (d + 1) (upper d box) in
    let whole : rest_bits (depth - d) d box ≡ low ++ high =
    ap (λ m. rest_bits m d box) (left-is depth d h.1) ∙ rest-more n d box (omega (arith, long, h.0)) in
    sym (
    ap (λ xs. xs ++ S) whole ∙ append_assoc low high S
    ∙ ap (λ k. rest_bits n (d + 1) k ++ (high ++ S)) (sym (front keys d begin end middle D))
    ∙ ap (λ k. rest_bits n (d + 1) (part begin middle keys) ++ (rest_bits n (d + 1) k ++ S)) (sym (back keys d begin end middle D)))

pub parts-less : (depth : ℕ) (due : Due) (rest : List Due) (middle : ℕ) → due.depth < depth → nodes_due depth (with_parts middle due.end (due.depth + 1) rest) < nodes_due depth (due ∷ rest)
parts-less depth due rest middle h = let e = nodes-two (depth - due.depth) (depth - (due.depth + 1)) (left-is depth due.depth h) in omega (arith, e)

pub parts-due : (depth : ℕ) (keys : List Key) (begin : ℕ) (due : Due) (rest : List Due) (middle : ℕ) → IsStep depth keys begin due rest middle →
    AreDue depth keys begin (with_parts middle due.end (due.depth + 1) rest)
parts-due depth keys begin due rest middle h =
    let d : ℕ = due.depth in
    let n : ℕ = depth - (d + 1) in
    let D = divided depth keys begin due rest middle h in
    let M = middle-in keys d begin due.end middle D in
    let both = settled-more (depth - d) n d (part begin due.end keys) (left-is depth d h.1) h.2.3 in (
      M.0,
      omega (arith, M, h.2.1),
      omega (arith, h.1),
      subst (λ k. IsSettled n (d + 1) k) (sym (front keys d begin due.end middle D)) both.1,
      (M.1, h.2.1, omega (arith, h.1), subst (λ k. IsSettled n (d + 1) k) (sym (back keys d begin due.end middle D)) both.2, h.2.4),
    )

-- the stack after both are put on it
pub two-pushed : {A : Type 0} (xs : List A) (x y : A) → reverse ((xs ++ x ∷ []) ++ y ∷ []) ≡ y ∷ x ∷ reverse xs
two-pushed xs x y = reverse-push (xs ++ x ∷ []) y ∙ ap (λ zs. y ∷ zs) (reverse-push xs x)
