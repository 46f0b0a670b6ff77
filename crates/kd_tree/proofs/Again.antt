-- What is written is read again.
use Rattle.std.proofs.Common.{◌≡◌, ℕ, zero, suc, ◌+◌, ◌-◌, ◌%◌, ◌^◌, ◌<◌, ◌≤◌, Bool, true, false, not, List, [], ◌∷◌, ◌++◌, length, take, drop, get_or, Ok, sym, refl, ap, ◌∙◌, subst, arith, length-append, mod-eq_of_lt}
use Rattle.std.specs.Prelude.{All, replicate}
use Rattle.std.proofs.lemmas.Bool.{false≢true}
use Rattle.std.proofs.lemmas.List.{append_cancel_left, length-drop, take-append-drop, take_all, take_at, take_more}
use Rattle.std.proofs.lemmas.List.Elements.{All-filter, filter_passes}
use Rattle.drc_base.specs.declared.faults.Fault.{Fault}
use Rattle.drc_base.specs.Steps.{◌>>=◌}
use Rattle.rans_binary.specs.Blocks.{Block, behind, first_bits}
use Rattle.rans_binary.proofs.BitNumbers.{behind-behind, first_bits-add, length-first_bits}
use Rattle.kd_tree.specs.Keys.{Key, bit_at, is_low}
use Rattle.drc_bits.specs.Digits.{digits}
use Rattle.kd_tree.specs.Trees.{IsSettled, high_bits, lower, rest_bits, split_bits, upper}
use Rattle.kd_tree.specs.Reading.{Streams, after_rest, behind_split_bits, boxes_of, keys_before, number_behind, split_bits_number}
use Rattle.kd_tree.proofs.Bits.{length-high_bits, number-bits}
use Rattle.drc_bits.proofs.Digits.{digits-above}
use Rattle.kd_tree.proofs.Boxes.{length-parts, rest-last, rest-more, rest-none, rest-one, split-last, split-more, split-none}
use Rattle.kd_tree.proofs.Turns.{boxes-last, boxes-more, boxes-none, boxes-one}

-- a block begins with these bits
abbrev pub IsFed : List Bool → Block → Type 0
IsFed bits b = first_bits (length bits) b ≡ bits

-- first bits, and those behind them
pub fed-parts : (xs ys : List Bool) (b : Block) → IsFed (xs ++ ys) b → IsFed xs b × IsFed ys (behind (length xs) b)
fed-parts xs ys b h =
    let whole : first_bits (length xs) b ++ first_bits (length ys) (behind (length xs) b) ≡ xs ++ ys =
    sym (first_bits-add (length xs) (length ys) b) ∙ ap (λ n. first_bits n b) (sym (length-append xs ys)) ∙ h in
    let front : first_bits (length xs) b ≡ xs =
    sym (take_at (first_bits (length xs) b) (first_bits (length ys) (behind (length xs) b)) (length xs) (length-first_bits (length xs) b)) ∙ ap (take (length xs)) whole ∙ take_at xs ys (length xs) refl in
    (front, append_cancel_left xs (first_bits (length ys) (behind (length xs) b)) ys (ap (λ zs. zs ++ first_bits (length ys) (behind (length xs) b)) (sym front) ∙ whole))

-- the number of high bits is the number itself, where it fits
pub number-back : (n v : ℕ) → v < 2 ^ n → number_behind 0 (high_bits n v) ≡ v
number-back n v h = number-bits n 0 v ∙ (let e : v % 2 ^ n ≡ v = mod-eq_of_lt h in omega (arith, e))

-- keys of a box at depth d with `left` bits to come: their length, and the bits in which they agree
abbrev pub AreIn : ℕ → ℕ → Key → List Key → Type 0
AreIn left d prefix box = All (λ (key : Key). (length key ≡ d + left) × (take d key ≡ prefix)) box

-- one bit more in which keys agree
bit-more : (d : ℕ) (key prefix : Key) (b : Bool) → d < length key → take d key ≡ prefix → bit_at d key ≡ b → take (d + 1) key ≡ prefix ++ b ∷ []
bit-more d key prefix b h front is = take_more key d false h ∙ ap (λ xs. xs ++ bit_at d key ∷ []) front ∙ ap (λ x. prefix ++ x ∷ []) is

low-bit : (b : Bool) → not b ≡ true → b ≡ false
low-bit true h = absurd (false≢true h)
low-bit false h = refl

pub in-lower : (left d : ℕ) (prefix : Key) (box : List Key) → AreIn (suc left) d prefix box → AreIn left (d + 1) (prefix ++ false ∷ []) (lower d box)
in-lower left d prefix box all k e h =
    let key : Key = get_or (lower d box) k e in
    let was = All-filter (is_low d) (λ (x : Key). (length x ≡ d + suc left) × (take d x ≡ prefix)) box all k e h in
    let low : bit_at d key ≡ false = low-bit (bit_at d key) (filter_passes (is_low d) box k e h) in
    (omega (arith, was.0), bit-more d key prefix false (omega (arith, was.0)) was.1 low)

pub in-upper : (left d : ℕ) (prefix : Key) (box : List Key) → AreIn (suc left) d prefix box → AreIn left (d + 1) (prefix ++ true ∷ []) (upper d box)
in-upper left d prefix box all k e h =
    let key : Key = get_or (upper d box) k e in
    let was = All-filter (bit_at d) (λ (x : Key). (length x ≡ d + suc left) × (take d x ≡ prefix)) box all k e h in
    (omega (arith, was.0), bit-more d key prefix true (omega (arith, was.0)) was.1 (filter_passes (bit_at d) box k e h))

-- keys that agree in all of their bits
pub all-same : (d : ℕ) (prefix : Key) (box : List Key) → AreIn 0 d prefix box → replicate (length box) prefix ≡ box
all-same d prefix [] all = refl
all-same d prefix (key ∷ box) all =
    let own = all 0 [] (omega arith) in
    let same : prefix ≡ key = sym own.1 ∙ take_all d key (omega (arith, own.0)) in
    ap (λ k. k ∷ replicate (length box) prefix) same ∙ ap (λ ks. key ∷ ks) (all-same d prefix box (λ k e h. all (suc k) e (omega arith)))

-- blocks behind the bits of a box
abbrev pub behind_box : ℕ → ℕ → List Key → Streams → Streams
behind_box left d box s = record { split = behind (length (split_bits left d box)) s.split; rest = behind (length (rest_bits left d box)) s.rest }

-- the same numbers of bits taken
taken-same : (k m n o : ℕ) (s : Streams) → k ≡ m → n ≡ o → ◌≡◌ {A = Streams} (record { split = behind k s.split; rest = behind n s.rest }) (record { split = behind m s.split; rest = behind o s.rest })
taken-same k m n o s e f = ap (λ i. record { split = behind i s.split; rest = behind n s.rest }) e ∙ ap (λ i. record { split = behind m s.split; rest = behind i s.rest }) f

none-taken : (left d : ℕ) (box : List Key) (s : Streams) → split_bits left d box ≡ [] → rest_bits left d box ≡ [] → s ≡ behind_box left d box s
none-taken left d box s e f = taken-same 0 (length (split_bits left d box)) 0 (length (rest_bits left d box)) s (ap length (sym e)) (ap length (sym f))

-- the two parts of a box are read one after another
both-read : (fault : Fault) (left d : ℕ) (prefix : Key) (box : List Key) (s : Streams) → 2 ≤ length box → length box < 2 ^ 32 → box ≡ lower d box ++ upper d box →
    IsFed (split_bits (suc left) d box) s.split → IsFed (rest_bits (suc left) d box) s.rest →
    ((t : Streams) → IsFed (split_bits left (d + 1) (lower d box)) t.split → IsFed (rest_bits left (d + 1) (lower d box)) t.rest →
    boxes_of fault left (length (lower d box)) (prefix ++ false ∷ []) t ≡ Ok (lower d box, behind_box left (d + 1) (lower d box) t)) →
    ((t : Streams) → IsFed (split_bits left (d + 1) (upper d box)) t.split → IsFed (rest_bits left (d + 1) (upper d box)) t.rest →
    boxes_of fault left (length (upper d box)) (prefix ++ true ∷ []) t ≡ Ok (upper d box, behind_box left (d + 1) (upper d box) t)) →
    boxes_of fault (suc left) (length box) prefix s ≡ Ok (box, behind_box (suc left) d box s)
both-read fault left d prefix box s many small parted split rest low_read high_read =
    let low : List Key = lower d box in
    let high : List Key = upper d box in
    let SL : List Bool = split_bits left (d + 1) low in
    let SH : List Bool = split_bits left (d + 1) high in
    let RL : List Bool = rest_bits left (d + 1) low in
    let RH : List Bool = rest_bits left (d + 1) high in
    let g : ℕ = digits (length box) in
    let H : List Bool = high_bits g (length low) in
    let all : length low + length high ≡ length box = length-parts d box in
    let split_is : split_bits (suc left) d box ≡ H ++ (SL ++ SH) = split-more left d box many in
    let rest_is : rest_bits (suc left) d box ≡ RL ++ RH = rest-more left d box many in
    let fed : IsFed (H ++ (SL ++ SH)) s.split = subst (λ xs. IsFed xs s.split) split_is split in
    let fed_rest : IsFed (RL ++ RH) s.rest = subst (λ xs. IsFed xs s.rest) rest_is rest in
    let first = fed-parts H (SL ++ SH) s.split fed in
    let digits_long : length H ≡ g = length-high_bits g (length low) in
    let t : Streams = behind_split_bits g s in
    let below : IsFed (SL ++ SH) t.split = subst (λ m. IsFed (SL ++ SH) (behind m s.split)) digits_long first.1 in
    let parts = fed-parts SL SH t.split below in
    let rests = fed-parts RL RH s.rest fed_rest in
    let fits : length low < 2 ^ g = (let above = digits-above 32 (length box) small in omega (arith, above, all)) in
    let number : split_bits_number g s ≡ length low =
    ap (λ m. number_behind 0 (first_bits m s.split)) (sym digits_long) ∙ ap (number_behind 0) first.0 ∙ number-back g (length low) fits in
    let u : Streams = behind_box left (d + 1) low t in
    let end : Streams = behind_box left (d + 1) high u in
    let split_end : behind (length SH) (behind (length SL) (behind g s.split)) ≡ behind (length (split_bits (suc left) d box)) s.split =
    ap (behind (length SH)) (behind-behind g (length SL) s.split) ∙ behind-behind (g + length SL) (length SH) s.split
    ∙ ap (λ m. behind m s.split) (sym (ap length split_is ∙ length-append H (SL ++ SH) ∙ (let e = length-append SL SH in let f : length H + length (SL ++ SH) ≡ g + length SL + length SH = omega (arith, e, digits_long) in f))) in
    let rest_end : behind (length RH) (behind (length RL) s.rest) ≡ behind (length (rest_bits (suc left) d box)) s.rest =
    behind-behind (length RL) (length RH) s.rest ∙ ap (λ m. behind m s.rest) (sym (ap length rest_is ∙ length-append RL RH)) in
    boxes-more fault left (length box) prefix s many (omega (arith, number, all))
    ∙ ap (λ k. boxes_of fault left k (prefix ++ false ∷ []) t >>= (λ x. boxes_of fault left (length box - k) (prefix ++ true ∷ []) x.1 >>= keys_before x.0)) number
    ∙ ap (λ r. r >>= (λ x. boxes_of fault left (length box - length low) (prefix ++ true ∷ []) x.1 >>= keys_before x.0)) (low_read t parts.0 rests.0)
    ∙ ap (λ k. boxes_of fault left k (prefix ++ true ∷ []) u >>= keys_before low) (let e : length box - length low ≡ length high = omega (arith, all) in e)
    ∙ ap (λ r. r >>= keys_before low) (high_read u parts.1 rests.1)
    ∙ ap (λ ks. Ok (ks, end)) (sym parted)
    ∙ ap (λ b. Ok (box, record { split = b; rest = behind (length RH) (behind (length RL) s.rest) })) split_end
    ∙ ap (λ b. Ok (box, record { split = behind (length (split_bits (suc left) d box)) s.split; rest = b })) rest_end

pub read-again : (fault : Fault) (left d : ℕ) (prefix : Key) (box : List Key) (s : Streams) → length box < 2 ^ 32 → AreIn left d prefix box → IsSettled left d box →
    IsFed (split_bits left d box) s.split → IsFed (rest_bits left d box) s.rest → boxes_of fault left (length box) prefix s ≡ Ok (box, behind_box left d box s)
read-again fault zero d prefix box s small all settled split rest =
    boxes-last fault (length box) prefix s
    ∙ ap (λ ks. Ok (ks, s)) (all-same d prefix box all)
    ∙ ap (λ t. Ok (box, t)) (none-taken 0 d box s (split-last d box) (rest-last d box))
read-again fault (suc left) d prefix [] s small all settled split rest =
    boxes-none fault (suc left) prefix s
    ∙ ap (λ t. Ok ([], t)) (none-taken (suc left) d [] s (split-none (suc left) d [] (omega arith)) (rest-none (suc left) d [] refl))
read-again fault (suc left) d prefix (key ∷ []) s small all settled split rest =
    let own = all 0 [] (omega arith) in
    let bits : rest_bits (suc left) d (key ∷ []) ≡ drop d key = rest-one left d (key ∷ []) refl in
    let long : length (rest_bits (suc left) d (key ∷ [])) ≡ suc left = ap length bits ∙ length-drop d key ∙ (let e : length key - d ≡ suc left = omega (arith, own.0) in e) in
    let fed : first_bits (suc left) s.rest ≡ drop d key = ap (λ n. first_bits n s.rest) (sym long) ∙ rest ∙ bits in
    let whole : prefix ++ first_bits (suc left) s.rest ≡ key = ap (λ xs. prefix ++ xs) fed ∙ ap (λ xs. xs ++ drop d key) (sym own.1) ∙ take-append-drop d key in
    boxes-one fault (suc left) prefix s
    ∙ ap (λ k. Ok (k ∷ [], after_rest (suc left) s)) whole
    ∙ ap (λ t. Ok (key ∷ [], t)) (taken-same 0 (length (split_bits (suc left) d (key ∷ []))) (suc left) (length (rest_bits (suc left) d (key ∷ []))) s (ap length (sym (split-none (suc left) d (key ∷ []) (omega arith)))) (sym long))
read-again fault (suc left) d prefix (key ∷ other ∷ keys) s small all settled split rest =
    let box : List Key = key ∷ other ∷ keys in
    let parts = length-parts d box in
    both-read fault left d prefix box s (omega arith) small settled.0 split rest
    (λ t. read-again fault left (d + 1) (prefix ++ false ∷ []) (lower d box) t (omega (arith, parts, small)) (in-lower left d prefix box all) settled.1)
    (λ t. read-again fault left (d + 1) (prefix ++ true ∷ []) (upper d box) t (omega (arith, parts, small)) (in-upper left d prefix box all) settled.2)
