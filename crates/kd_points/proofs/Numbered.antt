-- Keys as numbers.
use Rattle.std.proofs.Common.{◌≡◌, ℕ, ◌+◌, ◌<◌, ◌^◌, Bool, List, [], ◌∷◌, length, take, get_or, sym, ◌∙◌, ap, arith}
use Rattle.std.proofs.lemmas.List.{length-map, length-take, map_more}
use Rattle.kd_tree.specs.Keys.{Key}
use Rattle.kd_tree.specs.Trees.{high_bits}
use Rattle.kd_tree.specs.Reading.{number_behind}
use Rattle.kd_tree.proofs.Bits.{bits-number, number-below, number-room, number_behind-append}
use Rattle.kd_points.specs.declared.axes.Axis.{Axis}
use Rattle.kd_points.specs.Keys.{number_has_bit, key_of}

-- one axis more
pub number-next : (axes : List Axis) (offset : ℕ → ℕ) (i number next : ℕ) (d : Axis) (bit : Bool) → i < length axes → bit ≡ number_has_bit (get_or axes i d).bit (offset (get_or axes i d).component)
    → number ≡ number_behind 0 (key_of (take i axes) offset) → next ≡ number_behind number (bit ∷ []) → next ≡ number_behind 0 (key_of (take (i + 1) axes) offset)
number-next axes offset i number next d bit more is before after =
    let f : Axis → Bool = λ (a : Axis). number_has_bit a.bit (offset a.component) in
    let key : Key = key_of (take i axes) offset in
    after ∙ ap (λ n. number_behind n (bit ∷ [])) before ∙ ap (λ b. number_behind (number_behind 0 key) (b ∷ [])) is
    ∙ sym (ap (number_behind 0) (map_more f axes i d more) ∙ number_behind-append 0 key (f (get_or axes i d) ∷ []))

-- the number of fewer bits than 64 leaves room for one more
pub next-fits : (axes : List Axis) (offset : ℕ → ℕ) (i number : ℕ) → i < length axes → length axes < 64 → number ≡ number_behind 0 (key_of (take i axes) offset) → number < 2 ^ 63
next-fits axes offset i number more few is =
    let key : Key = key_of (take i axes) offset in
    let long : length key ≡ length (take i axes) = length-map (take i axes) (λ (a : Axis). number_has_bit a.bit (offset a.component)) in
    let room = number-room 63 key (omega (arith, long, length-take i axes)) in
    omega (arith, room, is)

-- the number of a key determines the key
pub key-numbered : (axes : List Axis) (offset : ℕ → ℕ) (depth number : ℕ) → length axes ≡ depth → number ≡ number_behind 0 (key_of axes offset)
    → (number < 2 ^ depth) × (high_bits depth number ≡ key_of axes offset)
key-numbered axes offset depth number deep is =
    let key : Key = key_of axes offset in
    let long : length key ≡ depth = length-map axes (λ (a : Axis). number_has_bit a.bit (offset a.component)) ∙ deep in
    let small = number-below key in
    let most : 2 ^ length key ≡ 2 ^ depth = ap (λ n. 2 ^ n) long in (
      omega (arith, is, small, most),
      ap (high_bits depth) is ∙ ap (λ n. high_bits n (number_behind 0 key)) (sym long) ∙ bits-number 0 key,
    )
