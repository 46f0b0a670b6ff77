use Rattle.std.proofs.Common.{◌≡◌, ℕ, ◌+◌, ◌-◌, ◌*◌, ◌/◌, ◌≤◌, [], ◌∷◌, ◌++◌, length, take, drop, sym, ap, ◌∙◌, arith}
use Rattle.std.proofs.lemmas.List.{take-append-le, take_all, length_push, length-drop}
use Rattle.kd_tree.specs.Reading.{number_behind}
use Rattle.kd_tree.proofs.Packed.{last-word, packed, packed-end, packed-key, packed-step}
use Rattle.kd_tree.proofs.keys.append_words.Goals as goal

pub loop-k-preserved : goal.loop-k-preserved
loop-k-preserved c =
    let bits = drop (64 * c.loop-k.k) c.args.key.now in
    let number : c.number_of.result ≡ number_behind 0 (take 64 bits) =
    c.number_of.ensures ∙ ap (λ n. number_behind 0 (take n bits)) (let e : 64 * c.loop-k.k + 64 - 64 * c.loop-k.k ≡ 64 = omega arith in e) in
    let items : c.push.new.self.items ≡ c.loop-k.words.items ++ number_behind 0 (take 64 bits) ∷ [] =
    c.in_ok-push.ensures.items ∙ ap (λ n. c.loop-k.words.items ++ n ∷ []) number in
    let long : length c.args.words.now.items ≤ length c.loop-k.words.items = omega (arith, c.loop-k.invariant.length) in record {
      words = ap (λ xs. xs ++ packed (length c.args.key.now / 64 - (c.loop-k.k + 1)) (drop (64 * (c.loop-k.k + 1)) c.args.key.now)) items
          ∙ packed-step (length c.args.key.now / 64) c.loop-k.k c.args.key.now c.args.words.now.items c.loop-k.words.items c.loop-k-test.true c.loop-k.invariant.words;
      kept = ap (take (length c.args.words.now.items)) items ∙ take-append-le (length c.args.words.now.items) c.loop-k.words.items _ long ∙ c.loop-k.invariant.kept;
      length = ap length items ∙ length_push c.loop-k.words.items _ ∙ (let e : length c.loop-k.words.items + 1 ≡ length c.args.words.now.items + (c.loop-k.k + 1) = omega (arith, c.loop-k.invariant.length) in e);
    }

pub returns-clause-key : goal.returns-clause-key
returns-clause-key c =
    let whole : ℕ = length c.args.key.now / 64 in
    let end : c.loop-k.k ≡ whole = omega arith in
    let bits = drop (64 * whole) c.args.key.now in
    let number : c.number_of-2.result ≡ number_behind 0 (drop (64 * c.loop-k.k) c.args.key.now) =
    c.number_of-2.ensures ∙ ap (number_behind 0) (take_all (length c.args.key.now - 64 * whole) bits (omega (arith, length-drop (64 * whole) c.args.key.now)))
    ∙ ap (λ k. number_behind 0 (drop (64 * k) c.args.key.now)) (sym end) in
    packed-key c.args.key.now c.args.words.now.items c.push-2.new.self.items (
    c.in_ok-push-2.ensures.items ∙ ap (λ n. c.loop-k.words.items ++ n ∷ []) number
    ∙ packed-end c.args.key.now c.args.words.now.items c.loop-k.words.items c.loop-k.k end c.loop-k.invariant.words)

pub returns-clause-last : goal.returns-clause-last
returns-clause-last c =
    let whole : ℕ = length c.args.key.now / 64 in
    let end : c.loop-k.k ≡ whole = omega arith in
    let bits = drop (64 * whole) c.args.key.now in
    let number : c.number_of-2.result ≡ number_behind 0 (drop (64 * c.loop-k.k) c.args.key.now) =
    c.number_of-2.ensures ∙ ap (number_behind 0) (take_all (length c.args.key.now - 64 * whole) bits (omega (arith, length-drop (64 * whole) c.args.key.now)))
    ∙ ap (λ k. number_behind 0 (drop (64 * k) c.args.key.now)) (sym end) in
    last-word c.args.key.now c.args.words.now.items c.loop-k.words.items c.push-2.new.self.items c.loop-k.k end c.loop-k.invariant.length
    (c.in_ok-push-2.ensures.items ∙ ap (λ n. c.loop-k.words.items ++ n ∷ []) number)
