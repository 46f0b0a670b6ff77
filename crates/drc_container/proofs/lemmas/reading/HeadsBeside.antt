-- Heads of decoders that are read beside some attribute data are read alike beside more.
use Rattle.std.proofs.Common.{◌≡◌, ℕ, ◌≤◌, ◌==◌, ◌&&◌, ◌||◌, Bool, true, false, not, List, [], Some, refl, arith}
use Rattle.std.specs.Prelude.{nat_lt}
use Rattle.std.specs.List.{range_with_len}
use Rattle.std.proofs.lemmas.Bool.{false≢true, ltb-true, lt-ltb}
use Rattle.drc_base.specs.declared.kinds.Kind.TheVariants as kind
use Rattle.drc_base.specs.Profile.{Profile}
use Rattle.drc_bits.specs.Reading.{Reading, must}
use Rattle.drc_bits.specs.Numbers.{number_at}
use Rattle.attr_section.specs.declared.links.Link.{Link}
use Rattle.attr_section.specs.Heads.{position_id, is_known_id, is_used_id, link_at, linked_at, links_at, decoder_count_at, heads_at}
use Rattle.drc_container.proofs.lemmas.reading.Parted.{parts}
use Rattle.drc_container.proofs.lemmas.reading.Keeping.{Keeps, keeps-must, keeps-each}

-- a disjunction and a conjunction hold where one part of them holds more often
or-last : (a m n : Bool) → (m ≡ true → n ≡ true) → (a || m) ≡ true → (a || n) ≡ true
or-last true m n more is = refl
or-last false m n more is = more is

and-first : (m n b : Bool) → (m ≡ true → n ≡ true) → (m && b) ≡ true → (n && b) ≡ true
and-first true true b more is = is
and-first true false b more is = absurd (false≢true (more refl))
and-first false n b more is = absurd (false≢true is)

-- a data id that is known is known beside more
known-more : (few many id : ℕ) → few ≤ many → is_known_id few id ≡ true → is_known_id many id ≡ true
known-more few many id more is =
    or-last (id == position_id) (nat_lt id few) (nat_lt id many) (λ below. lt-ltb id many (omega (arith, more, ltb-true id few below))) is

link-more : (few many : ℕ) → few ≤ many → (before : List Link) (c : Reading) → Keeps (link_at few before c) (link_at many before c)
unfolding link_at
link-more few many more before c y is =
    let one : ℕ → Bool = λ id. is_known_id few id && not (is_used_id before id) in
    let other : ℕ → Bool = λ id. is_known_id many id && not (is_used_id before id) in
    let p = parts (must kind.DataId one (number_at 1) c) _ y is in
    let same = keeps-must kind.DataId one other (number_at 1) (number_at 1) c
    (λ id. and-first (is_known_id few id) (is_known_id many id) (not (is_used_id before id)) (known-more few many id more)) (λ y is. is) p.0 p.1 in
    rw same p.2

-- the heads of all decoders
pub heads-more : (p : Profile) (few many : ℕ) → few ≤ many → (c : Reading) → Keeps (heads_at p (Some few) c) (heads_at p (Some many) c)
unfolding heads_at links_at linked_at
heads-more profile few many more c y is =
    let p = parts (decoder_count_at c) _ y is in
    let q = parts (linked_at few p.0.0 p.0.1) _ y p.2 in
    let links = keeps-each (λ before (_ : ℕ). link_at few before) (λ before (_ : ℕ). link_at many before)
    (λ before _ c. link-more few many more before c) [] (range_with_len 0 p.0.0) p.0.1 q.0 q.1 in
    rw (p.1, links) q.2
