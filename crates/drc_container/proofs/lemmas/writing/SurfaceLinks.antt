-- The links of the decoders that are written by Edgebreaker are accepted: the first attribute has the surface itself, each other one the
-- attribute data of its own number.
use Rattle.std.proofs.Common.{◌≡◌, ℕ, zero, suc, ◌+◌, ◌-◌, ◌<◌, ◌≤◌, Bool, true, false, ◌&&◌, List, [], ◌∷◌, ◌++◌, length, map, refl, arith}
use Rattle.std.specs.Prelude.{◌||◌, ◌==◌, not, nat_lt, IsTrue}
use Rattle.std.specs.List.{All, enumerate_from, list_any}
use Rattle.std.proofs.lemmas.List.Elements.{All-nil, All-cons, All-head, All-tail}
use Rattle.std.proofs.lemmas.Bool.{lt-ltb, ne_eqb}
use Rattle.attr_heads.specs.declared.heads.Head.{Head}
use Rattle.mesh_model.specs.Parts.{IsMesh}
use Rattle.attr_heads.proofs.Passing.{heads_say}
use Rattle.attr_section.specs.declared.links.Link.{Link}
use Rattle.attr_section.specs.Heads.{position_id, is_id, is_known_id, is_used_id, link_of, LinkPasses, LinksPass, HasCoding, HaveCodings}
use Rattle.attr_section.specs.declared.decoder_heads.DecoderHead.{DecoderHead}
use Rattle.drc_container.specs.declared.choice.codings.Coding.{Coding}
use Rattle.drc_container.specs.choice.Predicts.{needed_number}
use Rattle.drc_container.specs.writing.WrittenOnSurface.{GluedMesh, is_cornered, data_id_of, decoder_for, decoders_for}
use Rattle.drc_container.proofs.lemmas.writing.Needed.{codings-each}

-- no link before has the id of this attribute or of a later one
abbrev AreFree : ℕ → ℕ → List Link → Type 0
AreFree most k front = (j : ℕ) → k ≤ j → j ≤ most → is_used_id front (data_id_of j) ≡ false

-- the id of an attribute other than the first
id-later : (k : ℕ) → data_id_of (suc k) ≡ k
id-later k = rw (ne_eqb (suc k) 0 (λ e. omega arith)) (omega arith)

-- the ids of two attributes differ
ids-apart : (most k j : ℕ) → most < position_id → k < j → j ≤ most → (data_id_of k == data_id_of j) ≡ false
ids-apart most k zero small less few = absurd (omega arith)
ids-apart most zero (suc j) small less few = ne_eqb (data_id_of 0) (data_id_of (suc j)) (λ e. omega (arith, e, id-later j))
ids-apart most (suc k) (suc j) small less few = ne_eqb (data_id_of (suc k)) (data_id_of (suc j)) (λ e. omega (arith, e, id-later j, id-later k))

or-none : (a b : Bool) → a ≡ false → b ≡ false → (a || b) ≡ false
or-none false b first second = second
or-none true b first second = cc

none-of : (a b : Bool) → (a || b) ≡ false → (a ≡ false) × (b ≡ false)
none-of false b none = (refl, none)
none-of true b none = cc

or-second : (a b : Bool) → b ≡ true → IsTrue (a || b)
or-second true b is = refl
or-second false b is = is

any-more : {A : Type 0} (p : A → Bool) (xs : List A) (x : A) → list_any p xs ≡ false → p x ≡ false → list_any p (xs ++ x ∷ []) ≡ false
any-more {A} p [] x none here = or-none (p x) false here refl
any-more {A} p (y ∷ xs) x none here =
    let parts = none-of (p y) (list_any p xs) none in
    or-none (p y) (list_any p (xs ++ x ∷ [])) parts.0 (any-more p xs x parts.1 here)

known-id : (most k : ℕ) → k ≤ most → IsTrue (is_known_id most (data_id_of k))
known-id most zero low = refl
known-id most (suc k) low = rw (id-later k) (or-second (k == position_id) (nat_lt k most) (lt-ltb k most low))

-- the values of the first attribute belong to vertices
first-whole : (d : GluedMesh) → is_cornered d 0 ≡ false
unfolding is_cornered
first-whole d = refl

vertex-id : (d : GluedMesh) (most k : ℕ) → k ≤ most → most < position_id → data_id_of k ≡ position_id → is_cornered d k ≡ false
vertex-id d most zero low small is = first-whole d
vertex-id d most (suc k) low small is = absurd (omega (arith, is, id-later k))

depth-first : (corner degree : Bool) → corner ≡ true → (degree && not corner) ≡ false
depth-first true true is = refl
depth-first true false is = refl
depth-first false degree is = cc

links-pass : (coding : Coding) (d : GluedMesh) (most k : ℕ) (front : List Link) (heads : List Head) → most < position_id → k + length heads ≤ most + 1 → AreFree most k front
    → LinksPass most front (map (λ (j, h). decoder_for coding d j h) (enumerate_from k heads))
links-pass coding d most k front [] small few free = tt
links-pass coding d most k front (h ∷ heads) small few free =
    let low : k ≤ most = omega arith in
    let link = link_of (decoder_for coding d k h) in
    let now : LinkPasses most front (decoder_for coding d k h) = record {
      has = refl;
      known = known-id most k low;
      unused = free k (omega arith) low;
      vertex = vertex-id d most k low small;
      depth_first = depth-first (is_cornered d k) coding.degree;
    } in (
      now,
      links-pass coding d most (k + 1) (front ++ link ∷ []) heads small (omega (arith, few)) (λ j more within.
          any-more (λ l. is_id (data_id_of j) l.data_id) front link (free j (omega (arith, more)) within) (ids-apart most k j small (omega (arith, more)) within)),
    )

-- the links pass beside an attribute data for each attribute but the first
pub are-linked : (coding : Coding) (d : GluedMesh) → IsMesh d.mesh → LinksPass (length d.mesh.heads - 1) [] (decoders_for coding d)
unfolding decoders_for
are-linked coding d is =
    let say = heads_say d.mesh.heads is.points.heads_pass in
    links-pass coding d (length d.mesh.heads - 1) 0 [] d.mesh.heads (omega (arith, say.few)) (omega (arith, say.some)) (λ j low few. refl)

-- ---- their codings

codings-from : (coding : Coding) (d : GluedMesh) (n k : ℕ) (heads : List Head) → All (HasCoding n) heads → HaveCodings n (map (λ (j, h). decoder_for coding d j h) (enumerate_from k heads))
codings-from coding d n k [] has = All-nil (λ (x : DecoderHead). All (HasCoding n) x.heads)
codings-from coding d n k (h ∷ heads) has =
    let f : ℕ × Head → DecoderHead = λ (j, x). decoder_for coding d j x in
    All-cons (λ (x : DecoderHead). All (HasCoding n) x.heads) (decoder_for coding d k h) (map f (enumerate_from (k + 1) heads))
    (All-cons (HasCoding n) h [] (All-head (HasCoding n) h heads has) (All-nil (HasCoding n)))
    (codings-from coding d n (k + 1) heads (All-tail (HasCoding n) h heads has))

-- the first profile that has all that is written has them
pub codings-for : (coding : Coding) (d : GluedMesh) → HaveCodings (needed_number coding.predict d.mesh.heads) (decoders_for coding d)
unfolding decoders_for
codings-for coding d = codings-from coding d (needed_number coding.predict d.mesh.heads) 0 d.mesh.heads (codings-each coding.predict d.mesh.heads)
