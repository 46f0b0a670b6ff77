-- The first profile that has all that is written has the codings of the heads, and reads the values back.
use Rattle.std.proofs.Common.{◌≡◌, ℕ, ◌≤◌, ◌<◌, Bool, true, false, ℤ, List, [], ◌∷◌, length, get_or, Option, None, Some, refl, sym, ◌∙◌, ap, subst, inl, inr, arith}
use Rattle.std.specs.Prelude.{◌||◌, is_some, if◌then◌else◌}
use Rattle.std.specs.List.{All, list_any}
use Rattle.std.proofs.lemmas.Bool.{cases_Bool, or_left, or_right, false≢true}
use Rattle.std.proofs.lemmas.List.Elements.{All-nil, All-cons, All-from_get_or}
use Rattle.std.proofs.lemmas.List.Folds.{list_any_at}
use Rattle.drc_base.specs.declared.profiles.TheConstants.{PROFILE_THREE, PROFILE_TWO}
use Rattle.drc_base.specs.Profile.{profile}
use Rattle.attr_heads.specs.declared.heads.Head.{Head}
use Rattle.attr_heads.specs.declared.octahedra.TheConstants.{OCTAHEDRAL_SINCE}
use Rattle.attr_heads.specs.declared.codings.Coding.TheVariants.{Integer, Quantised}
use Rattle.attr_heads.specs.Codings.{coding_facts, coding_under}
use Rattle.attr_heads.specs.DataTypes.{is_float}
use Rattle.attr_section.specs.declared.decoder_heads.DecoderHead.{DecoderHead}
use Rattle.attr_section.specs.declared.values.Values.{Values}
use Rattle.attr_section.specs.Heads.{HasCoding, HaveCodings}
use Rattle.attr_section.specs.Positions.{PositionsRead}
use Rattle.attr_section.specs.WrittenTexture.{is_texture}
use Rattle.attr_section.specs.Written.{IsReadIn, came_later, any_came_later}
use Rattle.drc_container.specs.declared.choice.predicts.Predict.{Predict}
use Rattle.drc_container.specs.choice.Predicts.{plain_of, takes_texture, asked, needed_number}
use Rattle.drc_container.specs.writing.Written.{asked_values}
use Rattle.drc_container.proofs.lemmas.writing.Asking.{asked-unsquared, plain-apart}

-- ---- the number

number-least : (later : Bool) → profile.number ≤ (if later then PROFILE_THREE.number else PROFILE_TWO.number)
number-least true = omega arith
number-least false = omega arith

number-later : (later : Bool) → later ≡ true → OCTAHEDRAL_SINCE ≤ (if later then PROFILE_THREE.number else PROFILE_TWO.number)
number-later true is = omega arith
number-later false is = absurd (false≢true is)

-- whether something is written that came with profile 3
abbrev needs_later : Predict → List Head → Bool
needs_later p heads = takes_texture p || list_any (λ h. is_some h.octa) heads

pub needed-least : (p : Predict) (heads : List Head) → profile.number ≤ needed_number p heads
needed-least p heads = number-least (needs_later p heads)

-- ---- the heads

-- the coding of a head without a square came first
type-since : (float : Bool) → (coding_facts (if float then Quantised else Integer)).since ≡ 1
type-since true = refl
type-since false = refl

coding-needed : (n : ℕ) (h : Head) → profile.number ≤ n → (is_some h.octa ≡ true → OCTAHEDRAL_SINCE ≤ n) → HasCoding n h
coding-needed n h least later = by h.octa later
  where
    by : (octa : Option ℕ) → (is_some octa ≡ true → OCTAHEDRAL_SINCE ≤ n) → (coding_facts (coding_under h.dtype octa)).since ≤ n
    by None later = omega (arith, least, type-since (is_float h.dtype))
    by (Some bits) later = later refl

pub codings-each : (p : Predict) (heads : List Head) → All (HasCoding (needed_number p heads)) heads
codings-each p heads =
    let d : Head = record { usage = 0; dtype = 0; comps = 0; normalized = 0; id = 0; quant = None; octa = None } in
    let square : Head → Bool = λ h. is_some h.octa in
    All-from_get_or (HasCoding (needed_number p heads)) heads d (λ i below.
    coding-needed (needed_number p heads) (get_or heads i d) (needed-least p heads)
    (λ is. number-later (needs_later p heads) (or_right (takes_texture p) (list_any square heads) (list_any_at square heads i d below is))))

-- those of one decoder
pub codings-needed : (p : Predict) (heads : List Head) (d : DecoderHead) → d.heads ≡ heads → HaveCodings (needed_number p heads) (d ∷ [])
codings-needed p heads d is =
    let n = needed_number p heads in
    All-cons (λ (x : DecoderHead). All (HasCoding n) x.heads) d [] (subst (All (HasCoding n)) (sym is) (codings-each p heads)) (All-nil (λ (x : DecoderHead). All (HasCoding n) x.heads))

-- ---- the values

-- an attribute that came later has a square, or texture coordinates are predicted from positions
texture-asked : (p : Predict) (h : Head) → h.octa ≡ None → is_texture h.comps (asked p h) ≡ true → takes_texture p ≡ true
texture-asked p h none is = elim (cases_Bool (takes_texture p)) [
  | inl on ↦ on
  | inr off ↦ absurd (false≢true (sym (ap (is_texture h.comps) (asked-unsquared p h none) ∙ rw (off, plain-apart (plain_of p)) refl) ∙ is))
]

later-asked : (p : Predict) (h : Head) (v : Values) → v.predict ≡ asked p h → came_later h v ≡ true → (takes_texture p || is_some h.octa) ≡ true
later-asked p h v is later = by h.octa refl
  where
    by : (octa : Option ℕ) → h.octa ≡ octa → (takes_texture p || is_some h.octa) ≡ true
    by None none =
        let told : is_texture h.comps v.predict ≡ true = sym (ap (λ (o : Option ℕ). is_some o || is_texture h.comps v.predict) none) ∙ later in
        or_left (takes_texture p) (is_some h.octa) (texture-asked p h none (sym (ap (is_texture h.comps) is) ∙ told))
    by (Some bits) some = or_right (takes_texture p) (is_some h.octa) (ap is_some some)

-- so all that came later is needed
or-more : (a b c : Bool) → ((a || b) ≡ true) → (a || (b || c)) ≡ true
or-more true b c is = refl
or-more false true c is = refl
or-more false false c is = absurd (false≢true is)

or-other : (a b c : Bool) → ((a || c) ≡ true) → (a || (b || c)) ≡ true
or-other true b c is = refl
or-other false true c is = refl
or-other false false c is = is

any-later : (p : Predict) (heads : List Head) (columns : List (List ℤ)) → any_came_later heads (asked_values p heads columns) ≡ true → needs_later p heads ≡ true
any-later p [] columns later = absurd (false≢true later)
any-later p (h ∷ heads) [] later = absurd (false≢true later)
any-later p (h ∷ heads) (column ∷ columns) later =
    let v : Values = record { values = column; predict = asked p h; at = 0 } in
    let square : Head → Bool = λ x. is_some x.octa in
    elim (cases_Bool (came_later h v)) [
      | inl here ↦ or-more (takes_texture p) (is_some h.octa) (list_any square heads) (later-asked p h v refl here)
      | inr other ↦ or-other (takes_texture p) (is_some h.octa) (list_any square heads) (any-later p heads columns (sym (ap (λ (b : Bool). b || any_came_later heads (asked_values p heads columns)) other) ∙ later))
    ]

-- the values of all attributes are read back
pub read-needed : (p : Predict) (heads : List Head) (columns : List (List ℤ)) (found : PositionsRead)
    → IsReadIn (needed_number p heads) found found (any_came_later heads (asked_values p heads columns))
read-needed p heads columns found = record {
  least = needed-least p heads;
  since = λ later. number-later (needs_later p heads) (any-later p heads columns later);
  same = λ later. refl;
}

-- and those of one
pub read-needed_at : (p : Predict) (heads : List Head) (k : ℕ) (e : Head) (v : Values) (found : PositionsRead) → k < length heads → v.predict ≡ asked p (get_or heads k e)
    → IsReadIn (needed_number p heads) found found (any_came_later (get_or heads k e ∷ []) (v ∷ []))
read-needed_at p heads k e v found has is = record {
  least = needed-least p heads;
  since = λ later. number-later (needs_later p heads) (one later);
  same = λ later. refl;
}
  where
    square : Head → Bool
    square h = is_some h.octa

    alone : (b : Bool) → (b || false) ≡ true → b ≡ true
    alone true is = refl
    alone false is = is

    either : (a b c : Bool) → (a || b) ≡ true → (b ≡ true → c ≡ true) → (a || c) ≡ true
    either true b c is more = refl
    either false b c is more = more is

    one : any_came_later (get_or heads k e ∷ []) (v ∷ []) ≡ true → needs_later p heads ≡ true
    one later =
        let h = get_or heads k e in
        either (takes_texture p) (is_some h.octa) (list_any square heads) (later-asked p h v is (alone (came_later h v) later)) (λ on. list_any_at square heads k e has on)
