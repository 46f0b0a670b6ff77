-- What is known of attributes, one at a time.
use Rattle.std.proofs.Common.{◌≡◌, ℕ, ◌+◌, ◌<◌, ◌≤◌, min, List, [], ◌∷◌, ◌++◌, length, drop, get_or, refl, sym, ◌∙◌, ap, arith, append_assoc, append-nil, drop-cons, add-one, inl, inr}
use Rattle.std.proofs.lemmas.Bool.{cases_lt}
use Rattle.std.proofs.lemmas.List.{drop_all}
use Rattle.attr_heads.specs.declared.heads.Head.{Head}
use Rattle.attr_section.specs.declared.values.Values.{Values}
use Rattle.drc_container.specs.declared.reading.info.AttrInfo.{AttrInfo}
use Rattle.drc_container.specs.reading.Meaning.{attr_infos}

-- one attribute more
pub attr_infos-next : (n k : ℕ) (heads : List Head) (values : List Values) (h : Head) (v : Values) (front whole : List AttrInfo)
    → front ++ attr_infos n (drop k heads) (drop k values) ≡ whole → k < length heads → k < length values
    → h ≡ get_or heads k h → v ≡ get_or values k v
    → (front ++ record { head = h; predict = v.predict; entries = n; at = v.at } ∷ []) ++ attr_infos n (drop (k + 1) heads) (drop (k + 1) values) ≡ whole
attr_infos-next n k heads values h v front whole so has_h has_v is_h is_v =
    append_assoc front (record { head = h; predict = v.predict; entries = n; at = v.at } ∷ []) (attr_infos n (drop (k + 1) heads) (drop (k + 1) values))
    ∙ ap (λ l. front ++ l) (sym (rw (drop-cons heads k h has_h, drop-cons values k v has_v, ← is_h, ← is_v, add-one k) refl))
    ∙ so

no_heads : (n : ℕ) (heads : List Head) → attr_infos n heads [] ≡ []
no_heads n [] = refl
no_heads n (h ∷ heads) = refl

-- all attributes
pub attr_infos-end : (n k : ℕ) (heads : List Head) (values : List Values) (front whole : List AttrInfo)
    → front ++ attr_infos n (drop k heads) (drop k values) ≡ whole → min (length heads) (length values) ≤ k → front ≡ whole
attr_infos-end n k heads values front whole so done = sym (append-nil front) ∙ ap (λ l. front ++ l) (sym none) ∙ so
  where
    none : attr_infos n (drop k heads) (drop k values) ≡ []
    none = elim (cases_lt k (length heads)) [
      | inr few ↦ rw (drop_all k heads few) refl
      | inl many ↦ rw (drop_all k values (omega (arith, done, many))) (no_heads n (drop k heads))
    ]
