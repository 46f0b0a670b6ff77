-- A header is read off lines exactly where they have its shape.
use Rattle.std.proofs.Common.{◌≡◌, ℕ, ◌+◌, ◌*◌, ◌≤◌, ◌||◌, true, false, List, [], ◌∷◌, ◌++◌, length, cond, ltb, Option, Some, Ok, refl, sym, ap, subst, ◌∙◌, append_assoc, arith, not}
use Rattle.std.specs.Prelude.{codes, is_some, is_none, unwrap_or}
use Rattle.std.specs.List.{filter, list_all, AllByRecursion}
use Rattle.std.specs.Str.{bytes_eq}
use Rattle.std.proofs.lemmas.Bool.{and_parts, and_from, not-false, ltb-true, ltb-false, lt-ltb, le-ltb}
use Rattle.std.proofs.lemmas.List.{length-append, length-map}
use Rattle.std.proofs.lemmas.List.Elements.{recursion_from_All}
use Rattle.std.proofs.lemmas.List.Sums.{AllPass-from_list_all}
use Rattle.drc_base.specs.declared.kinds.Kind.TheVariants.{PlyMagic, PlyHeader, PlyElement, PlyAttr, PlyShort, AttrLimit, ValueLimit}
use Rattle.drc_base.specs.declared.limits.TheConstants.{MAX_ATTRIBUTES, MAX_VALUES}
use Rattle.ply_text.specs.declared.headers.Header.{Header}
use Rattle.attr_heads.specs.declared.heads.Head.{Head}
use Rattle.ply_text.specs.Words.{keyword_of}
use Rattle.ply_text.specs.Declarations.{is_magic, is_alone}
use Rattle.ply_text.specs.Draft.{Draft, PropertyParts}
use Rattle.ply_text.specs.Header.{column_types, is_head_typed, property_types, is_whole, heads_of, agrees, header_by, ply_header_at, is_end_by, ends_header, header_from, no_draft, header_of_lines, header_of_in}
use Rattle.ply_text.specs.NamedHeads.{named_heads}
use Rattle.ply_text.specs.Tokens.{token_lines}
use Rattle.laws_text.specs.HeaderShape.{Line, is_declaration, AreHeads, IsHeaderOf, BeginWithHeader}
use Rattle.laws_text.specs.Laws.{HeadersAreShapes, TextHeadersAreShapes, NamesAreShapes}
use Rattle.laws_text.proofs.Lines.{word_from, word_is, passed, not_refused}
use Rattle.laws_text.proofs.Keywords.{keyword_cases}
use Rattle.laws_text.proofs.Declaring.{Stage, draft_at}
use Rattle.laws_text.proofs.Declared.{Steps, IsDone, Reaches, steps_declare, declare_reach}
use Rattle.laws_text.proofs.Describing.{NotesRun, notes_describe, describe_notes}
use Rattle.laws_text.proofs.Naming.{named_give, give_named}
use Rattle.laws_text.proofs.Running.{Ends, header_ends, ends_read}

abbrev magic_line : Line
magic_line = codes "ply" ∷ []

abbrev end_line : Line
end_line = codes "end_header" ∷ []

-- ---- the first line and the last

magic_form : (line : Line) → is_magic line ≡ true → line ≡ magic_line
unfolding is_magic
magic_form [] e = absurd (cc e)
magic_form (word ∷ []) e = ap (λ (w : List ℕ). w ∷ []) (word_from word (codes "ply") e)
magic_form (word ∷ a ∷ ts) e = absurd (cc e)

end_word : (word : List ℕ) → is_end_by (keyword_of word) ≡ true → word ≡ codes "end_header"
unfolding keyword_of
end_word word e =
    keyword_cases word (word ≡ codes "end_header")
    (λ c. absurd (let x = rw c at e in cc x))
    (λ c o. absurd (let x = rw (c, o) at e in cc x))
    (λ c o x. absurd (let y = rw (c, o, x) at e in cc y))
    (λ c o x p. absurd (let y = rw (c, o, x, p) at e in cc y))
    (λ c o x p q. word_from word (codes "end_header") q)
    (λ c o x p q. absurd (let y = rw (c, o, x, p, q) at e in cc y))

end_form : (d : Draft) (line : Line) → ends_header d line ≡ true → is_alone line ≡ true → line ≡ end_line
end_form d [] e one = absurd (cc one)
end_form d (word ∷ []) e one = ap (λ (w : List ℕ). w ∷ []) (end_word word (and_parts d.formatted (is_end_by (keyword_of word)) e).1)
end_form d (word ∷ a ∷ ts) e one = absurd (cc one)

-- ---- what a whole draft gives

whole_done : (stage : Stage) (heads : List Head) → is_whole (draft_at stage heads) ≡ true
    → IsDone stage (unwrap_or (draft_at stage heads).vertices 0) (draft_at stage heads).properties (draft_at stage heads).faces (draft_at stage heads).list
unfolding is_whole
whole_done Stage.begun heads e = absurd (cc e)
whole_done Stage.formatted heads e = absurd (cc e)
whole_done (Stage.points n ps) heads e = (refl, refl, refl, refl, ltb-true 0 (length ps) (and_parts (ltb 0 (length ps)) true e).0)
whole_done (Stage.faces n ps m) heads e = let x = (and_parts (ltb 0 (length ps)) false e).1 in absurd (cc x)
whole_done (Stage.listed n ps m types) heads e = (refl, refl, refl, refl, ltb-true 0 (length ps) (and_parts (ltb 0 (length ps)) true e).0)

-- a whole draft
abbrev full : List Head → ℕ → List PropertyParts → Option ℕ → Option (ℕ × ℕ) → Draft
full heads n ps m types = record { formatted = true; heads = heads; vertices = Some n; properties = ps; faces = m; list = types }

done_draft : (stage : Stage) (heads : List Head) (n : ℕ) (ps : List PropertyParts) (m : Option ℕ) (types : Option (ℕ × ℕ)) → IsDone stage n ps m types
    → (draft_at stage heads ≡ full heads n ps m types) × ((is_none m || is_some types) ≡ true)
done_draft Stage.begun heads n ps m types d = absurd d
done_draft Stage.formatted heads n ps m types d = absurd d
done_draft (Stage.points k qs) heads n ps m types d = (rw (d.0, d.1, d.2, d.3) refl, rw d.2 refl)
done_draft (Stage.faces k qs l) heads n ps m types d = absurd d
done_draft (Stage.listed k qs l t) heads n ps m types d = (rw (d.0, d.1, d.2, d.3) refl, rw (d.2, d.3) refl)

-- the heads of comments, else those of names
abbrev heads_given : List Head → List PropertyParts → List Head
heads_given [] ps = named_heads 0 0 ps
heads_given (h ∷ hs) ps = h ∷ hs

given_heads : (ds : List Head) (ps : List PropertyParts) (hs : List Head) → hs ≡ heads_given ds ps → AreHeads ds ps hs
given_heads [] ps hs e = named_give hs 0 ps e
given_heads (d ∷ ds) ps hs e = e

heads_from : (ds : List Head) (ps : List PropertyParts) (hs : List Head) → AreHeads ds ps hs → hs ≡ heads_given ds ps
heads_from [] ps hs h = give_named hs 0 ps h
heads_from (d ∷ ds) ps hs e = e

heads_same : (hs : List Head) (ps : List PropertyParts) → cond (ltb 0 (length hs)) hs (named_heads 0 0 ps) ≡ heads_given hs ps
heads_same [] ps = refl
heads_same (h ∷ hs) ps = rw (lt-ltb 0 (length (h ∷ hs)) (omega arith)) refl

abbrev made : ℕ → Draft → List Head → Header
made at d heads = record { heads = heads; vertices = unwrap_or d.vertices 0; faces = d.faces; types = property_types d.properties; list = d.list; body_line = at + 1 }

-- the tests at the end of a header
record Passes (at : ℕ) (d : Draft) (heads : List Head) (h : Header) : Type 0 where
  few : length heads ≤ MAX_ATTRIBUTES
  agree : agrees heads d.properties ≡ true
  values : unwrap_or d.vertices 0 * length d.properties ≤ MAX_VALUES
  same : made at d heads ≡ h

header_passes : (at : ℕ) (d : Draft) (heads : List Head) (h : Header) → header_by at d heads ≡ Ok h → Passes at d heads h
unfolding header_by
header_passes at d heads h e =
    passed (ltb MAX_ATTRIBUTES (length heads)) _ _ (Ok h) _ e
    (λ _ go. not_refused _ AttrLimit at h go)
    (λ few go.
    passed (not (agrees heads d.properties)) _ _ (Ok h) _ go
    (λ _ more. not_refused _ PlyAttr at h more)
    (λ agree more.
    passed (ltb MAX_VALUES (unwrap_or d.vertices 0 * length d.properties)) _ _ (Ok h) _ more
    (λ _ last. not_refused _ ValueLimit at h last)
    (λ values last. record { few = ltb-false MAX_ATTRIBUTES (length heads) few; agree = not-false (agrees heads d.properties) agree; values = ltb-false MAX_VALUES (unwrap_or d.vertices 0 * length d.properties) values; same = cc last })))

passes_header : (at : ℕ) (d : Draft) (heads : List Head) → length heads ≤ MAX_ATTRIBUTES → agrees heads d.properties ≡ true → unwrap_or d.vertices 0 * length d.properties ≤ MAX_VALUES → header_by at d heads ≡ Ok (made at d heads)
unfolding header_by
passes_header at d heads few agree values = rw (le-ltb MAX_ATTRIBUTES (length heads) few, agree, le-ltb MAX_VALUES (unwrap_or d.vertices 0 * length d.properties) values) refl

-- ---- lines that are read have the shape

-- the end of a header, at a stage
record Closes (at : ℕ) (stage : Stage) (heads : List Head) (line : Line) (h : Header) : Type 0 where
  end : line ≡ end_line
  done : IsDone stage (unwrap_or (draft_at stage heads).vertices 0) (draft_at stage heads).properties (draft_at stage heads).faces (draft_at stage heads).list
  passes : Passes at (draft_at stage heads) (heads_of (draft_at stage heads)) h

closes : (at : ℕ) (stage : Stage) (heads : List Head) (line : Line) (h : Header) → ends_header (draft_at stage heads) line ≡ true → ply_header_at at (draft_at stage heads) line ≡ Ok h → Closes at stage heads line h
unfolding ply_header_at
closes at stage heads line h ends e =
    let d = draft_at stage heads in
    passed (not (is_alone line)) _ _ (Ok h) _ e
    (λ _ go. not_refused _ PlyHeader at h go)
    (λ alone go.
    passed (not (is_whole d)) _ _ (Ok h) _ go
    (λ _ more. not_refused _ PlyElement at h more)
    (λ whole more. record {
      end = end_form d line ends (not-false (is_alone line) alone);
      done = whole_done stage heads (not-false (is_whole d) whole);
      passes = header_passes at d (heads_of d) h more;
    }))

draft_heads : (stage : Stage) (heads : List Head) → (draft_at stage heads).heads ≡ heads
draft_heads Stage.begun heads = refl
draft_heads Stage.formatted heads = refl
draft_heads (Stage.points n ps) heads = refl
draft_heads (Stage.faces n ps m) heads = refl
draft_heads (Stage.listed n ps m types) heads = refl

heads_are : (d : Draft) → heads_of d ≡ heads_given d.heads d.properties
unfolding heads_of
heads_are d = heads_same d.heads d.properties

made_shape : (profile : ℕ) (between : List Line) (stage : Stage) (heads : List Head) (h : Header) → Steps Stage.begun (filter is_declaration between) stage → NotesRun profile [] between heads → Closes (2 + length between) stage heads end_line h
    → IsHeaderOf profile h (magic_line ∷ (between ++ end_line ∷ []))
unfolding agrees
made_shape profile between stage heads h steps notes c =
    let d = draft_at stage heads in
    let hs = heads_of d in
    let p = c.passes in
    let long : length (magic_line ∷ (between ++ end_line ∷ [])) ≡ 2 + length between = omega (arith, length-append between (end_line ∷ [])) in
    let agree = and_parts (bytes_eq (column_types hs) (property_types d.properties)) (list_all is_head_typed hs) p.agree in
    let count : length (property_types d.properties) ≡ length d.properties = length-map d.properties (λ p. p.dtype) in
    let is : IsHeaderOf profile (made (2 + length between) d hs) (magic_line ∷ (between ++ end_line ∷ [])) = record {
      between = between;
      whole = refl;
      properties = d.properties;
      described = heads;
      declared = steps_declare (unwrap_or d.vertices 0) d.properties d.faces d.list (filter is_declaration between) stage steps c.done;
      describe = notes_describe profile heads between notes;
      heads = given_heads heads d.properties hs (heads_are d ∙ ap (λ (xs : List Head). heads_given xs d.properties) (draft_heads stage heads));
      few = p.few;
      types = refl;
      columns = word_from (column_types hs) (property_types d.properties) agree.0;
      typed = AllPass-from_list_all is_head_typed hs agree.1;
      values = subst (λ w. unwrap_or d.vertices 0 * w ≤ MAX_VALUES) (sym count) p.values;
      body = ap (λ k. k + 1) (sym long);
    } in
    subst (λ (x : Header). IsHeaderOf profile x (magic_line ∷ (between ++ end_line ∷ []))) p.same is

from_second : (profile : ℕ) (first : Line) (lines : List Line) (h : Header) → is_magic first ≡ true → header_from profile 2 no_draft lines ≡ Ok h → BeginWithHeader profile h (first ∷ lines)
from_second profile first lines h magic e =
    let r : Ends profile Stage.begun [] 2 lines h = header_ends profile Stage.begun [] 2 lines h e in
    let c = closes (2 + length r.between) r.stage r.heads r.last h r.ends r.header in
    let c' : Closes (2 + length r.between) r.stage r.heads end_line h = record { end = refl; done = c.done; passes = c.passes } in
    record {
      header = magic_line ∷ (r.between ++ end_line ∷ []);
      rest = r.rest;
      cut =
          ap (λ (l : Line). l ∷ lines) (magic_form first magic)
          ∙ ap (λ (ls : List Line). magic_line ∷ ls) (r.cut ∙ ap (λ (l : Line). r.between ++ l ∷ r.rest) c.end ∙ sym (append_assoc r.between (end_line ∷ []) r.rest));
      is = made_shape profile r.between r.stage r.heads h r.steps r.notes c';
    }

pub read_shape : (profile : ℕ) (lines : List Line) (h : Header) → header_of_lines profile lines ≡ Ok h → BeginWithHeader profile h lines
read_shape profile [] h e = not_refused _ PlyShort 1 h e
read_shape profile (first ∷ lines) h e =
    passed (is_magic first) _ _ (Ok h) _ e (λ magic go. from_second profile first lines h magic go) (λ _ go. not_refused _ PlyMagic 1 h go)

-- ---- lines of the shape are read

end_ends : (d : Draft) → d.formatted ≡ true → ends_header d end_line ≡ true
unfolding keyword_of
end_ends d e = rw e refl

full_header : (at : ℕ) (heads : List Head) (n : ℕ) (ps : List PropertyParts) (m : Option ℕ) (types : Option (ℕ × ℕ)) → 1 ≤ length ps → (is_none m || is_some types) ≡ true
    → ply_header_at at (full heads n ps m types) end_line ≡ header_by at (full heads n ps m types) (heads_given heads ps)
unfolding ply_header_at is_whole
full_header at heads n ps m types some lists = rw (lt-ltb 0 (length ps) some, lists) (ap (header_by at (full heads n ps m types)) (heads_are (full heads n ps m types)))

made_is : (at : ℕ) (h : Header) (heads : List Head) (ps : List PropertyParts) → h.heads ≡ heads → h.types ≡ property_types ps → h.body_line ≡ at + 1
    → record { heads = heads; vertices = h.vertices; faces = h.faces; types = property_types ps; list = h.list; body_line = at + 1 } ≡ h
made_is at h heads ps a b c =
    ap (λ (x : List Head). record h { heads = x; types = property_types ps; body_line = at + 1 }) (sym a)
    ∙ ap (λ (x : List ℕ). record h { types = x; body_line = at + 1 }) (sym b)
    ∙ ap (λ (x : ℕ). record h { body_line = x }) (sym c)

magic_is : is_magic magic_line ≡ true
unfolding is_magic
magic_is = refl

typed_all : (heads : List Head) → AllByRecursion (λ head. is_head_typed head ≡ true) heads → list_all is_head_typed heads ≡ true
typed_all [] h = refl
typed_all (x ∷ heads) h = and_from (is_head_typed x) (list_all is_head_typed heads) h.0 (typed_all heads h.1)

few_described : (ds : List Head) (ps : List PropertyParts) → length (heads_given ds ps) ≤ 16 → length ds ≤ 16
few_described [] ps le = omega arith
few_described (d ∷ ds) ps le = le

pub front_read : (profile : ℕ) (h : Header) (front rest : List Line) → IsHeaderOf profile h front → header_of_lines profile (front ++ rest) ≡ Ok h
unfolding agrees
front_read profile h front rest is =
    let b = is.between in
    let same_heads = heads_from is.described is.properties h.heads is.heads in
    let r : Reaches Stage.begun h.vertices is.properties h.faces h.list (filter is_declaration b) = declare_reach h.vertices is.properties h.faces h.list (filter is_declaration b) is.declared in
    let few : length (heads_given is.described is.properties) ≤ MAX_ATTRIBUTES = subst (λ (x : List Head). length x ≤ MAX_ATTRIBUTES) same_heads is.few in
    let notes = describe_notes profile is.described b (few_described is.described is.properties few) is.describe in
    let d = done_draft r.stage is.described h.vertices is.properties h.faces h.list r.done in
    let heads = heads_given is.described is.properties in
    let long : length front ≡ 2 + length b = ap length is.whole ∙ omega (arith, length-append b (end_line ∷ [])) in
    let ends : ends_header (draft_at r.stage is.described) end_line ≡ true = end_ends (draft_at r.stage is.described) (ap (λ (x : Draft). x.formatted) d.0) in
    let count : length (property_types is.properties) ≡ length is.properties = length-map is.properties (λ p. p.dtype) in
    let f = full is.described h.vertices is.properties h.faces h.list in
    let agree = and_from (bytes_eq (column_types heads) (property_types is.properties)) (list_all is_head_typed heads)
    (subst (λ (x : List ℕ). bytes_eq x (property_types is.properties) ≡ true) (sym (ap column_types (sym same_heads) ∙ is.columns ∙ is.types)) (word_is (property_types is.properties)))
    (subst (λ (x : List Head). list_all is_head_typed x ≡ true) same_heads (typed_all h.heads (recursion_from_All (λ head. is_head_typed head ≡ true) h.heads is.typed))) in
    let last : header_by (2 + length b) f heads ≡ Ok (made (2 + length b) f heads) =
    passes_header (2 + length b) f heads few agree (subst (λ w. h.vertices * w ≤ MAX_VALUES) (ap length is.types ∙ count) is.values) in
    let same : made (2 + length b) f heads ≡ h = made_is (2 + length b) h heads is.properties same_heads is.types (is.body ∙ ap (λ k. k + 1) long) in
    ap (λ (x : List Line). header_of_lines profile (x ++ rest)) is.whole
    ∙ rw magic_is refl
    ∙ ap (header_from profile 2 no_draft) (append_assoc b (end_line ∷ []) rest)
    ∙ ends_read profile Stage.begun r.stage [] is.described 2 b end_line rest r.steps notes ends
    ∙ ap (λ (x : Draft). ply_header_at (2 + length b) x end_line) d.0
    ∙ full_header (2 + length b) is.described h.vertices is.properties h.faces h.list is.declared.some d.1
    ∙ last ∙ ap Ok same

pub headers_are_shapes : HeadersAreShapes
headers_are_shapes profile lines h = (read_shape profile lines h, λ begin. ap (header_of_lines profile) begin.cut ∙ front_read profile h begin.header begin.rest begin.is)

pub text_headers_are_shapes : TextHeadersAreShapes
unfolding header_of_in
text_headers_are_shapes profile text h = headers_are_shapes profile (token_lines text) h

pub names_are_shapes : NamesAreShapes
names_are_shapes properties heads = (named_give heads 0 properties, give_named heads 0 properties)
