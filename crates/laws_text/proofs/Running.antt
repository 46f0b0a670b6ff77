-- A header line by line, up to its end: its comments and its declarations go on side by side.
use Rattle.std.proofs.Common.{◌≡◌, ℕ, ◌+◌, ◌&&◌, ◌||◌, Bool, true, false, cond, List, [], ◌∷◌, ◌++◌, length, leb, Some, Ok, refl, sym, ap, subst, ◌∙◌, arith, inl, inr}
use Rattle.std.specs.Prelude.{codes, option_map}
use Rattle.std.specs.List.{filter}
use Rattle.std.proofs.lemmas.Bool.{cases_Bool, leb-false, lt-leb, and_left, and_right, or_parts}
use Rattle.std.specs.Str.{bytes_eq}
use Rattle.drc_base.specs.declared.kinds.Kind.TheVariants.{AttrLimit, PlyAttr, PlyShort}
use Rattle.drc_base.specs.declared.limits.TheConstants.{MAX_ATTRIBUTES}
use Rattle.drc_base.specs.Steps.{◌>>=◌}
use Rattle.ply_text.specs.declared.headers.Header.{Header}
use Rattle.attr_heads.specs.declared.heads.Head.{Head}
use Rattle.attr_heads.specs.declared.quants.Quant.{Quant}
use Rattle.ply_text.specs.Words.{keyword_of}
use Rattle.ply_text.specs.Comments.{is_form, attr_of, quant_of, with_quant, octa_of, with_octa}
use Rattle.ply_text.specs.Comments.{is_octa as reads_octa}
use Rattle.ply_text.specs.Declarations.{keyword_at}
use Rattle.ply_text.specs.Draft.{Draft, attribute, quantisation, square, comment, body, statement}
use Rattle.ply_text.specs.Header.{ends_header, header_from, ply_header_at}
use Rattle.laws_text.specs.HeaderShape.{Line, is_comment, is_declaration, has_form, is_attr, is_quant, is_octa, is_detail}
use Rattle.laws_text.proofs.Lines.{passed, not_refused, or_refuse_ok, step_ok}
use Rattle.laws_text.proofs.Keywords.{keyword_cases, comment_word, other_word, statement_parts}
use Rattle.laws_text.proofs.Declaring.{Stage, draft_at, Next, body_goes}
use Rattle.laws_text.proofs.Declared.{Steps, next_body, next_goes}
use Rattle.laws_text.proofs.Describing.{Notes, attr, detail, nothing, NotesRun}
use Rattle.laws_text.proofs.Noting.{Detail, with_detail, with_quantisation, with_square, detail_of, mapped}
use Rattle.laws_text.proofs.Noting.{quantisation as by_quantisation, square as by_square}

-- ---- a comment

with_heads : (s : Stage) (hs next : List Head) → record (draft_at s hs) { heads = next } ≡ draft_at s next
with_heads s hs next = go s where
  go : (s : Stage) → record (draft_at s hs) { heads = next } ≡ draft_at s next
  go Stage.begun = refl
  go Stage.formatted = refl
  go (Stage.points n ps) = refl
  go (Stage.faces n ps m) = refl
  go (Stage.listed n ps m types) = refl

heads_at : (s : Stage) (hs : List Head) → (draft_at s hs).heads ≡ hs
heads_at Stage.begun hs = refl
heads_at Stage.formatted hs = refl
heads_at (Stage.points n ps) hs = refl
heads_at (Stage.faces n ps m) hs = refl
heads_at (Stage.listed n ps m types) hs = refl

-- what a comment adds to a draft
record Noted (profile : ℕ) (d : Draft) (line : Line) (d' : Draft) : Type 0 where
  next : List Head
  notes : Notes profile d.heads line next
  draft : record d { heads = next } ≡ d'

-- lines that say more of a head
quant_detail : (profile : ℕ) (line : Line) → is_quant line ≡ true → is_detail profile line ≡ true
quant_detail profile line e = ap (λ b. b || is_octa profile line) e

octa_detail : (profile : ℕ) (line : Line) → is_octa profile line ≡ true → is_detail profile line ≡ true
octa_detail profile line e = go (is_quant line) where
  go : (b : Bool) → (b || is_octa profile line) ≡ true
  go true = refl
  go false = e

no_detail : (profile : ℕ) (line : Line) → is_quant line ≡ false → is_octa profile line ≡ false → is_detail profile line ≡ false
no_detail profile line q o = ap (λ b. b || is_octa profile line) q ∙ o

quant_says : (hs : List Head) (line : Line) (p : ℕ × Quant) → is_quant line ≡ true → quant_of hs line ≡ Some p → detail_of hs line ≡ Some (p.0, by_quantisation p.1)
quant_says hs line p q e = rw (q, e) refl

octa_says : (hs : List Head) (line : Line) (p : ℕ × ℕ) → is_quant line ≡ false → octa_of hs line ≡ Some p → detail_of hs line ≡ Some (p.0, by_square p.1)
octa_says hs line p q e = rw (q, e) refl

-- a comment of a square, in the words of both
octa_form : (profile : ℕ) (line : Line) → ((form : List ℕ) → has_form form line ≡ is_form form line) → is_octa profile line ≡ reads_octa profile line
octa_form profile line forms = ap (λ b. leb 3 profile && b) (forms (codes "octa"))

comment_notes : (profile at : ℕ) (d d' : Draft) (line : Line) → ((form : List ℕ) → has_form form line ≡ is_form form line) → comment profile at d line ≡ Ok d' → Noted profile d line d'
unfolding comment attribute quantisation square
comment_notes profile at d d' line forms e =
    passed (is_form (codes "attr") line) _ _ (Ok d') _ e
    (λ is go.
    passed (leb MAX_ATTRIBUTES (length d.heads)) _ _ (Ok d') _ go
    (λ _ more. not_refused _ AttrLimit at d' more)
    (λ room more.
    let p = or_refuse_ok PlyAttr at (attr_of (length d.heads) line) _ d' more in
    let last = p.2 in
    record { next = d.heads ++ p.0 ∷ []; notes = attr p.0 (forms (codes "attr") ∙ is) (leb-false MAX_ATTRIBUTES (length d.heads) room) p.1 refl; draft = cc last }))
    (λ no' go.
    passed (is_form (codes "quant") line) _ _ (Ok d') _ go
    (λ is more.
    let p = or_refuse_ok PlyAttr at (quant_of d.heads line) _ d' more in
    let last = p.2 in
    let same : record d { heads = with_quant p.0.0 p.0.1 d.heads } ≡ d' = cc last in
    let q : is_quant line ≡ true = forms (codes "quant") ∙ is in
    record {
      next = with_detail p.0.0 (by_quantisation p.0.1) d.heads;
      notes = detail (p.0.0, by_quantisation p.0.1) (forms (codes "attr") ∙ no') (quant_detail profile line q) (quant_says d.heads line p.0 q p.1) refl;
      draft = ap (λ (hs : List Head). record d { heads = hs }) (sym (with_quantisation p.0.0 p.0.1 d.heads)) ∙ same;
    })
    (λ none more.
    passed (reads_octa profile line) _ _ (Ok d') _ more
    (λ is last.
    let p = or_refuse_ok PlyAttr at (octa_of d.heads line) _ d' last in
    let end = p.2 in
    let same : record d { heads = with_octa p.0.0 p.0.1 d.heads } ≡ d' = cc end in
    let q : is_quant line ≡ false = forms (codes "quant") ∙ none in
    record {
      next = with_detail p.0.0 (by_square p.0.1) d.heads;
      notes = detail (p.0.0, by_square p.0.1) (forms (codes "attr") ∙ no') (octa_detail profile line (octa_form profile line forms ∙ is)) (octa_says d.heads line p.0 q p.1) refl;
      draft = ap (λ (hs : List Head). record d { heads = hs }) (sym (with_square p.0.0 p.0.1 d.heads)) ∙ same;
    })
    (λ no_octa last. record {
      next = d.heads;
      notes = nothing (forms (codes "attr") ∙ no') (no_detail profile line (forms (codes "quant") ∙ none) (octa_form profile line forms ∙ no_octa)) refl;
      draft = cc last;
    })))

-- ---- from line to line

-- where a header ends, and what it came to
pub record Ends (profile : ℕ) (s : Stage) (hs : List Head) (at : ℕ) (lines : List Line) (h : Header) : Type 0 where
  pub between : List Line
  pub last : Line
  pub rest : List Line
  pub stage : Stage
  pub heads : List Head
  pub cut : lines ≡ between ++ last ∷ rest
  pub steps : Steps s (filter is_declaration between) stage
  pub notes : NotesRun profile hs between heads
  pub ends : ends_header (draft_at stage heads) last ≡ true
  pub header : ply_header_at (at + length between) (draft_at stage heads) last ≡ Ok h

further : (profile : ℕ) (s : Stage) (hs : List Head) (at : ℕ) (line : Line) (lines : List Line) (h : Header) (next : List Head) (t : Stage) → Notes profile hs line next
    → ((ls : List Line) (u : Stage) → Steps t (filter is_declaration ls) u → Steps s (filter is_declaration (line ∷ ls)) u) → Ends profile t next (at + 1) lines h → Ends profile s hs at (line ∷ lines) h
further profile s hs at line lines h next t n steps r = record {
  between = line ∷ r.between;
  last = r.last;
  rest = r.rest;
  stage = r.stage;
  heads = r.heads;
  cut = ap (λ (ls : List Line). line ∷ ls) r.cut;
  steps = steps r.between r.stage r.steps;
  notes = (next, n, r.notes);
  ends = r.ends;
  header = let e : at + length (line ∷ r.between) ≡ at + 1 + length r.between = omega arith in rw e r.header;
}

comment_goes : (s t : Stage) (line : Line) → is_comment line ≡ true → s ≡ t → (ls : List Line) (u : Stage) → Steps t (filter is_declaration ls) u → Steps s (filter is_declaration (line ∷ ls)) u
comment_goes s t line is e ls u steps = rw is (subst (λ (x : Stage). Steps x (filter is_declaration ls) u) (sym e) steps)

declaration_goes : (s t : Stage) (line : Line) → is_comment line ≡ false → Next s line t → (ls : List Line) (u : Stage) → Steps t (filter is_declaration ls) u → Steps s (filter is_declaration (line ∷ ls)) u
declaration_goes s t line no' by ls u steps = let both : Steps s (line ∷ filter is_declaration ls) u = (t, by, steps) in rw no' both

-- a declaration describes nothing
plain_line : (form : List ℕ) (line : Line) → is_comment line ≡ false → has_form form line ≡ false
plain_line form [] e = refl
plain_line form (a ∷ []) e = refl
plain_line form (a ∷ b ∷ []) e = refl
plain_line form (a ∷ b ∷ c ∷ ts) e = and_left (bytes_eq a (codes "comment")) _ (or_parts (bytes_eq a (codes "comment")) (bytes_eq a (codes "obj_info")) e).0

-- nor says it more of a head
plain_detail : (profile : ℕ) (line : Line) → ((form : List ℕ) → has_form form line ≡ false) → is_detail profile line ≡ false
plain_detail profile line none = no_detail profile line (none (codes "quant")) (and_right (leb 3 profile) _ (none (codes "octa")))

pub header_ends : (profile : ℕ) (s : Stage) (hs : List Head) (at : ℕ) (lines : List Line) (h : Header) → header_from profile at (draft_at s hs) lines ≡ Ok h → Ends profile s hs at lines h
header_ends profile s hs at [] h e = not_refused _ PlyShort at h e
header_ends profile s hs at (line ∷ lines) h e =
    let d = draft_at s hs in
    passed (ends_header d line) (ply_header_at at d line) (statement profile at d line >>= λ next. header_from profile (at + 1) next lines) (Ok h) _ e
    (λ ends last. record {
      between = [];
      last = line;
      rest = lines;
      stage = s;
      heads = hs;
      cut = refl;
      steps = refl;
      notes = refl;
      ends = ends;
      header = let z : at + length {A = Line} [] ≡ at = omega arith in rw z last;
    })
    (λ _ go.
    let p = step_ok (statement profile at d line) (λ next. header_from profile (at + 1) next lines) h go in
    statement_parts profile at d p.0 line (Ends profile s hs at (line ∷ lines) h) p.1
    (λ is forms c.
    let n = comment_notes profile at d p.0 line forms c in
    let same : p.0 ≡ draft_at s n.next = sym n.draft ∙ with_heads s hs n.next in
    further profile s hs at line lines h n.next s (subst (λ (xs : List Head). Notes profile xs line n.next) (heads_at s hs) n.notes) (comment_goes s s line is refl)
    (header_ends profile s n.next (at + 1) lines h (ap (λ (x : Draft). header_from profile (at + 1) x lines) (sym same) ∙ p.2)))
    (λ is none same.
    further profile s hs at line lines h hs s (nothing (none (codes "attr")) (plain_detail profile line none) refl) (comment_goes s s line is refl)
    (header_ends profile s hs (at + 1) lines h (ap (λ (x : Draft). header_from profile (at + 1) x lines) same ∙ p.2)))
    (λ no' b.
    let g = body_goes s at hs p.0 line b in
    further profile s hs at line lines h hs g.next (nothing (plain_line (codes "attr") line no') (plain_detail profile line (λ form. plain_line form line no')) refl) (declaration_goes s g.next line no' g.by)
    (header_ends profile g.next hs (at + 1) lines h (ap (λ (x : Draft). header_from profile (at + 1) x lines) (sym g.draft) ∙ p.2))))

-- ---- and back

detail_reads : (profile at : ℕ) (d : Draft) (line : Line) (p : ℕ × Detail) → ((form : List ℕ) → has_form form line ≡ is_form form line) → is_attr line ≡ false → is_detail profile line ≡ true → detail_of d.heads line ≡ Some p
    → comment profile at d line ≡ Ok (record d { heads = with_detail p.0 p.1 d.heads })
unfolding comment quantisation square
detail_reads profile at d line p forms no' is e = go (is_quant line) refl is e where
  go : (b : Bool) → is_quant line ≡ b → (b || is_octa profile line) ≡ true
      → cond b (option_map (λ p. (p.0, by_quantisation p.1)) (quant_of d.heads line)) (option_map (λ p. (p.0, by_square p.1)) (octa_of d.heads line)) ≡ Some p → comment profile at d line ≡ Ok (record d { heads = with_detail p.0 p.1 d.heads })
  go true q i m =
      let x = mapped (λ (p : ℕ × Quant). (p.0, by_quantisation p.1)) (quant_of d.heads line) p m in
      rw (sym (forms (codes "attr")) ∙ no', sym (forms (codes "quant")) ∙ q, x.1)
      (ap (λ (hs : List Head). Ok (record d { heads = hs })) (with_quantisation x.0.0 x.0.1 d.heads) ∙ ap (λ (p : ℕ × Detail). Ok (record d { heads = with_detail p.0 p.1 d.heads })) x.2)
  go false q i m =
      let x = mapped (λ (p : ℕ × ℕ). (p.0, by_square p.1)) (octa_of d.heads line) p m in
      rw (sym (forms (codes "attr")) ∙ no', sym (forms (codes "quant")) ∙ q, sym (octa_form profile line forms) ∙ i, x.1)
      (ap (λ (hs : List Head). Ok (record d { heads = hs })) (with_square x.0.0 x.0.1 d.heads) ∙ ap (λ (p : ℕ × Detail). Ok (record d { heads = with_detail p.0 p.1 d.heads })) x.2)

nothing_reads : (profile at : ℕ) (d : Draft) (line : Line) → ((form : List ℕ) → has_form form line ≡ is_form form line) → is_attr line ≡ false → is_detail profile line ≡ false → comment profile at d line ≡ Ok d
unfolding comment
nothing_reads profile at d line forms no' none =
    let p = or_parts (is_quant line) (is_octa profile line) none in
    rw (sym (forms (codes "attr")) ∙ no', sym (forms (codes "quant")) ∙ p.0, sym (octa_form profile line forms) ∙ p.1) refl

comment_reads : (profile at : ℕ) (d : Draft) (line : Line) (next : List Head) → ((form : List ℕ) → has_form form line ≡ is_form form line) → Notes profile d.heads line next → comment profile at d line ≡ Ok (record d { heads = next })
unfolding comment attribute
comment_reads profile at d line next forms (attr head is lt e f) = rw (sym (forms (codes "attr")) ∙ is, lt-leb MAX_ATTRIBUTES (length d.heads) lt, e, f) refl
comment_reads profile at d line next forms (detail p no' is e f) = detail_reads profile at d line p forms no' is e ∙ ap (λ (hs : List Head). Ok (record d { heads = hs })) (sym f)
comment_reads profile at d line next forms (nothing no' none f) = nothing_reads profile at d line forms no' none ∙ ap (λ (hs : List Head). Ok (record d { heads = hs })) (sym f)

-- a line that describes nothing notes nothing
notes_nothing : (profile : ℕ) (hs next : List Head) (line : Line) → is_attr line ≡ false → is_detail profile line ≡ false → Notes profile hs line next → next ≡ hs
notes_nothing profile hs next line no' none (attr head is lt e f) = absurd (cc (is, no'))
notes_nothing profile hs next line no' none (detail p a is e f) = absurd (cc (is, none))
notes_nothing profile hs next line no' none (nothing a b f) = f

word_reads : (profile : ℕ) (s : Stage) (at : ℕ) (hs next : List Head) (word : List ℕ) (tokens : Line) → is_comment (word ∷ tokens) ≡ true → Notes profile hs (word ∷ tokens) next
    → (statement profile at (draft_at s hs) (word ∷ tokens) ≡ Ok (draft_at s next)) × (ends_header (draft_at s hs) (word ∷ tokens) ≡ false)
unfolding statement keyword_of
word_reads profile s at hs next word tokens is n =
    let d = draft_at s hs in
    keyword_cases word ((statement profile at d (word ∷ tokens) ≡ Ok (draft_at s next)) × (ends_header d (word ∷ tokens) ≡ false))
    (λ c.
    let notes : Notes profile d.heads (word ∷ tokens) next = subst (λ (xs : List Head). Notes profile xs (word ∷ tokens) next) (sym (heads_at s hs)) n in
    let r = comment_reads profile at d (word ∷ tokens) next (λ form. comment_word form word tokens c) notes in
    (rw c (r ∙ ap Ok (with_heads s hs next)), and_right d.formatted _ (rw c refl)))
    (λ c o.
    let same : next ≡ hs = notes_nothing profile hs next (word ∷ tokens) (other_word (codes "attr") word tokens c) (plain_detail profile (word ∷ tokens) (λ form. other_word form word tokens c)) n in
    (rw (c, o, same) refl, and_right d.formatted _ (rw (c, o) refl)))
    (λ c o x. absurd (let no' : is_comment (word ∷ tokens) ≡ false = rw (c, o) refl in cc (is, no')))
    (λ c o x p. absurd (let no' : is_comment (word ∷ tokens) ≡ false = rw (c, o) refl in cc (is, no')))
    (λ c o x p q. absurd (let no' : is_comment (word ∷ tokens) ≡ false = rw (c, o) refl in cc (is, no')))
    (λ c o x p q. absurd (let no' : is_comment (word ∷ tokens) ≡ false = rw (c, o) refl in cc (is, no')))

line_reads : (profile : ℕ) (s : Stage) (at : ℕ) (hs next : List Head) (line : Line) → is_comment line ≡ true → Notes profile hs line next
    → (statement profile at (draft_at s hs) line ≡ Ok (draft_at s next)) × (ends_header (draft_at s hs) line ≡ false)
line_reads profile s at hs next [] is n = absurd (cc is)
line_reads profile s at hs next (word ∷ tokens) is n = word_reads profile s at hs next word tokens is n

plain_statement : (profile : ℕ) (at : ℕ) (d : Draft) (line : Line) → is_comment line ≡ false → statement profile at d line ≡ body at d line (keyword_at line)
unfolding statement keyword_of
plain_statement profile at d [] e = refl
plain_statement profile at d (word ∷ tokens) e =
    let parts = or_parts (bytes_eq word (codes "comment")) (bytes_eq word (codes "obj_info")) e in
    keyword_cases word (statement profile at d (word ∷ tokens) ≡ body at d (word ∷ tokens) (keyword_at (word ∷ tokens)))
    (λ c. let no' = parts.0 in absurd (cc (c, no')))
    (λ c o. let no' = parts.1 in absurd (cc (o, no')))
    (λ c o x. rw (c, o, x) refl)
    (λ c o x p. rw (c, o, x, p) refl)
    (λ c o x p q. rw (c, o, x, p, q) refl)
    (λ c o x p q. rw (c, o, x, p, q) refl)

one_more : (profile : ℕ) (at : ℕ) (d d' : Draft) (line : Line) (lines : List Line) → (statement profile at d line ≡ Ok d') → (ends_header d line ≡ false) → header_from profile at d (line ∷ lines) ≡ header_from profile (at + 1) d' lines
one_more profile at d d' line lines e f = rw (f, e) refl

-- comments that are noted and declarations that go on are read, up to the end
pub ends_read : (profile : ℕ) (s stage : Stage) (hs heads : List Head) (at : ℕ) (between : List Line) (last : Line) (rest : List Line) → Steps s (filter is_declaration between) stage → NotesRun profile hs between heads → ends_header (draft_at stage heads) last ≡ true
    → header_from profile at (draft_at s hs) (between ++ last ∷ rest) ≡ ply_header_at (at + length between) (draft_at stage heads) last
ends_read profile s stage hs heads at [] last rest steps notes ends =
    let z : at ≡ at + length {A = Line} [] = omega arith in
    ap (λ (x : Stage). header_from profile at (draft_at x hs) (last ∷ rest)) steps ∙ ap (λ (x : List Head). header_from profile at (draft_at stage x) (last ∷ rest)) notes ∙ rw ends (ap (λ k. ply_header_at k (draft_at stage heads) last) z)
ends_read profile s stage hs heads at (line ∷ between) last rest steps (next, n, run) ends =
    let m : at + 1 + length between ≡ at + length (line ∷ between) = omega arith in
    elim (cases_Bool (is_comment line)) [
      | inl is ↦
          let r = line_reads profile s at hs next line is n in
          let left : filter is_declaration (line ∷ between) ≡ filter is_declaration between = rw is refl in
          let tail = subst (λ (ls : List Line). Steps s ls stage) left steps in
          one_more profile at (draft_at s hs) (draft_at s next) line (between ++ last ∷ rest) r.0 r.1 ∙ ends_read profile s stage next heads (at + 1) between last rest tail run ends ∙ ap (λ k. ply_header_at k (draft_at stage heads) last) m
      | inr no' ↦
          let same : next ≡ hs = notes_nothing profile hs next line (plain_line (codes "attr") line no') (plain_detail profile line (λ form. plain_line form line no')) n in
          let kept : filter is_declaration (line ∷ between) ≡ line ∷ filter is_declaration between = rw no' refl in
          let all : Steps s (line ∷ filter is_declaration between) stage = subst (λ (ls : List Line). Steps s ls stage) kept steps in
          let t = all.0 in
          let b = plain_statement profile at (draft_at s hs) line no' ∙ next_body s t at hs line all.1 in
          one_more profile at (draft_at s hs) (draft_at t hs) line (between ++ last ∷ rest) b (next_goes s t hs line all.1)
          ∙ ends_read profile t stage hs heads (at + 1) between last rest all.2 (subst (λ (xs : List Head). NotesRun profile xs between heads) same run) ends ∙ ap (λ k. ply_header_at k (draft_at stage heads) last) m
    ]
