-- Heads that comments describe, line by line and all of them together.
use Rattle.std.proofs.Common.{◌≡◌, ℕ, zero, suc, ◌+◌, ◌≤◌, ◌<◌, true, false, List, [], ◌∷◌, ◌++◌, length, map, leb, Some, None, refl, sym, ap, subst, ◌∙◌, append_assoc, arith, inl, inr}
use Rattle.std.specs.Prelude.{codes, slice_get}
use Rattle.std.specs.List.{filter}
use Rattle.std.proofs.lemmas.Bool.{cases_Bool, and_right}
use Rattle.std.proofs.lemmas.List.{length-append, length-map, append-nil}
use Rattle.std.proofs.lemmas.Option.{slice_get_within}
use Rattle.attr_heads.specs.declared.heads.Head.{Head}
use Rattle.ply_text.specs.Comments.{attr_of}
use Rattle.laws_text.specs.HeaderShape.{Line, is_attr, is_detail, is_detail_of, IsAttrLine, AreAttrLines, AreDetailLines, Describe}
use Rattle.laws_text.proofs.Noting.{base, form_behind, attr_given, attr_read, Detail, with_detail, detail_of, detail_given, detail_read}
use Rattle.laws_text.proofs.Detailing.{there_is, settles_bare, named_by, names_one, names_detail, length-with_detail, at_front, detail_front, DetailsRun, Settles, AllSettle, run_settles, AreNamed, settled_run}

-- ---- one line after another

-- what a line notes
pub data Notes (profile : ℕ) (hs : List Head) (line : Line) (next : List Head) : Type 0 where
  attr : (head : Head) → is_attr line ≡ true → length hs < 16 → attr_of (length hs) line ≡ Some head → next ≡ hs ++ head ∷ [] → Notes profile hs line next
  detail : (p : ℕ × Detail) → is_attr line ≡ false → is_detail profile line ≡ true → detail_of hs line ≡ Some p → next ≡ with_detail p.0 p.1 hs → Notes profile hs line next
  nothing : is_attr line ≡ false → is_detail profile line ≡ false → next ≡ hs → Notes profile hs line next

abbrev pub NotesRun : ℕ → List Head → List Line → List Head → Type 0
NotesRun profile hs [] fs = hs ≡ fs
NotesRun profile hs (line ∷ lines) fs = (next : List Head) × Notes profile hs line next × NotesRun profile next lines fs

-- the attr lines give these heads, which are bare yet, from number k on
abbrev pub AttrsRun : ℕ → List Line → List Head → Type 0
AttrsRun k [] [] = Unit {0}
AttrsRun k [] (h ∷ hs) = ⊥
AttrsRun k (line ∷ lines) [] = ⊥
AttrsRun k (line ∷ lines) (h ∷ hs) = (is_attr line ≡ true) × (attr_of k line ≡ Some h) × AttrsRun (k + 1) lines hs

-- each line that says more of a head stands behind the attr line of its head, where k stand before
abbrev pub Behind : ℕ → ℕ → List Line → Type 0
Behind profile k lines = (before after : List Line) (line : Line) → lines ≡ before ++ line ∷ after → is_detail profile line ≡ true → (n : ℕ) × (is_detail_of profile n line ≡ true) × (n < k + length (filter is_attr before))

abbrev count : Line → ℕ
count line = length (filter is_attr (line ∷ []))

count_more : (line : Line) (lines : List Line) → length (filter is_attr (line ∷ lines)) ≡ count line + length (filter is_attr lines)
count_more line lines = elim (cases_Bool (is_attr line)) [
  | inl yes' ↦ rw yes' (omega arith)
  | inr no' ↦ rw no' (omega arith)
]

count_none : (line : Line) → is_attr line ≡ false → count line ≡ 0
count_none line e = rw e refl

pub behind_nil : (profile : ℕ) (k : ℕ) → Behind profile k []
behind_nil profile k [] after line e is = absurd (cc e)
behind_nil profile k (b ∷ before) after line e is = absurd (cc e)

pub behind_more : (profile : ℕ) (k : ℕ) (line : Line) (lines : List Line) → (is_detail profile line ≡ true → (n : ℕ) × (is_detail_of profile n line ≡ true) × (n < k)) → Behind profile (k + count line) lines → Behind profile k (line ∷ lines)
behind_more profile k line lines here rest [] after x e is =
    let s : line ≡ x = cc e in
    let h = here (ap (is_detail profile) s ∙ is) in
    let lt = h.2 in
    (h.0, ap (is_detail_of profile h.0) (sym s) ∙ h.1, omega arith)
behind_more profile k line lines here rest (b ∷ before) after x e is =
    let s : line ≡ b = cc e in
    let t : lines ≡ before ++ x ∷ after = cc e in
    let h = rest before after x t is in
    let lt = h.2 in
    let c = count_more b before in
    let d : count line ≡ count b = ap count s in
    (h.0, h.1, omega arith)

behind_first : (profile : ℕ) (k : ℕ) (line : Line) (lines : List Line) → Behind profile k (line ∷ lines) → is_detail profile line ≡ true → (n : ℕ) × (is_detail_of profile n line ≡ true) × (n < k)
behind_first profile k line lines h is = let x = h [] lines line refl is in let lt = x.2 in (x.0, x.1, omega arith)

behind_rest : (profile : ℕ) (k : ℕ) (line : Line) (lines : List Line) → Behind profile k (line ∷ lines) → Behind profile (k + count line) lines
behind_rest profile k line lines h before after x e is =
    let y = h (line ∷ before) after x (ap (λ (ls : List Line). line ∷ ls) e) is in
    let lt = y.2 in
    let c = count_more line before in
    (y.0, y.1, omega arith)

attr_no_detail : (profile : ℕ) (line : Line) → is_attr line ≡ true → is_detail profile line ≡ false
attr_no_detail profile line e = let f = form_behind (codes "attr") line e in rw f.1 (and_right (leb 3 profile) false refl)

-- ---- heads first, then what more is said of them

-- the heads that are new, and what is said of them
record Splits (profile : ℕ) (hs : List Head) (lines : List Line) (fs : List Head) : Type 0 where
  news : List Head
  attrs : AttrsRun (length hs) (filter is_attr lines) news
  few : length hs + length news ≤ 16
  details : DetailsRun profile (hs ++ news) (filter (is_detail profile) lines) fs
  behind : Behind profile (length hs) lines

split_attr : (profile : ℕ) (hs fs : List Head) (line : Line) (lines : List Line) (head : Head) → is_attr line ≡ true → length hs < 16 → attr_of (length hs) line ≡ Some head → Splits profile (hs ++ head ∷ []) lines fs → Splits profile hs (line ∷ lines) fs
split_attr profile hs fs line lines head is lt e s =
    let n : length (hs ++ head ∷ []) ≡ length hs + 1 = length-append hs (head ∷ []) in
    let few = s.few in
    let rest = subst (λ k. AttrsRun k (filter is_attr lines) s.news) n s.attrs in
    let no' = attr_no_detail profile line is in
    let one : length hs + count line ≡ length (hs ++ head ∷ []) = rw is (sym n) in
    record {
      news = head ∷ s.news;
      attrs = let both : AttrsRun (length hs) (line ∷ filter is_attr lines) (head ∷ s.news) = (is, e, rest) in rw is both;
      few = omega arith;
      details = rw no' (subst (λ (xs : List Head). DetailsRun profile xs (filter (is_detail profile) lines) fs) (append_assoc hs (head ∷ []) s.news) s.details);
      behind = behind_more profile (length hs) line lines (λ q. absurd (cc (q, no'))) (subst (λ k. Behind profile k lines) (sym one) s.behind);
    }

split_detail : (profile : ℕ) (hs fs : List Head) (line : Line) (lines : List Line) (n : ℕ) (q : Detail) → length hs ≤ 16 → is_attr line ≡ false → is_detail profile line ≡ true → detail_of hs line ≡ Some (n, q) → Splits profile (with_detail n q hs) lines fs → Splits profile hs (line ∷ lines) fs
split_detail profile hs fs line lines n q small no' is e s =
    let given = detail_given profile hs line (n, q) is e in
    let lt : n < length hs = slice_get_within hs n given.head given.there in
    let same = length-with_detail n q hs in
    let few = s.few in
    let read : detail_of (hs ++ s.news) line ≡ Some (n, q) = detail_read profile (hs ++ s.news) line n q given.head (omega arith) (at_front hs s.news n lt ∙ given.there) given.bare.0 given.bare.1 given.says in
    let none = count_none line no' in
    let one : length hs + count line ≡ length (with_detail n q hs) = omega arith in
    let both : DetailsRun profile (hs ++ s.news) (line ∷ filter (is_detail profile) lines) fs =
    ((n, q), is, read, subst (λ (xs : List Head). DetailsRun profile xs (filter (is_detail profile) lines) fs) (sym (detail_front hs s.news n q lt)) s.details) in
    record {
      news = s.news;
      attrs = rw no' (subst (λ k. AttrsRun k (filter is_attr lines) s.news) same s.attrs);
      few = omega arith;
      details = rw is both;
      behind = behind_more profile (length hs) line lines (λ _. (n, named_by profile n given.head.dtype given.head.comps q line given.says, lt)) (subst (λ k. Behind profile k lines) (sym one) s.behind);
    }

split_nothing : (profile : ℕ) (hs fs : List Head) (line : Line) (lines : List Line) → is_attr line ≡ false → is_detail profile line ≡ false → Splits profile hs lines fs → Splits profile hs (line ∷ lines) fs
split_nothing profile hs fs line lines no' none s =
    let one : length hs + count line ≡ length hs = rw no' (omega arith) in
    record {
      news = s.news;
      attrs = rw no' s.attrs;
      few = s.few;
      details = rw none s.details;
      behind = behind_more profile (length hs) line lines (λ q. absurd (cc (q, none))) (subst (λ k. Behind profile k lines) (sym one) s.behind);
    }

run_splits : (profile : ℕ) (hs fs : List Head) (lines : List Line) → length hs ≤ 16 → NotesRun profile hs lines fs → Splits profile hs lines fs
run_splits profile hs fs [] small e = record { news = []; attrs = tt; few = omega arith; details = append-nil hs ∙ e; behind = behind_nil profile (length hs) }
run_splits profile hs fs (line ∷ lines) small (next, attr head is lt e f, run) =
    let n : length (hs ++ head ∷ []) ≡ length hs + 1 = length-append hs (head ∷ []) in
    split_attr profile hs fs line lines head is lt e (run_splits profile (hs ++ head ∷ []) fs lines (omega arith) (subst (λ (x : List Head). NotesRun profile x lines fs) f run))
run_splits profile hs fs (line ∷ lines) small (next, detail p no' is e f, run) =
    let n = length-with_detail p.0 p.1 hs in
    split_detail profile hs fs line lines p.0 p.1 small no' is e (run_splits profile (with_detail p.0 p.1 hs) fs lines (omega arith) (subst (λ (x : List Head). NotesRun profile x lines fs) f run))
run_splits profile hs fs (line ∷ lines) small (next, nothing no' none f, run) =
    split_nothing profile hs fs line lines no' none (run_splits profile hs fs lines small (subst (λ (x : List Head). NotesRun profile x lines fs) f run))

-- ---- and together again

join_attr : (profile : ℕ) (hs fs : List Head) (line : Line) (lines : List Line) (P : Type 0) → is_attr line ≡ true → Splits profile hs (line ∷ lines) fs
    → ((head : Head) → length hs < 16 → attr_of (length hs) line ≡ Some head → Splits profile (hs ++ head ∷ []) lines fs → P) → P
join_attr profile hs fs line lines P is s k = go s.news refl where
  kept : filter is_attr (line ∷ lines) ≡ line ∷ filter is_attr lines
  kept = rw is refl

  no' : is_detail profile line ≡ false
  no' = attr_no_detail profile line is

  go : (news : List Head) → s.news ≡ news → P
  go [] e = absurd (subst (λ (xs : List Head). AttrsRun (length hs) (line ∷ filter is_attr lines) xs) e (subst (λ (ls : List Line). AttrsRun (length hs) ls s.news) kept s.attrs))
  go (head ∷ news) e =
      let a : AttrsRun (length hs) (line ∷ filter is_attr lines) (head ∷ news) = subst (λ (xs : List Head). AttrsRun (length hs) (line ∷ filter is_attr lines) xs) e (subst (λ (ls : List Line). AttrsRun (length hs) ls s.news) kept s.attrs) in
      let n : length (hs ++ head ∷ []) ≡ length hs + 1 = length-append hs (head ∷ []) in
      let few = s.few in
      let m : length s.news ≡ suc (length news) = ap length e in
      let one : length hs + count line ≡ length (hs ++ head ∷ []) = rw is (sym n) in
      let q : DetailsRun profile (hs ++ s.news) (filter (is_detail profile) lines) fs = subst (λ (ls : List Line). DetailsRun profile (hs ++ s.news) ls fs) (let d : filter (is_detail profile) (line ∷ lines) ≡ filter (is_detail profile) lines = rw no' refl in d) s.details in
      k head (omega arith) a.1 (record {
        news = news;
        attrs = subst (λ k. AttrsRun k (filter is_attr lines) news) (sym n) a.2;
        few = omega arith;
        details = subst (λ (xs : List Head). DetailsRun profile xs (filter (is_detail profile) lines) fs) (ap (λ (xs : List Head). hs ++ xs) e ∙ sym (append_assoc hs (head ∷ []) news)) q;
        behind = subst (λ k. Behind profile k lines) one (behind_rest profile (length hs) line lines s.behind);
      })

join_detail : (profile : ℕ) (hs fs : List Head) (line : Line) (lines : List Line) (P : Type 0) → is_attr line ≡ false → is_detail profile line ≡ true → Splits profile hs (line ∷ lines) fs
    → ((p : ℕ × Detail) → detail_of hs line ≡ Some p → Splits profile (with_detail p.0 p.1 hs) lines fs → P) → P
join_detail profile hs fs line lines P no' is s k =
    let kept : filter (is_detail profile) (line ∷ lines) ≡ line ∷ filter (is_detail profile) lines = rw is refl in
    let q : DetailsRun profile (hs ++ s.news) (line ∷ filter (is_detail profile) lines) fs = subst (λ (ls : List Line). DetailsRun profile (hs ++ s.news) ls fs) kept s.details in
    let p = q.0 in
    let given = detail_given profile (hs ++ s.news) line p is q.2 in
    let named = behind_first profile (length hs) line lines s.behind is in
    let same : named.0 ≡ p.0 = names_one profile named.0 p.0 line named.1 (named_by profile p.0 given.head.dtype given.head.comps p.1 line given.says) in
    let lt : p.0 < length hs = subst (λ n. n < length hs) same named.2 in
    let few = s.few in
    let there : detail_of hs line ≡ Some p = detail_read profile hs line p.0 p.1 given.head (omega arith) (sym (at_front hs s.news p.0 lt) ∙ given.there) given.bare.0 given.bare.1 given.says in
    let n = length-with_detail p.0 p.1 hs in
    let none = count_none line no' in
    let one : length hs + count line ≡ length (with_detail p.0 p.1 hs) = omega arith in
    let a : AttrsRun (length hs) (filter is_attr lines) s.news = subst (λ (ls : List Line). AttrsRun (length hs) ls s.news) (let d : filter is_attr (line ∷ lines) ≡ filter is_attr lines = rw no' refl in d) s.attrs in
    k p there (record {
      news = s.news;
      attrs = subst (λ k. AttrsRun k (filter is_attr lines) s.news) (sym n) a;
      few = omega arith;
      details = subst (λ (xs : List Head). DetailsRun profile xs (filter (is_detail profile) lines) fs) (detail_front hs s.news p.0 p.1 lt) q.3;
      behind = subst (λ k. Behind profile k lines) one (behind_rest profile (length hs) line lines s.behind);
    })

join_nothing : (profile : ℕ) (hs fs : List Head) (line : Line) (lines : List Line) → is_attr line ≡ false → is_detail profile line ≡ false → Splits profile hs (line ∷ lines) fs → Splits profile hs lines fs
join_nothing profile hs fs line lines no' none s =
    let one : length hs + count line ≡ length hs = rw no' (omega arith) in
    record {
      news = s.news;
      attrs = subst (λ (ls : List Line). AttrsRun (length hs) ls s.news) (let d : filter is_attr (line ∷ lines) ≡ filter is_attr lines = rw no' refl in d) s.attrs;
      few = s.few;
      details = subst (λ (ls : List Line). DetailsRun profile (hs ++ s.news) ls fs) (let d : filter (is_detail profile) (line ∷ lines) ≡ filter (is_detail profile) lines = rw none refl in d) s.details;
      behind = subst (λ k. Behind profile k lines) one (behind_rest profile (length hs) line lines s.behind);
    }

no_news : (profile : ℕ) (hs fs news : List Head) → AttrsRun (length hs) [] news → DetailsRun profile (hs ++ news) [] fs → hs ≡ fs
no_news profile hs fs [] a q = sym (append-nil hs) ∙ q
no_news profile hs fs (h ∷ news) a q = absurd a

splits_run : (profile : ℕ) (hs fs : List Head) (lines : List Line) → Splits profile hs lines fs → NotesRun profile hs lines fs
splits_run profile hs fs [] s = no_news profile hs fs s.news s.attrs s.details
splits_run profile hs fs (line ∷ lines) s = elim (cases_Bool (is_attr line)) [
  | inl yes' ↦ join_attr profile hs fs line lines (NotesRun profile hs (line ∷ lines) fs) yes' s (λ head lt e t. (hs ++ head ∷ [], attr head yes' lt e refl, splits_run profile (hs ++ head ∷ []) fs lines t))
  | inr no' ↦ elim (cases_Bool (is_detail profile line)) [
    | inl is ↦ join_detail profile hs fs line lines (NotesRun profile hs (line ∷ lines) fs) no' is s (λ p e t. (with_detail p.0 p.1 hs, detail p no' is e refl, splits_run profile (with_detail p.0 p.1 hs) fs lines t))
    | inr none ↦ (hs, nothing no' none refl, splits_run profile hs fs lines (join_nothing profile hs fs line lines no' none s))
  ]
]

-- ---- the heads as a whole

abbrev bases : List Head → List Head
bases heads = map base heads

-- what an attr line gives doesn't depend on the quantisation and the square
attr_base : (k : ℕ) (h f : Head) (line : Line) → base h ≡ base f → IsAttrLine k h line → IsAttrLine k f line
attr_base k h f line e is =
    let a : IsAttrLine k (base h) line = record { numbers = is.numbers; form = is.form; say = is.say; usage = is.usage; dtype = is.dtype; comps = is.comps; flag = is.flag; id = is.id } in
    let b : IsAttrLine k (base f) line = subst (λ (x : Head). IsAttrLine k x line) e a in
    record { numbers = b.numbers; form = b.form; say = b.say; usage = b.usage; dtype = b.dtype; comps = b.comps; flag = b.flag; id = b.id }

is_attr_line : (k : ℕ) (h : Head) (line : Line) → IsAttrLine k h line → is_attr line ≡ true
is_attr_line k h line is = rw is.form refl

-- new heads, and those that they become
attrs_give : (k : ℕ) (lines : List Line) (hs fs : List Head) → length hs ≡ length fs → ((j : ℕ) (h f : Head) → slice_get hs j ≡ Some h → slice_get fs j ≡ Some f → base h ≡ base f) → AttrsRun k lines hs → AreAttrLines k fs lines
attrs_give k [] [] [] e same run = tt
attrs_give k [] [] (f ∷ fs) e same run = absurd (omega arith)
attrs_give k [] (h ∷ hs) fs e same run = absurd run
attrs_give k (line ∷ lines) [] fs e same run = absurd run
attrs_give k (line ∷ lines) (h ∷ hs) [] e same run = absurd (omega arith)
attrs_give k (line ∷ lines) (h ∷ hs) (f ∷ fs) e same run =
    (attr_base k h f line (same 0 h f refl refl) (attr_given k line h run.0 run.1).0, attrs_give (k + 1) lines hs fs (omega arith) (λ j x y p q. same (suc j) x y p q) run.2)

attrs_plain : (k : ℕ) (lines : List Line) (hs : List Head) (j : ℕ) (h : Head) → AttrsRun k lines hs → slice_get hs j ≡ Some h → (h.quant ≡ None) × (h.octa ≡ None)
attrs_plain k lines [] j h run e = absurd (cc e)
attrs_plain k [] (x ∷ hs) j h run e = absurd run
attrs_plain k (line ∷ lines) (x ∷ hs) zero h run e = let s : x ≡ h = cc e in subst (λ (y : Head). (y.quant ≡ None) × (y.octa ≡ None)) s (attr_given k line x run.0 run.1).1
attrs_plain k (line ∷ lines) (x ∷ hs) (suc j) h run e = attrs_plain (k + 1) lines hs j h run.2 e

keep_line : (profile : ℕ) (k : ℕ) (line : Line) (lines : List Line) → is_detail_of profile k line ≡ true → filter (is_detail_of profile k) (line ∷ lines) ≡ line ∷ filter (is_detail_of profile k) lines
keep_line profile k line lines e = rw e refl

-- the lines that say more of a head are among all such lines
filter_details : (profile : ℕ) (k : ℕ) (lines : List Line) → filter (is_detail_of profile k) (filter (is_detail profile) lines) ≡ filter (is_detail_of profile k) lines
filter_details profile k [] = refl
filter_details profile k (line ∷ lines) = elim (cases_Bool (is_detail_of profile k line)) [
  | inl yes' ↦
      let is = names_detail profile k line yes' in
      let a : filter (is_detail profile) (line ∷ lines) ≡ line ∷ filter (is_detail profile) lines = rw is refl in
      ap (filter (is_detail_of profile k)) a ∙ keep_line profile k line (filter (is_detail profile) lines) yes' ∙ ap (λ (ls : List Line). line ∷ ls) (filter_details profile k lines) ∙ sym (keep_line profile k line lines yes')
  | inr no' ↦ elim (cases_Bool (is_detail profile line)) [
    | inl is ↦
        let a : filter (is_detail profile) (line ∷ lines) ≡ line ∷ filter (is_detail profile) lines = rw is refl in
        let b : filter (is_detail_of profile k) (line ∷ filter (is_detail profile) lines) ≡ filter (is_detail_of profile k) (filter (is_detail profile) lines) = rw no' refl in
        let c : filter (is_detail_of profile k) (line ∷ lines) ≡ filter (is_detail_of profile k) lines = rw no' refl in
        ap (filter (is_detail_of profile k)) a ∙ b ∙ filter_details profile k lines ∙ sym c
    | inr none ↦
        let a : filter (is_detail profile) (line ∷ lines) ≡ filter (is_detail profile) lines = rw none refl in
        let c : filter (is_detail_of profile k) (line ∷ lines) ≡ filter (is_detail_of profile k) lines = rw no' refl in
        ap (filter (is_detail_of profile k)) a ∙ filter_details profile k lines ∙ sym c
  ]
]

-- comments that are noted one after another describe the heads
pub notes_describe : (profile : ℕ) (fs : List Head) (lines : List Line) → NotesRun profile [] lines fs → Describe profile fs lines
notes_describe profile fs lines run =
    let s = run_splits profile [] fs lines (omega arith) run in
    let r = run_settles profile s.news fs (filter (is_detail profile) lines) s.details in
    let long = r.0 in
    record {
      attrs = attrs_give 0 (filter is_attr lines) s.news fs long (λ j h f p q. (r.1 j h f p q).same) s.attrs;
      details = λ k f e.
          let h = there_is s.news k (let lt = slice_get_within fs k f e in omega arith) in
          let bare = attrs_plain 0 (filter is_attr lines) s.news k h.0 s.attrs h.1 in
          subst (λ (ls : List Line). AreDetailLines profile k f.dtype f.comps f.quant f.octa ls) (filter_details profile k lines)
          (settles_bare profile k h.0 f (filter (is_detail_of profile k) (filter (is_detail profile) lines)) bare.0 bare.1 (r.1 k h.0 f h.1 e).detail);
      behind = λ before after line e is. let b = s.behind before after line e is in let lt = b.2 in (b.0, b.1, omega arith);
    }

attrs_run : (k : ℕ) (fs : List Head) (lines : List Line) → k + length fs ≤ 16 → AreAttrLines k fs lines → AttrsRun k lines (bases fs)
attrs_run k [] [] few h = tt
attrs_run k [] (line ∷ lines) few h = absurd h
attrs_run k (f ∷ fs) [] few h = absurd h
attrs_run k (f ∷ fs) (line ∷ lines) few h = (is_attr_line k f line h.0, attr_read k line f (omega arith) h.0, attrs_run (k + 1) fs lines (omega arith) h.1)

attrs_count : (k : ℕ) (fs : List Head) (lines : List Line) → AreAttrLines k fs lines → length lines ≡ length fs
attrs_count k [] [] h = refl
attrs_count k [] (line ∷ lines) h = absurd h
attrs_count k (f ∷ fs) [] h = absurd h
attrs_count k (f ∷ fs) (line ∷ lines) h = ap suc (attrs_count (k + 1) fs lines h.1)

all_named : (profile : ℕ) (k n : ℕ) (lines : List Line) → Behind profile k lines → k + length (filter is_attr lines) ≤ n → AreNamed profile n (filter (is_detail profile) lines)
all_named profile k n [] h le = tt
all_named profile k n (line ∷ lines) h le =
    let c = count_more line lines in
    let rest : AreNamed profile n (filter (is_detail profile) lines) = all_named profile (k + count line) n lines (behind_rest profile k line lines h) (omega arith) in
    elim (cases_Bool (is_detail profile line)) [
      | inl is ↦ let b = behind_first profile k line lines h is in let lt = b.2 in let both : AreNamed profile n (line ∷ filter (is_detail profile) lines) = ((b.0, b.1, omega arith), rest) in rw is both
      | inr none ↦ rw none rest
    ]

at_bases : (fs : List Head) (k : ℕ) (h f : Head) → slice_get (bases fs) k ≡ Some h → slice_get fs k ≡ Some f → h ≡ base f
at_bases [] k h f p q = absurd (cc q)
at_bases (x ∷ fs) zero h f p q = let a : base x ≡ h = cc p in let b : x ≡ f = cc q in sym a ∙ ap base b
at_bases (x ∷ fs) (suc k) h f p q = at_bases fs k h f p q

-- and comments that describe heads are noted one after another
pub describe_notes : (profile : ℕ) (fs : List Head) (lines : List Line) → length fs ≤ 16 → Describe profile fs lines → NotesRun profile [] lines fs
describe_notes profile fs lines few d =
    let n : length (bases fs) ≡ length fs = length-map fs base in
    let c = attrs_count 0 fs (filter is_attr lines) d.attrs in
    let behind : Behind profile 0 lines = λ before after line e is. let b = d.behind before after line e is in let lt = b.2 in (b.0, b.1, omega arith) in
    let settles : AllSettle profile (bases fs) (filter (is_detail profile) lines) fs = λ k h f p q.
    subst (λ (x : Head). Settles profile k x f (filter (is_detail profile) lines)) (sym (at_bases fs k h f p q))
    (record { same = refl; detail = subst (λ (ls : List Line). AreDetailLines profile k f.dtype f.comps f.quant f.octa ls) (sym (filter_details profile k lines)) (d.details k f q) }) in
    splits_run profile [] fs lines (record {
      news = bases fs;
      attrs = attrs_run 0 fs (filter is_attr lines) (omega arith) d.attrs;
      few = omega arith;
      details = settled_run profile (bases fs) fs (filter (is_detail profile) lines) n (omega arith) (subst (λ m. AreNamed profile m (filter (is_detail profile) lines)) (sym n) (all_named profile 0 (length fs) lines behind (omega arith))) settles;
      behind = behind;
    })
