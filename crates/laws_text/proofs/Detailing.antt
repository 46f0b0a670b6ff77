-- Heads that are given their quantisations and squares, line by line and each by its own line.
use Rattle.std.proofs.Common.{◌≡◌, ℕ, zero, suc, ◌≤◌, ◌<◌, true, false, List, [], ◌∷◌, ◌++◌, length, Option, Some, None, refl, sym, ap, subst, ◌∙◌, arith, inl, inr}
use Rattle.std.specs.Prelude.{slice_get}
use Rattle.std.specs.List.{filter}
use Rattle.std.proofs.lemmas.Bool.{and_parts, cases_eq, false_from_ne_true, le-leb}
use Rattle.attr_heads.specs.declared.heads.Head.{Head}
use Rattle.attr_heads.specs.declared.quants.Quant.{Quant}
use Rattle.laws_text.specs.HeaderShape.{Line, is_detail, is_detail_of, IsQuantLine, IsOctaLine, AreDetailLines}
use Rattle.laws_text.proofs.Lines.{writes_one}
use Rattle.laws_text.proofs.Noting.{base, Detail, quantisation, square, given, with_detail, detail_of, IsDetailLine, DetailGiven, detail_given, detail_read}

-- ---- the head that a line names

pub named_by : (profile n dtype comps : ℕ) (d : Detail) (line : Line) → IsDetailLine profile n dtype comps d line → is_detail_of profile n line ≡ true
named_by profile n dtype comps (quantisation q) line is = rw is.form is.head
named_by profile n dtype comps (square bits) line is = rw (is.form, le-leb 3 profile is.since) is.head

pub names_one : (profile k n : ℕ) (line : Line) → is_detail_of profile k line ≡ true → is_detail_of profile n line ≡ true → k ≡ n
names_one profile k n line e f = writes_one _ k n (and_parts (is_detail profile line) _ e).1 (and_parts (is_detail profile line) _ f).1

pub names_detail : (profile k : ℕ) (line : Line) → is_detail_of profile k line ≡ true → is_detail profile line ≡ true
names_detail profile k line e = (and_parts (is_detail profile line) _ e).0

names_other : (profile k n : ℕ) (line : Line) → is_detail_of profile n line ≡ true → (k ≡ n → ⊥) → is_detail_of profile k line ≡ false
names_other profile k n line e ne = false_from_ne_true (is_detail_of profile k line) (λ f. ne (names_one profile k n line f e))

-- ---- places of heads

pub length-with_detail : (n : ℕ) (d : Detail) (heads : List Head) → length (with_detail n d heads) ≡ length heads
length-with_detail n d [] = refl
length-with_detail zero d (h ∷ heads) = refl
length-with_detail (suc n) d (h ∷ heads) = ap suc (length-with_detail n d heads)

at_detail : (n : ℕ) (d : Detail) (heads : List Head) (head : Head) → slice_get heads n ≡ Some head → slice_get (with_detail n d heads) n ≡ Some (given d head)
at_detail n d [] head e = absurd (cc)
at_detail zero d (h ∷ heads) head e = let s : h ≡ head = cc e in ap (λ (x : Head). Some (given d x)) s
at_detail (suc n) d (h ∷ heads) head e = at_detail n d heads head e

at_other : (n k : ℕ) (d : Detail) (heads : List Head) → (k ≡ n → ⊥) → slice_get (with_detail n d heads) k ≡ slice_get heads k
at_other n k d [] ne = refl
at_other zero zero d (h ∷ heads) ne = absurd (ne refl)
at_other zero (suc k) d (h ∷ heads) ne = refl
at_other (suc n) zero d (h ∷ heads) ne = refl
at_other (suc n) (suc k) d (h ∷ heads) ne = at_other n k d heads (λ e. ne (ap suc e))

pub at_front : (heads more : List Head) (k : ℕ) → k < length heads → slice_get (heads ++ more) k ≡ slice_get heads k
at_front [] more k lt = absurd (omega arith)
at_front (h ∷ heads) more zero lt = refl
at_front (h ∷ heads) more (suc k) lt = at_front heads more k (omega arith)

pub detail_front : (heads more : List Head) (k : ℕ) (d : Detail) → k < length heads → with_detail k d (heads ++ more) ≡ with_detail k d heads ++ more
detail_front [] more k d lt = absurd (omega arith)
detail_front (h ∷ heads) more zero d lt = refl
detail_front (h ∷ heads) more (suc k) d lt = ap (λ (hs : List Head). h ∷ hs) (detail_front heads more k d (omega arith))

pub there_is : (heads : List Head) (k : ℕ) → k < length heads → (head : Head) × (slice_get heads k ≡ Some head)
there_is [] k lt = absurd (omega arith)
there_is (h ∷ heads) zero lt = (h, refl)
there_is (h ∷ heads) (suc k) lt = there_is heads k (omega arith)

same_heads : (hs fs : List Head) → length hs ≡ length fs → ((k : ℕ) (h f : Head) → slice_get hs k ≡ Some h → slice_get fs k ≡ Some f → h ≡ f) → hs ≡ fs
same_heads [] [] e each = refl
same_heads [] (f ∷ fs) e each = absurd (omega arith)
same_heads (h ∷ hs) [] e each = absurd (omega arith)
same_heads (h ∷ hs) (f ∷ fs) e each =
    ap (λ (x : Head). x ∷ hs) (each 0 h f refl refl) ∙ ap (λ (xs : List Head). f ∷ xs) (same_heads hs fs (omega arith) (λ k x y p q. each (suc k) x y p q))

-- ---- lines one after another

abbrev pub DetailsRun : ℕ → List Head → List Line → List Head → Type 0
DetailsRun profile hs [] fs = hs ≡ fs
DetailsRun profile hs (line ∷ lines) fs = (p : ℕ × Detail) × (is_detail profile line ≡ true) × (detail_of hs line ≡ Some p) × DetailsRun profile (with_detail p.0 p.1 hs) lines fs

-- what these lines leave of a head, which has this quantisation and this square before: where it is bare, they are those of the
-- head behind them; else it stays, and is named by none
abbrev pub SettlesDetail : ℕ → ℕ → Option Quant → Option ℕ → Head → List Line → Type 0
SettlesDetail profile k None None f lines = AreDetailLines profile k f.dtype f.comps f.quant f.octa lines
SettlesDetail profile k None (Some bits) f lines = (f.quant ≡ None) × (f.octa ≡ Some bits) × (lines ≡ [])
SettlesDetail profile k (Some q) o f lines = (f.quant ≡ Some q) × (f.octa ≡ o) × (lines ≡ [])

pub record Settles (profile k : ℕ) (h f : Head) (lines : List Line) : Type 0 where
  pub same : base h ≡ base f
  pub detail : SettlesDetail profile k h.quant h.octa f (filter (is_detail_of profile k) lines)

-- all heads are settled
abbrev pub AllSettle : ℕ → List Head → List Line → List Head → Type 0
AllSettle profile hs lines fs = (k : ℕ) (h f : Head) → slice_get hs k ≡ Some h → slice_get fs k ≡ Some f → Settles profile k h f lines

-- a head that is bare
pub bare_settles : (profile k : ℕ) (h f : Head) (ls : List Line) → h.quant ≡ None → h.octa ≡ None → AreDetailLines profile k f.dtype f.comps f.quant f.octa ls → SettlesDetail profile k h.quant h.octa f ls
bare_settles profile k h f ls a b are = rw (a, b) are

pub settles_bare : (profile k : ℕ) (h f : Head) (ls : List Line) → h.quant ≡ None → h.octa ≡ None → SettlesDetail profile k h.quant h.octa f ls → AreDetailLines profile k f.dtype f.comps f.quant f.octa ls
settles_bare profile k h f ls a b s =
    subst (λ (o : Option ℕ). SettlesDetail profile k None o f ls) b (subst (λ (q : Option Quant). SettlesDetail profile k q h.octa f ls) a s)

settled : (profile k : ℕ) (h f : Head) → h ≡ f → Settles profile k h f []
settled profile k h f e = subst (λ (f : Head). Settles profile k h f []) e (record { same = refl; detail = go h.quant h.octa refl refl }) where
  go : (q : Option Quant) (o : Option ℕ) → h.quant ≡ q → h.octa ≡ o → SettlesDetail profile k q o h []
  go None None a b = rw (a, b) refl
  go None (Some bits) a b = (a, b, refl)
  go (Some q) o a b = (a, b, refl)

comps_same : (h f : Head) → base h ≡ base f → h.comps ≡ f.comps
comps_same h f e = ap (λ (x : Head). x.comps) e

dtype_same : (h f : Head) → base h ≡ base f → h.dtype ≡ f.dtype
dtype_same h f e = ap (λ (x : Head). x.dtype) e

-- what a line says of a head, it says of one that differs in quantisation and square
says_same : (profile k : ℕ) (h f : Head) (d : Detail) (line : Line) → base h ≡ base f → IsDetailLine profile k h.dtype h.comps d line → IsDetailLine profile k f.dtype f.comps d line
says_same profile k h f d line e is =
    subst (λ c. IsDetailLine profile k f.dtype c d line) (comps_same h f e) (subst (λ t. IsDetailLine profile k t h.comps d line) (dtype_same h f e) is)

-- a head that is given by one line
one_line : (profile k : ℕ) (h f : Head) (d : Detail) (line : Line) (ls : List Line) → h.quant ≡ None → h.octa ≡ None → base h ≡ base f → IsDetailLine profile k h.dtype h.comps d line
    → SettlesDetail profile k (given d h).quant (given d h).octa f ls → (ls ≡ []) × AreDetailLines profile k f.dtype f.comps f.quant f.octa (line ∷ [])
one_line profile k h f (quantisation q) line ls a b e is s =
    let there : f.octa ≡ None = s.1 ∙ b in
    let says = says_same profile k h f (quantisation q) line e is in
    (s.2, rw (s.0, there) (line, refl, says))
one_line profile k h f (square bits) line ls a b e is s =
    let t : SettlesDetail profile k None (Some bits) f ls = subst (λ (q : Option Quant). SettlesDetail profile k q (Some bits) f ls) a s in
    let says = says_same profile k h f (square bits) line e is in
    (t.2, rw (t.0, t.1) (line, refl, says))

base_given : (d : Detail) (h : Head) → base (given d h) ≡ base h
base_given (quantisation q) h = refl
base_given (square bits) h = refl

-- the head of a line in front is settled by it
settled_first : (profile k : ℕ) (d : Detail) (h f : Head) (line : Line) (lines : List Line) → h.quant ≡ None → h.octa ≡ None → IsDetailLine profile k h.dtype h.comps d line → Settles profile k (given d h) f lines → Settles profile k h f (line ∷ lines)
settled_first profile k d h f line lines a b is s =
    let same : base h ≡ base f = sym (base_given d h) ∙ s.same in
    let one = one_line profile k h f d line (filter (is_detail_of profile k) lines) a b same is s.detail in
    let rest : filter (is_detail_of profile k) lines ≡ [] = one.0 in
    let first : filter (is_detail_of profile k) (line ∷ lines) ≡ line ∷ [] = rw (named_by profile k h.dtype h.comps d line is, rest) refl in
    record {
      same = same;
      detail =
          bare_settles profile k h f (filter (is_detail_of profile k) (line ∷ lines)) a b
          (subst (λ (ls : List Line). AreDetailLines profile k f.dtype f.comps f.quant f.octa ls) (sym first) one.1);
    }

-- and no other head
drop_line : (profile k : ℕ) (line : Line) (lines : List Line) → is_detail_of profile k line ≡ false → filter (is_detail_of profile k) (line ∷ lines) ≡ filter (is_detail_of profile k) lines
drop_line profile k line lines e = rw e refl

settled_other : (profile k : ℕ) (h f : Head) (line : Line) (lines : List Line) → is_detail_of profile k line ≡ false → Settles profile k h f lines → Settles profile k h f (line ∷ lines)
settled_other profile k h f line lines e s = record { same = s.same; detail = subst (λ (ls : List Line). SettlesDetail profile k h.quant h.octa f ls) (sym (drop_line profile k line lines e)) s.detail }

settled_other_back : (profile k : ℕ) (h f : Head) (line : Line) (lines : List Line) → is_detail_of profile k line ≡ false → Settles profile k h f (line ∷ lines) → Settles profile k h f lines
settled_other_back profile k h f line lines e s = record { same = s.same; detail = subst (λ (ls : List Line). SettlesDetail profile k h.quant h.octa f ls) (drop_line profile k line lines e) s.detail }

-- a line that is read settles its head, and leaves the others to those behind it
line_settles : (profile : ℕ) (hs fs : List Head) (n : ℕ) (d : Detail) (line : Line) (lines : List Line) → DetailGiven profile hs n d line → AllSettle profile (with_detail n d hs) lines fs → AllSettle profile hs (line ∷ lines) fs
line_settles profile hs fs n d line lines gives rest k h f p r = elim (cases_eq k n) [
  | inl same ↦
      let there : slice_get hs n ≡ Some h = ap (slice_get hs) (sym same) ∙ p in
      let one : gives.head ≡ h = let t = gives.there in cc (t, there) in
      let next : Settles profile n (given d h) f lines = rest n (given d h) f (at_detail n d hs h there) (ap (slice_get fs) (sym same) ∙ r) in
      let says : IsDetailLine profile n h.dtype h.comps d line = subst (λ (x : Head). IsDetailLine profile n x.dtype x.comps d line) one gives.says in
      let a : h.quant ≡ None = ap (λ (x : Head). x.quant) (sym one) ∙ gives.bare.0 in
      let b : h.octa ≡ None = ap (λ (x : Head). x.octa) (sym one) ∙ gives.bare.1 in
      subst (λ (j : ℕ). Settles profile j h f (line ∷ lines)) (sym same) (settled_first profile n d h f line lines a b says next)
  | inr other ↦ settled_other profile k h f line lines (names_other profile k n line (named_by profile n gives.head.dtype gives.head.comps d line gives.says) other) (rest k h f (at_other n k d hs other ∙ p) r)
]

-- lines that are read one after another settle all heads
pub run_settles : (profile : ℕ) (hs fs : List Head) (lines : List Line) → DetailsRun profile hs lines fs → (length hs ≡ length fs) × AllSettle profile hs lines fs
run_settles profile hs fs [] e = (ap length e, λ k h f p q. let x = ap (λ (xs : List Head). slice_get xs k) e in settled profile k h f (cc (p, q, x)))
run_settles profile hs fs (line ∷ lines) (p, is, e, run) =
    let rest = run_settles profile (with_detail p.0 p.1 hs) fs lines run in
    (sym (length-with_detail p.0 p.1 hs) ∙ rest.0, line_settles profile hs fs p.0 p.1 line lines (detail_given profile hs line p is e) rest.1)

-- ---- and the other way round

-- each line names one of n heads
abbrev pub AreNamed : ℕ → ℕ → List Line → Type 0
AreNamed profile n [] = Unit {0}
AreNamed profile n (line ∷ lines) = ((k : ℕ) × (is_detail_of profile k line ≡ true) × (k < n)) × AreNamed profile n lines

same_details : (profile k : ℕ) (h f : Head) → Settles profile k h f [] → h ≡ f
same_details profile k h f s =
    let p = go h.quant h.octa f.quant f.octa refl refl s.detail in
    ap (λ (x : Head). record x { quant = h.quant; octa = h.octa }) s.same ∙ ap (λ (q : Option Quant). record f { quant = q; octa = h.octa }) p.0 ∙ ap (λ (o : Option ℕ). record f { octa = o }) p.1
  where
    go : (q : Option Quant) (o : Option ℕ) (p : Option Quant) (r : Option ℕ) → f.quant ≡ p → f.octa ≡ r → SettlesDetail profile k q o f [] → (q ≡ f.quant) × (o ≡ f.octa)
    go (Some q) o p r a b t = (sym t.0, sym t.1)
    go None (Some bits) p r a b t = (sym t.0, sym t.1)
    go None None None None a b t = (sym a, sym b)
    go None None (Some q) None a b t =
        let u = subst (λ (o : Option ℕ). AreDetailLines profile k f.dtype f.comps (Some q) o []) b (subst (λ (p : Option Quant). AreDetailLines profile k f.dtype f.comps p f.octa []) a t) in
        let e = u.1 in absurd (cc e)
    go None None None (Some bits) a b t =
        let u = subst (λ (o : Option ℕ). AreDetailLines profile k f.dtype f.comps None o []) b (subst (λ (p : Option Quant). AreDetailLines profile k f.dtype f.comps p f.octa []) a t) in
        let e = u.1 in absurd (cc e)
    go None None (Some q) (Some bits) a b t =
        absurd (subst (λ (o : Option ℕ). AreDetailLines profile k f.dtype f.comps (Some q) o []) b (subst (λ (p : Option Quant). AreDetailLines profile k f.dtype f.comps p f.octa []) a t))

-- the line in front of those that settle a head which it names
record FirstSettles (profile k : ℕ) (h f : Head) (line : Line) (lines : List Line) : Type 0 where
  d : Detail
  quant : h.quant ≡ None
  octa : h.octa ≡ None
  says : IsDetailLine profile k f.dtype f.comps d line
  left : Settles profile k (given d h) f lines

first_settles : (profile k : ℕ) (h f : Head) (line : Line) (lines : List Line) → is_detail_of profile k line ≡ true → Settles profile k h f (line ∷ lines) → FirstSettles profile k h f line lines
first_settles profile k h f line lines is s =
    go h.quant h.octa f.quant f.octa refl refl refl refl (subst (λ (ls : List Line). SettlesDetail profile k h.quant h.octa f ls) kept s.detail)
  where
    kept : filter (is_detail_of profile k) (line ∷ lines) ≡ line ∷ filter (is_detail_of profile k) lines
    kept = rw is refl

    both : (p : Option Quant) (r : Option ℕ) → f.quant ≡ p → f.octa ≡ r → AreDetailLines profile k f.dtype f.comps f.quant f.octa (line ∷ filter (is_detail_of profile k) lines) → AreDetailLines profile k f.dtype f.comps p r (line ∷ filter (is_detail_of profile k) lines)
    both p r x y t = subst (λ (o : Option ℕ). AreDetailLines profile k f.dtype f.comps p o (line ∷ filter (is_detail_of profile k) lines)) y (subst (λ (q : Option Quant). AreDetailLines profile k f.dtype f.comps q f.octa (line ∷ filter (is_detail_of profile k) lines)) x t)

    go : (q : Option Quant) (o : Option ℕ) (p : Option Quant) (r : Option ℕ) → h.quant ≡ q → h.octa ≡ o → f.quant ≡ p → f.octa ≡ r → SettlesDetail profile k q o f (line ∷ filter (is_detail_of profile k) lines) → FirstSettles profile k h f line lines
    go (Some q) o p r a b x y t = let e = t.2 in absurd (cc e)
    go None (Some bits) p r a b x y t = let e = t.2 in absurd (cc e)
    go None None None None a b x y t = let e : line ∷ filter (is_detail_of profile k) lines ≡ [] = both None None x y t in absurd (cc e)
    go None None (Some q) (Some bits) a b x y t = absurd (both (Some q) (Some bits) x y t)
    go None None (Some q) None a b x y t =
        let u = both (Some q) None x y t in
        let e = u.1 in
        let same : u.0 ≡ line = cc e in
        let none : filter (is_detail_of profile k) lines ≡ [] = cc e in
        record {
          d = quantisation q;
          quant = a;
          octa = b;
          says = subst (λ (l : Line). IsQuantLine k f.comps q l) same u.2;
          left = record { same = s.same; detail = (x, y ∙ sym b, none) };
        }
    go None None None (Some bits) a b x y t =
        let u = both None (Some bits) x y t in
        let e = u.1 in
        let same : u.0 ≡ line = cc e in
        let none : filter (is_detail_of profile k) lines ≡ [] = cc e in
        let settles : SettlesDetail profile k None (Some bits) f (filter (is_detail_of profile k) lines) = (x, y, none) in
        record {
          d = square bits;
          quant = a;
          octa = b;
          says = subst (λ (l : Line). IsOctaLine profile k f.dtype f.comps bits l) same u.2;
          left = record { same = s.same; detail = subst (λ (q : Option Quant). SettlesDetail profile k q (Some bits) f (filter (is_detail_of profile k) lines)) (sym a) settles };
        }

line_left : (profile : ℕ) (hs fs : List Head) (n : ℕ) (d : Detail) (h f : Head) (line : Line) (lines : List Line) → slice_get hs n ≡ Some h → slice_get fs n ≡ Some f → is_detail_of profile n line ≡ true
    → Settles profile n (given d h) f lines → AllSettle profile hs (line ∷ lines) fs → AllSettle profile (with_detail n d hs) lines fs
line_left profile hs fs n d h f line lines there last is left all k x y p r = elim (cases_eq k n) [
  | inl one ↦
      let a : slice_get (with_detail n d hs) n ≡ Some x = ap (slice_get (with_detail n d hs)) (sym one) ∙ p in
      let b = at_detail n d hs h there in
      let c : given d h ≡ x = cc (a, b) in
      let e : slice_get fs n ≡ Some y = ap (slice_get fs) (sym one) ∙ r in
      let g : f ≡ y = cc (e, last) in
      subst (λ (j : ℕ). Settles profile j x y lines) (sym one) (subst (λ (x : Head). Settles profile n x y lines) c (subst (λ (y : Head). Settles profile n (given d h) y lines) g left))
  | inr other ↦ settled_other_back profile k x y line lines (names_other profile k n line is other) (all k x y (sym (at_other n k d hs other) ∙ p) r)
]

-- lines that name heads and settle them all are read one after another
pub settled_run : (profile : ℕ) (hs fs : List Head) (lines : List Line) → length hs ≡ length fs → length hs ≤ 16 → AreNamed profile (length hs) lines → AllSettle profile hs lines fs → DetailsRun profile hs lines fs
settled_run profile hs fs [] long few named all = same_heads hs fs long (λ k h f p q. same_details profile k h f (all k h f p q))
settled_run profile hs fs (line ∷ lines) long few ((n, is, lt), named) all =
    let h = there_is hs n lt in
    let f = there_is fs n (omega arith) in
    let s = all n h.0 f.0 h.1 f.1 in
    let first = first_settles profile n h.0 f.0 line lines is s in
    let same = length-with_detail n first.d hs in
    let read = detail_read profile hs line n first.d h.0 (omega arith) h.1 first.quant first.octa (says_same profile n f.0 h.0 first.d line (sym s.same) first.says) in
    let left = line_left profile hs fs n first.d h.0 f.0 line lines h.1 f.1 is first.left all in
    ((n, first.d), names_detail profile n line is, read, settled_run profile (with_detail n first.d hs) fs lines (same ∙ long) (omega arith) (subst (λ m. AreNamed profile m lines) (sym same) named) left)
