-- Heads that are named from the left, and the pieces of properties that give them.
use Rattle.std.proofs.Common.{◌≡◌, ℕ, zero, suc, ◌+◌, ◌-◌, ◌<◌, Bool, true, false, List, [], ◌∷◌, ◌++◌, length, drop, ltb, eqb, refl, sym, ap, subst, ◌∙◌, arith, inl, inr, ◌⊎◌}
use Rattle.std.specs.List.{AllByRecursion, list_all}
use Rattle.std.specs.Str.{bytes_eq}
use Rattle.std.proofs.lemmas.Bool.{and_parts, and_from, cases_Bool, eqb-true, eq-eqb, ltb-true}
use Rattle.std.proofs.lemmas.List.{drop_at}
use Rattle.attr_heads.specs.declared.heads.Head.{Head}
use Rattle.attr_heads.specs.declared.usages.TheConstants.{GENERIC}
use Rattle.ply_text.specs.Draft.{PropertyParts}
use Rattle.ply_text.specs.NamedHeads.{NameRun, name_runs, is_named, stand, run_by, run_of, named_head, named_heads}
use Rattle.laws_text.specs.NameShape.{AreNamed, IsAbsent, IsRowHead, IsPlainHead, NamesGive}
use Rattle.laws_text.proofs.Lines.{word_from, word_is}

-- ---- names in front

-- names that stand in front of properties
record Stands (words : List (List ℕ)) (dtype : ℕ) (ps : List PropertyParts) : Type 0 where
  piece : List PropertyParts
  rest : List PropertyParts
  cut : ps ≡ piece ++ rest
  named : AreNamed words dtype piece

stand_stands : (words : List (List ℕ)) (dtype : ℕ) (ps : List PropertyParts) → stand words dtype ps ≡ true → Stands words dtype ps
stand_stands [] dtype ps e = record { piece = []; rest = ps; cut = refl; named = tt }
stand_stands (word ∷ words) dtype [] e = absurd (cc e)
stand_stands (word ∷ words) dtype (p ∷ ps) e =
    let a = and_parts (is_named word dtype p) (stand words dtype ps) e in
    let b = and_parts (bytes_eq p.name word) (eqb p.dtype dtype) a.0 in
    let s = stand_stands words dtype ps a.1 in
    record { piece = p ∷ s.piece; rest = s.rest; cut = ap (λ (qs : List PropertyParts). p ∷ qs) s.cut; named = ((word_from p.name word b.0, eqb-true p.dtype dtype b.1), s.named) }

named_stand : (words : List (List ℕ)) (dtype : ℕ) (piece rest : List PropertyParts) → AreNamed words dtype piece → stand words dtype (piece ++ rest) ≡ true
named_stand [] dtype piece rest h = refl
named_stand (word ∷ words) dtype [] rest h = absurd h
named_stand (word ∷ words) dtype (p ∷ piece) rest h =
    let name : bytes_eq p.name word ≡ true = ap (bytes_eq p.name) (sym h.0.0) ∙ word_is p.name in
    and_from (is_named word dtype p) (stand words dtype (piece ++ rest)) (and_from (bytes_eq p.name word) (eqb p.dtype dtype) name (eq-eqb p.dtype dtype h.0.1)) (named_stand words dtype piece rest h.1)

named_long : (words : List (List ℕ)) (dtype : ℕ) (piece : List PropertyParts) → AreNamed words dtype piece → length piece ≡ length words
named_long [] dtype [] h = refl
named_long [] dtype (p ∷ piece) h = absurd h
named_long (word ∷ words) dtype [] h = absurd h
named_long (word ∷ words) dtype (p ∷ piece) h = ap suc (named_long words dtype piece h.1)

-- names that stand do so with the type of the first property
stand_any : (words : List (List ℕ)) (d : ℕ) (p : PropertyParts) (ps piece rest : List PropertyParts) → p ∷ ps ≡ piece ++ rest → AreNamed words d piece → stand words p.dtype (p ∷ ps) ≡ true
stand_any [] d p ps piece rest cut h = refl
stand_any (word ∷ words) d p ps [] rest cut h = absurd h
stand_any (word ∷ words) d p ps (q ∷ piece) rest cut h =
    let s : p ≡ q = cc cut in
    let t : p.dtype ≡ d = ap (λ (x : PropertyParts). x.dtype) s ∙ h.0.1 in
    ap (λ k. stand (word ∷ words) k (p ∷ ps)) t ∙ ap (stand (word ∷ words) d) cut ∙ named_stand (word ∷ words) d (q ∷ piece) rest h

absent : (run : NameRun) (p : PropertyParts) (ps : List PropertyParts) → stand run.words p.dtype (p ∷ ps) ≡ false → IsAbsent (p ∷ ps) run
absent run p ps e d piece rest cut named = let t = stand_any run.words d p ps piece rest cut named in absurd (cc (e, t))

absent_stand : (run : NameRun) (p : PropertyParts) (ps : List PropertyParts) → IsAbsent (p ∷ ps) run → stand run.words p.dtype (p ∷ ps) ≡ false
absent_stand run p ps h = elim (cases_Bool (stand run.words p.dtype (p ∷ ps))) [
  | inl yes' ↦ let s = stand_stands run.words p.dtype (p ∷ ps) yes' in absurd (h p.dtype s.piece s.rest s.cut s.named)
  | inr no' ↦ no'
]

-- ---- the first row that stands

-- which row is taken, if any
record FirstRow (runs : List NameRun) (p : PropertyParts) (ps : List PropertyParts) : Type 0 where
  run : NameRun
  above : List NameRun
  below : List NameRun
  place : runs ≡ above ++ run ∷ below
  stands : stand run.words p.dtype (p ∷ ps) ≡ true
  none : AllByRecursion (IsAbsent (p ∷ ps)) above
  is : run_by runs p.dtype (p ∷ ps) ≡ (run.usage, length run.words)

record NoRow (runs : List NameRun) (p : PropertyParts) (ps : List PropertyParts) : Type 0 where
  none : AllByRecursion (IsAbsent (p ∷ ps)) runs
  is : run_by runs p.dtype (p ∷ ps) ≡ (GENERIC, 1)

row_taken : (runs : List NameRun) (p : PropertyParts) (ps : List PropertyParts) → FirstRow runs p ps ⊎ NoRow runs p ps
row_taken [] p ps = inr (record { none = tt; is = refl })
row_taken (run ∷ runs) p ps = elim (cases_Bool (stand run.words p.dtype (p ∷ ps))) [
  | inl yes' ↦ inl (record { run = run; above = []; below = runs; place = refl; stands = yes'; none = tt; is = rw yes' refl })
  | inr no' ↦ elim (row_taken runs p ps) [
    | inl f ↦ inl (record {
      run = f.run;
      above = run ∷ f.above;
      below = f.below;
      place = ap (λ (rs : List NameRun). run ∷ rs) f.place;
      stands = f.stands;
      none = (absent run p ps no', f.none);
      is = rw no' f.is;
    })
    | inr n ↦ inr (record { none = (absent run p ps no', n.none); is = rw no' n.is })
  ]
]

row_first : (above below : List NameRun) (run : NameRun) (p : PropertyParts) (ps : List PropertyParts) → AllByRecursion (IsAbsent (p ∷ ps)) above → stand run.words p.dtype (p ∷ ps) ≡ true
    → run_by (above ++ run ∷ below) p.dtype (p ∷ ps) ≡ (run.usage, length run.words)
row_first [] below run p ps none stands = rw stands refl
row_first (r ∷ above) below run p ps none stands = rw (absent_stand r p ps none.0) (row_first above below run p ps none.1 stands)

row_none : (runs : List NameRun) (p : PropertyParts) (ps : List PropertyParts) → AllByRecursion (IsAbsent (p ∷ ps)) runs → run_by runs p.dtype (p ∷ ps) ≡ (GENERIC, 1)
row_none [] p ps none = refl
row_none (r ∷ runs) p ps none = rw (absent_stand r p ps none.0) (row_none runs p ps none.1)

-- each row has a name
abbrev has_name : NameRun → Bool
has_name run = ltb 0 (length run.words)

name_in : (above below : List NameRun) (run : NameRun) → list_all has_name (above ++ run ∷ below) ≡ true → 0 < length run.words
name_in [] below run e = ltb-true 0 (length run.words) (and_parts (has_name run) (list_all has_name below) e).0
name_in (r ∷ above) below run e = name_in above below run (and_parts (has_name r) (list_all has_name (above ++ run ∷ below)) e).1

row_has_name : (above below : List NameRun) (run : NameRun) → name_runs ≡ above ++ run ∷ below → 0 < length run.words
row_has_name above below run e = name_in above below run (ap (list_all has_name) (sym e))

-- ---- piece after piece

skipped : (k skip : ℕ) (ps : List PropertyParts) → named_heads k skip ps ≡ named_heads k 0 (drop skip ps)
skipped k zero ps = refl
skipped k (suc skip) [] = refl
skipped k (suc skip) (p ∷ ps) = skipped k skip ps

first_named : (k : ℕ) (p : PropertyParts) (ps : List PropertyParts) (run : ℕ × ℕ) → run_by name_runs p.dtype (p ∷ ps) ≡ run → named_heads k 0 (p ∷ ps) ≡ named_head k p.dtype run ∷ named_heads (k + 1) 0 (drop (run.1 - 1) ps)
unfolding run_of
first_named k p ps run e =
    ap (λ (r : ℕ × ℕ). named_head k p.dtype r ∷ named_heads (k + 1) (r.1 - 1) ps) e
    ∙ ap (λ (hs : List Head). named_head k p.dtype run ∷ hs) (skipped (k + 1) (run.1 - 1) ps)

rest_is : (n : ℕ) (p : PropertyParts) (ps piece rest : List PropertyParts) → p ∷ ps ≡ piece ++ rest → length piece ≡ n → 0 < n → drop (n - 1) ps ≡ rest
rest_is n p ps [] rest cut long some = absurd (omega arith)
rest_is n p ps (q ∷ piece) rest cut long some =
    let e : ps ≡ piece ++ rest = cc cut in
    ap (drop (n - 1)) e ∙ drop_at piece rest (n - 1) (omega arith)

-- the heads that are named are those of the pieces
pub named_give : (heads : List Head) (k : ℕ) (ps : List PropertyParts) → heads ≡ named_heads k 0 ps → NamesGive k ps heads
named_give [] k [] e = refl
named_give [] k (p ∷ ps) e = absurd (cc e)
named_give (h ∷ heads) k [] e = absurd (cc e)
named_give (h ∷ heads) k (p ∷ ps) e = elim (row_taken name_runs p ps) [
  | inl f ↦
      let s = stand_stands f.run.words p.dtype (p ∷ ps) f.stands in
      let one = e ∙ first_named k p ps (f.run.usage, length f.run.words) f.is in
      let head : h ≡ named_head k p.dtype (f.run.usage, length f.run.words) = cc one in
      let rest : heads ≡ named_heads (k + 1) 0 (drop (length f.run.words - 1) ps) = cc one in
      let left = rest_is (length f.run.words) p ps s.piece s.rest s.cut (named_long f.run.words p.dtype s.piece s.named) (row_has_name f.above f.below f.run f.place) in
      let is : IsRowHead k s.piece s.rest h = record {
        run = f.run;
        dtype = p.dtype;
        above = f.above;
        below = f.below;
        place = f.place;
        named = s.named;
        first = subst (λ (qs : List PropertyParts). AllByRecursion (IsAbsent qs) f.above) s.cut f.none;
        is = head;
      } in
      (s.piece, s.rest, s.cut, inl is, named_give heads (k + 1) s.rest (rest ∙ ap (named_heads (k + 1) 0) left))
  | inr n ↦
      let one = e ∙ first_named k p ps (GENERIC, 1) n.is in
      let head : h ≡ named_head k p.dtype (GENERIC, 1) = cc one in
      let rest : heads ≡ named_heads (k + 1) 0 ps = cc one in
      let is : IsPlainHead k (p ∷ []) ps h = record { property = p; one = refl; none = n.none; is = head } in
      (p ∷ [], ps, refl, inr is, named_give heads (k + 1) ps rest)
]

row_named : (k : ℕ) (ps piece rest : List PropertyParts) (h : Head) (heads : List Head) → ps ≡ piece ++ rest → IsRowHead k piece rest h → heads ≡ named_heads (k + 1) 0 rest → h ∷ heads ≡ named_heads k 0 ps
row_named k ps [] rest h heads cut r more =
    let long = named_long r.run.words r.dtype [] r.named in
    let some = row_has_name r.above r.below r.run r.place in
    absurd (omega arith)
row_named k ps (p ∷ piece) rest h heads cut r more =
    let some = row_has_name r.above r.below r.run r.place in
    let stands = stand_any r.run.words r.dtype p (piece ++ rest) (p ∷ piece) rest refl r.named in
    let taken : run_by name_runs p.dtype (p ∷ (piece ++ rest)) ≡ (r.run.usage, length r.run.words) =
    ap (λ (rs : List NameRun). run_by rs p.dtype (p ∷ (piece ++ rest))) r.place ∙ row_first r.above r.below r.run p (piece ++ rest) r.first stands in
    let left = rest_is (length r.run.words) p (piece ++ rest) (p ∷ piece) rest refl (named_long r.run.words r.dtype (p ∷ piece) r.named) some in
    let dtype : p.dtype ≡ r.dtype = first_dtype r.run.words r.dtype p piece some r.named in
    let head : h ≡ named_head k p.dtype (r.run.usage, length r.run.words) = r.is ∙ ap (λ d. named_head k d (r.run.usage, length r.run.words)) (sym dtype) in
    ap (λ (x : Head). x ∷ heads) head ∙ ap (λ (xs : List Head). named_head k p.dtype (r.run.usage, length r.run.words) ∷ xs) (more ∙ ap (named_heads (k + 1) 0) (sym left))
    ∙ sym (first_named k p (piece ++ rest) (r.run.usage, length r.run.words) taken) ∙ ap (named_heads k 0) (sym cut)
  where
    first_dtype : (words : List (List ℕ)) (d : ℕ) (q : PropertyParts) (qs : List PropertyParts) → 0 < length words → AreNamed words d (q ∷ qs) → q.dtype ≡ d
    first_dtype [] d q qs long h = absurd (omega arith)
    first_dtype (w ∷ ws) d q qs long h = h.0.1

plain_named : (k : ℕ) (ps piece rest : List PropertyParts) (h : Head) (heads : List Head) → ps ≡ piece ++ rest → IsPlainHead k piece rest h → heads ≡ named_heads (k + 1) 0 rest → h ∷ heads ≡ named_heads k 0 ps
plain_named k ps piece rest h heads cut r more =
    let p = r.property in
    let whole : ps ≡ p ∷ rest = cut ∙ ap (λ (qs : List PropertyParts). qs ++ rest) r.one in
    let none : AllByRecursion (IsAbsent (p ∷ rest)) name_runs = subst (λ (qs : List PropertyParts). AllByRecursion (IsAbsent (qs ++ rest)) name_runs) r.one r.none in
    ap (λ (x : Head). x ∷ heads) r.is ∙ ap (λ (xs : List Head). named_head k p.dtype (GENERIC, 1) ∷ xs) more ∙ sym (first_named k p rest (GENERIC, 1) (row_none name_runs p rest none)) ∙ ap (named_heads k 0) (sym whole)

-- and back
pub give_named : (heads : List Head) (k : ℕ) (ps : List PropertyParts) → NamesGive k ps heads → heads ≡ named_heads k 0 ps
give_named [] k ps e = ap (named_heads k 0) (sym e)
give_named (h ∷ heads) k ps (piece, rest, cut, inl r, more) = row_named k ps piece rest h heads cut r (give_named heads (k + 1) rest more)
give_named (h ∷ heads) k ps (piece, rest, cut, inr r, more) = plain_named k ps piece rest h heads cut r (give_named heads (k + 1) rest more)
