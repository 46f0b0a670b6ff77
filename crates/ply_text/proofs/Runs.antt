-- Rows of names, tried one after another.
use Rattle.std.proofs.Common.{◌≡◌, ℕ, ◌+◌, ◌<◌, ◌≤◌, ◌&&◌, Bool, true, false, nat_le, nat_lt, IsTrue, List, [], ◌∷◌, map, length, drop, get_or, cond, refl, sym, ap, ◌∙◌, arith, ltb-true}
use Rattle.std.specs.Borrow.{Bor}
use Rattle.std.specs.List.{list_all}
use Rattle.std.proofs.lemmas.Bool.{and_parts, leb-true}
use Rattle.std.proofs.lemmas.List.{drop_more, drop_all, length-map}
use Rattle.ply_text.specs.declared.headers.Property.{Property}
use Rattle.ply_text.specs.declared.name_runs.NameRun.{NameRun as KeptRun}
use Rattle.attr_heads.specs.declared.usages.TheConstants.{GENERIC}
use Rattle.attr_heads.specs.Usages.{is_usage}
use Rattle.ply_text.specs.NamedHeads.{is_named, stand, run_by}
use Rattle.ply_text.specs.RunParts.{run_parts, runs_of, is_short}

abbrev pub texts : List (Bor (List ℕ)) → List (List ℕ)
texts words = map (λ word. word.now) words

-- the names from j on decide
pub record StandSoFar (words : List (Bor (List ℕ))) (dtype : ℕ) (ps : List Property) (j : ℕ) : Type 0 where
  pub room : length words ≤ length ps
  pub rest : stand (texts (drop j words)) dtype (drop j ps) ≡ stand (texts words) dtype ps

pub stand_begun : (words : List (Bor (List ℕ))) (dtype : ℕ) (ps : List Property) → length words ≤ length ps → StandSoFar words dtype ps 0
stand_begun words dtype ps h = record { room = h; rest = refl }

stand_more : (words : List (Bor (List ℕ))) (dtype : ℕ) (ps : List Property) (j : ℕ) (word : Bor (List ℕ)) (p : Property) → j < length words → length words ≤ length ps →
    word ≡ get_or words j word → p ≡ get_or ps j p →
    stand (texts (drop j words)) dtype (drop j ps) ≡ (is_named word.now dtype p && stand (texts (drop (j + 1) words)) dtype (drop (j + 1) ps))
stand_more words dtype ps j word p h k e f =
    let inside : j < length ps = omega arith in
    let w : drop j words ≡ word ∷ drop (j + 1) words = drop_more words j word h ∙ ap (λ (x : Bor (List ℕ)). x ∷ drop (j + 1) words) (sym e) in
    let q : drop j ps ≡ p ∷ drop (j + 1) ps = drop_more ps j p inside ∙ ap (λ (x : Property). x ∷ drop (j + 1) ps) (sym f) in
    ap (λ (x : List (Bor (List ℕ))). stand (texts x) dtype (drop j ps)) w ∙ ap (λ (x : List Property). stand (texts (word ∷ drop (j + 1) words)) dtype x) q

pub stand_goes : (words : List (Bor (List ℕ))) (dtype : ℕ) (ps : List Property) (j : ℕ) (word : Bor (List ℕ)) (p : Property) → j < length words →
    word ≡ get_or words j word → p ≡ get_or ps j p → is_named word.now dtype p ≡ true → StandSoFar words dtype ps j → StandSoFar words dtype ps (j + 1)
stand_goes words dtype ps j word p h e f named so = record {
  room = so.room;
  rest = sym (ap (λ b. b && stand (texts (drop (j + 1) words)) dtype (drop (j + 1) ps)) named) ∙ sym (stand_more words dtype ps j word p h so.room e f) ∙ so.rest;
}

pub stand_stops : (words : List (Bor (List ℕ))) (dtype : ℕ) (ps : List Property) (j : ℕ) (word : Bor (List ℕ)) (p : Property) → j < length words →
    word ≡ get_or words j word → p ≡ get_or ps j p → is_named word.now dtype p ≡ false → StandSoFar words dtype ps j → false ≡ stand (texts words) dtype ps
stand_stops words dtype ps j word p h e f named so =
    sym (ap (λ b. b && stand (texts (drop (j + 1) words)) dtype (drop (j + 1) ps)) named) ∙ sym (stand_more words dtype ps j word p h so.room e f) ∙ so.rest

pub stand_all : (words : List (Bor (List ℕ))) (dtype : ℕ) (ps : List Property) (j : ℕ) → length words ≤ j → StandSoFar words dtype ps j → true ≡ stand (texts words) dtype ps
stand_all words dtype ps j h so = sym (ap (λ (x : List (Bor (List ℕ))). stand (texts x) dtype (drop j ps)) (drop_all j words h)) ∙ so.rest

and_none : (b : Bool) → (b && false) ≡ false
and_none true = refl
and_none false = refl

-- more names than properties don't stand
pub stand_short : (words : List (Bor (List ℕ))) (dtype : ℕ) (ps : List Property) → length ps < length words → false ≡ stand (texts words) dtype ps
stand_short [] dtype ps h = absurd (omega (arith, h))
stand_short (word ∷ words) dtype [] h = refl
stand_short (word ∷ words) dtype (p ∷ ps) h =
    sym (and_none (is_named word.now dtype p)) ∙ ap (λ b. is_named word.now dtype p && b) (stand_short words dtype ps (omega (arith, h)))

-- the rows from k on decide, and each of them is short
pub record RunSoFar (runs : List KeptRun) (dtype : ℕ) (ps : List Property) (k : ℕ) : Type 0 where
  pub rest : run_by (runs_of (drop k runs)) dtype ps ≡ run_by (runs_of runs) dtype ps
  pub short : list_all is_short (runs_of (drop k runs)) ≡ true

pub run_begun : (runs : List KeptRun) (dtype : ℕ) (ps : List Property) → IsTrue (list_all is_short (runs_of runs)) → RunSoFar runs dtype ps 0
run_begun runs dtype ps h = record { rest = refl; short = h }

run_more : (runs : List KeptRun) (k : ℕ) (run : KeptRun) → k < length runs → run ≡ get_or runs k run → drop k runs ≡ run ∷ drop (k + 1) runs
run_more runs k run h e = drop_more runs k run h ∙ ap (λ (x : KeptRun). x ∷ drop (k + 1) runs) (sym e)

-- a row that is tried is short, and so are those behind it
shorts : (runs : List KeptRun) (dtype : ℕ) (ps : List Property) (k : ℕ) (run : KeptRun) → k < length runs → run ≡ get_or runs k run → RunSoFar runs dtype ps k →
    (is_short (run_parts run) ≡ true) × (list_all is_short (runs_of (drop (k + 1) runs)) ≡ true)
shorts runs dtype ps k run h e so =
    and_parts (is_short (run_parts run)) (list_all is_short (runs_of (drop (k + 1) runs))) (sym (ap (λ (x : List KeptRun). list_all is_short (runs_of x)) (run_more runs k run h e)) ∙ so.short)

run_step : (runs : List KeptRun) (dtype : ℕ) (ps : List Property) (k : ℕ) (run : KeptRun) (found : Bool) → k < length runs → run ≡ get_or runs k run → found ≡ stand (texts run.words.now) dtype ps →
    run_by (runs_of (drop k runs)) dtype ps ≡ cond found (run.usage, length (texts run.words.now)) (run_by (runs_of (drop (k + 1) runs)) dtype ps)
run_step runs dtype ps k run found h e f =
    ap (λ (x : List KeptRun). run_by (runs_of x) dtype ps) (run_more runs k run h e)
    ∙ ap (λ b. cond b (run.usage, length (texts run.words.now)) (run_by (runs_of (drop (k + 1) runs)) dtype ps)) (sym f)

pub run_goes : (runs : List KeptRun) (dtype : ℕ) (ps : List Property) (k : ℕ) (run : KeptRun) (found : Bool) → k < length runs → run ≡ get_or runs k run → found ≡ stand (texts run.words.now) dtype ps →
    found ≡ false → RunSoFar runs dtype ps k → RunSoFar runs dtype ps (k + 1)
run_goes runs dtype ps k run found h e f none so = record {
  rest = sym (ap (λ b. cond b (run.usage, length (texts run.words.now)) (run_by (runs_of (drop (k + 1) runs)) dtype ps)) none) ∙ sym (run_step runs dtype ps k run found h e f) ∙ so.rest;
  short = (shorts runs dtype ps k run h e so).1;
}

pub run_stops : (runs : List KeptRun) (dtype : ℕ) (ps : List Property) (k : ℕ) (run : KeptRun) (found : Bool) → k < length runs → run ≡ get_or runs k run → found ≡ stand (texts run.words.now) dtype ps →
    found ≡ true → RunSoFar runs dtype ps k → (run.usage, length run.words.now) ≡ run_by (runs_of runs) dtype ps
run_stops runs dtype ps k run found h e f there so =
    ap (λ n. (run.usage, n)) (sym (length-map run.words.now (λ word. word.now)))
    ∙ sym (ap (λ b. cond b (run.usage, length (texts run.words.now)) (run_by (runs_of (drop (k + 1) runs)) dtype ps)) there) ∙ sym (run_step runs dtype ps k run found h e f) ∙ so.rest

-- a short row has a usage that there is, and one to four names
pub run_short : (runs : List KeptRun) (dtype : ℕ) (ps : List Property) (k : ℕ) (run : KeptRun) → k < length runs → run ≡ get_or runs k run → RunSoFar runs dtype ps k →
    (is_usage run.usage ≡ true) × (0 < length run.words.now) × (length run.words.now ≤ 4)
run_short runs dtype ps k run h e so =
    let b = shorts runs dtype ps k run h e so in
    let long = length-map run.words.now (λ word. word.now) in
    let u = and_parts (is_usage run.usage && nat_lt 0 (length (texts run.words.now))) (nat_le (length (texts run.words.now)) 4) b.0 in
    let v = and_parts (is_usage run.usage) (nat_lt 0 (length (texts run.words.now))) u.0 in
    let y = ltb-true 0 (length (texts run.words.now)) v.1 in
    let z = leb-true (length (texts run.words.now)) 4 u.1 in
    (v.0, omega (arith, long, y), omega (arith, long, z))

pub run_ends : (runs : List KeptRun) (dtype : ℕ) (ps : List Property) (k : ℕ) → length runs ≤ k → RunSoFar runs dtype ps k → (GENERIC, 1) ≡ run_by (runs_of runs) dtype ps
run_ends runs dtype ps k h so = sym (ap (λ (x : List KeptRun). run_by (runs_of x) dtype ps) (drop_all k runs h)) ∙ so.rest
