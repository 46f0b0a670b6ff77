use Rattle.std.proofs.Common.{◌≡◌, ◌∙◌, ◌∷◌, ◌+◌, List, [], ℕ, Option, Some, None, drop, ap, sym}
use Rattle.std.specs.Prelude.{MatchOption}
use Rattle.std.proofs.lemmas.List.{drop-drop}
use Rattle.ply_mesh.proofs.bodies.skip_lines.Goals as goal

-- one more line is taken off, or none is left
taken : {X : Type 0} (now : X → List ℕ) (o : Option X) (n : ℕ) (old new all : List (List ℕ)) → MatchOption o ((old ≡ []) × (new ≡ [])) (λ x. old ≡ now x ∷ new) → old ≡ drop n all → new ≡ drop (n + 1) all
taken now None n old new all h e = h.1 ∙ sym (ap (drop 1) h.0) ∙ ap (drop 1) e ∙ drop-drop 1 n all
taken now (Some x) n old new all h e = sym (ap (drop 1) h) ∙ ap (drop 1) e ∙ drop-drop 1 n all

pub loop-preserved : goal.loop-preserved
loop-preserved c = taken (λ x. x.now) c.next-line.result c.loop.counter c.loop.lines c.next-line.new.self c.args.lines.now c.next-line.ensures c.loop.invariant
