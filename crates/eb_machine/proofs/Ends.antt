-- The tests at the end, one outcome at a time.
use Rattle.std.proofs.Common.{◌≡◌, ◌≢◌, ℕ, ◌<◌, ◌≤◌, ◌==◌, nat_le, Option, Some, None, Ok, Err, sym, ap, ◌∙◌, eq-eqb, ne_eqb, le-leb}
use Rattle.std.proofs.lemmas.Bool.{lt-leb}
use Rattle.drc_base.specs.declared.kinds.Kind.TheVariants as kind
use Rattle.drc_base.specs.Steps.{◌>>=◌}
use Rattle.eb_machine.specs.Machine.{State, Plan, finish, must_be, fault, first_degenerate}
use Rattle.eb_machine.proofs.Steps.{Next, must_hold, must_fail}

abbrev last : State → Unit {0} → Next
last s u = elim (first_degenerate s.built s.glued s.built) [ None ↦ Ok s | Some f ↦ Err (fault kind.Degenerate f) ]

abbrev vertices : Plan → State → Unit {0} → Next
vertices p s u = must_be (nat_le s.made p.created) kind.VertexCount s.made >>= last s

pub finish_faces : (p : Plan) (s : State) (n : ℕ) → s.built ≢ p.faces → n ≡ s.built → finish p s ≡ Err (fault kind.FaceCount n)
unfolding finish
finish_faces p s n h e = must_fail (s.built == p.faces) kind.FaceCount s.built (vertices p s) (ne_eqb s.built p.faces h) ∙ ap (λ (m : ℕ). let x : Next = Err (fault kind.FaceCount m) in x) (sym e)

pub finish_vertices : (p : Plan) (s : State) (n : ℕ) → s.built ≡ p.faces → p.created < s.made → n ≡ s.made → finish p s ≡ Err (fault kind.VertexCount n)
unfolding finish
finish_vertices p s n h l e =
    must_hold (s.built == p.faces) kind.FaceCount s.built (vertices p s) (eq-eqb s.built p.faces h)
    ∙ must_fail (nat_le s.made p.created) kind.VertexCount s.made (last s) (lt-leb s.made p.created l)
    ∙ ap (λ (m : ℕ). let x : Next = Err (fault kind.VertexCount m) in x) (sym e)

to_last : (p : Plan) (s : State) → s.built ≡ p.faces → s.made ≤ p.created → finish p s ≡ last s tt
unfolding finish
to_last p s h l =
    must_hold (s.built == p.faces) kind.FaceCount s.built (vertices p s) (eq-eqb s.built p.faces h)
    ∙ must_hold (nat_le s.made p.created) kind.VertexCount s.made (last s) (le-leb s.made p.created l)

pub finish_degenerate : (p : Plan) (s : State) (f n : ℕ) → s.built ≡ p.faces → s.made ≤ p.created → first_degenerate s.built s.glued s.built ≡ Some f → n ≡ f → finish p s ≡ Err (fault kind.Degenerate n)
finish_degenerate p s f n h l d e =
    to_last p s h l ∙ ap (λ (o : Option ℕ). let x : Next = elim o [ None ↦ Ok s | Some f ↦ Err (fault kind.Degenerate f) ] in x) d ∙ ap (λ (m : ℕ). let x : Next = Err (fault kind.Degenerate m) in x) (sym e)

pub finish_done : (p : Plan) (s : State) → s.built ≡ p.faces → s.made ≤ p.created → first_degenerate s.built s.glued s.built ≡ None → finish p s ≡ Ok s
finish_done p s h l d = to_last p s h l ∙ ap (λ (o : Option ℕ). let x : Next = elim o [ None ↦ Ok s | Some f ↦ Err (fault kind.Degenerate f) ] in x) d
