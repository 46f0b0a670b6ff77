use Rattle.std.proofs.Common.{◌≡◌, ◌++◌, ◌-◌}
use Rattle.ply_mesh.specs.Text.{text_of, component_lines}
use Rattle.ply_mesh.proofs.property_writer.put_components.Given as goal

abbrev pub invariant-loop-j : goal.invariant-loop-j
invariant-loop-j l =
    (l.out.items ++ text_of (component_lines l.named l.k l.head l.j (l.comps - l.j)) ≡ l.fn.out.items ++ text_of (component_lines l.named l.k l.head 0 l.head.comps))
    × (l.comps ≡ l.head.comps)
