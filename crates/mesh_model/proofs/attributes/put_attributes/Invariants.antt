use Rattle.std.proofs.Common.{◌≡◌, ◌++◌, map, take}
use Rattle.mesh_model.proofs.attributes.put_attributes.Given as goal

-- the attributes so far are appended
abbrev pub invariant-loop-values : goal.invariant-loop-values
invariant-loop-values l =
    l.attributes.items ≡ l.fn.attributes.items ++ map (λ values. record { of_corner = l.of_corner; entry_of = l.entry_of; values = values }) (take l.values-index l.lists)
