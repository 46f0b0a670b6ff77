use Rattle.std.proofs.Common.{◌≡◌, rules, FitsSigned}
use Rattle.std.specs.Int.{w32}
use Rattle.std.proofs.lemmas.Int.{to_z-of_z}
use Rattle.octahedron.specs.Directions.{octahedral_value}
use Rattle.octahedron.proofs.Centring.{octahedral_value-is, octahedral_value-canonical}
use Rattle.octahedron.proofs.squares.Square.octahedral_value.Goals as goal
use Rattle.octahedron.proofs.squares.Square.octahedral_value.Goals.{After-value_at}

value : (c : After-value_at) → c.value_at.result ≡ octahedral_value c.args.self.centre c.args.v
value c =
    let x_fits : FitsSigned w32 c.args.v.x = search rules in
    let y_fits : FitsSigned w32 c.args.v.y = search rules in
    let z_fits : FitsSigned w32 c.args.v.z = search rules in
    let p = simp to_z-of_z at c.point_at.ensures in
    let q = simp to_z-of_z at c.flipped_if-p.ensures.value in
    octahedral_value-is c.args.self.centre c.args.v c.point_at.result c.flipped_if-p.result c.value_at.result
    c.args.self.some c.requires p q c.value_at.ensures.value

pub returns-clause-value : goal.returns-clause-value
returns-clause-value c = value c

pub returns-clause-canonical : goal.returns-clause-canonical
returns-clause-canonical c = octahedral_value-canonical c.args.self.centre c.args.v c.value_at.result c.args.self.some c.requires (value c)
