-- A map ends within the bytes at whose front it was read.
use Rattle.std.proofs.Common.{◌≡◌, ℕ, ◌≤◌, List, length, Result, Ok, Err, subst, arith}
use Rattle.drc_base.specs.declared.faults.Fault.{Fault}
use Rattle.drc_base.specs.Steps.{◌>>=◌}
use Rattle.mesh_model.specs.declared.map_reading.MapRead.{MapRead}
use Rattle.mesh_model.specs.MapRead.{map_read, limited_head_at, rows_at}

-- the second of two steps gave the answer
stepped : {A B : Type 0} (r : Result A Fault) (f : A → Result B Fault) (y : B) → (r >>= f) ≡ Ok y → (x : A) × (f x ≡ Ok y)
stepped (Ok x) f y e = (x, e)
stepped (Err fault) f y e = cc

Ok_is : {A E : Type 0} (x y : A) → ◌≡◌ {A = Result A E} (Ok x) (Ok y) → x ≡ y
Ok_is x y e = cc

pub map_end : (input : List ℕ) (m : MapRead) → map_read input ≡ Ok m → m.end ≤ length input
unfolding map_read
map_end input m e =
    let head = stepped (limited_head_at input) _ m e in
    let rows = stepped (rows_at head.0.0.1 2 head.0.1) _ m head.1 in
    subst (λ (n : MapRead). n.end ≤ length input) (Ok_is _ m rows.1) (omega arith)
