-- Which faults of a command's input come before out of memory, once the input is read (this project's choice of where memory is first
-- taken).
use Rattle.std.specs.Prelude.{◌≡◌, ℕ, List, Err}
use Rattle.drc_base.specs.declared.faults.Fault.{Fault}
use Rattle.mesh_model.specs.MapRead.{limited_head_at}
use Rattle.ply_text.specs.DeclaredLines.{declared_of_text_in, declared_of_text}
use Rattle.drc_container.specs.reading.Stream.{declared_of}
use Rattle.kd_points.specs.Meaning.{kd_declared_of}
use Rattle.drc_app.specs.declared.commands.Command.{Command}
use Rattle.drc_app.specs.declared.commands.Command.TheVariants as command

-- the command's input has this fault in what it declares: a text in its header, a stream or a kd-tree file in its numbers, and a map in
-- its first line, where it stands in front
abbrev pub IsEarlyFault : Command → List ℕ → Fault → Type 0
IsEarlyFault (command.Enc choice profile) text f = declared_of_text_in profile.number text ≡ Err f
IsEarlyFault (command.Dec profile) stream f = declared_of stream ≡ Err f
IsEarlyFault (command.Info profile) stream f = declared_of stream ≡ Err f
IsEarlyFault (command.Gen mesh) bytes f = ⊥
IsEarlyFault (command.Recode choice profile) stream f = declared_of stream ≡ Err f
IsEarlyFault (command.Restore profile) input f = limited_head_at input ≡ Err f
IsEarlyFault (command.Verify surface profile) input f = limited_head_at input ≡ Err f
IsEarlyFault command.KdEnc text f = declared_of_text text ≡ Err f
IsEarlyFault command.KdDec file f = kd_declared_of file ≡ Err f
IsEarlyFault (command.Help topic) bytes f = ⊥
IsEarlyFault command.Version bytes f = ⊥

-- the command's input has none of these
abbrev pub HasNoEarlyFault : Command → List ℕ → Type 0
HasNoEarlyFault c bytes = (f : Fault) → ¬ IsEarlyFault c bytes f
