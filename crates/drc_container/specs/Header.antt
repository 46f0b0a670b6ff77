-- The header of a stream (Draco Bitstream Specification 2.2, section "Header"; clouds of version 2.3 and the order of
-- the tests are this project's choice).
use Rattle.std.specs.Prelude.{ℕ, Bool, ◌==◌, ◌&&◌, not, List, Result, Ok, Err, codes, nat_le, nat_lt, if◌then◌else◌}
use Rattle.std.specs.Str.{bytes_eq}
use Rattle.drc_base.specs.declared.faults.Fault.{Fault}
use Rattle.drc_base.specs.declared.kinds.Kind.{Kind}
use Rattle.drc_base.specs.declared.kinds.Kind.TheVariants as kind
use Rattle.drc_base.specs.Profile.{Profile}
use Rattle.drc_base.specs.Steps.{◌>>=◌}
use Rattle.drc_bits.specs.Reading.{Reading, Item, must, bytes_at}
use Rattle.drc_bits.specs.Numbers.{number_at}
use Rattle.drc_container.specs.declared.headers.Form.{Form}
use Rattle.drc_container.specs.declared.headers.Form.TheVariants as form

-- the first five bytes of every stream
abbrev pub magic : List ℕ
magic = codes "DRACO"

-- the least number of the two bytes of the flags that has the flag of metadata
abbrev pub metadata_flag : ℕ
metadata_flag = 32768

-- the minor version of clouds (geometry type 0) and of meshes (geometry type 1)
abbrev pub minor_of : ℕ → ℕ
minor_of geometry = if geometry == 0 then 3 else 2

-- the greatest method of clouds and of meshes
abbrev pub greatest_method : ℕ → ℕ
greatest_method geometry = if geometry == 0 then 0 else 1

-- the form of stream that these say
abbrev pub form_of : ℕ → ℕ → Form
form_of geometry method = if geometry == 0 then form.Cloud else if method == 0 then form.SequentialMesh else form.EdgebreakerMesh

-- what follows where a test passes, else a fault of this kind at this place
abbrev pub when : Bool → Kind → ℕ → Result Form Fault → Result Form Fault
when passes kind place next = if passes then next else Err (record { kind = kind; at = place })

-- the form of the stream that the fields of a header say, or the first of their faults; a header begins the input
unfoldable pub form_said : ℕ → ℕ → ℕ → ℕ → ℕ → Result Form Fault
form_said major minor geometry method flags =
    when (nat_le geometry 1) kind.GeometryType 7 (
    when ((major == 2) && (minor == minor_of geometry)) kind.Version 5 (
    when (not ((geometry == 0) && (method == 1))) kind.KdCloud 8 (
    when (nat_le method (greatest_method geometry)) kind.Method 8 (
    when (nat_lt flags metadata_flag) kind.Metadata 9 (
    Ok (form_of geometry method))))))

-- the magic bytes
abbrev pub magic_at : Reading → Item (List ℕ)
magic_at c = must kind.Magic (λ bytes. bytes_eq bytes magic) (bytes_at 5) c

-- the header of a stream: its form
unfoldable pub header_at : Reading → Item Form
header_at c = do
  start ← magic_at c
  major ← number_at 1 start.1
  minor ← number_at 1 major.1
  geometry ← number_at 1 minor.1
  method ← number_at 1 geometry.1
  flags ← number_at 2 method.1
  form ← form_said major.0 minor.0 geometry.0 method.0 flags.0
  Ok (form, flags.1)

-- the number of points of a cloud in a profile
abbrev pub cloud_points_at : Profile → Reading → Item ℕ
cloud_points_at p c = must kind.PointLimit (λ n. nat_le n p.points) (number_at 4) c
