-- The form of a stream as its geometry type and its method (this project's choice).
use Rattle.std.specs.Prelude.{◌≡◌, Result, Ok, Err}
use Rattle.drc_base.specs.declared.faults.Fault.{Fault}
use Rattle.drc_container.specs.Header.{form_of}
use Rattle.drc_container.specs.declared.headers.Form.{Form as FormSaid}
use Rattle.stream_counts.specs.declared.headers.Form.{Form}

-- a geometry type and a method are those of the form that a header says, or the fault is the header's
abbrev pub Says : Result FormSaid Fault → Result Form Fault → Type 0
Says due (Ok f) = due ≡ Ok (form_of f.geometry f.method)
Says due (Err fault) = due ≡ Err fault
