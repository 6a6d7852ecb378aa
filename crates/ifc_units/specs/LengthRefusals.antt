-- Why there are no lengths.
use Rattle.std.specs.Prelude.{Option, Some, None}
use Rattle.ifc_units.specs.declared.length_error.GridFault.{GridFault}
use Rattle.ifc_units.specs.declared.length_error.LengthError.{LengthError}
use Rattle.ifc_units.specs.declared.length_error.LengthError.TheVariants.{Unread, Refused}

-- the fault by which a length is refused
abbrev pub fault_in : LengthError → Option GridFault
fault_in Unread = None
fault_in (Refused fault) = Some fault
