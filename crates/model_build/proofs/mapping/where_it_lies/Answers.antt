use Rattle.std.proofs.Common.{ap, ◌∙◌}
use Rattle.ifc_units.specs.declared.length_error.LengthError.TheVariants.{Refused}
use Rattle.model_build.proofs.LocationsAway.{at_zero, off_zero, fails_far, fails_off, fails_unread}
use Rattle.model_build.proofs.mapping.where_it_lies.Goals as goal

pub returns-then-length-eq0 : goal.returns-then-length-eq0
returns-then-length-eq0 c = at_zero c.args.scale c.args.mode c.args.value.now c.in-Ok.length c.in-Ok.ensures c.if-length-eq0.true

pub returns-else-length-eq0 : goal.returns-else-length-eq0
returns-else-length-eq0 c = off_zero c.args.scale c.args.mode c.args.value.now c.in-Ok.length c.in-Ok.ensures c.if-length-eq0.false

pub returns-in-Err-Refused-TooFar : goal.returns-in-Err-Refused-TooFar
returns-in-Err-Refused-TooFar c = fails_far c.args.scale c.args.mode c.args.value.now c.in-Err-Refused-TooFar.field-0 (c.in-Err-Refused-TooFar.field-0-is ∙ ap Refused c.in-Err-Refused-TooFar.field-0-0-is) c.in-Err-Refused-TooFar.ensures

pub returns-in-Err-Refused-OffGrid : goal.returns-in-Err-Refused-OffGrid
returns-in-Err-Refused-OffGrid c = fails_off c.args.scale c.args.mode c.args.value.now c.in-Err-Refused-OffGrid.field-0 (c.in-Err-Refused-OffGrid.field-0-is ∙ ap Refused c.in-Err-Refused-OffGrid.field-0-0-is) c.in-Err-Refused-OffGrid.ensures

pub returns-in-Err-Unread : goal.returns-in-Err-Unread
returns-in-Err-Unread c = fails_unread c.args.scale c.args.mode c.args.value.now c.in-Err-Unread.field-0 c.in-Err-Unread.field-0-is c.in-Err-Unread.ensures
