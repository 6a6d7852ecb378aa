-- Units that are converted to one of the international system: the inch and the foot (IFC4 ADD2 TC1, IfcConversionBasedUnit,
-- IfcMeasureWithUnit).
use Rattle.std.specs.Prelude.{◌≡◌, ℕ, ◌*◌, nat_lt, Bool, true, if◌then◌else◌, ℤ, pos, List, Option, Some, None}
use Rattle.std.specs.List.{slice_get}
use Rattle.bim_text.specs.declared.decimal.Decimal.{Decimal}
use Rattle.bim_text.specs.ScaledNumbers.{Scaled, denominator, raised}
use Rattle.bim_text.specs.Decimals.{Reads, value_of}
use Rattle.p21_values.specs.declared.value.Value21.{Value21}
use Rattle.p21_values.specs.declared.value.Instance.{Instance}
use Rattle.ifc_instances.specs.declared.entity.Entity.TheVariants as entity
use Rattle.ifc_instances.specs.EntityLookup.{is_a}
use Rattle.p21_values.specs.Attributes.{target_at}
use Rattle.p21_values.specs.Values.{measure_of}
use Rattle.ifc_units.specs.Grid.{gap}
use Rattle.ifc_units.specs.Metres.{metric_power}

-- a length in millimetres lies less than a millionth of one from that many millionths
unfoldable pub is_about : ℕ → Scaled → Bool
is_about millionths x = nat_lt (gap 1000000 x (pos millionths)) (denominator x)

-- how many tenths of a millimetre a converted unit of that length in millimetres is: those of the inch or of the foot
unfoldable pub tenths_of : Scaled → Option ℕ
tenths_of x =
    if is_about 25400000 x then Some 254
    else (if is_about 304800000 x then Some 3048 else None)

-- an instance is a measure, and its value in its unit, which is a metre with a prefix, is that length in millimetres
pub record IsMeasure (world : List Instance) (measure : Instance) (length : Scaled) : Type 0 where
  pub kind : is_a entity.Measure measure ≡ true
  pub value : Value21
  pub said : slice_get measure.values 0 ≡ Some value
  pub bytes : List ℕ
  pub number : measure_of value ≡ Some bytes
  pub decimal : Decimal
  pub read : Reads bytes decimal
  pub base : Instance
  pub based : target_at world measure 1 ≡ Some base
  pub power : ℤ
  pub reads : metric_power base ≡ Some power
  pub is : length ≡ raised (value_of decimal) power
