-- Metres with a prefix as units of length (IFC4 ADD2 TC1, IfcSIUnit). Only values are looked at, also of instances that lack their own form.
use Rattle.std.specs.Prelude.{◌&&◌, ◌≤ℤ◌, ℕ, if◌then◌else◌, ℤ, pos, negsuc, codes, List, [], ◌∷◌, Option, Some, None, option_and_then, option_map}
use Rattle.std.specs.List.{slice_get, find}
use Rattle.std.specs.Str.{bytes_eq}
use Rattle.p21_values.specs.declared.value.Value21.{Value21}
use Rattle.p21_values.specs.declared.value.Instance.{Instance}
use Rattle.ifc_instances.specs.declared.entity.Entity.TheVariants as entity
use Rattle.ifc_instances.specs.EntityLookup.{is_a, says}
use Rattle.p21_values.specs.Values.{enumeration_of, is_absent}

-- the prefixes, each with the power of ten of a millimetre that a metre is with it
abbrev pub prefixes : List (List ℕ × ℤ)
prefixes =
    (codes "KILO", pos 6) ∷
    (codes "HECTO", pos 5) ∷
    (codes "DECA", pos 4) ∷
    (codes "DECI", pos 2) ∷
    (codes "CENTI", pos 1) ∷
    (codes "MILLI", pos 0) ∷
    (codes "MICRO", negsuc 2) ∷ []

-- the power of ten that a prefix says
unfoldable pub prefix_power : List ℕ → Option ℤ
prefix_power word = option_map (λ p. p.1) (find (λ p. bytes_eq word p.0) prefixes)

-- without a prefix a metre is a thousand millimetres
abbrev pub power_with : Option Value21 → Option ℤ
power_with None = None
power_with (Some v) = if is_absent v then Some (pos 3) else option_and_then prefix_power (enumeration_of v)

-- the power of ten of a millimetre that the unit is, where its name is that of the metre
unfoldable pub unit_power : Instance → Option ℤ
unit_power i = if says (codes "METRE") i 3 then power_with (slice_get i.values 2) else None

-- the same of a unit of length of the international system
unfoldable pub metric_power : Instance → Option ℤ
metric_power i = if is_a entity.SiUnit i && says (codes "LENGTHUNIT") i 1 then unit_power i else None

-- a power of ten of a millimetre that a prefix makes lies between these
abbrev pub IsNear : ℤ → Type 0
IsNear power = (negsuc 2 ≤ℤ power) × (power ≤ℤ pos 6)
