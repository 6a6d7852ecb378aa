-- What is passed over at the front of a list.
use Rattle.std.specs.Prelude.{◌≡◌, List, ◌++◌, None, All}
use Rattle.p21_values.specs.declared.value.Value21.{Value21}
use Rattle.p21_values.specs.declared.value.Instance.{Instance}
use Rattle.ifc_schema.specs.declared.form.Leaf.{Leaf}
use Rattle.ifc_schema.specs.declared.form.Count.{Count}
use Rattle.ifc_schema.specs.Flaws.{LeafFlaw, ListFlaw}

-- a value is a list of so many leaves without a flaw, whatever the file
abbrev pub IsSound : Count → Leaf → Value21 → Type 0
IsSound inner leaf v = (world : List Instance) → ListFlaw inner (LeafFlaw world leaf) v None

-- these are left behind things that are such
abbrev pub Passes : {X : Type 0} → (X → Type 0) → List X → List X → Type 0
Passes Is xs left = (passed : List _) × (xs ≡ passed ++ left) × All Is passed
