-- What kind of value it is (ISO 10303-21, clear text encoding), and what it says.
use Rattle.std.specs.Prelude.{ℕ, Bool, true, false, List, Option, Some, None}
use Rattle.p21_values.specs.declared.value.Value21.{Value21}
use Rattle.p21_values.specs.declared.value.Value21.TheOpen.{Value21-F}
use Rattle.p21_values.specs.declared.value.Value21.TheOpen as layer
use Rattle.p21_values.specs.declared.value.Value21.TheViews.{out-Value21}

-- the number that a value spells
abbrev pub number_in : Value21-F Value21 → Option (List ℕ)
number_in (layer.Number bs) = Some bs
number_in _ = None

-- the text that a value spells
abbrev pub words_in : Value21-F Value21 → Option (List ℕ)
words_in (layer.Words bs) = Some bs
words_in _ = None

-- the number of the instance that a value refers to
abbrev pub reference_in : Value21-F Value21 → Option ℕ
reference_in (layer.Reference n) = Some n
reference_in _ = None

-- the values of a list
abbrev pub items_in : Value21-F Value21 → Option (List Value21)
items_in (layer.List vs) = Some vs
items_in _ = None

-- the value that a typed value holds
abbrev pub typed_in : Value21-F Value21 → Option Value21
typed_in (layer.Typed word v) = Some v
typed_in _ = None

-- the letters of an enumeration
abbrev pub letters_in : Value21-F Value21 → Option (List ℕ)
letters_in (layer.Enumeration bs) = Some bs
letters_in _ = None

-- a value of an enumeration
abbrev pub enumeration_in : Value21-F Value21 → Bool
enumeration_in (layer.Enumeration bs) = true
enumeration_in _ = false

-- a value that is left out or derived
abbrev pub absent_in : Value21-F Value21 → Bool
absent_in layer.Absent = true
absent_in layer.Derived = true
absent_in _ = false

-- the bytes of a number
abbrev pub number_of : Value21 → Option (List ℕ)
number_of v = number_in (out-Value21 v)

-- the bytes of a text between its apostrophes
abbrev pub words_of : Value21 → Option (List ℕ)
words_of v = words_in (out-Value21 v)

-- the number of the instance that a reference names
abbrev pub reference_of : Value21 → Option ℕ
reference_of v = reference_in (out-Value21 v)

-- the items of a list
abbrev pub items_of : Value21 → Option (List Value21)
items_of v = items_in (out-Value21 v)

-- the value that a typed value holds, after its keyword
abbrev pub typed_of : Value21 → Option Value21
typed_of v = typed_in (out-Value21 v)

-- the number that the value held is; where none is held, the number that the value itself is
abbrev pub measure_in : Option Value21 → Value21 → Option (List ℕ)
measure_in None v = number_of v
measure_in (Some held) v = number_of held

-- the number that a value is, or that a typed value holds
abbrev pub measure_of : Value21 → Option (List ℕ)
measure_of v = measure_in (typed_of v) v

-- the letters of an enumeration, without its points
abbrev pub enumeration_of : Value21 → Option (List ℕ)
enumeration_of v = letters_in (out-Value21 v)

-- it is an enumeration
abbrev pub is_enumeration : Value21 → Bool
is_enumeration v = enumeration_in (out-Value21 v)

-- it is a `$`, or a `*`, which counts as one
abbrev pub is_absent : Value21 → Bool
is_absent v = absent_in (out-Value21 v)
