use Rattle.std.specs.Prelude.{ℕ, List, [], ◌∷◌, map, Option}
use Rattle.p21_values.specs.declared.value.Value21.{Value21}
use Rattle.p21_values.specs.declared.value.Value21.TheOpen.{Value21-F}
use Rattle.p21_values.specs.declared.value.Value21.TheOpen as layer
use Rattle.p21_values.specs.declared.value.Value21.TheFolds.{fold-Value21}
use Rattle.p21_values.specs.declared.value.Instance.{Instance}

-- What values and instances say: all of them but where their parts lie in memory and how much room a list has there.

mutual
  pub data Content : Type 0 where
    Absent Derived : Content
    Number Words Enumeration Bits : List ℕ → Content
    Reference : ℕ → Content
    Listed : Contents → Content
    Typed : List ℕ → Content → Content

  pub data Contents : Type 0 where
    nothing : Contents
    and : Content → Contents → Contents

-- what values say, one after the other
abbrev pub contents : List Content → Contents
contents [] = nothing
contents (v ∷ vs) = and v (contents vs)

-- What a value says, where its parts say so.
abbrev pub content_step : Value21-F Content → Content
content_step layer.Absent = Absent
content_step layer.Derived = Derived
content_step (layer.Number bs) = Number bs
content_step (layer.Words bs) = Words bs
content_step (layer.Enumeration bs) = Enumeration bs
content_step (layer.Bits bs) = Bits bs
content_step (layer.Reference n) = Reference n
content_step (layer.List vs) = Listed (contents vs)
content_step (layer.Typed word v) = Typed word v

-- what a value says
abbrev pub content : Value21 → Content
content = fold-Value21 Content content_step

-- what an instance says: its number, its keyword, and its values in their order
abbrev pub saying : Instance → ℕ × Option (List ℕ) × Contents
saying instance = (instance.id, instance.keyword, contents (map content instance.values))
