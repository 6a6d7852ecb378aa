-- Of which entity an instance is.
use Rattle.std.specs.Prelude.{ℕ, Bool, false, List, Option, Some, None, option_and_then}
use Rattle.std.specs.List.{slice_get}
use Rattle.std.specs.Str.{bytes_eq}
use Rattle.p21_values.specs.declared.value.Instance.{Instance}
use Rattle.p21_values.specs.Values.{enumeration_of}
use Rattle.ifc_instances.specs.declared.entity.Entity.{Entity}
use Rattle.ifc_instances.specs.Entities.{entity_of, is_of}

-- the entity of an instance
abbrev pub entity_at : Instance → Option Entity
entity_at i = option_and_then entity_of i.keyword

-- a keyword, where there is one, is of an entity
abbrev pub is_keyword_of : Entity → Option (List ℕ) → Bool
is_keyword_of entity None = false
is_keyword_of entity (Some keyword) = is_of entity keyword

-- an instance is of that entity
abbrev pub is_a : Entity → Instance → Bool
is_a entity i = is_keyword_of entity i.keyword

-- a test of what is there
abbrev pub some_passes : {X : Type 0} → (X → Bool) → Option X → Bool
some_passes test None = false
some_passes test (Some x) = test x

-- an attribute is the enumeration of those letters
abbrev pub says : List ℕ → Instance → ℕ → Bool
says word i at = some_passes (λ letters. bytes_eq letters word)
    (option_and_then enumeration_of (slice_get i.values at))
