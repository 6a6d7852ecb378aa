-- The elements of a version by their keys, and pairs of them.
use Rattle.std.specs.Prelude.{ℕ, ◌+◌, ◌++◌, List, [], ◌∷◌, Bool, IsTrue}
use Rattle.std.specs.declared.cmp.Ordering.{Ordering}
use Rattle.std.specs.Ordering.{nat_cmp, ordering_then, is_lt}
use Rattle.std.specs.Cmp.Lexicographic.{slice_cmp}
use Rattle.bim_model.specs.declared.element.Element.{Element}
use Rattle.bim_model.specs.declared.named_model.NamedModel.{NamedModel}
use Rattle.bim_model.specs.declared.keys.ElementKey.{ElementKey}
use Rattle.bim_model.specs.declared.keys.Pair.{Pair}

-- the order of keys: by the model's name, then by identifier, both by their bytes
abbrev pub key_cmp : ElementKey → ElementKey → Ordering
key_cmp k l = ordering_then (slice_cmp nat_cmp k.model l.model) (slice_cmp nat_cmp k.guid.chars l.guid.chars)

-- one key stands before another
abbrev pub is_key_below : ElementKey → ElementKey → Bool
is_key_below k l = is_lt (key_cmp k l)

-- the order of pairs: by the first key, then by the second, then by rule
abbrev pub pair_cmp : Pair → Pair → Ordering
pair_cmp p q = ordering_then (key_cmp p.a q.a) (ordering_then (key_cmp p.b q.b) (nat_cmp p.rule q.rule))

-- an element of a version, with the place of its model in the version, from 0, and the model's name
pub record Subject : Type 0 where
  pub model : ℕ
  pub name : List ℕ
  pub element : Element

-- the key of an element of a version
abbrev pub key_of : Subject → ElementKey
key_of s = record { model = s.name; guid = s.element.guid }

-- the elements of the model at this place and of this name
abbrev pub in_model : ℕ → List ℕ → List Element → List Subject
in_model place name [] = []
in_model place name (e ∷ es) = record { model = place; name = name; element = e } ∷ in_model place name es

-- the elements of these models, of which the first stands at this place
abbrev pub subjects_from : ℕ → List NamedModel → List Subject
subjects_from place [] = []
subjects_from place (m ∷ ms) = in_model place m.name m.model ++ subjects_from (place + 1) ms

-- all elements of a version's models, by model and then as they stand in it. An element's number is its place in this list, from 0.
abbrev pub subjects_of : List NamedModel → List Subject
subjects_of models = subjects_from 0 models

-- one element of a version stands before another, by their keys
abbrev pub IsBelow : Subject → Subject → Type 0
IsBelow s t = IsTrue (is_key_below (key_of s) (key_of t))
