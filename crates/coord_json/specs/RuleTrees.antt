-- Clash rules as JSON data.
use Rattle.std.specs.Prelude.{ℕ, List, [], ◌∷◌, Option, Some, None, codes}
use Rattle.serde_json.specs.Data.{Data, null, number, string, object, unsigned, Items, no_items, item, member, no_members}
use Rattle.bim_model.specs.declared.rules.ClassTest.{ClassTest}
use Rattle.bim_model.specs.declared.rules.ClassTest.TheVariants as class
use Rattle.bim_model.specs.declared.rules.StoreyTest.{StoreyTest}
use Rattle.bim_model.specs.declared.rules.StoreyTest.TheVariants as storey
use Rattle.bim_model.specs.declared.rules.ModelTest.{ModelTest}
use Rattle.bim_model.specs.declared.rules.ModelTest.TheVariants as models
use Rattle.bim_model.specs.declared.rules.RuleKind.{RuleKind}
use Rattle.bim_model.specs.declared.rules.RuleKind.TheVariants.{Clash, Pierce, Ignore}
use Rattle.bim_model.specs.declared.rules.Rule.{Rule}

-- a number of things
abbrev pub count_tree : ℕ → Data
count_tree n = number (unsigned n)

-- the name of a storey, or null
abbrev pub storey_tree : Option (List ℕ) → Data
storey_tree None = null
storey_tree (Some name) = string name

-- the class that a side of a rule takes, or a star for any
abbrev pub class_text : ClassTest → List ℕ
class_text class.Any = codes "*"
class_text (class.Named name) = name

-- which storeys a rule takes
abbrev pub storeys_text : StoreyTest → List ℕ
storeys_text storey.Any = codes "any"
storeys_text storey.Same = codes "same"
storeys_text storey.Different = codes "different"

-- which models a rule takes
abbrev pub models_text : ModelTest → List ℕ
models_text models.Any = codes "any"
models_text models.Same = codes "same"
models_text models.Other = codes "other"

-- a rule by which elements clash within a distance in millimetres
unfoldable pub clash_tree : List ℕ → List ℕ → ℕ → Data → List ℕ → List ℕ → Data
clash_tree a b distance level models storey =
    object (member (codes "a") (string a)
    (member (codes "b") (string b)
    (member (codes "distance") (count_tree distance)
    (member (codes "kind") (string (codes "clash"))
    (member (codes "level") level
    (member (codes "models") (string models)
    (member (codes "storey") (string storey) no_members)))))))

-- a rule without a distance, with the word of its kind
unfoldable pub plain_tree : List ℕ → List ℕ → List ℕ → Data → List ℕ → List ℕ → Data
plain_tree kind a b level models storey =
    object (member (codes "a") (string a)
    (member (codes "b") (string b)
    (member (codes "kind") (string kind)
    (member (codes "level") level
    (member (codes "models") (string models)
    (member (codes "storey") (string storey) no_members))))))

-- a rule of this kind: elements clash within its distance, or where they pierce, or never
abbrev pub kind_tree : RuleKind → List ℕ → List ℕ → Data → List ℕ → List ℕ → Data
kind_tree (Clash distance) a b level models storey = clash_tree a b distance level models storey
kind_tree Pierce a b level models storey = plain_tree (codes "pierce") a b level models storey
kind_tree Ignore a b level models storey = plain_tree (codes "ignore") a b level models storey

-- a rule
abbrev pub rule_tree : Rule → Data
rule_tree r =
    kind_tree r.kind (class_text r.a) (class_text r.b) (storey_tree r.level) (models_text r.models)
    (storeys_text r.storey)

-- rules, one after another
abbrev pub rule_items : List Rule → Items
rule_items [] = no_items
rule_items (r ∷ rs) = item (rule_tree r) (rule_items rs)
