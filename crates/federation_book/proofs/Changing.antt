-- Models that are uploaded or removed, and rules that are set.
use Rattle.std.proofs.Common.{◌≡◌, ℕ, List, [], ◌∷◌, ◌++◌, Option, Some, None, Bool, true, false, if◌then◌else◌, refl, sym, ◌∙◌, ap, ap₂, subst}
use Rattle.std.specs.List.{list_any}
use Rattle.std.specs.Str.{bytes_eq}
use Rattle.bim_model.specs.declared.element.Element.{Element}
use Rattle.bim_model.specs.declared.named_model.NamedModel.{NamedModel}
use Rattle.bim_model.specs.declared.rules.Rule.{Rule}
use Rattle.bim_model.specs.Snapshots.{Version, with_model, without_model}
use Rattle.book_turn.specs.declared.object.Stamp.{Stamp}
use Rattle.book_turn.specs.Entries.{listed}
use Rattle.book_history.specs.declared.changes.Change.{Change}
use Rattle.book_history.specs.declared.changes.Change.TheVariants.{Upload, Remove, SetRules}
use Rattle.book_history.specs.declared.changes.Entry.{Entry}
use Rattle.book_history.specs.declared.book_fault.BookFault.{BookFault}
use Rattle.book_history.specs.declared.book_fault.BookFault.TheVariants.{NoModel}
use Rattle.book_history.specs.declared.replies.ReplyBody.{ReplyBody}
use Rattle.book_history.specs.Projects.{ProjectState, named_model, newest_content, next_content, with_change}
use Rattle.book_history.specs.History.{state_of}
use Rattle.book_history.specs.Refusals.{first_of, no_model}
use Rattle.book_history.specs.Requests.{Outcome, Accepted, refused_or, unless, in_project, entry_by, entry_of, version_made}
use Rattle.book_history.specs.Weights.{told, elements_in, triangles_among}
use Rattle.book_history.proofs.States.{state_own}
use Rattle.federation_book.specs.KeptProjects.{unless_refused}

abbrev holding : List NamedModel → List Rule → Version
holding models rules = record { models = models; rules = rules }

abbrev held : List NamedModel → List Rule → Option Version
held models rules = Some (holding models rules)

-- what the next version holds
pub upload_next : (s : ProjectState) (content made : Version) (name : List ℕ) (model : List Element) (named : NamedModel) → content ≡ newest_content s → named ≡ named_model name model
    → made.models ≡ with_model named content.models → made.rules ≡ content.rules → next_content (newest_content s) (Upload name model) ≡ Some made
upload_next s content made name model named is named_is models rules =
    ap₂ held
    (sym (models ∙ ap₂ with_model named_is (ap (λ (v : Version). v.models) is)))
    (sym (rules ∙ ap (λ (v : Version). v.rules) is))

pub remove_next : (s : ProjectState) (content made : Version) (name : List ℕ) → content ≡ newest_content s
    → made.models ≡ without_model name content.models → made.rules ≡ content.rules → next_content (newest_content s) (Remove name) ≡ Some made
remove_next s content made name is models rules =
    ap₂ held
    (sym (models ∙ ap (λ (v : Version). without_model name v.models) is))
    (sym (rules ∙ ap (λ (v : Version). v.rules) is))

pub rules_next : (s : ProjectState) (content made : Version) (rules : List Rule) (weight : ℕ) → content ≡ newest_content s
    → made.models ≡ content.models → made.rules ≡ rules → next_content (newest_content s) (SetRules rules weight) ≡ Some made
rules_next s content made rules weight is models same =
    ap₂ held (sym (models ∙ ap (λ (v : Version). v.models) is)) (sym same)

-- the project after the entry
pub state_then : (k j : List Entry) (e : Entry) → k ≡ j ++ e ∷ [] → state_of e.project k ≡ with_change (state_of e.project j) e.change
state_then k j e p = ap (state_of e.project) p ∙ state_own e.project j e refl

-- what is told of a version by what it holds
pub whole_then : (after before : ProjectState) (body : ReplyBody) → body ≡ version_made (told (elements_in (newest_content before).models)) (told (triangles_among (newest_content before).models)) before → before ≡ after
    → body ≡ version_made (told (elements_in (newest_content after).models)) (told (triangles_among (newest_content after).models)) after
whole_then after before body e is = subst (λ (s : ProjectState). body ≡ version_made (told (elements_in (newest_content s).models)) (told (triangles_among (newest_content s).models)) s) is e

pub told_then : (after before : ProjectState) (body : ReplyBody) (elements triangles a b : ℕ) → body ≡ version_made elements triangles before → before ≡ after → elements ≡ a → triangles ≡ b → body ≡ version_made a b after
told_then after before body elements triangles a b e is f g = e ∙ ap (version_made elements triangles) is ∙ ap₂ (λ x y. version_made x y after) f g

-- the entry that is added, unless the change is refused
settled : (refusals : List (Option BookFault)) (stamp : Stamp) (number : ℕ) (change : Change) (fault : Option BookFault) → fault ≡ first_of refusals
    → unless_refused fault (entry_of stamp number change) ≡ listed (entry_by stamp (unless refusals (Accepted number change)))
settled refusals stamp number change fault e = subst (λ r. unless_refused fault (entry_of stamp number change) ≡ listed (entry_by stamp (refused_or r (Accepted number change)))) e (by fault)
  where
    by : (o : Option BookFault) → unless_refused o (entry_of stamp number change) ≡ listed (entry_by stamp (refused_or o (Accepted number change)))
    by None = refl
    by (Some f) = refl

pub settled_adds : (j k : List Entry) (stamp : Stamp) (n : Option ℕ) (number : ℕ) → n ≡ Some number → (f : ℕ → Outcome) (refusals : List (Option BookFault)) (change : Change) (fault : Option BookFault)
    → f number ≡ unless refusals (Accepted number change) → fault ≡ first_of refusals → k ≡ j ++ unless_refused fault (entry_of stamp number change) → k ≡ j ++ listed (entry_by stamp (in_project n f))
settled_adds j k stamp n number is f refusals change fault at e p =
    p ∙ ap (λ l. j ++ l) (settled refusals stamp number change fault e ∙ sym (ap (λ o. listed (entry_by stamp o)) (ap (λ m. in_project m f) is ∙ at)))

-- the entries where the change isn't refused
pub settled_entry : (j k : List Entry) (e : Entry) (fault : Option BookFault) → k ≡ j ++ unless_refused fault e → fault ≡ None → k ≡ j ++ e ∷ []
settled_entry j k e fault p none = p ∙ ap (λ f. j ++ unless_refused f e) none

-- refusals after one that doesn't hold
pub behind_none : (a : Option BookFault) (rest : List (Option BookFault)) → a ≡ None → first_of (a ∷ rest) ≡ first_of rest
behind_none a rest e = ap (λ o. first_of (o ∷ rest)) e

-- ---- whether there is a model of the name
abbrev no_model_by : Bool → Option BookFault
no_model_by b = if b then None else Some NoModel

abbrev has : List NamedModel → List ℕ → Bool
has models name = list_any (λ (m : NamedModel). bytes_eq m.name name) models

pub has_none : (s : ProjectState) (models : List NamedModel) (name text : List ℕ) (b : Bool) → b ≡ has models text → models ≡ (newest_content s).models → text ≡ name → b ≡ false → no_model s name ≡ Some NoModel
has_none s models name text b e f g none = ap no_model_by (sym (sym none ∙ e ∙ ap₂ has f g))

pub has_one : (s : ProjectState) (models : List NamedModel) (name text : List ℕ) (b : Bool) → b ≡ has models text → models ≡ (newest_content s).models → text ≡ name → b ≡ true → no_model s name ≡ None
has_one s models name text b e f g one = ap no_model_by (sym (sym one ∙ e ∙ ap₂ has f g))
