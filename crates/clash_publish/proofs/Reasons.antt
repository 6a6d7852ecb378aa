-- The list of all clashes has exactly the pairs that the definition names.
use Rattle.std.proofs.Common.{◌≡◌, ℕ, suc, ◌+◌, Bool, true, false, cond, List, [], ◌∷◌, Option, Some, None, refl, sym, ap, arith, ◌∙◌}
use Rattle.std.specs.Str.{bytes_eq}
use Rattle.bim_model.specs.declared.element.Element.{Element}
use Rattle.bim_model.specs.declared.rules.Rule.{Rule}
use Rattle.bim_model.specs.declared.rules.RuleKind.{RuleKind}
use Rattle.bim_model.specs.declared.rules.RuleKind.TheVariants.{Clash, Pierce, Ignore}
use Rattle.bim_model.specs.declared.rules.Meeting.{Meeting}
use Rattle.bim_model.specs.declared.rules.Meeting.TheVariants.{Within, Through}
use Rattle.bim_model.specs.declared.rules.Found.{Found}
use Rattle.bim_model.specs.Distances.{in_grid_numbers}
use Rattle.bim_model.specs.Rules.{fits, decided, rule_from, distance_if}
use Rattle.bim_model.specs.Snapshots.{Version}
use Rattle.bim_model.specs.Keys.{Subject, subjects_of}
use Rattle.clearance.proofs.Decided.{elements_decided}
use Rattle.tri_pierce.proofs.DecidedSigns.{elements_decided as piercing_decided}
use Rattle.bucket_check.specs.declared.pair.SetPair.{SetPair}
use Rattle.bucket_check.specs.Clashes.{meet_by, rule_between, clash_by, clash_of, clashes, IsBefore}
use Rattle.bucket_check.proofs.Lists.{Lists, lists_one}
use Rattle.bucket_check.proofs.Pairs.{once}
use Rattle.bucket_check.proofs.Owned.{IsClash as IsFound, why, clashes_list}
use Rattle.clash_publish.specs.Listed.{element_of, distance_at, distance_by, Meet, ClashBy, IsClash}
use Rattle.clash_publish.specs.ClashListLaws.{ClashesAreListed}

-- a list of all that has a property is one of all that has another with the same members
lists_same : {X : Type 0} (R : X → X → Type 0) (P Q : X → Type 0) (xs : List X) → ((x : X) → P x → Q x) → ((x : X) → Q x → P x) → Lists R P xs → Lists R Q xs
lists_same R P Q xs f g l = record { rising = l.rising; each = λ x c. f x (l.each x c); all = λ x q. l.all x (g x q) }

abbrev number_in : Option Found → ℕ
number_in None = 0
number_in (Some f) = f.rule

abbrev distance_in : Option Found → Option ℕ
distance_in None = None
distance_in (Some f) = distance_by f.meeting f.distance

-- the found rule stands at a place of the list whose first rule has the number n
record StandsAt (rules : List Rule) (n : ℕ) (f : Found) : Type 0 where
  place : ℕ
  number : f.rule ≡ n + place
  distance : distance_by f.meeting f.distance ≡ distance_at rules place

first_stands : (kind : RuleKind) (rule : Rule) (rules : List Rule) (n : ℕ) (f : Found) → rule.kind ≡ kind → decided kind n ≡ Some f → StandsAt (rule ∷ rules) n f
first_stands (Clash d) rule rules n f e h =
    let is : n ≡ f.rule = ap number_in h in
    record {
      place = 0;
      number = omega arith;
      distance = sym (ap distance_in h) ∙ sym (ap distance_if e);
    }
first_stands Pierce rule rules n f e h =
    let is : n ≡ f.rule = ap number_in h in
    record {
      place = 0;
      number = omega arith;
      distance = sym (ap distance_in h) ∙ sym (ap distance_if e);
    }
first_stands Ignore rule rules n f e h = cc

later_stands : (rule : Rule) (rules : List Rule) (n : ℕ) (f : Found) → StandsAt rules (n + 1) f → StandsAt (rule ∷ rules) n f
later_stands rule rules n f s = record { place = suc s.place; number = omega (arith, s.number); distance = s.distance }

chosen : (b : Bool) (x y : Option Found) (f : Found) (P : Type 0) → cond b x y ≡ Some f → (x ≡ Some f → P) → (y ≡ Some f → P) → P
chosen true x y f P e g h = g e
chosen false x y f P e g h = h e

stands : (rules : List Rule) (n : ℕ) (a b : Element) (same : Bool) (f : Found) → rule_from n rules a b same ≡ Some f → StandsAt rules n f
stands [] n a b same f e = cc
stands (r ∷ rules) n a b same f e =
    chosen (fits r a b same) (decided r.kind n) (rule_from (n + 1) rules a b same) f (StandsAt (r ∷ rules) n f) e
    (λ g. first_stands r.kind r rules n f refl g) (λ g. later_stands r rules n f (stands rules (n + 1) a b same f g))

distance_found : (rules : List Rule) (s t : Subject) (f : Found) → rule_between rules s t ≡ Some f → distance_by f.meeting f.distance ≡ distance_at rules f.rule
distance_found rules s t f e =
    let at = stands rules 0 s.element t.element (bytes_eq s.name t.name) f e in
    let here : at.place ≡ f.rule = omega (arith, at.number) in
    at.distance ∙ ap (distance_at rules) here

-- the test of a meeting decides it
meets : (m : Meeting) (d : ℕ) (x y : Element) → meet_by m d x y ≡ true → Meet m d x y
meets Within d x y e = (elements_decided x y (in_grid_numbers d)).0 e
meets Through d x y e = (piercing_decided x y).0 e

met : (m : Meeting) (d : ℕ) (x y : Element) → Meet m d x y → meet_by m d x y ≡ true
met Within d x y h = (elements_decided x y (in_grid_numbers d)).1 h
met Through d x y h = (piercing_decided x y).1 h

-- why two elements clash
pub clash_why : (rules : List Rule) (s t : Subject) (r : ℕ) → clash_of rules s t ≡ Some r → ClashBy rules s t r
clash_why rules s t r e =
    let w = why (rule_between rules s t) s.element t.element r e in
    record {
      found = w.found;
      decides = w.is;
      number_is = w.rule;
      distance_is = distance_found rules s t w.found w.is ∙ ap (distance_at rules) w.rule;
      meet = meets w.found.meeting w.found.distance s.element t.element w.met;
    }

met_gives : (b : Bool) (n : ℕ) → b ≡ true → cond b (Some n) None ≡ Some n
met_gives true n e = refl
met_gives false n e = cc

pub clash_is : (rules : List Rule) (s t : Subject) (r : ℕ) → ClashBy rules s t r → clash_of rules s t ≡ Some r
clash_is rules s t r c =
    ap (λ o. clash_by o s.element t.element) c.decides
    ∙ met_gives (meet_by c.found.meeting c.found.distance s.element t.element) c.found.rule (met c.found.meeting c.found.distance s.element t.element c.meet)
    ∙ ap (λ n. Some n) c.number_is

pub is_clash : (version : Version) (p : SetPair) → IsFound version.rules (subjects_of version.models) p → IsClash version p
is_clash version p f = record {
  below = f.below;
  within = f.within;
  clash = clash_why version.rules (element_of version p.a) (element_of version p.b) p.rule f.decided;
}

is_found : (version : Version) (p : SetPair) → IsClash version p → IsFound version.rules (subjects_of version.models) p
is_found version p c = record {
  below = c.below;
  within = c.within;
  decided = clash_is version.rules (element_of version p.a) (element_of version p.b) p.rule c.clash;
}

pub listed : (version : Version) → Lists IsBefore (IsClash version) (clashes version)
listed version =
    lists_same IsBefore (IsFound version.rules (subjects_of version.models)) (IsClash version) (clashes version)
    (is_clash version) (is_found version) (clashes_list version.rules (subjects_of version.models))

pub clashes_listed : ClashesAreListed
clashes_listed = record {
  are = λ version. let l = listed version in record { rising = l.rising; each = l.each; all = l.all };
  one = λ version pairs a. lists_one IsBefore once (IsClash version) pairs (clashes version) (record { rising = a.rising; each = a.each; all = a.all }) (listed version);
}
