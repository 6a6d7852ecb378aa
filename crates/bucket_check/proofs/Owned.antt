-- A clash has an owner, which is a bucket.
use Rattle.std.proofs.Common.{◌≡◌, ℕ, ◌+◌, ◌<◌, Bool, true, false, cond, List, length, Option, Some, None, refl, ap, subst, arith}
use Rattle.std.specs.List.{Contains}
use Rattle.std.specs.Str.{bytes_eq}
use Rattle.bim_model.specs.declared.geometry.Extent.{Extent}
use Rattle.bim_model.specs.declared.element.Element.{Element}
use Rattle.bim_model.specs.declared.rules.Rule.{Rule}
use Rattle.bim_model.specs.declared.rules.Meeting.{Meeting}
use Rattle.bim_model.specs.declared.rules.Meeting.TheVariants.{Within, Through}
use Rattle.bim_model.specs.declared.rules.Found.{Found}
use Rattle.bim_model.specs.Distances.{in_grid_numbers}
use Rattle.bim_model.specs.Rules.{IsRules}
use Rattle.bim_model.specs.Keys.{Subject}
use Rattle.clearance.specs.Near.{ElementsNear}
use Rattle.clearance.proofs.Decided.{elements_decided}
use Rattle.tri_pierce.proofs.DecidedSigns.{elements_decided as piercing_decided}
use Rattle.tri_pierce.proofs.NearPoints.{elements_near}
use Rattle.box_lanes.specs.BoxPlaces.{box_at, nowhere}
use Rattle.bucket_grid.specs.declared.cell.Cell.{Cell}
use Rattle.bucket_grid.specs.Cells.{holds, members, IsOwner, IsBucket}
use Rattle.bucket_grid.specs.Subjects.{subject_at, nobody, IsBoxOf, AreBoxes}
use Rattle.bucket_grid.proofs.Zips.{zip_at, zip_length}
use Rattle.bucket_grid.proofs.Owners.{owner_of_both}
use Rattle.bucket_grid.proofs.Near.{near_elements}
use Rattle.bucket_grid.proofs.Members.{listed, two_listed}
use Rattle.bucket_check.specs.declared.pair.SetPair.{SetPair}
use Rattle.bucket_check.specs.Clashes.{meet_by, rule_between, clash_by, clash_of, clashes_among, owner, IsBefore}
use Rattle.bucket_check.proofs.Lists.{Lists}
use Rattle.bucket_check.proofs.Pairs.{IsPairBy, pairs_list}

abbrev number_in : Option ℕ → ℕ
number_in None = 0
number_in (Some n) = n

-- why two elements clash
pub record Why (o : Option Found) (x y : Element) (r : ℕ) : Type 0 where
  pub found : Found
  pub is : o ≡ Some found
  pub met : meet_by found.meeting found.distance x y ≡ true
  pub rule : found.rule ≡ r

met_by : (f : Found) (x y : Element) (r : ℕ) (b : Bool) → meet_by f.meeting f.distance x y ≡ b → cond b (Some f.rule) None ≡ Some r → Why (Some f) x y r
met_by f x y r true e h = record { found = f; is = refl; met = e; rule = ap number_in h }
met_by f x y r false e h = cc

pub why : (o : Option Found) (x y : Element) (r : ℕ) → clash_by o x y ≡ Some r → Why o x y r
why None x y r e = cc
why (Some f) x y r e = met_by f x y r (meet_by f.meeting f.distance x y) refl e

-- elements that meet as a rule asks are near at its distance
pub met_near : (m : Meeting) (d : ℕ) (x y : Element) → meet_by m d x y ≡ true → ElementsNear x y (in_grid_numbers d)
met_near Within d x y e = (elements_decided x y (in_grid_numbers d)).0 e
met_near Through d x y e = elements_near x y (in_grid_numbers d) ((piercing_decided x y).0 e)

-- a clash, by its numbers
abbrev pub IsClash : List Rule → List Subject → SetPair → Type 0
IsClash rules subjects p = IsPairBy (length subjects) (λ a b. clash_of rules (subject_at subjects a) (subject_at subjects b)) p

pub clashes_list : (rules : List Rule) (subjects : List Subject) → Lists IsBefore (IsClash rules subjects) (clashes_among rules subjects)
clashes_list rules subjects = pairs_list (length subjects) (λ a b. clash_of rules (subject_at subjects a) (subject_at subjects b))

module _ (rules : List Rule) (subjects : List Subject) (boxes : List Extent) (few : IsRules rules) (are : AreBoxes subjects boxes) where
  box_is : (n : ℕ) → n < length subjects → IsBoxOf (subject_at subjects n) (box_at boxes n)
  box_is n h = zip_at IsBoxOf subjects boxes n nobody nowhere are h

  -- the owner of a clash is the least cell of which both are members
  pub clash_owned : (p : SetPair) → IsClash rules subjects p → IsOwner (owner boxes p) (box_at boxes p.a) (box_at boxes p.b)
  clash_owned p c =
      let s = subject_at subjects p.a in
      let t = subject_at subjects p.b in
      let w = why (rule_between rules s t) s.element t.element p.rule c.decided in
      let near = met_near w.found.meeting w.found.distance s.element t.element w.met in
      let o = near_elements rules s.element t.element (bytes_eq s.name t.name) w.found (box_at boxes p.a) (box_at boxes p.b) few w.is near (box_is p.a (omega (arith, c.below, c.within))) (box_is p.b c.within) in
      owner_of_both (box_at boxes p.a) (box_at boxes p.b) o.owner o.is.holds_a o.is.holds_b

  -- what a cell holds is one of its members
  pub member : (cell : Cell) (n : ℕ) → n < length subjects → holds cell (box_at boxes n) ≡ true → Contains (members boxes cell) n
  member cell n h e =
      let long : n < length boxes = omega (arith, zip_length IsBoxOf subjects boxes are) in
      let same : 0 + n ≡ n = omega arith in
      subst (Contains (members boxes cell)) same (listed (holds cell) 0 boxes n nowhere long e)

  -- and the owner is a bucket
  pub owner_is_bucket : (p : SetPair) → IsClash rules subjects p → IsBucket boxes (owner boxes p)
  owner_is_bucket p c =
      let o = clash_owned p c in
      two_listed (members boxes (owner boxes p)) p.a p.b c.below
      (member (owner boxes p) p.a (omega (arith, c.below, c.within)) o.holds_a) (member (owner boxes p) p.b c.within o.holds_b)
