-- Faces of sets that can't be cut: by the points of a table, and by those that the sets spell.
use Rattle.std.proofs.Common.{◌≡◌, ℕ, ◌<◌, inl, inr, Bool, true, false, if◌then◌else◌, Any, List, Option, Some, None, Result, Ok, Err, option_and_then, refl, sym, ap, ◌∙◌, subst}
use Rattle.std.specs.Bool.{MatchBool}
use Rattle.std.specs.Option.{MatchOption}
use Rattle.std.specs.Result.{IfOk}
use Rattle.bim_model.specs.declared.geometry.Point.{Point}
use Rattle.bim_model.specs.declared.upload.Mode.{Mode}
use Rattle.bim_model.specs.declared.upload.UploadFault.{UploadFault}
use Rattle.bim_model.specs.declared.upload.UploadFault.TheVariants as faults
use Rattle.p21_values.specs.declared.value.Value21.{Value21}
use Rattle.p21_values.specs.declared.value.Instance.{Instance}
use Rattle.ifc_instances.specs.declared.entity.Entity.TheVariants as entity
use Rattle.p21_values.specs.InstanceLookup.{look}
use Rattle.ifc_instances.specs.EntityLookup.{is_a}
use Rattle.ifc_schema.specs.Used.{Used}
use Rattle.ifc_schema.specs.Surveys.{Lists}
use Rattle.ifc_units.specs.declared.scale.Scale.{Scale}
use Rattle.ifc_units.specs.Lengths.{ArePoints}
use Rattle.ifc_units.proofs.PointFacts.{one_points}
use Rattle.faceset.specs.FaceSets.{is_set, listed_in, points_of, IsStuck, IsUnbridged, HasStuck, HasUnbridged}
use Rattle.p21_values.specs.Attributes.{listed, reference_at}
use Rattle.ifc_elements.specs.PointTables.{ListsPoints}
use Rattle.ifc_elements.specs.Surfaces.{SetPoints}
use Rattle.model_build.specs.Faces.{IsFaceOfUsed, IsStuckFace}
use Rattle.ifc_instances.specs.inner.Least.{IsLeast, LeastOf}
use Rattle.model_build.specs.FaultyInstances.{ShownBy}
use Rattle.model_build.specs.Stages.{StuckFault, StuckStage}
use Rattle.model_build.specs.inner.Outcomes.{ShowsFaceSet, ShowsStuckSet, ShowsApartSet}
use Rattle.model_build.proofs.AttributesFormed.{Shaped}
use Rattle.model_build.proofs.UsedFormed.{named_at}
use Rattle.model_build.proofs.SetsFormed.{set_points}
use Rattle.model_build.proofs.LeastOfParts.{same_least}
use Rattle.model_build.proofs.OtherItems.{found_least}

-- a list has one list of points at most
pub lists_same : (world : List Instance) (scale : Scale) (mode : Mode) (list : ℕ) (ps qs : List Point) → ListsPoints world scale mode list ps → ListsPoints world scale mode list qs → ps ≡ qs
lists_same world scale mode list ps qs a b =
    let same : a.instance ≡ b.instance = (let f = a.found in let g = b.found in cc) in
    one_points scale mode (listed b.instance 0) ps qs (subst (λ (i : Instance). ArePoints scale mode (listed i 0) ps) same a.holds.are) b.holds.are

-- The points of the list that a set refers to are those of the set.

spelled_listed : (world : List Instance) (s i : Instance) (list : ℕ) → reference_at s 0 ≡ Some list → look world list ≡ Some i → points_of world s ≡ Some i
unfolding points_of
spelled_listed world s i list refers found = ap (option_and_then (look world)) refers ∙ found

pub from_list : (world : List Instance) (scale : Scale) (mode : Mode) (s : Instance) (list : ℕ) (points : List Point) → reference_at s 0 ≡ Some list → ListsPoints world scale mode list points → SetPoints world scale mode s points
from_list world scale mode s list points refers l =
    subst (λ (o : Option Instance). ArePoints scale mode (listed_in o) points) (sym (spelled_listed world s l.instance list refers l.found)) l.holds.are

to_list : (world : List Instance) (scale : Scale) (mode : Mode) (s i : Instance) (list : ℕ) (points : List Point) → reference_at s 0 ≡ Some list → look world list ≡ Some i → is_a entity.PointList i ≡ true
    → SetPoints world scale mode s points → ListsPoints world scale mode list points
to_list world scale mode s i list points refers found is are = record {
  instance = i;
  found = found;
  holds = record { kind = is; are = subst (λ (o : Option Instance). ArePoints scale mode (listed_in o) points) (spelled_listed world s i list refers found) are };
}

-- What one set shows.

-- the set has that face, which can't be cut
abbrev Stuck : List Instance → Scale → Mode → Instance → ℕ → Type 0
Stuck world scale mode s id = (is_set s ≡ true) × (list : ℕ) × (reference_at s 0 ≡ Some list) × (points : List Point) × ListsPoints world scale mode list points × HasStuck world points s id

-- the answer of the search in one set
abbrev pub IsFound : (ℕ → Type 0) → Option ℕ → Type 0
IsFound P found = MatchOption found ((id : ℕ) → P id → ⊥) (λ id. P id × ((k : ℕ) → k < id → P k → ⊥))

least_found : (P : ℕ → Type 0) (found : Option ℕ) → IsFound P found → LeastOf P found
least_found P None h = h
least_found P (Some id) h = record { here = h.0; lower = h.1 }

pub stuck_least : (world : List Instance) (scale : Scale) (mode : Mode) (id list : ℕ) (s : Instance) (points : List Point) → Some s ≡ look world id → is_set s ≡ true → Some list ≡ reference_at s 0
    → ListsPoints world scale mode list points → (found : Option ℕ) → IsFound (HasStuck world points s) found → LeastOf (ShowsStuckSet world scale mode id) found
stuck_least world scale mode id list s points e is refers l found h =
    found_least world id s (Stuck world scale mode) found (sym e) (same_least (HasStuck world points s) (Stuck world scale mode s) found to back (least_found (HasStuck world points s) found h))
  where
    to : (k : ℕ) → HasStuck world points s k → Stuck world scale mode s k
    to k g = (is, list, sym refers, points, l, g)

    back : (k : ℕ) → Stuck world scale mode s k → HasStuck world points s k
    back k g =
        let f = g.2 in
        let same : g.1 ≡ list = cc in
        let points_same = lists_same world scale mode list g.3 points (subst (λ (n : ℕ). ListsPoints world scale mode n g.3) same g.4) l in
        subst (λ (ps : List Point). HasStuck world ps s k) points_same g.5

-- it refers to no list of points on the grid
pub no_points : (world : List Instance) (scale : Scale) (mode : Mode) (id list : ℕ) (s : Instance) → Some s ≡ look world id → Some list ≡ reference_at s 0
    → ((points : List Point) → ListsPoints world scale mode list points → ⊥) → LeastOf (ShowsStuckSet world scale mode id) None
no_points world scale mode id list s e refers none =
    found_least world id s (Stuck world scale mode) None (sym e) (λ k g. (
    let f = g.2 in
    let same : g.1 ≡ list = cc in
    none g.3 (subst (λ (n : ℕ). ListsPoints world scale mode n g.3) same g.4)))

pub ok_by : {A E : Type 0} (P Q : A → Type 0) (r : Result A E) → ((a : A) → P a → Q a) → IfOk r P → IfOk r Q
ok_by P Q (Ok a) f h = f a h
ok_by P Q (Err e) f h = h

-- What the sets that are used show.

abbrev OfFace : Type 1
OfFace = Option (List Value21) → List Point → Instance → Type 0

shown_of : (Is : OfFace) (world : List Instance) (scale : Scale) (mode : Mode) (used : List ℕ) → Lists (Used world) used → (id : ℕ) → ShownBy (ShowsFaceSet Is world scale mode) used id → IsFaceOfUsed Is world scale mode id
shown_of Is world scale mode used ls id h =
    let f = h.2 in
    let s = f.instance in
    let g = f.holds in (
      h.0,
      (ls.each h.0 h.1, record { instance = s; found = f.found; holds = g.0 }),
      record { instance = s; found = f.found; holds = (g.3, from_list world scale mode s g.1 g.3 g.2 g.4, g.5) },
    )

of_shown : (Is : OfFace) (world : List Instance) (scale : Scale) (mode : Mode) (used : List ℕ) → Shaped world → Lists (Used world) used → (id : ℕ) → IsFaceOfUsed Is world scale mode id → ShownBy (ShowsFaceSet Is world scale mode) used id
of_shown Is world scale mode used shaped ls id h =
    let u = h.1.0 in
    let f = h.2 in
    let s = f.instance in
    let same : h.1.1.instance ≡ s = (let a = h.1.1.found in let b = f.found in cc) in
    let is : is_set s ≡ true = subst (λ (i : Instance). is_set i ≡ true) same h.1.1.holds in
    let n = named_at world s 0 entity.PointList (set_points world h.0 s shaped u f.found is) in
    let l = to_list world scale mode s n.2.1.instance n.0 f.holds.0 n.1 n.2.1.found n.2.1.holds f.holds.1 in (
      h.0,
      ls.all h.0 u,
      record { instance = s; found = f.found; holds = (is, n.0, n.1, f.holds.0, l, f.holds.2) },
    )

any_shown : (Shown : ℕ → ℕ → Type 0) (froms : List ℕ) (id : ℕ) → Any (λ from. Shown from id) froms → ShownBy Shown froms id
any_shown Shown froms id any = (any.1, (any.0, any.2, any.3), any.4)

shown_any : (Shown : ℕ → ℕ → Type 0) (froms : List ℕ) (id : ℕ) → ShownBy Shown froms id → Any (λ from. Shown from id) froms
shown_any Shown froms id h = (h.1.0, h.0, h.1.1, h.1.2, h.2)

-- the fault of a face that can't be cut, by whether a set shows that its loops can't be joined
pub stuck_fault : (world : List Instance) (scale : Scale) (mode : Mode) (used : List ℕ) (id : ℕ) (apart : Bool) → Shaped world → Lists (Used world) used
    → MatchBool apart (Any (λ set. ShowsApartSet world scale mode set id) used) (Any (λ set. ShowsApartSet world scale mode set id) used → ⊥)
    → StuckFault world mode scale id (if apart then faults.VoidedFace id else faults.FaceStuck id)
stuck_fault world scale mode used id true shaped ls h =
    inl (shown_of IsUnbridged world scale mode used ls id (any_shown (ShowsApartSet world scale mode) used id h), refl)
stuck_fault world scale mode used id false shaped ls h =
    inr (λ u. h (shown_any (ShowsApartSet world scale mode) used id (of_shown IsUnbridged world scale mode used shaped ls id u)), refl)

pub stuck_stage : (world : List Instance) (scale : Scale) (mode : Mode) (used : List ℕ) (id : ℕ) (fault : UploadFault) → Shaped world → Lists (Used world) used → IsLeast (ShownBy (ShowsStuckSet world scale mode) used) id
    → StuckFault world mode scale id fault → StuckStage world mode scale fault
stuck_stage world scale mode used id fault shaped ls h told = record {
  id = id;
  of = shown_of IsStuck world scale mode used ls id h.here;
  here = told;
  lower = λ k low of other g. h.lower k low (of_shown IsStuck world scale mode used shaped ls k of);
}

pub none_stuck : (world : List Instance) (scale : Scale) (mode : Mode) (used : List ℕ) → Shaped world → Lists (Used world) used → ((id : ℕ) → ShownBy (ShowsStuckSet world scale mode) used id → ⊥)
    → (id : ℕ) → IsStuckFace world scale mode id → ⊥
none_stuck world scale mode used shaped ls none id h = none id (of_shown IsStuck world scale mode used shaped ls id h)

-- Whether one set shows it.

apart_in : (world : List Instance) (scale : Scale) (mode : Mode) (id list : ℕ) (s : Instance) (points : List Point) (face : ℕ) → Some s ≡ look world id → Some list ≡ reference_at s 0
    → ListsPoints world scale mode list points → ShowsApartSet world scale mode id face → HasUnbridged world points s face
apart_in world scale mode id list s points face e refers l h =
    let g = h.holds in
    let same : h.instance ≡ s = (let f = h.found in cc) in
    let to : reference_at h.instance 0 ≡ Some list = ap (λ (i : Instance). reference_at i 0) same ∙ sym refers in
    let list_same : g.1 ≡ list = (let r = g.2 in cc) in
    let points_same = lists_same world scale mode list g.3 points (subst (λ (n : ℕ). ListsPoints world scale mode n g.3) list_same g.4) l in
    subst (λ (i : Instance). HasUnbridged world points i face) same (subst (λ (ps : List Point). HasUnbridged world ps h.instance face) points_same g.5)

pub apart_told : {E : Type 0} (world : List Instance) (scale : Scale) (mode : Mode) (id list : ℕ) (s : Instance) (points : List Point) (face : ℕ) (r : Result Bool E) → Some s ≡ look world id → is_set s ≡ true → Some list ≡ reference_at s 0
    → ListsPoints world scale mode list points → IfOk r (λ apart. MatchBool apart (HasUnbridged world points s face) (HasUnbridged world points s face → ⊥))
    → IfOk r (λ apart. MatchBool apart (ShowsApartSet world scale mode id face) (ShowsApartSet world scale mode id face → ⊥))
apart_told world scale mode id list s points face (Err error) e is refers l h = h
apart_told world scale mode id list s points face (Ok true) e is refers l h = record { instance = s; found = sym e; holds = (is, list, sym refers, points, l, h) }
apart_told world scale mode id list s points face (Ok false) e is refers l h = λ shows. h (apart_in world scale mode id list s points face e refers l shows)

-- an instance that is there, but no such set, shows none
pub apart_nowhere : (world : List Instance) (scale : Scale) (mode : Mode) (id face : ℕ) → None ≡ look world id → ShowsApartSet world scale mode id face → ⊥
apart_nowhere world scale mode id face e h = let f = h.found in cc

pub apart_no_set : (world : List Instance) (scale : Scale) (mode : Mode) (id face : ℕ) (s : Instance) → Some s ≡ look world id → is_set s ≡ false → ShowsApartSet world scale mode id face → ⊥
apart_no_set world scale mode id face s e other h =
    let same : h.instance ≡ s = (let f = h.found in cc) in
    let is : is_set s ≡ true = subst (λ (i : Instance). is_set i ≡ true) same h.holds.0 in
    let clash : true ≡ false = sym is ∙ other in
    cc

pub apart_no_list : (world : List Instance) (scale : Scale) (mode : Mode) (id face : ℕ) (s : Instance) → Some s ≡ look world id → None ≡ reference_at s 0 → ShowsApartSet world scale mode id face → ⊥
apart_no_list world scale mode id face s e none h =
    let same : h.instance ≡ s = (let f = h.found in cc) in
    let to : reference_at s 0 ≡ Some h.holds.1 = subst (λ (i : Instance). reference_at i 0 ≡ Some h.holds.1) same h.holds.2 in
    cc

pub apart_no_points : (world : List Instance) (scale : Scale) (mode : Mode) (id face list : ℕ) (s : Instance) → Some s ≡ look world id → Some list ≡ reference_at s 0
    → ((points : List Point) → ListsPoints world scale mode list points → ⊥) → ShowsApartSet world scale mode id face → ⊥
apart_no_points world scale mode id face list s e refers none h =
    let same : h.instance ≡ s = (let f = h.found in cc) in
    let to : reference_at s 0 ≡ Some h.holds.1 = subst (λ (i : Instance). reference_at i 0 ≡ Some h.holds.1) same h.holds.2 in
    let list_same : h.holds.1 ≡ list = cc in
    none h.holds.3 (subst (λ (n : ℕ). ListsPoints world scale mode n h.holds.3) list_same h.holds.4)
