-- What the cutting of sets says of their faces, and of the stages from there on.
use Rattle.std.proofs.Common.{ℕ, List, subst}
use Rattle.bim_model.specs.declared.upload.Mode.{Mode}
use Rattle.bim_model.specs.declared.geometry.Triangle.{Triangle}
use Rattle.p21_values.specs.declared.value.Instance.{Instance}
use Rattle.p21_values.specs.InstanceLookup.{look}
use Rattle.ifc_schema.specs.Used.{Used}
use Rattle.ifc_schema.specs.Surveys.{Lists}
use Rattle.ifc_units.specs.declared.scale.Scale.{Scale}
use Rattle.model_build.specs.StageFaults.{IsClear}
use Rattle.model_build.specs.Faces.{IsStuckFace}
use Rattle.ifc_elements.specs.Surfaces.{SetSurface}
use Rattle.ifc_elements.specs.Sound.{AreSets, IsUncut}
use Rattle.model_build.specs.Stages.{StuckStage}
use Rattle.model_build.specs.inner.Outcomes.{AreSound}
use Rattle.p21_values.proofs.ValueLemmas.{one}
use Rattle.ifc_elements.proofs.OneSet.{own_points, set_unstuck}

-- where the sets that are used are cut, none of their faces can't be
pub sets_unstuck : (world : List Instance) (scale : Scale) (mode : Mode) (used : List ℕ) (entries : List (ℕ × List Triangle)) → Lists (Used world) used → AreSets world scale mode used entries
    → (id : ℕ) → IsStuckFace world scale mode id → ⊥
sets_unstuck world scale mode used entries ls are id s =
    let made = are.all s.0 (ls.all s.0 s.1.0) s.1.1 in
    let kept = are.sound s.0 made.0 made.1 in
    let shows = s.2 in
    let same = one (look world s.0) kept.instance shows.instance kept.found shows.found in
    set_unstuck world scale mode shows.instance made.0 shows.holds.0 id (subst (λ (i : Instance). SetSurface world scale mode i made.0) same kept.holds.surface) shows.holds.1 shows.holds.2

-- where a sound set isn't cut, one of its faces can't be
pub uncut_stuck : (world : List Instance) (scale : Scale) (mode : Mode) (used : List ℕ) → Lists (Used world) used → AreSound world scale mode used → IsUncut world scale mode used
    → ((id : ℕ) → IsStuckFace world scale mode id → ⊥) → ⊥
uncut_stuck world scale mode used ls sound u none =
    let i = u.set.instance in
    let s = sound u.id u.here i u.set.found u.set.holds.0 in
    let stuck = u.set.holds.1 s in
    none stuck.0 (
      u.id,
      (ls.each u.id u.here, record { instance = i; found = u.set.found; holds = u.set.holds.0 }),
      record { instance = i; found = u.set.found; holds = (s.points, own_points world scale mode i s.list s.points s.refers s.listed, stuck.1) },
    )

pub stuck_clear : (world : List Instance) (scale : Scale) (mode : Mode) → ((id : ℕ) → IsStuckFace world scale mode id → ⊥) → IsClear (StuckStage world mode scale)
stuck_clear world scale mode none fault h = none h.id h.of
