-- The joined list from one bridge on.
use Rattle.std.proofs.Common.{◌≡◌, ◌∙◌, ap, sym, ℕ, suc, List, Option, Some, None}
use Rattle.std.specs.Prelude.{remove}
use Rattle.std.specs.Option.{option_and_then}
use Rattle.ear_cut.specs.declared.polygon_view.View.{View}
use Rattle.ear_cut.specs.declared.corners.Corner.{Corner}
use Rattle.void_bridge.specs.declared.bridges.Bridge.{Bridge}
use Rattle.void_bridge.specs.Bridges.{first_bridge, joined_by, join_by}

pub step_on : (view : View) (n m : ℕ) (current : List Corner) (loops : List (List Corner)) (b : Bridge) (whole : Option (List Corner)) → n ≡ suc m → Some b ≡ first_bridge view current loops → whole ≡ join_by view n current loops → whole ≡ join_by view m (joined_by current loops b) (remove loops b.hole)
unfolding join_by
step_on view n m current loops b whole e f h =
    h ∙ (ap (λ (k : ℕ). join_by view k current loops) e
    ∙ ap (λ (o : Option Bridge). option_and_then (λ b. join_by view m (joined_by current loops b) (remove loops b.hole)) o) (sym f))

pub step_stuck : (view : View) (n m : ℕ) (current : List Corner) (loops : List (List Corner)) (whole : Option (List Corner)) → n ≡ suc m → None ≡ first_bridge view current loops → whole ≡ join_by view n current loops → whole ≡ None
unfolding join_by
step_stuck view n m current loops whole e f h =
    h ∙ (ap (λ (k : ℕ). join_by view k current loops) e
    ∙ ap (λ (o : Option Bridge). option_and_then (λ b. join_by view m (joined_by current loops b) (remove loops b.hole)) o) (sym f))

pub all_joined : (view : View) (n : ℕ) (current : List Corner) (loops : List (List Corner)) (whole : Option (List Corner)) → n ≡ 0 → whole ≡ join_by view n current loops → whole ≡ Some current
unfolding join_by
all_joined view n current loops whole e h = h ∙ ap (λ (k : ℕ). join_by view k current loops) e
