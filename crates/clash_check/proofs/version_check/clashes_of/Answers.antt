use Rattle.std.proofs.Common.{◌≡◌, ◌≤◌, ◌<◌, ◌-◌, ◌^◌, ℕ, List, Result, Err, length, min, ap, subst, sym, ◌∙◌}
use Rattle.bim_model.specs.Keys.{subjects_of}
use Rattle.bim_model.specs.Snapshots.{Version}
use Rattle.bim_model.specs.declared.named_model.NamedModel.{NamedModel}
use Rattle.bucket_grid.specs.Grids.{HasMemberships}
use Rattle.bucket_grid.specs.declared.grid.GridError.{GridError}
use Rattle.bucket_grid.specs.declared.grid.GridError.TheVariants.{TooSpread, Memory}
use Rattle.bucket_grid.specs.declared.grid.TheConstants.{MOST_MEMBERSHIPS}
use Rattle.clash_check.specs.declared.version_fault.TheConstants.{MOST_VERSION_ELEMENTS}
use Rattle.clash_check.specs.declared.version_fault.VersionError.{VersionError}
use Rattle.clash_check.specs.VersionChecks.{element_count, IsVersionCause, of_grid}
use Rattle.clash_check.proofs.version_check.clashes_of.Goals as goal

-- few are counted of lent models, so there are few
few : (version : Version) (lent : List NamedModel) (count : ℕ) → count ≡ min (length (subjects_of lent)) (2 ^ 64 - 1) → lent ≡ version.models
    → count ≤ MOST_VERSION_ELEMENTS → element_count version ≤ MOST_VERSION_ELEMENTS
few version lent count is same small = subst (λ n. n ≤ MOST_VERSION_ELEMENTS) (is ∙ ap (λ ms. min (length (subjects_of ms)) (2 ^ 64 - 1)) same) small

-- why there is no grid of few elements
cause : {A : Type 0} (version : Version) (r : Result A GridError) (error : GridError) → ((count : ℕ) → r ≡ Err (TooSpread count) → HasMemberships version count × (MOST_MEMBERSHIPS < count))
    → r ≡ Err error → element_count version ≤ MOST_VERSION_ELEMENTS → IsVersionCause version (of_grid error)
cause version r (TooSpread count) spread is small = let found = spread count is in (small, found.0, found.1)
cause version r Memory spread is small = tt

pub returns-in-Err-clause-fault : goal.returns-in-Err-clause-fault
returns-in-Err-clause-fault c =
    subst (λ (e : VersionError). IsVersionCause c.args.version e) (sym c.error_of.ensures)
    (cause c.args.version c.of.result c.in-Err.error c.of.ensures.spread c.in-Err.is
    (few c.args.version c.models.result.now c.element_count-count.result c.element_count-count.ensures (c.models.ensures.same ∙ ap (λ (v : Version). v.models) c.get.ensures)
    c.if-count-gt-MOST_VERSION_ELEMENTS.false))
