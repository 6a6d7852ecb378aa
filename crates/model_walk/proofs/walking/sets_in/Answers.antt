use Rattle.std.proofs.Common.{None, length, ap, ◌∙◌, below_more, arith}
use Rattle.std.proofs.lemmas.Bool.{OnTrue_at}
use Rattle.std.proofs.lemmas.List.{length-replicate}
use Rattle.model_walk.proofs.PlacesChecked.{no_sets, all_clean}
use Rattle.model_walk.proofs.walking.sets_in.Goals as goal

pub loop-at-init : goal.loop-at-init
loop-at-init c =
    let world = c.args.exchange.now in (
      ap length c.in_ok-sets.ensures ∙ (length-replicate c.len-places.result None ∙ c.len-places.ensures.count),
      no_sets world c.args.scale c.args.mode c.args.points.now c.len-places.result c.in_ok-sets.sets c.in_ok-sets.ensures,
      λ k lt. absurd (omega (arith, lt)),
    )

pub loop-at-preserved : goal.loop-at-preserved
loop-at-preserved c =
    let old = c.loop-at.invariant in
    let seen = c.if-not-clean.false in
    (OnTrue_at seen c.in_ok-clean.ensures.size, OnTrue_at seen (c.in_ok-clean.ensures.sets old.1), below_more _ _ old.2 (OnTrue_at seen c.in_ok-clean.ensures.clean))

pub returns-clause-clean : goal.returns-clause-clean
returns-clause-clean c =
    let n = c.len-places.ensures.count in
    let past = c.loop-at-test.false in
    all_clean c.args.exchange.now c.args.scale c.args.mode c.loop-at.at (omega (arith, n, past)) c.loop-at.invariant.2
