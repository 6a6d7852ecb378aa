use Rattle.std.proofs.Common.{◌≡◌, ◌+◌, ◌-◌, ◌<◌, length, get_or, refl, arith}
use Rattle.model_walk.specs.inner.GuidSlots.{guids_seen}
use Rattle.model_walk.proofs.SlotsChained.{guid_there, sought_first, sought_next, sought_all, falls, another}
use Rattle.model_walk.proofs.distinct_guids.is_new.Goals as goal

pub loop-other-init : goal.loop-other-init
loop-other-init c =
    let slot = c.args.slot in
    sought_first (length c.args.last.now) (guids_seen c.args.elements.now) c.args.guid.now (length c.args.before.now) (get_or c.args.last.now slot 0) slot c.requires.same
    (c.requires.noted slot c.requires.slot)

pub loop-other-preserved : goal.loop-other-preserved
loop-other-preserved c =
    let guids = guids_seen c.args.elements.now in
    let other = c.loop-other.other in
    let e : other ≡ other - 1 + 1 = omega (arith, c.loop-other-test.true) in
    let w : other - 1 < length c.args.elements.now = omega (arith, e, c.requires.within, c.loop-other.invariant.within) in
    let there = guid_there c.args.elements.now (other - 1) c.index-elements-place.result w in
    sought_next (length c.args.last.now) guids c.args.before.now c.args.guid.now other (other - 1) e c.requires.chained
    (another guids (other - 1) _ c.args.guid.now c.eq.result there c.eq.ensures c.if-eq.false)
    c.loop-other.invariant

pub loop-other-smaller : goal.loop-other-smaller
loop-other-smaller c =
    let other = c.loop-other.other in
    let e : other ≡ other - 1 + 1 = omega (arith, c.loop-other-test.true) in
    falls (length c.args.last.now) (guids_seen c.args.elements.now) c.args.before.now (length c.args.before.now) other (other - 1) e refl c.loop-other.invariant.within c.requires.chained

pub returns : goal.returns
returns c =
    sought_all (length c.args.last.now) (guids_seen c.args.elements.now) c.args.guid.now (length c.args.before.now) c.loop-other.other c.loop-other-test.false c.loop-other.invariant
