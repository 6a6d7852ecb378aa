use Rattle.std.proofs.Common.{◌≡◌, ◌<◌, ◌∷◌, [], length, Some, None, ap, ◌∙◌, sym, arith}
use Rattle.std.proofs.lemmas.List.{get_or_append_left, get_or_default}
use Rattle.placement.specs.inner.Walks.{rank_at}
use Rattle.placement.proofs.Walking.{none_left, no_rank, met_one, climbs_on, climbed_top, unread, stuck, outcome}
use Rattle.placement.proofs.walk.Walk.climb.Goals as goal

pub returns-in_default-clause-outcome : goal.returns-in_default-clause-outcome
returns-in_default-clause-outcome c =
    stuck c.args.exchange.now c.up.self.met.items c.len-start.result c.up.current c.args.id c.up.invariant.climbs
    (unread c.args.exchange.now c.up.current (none_left c.standing_of.result _ c.in_default.not-Some c.standing_of.ensures.none))

pub returns-in-Some-index-clause-outcome : goal.returns-in-Some-index-clause-outcome
returns-in-Some-index-clause-outcome c =
    let s = c.in-Some.ensures.some in
    let w = s.place.within in
    let z = c.up.invariant.ranked.size in
    let l : c.in-Some.found.at < length c.up.self.ranks.items = omega arith in
    let r : rank_at c.up.self.ranks.items c.in-Some.found.at ≡ Some c.in-Some-index.rank = get_or_default c.up.self.ranks.items c.in-Some.found.at None c.index.result.now l ∙ sym c.index.ensures ∙ c.in-Some-index.is in
    let m = c.up.invariant.ranked.sound c.up.current c.in-Some.found.at c.in-Some-index.rank s.place r in
    rw (← c.up.invariant.start) (outcome c.args.exchange.now c.up.self.met.items c.len-start.result c.up.current c.args.id c.in-Some-index.rank c.up.invariant.climbs m.0 m.1)

pub up-preserved : goal.up-preserved
up-preserved c =
    let s = c.in-Some.ensures.some in
    let w = s.place.within in
    let z = c.up.invariant.ranked.size in
    let l : c.in-Some.found.at < length c.up.self.ranks.items = omega arith in
    let n : rank_at c.up.self.ranks.items c.in-Some.found.at ≡ None = get_or_default c.up.self.ranks.items c.in-Some.found.at None c.index.result.now l ∙ sym c.index.ensures ∙ no_rank c.index.result.now c.in_default-index.not-Some in
    let b = c.up.invariant.climbs.begun in
    record {
      ranked = rw (c.in_ok-meet.ensures.ranks, c.in_ok-meet.ensures.met) (met_one c.args.exchange.now c.up.self.ranks.items c.up.self.met.items c.up.current c.in-Some.found.at c.up.invariant.ranked s.place n);
      climbs = rw c.in_ok-meet.ensures.met (climbs_on c.args.exchange.now c.up.self.met.items c.len-start.result c.up.current c.in-Some-parent.parent c.args.id c.up.invariant.climbs (s.parent ∙ ap Some c.in-Some-parent.is));
      start = c.up.invariant.start;
      kept = λ k lt. rw c.in_ok-meet.ensures.met (let l : k < length c.up.self.met.items = omega (arith, c.up.invariant.start, b) in get_or_append_left c.up.self.met.items (c.up.current ∷ []) 0 k l ∙ c.up.invariant.kept k lt);
      order = c.in_ok-meet.ensures.order ∙ c.up.invariant.order;
    }

pub returns-in-None-clause-ranked : goal.returns-in-None-clause-ranked
returns-in-None-clause-ranked c =
    let s = c.in-Some.ensures.some in
    let w = s.place.within in
    let z = c.up.invariant.ranked.size in
    let l : c.in-Some.found.at < length c.up.self.ranks.items = omega arith in
    let n : rank_at c.up.self.ranks.items c.in-Some.found.at ≡ None = get_or_default c.up.self.ranks.items c.in-Some.found.at None c.index.result.now l ∙ sym c.index.ensures ∙ no_rank c.index.result.now c.in_default-index.not-Some in
    rw (c.in_ok-meet.ensures.ranks, c.in_ok-meet.ensures.met) (met_one c.args.exchange.now c.up.self.ranks.items c.up.self.met.items c.up.current c.in-Some.found.at c.up.invariant.ranked s.place n)

pub returns-in-None-clause-outcome : goal.returns-in-None-clause-outcome
returns-in-None-clause-outcome c =
    let s = c.in-Some.ensures.some in
    rw (c.in_ok-meet.ensures.met, ← c.up.invariant.start) (climbed_top c.args.exchange.now c.up.self.met.items c.len-start.result c.up.current c.args.id c.up.invariant.climbs (s.parent ∙ ap Some c.in-None.is))
