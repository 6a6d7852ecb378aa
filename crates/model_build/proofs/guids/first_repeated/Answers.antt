use Rattle.std.proofs.Common.{◌≡◌, ◌+◌, get_or, true, false, not, Bool, subst, sym, refl, Option, Some, None, MatchOption}
use Rattle.bim_model.specs.declared.guid.Guid.{Guid}
use Rattle.std.specs.BTreeSet.{contains}
use Rattle.model_build.specs.DuplicateGuids.{HasThatGuid, HasNoGuid}
use Rattle.model_build.proofs.FirstRepeated.{Searched, by_bytes, first_found, searched_more, none_repeat, never_missing}
use Rattle.model_build.proofs.guids.first_repeated.Goals as goal
use Rattle.model_build.proofs.guids.first_repeated.Goals.{in-Some+in_ok-added+else-not-added, in_default}

old_one : (a b : Bool) → a ≡ not b → a ≡ false → b ≡ true
old_one a true e f = refl
old_one a false e f = cc

new_one : (a b : Bool) → a ≡ not b → a ≡ true → b ≡ false
new_one a false e f = refl
new_one a true e f = cc

some_told : (None-says : Type 0) (Some-says : Guid → Type 0) (found : Option Guid) (guid : Guid) → found ≡ Some guid → MatchOption found None-says Some-says → Some-says guid
some_told N S found guid e m = subst (λ o. MatchOption o N S) e m

none_told : (None-says : Type 0) (Some-says : Guid → Type 0) (found : Option Guid) → ((guid : Guid) → found ≡ Some guid → ⊥) → MatchOption found None-says Some-says → None-says
none_told N S None h m = m
none_told N S (Some g) h m = absurd (h g refl)

pub returns-then-not-added : goal.returns-then-not-added
returns-then-not-added c =
    first_found c.args.exchange.now c.args.ids.now c.loop-id.id-index (get_or c.args.ids.now c.loop-id.id-index 0) c.in-Some.guid.chars c.loop-id.seen c.requires.rise c.loop-id-test.true refl
    (some_told (HasNoGuid c.args.exchange.now (get_or c.args.ids.now c.loop-id.id-index 0)) (HasThatGuid c.args.exchange.now (get_or c.args.ids.now c.loop-id.id-index 0)) c.in_ok-guid.field-0 c.in-Some.guid c.in-Some.is c.in_ok-guid.ensures)
    (old_one c.in_ok-added.added (contains by_bytes c.loop-id.seen c.in-Some.guid.chars) c.in_ok-added.ensures.added c.if-not-added.true) c.loop-id.invariant

pub loop-id-preserved : goal.loop-id-preserved
loop-id-preserved c = elim c.match-branch-2.branch [
  | in-Some+in_ok-added+else-not-added w ↦
      subst (λ s. Searched c.args.exchange.now c.args.ids.now (c.loop-id.id-index + 1) s) (sym w.seen-is)
      (searched_more c.args.exchange.now c.args.ids.now c.loop-id.id-index (get_or c.args.ids.now c.loop-id.id-index 0) w.in-Some.guid.chars c.loop-id.seen w.insert.new.self c.requires.rise c.loop-id-test.true refl
      (some_told (HasNoGuid c.args.exchange.now (get_or c.args.ids.now c.loop-id.id-index 0)) (HasThatGuid c.args.exchange.now (get_or c.args.ids.now c.loop-id.id-index 0)) c.in_ok-guid.field-0 w.in-Some.guid w.in-Some.is c.in_ok-guid.ensures)
      (new_one w.in_ok-added.added (contains by_bytes c.loop-id.seen w.in-Some.guid.chars) w.in_ok-added.ensures.added w.if-not-added.false) w.in_ok-added.ensures.updates c.loop-id.invariant)
  | in_default w ↦ absurd (never_missing c.args.exchange.now c.args.ids.now c.loop-id.id-index (get_or c.args.ids.now c.loop-id.id-index 0) c.loop-id-test.true refl c.requires.identified
      (none_told (HasNoGuid c.args.exchange.now (get_or c.args.ids.now c.loop-id.id-index 0)) (HasThatGuid c.args.exchange.now (get_or c.args.ids.now c.loop-id.id-index 0)) c.in_ok-guid.field-0 w.in_default.not-Some c.in_ok-guid.ensures))
]

pub returns : goal.returns
returns c = none_repeat c.args.exchange.now c.args.ids.now c.loop-id.id-index c.loop-id.seen c.loop-id-test.false c.loop-id.invariant
