use Rattle.std.proofs.Common.{◌≡◌, true, false, sym, ◌∙◌}
use Rattle.std.proofs.lemmas.Bool.{OnTrue_at}
use Rattle.p21_values.specs.declared.value.Instance.{Instance}
use Rattle.ifc_schema.proofs.BodyBits.{bits_within, bit_there}
use Rattle.ifc_instances.specs.declared.entity.Entity.TheVariants.{PointList}
use Rattle.ifc_instances.specs.EntityLookup.{is_a}
use Rattle.model_walk.specs.Clean.{IsClean}
use Rattle.model_walk.proofs.CleanShown.{clean_shown, list_clean, set_clean}
use Rattle.model_walk.proofs.GuidsDiffer.{on_true}
use Rattle.model_walk.proofs.PlacesChecked.{holds_there, listed_there, kept_sets, kept_size, kept_clean}
use Rattle.model_walk.proofs.walking.look_at.Goals as goal

pub returns-then-is_set-clause-clean : goal.returns-then-is_set-clause-clean
returns-then-is_set-clause-clean c =
    let world = c.args.exchange.now in
    let i = c.instance-instance.result in
    let points = c.args.points.now in
    kept_clean c.keep_set.result world c.args.scale c.args.mode points c.args.sets.now c.keep_set.new.pool c.args.mapped c.args.at i c.instance-instance.ensures
    (λ kept read. set_clean world c.args.scale c.args.mode c.args.mapped points kept i (OnTrue_at c.if-not-shows_none.false c.shows_none.ensures) read)
    (c.keep_set.ensures c.args.scale c.args.mode c.requires.points)

pub returns-then-is_set-clause-sets : goal.returns-then-is_set-clause-sets
returns-then-is_set-clause-sets c =
    let world = c.args.exchange.now in
    kept_sets c.keep_set.result world c.args.scale c.args.mode c.args.points.now c.args.sets.now c.keep_set.new.pool c.args.at c.instance-instance.result c.instance-instance.ensures
    (c.keep_set.ensures c.args.scale c.args.mode c.requires.points)

pub returns-then-is_set-clause-size : goal.returns-then-is_set-clause-size
returns-then-is_set-clause-size c =
    let world = c.args.exchange.now in
    kept_size c.keep_set.result world c.args.scale c.args.mode c.args.points.now c.args.sets.now c.keep_set.new.pool c.args.at c.instance-instance.result c.requires.size
    (c.keep_set.ensures c.args.scale c.args.mode c.requires.points)

pub returns-then-includes-clause-clean : goal.returns-then-includes-clause-clean
returns-then-includes-clause-clean c =
    let world = c.args.exchange.now in
    let i = c.instance-instance.result in
    let kind : is_a PointList i ≡ true = sym c.includes.ensures ∙ c.if-includes.true in
    let found = listed_there world c.args.scale c.args.mode c.args.points.now c.args.at i c.instance-instance.ensures c.requires.points c.requires.list kind in
    holds_there (λ (j : Instance). IsClean world c.args.scale c.args.mode c.args.mapped j.id j) world c.args.at i c.instance-instance.ensures
    (list_clean world c.args.scale c.args.mode c.args.mapped found.0 i (OnTrue_at c.if-not-shows_none.false c.shows_none.ensures) found.1)

pub returns-clause-clean : goal.returns-clause-clean
returns-clause-clean c =
    let world = c.args.exchange.now in
    let i = c.instance-instance.result in
    on_true c.is_formed.result
    (λ formed. holds_there (λ (j : Instance). IsClean world c.args.scale c.args.mode c.args.mapped j.id j) world c.args.at i c.instance-instance.ensures
    (clean_shown world c.args.scale c.args.mode c.args.mapped i (OnTrue_at c.if-not-shows_none.false c.shows_none.ensures) formed (sym c.includes.ensures ∙ c.if-includes.false) (sym c.is_set.ensures ∙ c.if-is_set.false)))
    c.is_formed.ensures

pub keep_set-requires-clause-points : goal.keep_set-requires-clause-points
keep_set-requires-clause-points c = (c.args.scale, c.args.mode, c.requires.points)

pub bounds-bodied-at : goal.bounds-bodied-at
bounds-bodied-at c = bits_within c.args.exchange.now c.args.bodied.now c.args.at c.requires.bodied c.requires.within

pub is_formed-requires : goal.is_formed-requires
is_formed-requires c = record {
  bodied = bit_there c.args.exchange.now c.args.bodied.now c.args.at false c.instance-instance.result c.requires.bodied c.requires.within c.instance-instance.ensures;
}
