use Rattle.std.proofs.Common.{rules, ◌≡◌, ℕ, pos, subst}
use Rattle.bim_text.specs.Decimals.{WritesWhole}
use Rattle.faceset.proofs.Decimals.{after_none, after_zero, after_many, one_less}
use Rattle.faceset.proofs.indexes.place_among.Goals as goal

pub returns-in-None-clause-none : goal.returns-in-None-clause-none
returns-in-None-clause-none c = after_none c.args.bytes.now c.args.count c.requires c.in-None.ensures.none

pub returns-in-Some-eq0-clause-none : goal.returns-in-Some-eq0-clause-none
returns-in-Some-eq0-clause-none c =
    let e : c.in-Some-eq0.field-0 ≡ 0 = search rules in
    after_zero c.args.bytes.now c.args.count (subst (λ (n : ℕ). WritesWhole c.args.bytes.now (pos n)) e c.in-Some-eq0.ensures.some)

pub returns-then-index-count-clause-some : goal.returns-then-index-count-clause-some
returns-then-index-count-clause-some c = (search rules, one_less c.args.bytes.now c.in-Some.index (search rules) c.in-Some.ensures.some)

pub returns-else-index-count-clause-none : goal.returns-else-index-count-clause-none
returns-else-index-count-clause-none c = after_many c.args.bytes.now c.args.count c.in-Some.index (search rules) c.in-Some.ensures.some
