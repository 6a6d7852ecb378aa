use Rattle.std.proofs.Common.{◌≡◌, get_or, sym, ◌∙◌, true, false}
use Rattle.std.proofs.lemmas.Option.{get_or_from_slice_get}
use Rattle.p21_values.specs.InstancePlaces.{IsPlaceOf}
use Rattle.ifc_schema.specs.Forms.{holds}
use Rattle.ifc_schema.specs.InstanceMarks.{rank}
use Rattle.ifc_schema.proofs.Growing.{meant_there, not_meant, reached_there, raise_grows}
use Rattle.ifc_schema.proofs.Results.{on_ok2}
use Rattle.ifc_schema.proofs.follow.mark_target.Goals as goal

pub returns-then-include-clause-grows : goal.returns-then-include-clause-grows
returns-then-include-clause-grows c =
    let world = c.args.exchange.now in
    let i = c.instance.result in
    let p : IsPlaceOf world c.args.to c.in-Some.at = c.in-Some.ensures in
    let is : i ≡ get_or world c.in-Some.at i = sym (get_or_from_slice_get world c.in-Some.at i i c.instance.ensures) in
    let meant : holds c.args.targets i.keyword ≡ true = sym c.include.ensures ∙ c.if-include.true in
    let s = c.requires.sound (meant_there world c.args.targets c.args.to c.in-Some.at i p is meant) c.in-Some.at p in
    on_ok2 c.raise.result (λ m k. (raise_grows world c.args.work.now c.raise.new.self c.in-Some.at c.args.mark (rw c.requires.size p.within) s m k).grows) c.raise.ensures.marks c.raise.ensures.stack

pub returns-then-include-clause-marked : goal.returns-then-include-clause-marked
returns-then-include-clause-marked c =
    let world = c.args.exchange.now in
    let i = c.instance.result in
    let p : IsPlaceOf world c.args.to c.in-Some.at = c.in-Some.ensures in
    on_ok2 c.raise.result (λ m k l q at_q.
    reached_there world c.raise.new.self c.args.to c.in-Some.at (rank c.args.mark) p
    (raise_grows world c.args.work.now c.raise.new.self c.in-Some.at c.args.mark (rw c.requires.size p.within) (c.requires.sound l c.in-Some.at p) m k).reached q at_q)
    c.raise.ensures.marks c.raise.ensures.stack

pub returns-else-include-clause-marked : goal.returns-else-include-clause-marked
returns-else-include-clause-marked c = λ l q at_q.
    let world = c.args.exchange.now in
    let i = c.instance.result in
    let p : IsPlaceOf world c.args.to c.in-Some.at = c.in-Some.ensures in
    let is : i ≡ get_or world c.in-Some.at i = sym (get_or_from_slice_get world c.in-Some.at i i c.instance.ensures) in
    let other : holds c.args.targets i.keyword ≡ false = sym c.include.ensures ∙ c.if-include.false in
    absurd (not_meant world c.args.targets c.args.to c.in-Some.at i p is other l)
