use Rattle.std.proofs.Common.{arith, refl, sym, ◌∙◌}
use Rattle.std.proofs.lemmas.List.{append-nil}
use Rattle.ifc_schema.proofs.Following.{going_on, going_same}
use Rattle.ifc_schema.proofs.visit.follow_all.Goals as goal

pub loop-at-preserved : goal.loop-at-preserved
loop-at-preserved c =
    let grows = c.in_ok-visit.ensures.grows in
    record {
      going = going_on c.args.exchange.now c.loop-at.work (record { marks = c.loop-at.work.marks; stack = c.pop.new.self }) c.visit.new.work c.in-Some.at c.loop-at.invariant.going refl c.in-Some.ensures.items
          grows c.in_ok-visit.ensures.followed;
      grows = λ k r. let x = c.loop-at.invariant.grows k r in let y = grows.rises k in omega arith;
    }

pub returns-clause-going : goal.returns-clause-going
returns-clause-going c =
    going_same c.args.exchange.now c.loop-at.work (record { marks = c.loop-at.work.marks; stack = c.pop.new.self }) c.loop-at.invariant.going refl (sym (c.in_default.ensures.items ∙ append-nil c.pop.new.self.items))
