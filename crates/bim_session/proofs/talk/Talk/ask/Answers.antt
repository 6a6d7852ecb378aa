use Rattle.std.proofs.Common.{ap}
use Rattle.bim_session.specs.Talking.{TalkState}
use Rattle.bim_session.proofs.Talks.{asks_kept}
use Rattle.bim_session.proofs.talk.Talk.ask.Goals as goal

pub returns-in-Ok-Some-clause-want : goal.returns-in-Ok-Some-clause-want
returns-in-Ok-Some-clause-want c =
    let kept = rw c.in-Ok-Some.field-0-is at c.in-Ok-Some.ensures.kept in
    let same = ap (λ (s : TalkState). s.notes) c.self.view_is in
    asks_kept c.args.waiting c.args.call c.args.self.now c.respond.new.self c.self.inside.notes c.in-Ok-Some.reply c.respond.result same kept
    c.respond.ensures.want c.respond.ensures.ok
