use Rattle.bim_session.specs.Talking.{TalkState}
use Rattle.bim_session.proofs.Talks.{fed_bytes}
use Rattle.bim_session.proofs.talk.Talk.feed.Goals as goal

pub returns-in_default-clause-ok : goal.returns-in_default-clause-ok
returns-in_default-clause-ok c =
    let own : TalkState = record {
      framer = c.self.inside.framer;
      ended = c.self.inside.ended;
      served = c.self.inside.served;
      waits = c.self.inside.waits;
      notes = c.self.inside.notes;
      leaving = c.self.inside.leaving;
    } in
    let going = rw (← c.self.view_is) at c.requires in
    rw (← c.self.view_is) (fed_bytes c.feed.result own c.feed.new.self c.args.piece.now c.in_default.len_at_least going c.feed.ensures.ok)
