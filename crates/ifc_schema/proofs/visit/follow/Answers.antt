use Rattle.ifc_schema.proofs.Results.{on_ok, on_ok2}
use Rattle.ifc_schema.proofs.Growing.{grows_trans, marked_on}
use Rattle.ifc_schema.proofs.Following.{names_any}
use Rattle.ifc_schema.proofs.visit.follow.Goals as goal

pub returns-clause-grows : goal.returns-clause-grows
returns-clause-grows c =
    on_ok c.follow_map.result (grows_trans c.args.exchange.now c.args.work.now c.follow_row.new.work c.follow_map.new.work c.in_ok-follow_row.ensures.grows) c.follow_map.ensures.grows

pub returns-clause-followed : goal.returns-clause-followed
returns-clause-followed c =
    let world = c.args.exchange.now in
    on_ok2 c.follow_map.result (λ g m. record {
      names = λ to n. marked_on world c.follow_row.new.work c.follow_map.new.work 0 to g
          (c.in_ok-follow_row.ensures.marked to (names_any world c.args.mapped c.args.instance.now to n));
      maps = m;
    }) c.follow_map.ensures.grows c.follow_map.ensures.marked
