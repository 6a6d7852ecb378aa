use Rattle.std.proofs.Common.{refl, sym, ap, ◌∙◌, subst}
use Rattle.http_frame.specs.declared.watch.Look.{Look}
use Rattle.http_frame.specs.Scan.{spot_run}
use Rattle.http_frame.specs.Watched.{IsLook}
use Rattle.http_frame.proofs.Watching.{walked, early_look, early_asked, open_look, asked_stays, judged_look, judged_asked}
use Rattle.http_frame.proofs.watch.Watch.look.Goals as goal

pub returns-then-is_early-clause-look : goal.returns-then-is_early-clause-look
returns-then-is_early-clause-look c =
    let at = walked c.args.self.spot c.walk_on-spot.result c.args.self.seen c.args.front.now c.requires.watch.0 (c.walk_on-spot.ensures ∙ ap (spot_run c.args.self.spot) c.tail.ensures) in
    early_look c.args.front.now c.walk_on-spot.result at (sym c.is_early.ensures ∙ c.if-is_early.true)

pub returns-then-is_early-clause-watch : goal.returns-then-is_early-clause-watch
returns-then-is_early-clause-watch c =
    let at = walked c.args.self.spot c.walk_on-spot.result c.args.self.seen c.args.front.now c.requires.watch.0 (c.walk_on-spot.ensures ∙ ap (spot_run c.args.self.spot) c.tail.ensures) in
    λ is. (refl, (at, early_asked c.walk_on-spot.result c.args.front.now (sym c.is_early.ensures ∙ c.if-is_early.true)))

pub returns-then-is_early-2-clause-look : goal.returns-then-is_early-2-clause-look
returns-then-is_early-2-clause-look c =
    let at = walked c.args.self.spot c.walk_on-spot.result c.args.self.seen c.args.front.now c.requires.watch.0 (c.walk_on-spot.ensures ∙ ap (spot_run c.args.self.spot) c.tail.ensures) in
    subst (λ (v : Look). IsLook c.args.front.now c.ask_parser.new.headers v) (sym c.look_of.ensures) (judged_look c.args.front.now c.ask_parser.new.headers c.walk_on-spot.result c.ask_parser.result at (sym c.is_early.ensures ∙ c.if-is_early.false) c.ask_parser.ensures)

pub returns-then-is_early-2-clause-watch : goal.returns-then-is_early-2-clause-watch
returns-then-is_early-2-clause-watch c =
    let at = walked c.args.self.spot c.walk_on-spot.result c.args.self.seen c.args.front.now c.requires.watch.0 (c.walk_on-spot.ensures ∙ ap (spot_run c.args.self.spot) c.tail.ensures) in
    λ is. (refl, (at, judged_asked c.args.front.now c.ask_parser.new.headers c.walk_on-spot.result c.ask_parser.result at (sym c.is_early.ensures ∙ c.if-is_early.false) c.ask_parser.ensures (sym c.look_of.ensures ∙ is)))

pub returns-then-is_open-clause-look : goal.returns-then-is_open-clause-look
returns-then-is_open-clause-look c =
    let at = walked c.args.self.spot c.walk_on-spot.result c.args.self.seen c.args.front.now c.requires.watch.0 (c.walk_on-spot.ensures ∙ ap (spot_run c.args.self.spot) c.tail.ensures) in
    open_look c.args.front.now c.walk_on-spot.result at (sym c.is_early.ensures ∙ c.if-is_early.false) (sym c.is_open.ensures ∙ c.if-is_open.true) (asked_stays c.args.self.seen c.args.front.now c.args.self.spot c.walk_on-spot.result c.requires.watch.0 at (sym c.is_early-2.ensures ∙ c.if-is_early-2.false) (sym c.is_early.ensures ∙ c.if-is_early.false) c.requires.watch.1)

pub returns-then-is_open-clause-watch : goal.returns-then-is_open-clause-watch
returns-then-is_open-clause-watch c =
    let at = walked c.args.self.spot c.walk_on-spot.result c.args.self.seen c.args.front.now c.requires.watch.0 (c.walk_on-spot.ensures ∙ ap (spot_run c.args.self.spot) c.tail.ensures) in
    λ is. (refl, (at, (asked_stays c.args.self.seen c.args.front.now c.args.self.spot c.walk_on-spot.result c.requires.watch.0 at (sym c.is_early-2.ensures ∙ c.if-is_early-2.false) (sym c.is_early.ensures ∙ c.if-is_early.false) c.requires.watch.1)))

pub returns-clause-look : goal.returns-clause-look
returns-clause-look c =
    let at = walked c.args.self.spot c.walk_on-spot.result c.args.self.seen c.args.front.now c.requires.watch.0 (c.walk_on-spot.ensures ∙ ap (spot_run c.args.self.spot) c.tail.ensures) in
    subst (λ (v : Look). IsLook c.args.front.now c.ask_parser-2.new.headers v) (sym c.look_of-2.ensures) (judged_look c.args.front.now c.ask_parser-2.new.headers c.walk_on-spot.result c.ask_parser-2.result at (sym c.is_early.ensures ∙ c.if-is_early.false) c.ask_parser-2.ensures)

pub returns-clause-watch : goal.returns-clause-watch
returns-clause-watch c =
    let at = walked c.args.self.spot c.walk_on-spot.result c.args.self.seen c.args.front.now c.requires.watch.0 (c.walk_on-spot.ensures ∙ ap (spot_run c.args.self.spot) c.tail.ensures) in
    λ is. (refl, (at, judged_asked c.args.front.now c.ask_parser-2.new.headers c.walk_on-spot.result c.ask_parser-2.result at (sym c.is_early.ensures ∙ c.if-is_early.false) c.ask_parser-2.ensures (sym c.look_of-2.ensures ∙ is)))
