use Rattle.std.proofs.Common.{rules, ℕ, ◌<◌, length, ap, subst, sym, arith, length-append, ◌∙◌}
use mathlib.Core.Option.{none}
use Rattle.atomic_table.specs.Table.{step}
use Rattle.book_turn.proofs.Keeps.{joins, compares, glues}
use Rattle.book_turn.proofs.tickets.Board.glue.Goals as goal

pub join_seat-requires : goal.join_seat-requires
join_seat-requires g c = let f = c.requires.free in let o = c.requires.other in (search rules, search rules, o.2, search rules, joins _ _ _ _ _ _ _ _ _ _ f.0 o.0 f.1 o.1)

pub load-requires : goal.load-requires
load-requires g c =
    let j = c.join_seat.ensures.2 in let f = c.requires.free.1 in
    let more = length-append c.args.seat.now.me.0.passes c.args.other.me.0.passes in
    let some : 0 < length c.join_seat.new.seat.me.0.passes = subst (λ (x : ℕ). 0 < x) (sym (ap (λ m. length m.0.passes) j)) (omega arith) in
    (search rules, search rules, compares _ _ _ _ _ _ _ _ _ (ap (λ m. m.0.stage) j) some)

pub returns-clause-glued : goal.returns-clause-glued
returns-clause-glued g c = let t = glues _ _ _ _ _ _ _ (step 1 0 0 0 none) 0 c.join_seat.ensures.2 c.load.ensures.2 in (t.0, t.1 ∙ c.requires.free.2)
