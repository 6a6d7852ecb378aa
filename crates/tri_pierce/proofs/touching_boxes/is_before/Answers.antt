use Rattle.exact_arith.proofs.Order.{le_trans}
use Rattle.tri_pierce.proofs.Coordinates.{held_32, tested, low_named, high_named}
use Rattle.tri_pierce.proofs.touching_boxes.is_before.Goals as goal

pub greatest-high-requires-clause-a_in : goal.greatest-high-requires-clause-a_in
greatest-high-requires-clause-a_in c = held_32 c.args.a c.requires.a_in

pub greatest-high-requires-clause-b_in : goal.greatest-high-requires-clause-b_in
greatest-high-requires-clause-b_in c = held_32 c.args.b c.requires.b_in

pub greatest-high-requires-clause-c_in : goal.greatest-high-requires-clause-c_in
greatest-high-requires-clause-c_in c = held_32 c.args.c c.requires.c_in

pub least-low-requires-clause-a_in : goal.least-low-requires-clause-a_in
least-low-requires-clause-a_in c = held_32 c.args.p c.requires.p_in

pub least-low-requires-clause-b_in : goal.least-low-requires-clause-b_in
least-low-requires-clause-b_in c = held_32 c.args.q c.requires.q_in

pub least-low-requires-clause-c_in : goal.least-low-requires-clause-c_in
least-low-requires-clause-c_in c = held_32 c.args.r c.requires.r_in

pub returns : goal.returns
returns c =
    let g = c.greatest-high in let l = c.least-low in let a = c.args in let r = c.requires in
    λ x.
    let k = tested g.result l.result g.ensures.small l.ensures.small x in
    record {
      between = g.result;
      a_in = low_named a.a g.result r.a_in g.ensures.a;
      b_in = low_named a.b g.result r.b_in g.ensures.b;
      c_in = low_named a.c g.result r.c_in g.ensures.c;
      p_in = le_trans g.result l.result a.p k (high_named a.p l.result r.p_in l.ensures.a);
      q_in = le_trans g.result l.result a.q k (high_named a.q l.result r.q_in l.ensures.b);
      r_in = le_trans g.result l.result a.r k (high_named a.r l.result r.r_in l.ensures.c);
    }
