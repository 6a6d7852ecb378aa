use Rattle.std.proofs.Common.{inl, inr}
use Rattle.tri_pierce.proofs.Coordinates.{held_32, before_named}
use Rattle.tri_pierce.proofs.touching_boxes.is_beside.Goals as goal

pub is_before-requires-clause-a_in : goal.is_before-requires-clause-a_in
is_before-requires-clause-a_in c = held_32 c.args.a c.requires.a_in

pub is_before-requires-clause-b_in : goal.is_before-requires-clause-b_in
is_before-requires-clause-b_in c = held_32 c.args.b c.requires.b_in

pub is_before-requires-clause-c_in : goal.is_before-requires-clause-c_in
is_before-requires-clause-c_in c = held_32 c.args.c c.requires.c_in

pub is_before-requires-clause-p_in : goal.is_before-requires-clause-p_in
is_before-requires-clause-p_in c = held_32 c.args.p c.requires.p_in

pub is_before-requires-clause-q_in : goal.is_before-requires-clause-q_in
is_before-requires-clause-q_in c = held_32 c.args.q c.requires.q_in

pub is_before-requires-clause-r_in : goal.is_before-requires-clause-r_in
is_before-requires-clause-r_in c = held_32 c.args.r c.requires.r_in

pub is_before-requires-2-clause-a_in : goal.is_before-requires-2-clause-a_in
is_before-requires-2-clause-a_in c = held_32 c.args.p c.requires.p_in

pub is_before-requires-2-clause-b_in : goal.is_before-requires-2-clause-b_in
is_before-requires-2-clause-b_in c = held_32 c.args.q c.requires.q_in

pub is_before-requires-2-clause-c_in : goal.is_before-requires-2-clause-c_in
is_before-requires-2-clause-c_in c = held_32 c.args.r c.requires.r_in

pub is_before-requires-2-clause-p_in : goal.is_before-requires-2-clause-p_in
is_before-requires-2-clause-p_in c = held_32 c.args.a c.requires.a_in

pub is_before-requires-2-clause-q_in : goal.is_before-requires-2-clause-q_in
is_before-requires-2-clause-q_in c = held_32 c.args.b c.requires.b_in

pub is_before-requires-2-clause-r_in : goal.is_before-requires-2-clause-r_in
is_before-requires-2-clause-r_in c = held_32 c.args.c c.requires.c_in

pub returns-then-is_before : goal.returns-then-is_before
returns-then-is_before c = let a = c.args in let r = c.requires in λ x. inl (before_named a.a a.b a.c a.p a.q a.r r.a_in r.b_in r.c_in r.p_in r.q_in r.r_in (c.is_before.ensures c.if-is_before.true))

pub returns : goal.returns
returns c = let a = c.args in let r = c.requires in λ x. inr (before_named a.p a.q a.r a.a a.b a.c r.p_in r.q_in r.r_in r.a_in r.b_in r.c_in (c.is_before-2.ensures x))
