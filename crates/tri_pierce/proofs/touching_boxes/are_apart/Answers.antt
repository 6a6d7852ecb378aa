use Rattle.tri_pierce.proofs.Coordinates.{held_32, named}
use Rattle.tri_pierce.proofs.ListBoxes.{both_spanned}
use Rattle.tri_pierce.proofs.Touching.{beside_x, beside_y, beside_z}
use Rattle.tri_pierce.proofs.touching_boxes.are_apart.Goals as goal

pub is_beside-requires-clause-a_in : goal.is_beside-requires-clause-a_in
is_beside-requires-clause-a_in c = held_32 c.args.own.low.x c.requires.own_in.low_in.x_in

pub is_beside-requires-clause-b_in : goal.is_beside-requires-clause-b_in
is_beside-requires-clause-b_in c = held_32 c.args.own.high.x c.requires.own_in.high_in.x_in

pub is_beside-requires-clause-c_in : goal.is_beside-requires-clause-c_in
is_beside-requires-clause-c_in c = held_32 c.args.own.high.x c.requires.own_in.high_in.x_in

pub is_beside-requires-clause-p_in : goal.is_beside-requires-clause-p_in
is_beside-requires-clause-p_in c = held_32 c.args.around.low.x c.requires.around_in.low_in.x_in

pub is_beside-requires-clause-q_in : goal.is_beside-requires-clause-q_in
is_beside-requires-clause-q_in c = held_32 c.args.around.high.x c.requires.around_in.high_in.x_in

pub is_beside-requires-clause-r_in : goal.is_beside-requires-clause-r_in
is_beside-requires-clause-r_in c = held_32 c.args.around.high.x c.requires.around_in.high_in.x_in

pub is_beside-requires-2-clause-a_in : goal.is_beside-requires-2-clause-a_in
is_beside-requires-2-clause-a_in c = held_32 c.args.own.low.y c.requires.own_in.low_in.y_in

pub is_beside-requires-2-clause-b_in : goal.is_beside-requires-2-clause-b_in
is_beside-requires-2-clause-b_in c = held_32 c.args.own.high.y c.requires.own_in.high_in.y_in

pub is_beside-requires-2-clause-c_in : goal.is_beside-requires-2-clause-c_in
is_beside-requires-2-clause-c_in c = held_32 c.args.own.high.y c.requires.own_in.high_in.y_in

pub is_beside-requires-2-clause-p_in : goal.is_beside-requires-2-clause-p_in
is_beside-requires-2-clause-p_in c = held_32 c.args.around.low.y c.requires.around_in.low_in.y_in

pub is_beside-requires-2-clause-q_in : goal.is_beside-requires-2-clause-q_in
is_beside-requires-2-clause-q_in c = held_32 c.args.around.high.y c.requires.around_in.high_in.y_in

pub is_beside-requires-2-clause-r_in : goal.is_beside-requires-2-clause-r_in
is_beside-requires-2-clause-r_in c = held_32 c.args.around.high.y c.requires.around_in.high_in.y_in

pub is_beside-requires-3-clause-a_in : goal.is_beside-requires-3-clause-a_in
is_beside-requires-3-clause-a_in c = held_32 c.args.own.low.z c.requires.own_in.low_in.z_in

pub is_beside-requires-3-clause-b_in : goal.is_beside-requires-3-clause-b_in
is_beside-requires-3-clause-b_in c = held_32 c.args.own.high.z c.requires.own_in.high_in.z_in

pub is_beside-requires-3-clause-c_in : goal.is_beside-requires-3-clause-c_in
is_beside-requires-3-clause-c_in c = held_32 c.args.own.high.z c.requires.own_in.high_in.z_in

pub is_beside-requires-3-clause-p_in : goal.is_beside-requires-3-clause-p_in
is_beside-requires-3-clause-p_in c = held_32 c.args.around.low.z c.requires.around_in.low_in.z_in

pub is_beside-requires-3-clause-q_in : goal.is_beside-requires-3-clause-q_in
is_beside-requires-3-clause-q_in c = held_32 c.args.around.high.z c.requires.around_in.high_in.z_in

pub is_beside-requires-3-clause-r_in : goal.is_beside-requires-3-clause-r_in
is_beside-requires-3-clause-r_in c = held_32 c.args.around.high.z c.requires.around_in.high_in.z_in

pub returns-then-is_beside : goal.returns-then-is_beside
returns-then-is_beside c =
    let k = c.args.own in let m = c.args.around in let f = c.requires.own_in in let g = c.requires.around_in in
    λ x p q i j. beside_x p q (both_spanned k.low.x k.high.x m.low.x m.high.x p.a.x p.b.x p.c.x q.a.x q.b.x q.c.x i.a_in.x_low i.b_in.x_low i.c_in.x_low i.a_in.x_high i.b_in.x_high i.c_in.x_high j.a_in.x_low j.b_in.x_low j.c_in.x_low j.a_in.x_high j.b_in.x_high j.c_in.x_high (named k.low.x k.high.x k.high.x m.low.x m.high.x m.high.x f.low_in.x_in f.high_in.x_in f.high_in.x_in g.low_in.x_in g.high_in.x_in g.high_in.x_in (c.is_beside.ensures c.if-is_beside.true)))

pub returns-then-is_beside-2 : goal.returns-then-is_beside-2
returns-then-is_beside-2 c =
    let k = c.args.own in let m = c.args.around in let f = c.requires.own_in in let g = c.requires.around_in in
    λ x p q i j. beside_y p q (both_spanned k.low.y k.high.y m.low.y m.high.y p.a.y p.b.y p.c.y q.a.y q.b.y q.c.y i.a_in.y_low i.b_in.y_low i.c_in.y_low i.a_in.y_high i.b_in.y_high i.c_in.y_high j.a_in.y_low j.b_in.y_low j.c_in.y_low j.a_in.y_high j.b_in.y_high j.c_in.y_high (named k.low.y k.high.y k.high.y m.low.y m.high.y m.high.y f.low_in.y_in f.high_in.y_in f.high_in.y_in g.low_in.y_in g.high_in.y_in g.high_in.y_in (c.is_beside-2.ensures c.if-is_beside-2.true)))

pub returns : goal.returns
returns c =
    let k = c.args.own in let m = c.args.around in let f = c.requires.own_in in let g = c.requires.around_in in
    λ x p q i j. beside_z p q (both_spanned k.low.z k.high.z m.low.z m.high.z p.a.z p.b.z p.c.z q.a.z q.b.z q.c.z i.a_in.z_low i.b_in.z_low i.c_in.z_low i.a_in.z_high i.b_in.z_high i.c_in.z_high j.a_in.z_low j.b_in.z_low j.c_in.z_low j.a_in.z_high j.b_in.z_high j.c_in.z_high (named k.low.z k.high.z k.high.z m.low.z m.high.z m.high.z f.low_in.z_in f.high_in.z_in f.high_in.z_in g.low_in.z_in g.high_in.z_in g.high_in.z_in (c.is_beside-3.ensures x)))
