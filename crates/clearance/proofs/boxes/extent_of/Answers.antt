use Rattle.clearance.proofs.Words.{low_32, high_32}
use Rattle.clearance.proofs.boxes.extent_of.Goals as goal

pub returns-clause-inside : goal.returns-clause-inside
returns-clause-inside c =
    let t = c.args.t.now in let h = c.requires in
    record {
      a_in = record { x_low = low_32 c.least.result t.a.x c.least.ensures.small h.a_in.x_in c.least.ensures.a; y_low = low_32 c.least-2.result t.a.y c.least-2.ensures.small h.a_in.y_in c.least-2.ensures.a; z_low = low_32 c.least-3.result t.a.z c.least-3.ensures.small h.a_in.z_in c.least-3.ensures.a; x_high = high_32 c.greatest.result t.a.x c.greatest.ensures.small h.a_in.x_in c.greatest.ensures.a; y_high = high_32 c.greatest-2.result t.a.y c.greatest-2.ensures.small h.a_in.y_in c.greatest-2.ensures.a; z_high = high_32 c.greatest-3.result t.a.z c.greatest-3.ensures.small h.a_in.z_in c.greatest-3.ensures.a };
      b_in = record { x_low = low_32 c.least.result t.b.x c.least.ensures.small h.b_in.x_in c.least.ensures.b; y_low = low_32 c.least-2.result t.b.y c.least-2.ensures.small h.b_in.y_in c.least-2.ensures.b; z_low = low_32 c.least-3.result t.b.z c.least-3.ensures.small h.b_in.z_in c.least-3.ensures.b; x_high = high_32 c.greatest.result t.b.x c.greatest.ensures.small h.b_in.x_in c.greatest.ensures.b; y_high = high_32 c.greatest-2.result t.b.y c.greatest-2.ensures.small h.b_in.y_in c.greatest-2.ensures.b; z_high = high_32 c.greatest-3.result t.b.z c.greatest-3.ensures.small h.b_in.z_in c.greatest-3.ensures.b };
      c_in = record { x_low = low_32 c.least.result t.c.x c.least.ensures.small h.c_in.x_in c.least.ensures.c; y_low = low_32 c.least-2.result t.c.y c.least-2.ensures.small h.c_in.y_in c.least-2.ensures.c; z_low = low_32 c.least-3.result t.c.z c.least-3.ensures.small h.c_in.z_in c.least-3.ensures.c; x_high = high_32 c.greatest.result t.c.x c.greatest.ensures.small h.c_in.x_in c.greatest.ensures.c; y_high = high_32 c.greatest-2.result t.c.y c.greatest-2.ensures.small h.c_in.y_in c.greatest-2.ensures.c; z_high = high_32 c.greatest-3.result t.c.z c.greatest-3.ensures.small h.c_in.z_in c.greatest-3.ensures.c };
    }
