use Rattle.clearance.proofs.Words.{low_32, high_32}
use Rattle.clearance.proofs.boxes.join.Goals as goal

pub returns-clause-first : goal.returns-clause-first
returns-clause-first c = let k = c.args.first in let h = c.requires.first_in in record { x_low = low_32 c.lower.result k.low.x c.lower.ensures.small h.low_in.x_in c.lower.ensures.a; y_low = low_32 c.lower-2.result k.low.y c.lower-2.ensures.small h.low_in.y_in c.lower-2.ensures.a; z_low = low_32 c.lower-3.result k.low.z c.lower-3.ensures.small h.low_in.z_in c.lower-3.ensures.a; x_high = high_32 c.higher.result k.high.x c.higher.ensures.small h.high_in.x_in c.higher.ensures.a; y_high = high_32 c.higher-2.result k.high.y c.higher-2.ensures.small h.high_in.y_in c.higher-2.ensures.a; z_high = high_32 c.higher-3.result k.high.z c.higher-3.ensures.small h.high_in.z_in c.higher-3.ensures.a }

pub returns-clause-second : goal.returns-clause-second
returns-clause-second c = let k = c.args.second in let h = c.requires.second_in in record { x_low = low_32 c.lower.result k.low.x c.lower.ensures.small h.low_in.x_in c.lower.ensures.b; y_low = low_32 c.lower-2.result k.low.y c.lower-2.ensures.small h.low_in.y_in c.lower-2.ensures.b; z_low = low_32 c.lower-3.result k.low.z c.lower-3.ensures.small h.low_in.z_in c.lower-3.ensures.b; x_high = high_32 c.higher.result k.high.x c.higher.ensures.small h.high_in.x_in c.higher.ensures.b; y_high = high_32 c.higher-2.result k.high.y c.higher-2.ensures.small h.high_in.y_in c.higher-2.ensures.b; z_high = high_32 c.higher-3.result k.high.z c.higher-3.ensures.small h.high_in.z_in c.higher-3.ensures.b }
