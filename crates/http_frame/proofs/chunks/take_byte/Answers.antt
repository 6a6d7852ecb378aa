use Rattle.http_frame.proofs.Advancing.{on_advances, whole_advances, fault_advances}
use Rattle.http_frame.proofs.chunks.take_byte.Goals as goal

pub returns-in-On-clause-advances : goal.returns-in-On-clause-advances
returns-in-On-clause-advances c = on_advances c.args.bytes.now c.args.here c.in-On.part c.in-On.room c.requires.left c.requires.some c.in-On.ensures

pub returns-in-Whole-clause-advances : goal.returns-in-Whole-clause-advances
returns-in-Whole-clause-advances c = whole_advances c.args.bytes.now c.args.here c.requires.left c.requires.some c.in-Whole.ensures

pub returns-in-Fault-clause-advances : goal.returns-in-Fault-clause-advances
returns-in-Fault-clause-advances c = fault_advances c.args.bytes.now c.args.here c.in-Fault.fault c.requires.left c.requires.some c.in-Fault.ensures
