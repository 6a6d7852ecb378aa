use Rattle.book_topics.proofs.Naming.{serial_is, serial_small}
use Rattle.book_topics.proofs.named.serial_of.Goals as goal

pub returns-clause-is : goal.returns-clause-is
returns-clause-is c = serial_is c.args.project c.args.id c.serial_of.result c.serial_of.ensures

pub returns-clause-small : goal.returns-clause-small
returns-clause-small c = serial_small c.args.project c.args.id c.serial_of.result c.serial_of.ensures
