use Rattle.p21_reader.proofs.Midway.{plain_value}
use Rattle.p21_reader.proofs.passing.pass_value.Goals as goal

pub returns-in-Simple-clause-passes : goal.returns-in-Simple-clause-passes
returns-in-Simple-clause-passes c =
    plain_value c.args.most c.args.bytes.now c.args.first.token c.args.count.now c.counted.result c.args.first.kind c.requires.piece.seen c.in-Simple.is c.counted.ensures
