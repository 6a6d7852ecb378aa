use Rattle.p21_lexer.proofs.Stands.{if_stands}
use Rattle.p21_lexer.proofs.there.end_there.Goals as goal

pub returns : goal.returns
returns c = if_stands c.args.bytes.now c.args.at c.args.kind c.end_of.result c.requires.within c.requires.first c.end_of.ensures.span c.end_of.ensures.within
