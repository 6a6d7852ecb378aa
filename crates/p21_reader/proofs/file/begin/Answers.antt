use Rattle.p21_reader.proofs.Asking.{not_begun_word, begun_some, begun_none}
use Rattle.p21_reader.proofs.file.begin.Goals as goal

pub returns-in-None-clause-none : goal.returns-in-None-clause-none
returns-in-None-clause-none c = not_begun_word c.args.bytes.now c.start.result c.start.ensures.start c.in-None.ensures.none

pub returns-in-Some-clause-begun : goal.returns-in-Some-clause-begun
returns-in-Some-clause-begun c =
    let f = c.in-Some.ensures.found in
    begun_some c.args.bytes.now c.start.result c.in-Some.word c.sign_end.result c.start.ensures.start f.0 f.1 f.2 f.3 c.sign_end.ensures.found

pub returns-in-Some-clause-none : goal.returns-in-Some-clause-none
returns-in-Some-clause-none c =
    let f = c.in-Some.ensures.found in
    begun_none c.args.bytes.now c.start.result c.in-Some.word c.sign_end.result c.start.ensures.start f.0 f.1 f.3 c.sign_end.ensures.none
