use Rattle.std.proofs.Common.{◌≡◌, rules, ◌∙◌, sym}
use Rattle.p21_reader.specs.declared.word.Seen.TheVariants as seen
use Rattle.p21_reader.proofs.Asking.{not_word}
use Rattle.p21_reader.proofs.Marks.{seen_word}
use Rattle.p21_reader.proofs.ahead.word_end.Goals as goal

pub returns-else-eq-clause-none : goal.returns-else-eq-clause-none
returns-else-eq-clause-none c = λ t h l.
    (let r : c.look.result ≡ seen.Word c.args.wanted = seen_word c.look.result c.args.wanted (c.look.ensures ∙ sym (not_word c.args.bytes.now c.args.at c.in-Some.piece.token t c.in-Some.ensures.cuts h) ∙ l) in search rules)
