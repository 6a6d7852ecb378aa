use Rattle.std.proofs.Common.{sym, ◌∙◌}
use Rattle.batch_commands.proofs.Each.{each_all, each_more, each_none}
use Rattle.batch_commands.proofs.check_words.each_word.Goals as goal

pub loop-text-preserved : goal.loop-text-preserved
loop-text-preserved c =
    each_more c.args.texts.now c.loop-text.text-index _ c.loop-text.words.items c.push.new.self.items c.in-Some.word c.loop-text-test.true
    c.loop-text.invariant (sym c.in-Some.is ∙ c.in_ok-word.ensures) c.in_ok-push-in-Some.ensures.items

pub returns-in-None : goal.returns-in-None
returns-in-None c = each_none c.args.texts.now c.loop-text.text-index _ c.loop-text-test.true (sym c.in-None.is ∙ c.in_ok-word.ensures)

pub returns : goal.returns
returns c = each_all c.args.texts.now c.loop-text.text-index c.loop-text.words.items c.loop-text-test.false c.loop-text.invariant
