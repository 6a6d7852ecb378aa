use Rattle.std.proofs.Common.{◌∙◌}
use Rattle.p21_lexer.proofs.RunLemmas.{behind_at}
use Rattle.p21_lexer.specs.inner.Kinds.{span}
use Rattle.p21_lexer.specs.inner.TokenSpans.{name_span, text_span, enumeration_span, bits_span}
use Rattle.p21_lexer.proofs.cutting.end_of.Goals as goal

pub returns-in-Name-clause-span : goal.returns-in-Name-clause-span
unfolding span
returns-in-Name-clause-span c = rw c.in-Name.is (c.name_end.ensures.span ∙ behind_at name_span c.args.bytes.now c.args.at)

pub returns-in-Words-clause-span : goal.returns-in-Words-clause-span
unfolding span
returns-in-Words-clause-span c = rw c.in-Words.is (c.text_end.ensures.span ∙ behind_at text_span c.args.bytes.now c.args.at)

pub returns-in-Enumeration-clause-span : goal.returns-in-Enumeration-clause-span
unfolding span
returns-in-Enumeration-clause-span c = rw c.in-Enumeration.is (c.enumeration_end.ensures.span ∙ behind_at enumeration_span c.args.bytes.now c.args.at)

pub returns-in-Bits-clause-span : goal.returns-in-Bits-clause-span
unfolding span
returns-in-Bits-clause-span c = rw c.in-Bits.is (c.bits_end.ensures.span ∙ behind_at bits_span c.args.bytes.now c.args.at)
