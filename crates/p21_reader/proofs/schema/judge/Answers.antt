use Rattle.std.proofs.Common.{sym, subst, ◌∙◌}
use Rattle.p21_reader.specs.declared.schema.Schema.{Schema}
use Rattle.p21_reader.specs.inner.Heading.{SaysSchema}
use Rattle.p21_reader.proofs.Asking.{schema_word}
use Rattle.p21_reader.proofs.Statements.{says_other, says_again, says_ifc4, says_wrong}
use Rattle.p21_reader.proofs.schema.judge.Goals as goal

pub returns-then-not-is_word-clause-says : goal.returns-then-not-is_word-clause-says
returns-then-not-is_word-clause-says c = λ before s h k.
    says_other c.args.so_far before s (schema_word c.args.bytes.now c.args.word s c.is_word.result c.requires.piece c.requires.word h.0 c.is_word.ensures ∙ c.if-not-is_word.true) k

pub returns-then-branch-clause-says : goal.returns-then-branch-clause-says
returns-then-branch-clause-says c = λ before s h k.
    says_ifc4 c.args.bytes.now c.args.word.token c.args.inside before s (schema_word c.args.bytes.now c.args.word s c.is_word.result c.requires.piece c.requires.word h.0 c.is_word.ensures ∙ c.if-not-is_word.false) h
    (c.in_ok-holds_ifc4-in-Unnamed.ensures.0 c.if-branch.true) (let P : Schema → Type 0 = λ x. SaysSchema x before in subst P c.in-Unnamed.is k)

pub returns-else-branch-clause-says : goal.returns-else-branch-clause-says
returns-else-branch-clause-says c = λ before s h k.
    says_wrong c.args.bytes.now c.args.word.token c.args.inside before s (schema_word c.args.bytes.now c.args.word s c.is_word.result c.requires.piece c.requires.word h.0 c.is_word.ensures ∙ c.if-not-is_word.false) h
    (λ o. let t = c.in_ok-holds_ifc4-in-Unnamed.ensures.1 o in let f = sym t ∙ c.if-branch.false in cc) (let P : Schema → Type 0 = λ x. SaysSchema x before in subst P c.in-Unnamed.is k)

pub returns-in_default : goal.returns-in_default
returns-in_default c = record {
  says = λ before s h k.
      says_again c.args.so_far before s (schema_word c.args.bytes.now c.args.word s c.is_word.result c.requires.piece c.requires.word h.0 c.is_word.ensures ∙ c.if-not-is_word.false) c.in_default.not-Unnamed k;
  fault = tt;
}
