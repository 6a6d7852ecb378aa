use Rattle.std.proofs.Common.{refl, sym, ap, ◌∙◌}
use Rattle.p21_values.specs.Lexemes.{class_of}
use Rattle.p21_values.specs.TokenPieces.{kind_of}
use Rattle.p21_values.proofs.Seen.{alone_says, simple_seen}
use Rattle.p21_values.proofs.piece.kind_at.Goals as goal

pub returns-in-Single : goal.returns-in-Single
returns-in-Single c = rw c.in-Single.is (c.single_kind.ensures ∙ ap (λ l. kind_of (class_of l)) (sym (alone_says c.args.bytes.now c.args.token.start c.args.token.end _ c.requires.some c.requires.within)))

pub returns-in-Word : goal.returns-in-Word
returns-in-Word c = rw c.in-Word.is refl

pub returns-in-Name : goal.returns-in-Name
returns-in-Name c = rw c.in-Name.is refl

pub returns-in_default : goal.returns-in_default
returns-in_default c = simple_seen _ _ c.in_default.not-Word c.in_default.not-Name c.in_default.not-Single
