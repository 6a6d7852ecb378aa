use Rattle.std.proofs.Common.{◌≡◌, rules, sym, ◌∙◌, []}
use Rattle.p21_reader.specs.declared.word.Seen.TheVariants as seen
use Rattle.p21_reader.specs.declared.word.Mark.TheVariants as marks
use Rattle.p21_values.specs.Grammar.{Statements, Word, EndSec}
use Rattle.p21_values.specs.Lexemes.{class_of, lexeme_of}
use Rattle.p21_reader.proofs.Marks.{seen_word}
use Rattle.p21_reader.proofs.Steps.{residual, fails_none}
use Rattle.p21_reader.proofs.Statements.{part_refused, part_none, part_stuck, part_values, part_semicolon, part_statement, part_ends, part_data}
use Rattle.p21_reader.proofs.header.next_part.Goals as goal
use Rattle.p21_reader.proofs.header.next_part.Goals.{in_default-look-via-in-Word+in_default, in_default-look-via-in_default}

pub returns-in_err-word : goal.returns-in_err-word
returns-in_err-word c = rw (residual _ _ c.from_residual.ensures.1) (record { part = fails_none Statements [] c.args.bytes.now c.args.at c.in_err-word.field-0.0 c.in_err-word.ensures.fault })

pub returns-then-ne : goal.returns-then-ne
returns-then-ne c = rw c.refused.ensures (record { part = part_refused c.args.bytes.now c.args.at c.in_ok-word.word c.in_ok-word.ensures.cuts c.in_ok-word.ensures.piece (λ e. search rules) })

pub returns-in_err-next : goal.returns-in_err-next
returns-in_err-next c =
    rw (residual _ _ c.from_residual-in_err-next.ensures.1) (record {
      part =
          part_none c.args.bytes.now c.args.at c.in_ok-word.word c.in_err-next.field-0.0 c.in_ok-word.ensures.cuts c.in_ok-word.ensures.piece (search rules) c.in_err-next.ensures.fault;
    })

pub returns-in_err-close-in-Open : goal.returns-in_err-close-in-Open
returns-in_err-close-in-Open c =
    rw (residual _ _ c.from_residual-in_err-close-in-Open.ensures.1) (record {
      part =
          part_values c.args.bytes.now c.args.at c.in_ok-word.word c.in_ok-next.next c.in_err-close-in-Open.field-0.0 c.in_ok-word.ensures.cuts c.in_ok-word.ensures.piece (search rules) c.in_ok-next.ensures.cuts
          c.in_ok-next.ensures.piece c.in-Open.is c.in_err-close-in-Open.ensures.passes;
    })

pub returns-in_err-end-in-Open : goal.returns-in_err-end-in-Open
returns-in_err-end-in-Open c =
    rw (residual _ _ c.from_residual-in_err-end-in-Open.ensures.1) (record {
      part =
          part_semicolon c.args.bytes.now c.args.at c.in_ok-close-in-Open.close c.in_ok-word.word c.in_ok-next.next c.in_err-end-in-Open.field-0.0 c.in_ok-word.ensures.cuts c.in_ok-word.ensures.piece (search rules)
          c.in_ok-next.ensures.cuts c.in_ok-next.ensures.piece c.in-Open.is c.in_ok-close-in-Open.ensures.passes c.in_err-end-in-Open.ensures.expects;
    })

pub returns-in_ok-end-in-Open : goal.returns-in_ok-end-in-Open
returns-in_ok-end-in-Open c = record {
  part =
      part_statement c.args.bytes.now c.args.at c.in_ok-close-in-Open.close c.in_ok-end-in-Open.end c.in_ok-word.word c.in_ok-next.next c.in_ok-word.ensures.on c.in_ok-next.ensures.on c.in_ok-end-in-Open.ensures.on
      c.in_ok-end-in-Open.ensures.within c.in_ok-word.ensures.cuts c.in_ok-word.ensures.piece (search rules) c.in_ok-next.ensures.cuts c.in_ok-next.ensures.piece c.in-Open.is c.in_ok-close-in-Open.ensures.passes
      c.in_ok-end-in-Open.ensures.expects;
}

pub returns-in_err-data-in-Word-EndSec : goal.returns-in_err-data-in-Word-EndSec
returns-in_err-data-in-Word-EndSec c =
    let e : class_of (lexeme_of c.args.bytes.now c.in_ok-word.word.token) ≡ Word EndSec = search rules in
    rw (residual _ _ c.from_residual-in_err-data-in-Word-EndSec.ensures.1) (record {
      part =
          part_ends c.args.bytes.now c.args.at c.in_ok-word.word c.in_ok-next.next c.in_err-data-in-Word-EndSec.field-0.0 c.in_ok-word.ensures.cuts e c.in_ok-next.ensures.cuts c.in_ok-next.ensures.piece c.in-Semicolon.is
          c.in_err-data-in-Word-EndSec.ensures.data;
    })

pub returns-in_ok-data-in-Word-EndSec : goal.returns-in_ok-data-in-Word-EndSec
returns-in_ok-data-in-Word-EndSec c =
    let e : class_of (lexeme_of c.args.bytes.now c.in_ok-word.word.token) ≡ Word EndSec = search rules in record {
      part =
          part_data c.args.bytes.now c.args.at c.in_ok-data-in-Word-EndSec.field-0 c.in_ok-word.word c.in_ok-next.next c.in_ok-data-in-Word-EndSec.ensures.within c.in_ok-word.ensures.cuts e c.in_ok-next.ensures.cuts
          c.in_ok-next.ensures.piece c.in-Semicolon.is c.in_ok-data-in-Word-EndSec.ensures.data;
    }

pub returns-in_default-look : goal.returns-in_default-look
returns-in_default-look c =
    let n : class_of (lexeme_of c.args.bytes.now c.in_ok-word.word.token) ≡ Word EndSec → ⊥ = λ e.
    (let r : c.look.result ≡ seen.Word marks.EndSec = seen_word c.look.result marks.EndSec (c.look.ensures ∙ e) in elim c.in_default-look.branch [ in_default-look-via-in-Word+in_default w ↦ search rules | in_default-look-via-in_default w ↦ search rules ]) in
    rw c.refused-in_default-look.ensures (record {
      part =
          part_stuck c.args.bytes.now c.args.at c.in_ok-word.word c.in_ok-next.next c.in_ok-word.ensures.cuts c.in_ok-word.ensures.piece (search rules) c.in_ok-next.ensures.cuts c.in_ok-next.ensures.piece
          (λ e. let f = sym c.in-Semicolon.is ∙ e in cc) (λ h m. n m);
    })

pub returns-in_default : goal.returns-in_default
returns-in_default c =
    rw c.refused-in_default.ensures (record {
      part =
          part_stuck c.args.bytes.now c.args.at c.in_ok-word.word c.in_ok-next.next c.in_ok-word.ensures.cuts c.in_ok-word.ensures.piece (search rules) c.in_ok-next.ensures.cuts c.in_ok-next.ensures.piece c.in_default.not-Open
          (λ h m. c.in_default.not-Semicolon h);
    })
