use Rattle.std.proofs.Common.{◌≡◌, ◌∷◌, [], Some, Ok, Err, sym, ◌∙◌, refl, ◌-◌, rules}
use Rattle.p21_values.specs.declared.limits.TheConstants.{MOST_DEPTH}
use Rattle.p21_values.specs.declared.fault.ReadFault.TheVariants as faults
use Rattle.p21_values.specs.declared.piece.Kind.TheVariants as kinds
use Rattle.p21_values.specs.Grammar.{AnyWord, T, Open, Inside, Ones}
use Rattle.p21_values.specs.Lexemes.{lexeme_of}
use Rattle.p21_reader.proofs.Steps.{residual, fails_none, fails_refused}
use Rattle.p21_reader.proofs.Lists.{said}
use Rattle.p21_reader.proofs.Bodies.{any_word, any_no, complex_one, complex_passes, ones_word, round_close, round_fails, round_one, round_step}
use Rattle.p21_reader.proofs.Inwards.{ones_none}
use Rattle.p21_reader.proofs.passing.pass_complex.Goals as goal

pub returns-in_err-word-clause-passes : goal.returns-in_err-word-clause-passes
returns-in_err-word-clause-passes c =
    rw (residual _ _ c.from_residual.ensures.1) (fails_none AnyWord (T Open ∷ Inside (Some (MOST_DEPTH - 2)) ∷ Ones ∷ []) c.args.bytes.now c.args.at c.in_err-word.field-0.0 c.in_err-word.ensures.fault)

pub returns-then-ne-clause-passes : goal.returns-then-ne-clause-passes
returns-then-ne-clause-passes c =
    rw c.refused.ensures (fails_refused AnyWord (T Open ∷ Inside (Some (MOST_DEPTH - 2)) ∷ Ones ∷ []) c.args.bytes.now c.args.at c.in_ok-word.word.token.start c.in_ok-word.word.token c.in_ok-word.ensures.cuts
    (any_no (lexeme_of c.args.bytes.now c.in_ok-word.word.token) c.in_ok-word.word.kind c.in_ok-word.ensures.piece.seen (λ k. search rules)) refl)

pub returns-in_err-end-clause-passes : goal.returns-in_err-end-clause-passes
returns-in_err-end-clause-passes c =
    let e : c.in_ok-word.word.kind ≡ kinds.Word = search rules in
    rw (residual _ _ c.from_residual-in_err-end.ensures.1)
    (complex_one c.args.bytes.now c.args.at c.in_ok-word.word.token c.in_err-end.field-0.0 c.in_ok-word.ensures.cuts
    (any_word (lexeme_of c.args.bytes.now c.in_ok-word.word.token) (sym e ∙ c.in_ok-word.ensures.piece.seen)) c.in_err-end.ensures.passes)

pub returns-in_err-next-clause-passes : goal.returns-in_err-next-clause-passes
returns-in_err-next-clause-passes c =
    let e : c.in_ok-word.word.kind ≡ kinds.Word = search rules in
    let f = c.in_err-next.field-0.0 in
    rw (residual _ _ c.from_residual-in_err-next.ensures.1)
    (complex_passes c.args.bytes.now c.args.at c.in_ok-end.end c.in_ok-word.word.token (Err f) c.in_ok-word.ensures.cuts
    (any_word (lexeme_of c.args.bytes.now c.in_ok-word.word.token) (sym e ∙ c.in_ok-word.ensures.piece.seen)) c.in_ok-end.ensures.passes
    (round_fails c.args.bytes.now c.in_ok-end.end c.loop-next.end f c.loop-next.invariant.read (fails_none Ones [] c.args.bytes.now c.loop-next.end f c.in_err-next.ensures.fault)))

pub returns-in-Close-clause-passes : goal.returns-in-Close-clause-passes
returns-in-Close-clause-passes c =
    let e : c.in_ok-word.word.kind ≡ kinds.Word = search rules in
    let m =
    round_close c.args.bytes.now c.in_ok-end.end c.loop-next.end c.in_ok-next.next.token c.loop-next.invariant.read c.in_ok-next.ensures.cuts
    (said (lexeme_of c.args.bytes.now c.in_ok-next.next.token) kinds.Close tt (sym c.in-Close.is ∙ c.in_ok-next.ensures.piece.seen)) in
    complex_passes c.args.bytes.now c.args.at c.in_ok-end.end c.in_ok-word.word.token (Ok c.in_ok-next.next.token.end) c.in_ok-word.ensures.cuts
    (any_word (lexeme_of c.args.bytes.now c.in_ok-word.word.token) (sym e ∙ c.in_ok-word.ensures.piece.seen)) c.in_ok-end.ensures.passes m

pub returns-in_err-end-in-Word-clause-passes : goal.returns-in_err-end-in-Word-clause-passes
returns-in_err-end-in-Word-clause-passes c =
    let e : c.in_ok-word.word.kind ≡ kinds.Word = search rules in
    let f = c.in_err-end-in-Word.field-0.0 in
    rw (residual _ _ c.from_residual-in_err-end-in-Word.ensures.1)
    (complex_passes c.args.bytes.now c.args.at c.in_ok-end.end c.in_ok-word.word.token (Err f) c.in_ok-word.ensures.cuts
    (any_word (lexeme_of c.args.bytes.now c.in_ok-word.word.token) (sym e ∙ c.in_ok-word.ensures.piece.seen)) c.in_ok-end.ensures.passes
    (round_fails c.args.bytes.now c.in_ok-end.end c.loop-next.end f c.loop-next.invariant.read
    (round_one c.args.bytes.now c.loop-next.end c.in_ok-next.next.token f c.in_ok-next.ensures.cuts
    (ones_word (lexeme_of c.args.bytes.now c.in_ok-next.next.token) (sym c.in-Word.is ∙ c.in_ok-next.ensures.piece.seen)) c.in_err-end-in-Word.ensures.passes)))

pub loop-next-preserved : goal.loop-next-preserved
loop-next-preserved c = record {
  within = c.in_ok-end-in-Word.ensures.within;
  read = round_step c.args.bytes.now c.in_ok-end.end c.loop-next.end c.in_ok-end-in-Word.end c.in_ok-next.next.token c.loop-next.invariant.read c.in_ok-next.ensures.cuts
      (ones_word (lexeme_of c.args.bytes.now c.in_ok-next.next.token) (sym c.in-Word.is ∙ c.in_ok-next.ensures.piece.seen)) c.in_ok-end-in-Word.ensures.passes;
}

pub returns-in_default : goal.returns-in_default
returns-in_default c =
    let e : c.in_ok-word.word.kind ≡ kinds.Word = search rules in
    let t = c.in_ok-next.next.token in
    let f = faults.BadStatement t.start in
    record {
      passes =
          rw c.refused-in_default.ensures
          (complex_passes c.args.bytes.now c.args.at c.in_ok-end.end c.in_ok-word.word.token (Err f) c.in_ok-word.ensures.cuts
          (any_word (lexeme_of c.args.bytes.now c.in_ok-word.word.token) (sym e ∙ c.in_ok-word.ensures.piece.seen)) c.in_ok-end.ensures.passes
          (round_fails c.args.bytes.now c.in_ok-end.end c.loop-next.end f c.loop-next.invariant.read
          (fails_refused Ones [] c.args.bytes.now c.loop-next.end t.start t c.in_ok-next.ensures.cuts
          (ones_none (lexeme_of c.args.bytes.now t) c.in_ok-next.next.kind c.in_ok-next.ensures.piece.seen c.in_default.not-Word c.in_default.not-Close) refl)));
      within = tt;
    }
