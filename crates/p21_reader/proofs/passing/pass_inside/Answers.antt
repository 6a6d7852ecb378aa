use Rattle.std.proofs.Common.{arith, sym, ◌∙◌, ◌++◌, ◌∷◌, [], Some, refl}
use Rattle.p21_values.specs.declared.fault.ReadFault.TheVariants as faults
use Rattle.p21_values.specs.declared.piece.Kind.TheVariants as kinds
use Rattle.p21_values.specs.Grammar.{Inside, After, Value}
use Rattle.p21_values.specs.Lexemes.{lexeme_of, Closing}
use Rattle.p21_values.specs.Printing.{print_all}
use Rattle.p21_reader.proofs.Steps.{residual, fails_none, fails_refused, after_fails}
use Rattle.p21_reader.proofs.Lists.{said, comma_fails, inside_close, inside_fails}
use Rattle.p21_reader.proofs.Inwards.{inwards_first, inwards_more, inwards_close, inwards_fails, after_none}
use Rattle.p21_reader.proofs.passing.pass_inside.Goals as goal

pub returns-in_err-first-clause-passes : goal.returns-in_err-first-clause-passes
returns-in_err-first-clause-passes c =
    rw (residual _ _ c.from_residual.ensures.1)
    (fails_none (Inside (Some c.args.depth)) [] c.args.bytes.now c.args.at c.in_err-first.field-0.0 c.in_err-first.ensures.fault)

pub returns-in-Close-clause-passes : goal.returns-in-Close-clause-passes
returns-in-Close-clause-passes c =
    let l = said (lexeme_of c.args.bytes.now c.in_ok-first.first.token) kinds.Close tt (sym c.in-Close.is ∙ c.in_ok-first.ensures.piece.seen) in
    (Closing ∷ [], inside_close c.args.depth c.args.bytes.now c.args.at c.in_ok-first.first.token c.in_ok-first.ensures.cuts l)

pub returns-in_err-end : goal.returns-in_err-end
returns-in_err-end c =
    let f = c.in_err-end.field-0.0 in
    rw (residual _ _ c.from_residual-in_err-end.ensures.1) (record {
      passes = inside_fails c.args.depth c.args.bytes.now c.args.at c.in_ok-first.first.token c.in_ok-first.first.kind f c.in_ok-first.ensures.cuts c.in_ok-first.ensures.piece.seen c.in_default.not-Close c.in_err-end.ensures.passes;
      on = tt;
      within = tt;
    })

pub loop-next-init : goal.loop-next-init
loop-next-init c =
    let v = c.in_ok-end.ensures.passes in
    let t = c.in_ok-first.ensures in
    record {
      within = c.in_ok-end.ensures.within;
      on = omega (arith, t.on, t.piece.some, c.in_ok-end.ensures.on);
      read = (v.0 ∷ [], inwards_first c.args.depth c.args.bytes.now c.args.at c.in_ok-end.end c.in_ok-first.first.token c.in_ok-first.first.kind v.0 t.cuts t.piece.seen c.in_default.not-Close v.1);
    }

pub returns-in_err-next : goal.returns-in_err-next
returns-in_err-next c =
    let f = c.in_err-next.field-0.0 in
    let i = c.loop-next.invariant.read in
    rw (residual _ _ c.from_residual-in_err-next.ensures.1) (record {
      passes = inwards_fails c.args.depth c.args.bytes.now c.args.at c.loop-next.end i.0 f i.1 (fails_none (After (Some c.args.depth)) [] c.args.bytes.now c.loop-next.end f c.in_err-next.ensures.fault);
      on = tt;
      within = tt;
    })

pub returns-in-Close-kind : goal.returns-in-Close-kind
returns-in-Close-kind c =
    let i = c.loop-next.invariant.read in
    let l = said (lexeme_of c.args.bytes.now c.in_ok-next.next.token) kinds.Close tt (sym c.in-Close-kind.is ∙ c.in_ok-next.ensures.piece.seen) in
    record {
      passes = (print_all i.0 ++ Closing ∷ [], inwards_close c.args.depth c.args.bytes.now c.args.at c.loop-next.end c.in_ok-next.next.token i.0 i.1 c.in_ok-next.ensures.cuts l);
      on = omega (arith, c.loop-next.invariant.on, c.in_ok-next.ensures.on, c.in_ok-next.ensures.piece.some);
      within = c.in_ok-next.ensures.piece.within;
    }

pub returns-in_err-item-in-Comma : goal.returns-in_err-item-in-Comma
returns-in_err-item-in-Comma c =
    let f = c.in_err-item-in-Comma.field-0.0 in
    let i = c.loop-next.invariant.read in
    let l = said (lexeme_of c.args.bytes.now c.in_ok-next.next.token) kinds.Comma tt (sym c.in-Comma.is ∙ c.in_ok-next.ensures.piece.seen) in
    rw (residual _ _ c.from_residual-in_err-item-in-Comma.ensures.1) (record {
      passes =
          inwards_fails c.args.depth c.args.bytes.now c.args.at c.loop-next.end i.0 f i.1
          (comma_fails c.args.depth c.args.bytes.now c.loop-next.end c.in_ok-next.next.token f c.in_ok-next.ensures.cuts l
          (fails_none (Value (Some c.args.depth)) [] c.args.bytes.now c.in_ok-next.next.token.end f c.in_err-item-in-Comma.ensures.fault));
      on = tt;
      within = tt;
    })

pub returns-in_err-end-in-Comma : goal.returns-in_err-end-in-Comma
returns-in_err-end-in-Comma c =
    let f = c.in_err-end-in-Comma.field-0.0 in
    let i = c.loop-next.invariant.read in
    let l = said (lexeme_of c.args.bytes.now c.in_ok-next.next.token) kinds.Comma tt (sym c.in-Comma.is ∙ c.in_ok-next.ensures.piece.seen) in
    rw (residual _ _ c.from_residual-in_err-end-in-Comma.ensures.1) (record {
      passes =
          inwards_fails c.args.depth c.args.bytes.now c.args.at c.loop-next.end i.0 f i.1
          (comma_fails c.args.depth c.args.bytes.now c.loop-next.end c.in_ok-next.next.token f c.in_ok-next.ensures.cuts l
          (after_fails (Value (Some c.args.depth)) [] c.args.bytes.now c.in_ok-next.next.token.end c.in_ok-item-in-Comma.item.token f c.in_ok-item-in-Comma.ensures.cuts c.in_err-end-in-Comma.ensures.passes));
      on = tt;
      within = tt;
    })

pub loop-next-preserved : goal.loop-next-preserved
loop-next-preserved c =
    let i = c.loop-next.invariant.read in
    let l = said (lexeme_of c.args.bytes.now c.in_ok-next.next.token) kinds.Comma tt (sym c.in-Comma.is ∙ c.in_ok-next.ensures.piece.seen) in
    let v = c.in_ok-end-in-Comma.ensures.passes in
    record {
      within = c.in_ok-end-in-Comma.ensures.within;
      on = omega (arith, c.loop-next.invariant.on, c.in_ok-next.ensures.on, c.in_ok-next.ensures.piece.some, c.in_ok-item-in-Comma.ensures.on, c.in_ok-item-in-Comma.ensures.piece.some, c.in_ok-end-in-Comma.ensures.on);
      read = (
        i.0 ++ v.0 ∷ [],
        inwards_more c.args.depth c.args.bytes.now c.args.at c.loop-next.end c.in_ok-end-in-Comma.end c.in_ok-next.next.token c.in_ok-item-in-Comma.item.token i.0 v.0 i.1 c.in_ok-next.ensures.cuts l c.in_ok-item-in-Comma.ensures.cuts v.1,
      );
    }

pub returns-in_default-kind : goal.returns-in_default-kind
returns-in_default-kind c =
    let i = c.loop-next.invariant.read in
    let t = c.in_ok-next.next.token in
    record {
      passes =
          rw c.refused.ensures
          (inwards_fails c.args.depth c.args.bytes.now c.args.at c.loop-next.end i.0 (faults.BadStatement t.start) i.1
          (fails_refused (After (Some c.args.depth)) [] c.args.bytes.now c.loop-next.end t.start t c.in_ok-next.ensures.cuts
          (after_none (Some c.args.depth) (lexeme_of c.args.bytes.now t) c.in_ok-next.next.kind c.in_ok-next.ensures.piece.seen c.in_default-kind.not-Close c.in_default-kind.not-Comma) refl));
      on = tt;
      within = tt;
    }
