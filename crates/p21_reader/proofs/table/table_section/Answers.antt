use Rattle.std.proofs.Common.{[], sym, ◌∙◌, refl}
use Rattle.p21_values.specs.declared.fault.ReadFault.TheVariants as faults
use Rattle.p21_values.specs.Grammar.{Instances}
use Rattle.p21_values.specs.Lexemes.{lexeme_of}
use Rattle.p21_reader.proofs.Steps.{residual, fails_none, fails_refused}
use Rattle.p21_reader.proofs.FileLemmas.{many_instance, instances_name}
use Rattle.p21_reader.proofs.Entries.{entered_step, entered_fails, entered_closed, entered_below, instances_none}
use Rattle.p21_reader.proofs.table.table_section.Goals as goal

pub returns-in_err-next : goal.returns-in_err-next
returns-in_err-next c =
    let f = c.in_err-next.field-0.0 in
    let l = c.loop-next in
    rw (residual _ _ c.from_residual.ensures.1) (record {
      section = entered_fails c.args.bytes.now c.args.at l.end l.table f l.invariant.read (fails_none Instances [] c.args.bytes.now l.end f c.in_err-next.ensures.fault);
    })

pub returns-in_err-end-in-Name : goal.returns-in_err-end-in-Name
returns-in_err-end-in-Name c =
    let f = c.in_err-end-in-Name.field-0.0 in
    let l = c.loop-next in
    rw (residual _ _ c.from_residual-in_err-end-in-Name.ensures.1) (record {
      section =
          entered_fails c.args.bytes.now c.args.at l.end l.table f l.invariant.read
          (many_instance c.args.bytes.now l.end c.in_ok-next.next.piece.token f c.in_ok-next.ensures.cuts
          (instances_name (lexeme_of c.args.bytes.now c.in_ok-next.next.piece.token) (sym c.in-Name.is ∙ c.in_ok-next.ensures.piece.seen)) c.in_err-end-in-Name.ensures.instance);
    })

pub loop-next-preserved : goal.loop-next-preserved
loop-next-preserved c =
    let l = c.loop-next in
    let e = entered_step c.args.bytes.now c.args.at l.end c.in_ok-end-in-Name.end c.in_ok-next.next.piece.token l.table c.entry.new.table l.invariant.read c.in_ok-next.ensures.cuts
    (instances_name (lexeme_of c.args.bytes.now c.in_ok-next.next.piece.token) (sym c.in-Name.is ∙ c.in_ok-next.ensures.piece.seen)) c.in_ok-end-in-Name.ensures.instance in
    record {
      within = c.in_ok-end-in-Name.ensures.within;
      few = c.in_ok-end-in-Name.ensures.few;
      counted = entered_below c.args.bytes.now c.args.at c.in_ok-end-in-Name.end c.entry.new.table e;
      read = e;
    }

pub returns-in-Word : goal.returns-in-Word
returns-in-Word c = record {
  section = entered_closed c.args.bytes.now c.args.at c.loop-next.end c.in_ok-next.next.piece.token c.loop-next.table c.closing.result c.loop-next.invariant.read c.in_ok-next.ensures.cuts c.closing.ensures.closing;
}

pub returns-in_default : goal.returns-in_default
returns-in_default c =
    let l = c.loop-next in
    let t = c.in_ok-next.next.piece.token in
    record {
      section =
          rw c.refused.ensures
          (entered_fails c.args.bytes.now c.args.at l.end l.table (faults.BadStatement t.start) l.invariant.read
          (fails_refused Instances [] c.args.bytes.now l.end t.start t c.in_ok-next.ensures.cuts
          (instances_none (lexeme_of c.args.bytes.now t) c.in_ok-next.next.piece.kind c.in_ok-next.ensures.piece.seen c.in_default.not-Name c.in_default.not-Word) refl));
    }
