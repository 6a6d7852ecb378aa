use Rattle.p21_reader.proofs.Steps.{residual}
use Rattle.p21_reader.proofs.FileLemmas.{fault_at, file_fails, file_section, file_holds}
use Rattle.p21_reader.proofs.file.read_file.Goals as goal

pub returns-in_err-head-clause-fault : goal.returns-in_err-head-clause-fault
returns-in_err-head-clause-fault c =
    let f = c.in_err-head.field-0.0 in
    rw (residual _ _ c.from_residual-in_err-head.ensures.1) (fault_at c.args.bytes.now f (file_fails c.args.bytes.now c.args.begun f c.requires.begun c.in_err-head.ensures.header))

pub returns-in_err-table_section-clause-fault : goal.returns-in_err-table_section-clause-fault
returns-in_err-table_section-clause-fault c =
    let f = c.in_err-table_section.field-0.0 in
    rw (residual _ _ c.from_residual-in_err-table_section.ensures.1)
    (fault_at c.args.bytes.now f (file_section c.args.bytes.now c.args.begun c.in_ok-head.head f c.requires.begun c.in_ok-head.ensures.header c.in_err-table_section.ensures.section))

pub returns-clause-file : goal.returns-clause-file
returns-clause-file c =
    let t = c.in_ok-table_section.ensures.section in
    (t.0, file_holds c.args.bytes.now c.args.begun c.in_ok-table_section.field-0 c.in_ok-head.head t.0 c.requires.begun c.in_ok-head.ensures.header t.1, t.2, t.3)
