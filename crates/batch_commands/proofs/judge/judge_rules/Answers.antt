use Rattle.std.proofs.Common.{ap, sym, ◌∙◌, refl}
use Rattle.batch_commands.specs.RulesFile.{rules_in}
use Rattle.batch_commands.specs.Judging.{IsRulesRefusal, of_file}
use Rattle.batch_commands.proofs.Blocks.{residual}
use Rattle.batch_commands.proofs.Judged.{file_ends}
use Rattle.batch_commands.proofs.judge.judge_rules.Goals as goal

pub returns-in_err-bytes : goal.returns-in_err-bytes
returns-in_err-bytes g c =
    let old = g.F.Files.seen c.args.files.now in
    let new = g.F.Files.seen c.read_file.new.files in
    let e = c.in_err-bytes.field-0.0 in
    rw (residual _ (of_file e) c.from_residual.ensures.1) (file_ends old new c.args.name.now (IsRulesRefusal old.told new.told c.args.name.now) e c.in_err-bytes.ensures.bytes)

pub returns-in-Ok : goal.returns-in-Ok
returns-in-Ok g c =
    let f = c.in_ok-bytes.ensures.bytes in
    ((f.0, f.2), record { bytes = c.in_ok-bytes.bytes; holds = f.1; spell = ap rules_in (sym c.as_slice.ensures) ∙ c.in-Ok.ensures })

pub returns-in-Err-Fault : goal.returns-in-Err-Fault
returns-in-Err-Fault g c =
    let f = c.in_ok-bytes.ensures.bytes in
    let spell = rw c.in-Err-Fault.field-0-is at c.in-Err-Fault.ensures in
    ((f.0, f.2), record { fault = c.in-Err-Fault.fault; lacks = record { bytes = c.in_ok-bytes.bytes; holds = f.1; spell = ap rules_in (sym c.as_slice.ensures) ∙ spell }; why_is = refl })
