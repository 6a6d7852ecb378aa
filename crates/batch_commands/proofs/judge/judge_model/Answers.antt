use Rattle.batch_commands.specs.Judging.{IsWordRefused, of_file}
use Rattle.batch_commands.proofs.Blocks.{residual}
use Rattle.batch_commands.proofs.Judged.{file_ends}
use Rattle.batch_commands.proofs.judge.judge_model.Goals as goal

pub returns-in_err-bytes : goal.returns-in_err-bytes
returns-in_err-bytes g c =
    let old = g.F.Files.seen c.args.files.now in
    let new = g.F.Files.seen c.read_file.new.files in
    let e = c.in_err-bytes.field-0.0 in
    rw (residual _ (of_file e) c.from_residual.ensures.1)
    (file_ends old new c.args.word.now.file (IsWordRefused old.told new.told c.args.mode c.args.word.now) e c.in_err-bytes.ensures.bytes)
