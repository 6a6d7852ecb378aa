use Rattle.std.proofs.Common.{◌∙◌}
use Rattle.batch_commands.specs.Judging.{IsFirstRefused, IsWordRefused}
use Rattle.batch_commands.proofs.Blocks.{residual}
use Rattle.batch_commands.proofs.Judged.{ends_on, first_refused, made_more, made_none, parts_at, quiet_on, quiet_same}
use Rattle.batch_commands.proofs.judge.judge_models.Goals as goal

pub loop-word-init : goal.loop-word-init
loop-word-init g c = record {
  quiet = quiet_same _;
  made = made_none _ c.args.mode c.args.rules c.new-version.result (c.new-version.ensures.rules ∙ c.in_ok-shared.ensures) c.new-version.ensures.models;
}

pub returns-in_err-model : goal.returns-in_err-model
returns-in_err-model g c =
    let old = g.F.Files.seen c.args.files.now in
    let mid = g.F.Files.seen c.loop-word.files in
    let new = g.F.Files.seen c.judge_model.new.files in
    let mode = c.args.mode in
    let words = c.args.words.now in
    let i = c.loop-word.word-index in
    let word = c.word-item.result in
    let quiet = c.loop-word.invariant.quiet in
    let e = c.in_err-model.field-0.0 in
    rw (residual _ e c.from_residual-in_err-model.ensures.1)
    (ends_on old mid new (IsFirstRefused old.told new.told mode words) (IsWordRefused mid.told new.told mode word) e quiet
    (λ later why was. first_refused old.told mid.told new.told mode words i word c.args.rules c.loop-word.version why
    (parts_at words i word c.loop-word-test.true c.word-item.is) quiet.0 later.0 c.loop-word.invariant.made was)
    c.in_err-model.ensures)

pub loop-word-preserved : goal.loop-word-preserved
loop-word-preserved g c =
    let old = g.F.Files.seen c.args.files.now in
    let mid = g.F.Files.seen c.loop-word.files in
    let new = g.F.Files.seen c.judge_model.new.files in
    let quiet = c.loop-word.invariant.quiet in
    let later = c.in_ok-model.ensures.0 in
    record {
      quiet = quiet_on old mid new quiet later;
      made = made_more old.told mid.told new.told c.args.mode c.args.words.now c.loop-word.word-index c.word-item.result c.in_ok-model.model c.args.rules c.loop-word.version c.in_ok-version.version
          c.loop-word-test.true c.word-item.is quiet.0 later.0 c.loop-word.invariant.made c.in_ok-model.ensures.1 c.in_ok-version.ensures.models c.in_ok-version.ensures.rules;
    }
