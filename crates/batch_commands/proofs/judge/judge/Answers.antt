use Rattle.std.proofs.Common.{List, sym, subst, ◌∙◌}
use Rattle.bim_model.specs.Snapshots.{Version}
use Rattle.clash_check.specs.VersionChecks.{IsChecked}
use Rattle.batch_commands.specs.declared.check_words.ModelWord.{ModelWord}
use Rattle.batch_commands.specs.Judging.{IsFirstRefused, IsMadeOf, IsRefusal}
use Rattle.batch_commands.proofs.Blocks.{residual}
use Rattle.batch_commands.proofs.Judged.{ends_on, model_refusal, quiet_on, version_of_words, version_refusal}
use Rattle.batch_commands.proofs.judge.judge.Goals as goal

pub returns-in_err-version : goal.returns-in_err-version
returns-in_err-version g c =
    let old = g.F.Files.seen c.args.files.now in
    let mid = g.F.Files.seen c.judge_rules.new.files in
    let new = g.F.Files.seen c.judge_models.new.files in
    let said = c.args.said.now in
    let quiet = c.in_ok-rules.ensures.0 in
    let e = c.in_err-version.field-0.0 in
    rw (residual _ e c.from_residual-in_err-version.ensures.1)
    (ends_on old mid new (IsRefusal old.told new.told said) (IsFirstRefused mid.told new.told said.mode c.as_slice.result.now) e quiet
    (λ later why was. model_refusal old.told mid.told new.told said c.in_ok-rules.rules why quiet.0 later.0 c.in_ok-rules.ensures.1
    (subst (λ (words : List ModelWord). IsFirstRefused mid.told new.told said.mode words why) c.as_slice.ensures was))
    c.in_err-version.ensures)

pub returns-in-Ok : goal.returns-in-Ok
returns-in-Ok g c =
    let old = g.F.Files.seen c.args.files.now in
    let mid = g.F.Files.seen c.judge_rules.new.files in
    let new = g.F.Files.seen c.judge_models.new.files in
    let said = c.args.said.now in
    let quiet = c.in_ok-rules.ensures.0 in
    let later = c.in_ok-version.ensures.0 in
    let made = subst (λ (words : List ModelWord). IsMadeOf mid.told new.told said.mode words c.in_ok-rules.rules c.in_ok-version.version) c.as_slice.ensures c.in_ok-version.ensures.1 in (
      quiet_on old mid new quiet later,
      version_of_words old.told mid.told new.told said c.in_ok-rules.rules c.in-Ok.found c.in_ok-version.version quiet.0 later.0 c.in_ok-rules.ensures.1 made
          (c.in-Ok.ensures.version ∙ c.in_ok-shared.ensures),
      subst (λ (v : Version). IsChecked v) (sym c.in-Ok.ensures.version) c.in-Ok.ensures.checked,
    )

pub returns-in-Err-Fault : goal.returns-in-Err-Fault
returns-in-Err-Fault g c =
    let old = g.F.Files.seen c.args.files.now in
    let mid = g.F.Files.seen c.judge_rules.new.files in
    let new = g.F.Files.seen c.judge_models.new.files in
    let said = c.args.said.now in
    let quiet = c.in_ok-rules.ensures.0 in
    let later = c.in_ok-version.ensures.0 in
    let made = subst (λ (words : List ModelWord). IsMadeOf mid.told new.told said.mode words c.in_ok-rules.rules c.in_ok-version.version) c.as_slice.ensures c.in_ok-version.ensures.1 in
    let full = rw c.in-Err-Fault.field-0-is at c.in-Err-Fault.ensures.fault in (
      quiet_on old mid new quiet later,
      version_refusal old.told new.told said c.in_ok-shared.shared c.in-Err-Fault.fault
          (version_of_words old.told mid.told new.told said c.in_ok-rules.rules c.in_ok-shared.shared c.in_ok-version.version quiet.0 later.0 c.in_ok-rules.ensures.1 made c.in_ok-shared.ensures)
          full,
    )
