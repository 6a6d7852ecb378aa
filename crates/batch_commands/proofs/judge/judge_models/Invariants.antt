use Rattle.std.proofs.Common.{take}
use Rattle.batch_commands.specs.Judging.{IsMadeOf, Quiet}
use Rattle.batch_commands.proofs.judge.judge_models.Given as goal

abbrev pub invariant-loop-word : goal.invariant-loop-word
invariant-loop-word g l = record {
  quiet : Quiet (g.F.Files.seen l.initial.files) (g.F.Files.seen l.files);
  made : IsMadeOf (g.F.Files.seen l.initial.files).told (g.F.Files.seen l.files).told l.mode (take l.word-index l.words) l.fn.rules l.version;
}
