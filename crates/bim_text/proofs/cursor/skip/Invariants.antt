use Rattle.std.proofs.Common.{◌≡◌, ◌≤◌, length, drop}
use Rattle.bim_text.specs.TextSpellings.{cleaned}
use Rattle.bim_text.proofs.cursor.skip.Given as goal

abbrev pub invariant-loop : goal.invariant-loop
invariant-loop l = record {
  rest : cleaned l.rest ≡ drop l.counter (cleaned l.spelled);
  within : length l.rest ≤ length l.spelled;
}
