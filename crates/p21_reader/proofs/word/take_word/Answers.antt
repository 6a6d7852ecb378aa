use Rattle.std.proofs.Common.{refl}
use Rattle.p21_reader.proofs.word.take_word.Goals as goal

pub returns-in-Some-clause-cuts : goal.returns-in-Some-clause-cuts
returns-in-Some-clause-cuts c = c.in-Some.ensures.0

pub returns-in-Some-clause-piece : goal.returns-in-Some-clause-piece
returns-in-Some-clause-piece c =
    let w = c.in-Some.ensures in
    record {
      some = w.0.1;
      within = w.1;
      spelled = ∣ w.0.2.spelled ∣₁;
      seen = refl;
    }
