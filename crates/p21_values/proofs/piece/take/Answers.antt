use Rattle.std.proofs.Common.{arith}
use Rattle.p21_values.proofs.SignsThere.{sign_cut, sign_spelled, sign_seen}
use Rattle.p21_values.proofs.piece.take.Goals as goal

pub returns-in-Some-clause-cuts : goal.returns-in-Some-clause-cuts
returns-in-Some-clause-cuts c = let s = c.in-Some.ensures in sign_cut c.args.bytes.now c.args.at c.in-Some.kind s.0 s.1 s.2

pub returns-in-Some-clause-piece : goal.returns-in-Some-clause-piece
returns-in-Some-clause-piece c =
    let s = c.in-Some.ensures in
    let lt = s.0 in
    record {
      some = omega arith;
      within = omega (arith, lt);
      spelled = ∣ sign_spelled c.args.bytes.now c.args.at c.in-Some.kind s.0 s.1 s.2 ∣₁;
      seen = sign_seen c.args.bytes.now c.args.at c.in-Some.kind s.0 s.2;
    }
