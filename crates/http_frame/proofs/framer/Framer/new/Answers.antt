use Rattle.std.proofs.Common.{ℕ, List, refl, drop, sym, ap}
use Rattle.http_frame.specs.Framers.{Stands}
use Rattle.http_frame.proofs.framer.Framer.new.Goals as goal

pub returns : goal.returns
unfolding Stands
returns c = (refl, sym (ap (λ (i : List ℕ). drop 0 i) c.new.ensures.items))
