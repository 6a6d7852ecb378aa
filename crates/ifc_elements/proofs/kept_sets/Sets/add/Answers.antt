use Rattle.std.proofs.Common.{List, sym, subst}
use Rattle.bim_model.specs.declared.geometry.Triangle.{Triangle}
use Rattle.ifc_elements.specs.Sound.{Puts, set_in}
use Rattle.ifc_elements.proofs.SetsKept.{sets_more}
use Rattle.ifc_elements.proofs.kept_sets.Sets.add.Goals as goal

pub returns : goal.returns
returns c = λ listed are.
    let kept = rw c.in-Some-2.is at c.in_ok-made.ensures in
    sets_more c.args.exchange.now c.args.scale c.args.mode listed c.args.self.now c.put.new.self c.args.id c.in-Some.set c.in-Some-2.made.items (sym c.in-Some.ensures) kept
    (subst (λ (ts : List Triangle). Puts (set_in c.args.self.now) (set_in c.put.new.self) c.args.id ts) c.from_vec.ensures c.in_ok-put.ensures) are
