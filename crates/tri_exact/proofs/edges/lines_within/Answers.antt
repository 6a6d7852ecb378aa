use Rattle.std.proofs.Common.{◌≡◌, ◌↔◌, ℤ, subst}
use Rattle.exact_arith.specs.Space.{Vector}
use Rattle.tri_exact.specs.Edges.{Crosses}
use Rattle.tri_exact.proofs.edges.lines_within.Goals as goal

crosses_is : {P : Type 0} {e u r e' u' r' : Vector} {m : ℤ} → e ≡ e' → u ≡ u' → r ≡ r' → P ↔ Crosses e u r m → P ↔ Crosses e' u' r' m
crosses_is {P} {e} {u} {r} {e'} {u'} {r'} {m} f g h q =
    subst (λ (x : Vector). P ↔ Crosses e' u' x m) h (subst (λ (x : Vector). P ↔ Crosses e' x r m) g (subst (λ (x : Vector). P ↔ Crosses x u r m) f q))

pub returns : goal.returns
returns c = crosses_is c.difference-edge.ensures c.difference-side.ensures c.difference-way.ensures c.is_crossing.ensures
