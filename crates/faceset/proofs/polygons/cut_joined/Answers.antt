use Rattle.std.proofs.Common.{Some, List, ℕ, sym, ap, ◌∙◌}
use Rattle.faceset.proofs.PolygonsMade.{apart_are}
use Rattle.faceset.proofs.polygons.cut_joined.Goals as goal

pub cut_list-requires-clause-joined : goal.cut_list-requires-clause-joined
cut_list-requires-clause-joined c =
    let joined = rw c.in-Some.is at c.in_ok-list.ensures in
    joined ∙ ap (λ (l : List ℕ). Some l) (sym c.deref.ensures.value)

pub returns-in-None : goal.returns-in-None
returns-in-None c =
    let none = rw c.in-None.is at c.in_ok-list.ensures in
    apart_are c.args.outer.now c.args.inner.now c.requires.some none
