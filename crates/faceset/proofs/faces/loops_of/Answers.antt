use Rattle.std.proofs.Common.{List, Any, map, option_copied, subst}
use Rattle.p21_values.specs.declared.value.Value21.{Value21}
use Rattle.p21_values.specs.Attributes.{items_in}
use Rattle.faceset.specs.inner.Cuts.{IsUnread}
use Rattle.faceset.proofs.Read.{inner_unready}
use Rattle.faceset.proofs.faces.loops_of.Goals as goal

pub returns-in-None : goal.returns-in-None
returns-in-None c =
    let numbers = option_copied c.args.numbers in
    let points = c.args.points.now in
    let unread = rw c.in-None.is at c.in_ok-inner.ensures in
    inner_unready numbers points c.args.face.now (subst (λ (vs : List Value21). Any (IsUnread numbers points) (map items_in vs)) c.spelled_loops.ensures unread)
