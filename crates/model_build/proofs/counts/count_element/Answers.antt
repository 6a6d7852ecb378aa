use Rattle.std.proofs.Common.{ℕ, ◌+◌, sum_by, subst, ap, ◌∙◌}
use Rattle.model_build.specs.Triangles.{CountsTo, body_count}
use Rattle.model_build.proofs.TrianglesCounted.{counts_element}
use Rattle.model_build.proofs.counts.count_element.Goals as goal

pub returns-in_ok-found-in-Some : goal.returns-in_ok-found-in-Some
returns-in_ok-found-in-Some c =
    let world = c.args.exchange.now in
    let e = ap (sum_by (body_count world)) c.deref.ensures.value ∙ counts_element world c.args.id c.in-Some.element c.in_ok-found-in-Some.found.items c.in-Some.ensures c.in_ok-found-in-Some.ensures in
    subst (λ (m : ℕ). CountsTo (c.args.so_far + m) c.count_bodies.result) e c.count_bodies.ensures
