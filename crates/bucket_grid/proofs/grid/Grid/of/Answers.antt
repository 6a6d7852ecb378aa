use Rattle.std.proofs.Common.{rules, ◌≡◌, arith}
use Rattle.bucket_grid.specs.Grids.{HasMemberships}
use Rattle.bucket_grid.proofs.OneOwner.{one_number}
use Rattle.bucket_grid.proofs.grid.Grid.of.Goals as goal

pub returns-clause-few : goal.returns-clause-few
returns-clause-few c =
    let mine : HasMemberships c.args.snapshot c.memberships_of-count.result = search rules in
    λ count h.
    let e : count ≡ c.memberships_of-count.result = one_number c.args.snapshot count c.memberships_of-count.result h mine in
    omega (arith, c.if-count-gt-MOST_MEMBERSHIPS.false)
