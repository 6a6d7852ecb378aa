use Rattle.http_routes.proofs.Parts.{parts_of_found}
use Rattle.http_routes.proofs.routes.resource_on.Goals as goal

pub resource_by-requires : goal.resource_by-requires
resource_by-requires c =
    let found = rw c.requires.table at c.in-Ok.ensures.found in
    rw c.in-Ok.ensures.path (parts_of_found c.args.path.now _ found c.requires.ascii)
