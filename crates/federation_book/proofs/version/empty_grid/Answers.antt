use Rattle.std.proofs.Common.{◌≡◌, Err, ap, ◌∙◌, arith}
use Rattle.bim_model.specs.Snapshots.{Version}
use Rattle.bucket_grid.specs.declared.grid.GridError.TheVariants.{TooSpread}
use Rattle.federation_book.proofs.Grids.{no_buckets, no_memberships}
use Rattle.federation_book.proofs.version.empty_grid.Goals as goal

pub unreachable-requires : goal.unreachable-requires
unreachable-requires c =
    let n = c.in-Err-TooSpread.field-0-0 in
    let is : c.of.result ≡ Err (TooSpread n) = cc in
    let h = c.of.ensures.spread n is in
    let none = no_memberships c.args.snapshot n (ap (λ (v : Version). v.models) c.requires) h.0 in
    let many = h.1 in
    omega (arith, none, many)

pub returns-in-Ok-clause-buckets : goal.returns-in-Ok-clause-buckets
returns-in-Ok-clause-buckets c =
    no_buckets c.in-Ok.grid c.know_grid.ensures (ap (λ (v : Version). v.models) (c.in-Ok.ensures.version ∙ c.requires))
