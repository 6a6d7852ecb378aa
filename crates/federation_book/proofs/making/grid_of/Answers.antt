use Rattle.std.proofs.Common.{◌≡◌, ◌<◌, Err, subst, ◌∙◌, arith}
use Rattle.bim_model.specs.Snapshots.{Version}
use Rattle.bucket_grid.specs.Grids.{HasMemberships}
use Rattle.bucket_grid.specs.declared.grid.GridError.TheVariants.{TooSpread}
use Rattle.federation_book.proofs.Sizes.{spread, not_spread}
use Rattle.federation_book.proofs.making.grid_of.Goals as goal

pub returns-then-count-limit : goal.returns-then-count-limit
returns-then-count-limit c =
    let v = c.args.snapshot.now in
    let count = c.memberships-count.result in
    let holds : c.in-Ok.grid.version ≡ v = c.in-Ok.ensures.version ∙ c.in_ok-share.ensures in
    let h = subst (λ (w : Version). HasMemberships w count) holds c.memberships-count.ensures.counted in
    spread c.args.limits.now v count h c.if-count-limit.true

pub returns-else-count-limit : goal.returns-else-count-limit
returns-else-count-limit c =
    let v = c.args.snapshot.now in
    let count = c.memberships-count.result in
    let holds : c.in-Ok.grid.version ≡ v = c.in-Ok.ensures.version ∙ c.in_ok-share.ensures in
    let h = subst (λ (w : Version). HasMemberships w count) holds c.memberships-count.ensures.counted in
    (not_spread c.args.limits.now v count h c.if-count-limit.false, holds)

pub returns-in-Err-TooSpread : goal.returns-in-Err-TooSpread
returns-in-Err-TooSpread c =
    let v = c.args.snapshot.now in
    let count = c.in-Err-TooSpread.count in
    let is : c.of.result ≡ Err (TooSpread count) = cc in
    let found = c.of.ensures.spread count is in
    let more = found.1 in
    let within = c.requires.within in
    let over : c.args.limits.now.memberships < count = omega (arith, more, within) in
    spread c.args.limits.now v count (subst (λ (w : Version). HasMemberships w count) c.in_ok-share.ensures found.0) over
