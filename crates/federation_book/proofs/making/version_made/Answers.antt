use Rattle.std.proofs.Common.{length, ap, ap₂, ◌∙◌}
use Rattle.book_history.specs.declared.replies.ReplyBody.TheVariants as reply
use Rattle.book_history.specs.Versions.{VersionState}
use Rattle.book_history.specs.History.{state_of}
use Rattle.book_history.proofs.States.{within}
use Rattle.federation_book.proofs.Advancing.{last_is, newest_is}
use Rattle.federation_book.proofs.making.version_made.Goals as goal

pub returns : goal.returns
returns c =
    let p = c.project-project.result.now in
    let j = c.args.state.now.entries.items in
    let s = state_of c.args.number j in
    let k = c.project-project.ensures in
    let last = last_is p s c.newest_version-version.result.now k (within c.args.number j).some c.newest_version-version.ensures in
    ap₂ (λ n m. reply.Changed n c.args.elements c.args.triangles m) (newest_is p s k) (c.left.ensures ∙ ap (λ (v : VersionState). length v.undone) last)
