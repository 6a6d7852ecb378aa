use Rattle.std.proofs.Common.{◌≡◌, ap, ap₂, ◌∙◌}
use Rattle.bim_model.specs.Snapshots.{Version}
use Rattle.book_history.specs.Versions.{VersionState}
use Rattle.book_history.specs.Projects.{newest_content}
use Rattle.book_history.specs.History.{state_of}
use Rattle.book_history.specs.Requests.{version_made}
use Rattle.book_history.specs.Weights.{told, elements_in, triangles_among}
use Rattle.book_history.proofs.States.{within}
use Rattle.federation_book.proofs.Advancing.{last_is}
use Rattle.federation_book.proofs.making.whole_version_made.Goals as goal

pub returns : goal.returns
returns c =
    let p = c.project-project.result.now in
    let j = c.args.state.now.entries.items in
    let s = state_of c.args.number j in
    let k = c.project-project.ensures in
    let last = last_is p s c.newest_version.result.now k (within c.args.number j).some c.newest_version.ensures in
    let models : c.models-models.result.now ≡ (newest_content s).models =
    c.models-models.ensures.same ∙ ap (λ (v : Version). v.models) (c.get.ensures ∙ c.snapshot.ensures) ∙ ap (λ (v : VersionState). v.content.models) last in
    c.version_made.ensures
    ∙ ap₂ (λ a b. version_made a b s) (c.elements_in-elements.ensures ∙ ap (λ ms. told (elements_in ms)) models) (c.triangles_among-triangles.ensures ∙ ap (λ ms. told (triangles_among ms)) models)
