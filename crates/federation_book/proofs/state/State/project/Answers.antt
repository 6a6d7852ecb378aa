use Rattle.std.proofs.Common.{◌≡◌, ◌+◌, ◌-◌, get_or, subst, sym, arith}
use Rattle.book_history.specs.History.{state_of}
use Rattle.federation_book.specs.KeptProjects.{KeepsProject}
use Rattle.federation_book.proofs.Keeping.{kept_at}
use Rattle.federation_book.proofs.state.State.project.Goals as goal

pub returns : goal.returns
returns c =
    let place : 1 + (c.args.number - 1) ≡ c.args.number = omega arith in
    subst (λ p. KeepsProject p (state_of c.args.number c.args.self.now.entries.items)) (sym c.index.ensures)
    (subst (λ n. KeepsProject (get_or c.args.self.now.projects.items (c.args.number - 1) c.index.result.now) (state_of n c.args.self.now.entries.items)) place (kept_at 1 c.args.self.now.projects.items c.args.self.now.entries.items (c.args.number - 1) c.index.result.now c.requires.kept.states (omega arith)))
