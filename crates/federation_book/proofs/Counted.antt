-- How many objects the projects have.
use Rattle.std.proofs.Common.{◌≡◌, ◌+◌, ◌<◌, ◌≤◌, ℕ, List, length, get_or, sum_by, sym, ◌∙◌, ap, ap₂, arith}
use Rattle.book_topics.specs.Boards.{BoardState}
use Rattle.book_history.specs.declared.changes.Entry.{Entry}
use Rattle.book_history.specs.History.{state_of, board_of, project_numbers}
use Rattle.book_history.proofs.States.{within}
use Rattle.federation_book.specs.declared.project.Project.{Project}
use Rattle.federation_book.specs.declared.state.State.{State}
use Rattle.federation_book.specs.KeptProjects.{KeepsProject, KeepStates, IsKept}
use Rattle.federation_book.proofs.Counting.{sum_more}
use Rattle.federation_book.proofs.Keeping.{kept_at}

-- the board of a project that is kept
pub board_kept : (ps : List Project) (j : List Entry) (index : ℕ) (p : Project) → KeepStates 1 ps j → index < length ps → p ≡ get_or ps index p → p.board ≡ board_of (index + 1) j
board_kept ps j index p kept lt is =
    let at : KeepsProject (get_or ps index p) (state_of (1 + index) j) = kept_at 1 ps j index p kept lt in
    let place : 1 + index ≡ index + 1 = omega arith in
    ap (λ (q : Project). q.board) is ∙ at.board ∙ ap (λ m. board_of m j) place

-- one more project
pub count_more : (f : ℕ → ℕ) (k old part new : ℕ) → old ≡ sum_by f (project_numbers k) → part ≡ f (k + 1) → new ≡ old + part → new ≡ sum_by f (project_numbers (k + 1))
count_more f k old part new e g h = h ∙ ap₂ (λ a b. a + b) e g ∙ sym (sum_more f k)

-- no project has had more objects than the journal has room for
pub made_few : (s : State) (n : ℕ) (b : BoardState) (count : ℕ) → IsKept s → b ≡ board_of n s.entries.items → count ≤ b.made → count ≤ 8000000
made_few s n b count kept is few =
    let made = ap (λ (x : BoardState). x.made) is in
    let m = (within n s.entries.items).made_in in
    let room = kept.room in
    let most = kept.within.journal in
    omega (arith, made, m, room, most, few)
