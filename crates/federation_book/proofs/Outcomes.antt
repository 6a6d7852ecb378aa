-- What becomes of a change of a project.
use Rattle.std.proofs.Common.{◌≡◌, ℕ, List, ◌++◌, Option, Some, None, length, sym, ◌∙◌, ap, ap₂, subst, arith}
use Rattle.book_turn.specs.declared.object.Stamp.{Stamp}
use Rattle.book_turn.specs.Entries.{listed}
use Rattle.book_history.specs.declared.changes.Change.{Change}
use Rattle.book_history.specs.declared.changes.Entry.{Entry}
use Rattle.book_history.specs.declared.book_fault.BookFault.{BookFault}
use Rattle.book_history.specs.declared.replies.ReplyBody.{ReplyBody}
use Rattle.book_history.specs.declared.replies.ReplyBody.TheVariants as reply
use Rattle.book_history.specs.Projects.{with_change}
use Rattle.book_history.specs.History.{state_of, left_all, IsHistory}
use Rattle.book_history.specs.Weights.{triangles_in, text_in}
use Rattle.book_history.specs.Settings.{IsWithinStated}
use Rattle.book_history.specs.declared.limits.Limits.{Limits}
use Rattle.book_history.specs.Refusals.{first_of}
use Rattle.book_history.specs.Requests.{Outcome, Refusal, Accepted, refused_or, unless, in_project, body_of, entry_by, reply_to}
use Rattle.federation_book.specs.declared.state.State.{State}
use Rattle.federation_book.specs.KeptProjects.{KeepStates, IsKept}
use Rattle.federation_book.proofs.Answering.{nothing_added}

pub is_refused : (refusals : List (Option BookFault)) (o : Outcome) (fault : BookFault) → first_of refusals ≡ Some fault → unless refusals o ≡ Refusal fault
is_refused refusals o fault e = ap (λ r. refused_or r o) e

pub is_accepted : (refusals : List (Option BookFault)) (o : Outcome) → first_of refusals ≡ None → unless refusals o ≡ o
is_accepted refusals o e = ap (λ r. refused_or r o) e

module _ (j : List Entry) (stamp : Stamp) (n : Option ℕ) (number : ℕ) (is : n ≡ Some number) (f : ℕ → Outcome) where
  asked : in_project n f ≡ f number
  asked = ap (λ m. in_project m f) is

  pub refused_reply : (fault : BookFault) → f number ≡ Refusal fault → reply.Refused fault ≡ body_of j (in_project n f)
  refused_reply fault e = sym (ap (body_of j) (asked ∙ e))

  pub refused_adds : (fault : BookFault) → f number ≡ Refusal fault → j ≡ j ++ listed (entry_by stamp (in_project n f))
  refused_adds fault e = nothing_added j (listed (entry_by stamp (in_project n f))) (ap (λ o. listed (entry_by stamp o)) (asked ∙ e))

  pub accepted_reply : (change : Change) (body : ReplyBody) → f number ≡ Accepted number change → body ≡ reply_to (state_of number j) change (with_change (state_of number j) change) → body ≡ body_of j (in_project n f)
  accepted_reply change body e b = b ∙ sym (ap (body_of j) (asked ∙ e))

-- a state of the same parts is kept
pub kept_still : (s t : State) → IsKept s → t.projects.items ≡ s.projects.items → t.entries.items ≡ s.entries.items → t.triangles ≡ s.triangles → t.text ≡ s.text → t.limits ≡ s.limits → IsKept t
kept_still s t kept ps js triangles text limits =
    let count = ap length ps in
    let longer = ap length js in
    let few = kept.few in
    let room = kept.room in
    let left : left_all (length t.projects.items) t.entries.items ≡ left_all (length s.projects.items) s.entries.items = ap₂ left_all count js in
    record {
      states = subst (λ l. KeepStates 1 l t.entries.items) (sym ps) (subst (KeepStates 1 s.projects.items) (sym js) kept.states);
      few = omega (arith, count, few);
      rising = subst IsHistory (sym js) kept.rising;
      triangles = triangles ∙ kept.triangles ∙ ap triangles_in (sym js);
      text = text ∙ kept.text ∙ ap text_in (sym js);
      within = subst IsWithinStated (sym limits) kept.within;
      room = let most = ap (λ (l : Limits). l.journal) limits in omega (arith, longer, left, room, most);
    }
