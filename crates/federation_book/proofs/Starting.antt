-- A book in which nothing was changed yet.
use Rattle.std.proofs.Common.{◌≡◌, ◌≤◌, ℕ, List, [], ◌∷◌, length, sum_by, refl, sym, ◌∙◌, ap, subst, arith}
use Rattle.std.proofs.lemmas.List.Sums.{sum_by-cons}
use Rattle.book_history.specs.declared.limits.TheConstants.{MOST_PROJECTS}
use Rattle.book_history.specs.Settings.{IsWithinStated}
use Rattle.book_history.specs.Versions.{live_in}
use Rattle.book_history.specs.Projects.{ProjectState}
use Rattle.book_history.specs.History.{live_of, left_in, left_all, project_numbers, IsHistory}
use Rattle.book_history.specs.Weights.{triangles_in, text_in}
use Rattle.book_history.proofs.States.{nothing_yet}
use Rattle.federation_book.specs.declared.state.State.{State}
use Rattle.federation_book.specs.KeptProjects.{KeepStates, IsKept}
use Rattle.federation_book.proofs.Accepting.{sum_same}

no_sum : (xs : List ℕ) → sum_by (λ n. 0) xs ≡ 0
no_sum [] = refl
no_sum (x ∷ xs) =
    let a = sum_by-cons (λ n. 0) x xs in
    let b = no_sum xs in
    omega (arith, a, b)

-- nothing is to be checked
pub left_none : (projects : ℕ) → left_all projects [] ≡ 0
left_none projects =
    sum_same (λ n. left_in (live_of n [])) (λ n. 0) (project_numbers projects) (λ n. ap (λ (s : ProjectState). left_in (live_in s.versions)) (nothing_yet n))
    ∙ no_sum (project_numbers projects)

none_rise : IsHistory []
none_rise = λ i j d below within. absurd (omega (arith, within))

pub new_kept : (s : State) → KeepStates 1 s.projects.items [] → length s.projects.items ≤ MOST_PROJECTS → s.entries.items ≡ [] → s.triangles ≡ 0 → s.text ≡ 0 → IsWithinStated s.limits → IsKept s
new_kept s states few none triangles text within =
    let left : left_all (length s.projects.items) s.entries.items ≡ 0 = ap (left_all (length s.projects.items)) none ∙ left_none (length s.projects.items) in
    let count = ap length none in
    record {
      states = subst (KeepStates 1 s.projects.items) (sym none) states;
      few = few;
      rising = subst IsHistory (sym none) none_rise;
      triangles = triangles ∙ sym (ap triangles_in none);
      text = text ∙ sym (ap text_in none);
      within = within;
      room = omega (arith, left, count);
    }
