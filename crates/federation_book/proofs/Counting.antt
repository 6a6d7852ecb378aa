-- Sums over projects, as they are told.
use Rattle.std.proofs.Common.{◌≡◌, ◌+◌, ◌<◌, ◌≤◌, ℕ, suc, List, [], ◌∷◌, ◌++◌, length, get_or, inl, inr, refl, sym, ◌∙◌, ap, ap₂, arith, add-one, sum_by}
use Rattle.std.proofs.lemmas.Bool.Decides.{eqb_tells}
use Rattle.std.proofs.lemmas.List.{map-append}
use Rattle.std.proofs.lemmas.List.Sums.{sum_by_push}
use Rattle.bucket_grid.specs.BucketTable.{upto}
use Rattle.book_history.specs.declared.changes.Entry.{Entry}
use Rattle.book_history.specs.History.{state_of, live_of, left_in, project_numbers}
use Rattle.book_history.specs.Refusals.{left_if}
use Rattle.book_history.specs.Weights.{told}
use Rattle.book_history.proofs.ToldSums.{told_both}
use Rattle.federation_book.specs.declared.project.Project.{Project}
use Rattle.federation_book.specs.KeptProjects.{KeepsProject, KeepStates}
use Rattle.federation_book.proofs.Keeping.{kept_at}

numbers_suc : (k : ℕ) → project_numbers (suc k) ≡ project_numbers k ++ (k + 1) ∷ []
numbers_suc k = map-append (λ n. n + 1) (upto k) (k ∷ [])

-- one more number
pub one_number : (index : ℕ) (numbers more : List ℕ) → numbers ≡ project_numbers index → more ≡ numbers ++ (index + 1) ∷ [] → more ≡ project_numbers (index + 1)
one_number index numbers more is pushed = pushed ∙ ap (λ ns. ns ++ (index + 1) ∷ []) is ∙ sym (ap project_numbers (add-one index) ∙ numbers_suc index)

-- one more project
pub sum_more : (f : ℕ → ℕ) (k : ℕ) → sum_by f (project_numbers (k + 1)) ≡ sum_by f (project_numbers k) + f (k + 1)
sum_more f k = ap (λ n. sum_by f (project_numbers n)) (add-one k) ∙ ap (sum_by f) (numbers_suc k) ∙ sum_by_push f (project_numbers k) (k + 1)

-- the sum so far with one more part, both told
pub told_more : (f : ℕ → ℕ) (k old part new : ℕ) → old ≡ told (sum_by f (project_numbers k)) → part ≡ told (f (k + 1)) → new ≡ told (old + part) → new ≡ told (sum_by f (project_numbers (k + 1)))
told_more f k old part new e g h =
    h ∙ ap₂ (λ a b. told (a + b)) e g ∙ told_both (sum_by f (project_numbers k)) (f (k + 1)) ∙ ap told (sym (sum_more f k))

-- what is left of a project that is kept
pub left_kept : (ps : List Project) (j : List Entry) (index : ℕ) (p : Project) → KeepStates 1 ps j → index < length ps → p ≡ get_or ps index p → left_in p.live.items ≡ left_in (live_of (index + 1) j)
left_kept ps j index p kept lt is =
    let at : KeepsProject (get_or ps index p) (state_of (1 + index) j) = kept_at 1 ps j index p kept lt in
    let place : 1 + index ≡ index + 1 = omega arith in
    ap (λ (q : Project). left_in q.live.items) is ∙ ap left_in at.live ∙ ap (λ m. left_in (live_of m j)) place

pub if_own : (j : List Entry) (number x n : ℕ) → n ≡ number → left_if j number x n ≡ x
if_own j number x n e = elim (eqb_tells n number) [ inl is ↦ rw is.0 refl | inr none ↦ absurd (none.1 e) ]

pub if_other : (j : List Entry) (number x n : ℕ) → (n ≡ number → ⊥) → left_if j number x n ≡ left_in (live_of n j)
if_other j number x n ne = elim (eqb_tells n number) [ inl is ↦ absurd (ne is.1) | inr none ↦ rw none.0 refl ]

pub told_under : (x limit : ℕ) → x ≤ limit → limit ≤ 4000000 → told x ≡ x
told_under x limit h k = omega arith
