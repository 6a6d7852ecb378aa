-- What the book keeps of each project is what follows of its journal.
use Rattle.std.proofs.Common.{◌≡◌, ◌≢◌, ◌+◌, ◌-◌, ◌<◌, ◌≤◌, ℕ, zero, suc, List, [], ◌∷◌, ◌++◌, length, get_or, slice_set, refl, sym, ◌∙◌, subst, arith}
use Rattle.std.proofs.lemmas.List.Quantifiers.{all_pairs_push}
use Rattle.book_history.specs.declared.changes.Entry.{Entry}
use Rattle.book_history.specs.Projects.{untouched, with_change}
use Rattle.book_history.specs.History.{state_of, IsBefore, IsHistory}
use Rattle.book_history.proofs.States.{state_other, state_own, nothing_yet}
use Rattle.federation_book.specs.declared.project.Project.{Project}
use Rattle.federation_book.specs.KeptProjects.{KeepsProject, KeepStates}

pub kept_at : (n : ℕ) (ps : List Project) (j : List Entry) (k : ℕ) (d : Project) → KeepStates n ps j → k < length ps → KeepsProject (get_or ps k d) (state_of (n + k) j)
kept_at n [] j k d kept lt = absurd (omega arith)
kept_at n (p ∷ ps) j zero d kept lt = let e : n ≡ n + 0 = omega arith in subst (λ m. KeepsProject p (state_of m j)) e kept.0
kept_at n (p ∷ ps) j (suc k) d kept lt =
    let e : (n + 1) + k ≡ n + suc k = omega arith in
    subst (λ m. KeepsProject (get_or ps k d) (state_of m j)) e (kept_at (n + 1) ps j k d kept.1 (omega arith))

kept_same : (n : ℕ) (ps : List Project) (j j' : List Entry) → KeepStates n ps j → ((m : ℕ) → n ≤ m → state_of m j' ≡ state_of m j) → KeepStates n ps j'
kept_same n [] j j' kept same = tt
kept_same n (p ∷ ps) j j' kept same = (subst (KeepsProject p) (sym (same n (omega arith))) kept.0, kept_same (n + 1) ps j j' kept.1 (λ m le. same m (omega arith)))

kept_set : (n : ℕ) (ps : List Project) (j j' : List Entry) (k : ℕ) (q : Project) → KeepStates n ps j → k < length ps
    → ((m : ℕ) → m ≢ n + k → state_of m j' ≡ state_of m j) → KeepsProject q (state_of (n + k) j') → KeepStates n (slice_set ps k q) j'
kept_set n [] j j' k q kept lt others here = absurd (omega arith)
kept_set n (p ∷ ps) j j' zero q kept lt others here =
    let e : n + 0 ≡ n = omega arith in
    (subst (λ m. KeepsProject q (state_of m j')) e here, kept_same (n + 1) ps j j' kept.1 (λ m le. others m (λ is. omega (arith, is))))
kept_set n (p ∷ ps) j j' (suc k) q kept lt others here =
    let e : n + suc k ≡ (n + 1) + k = omega arith in (
      subst (KeepsProject p) (sym (others n (λ is. omega (arith, is)))) kept.0,
      kept_set (n + 1) ps j j' k q kept.1 (omega arith) (λ m other. others m (λ is. other (is ∙ e))) (subst (λ m. KeepsProject q (state_of m j')) e here),
    )

-- one of the projects is changed, by an entry of it
pub states_push : (ps : List Project) (j : List Entry) (e : Entry) (number : ℕ) (q : Project) → KeepStates 1 ps j → 1 ≤ number → number ≤ length ps
    → number ≡ e.project → KeepsProject q (with_change (state_of number j) e.change) → KeepStates 1 (slice_set ps (number - 1) q) (j ++ e ∷ [])
states_push ps j e number q kept low high own is =
    let place : number ≡ 1 + (number - 1) = omega arith in
    let here : state_of number (j ++ e ∷ []) ≡ with_change (state_of number j) e.change = state_own number j e own in
    kept_set 1 ps j (j ++ e ∷ []) (number - 1) q kept (omega arith)
    (λ m other. state_other m j e (λ same. other (same ∙ sym own ∙ place)))
    (subst (λ m. KeepsProject q (state_of m (j ++ e ∷ []))) place (subst (KeepsProject q) (sym here) is))

-- one of them is another of the same meaning
pub states_same : (ps : List Project) (j : List Entry) (number : ℕ) (q : Project) → KeepStates 1 ps j → 1 ≤ number → number ≤ length ps
    → KeepsProject q (state_of number j) → KeepStates 1 (slice_set ps (number - 1) q) j
states_same ps j number q kept low high is =
    let place : number ≡ 1 + (number - 1) = omega arith in
    kept_set 1 ps j j (number - 1) q kept (omega arith) (λ m other. refl) (subst (λ m. KeepsProject q (state_of m j)) place is)

pub rising_push : (j : List Entry) (e : Entry) → IsHistory j → IsBefore e.stamp.turn j → IsHistory (j ++ e ∷ [])
rising_push j e rising before = all_pairs_push (λ (a b : Entry). a.stamp.turn < b.stamp.turn) j e rising before

states_more : (n : ℕ) (ps : List Project) (q : Project) → KeepStates n ps [] → KeepsProject q untouched → KeepStates n (ps ++ q ∷ []) []
states_more n [] q kept e = (subst (KeepsProject q) (sym (nothing_yet n)) e, tt)
states_more n (p ∷ ps) q kept e = (kept.0, states_more (n + 1) ps q kept.1 e)

pub kept_more : (ps qs : List Project) (q : Project) → KeepStates 1 ps [] → KeepsProject q untouched → qs ≡ ps ++ q ∷ [] → KeepStates 1 qs []
kept_more ps qs q kept e is = subst (λ l. KeepStates 1 l []) (sym is) (states_more 1 ps q kept e)
