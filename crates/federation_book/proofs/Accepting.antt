-- What is kept after an accepted change.
use Rattle.std.proofs.Common.{◌≡◌, ◌+◌, ◌-◌, ◌≤◌, nat_lt, ℕ, Bool, true, false, if◌then◌else◌, List, [], ◌∷◌, ◌++◌, length, slice_set, sum_by, Option, Some, None, inl, inr, refl, sym, ◌∙◌, ap, ap₂, subst, arith, length-append}
use Rattle.std.proofs.lemmas.Bool.Decides.{eqb_tells, nat_tests}
use Rattle.std.proofs.lemmas.List.{length-set}
use Rattle.std.proofs.lemmas.List.Sums.{sum_by-cons, sum_by_push}
use Rattle.book_history.specs.declared.changes.Entry.{Entry}
use Rattle.book_history.specs.declared.book_fault.BookFault.{BookFault}
use Rattle.book_history.specs.declared.limits.Limits.{Limits}
use Rattle.book_history.specs.declared.limits.Settings.{Settings}
use Rattle.book_history.specs.Settings.{IsWithinStated}
use Rattle.book_history.specs.Versions.{live_in}
use Rattle.book_history.specs.Projects.{ProjectState, with_change}
use Rattle.book_history.specs.History.{state_of, live_of, left_in, left_all, project_numbers, IsBefore, IsHistory}
use Rattle.book_history.specs.Weights.{triangles_in, text_in, triangles_of, text_of}
use Rattle.book_history.specs.Refusals.{first_of, triangles_if, text_if, journal_if, left_if, left_after}
use Rattle.book_history.proofs.States.{state_other, state_own}
use Rattle.federation_book.specs.declared.project.Project.{Project}
use Rattle.federation_book.specs.declared.state.State.{State}
use Rattle.federation_book.specs.KeptProjects.{KeepsProject, KeepStates, IsKept}
use Rattle.federation_book.proofs.Keeping.{states_push, states_same, rising_push}

pub sum_same : (f g : ℕ → ℕ) (xs : List ℕ) → ((n : ℕ) → f n ≡ g n) → sum_by f xs ≡ sum_by g xs
sum_same f g [] h = refl
sum_same f g (x ∷ xs) h = sum_by-cons f x xs ∙ ap₂ (λ a b. a + b) (h x) (sum_same f g xs h) ∙ sym (sum_by-cons g x xs)

-- what is left of the projects after an entry
left_own : (j : List Entry) (e : Entry) (n : ℕ) → left_in (live_of n (j ++ e ∷ [])) ≡ left_if j e.project (left_in (live_in (with_change (state_of e.project j) e.change).versions)) n
left_own j e n = elim (eqb_tells n e.project) [
  | inl is ↦ rw is.0 (ap (λ (s : ProjectState). left_in (live_in s.versions)) (state_own n j e is.1 ∙ ap (λ m. with_change (state_of m j) e.change) is.1))
  | inr none ↦ rw none.0 (ap (λ (s : ProjectState). left_in (live_in s.versions)) (state_other n j e none.1))
]

pub left_pushed : (projects : ℕ) (j : List Entry) (e : Entry) → left_all projects (j ++ e ∷ []) ≡ left_after projects j e.project e.change
left_pushed projects j e = sum_same _ _ (project_numbers projects) (left_own j e)

-- no refusal of three
pub record AreNone (a b c : Option BookFault) : Type 0 where
  pub first : a ≡ None
  pub second : b ≡ None
  pub third : c ≡ None

pub none_of : (a b c : Option BookFault) → first_of (a ∷ b ∷ c ∷ []) ≡ None → AreNone a b c
none_of None None None e = record { first = refl; second = refl; third = refl }
none_of None None (Some f) e = absurd (some_none e)
  where
    some_none : Some f ≡ None → ⊥
    some_none p = cc
none_of None (Some f) c e = absurd (some_none e)
  where
    some_none : Some f ≡ None → ⊥
    some_none p = cc
none_of (Some f) b c e = absurd (some_none e)
  where
    some_none : Some f ≡ None → ⊥
    some_none p = cc

some_none : (f : BookFault) → Some f ≡ None → ⊥
some_none f p = cc

refused : (b : Bool) (f : BookFault) → (if b then Some f else None) ≡ None → b ≡ false
refused true f e = absurd (some_none f e)
refused false f e = refl

not_above : (limit count : ℕ) → nat_lt limit count ≡ false → count ≤ limit
not_above limit count e = grind (arith, nat_tests)

-- the journal has room
pub journal_room : (settings : Settings) (j : List Entry) (left : ℕ) → journal_if settings j left ≡ None → length j + left + 1 ≤ settings.limits.journal
journal_room settings j left e = not_above settings.limits.journal (length j + left + 1) (refused (nat_lt settings.limits.journal (length j + left + 1)) _ e)

pub triangles_room : (limits : Limits) (j : List Entry) (more : ℕ) → triangles_if limits j more ≡ None → triangles_in j + more ≤ limits.triangles
triangles_room limits j more e = not_above limits.triangles (triangles_in j + more) (refused (nat_lt limits.triangles (triangles_in j + more)) _ e)

pub text_room : (limits : Limits) (j : List Entry) (more : ℕ) → text_if limits j more ≡ None → text_in j + more ≤ limits.text
text_room limits j more e = not_above limits.text (text_in j + more) (refused (nat_lt limits.text (text_in j + more)) _ e)

-- all that is kept after an entry of a project that was changed
pub kept_after : (s t : State) (e : Entry) (q : Project) → IsKept s → IsBefore e.stamp.turn s.entries.items → 1 ≤ e.project → e.project ≤ length s.projects.items
    → KeepsProject q (with_change (state_of e.project s.entries.items) e.change)
    → t.projects.items ≡ slice_set s.projects.items (e.project - 1) q → t.entries.items ≡ s.entries.items ++ e ∷ []
    → t.triangles ≡ s.triangles + triangles_of e.change → t.text ≡ s.text + text_of e.change → t.limits ≡ s.limits
    → length s.entries.items + left_after (length s.projects.items) s.entries.items e.project e.change + 1 ≤ s.limits.journal → IsKept t
kept_after s t e q kept before low high is ps js triangles text limits room =
    let j = s.entries.items in
    let count : length t.projects.items ≡ length s.projects.items = ap length ps ∙ length-set s.projects.items (e.project - 1) q in
    let longer : length t.entries.items ≡ length j + 1 = ap length js ∙ length-append j (e ∷ []) in
    let left : left_all (length t.projects.items) t.entries.items ≡ left_after (length s.projects.items) j e.project e.change =
    ap₂ left_all count js ∙ left_pushed (length s.projects.items) j e in
    let few = kept.few in
    record {
      states = subst (λ l. KeepStates 1 l t.entries.items) (sym ps) (subst (λ l. KeepStates 1 (slice_set s.projects.items (e.project - 1) q) l) (sym js) (states_push s.projects.items j e e.project q kept.states low high refl is));
      few = omega (arith, count, few);
      rising = subst (λ l. IsHistory l) (sym js) (rising_push j e kept.rising before);
      triangles = triangles ∙ ap (λ n. n + triangles_of e.change) kept.triangles ∙ sym (ap triangles_in js ∙ sum_by_push (λ (x : Entry). triangles_of x.change) j e);
      text = text ∙ ap (λ n. n + text_of e.change) kept.text ∙ sym (ap text_in js ∙ sum_by_push (λ (x : Entry). text_of x.change) j e);
      within = subst IsWithinStated (sym limits) kept.within;
      room = let most = ap (λ (l : Limits). l.journal) limits in omega (arith, longer, left, room, most);
    }

-- .. and where a project was only asked
pub kept_asked : (s t : State) (number : ℕ) (q : Project) → IsKept s → 1 ≤ number → number ≤ length s.projects.items → KeepsProject q (state_of number s.entries.items)
    → t.projects.items ≡ slice_set s.projects.items (number - 1) q → t.entries.items ≡ s.entries.items → t.triangles ≡ s.triangles → t.text ≡ s.text → t.limits ≡ s.limits → IsKept t
kept_asked s t number q kept low high is ps js triangles text limits =
    let count : length t.projects.items ≡ length s.projects.items = ap length ps ∙ length-set s.projects.items (number - 1) q in
    let few = kept.few in
    let room = kept.room in
    let left : left_all (length t.projects.items) t.entries.items ≡ left_all (length s.projects.items) s.entries.items = ap₂ left_all count js in
    let longer = ap length js in
    record {
      states = subst (λ l. KeepStates 1 l t.entries.items) (sym ps) (subst (λ l. KeepStates 1 (slice_set s.projects.items (number - 1) q) l) (sym js) (states_same s.projects.items s.entries.items number q kept.states low high is));
      few = omega (arith, count, few);
      rising = subst (λ l. IsHistory l) (sym js) kept.rising;
      triangles = triangles ∙ kept.triangles ∙ ap triangles_in (sym js);
      text = text ∙ kept.text ∙ ap text_in (sym js);
      within = subst IsWithinStated (sym limits) kept.within;
      room = let most = ap (λ (l : Limits). l.journal) limits in omega (arith, longer, left, room, most);
    }
