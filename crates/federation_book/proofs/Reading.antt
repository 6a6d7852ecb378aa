-- Versions of a kept project, by their numbers.
use Rattle.std.proofs.Common.{◌≡◌, ◌+◌, ◌-◌, ◌<◌, ◌≤◌, ◌^◌, nat_lt, leb, ℕ, Bool, true, false, if◌then◌else◌, List, [], ◌∷◌, length, get_or, set, Some, None, refl, sym, ◌∙◌, ap, subst, arith}
use Rattle.std.proofs.lemmas.Bool.{leb-false}
use Rattle.std.proofs.lemmas.Bool.Decides.{nat_tests}
use Rattle.std.proofs.lemmas.List.{get_or_default, set-get_or}
use Rattle.book_history.specs.declared.book_fault.BookFault.{BookFault}
use Rattle.book_history.specs.declared.book_fault.BookFault.TheVariants as fault
use Rattle.book_history.specs.declared.changes.Entry.{Entry}
use Rattle.book_history.specs.Versions.{VersionState, nothing, version_at, live_in}
use Rattle.book_history.specs.Projects.{ProjectState, newest}
use Rattle.book_history.specs.History.{state_of}
use Rattle.book_history.specs.Refusals.{first_of, not_yet, dropped}
use Rattle.book_history.proofs.Live.{gone, live_at, live_set, live_length}
use Rattle.book_history.proofs.States.{within}
use Rattle.federation_book.specs.declared.project.Project.{Project}
use Rattle.federation_book.specs.KeptProjects.{KeepsProject}

pub newest_is : (p : Project) (s : ProjectState) → KeepsProject p s → newest s ≡ p.newest
newest_is p s k = let n = k.newest in omega (arith, n)

-- what is not refused is made and live
pub not_refused : (p : Project) (s : ProjectState) (number : ℕ) → KeepsProject p s → first_of (not_yet s number ∷ dropped s number ∷ []) ≡ None → (number ≤ p.newest) × (p.newest < number + 16)
not_refused p s number k e = (made (nat_lt (newest s) number) refl, live (leb (number + 16) (newest s)) refl)
  where
    is : newest s ≡ p.newest
    is = newest_is p s k

    low : (a b : ℕ) → nat_lt a b ≡ false → b ≤ a
    low a b t = grind (arith, nat_tests)

    under : (a b : ℕ) → leb a b ≡ false → b < a
    under a b t = grind (arith, nat_tests)

    some_none : (f : BookFault) → Some f ≡ None → ⊥
    some_none f p = cc

    made : (b : Bool) → nat_lt (newest s) number ≡ b → number ≤ p.newest
    made true t = absurd (some_none _ (sym (ap (λ (c : Bool). first_of ((if c then Some (fault.NoVersion (newest s)) else None) ∷ dropped s number ∷ [])) t) ∙ e))
    made false t = subst (λ n. number ≤ n) is (low (newest s) number t)

    live : (b : Bool) → leb (number + 16) (newest s) ≡ b → p.newest < number + 16
    live false t = subst (λ n. n < number + 16) is (under (number + 16) (newest s) t)
    live true t = both (nat_lt (newest s) number) refl
      where
        both : (b : Bool) → nat_lt (newest s) number ≡ b → p.newest < number + 16
        both true u = absurd (some_none _ (sym (ap (λ (c : Bool). first_of ((if c then Some (fault.NoVersion (newest s)) else None) ∷ dropped s number ∷ [])) u) ∙ e))
        both false u = absurd (some_none _ (sym (ap (λ (c : Bool). first_of ((if c then Some (fault.NoVersion (newest s)) else None) ∷ (if leb (number + 16) (newest s) then Some (fault.VersionDropped number (newest s)) else None) ∷ [])) u ∙ ap (λ (c : Bool). first_of (None ∷ (if c then Some (fault.VersionDropped number (newest s)) else None) ∷ [])) t) ∙ e))

-- the place of a live version
pub record IsPlaced (p : Project) (s : ProjectState) (number place : ℕ) : Type 0 where
  pub within : place < length p.live.items
  pub is : (d : VersionState) → get_or p.live.items place d ≡ version_at s.versions number
  pub set : (v : VersionState) → live_in (set s.versions number v) ≡ set p.live.items place v

pub placed : (p : Project) (s : ProjectState) (number place : ℕ) → KeepsProject p s → number ≤ p.newest → p.newest < number + 16 → place + p.newest + 1 ≡ number + length p.live.items → IsPlaced p s number place
placed p s number place k made live at =
    let n = k.newest in
    let count = ap length k.live in
    let all = live_length s.versions in
    let from : gone s.versions ≤ number = omega (arith, n, live) in
    let is : place ≡ number - gone s.versions = omega (arith, n, count, all, at, from, made) in
    let lt : place < length p.live.items = omega (arith, n, count, all, at, made) in
    record {
      within = lt;
      is = λ d. get_or_default p.live.items place d nothing lt ∙ ap (λ l. get_or l place nothing) k.live ∙ ap (λ m. get_or (live_in s.versions) m nothing) is ∙ live_at s.versions number nothing from;
      set = λ v. live_set s.versions number v from ∙ ap (λ m. set (live_in s.versions) m v) (sym is) ∙ ap (λ l. set l place v) (sym k.live);
    }

-- versions enough to keep, and few
pub newest_small : (p : Project) (n : ℕ) (j : List Entry) → KeepsProject p (state_of n j) → length j < 2 ^ 63 → p.newest < 2 ^ 63
newest_small p n j k few = let w = (within n j).versions_in in let e = k.newest in omega (arith, w, e, few)

-- one that isn't dropped is live, and has a place
pub not_dropped : (p : Project) (s : ProjectState) (number : ℕ) → KeepsProject p s → None ≡ dropped s number → p.newest < number + 16
not_dropped p s number k e = subst (λ n. n < number + 16) (newest_is p s k) (by (leb (number + 16) (newest s)) refl)
  where
    none_some : (f : BookFault) → None ≡ Some f → ⊥
    none_some f q = cc

    by : (b : Bool) → leb (number + 16) (newest s) ≡ b → newest s < number + 16
    by true t = absurd (none_some (fault.VersionDropped number (newest s)) (e ∙ ap (λ (c : Bool). if c then Some (fault.VersionDropped number (newest s)) else None) t))
    by false t = leb-false (number + 16) (newest s) t

pub live_place : (p : Project) (s : ProjectState) (number : ℕ) → KeepsProject p s → number ≤ p.newest → p.newest < number + 16 → p.newest < number + length p.live.items
live_place p s number k made live =
    let n = k.newest in
    let count = ap length k.live in
    let all = live_length s.versions in
    omega (arith, n, count, all, made, live)

-- a project of which a version was only asked
pub keeps_same : (p q : Project) (s : ProjectState) (place : ℕ) (v : VersionState) → KeepsProject p s → q.board ≡ p.board → q.newest ≡ p.newest
    → q.live.items ≡ set p.live.items place v → v ≡ get_or p.live.items place v → KeepsProject q s
keeps_same p q s place v k board newest live is =
    let n = k.newest in
    record {
      board = board ∙ k.board;
      newest = omega (arith, n, newest);
      live = live ∙ ap (λ x. set p.live.items place x) is ∙ set-get_or p.live.items place v ∙ k.live;
    }

-- the place by what another copy of the project keeps
pub placed_there : (p q : Project) (s : ProjectState) (number place : ℕ) → KeepsProject p s → KeepsProject q s → number ≤ p.newest → p.newest < number + 16
    → place + p.newest + 1 ≡ number + length p.live.items → IsPlaced q s number place
placed_there p q s number place k l made live at =
    let n = k.newest in
    let m = l.newest in
    let count = ap length k.live in
    let other = ap length l.live in
    placed q s number place l (omega (arith, n, m, made)) (omega (arith, n, m, live)) (omega (arith, n, m, count, other, at))
