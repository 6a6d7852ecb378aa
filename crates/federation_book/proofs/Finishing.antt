-- A bucket's clashes that are brought: one bucket less is to be checked, so that the journal's room stays.
use Rattle.std.proofs.Common.{◌≡◌, ◌+◌, ◌-◌, ◌<◌, ◌≤◌, ◌||◌, ◌&&◌, not, cond, ℕ, Bool, true, false, if◌then◌else◌, zero, suc, List, [], ◌∷◌, length, get_or, set, filter, sum_by, Some, None, inl, inr, refl, sym, ◌∙◌, ap, subst, arith, true≢false}
use Rattle.std.proofs.lemmas.Bool.{not-false}
use Rattle.std.proofs.lemmas.Bool.Decides.{eqb_tells}
use Rattle.std.proofs.lemmas.List.{get_or-set_same, length-set}
use Rattle.std.proofs.lemmas.List.Sums.{sum_by-cons, sum_by-set, sum_by-le-sum_by, length-filter, count_by-le-length}
use Rattle.bim_model.specs.Snapshots.{Version}
use Rattle.bucket_grid.specs.declared.cell.Cell.{Cell}
use Rattle.bucket_grid.specs.Cells.{IsBucket}
use Rattle.bucket_grid.specs.Grids.{GridValue}
use Rattle.bucket_check.specs.Clashes.{is_cell}
use Rattle.bucket_check.specs.ClashSets.{SetValue}
use Rattle.book_history.specs.declared.changes.Change.TheVariants.{BucketDone}
use Rattle.book_history.specs.declared.changes.Entry.{Entry}
use Rattle.book_history.specs.declared.book_fault.BookFault.{BookFault}
use Rattle.book_history.specs.declared.book_fault.BookFault.TheVariants as fault
use Rattle.book_history.specs.Buckets.{buckets_of, is_among}
use Rattle.book_history.specs.Versions.{VersionState, nothing, version_at, with_done, is_done, live_in}
use Rattle.book_history.specs.Projects.{ProjectState, newest, with_bucket}
use Rattle.book_history.specs.History.{state_of, live_of, left_in, left_all, project_numbers}
use Rattle.book_history.specs.Refusals.{first_of, dropped, done_before, left_if, left_after}
use Rattle.book_history.specs.Requests.{Accepted, refused_or, finished}
use Rattle.book_history.proofs.OneGrid.{HasParts}
use Rattle.book_history.proofs.Among.{bucket_among}
use Rattle.federation_book.specs.declared.project.Project.{Project}
use Rattle.federation_book.specs.KeptProjects.{KeepsProject}
use Rattle.federation_book.proofs.Reading.{IsPlaced}
use Rattle.federation_book.proofs.Taking.{number_at, numbers_length}

-- ---- one cell less
module _ (c : Cell) where
  abbrev others : List Cell → List Cell
  others cells = filter (λ (d : Cell). not (is_cell d c)) cells

  fewer : (cells : List Cell) → length (others cells) ≤ length cells
  fewer cells =
      let kept = length-filter (λ (d : Cell). not (is_cell d c)) cells in
      let most = count_by-le-length (λ (d : Cell). not (is_cell d c)) cells in
      omega (arith, kept, most)

  one_less : (cells : List Cell) → is_among cells c ≡ true → length (others cells) + 1 ≤ length cells
  one_less [] e = absurd (true≢false (sym e))
  one_less (x ∷ xs) e = by (is_cell x c) e (one_less xs)
    where
      by : (b : Bool) → (b || is_among xs c) ≡ true → (is_among xs c ≡ true → length (others xs) + 1 ≤ length xs) → length (cond (not b) (x ∷ others xs) (others xs)) + 1 ≤ length (x ∷ xs)
      by true h rest = let few = fewer xs in omega (arith, few)
      by false h rest = let one = rest h in omega (arith, one)

-- a bucket that isn't done is to be checked
is_open : (v : VersionState) (c : Cell) → is_among (buckets_of v.content) c ≡ true → is_done v c ≡ false → is_among v.undone c ≡ true
is_open v c b d = not-false (is_among v.undone c) (sym (ap (λ t. t && not (is_among v.undone c)) b) ∙ d)

pub left_less : (v : VersionState) (g : GridValue) (c : Cell) → HasParts g → g.version ≡ v.content → IsBucket g.boxes c → false ≡ is_done v c → length (with_done c v).undone + 1 ≤ length v.undone
left_less v g c h is b d = one_less c v.undone (is_open v c (subst (λ (w : Version). is_among (buckets_of w) c ≡ true) is (bucket_among g h c b)) (sym d))

-- ---- the project that is kept then
module _ (p : Project) (s : ProjectState) (number place : ℕ) (c : Cell) (k : KeepsProject p s) (at : IsPlaced p s number place) (there : number < length s.versions) where
  abbrev w : VersionState
  w = with_done c (version_at s.versions number)

  pub keeps_done : (q : Project) (v : VersionState) → q.board ≡ p.board → q.newest ≡ p.newest → q.live.items ≡ set p.live.items place v → v ≡ w → KeepsProject q (with_bucket s number c)
  keeps_done q v board newest live is =
      let same = length-set s.versions number w in
      let n = k.newest in
      record {
        board = board ∙ k.board;
        newest = omega (arith, same, n, newest);
        live = live ∙ ap (set p.live.items place) is ∙ sym (at.set w);
      }

  pub left_done : length w.undone + 1 ≤ length (version_at s.versions number).undone → left_in (live_in (with_bucket s number c).versions) + 1 ≤ left_in (live_in s.versions)
  left_done less =
      let sum = sum_by-set (λ (x : VersionState). length x.undone) p.live.items place w nothing at.within in
      let here = ap (λ (x : VersionState). length x.undone) (at.is nothing) in
      let after : left_in (live_in (with_bucket s number c).versions) ≡ left_in (set p.live.items place w) = ap left_in (at.set w) in
      let before : left_in p.live.items ≡ left_in (live_in s.versions) = ap left_in k.live in
      omega (arith, sum, here, after, before, less)

  pub done_is : version_at (with_bucket s number c).versions number ≡ w
  done_is = get_or-set_same s.versions number w nothing there

-- ---- and all projects
sum_less : (f g : ℕ → ℕ) (ns : List ℕ) (k : ℕ) → k < length ns → ((m : ℕ) → g m ≤ f m) → g (get_or ns k 0) + 1 ≤ f (get_or ns k 0) → sum_by g ns + 1 ≤ sum_by f ns
sum_less f g [] k lt le one = absurd (omega (arith, lt))
sum_less f g (n ∷ ns) zero lt le one =
    let a = sum_by-cons f n ns in
    let b = sum_by-cons g n ns in
    let rest = sum_by-le-sum_by g f ns le in
    omega (arith, a, b, rest, one)
sum_less f g (n ∷ ns) (suc k) lt le one =
    let a = sum_by-cons f n ns in
    let b = sum_by-cons g n ns in
    let here = le n in
    let rest = sum_less f g ns k (omega (arith, lt)) le one in
    omega (arith, a, b, here, rest)

pub less_after : (projects : ℕ) (j : List Entry) (number left : ℕ) → 1 ≤ number → number ≤ projects → left + 1 ≤ left_in (live_of number j)
    → sum_by (left_if j number left) (project_numbers projects) + 1 ≤ left_all projects j
less_after projects j number left low high less =
    sum_less (λ n. left_in (live_of n j)) (left_if j number left) (project_numbers projects) (number - 1) (let all = numbers_length projects in omega (arith, all, low, high)) most
    (subst (λ n. left_if j number left n + 1 ≤ left_in (live_of n j)) (sym at) own)
  where
    at : get_or (project_numbers projects) (number - 1) 0 ≡ number
    at = number_at projects (number - 1) 0 (omega (arith, low, high)) ∙ (let e : number - 1 + 1 ≡ number = omega (arith, low) in e)

    most : (m : ℕ) → left_if j number left m ≤ left_in (live_of m j)
    most m = elim (eqb_tells m number) [
      | inl is ↦ rw is.0 (subst (λ n. left ≤ left_in (live_of n j)) (sym is.1) (omega (arith, less)))
      | inr none ↦ rw none.0 (omega arith)
    ]

    own : left_if j number left number + 1 ≤ left_in (live_of number j)
    own = elim (eqb_tells number number) [ inl is ↦ rw is.0 less | inr none ↦ absurd (none.1 refl) ]

-- the room that the journal has then
pub room_done : (projects journal : ℕ) (j : List Entry) (number version : ℕ) (c : Cell) → length j + left_all projects j ≤ journal → 1 ≤ number → number ≤ projects
    → left_in (live_in (with_bucket (state_of number j) version c).versions) + 1 ≤ left_in (live_of number j)
    → length j + left_after projects j number (BucketDone version c) + 1 ≤ journal
room_done projects journal j number version c room low high less =
    let one = less_after projects j number (left_in (live_in (with_bucket (state_of number j) version c).versions)) low high less in
    omega (arith, room, one)

-- ---- what is answered
module _ (j : List Entry) (set : SetValue) where
  abbrev s : ProjectState
  s = state_of set.work.project j

  abbrev v : VersionState
  v = version_at s.versions set.work.version

  pub finish_dropped : (f : BookFault) → Some f ≡ dropped s set.work.version → finished j set ≡ refused_or (Some f) (Accepted set.work.project (BucketDone set.work.version set.work.cell))
  finish_dropped f e = ap (λ o. refused_or (first_of (o ∷ done_before v set.work.cell ∷ [])) (Accepted set.work.project (BucketDone set.work.version set.work.cell))) (sym e)

  pub finish_again : None ≡ dropped s set.work.version → true ≡ is_done v set.work.cell → finished j set ≡ refused_or (Some fault.AlreadyDone) (Accepted set.work.project (BucketDone set.work.version set.work.cell))
  finish_again e d =
      ap (λ o. refused_or (first_of (o ∷ done_before v set.work.cell ∷ [])) (Accepted set.work.project (BucketDone set.work.version set.work.cell))) (sym e)
      ∙ ap (λ (b : Bool). refused_or (first_of ((if b then Some fault.AlreadyDone else None) ∷ [])) (Accepted set.work.project (BucketDone set.work.version set.work.cell))) (sym d)

  pub finish_taken : None ≡ dropped s set.work.version → false ≡ is_done v set.work.cell → finished j set ≡ Accepted set.work.project (BucketDone set.work.version set.work.cell)
  finish_taken e d =
      ap (λ o. refused_or (first_of (o ∷ done_before v set.work.cell ∷ [])) (Accepted set.work.project (BucketDone set.work.version set.work.cell))) (sym e)
      ∙ ap (λ (b : Bool). refused_or (first_of ((if b then Some fault.AlreadyDone else None) ∷ [])) (Accepted set.work.project (BucketDone set.work.version set.work.cell))) (sym d)

pub made_is : (p : Project) (s : ProjectState) (number : ℕ) → KeepsProject p s → number ≤ newest s → number ≤ p.newest
made_is p s number k le = let n = k.newest in omega (arith, n, le)
