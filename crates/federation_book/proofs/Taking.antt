-- The order at a place among all that are to be given out.
use Rattle.std.proofs.Common.{◌≡◌, ◌+◌, ◌-◌, ◌%◌, ◌<◌, ◌≤◌, ◌⊎◌, ℕ, zero, suc, pos, List, [], ◌∷◌, ◌++◌, length, get_or, take, drop, sum_by, Some, None, inl, inr, refl, sym, ◌∙◌, ap, ap₂, subst, arith, append_assoc, append-nil, length-append}
use Rattle.std.specs.List.{flat_map, slice_get}
use Rattle.std.specs.Option.{option_map}
use Rattle.std.proofs.lemmas.Bool.{cases_lt}
use Rattle.std.proofs.lemmas.List.{length-map, get_or-map, get_or_at, get_or_default, get_or_append_left, get_or-append-add, get_or-append_right, drop_more, take_more}
use Rattle.std.proofs.lemmas.List.Concat.{length-flat_map}
use Rattle.std.proofs.lemmas.List.Sums.{sum_by-cons, sum_by_push, get_or-le-sum_by}
use Rattle.std.proofs.lemmas.Option.{slice_get-get_or, slice_get_past}
use Rattle.bucket_grid.specs.declared.cell.Cell.{Cell}
use Rattle.bucket_grid.specs.BucketTable.{upto}
use Rattle.book_history.specs.declared.changes.Entry.{Entry}
use Rattle.book_history.specs.declared.book_fault.BookFault.TheVariants.{NoWork}
use Rattle.book_history.specs.declared.replies.ReplyBody.TheVariants as reply
use Rattle.book_history.specs.Orders.{OrderValue}
use Rattle.book_history.specs.Versions.{VersionState}
use Rattle.book_history.specs.Projects.{ProjectState}
use Rattle.book_history.specs.History.{state_of, live_of, left_in, left_all, project_numbers}
use Rattle.book_history.specs.Requests.{order_at, orders_in, orders_from, orders_of, all_orders, order_for, body_of}
use Rattle.book_history.specs.Weights.{told}
use Rattle.book_history.proofs.Live.{live_length}
use Rattle.federation_book.specs.declared.project.Project.{Project}
use Rattle.federation_book.specs.KeptProjects.{KeepsProject, KeepStates}
use Rattle.federation_book.proofs.Accepting.{sum_same}
use Rattle.federation_book.proofs.Keeping.{kept_at}

-- one more version at the end comes first
pub orders_snoc : (p n : ℕ) (vs : List VersionState) (v : VersionState) → orders_from p n (vs ++ v ∷ []) ≡ orders_in p (n + length vs) v ++ orders_from p n vs
orders_snoc p n [] v = ap (λ m. orders_in p m v) (let e : n ≡ n + 0 = omega arith in e) ∙ sym (append-nil (orders_in p (n + 0) v))
orders_snoc p n (w ∷ ws) v =
    let place : n + 1 + length ws ≡ n + length (w ∷ ws) = omega arith in
    ap (λ l. l ++ orders_in p n w) (orders_snoc p (n + 1) ws v ∙ ap (λ m. orders_in p m v ++ orders_from p (n + 1) ws) place)
    ∙ append_assoc (orders_in p (n + length (w ∷ ws)) v) (orders_from p (n + 1) ws) (orders_in p n w)

pub orders_length : (p n : ℕ) (vs : List VersionState) → length (orders_from p n vs) ≡ left_in vs
orders_length p n [] = refl
orders_length p n (v ∷ vs) =
    let a = length-append (orders_from p (n + 1) vs) (orders_in p n v) in
    let b = orders_length p (n + 1) vs in
    let c = length-map v.undone (order_at p n v.content) in
    let d = sum_by-cons (λ (x : VersionState). length x.undone) v vs in
    omega (arith, a, b, c, d)

-- the order at a place: of the last version, or of those before it
pub order_here : (p n : ℕ) (vs : List VersionState) (v : VersionState) (place : ℕ) (cell : Cell) (d : OrderValue) → place < length v.undone → get_or v.undone place cell ≡ cell
    → get_or (orders_from p n (vs ++ v ∷ [])) place d ≡ order_at p (n + length vs) v.content cell
order_here p n vs v place cell d lt is =
    let m = length-map v.undone (order_at p (n + length vs) v.content) in
    ap (λ l. get_or l place d) (orders_snoc p n vs v)
    ∙ get_or_append_left (orders_in p (n + length vs) v) (orders_from p n vs) d place (omega (arith, lt, m))
    ∙ get_or-map (order_at p (n + length vs) v.content) v.undone place cell d lt
    ∙ ap (order_at p (n + length vs) v.content) is

pub order_before : (p n : ℕ) (vs : List VersionState) (v : VersionState) (place : ℕ) (d : OrderValue) → length v.undone ≤ place
    → get_or (orders_from p n (vs ++ v ∷ [])) place d ≡ get_or (orders_from p n vs) (place - length v.undone) d
order_before p n vs v place d le =
    let m = length-map v.undone (order_at p (n + length vs) v.content) in
    let at : place ≡ length (orders_in p (n + length vs) v) + (place - length v.undone) = omega (arith, le, m) in
    ap (λ l. get_or l place d) (orders_snoc p n vs v)
    ∙ ap (λ k. get_or (orders_in p (n + length vs) v ++ orders_from p n vs) k d) at
    ∙ get_or-append-add (orders_in p (n + length vs) v) (orders_from p n vs) (place - length v.undone) d

-- what is left with one more version
pub left_snoc : (vs : List VersionState) (v : VersionState) → left_in (vs ++ v ∷ []) ≡ left_in vs + length v.undone
left_snoc vs v = sum_by_push (λ (x : VersionState). length x.undone) vs v

-- ---- of the last version first
-- the versions up to a place are those before it and that one
pub take_last : (vs : List VersionState) (step : ℕ) (v : VersionState) → step < length vs → v ≡ get_or vs (length vs - 1 - step) v → take (length vs - step) vs ≡ take (length vs - (step + 1)) vs ++ v ∷ []
take_last vs step v lt is =
    let at : length vs - 1 - step ≡ length vs - (step + 1) = omega arith in
    let next : length vs - step ≡ length vs - (step + 1) + 1 = omega (arith, lt) in
    ap (λ n. take n vs) next
    ∙ take_more vs (length vs - (step + 1)) v (omega (arith, lt))
    ∙ ap (λ x. take (length vs - (step + 1)) vs ++ x ∷ []) (ap (λ n. get_or vs n v) (sym at) ∙ sym is)

-- what a place among a version's buckets tells
pub record IsOrder (p n : ℕ) (v : VersionState) (place : ℕ) (o : OrderValue) : Type 0 where
  pub within : place < length v.undone
  pub is : (vs : List VersionState) (m : ℕ) (d : OrderValue) → m + length vs ≡ n → get_or (orders_from p m (vs ++ v ∷ [])) place d ≡ o

pub some_order : (p n : ℕ) (v : VersionState) (place : ℕ) (o : OrderValue) → option_map (order_at p n v.content) (slice_get v.undone place) ≡ Some o → IsOrder p n v place o
some_order p n v place o e = by (cases_lt place (length v.undone))
  where
    inj : {a b : OrderValue} → Some a ≡ Some b → a ≡ b
    inj q = cc

    none_some : None ≡ Some o → ⊥
    none_some q = cc

    by : (place < length v.undone) ⊎ (length v.undone ≤ place) → IsOrder p n v place o
    by (inr le) = absurd (none_some (sym (ap (option_map (order_at p n v.content)) (slice_get_past v.undone place le)) ∙ e))
    by (inl lt) =
        let c : Cell = record { x = pos 0; y = pos 0; z = pos 0 } in
        let made : order_at p n v.content (get_or v.undone place c) ≡ o = inj (sym (ap (option_map (order_at p n v.content)) (slice_get-get_or v.undone place c lt)) ∙ e) in
        record {
          within = lt;
          is = λ vs m d at. order_here p m vs v place (get_or v.undone place c) d lt (get_or_default v.undone place (get_or v.undone place c) c lt) ∙ ap (λ k. order_at p k v.content (get_or v.undone place c)) at ∙ made;
        }

pub no_order : (p n : ℕ) (v : VersionState) (place : ℕ) → option_map (order_at p n v.content) (slice_get v.undone place) ≡ None → length v.undone ≤ place
no_order p n v place e = by (cases_lt place (length v.undone))
  where
    some_none : {a : OrderValue} → Some a ≡ None → ⊥
    some_none q = cc

    by : (place < length v.undone) ⊎ (length v.undone ≤ place) → length v.undone ≤ place
    by (inr le) = le
    by (inl lt) =
        let c : Cell = record { x = pos 0; y = pos 0; z = pos 0 } in
        absurd (some_none (sym (ap (option_map (order_at p n v.content)) (slice_get-get_or v.undone place c lt)) ∙ e))

-- ---- of all projects
upto_length : (n : ℕ) → length (upto n) ≡ n
upto_length zero = refl
upto_length (suc n) =
    let a = length-append (upto n) (n ∷ []) in
    let b = upto_length n in
    omega (arith, a, b)

upto_at : (n i d : ℕ) → i < n → get_or (upto n) i d ≡ i
upto_at zero i d lt = absurd (omega (arith, lt))
upto_at (suc n) i d lt = by (cases_lt i n) (upto_at n i d)
  where
    by : (i < n) ⊎ (n ≤ i) → (i < n → get_or (upto n) i d ≡ i) → get_or (upto n ++ n ∷ []) i d ≡ i
    by (inl below) rest = get_or_append_left (upto n) (n ∷ []) d i (let a = upto_length n in omega (arith, a, below)) ∙ rest below
    by (inr le) rest =
        let same : n ≡ i = omega (arith, lt, le) in
        get_or_at (upto n) n [] d i (upto_length n ∙ same) ∙ same

pub numbers_length : (projects : ℕ) → length (project_numbers projects) ≡ projects
numbers_length projects = length-map (upto projects) (λ n. n + 1) ∙ upto_length projects

pub number_at : (projects i d : ℕ) → i < projects → get_or (project_numbers projects) i d ≡ i + 1
number_at projects i d lt =
    let all = upto_length projects in
    get_or-map (λ n. n + 1) (upto projects) i 0 d (omega (arith, all, lt)) ∙ ap (λ n. n + 1) (upto_at projects i 0 lt)

-- the numbers from a place on
pub numbers_more : (projects i : ℕ) → i < projects → drop i (project_numbers projects) ≡ (i + 1) ∷ drop (i + 1) (project_numbers projects)
numbers_more projects i lt =
    let all = numbers_length projects in
    drop_more (project_numbers projects) i 0 (omega (arith, all, lt)) ∙ ap (λ n. n ∷ drop (i + 1) (project_numbers projects)) (number_at projects i 0 lt)

-- a project that is kept, by its place
pub kept_here : (ps : List Project) (h : List Entry) (i : ℕ) (p : Project) → KeepStates 1 ps h → i < length ps → p ≡ get_or ps i p → KeepsProject p (state_of (i + 1) h)
kept_here ps h i p kept lt is =
    let place : 1 + i ≡ i + 1 = omega arith in
    subst (λ n. KeepsProject p (state_of n h)) place (subst (λ q. KeepsProject q (state_of (1 + i) h)) (sym is) (kept_at 1 ps h i p kept lt))

pub kept_numbered : (ps : List Project) (h : List Entry) (n : ℕ) (p : Project) → KeepStates 1 ps h → 1 ≤ n → n ≤ length ps → p ≡ get_or ps (n - 1) p → KeepsProject p (state_of n h)
kept_numbered ps h n p kept low high is =
    let place : n - 1 + 1 ≡ n = omega (arith, low) in
    subst (λ m. KeepsProject p (state_of m h)) place (kept_here ps h (n - 1) p kept (omega (arith, low, high)) is)

pub below_told : (a x : ℕ) → a < told x → a < x
below_told a x lt = omega (arith, lt)

-- a project's orders, by what is kept of it
pub orders_kept : (p : Project) (n : ℕ) (s : ProjectState) → KeepsProject p s → orders_from n (p.newest + 1 - length p.live.items) p.live.items ≡ orders_of n s
orders_kept p n s k =
    let newest = k.newest in
    let count = ap length k.live in
    let all = live_length s.versions in
    let first : p.newest + 1 - length p.live.items ≡ length s.versions - 16 = omega (arith, newest, count, all) in
    ap₂ (orders_from n) first k.live

pub few_kept : (p : Project) (s : ProjectState) → KeepsProject p s → length p.live.items ≤ p.newest + 1
few_kept p s k =
    let newest = k.newest in
    let count = ap length k.live in
    let all = live_length s.versions in
    omega (arith, newest, count, all)

pub all_length : (projects : ℕ) (h : List Entry) → length (all_orders projects h) ≡ left_all projects h
all_length projects h =
    length-flat_map (λ n. orders_of n (state_of n h)) (project_numbers projects)
    ∙ sum_same (λ n. length (orders_of n (state_of n h))) (λ n. left_in (live_of n h)) (project_numbers projects) (λ n. orders_length n (length (state_of n h).versions - 16) (live_of n h))

pub left_one : (projects : ℕ) (h : List Entry) (i : ℕ) → i < projects → left_in (live_of (i + 1) h) ≤ left_all projects h
left_one projects h i lt =
    let all = numbers_length projects in
    subst (λ n. left_in (live_of n h) ≤ left_all projects h) (number_at projects i 0 lt) (get_or-le-sum_by (λ n. left_in (live_of n h)) (project_numbers projects) i 0 (omega (arith, all, lt)))

-- the place is one of the orders of the project of an index, or of those after it
module _ (projects : ℕ) (h : List Entry) (i place : ℕ) (lt : i < projects) where
  abbrev orders : List ℕ → List OrderValue
  orders ns = flat_map (λ n. orders_of n (state_of n h)) ns

  abbrev left : List ℕ → ℕ
  left ns = sum_by (λ n. left_in (live_of n h)) ns

  abbrev from : ℕ → List ℕ
  from k = drop k (project_numbers projects)

  own_length : length (orders_of (i + 1) (state_of (i + 1) h)) ≡ left_in (live_of (i + 1) h)
  own_length = orders_length (i + 1) (length (state_of (i + 1) h).versions - 16) (live_of (i + 1) h)

  pub left_behind : place < left (from i) → left_in (live_of (i + 1) h) ≤ place → place - left_in (live_of (i + 1) h) < left (from (i + 1))
  left_behind within le =
      let sum = ap left (numbers_more projects i lt) ∙ sum_by-cons (λ n. left_in (live_of n h)) (i + 1) (from (i + 1)) in
      omega (arith, within, le, sum)

  pub order_behind : (d : OrderValue) → left_in (live_of (i + 1) h) ≤ place → get_or (orders (from i)) place d ≡ get_or (orders (from (i + 1))) (place - left_in (live_of (i + 1) h)) d
  order_behind d le =
      ap (λ ns. get_or (orders ns) place d) (numbers_more projects i lt)
      ∙ get_or-append_right (orders_of (i + 1) (state_of (i + 1) h)) (orders (from (i + 1))) (left_in (live_of (i + 1) h)) place d own_length le

  pub order_own : (d : OrderValue) → place < left_in (live_of (i + 1) h) → get_or (orders (from i)) place d ≡ get_or (orders_of (i + 1) (state_of (i + 1) h)) place d
  order_own d within =
      let own = own_length in
      ap (λ ns. get_or (orders ns) place d) (numbers_more projects i lt)
      ∙ get_or_append_left (orders_of (i + 1) (state_of (i + 1) h)) (orders (from (i + 1))) d place (omega (arith, within, own))

-- ---- what is answered
pub none_to_give : (h : List Entry) (os : List OrderValue) (seat : ℕ) → length os ≡ 0 → body_of h (order_for os seat) ≡ reply.Refused NoWork
none_to_give h [] seat none = refl
none_to_give h (o ∷ os) seat none = absurd (omega (arith, none))

pub one_to_give : (h : List Entry) (os : List OrderValue) (seat : ℕ) (order : OrderValue) → 0 < length os → ((d : OrderValue) → order ≡ get_or os (seat % length os) d) → body_of h (order_for os seat) ≡ reply.Work order
one_to_give h [] seat order some is = absurd (omega (arith, some))
one_to_give h (o ∷ os) seat order some is = ap reply.Work (sym (is o))
