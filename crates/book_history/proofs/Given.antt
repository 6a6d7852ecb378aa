-- A work that is given out at a history is one of it.
use Rattle.std.proofs.Common.{◌≡◌, ◌+◌, ◌-◌, ◌*◌, ◌%◌, ◌<◌, ◌≤◌, ℕ, zero, suc, List, [], ◌∷◌, ◌++◌, length, get_or, map, refl, sym, ◌∙◌, ap, subst, arith}
use Rattle.std.specs.List.{All, flat_map}
use Rattle.std.proofs.lemmas.List.Elements.{All-nil, All-cons, All-head, All-tail, All-append, All-map, All-weaker}
use Rattle.std.proofs.lemmas.Nat.{mod_below}
use Rattle.bim_model.specs.Snapshots.{Version}
use Rattle.bucket_grid.specs.declared.cell.Cell.{Cell}
use Rattle.bucket_grid.specs.Cells.{IsBucket}
use Rattle.bucket_grid.specs.BucketTable.{upto}
use Rattle.bucket_grid.proofs.Parts.{all_upto}
use Rattle.bucket_check.specs.declared.bucket_work.BucketWork.{BucketWork}
use Rattle.book_history.specs.declared.limits.Settings.{Settings}
use Rattle.book_history.specs.declared.changes.Entry.{Entry}
use Rattle.book_history.specs.declared.requests.BookRequest.TheVariants.{TakeWork}
use Rattle.book_history.specs.declared.replies.ReplyBody.{ReplyBody}
use Rattle.book_history.specs.declared.replies.ReplyBody.TheVariants as reply
use Rattle.book_history.specs.Orders.{OrderValue, order_of}
use Rattle.book_history.specs.Versions.{VersionState, nothing, version_at, live_in, first_live}
use Rattle.book_history.specs.Projects.{ProjectState}
use Rattle.book_history.specs.History.{state_of, content_of, project_numbers}
use Rattle.book_history.specs.Requests.{order_at, orders_in, orders_from, orders_of, all_orders, order_for, outcome_of, body_of}
use Rattle.book_history.specs.Legal.{IsGiven}
use Rattle.book_history.proofs.Live.{live_at, live_length}

-- an order of versions of which the first has the number
pub record IsOf (project number : ℕ) (vs : List VersionState) (o : OrderValue) : Type 0 where
  pub project_is : o.project ≡ project
  pub from : number ≤ o.version
  pub to : o.version < number + length vs
  pub content_is : o.content ≡ (version_at vs (o.version - number)).content

own_orders : (p n : ℕ) (v : VersionState) (vs : List VersionState) → All (IsOf p n (v ∷ vs)) (orders_in p n v)
own_orders p n v vs =
    All-map (IsOf p n (v ∷ vs)) (order_at p n v.content) v.undone
    (λ i d lt. record {
      project_is = refl;
      from = omega arith;
      to = omega arith;
      content_is = ap (λ k. (version_at (v ∷ vs) k).content) (let e : 0 ≡ n - n = omega arith in e);
    })

behind : (p n : ℕ) (v : VersionState) (vs : List VersionState) (o : OrderValue) → IsOf p (n + 1) vs o → IsOf p n (v ∷ vs) o
behind p n v vs o h =
    let from = h.from in
    let to = h.to in
    let place : suc (o.version - (n + 1)) ≡ o.version - n = omega (arith, from) in
    record {
      project_is = h.project_is;
      from = omega (arith, from);
      to = omega (arith, to);
      content_is = h.content_is ∙ ap (λ k. (version_at (v ∷ vs) k).content) place;
    }

orders_from_are : (p n : ℕ) (vs : List VersionState) → All (IsOf p n vs) (orders_from p n vs)
orders_from_are p n [] = All-nil (IsOf p n [])
orders_from_are p n (v ∷ vs) =
    All-append (IsOf p n (v ∷ vs)) (orders_from p (n + 1) vs) (orders_in p n v)
    (All-weaker (IsOf p (n + 1) vs) (IsOf p n (v ∷ vs)) (behind p n v vs) (orders_from p (n + 1) vs) (orders_from_are p (n + 1) vs))
    (own_orders p n v vs)

-- an order of a history
pub record IsAt (projects : ℕ) (h : List Entry) (o : OrderValue) : Type 0 where
  pub low : 1 ≤ o.project
  pub high : o.project ≤ projects
  pub there : o.version < length (state_of o.project h).versions
  pub content_is : o.content ≡ content_of o.project o.version h

of_project : (projects : ℕ) (h : List Entry) (n : ℕ) (o : OrderValue) → 1 ≤ n → n ≤ projects → IsOf n (first_live (state_of n h).versions) (live_in (state_of n h).versions) o → IsAt projects h o
of_project projects h n o low high is =
    let vs = (state_of n h).versions in
    let own : n ≡ o.project = sym is.project_is in
    let count = live_length vs in
    let to = is.to in
    let there : o.version < length vs = omega (arith, count, to) in
    record {
      low = subst (λ m. 1 ≤ m) own low;
      high = subst (λ m. m ≤ projects) own high;
      there = subst (λ m. o.version < length (state_of m h).versions) own there;
      content_is = is.content_is ∙ ap (λ (v : VersionState). v.content) (live_at vs o.version nothing is.from) ∙ ap (λ m. content_of m o.version h) own;
    }

flat_orders : (projects : ℕ) (h : List Entry) (ns : List ℕ) → All (λ n. (1 ≤ n) × (n ≤ projects)) ns → All (IsAt projects h) (flat_map (λ n. orders_of n (state_of n h)) ns)
flat_orders projects h [] are = All-nil (IsAt projects h)
flat_orders projects h (n ∷ ns) are =
    let here = All-head (λ n. (1 ≤ n) × (n ≤ projects)) n ns are in
    All-append (IsAt projects h) (orders_of n (state_of n h)) (flat_map (λ n. orders_of n (state_of n h)) ns)
    (All-weaker (IsOf n (first_live (state_of n h).versions) (live_in (state_of n h).versions)) (IsAt projects h) (λ o is. of_project projects h n o here.0 here.1 is) (orders_of n (state_of n h))
    (orders_from_are n (first_live (state_of n h).versions) (live_in (state_of n h).versions)))
    (flat_orders projects h ns (All-tail (λ n. (1 ≤ n) × (n ≤ projects)) n ns are))

pub orders_are : (projects : ℕ) (h : List Entry) → All (IsAt projects h) (all_orders projects h)
orders_are projects h =
    flat_orders projects h (project_numbers projects)
    (All-map (λ n. (1 ≤ n) × (n ≤ projects)) (λ n. n + 1) (upto projects) (all_upto (λ i. (1 ≤ i + 1) × (i + 1 ≤ projects)) projects (λ i lt. (omega arith, omega (arith, lt)))))

one_of : (P : OrderValue → Type 0) (h : List Entry) (os : List OrderValue) (seat : ℕ) (order : OrderValue) → All P os → body_of h (order_for os seat) ≡ reply.Work order → P order
one_of P h [] seat order are is = cc
one_of P h (o ∷ os) seat order are is =
    let same : get_or (o ∷ os) (seat % length (o ∷ os)) o ≡ order = inj is in
    subst P same (are (seat % length (o ∷ os)) o (mod_below seat (length (o ∷ os)) (omega arith)))
  where
    inj : {a b : OrderValue} → reply.Work a ≡ reply.Work b → a ≡ b
    inj p = cc

-- a work that the book answers at a history is one of it
pub given_out : (settings : Settings) (h : List Entry) (seat : ℕ) (w : BucketWork) → body_of h (outcome_of settings h (TakeWork seat)) ≡ reply.Work (order_of w) → IsBucket w.grid.boxes w.cell → IsGiven settings h w
given_out settings h seat w is bucket =
    let at = one_of (IsAt settings.projects h) h (all_orders settings.projects h) seat (order_of w) (orders_are settings.projects h) is in
    let there = at.there in
    record {
      low = at.low;
      high = at.high;
      made = omega (arith, there);
      content = at.content_is;
      bucket = bucket;
    }
