-- Where nothing is left to check, no call is answered that buckets are pending; and so for the steps of a session.
use Rattle.std.proofs.Common.{◌≡◌, ◌≢◌, ◌⊎◌, ℕ, zero, suc, ◌+◌, ◌-◌, ◌*◌, ◌<◌, ◌≤◌, List, [], ◌∷◌, ◌++◌, length, get_or, Bool, true, false, nat_lt, nat_le, if◌then◌else◌, Option, Some, None, inl, inr, sym, ◌∙◌, ap, subst, refl, arith, append_assoc, length-append, ◌==◌}
use Rattle.std.specs.List.{All, sum_by}
use Rattle.std.proofs.lemmas.Bool.Decides.{nat_tests}
use Rattle.std.proofs.lemmas.List.{map-append}
use Rattle.std.proofs.lemmas.List.Sums.{sum_by-cons, sum_by_push}
use Rattle.std.proofs.lemmas.List.Elements.{All-nil, All-cons}
use Rattle.bucket_check.specs.ClashSets.{SetValue}
use Rattle.bucket_grid.specs.BucketTable.{upto}
use Rattle.http_frame.specs.Events.{Event}
use Rattle.http_frame.specs.Events as frame
use Rattle.book_history.specs.declared.limits.Settings.{Settings}
use Rattle.book_history.specs.declared.changes.Entry.{Entry}
use Rattle.book_history.specs.declared.changes.Change.{Change}
use Rattle.book_history.specs.declared.changes.Change.TheVariants as change
use Rattle.book_history.specs.declared.book_fault.BookFault.{BookFault}
use Rattle.bim_model.specs.declared.author.Author.{Author}
use Rattle.bcf_topics.specs.declared.topic.Topic.{Topic}
use Rattle.bcf_topics.specs.declared.comment.Comment.{Comment}
use Rattle.bcf_topics.specs.declared.comment.CommentIn.{CommentIn}
use Rattle.bcf_topics.specs.declared.comment.CommentBody.{CommentBody}
use Rattle.book_topics.specs.TopicIdentifiers.{topic_named, comment_named, view_named, comment_kept}
use Rattle.bcf_viewpoints.specs.declared.view.ViewBody.{ViewBody}
use Rattle.book_history.specs.declared.book_fault.BookFault.TheVariants.{Pending, TurnAhead, NoModel, NoTopic, NoComment, NoViewpoint}
use Rattle.book_history.specs.declared.replies.ReplyBody.{ReplyBody}
use Rattle.book_history.specs.declared.replies.ReplyBody.TheVariants as reply
use Rattle.book_history.specs.declared.requests.Wanted.{Wanted}
use Rattle.book_history.specs.declared.requests.BookRequest.{BookRequest}
use Rattle.book_history.specs.declared.requests.BookCall.{BookCall}
use Rattle.book_history.specs.declared.requests.BookRequest.TheVariants.{Upload, Remove, SetRules, ReadVersion, ReadClashes, ClashTopic, PostTopic, PutTopic, DeleteTopic, PostComment, PutComment, DeleteComment, PostView, DeleteView, TakeWork, Finish}
use Rattle.book_history.specs.Orders.{OrderValue}
use Rattle.book_history.specs.Versions.{VersionState, nothing, version_at, live_in}
use Rattle.book_history.specs.Projects.{ProjectState, newest, with_change}
use Rattle.book_history.specs.History.{state_of, board_of, at_turn, left_in, live_of, left_all, project_numbers}
use Rattle.book_history.specs.Refusals.{project_of, wanted_in, not_yet, dropped, pending, no_clash, done_before, no_model, full, not_noted}
use Rattle.book_history.specs.Requests.{Outcome, Answer, Accepted, refused_or, without_turn, ahead, outcome_in, unless, found, in_project, in_topic, in_comment, in_view, with_body, changed, noted, version_read, clashes_read, clash_noted, topic_told, comment_told, view_told, order_for, all_orders, finished, outcome_of, reply_to, body_of, reply_of, added_by}
use Rattle.book_history.specs.Runs.{Step, Runs, IsRun}
use Rattle.book_history.proofs.Live.{gone, live_length, live_at}
use Rattle.book_history.proofs.States.{within, nothing_yet}
use Rattle.book_history.proofs.Histories.{AreAbove, above_of, added_of}
use Rattle.bim_session.specs.declared.end.SessionEnd.{SessionEnd}
use Rattle.bim_session.specs.Works.{Standing, Printed, Gives, WorksOn, Works, WorksShort, IsEnough, left_behind, last_turn}
use Rattle.bim_session.specs.Session.{Asking, asking, TakesTurn, TakesIdly, TakesUnanswered, Answers, AnswersEvent, WorksBehind, Answered, Stop, Ends, IsNext, past}
use Rattle.bim_session.specs.Talking.{is_refusal}
use Rattle.bim_session.specs.Replay.{beginning, IsPending, reply_at, NoneIsPending}
use Rattle.bim_session.proofs.Sessions.{last_turn-append, on_last}

-- ---- faults of a list

-- the fault, if there is one, isn't that buckets are pending
abbrev IsOther : Option BookFault → Type 0
IsOther None = Unit {0}
IsOther (Some fault) = (version left : ℕ) → fault ≢ Pending version left

abbrev AreOther : List (Option BookFault) → Type 0
AreOther [] = Unit {0}
AreOther (f ∷ fs) = IsOther f × AreOther fs

other_if : (b : Bool) (fault : BookFault) → ((version left : ℕ) → fault ≢ Pending version left) → IsOther (if b then Some fault else None)
other_if true fault other = other
other_if false fault other = tt

fault_is : (f g : BookFault) → reply.Refused f ≡ reply.Refused g → f ≡ g
fault_is f g e = cc

-- what becomes of a request isn't that buckets are pending
abbrev IsCalm : List Entry → Outcome → Type 0
IsCalm h o = IsPending (body_of h o) → ⊥

calm_unless : (h : List Entry) (fs : List (Option BookFault)) (o : Outcome) → AreOther fs → IsCalm h o → IsCalm h (unless fs o)
calm_unless h [] o others calm = calm
calm_unless h (Some f ∷ fs) o others calm = λ p. others.0 p.0 p.1 (fault_is f _ p.2)
calm_unless h (None ∷ fs) o others calm = calm_unless h fs o others.1 calm

calm_in : (h : List Entry) (o : Option ℕ) (f : ℕ → Outcome) → ((n : ℕ) → o ≡ Some n → IsCalm h (f n)) → IsCalm h (in_project o f)
calm_in h None f calm = λ p. (let e = p.2 in cc)
calm_in h (Some n) f calm = calm n refl

calm_found : {A : Type 0} (h : List Entry) (fault : BookFault) (o : Option A) (f : A → Outcome) → ((v l : ℕ) → fault ≢ Pending v l) → ((x : A) → IsCalm h (f x)) → IsCalm h (found fault o f)
calm_found h fault None f other calm = λ p. other p.0 p.1 (fault_is fault _ p.2)
calm_found h fault (Some x) f other calm = calm x

-- what is told of a topic, and of a comment, isn't that buckets are pending
calm_topic : (o : Option Topic) → IsPending (topic_told o) → ⊥
calm_topic None p = let e = p.2 in cc
calm_topic (Some topic) p = let e = p.2 in cc

calm_comment : (o : Option Comment) → IsPending (comment_told o) → ⊥
calm_comment None p = let e = p.2 in cc
calm_comment (Some comment) p = let e = p.2 in cc

calm_view : (serial : ℕ) (o : Option ViewBody) → IsPending (view_told serial o) → ⊥
calm_view serial None p = let e = p.2 in cc
calm_view serial (Some body) p = let e = p.2 in cc

calm_accepted : (h : List Entry) (n : ℕ) (before after : ProjectState) (c : Change) → IsPending (reply_to before c after) → ⊥
calm_accepted h n before after (change.PutTopic topic body author weight) p = calm_topic _ p
calm_accepted h n before after (change.PutComment topic comment body author weight) p = calm_comment _ p
calm_accepted h n before after (change.ClashTopic version place author weight) p = calm_topic _ p
calm_accepted h n before after _ p = let e = p.2 in cc

full_other : (settings : Settings) (h : List Entry) (n : ℕ) (c : Change) → AreOther (full settings h n c)
full_other settings h n (change.Upload name model) =
    (other_if _ _ (λ v l e. cc), (other_if _ _ (λ v l e. cc), (other_if _ _ (λ v l e. cc), (other_if _ _ (λ v l e. cc), (other_if _ _ (λ v l e. cc), tt)))))
full_other settings h n (change.Remove name) =
    (other_if _ _ (λ v l e. cc), (other_if _ _ (λ v l e. cc), (other_if _ _ (λ v l e. cc), (other_if _ _ (λ v l e. cc), (other_if _ _ (λ v l e. cc), tt)))))
full_other settings h n (change.SetRules rules weight) =
    (other_if _ _ (λ v l e. cc), (other_if _ _ (λ v l e. cc), (other_if _ _ (λ v l e. cc), (other_if _ _ (λ v l e. cc), (other_if _ _ (λ v l e. cc), tt)))))
full_other settings h n _ = (tt, (tt, (other_if _ _ (λ v l e. cc), (other_if _ _ (λ v l e. cc), (other_if _ _ (λ v l e. cc), tt)))))

noted_other : (settings : Settings) (h : List Entry) (n : ℕ) (c : Change) → AreOther (not_noted settings h n c)
noted_other settings h n (change.PostTopic body author weight) =
    (other_if _ _ (λ v l e. cc), (other_if _ _ (λ v l e. cc), (other_if _ _ (λ v l e. cc), (other_if _ _ (λ v l e. cc), tt))))
noted_other settings h n (change.PostComment topic body author weight) =
    (other_if _ _ (λ v l e. cc), (other_if _ _ (λ v l e. cc), (other_if _ _ (λ v l e. cc), (other_if _ _ (λ v l e. cc), tt))))
noted_other settings h n (change.PostView topic body weight) =
    (other_if _ _ (λ v l e. cc), (other_if _ _ (λ v l e. cc), (other_if _ _ (λ v l e. cc), (other_if _ _ (λ v l e. cc), tt))))
noted_other settings h n (change.ClashTopic version place author weight) =
    (other_if _ _ (λ v l e. cc), (other_if _ _ (λ v l e. cc), (other_if _ _ (λ v l e. cc), (other_if _ _ (λ v l e. cc), (other_if _ _ (λ v l e. cc), tt)))))
noted_other settings h n _ = (other_if _ _ (λ v l e. cc), (other_if _ _ (λ v l e. cc), (other_if _ _ (λ v l e. cc), tt)))

calm_noted : (settings : Settings) (h : List Entry) (c : Change) (n : ℕ) → IsCalm h (noted settings h n c)
calm_noted settings h c n =
    calm_unless h (not_noted settings h n c) (Accepted n c) (noted_other settings h n c) (calm_accepted h n (state_of n h) (with_change (state_of n h) c) c)

calm_changed : (settings : Settings) (h : List Entry) (c : Change) (n : ℕ) → IsCalm h (changed settings h c n)
calm_changed settings h c n =
    calm_unless h (full settings h n c) (Accepted n c) (full_other settings h n c) (calm_accepted h n (state_of n h) (with_change (state_of n h) c) c)

-- ---- the clashes of a version

one_of_sum : {X : Type 0} (f : X → ℕ) (xs : List X) (i : ℕ) (d : X) → i < length xs → f (get_or xs i d) ≤ sum_by f xs
one_of_sum f [] i d lt = absurd (omega (arith, lt))
one_of_sum f (x ∷ xs) zero d lt = let e = sum_by-cons f x xs in omega (arith, e)
one_of_sum f (x ∷ xs) (suc i) d lt =
    let e = sum_by-cons f x xs in
    let rest = one_of_sum f xs i d (omega (arith, lt)) in
    omega (arith, e, rest)

numbers_more : (n : ℕ) → project_numbers (suc n) ≡ project_numbers n ++ (n + 1) ∷ []
numbers_more n = map-append (λ k. k + 1) (upto n) (n ∷ [])

-- one of one number more
one_more : (f : ℕ → ℕ) (projects n : ℕ) → n ≤ suc projects → (n ≤ projects → f n ≤ sum_by f (project_numbers projects)) → f n ≤ sum_by f (project_numbers (suc projects))
one_more f projects n high earlier = by (n == suc projects) refl
  where
    grown : sum_by f (project_numbers (suc projects)) ≡ sum_by f (project_numbers projects) + f (projects + 1)
    grown = ap (sum_by f) (numbers_more projects) ∙ sum_by_push f (project_numbers projects) (projects + 1)

    by : (b : Bool) → (n == suc projects) ≡ b → f n ≤ sum_by f (project_numbers (suc projects))
    by true e =
        let same : n ≡ projects + 1 = grind (arith, nat_tests, e) in
        let own : f n ≡ f (projects + 1) = ap f same in
        omega (arith, grown, own)
    by false e =
        let other : n ≤ projects = grind (arith, nat_tests, e, high) in
        let rest = earlier other in
        omega (arith, grown, rest)

one_of_numbers : (f : ℕ → ℕ) (projects n : ℕ) → 1 ≤ n → n ≤ projects → f n ≤ sum_by f (project_numbers projects)
one_of_numbers f zero n low high = absurd (omega (arith, low, high))
one_of_numbers f (suc projects) n low high = one_more f projects n high (one_of_numbers f projects n low)

-- the number of a project is one of the book's
project_within : (projects id n : ℕ) → project_of projects id ≡ Some n → (1 ≤ n) × (n ≤ projects)
project_within projects id n is = grind (arith, nat_tests, is)

-- where nothing is left, no live version has an undone bucket
none_undone : (settings : Settings) (h : List Entry) (n v : ℕ) → left_all settings.projects h ≡ 0 → 1 ≤ n → n ≤ settings.projects
    → v ≤ newest (state_of n h) → newest (state_of n h) < v + 16 → length (version_at (state_of n h).versions v).undone ≡ 0
none_undone settings h n v none low high made live =
    let vs : List VersionState = (state_of n h).versions in
    let some = within n h in
    let one : 0 < length vs = some.some in
    let count = live_length vs in
    let from : gone vs ≤ v = omega (arith, live, one) in
    let place : v - gone vs < length (live_in vs) = omega (arith, count, made, one, from) in
    let at : get_or (live_in vs) (v - gone vs) nothing ≡ get_or vs v nothing = live_at vs v nothing from in
    let own : length (get_or (live_in vs) (v - gone vs) nothing).undone ≤ left_in (live_in vs) =
    one_of_sum (λ (s : VersionState). length s.undone) (live_in vs) (v - gone vs) nothing place in
    let all : left_in (live_in vs) ≤ left_all settings.projects h = one_of_numbers (λ m. left_in (live_of m h)) settings.projects n low high in
    let same : length (get_or (live_in vs) (v - gone vs) nothing).undone ≡ length (get_or vs v nothing).undone = ap (λ (s : VersionState). length s.undone) at in
    omega (arith, none, own, all, same)

by_tests : (h : List Entry) (p : ProjectState) (v : ℕ) (version : VersionState) (rest : List (Option BookFault)) (o : Outcome) (a b c : Bool) → nat_lt (newest p) v ≡ a → nat_le (v + 16) (newest p) ≡ b
    → nat_lt 0 (length version.undone) ≡ c → (a ≡ false → b ≡ false → c ≡ false) → IsCalm h (unless rest o)
    → IsCalm h (unless (not_yet p v ∷ dropped p v ∷ pending v version ∷ rest) o)
by_tests h p v version rest o true b c ea eb ec none calm = rw ea (λ q. let e = q.2 in cc)
by_tests h p v version rest o false true c ea eb ec none calm = rw (ea, eb) (λ q. let e = q.2 in cc)
by_tests h p v version rest o false false false ea eb ec none calm = rw (ea, eb, ec) calm
by_tests h p v version rest o false false true ea eb ec none calm = absurd (let e : true ≡ false = none refl refl in cc)

low_enough : (n v : ℕ) → nat_lt n v ≡ false → v ≤ n
low_enough n v e = grind (arith, nat_tests, e)

high_enough : (n v : ℕ) → nat_le (v + 16) n ≡ false → n < v + 16
high_enough n v e = grind (arith, nat_tests, e)

none_above : (n : ℕ) → n ≡ 0 → nat_lt 0 n ≡ false
none_above n is = rw is refl

-- what is asked of the clashes of a version that is live, whose buckets are all checked
calm_checked : (settings : Settings) (h : List Entry) (wanted : Wanted) (n : ℕ) (rest : List (Option BookFault)) (o : Outcome) → left_all settings.projects h ≡ 0 → 1 ≤ n → n ≤ settings.projects
    → IsCalm h (unless rest o)
    → IsCalm h (unless (not_yet (state_of n h) (wanted_in (state_of n h) wanted) ∷ dropped (state_of n h) (wanted_in (state_of n h) wanted)
    ∷ pending (wanted_in (state_of n h) wanted) (version_at (state_of n h).versions (wanted_in (state_of n h) wanted)) ∷ rest) o)
calm_checked settings h wanted n rest o none low high calm =
    let p : ProjectState = state_of n h in
    let v : ℕ = wanted_in p wanted in
    by_tests h p v (version_at p.versions v) rest o (nat_lt (newest p) v) (nat_le (v + 16) (newest p)) (nat_lt 0 (length (version_at p.versions v).undone)) refl refl refl
    (λ made live. none_above (length (version_at p.versions v).undone)
    (none_undone settings h n v none low high (low_enough (newest p) v made) (high_enough (newest p) v live))) calm

calm_clashes : (settings : Settings) (h : List Entry) (wanted : Wanted) (first count n : ℕ) → left_all settings.projects h ≡ 0 → 1 ≤ n → n ≤ settings.projects
    → IsCalm h (clashes_read h wanted first count n)
calm_clashes settings h wanted first count n none low high = calm_checked settings h wanted n [] _ none low high (λ q. let e = q.2 in cc)

no_clash_other : (version : VersionState) (place : ℕ) → IsOther (no_clash version place)
no_clash_other version place = other_if _ _ (λ v l e. cc)

calm_clash_topic : (settings : Settings) (h : List Entry) (wanted : Wanted) (place : ℕ) (author : Author) (weight n : ℕ) → left_all settings.projects h ≡ 0 → 1 ≤ n → n ≤ settings.projects
    → IsCalm h (clash_noted settings h wanted place author weight n)
calm_clash_topic settings h wanted place author weight n none low high = calm_all_of
  where
    v : ℕ
    v = wanted_in (state_of n h) wanted

    made : Outcome
    made = noted settings h n (change.ClashTopic v place author weight)

    calm_all_of : IsCalm h (clash_noted settings h wanted place author weight n)
    calm_all_of =
        calm_checked settings h wanted n (no_clash (version_at (state_of n h).versions v) place ∷ []) made none low high
        (calm_unless h (no_clash (version_at (state_of n h).versions v) place ∷ []) made
        (no_clash_other (version_at (state_of n h).versions v) place, tt) (calm_noted settings h (change.ClashTopic v place author weight) n))

-- ---- calls

calm_order : (h : List Entry) (orders : List OrderValue) (seat : ℕ) → IsCalm h (order_for orders seat)
calm_order h [] seat = λ p. (let e = p.2 in cc)
calm_order h (o ∷ os) seat = λ p. (let e = p.2 in cc)

calm_finish : (h : List Entry) (set : SetValue) → IsCalm h (finished h set)
calm_finish h set =
    calm_unless h
    (dropped (state_of set.work.project h) set.work.version ∷ done_before (version_at (state_of set.work.project h).versions set.work.version) set.work.cell ∷ [])
    (Accepted set.work.project (change.BucketDone set.work.version set.work.cell))
    (other_if _ _ (λ v l e. cc), (other_if _ _ (λ v l e. cc), tt))
    (calm_accepted h set.work.project (state_of set.work.project h) (with_change (state_of set.work.project h) (change.BucketDone set.work.version set.work.cell)) (change.BucketDone set.work.version set.work.cell))

calm_version : (h : List Entry) (wanted : Wanted) (n : ℕ) → IsCalm h (version_read h wanted n)
calm_version h wanted n =
    let p : ProjectState = state_of n h in
    let v : ℕ = wanted_in p wanted in
    calm_unless h (not_yet p v ∷ dropped p v ∷ []) (Answer (reply.Version v (newest p) (version_at p.versions v).content))
    (other_if _ _ (λ v l e. cc), (other_if _ _ (λ v l e. cc), tt)) (λ q. let e = q.2 in cc)

-- what a topic answers by its number, what a comment on it answers, and a viewpoint of it
calm_topic_of : (settings : Settings) (h : List Entry) (id topic : ℕ) (f : ℕ → ℕ → Outcome) → ((n t : ℕ) → IsCalm h (f n t))
    → IsCalm h (in_project (project_of settings.projects id) (λ n. in_topic h n topic (f n)))
calm_topic_of settings h id topic f calm =
    calm_in h (project_of settings.projects id) (λ n. in_topic h n topic (f n))
    (λ n is. calm_found h NoTopic (topic_named n (board_of n h) topic) (f n) (λ v l e. cc) (calm n))

calm_comment_of : (settings : Settings) (h : List Entry) (id topic comment : ℕ) (f : ℕ → ℕ → ℕ → Outcome) → ((n t c : ℕ) → IsCalm h (f n t c))
    → IsCalm h (in_project (project_of settings.projects id) (λ n. in_topic h n topic (λ t. in_comment h n t comment (f n t))))
calm_comment_of settings h id topic comment f calm =
    calm_topic_of settings h id topic (λ n t. in_comment h n t comment (f n t))
    (λ n t. calm_found h NoComment (comment_named n (board_of n h) t comment) (f n t) (λ v l e. cc) (calm n t))

calm_view_of : (settings : Settings) (h : List Entry) (id topic view : ℕ) (f : ℕ → ℕ → ℕ → Outcome) → ((n t v : ℕ) → IsCalm h (f n t v))
    → IsCalm h (in_project (project_of settings.projects id) (λ n. in_topic h n topic (λ t. in_view h n t view (f n t))))
calm_view_of settings h id topic view f calm =
    calm_topic_of settings h id topic (λ n t. in_view h n t view (f n t))
    (λ n t. calm_found h NoViewpoint (view_named n (board_of n h) t view) (f n t) (λ v l e. cc) (calm n t))

-- a change of a topic of this number
calm_noted_of : (settings : Settings) (h : List Entry) (id topic : ℕ) (make : ℕ → Change)
    → IsCalm h (in_project (project_of settings.projects id) (λ n. in_topic h n topic (λ t. noted settings h n (make t))))
calm_noted_of settings h id topic make =
    calm_topic_of settings h id topic (λ n t. noted settings h n (make t)) (λ n t. calm_noted settings h (make t) n)

-- a change that a comment's body makes
calm_body : (settings : Settings) (h : List Entry) (n t : ℕ) (sent : CommentIn) (make : CommentBody → Change)
    → IsCalm h (with_body h n t sent (λ b. noted settings h n (make b)))
calm_body settings h n t sent make =
    calm_found h NoViewpoint (comment_kept n (board_of n h) t sent) (λ b. noted settings h n (make b)) (λ v l e. cc)
    (λ b. calm_noted settings h (make b) n)

-- ---- calls that read, of which the steps to the answer are searched for

-- the fault is that buckets are pending
abbrev is_pending : BookFault → Bool
is_pending (Pending version left) = true
is_pending _ = false

-- what becomes of a request isn't that, as one that is searched for
record Calm (h : List Entry) (o : Outcome) : Type 0 where
  is : IsCalm h o

calm_is : (h : List Entry) (o : Outcome) → Calm h o → IsCalm h o
calm_is h o calm = calm.is

-- one step on the way to an answer: something is found, or refused for another fault
calm_step : {A : Type 0} (h : List Entry) (fault : BookFault) (o : Option A) (f : A → Outcome) → is_pending fault ≡ false → ((x : A) → Calm h (f x)) → Calm h (found fault o f)
calm_step h fault o f other calm =
    record { is = calm_found h fault o f (λ v l e. (let both : true ≡ false = sym (ap is_pending e) ∙ other in cc)) (λ x. (calm x).is) }

-- the answers
calm_answer : (h : List Entry) (body : ReplyBody) → is_refusal body ≡ false → Calm h (Answer body)
calm_answer h body told = record { is = λ p. (let both : true ≡ false = sym (ap is_refusal p.2) ∙ told in cc) }

calm_topic_answer : (h : List Entry) (o : Option Topic) → Calm h (Answer (topic_told o))
calm_topic_answer h o = record { is = calm_topic o }

calm_comment_answer : (h : List Entry) (o : Option Comment) → Calm h (Answer (comment_told o))
calm_comment_answer h o = record { is = calm_comment o }

calm_view_answer : (h : List Entry) (serial : ℕ) (o : Option ViewBody) → Calm h (Answer (view_told serial o))
calm_view_answer h serial o = record { is = calm_view serial o }

-- where nothing is left to check, no call is answered so
calm_call : (settings : Settings) (h : List Entry) (call : BookRequest) → left_all settings.projects h ≡ 0 → IsCalm h (outcome_of settings h call)
calm_call settings h (Upload id name model) none = calm_in h (project_of settings.projects id) _ (λ n is. calm_changed settings h (change.Upload name model) n)
calm_call settings h (Remove id name) none =
    calm_in h (project_of settings.projects id) _
    (λ n is. calm_unless h (no_model (state_of n h) name ∷ full settings h n (change.Remove name)) (Accepted n (change.Remove name)) (no_model_other n name, full_other settings h n (change.Remove name))
    (calm_accepted h n (state_of n h) (with_change (state_of n h) (change.Remove name)) (change.Remove name)))
  where
    no_model_other : (n : ℕ) (name : List ℕ) → IsOther (no_model (state_of n h) name)
    no_model_other n name = by _
      where
        by : (b : Bool) → IsOther (if b then None else Some NoModel)
        by true = tt
        by false = λ v l e. cc
calm_call settings h (SetRules id rules weight) none = calm_in h (project_of settings.projects id) _ (λ n is. calm_changed settings h (change.SetRules rules weight) n)
calm_call settings h (ReadVersion id wanted) none =
    calm_in h (project_of settings.projects id) _
    (λ n is. calm_version h wanted n)
calm_call settings h (ReadClashes id wanted first count) none =
    calm_in h (project_of settings.projects id) _
    (λ n is. let range = project_within settings.projects id n is in calm_clashes settings h wanted first count n none range.0 range.1)
calm_call settings h (ClashTopic id wanted place author weight) none =
    calm_in h (project_of settings.projects id) _
    (λ n is. let range = project_within settings.projects id n is in calm_clash_topic settings h wanted place author weight n none range.0 range.1)
calm_call settings h (PostTopic id body author weight) none = calm_in h (project_of settings.projects id) _ (λ n is. calm_noted settings h (change.PostTopic body author weight) n)
calm_call settings h (PutTopic id topic body author weight) none = calm_noted_of settings h id topic (λ t. change.PutTopic t body author weight)
calm_call settings h (DeleteTopic id topic) none = calm_noted_of settings h id topic (λ t. change.DeleteTopic t)
calm_call settings h (PostComment id topic body author weight) none =
    calm_topic_of settings h id topic (λ n t. with_body h n t body (λ b. noted settings h n (change.PostComment t b author weight)))
    (λ n t. calm_body settings h n t body (λ b. change.PostComment t b author weight))
calm_call settings h (PutComment id topic comment body author weight) none =
    calm_comment_of settings h id topic comment (λ n t c. with_body h n t body (λ b. noted settings h n (change.PutComment t c b author weight)))
    (λ n t c. calm_body settings h n t body (λ b. change.PutComment t c b author weight))
calm_call settings h (DeleteComment id topic comment) none =
    calm_comment_of settings h id topic comment (λ n t c. noted settings h n (change.DeleteComment t c)) (λ n t c. calm_noted settings h (change.DeleteComment t c) n)
calm_call settings h (PostView id topic body weight) none = calm_noted_of settings h id topic (λ t. change.PostView t body weight)
calm_call settings h (DeleteView id topic view) none =
    calm_view_of settings h id topic view (λ n t v. noted settings h n (change.DeleteView t v)) (λ n t v. calm_noted settings h (change.DeleteView t v) n)
calm_call settings h (TakeWork seat) none = calm_order h (all_orders settings.projects h) seat
calm_call settings h (Finish set) none = calm_finish h set
calm_call settings h call none = calm_is h (outcome_of settings h call) (search (calm_step, calm_answer, calm_topic_answer, calm_comment_answer, calm_view_answer))

-- .. whatever turn it gives
calm_in_turn : (settings : Settings) (h : List Entry) (turn : ℕ) (call : BookCall) → left_all settings.projects h ≡ 0 → IsCalm h (outcome_in settings h turn call)
calm_in_turn settings h turn call none = by call.seen
  where
    test : (given : ℕ) (b : Bool) → IsCalm h (refused_or (if b then Some (TurnAhead given turn) else None) (outcome_of settings h call.request))
    test given true = λ p. (let e = fault_is (TurnAhead given turn) _ p.2 in cc)
    test given false = calm_call settings h call.request none

    by : (seen : Option ℕ) → IsCalm h (refused_or (ahead turn seen) (outcome_of settings h call.request))
    by None = calm_call settings h call.request none
    by (Some given) = test given (nat_le turn given)

-- ---- steps

-- none of the steps is answered so
abbrev AreCalm : Settings → List Entry → List Step → Type 0
AreCalm settings h [] = Unit {0}
AreCalm settings h (s ∷ ss) = (IsPending (reply_at settings h s) → ⊥) × AreCalm settings h ss

-- steps have the turns after this one
abbrev AreNumbered : ℕ → List Step → Type 0
AreNumbered n [] = Unit {0}
AreNumbered n (s ∷ ss) = (s.stamp.turn ≡ n + 1) × AreNumbered (n + 1) ss

numbered_of : (settings : Settings) (done : List Step) (h : List Entry) (steps : List Step) (final : List Entry) (n : ℕ) → length done ≡ n → Runs settings done h steps final → AreNumbered n steps
numbered_of settings done h [] final n count runs = tt
numbered_of settings done h (s ∷ ss) final n count runs = (
  runs.0.turn ∙ ap (λ k. k + 1) count,
  numbered_of settings (done ++ s ∷ []) (h ++ added_by settings h s.stamp s.call) ss final (n + 1) (length-append done (s ∷ []) ∙ ap (λ k. k + 1) count) runs.1,
)

numbered_split : (n : ℕ) (a b : List Step) → AreNumbered n (a ++ b) → AreNumbered n a × AreNumbered (last_turn n a) b
numbered_split n [] b are = (tt, are)
numbered_split n (s ∷ a) b are =
    let rest = numbered_split (n + 1) a b are.1 in
    ((are.0, rest.0), subst (λ k. AreNumbered (last_turn k a) b) (sym are.0) rest.1)

calm_append : (settings : Settings) (h : List Entry) (a b : List Step) → AreCalm settings h a → AreCalm settings h b → AreCalm settings h (a ++ b)
calm_append settings h [] b x y = y
calm_append settings h (s ∷ a) b x y = (x.0, calm_append settings h a b x.1 y)

calm_none : (settings : Settings) (h : List Entry) (steps : List Step) → steps ≡ [] → AreCalm settings h steps
calm_none settings h steps none = subst (λ (ss : List Step). AreCalm settings h ss) (sym none) tt

-- the step of a request, where nothing is left behind the turn before it
calm_turn : (a : Asking) (steps : List Step) → TakesTurn a steps → AreNumbered a.standing.last steps → left_behind a.standing a.standing.last ≡ 0
    → AreCalm a.standing.settings a.standing.history steps
calm_turn a steps t are clear =
    let numbered : AreNumbered a.standing.last (t.step ∷ []) = subst (λ (ss : List Step). AreNumbered a.standing.last ss) t.one are in
    let none : left_all a.standing.settings.projects (at_turn t.step.stamp.turn a.standing.history) ≡ 0 =
    ap (λ n. left_all a.standing.settings.projects (at_turn n a.standing.history)) numbered.0 ∙ clear in
    subst (λ (ss : List Step). AreCalm a.standing.settings a.standing.history ss) (sym t.one)
    (calm_in_turn a.standing.settings (at_turn t.step.stamp.turn a.standing.history) t.step.stamp.turn t.step.call none, tt)

calm_answers : (a : Asking) (bytes : List ℕ) (steps : List Step) (printed : Printed) → Answers a bytes steps printed → AreNumbered a.standing.last steps
    → left_behind a.standing a.standing.last ≡ 0 → AreCalm a.standing.settings a.standing.history steps
calm_answers a bytes steps printed (inl plain) are clear = calm_none a.standing.settings a.standing.history steps plain.none
calm_answers a bytes steps printed (inr (inl shelved)) are clear = calm_none a.standing.settings a.standing.history steps shelved.none
calm_answers a bytes steps printed (inr (inr (inl booked))) are clear = calm_turn a steps booked.taken are clear
calm_answers a bytes steps printed (inr (inr (inr lacks))) are clear = of_kind lacks.idle
  where
    of_kind : (steps ≡ []) ⊎ TakesIdly a steps → AreCalm a.standing.settings a.standing.history steps
    of_kind (inl none) = calm_none a.standing.settings a.standing.history steps none
    of_kind (inr idly) = calm_turn a steps idly.taken are clear

calm_event : (s : Standing) (event : Event) (moments bytes : List ℕ) (steps : List Step) (printed : Printed) → AnswersEvent s event moments bytes steps printed → AreNumbered s.last steps
    → left_behind s s.last ≡ 0 → AreCalm s.settings s.history steps
calm_event s frame.continue moments bytes steps printed answers are clear = calm_none s.settings s.history steps answers.2
calm_event s (frame.request r) moments bytes steps printed answers are clear = calm_answers (asking s answers.0 r) bytes steps printed answers.2 are clear

-- a step that gives a bucket out, or brings one
calm_given : (s : Standing) (last : ℕ) (step : Step) → Gives s last step → IsPending (reply_at s.settings s.history step) → ⊥
calm_given s last step g p =
    calm_order (at_turn step.stamp.turn s.history) (all_orders s.settings.projects (at_turn step.stamp.turn s.history)) 0
    (subst (λ (r : BookCall). IsPending (reply_of s.settings (at_turn step.stamp.turn s.history) step.stamp r).body) g.call p)

calm_brought : (s : Standing) (step : Step) (set : SetValue) → step.call ≡ without_turn (Finish set) → IsPending (reply_at s.settings s.history step) → ⊥
calm_brought s step set is p =
    calm_finish (at_turn step.stamp.turn s.history) set
    (subst (λ (r : BookCall). IsPending (reply_of s.settings (at_turn step.stamp.turn s.history) step.stamp r).body) is p)

calm_on : (s : Standing) (last count : ℕ) (steps : List Step) → WorksOn s last count steps → AreCalm s.settings s.history steps
calm_on s last zero steps works = calm_none s.settings s.history steps works
calm_on s last (suc count) steps works =
    let one = works.4 in
    subst (λ (ss : List Step). AreCalm s.settings s.history ss) (sym works.2)
    (calm_append s.settings s.history works.0 works.1 (calm_on s last count works.0 works.3)
    (subst (λ (ss : List Step). AreCalm s.settings s.history ss) (sym one.two)
    (calm_given s (last + 2 * count) one.first one.gives, (calm_brought s one.second one.set one.call, tt))))

calm_short : (s : Standing) (steps : List Step) → WorksShort s steps → AreCalm s.settings s.history steps
calm_short s steps works =
    subst (λ (ss : List Step). AreCalm s.settings s.history ss) (sym works.steps_are)
    (calm_append s.settings s.history works.earlier works.more (calm_on s s.last works.count works.earlier works.worked) (of_kind works.given))
  where
    of_kind : (works.more ≡ []) ⊎ ((step : Step) × (works.more ≡ step ∷ []) × Gives s (s.last + 2 * works.count) step) → AreCalm s.settings s.history works.more
    of_kind (inl none) = calm_none s.settings s.history works.more none
    of_kind (inr (step, one, gives)) =
        subst (λ (ss : List Step). AreCalm s.settings s.history ss) (sym one) (calm_given s (s.last + 2 * works.count) step gives, tt)

-- what is known after the work of an event
record IsClear (s : Standing) (steps : List Step) : Type 0 where
  calm : AreCalm s.settings s.history steps
  clear : left_behind s (last_turn s.last steps) ≡ 0

clear_works : (s : Standing) (steps : List Step) → s.buckets ≡ None → Works s steps → IsClear s steps
clear_works s steps all works =
    let enough : left_behind s (s.last + 2 * works.count) ≡ 0 = none_left s.buckets all works.enough in
    record {
      calm = calm_on s s.last works.count steps works.worked;
      clear = ap (λ n. left_behind s n) (on_last s s.last works.count steps works.worked) ∙ enough;
    }
  where
    none_left : (o : Option ℕ) → o ≡ None → IsEnough o works.count (left_behind s (s.last + 2 * works.count)) → left_behind s (s.last + 2 * works.count) ≡ 0
    none_left None e enough = enough
    none_left (Some most) e enough = cc

-- the answer to a request takes the next turn at most, and where nothing was left before it the work after it leaves nothing
clear_event : (s : Standing) (event : Event) (own work : List Step) (printed : Printed) (moments bytes : List ℕ) → s.buckets ≡ None → left_behind s s.last ≡ 0
    → AnswersEvent s event moments bytes own printed → WorksBehind (past s event own printed) event work → IsClear (past s event own printed) work
clear_event s frame.continue own work printed moments bytes all clear answers works = record {
  calm = calm_none s.settings s.history work works;
  clear = ap (λ (ss : List Step). left_behind s (last_turn (last_turn s.last own) ss)) works ∙ ap (λ (ss : List Step). left_behind s (last_turn s.last ss)) answers.2 ∙ clear;
}
clear_event s (frame.request r) own work printed moments bytes all clear answers works = clear_works (past s (frame.request r) own printed) work all works

answered_clear : (s : Standing) (events : List Event) (moments out : List ℕ) (steps : List Step) (printed : Printed) → Answered s events moments out steps printed → s.buckets ≡ None
    → AreNumbered s.last steps → left_behind s s.last ≡ 0 → IsClear s steps
answered_clear s [] moments out steps printed answered all are clear = record {
  calm = calm_none s.settings s.history steps answered.2;
  clear = ap (λ (ss : List Step). left_behind s (last_turn s.last ss)) answered.2 ∙ clear;
}
answered_clear s (event ∷ events) moments out steps printed answered all are clear =
    let first = answered.0 in
    let numbered : AreNumbered s.last (first.own ++ (first.work ++ first.others)) = subst (λ (ss : List Step). AreNumbered s.last ss) first.steps_are are in
    let one = numbered_split s.last first.own (first.work ++ first.others) numbered in
    let two = numbered_split (last_turn s.last first.own) first.work first.others one.1 in
    let work = clear_event s event first.own first.work first.printed first.asked first.bytes all clear first.answers first.works in
    let same : last_turn s.last (first.own ++ first.work) ≡ last_turn (last_turn s.last first.own) first.work = last_turn-append s.last first.own first.work in
    let next : Standing = past s event (first.own ++ first.work) first.printed in
    let rest = answered_clear next events first.after first.later first.others printed answered.1 all
    (subst (λ n. AreNumbered n first.others) (sym same) two.1)
    (ap (λ n. left_behind s n) same ∙ work.clear) in
    let last : last_turn s.last steps ≡ last_turn (last_turn s.last (first.own ++ first.work)) first.others =
    ap (last_turn s.last) (first.steps_are ∙ sym (append_assoc first.own first.work first.others)) ∙ last_turn-append s.last (first.own ++ first.work) first.others in
    record {
      calm = subst (λ (ss : List Step). AreCalm s.settings s.history ss) (sym first.steps_are)
          (calm_append s.settings s.history first.own (first.work ++ first.others) (calm_event s event first.asked first.bytes first.own first.printed first.answers one.0 clear)
          (calm_append s.settings s.history first.work first.others work.calm rest.calm));
      clear = ap (λ n. left_behind s n) last ∙ rest.clear;
    }

-- ---- the end

ends_calm : (stop : Stop) (e : SessionEnd) → Ends stop e → stop.standing.buckets ≡ None → AreNumbered stop.standing.last stop.steps → left_behind stop.standing stop.standing.last ≡ 0
    → AreCalm stop.standing.settings stop.standing.history stop.steps
ends_calm stop e (inl x) all are clear = calm_none stop.standing.settings stop.standing.history stop.steps x.2.2
ends_calm stop e (inr (inl x)) all are clear = calm_none stop.standing.settings stop.standing.history stop.steps x.2.2
ends_calm stop e (inr (inr (inl x))) all are clear = calm_none stop.standing.settings stop.standing.history stop.steps x.2.2
ends_calm stop e (inr (inr (inr (inl x)))) all are clear = calm_none stop.standing.settings stop.standing.history stop.steps x.2.2
ends_calm stop e (inr (inr (inr (inr (inl x))))) all are clear = of_next x.2.2
  where
    of_next : IsNext stop (stop.bytes ++ x.2.0) → AreCalm stop.standing.settings stop.standing.history stop.steps
    of_next (inl (event, later, mark, reads, (printed, answers))) = calm_event stop.standing event stop.moments (stop.bytes ++ x.2.0) stop.steps printed answers are clear
    of_next (inr (fault, answers)) = calm_none stop.standing.settings stop.standing.history stop.steps answers.3
ends_calm stop e (inr (inr (inr (inr (inr (inl x)))))) all are clear = calm_none stop.standing.settings stop.standing.history stop.steps x.3.3
ends_calm stop e (inr (inr (inr (inr (inr (inr (inl x))))))) all are clear = calm_none stop.standing.settings stop.standing.history stop.steps x.2.2
ends_calm stop e (inr (inr (inr (inr (inr (inr (inr (inl x)))))))) all are clear = calm_none stop.standing.settings stop.standing.history stop.steps x.3
ends_calm stop e (inr (inr (inr (inr (inr (inr (inr (inr (inl x))))))))) all are clear = of_memory x.3
  where
    of_memory : ((stop.moments ≡ []) × (stop.steps ≡ [])) ⊎ TakesUnanswered stop → AreCalm stop.standing.settings stop.standing.history stop.steps
    of_memory (inl none) = calm_none stop.standing.settings stop.standing.history stop.steps none.1
    of_memory (inr taken) = of_kind taken.taken
      where
        of_kind : (stop.steps ≡ []) ⊎ TakesTurn (asking stop.standing taken.moment taken.request) stop.steps → AreCalm stop.standing.settings stop.standing.history stop.steps
        of_kind (inl none) = calm_none stop.standing.settings stop.standing.history stop.steps none
        of_kind (inr turn) = calm_turn (asking stop.standing taken.moment taken.request) stop.steps turn are clear
ends_calm stop e (inr (inr (inr (inr (inr (inr (inr (inr (inr x))))))))) all are clear =
    let numbered = numbered_split stop.standing.last x.own x.work (subst (λ (ss : List Step). AreNumbered stop.standing.last ss) x.steps_are are) in
    subst (λ (ss : List Step). AreCalm stop.standing.settings stop.standing.history ss) (sym x.steps_are)
    (calm_append stop.standing.settings stop.standing.history x.own x.work
    (calm_event stop.standing (frame.request x.request) stop.moments stop.bytes x.own x.printed x.answers numbered.0 clear)
    (calm_short (past stop.standing (frame.request x.request) x.own x.printed) x.work x.short))

calm_all : (settings : Settings) (h : List Entry) (steps : List Step) → AreCalm settings h steps → All (λ (s : Step). IsPending (reply_at settings h s) → ⊥) steps
calm_all settings h [] calm = All-nil (λ (s : Step). IsPending (reply_at settings h s) → ⊥)
calm_all settings h (s ∷ ss) calm = All-cons (λ (t : Step). IsPending (reply_at settings h t) → ⊥) s ss calm.0 (calm_all settings h ss calm.1)

-- a new book has nothing to check
nothing_left : (projects : ℕ) → left_all projects [] ≡ 0
nothing_left projects = of_numbers (project_numbers projects)
  where
    one : (n : ℕ) → left_in (live_of n []) ≡ 0
    one n = ap (λ (s : ProjectState). left_in (live_in s.versions)) (nothing_yet n)

    of_numbers : (ns : List ℕ) → sum_by (λ n. left_in (live_of n [])) ns ≡ 0
    of_numbers [] = refl
    of_numbers (n ∷ ns) =
        let e = sum_by-cons (λ m. left_in (live_of m [])) n ns in
        let here = one n in
        let rest = of_numbers ns in
        omega (arith, e, here, rest)

none_below : (t top : ℕ) (es : List Entry) → t ≤ top + 1 → AreAbove top es → at_turn t es ≡ []
unfolding at_turn
none_below t top [] le above = refl
none_below t top (e ∷ es) le above =
    let rest = none_below t top es le above.1 in
    let late : top < e.stamp.turn = above.0 in
    grind (arith, nat_tests, rest, late, le)

above_append : (top : ℕ) (xs ys : List Entry) → AreAbove top xs → AreAbove top ys → AreAbove top (xs ++ ys)
above_append top [] ys a b = b
above_append top (x ∷ xs) ys a b = (a.0, above_append top xs ys a.1 b)

-- the entries of a run are of its turns
run_above : (settings : Settings) (done : List Step) (h : List Entry) (steps : List Step) (final : List Entry) (top : ℕ) → AreAbove top h → top ≤ length done
    → Runs settings done h steps final → AreAbove top final
run_above settings done h [] final top above le runs = subst (λ (es : List Entry). AreAbove top es) (sym runs) above
run_above settings done h (s ∷ ss) final top above le runs =
    let turn : s.stamp.turn ≡ length done + 1 = runs.0.turn in
    let count : length (done ++ s ∷ []) ≡ length done + 1 = length-append done (s ∷ []) in
    run_above settings (done ++ s ∷ []) (h ++ added_by settings h s.stamp s.call) ss final top
    (above_append top h (added_by settings h s.stamp s.call) above (above_of s.stamp.turn top (added_by settings h s.stamp s.call) (omega (arith, turn, le)) (added_of settings h s.stamp s.call)))
    (omega (arith, count, le)) runs.1

-- no entry is of turn 0
none_at_first : (settings : Settings) (steps : List Step) (h : List Entry) → IsRun settings steps h → at_turn 1 h ≡ []
none_at_first settings steps h run = none_below 1 0 h (omega arith) (run_above settings [] [] steps h 0 tt (omega arith) run)

pub none_pending : NoneIsPending
none_pending settings before after e r =
    let session = r.session in
    let start : Standing = beginning settings None r.history (length r.steps) in
    let numbered : AreNumbered 0 r.steps = numbered_of settings [] [] r.steps r.history 0 refl r.run in
    let parts = numbered_split 0 session.done session.more (subst (λ (ss : List Step). AreNumbered 0 ss) session.steps_are numbered) in
    let first : left_behind start 0 ≡ 0 = ap (λ h. left_all settings.projects h) (none_at_first settings r.steps r.history r.run) ∙ nothing_left settings.projects in
    let done = answered_clear start session.events session.asked session.out session.done session.printed session.answered refl parts.0 first in
    let more = ends_calm _ e session.ends refl parts.1 done.clear in
    calm_all settings r.history r.steps
    (subst (λ (ss : List Step). AreCalm settings r.history ss) (sym session.steps_are) (calm_append settings r.history session.done session.more done.calm more))
