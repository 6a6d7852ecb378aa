-- A change that a request made is accepted as what the request that names its numbers asks for.
use Rattle.std.proofs.Common.{◌≡◌, ℕ, ◌+◌, ◌-◌, ◌/◌, ◌^◌, ◌<◌, ◌≤◌, ◌==◌, ◌&&◌, nat_lt, nat_le, Bool, true, false, cond, List, [], ◌∷◌, Option, Some, None, MatchOption, option_map, ◌++◌, append-nil, inl, inr, refl, sym, ap, ap₂, subst, ◌∙◌, arith, leb}
use Rattle.std.specs.Option.{option_and_then}
use Rattle.std.proofs.lemmas.Bool.{eqb-true, ltb-true, leb-true, leb-false}
use Rattle.std.proofs.lemmas.Option.{same_Some, cond_some}
use Rattle.bim_model.specs.Identifiers.{identifier}
use Rattle.bim_model.specs.declared.author.Author.{Author}
use Rattle.bcf_topics.specs.declared.comment.CommentBody.{CommentBody}
use Rattle.bcf_topics.specs.declared.comment.CommentIn.{CommentIn}
use Rattle.bim_model.specs.Snapshots.{Version}
use Rattle.bcf_topics.specs.Comments.{comments_on}
use Rattle.bcf_viewpoints.specs.Viewpoints.{views_on}
use Rattle.bucket_grid.specs.Grids.{GridValue}
use Rattle.book_turn.specs.declared.object.Stamp.{Stamp}
use Rattle.book_turn.specs.Entries.{listed}
use Rattle.clash_publish.specs.declared.horizon.TheConstants.{LIVE_VERSIONS}
use Rattle.bucket_check.specs.ClashSets.{SetValue}
use Rattle.book_topics.specs.Boards.{BoardState, topic_at, comment_at, view_at}
use Rattle.book_topics.specs.TopicIdentifiers.{serial_of, number_of, topic_named, comment_named, view_named, comment_body, kept_about, comment_kept}
use Rattle.book_history.specs.declared.limits.Settings.{Settings}
use Rattle.book_history.specs.declared.requests.Wanted.{Wanted}
use Rattle.book_history.specs.declared.requests.Wanted.TheVariants.{Newest, Number}
use Rattle.book_history.specs.declared.requests.BookRequest.{BookRequest}
use Rattle.book_history.specs.declared.requests.BookRequest.TheVariants as request
use Rattle.book_history.specs.declared.changes.Change.{Change}
use Rattle.book_history.specs.declared.changes.Change.TheVariants as change
use Rattle.book_history.specs.declared.changes.Entry.{Entry}
use Rattle.book_history.specs.declared.book_fault.BookFault.{BookFault}
use Rattle.book_history.specs.declared.book_fault.BookFault.TheVariants as fault
use Rattle.book_history.specs.declared.replies.ReplyBody.{ReplyBody}
use Rattle.book_history.specs.declared.replies.ReplyBody.TheVariants as reply
use Rattle.book_history.specs.Orders.{OrderValue}
use Rattle.book_history.specs.Buckets.{buckets_of, is_among}
use Rattle.book_history.specs.Versions.{version_at, is_done}
use Rattle.book_history.specs.History.{state_of, board_of, newest_of}
use Rattle.book_history.specs.Refusals.{first_of, project_of, wanted_in, dropped, done_before, no_model, full, not_noted, not_yet, pending, no_clash}
use Rattle.book_history.specs.Requests.{Outcome, Refusal, Answer, Accepted, refused_or, unless, found, in_project, in_topic, in_comment, in_view, with_body, changed, noted, removed, clash_noted, version_read, clashes_read, topic_told, comment_told, view_told, order_for, all_orders, finished, entry_of, entry_by, outcome_of}
use Rattle.book_history.specs.Legal.{IsGiven, IsLegal}
use Rattle.book_history.specs.HistoryLaws.{IsWhole}
use Rattle.book_history.specs.MadeEntries.{IsBuilt, AreMadeAfter}
use Rattle.book_history.specs.AcceptedChanges.{comment_sent, request_for, EndsBucket, IsAccepted, IsBrought, MadeIsAccepted, AreAcceptedAfter, MadeAreAccepted}
use Rattle.book_history.proofs.OneGrid.{HasParts}
use Rattle.book_history.proofs.Among.{bucket_among}

-- ---- identifiers
split_and : (a b : Bool) → (a && b) ≡ true → (a ≡ true) × (b ≡ true)
split_and true b e = (refl, e)
split_and false b e = absurd cc

-- the identifier of a project that was found, and the range of its number
pub record IsNumbered (projects id n : ℕ) : Type 0 where
  pub named : id ≡ identifier n 0
  pub low : 1 ≤ n
  pub high : n ≤ projects

pub numbered : (projects id n : ℕ) → project_of projects id ≡ Some n → IsNumbered projects id n
numbered projects id n e =
    let k = id / 2 ^ 96 in
    let c = cond_some ((id == identifier k 0) && nat_lt 0 k && nat_le k projects) k n e in
    let p = split_and ((id == identifier k 0) && nat_lt 0 k) (nat_le k projects) c.0 in
    let q = split_and (id == identifier k 0) (nat_lt 0 k) p.0 in
    let low : 0 < k = ltb-true _ _ q.1 in
    let high : k ≤ projects = leb-true _ _ p.1 in
    let same : k ≡ n = c.1 in
    record {
      named = eqb-true _ _ q.0 ∙ ap (λ (m : ℕ). identifier m 0) same;
      low = omega (arith, low, same);
      high = omega (arith, high, same);
    }

serial_is : (project id t : ℕ) → serial_of project id ≡ Some t → id ≡ identifier project t
unfolding serial_of
serial_is project id t e =
    let serial = id - identifier project 0 in
    let c = cond_some ((id == identifier project serial) && nat_lt serial (2 ^ 48)) serial t e in
    let p = split_and (id == identifier project serial) (nat_lt serial (2 ^ 48)) c.0 in
    eqb-true _ _ p.0 ∙ ap (identifier project) c.1

number_is : {A : Type 0} (serial t : ℕ) (o : Option A) → number_of serial o ≡ Some t → serial ≡ t
number_is serial t None e = absurd cc
number_is serial t (Some x) e = same_Some serial t e

and_then_some : {A B : Type 0} (f : A → Option B) (o : Option A) (y : B) → option_and_then f o ≡ Some y → (x : A) × (o ≡ Some x) × (f x ≡ Some y)
and_then_some f None y e = absurd cc
and_then_some f (Some x) y e = (x, refl, e)

named : {A : Type 0} (project id t : ℕ) (at : ℕ → Option A) → option_and_then (λ serial. number_of serial (at serial)) (serial_of project id) ≡ Some t → id ≡ identifier project t
named {A} project id t at e =
    let a = and_then_some (λ (serial : ℕ). number_of serial (at serial)) (serial_of project id) t e in
    serial_is project id t (a.1 ∙ ap (λ (k : ℕ). Some k) (number_is a.0 t (at a.0) a.2))

topic_is : (project : ℕ) (b : BoardState) (id t : ℕ) → topic_named project b id ≡ Some t → id ≡ identifier project t
unfolding topic_named
topic_is project b id t e = named project id t (topic_at b) e

comment_is : (project : ℕ) (b : BoardState) (topic id t : ℕ) → comment_named project b topic id ≡ Some t → id ≡ identifier project t
unfolding comment_named
comment_is project b topic id t e = named project id t (comment_at b topic) e

view_is : (project : ℕ) (b : BoardState) (topic id t : ℕ) → view_named project b topic id ≡ Some t → id ≡ identifier project t
unfolding view_named
view_is project b topic id t e = named project id t (view_at b topic) e

-- ---- what is sent of a comment
map_some : {A B : Type 0} (f : A → B) (o : Option A) (y : B) → option_map f o ≡ Some y → (x : A) × (o ≡ Some x) × (f x ≡ y)
map_some f None y e = absurd cc
map_some f (Some x) y e = (x, refl, same_Some (f x) y e)

sent_by : (project : ℕ) (b : BoardState) (topic : ℕ) (text : List ℕ) (v : Option ℕ) (body : CommentBody) → kept_about project b topic text v ≡ Some body → comment_sent project body ≡ record { comment = text; viewpoint = v }
sent_by project b topic text None body e = ap (comment_sent project) (sym (same_Some (comment_body text None) body e))
sent_by project b topic text (Some id) body e =
    let a = map_some (λ (serial : ℕ). comment_body text (Some serial)) (view_named project b topic id) body e in
    ap (comment_sent project) (sym a.2)
    ∙ ap (λ (i : ℕ). (let sent : CommentIn = record { comment = text; viewpoint = Some i } in sent)) (sym (view_is project b topic id a.0 a.1))

sent_is : (project : ℕ) (b : BoardState) (topic : ℕ) (sent : CommentIn) (body : CommentBody) → comment_kept project b topic sent ≡ Some body → comment_sent project body ≡ sent
unfolding comment_kept
sent_is project b topic sent body e = sent_by project b topic sent.comment sent.viewpoint body e

-- ---- outcomes
parts_of : (g : GridValue) → IsWhole g → HasParts g
parts_of g h = record { snapshot = h.0; placed = h.1.placed; boxed = h.1.boxed; near = h.1.near; table = h.1.table }

none_if : {A : Type 0} (b : Bool) (x : A) → cond b (Some x) None ≡ None → b ≡ false
none_if true x e = absurd cc
none_if false x e = refl

two_none : (o p : Option BookFault) → first_of (o ∷ p ∷ []) ≡ None → (o ≡ None) × (p ≡ None)
two_none None None e = (refl, refl)
two_none None (Some f) e = absurd cc
two_none (Some f) p e = absurd cc

module _ (s : Settings) (h : List Entry) (n : ℕ) (c : Change) where
  found_some : {A : Type 0} (f : BookFault) (o : Option A) (into : A → Outcome) → found f o into ≡ Accepted n c → (x : A) × (o ≡ Some x) × (into x ≡ Accepted n c)
  found_some f None into e = absurd cc
  found_some f (Some x) into e = (x, refl, e)

  refused_none : (f : Option BookFault) (o : Outcome) → refused_or f o ≡ Accepted n c → (f ≡ None) × (o ≡ Accepted n c)
  refused_none None o e = (refl, e)
  refused_none (Some f) o e = absurd cc

  parts : (m : ℕ) (d : Change) → Accepted m d ≡ Accepted n c → (m ≡ n) × (d ≡ c)
  parts m d e = (cc, cc)

  never : (b : ReplyBody) → Answer b ≡ Accepted n c → ⊥
  never b e = cc

  never_unless : (f : Option BookFault) (b : ReplyBody) → refused_or f (Answer b) ≡ Accepted n c → ⊥
  never_unless f b e = never b (refused_none f (Answer b) e).1

  in_project_some : (id : ℕ) (f : ℕ → Outcome) → in_project (project_of s.projects id) f ≡ Accepted n c → (m : ℕ) × (project_of s.projects id ≡ Some m) × (f m ≡ Accepted n c)
  in_project_some id f e = found_some fault.NoProject (project_of s.projects id) f e

  in_topic_some : (m id : ℕ) (f : ℕ → Outcome) → in_topic h m id f ≡ Accepted n c → (t : ℕ) × (id ≡ identifier m t) × (f t ≡ Accepted n c)
  in_topic_some m id f e =
      let a = found_some fault.NoTopic (topic_named m (board_of m h) id) f e in
      (a.0, topic_is m (board_of m h) id a.0 a.1, a.2)

  in_comment_some : (m topic id : ℕ) (f : ℕ → Outcome) → in_comment h m topic id f ≡ Accepted n c → (t : ℕ) × (id ≡ identifier m t) × (f t ≡ Accepted n c)
  in_comment_some m topic id f e =
      let a = found_some fault.NoComment (comment_named m (board_of m h) topic id) f e in
      (a.0, comment_is m (board_of m h) topic id a.0 a.1, a.2)

  in_view_some : (m topic id : ℕ) (f : ℕ → Outcome) → in_view h m topic id f ≡ Accepted n c → (t : ℕ) × (id ≡ identifier m t) × (f t ≡ Accepted n c)
  in_view_some m topic id f e =
      let a = found_some fault.NoViewpoint (view_named m (board_of m h) topic id) f e in
      (a.0, view_is m (board_of m h) topic id a.0 a.1, a.2)

  with_body_some : (m topic : ℕ) (sent : CommentIn) (f : CommentBody → Outcome) → with_body h m topic sent f ≡ Accepted n c → (k : CommentBody) × (comment_sent m k ≡ sent) × (f k ≡ Accepted n c)
  with_body_some m topic sent f e =
      let a = found_some fault.NoViewpoint (comment_kept m (board_of m h) topic sent) f e in
      (a.0, sent_is m (board_of m h) topic sent a.0 a.1, a.2)

  changed_is : (m : ℕ) (d : Change) → changed s h d m ≡ Accepted n c → (m ≡ n) × (d ≡ c)
  changed_is m d e = parts m d (refused_none (first_of (full s h m d)) (Accepted m d) e).1

  noted_is : (m : ℕ) (d : Change) → noted s h m d ≡ Accepted n c → (m ≡ n) × (d ≡ c)
  noted_is m d e = parts m d (refused_none (first_of (not_noted s h m d)) (Accepted m d) e).1

  -- the request by numbers
  again : (r : BookRequest) → outcome_of s h r ≡ Accepted n c → request_for n c ≡ Some r → IsAccepted s h n c
  again r e q =
      subst (λ (o : Option BookRequest). MatchOption o (EndsBucket s h n c) (λ (x : BookRequest). outcome_of s h x ≡ Accepted n c)) (sym q) e

  -- its project
  at_project : (id m : ℕ) → project_of s.projects id ≡ Some m → identifier m 0 ≡ id
  at_project id m e = sym (numbered s.projects id m e).named

  for_ : (m : ℕ) (d : Change) → (m ≡ n) × (d ≡ c) → request_for n c ≡ request_for m d
  for_ m d p = ap₂ request_for (sym p.0) (sym p.1)

  clash_again : (id : ℕ) (wanted : Wanted) (place : ℕ) (author : Author) (weight : ℕ) → outcome_of s h (request.ClashTopic id wanted place author weight) ≡ Accepted n c → IsAccepted s h n c
  clash_again id wanted place author weight e =
      let a = in_project_some id (clash_noted s h wanted place author weight) e in
      let project = state_of a.0 h in
      let v = wanted_in project wanted in
      let version = version_at project.versions v in
      let u = refused_none (first_of (not_yet project v ∷ dropped project v ∷ pending v version ∷ no_clash version place ∷ [])) (noted s h a.0 (change.ClashTopic v place author weight)) a.2 in
      let p = noted_is a.0 (change.ClashTopic v place author weight) u.1 in
      again (request.ClashTopic id (Number v) place author weight)
      (ap (λ (o : Option ℕ). in_project o (clash_noted s h (Number v) place author weight)) a.1 ∙ a.2)
      (for_ a.0 (change.ClashTopic v place author weight) p ∙ ap (λ (i : ℕ). Some (request.ClashTopic i (Number v) place author weight)) (at_project id a.0 a.1))

  -- a bucket that is brought was to be checked
  pub finish_again : (set : SetValue) → IsWhole set.work.grid → IsGiven s h set.work → finished h set ≡ Accepted n c → IsAccepted s h n c
  finish_again set whole g e =
      let w = set.work in
      let project = state_of w.project h in
      let v = version_at project.versions w.version in
      let u = refused_none (first_of (dropped project w.version ∷ done_before v w.cell ∷ [])) (Accepted w.project (change.BucketDone w.version w.cell)) e in
      let p = parts w.project (change.BucketDone w.version w.cell) u.1 in
      let t = two_none (dropped project w.version) (done_before v w.cell) u.0 in
      let live : newest_of w.project h < w.version + LIVE_VERSIONS =
      leb-false (w.version + LIVE_VERSIONS) (newest_of w.project h)
      (none_if (leb (w.version + LIVE_VERSIONS) (newest_of w.project h)) (fault.VersionDropped w.version (newest_of w.project h)) t.0)
      in
      let among : is_among (buckets_of v.content) w.cell ≡ true =
      subst (λ (x : Version). is_among (buckets_of x) w.cell ≡ true) g.content (bucket_among w.grid (parts_of w.grid whole) w.cell g.bucket)
      in
      let here : IsAccepted s h w.project (change.BucketDone w.version w.cell) =
      (record { low = g.low; high = g.high; made = g.made; live = live; bucket = among }, none_if (is_done v w.cell) fault.AlreadyDone t.1)
      in
      subst (λ (m : ℕ). IsAccepted s h m c) p.0
      (subst (λ (d : Change). IsAccepted s h w.project d) p.1 here)

  order_never : (os : List OrderValue) (seat : ℕ) → order_for os seat ≡ Accepted n c → ⊥
  order_never [] seat e = cc
  order_never (o ∷ os) seat e = cc

  pub asked : (r : BookRequest) → IsBuilt r → IsLegal s h r → outcome_of s h r ≡ Accepted n c → IsAccepted s h n c
  asked request.ListProjects b l e = absurd (never _ e)
  asked (request.ReadProject id) b l e =
      let a = in_project_some id (λ (m : ℕ). Answer (reply.Project m)) e in
      absurd (never (reply.Project a.0) a.2)
  asked (request.Upload id name model) b l e =
      let a = in_project_some id (changed s h (change.Upload name model)) e in
      again (request.Upload id name model) e
      (for_ a.0 (change.Upload name model) (changed_is a.0 (change.Upload name model) a.2)
      ∙ ap (λ (i : ℕ). Some (request.Upload i name model)) (at_project id a.0 a.1))
  asked (request.Remove id name) b l e =
      let a = in_project_some id (removed s h name) e in
      let u = refused_none (first_of (no_model (state_of a.0 h) name ∷ full s h a.0 (change.Remove name))) (Accepted a.0 (change.Remove name)) a.2 in
      again (request.Remove id name) e
      (for_ a.0 (change.Remove name) (parts a.0 (change.Remove name) u.1)
      ∙ ap (λ (i : ℕ). Some (request.Remove i name)) (at_project id a.0 a.1))
  asked (request.SetRules id rules weight) b l e =
      let a = in_project_some id (changed s h (change.SetRules rules weight)) e in
      again (request.SetRules id rules weight) e
      (for_ a.0 (change.SetRules rules weight) (changed_is a.0 (change.SetRules rules weight) a.2)
      ∙ ap (λ (i : ℕ). Some (request.SetRules i rules weight)) (at_project id a.0 a.1))
  asked (request.ReadVersion id wanted) b l e =
      let a = in_project_some id (version_read h wanted) e in
      absurd (never_unless _ _ a.2)
  asked (request.ReadClashes id wanted first count) b l e =
      let a = in_project_some id (clashes_read h wanted first count) e in
      absurd (never_unless _ _ a.2)
  asked (request.ClashTopic id wanted place author weight) b l e = clash_again id wanted place author weight e
  asked (request.ListTopics id) b l e =
      let a = in_project_some id (λ (m : ℕ). Answer (reply.TopicList (board_of m h).discussion.topics)) e in
      absurd (never _ a.2)
  asked (request.ReadTopic id topic) b l e =
      let f = λ (m t : ℕ). Answer (topic_told (topic_at (board_of m h) t)) in
      let a = in_project_some id (λ (m : ℕ). in_topic h m topic (f m)) e in
      let t = in_topic_some a.0 topic (f a.0) a.2 in
      absurd (never (topic_told (topic_at (board_of a.0 h) t.0)) t.2)
  asked (request.PostTopic id body author weight) b l e =
      let a = in_project_some id (λ (m : ℕ). noted s h m (change.PostTopic body author weight)) e in
      again (request.PostTopic id body author weight) e
      (for_ a.0 (change.PostTopic body author weight) (noted_is a.0 (change.PostTopic body author weight) a.2)
      ∙ ap (λ (i : ℕ). Some (request.PostTopic i body author weight)) (at_project id a.0 a.1))
  asked (request.PutTopic id topic body author weight) b l e =
      let f = λ (m t : ℕ). noted s h m (change.PutTopic t body author weight) in
      let a = in_project_some id (λ (m : ℕ). in_topic h m topic (f m)) e in
      let t = in_topic_some a.0 topic (f a.0) a.2 in
      again (request.PutTopic id topic body author weight) e
      (for_ a.0 (change.PutTopic t.0 body author weight) (noted_is a.0 (change.PutTopic t.0 body author weight) t.2)
      ∙ ap₂ (λ (i j : ℕ). Some (request.PutTopic i j body author weight)) (at_project id a.0 a.1) (sym t.1))
  asked (request.DeleteTopic id topic) b l e =
      let f = λ (m t : ℕ). noted s h m (change.DeleteTopic t) in
      let a = in_project_some id (λ (m : ℕ). in_topic h m topic (f m)) e in
      let t = in_topic_some a.0 topic (f a.0) a.2 in
      again (request.DeleteTopic id topic) e
      (for_ a.0 (change.DeleteTopic t.0) (noted_is a.0 (change.DeleteTopic t.0) t.2)
      ∙ ap₂ (λ (i j : ℕ). Some (request.DeleteTopic i j)) (at_project id a.0 a.1) (sym t.1))
  asked (request.ListComments id topic) b l e =
      let f = λ (m t : ℕ). Answer (reply.CommentList (comments_on t (board_of m h).discussion.comments)) in
      let a = in_project_some id (λ (m : ℕ). in_topic h m topic (f m)) e in
      let t = in_topic_some a.0 topic (f a.0) a.2 in
      absurd (never _ t.2)
  asked (request.ReadComment id topic comment) b l e =
      let f = λ (m t k : ℕ). Answer (comment_told (comment_at (board_of m h) t k)) in
      let a = in_project_some id (λ (m : ℕ). in_topic h m topic (λ (t : ℕ). in_comment h m t comment (f m t))) e in
      let t = in_topic_some a.0 topic (λ (t : ℕ). in_comment h a.0 t comment (f a.0 t)) a.2 in
      let k = in_comment_some a.0 t.0 comment (f a.0 t.0) t.2 in
      absurd (never (comment_told (comment_at (board_of a.0 h) t.0 k.0)) k.2)
  asked (request.PostComment id topic sent author weight) b l e =
      let f = λ (m t : ℕ) (k : CommentBody). noted s h m (change.PostComment t k author weight) in
      let a = in_project_some id (λ (m : ℕ). in_topic h m topic (λ (t : ℕ). with_body h m t sent (f m t))) e in
      let t = in_topic_some a.0 topic (λ (t : ℕ). with_body h a.0 t sent (f a.0 t)) a.2 in
      let k = with_body_some a.0 t.0 sent (f a.0 t.0) t.2 in
      again (request.PostComment id topic sent author weight) e
      (for_ a.0 (change.PostComment t.0 k.0 author weight) (noted_is a.0 (change.PostComment t.0 k.0 author weight) k.2)
      ∙ ap₂ (λ (i j : ℕ). Some (request.PostComment i j (comment_sent a.0 k.0) author weight)) (at_project id a.0 a.1) (sym t.1)
      ∙ ap (λ (x : CommentIn). Some (request.PostComment id topic x author weight)) k.1)
  asked (request.PutComment id topic comment sent author weight) b l e =
      let f = λ (m t i : ℕ) (k : CommentBody). noted s h m (change.PutComment t i k author weight) in
      let a = in_project_some id (λ (m : ℕ). in_topic h m topic (λ (t : ℕ). in_comment h m t comment (λ (i : ℕ). with_body h m t sent (f m t i)))) e in
      let t = in_topic_some a.0 topic (λ (t : ℕ). in_comment h a.0 t comment (λ (i : ℕ). with_body h a.0 t sent (f a.0 t i))) a.2 in
      let i = in_comment_some a.0 t.0 comment (λ (i : ℕ). with_body h a.0 t.0 sent (f a.0 t.0 i)) t.2 in
      let k = with_body_some a.0 t.0 sent (f a.0 t.0 i.0) i.2 in
      again (request.PutComment id topic comment sent author weight) e
      (for_ a.0 (change.PutComment t.0 i.0 k.0 author weight) (noted_is a.0 (change.PutComment t.0 i.0 k.0 author weight) k.2)
      ∙ ap₂ (λ (x y : ℕ). Some (request.PutComment x y (identifier a.0 i.0) (comment_sent a.0 k.0) author weight)) (at_project id a.0 a.1) (sym t.1)
      ∙ ap₂ (λ (x : ℕ) (y : CommentIn). Some (request.PutComment id topic x y author weight)) (sym i.1) k.1)
  asked (request.DeleteComment id topic comment) b l e =
      let f = λ (m t i : ℕ). noted s h m (change.DeleteComment t i) in
      let a = in_project_some id (λ (m : ℕ). in_topic h m topic (λ (t : ℕ). in_comment h m t comment (f m t))) e in
      let t = in_topic_some a.0 topic (λ (t : ℕ). in_comment h a.0 t comment (f a.0 t)) a.2 in
      let i = in_comment_some a.0 t.0 comment (f a.0 t.0) t.2 in
      again (request.DeleteComment id topic comment) e
      (for_ a.0 (change.DeleteComment t.0 i.0) (noted_is a.0 (change.DeleteComment t.0 i.0) i.2)
      ∙ ap₂ (λ (x y : ℕ). Some (request.DeleteComment x y (identifier a.0 i.0))) (at_project id a.0 a.1) (sym t.1)
      ∙ ap (λ (x : ℕ). Some (request.DeleteComment id topic x)) (sym i.1))
  asked (request.ListViews id topic) b l e =
      let f = λ (m t : ℕ). Answer (reply.ViewList (views_on t (board_of m h).views)) in
      let a = in_project_some id (λ (m : ℕ). in_topic h m topic (f m)) e in
      let t = in_topic_some a.0 topic (f a.0) a.2 in
      absurd (never _ t.2)
  asked (request.ReadView id topic view) b l e =
      let f = λ (m t v : ℕ). Answer (view_told v (view_at (board_of m h) t v)) in
      let a = in_project_some id (λ (m : ℕ). in_topic h m topic (λ (t : ℕ). in_view h m t view (f m t))) e in
      let t = in_topic_some a.0 topic (λ (t : ℕ). in_view h a.0 t view (f a.0 t)) a.2 in
      let v = in_view_some a.0 t.0 view (f a.0 t.0) t.2 in
      absurd (never (view_told v.0 (view_at (board_of a.0 h) t.0 v.0)) v.2)
  asked (request.PostView id topic body weight) b l e =
      let f = λ (m t : ℕ). noted s h m (change.PostView t body weight) in
      let a = in_project_some id (λ (m : ℕ). in_topic h m topic (f m)) e in
      let t = in_topic_some a.0 topic (f a.0) a.2 in
      again (request.PostView id topic body weight) e
      (for_ a.0 (change.PostView t.0 body weight) (noted_is a.0 (change.PostView t.0 body weight) t.2)
      ∙ ap₂ (λ (i j : ℕ). Some (request.PostView i j body weight)) (at_project id a.0 a.1) (sym t.1))
  asked (request.DeleteView id topic view) b l e =
      let f = λ (m t v : ℕ). noted s h m (change.DeleteView t v) in
      let a = in_project_some id (λ (m : ℕ). in_topic h m topic (λ (t : ℕ). in_view h m t view (f m t))) e in
      let t = in_topic_some a.0 topic (λ (t : ℕ). in_view h a.0 t view (f a.0 t)) a.2 in
      let v = in_view_some a.0 t.0 view (f a.0 t.0) t.2 in
      again (request.DeleteView id topic view) e
      (for_ a.0 (change.DeleteView t.0 v.0) (noted_is a.0 (change.DeleteView t.0 v.0) v.2)
      ∙ ap₂ (λ (x y : ℕ). Some (request.DeleteView x y (identifier a.0 v.0))) (at_project id a.0 a.1) (sym t.1)
      ∙ ap (λ (x : ℕ). Some (request.DeleteView id topic x)) (sym v.1))
  asked (request.TakeWork seat) b l e = absurd (order_never (all_orders s.projects h) seat e)
  asked (request.Finish set) b l e = finish_again set b l e

-- ---- what the request by numbers asks for is the change itself
project_once : (n m : ℕ) → identifier n 0 ≡ identifier m 0 → m ≡ n
project_once n m e = omega (arith, e)

serial_once : (n m t u : ℕ) → identifier n t ≡ identifier m u → m ≡ n → u ≡ t
serial_once n m t u e same = omega (arith, e, same)

view_once : (n m : ℕ) (o p : Option ℕ) → m ≡ n → option_map (identifier m) p ≡ option_map (identifier n) o → p ≡ o
view_once n m None None same e = refl
view_once n m None (Some v) same e = absurd cc
view_once n m (Some v) None same e = absurd cc
view_once n m (Some v) (Some w) same e =
    ap (λ (k : ℕ). Some k) (serial_once n m v w (sym (same_Some (identifier m w) (identifier n v) e)) same)

body_once : (n m : ℕ) (b k : CommentBody) → m ≡ n → comment_sent m k ≡ comment_sent n b → k ≡ b
body_once n m b k same e =
    ap₂ comment_body (ap (λ (x : CommentIn). x.comment) e) (view_once n m b.viewpoint k.viewpoint same (ap (λ (x : CommentIn). x.viewpoint) e))

module _ (s : Settings) (h : List Entry) (n : ℕ) (m : ℕ) (d : Change) where
  -- of a project's request: the project
  in_own : (f : ℕ → Outcome) → in_project (project_of s.projects (identifier n 0)) f ≡ Accepted m d → (k : ℕ) × (k ≡ n) × (f k ≡ Accepted m d)
  in_own f e =
      let a = in_project_some s h m d (identifier n 0) f e in
      (a.0, project_once n a.0 (numbered s.projects (identifier n 0) a.0 a.1).named, a.2)

  topic_own : (k t : ℕ) (f : ℕ → Outcome) → k ≡ n → in_topic h k (identifier n t) f ≡ Accepted m d → (u : ℕ) × (u ≡ t) × (f u ≡ Accepted m d)
  topic_own k t f same e =
      let a = in_topic_some s h m d k (identifier n t) f e in
      (a.0, serial_once n k t a.0 a.1 same, a.2)

  comment_own : (k topic t : ℕ) (f : ℕ → Outcome) → k ≡ n → in_comment h k topic (identifier n t) f ≡ Accepted m d → (u : ℕ) × (u ≡ t) × (f u ≡ Accepted m d)
  comment_own k topic t f same e =
      let a = in_comment_some s h m d k topic (identifier n t) f e in
      (a.0, serial_once n k t a.0 a.1 same, a.2)

  view_own : (k topic t : ℕ) (f : ℕ → Outcome) → k ≡ n → in_view h k topic (identifier n t) f ≡ Accepted m d → (u : ℕ) × (u ≡ t) × (f u ≡ Accepted m d)
  view_own k topic t f same e =
      let a = in_view_some s h m d k topic (identifier n t) f e in
      (a.0, serial_once n k t a.0 a.1 same, a.2)

  body_own : (k topic : ℕ) (b : CommentBody) (f : CommentBody → Outcome) → k ≡ n → with_body h k topic (comment_sent n b) f ≡ Accepted m d → (x : CommentBody) × (x ≡ b) × (f x ≡ Accepted m d)
  body_own k topic b f same e =
      let a = with_body_some s h m d k topic (comment_sent n b) f e in
      (a.0, body_once n k b a.0 same a.1, a.2)

  itself : (k : ℕ) (c e : Change) → k ≡ n → c ≡ e → (k ≡ m) × (c ≡ d) → (m ≡ n) × (d ≡ e)
  itself k c e p q r = (sym r.0 ∙ p, sym r.1 ∙ q)

  own : (c : Change) → MatchOption (request_for n c) ⊥ (λ (x : BookRequest). outcome_of s h x ≡ Accepted m d) → (m ≡ n) × (d ≡ c)
  own (change.Upload name model) e =
      let c = change.Upload name model in
      let a = in_own (changed s h c) e in
      itself a.0 c c a.1 refl (changed_is s h m d a.0 c a.2)
  own (change.Remove name) e =
      let c = change.Remove name in
      let a = in_own (removed s h name) e in
      let u = refused_none s h m d (first_of (no_model (state_of a.0 h) name ∷ full s h a.0 c)) (Accepted a.0 c) a.2 in
      itself a.0 c c a.1 refl (parts s h m d a.0 c u.1)
  own (change.SetRules rules weight) e =
      let c = change.SetRules rules weight in
      let a = in_own (changed s h c) e in
      itself a.0 c c a.1 refl (changed_is s h m d a.0 c a.2)
  own (change.BucketDone version cell) e = absurd e
  own (change.PostTopic body author weight) e =
      let c = change.PostTopic body author weight in
      let a = in_own (λ (k : ℕ). noted s h k c) e in
      itself a.0 c c a.1 refl (noted_is s h m d a.0 c a.2)
  own (change.PutTopic topic body author weight) e =
      let c = λ (t : ℕ). change.PutTopic t body author weight in
      let a = in_own (λ (k : ℕ). in_topic h k (identifier n topic) (λ (t : ℕ). noted s h k (c t))) e in
      let t = topic_own a.0 topic (λ (t : ℕ). noted s h a.0 (c t)) a.1 a.2 in
      itself a.0 (c t.0) (c topic) a.1 (ap c t.1) (noted_is s h m d a.0 (c t.0) t.2)
  own (change.DeleteTopic topic) e =
      let c = λ (t : ℕ). change.DeleteTopic t in
      let a = in_own (λ (k : ℕ). in_topic h k (identifier n topic) (λ (t : ℕ). noted s h k (c t))) e in
      let t = topic_own a.0 topic (λ (t : ℕ). noted s h a.0 (c t)) a.1 a.2 in
      itself a.0 (c t.0) (c topic) a.1 (ap c t.1) (noted_is s h m d a.0 (c t.0) t.2)
  own (change.PostComment topic body author weight) e =
      let c = λ (t : ℕ) (b : CommentBody). change.PostComment t b author weight in
      let sent = comment_sent n body in
      let a = in_own (λ (k : ℕ). in_topic h k (identifier n topic) (λ (t : ℕ). with_body h k t sent (λ (b : CommentBody). noted s h k (c t b)))) e in
      let t = topic_own a.0 topic (λ (t : ℕ). with_body h a.0 t sent (λ (b : CommentBody). noted s h a.0 (c t b))) a.1 a.2 in
      let b = body_own a.0 t.0 body (λ (b : CommentBody). noted s h a.0 (c t.0 b)) a.1 t.2 in
      itself a.0 (c t.0 b.0) (c topic body) a.1 (ap₂ c t.1 b.1) (noted_is s h m d a.0 (c t.0 b.0) b.2)
  own (change.PutComment topic comment body author weight) e =
      let c = λ (t i : ℕ) (b : CommentBody). change.PutComment t i b author weight in
      let sent = comment_sent n body in
      let last = λ (k t i : ℕ). with_body h k t sent (λ (b : CommentBody). noted s h k (c t i b)) in
      let a = in_own (λ (k : ℕ). in_topic h k (identifier n topic) (λ (t : ℕ). in_comment h k t (identifier n comment) (last k t))) e in
      let t = topic_own a.0 topic (λ (t : ℕ). in_comment h a.0 t (identifier n comment) (last a.0 t)) a.1 a.2 in
      let i = comment_own a.0 t.0 comment (last a.0 t.0) a.1 t.2 in
      let b = body_own a.0 t.0 body (λ (b : CommentBody). noted s h a.0 (c t.0 i.0 b)) a.1 i.2 in
      itself a.0 (c t.0 i.0 b.0) (c topic comment body) a.1
      (ap₂ (λ (x y : ℕ). c x y b.0) t.1 i.1 ∙ ap (c topic comment) b.1)
      (noted_is s h m d a.0 (c t.0 i.0 b.0) b.2)
  own (change.DeleteComment topic comment) e =
      let c = λ (t i : ℕ). change.DeleteComment t i in
      let last = λ (k t i : ℕ). noted s h k (c t i) in
      let a = in_own (λ (k : ℕ). in_topic h k (identifier n topic) (λ (t : ℕ). in_comment h k t (identifier n comment) (last k t))) e in
      let t = topic_own a.0 topic (λ (t : ℕ). in_comment h a.0 t (identifier n comment) (last a.0 t)) a.1 a.2 in
      let i = comment_own a.0 t.0 comment (last a.0 t.0) a.1 t.2 in
      itself a.0 (c t.0 i.0) (c topic comment) a.1 (ap₂ c t.1 i.1) (noted_is s h m d a.0 (c t.0 i.0) i.2)
  own (change.PostView topic body weight) e =
      let c = λ (t : ℕ). change.PostView t body weight in
      let a = in_own (λ (k : ℕ). in_topic h k (identifier n topic) (λ (t : ℕ). noted s h k (c t))) e in
      let t = topic_own a.0 topic (λ (t : ℕ). noted s h a.0 (c t)) a.1 a.2 in
      itself a.0 (c t.0) (c topic) a.1 (ap c t.1) (noted_is s h m d a.0 (c t.0) t.2)
  own (change.DeleteView topic view) e =
      let c = λ (t v : ℕ). change.DeleteView t v in
      let last = λ (k t v : ℕ). noted s h k (c t v) in
      let a = in_own (λ (k : ℕ). in_topic h k (identifier n topic) (λ (t : ℕ). in_view h k t (identifier n view) (last k t))) e in
      let t = topic_own a.0 topic (λ (t : ℕ). in_view h a.0 t (identifier n view) (last a.0 t)) a.1 a.2 in
      let v = view_own a.0 t.0 view (last a.0 t.0) a.1 t.2 in
      itself a.0 (c t.0 v.0) (c topic view) a.1 (ap₂ c t.1 v.1) (noted_is s h m d a.0 (c t.0 v.0) v.2)
  own (change.ClashTopic version place author weight) e =
      let c = change.ClashTopic version place author weight in
      let a = in_own (clash_noted s h (Number version) place author weight) e in
      let project = state_of a.0 h in
      let v = version_at project.versions version in
      let u = refused_none s h m d (first_of (not_yet project version ∷ dropped project version ∷ pending version v ∷ no_clash v place ∷ [])) (noted s h a.0 c) a.2 in
      itself a.0 c c a.1 refl (noted_is s h m d a.0 c u.1)

  pub itself_alone : (c : Change) (r : BookRequest) → request_for n c ≡ Some r → outcome_of s h r ≡ Accepted m d → (m ≡ n) × (d ≡ c)
  itself_alone c r is e =
      own c (subst (λ (o : Option BookRequest). MatchOption o ⊥ (λ (x : BookRequest). outcome_of s h x ≡ Accepted m d)) (sym is) e)

-- what becomes of a history by the request for an entry's change
pub brought_by : (s : Settings) (h after : List Entry) (e : Entry) (r : BookRequest) → request_for e.project e.change ≡ Some r → after ≡ h ++ listed (entry_by e.stamp (outcome_of s h r)) → IsBrought s h e after
brought_by s h after e r is added = by (outcome_of s h r) refl
  where
    accepted_so : IsAccepted s h e.project e.change → outcome_of s h r ≡ Accepted e.project e.change
    accepted_so a =
        subst (λ (o : Option BookRequest). MatchOption o (EndsBucket s h e.project e.change) (λ (x : BookRequest). outcome_of s h x ≡ Accepted e.project e.change)) is a

    nothing : (o : Outcome) → outcome_of s h r ≡ o → listed (entry_by e.stamp o) ≡ [] → after ≡ h
    nothing o same none = added ∙ ap (λ (x : Outcome). h ++ listed (entry_by e.stamp x)) same ∙ ap (λ (l : List Entry). h ++ l) none ∙ append-nil h

    by : (o : Outcome) → outcome_of s h r ≡ o → IsBrought s h e after
    by (Refusal f) same = inr (λ a. absurd (let x : Refusal f ≡ Accepted e.project e.change = sym same ∙ accepted_so a in cc), nothing (Refusal f) same refl)
    by (Answer body) same = inr (λ a. absurd (let x : Answer body ≡ Accepted e.project e.change = sym same ∙ accepted_so a in cc), nothing (Answer body) same refl)
    by (Accepted m d) same =
        let p = itself_alone s h e.project m d e.change r is same in
        let own : outcome_of s h r ≡ Accepted e.project e.change = same ∙ ap₂ Accepted p.0 p.1 in
        inl (
          again s h e.project e.change r own is,
          added ∙ ap (λ (x : Outcome). h ++ listed (entry_by e.stamp x)) own,
        )

pub made_is_accepted : MadeIsAccepted
made_is_accepted s h e made =
    asked s h e.project e.change made.request made.built made.legal made.becomes

accepted_after : (s : Settings) (h es : List Entry) → AreMadeAfter s h es → AreAcceptedAfter s h es
accepted_after s h [] made = tt
accepted_after s h (e ∷ es) made = (made_is_accepted s h e made.0, accepted_after s (h ++ e ∷ []) es made.1)

pub made_are_accepted : MadeAreAccepted
made_are_accepted s es made = accepted_after s [] es made
