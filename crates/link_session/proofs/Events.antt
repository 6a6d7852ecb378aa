-- What a talk wants, once done, is the next of the session.
use Rattle.std.proofs.Common.{◌≡◌, ℕ, ◌+◌, ◌<◌, ◌≤◌, List, [], ◌∷◌, ◌++◌, Bool, true, false, Option, Some, None, Ok, IsTrue, inl, inr, sym, ◌∙◌, ap, subst, refl, arith}
use Rattle.http_frame.specs.declared.types.HttpRequest.{HttpRequest}
use Rattle.http_frame.specs.Events.{Event}
use Rattle.book_turn.specs.declared.object.Stamp.{Stamp}
use Rattle.book_turn.specs.Entries.{listed}
use Rattle.book_turn.proofs.Prefixes.{after_earlier}
use Rattle.book_history.specs.declared.limits.Settings.{Settings}
use Rattle.book_history.specs.declared.changes.Entry.{Entry}
use Rattle.book_history.specs.declared.changes.Change.{Change}
use Rattle.book_history.specs.declared.changes.Change.TheVariants as change
use Rattle.bcf_topics.specs.declared.topic.Topic.{Topic}
use Rattle.bcf_topics.specs.declared.comment.Comment.{Comment}
use Rattle.book_history.specs.declared.book_fault.BookFault.{BookFault}
use Rattle.book_history.specs.declared.book_fault.BookFault.TheVariants.{NoProject}
use Rattle.book_history.specs.declared.replies.ReplyBody.{ReplyBody}
use Rattle.book_history.specs.declared.replies.ReplyBody.TheVariants as reply
use Rattle.book_history.specs.declared.requests.Wanted.{Wanted}
use Rattle.book_history.specs.declared.replies.BookReply.{BookReply}
use Rattle.book_history.specs.declared.requests.BookRequest.{BookRequest}
use Rattle.book_history.specs.declared.requests.BookCall.{BookCall}
use Rattle.book_history.specs.declared.requests.BookRequest.TheVariants.{ReadVersion, ReadClashes, TakeWork}
use Rattle.book_history.specs.Orders.{OrderValue}
use Rattle.book_history.specs.Versions.{VersionState, version_at}
use Rattle.book_history.specs.Projects.{ProjectState, newest, with_change}
use Rattle.book_history.specs.History.{state_of, at_turn, of_turn}
use Rattle.book_history.specs.Refusals.{project_of, wanted_in, not_yet, dropped, pending}
use Rattle.book_history.specs.Requests.{Outcome, Refusal, Answer, Accepted, refused_or, ahead, outcome_in, unless, found, topic_told, comment_told, order_for, all_orders, version_read, clashes_read, outcome_of, reply_to, body_of, entry_by, reply_of, added_by}
use Rattle.book_history.specs.Runs.{Step}
use Rattle.book_history.proofs.Histories.{AreOf, AreAbove, added_of, before_all, at_turn-new, of_turn-new}
use Rattle.bcf_http.specs.declared.answers.Answer.TheVariants as answer
use Rattle.bcf_http.specs.ReplyKinds.{kind_of}
use Rattle.bcf_http.specs.Answers.{IsResponse}
use Rattle.bim_io.specs.StreamViews.{Outside}
use Rattle.bim_session.specs.declared.notes.Notes.{Notes}
use Rattle.bim_session.specs.ShelfNotes.{project_read, AsksKept}
use Rattle.bim_session.specs.Works.{Standing, Printed, IsTaken, last_turn}
use Rattle.odata_filter.specs.declared.listing.Listing.{Listing}
use Rattle.bim_session.specs.Session.{Means, Lists, answer_by, TakesTurn, Answers, AnswersEvent, Answered, asking, behind, closes_after, requests, printed_after}
use Rattle.bim_session.specs.Talking.{TalkState, BookReceipt, AnswersAtOnce, AnswersCall, asks_change, is_refusal, changes_nothing, waiting_for, waiting_alone}
use Rattle.bim_session.proofs.Sessions.{Answered_grown, answered_last, event_grown, entry_new}
use Rattle.book_passes.specs.Lessons.{CallerSeen, Learns, stamp_in, turn_of, TakesTurn as Turned}
use Rattle.book_passes.specs.LessonLaws.{TakesCall}
use Rattle.book_passes.proofs.Learning.{learns_turn}
use Rattle.link_session.specs.Callers.{LearnsBy}
use Rattle.link_session.proofs.Kept.{Keeps, keeps_grown, keeps_noted, shelved, unkept}
use Rattle.link_session.proofs.SoFar.{Service, SoFar, start}
use Rattle.link_session.proofs.Turns.{step_in, above_all}

-- the answer that says that memory ran out
pub lacks_answers : (s : Standing) (m : ℕ) (r : HttpRequest) (bytes : List ℕ) → IsResponse answer.Memory (kind_of r) None (closes_after r (s.served + 1)) bytes
    → Answers (asking s m r) bytes [] s.printed
lacks_answers s m r bytes lacks = inr (inr (inr (record { response = lacks; idle = inl refl; printed_is = refl })))

-- an answer without a turn
pub once_answers : (s : Standing) (m : ℕ) (r : HttpRequest) (notes : Notes) (bytes : List ℕ) → Keeps s.settings s.history notes s.printed
    → AnswersAtOnce m r notes (waiting_alone r (s.served + 1)) bytes → Answers (asking s m r) bytes [] s.printed
once_answers s m r notes bytes keeps (inl (inl refuses)) = inl (record {
  refusal = refuses.refusal;
  refused = refuses.refused;
  response = refuses.response;
  none = refl;
  printed_is = refl;
})
once_answers s m r notes bytes keeps (inl (inr lacks)) = lacks_answers s m r bytes lacks
once_answers s m r notes bytes keeps (inr kept) = inr (inl (shelved s m r notes bytes keeps kept))

-- ---- calls that change nothing

-- no change is accepted
abbrev IsIdle : Outcome → Type 0
IsIdle (Refusal fault) = Unit {0}
IsIdle (Answer body) = Unit {0}
IsIdle (Accepted number change) = ⊥

idle_added : (stamp : Stamp) (o : Outcome) → IsIdle o → listed (entry_by stamp o) ≡ []
idle_added stamp (Refusal fault) idle = refl
idle_added stamp (Answer body) idle = refl
idle_added stamp (Accepted number change) idle = absurd idle

-- what is told of a topic, and of a comment, is no refusal
topic_unrefused : (o : Option Topic) → IsTrue (is_refusal (topic_told o)) → ⊥
topic_unrefused None is = cc
topic_unrefused (Some topic) is = cc

comment_unrefused : (o : Option Comment) → IsTrue (is_refusal (comment_told o)) → ⊥
comment_unrefused None is = cc
comment_unrefused (Some comment) is = cc

never_refused : (before after : ProjectState) (c : Change) → IsTrue (is_refusal (reply_to before c after)) → ⊥
never_refused before after (change.PutTopic topic body author weight) is = topic_unrefused _ is
never_refused before after (change.PutComment topic comment body author weight) is = comment_unrefused _ is
never_refused before after (change.ClashTopic version place author weight) is = topic_unrefused _ is
never_refused before after _ is = cc

refused_idle : (h : List Entry) (o : Outcome) → IsTrue (is_refusal (body_of h o)) → IsIdle o
refused_idle h (Refusal fault) is = tt
refused_idle h (Answer body) is = tt
refused_idle h (Accepted number c) is = never_refused (state_of number h) (with_change (state_of number h) c) c is

idle_unless : (refusals : List (Option BookFault)) (body : ReplyBody) → IsIdle (unless refusals (Answer body))
idle_unless [] body = tt
idle_unless (Some fault ∷ refusals) body = tt
idle_unless (None ∷ refusals) body = idle_unless refusals body

idle_found : {A : Type 0} (fault : BookFault) (o : Option A) (f : A → Outcome) → ((x : A) → IsIdle (f x)) → IsIdle (found fault o f)
idle_found fault None f idle = tt
idle_found fault (Some x) f idle = idle x

idle_order : (h : List Entry) (orders : List OrderValue) (seat : ℕ) → IsIdle (order_for orders seat)
idle_order h [] seat = tt
idle_order h (o ∷ os) seat = tt

version_idle : (h : List Entry) (wanted : Wanted) (n : ℕ) → IsIdle (version_read h wanted n)
version_idle h wanted n =
    let project : ProjectState = state_of n h in
    let v : ℕ = wanted_in project wanted in
    idle_unless (not_yet project v ∷ dropped project v ∷ []) (reply.Version v (newest project) (version_at project.versions v).content)

clashes_idle : (h : List Entry) (wanted : Wanted) (first count n : ℕ) → IsIdle (clashes_read h wanted first count n)
clashes_idle h wanted first count n =
    let project : ProjectState = state_of n h in
    let v : ℕ = wanted_in project wanted in
    let version : VersionState = version_at project.versions v in
    idle_unless (not_yet project v ∷ dropped project v ∷ pending v version ∷ []) (reply.Clashes v version.content first count)

-- a call that asks for no change: each step on the way to its answer refuses or goes on
reads_idle : (settings : Settings) (h : List Entry) (call : BookRequest) → asks_change call ≡ false → IsIdle (outcome_of settings h call)
reads_idle settings h (ReadVersion id wanted) reads = idle_found NoProject (project_of settings.projects id) (version_read h wanted) (λ n. version_idle h wanted n)
reads_idle settings h (ReadClashes id wanted first count) reads =
    idle_found NoProject (project_of settings.projects id) (clashes_read h wanted first count) (λ n. clashes_idle h wanted first count n)
reads_idle settings h (TakeWork seat) reads = idle_order h (all_orders settings.projects h) seat
reads_idle settings h _ reads = first_of (cc, search idle_found)

nothing_idle : (settings : Settings) (h : List Entry) (call : BookRequest) (asks : Bool) → asks_change call ≡ asks
    → IsTrue (changes_nothing asks (body_of h (outcome_of settings h call))) → IsIdle (outcome_of settings h call)
nothing_idle settings h call true asks nothing = refused_idle h (outcome_of settings h call) nothing
nothing_idle settings h call false asks nothing = reads_idle settings h call asks

-- .. and one that is refused for the turn that it gives
refused_first : (settings : Settings) (h : List Entry) (request : BookRequest) (fault : Option BookFault)
    → IsTrue (changes_nothing (asks_change request) (body_of h (refused_or fault (outcome_of settings h request)))) → IsIdle (refused_or fault (outcome_of settings h request))
refused_first settings h request None nothing = nothing_idle settings h request (asks_change request) refl nothing
refused_first settings h request (Some fault) nothing = tt

nothing_added : (settings : Settings) (h : List Entry) (stamp : Stamp) (call : BookCall)
    → IsTrue (changes_nothing (asks_change call.request) (body_of h (outcome_in settings h stamp.turn call))) → added_by settings h stamp call ≡ []
nothing_added settings h stamp call nothing =
    idle_added stamp (outcome_in settings h stamp.turn call) (refused_first settings h call.request (ahead stamp.turn call.seen) nothing)

-- ---- what was learnt

-- where a session stands that answered these events by these steps
abbrev pub stands : Service → CallerSeen → CallerSeen → List Event → List Step → Printed → Standing
stands k v w events steps printed = behind (start k v w) events steps printed

pub news_above : (v w : CallerSeen) (news : List Entry) (turn : ℕ) → Learns v w news → turn ≤ v.last → AreAbove turn news
news_above v w news turn lesson le = above_all turn news (after_earlier turn_of turn v.last news le lesson.later)

-- what was answered stays so
pub answered_learnt : (k : Service) (v w w' : CallerSeen) (events : List Event) (asked out : List ℕ) (steps : List Step) (printed : Printed) → v.last ≤ w.last → LearnsBy w w'
    → Answered (start k v w) events asked out steps printed → Answered (start k v w') events asked out steps printed
answered_learnt k v w w' events asked out steps printed le (news, lesson) answered =
    let grown : Answered (record (start k v w) { history = w.seen ++ news; top = w'.last }) events asked out steps printed =
    Answered_grown (start k v w) news w'.last events asked out steps printed answered le le lesson.rises (news_above w w' news w.last lesson (omega arith)) in
    subst (λ (h : List Entry). Answered (record (start k v w) { history = h; top = w'.last }) events asked out steps printed) (sym lesson.seen) grown

-- .. and the answer to one event
pub event_learnt : (k : Service) (v w w' : CallerSeen) (events : List Event) (steps : List Step) (printed : Printed) (event : Event) (moments bytes : List ℕ) (own : List Step) (last : Printed)
    → printed.turn ≤ w.last → LearnsBy w w' → AnswersEvent (stands k v w events steps printed) event moments bytes own last
    → AnswersEvent (stands k v w' events steps printed) event moments bytes own last
event_learnt k v w w' events steps printed event moments bytes own last le (news, lesson) answers =
    let s : Standing = stands k v w events steps printed in
    let grown : AnswersEvent (record s { history = w.seen ++ news; top = w'.last }) event moments bytes own last =
    event_grown s news w'.last event moments bytes own last answers le lesson.rises (news_above w w' news w.last lesson (omega arith)) in
    subst (λ (h : List Entry). AnswersEvent (record s { history = h; top = w'.last }) event moments bytes own last) (sym lesson.seen) grown

-- .. and what the shelf holds
pub keeps_learnt : (settings : Settings) (w w' : CallerSeen) (notes : Notes) (printed : Printed) → printed.turn ≤ w.last → LearnsBy w w' → Keeps settings w.seen notes printed
    → Keeps settings w'.seen notes printed
keeps_learnt settings w w' notes printed le (news, lesson) keeps =
    subst (λ (h : List Entry). Keeps settings h notes printed) (sym lesson.seen) (keeps_grown settings w.seen news notes printed keeps (news_above w w' news printed.turn lesson le))

pub last_of : (k : Service) (v : CallerSeen) (w a : Outside) (old : TalkState) (server : CallerSeen) (so : SoFar k v w a old server) → last_turn v.last so.steps ≤ server.last
last_of k v w a old server so =
    let lesson = k.laws.learns v server so.steps so.known in
    answered_last (start k v server) so.events so.asked so.out so.steps so.printed so.answered lesson.1.rises

-- ---- a turn

-- a turn is taken by a call, where the history has what the call adds there
taken_in : (s : Standing) (settings : Settings) (w w' : CallerSeen) (call : BookCall) (turn : ℕ) (others : List Entry) → Turned turn others (added_by settings (w.seen ++ others) (stamp_in turn w) call) w w'
    → IsTaken (record s { settings = settings; history = w'.seen; top = w'.last }) (step_in turn w call)
taken_in s settings w w' call turn others t =
    let h : List Entry = w.seen ++ others in
    let added : List Entry = added_by settings h (stamp_in turn w) call in
    let last : w'.last ≡ turn = t.last in
    let entry : of_turn turn (h ++ added) ≡ added_by settings (at_turn turn (h ++ added)) (stamp_in turn w) call = entry_new settings h (step_in turn w call) (before_all turn h t.below) in
    record {
      within = (let le : turn ≤ w'.last = omega (arith, last) in le);
      entry = subst (λ (es : List Entry). of_turn turn es ≡ added_by settings (at_turn turn es) (stamp_in turn w) call) (sym t.seen) entry;
    }

-- a turn is taken by the call that a request means
pub turn_in : (k : Service) (v w w' : CallerSeen) (events : List Event) (steps : List Step) (printed : Printed) (m : ℕ) (r : HttpRequest) (call : BookCall) (turn : ℕ) (others : List Entry)
    → Means m r call → Turned turn others (added_by k.settings (w.seen ++ others) (stamp_in turn w) call) w w' → last_turn v.last steps ≤ w.last
    → TakesTurn (asking (stands k v w' events steps printed) m r) (step_in turn w call ∷ [])
turn_in k v w w' events steps printed m r call turn others means t le =
    let above : w.last < turn = t.above in
    record {
      step = step_in turn w call;
      one = refl;
      above = (let lt : last_turn v.last steps < turn = omega (arith, le, above) in lt);
      means = means;
      taken = taken_in (stands k v w' events steps printed) k.settings w w' call turn others t;
    }

-- what a call of the book leads to: an answer, and what is printed and on the shelf then
pub record CallAnswers (k : Service) (v w w' : CallerSeen) (events : List Event) (steps : List Step) (printed : Printed) (m : ℕ) (r : HttpRequest) (call : BookCall) (turn : ℕ)
    (bytes : List ℕ) (later : Notes) : Type 0 where
  pub last : Printed
  pub few : last.turn ≤ w'.last
  pub answers : Answers (asking (stands k v w' events steps printed) m r) bytes (step_in turn w call ∷ []) last
  pub keeps : Keeps k.settings w'.seen later last

module _ (k : Service) (v w w' : CallerSeen) (events : List Event) (steps : List Step) (printed : Printed) (m : ℕ) (r : HttpRequest) (call : BookCall) (receipt : BookReceipt)
    (notes : Notes) (means : Means m r call) (listing : Option Listing) (lists : Lists m r listing) (asks_none : ¬ (AsksKept notes call)) (c : TakesCall k.settings call receipt.turn receipt.reply w w') (le : last_turn v.last steps ≤ w.last)
    (few : printed.turn ≤ w.last) (keeps : Keeps k.settings w.seen notes printed) where
  -- the shelf before, at what was seen in the turn
  keeps_then : Keeps k.settings w'.seen notes printed
  keeps_then =
      keeps_learnt k.settings w w' notes printed few (
        c.others ++ added_by k.settings (w.seen ++ c.others) (stamp_in receipt.turn w) call,
        learns_turn receipt.turn c.others (added_by k.settings (w.seen ++ c.others) (stamp_in receipt.turn w) call) w w' c.takes,
      ) keeps

  -- the reply is the book's at the entries below the turn
  replied_then : receipt.reply ≡ reply_of k.settings (at_turn receipt.turn w'.seen) (stamp_in receipt.turn w) call
  replied_then =
      let h : List Entry = w.seen ++ c.others in
      let added : List Entry = added_by k.settings h (stamp_in receipt.turn w) call in
      let own : AreOf receipt.turn added = added_of k.settings h (stamp_in receipt.turn w) call in
      let at : at_turn receipt.turn w'.seen ≡ h = ap (λ es. at_turn receipt.turn es) c.takes.seen ∙ at_turn-new receipt.turn h added (before_all receipt.turn h c.takes.below) own in
      c.replied ∙ ap (λ es. reply_of k.settings es (stamp_in receipt.turn w) call) (sym at)

  -- the answer to a call in a turn
  pub called_answers : (bytes : List ℕ) (later : Notes) → AnswersCall (Ok receipt) (waiting_for r (0 + requests events + 1) (asks_change call.request) (project_read call.request) listing) notes bytes later
      → CallAnswers k v w w' events steps printed m r call receipt.turn bytes later
  unfolding turn_in
  called_answers bytes later (inl booked) =
      let turn : ℕ = receipt.turn in
      let own : Step = step_in turn w call in
      let above : w.last < turn = c.takes.above in
      let last : w'.last ≡ turn = c.takes.last in
      let told : BookReply = reply_of k.settings (at_turn turn w'.seen) (stamp_in turn w) call in
      record {
        last = printed_after own told printed;
        few = (let within : turn ≤ w'.last = omega (arith, last) in within);
        answers = inr (inr (inl (record {
          unkept = unkept (stands k v w' events steps printed) m r notes call keeps_then means asks_none;
          taken = turn_in k v w w' events steps printed m r call turn c.others means c.takes le;
          listing = listing;
          lists = lists;
          response = subst (λ (b : BookReply). IsResponse (answer_by listing b) (kind_of r) (Some turn) (closes_after r (0 + requests events + 1)) bytes) replied_then booked.0;
          above = (let lt : printed.turn < turn = omega (arith, few, above) in lt);
          printed_is = refl;
        })));
        keeps = subst (λ (b : BookReply). Keeps k.settings w'.seen later (printed_after own b printed)) replied_then
            (keeps_noted k.settings call turn receipt.reply w w' notes later printed own keeps c booked.1 refl);
      }
  called_answers bytes later (inr quiet) =
      let turn : ℕ = receipt.turn in
      let h : List Entry = w.seen ++ c.others in
      let added : List Entry = added_by k.settings h (stamp_in turn w) call in
      let own : AreOf turn added = added_of k.settings h (stamp_in turn w) call in
      let above : w.last < turn = c.takes.above in
      let last : w'.last ≡ turn = c.takes.last in
      let nothing : IsTrue (changes_nothing (asks_change call.request) (body_of h (outcome_in k.settings h turn call))) =
      subst (λ (b : BookReply). IsTrue (changes_nothing (asks_change call.request) b.body)) c.replied quiet.0 in
      record {
        last = printed;
        few = (let within : printed.turn ≤ w'.last = omega (arith, few, above, last) in within);
        answers = inr (inr (inr (record {
          response = quiet.1;
          idle = inr (record {
            taken = turn_in k v w w' events steps printed m r call turn c.others means c.takes le;
            idle = ap (λ es. of_turn turn es) c.takes.seen ∙ of_turn-new turn h added (before_all turn h c.takes.below) own
                ∙ nothing_added k.settings h (stamp_in turn w) call nothing;
          });
          printed_is = refl;
        })));
        keeps = subst (λ (n : Notes). Keeps k.settings w'.seen n printed) (sym quiet.2) keeps_then;
      }
