-- A session: what is written for the bytes that one connection gives, at the turns of one history (RFC 9112).
use Rattle.std.specs.Prelude.{◌≡◌, ◌≢◌, ◌⊎◌, ℕ, ◌+◌, ◌<◌, ◌==◌, ◌||◌, ◌++◌, List, [], ◌∷◌, Bool, true, false, Option, Some, None, Result, Ok, Err, IsTrue, Contains, codes}
use Rattle.bim_model.specs.declared.element.Element.{Element}
use Rattle.bim_model.specs.declared.upload.UploadFault.{UploadFault}
use Rattle.model_build.specs.Profile.{Profile}
use Rattle.http_frame.specs.declared.types.HttpRequest.{HttpRequest}
use Rattle.http_frame.specs.declared.types.FrameFault.{FrameFault}
use Rattle.http_frame.specs.declared.types.TurnField.{TurnField}
use Rattle.http_frame.specs.declared.types.TurnField.TheVariants as turn
use Rattle.http_frame.specs.Events.{Begins, Asks, Event, IsRest, IsTold, Spells}
use Rattle.http_frame.specs.Events as frame
use Rattle.book_history.specs.declared.changes.Entry.{Entry}
use Rattle.book_history.specs.declared.requests.BookRequest.{BookRequest}
use Rattle.book_history.specs.declared.requests.BookRequest.TheVariants.{Upload, ReadClashes, ListTopics}
use Rattle.book_history.specs.declared.requests.BookCall.{BookCall}
use Rattle.book_history.specs.declared.requests.Wanted.TheVariants.{Number}
use Rattle.book_history.specs.declared.replies.BookReply.{BookReply}
use Rattle.book_history.specs.History.{at_turn, of_turn, newest_of}
use Rattle.book_history.specs.Requests.{reply_of}
use Rattle.book_history.specs.Runs.{Step}
use Rattle.book_turn.specs.declared.object.Stamp.{Stamp}
use Rattle.bim_model.specs.Snapshots.{Version}
use Rattle.clash_publish.specs.declared.horizon.TheConstants.{LIVE_VERSIONS}
use Rattle.bcf_http.specs.declared.asked.RequestFault.{RequestFault}
use Rattle.bcf_http.specs.declared.asked.Action.{Action}
use Rattle.bcf_http.specs.declared.asked.Action.TheVariants.{Call, Build, AskList}
use Rattle.bcf_http.specs.declared.answers.Answer.{Answer}
use Rattle.bcf_http.specs.declared.answers.Answer.TheVariants as answer
use Rattle.bcf_http.specs.ReplyKinds.{kind_of, no_kind}
use Rattle.bcf_http.specs.Asked.{asked_by}
use Rattle.bcf_http.specs.ListRequests.{AsksListing, RefusesListing}
use Rattle.odata_filter.specs.declared.listing.Listing.{Listing}
use Rattle.bcf_http.specs.Answers.{IsResponse}
use Rattle.bim_session.specs.declared.talk.TheConstants.{MOST_REQUESTS}
use Rattle.bim_session.specs.ShelfNotes.{named_project, project_read, set_told, IsUpTo}
use Rattle.bim_session.specs.Works.{Standing, Printed, IsTaken, Works, WorksShort, last_turn}
use Rattle.bim_session.specs.declared.end.SessionEnd.{SessionEnd}
use Rattle.bim_session.specs.declared.end.SessionEnd.TheVariants.{Closed, Asked, Cut, ReadFault, WriteFault, Frame, Spent, SpentTurns, Memory}

-- ---- what the bytes spell

-- The bytes begin with these events, and the rest follows. Told: the Continue of the first request was
-- answered, before the events, and after them.
abbrev pub Reads : List ℕ → Bool → List Event → List ℕ → Bool → Type 0
Reads bytes told [] rest mark = (bytes ≡ rest) × (told ≡ mark)
Reads bytes told (frame.continue ∷ events) rest mark =
    (told ≡ false) × Asks bytes × Reads bytes true events rest mark
Reads bytes told (frame.request r ∷ events) rest mark =
    IsTold told bytes × ((after : List ℕ) × Begins bytes r after × Reads after false events rest mark)

-- how many requests an event is
abbrev pub counted : Event → ℕ
counted frame.continue = 0
counted (frame.request r) = 1

-- how many requests are among the events
abbrev pub requests : List Event → ℕ
requests [] = 0
requests (event ∷ events) = counted event + requests events

-- ---- when the connection is closed

-- the most requests of a session
abbrev pub most_requests : ℕ
most_requests = MOST_REQUESTS

-- the connection is closed after the answer to the request of this number, counted from 1, which asks for
-- that or is the last that is answered
abbrev pub closes_after : HttpRequest → ℕ → Bool
closes_after request number = request.close || number == most_requests

-- the same of an event, where so many requests were answered before
abbrev pub closes : ℕ → Event → Bool
closes served frame.continue = false
closes served (frame.request r) = closes_after r (served + 1)

-- the connection is closed after one of the events
abbrev pub is_closed : ℕ → List Event → Bool
is_closed served [] = false
is_closed served (event ∷ events) = closes served event || is_closed (served + counted event) events

-- ---- the answer to a request

-- a request that was taken where a session stands, at its moment
pub record Asking : Type 0 where
  pub standing : Standing
  pub moment : ℕ
  pub request : HttpRequest

-- a request with the moment at which it is asked, and where the session stands
abbrev pub asking : Standing → ℕ → HttpRequest → Asking
asking standing moment request = record { standing = standing; moment = moment; request = request }

-- the request to the book that what is asked for means: itself, the upload of a model that the profile accepts, or the
-- one for all topics of a project, if the listing and the turn that is given are good
abbrev pub MeansRequest : Result Action RequestFault → BookRequest → Type 0
MeansRequest (Ok (Call asked)) request = asked ≡ request
MeansRequest (Ok (Build project name mode body)) request =
    (model : List Element) × Profile body mode (Ok model) × (Upload project name model ≡ request)
MeansRequest (Ok (AskList project asked bad_turn)) request =
    (bad_turn ≡ false) × ((listing : Listing) × AsksListing asked listing) × (ListTopics project ≡ request)
MeansRequest (Err fault) request = ⊥

-- the turn that a request gives, if it gives one
abbrev pub turn_given : TurnField → Option ℕ
turn_given (turn.Given given) = Some given
turn_given _ = None

-- a request means this call of the book at a moment: with the turn that it gives
abbrev pub Means : ℕ → HttpRequest → BookCall → Type 0
Means moment request call =
    MeansRequest (asked_by moment request) call.request × (call.seen ≡ turn_given request.seen)

-- how the topics of the reply to what is asked for are listed, if it is a list of topics
abbrev pub ListsBy : Result Action RequestFault → Option Listing → Type 0
ListsBy (Ok (Call asked)) listing = listing ≡ None
ListsBy (Ok (Build project name mode body)) listing = listing ≡ None
ListsBy (Ok (AskList project asked bad_turn)) None = ⊥
ListsBy (Ok (AskList project asked bad_turn)) (Some listing) = AsksListing asked listing
ListsBy (Err fault) listing = ⊥

-- the same of a request at a moment
abbrev pub Lists : ℕ → HttpRequest → Option Listing → Type 0
Lists moment request listing = ListsBy (asked_by moment request) listing

-- the answer that a reply of the book makes, whose topics may be listed
abbrev pub answer_by : Option Listing → BookReply → Answer
answer_by None reply = answer.Book reply
answer_by (Some listing) reply = answer.Listed reply listing

-- how what is asked for is refused: by the request's fault, by the one that the profile finds in the body, or by that of
-- the texts that a list is asked for by
abbrev pub RefusesCall : Result Action RequestFault → Answer → Type 0
RefusesCall (Ok (Call asked)) refusal = ⊥
RefusesCall (Ok (Build project name mode body)) refusal =
    (fault : UploadFault) × Profile body mode (Err fault) × (refusal ≡ answer.Built fault)
RefusesCall (Ok (AskList project asked bad_turn)) refusal =
    (fault : RequestFault) × RefusesListing asked bad_turn fault × (refusal ≡ answer.Refused fault)
RefusesCall (Err fault) refusal = refusal ≡ answer.Refused fault

-- the request alone refuses itself at a moment, with this answer
abbrev pub IsRefusedBy : ℕ → HttpRequest → Answer → Type 0
IsRefusedBy moment request refusal = RefusesCall (asked_by moment request) refusal

-- the bytes are the response to the request that is so answered, with this turn or none
abbrev pub IsResponseTo : Asking → Answer → Option ℕ → List ℕ → Type 0
IsResponseTo a answer turn bytes =
    IsResponse answer (kind_of a.request) turn (closes_after a.request (a.standing.served + 1)) bytes

-- the request took the one step of the book that it means, at a turn above those before
pub record TakesTurn (a : Asking) (steps : List Step) : Type 0 where
  pub step : Step
  pub one : steps ≡ step ∷ []
  pub above : a.standing.last < step.stamp.turn
  pub means : Means a.moment a.request step.call
  pub taken : IsTaken a.standing step

-- the request alone decides the answer, which prints no turn
pub record IsPlain (a : Asking) (bytes : List ℕ) (steps : List Step) (printed : Printed) : Type 0 where
  pub refusal : Answer
  pub refused : IsRefusedBy a.moment a.request refusal
  pub response : IsResponseTo a refusal None bytes
  pub none : steps ≡ []
  pub printed_is : printed ≡ a.standing.printed

-- the entries with turns up to the one that was printed last
abbrev pub up_to_printed : Standing → List Entry
up_to_printed s = at_turn (s.printed.turn + 1) s.history

-- the call for clashes of a version by its number, with the turn that it gives
abbrev pub kept_call : Option ℕ → ℕ → ℕ → ℕ → ℕ → BookCall
kept_call seen id version first count =
    record { seen = seen; request = ReadClashes id (Number version) first count }

-- The request asks for the clashes of a version, by its number, that the session was answered before and that is still one
-- of the last sixteen of its project at the turn that was printed last. It gives no turn above that one.
pub record IsKept (a : Asking) : Type 0 where
  pub seen : Option ℕ
  pub id : ℕ
  pub project : ℕ
  pub version : ℕ
  pub first : ℕ
  pub count : ℕ
  pub means : Means a.moment a.request (kept_call seen id version first count)
  pub up_to : IsUpTo a.standing.printed.turn seen
  pub named : named_project id ≡ Some project
  pub answered : Contains a.standing.printed.sets (project, version)
  pub live : newest_of project (up_to_printed a.standing) < version + LIVE_VERSIONS

-- Such a request takes no turn. Its answer prints the turn that was printed last, and is the book's at the entries up to
-- that one, in the turn after it.
pub record IsShelved (a : Asking) (bytes : List ℕ) (steps : List Step) (printed : Printed) : Type 0 where
  pub kept : IsKept a
  pub response : (stamp : Stamp) → stamp.turn ≡ a.standing.printed.turn + 1 → IsResponseTo a
      (answer.Book (reply_of a.standing.settings (up_to_printed a.standing) stamp
      (kept_call kept.seen kept.id kept.version kept.first kept.count)))
      (Some a.standing.printed.turn) bytes
  pub none : steps ≡ []
  pub printed_is : printed ≡ a.standing.printed

-- the version whose clashes are told, of this project, is among those that were answered
abbrev pub with_set : Option ℕ → Option (ℕ × Version) → List (ℕ × ℕ) → List (ℕ × ℕ)
with_set None told sets = sets
with_set (Some project) None sets = sets
with_set (Some project) (Some told) sets = (project, told.0) ∷ sets

-- what a session has printed after a reply to a step
abbrev pub printed_after : Step → BookReply → Printed → Printed
printed_after step reply before = record {
  turn = step.stamp.turn;
  sets = with_set (project_read step.call.request) (set_told reply.body) before.sets;
}

-- the book's reply to a step of what is asked for
abbrev pub reply_to : Standing → Step → BookReply
reply_to s step = reply_of s.settings (at_turn step.stamp.turn s.history) step.stamp step.call

-- Any other request is answered at a turn: the answer is the book's at the entries below the turn that it prints, which is
-- above those printed before.
pub record IsBooked (a : Asking) (bytes : List ℕ) (steps : List Step) (printed : Printed) : Type 0 where
  pub unkept : ¬ (IsKept a)
  pub taken : TakesTurn a steps
  pub listing : Option Listing
  pub lists : Lists a.moment a.request listing
  pub response : IsResponseTo a (answer_by listing (reply_to a.standing taken.step))
      (Some taken.step.stamp.turn) bytes
  pub above : a.standing.printed.turn < taken.step.stamp.turn
  pub printed_is : printed ≡ printed_after taken.step (reply_to a.standing taken.step) a.standing.printed

-- the step that the request took changes nothing
pub record TakesIdly (a : Asking) (steps : List Step) : Type 0 where
  pub taken : TakesTurn a steps
  pub idle : of_turn taken.step.stamp.turn a.standing.history ≡ []

-- memory runs out for the answer: nothing is changed, and no turn is printed
pub record LacksMemory (a : Asking) (bytes : List ℕ) (steps : List Step) (printed : Printed) : Type 0 where
  pub response : IsResponseTo a answer.Memory None bytes
  pub idle : (steps ≡ []) ⊎ TakesIdly a steps
  pub printed_is : printed ≡ a.standing.printed

-- the answer to a request, which is of one of four kinds, with the steps that it took, and what is printed then
abbrev pub Answers : Asking → List ℕ → List Step → Printed → Type 0
Answers a bytes steps printed =
    IsPlain a bytes steps printed ⊎ (IsShelved a bytes steps printed
    ⊎ (IsBooked a bytes steps printed ⊎ LacksMemory a bytes steps printed))

-- ---- the answers to events

-- the answer to a Continue
abbrev pub continue_bytes : List ℕ
continue_bytes = codes "HTTP/1.1 100 Continue\r\n\r\n"

-- the answer to an event, with the moments that were asked for, the steps that it took, and what is printed then
abbrev pub AnswersEvent : Standing → Event → List ℕ → List ℕ → List Step → Printed → Type 0
AnswersEvent s frame.continue moments bytes steps printed =
    (moments ≡ []) × (bytes ≡ continue_bytes) × (steps ≡ []) × (printed ≡ s.printed)
AnswersEvent s (frame.request r) moments bytes steps printed =
    (moment : ℕ) × (moments ≡ moment ∷ []) × Answers (asking s moment r) bytes steps printed

-- the work after an event: buckets are worked after the answer to a request, and after nothing else
abbrev pub WorksBehind : Standing → Event → List Step → Type 0
WorksBehind s frame.continue steps = steps ≡ []
WorksBehind s (frame.request r) steps = Works s steps

-- where a session stands after events and these steps, this being what was printed then
abbrev pub behind : Standing → List Event → List Step → Printed → Standing
behind s events steps printed =
    record s { last = last_turn s.last steps; printed = printed; served = s.served + requests events }

-- the same after one event
abbrev pub past : Standing → Event → List Step → Printed → Standing
past s event steps printed =
    record s { last = last_turn s.last steps; printed = printed; served = s.served + counted event }

-- The first of some events is answered, each request at the moment of its own, and the work after it is done; the
-- other events come after. After the answer that closes the connection none is answered.
pub record AnswersFirst (s : Standing) (event : Event) (events : List Event) (moments out : List ℕ)
    (steps : List Step) : Type 0 where
  pub asked : List ℕ
  pub after : List ℕ
  pub bytes : List ℕ
  pub later : List ℕ
  pub own : List Step
  pub work : List Step
  pub others : List Step
  pub printed : Printed
  pub moments_are : moments ≡ asked ++ after
  pub out_is : out ≡ bytes ++ later
  pub steps_are : steps ≡ own ++ (work ++ others)
  pub answers : AnswersEvent s event asked bytes own printed
  pub works : WorksBehind (past s event own printed) event work
  pub closing : closes s.served event ≡ true → events ≡ []

-- The events are answered in their order, each once; what is written is the answers. What is printed then is told.
abbrev pub Answered : Standing → List Event → List ℕ → List ℕ → List Step → Printed → Type 0
Answered s [] moments out steps printed =
    (moments ≡ []) × (out ≡ []) × (steps ≡ []) × (printed ≡ s.printed)
Answered s (event ∷ events) moments out steps printed =
    (first : AnswersFirst s event events moments out steps)
    × Answered (past s event (first.own
    ++ first.work) first.printed) events first.after first.later first.others
    printed

-- the response to a fault of the bytes, which closes the connection
abbrev pub IsFaultResponse : FrameFault → List ℕ → Type 0
IsFaultResponse fault bytes = IsResponse (answer.Frame fault) no_kind None true bytes

-- ---- how a session ends

-- where a session stops, and whether its last answer closed the connection; whether the input has answered
-- its end; the bytes that are left, and whether the Continue of the request there was answered; and what came
-- after the answers: the moments that were asked for, the bytes that were written and the steps that were
-- taken
pub record Stop : Type 0 where
  pub standing : Standing
  pub closed : Bool
  pub ended : Bool
  pub rest : List ℕ
  pub told : Bool
  pub moments : List ℕ
  pub bytes : List ℕ
  pub steps : List Step

-- nothing was asked for, written or done after the answers
abbrev pub IsBare : Stop → Type 0
IsBare s = (s.moments ≡ []) × (s.bytes ≡ []) × (s.steps ≡ [])

-- the response to the fault with which the bytes that are left begin, for which nothing was asked for or done
abbrev pub AnswersFault : Stop → FrameFault → List ℕ → Type 0
AnswersFault s fault bytes =
    Spells s.rest s.told [] (frame.bad fault) × IsFaultResponse fault bytes
    × (s.moments ≡ []) × (s.steps ≡ [])

-- these bytes are the next that a session writes: the answer to the next event, or the response to a fault
abbrev pub IsNext : Stop → List ℕ → Type 0
IsNext s bytes =
    ((event : Event) × (later : List ℕ) × (mark : Bool) × Reads s.rest s.told (event ∷ []) later mark
    × ((printed : Printed) × AnswersEvent s.standing event s.moments bytes s.steps printed))
    ⊎ ((fault : FrameFault) × AnswersFault s fault bytes)

-- the next request was taken at its moment, and perhaps a step for it, although no answer to it was written
pub record TakesUnanswered (s : Stop) : Type 0 where
  pub moment : ℕ
  pub request : HttpRequest
  pub later : List ℕ
  pub one : s.moments ≡ moment ∷ []
  pub told : IsTold s.told s.rest
  pub next : Begins s.rest request later
  pub taken : (s.steps ≡ []) ⊎ TakesTurn (asking s.standing moment request) s.steps

-- the next request was taken at its moment, and means a call of the book at a turn, which was not made
pub record NeedsTurn (s : Stop) : Type 0 where
  pub moment : ℕ
  pub request : HttpRequest
  pub later : List ℕ
  pub call : BookCall
  pub one : s.moments ≡ moment ∷ []
  pub told : IsTold s.told s.rest
  pub next : Begins s.rest request later
  pub means : Means moment request call
  pub unkept : ¬ (IsKept (asking s.standing moment request))

-- all was answered, and the input ended between requests
abbrev pub EndsClosed : Stop → SessionEnd → Type 0
EndsClosed s end =
    (end ≡ Closed s.standing.served) × (s.closed ≡ false) × IsBare s × IsTrue s.ended
    × Spells s.rest s.told [] frame.between

-- all was answered, and the input ended within a request
abbrev pub EndsCut : Stop → SessionEnd → Type 0
EndsCut s end =
    (end ≡ Cut s.standing.served) × (s.closed ≡ false) × IsBare s × IsTrue s.ended
    × Spells s.rest s.told [] frame.within

-- a request that asks for closing was answered, before as many as a session may have
abbrev pub EndsAsked : Stop → SessionEnd → Type 0
EndsAsked s end =
    (end ≡ Asked s.standing.served) × (s.closed ≡ true) × IsBare s × (s.standing.served < most_requests)

-- as many requests as a session may have were answered
abbrev pub EndsSpent : Stop → SessionEnd → Type 0
EndsSpent s end =
    (end ≡ Spent s.standing.served) × (s.closed ≡ true) × IsBare s × (s.standing.served ≡ most_requests)

-- no turn was left for the next request, fewer being answered than a session may have
abbrev pub EndsTurns : Stop → SessionEnd → Type 0
EndsTurns s end =
    (end ≡ SpentTurns s.standing.served) × (s.closed ≡ false) × (s.bytes ≡ []) × (s.steps ≡ []) × NeedsTurn s

-- all was answered, and then the fault in which the bytes end
abbrev pub EndsFrame : Stop → SessionEnd → Type 0
EndsFrame s end =
    (fault : FrameFault) × (end ≡ Frame s.standing.served fault) × (s.closed ≡ false)
    × AnswersFault s fault s.bytes

-- all that the bytes hold was answered, and a read failed
abbrev pub EndsReading : Stop → SessionEnd → Type 0
EndsReading s end =
    (end ≡ ReadFault s.standing.served) × (s.closed ≡ false) × IsBare s × IsTold s.told s.rest × IsRest s.rest

-- what is written next was not written whole
abbrev pub EndsWriting : Stop → SessionEnd → Type 0
EndsWriting s end =
    (end ≡ WriteFault s.standing.served) × (s.closed ≡ false)
    × ((more : List ℕ) × (more ≢ []) × IsNext s (s.bytes ++ more))

-- memory ran out, and nothing of what comes next was written
abbrev pub EndsMemory : Stop → SessionEnd → Type 0
EndsMemory s end =
    (end ≡ Memory s.standing.served) × (s.closed ≡ false) × (s.bytes ≡ [])
    × (((s.moments ≡ []) × (s.steps ≡ [])) ⊎ TakesUnanswered s)

-- memory ran out in the work after the answer to the next request, which was written whole
pub record EndsWorking (s : Stop) (end : SessionEnd) : Type 0 where
  pub request : HttpRequest
  pub later : List ℕ
  pub own : List Step
  pub work : List Step
  pub printed : Printed
  pub end_is : end ≡ Memory (s.standing.served + 1)
  pub open_ : s.closed ≡ false
  pub reads : Reads s.rest s.told (frame.request request ∷ []) later false
  pub answers : AnswersEvent s.standing (frame.request request) s.moments s.bytes own printed
  pub steps_are : s.steps ≡ own ++ work
  pub short : WorksShort (past s.standing (frame.request request) own printed) work

-- how a session ends where it stops
abbrev pub Ends : Stop → SessionEnd → Type 0
Ends s end =
    EndsClosed s end ⊎ (EndsAsked s end ⊎ (EndsCut s end ⊎ (EndsReading s end
    ⊎ (EndsWriting s end ⊎ (EndsFrame s end ⊎ (EndsSpent s end ⊎ (EndsTurns s end ⊎ (EndsMemory s end
    ⊎ EndsWorking s end))))))))

-- A session from a standing that took this input, asked for these moments and wrote this output, by these
-- steps. Each request that it took has one of the moments, in their order, and there is no other. `ended`
-- says whether the input has answered its end.
pub record Session (start : Standing) (ended : Bool) (input moments output : List ℕ) (steps : List Step)
    (end : SessionEnd) : Type 0 where
  pub events : List Event
  pub rest : List ℕ
  pub told : Bool
  pub asked : List ℕ
  pub late : List ℕ
  pub out : List ℕ
  pub tail : List ℕ
  pub done : List Step
  pub more : List Step
  pub printed : Printed
  pub moments_are : moments ≡ asked ++ late
  pub output_is : output ≡ out ++ tail
  pub steps_are : steps ≡ done ++ more
  pub reads : Reads input false events rest told
  pub answered : Answered start events asked out done printed
  pub ends : Ends (record {
    standing = behind start events done printed;
    closed = is_closed start.served events;
    ended = ended;
    rest = rest;
    told = told;
    moments = late;
    bytes = tail;
    steps = more;
  }) end
