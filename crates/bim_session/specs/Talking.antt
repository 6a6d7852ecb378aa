-- One connection as a machine: what each of its methods does.
use Rattle.std.specs.Prelude.{◌≡◌, ◌≢◌, ◌⊎◌, ℕ, ◌+◌, ◌==◌, ◌++◌, List, [], ◌∷◌, ◌||◌, Bool, true, false, not, IsTrue, if◌then◌else◌, Option, Some, None, IsSome, Result, Ok, Err}
use Rattle.bim_io.specs.StreamViews.{ClockSeen, ClockGives}
use Rattle.http_frame.specs.declared.types.HttpRequest.{HttpRequest}
use Rattle.http_frame.specs.declared.types.FrameFault.{FrameFault}
use Rattle.http_frame.specs.declared.framer.Framer.{Framer}
use Rattle.http_frame.specs.Events.{Begins, Asks, IsRest, IsBlank, IsTold, Spells}
use Rattle.http_frame.specs.Events as frame
use Rattle.http_frame.specs.Framers.{Stands}
use Rattle.book_turn.specs.declared.turn.Receipt.{Receipt}
use Rattle.book_turn.specs.declared.call_fault.CallFault.{CallFault}
use Rattle.book_turn.specs.declared.call_fault.CallFault.TheVariants as call_fault
use Rattle.clash_publish.specs.Shelves.{set_of}
use Rattle.federation_book.specs.declared.book.Book.{Book}
use Rattle.book_history.specs.declared.limits.Settings.{Settings}
use Rattle.book_history.specs.declared.requests.BookRequest.{BookRequest}
use Rattle.book_history.specs.declared.requests.BookRequest.TheVariants as request
use Rattle.book_history.specs.declared.requests.BookCall.{BookCall}
use Rattle.book_history.specs.declared.replies.BookReply.{BookReply}
use Rattle.book_history.specs.declared.changes.Entry.{Entry}
use Rattle.book_history.specs.declared.replies.ReplyBody.{ReplyBody}
use Rattle.book_history.specs.declared.replies.ReplyBody.TheVariants as reply
use Rattle.bcf_http.specs.declared.answers.Answer.{Answer}
use Rattle.bcf_http.specs.declared.answers.Answer.TheVariants as answer
use Rattle.bcf_http.specs.ReplyKinds.{kind_of}
use Rattle.bcf_http.specs.Asked.{BringsNone}
use Rattle.bcf_http.specs.declared.reply_kind.ReplyKind.{ReplyKind}
use Rattle.bcf_http.specs.Answers.{IsResponse}
use Rattle.bim_session.specs.declared.notes.Notes.{Notes}
use Rattle.bim_session.specs.declared.end.SessionEnd.{SessionEnd}
use Rattle.bim_session.specs.declared.end.SessionEnd.TheVariants as end
use Rattle.bim_session.specs.declared.want.Waiting.{Waiting}
use Rattle.bim_session.specs.declared.want.Want.{Want}
use Rattle.bim_session.specs.declared.want.Want.TheVariants.{More, Write, Call, Leave}
use Rattle.bim_session.specs.ShelfNotes.{project_read, AsksKept, IsKeptReply, Noted}
use Rattle.bim_session.specs.Session.{most_requests, closes_after, continue_bytes, IsFaultResponse, Means, Lists, answer_by, IsRefusedBy}
use Rattle.odata_filter.specs.declared.listing.Listing.{Listing}

-- what contracts see of a talk: its framer, whether the end was fed, how many requests were answered, what
-- the response to the call that waits needs of its request, what is kept of the book's replies, and how the talk
-- ends once all is written
pub record TalkState : Type 0 where
  pub framer : Framer
  pub ended : Bool
  pub served : ℕ
  pub waits : Option Waiting
  pub notes : Notes
  pub leaving : Option SessionEnd

-- a talk that has been fed nothing, over a framer, with these notes
abbrev pub fresh : Framer → Notes → TalkState
fresh framer notes = record {
  framer = framer;
  ended = false;
  served = 0;
  waits = None;
  notes = notes;
  leaving = None;
}

-- nothing is kept yet, and this is the last turn before
abbrev pub KeepsNone : ℕ → Notes → Type 0
KeepsNone turn notes = (notes.turn ≡ turn) × ((p v : ℕ) → set_of notes.shelf p v ≡ None)

-- the same talk over another framer
abbrev pub with_framer : Framer → TalkState → TalkState
with_framer framer s = record s { framer = framer }

-- ---- what is fed

-- an empty piece says that the input has ended
abbrev pub is_end : List ℕ → Bool
is_end [] = true
is_end (b ∷ bs) = false

-- a talk with the framer after a piece, which has ended where the piece is empty
abbrev pub with_piece : Framer → List ℕ → TalkState → TalkState
with_piece framer piece s = record s { framer = framer; ended = is_end piece }

-- the one framer stands for what the other does, and then the piece
abbrev pub GrowsBy : List ℕ → Framer → Framer → Type 0
GrowsBy piece old new =
    (bytes : List ℕ) (told : Bool) → Stands old bytes told → Stands new (bytes ++ piece) told

-- the talk stands for the piece too, or the input has ended
abbrev pub Feeds : List ℕ → TalkState → TalkState → Type 0
Feeds piece old new = GrowsBy piece old.framer new.framer × (new ≡ with_piece new.framer piece old)

-- the talk is as it was, for whatever bytes it stood
abbrev pub Stays : TalkState → TalkState → Type 0
Stays old new =
    ((bytes : List ℕ) (told : Bool) → Stands old.framer bytes told → Stands new.framer bytes told)
    × (new ≡ with_framer new.framer old)

-- ---- how a talk goes on

-- a request asks for a change: these do, and all others read
abbrev pub asks_change : BookRequest → Bool
asks_change (request.Upload project name model) = true
asks_change (request.Remove project name) = true
asks_change (request.SetRules project rules weight) = true
asks_change (request.ClashTopic project version place author weight) = true
asks_change (request.PostTopic project body author weight) = true
asks_change (request.PutTopic project topic body author weight) = true
asks_change (request.DeleteTopic project topic) = true
asks_change (request.PostComment project topic body author weight) = true
asks_change (request.PutComment project topic comment body author weight) = true
asks_change (request.DeleteComment project topic comment) = true
asks_change (request.PostView project topic body weight) = true
asks_change (request.DeleteView project topic view) = true
asks_change (request.Finish set) = true
asks_change _ = false

-- what the response to the request of this number needs of it, whose call asks for a change or not, for the clashes of
-- the project of this number or of none, and for a list of topics or for none
abbrev pub waiting_for : HttpRequest → ℕ → Bool → Option ℕ → Option Listing → Waiting
waiting_for request number changes reads listing = record {
  kind = kind_of request;
  close = closes_after request number;
  changes = changes;
  reads = reads;
  listing = listing;
}

-- what it needs of a request that takes no turn
abbrev pub waiting_alone : HttpRequest → ℕ → Waiting
waiting_alone request number = waiting_for request number false None None

-- how a session ends after the answer to the request of this number, if it does
abbrev pub leaving_after : ℕ → Bool → Option SessionEnd
leaving_after number close =
    if number == most_requests then Some (end.Spent number)
    else (if close then Some (end.Asked number) else None)

-- one more request is answered, after which the connection is closed or not
abbrev pub with_answer : Bool → TalkState → TalkState
with_answer close s =
    record s { served = s.served + 1; waits = None; leaving = leaving_after (s.served + 1) close }

-- the call waits of a request for which the response needs this
abbrev pub with_call : Waiting → TalkState → TalkState
with_call waiting s = record s { waits = Some waiting }

-- a fault ends the talk
abbrev pub with_fault : FrameFault → TalkState → TalkState
with_fault fault s = record s { leaving = Some (end.Frame s.served fault) }

-- other notes are kept
abbrev pub with_notes : Notes → TalkState → TalkState
with_notes notes s = record s { notes = notes }

-- the talk ends so, and no call waits
abbrev pub with_end : SessionEnd → TalkState → TalkState
with_end e s = record s { waits = None; leaving = Some e }

-- no turn is left for the call that waits, which ends the talk
abbrev pub with_spent : TalkState → TalkState
with_spent s = with_end (end.SpentTurns s.served) s

-- memory ran out, which ends the talk
abbrev pub with_memory : TalkState → TalkState
with_memory s = with_end (end.Memory s.served) s

-- ---- what a talk wants

-- the answer to a request that the request alone decides
pub record Refuses (moment : ℕ) (request : HttpRequest) (waiting : Waiting) (bytes : List ℕ) : Type 0 where
  pub refusal : Answer
  pub refused : IsRefusedBy moment request refusal
  pub response : IsResponse refusal waiting.kind None waiting.close bytes

-- the answer to a request without a turn: its refusal, or out of memory
abbrev pub AnswersAlone : ℕ → HttpRequest → Waiting → List ℕ → Type 0
AnswersAlone moment request waiting bytes =
    Refuses moment request waiting bytes ⊎ IsResponse answer.Memory waiting.kind None waiting.close bytes

-- the answer to a request that asks for clashes which are kept, with the turn that was printed last
pub record AnswersKept (moment : ℕ) (request : HttpRequest) (notes : Notes) (waiting : Waiting)
    (bytes : List ℕ) : Type 0 where
  pub call : BookCall
  pub kept : BookReply
  pub means : Means moment request call
  pub is_kept : IsKeptReply notes call kept
  pub response : IsResponse (answer.Book kept) waiting.kind (Some notes.turn) waiting.close bytes

-- the answer to a request that takes no turn
abbrev pub AnswersAtOnce : ℕ → HttpRequest → Notes → Waiting → List ℕ → Type 0
AnswersAtOnce moment request notes waiting bytes =
    AnswersAlone moment request waiting bytes ⊎ AnswersKept moment request notes waiting bytes

-- why a request becomes no call of the book
abbrev pub IsUnasked : ℕ → HttpRequest → Answer → Type 0
IsUnasked moment request refusal = IsRefusedBy moment request refusal ⊎ (refusal ≡ answer.Memory)

-- it wants to write, and of the bytes this holds
abbrev pub Writes : (List ℕ → Type 0) → Want → Type 0
Writes P More = ⊥
Writes P (Write bytes) = P bytes
Writes P (Call call) = ⊥
Writes P (Leave e) = ⊥

-- what the response needs to a call that is to be made
abbrev pub waiting_on : BookCall → Waiting → Waiting
waiting_on call waiting = record {
  kind = waiting.kind;
  close = waiting.close;
  changes = asks_change call.request;
  reads = project_read call.request;
  listing = waiting.listing;
}

-- what a talk wants for a call, of whose response this is needed: the answer, where the call asks for clashes that are
-- kept; else it is to be made
abbrev pub AsksFor : Waiting → BookCall → TalkState → Want → TalkState → Type 0
AsksFor waiting call old More new = ⊥
AsksFor waiting call old (Call other) new =
    (other ≡ call) × ¬ (AsksKept old.notes call) × (new ≡ with_call (waiting_on call waiting) old)
AsksFor waiting call old (Write bytes) new =
    ((kept : BookReply) × IsKeptReply old.notes call kept
    × IsResponse (answer.Book kept) waiting.kind (Some old.notes.turn) waiting.close bytes)
    × (new ≡ with_answer waiting.close old)
AsksFor waiting call old (Leave e) new = ⊥

-- what a talk wants for a request that it took
abbrev pub WantsFor : ℕ → HttpRequest → TalkState → Want → TalkState → Type 0
WantsFor moment request old More new = ⊥
WantsFor moment request old (Call call) new =
    Means moment request call × ¬ (AsksKept old.notes call)
    × ((listing : Option Listing) × Lists moment request listing
    × (new ≡ with_call (waiting_for request (old.served + 1) (asks_change call.request)
    (project_read call.request) listing) old))
WantsFor moment request old (Write bytes) new =
    AnswersAtOnce moment request old.notes (waiting_alone request (old.served + 1)) bytes
    × (new ≡ with_answer (closes_after request (old.served + 1)) old)
WantsFor moment request old (Leave e) new = ⊥

-- how a talk ends whose input has ended, of which these bytes are left
abbrev pub MeetsEnd : List ℕ → ℕ → SessionEnd → Type 0
MeetsEnd rest served e = (IsBlank rest × (e ≡ end.Closed served)) ⊎ (¬ (IsBlank rest) × (e ≡ end.Cut served))

-- what a talk wants that stands for no event and no fault
abbrev pub AtRest : TalkState → Want → Type 0
AtRest s More = s.ended ≡ false
AtRest s (Write bytes) = ⊥
AtRest s (Call call) = ⊥
AtRest s (Leave e) =
    (s.ended ≡ true)
    × ((rest : List ℕ) (told : Bool) → Stands s.framer rest told → IsRest rest → MeetsEnd rest s.served e)

-- a talk that stood for these bytes took a request at the one moment that was asked for, and its framer
-- stands for the rest
pub record TakesRequest (rest : List ℕ) (told : Bool) (moments : List ℕ) (framer : Framer) : Type 0 where
  pub moment : ℕ
  pub request : HttpRequest
  pub later : List ℕ
  pub one : moments ≡ moment ∷ []
  pub settled : IsTold told rest
  pub next : Begins rest request later
  pub stands : Stands framer later false

-- no event was taken, and the clock was not asked
abbrev pub TakesNone : List ℕ → Bool → List ℕ → Framer → Type 0
TakesNone rest told moments framer = (moments ≡ []) × Stands framer rest told

-- the Continue of the request that comes is answered
abbrev pub Continues : List ℕ → Bool → List ℕ → TalkState → List ℕ → TalkState → Type 0
Continues rest told moments old bytes new =
    (told ≡ false) × Asks rest × (bytes ≡ continue_bytes) × TakesNone rest true moments new.framer
    × (new ≡ with_framer new.framer old)

-- a request is answered, which was taken
abbrev pub AnswersOne : List ℕ → Bool → List ℕ → TalkState → List ℕ → TalkState → Type 0
AnswersOne rest told moments old bytes new =
    (one : TakesRequest rest told moments new.framer)
    × AnswersAtOnce one.moment one.request old.notes (waiting_alone one.request (old.served + 1)) bytes
    × (new ≡ with_answer (closes_after one.request (old.served + 1)) (with_framer new.framer old))

-- the fault is answered in which the bytes end, and ends the talk
abbrev pub AnswersFault : List ℕ → Bool → List ℕ → TalkState → List ℕ → TalkState → Type 0
AnswersFault rest told moments old bytes new =
    (fault : FrameFault) × TakesNone rest told moments new.framer × Spells rest told [] (frame.bad fault)
    × IsFaultResponse fault bytes × (new ≡ with_fault fault (with_framer new.framer old))

-- What a talk that stood for these bytes wants next, for which it asked for these moments: one for the
-- request that it took, if it took one.
abbrev pub Talks : List ℕ → Bool → List ℕ → TalkState → Want → TalkState → Type 0
Talks rest told moments old More new =
    (old.leaving ≡ None) × (old.ended ≡ false) × IsTold told rest × IsRest rest
    × TakesNone rest told moments new.framer × (new ≡ with_framer new.framer old)
Talks rest told moments old (Write bytes) new =
    (old.leaving ≡ None)
    × (Continues rest told moments old bytes new
    ⊎ (AnswersOne rest told moments old bytes new ⊎ AnswersFault rest told moments old bytes new))
Talks rest told moments old (Call call) new =
    (old.leaving ≡ None)
    × ((one : TakesRequest rest told moments new.framer) × Means one.moment one.request call
    × ¬ (AsksKept old.notes call)
    × ((listing : Option Listing) × Lists one.moment one.request listing
    × (new ≡ with_call (waiting_for one.request (old.served + 1) (asks_change call.request)
    (project_read call.request) listing) (with_framer new.framer old))))
Talks rest told moments old (Leave e) new =
    (moments ≡ [])
    × ((old.leaving ≡ Some e)
    ⊎ ((old.leaving ≡ None) × (old.ended ≡ true) × IsTold told rest × IsRest rest
    × MeetsEnd rest old.served e))

-- what the talk is ready for: to be fed where it wants more, to be answered where it wants a call
abbrev pub IsReady : Want → TalkState → Type 0
IsReady More s = s.ended ≡ false
IsReady (Write bytes) s = Unit {0}
IsReady (Call call) s = IsSome s.waits × (s.leaving ≡ None)
IsReady (Leave e) s = Unit {0}

-- memory ran out for what a talk would have wanted next; it may have taken a request
abbrev pub StopsShort : List ℕ → Bool → List ℕ → TalkState → Type 0
StopsShort rest told moments new = (moments ≡ []) ⊎ TakesRequest rest told moments new.framer

-- that ends the talk
abbrev pub Lacks : List ℕ → Bool → List ℕ → TalkState → TalkState → Type 0
Lacks rest told moments old new =
    (old.leaving ≡ None) × StopsShort rest told moments new × (new ≡ with_memory (with_framer new.framer old))

-- for whatever bytes the talk stood: what it wants next, where the clock went from the one to the other
abbrev pub Wants : ClockSeen → ClockSeen → TalkState → Want → TalkState → Type 0
Wants before after old want new =
    (rest : List ℕ) (told : Bool) → Stands old.framer rest told
    → (moments : List ℕ) × ClockGives before after moments × Talks rest told moments old want new

-- for whatever bytes the talk stood: where memory ran out for that
abbrev pub StopsNext : ClockSeen → ClockSeen → TalkState → TalkState → Type 0
StopsNext before after old new =
    (rest : List ℕ) (told : Bool) → Stands old.framer rest told
    → (moments : List ℕ) × ClockGives before after moments × StopsShort rest told moments new

-- the same, where that has ended the talk
abbrev pub LacksNext : ClockSeen → ClockSeen → TalkState → TalkState → Type 0
LacksNext before after old new =
    (rest : List ℕ) (told : Bool) → Stands old.framer rest told
    → (moments : List ℕ) × ClockGives before after moments × Lacks rest told moments old new

-- ---- the answer to a call

-- the reply is a refusal
abbrev pub is_refusal : ReplyBody → Bool
is_refusal (reply.Refused fault) = true
is_refusal other = false

-- a reply that comes of no accepted change: the call asks for none, or is refused
abbrev pub changes_nothing : Bool → ReplyBody → Bool
changes_nothing changes body = not changes || is_refusal body

-- the book's answer to a call, with the turn that the call took
abbrev pub BookReceipt : Type 0
BookReceipt = Receipt Book BookCall BookReply Entry Settings

-- an answer of the book is noted, which is printed with this turn
abbrev pub IsNoted : ℕ → Option ℕ → Answer → Notes → Notes → Type 0
IsNoted turn reads (answer.Book told) old new = Noted turn reads told old new
IsNoted turn reads (answer.Listed told listing) old new = Noted turn reads told old new
IsNoted turn reads other old new = new ≡ old

-- The response to a call that the book answered with this receipt, which is noted; or for which memory ran out, and
-- then the notes stay.
abbrev pub AnswersCall : Result BookReceipt CallFault → Waiting → Notes → List ℕ → Notes → Type 0
AnswersCall (Ok receipt) waiting notes bytes later =
    (IsResponse (answer_by waiting.listing receipt.reply) waiting.kind (Some receipt.turn) waiting.close bytes
    × Noted receipt.turn waiting.reads receipt.reply notes later)
    ⊎ (IsTrue (changes_nothing waiting.changes receipt.reply.body)
    × IsResponse answer.Memory waiting.kind None waiting.close bytes × (later ≡ notes))
AnswersCall (Err call_fault.Memory) waiting notes bytes later =
    IsResponse answer.Memory waiting.kind None waiting.close bytes × (later ≡ notes)
AnswersCall (Err (call_fault.PassSpent pass)) waiting notes bytes later = ⊥

-- how a talk ends that answers no call: memory ran out, or the pass has made all its turns
abbrev pub LeavesCall : Result BookReceipt CallFault → TalkState → SessionEnd → TalkState → Type 0
LeavesCall (Ok receipt) old e new = (e ≡ end.Memory old.served) × (new ≡ with_memory old)
LeavesCall (Err call_fault.Memory) old e new = (e ≡ end.Memory old.served) × (new ≡ with_memory old)
LeavesCall (Err (call_fault.PassSpent pass)) old e new =
    (e ≡ end.SpentTurns old.served) × (new ≡ with_spent old)

-- what a talk wants after the answer to its call
abbrev pub Replies : Result BookReceipt CallFault → Waiting → TalkState → Want → TalkState → Type 0
Replies receipt waiting old More new = ⊥
Replies receipt waiting old (Call call) new = ⊥
Replies receipt waiting old (Write bytes) new =
    AnswersCall receipt waiting old.notes bytes new.notes
    × (new ≡ with_notes new.notes (with_answer waiting.close old))
Replies receipt waiting old (Leave e) new = LeavesCall receipt old e new

-- what a talk wants if memory ran out for its call
abbrev pub LacksFor : ReplyKind → Bool → TalkState → Want → TalkState → Type 0
LacksFor kind close old More new = ⊥
LacksFor kind close old (Call call) new = ⊥
LacksFor kind close old (Write bytes) new =
    IsResponse answer.Memory kind None close bytes × (new ≡ with_answer close old)
LacksFor kind close old (Leave e) new = (e ≡ end.Memory old.served) × (new ≡ with_memory old)

-- ---- whose ends a talk gives

-- an end that a talk gives by itself: never a fault of a read or of a write
abbrev pub IsOwnEnd : SessionEnd → Type 0
IsOwnEnd e = (n : ℕ) → (e ≢ end.ReadFault n) × (e ≢ end.WriteFault n)

-- a talk leaves by an end of its own, if it leaves
abbrev pub IsOwnLeaving : Option SessionEnd → Type 0
IsOwnLeaving leaving = (n : ℕ) → (leaving ≢ Some (end.ReadFault n)) × (leaving ≢ Some (end.WriteFault n))

-- where a talk wants to leave, it is by an end of its own
abbrev pub IsOwnWant : Want → Type 0
IsOwnWant want = (n : ℕ) → (want ≢ Leave (end.ReadFault n)) × (want ≢ Leave (end.WriteFault n))

-- where a talk wants a call, it is one that may be made at every history
abbrev pub IsCallable : Want → Type 0
IsCallable More = Unit {0}
IsCallable (Write bytes) = Unit {0}
IsCallable (Call call) = BringsNone call.request
IsCallable (Leave e) = Unit {0}
