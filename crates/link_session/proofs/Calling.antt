-- The book was called, and its response written.
use Rattle.std.proofs.Common.{◌≡◌, ℕ, List, Option, Some, None, IsSome, IfSome, IfOk, IfErr, Result, Ok, Err, inl, inr, refl, ap}
use Rattle.bim_io.specs.StreamViews.{SinkSeen}
use Rattle.book_turn.specs.Passes.{KeepsNumbers}
use Rattle.book_turn.specs.declared.call_fault.CallFault.{CallFault}
use Rattle.book_turn.specs.declared.call_fault.CallFault.TheVariants.{Memory, PassSpent}
use Rattle.book_turn.specs.TurnFaults.{Failed}
use Rattle.book_history.specs.declared.limits.Settings.{Settings}
use Rattle.book_history.specs.declared.changes.Entry.{Entry}
use Rattle.book_history.specs.declared.requests.BookRequest.{BookRequest}
use Rattle.book_history.specs.declared.requests.BookRequest.TheVariants.{Finish}
use Rattle.book_history.specs.declared.requests.BookCall.{BookCall}
use Rattle.book_history.specs.Legal.{IsLegal}
use Rattle.bcf_http.specs.Asked.{BringsNone}
use Rattle.bim_session.specs.declared.end.SessionEnd.{SessionEnd}
use Rattle.bim_session.specs.declared.want.Waiting.{Waiting}
use Rattle.bim_session.specs.declared.want.Want.TheVariants.{Write, Leave}
use Rattle.bim_session.specs.Talking.{TalkState, BookReceipt, Replies}
use Rattle.book_passes.specs.Lessons.{BookPass, CallerSeen, IsAnswered, caller_of, stamp_of}
use Rattle.book_passes.proofs.Learning.{takes_call, takes_idly}
use Rattle.link_session.specs.declared.session.AfterStep.{AfterStep}
use Rattle.link_session.specs.declared.session.AfterStep.TheVariants.{Again, End}
use Rattle.link_session.specs.Callers.{Calls, steps_of}
use Rattle.link_session.specs.inner.Loop.{Going, Called, Writing}

wrote_for : (settings : Settings) (goes : Going) (call : BookCall) (x y : SinkSeen) (talk talk' : TalkState) (server server' : CallerSeen) (waiting : Waiting)
    (receipt : Result BookReceipt CallFault) (bytes : List ℕ) (result : AfterStep)
    → talk.waits ≡ Some waiting → Calls settings call server receipt server' → goes server (steps_of call server receipt) server' → Replies receipt waiting talk (Write bytes) talk'
    → Writing talk.served x y bytes result → Called settings goes call x y talk server result talk' server'
wrote_for settings goes call x y talk talk' server server' waiting receipt bytes Again waits calls went replies wrote =
    (waiting, waits, receipt, bytes, calls, went, replies.0, replies.1, wrote.0, wrote.1)
wrote_for settings goes call x y talk talk' server server' waiting receipt bytes (End e) waits calls went replies wrote =
    (waiting, waits, receipt, calls, went, inr (bytes, talk'.notes, replies.0, wrote.0, wrote.1))

some_of : (o : Option Waiting) (P : Waiting → Type 0) → IsSome o → IfSome o P → (k : Waiting) × (o ≡ Some k) × P k
some_of None P is p = cc
some_of (Some k) P is p = (k, refl, p)

pub wrote_call : (settings : Settings) (goes : Going) (call : BookCall) (x y : SinkSeen) (talk talk' : TalkState) (server server' : CallerSeen)
    (receipt : Result BookReceipt CallFault) (bytes : List ℕ) (result : AfterStep)
    → IsSome talk.waits → Calls settings call server receipt server' → goes server (steps_of call server receipt) server'
    → IfSome talk.waits (λ waiting. Replies receipt waiting talk (Write bytes) talk') → Writing talk.served x y bytes result
    → Called settings goes call x y talk server result talk' server'
wrote_call settings goes call x y talk talk' server server' receipt bytes result waits calls went replies wrote =
    let one : (k : Waiting) × (talk.waits ≡ Some k) × Replies receipt k talk (Write bytes) talk' =
    some_of talk.waits (λ waiting. Replies receipt waiting talk (Write bytes) talk') waits replies in
    wrote_for settings goes call x y talk talk' server server' one.0 receipt bytes result one.1 calls went one.2 wrote

-- .. or the talk gave no answer
pub left_call : (settings : Settings) (goes : Going) (call : BookCall) (x : SinkSeen) (talk talk' : TalkState) (server server' : CallerSeen)
    (receipt : Result BookReceipt CallFault) (e : SessionEnd)
    → IsSome talk.waits → Calls settings call server receipt server' → goes server (steps_of call server receipt) server'
    → IfSome talk.waits (λ waiting. Replies receipt waiting talk (Leave e) talk')
    → Called settings goes call x x talk server (End e) talk' server'
left_call settings goes call x talk talk' server server' receipt e waits calls went replies =
    let one : (k : Waiting) × (talk.waits ≡ Some k) × Replies receipt k talk (Leave e) talk' =
    some_of talk.waits (λ waiting. Replies receipt waiting talk (Leave e) talk') waits replies in
    (one.0, one.1, receipt, calls, went, inl ((talk', one.2), refl))

-- ---- a call by a pass

-- a request that brings no set may be made at every history
pub legal_of : (settings : Settings) (h : List Entry) (request : BookRequest) → BringsNone request → IsLegal settings h request
legal_of settings h (Finish set) none = absurd (none set refl)
legal_of settings h _ none = tt

-- what is known of it
pub calls_by_pass : (settings : Settings) (call : BookCall) (v w : BookPass) (result : Result BookReceipt CallFault) → KeepsNumbers v w
    → IfOk result (λ r. IsAnswered settings call r.turn r.reply v w) → IfErr result (λ e. Failed stamp_of v w e)
    → Calls settings call (caller_of v) result (caller_of w)
calls_by_pass settings call v w (Ok receipt) keeps answered failed = takes_call settings call receipt.turn receipt.reply v w keeps answered
calls_by_pass settings call v w (Err Memory) keeps answered failed = inr (takes_idly v w keeps failed)
calls_by_pass settings call v w (Err (PassSpent spent)) keeps answered failed = (failed.0, ap caller_of failed.2)
