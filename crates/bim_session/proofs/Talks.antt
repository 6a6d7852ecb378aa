-- From what the framer and the parts of a talk answer to what a talk wants.
use Rattle.std.proofs.Common.{◌≡◌, ◌⊎◌, ℕ, ◌+◌, ◌≤◌, length, arith, Bool, true, false, List, [], ◌∷◌, Option, Some, None, Result, Ok, Err, IfOk, OnOk, OnErr, inl, inr, refl, sym, ap, ◌∙◌, subst}
use Rattle.std.specs.declared.alloc.AllocError.{AllocError}
use Rattle.http_frame.specs.declared.types.HttpRequest.{HttpRequest}
use Rattle.http_frame.specs.declared.types.FrameFault.{FrameFault}
use Rattle.http_frame.specs.declared.types.FrameStep.TheVariants as step
use Rattle.http_frame.specs.declared.types.FrameError.TheVariants as error
use Rattle.http_frame.specs.declared.framer.Framer.{Framer}
use Rattle.http_frame.specs.Framers.{Stands, Answered}
use Rattle.bim_io.specs.StreamViews.{ClockSeen, ClockGives}
use Rattle.bim_io.proofs.Calls.{clock_none}
use Rattle.bcf_http.specs.declared.reply_kind.ReplyKind.{ReplyKind}
use Rattle.book_history.specs.declared.requests.BookCall.{BookCall}
use Rattle.book_history.specs.declared.replies.BookReply.{BookReply}
use Rattle.bcf_http.specs.declared.answers.Answer.{Answer}
use Rattle.bcf_http.specs.declared.answers.Answer.TheVariants as answer
use Rattle.bcf_http.specs.ReplyKinds.{kind_of}
use Rattle.bcf_http.specs.Answers.{IsResponse}
use Rattle.odata_filter.specs.declared.listing.Listing.{Listing}
use Rattle.bim_session.specs.declared.end.SessionEnd.{SessionEnd}
use Rattle.bim_session.specs.declared.want.Waiting.{Waiting}
use Rattle.bim_session.specs.declared.want.Want.{Want}
use Rattle.bim_session.specs.declared.want.Want.TheVariants.{More, Write, Call, Leave}
use Rattle.bim_session.specs.declared.notes.Notes.{Notes}
use Rattle.bim_session.specs.ShelfNotes.{project_read, IsKeptReply}
use Rattle.bim_session.specs.Session.{closes_after, continue_bytes, Means, Lists, IsFaultResponse}
use Rattle.bim_session.specs.Talking.{TalkState, IsOwnEnd, IsOwnLeaving, IsOwnWant, GrowsBy, Feeds, is_end, Wants, StopsNext, TakesRequest, Writes, WantsFor, AtRest, AsksFor, waiting_for, waiting_alone, waiting_on, with_answer, with_call, with_fault, with_framer, asks_change, IsUnasked, AnswersAlone}

pub none_of : (o : Option SessionEnd) → ((e : SessionEnd) → o ≡ Some e → ⊥) → o ≡ None
none_of None not_some = refl
none_of (Some e) not_some = absurd (not_some e refl)

leave_is : (a b : SessionEnd) → Leave a ≡ Leave b → a ≡ b
leave_is a b e = cc

-- a talk that leaves does so by an end of its own
pub own_leaving : (leaving : Option SessionEnd) (e : SessionEnd) → IsOwnLeaving leaving → leaving ≡ Some e → IsOwnWant (Leave e)
own_leaving leaving e own is = λ n. (λ w. (own n).0 (is ∙ ap Some (leave_is e _ w)), λ w. (own n).1 (is ∙ ap Some (leave_is e _ w)))

some_is : (a b : SessionEnd) → Some a ≡ Some b → a ≡ b
some_is a b e = cc

pub some_none : (a : SessionEnd) → Some a ≡ None → ⊥
some_none a e = cc

-- .. to which it comes by such an end
pub own_some : (e : SessionEnd) → IsOwnEnd e → IsOwnLeaving (Some e)
own_some e own = λ n. (λ is. (own n).0 (some_is e _ is), λ is. (own n).1 (some_is e _ is))

-- ---- what a framer stands for

stands_at : (f : Framer) (a b : List ℕ) (t u : Bool) → a ≡ b → t ≡ u → Stands f a t → Stands f b u
stands_at f a b t u e d stands = subst (λ (v : Bool). Stands f b v) d (subst (λ (w : List ℕ). Stands f w t) e stands)

-- ---- what is fed

not_end : (piece : List ℕ) → 1 ≤ length piece → is_end piece ≡ false
not_end [] some = absurd (omega (arith, some))
not_end (b ∷ bs) some = refl

-- a piece that is not empty is fed
pub fed_bytes : (result : Result (Unit {0}) AllocError) (old : TalkState) (f : Framer) (piece : List ℕ) → 1 ≤ length piece → old.ended ≡ false
    → OnOk result (GrowsBy piece old.framer f) → OnOk result (Feeds piece old (with_framer f old))
fed_bytes (Ok u) old f piece some going grows =
    (grows, λ i. record old { framer = f; ended = (going ∙ sym (not_end piece some)) i })
fed_bytes (Err e) old f piece some going grows = tt

-- ---- what is wanted next

-- no event is at hand
pub wants_rest : (old : TalkState) (f : Framer) (want : Want) (c : ClockSeen) → old.leaving ≡ None
    → ((rest : List ℕ) (told : Bool) → Stands old.framer rest told → Answered rest told (Ok step.More) f)
    → AtRest (with_framer f old) want → Wants c c old want (with_framer f old)
wants_rest old f More c here steps rests = λ rest told stands.
    let a = steps rest told stands in
    ([], clock_none c, (here, rests, a.2.0, a.2.1, (refl, stands_at f a.0 rest a.1 told a.2.2 a.2.3 a.3), refl))
wants_rest old f (Write bytes) c here steps rests = absurd rests
wants_rest old f (Call call) c here steps rests = absurd rests
wants_rest old f (Leave e) c here steps rests = λ rest told stands.
    let a = steps rest told stands in
    let now : Stands f rest told = stands_at f a.0 rest a.1 told a.2.2 a.2.3 a.3 in
    ([], clock_none c, (refl, inr (here, rests.0, a.2.0, a.2.1, rests.1 rest told now a.2.1)))

-- it leaves, as it was to
pub wants_leave : (old : TalkState) (e : SessionEnd) (c : ClockSeen) → old.leaving ≡ Some e → Wants c c old (Leave e) old
wants_leave old e c is = λ rest told stands. ([], clock_none c, (refl, inl is))

continued : (old : TalkState) (f : Framer) (want : Want) (c : ClockSeen) → old.leaving ≡ None
    → ((rest : List ℕ) (told : Bool) → Stands old.framer rest told → Answered rest told (Ok step.Continue) f)
    → Writes (λ bytes. bytes ≡ continue_bytes) want → Wants c c old want (with_framer f old)
continued old f More c here steps writes = absurd writes
continued old f (Write bytes) c here steps writes = λ rest told stands.
    let a = steps rest told stands in
    ([], clock_none c, (here, inl (a.2.0, a.2.1, writes, (refl, stands_at f a.0 rest a.1 true a.2.2 a.2.3 a.3), refl)))
continued old f (Call call) c here steps writes = absurd writes
continued old f (Leave e) c here steps writes = absurd writes

-- a Continue is answered
pub wants_continue : (old : TalkState) (f : Framer) (r : Result Want AllocError) (c : ClockSeen) → old.leaving ≡ None
    → ((rest : List ℕ) (told : Bool) → Stands old.framer rest told → Answered rest told (Ok step.Continue) f)
    → IfOk r (Writes (λ bytes. bytes ≡ continue_bytes)) → IfOk r (λ want. Wants c c old want (with_framer f old))
wants_continue old f (Ok want) c here steps writes = continued old f want c here steps writes
wants_continue old f (Err e) c here steps writes = tt

faulted : (old new : TalkState) (f : Framer) (fault : FrameFault) (want : Want) (c : ClockSeen) → old.leaving ≡ None
    → ((rest : List ℕ) (told : Bool) → Stands old.framer rest told → Answered rest told (Err (error.Fault fault)) f)
    → Writes (IsFaultResponse fault) want → new ≡ with_fault fault (with_framer f old) → Wants c c old want new
faulted old new f fault More c here steps writes is = absurd writes
faulted old new f fault (Write bytes) c here steps writes is = λ rest told stands.
    let a = steps rest told stands in
    let same : new.framer ≡ f = ap (λ (s : TalkState). s.framer) is in
    let state : new ≡ with_fault fault (with_framer new.framer old) = is ∙ ap (λ (g : Framer). with_fault fault (with_framer g old)) (sym same) in
    let now : Stands new.framer rest told = subst (λ (g : Framer). Stands g rest told) (sym same) (stands_at f a.0 rest a.1 told a.2.2 a.2.3 a.3) in
    ([], clock_none c, (here, inr (inr (fault, (refl, now), (a.2.0, a.2.1), writes, state))))
faulted old new f fault (Call call) c here steps writes is = absurd writes
faulted old new f fault (Leave e) c here steps writes is = absurd writes

-- a fault is answered
pub wants_fault : (old new : TalkState) (f : Framer) (fault : FrameFault) (r : Result Want AllocError) (c : ClockSeen) → old.leaving ≡ None
    → ((rest : List ℕ) (told : Bool) → Stands old.framer rest told → Answered rest told (Err (error.Fault fault)) f)
    → IfOk r (Writes (IsFaultResponse fault)) → OnOk r (new ≡ with_fault fault (with_framer f old)) → IfOk r (λ want. Wants c c old want new)
wants_fault old new f fault (Ok want) c here steps writes is = faulted old new f fault want c here steps writes is
wants_fault old new f fault (Err e) c here steps writes is = tt

-- a request was taken at the moment
abbrev took : (m : ℕ) (r : HttpRequest) (f g : Framer) (rest : List ℕ) (told : Bool) → Answered rest told (Ok (step.Request r)) f → g ≡ f
    → TakesRequest rest told (m ∷ []) g
took m r f g rest told a same = record {
  moment = m;
  request = r;
  later = a.0;
  one = refl;
  settled = a.2.0;
  next = a.2.1;
  stands = subst (λ (h : Framer). Stands h a.0 false) (sym same) (stands_at f a.0 a.0 a.1 false refl a.2.2 a.3);
}

requested : (old new : TalkState) (f : Framer) (m : ℕ) (r : HttpRequest) (want : Want) (a b : ClockSeen) → old.leaving ≡ None
    → ((rest : List ℕ) (told : Bool) → Stands old.framer rest told → Answered rest told (Ok (step.Request r)) f) → ClockGives a b (m ∷ [])
    → WantsFor m r (with_framer f old) want new → Wants a b old want new
requested old new f m r More a b here steps gives wants = absurd wants
requested old new f m r (Call call) a b here steps gives wants = λ rest told stands.
    let same : new.framer ≡ f = ap (λ (s : TalkState). s.framer) wants.2.2 in (
      m ∷ [],
      gives,
      (
        here,
        (
          took m r f new.framer rest told (steps rest told stands) same,
          wants.0,
          wants.1,
          (
            wants.2.0,
            wants.2.1,
            wants.2.2
                ∙ ap (λ (g : Framer). with_call (waiting_for r (old.served + 1) (asks_change call.request) (project_read call.request) wants.2.0) (with_framer g old)) (sym same),
          ),
        ),
      ),
    )
requested old new f m r (Write bytes) a b here steps gives wants = λ rest told stands.
    let same : new.framer ≡ f = ap (λ (s : TalkState). s.framer) wants.1 in (
      m ∷ [],
      gives,
      (
        here,
        inr (inl (
          took m r f new.framer rest told (steps rest told stands) same,
          wants.0,
          wants.1 ∙ ap (λ (g : Framer). with_answer (closes_after r (old.served + 1)) (with_framer g old)) (sym same),
        )),
      ),
    )
requested old new f m r (Leave e) a b here steps gives wants = absurd wants

-- a request was taken at the moment that the clock gave
pub wants_taken : (old new : TalkState) (f : Framer) (m : ℕ) (r : HttpRequest) (result : Result Want AllocError) (a b : ClockSeen) → old.leaving ≡ None
    → ((rest : List ℕ) (told : Bool) → Stands old.framer rest told → Answered rest told (Ok (step.Request r)) f) → ClockGives a b (m ∷ [])
    → IfOk result (λ want. WantsFor m r (with_framer f old) want new) → IfOk result (λ want. Wants a b old want new)
wants_taken old new f m r (Ok want) a b here steps gives wants = requested old new f m r want a b here steps gives wants
wants_taken old new f m r (Err e) a b here steps gives wants = tt

-- ---- a request that asks for what is kept

kept_write : (waiting : Waiting) (call : BookCall) (old new : TalkState) (kept : BookReply) (want : Want) → IsKeptReply old.notes call kept
    → Writes (IsResponse (answer.Book kept) waiting.kind (Some old.notes.turn) waiting.close) want → new ≡ with_answer waiting.close old → AsksFor waiting call old want new
kept_write waiting call old new kept More is writes state = absurd writes
kept_write waiting call old new kept (Write bytes) is writes state = ((kept, is, writes), state)
kept_write waiting call old new kept (Call other) is writes state = absurd writes
kept_write waiting call old new kept (Leave e) is writes state = absurd writes

-- its answer
pub asks_kept : (waiting : Waiting) (call : BookCall) (old new : TalkState) (notes : Notes) (kept : BookReply) (result : Result Want AllocError) → notes ≡ old.notes
    → IsKeptReply notes call kept → IfOk result (Writes (IsResponse (answer.Book kept) waiting.kind (Some notes.turn) waiting.close))
    → OnOk result (new ≡ with_answer waiting.close old) → IfOk result (λ want. AsksFor waiting call old want new)
asks_kept waiting call old new notes kept (Ok want) same is writes state =
    kept_write waiting call old new kept want (subst (λ (n : Notes). IsKeptReply n call kept) same is)
    (subst (λ (n : Notes). Writes (IsResponse (answer.Book kept) waiting.kind (Some n.turn) waiting.close) want) same writes) state
asks_kept waiting call old new notes kept (Err e) same is writes state = tt

-- ---- out of memory

-- a request was taken
pub stops_taken : (old new : TalkState) (f : Framer) (m : ℕ) (r : HttpRequest) (a b : ClockSeen)
    → ((rest : List ℕ) (told : Bool) → Stands old.framer rest told → Answered rest told (Ok (step.Request r)) f) → ClockGives a b (m ∷ [])
    → new.framer ≡ f → StopsNext a b old new
stops_taken old new f m r a b steps gives same = λ rest told stands.
    (m ∷ [], gives, inr (took m r f new.framer rest told (steps rest told stands) same))

on_err : (result : Result Want AllocError) (P : Type 0) → P → OnErr result P
on_err (Ok want) P p = tt
on_err (Err e) P p = p

-- nothing was taken
abbrev StopsAt : ClockSeen → Framer → Framer → Type 0
StopsAt c f g =
    (rest : List ℕ) (told : Bool) → Stands f rest told
    → (moments : List ℕ) × ClockGives c c moments × ((moments ≡ []) ⊎ TakesRequest rest told moments g)

pub stops_none : (f g : Framer) (c : ClockSeen) → StopsAt c f g
stops_none f g c = λ rest told stands. ([], clock_none c, inl refl)

pub stops_none_on : (result : Result Want AllocError) (f g : Framer) (c : ClockSeen) → OnErr result (StopsAt c f g)
stops_none_on result f g c = on_err result (StopsAt c f g) (stops_none f g c)

pub stops_taken_on : (result : Result Want AllocError) (old new : TalkState) (f : Framer) (m : ℕ) (r : HttpRequest) (a b : ClockSeen)
    → ((rest : List ℕ) (told : Bool) → Stands old.framer rest told → Answered rest told (Ok (step.Request r)) f) → ClockGives a b (m ∷ [])
    → OnErr result (new ≡ with_framer f old) → OnErr result (StopsNext a b old new)
stops_taken_on (Ok want) old new f m r a b steps gives is = tt
stops_taken_on (Err e) old new f m r a b steps gives is = stops_taken old new f m r a b steps gives (ap (λ (s : TalkState). s.framer) is)
