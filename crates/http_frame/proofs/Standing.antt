-- The steps of a framer.
use Rattle.std.proofs.Common.{◌≡◌, ℕ, ◌+◌, ◌-◌, ◌<◌, ◌≤◌, Bool, true, false, List, [], ◌∷◌, ◌++◌, length, take, drop, Ok, Err, refl, sym, ap, ◌∙◌, arith, append_assoc, inl, inr, subst}
use Rattle.std.proofs.lemmas.List.{append-nil, take-append-drop, drop-drop, length-take-le, length-drop, take_all}
use Rattle.std.proofs.Math.ListN.{drop_of_length-le}
use Rattle.httparse.specs.Grammar.{RequestHead}
use Rattle.http_frame.specs.declared.types.FrameFault.{FrameFault}
use Rattle.http_frame.specs.declared.types.FrameStep.TheVariants.{More, Continue, Request}
use Rattle.http_frame.specs.declared.types.FrameError.TheVariants.{Fault, Memory}
use Rattle.http_frame.specs.declared.types.HttpRequest.{HttpRequest}
use Rattle.http_frame.specs.declared.head.HeadFacts.{HeadFacts}
use Rattle.http_frame.specs.declared.head.Plan.{Plan}
use Rattle.http_frame.specs.declared.head.Plan.TheVariants as plan
use Rattle.http_frame.specs.declared.seen.GoodHead.{GoodHead}
use Rattle.http_frame.specs.declared.seen.Seen.TheVariants as seen
use Rattle.http_frame.specs.declared.watch.Watch.{Watch}
use Rattle.http_frame.specs.declared.chunks.Chunks.{Chunks}
use Rattle.http_frame.specs.declared.chunks.Taken.{Taken}
use Rattle.http_frame.specs.declared.chunks.ChunkEnd.{ChunkEnd}
use Rattle.http_frame.specs.declared.chunks.ChunkEnd.TheVariants as end
use Rattle.http_frame.specs.declared.stage.Awaited.{Awaited}
use Rattle.http_frame.specs.declared.stage.Awaited.TheVariants.{Sized, Chunked, Whole}
use Rattle.http_frame.specs.declared.stage.Pending.{Pending}
use Rattle.http_frame.specs.declared.stage.Stage.{Stage}
use Rattle.http_frame.specs.declared.stage.Stage.TheVariants.{Head, Body, Failed}
use Rattle.http_frame.specs.declared.framer_steps.Stepped.{Stepped}
use Rattle.http_frame.specs.Heads.{Framing, chunked, framing, most_body, HasGoodHead, FailsInHead}
use Rattle.http_frame.specs.Bodies.{ReadsBody, FailsInBody}
use Rattle.http_frame.specs.Events.{Begins, Fails, Asks, IsRest, IsTold}
use Rattle.http_frame.specs.Told.{IsPlan, IsFactsOf, IsAskingAs}
use Rattle.http_frame.specs.inner.RequestHeads.{IsSeen}
use Rattle.http_frame.specs.Chunks.{IsReading, IsTaken, Advances}
use Rattle.http_frame.specs.FramerStages.{request_by, awaited_of, pending_of, IsSized, IsBodyAt, IsBodyOf, IsOwed, StandsAt, Steps}
use Rattle.http_frame.proofs.HeadLaws.{good_unique, good_is_no_fault}
use Rattle.http_frame.proofs.BodyLaws.{body_stays, body_fault_stays}
use Rattle.http_frame.proofs.StepLaws.{body_to_come}
use Rattle.http_frame.proofs.ShortRests.{rest_is_short}
use Rattle.http_frame.proofs.Opened.{reading_goes_on}

-- ---- out of memory, and a fault again

pub memory_step : (stage : Stage) (items new : List ℕ) (at : ℕ) → new ≡ items → Steps stage items at (record { stage = stage; at = at; answer = Err Memory }) new
unfolding Steps
memory_step stage items new at same = λ bytes told x. (bytes, told, (refl, refl), subst (λ (i : List ℕ). StandsAt stage i at bytes told) (sym same) x)

pub failed_step : (stage : Stage) (fault : FrameFault) (items : List ℕ) (at : ℕ) → stage ≡ Failed fault
    → Steps stage items at (record { stage = Failed fault; at = at; answer = Err (Fault fault) }) items
unfolding Steps
failed_step stage fault items at is = λ bytes told x.
    let y : StandsAt (Failed fault) items at bytes told = subst (λ (s : Stage). StandsAt s items at bytes told) is x in
    (bytes, told, (y.0, y.1, refl, refl), y)

-- one step after a change that leaves the bytes the same
pub steps_after : (a b : Stage) (old mid new : List ℕ) (at place : ℕ) (r : Stepped) → ((bytes : List ℕ) (told : Bool) → StandsAt a old at bytes told → StandsAt b mid place bytes told)
    → Steps b mid place r new → Steps a old at r new
unfolding Steps
steps_after a b old mid new at place r f s = λ bytes told x. s bytes told (f bytes told x)

-- ---- the head

moved : (a b : List ℕ) (P : List ℕ → Type 0) → a ≡ b → P b → P a
moved a b P e x = subst P (sym e) x

pub more_head : (watch next : Watch) (items : List ℕ) (at : ℕ) → IsSeen (drop at items) (seen.Unfinished next)
    → Steps (Head watch) items at (record { stage = Head next; at = at; answer = Ok More }) items
unfolding Steps
more_head watch next items at is = λ bytes told x.
    let rest = moved bytes (drop at items) (λ (b : List ℕ). IsRest b) x.1 is.0 in
    (bytes, told, (inr (moved bytes (drop at items) (λ (b : List ℕ). ¬ (Asks b)) x.1 is.1), rest, refl, refl, rest_is_short bytes rest), x)

fault_told : (bytes : List ℕ) (told : Bool) (fault : FrameFault) → FailsInHead bytes fault → IsTold told bytes
fault_told bytes told fault x = inr (λ asks. good_is_no_fault bytes asks.0 asks.1 fault asks.2 x)

pub fault_head : (watch : Watch) (fault : FrameFault) (items : List ℕ) (at : ℕ) → IsSeen (drop at items) (seen.Fault fault)
    → Steps (Head watch) items at (record { stage = Failed fault; at = at; answer = Err (Fault fault) }) items
unfolding Steps
fault_head watch fault items at is = λ bytes told x.
    let f : FailsInHead bytes fault = moved bytes (drop at items) (λ (b : List ℕ). FailsInHead b fault) x.1 is in
    let t = fault_told bytes told fault f in
    (bytes, told, (t, inl f, refl, refl), (t, inl f))

owed : (owes : Bool) (bytes behind : List ℕ) (h : RequestHead) → HasGoodHead bytes h behind → IsAskingAs h owes → IsOwed owes false bytes
owed true bytes behind h good is = (refl, (h, behind, good, is.0, is.1))
owed false bytes behind h good is = inr (λ asks. is (same_head asks))
  where
    same_head : Asks bytes → IsAskingAs h true
    same_head asks =
        let e = (good_unique bytes asks.0 h asks.1 behind asks.2 good).0 in
        subst (λ (k : RequestHead). IsAskingAs k true) e (asks.3, asks.4)

take_none : (items : List ℕ) → take 0 items ≡ []
take_none [] = refl
take_none (b ∷ items) = refl

planned : (p : Plan) (h : RequestHead) (behind items : List ℕ) (at : ℕ) → IsPlan (most_body h) (framing h) p → behind ≡ drop at items → IsBodyAt (awaited_of p) h behind items at
planned plan.Absent h behind items at is e = (inl (is, refl), e)
planned (plan.Sized n) h behind items at is e = (inr is, e)
planned (plan.Chunked most) h behind items at is e = (
  is.0,
  (
    [],
    e,
    record {
      contents = [];
      last = [];
      begun = [];
      chunks = refl;
      part_is = (refl, is.1, refl, tt, refl);
      content_is = take_none items;
    },
  ),
)

pub good_stands : (watch : Watch) (g : GoodHead) (items : List ℕ) (at : ℕ) → IsSeen (drop at items) (seen.Good g)
    → (bytes : List ℕ) (told : Bool) → StandsAt (Head watch) items at bytes told → StandsAt (Body (pending_of g)) items (at + g.len) bytes told
good_stands watch g items at is bytes told x =
    let h = is.1.0 in
    let behind = drop g.len (drop at items) in
    let good : HasGoodHead bytes h behind = moved bytes (drop at items) (λ (b : List ℕ). HasGoodHead b h behind) x.1 is.1.1 in
    let owes = owed g.owes bytes behind h good is.1.4 in (
      subst (λ (t : Bool). IsOwed g.owes t bytes) (sym x.0) owes,
      record { head = h; behind = behind; good = good; facts_are = is.1.2; body_is = planned g.plan h behind items (at + g.len) is.1.3 (drop-drop g.len at items) },
    )

-- ---- the request

begun : (facts : HeadFacts) (h : RequestHead) (bytes behind body rest : List ℕ) → HasGoodHead bytes h behind → IsFactsOf facts h
    → ReadsBody (most_body h) (framing h) behind body rest → Begins bytes (request_by facts body) rest
begun facts h bytes behind body rest good is reads = record {
  head = h;
  behind = behind;
  good = good;
  body = reads;
  method = is.method;
  target = is.target;
  minor = is.minor;
  user = is.user;
  close = is.close;
  encoded = is.encoded;
  seen = is.seen;
}

abbrev pub Owing : HeadFacts → Awaited → Stage
Owing facts body = Body (record { facts = facts; owes = false; body = body })

drop_none : (items : List ℕ) → items ≡ drop 0 items
drop_none [] = refl
drop_none (b ∷ items) = refl

made : (r q : HttpRequest) (bytes rest : List ℕ) → r ≡ q → Begins bytes q rest → Begins bytes r rest
made r q bytes rest e x = subst (λ (v : HttpRequest). Begins bytes v rest) (sym e) x

pub whole_step : (facts : HeadFacts) (filled at : ℕ) (items new : List ℕ) (watch : Watch) (body : List ℕ) (request : HttpRequest) → body ≡ take filled items → new ≡ drop at items
    → request ≡ request_by facts body
    → Steps (Owing facts (Whole filled)) items at (record { stage = Head watch; at = 0; answer = Ok (Request request) }) new
unfolding Steps
whole_step facts filled at items new watch body request e f is = λ bytes told x.
    let of = x.1 in
    let reads : ReadsBody (most_body of.head) (framing of.head) of.behind body (drop at items) =
    moved body (take filled items) (λ (b : List ℕ). ReadsBody (most_body of.head) (framing of.head) of.behind b (drop at items)) e of.body_is in
    (drop at items, false, (x.0, made request (request_by facts body) bytes (drop at items) is (begun facts of.head bytes of.behind body (drop at items) of.good of.facts_are reads), refl), (refl, sym f ∙ drop_none new))

-- the same where the body was copied, and the rest stays where it is
pub front_step : (facts : HeadFacts) (filled at : ℕ) (items : List ℕ) (watch : Watch) (body : List ℕ) (request : HttpRequest) → body ≡ take filled (drop 0 items)
    → request ≡ request_by facts body
    → Steps (Owing facts (Whole filled)) items at (record { stage = Head watch; at = at; answer = Ok (Request request) }) items
unfolding Steps
front_step facts filled at items watch body request e is = λ bytes told x.
    let of = x.1 in
    let same : body ≡ take filled items = e ∙ ap (take filled) (sym (drop_none items)) in
    let reads : ReadsBody (most_body of.head) (framing of.head) of.behind body (drop at items) =
    moved body (take filled items) (λ (b : List ℕ). ReadsBody (most_body of.head) (framing of.head) of.behind b (drop at items)) same of.body_is in
    (drop at items, false, (x.0, made request (request_by facts body) bytes (drop at items) is (begun facts of.head bytes of.behind body (drop at items) of.good of.facts_are reads), refl), (refl, refl))

zero_of : (n : ℕ) (xs : List ℕ) → n ≡ 0 → take n xs ≡ []
zero_of n xs e = ap (λ k. take k xs) e ∙ take_none xs

drop_zero_of : (n : ℕ) (xs : List ℕ) → n ≡ 0 → xs ≡ drop n xs
drop_zero_of n xs e = drop_none xs ∙ ap (λ k. drop k xs) (sym e)

sized_body : (most n : ℕ) (how : Framing) (behind : List ℕ) → IsSized n how → n ≤ length behind → ReadsBody most how behind (take n behind) (drop n behind)
sized_body most n how behind (inl x) fits =
    subst (λ (f : Framing). ReadsBody most f behind (take n behind) (drop n behind)) (sym x.0) (zero_of n behind x.1, drop_zero_of n behind x.1)
sized_body most n how behind (inr x) fits =
    subst (λ (f : Framing). ReadsBody most f behind (take n behind) (drop n behind)) (sym x) (length-take-le n behind fits, sym (take-append-drop n behind))

pub copied_step : (facts : HeadFacts) (count at : ℕ) (items : List ℕ) (watch : Watch) (body : List ℕ) (request : HttpRequest) → body ≡ take count (drop at items) → at + count ≤ length items
    → request ≡ request_by facts body
    → Steps (Owing facts (Sized count)) items at (record { stage = Head watch; at = at + count; answer = Ok (Request request) }) items
unfolding Steps
copied_step facts count at items watch body request e fits is = λ bytes told x.
    let of = x.1 in
    let behind : of.behind ≡ drop at items = of.body_is.1 in
    let there : length (drop at items) ≡ length items - at = length-drop at items in
    let enough : count ≤ length (drop at items) = omega arith in
    let reads = sized_body (most_body of.head) count (framing of.head) (drop at items) of.body_is.0 enough in
    let here : ReadsBody (most_body of.head) (framing of.head) of.behind body (drop (at + count) items) =
    moved of.behind (drop at items) (λ (b : List ℕ). ReadsBody (most_body of.head) (framing of.head) b body (drop (at + count) items)) behind
    (moved body (take count (drop at items)) (λ (b : List ℕ). ReadsBody (most_body of.head) (framing of.head) (drop at items) b (drop (at + count) items)) e
    (subst (λ (r : List ℕ). ReadsBody (most_body of.head) (framing of.head) (drop at items) (take count (drop at items)) r) (drop-drop count at items) reads)) in
    (drop (at + count) items, false, (x.0, made request (request_by facts body) bytes (drop (at + count) items) is (begun facts of.head bytes of.behind body (drop (at + count) items) of.good of.facts_are here), refl), (refl, refl))

pub sized_is_whole : (facts : HeadFacts) (count at : ℕ) (items : List ℕ) → at ≡ 0 → count ≤ length items
    → (bytes : List ℕ) (told : Bool) → StandsAt (Owing facts (Sized count)) items at bytes told → StandsAt (Owing facts (Whole count)) items count bytes told
sized_is_whole facts count at items zero_at fits bytes told x =
    let of = x.1 in
    let behind : of.behind ≡ items = of.body_is.1 ∙ sym (drop_zero_of at items zero_at) in
    let reads = sized_body (most_body of.head) count (framing of.head) items of.body_is.0 fits in (
      x.0,
      record {
        head = of.head;
        behind = of.behind;
        good = of.good;
        facts_are = of.facts_are;
        body_is = moved of.behind items (λ (b : List ℕ). ReadsBody (most_body of.head) (framing of.head) b (take count items) (drop count items)) behind reads;
      },
    )

-- ---- more bytes are wanted

sized_rest : (bytes : List ℕ) (h : RequestHead) (behind : List ℕ) (n : ℕ) → HasGoodHead bytes h behind → IsSized n (framing h) → length behind < n → IsRest bytes
sized_rest bytes h behind n good (inl x) lacks = absurd (let e : n ≡ 0 = x.1 in omega arith)
sized_rest bytes h behind n good (inr x) lacks = body_to_come bytes h behind n good x lacks

pub sized_more : (facts : HeadFacts) (count at : ℕ) (items new : List ℕ) → new ≡ drop at items → length items - at < count
    → Steps (Owing facts (Sized count)) items at (record { stage = Owing facts (Sized count); at = 0; answer = Ok More }) new
unfolding Steps
sized_more facts count at items new e lacks = λ bytes told x.
    let of = x.1 in
    let behind : of.behind ≡ drop at items = of.body_is.1 in
    let size : length of.behind ≡ length items - at = ap length behind ∙ length-drop at items in
    let rest = sized_rest bytes of.head of.behind count of.good of.body_is.0 (omega arith) in (
      bytes,
      told,
      (x.0, rest, refl, refl, rest_is_short bytes rest),
      (x.0, record { head = of.head; behind = of.behind; good = of.good; facts_are = of.facts_are; body_is = (of.body_is.0, behind ∙ sym e ∙ drop_none new) }),
    )

chunked_rest : (bytes : List ℕ) (h : RequestHead) (behind : List ℕ) → HasGoodHead bytes h behind → framing h ≡ chunked
    → ((b r : List ℕ) → ReadsBody (most_body h) chunked behind b r → ⊥) → ((f : FrameFault) → FailsInBody (most_body h) chunked behind f → ⊥) → IsRest bytes
chunked_rest bytes h behind good how no_body no_fault = (λ r rest b. request r rest b, λ f x. fault f x)
  where
    request : (r : HttpRequest) (rest : List ℕ) → Begins bytes r rest → ⊥
    request r rest b =
        let same = good_unique bytes b.head h b.behind behind b.good good in
        no_body r.body rest
        (subst (λ (t : List ℕ). ReadsBody (most_body h) chunked t r.body rest) same.1
        (subst (λ (f : Framing). ReadsBody (most_body h) f b.behind r.body rest) how
        (subst (λ (k : RequestHead). ReadsBody (most_body k) (framing k) b.behind r.body rest) same.0 b.body)))

    fault : (f : FrameFault) → Fails bytes f → ⊥
    fault f (inl x) = good_is_no_fault bytes h behind f good x
    fault f (inr (k, t, fine, x)) =
        let same = good_unique bytes k h t behind fine good in
        no_fault f
        (subst (λ (t : List ℕ). FailsInBody (most_body h) chunked t f) same.1
        (subst (λ (g : Framing). FailsInBody (most_body h) g t f) how
        (subst (λ (k : RequestHead). FailsInBody (most_body k) (framing k) t f) same.0 x)))

-- what was read of a chunked body stands before the rest
abbrev IsRead : HeadFacts → List ℕ → Taken → List ℕ → Bool → Type 0
IsRead facts items taken bytes told =
    IsTold told bytes × ((h : RequestHead) × (text : List ℕ) × (rest : List ℕ) × (rest ≡ drop taken.at items) × HasGoodHead bytes h (text ++ rest) × IsFactsOf facts h × (framing h ≡ chunked)
    × IsTaken (most_body h) text (take taken.chunks.filled items) taken.chunks.part taken.chunks.room taken.end)

read_on : (facts : HeadFacts) (chunks : Chunks) (at : ℕ) (items new : List ℕ) (taken : Taken) → Advances items (record { chunks = chunks; at = at; end = end.More }) new taken
    → (bytes : List ℕ) (told : Bool) → StandsAt (Owing facts (Chunked chunks)) items at bytes told → IsRead facts new taken bytes told
unfolding Advances
read_on facts chunks at items new taken f bytes told x =
    let of = x.1 in
    let was = of.body_is.1 in
    let step = f (most_body of.head) was.0 was.2 in
    let behind : of.behind ≡ (was.0 ++ step.0) ++ drop taken.at new =
    was.1 ∙ ap (λ z. was.0 ++ z) step.1 ∙ sym (append_assoc was.0 step.0 (drop taken.at new)) in
    (x.0, (of.head, was.0 ++ step.0, drop taken.at new, refl, subst (λ (b : List ℕ). HasGoodHead bytes of.head b) behind of.good, of.facts_are, of.body_is.0, step.2))

same_end : (e d : ChunkEnd) (most : ℕ) (text items : List ℕ) (taken : Taken) → e ≡ d → IsTaken most text (take taken.chunks.filled items) taken.chunks.part taken.chunks.room e
    → IsTaken most text (take taken.chunks.filled items) taken.chunks.part taken.chunks.room d
same_end e d most text items taken is x = subst (λ (v : ChunkEnd). IsTaken most text (take taken.chunks.filled items) taken.chunks.part taken.chunks.room v) is x

take_twice : (n : ℕ) (xs ys : List ℕ) → ys ≡ take n xs → n ≤ length xs → (take n ys ≡ take n xs) × (drop n ys ≡ [])
take_twice n xs ys e fits =
    let size : length ys ≡ n = ap length e ∙ length-take-le n xs fits in
    let fits_here : length ys ≤ n = omega arith in
    (take_all n ys fits_here ∙ e, drop_of_length-le ys fits_here)

pub chunked_more : (facts : HeadFacts) (chunks : Chunks) (at : ℕ) (items mid new : List ℕ) (taken : Taken)
    → Advances items (record { chunks = chunks; at = at; end = end.More }) mid taken → taken.end ≡ end.More → length mid ≤ taken.at → taken.chunks.filled ≤ length mid
    → new ≡ take taken.chunks.filled mid
    → Steps (Owing facts (Chunked chunks)) items at (record { stage = Owing facts (Chunked taken.chunks); at = taken.chunks.filled; answer = Ok More }) new
unfolding Steps
chunked_more facts chunks at items mid new taken f going all fits e = λ bytes told x.
    let r = read_on facts chunks at items mid taken f bytes told x in
    let h = r.1.0 in
    let text = r.1.1 in
    let nil : r.1.2 ≡ [] = r.1.3 ∙ drop_of_length-le mid all in
    let good : HasGoodHead bytes h text = subst (λ (b : List ℕ). HasGoodHead bytes h b) (ap (λ z. text ++ z) nil ∙ append-nil text) r.1.4 in
    let reading = same_end taken.end end.More (most_body h) text mid taken going r.1.7 in
    let opened = reading_goes_on (most_body h) text (take taken.chunks.filled mid) taken.chunks.part taken.chunks.room reading in
    let rest = chunked_rest bytes h text good r.1.6 opened.0 opened.1 in
    let twice = take_twice taken.chunks.filled mid new e fits in (
      bytes,
      told,
      (r.0, rest, refl, refl, rest_is_short bytes rest),
      (
        r.0,
        record {
          head = h;
          behind = text;
          good = good;
          facts_are = r.1.5;
          body_is = (
            r.1.6,
            (
              text,
              sym (append-nil text) ∙ ap (λ z. text ++ z) (sym twice.1),
              subst (λ (c : List ℕ). IsReading (most_body h) text c taken.chunks.part taken.chunks.room) (sym twice.0) reading,
            ),
          );
        },
      ),
    )

pub chunked_whole : (facts : HeadFacts) (chunks : Chunks) (at : ℕ) (items new : List ℕ) (taken : Taken)
    → Advances items (record { chunks = chunks; at = at; end = end.More }) new taken → taken.end ≡ end.Whole
    → (bytes : List ℕ) (told : Bool) → StandsAt (Owing facts (Chunked chunks)) items at bytes told → StandsAt (Owing facts (Whole taken.chunks.filled)) new taken.at bytes told
chunked_whole facts chunks at items new taken f over bytes told x =
    let r = read_on facts chunks at items new taken f bytes told x in
    let h = r.1.0 in
    let text = r.1.1 in
    let body = same_end taken.end end.Whole (most_body h) text new taken over r.1.7 in
    let more = body_stays (most_body h) chunked text r.1.2 (take taken.chunks.filled new) [] body in
    let there : ReadsBody (most_body h) chunked (text ++ r.1.2) (take taken.chunks.filled new) (drop taken.at new) =
    subst (λ (z : List ℕ). ReadsBody (most_body h) chunked (text ++ r.1.2) (take taken.chunks.filled new) z) r.1.3 more in (
      r.0,
      record {
        head = h;
        behind = text ++ r.1.2;
        good = r.1.4;
        facts_are = r.1.5;
        body_is = subst (λ (g : Framing). ReadsBody (most_body h) g (text ++ r.1.2) (take taken.chunks.filled new) (drop taken.at new)) (sym r.1.6) there;
      },
    )

pub chunked_fault : (facts : HeadFacts) (chunks : Chunks) (at : ℕ) (items new : List ℕ) (taken : Taken) (fault : FrameFault)
    → Advances items (record { chunks = chunks; at = at; end = end.More }) new taken → taken.end ≡ end.Fault fault
    → Steps (Owing facts (Chunked chunks)) items at (record { stage = Failed fault; at = taken.at; answer = Err (Fault fault) }) new
unfolding Steps
chunked_fault facts chunks at items new taken fault f over = λ bytes told x.
    let r = read_on facts chunks at items new taken f bytes told x in
    let h = r.1.0 in
    let text = r.1.1 in
    let bad = same_end taken.end (end.Fault fault) (most_body h) text new taken over r.1.7 in
    let more : FailsInBody (most_body h) (framing h) (text ++ r.1.2) fault =
    subst (λ (g : Framing). FailsInBody (most_body h) g (text ++ r.1.2) fault) (sym r.1.6) (body_fault_stays (most_body h) chunked text r.1.2 fault bad) in
    let fails : Fails bytes fault = inr (h, text ++ r.1.2, r.1.4, more) in
    (bytes, told, (r.0, fails, refl, refl), (r.0, fails))

-- ---- Continue

owing : (owes told : Bool) (bytes : List ℕ) → owes ≡ true → IsOwed owes told bytes → (told ≡ false) × Asks bytes
owing true told bytes e x = x
owing false told bytes e x = let bad : false ≡ true = e in cc

pub continue_step : (p : Pending) (items : List ℕ) (at : ℕ) → p.owes ≡ true
    → Steps (Body p) items at (record { stage = Owing p.facts p.body; at = at; answer = Ok Continue }) items
unfolding Steps
continue_step p items at e = λ bytes told x.
    let o = owing p.owes told bytes e x.0 in (bytes, true, (o.0, o.1, refl, refl), (inl refl, x.1))

not_owing : (owes told : Bool) (bytes : List ℕ) → owes ≡ false → IsOwed owes told bytes → IsTold told bytes
not_owing true told bytes e x = let bad : true ≡ false = e in cc
not_owing false told bytes e x = x

-- a body for which nothing more is owed
pub body_steps : (p : Pending) (body : Awaited) (old new : List ℕ) (at : ℕ) (r : Stepped) → p.owes ≡ false → p.body ≡ body → Steps (Owing p.facts body) old at r new → Steps (Body p) old at r new
unfolding Steps
body_steps p body old new at r e same s = λ bytes told x.
    s bytes told (not_owing p.owes told bytes e x.0, subst (λ (b : Awaited). IsBodyOf p.facts b old at bytes) same x.1)
