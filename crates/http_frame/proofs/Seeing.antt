-- From what the parser tells of the front of a request to what its bytes tell.
use Rattle.std.proofs.Common.{◌≡◌, ℕ, ◌<◌, ◌≤◌, Bool, true, false, List, ◌++◌, length, map, take, drop, min, Some, Result, Ok, Err, refl, sym, ap, ◌∙◌, arith, inl, inr, subst}
use Rattle.std.proofs.lemmas.List.{take-append-drop, length-map, length-take, take_all}
use Rattle.std.proofs.lemmas.List.Elements.{All-weaker}
use Rattle.std.specs.Prelude.{IfOk}
use Rattle.std.specs.declared.alloc.AllocError.{AllocError}
use Rattle.std.proofs.Math.Seq.{drop-append_seam}
use Rattle.httparse.specs.declared.spans.Span.{Span}
use Rattle.httparse.specs.declared.spans.HeaderSpan.{HeaderSpan}
use Rattle.httparse.specs.declared.spans.RequestSpans.{RequestSpans}
use Rattle.httparse.specs.Grammar.{RequestHead, print_request, ReadsRequest, HasNoRequest}
use Rattle.httparse.specs.Spans.{IsWithin, IsHeaderWithin, IsRequestWithin, IsRequestAt, IsRequestOf, name_and_value, header_bytes}
use Rattle.httparse.proofs.GrammarLemmas.{ReadsRequest-append}
use Rattle.http_frame.specs.declared.types.FrameFault.{FrameFault}
use Rattle.http_frame.specs.declared.types.FrameFault.TheVariants.{HeadTooLong}
use Rattle.http_frame.specs.declared.head.HeadFacts.{HeadFacts}
use Rattle.http_frame.specs.declared.head.Plan.{Plan}
use Rattle.http_frame.specs.declared.seen.Seen.{Seen}
use Rattle.http_frame.specs.declared.seen.Seen.TheVariants.{Unfinished, Fault, Good}
use Rattle.http_frame.specs.declared.watch.Watch.{Watch}
use Rattle.http_frame.specs.Heads.{most_head, front, first_line, has_other_version, most_body, framing, fault_of, HasOtherVersion, IsHopeless, HasHead, FailsInHead}
use Rattle.http_frame.specs.Told.{checked_by, IsFactsOf, IsAskingAs}
use Rattle.http_frame.specs.Watched.{IsWatch}
use Rattle.http_frame.specs.inner.RequestHeads.{IsPlaced, IsHeadAt, IsSeen, checked_at}
use Rattle.http_frame.proofs.HeadFacts.{IsChecked, is_checked, is_facts, is_asking}
use Rattle.http_frame.proofs.StepLaws.{unfinished_is_rest}
use Rattle.http_frame.proofs.Versions.{watched_version, head_version}

pub short_front : (bytes : List ℕ) → length bytes ≤ most_head → front bytes ≡ bytes
short_front bytes short = take_all most_head bytes short

differ : (b : Bool) → b ≡ false → b ≡ true → ⊥
differ b e f = let bad : false ≡ true = sym e ∙ f in cc

-- ---- no head yet

pub unfinished_short : (bytes : List ℕ) (next : Watch) → length bytes < most_head → HasNoRequest (front bytes) × ¬ (IsHopeless bytes)
    → (next.seen ≡ length (front bytes)) × IsWatch next (front bytes) → IsSeen bytes (Unfinished next)
unfinished_short bytes next short none watch =
    let same = short_front bytes (omega arith) in
    let version : ¬ (HasOtherVersion bytes) = λ v. differ (has_other_version (first_line (front bytes))) (watched_version next (front bytes) watch.1) v in
    let rest = unfinished_is_rest bytes short version none.0 none.1 in
    (rest.0, rest.1, short, watch.0 ∙ ap length same, subst (λ (b : List ℕ). IsWatch next b) same watch.1)

pub unfinished_full : (bytes : List ℕ) (next : Watch) → most_head ≤ length bytes → HasNoRequest (front bytes) × ¬ (IsHopeless bytes)
    → IsWatch next (front bytes) → FailsInHead bytes HeadTooLong
unfinished_full bytes next full none watch =
    inr (λ v. differ (has_other_version (first_line (front bytes))) (watched_version next (front bytes) watch) v, inr (inl ((full, none.0, none.1), refl)))

-- ---- a whole head

within_more : (n m : ℕ) (s : Span) → n ≤ m → IsWithin n s → IsWithin m s
within_more n m s le is = (is.0, omega arith)

pub placed : (block : List ℕ) (headers : List HeaderSpan) (spans : RequestSpans) → IsRequestWithin block headers spans → IsPlaced block spans (take spans.headers headers)
placed block headers spans within =
    let fits = within.section.len_fits in record {
      method = within_more spans.len (length block) spans.method fits within.method;
      target = within_more spans.len (length block) spans.path fits within.path;
      headers_fit = All-weaker (IsHeaderWithin spans.len) (IsHeaderWithin (length block))
          (λ h is. (within_more spans.len (length block) h.name fits is.0, within_more spans.len (length block) h.value fits is.1))
          (take spans.headers headers) within.section.headers_fit;
    }

head_here : (bytes : List ℕ) (headers : List HeaderSpan) (spans : RequestSpans) (h : RequestHead) → IsRequestAt (front bytes) headers spans h
    → spans.len ≤ length (front bytes) → length (front bytes) ≤ most_head → HasHead bytes h (drop spans.len bytes)
head_here bytes headers spans h at within small =
    let more = drop most_head bytes in
    let rest = drop spans.len (front bytes) ++ more in
    let moved : ReadsRequest bytes h rest =
    subst (λ (b : List ℕ). ReadsRequest b h rest) (take-append-drop most_head bytes) (ReadsRequest-append (front bytes) h (drop spans.len (front bytes)) more at.reads) in
    let here : drop spans.len bytes ≡ rest =
    ap (λ n. drop n bytes) at.len ∙ ap (drop (length (print_request h))) moved.1 ∙ drop-append_seam (print_request h) rest in
    let fits : length (print_request h) ≤ most_head = omega (arith, at.len) in
    (subst (λ (r : List ℕ). ReadsRequest bytes h r) (sym here) moved, fits)

at_parts : (block : List ℕ) (headers : List HeaderSpan) (spans : RequestSpans) (h : RequestHead) → IsRequestAt block headers spans h
    → checked_at block spans (take spans.headers headers) ≡ checked_by h.method h.target h.minor (length h.fields) (map name_and_value h.fields)
at_parts block headers spans h at =
    let found = take spans.headers headers in
    let count : length found ≡ length h.fields =
    sym (length-map found (header_bytes block)) ∙ ap (λ (fs : List (List ℕ × List ℕ)). length fs) at.fields ∙ length-map h.fields name_and_value in
    λ i. checked_by (at.method i) (at.path i) (at.version i) (count i) (at.fields i)

fails_at : (h : RequestHead) (f : FrameFault) (r : Result Plan FrameFault) → IsChecked (fault_of h) (most_body h) (framing h) r → r ≡ Err f → fault_of h ≡ Some f
fails_at h f r is e = subst (λ (v : Result Plan FrameFault). IsChecked (fault_of h) (most_body h) (framing h) v) e is

good_at : (h : RequestHead) (plan : Plan) (r : Result Plan FrameFault) → IsChecked (fault_of h) (most_body h) (framing h) r → r ≡ Ok plan
    → IsChecked (fault_of h) (most_body h) (framing h) (Ok plan)
good_at h plan r is e = subst (λ (v : Result Plan FrameFault). IsChecked (fault_of h) (most_body h) (framing h) v) e is

pub head_seen : (bytes : List ℕ) (headers : List HeaderSpan) (spans : RequestSpans) (seen : Seen) → IsRequestOf (front bytes) headers spans
    → IsRequestWithin (front bytes) headers spans → length (front bytes) ≤ most_head → length (front bytes) ≤ length bytes
    → IsHeadAt (front bytes) spans (take spans.headers headers) seen → IsSeen bytes seen
head_seen bytes headers spans (Unfinished w) (h, at) within small fits is = absurd is
head_seen bytes headers spans (Fault f) (h, at) within small fits is =
    let version = head_version (front bytes) h (drop spans.len (front bytes)) at.reads in
    inr (
      λ v. differ (has_other_version (first_line (front bytes))) version v,
      inr (inr (
        h,
        drop spans.len bytes,
        head_here bytes headers spans h at within.section.len_fits small,
        fails_at h f (checked_by h.method h.target h.minor (length h.fields) (map name_and_value h.fields)) (is_checked h) (sym (at_parts (front bytes) headers spans h at) ∙ is),
      )),
    )
head_seen bytes headers spans (Good g) (h, at) within small fits is =
    let version = head_version (front bytes) h (drop spans.len (front bytes)) at.reads in
    let found = take spans.headers headers in
    let checked = good_at h g.plan (checked_by h.method h.target h.minor (length h.fields) (map name_and_value h.fields)) (is_checked h) (sym (at_parts (front bytes) headers spans h at) ∙ is.0) in
    let whole = head_here bytes headers spans h at within.section.len_fits small in
    let len : g.len ≡ spans.len = is.3 in
    let le : g.len ≤ length bytes = let f = within.section.len_fits in omega arith in (
      le,
      (
        h,
        record {
          version = λ v. differ (has_other_version (first_line (front bytes))) version v;
          whole = subst (λ (n : ℕ). HasHead bytes h (drop n bytes)) (sym len) whole;
          good = checked.0;
        },
        subst (λ (f : HeadFacts). IsFactsOf f h) (sym is.1) (is_facts (front bytes) spans found h at.method at.path at.version at.fields),
        checked.1,
        subst (λ (b : Bool). IsAskingAs h b) (sym is.2) (is_asking (front bytes) found spans.version h g.plan at.version at.fields checked.1),
      ),
    )

pub front_short : (bytes block : List ℕ) → block ≡ front bytes → length block ≤ 16384
front_short bytes block e =
    let l : length block ≡ min most_head (length bytes) = ap length e ∙ length-take most_head bytes in omega arith

front_fits : (bytes : List ℕ) → length (front bytes) ≤ length bytes
front_fits bytes = let l : length (front bytes) ≡ min most_head (length bytes) = length-take most_head bytes in omega arith

seen_lifted : (bytes : List ℕ) (P : Seen → Type 0) (r : Result Seen AllocError) → ((s : Seen) → P s → IsSeen bytes s) → IfOk r P → IfOk r (IsSeen bytes)
seen_lifted bytes P (Ok s) f x = f s x
seen_lifted bytes P (Err e) f x = tt

pub whole_seen : (bytes block : List ℕ) (headers found : List HeaderSpan) (spans : RequestSpans) (r : Result Seen AllocError) → block ≡ front bytes
    → IsRequestOf block headers spans → IsRequestWithin block headers spans → found ≡ take spans.headers headers
    → IfOk r (IsHeadAt block spans found) → IfOk r (IsSeen bytes)
whole_seen bytes block headers found spans r e of within same x =
    let small = front_short bytes (front bytes) refl in
    let of_front = subst (λ (b : List ℕ). IsRequestOf b headers spans) e of in
    let within_front = subst (λ (b : List ℕ). IsRequestWithin b headers spans) e within in
    seen_lifted bytes (IsHeadAt block spans found) r
    (λ s is. head_seen bytes headers spans s of_front within_front small (front_fits bytes)
    (subst (λ (b : List ℕ). IsHeadAt b spans (take spans.headers headers) s) e (subst (λ (hs : List HeaderSpan). IsHeadAt block spans hs s) same is))) x
