-- What is left, where neither a request nor a fault stands at the front, is short.
use Rattle.std.proofs.Common.{◌≡◌, ℕ, zero, suc, ◌+◌, ◌-◌, ◌*◌, ◌^◌, ◌<◌, ◌≤◌, Bool, true, false, List, [], ◌∷◌, ◌++◌, length, take, drop, if◌then◌else◌, nat_lt, Option, Some, None, refl, sym, ap, ◌∙◌, arith, append_assoc, append-nil, inl, inr, subst, length-append, length-take-le, take-append-drop, lt_of_not-le}
use Rattle.std.specs.List.{flat_map}
use Rattle.httparse.specs.Ascii.{crlf_bytes}
use Rattle.httparse.specs.Grammar.{RequestHead, print_request, ReadsRequest, HasNoRequest, ChunkLine, chunk_size, print_extension, print_chunk_line, Field, LineEnd, print_section, ReadsSection}
use Rattle.httparse.proofs.GrammarLemmas.{ReadsSection-append, ReadsRequest-append}
use Rattle.http_frame.specs.declared.types.FrameFault.{FrameFault}
use Rattle.http_frame.specs.declared.types.FrameFault.TheVariants.{BadHead, HeadTooLong, BodyTooLong, BadChunk, Version}
use Rattle.http_frame.specs.Heads.{Framing, absent, sized, chunked, badly, most_head, front, fault_of, framing_fault, framing, most_body, lacks_host, user_of, turn_of, closes, is_encoded, HasOtherVersion, IsHopeless, HasGoodHead}
use Rattle.http_frame.specs.Bodies.{IsSizeLine, ReadsSize, NeverHasSize, ReadsChunk, ReadsChunks, room_left, ReadsLast, HasBadTrailer, ReadsTrailers, HasLongTrailers, ReadsBody, FailsInChunk, FailsInBody}
use Rattle.http_frame.specs.Events.{IsRest}
use Rattle.http_frame.proofs.BodyLaws.{same_cut}
use Rattle.http_frame.proofs.SizeLaws.{line_text}

not_more : (n m : ℕ) → (m < n → ⊥) → n ≤ m
not_more n m none = let lt : n < suc m = lt_of_not-le (λ (le : suc m ≤ n). none le) in omega arith

-- ---- a front

cut_front : (p text more rest : List ℕ) → text ++ more ≡ p ++ rest → length p ≤ length text → (behind : List ℕ) × (text ≡ p ++ behind)
cut_front p text more rest e fits =
    let n = length p in
    let parts = take-append-drop n text in
    let same = same_cut (take n text) p (drop n text ++ more) rest (sym (append_assoc (take n text) (drop n text) more) ∙ ap (λ b. b ++ more) parts ∙ e) (length-take-le n text fits) in
    (drop n text, sym parts ∙ ap (λ b. b ++ drop n text) same.0)

-- ---- the line before a chunk

size_long : (l : ChunkLine) → IsSizeLine l → length (print_chunk_line l) ≤ 267
size_long l is =
    let behind = print_extension l.extension ++ 13 ∷ 10 ∷ [] in
    let whole : print_chunk_line l ≡ l.digits ++ behind = sym (append-nil (print_chunk_line l)) ∙ line_text l [] is.no_pad in
    let size : length (print_chunk_line l) ≡ length l.digits + length behind = ap length whole ∙ length-append l.digits behind in
    let end : length behind ≡ length (print_extension l.extension) + 2 = length-append (print_extension l.extension) (13 ∷ 10 ∷ []) in
    let few : length l.digits ≤ 8 = is.few in
    let short : length (print_extension l.extension) ≤ 257 = is.short in omega arith

-- a text as long as the longest line, which one may begin, begins with one
size_found : (text : List ℕ) → ¬ (NeverHasSize text) → 267 ≤ length text
    → ((l : ChunkLine) (behind : List ℕ) → ReadsSize text l behind → length text ≤ 267 + length behind → ⊥) → ⊥
size_found text hope long so = hope (λ more l rest x.
    let short = size_long l x.0 in
    let cut = cut_front (print_chunk_line l) text more rest x.1.1 (omega arith) in
    let size : length text ≡ length (print_chunk_line l) + length cut.0 = ap length cut.1 ∙ length-append (print_chunk_line l) cut.0 in
    so l cut.0 (x.0, (x.1.0, cut.1)) (omega arith))

-- ---- chunks

-- no fault comes after whole chunks, and no end of the body
record IsQuiet (room : ℕ) (text : List ℕ) : Type 0 where
  pub no_fault : (cs : List (List ℕ)) (last : List ℕ) (f : FrameFault) → ReadsChunks room text cs last → FailsInChunk (room_left room cs) last f → ⊥
  pub no_end : (cs : List (List ℕ)) (last trailers rest : List ℕ) → ReadsChunks room text cs last → ReadsLast last trailers → ReadsTrailers trailers rest → ⊥

quiet_behind : (room : ℕ) (text c rest : List ℕ) → IsQuiet room text → length c ≤ room → ReadsChunk text c rest → IsQuiet (room - length c) rest
quiet_behind room text c rest quiet fits x = record {
  no_fault = λ cs last f y fault. quiet.no_fault (c ∷ cs) last f (fits, (rest, x, y)) fault;
  no_end = λ cs last trailers after y end t. quiet.no_end (c ∷ cs) last trailers after (fits, (rest, x, y)) end t;
}

-- trailers that do not end
trailers_short : (room : ℕ) (text rest : List ℕ) → IsQuiet room text → ReadsLast text rest → most_head ≤ length rest → ⊥
trailers_short room text rest quiet last long = no_long (inl (long, λ fields end r x. whole fields end r x, no_bad))
  where
    no_bad : HasBadTrailer (front rest) → ⊥
    no_bad bad = quiet.no_fault [] text BadChunk refl (inr (inr (inr (rest, last, inl (bad, refl)))))

    no_long : HasLongTrailers rest → ⊥
    no_long x = quiet.no_fault [] text HeadTooLong refl (inr (inr (inr (rest, last, inr (x, refl)))))

    whole : (fields : List Field) (end : LineEnd) (r : List ℕ) → ReadsSection (front rest) fields end r → ⊥
    whole fields end r x =
        let after = drop most_head rest in
        let reads : ReadsSection rest fields end (r ++ after) = subst (λ (t : List ℕ). ReadsSection t fields end (r ++ after)) (take-append-drop most_head rest) (ReadsSection-append (front rest) fields end r after x) in
        let size : length (front rest) ≡ length (print_section fields end) + length r = ap length x.1 ∙ length-append (print_section fields end) r in
        let taken : length (front rest) ≡ most_head = length-take-le most_head rest long in
        let short : length (print_section fields end) ≤ most_head = omega arith in
        let few : length fields ≤ 64 = not_more (length fields) 64 (λ many. no_long (inr (fields, end, r ++ after, reads, short, many))) in
        quiet.no_end [] text rest (r ++ after) refl last (record { fields = fields; last = end; reads = reads; short = short; few = few })

-- what is read on after a chunk
abbrev Goes : ℕ → Type 0
Goes room = (c rest : List ℕ) → 0 < length c → length c ≤ room → IsQuiet (room - length c) rest → 270 * (room - length c) + 16651 ≤ length rest → ⊥

chunk_short : (room n : ℕ) (text behind : List ℕ) (l : ChunkLine) → IsQuiet room text → ReadsSize text l behind → chunk_size l ≡ n → 0 < n → n ≤ room
    → length text ≤ 267 + length behind → 270 * room + 16651 ≤ length text → Goes room → ⊥
chunk_short room n text behind l quiet x is some fits line long go =
    let content = take n behind in
    let after = drop n behind in
    let enough : n + 2 ≤ length behind = omega arith in
    let fitting : n ≤ length behind = omega arith in
    let parts : content ++ after ≡ behind = take-append-drop n behind in
    let size : length content ≡ n = length-take-le n behind fitting in
    let sum : length behind ≡ length content + length after = ap length (sym parts) ∙ length-append content after in
    let two : 2 ≤ length after = omega arith in
    let size_is : chunk_size l ≡ length content = is ∙ sym size in
    let here : 0 < length content = omega arith in
    let within : length content ≤ room = omega arith in
    let lacks : ((more rest : List ℕ) → ¬ (after ++ more ≡ crlf_bytes ++ rest)) → ⊥ =
    λ never. quiet.no_fault [] text BadChunk refl (inr (inr (inl (
      record {
        line = l;
        content = content;
        after = after;
        reads = subst (λ (b : List ℕ). ReadsSize text l b) (sym parts) x;
        some = here;
        size_is = size_is;
        fits = within;
        never = never;
      },
      refl,
    )))) in
    lacks (λ more rest e.
    let cut = cut_front crlf_bytes after more rest e two in
    let left : length after ≡ 2 + length cut.0 = ap length cut.1 ∙ length-append crlf_bytes cut.0 in
    let chunk : ReadsChunk text content cut.0 = record {
      line = l;
      behind = behind;
      reads = x;
      some = here;
      size_is = size_is;
      whole = sym parts ∙ ap (λ b. content ++ b) cut.1;
    } in
    go content cut.0 here within (quiet_behind room text content cut.0 quiet within chunk) (omega arith))

-- one line: no chunk, or one after which it goes on
line_short : (room n : ℕ) (text behind : List ℕ) (l : ChunkLine) → IsQuiet room text → ReadsSize text l behind → chunk_size l ≡ n → n ≤ room
    → length text ≤ 267 + length behind → 270 * room + 16651 ≤ length text → Goes room → ⊥
line_short room zero text behind l quiet x is fits line long go = trailers_short room text behind quiet (l, x, is) (omega arith)
line_short room (suc n) text behind l quiet x is fits line long go =
    let some : 0 < suc n = omega arith in chunk_short room (suc n) text behind l quiet x is some fits line long go

text_short : (room : ℕ) (text : List ℕ) → IsQuiet room text → 270 * room + 16651 ≤ length text → Goes room → ⊥
text_short room text quiet long go =
    size_found text (λ never. quiet.no_fault [] text BadChunk refl (inl (never, refl))) (omega arith) (λ l behind x line.
    let fits = not_more (chunk_size l) room (λ over. quiet.no_fault [] text BodyTooLong refl (inr (inl ((l, behind, x, over), refl)))) in
    line_short room (chunk_size l) text behind l quiet x refl fits line long go)

-- each chunk takes at most 270 bytes for each of its content: a line of 267, the content and CR LF
chunks_short : (fuel room : ℕ) (text : List ℕ) → room ≤ fuel → IsQuiet room text → 270 * room + 16651 ≤ length text → ⊥
chunks_short zero room text le quiet long = text_short room text quiet long (λ c rest some fits on more. omega arith)
chunks_short (suc fuel) room text le quiet long =
    text_short room text quiet long (λ c rest some fits on more.
    let less : room - length c ≤ fuel = omega arith in chunks_short fuel (room - length c) rest less on more)

-- ---- bodies

length_fits : (most n : ℕ) (b : Bool) → nat_lt most n ≡ b → (if b then Some BodyTooLong else None) ≡ None → n ≤ most
length_fits most n true e f = cc
length_fits most n false e f = ge most n e
  where
    ge : (n m : ℕ) → nat_lt n m ≡ false → m ≤ n
    ge n m e = grind arith

body_short : (most : ℕ) (how : Framing) (text : List ℕ) → most ≤ 33554432 → framing_fault most how ≡ None
    → ((b rest : List ℕ) → ReadsBody most how text b rest → ⊥) → ((f : FrameFault) → FailsInBody most how text f → ⊥) → 9059713291 ≤ length text → ⊥
body_short most absent text le good no_body no_fault long = no_body [] text (refl, refl)
body_short most (sized n) text le good no_body no_fault long =
    let fits = length_fits most n (nat_lt most n) refl good in
    let there : n ≤ length text = omega arith in
    no_body (take n text) (drop n text) (length-take-le n text there, sym (take-append-drop n text))
body_short most chunked text le good no_body no_fault long =
    let same : most ≤ most = omega arith in
    chunks_short most most text same (record {
      no_fault = λ cs last f x fault. no_fault f (cs, last, x, fault);
      no_end = λ cs last trailers rest x end t. no_body (flat_map (λ content. content) cs) rest (cs, last, trailers, x, end, t, refl);
    }) (omega arith)
body_short most badly text le good no_body no_fault long = cc

-- ---- heads

-- as many bytes as a head may have begin with a good one
head_found : (bytes : List ℕ) → IsRest bytes → most_head ≤ length bytes
    → ((h : RequestHead) (behind : List ℕ) → HasGoodHead bytes h behind → length bytes ≤ most_head + length behind → ⊥) → ⊥
head_found bytes rest long so = none (λ h r x. found h r x)
  where
    version : HasOtherVersion bytes → ⊥
    version v = rest.1 Version (inl (inl (v, refl)))

    hope : IsHopeless bytes → ⊥
    hope x = rest.1 BadHead (inl (inr (version, inl (x, refl))))

    none : HasNoRequest (front bytes) → ⊥
    none x = rest.1 HeadTooLong (inl (inr (version, inr (inl ((long, x, hope), refl)))))

    judged : (o : Option FrameFault) (h : RequestHead) (behind : List ℕ) → fault_of h ≡ o → ReadsRequest bytes h behind → length (print_request h) ≤ most_head → ⊥
    judged (Some f) h behind e x short = rest.1 f (inl (inr (version, inr (inr (h, behind, (x, short), e)))))
    judged None h behind e x short =
        let size : length bytes ≡ length (print_request h) + length behind = ap length x.1 ∙ length-append (print_request h) behind in
        so h behind (record { version = version; whole = (x, short); good = e }) (omega arith)

    found : (h : RequestHead) (r : List ℕ) → ReadsRequest (front bytes) h r → ⊥
    found h r x =
        let after = drop most_head bytes in
        let reads : ReadsRequest bytes h (r ++ after) = subst (λ (t : List ℕ). ReadsRequest t h (r ++ after)) (take-append-drop most_head bytes) (ReadsRequest-append (front bytes) h r after x) in
        let size : length (front bytes) ≡ length (print_request h) + length r = ap length x.1 ∙ length-append (print_request h) r in
        let taken : length (front bytes) ≡ most_head = length-take-le most_head bytes long in
        let short : length (print_request h) ≤ most_head = omega arith in
        judged (fault_of h) h (r ++ after) refl reads short

last_test : (host many : Bool) (o : Option FrameFault) → (if host then Some BadHead else (if many then Some HeadTooLong else o)) ≡ None → o ≡ None
last_test true many o e = cc
last_test false true o e = cc
last_test false false o e = e

good_framing : (h : RequestHead) → fault_of h ≡ None → framing_fault (most_body h) (framing h) ≡ None
unfolding fault_of
good_framing h e = last_test (lacks_host h) (nat_lt 64 (length h.fields)) (framing_fault (most_body h) (framing h)) e

most_by_test : (b : Bool) → (if b then 33554432 else 4194304) ≤ 33554432
most_by_test true = omega arith
most_by_test false = omega arith

body_most : (h : RequestHead) → most_body h ≤ 33554432
unfolding most_body
body_most h = most_by_test _

-- ---- the whole

pub rest_is_short : (bytes : List ℕ) → IsRest bytes → length bytes < 2 ^ 34
rest_is_short bytes rest = lt_of_not-le (λ (long : 2 ^ 34 ≤ length bytes).
    let many : 17179869184 ≤ length bytes = long in
    head_found bytes rest (omega arith) (λ h behind good size.
    body_short (most_body h) (framing h) behind (body_most h) (good_framing h good.good) (λ b after x. whole h behind b after good x)
    (λ f x. rest.1 f (inr (h, behind, good, x))) (omega arith)))
  where
    whole : (h : RequestHead) (behind b after : List ℕ) → HasGoodHead bytes h behind → ReadsBody (most_body h) (framing h) behind b after → ⊥
    whole h behind b after good x = rest.0
        (record { method = h.method; target = h.target; minor = h.minor; user = user_of h; close = closes h; encoded = is_encoded h; seen = turn_of h; body = b })
        after
        (record { head = h; behind = behind; good = good; body = x; method = refl; target = refl; minor = refl; user = refl; close = refl; encoded = refl; seen = refl })
