-- Bodies: one reading, and a reading stays whatever follows.
use Rattle.std.proofs.Common.{◌≡◌, ℕ, zero, ◌-◌, ◌<◌, ◌≤◌, List, [], ◌∷◌, ◌++◌, length, take, drop, refl, sym, ap, ◌∙◌, arith, append_assoc, inl, inr, ◌⊎◌, subst}
use Rattle.std.specs.List.{flat_map}
use Rattle.std.proofs.lemmas.List.{append-nil}
use Rattle.std.proofs.Math.Seq.{take-append_seam, drop-append_seam}
use Rattle.httparse.specs.Ascii.{crlf_bytes}
use Rattle.httparse.specs.Grammar.{ChunkLine, chunk_size, Field, LineEnd, print_section, ReadsSection, HasNoSection}
use Rattle.httparse.specs.Pieces.{BeginsLine}
use Rattle.httparse.proofs.ChunkLemmas.{chunk_line_unique, ReadsChunkLine-append}
use Rattle.httparse.proofs.PieceLemmas.{Section_skip, Section_line, FieldLines-append}
use Rattle.httparse.proofs.GrammarLemmas.{section_unique, ReadsSection-append}
use Rattle.http_frame.specs.declared.types.FrameFault.{FrameFault}
use Rattle.http_frame.specs.declared.types.FrameFault.TheVariants.{HeadTooLong, BadChunk}
use Rattle.http_frame.specs.Heads.{Framing, absent, sized, chunked, badly, most_head, front, line_at}
use Rattle.http_frame.specs.Bodies.{ReadsSize, NeverHasSize, ReadsChunk, ReadsChunks, room_left, ReadsLast, HasBadTrailer, ReadsTrailers, HasLongTrailers, ReadsBody, Exceeds, LacksEnd, FailsInChunk, FailsInBody}
use Rattle.http_frame.proofs.Lines.{line_more}
use Rattle.http_frame.proofs.HeadLaws.{front_more, front_full, take_past, longer, line_of_some, some_of_line}

-- ---- lines and chunks

pub size_unique : (text : List ℕ) (l k : ChunkLine) (r q : List ℕ) → ReadsSize text l r → ReadsSize text k q → (l ≡ k) × (r ≡ q)
size_unique text l k r q x y = chunk_line_unique text l k r q x.1 y.1

pub size_more : (text more : List ℕ) (l : ChunkLine) (r : List ℕ) → ReadsSize text l r → ReadsSize (text ++ more) l (r ++ more)
size_more text more l r x = (x.0, ReadsChunkLine-append text l r more x.1)

pub never_now : (text : List ℕ) (l : ChunkLine) (r : List ℕ) → NeverHasSize text → ReadsSize text l r → ⊥
never_now text l r never x = never [] l r (subst (λ (t : List ℕ). ReadsSize t l r) (sym (append-nil text)) x)

pub never_more : (text more : List ℕ) → NeverHasSize text → NeverHasSize (text ++ more)
never_more text more never x l r y = never (more ++ x) l r (subst (λ (t : List ℕ). ReadsSize t l r) (append_assoc text more x) y)

-- two ways to cut at one length are one
pub same_cut : (x y s t : List ℕ) → x ++ s ≡ y ++ t → length x ≡ length y → (x ≡ y) × (s ≡ t)
same_cut x y s t e l = (
  sym (take-append_seam x s) ∙ ap (λ b. take (length x) b) e ∙ ap (λ n. take n (y ++ t)) l ∙ take-append_seam y t,
  sym (drop-append_seam x s) ∙ ap (λ b. drop (length x) b) e ∙ ap (λ n. drop n (y ++ t)) l ∙ drop-append_seam y t,
)

same_size : (l k : ChunkLine) (m n : ℕ) → l ≡ k → chunk_size l ≡ m → chunk_size k ≡ n → m ≡ n
same_size l k m n e x y = sym x ∙ ap chunk_size e ∙ y

pub chunk_unique : (text c d r q : List ℕ) → ReadsChunk text c r → ReadsChunk text d q → (c ≡ d) × (r ≡ q)
chunk_unique text c d r q x y =
    let lines = size_unique text x.line y.line x.behind y.behind x.reads y.reads in
    let lengths : length c ≡ length d = same_size x.line y.line (length c) (length d) lines.0 x.size_is y.size_is in
    let cut = same_cut c d (crlf_bytes ++ r) (crlf_bytes ++ q) (sym x.whole ∙ lines.1 ∙ y.whole) lengths in
    (cut.0, (same_cut crlf_bytes crlf_bytes r q cut.1 refl).1)

pub chunk_more : (text more c r : List ℕ) → ReadsChunk text c r → ReadsChunk (text ++ more) c (r ++ more)
chunk_more text more c r x = record {
  line = x.line;
  behind = x.behind ++ more;
  reads = size_more text more x.line x.behind x.reads;
  some = x.some;
  size_is = x.size_is;
  whole = ap (λ b. b ++ more) x.whole ∙ append_assoc c (crlf_bytes ++ r) more ∙ ap (λ b. c ++ b) (append_assoc crlf_bytes r more);
}

pub chunks_unique : (most : ℕ) (text : List ℕ) (cs ds : List (List ℕ)) (r q : List ℕ) → ReadsChunks most text cs r → ReadsChunks most text ds q
    → ((c b : List ℕ) → ReadsChunk r c b → length c ≤ room_left most cs → ⊥)
    → ((c b : List ℕ) → ReadsChunk q c b → length c ≤ room_left most ds → ⊥)
    → (cs ≡ ds) × (r ≡ q)
chunks_unique most text [] [] r q x y last other = (refl, sym x ∙ y)
chunks_unique most text [] (d ∷ ds) r q x y last other =
    absurd (last d y.1.0 (subst (λ (t : List ℕ). ReadsChunk t d y.1.0) x y.1.1) y.0)
chunks_unique most text (c ∷ cs) [] r q x y last other =
    absurd (other c x.1.0 (subst (λ (t : List ℕ). ReadsChunk t c x.1.0) y x.1.1) x.0)
chunks_unique most text (c ∷ cs) (d ∷ ds) r q x y last other =
    let one = chunk_unique text c d x.1.0 y.1.0 x.1.1 y.1.1 in
    let room : most - length d ≡ most - length c = ap (λ (v : List ℕ). most - length v) (sym one.0) in
    let moved : ReadsChunks (most - length c) x.1.0 ds q =
    subst (λ (n : ℕ). ReadsChunks n x.1.0 ds q) room (subst (λ (t : List ℕ). ReadsChunks (most - length d) t ds q) (sym one.1) y.1.2) in
    let other_moved : (e b : List ℕ) → ReadsChunk q e b → length e ≤ room_left (most - length c) ds → ⊥ =
    subst (λ (n : ℕ). (e b : List ℕ) → ReadsChunk q e b → length e ≤ room_left n ds → ⊥) room other in
    let rest = chunks_unique (most - length c) x.1.0 cs ds r q x.1.2 moved last other_moved in
    (λ i. one.0 i ∷ rest.0 i, rest.1)

pub chunks_more : (most : ℕ) (text more : List ℕ) (cs : List (List ℕ)) (r : List ℕ) → ReadsChunks most text cs r → ReadsChunks most (text ++ more) cs (r ++ more)
chunks_more most text more [] r x = ap (λ b. b ++ more) x
chunks_more most text more (c ∷ cs) r x =
    (x.0, (x.1.0 ++ more, chunk_more text more c x.1.0 x.1.1, chunks_more (most - length c) x.1.0 more cs r x.1.2))

-- ---- trailers

pub bad_is_no_section : (text : List ℕ) (fields : List Field) (last : LineEnd) (rest : List ℕ) → HasBadTrailer text → ReadsSection text fields last rest → ⊥
bad_is_no_section text fields last rest bad reads =
    let tail = Section_skip bad.fields fields last text bad.rest rest bad.lines reads in
    bad.no_line [] (subst (λ (t : List ℕ). BeginsLine t) (sym (append-nil bad.rest)) (Section_line (tail.0, last) bad.rest rest tail.2))

pub front_section : (text : List ℕ) (fields : List Field) (last : LineEnd) (rest : List ℕ) → ReadsSection text fields last rest
    → length (print_section fields last) ≤ most_head → (after : List ℕ) × ReadsSection (front text) fields last after
front_section text fields last rest reads fits = (
  take (most_head - length (print_section fields last)) rest,
  (reads.0, ap front reads.1 ∙ take_past most_head (print_section fields last) rest fits),
)

trailers_are_not_bad : (text rest : List ℕ) → ReadsTrailers text rest → HasBadTrailer (front text) → ⊥
trailers_are_not_bad text rest x bad =
    let a = front_section text x.fields x.last rest x.reads x.short in bad_is_no_section (front text) x.fields x.last a.0 bad a.1

trailers_are_not_long : (text rest : List ℕ) → ReadsTrailers text rest → HasLongTrailers text → ⊥
trailers_are_not_long text rest x (inl long) =
    let a = front_section text x.fields x.last rest x.reads x.short in long.1 x.fields x.last a.0 a.1
trailers_are_not_long text rest x (inr (fields, last, q, reads, fits, many)) =
    let same = section_unique text x.fields fields x.last last rest q x.reads reads in
    too_many x.fields fields same.0 x.few many
  where
    too_many : (fs gs : List Field) → fs ≡ gs → length fs ≤ 64 → 64 < length gs → ⊥
    too_many fs gs e few many = let l : length fs ≡ length gs = ap length e in omega arith

long_is_not_bad : (text : List ℕ) → HasLongTrailers text → HasBadTrailer (front text) → ⊥
long_is_not_bad text (inl long) bad = long.2 bad
long_is_not_bad text (inr (fields, last, q, reads, fits, many)) bad =
    let a = front_section text fields last q reads fits in bad_is_no_section (front text) fields last a.0 bad a.1

pub bad_more : (text more : List ℕ) → HasBadTrailer text → HasBadTrailer (text ++ more)
bad_more text more bad =
    let l = line_of_some (line_at bad.rest) bad.whole in record {
      fields = bad.fields;
      rest = bad.rest ++ more;
      lines = FieldLines-append bad.fields text bad.rest more bad.lines;
      whole = some_of_line _ l.0 (line_more bad.rest more l.0 l.1);
      no_line = λ x. subst (λ (t : List ℕ). BeginsLine t → ⊥) (sym (append_assoc bad.rest more x)) (bad.no_line (more ++ x));
    }

bad_stays : (text more : List ℕ) → HasBadTrailer (front text) → HasBadTrailer (front (text ++ more))
bad_stays text more bad =
    let m = front_more text more in subst (λ (t : List ℕ). HasBadTrailer t) (sym m.1) (bad_more (front text) m.0 bad)

long_stays : (text more : List ℕ) → HasLongTrailers text → HasLongTrailers (text ++ more)
long_stays text more (inl long) =
    let e = front_full text more long.0 in
    inl (
      longer text more long.0,
      subst (λ (b : List ℕ). HasNoSection b) (sym e) long.1,
      λ bad. long.2 (subst (λ (b : List ℕ). HasBadTrailer b) e bad),
    )
long_stays text more (inr (fields, last, q, reads, fits, many)) =
    inr (fields, last, q ++ more, ReadsSection-append text fields last q more reads, fits, many)

-- ---- faults after whole chunks

pub last_is_no_chunk : (text rest c r : List ℕ) → ReadsLast text rest → ReadsChunk text c r → ⊥
last_is_no_chunk text rest c r (l, reads, nil) x =
    let same = size_unique text l x.line rest x.behind reads x.reads in
    empty (length c) (same_size l x.line zero (length c) same.0 nil x.size_is) x.some
  where
    empty : (n : ℕ) → zero ≡ n → 0 < n → ⊥
    empty n e some = omega arith

lacks_is_no_chunk : (room : ℕ) (text c r : List ℕ) → LacksEnd room text → ReadsChunk text c r → ⊥
lacks_is_no_chunk room text c r lacks x =
    let same = size_unique text lacks.line x.line (lacks.content ++ lacks.after) x.behind lacks.reads x.reads in
    let lengths = same_size lacks.line x.line (length lacks.content) (length c) same.0 lacks.size_is x.size_is in
    let cut = same_cut lacks.content c lacks.after (crlf_bytes ++ r) (same.1 ∙ x.whole) lengths in
    lacks.never [] r (append-nil lacks.after ∙ cut.1)

exceeds_is_no_chunk : (room : ℕ) (text c r : List ℕ) → Exceeds room text → ReadsChunk text c r → length c ≤ room → ⊥
exceeds_is_no_chunk room text c r (l, rest, reads, over) x fits =
    let same = size_unique text l x.line rest x.behind reads x.reads in
    more_than room (chunk_size l) (length c) (ap chunk_size same.0 ∙ x.size_is) over fits
  where
    more_than : (room m n : ℕ) → m ≡ n → room < m → n ≤ room → ⊥
    more_than room m n e over fits = omega arith

pub fails_is_terminal : (room : ℕ) (text : List ℕ) (f : FrameFault) → FailsInChunk room text f → (c r : List ℕ) → ReadsChunk text c r → length c ≤ room → ⊥
fails_is_terminal room text f (inl never) c r x fits = never_now text x.line x.behind never.0 x.reads
fails_is_terminal room text f (inr (inl over)) c r x fits = exceeds_is_no_chunk room text c r over.0 x fits
fails_is_terminal room text f (inr (inr (inl lacks))) c r x fits = lacks_is_no_chunk room text c r lacks.0 x
fails_is_terminal room text f (inr (inr (inr (rest, last, how)))) c r x fits = last_is_no_chunk text rest c r last x

pub last_is_terminal : (room : ℕ) (text rest : List ℕ) → ReadsLast text rest → (c r : List ℕ) → ReadsChunk text c r → length c ≤ room → ⊥
last_is_terminal room text rest last c r x fits = last_is_no_chunk text rest c r last x

pub last_unique : (text r q : List ℕ) → ReadsLast text r → ReadsLast text q → r ≡ q
last_unique text r q (l, x, a) (k, y, b) = (size_unique text l k r q x y).1

pub over_is_not_last : (room : ℕ) (text rest : List ℕ) → Exceeds room text → ReadsLast text rest → ⊥
over_is_not_last room text rest (l, r, x, over) (k, y, nil) =
    below room (chunk_size l) (ap chunk_size (size_unique text l k r rest x y).0 ∙ nil) over
  where
    below : (room n : ℕ) → n ≡ zero → room < n → ⊥
    below room n e over = omega arith

pub lacks_is_not_last : (room : ℕ) (text rest : List ℕ) → LacksEnd room text → ReadsLast text rest → ⊥
lacks_is_not_last room text rest lacks (k, y, nil) =
    let same = size_unique text lacks.line k _ rest lacks.reads y in
    empty (length lacks.content) (same_size lacks.line k (length lacks.content) zero same.0 lacks.size_is nil) lacks.some
  where
    empty : (n : ℕ) → n ≡ zero → 0 < n → ⊥
    empty n e some = omega arith

over_is_not_lacks : (room : ℕ) (text : List ℕ) → Exceeds room text → LacksEnd room text → ⊥
over_is_not_lacks room text (l, r, x, over) lacks =
    let same = size_unique text l lacks.line r _ x lacks.reads in
    more_than room (chunk_size l) (length lacks.content) (ap chunk_size same.0 ∙ lacks.size_is) over lacks.fits
  where
    more_than : (room m n : ℕ) → m ≡ n → room < m → n ≤ room → ⊥
    more_than room m n e over fits = omega arith

tail_unique : (text : List ℕ) (f g : FrameFault)
    → (HasBadTrailer (front text) × (f ≡ BadChunk)) ⊎ (HasLongTrailers text × (f ≡ HeadTooLong))
    → (HasBadTrailer (front text) × (g ≡ BadChunk)) ⊎ (HasLongTrailers text × (g ≡ HeadTooLong)) → f ≡ g
tail_unique text f g (inl x) (inl y) = x.1 ∙ sym y.1
tail_unique text f g (inl x) (inr y) = absurd (long_is_not_bad text y.0 x.0)
tail_unique text f g (inr x) (inl y) = absurd (long_is_not_bad text x.0 y.0)
tail_unique text f g (inr x) (inr y) = x.1 ∙ sym y.1

pub chunk_fault_unique : (room : ℕ) (text : List ℕ) (f g : FrameFault) → FailsInChunk room text f → FailsInChunk room text g → f ≡ g
chunk_fault_unique room text f g (inl x) (inl y) = x.1 ∙ sym y.1
chunk_fault_unique room text f g (inl x) (inr (inl ((l, r, y, over), e))) = absurd (never_now text l r x.0 y)
chunk_fault_unique room text f g (inl x) (inr (inr (inl (y, e)))) = absurd (never_now text y.line _ x.0 y.reads)
chunk_fault_unique room text f g (inl x) (inr (inr (inr (rest, (l, y, nil), how)))) = absurd (never_now text l rest x.0 y)
chunk_fault_unique room text f g (inr (inl ((l, r, y, over), e))) (inl x) = absurd (never_now text l r x.0 y)
chunk_fault_unique room text f g (inr (inl x)) (inr (inl y)) = x.1 ∙ sym y.1
chunk_fault_unique room text f g (inr (inl x)) (inr (inr (inl y))) = absurd (over_is_not_lacks room text x.0 y.0)
chunk_fault_unique room text f g (inr (inl x)) (inr (inr (inr (rest, last, how)))) = absurd (over_is_not_last room text rest x.0 last)
chunk_fault_unique room text f g (inr (inr (inl (y, e)))) (inl x) = absurd (never_now text y.line _ x.0 y.reads)
chunk_fault_unique room text f g (inr (inr (inl x))) (inr (inl y)) = absurd (over_is_not_lacks room text y.0 x.0)
chunk_fault_unique room text f g (inr (inr (inl x))) (inr (inr (inl y))) = x.1 ∙ sym y.1
chunk_fault_unique room text f g (inr (inr (inl x))) (inr (inr (inr (rest, last, how)))) = absurd (lacks_is_not_last room text rest x.0 last)
chunk_fault_unique room text f g (inr (inr (inr (rest, (l, y, nil), how)))) (inl x) = absurd (never_now text l rest x.0 y)
chunk_fault_unique room text f g (inr (inr (inr (rest, last, how)))) (inr (inl y)) = absurd (over_is_not_last room text rest y.0 last)
chunk_fault_unique room text f g (inr (inr (inr (rest, last, how)))) (inr (inr (inl y))) = absurd (lacks_is_not_last room text rest y.0 last)
chunk_fault_unique room text f g (inr (inr (inr (rest, last, how)))) (inr (inr (inr (other, end, why)))) =
    tail_unique rest f g how (subst (λ (t : List ℕ). (HasBadTrailer (front t) × (g ≡ BadChunk)) ⊎ (HasLongTrailers t × (g ≡ HeadTooLong))) (last_unique text other rest end last) why)

-- trailers that are read exclude every fault there
pub whole_is_no_fault : (room : ℕ) (text trailers rest : List ℕ) (f : FrameFault) → ReadsLast text trailers → ReadsTrailers trailers rest → FailsInChunk room text f → ⊥
whole_is_no_fault room text trailers rest f (l, x, nil) t (inl y) = never_now text l trailers y.0 x
whole_is_no_fault room text trailers rest f last t (inr (inl y)) = over_is_not_last room text trailers y.0 last
whole_is_no_fault room text trailers rest f last t (inr (inr (inl y))) = lacks_is_not_last room text trailers y.0 last
whole_is_no_fault room text trailers rest f last t (inr (inr (inr (other, end, inl bad)))) =
    trailers_are_not_bad other rest (subst (λ (b : List ℕ). ReadsTrailers b rest) (last_unique text trailers other last end) t) bad.0
whole_is_no_fault room text trailers rest f last t (inr (inr (inr (other, end, inr long)))) =
    trailers_are_not_long other rest (subst (λ (b : List ℕ). ReadsTrailers b rest) (last_unique text trailers other last end) t) long.0

pub last_more : (text more r : List ℕ) → ReadsLast text r → ReadsLast (text ++ more) (r ++ more)
last_more text more r (l, x, nil) = (l, size_more text more l r x, nil)

lacks_more : (room : ℕ) (text more : List ℕ) → LacksEnd room text → LacksEnd room (text ++ more)
lacks_more room text more x = record {
  line = x.line;
  content = x.content;
  after = x.after ++ more;
  reads = subst (λ (b : List ℕ). ReadsSize (text ++ more) x.line b) (append_assoc x.content x.after more) (size_more text more x.line (x.content ++ x.after) x.reads);
  some = x.some;
  size_is = x.size_is;
  fits = x.fits;
  never = λ y rest e. x.never (more ++ y) rest (sym (append_assoc x.after more y) ∙ e);
}

pub chunk_fault_stays : (room : ℕ) (text more : List ℕ) (f : FrameFault) → FailsInChunk room text f → FailsInChunk room (text ++ more) f
chunk_fault_stays room text more f (inl x) = inl (never_more text more x.0, x.1)
chunk_fault_stays room text more f (inr (inl ((l, r, x, over), e))) = inr (inl ((l, r ++ more, size_more text more l r x, over), e))
chunk_fault_stays room text more f (inr (inr (inl x))) = inr (inr (inl (lacks_more room text more x.0, x.1)))
chunk_fault_stays room text more f (inr (inr (inr (rest, last, inl bad)))) = inr (inr (inr (rest ++ more, last_more text more rest last, inl (bad_stays rest more bad.0, bad.1))))
chunk_fault_stays room text more f (inr (inr (inr (rest, last, inr long)))) = inr (inr (inr (rest ++ more, last_more text more rest last, inr (long_stays rest more long.0, long.1))))

-- ---- bodies

pub body_unique : (most : ℕ) (how : Framing) (text b c r q : List ℕ) → ReadsBody most how text b r → ReadsBody most how text c q → (b ≡ c) × (r ≡ q)
body_unique most absent text b c r q x y = (x.0 ∙ sym y.0, sym x.1 ∙ y.1)
body_unique most (sized n) text b c r q x y = same_cut b c r q (sym x.1 ∙ y.1) (x.0 ∙ sym y.0)
body_unique most chunked text b c r q (cs, last, end, x, l, t, e) (ds, other, tail, y, k, u, d) =
    let same = chunks_unique most text cs ds last other x y (last_is_terminal (room_left most cs) last end l) (last_is_terminal (room_left most ds) other tail k) in
    let ends : end ≡ tail = last_unique last end tail l (subst (λ (v : List ℕ). ReadsLast v tail) (sym same.1) k) in (
      e ∙ ap (λ v. flat_map (λ content. content) v) same.0 ∙ sym d,
      trailers_unique end tail r q ends t u,
    )
  where
    trailers_unique : (end tail r q : List ℕ) → end ≡ tail → ReadsTrailers end r → ReadsTrailers tail q → r ≡ q
    trailers_unique end tail r q e t u =
        (section_unique tail t.fields u.fields t.last u.last r q (subst (λ (v : List ℕ). ReadsSection v t.fields t.last r) e t.reads) u.reads).2
body_unique most badly text b c r q x y = absurd x

pub body_fault_unique : (most : ℕ) (how : Framing) (text : List ℕ) (f g : FrameFault) → FailsInBody most how text f → FailsInBody most how text g → f ≡ g
body_fault_unique most absent text f g x y = absurd x
body_fault_unique most (sized n) text f g x y = absurd x
body_fault_unique most chunked text f g (cs, last, x, a) (ds, other, y, b) =
    let same = chunks_unique most text cs ds last other x y (fails_is_terminal (room_left most cs) last f a) (fails_is_terminal (room_left most ds) other g b) in
    chunk_fault_unique (room_left most cs) last f g a
    (subst (λ (v : List ℕ). FailsInChunk (room_left most cs) v g) (sym same.1)
    (subst (λ (v : List (List ℕ)). FailsInChunk (room_left most v) other g) (sym same.0) b))
body_fault_unique most badly text f g x y = absurd x

pub body_is_no_fault : (most : ℕ) (how : Framing) (text b r : List ℕ) (f : FrameFault) → ReadsBody most how text b r → FailsInBody most how text f → ⊥
body_is_no_fault most absent text b r f x y = y
body_is_no_fault most (sized n) text b r f x y = y
body_is_no_fault most chunked text b r f (cs, last, end, x, l, t, e) (ds, other, y, a) =
    let same = chunks_unique most text cs ds last other x y (last_is_terminal (room_left most cs) last end l) (fails_is_terminal (room_left most ds) other f a) in
    whole_is_no_fault (room_left most ds) last end r f l t (subst (λ (v : List ℕ). FailsInChunk (room_left most ds) v f) (sym same.1) a)
body_is_no_fault most badly text b r f x y = y

pub body_stays : (most : ℕ) (how : Framing) (text more b r : List ℕ) → ReadsBody most how text b r → ReadsBody most how (text ++ more) b (r ++ more)
body_stays most absent text more b r x = (x.0, ap (λ v. v ++ more) x.1)
body_stays most (sized n) text more b r x = (x.0, ap (λ v. v ++ more) x.1 ∙ append_assoc b r more)
body_stays most chunked text more b r (cs, last, end, x, l, t, e) = (
  cs,
  last ++ more,
  end ++ more,
  chunks_more most text more cs last x,
  last_more last more end l,
  record { fields = t.fields; last = t.last; reads = ReadsSection-append end t.fields t.last r more t.reads; short = t.short; few = t.few },
  e,
)
body_stays most badly text more b r x = x

pub body_fault_stays : (most : ℕ) (how : Framing) (text more : List ℕ) (f : FrameFault) → FailsInBody most how text f → FailsInBody most how (text ++ more) f
body_fault_stays most absent text more f x = x
body_fault_stays most (sized n) text more f x = x
body_fault_stays most chunked text more f (cs, last, x, a) = (cs, last ++ more, chunks_more most text more cs last x, chunk_fault_stays (room_left most cs) last more f a)
body_fault_stays most badly text more f x = x
