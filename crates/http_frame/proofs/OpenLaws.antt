-- Chunked bodies that have not come whole.
use Rattle.std.proofs.Common.{◌≡◌, ℕ, zero, ◌<◌, ◌≤◌, List, ◌++◌, length, sym, ap, ◌∙◌, arith, inl, inr, subst}
use Rattle.httparse.specs.Ascii.{crlf_bytes}
use Rattle.httparse.specs.Grammar.{ChunkLine, chunk_size}
use Rattle.http_frame.specs.declared.types.FrameFault.{FrameFault}
use Rattle.http_frame.specs.declared.size_line.SizeSpot.TheVariants.{Digits, Whole, Wrong}
use Rattle.http_frame.specs.Heads.{chunked}
use Rattle.http_frame.specs.Bodies.{ReadsSize, ReadsChunk, ReadsChunks, room_left, ReadsLast, ReadsTrailers, ReadsBody, LacksEnd, FailsInChunk, FailsInBody}
use Rattle.http_frame.specs.ChunkSizes.{size_run}
use Rattle.http_frame.proofs.BodyLaws.{size_unique, never_now, chunks_unique, fails_is_terminal, last_is_terminal}
use Rattle.http_frame.proofs.SizeLaws.{right_is_whole, not_wrong_may_be_right}

-- after whole chunks: no chunk within the room, no fault and no end
pub record IsOpenAt (room : ℕ) (last : List ℕ) : Type 0 where
  pub no_chunk : (c r : List ℕ) → ReadsChunk last c r → length c ≤ room → ⊥
  pub no_fault : (f : FrameFault) → FailsInChunk room last f → ⊥
  pub no_end : (t r : List ℕ) → ReadsLast last t → ReadsTrailers t r → ⊥

pub open_no_body : (most : ℕ) (text : List ℕ) (cs : List (List ℕ)) (last b r : List ℕ) → ReadsChunks most text cs last → IsOpenAt (room_left most cs) last → ReadsBody most chunked text b r → ⊥
open_no_body most text cs last b r x o (ds, other, end, y, l, t, e) =
    let same = chunks_unique most text cs ds last other x y o.no_chunk (last_is_terminal (room_left most ds) other end l) in
    o.no_end end r (subst (λ (v : List ℕ). ReadsLast v end) (sym same.1) l) t

pub open_no_fault : (most : ℕ) (text : List ℕ) (cs : List (List ℕ)) (last : List ℕ) (f : FrameFault) → ReadsChunks most text cs last → IsOpenAt (room_left most cs) last → FailsInBody most chunked text f → ⊥
open_no_fault most text cs last f x o (ds, other, y, a) =
    let same = chunks_unique most text cs ds last other x y o.no_chunk (fails_is_terminal (room_left most ds) other f a) in
    o.no_fault f (subst (λ (v : List ℕ). FailsInChunk (room_left most cs) v f) (sym same.1)
    (subst (λ (v : List (List ℕ)). FailsInChunk (room_left most v) other f) (sym same.0) a))

-- in the line before a chunk
pub size_open : (room : ℕ) (last : List ℕ) → (size_run (Digits 0) last ≡ Wrong → ⊥) → (size_run (Digits 0) last ≡ Whole → ⊥) → IsOpenAt room last
size_open room last right part = record {
  no_chunk = λ c r x fits. none x.line x.behind x.reads;
  no_fault = λ f x. fault f x;
  no_end = λ t r l y. none l.0 t l.1;
}
  where
    none : (l : ChunkLine) (rest : List ℕ) → ReadsSize last l rest → ⊥
    none l rest x = part (right_is_whole last l rest x)

    fault : (f : FrameFault) → FailsInChunk room last f → ⊥
    fault f (inl x) = not_wrong_may_be_right last right x.0
    fault f (inr (inl ((l, rest, x, over), e))) = none l rest x
    fault f (inr (inr (inl (x, e)))) = none x.line _ x.reads
    fault f (inr (inr (inr (rest, (l, x, nil), how)))) = none l rest x

-- in a chunk within the room, or in the line end after it
pub data_open : (room : ℕ) (last : List ℕ) (l : ChunkLine) (behind : List ℕ) → ReadsSize last l behind → 0 < chunk_size l → chunk_size l ≤ room
    → ((c r : List ℕ) → behind ≡ c ++ (crlf_bytes ++ r) → length c ≡ chunk_size l → ⊥) → (LacksEnd room last → ⊥) → IsOpenAt room last
data_open room last l behind reads some fits part ends = record {
  no_chunk = λ c r x within.
      let same = size_unique last x.line l x.behind behind x.reads reads in
      part c r (sym same.1 ∙ x.whole) (sym x.size_is ∙ ap chunk_size same.0);
  no_fault = λ f x. fault f x;
  no_end = λ t r k y. empty (chunk_size l) (sym (ap chunk_size (size_unique last k.0 l t behind k.1 reads).0) ∙ k.2) some;
}
  where
    empty : (n : ℕ) → n ≡ zero → 0 < n → ⊥
    empty n e some = omega arith

    over : (room m n : ℕ) → m ≡ n → room < m → n ≤ room → ⊥
    over room m n e a b = omega arith

    fault : (f : FrameFault) → FailsInChunk room last f → ⊥
    fault f (inl x) = never_now last l behind x.0 reads
    fault f (inr (inl ((k, rest, x, more), e))) = over room (chunk_size k) (chunk_size l) (ap chunk_size (size_unique last k l rest behind x reads).0) more fits
    fault f (inr (inr (inl (x, e)))) = ends x
    fault f (inr (inr (inr (rest, (k, x, nil), how)))) = empty (chunk_size l) (sym (ap chunk_size (size_unique last k l rest behind x reads).0) ∙ nil) some
