-- Where a reading of a chunked body stops for want of bytes, no body and no fault has come.
use Rattle.std.proofs.Common.{◌≡◌, ℕ, suc, ◌+◌, ◌<◌, ◌≤◌, ◌⊎◌, List, [], ◌∷◌, ◌++◌, length, refl, sym, ap, ◌∙◌, arith, inl, inr, subst}
use Rattle.std.proofs.lemmas.List.{length-append}
use Rattle.httparse.specs.Ascii.{crlf_bytes}
use Rattle.httparse.specs.Grammar.{ChunkLine, chunk_size, ReadsSection, HasNoSection}
use Rattle.http_frame.specs.declared.types.FrameFault.{FrameFault}
use Rattle.http_frame.specs.declared.size_line.SizeSpot.{SizeSpot}
use Rattle.http_frame.specs.declared.size_line.SizeSpot.TheVariants.{Digits, Whole, Wrong}
use Rattle.http_frame.specs.declared.chunks.Part.{Part}
use Rattle.http_frame.specs.declared.chunks.Part.TheVariants.{Size, Data, Lf, Trailers}
use Rattle.http_frame.specs.Heads.{chunked, most_head, front}
use Rattle.http_frame.specs.Bodies.{ReadsSize, room_left, ReadsLast, ReadsBody, HasBadTrailer, LacksEnd, FailsInChunk, FailsInBody}
use Rattle.http_frame.specs.ChunkSizes.{size_run}
use Rattle.http_frame.specs.Chunks.{IsInLine, IsInChunk, IsPart, IsReading}
use Rattle.http_frame.proofs.BodyLaws.{size_unique, never_now, same_cut, last_unique, last_is_no_chunk, over_is_not_last, lacks_is_not_last}
use Rattle.http_frame.proofs.OpenLaws.{IsOpenAt, open_no_body, open_no_fault, size_open, data_open}
use Rattle.http_frame.proofs.Seeing.{short_front}
use Rattle.http_frame.proofs.TrailerLaws.{open_lines}

inside : (s : SizeSpot) → IsInLine s → s ≡ Wrong → ⊥
inside s is e = subst (λ (v : SizeSpot). IsInLine v) e is

not_ended : (s : SizeSpot) → IsInLine s → s ≡ Whole → ⊥
not_ended s is e = subst (λ (v : SizeSpot). IsInLine v) e is

line_opened : (all : ℕ) (last : List ℕ) (s : SizeSpot) → s ≡ size_run (Digits 0) last → IsInLine s → IsOpenAt all last
line_opened all last s at is = size_open all last (λ e. inside s is (at ∙ e)) (λ e. not_ended s is (at ∙ e))

-- so few bytes stand after the line that no chunk and its CR LF can
few_behind : (begun after c r : List ℕ) (size left : ℕ) → size ≡ length begun + left → length after < 2 → (length after ≡ 0) ⊎ (left ≡ 0)
    → begun ++ after ≡ c ++ (crlf_bytes ++ r) → length c ≡ size → ⊥
few_behind begun after c r size left is few how e n =
    let a : length (begun ++ after) ≡ length begun + length after = length-append begun after in
    let b : length (c ++ (crlf_bytes ++ r)) ≡ length c + (2 + length r) = length-append c (crlf_bytes ++ r) ∙ two (length c) (length r) in
    let same : length (begun ++ after) ≡ length (c ++ (crlf_bytes ++ r)) = ap length e in
    elim how [ inl none ↦ omega arith | inr none ↦ omega arith ]
  where
    two : (n m : ℕ) → n + suc (suc m) ≡ n + (2 + m)
    two n m = omega arith

-- what stands behind the content can still become CR LF
abbrev CanEnd : List ℕ → Type 0
CanEnd after = (more : List ℕ) × (rest : List ℕ) × (after ++ more ≡ crlf_bytes ++ rest)

ends_well : (room : ℕ) (last begun after : List ℕ) (left : ℕ) (l : ChunkLine) → ReadsSize last l (begun ++ after) → chunk_size l ≡ length begun + left
    → (length after ≡ 0) ⊎ (left ≡ 0) → CanEnd after → LacksEnd room last → ⊥
ends_well room last begun after left l reads size how can lacks =
    let same = size_unique last lacks.line l (lacks.content ++ lacks.after) (begun ++ after) lacks.reads reads in
    let n : length lacks.content ≡ length begun + left = sym lacks.size_is ∙ ap chunk_size same.0 ∙ size in
    let sum : length (lacks.content ++ lacks.after) ≡ length lacks.content + length lacks.after = length-append lacks.content lacks.after in
    let other : length (begun ++ after) ≡ length begun + length after = length-append begun after in
    let all : length (lacks.content ++ lacks.after) ≡ length (begun ++ after) = ap length same.1 in
    elim how [
      | inl none ↦ lacks.never (13 ∷ 10 ∷ []) [] (ap (λ v. v ++ 13 ∷ 10 ∷ []) (nil_of lacks.after (omega arith)))
      | inr none ↦
          let cut = same_cut lacks.content begun lacks.after after same.1 (omega arith) in
          lacks.never can.0 can.1 (ap (λ v. v ++ can.0) cut.1 ∙ can.2)
    ]
  where
    nil_of : (xs : List ℕ) → length xs ≡ 0 → xs ≡ []
    nil_of [] e = refl
    nil_of (x ∷ xs) e = absurd (omega arith)

chunk_opened : (all room left : ℕ) (last begun after : List ℕ) → IsInChunk all room left last begun after → length after < 2 → (length after ≡ 0) ⊎ (left ≡ 0) → CanEnd after
    → IsOpenAt all last
chunk_opened all room left last begun after x few how can =
    let fits : chunk_size x.line ≤ all = let f : room + chunk_size x.line ≡ all = x.fits in omega arith in
    data_open all last x.line (begun ++ after) x.reads x.some fits
    (λ c r e n. few_behind begun after c r (chunk_size x.line) left x.size_is few how e n)
    (ends_well all last begun after left x.line x.reads x.size_is how can)

trailers_opened : (room : ℕ) (last rest : List ℕ) → ReadsLast last rest → length rest < most_head → HasNoSection rest → ¬ (HasBadTrailer rest) → IsOpenAt room last
trailers_opened room last rest end short none good = record {
  no_chunk = λ c r x fits. last_is_no_chunk last rest c r end x;
  no_fault = λ f x. fault f x;
  no_end = λ t r l y. none y.fields y.last r (subst (λ (v : List ℕ). ReadsSection v y.fields y.last r) (last_unique last t rest l end) y.reads);
}
  where
    fault : (f : FrameFault) → FailsInChunk room last f → ⊥
    fault f (inl x) = never_now last end.0 rest x.0 end.1
    fault f (inr (inl x)) = over_is_not_last room last rest x.0 end
    fault f (inr (inr (inl x))) = lacks_is_not_last room last rest x.0 end
    fault f (inr (inr (inr (other, l, inl bad)))) =
        let e = last_unique last other rest l end in
        good (subst (λ (v : List ℕ). HasBadTrailer v) (ap front e ∙ short_front rest (omega arith)) bad.0)
    fault f (inr (inr (inr (other, l, inr (inl long, e))))) =
        let same = last_unique last other rest l end in
        let n : length other ≡ length rest = ap length same in
        let full : most_head ≤ length other = long.0 in
        absurd (omega arith)
    fault f (inr (inr (inr (other, l, inr (inr (fields, ending, q, reads, fits, many), e))))) =
        none fields ending q (subst (λ (v : List ℕ). ReadsSection v fields ending q) (last_unique last other rest l end) reads)

part_opened : (part : Part) (all room : ℕ) (last begun : List ℕ) → IsPart part all room last begun → IsOpenAt all last
part_opened (Size s value) all room last begun x = line_opened all last s x.2 x.3
part_opened (Data left) all room last begun x = chunk_opened all room left last begun [] x (omega arith) (inl refl) (13 ∷ 10 ∷ [], [], refl)
part_opened Lf all room last begun x = chunk_opened all room 0 last begun (13 ∷ []) x (omega arith) (inr refl) (10 ∷ [], [], refl)
part_opened (Trailers here fields count) all room last begun x =
    let t = x.1.2 in
    let opened = open_lines t.lines x.1.0 t.line t.reads t.open_line in
    trailers_opened all last x.1.0 x.1.1 t.short opened.0 opened.1

-- a reading that goes on has met no end and no fault
pub reading_goes_on : (most : ℕ) (text content : List ℕ) (part : Part) (room : ℕ) → IsReading most text content part room
    → ((b r : List ℕ) → ReadsBody most chunked text b r → ⊥) × ((f : FrameFault) → FailsInBody most chunked text f → ⊥)
reading_goes_on most text content part room x =
    let opened = part_opened part (room_left most x.contents) room x.last x.begun x.part_is in
    (λ b r y. open_no_body most text x.contents x.last b r x.chunks opened y, λ f y. open_no_fault most text x.contents x.last f x.chunks opened y)
