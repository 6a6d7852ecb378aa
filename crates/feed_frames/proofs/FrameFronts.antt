-- The frame at the front of a stream, and the bytes behind it.
use Rattle.std.proofs.Common.{◌≡◌, ℕ, ◌+◌, ◌-◌, ◌≤◌, List, ◌++◌, length, take, drop, refl, sym, ap, subst, ◌∙◌, append_assoc, arith}
use Rattle.std.proofs.Math.Seq.{take-length}
use Rattle.std.proofs.lemmas.List.{take-append-drop, drop_at, drop-drop, length-append, length-take, length-drop}
use Rattle.std.proofs.lemmas.Nat.{be_bytes_8}
use Rattle.book_history.specs.declared.changes.Entry.{Entry}
use Rattle.feed_frames.specs.FieldBytes.{long_bytes}
use Rattle.feed_frames.specs.EntryBytes.{payload, frame}
use Rattle.feed_frames.specs.FrameStreams.{count_at}
use Rattle.feed_frames.specs.inner.FrameFronts.{IsFrameAt}
use Rattle.feed_frames.proofs.Formats.{IsBytes, IsBytes-front}

-- bytes as they are cut into a count, so many bytes, and the rest
count_spelled : (bytes : List ℕ) → IsBytes bytes → 8 ≤ length bytes → take 8 bytes ≡ long_bytes (count_at bytes)
unfolding long_bytes
count_spelled bytes fits long =
    let whole : bytes ≡ take 8 bytes ++ drop 8 bytes = sym (take-append-drop 8 bytes) in
    let front : IsBytes (take 8 bytes) = IsBytes-front (take 8 bytes) (drop 8 bytes) (subst (λ (l : List ℕ). IsBytes l) whole fits) in
    let eight : length (take 8 bytes) ≡ 8 = omega (arith, length-take 8 bytes) in
    sym (be_bytes_8 (take 8 bytes) (count_at bytes) eight front refl)

-- the inside has as many bytes as the count says
inside_length : (bytes inside : List ℕ) → IsFrameAt bytes inside → length inside ≡ count_at bytes
inside_length bytes inside f =
    let whole : 8 + count_at bytes ≤ length bytes = f.1 in
    let all : length (take (count_at bytes) (drop 8 bytes)) ≡ count_at bytes =
    omega (arith, length-take (count_at bytes) (drop 8 bytes), length-drop 8 bytes, whole)
    in
    ap length f.2 ∙ all

long_length : (n : ℕ) → length (long_bytes n) ≡ 8
unfolding long_bytes
long_length n = refl

frame_length : (e : Entry) → length (frame e) ≡ 8 + length (payload e)
unfolding frame
frame_length e =
    omega (arith, length-append (long_bytes (length (payload e))) (payload e), long_length (length (payload e)))

-- the frame of the entry that its payload spells, and what stands behind it
stands_before : (bytes inside : List ℕ) (e : Entry) → IsBytes bytes → IsFrameAt bytes inside → payload e ≡ inside → bytes ≡ frame e ++ drop (8 + length inside) bytes
unfolding frame
stands_before bytes inside e fits f same =
    let n = count_at bytes in
    let size : length inside ≡ n = inside_length bytes inside f in
    let rest : List ℕ = drop 8 bytes in
    let front : take 8 bytes ≡ long_bytes (length (payload e)) = count_spelled bytes fits f.0 ∙ ap long_bytes (sym size ∙ ap length (sym same)) in
    let middle : take n rest ≡ payload e = sym (same ∙ f.2) in
    let behind : drop n rest ≡ drop (8 + length inside) bytes =
    drop-drop n 8 bytes ∙ ap (λ (k : ℕ). drop (8 + k) bytes) (sym size)
    in
    sym (take-append-drop 8 bytes)
    ∙ ap (λ (l : List ℕ). l ++ rest) front
    ∙ ap (λ (l : List ℕ). long_bytes (length (payload e)) ++ l) (sym (take-append-drop n rest))
    ∙ ap (λ (l : List ℕ). long_bytes (length (payload e)) ++ (l ++ drop n rest)) middle
    ∙ ap (λ (l : List ℕ). long_bytes (length (payload e)) ++ (payload e ++ l)) behind
    ∙ sym (append_assoc (long_bytes (length (payload e))) (payload e) (drop (8 + length inside) bytes))

-- all bytes from a place on
rest_is : (bytes : List ℕ) (start : ℕ) → take (length bytes - start) (drop start bytes) ≡ drop start bytes
rest_is bytes start =
    ap (λ (n : ℕ). take n (drop start bytes)) (sym (length-drop start bytes)) ∙ take-length (drop start bytes)

pub at_rest : (P : List ℕ → Type 0) (bytes items : List ℕ) (start : ℕ) → bytes ≡ items → P (take (length bytes - start) (drop start bytes)) → P (drop start items)
at_rest P bytes items start same h =
    subst (λ (l : List ℕ). P (drop start l)) same (subst P (rest_is bytes start) h)

-- the frame of an entry stands there, of so many bytes
pub record IsWhole (bytes : List ℕ) (e : Entry) (size : ℕ) : Type 0 where
  pub first : bytes ≡ frame e ++ drop size bytes
  pub long : size ≡ length (frame e)

-- the entry that stands there
pub is_whole : (bytes inside : List ℕ) (e : Entry) (size : ℕ) → IsBytes bytes → IsFrameAt bytes inside → payload e ≡ inside → size ≡ 8 + length inside → IsWhole bytes e size
is_whole bytes inside e size fits f same is =
    let long : length (payload e) ≡ length inside = ap length same in
    record {
      first = stands_before bytes inside e fits f same ∙ ap (λ (n : ℕ). frame e ++ drop n bytes) (sym is);
      long = omega (arith, frame_length e, long, is);
    }

-- what stands behind a frame
pub behind_whole : (items : List ℕ) (start size : ℕ) (e : Entry) → IsWhole (drop start items) e size → drop start items ≡ frame e ++ drop (start + size) items
behind_whole items start size e w = w.first ∙ ap (λ (l : List ℕ). frame e ++ l) (drop-drop size start items)

-- room for the count, and the payload behind it
pub room_for : (before : List ℕ) (e : Entry) → before ≡ long_bytes 0 ++ payload e → 8 ≤ length before
room_for before e same = omega (arith, ap length same, length-append (long_bytes 0) (payload e), long_length 0)

-- a count written over the first eight bytes, before a payload
pub framed : (e : Entry) (before : List ℕ) → before ≡ long_bytes 0 ++ payload e → long_bytes (length before - 8) ++ drop 8 before ≡ frame e
unfolding frame
framed e before same =
    let size : length before - 8 ≡ length (payload e) =
    omega (arith, ap length same, length-append (long_bytes 0) (payload e), long_length 0)
    in
    let behind : drop 8 before ≡ payload e = ap (drop 8) same ∙ drop_at (long_bytes 0) (payload e) 8 (long_length 0) in
    ap (λ (n : ℕ). long_bytes n ++ drop 8 before) size
    ∙ ap (λ (l : List ℕ). long_bytes (length (payload e)) ++ l) behind
