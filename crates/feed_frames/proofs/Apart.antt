-- Frames begin no others.
use Rattle.std.proofs.Common.{◌≡◌, ℕ, ◌^◌, ◌<◌, ◌≤◌, List, [], ◌∷◌, ◌++◌, length, refl, sym, ap, subst, ◌∙◌, append_assoc, arith}
use Rattle.std.specs.List.{AllByRecursion}
use Rattle.std.proofs.lemmas.List.Elements.{recursion_from_All}
use Rattle.std.specs.Int.{w64, to_be_bytes, from_be_bytes}
use Rattle.std.proofs.lemmas.Nat.{from_be_bytes-to_be_bytes_8}
use Rattle.std.proofs.lemmas.List.{take_at, length-append}
use Rattle.std.proofs.lemmas.Option.{some_pair_parts}
use Rattle.book_history.specs.declared.changes.Entry.{Entry}
use Rattle.feed_frames.specs.FieldBytes.{long_bytes}
use Rattle.feed_frames.specs.EntryBytes.{payload, frame}
use Rattle.feed_frames.specs.SpelledEntries.{IsEntry}
use Rattle.feed_frames.specs.FrameStreams.{frames, count_at, IsPartial, FramesAreApart, StreamsSplitOnce}
use Rattle.feed_frames.specs.inner.EntryReaders.{entry_at}
use Rattle.feed_frames.specs.inner.FieldReaders.{long_at}
use Rattle.feed_frames.proofs.Fields.{long}
use Rattle.feed_frames.proofs.Changes.{entry_format}

-- a payload begins no other
pub payloads_apart : (e f : Entry) (x y : List ℕ) → IsEntry e → IsEntry f → payload e ++ x ≡ payload f ++ y → (e ≡ f) × (x ≡ y)
payloads_apart e f x y he hf same =
    some_pair_parts e f x y
    (sym (entry_format.again e x he.fits) ∙ ap entry_at same ∙ entry_format.again f y hf.fits)

-- a frame begins no other
pub frames_apart : FramesAreApart
unfolding frame
frames_apart e f x y he hf same =
    let left : frame e ++ x ≡ long_bytes (length (payload e)) ++ (payload e ++ x) =
    append_assoc (long_bytes (length (payload e))) (payload e) x
    in
    let right : frame f ++ y ≡ long_bytes (length (payload f)) ++ (payload f ++ y) =
    append_assoc (long_bytes (length (payload f))) (payload f) y
    in
    let counts = some_pair_parts (length (payload e)) (length (payload f)) (payload e ++ x) (payload f ++ y)
    (sym (long.again (length (payload e)) (payload e ++ x) he.counted)
    ∙ ap long_at (sym left ∙ same ∙ right)
    ∙ long.again (length (payload f)) (payload f ++ y) hf.counted)
    in
    payloads_apart e f x y he hf counts.1

long_length : (n : ℕ) → length (long_bytes n) ≡ 8
unfolding long_bytes
long_length n = refl

-- the count of a frame is read at its front
count_is : (n : ℕ) (rest : List ℕ) → n < 2 ^ 64 → count_at (long_bytes n ++ rest) ≡ n
unfolding long_bytes
count_is n rest lt =
    ap (λ (front : List ℕ). from_be_bytes w64 front) (take_at (to_be_bytes w64 n) rest 8 refl)
    ∙ from_be_bytes-to_be_bytes_8 n lt

-- a whole frame is no rest
no_rest : (e : Entry) (behind : List ℕ) → IsEntry e → IsPartial (frame e ++ behind) → ⊥
unfolding frame
no_rest e behind good partial =
    let n = length (payload e) in
    let there : IsPartial (long_bytes n ++ (payload e ++ behind)) =
    subst (λ (l : List ℕ). IsPartial l) (append_assoc (long_bytes n) (payload e) behind) partial
    in
    let size = length-append (long_bytes n) (payload e ++ behind) in
    let inner = length-append (payload e) behind in
    let eight = long_length n in
    let count = count_is n (payload e ++ behind) good.counted in
    let long : 8 ≤ length (long_bytes n ++ (payload e ++ behind)) = omega (arith, size, eight) in
    omega (arith, there long, size, inner, eight, count)

splits_once : (es fs : List Entry) (x y : List ℕ) → AllByRecursion IsEntry es → AllByRecursion IsEntry fs → IsPartial x → IsPartial y → frames es ++ x ≡ frames fs ++ y → (es ≡ fs) × (x ≡ y)
splits_once [] [] x y ges gfs px py same = (refl, same)
splits_once (e ∷ es) [] x y ges gfs px py same =
    absurd (no_rest e (frames es ++ x) ges.0 (subst IsPartial (sym same ∙ append_assoc (frame e) (frames es) x) py))
splits_once [] (f ∷ fs) x y ges gfs px py same =
    absurd (no_rest f (frames fs ++ y) gfs.0 (subst IsPartial (same ∙ append_assoc (frame f) (frames fs) y) px))
splits_once (e ∷ es) (f ∷ fs) x y ges gfs px py same =
    let p = frames_apart e f (frames es ++ x) (frames fs ++ y) ges.0 gfs.0
    (sym (append_assoc (frame e) (frames es) x) ∙ same ∙ append_assoc (frame f) (frames fs) y)
    in
    let q = splits_once es fs x y ges.1 gfs.1 px py p.1 in
    (ap (λ (g : Entry). g ∷ es) p.0 ∙ ap (λ (l : List Entry). f ∷ l) q.0, q.1)

pub streams_once : StreamsSplitOnce
streams_once stream es fs x y p q =
    splits_once es fs x y (recursion_from_All IsEntry es p.each) (recursion_from_All IsEntry fs q.each)
    p.partial q.partial (sym p.whole ∙ q.whole)
