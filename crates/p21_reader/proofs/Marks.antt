-- The words that the grammar names.
use Rattle.std.proofs.Common.{◌≡◌, [], Some, None, refl, ap}
use Rattle.p21_reader.specs.declared.word.Mark.{Mark}
use Rattle.p21_reader.specs.declared.word.Mark.TheVariants as marks
use Rattle.p21_reader.specs.declared.word.Seen.{Seen}
use Rattle.p21_reader.specs.declared.word.Seen.TheVariants as seen
use Rattle.p21_values.specs.Grammar as grammar
use Rattle.p21_values.specs.Grammar.{Class, Word, Iso, Header, Data, EndSec, EndIso, Other, T}
use Rattle.p21_reader.specs.Machine.{next}
use Rattle.p21_reader.specs.inner.Heading.{mark_seen, class_seen}

-- A word that is wanted.

word_next : (m : grammar.Mark) → next (T (Word m)) (Word m) ≡ Some []
word_next Iso = refl
word_next Header = refl
word_next Data = refl
word_next EndSec = refl
word_next EndIso = refl
word_next Other = refl

pub word_is : (m : grammar.Mark) (c : Class) → c ≡ Word m → next (T (Word m)) c ≡ Some []
word_is m c e = rw e (word_next m)

pub word_no : (m : grammar.Mark) (c : Class) → (c ≡ Word m → ⊥) → next (T (Word m)) c ≡ None
word_no Iso (Word Iso) a = absurd (a refl)
word_no Header (Word Header) a = absurd (a refl)
word_no Data (Word Data) a = absurd (a refl)
word_no EndSec (Word EndSec) a = absurd (a refl)
word_no EndIso (Word EndIso) a = absurd (a refl)
word_no Other (Word Other) a = absurd (a refl)
word_no Iso (Word n) a = refl
word_no Header (Word n) a = refl
word_no Data (Word n) a = refl
word_no EndSec (Word n) a = refl
word_no EndIso (Word n) a = refl
word_no Other (Word n) a = refl
word_no m c a = refl

-- What is seen of a token tells the word.

mark_is : (a b : Mark) → mark_seen a ≡ mark_seen b → a ≡ b
mark_is marks.Iso marks.Iso h = refl
mark_is marks.Header marks.Header h = refl
mark_is marks.Data marks.Data h = refl
mark_is marks.EndSec marks.EndSec h = refl
mark_is marks.EndIso marks.EndIso h = refl
mark_is marks.Other marks.Other h = refl
mark_is a b h = cc

pub seen_word : (r : Seen) (w : Mark) → class_seen r ≡ Word (mark_seen w) → r ≡ seen.Word w
seen_word (seen.Word m) w h = let e : mark_seen m ≡ mark_seen w = cc in ap seen.Word (mark_is m w e)
seen_word r w h = cc
