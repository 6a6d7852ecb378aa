-- What a pass had seen, as the front of a longer list.
use Rattle.std.proofs.Common.{◌≡◌, ℕ, ◌+◌, ◌<◌, ◌≤◌, List, [], ◌∷◌, ◌++◌, if◌then◌else◌, refl, sym, ◌∙◌, ap, arith, le-leb}
use mathlib.Core.Logic.{dite}
use native.Mathlib.Decide.{dec_le}
use borrow.Author.Tests.{lt-leb}
use Rattle.book_turn.specs.Entries.{AllBefore, AllAfter}
use Rattle.book_turn.proofs.Prefixes.{up_to_later, up_to_all}
use Rattle.book_history.specs.declared.changes.Entry.{Entry}
use Rattle.book_passes.specs.Lessons.{turn_of}
use Rattle.check_workers.specs.Joins.{seen_at}

taken : (t : ℕ) (e : Entry) (es : List Entry) → e.stamp.turn ≤ t → seen_at t (e ∷ es) ≡ e ∷ seen_at t es
taken t e es le = ap (λ b. if b then e ∷ seen_at t es else seen_at t es) (le-leb e.stamp.turn t le)

left_out : (t : ℕ) (e : Entry) (es : List Entry) → t < e.stamp.turn → seen_at t (e ∷ es) ≡ seen_at t es
left_out t e es lt = ap (λ b. if b then e ∷ seen_at t es else seen_at t es) (lt-leb e.stamp.turn t lt)

seen_inside : (s t : ℕ) (e : Entry) (es : List Entry) → s ≤ t → seen_at s (seen_at t es) ≡ seen_at s es → e.stamp.turn ≤ t → seen_at s (seen_at t (e ∷ es)) ≡ seen_at s (e ∷ es)
seen_inside s t e es le again in_t = ap (λ l. seen_at s l) (taken t e es in_t) ∙ dite (dec_le e.stamp.turn s)
    (λ in_s. taken s e (seen_at t es) in_s ∙ ap (λ l. e ∷ l) again ∙ sym (taken s e es in_s))
    (λ not. let lt : s < e.stamp.turn = omega arith in left_out s e (seen_at t es) lt ∙ again ∙ sym (left_out s e es lt))

seen_outside : (s t : ℕ) (e : Entry) (es : List Entry) → s ≤ t → seen_at s (seen_at t es) ≡ seen_at s es → t < e.stamp.turn → seen_at s (seen_at t (e ∷ es)) ≡ seen_at s (e ∷ es)
seen_outside s t e es le again lt =
    let lt' : s < e.stamp.turn = omega arith in
    ap (λ l. seen_at s l) (left_out t e es lt) ∙ again ∙ sym (left_out s e es lt')

-- what is seen up to an earlier turn of what is seen up to a later one
pub seen_twice : (s t : ℕ) (h : List Entry) → s ≤ t → seen_at s (seen_at t h) ≡ seen_at s h
seen_twice s t [] le = refl
seen_twice s t (e ∷ es) le =
    let again : seen_at s (seen_at t es) ≡ seen_at s es = seen_twice s t es le in
    dite (dec_le e.stamp.turn t)
    (λ in_t. seen_inside s t e es le again in_t)
    (λ not. seen_outside s t e es le again (omega arith))

-- what the front of a longer list had seen
pub front_of : (last : ℕ) (before news : List Entry) → AllBefore turn_of (last + 1) before → AllAfter turn_of last news → seen_at last (before ++ news) ≡ before
front_of last before news are later = up_to_later turn_of last before news later ∙ up_to_all turn_of last before are
