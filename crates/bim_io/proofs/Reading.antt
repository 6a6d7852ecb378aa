-- A source's place in its contents after one more read.
use Rattle.std.proofs.Common.{◌≡◌, ◌+◌, ◌<◌, ◌≤◌, ◌||◌, ◌&&◌, ◌==◌, nat_lt, ℕ, List, [], ◌++◌, length, take, drop, Bool, true, false, refl, sym, ◌∙◌, ap, arith, length-drop}
use Rattle.std.proofs.Math.Seq.{take-add}
use Rattle.std.proofs.lemmas.Bool.Decides.{nat_tests}
use Rattle.std.proofs.lemmas.Grind.{common_steps}
use Rattle.std.proofs.lemmas.List.{take-append-drop}
use Rattle.bim_io.specs.MemoryStreams.{moved, left_at}

-- what is left, whether or not the end was answered
pub left_is : (ended : Bool) (left : List ℕ) → (ended ≡ true → left ≡ []) → left_at ended left ≡ left
left_is true left empty = sym (empty refl)
left_is false left empty = refl

-- what was given grows by what the room got
pub given_more : (contents room : List ℕ) (at n : ℕ) → take n room ≡ take n (drop at contents) → take (at + n) contents ≡ take at contents ++ take n room
given_more contents room at n same = take-add at n contents ∙ ap (λ b. take at contents ++ b) (sym same)

drop_add : (contents : List ℕ) (at n : ℕ) → drop n (drop at contents) ≡ drop (at + n) contents
drop_add contents at n = grind (arith, common_steps)

-- what is left begins with what the room got
pub left_more : (contents room : List ℕ) (at n : ℕ) → take n room ≡ take n (drop at contents) → drop at contents ≡ take n room ++ drop (at + n) contents
left_more contents room at n same =
    sym (take-append-drop n (drop at contents)) ∙ ap (λ b. b ++ drop n (drop at contents)) (sym same) ∙ ap (λ b. take n room ++ b) (drop_add contents at n)

-- a read of nothing into some room is at the end
pub none_left : (contents : List ℕ) (at n most space : ℕ) → 1 ≤ most → n ≡ moved most space (length (drop at contents)) → n ≡ 0 → 0 < space → drop (at + n) contents ≡ []
none_left contents at n most space one is none some =
    let empty : length (drop at contents) ≡ 0 = omega (arith) in
    grind (arith, common_steps, empty, length-drop at contents)

empty_after : (contents : List ℕ) (at n : ℕ) → drop at contents ≡ [] → drop (at + n) contents ≡ []
empty_after contents at n empty = grind (arith, common_steps, length-drop at contents, ap length empty)

-- nothing is left once the end was answered
pub over_empty : (contents : List ℕ) (at n most space : ℕ) (ended over : Bool) → 1 ≤ most → n ≡ moved most space (length (drop at contents))
    → (ended ≡ true → drop at contents ≡ []) → over ≡ (ended || (nat_lt 0 space && n == 0)) → over ≡ true → drop (at + n) contents ≡ []
over_empty contents at n most space true over one is empty e here = empty_after contents at n (empty refl)
over_empty contents at n most space false over one is empty e here =
    none_left contents at n most space one is (grind (arith, nat_tests, sym e ∙ here)) (grind (arith, nat_tests, sym e ∙ here))

-- what is left loses what the room got, whether or not the end was answered before or now
pub left_moves : (ended over : Bool) (left front rest : List ℕ) → (ended ≡ true → left ≡ []) → (over ≡ true → rest ≡ []) → left ≡ front ++ rest
    → left_at ended left ≡ front ++ left_at over rest
left_moves ended over left front rest empty none moves =
    left_is ended left empty ∙ moves ∙ ap (λ b. front ++ b) (sym (left_is over rest none))
