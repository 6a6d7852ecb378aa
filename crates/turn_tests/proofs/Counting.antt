-- How many entries a pass has made.
use Rattle.std.proofs.Common.{◌≡◌, ℕ, zero, suc, refl, ◌+◌, List, [], ◌∷◌, ◌++◌, ◌||◌, false, if◌then◌else◌, length, sym, ap, ◌∙◌, arith, length-append, eq-eqb}
use Rattle.book_turn.specs.declared.object.Stamp.{Stamp}
use Rattle.book_turn.specs.Entries.{calls_by}
use Rattle.book_turn.specs.Passes.{PassState, TurnState, KeepsNumbers, new_pass, new_passes}
use Rattle.turn_tests.specs.inner.EntryCounts.{own_count}
use Rattle.book_turn.proofs.Prefixes.{calls_by-append}

-- an entry of its own is one more, and those of others are none
pub one_more : {S : Type 0} (v w : PassState Stamp S) (news : List Stamp) (stamp : Stamp) → v.numbers ≡ v.number ∷ [] → w.numbers ≡ v.numbers → stamp.pass ≡ v.number
    → calls_by (λ (e : Stamp). e.pass) v.numbers news ≡ [] → w.seen ≡ (v.seen ++ news) ++ stamp ∷ [] → own_count w ≡ own_count v + 1
one_more v w news stamp alone same mine others seen =
    let pass : Stamp → ℕ = λ e. e.pass in
    let by : List Stamp → List Stamp = calls_by pass v.numbers in
    let here : own_count w ≡ length (by ((v.seen ++ news) ++ stamp ∷ [])) = λ i. length (calls_by pass (same i) (seen i)) in
    let one : by (stamp ∷ []) ≡ stamp ∷ [] = ap (λ ps. calls_by pass ps (stamp ∷ [])) alone ∙ ap (λ b. if b || false then stamp ∷ [] else []) (eq-eqb stamp.pass v.number mine) in
    let split = ap (λ l. length l) (calls_by-append pass v.numbers (v.seen ++ news) (stamp ∷ [])) in
    let split' = ap (λ l. length l) (calls_by-append pass v.numbers v.seen news) in
    let none : length (by news) ≡ 0 = ap (λ l. length l) others in
    let last : length (by (stamp ∷ [])) ≡ 1 = ap (λ l. length l) one in
    let a = length-append (by (v.seen ++ news)) (by (stamp ∷ [])) in
    let b = length-append (by v.seen) (by news) in
    omega arith

-- the entries of a new pass that made n calls, in a journal that has all that it has seen of its own
pub all_made : {S : Type 0} (t : TurnState S) (x n : ℕ) (v p w : PassState Stamp S) (journal : List Stamp) → v ≡ new_pass t x → KeepsNumbers v p → own_count p ≡ own_count v + n
    → calls_by (λ (e : Stamp). e.pass) p.numbers w.seen ≡ calls_by (λ (e : Stamp). e.pass) p.numbers p.seen → journal ≡ w.seen → length (calls_by (λ (e : Stamp). e.pass) (x ∷ []) journal) ≡ n
all_made t x n v p w journal new kept more own whole =
    let pass : Stamp → ℕ = λ e. e.pass in
    let numbers : p.numbers ≡ x ∷ [] = kept.numbers ∙ ap (λ q. q.numbers) new in
    let none : own_count v ≡ 0 = ap own_count new in
    let here : length (calls_by pass (x ∷ []) journal) ≡ length (calls_by pass p.numbers w.seen) = λ i. length (calls_by pass (sym numbers i) (whole i)) in
    let same : length (calls_by pass p.numbers w.seen) ≡ own_count p = ap (λ l. length l) own in
    omega arith

-- so many passes are made
pub new_passes_length : (E : Type 0) {S : Type 0} (t : TurnState S) (a n : ℕ) → length (new_passes {E = E} t a n) ≡ n
new_passes_length E t a zero = refl
new_passes_length E t a (suc n) = ap suc (new_passes_length E t (suc a) n)
