-- Bytes that are moved down, some after others.
use Rattle.std.proofs.Common.{◌≡◌, ℕ, zero, suc, ◌+◌, ◌≤◌, List, [], ◌∷◌, ◌++◌, length, take, drop, refl, sym, ap, ◌∙◌, arith, append_assoc, take-add}
use Rattle.std.proofs.lemmas.List.{drop-drop}
use lib.Lanes.{put_chunk}

-- what is after the bytes written stays
pub drop_put : (i : ℕ) (xs ys : List ℕ) (k : ℕ) → i + length ys ≤ k → drop k (put_chunk i xs ys) ≡ drop k xs
drop_put i [] ys k le = refl
drop_put zero (x ∷ xs) [] k le = refl
drop_put zero (x ∷ xs) (y ∷ ys) zero le = absurd (omega arith)
drop_put zero (x ∷ xs) (y ∷ ys) (suc k) le = drop_put zero xs ys k (omega arith)
drop_put (suc i) (x ∷ xs) ys zero le = absurd (omega arith)
drop_put (suc i) (x ∷ xs) ys (suc k) le = drop_put i xs ys k (omega arith)

-- more bytes after those that were moved before
pub moved_more : (old mid new : List ℕ) (from to done n : ℕ) → take (to + done) mid ≡ take to old ++ take done (drop from old)
    → drop (from + done) mid ≡ drop (from + done) old → take ((to + done) + n) new ≡ take (to + done) mid ++ take n (drop (from + done) mid)
    → take (to + (done + n)) new ≡ take to old ++ take (done + n) (drop from old)
moved_more old mid new from to done n before same more =
    let place : to + (done + n) ≡ (to + done) + n = omega arith in
    let next : take n (drop (from + done) mid) ≡ take n (drop done (drop from old)) = ap (take n) (same ∙ sym (drop-drop done from old)) in
    ap (λ k. take k new) place ∙ more ∙ ap (λ z. z ++ take n (drop (from + done) mid)) before
    ∙ ap (λ z. (take to old ++ take done (drop from old)) ++ z) next
    ∙ append_assoc (take to old) (take done (drop from old)) (take n (drop done (drop from old)))
    ∙ ap (λ z. take to old ++ z) (sym (take-add done n (drop from old)))

-- what is after them is the same still
pub rest_more : (old mid new : List ℕ) (from done n : ℕ) → drop (from + done) mid ≡ drop (from + done) old
    → drop ((from + done) + n) new ≡ drop ((from + done) + n) mid → drop (from + (done + n)) new ≡ drop (from + (done + n)) old
rest_more old mid new from done n same behind =
    let place : from + (done + n) ≡ (from + done) + n = omega arith in
    ap (λ k. drop k new) place ∙ behind ∙ sym (drop-drop n (from + done) mid) ∙ ap (drop n) same ∙ drop-drop n (from + done) old
    ∙ ap (λ k. drop k old) (sym place)
