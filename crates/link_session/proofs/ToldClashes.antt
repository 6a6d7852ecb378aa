-- A version whose clashes are told is live, and checked.
use Rattle.std.proofs.Common.{◌≡◌, ◌+◌, ◌<◌, ◌≤◌, ℕ, Bool, true, false, nat_lt, nat_le, List, [], ◌∷◌, length, Some, refl, ap, subst, arith}
use Rattle.std.proofs.lemmas.Bool.{ltb-false, leb-false}
use Rattle.bim_model.specs.Snapshots.{Version}
use Rattle.bucket_grid.specs.declared.cell.Cell.{Cell}
use Rattle.book_history.specs.declared.changes.Entry.{Entry}
use Rattle.book_history.specs.declared.requests.Wanted.{Wanted}
use Rattle.book_history.specs.declared.replies.ReplyBody.TheVariants as reply
use Rattle.book_history.specs.Versions.{version_at}
use Rattle.book_history.specs.Projects.{ProjectState, newest}
use Rattle.book_history.specs.History.{state_of, newest_of}
use Rattle.book_history.specs.Refusals.{wanted_in, not_yet, dropped, pending}
use Rattle.book_history.specs.Requests.{Answer, unless, clashes_read, body_of}
use Rattle.book_history.proofs.States.{within}
use Rattle.bim_session.specs.ShelfNotes.{set_told}
use Rattle.book_history.proofs.Staying.{Settled}

some_is : (x y : ℕ × Version) → Some x ≡ Some y → x ≡ y
some_is x y e = cc

-- what is told of a version's clashes, by the tests of its refusals
told_by_tests : (h : List Entry) (p : ProjectState) (v first count w : ℕ) (content : Version) (a b c : Bool) → nat_lt (newest p) v ≡ a → nat_le (v + 16) (newest p) ≡ b
    → nat_lt 0 (length (version_at p.versions v).undone) ≡ c
    → set_told (body_of h (unless (not_yet p v ∷ dropped p v ∷ pending v (version_at p.versions v) ∷ []) (Answer (reply.Clashes v (version_at p.versions v).content first count)))) ≡ Some (w, content)
    → (v ≡ w) × ((version_at p.versions v).content ≡ content) × (a ≡ false) × (b ≡ false) × (c ≡ false)
told_by_tests h p v first count w content true b c ea eb ec told = absurd (let none = rw ea at told in cc)
told_by_tests h p v first count w content false true c ea eb ec told = absurd (let none = rw (ea, eb) at told in cc)
told_by_tests h p v first count w content false false true ea eb ec told = absurd (let none = rw (ea, eb, ec) at told in cc)
told_by_tests h p v first count w content false false false ea eb ec told =
    let is = rw (ea, eb, ec) at told in
    let same = some_is (v, (version_at p.versions v).content) (w, content) is in
    (ap (λ (x : ℕ × Version). x.0) same, ap (λ (x : ℕ × Version). x.1) same, refl, refl, refl)

-- a version whose clashes are told is live, and checked
pub read_told : (h : List Entry) (wanted : Wanted) (first count number w : ℕ) (content : Version)
    → set_told (body_of h (clashes_read h wanted first count number)) ≡ Some (w, content)
    → Settled (state_of number h) w content × (newest_of number h < w + 16)
read_told h wanted first count number w content told =
    let p : ProjectState = state_of number h in
    let v : ℕ = wanted_in p wanted in
    let some = within number h in
    let one : 0 < length p.versions = some.some in
    let x = told_by_tests h p v first count w content (nat_lt (newest p) v) (nat_le (v + 16) (newest p)) (nat_lt 0 (length (version_at p.versions v).undone)) refl refl refl told in
    let made : v ≤ newest p = ltb-false (newest p) v x.2 in
    let live : newest p < v + 16 = leb-false (v + 16) (newest p) x.3 in
    let none : length (version_at p.versions v).undone ≤ 0 = ltb-false 0 (length (version_at p.versions v).undone) x.4 in
    subst (λ (n : ℕ). Settled p n content × (newest p < n + 16)) x.0
    (record { there = omega (arith, made, one); is = x.1; none = empty (version_at p.versions v).undone none }, live)
  where
    empty : (cs : List Cell) → length cs ≤ 0 → cs ≡ []
    empty [] few = refl
    empty (c ∷ cs) few = absurd (omega (arith, few))
