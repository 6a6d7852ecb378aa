-- A version whose buckets are all done stays so, with what it holds, as a history grows.
use Rattle.std.proofs.Common.{◌≡◌, ◌+◌, ◌<◌, ◌≤◌, ◌⊎◌, ℕ, false, nat_lt, nat_le, List, [], ◌∷◌, ◌++◌, length, set, filter, fold, not, inl, inr, refl, sym, ◌∙◌, ap, subst, arith, length-append}
use Rattle.std.proofs.lemmas.Bool.{cases_eq, le-ltb, lt-leb}
use Rattle.std.proofs.lemmas.Bool.Decides.{eqb_tells}
use Rattle.std.proofs.lemmas.List.{get_or_append_left, get_or-set_same, get_or-set_other, length-set}
use Rattle.std.proofs.lemmas.List.Sums.{fold-append}
use Rattle.bim_model.specs.Snapshots.{Version}
use Rattle.bucket_grid.specs.declared.cell.Cell.{Cell}
use Rattle.bucket_check.specs.Clashes.{is_cell}
use Rattle.book_history.specs.declared.changes.Entry.{Entry}
use Rattle.book_history.specs.declared.changes.Change.{Change}
use Rattle.book_history.specs.declared.changes.Change.TheVariants.{Upload, Remove, SetRules, BucketDone}
use Rattle.book_history.specs.declared.requests.Wanted.TheVariants.{Number}
use Rattle.book_history.specs.declared.replies.ReplyBody.TheVariants as reply
use Rattle.book_history.specs.Versions.{VersionState, nothing, version_at, with_done}
use Rattle.book_history.specs.Projects.{ProjectState, untouched, with_change, newest}
use Rattle.book_history.specs.History.{state_of, newest_of, with_entry}
use Rattle.book_history.specs.Refusals.{not_yet, dropped, pending}
use Rattle.book_history.specs.Requests.{Outcome, Answer, unless, clashes_read}

-- the version is there, holds this, and no bucket of it is to be checked
pub record Settled (s : ProjectState) (number : ℕ) (content : Version) : Type 0 where
  pub there : number < length s.versions
  pub is : (version_at s.versions number).content ≡ content
  pub none : (version_at s.versions number).undone ≡ []

push_settled : (vs : List VersionState) (v : VersionState) (number : ℕ) (content : Version) → number < length vs → (version_at vs number).content ≡ content
    → (version_at vs number).undone ≡ []
    → (number < length (vs ++ v ∷ [])) × ((version_at (vs ++ v ∷ []) number).content ≡ content) × ((version_at (vs ++ v ∷ []) number).undone ≡ [])
push_settled vs v number content lt is none =
    let more = length-append vs (v ∷ []) in
    let same = get_or_append_left vs (v ∷ []) nothing number lt in
    (omega (arith, lt, more), ap (λ (x : VersionState). x.content) same ∙ is, ap (λ (x : VersionState). x.undone) same ∙ none)

done_settled : (vs : List VersionState) (n : ℕ) (cell : Cell) (number : ℕ) → number < length vs → (version_at vs number).undone ≡ [] → (n ≡ number) ⊎ (n ≡ number → ⊥)
    → ((version_at (set vs n (with_done cell (version_at vs n))) number).content ≡ (version_at vs number).content)
    × ((version_at (set vs n (with_done cell (version_at vs n))) number).undone ≡ [])
done_settled vs n cell number lt none (inl e) =
    subst (λ m. ((version_at (set vs n (with_done cell (version_at vs n))) m).content ≡ (version_at vs m).content)
    × ((version_at (set vs n (with_done cell (version_at vs n))) m).undone ≡ [])) e
    (let same = get_or-set_same vs n (with_done cell (version_at vs n)) nothing (subst (λ m. m < length vs) (sym e) lt) in (
      ap (λ (x : VersionState). x.content) same,
      ap (λ (x : VersionState). x.undone) same
          ∙ ap (filter (λ (c : Cell). not (is_cell c cell))) (subst (λ m. (version_at vs m).undone ≡ []) (sym e) none),
    ))
done_settled vs n cell number lt none (inr ne) =
    let same = get_or-set_other vs n number (with_done cell (version_at vs n)) nothing (λ e. ne (sym e)) in
    (ap (λ (x : VersionState). x.content) same, ap (λ (x : VersionState). x.undone) same ∙ none)

change_settled : (s : ProjectState) (c : Change) (number : ℕ) (content : Version) → Settled s number content → Settled (with_change s c) number content
change_settled s (Upload name model) number content h = let r = push_settled s.versions _ number content h.there h.is h.none in record { there = r.0; is = r.1; none = r.2 }
change_settled s (Remove name) number content h = let r = push_settled s.versions _ number content h.there h.is h.none in record { there = r.0; is = r.1; none = r.2 }
change_settled s (SetRules rules weight) number content h = let r = push_settled s.versions _ number content h.there h.is h.none in record { there = r.0; is = r.1; none = r.2 }
change_settled s (BucketDone n cell) number content h =
    let same = length-set s.versions n (with_done cell (version_at s.versions n)) in
    let there = h.there in
    let r = done_settled s.versions n cell number h.there h.none (cases_eq n number) in
    record { there = omega (arith, same, there); is = r.0 ∙ h.is; none = r.1 }
change_settled s _ number content h = record { there = h.there; is = h.is; none = h.none }

entry_settled : (p : ℕ) (s : ProjectState) (e : Entry) (number : ℕ) (content : Version) → Settled s number content → Settled (with_entry p s e) number content
entry_settled p s e number content h =
    elim (eqb_tells e.project p) [ inl is ↦ rw is.0 (change_settled s e.change number content h) | inr none ↦ rw none.0 h ]

fold_settled : (p : ℕ) (s : ProjectState) (j : List Entry) (number : ℕ) (content : Version) → Settled s number content → Settled (fold (with_entry p) s j) number content
fold_settled p s [] number content h = h
fold_settled p s (e ∷ es) number content h = fold_settled p (with_entry p s e) es number content (entry_settled p s e number content h)

-- a version that is checked is so in every longer history, and holds the same
pub settled_later : (p : ℕ) (j more : List Entry) (number : ℕ) (content : Version) → Settled (state_of p j) number content → Settled (state_of p (j ++ more)) number content
unfolding state_of
settled_later p j more number content h =
    subst (λ s. Settled s number content) (sym (fold-append (with_entry p) untouched j more)) (fold_settled p (fold (with_entry p) untouched j) more number content h)

-- ---- the newest version never falls

push_longer : (vs : List VersionState) (v : VersionState) → length vs ≤ length (vs ++ v ∷ [])
push_longer vs v = let more = length-append vs (v ∷ []) in omega (arith, more)

change_longer : (s : ProjectState) (c : Change) → length s.versions ≤ length (with_change s c).versions
change_longer s (Upload name model) = push_longer s.versions _
change_longer s (Remove name) = push_longer s.versions _
change_longer s (SetRules rules weight) = push_longer s.versions _
change_longer s (BucketDone n cell) = let same = length-set s.versions n (with_done cell (version_at s.versions n)) in omega (arith, same)
change_longer s _ = omega arith

entry_longer : (p : ℕ) (s : ProjectState) (e : Entry) → length s.versions ≤ length (with_entry p s e).versions
entry_longer p s e = elim (eqb_tells e.project p) [ inl is ↦ rw is.0 (change_longer s e.change) | inr none ↦ rw none.0 (omega arith) ]

fold_longer : (p : ℕ) (s : ProjectState) (j : List Entry) → length s.versions ≤ length (fold (with_entry p) s j).versions
fold_longer p s [] = omega arith
fold_longer p s (e ∷ es) =
    let one = entry_longer p s e in
    let rest = fold_longer p (with_entry p s e) es in
    omega (arith, one, rest)

pub newest_later : (p : ℕ) (j more : List Entry) → newest_of p j ≤ newest_of p (j ++ more)
unfolding state_of
newest_later p j more =
    let first : ProjectState = fold (with_entry p) untouched j in
    let longer : length first.versions ≤ length (fold (with_entry p) first more).versions = fold_longer p first more in
    subst (λ (s : ProjectState). newest first ≤ newest s) (sym (fold-append (with_entry p) untouched j more)) (omega (arith, longer))

-- ---- what is read of a version that is checked

not_refused : (p : ProjectState) (v : ℕ) (version : VersionState) (o : Outcome) → nat_lt (newest p) v ≡ false → nat_le (v + 16) (newest p) ≡ false
    → nat_lt 0 (length version.undone) ≡ false → unless (not_yet p v ∷ dropped p v ∷ pending v version ∷ []) o ≡ o
not_refused p v version o ea eb ec = rw (ea, eb, ec) refl

-- the clashes of a live version that is checked are answered
pub read_settled : (h : List Entry) (number v first count : ℕ) (content : Version) → Settled (state_of number h) v content → newest_of number h < v + 16
    → clashes_read h (Number v) first count number ≡ Answer (reply.Clashes v content first count)
read_settled h number v first count content s live =
    let p : ProjectState = state_of number h in
    let version : VersionState = version_at p.versions v in
    let there : v < length p.versions = s.there in
    let made : nat_lt (newest p) v ≡ false = le-ltb (newest p) v (omega (arith, there)) in
    let kept : nat_le (v + 16) (newest p) ≡ false = lt-leb (v + 16) (newest p) live in
    let none : nat_lt 0 (length version.undone) ≡ false = ap (λ (cs : List Cell). nat_lt 0 (length cs)) s.none in
    not_refused p v version (Answer (reply.Clashes v version.content first count)) made kept none
    ∙ ap (λ (c : Version). Answer (reply.Clashes v c first count)) s.is
