-- How the states of projects follow a history.
use Rattle.std.proofs.Common.{◌≡◌, ◌≢◌, ◌+◌, ◌-◌, ◌*◌, ◌<◌, ◌≤◌, ℕ, zero, suc, List, [], ◌∷◌, ◌++◌, length, get_or, slice_set, fold, Option, Some, None, inl, inr, refl, sym, ◌∙◌, ap, subst, arith, length-append}
use Rattle.std.proofs.lemmas.Bool.Decides.{eqb_tells}
use Rattle.std.proofs.lemmas.List.{get_or_append_left, length-set}
use Rattle.std.proofs.lemmas.List.Sums.{fold-append}
use Rattle.bim_model.specs.declared.guid.Guid.{Guid}
use Rattle.bim_model.specs.declared.author.Author.{Author}
use Rattle.bim_model.specs.Snapshots.{Version}
use Rattle.bucket_grid.specs.declared.cell.Cell.{Cell}
use Rattle.book_topics.specs.Boards.{BoardState, topic_added, topic_replaced, topic_removed, comment_added, comment_replaced, comment_removed, view_added, view_removed}
use Rattle.book_history.specs.declared.changes.Entry.{Entry}
use Rattle.book_history.specs.declared.changes.Change.{Change}
use Rattle.book_history.specs.declared.changes.Change.TheVariants.{Upload, Remove, SetRules, BucketDone, PostTopic, PutTopic, DeleteTopic, PostComment, PutComment, DeleteComment, PostView, DeleteView, ClashTopic}
use Rattle.book_history.specs.Versions.{VersionState, nothing, version_at, newest_in, made_after, with_done}
use Rattle.book_history.specs.Projects.{ProjectState, untouched, with_change, with_version, with_bucket, with_board, with_clash, clash_at, newest}
use Rattle.book_history.specs.History.{state_of, newest_of, content_of, with_entry}

pub state_push : (m : ℕ) (j : List Entry) (e : Entry) → state_of m (j ++ e ∷ []) ≡ with_entry m (state_of m j) e
unfolding state_of
state_push m j e = fold-append (with_entry m) untouched j (e ∷ [])

pub state_other : (m : ℕ) (j : List Entry) (e : Entry) → m ≢ e.project → state_of m (j ++ e ∷ []) ≡ state_of m j
state_other m j e other = state_push m j e ∙ elim (eqb_tells e.project m) [ inl is ↦ absurd (other (sym is.1)) | inr none ↦ rw none.0 refl ]

pub state_own : (m : ℕ) (j : List Entry) (e : Entry) → m ≡ e.project → state_of m (j ++ e ∷ []) ≡ with_change (state_of m j) e.change
state_own m j e own = state_push m j e ∙ elim (eqb_tells e.project m) [ inl is ↦ rw is.0 refl | inr none ↦ absurd (none.1 (sym own)) ]

pub nothing_yet : (m : ℕ) → state_of m [] ≡ untouched
unfolding state_of
nothing_yet m = refl

-- a project is never without versions, nor has it more of them than entries; an entry makes two objects at most
pub record Within (s : ProjectState) (versions made : ℕ) : Type 0 where
  pub some : 0 < length s.versions
  pub versions_in : length s.versions ≤ versions
  pub made_in : s.board.made ≤ made

push_one : (vs : List VersionState) (v : VersionState) → length (vs ++ v ∷ []) ≡ length vs + 1
push_one vs v = length-append vs (v ∷ [])

pushed_within : (s : ProjectState) (v : VersionState) (n m : ℕ) → Within s n m → Within (record { board = s.board; versions = s.versions ++ v ∷ [] }) (n + 1) (m + 2)
pushed_within s v n m h =
    let a = push_one s.versions v in
    record {
      some = omega (arith, a);
      versions_in = let l = h.versions_in in omega (arith, a, l);
      made_in = let k = h.made_in in omega (arith, k);
    }

said_within : (s : ProjectState) (b : BoardState) (n m : ℕ) → b.made ≤ s.board.made + 2 → Within s n m → Within (with_board s b) (n + 1) (m + 2)
said_within s b n m few h = record {
  some = h.some;
  versions_in = let l = h.versions_in in omega (arith, l);
  made_in = let k = h.made_in in omega (arith, k, few);
}

clash_few : (b : BoardState) (author : Author) (pair : Option (Guid × Guid)) → (with_clash b author pair).made ≤ b.made + 2
clash_few b author None = omega arith
clash_few b author (Some pair) = omega arith

change_within : (s : ProjectState) (c : Change) (n m : ℕ) → Within s n m → Within (with_change s c) (n + 1) (m + 2)
change_within s (Upload name model) n m h = pushed_within s _ n m h
change_within s (Remove name) n m h = pushed_within s _ n m h
change_within s (SetRules rules weight) n m h = pushed_within s _ n m h
change_within s (BucketDone number cell) n m h =
    let same = length-set s.versions number (with_done cell (version_at s.versions number)) in
    record {
      some = let a = h.some in omega (arith, same, a);
      versions_in = let v = h.versions_in in omega (arith, same, v);
      made_in = let k = h.made_in in omega arith;
    }
change_within s (PostTopic body author weight) n m h = said_within s (topic_added s.board body author) n m (omega arith) h
change_within s (PutTopic topic body author weight) n m h = said_within s (topic_replaced s.board topic body author) n m (omega arith) h
change_within s (DeleteTopic topic) n m h = said_within s (topic_removed s.board topic) n m (omega arith) h
change_within s (PostComment topic body author weight) n m h = said_within s (comment_added s.board topic body author) n m (omega arith) h
change_within s (PutComment topic comment body author weight) n m h =
    said_within s (comment_replaced s.board topic comment body author) n m (omega arith) h
change_within s (DeleteComment topic comment) n m h = said_within s (comment_removed s.board topic comment) n m (omega arith) h
change_within s (PostView topic body weight) n m h = said_within s (view_added s.board topic body) n m (omega arith) h
change_within s (DeleteView topic view) n m h = said_within s (view_removed s.board topic view) n m (omega arith) h
change_within s (ClashTopic version place author weight) n m h =
    let pair = clash_at (version_at s.versions version).content place in
    said_within s (with_clash s.board author pair) n m (clash_few s.board author pair) h

wider : (s : ProjectState) (n m : ℕ) → Within s n m → Within s (n + 1) (m + 2)
wider s n m h = record { some = h.some; versions_in = let v = h.versions_in in omega arith; made_in = let k = h.made_in in omega arith }

entry_within : (p : ℕ) (s : ProjectState) (e : Entry) (n m : ℕ) → Within s n m → Within (with_entry p s e) (n + 1) (m + 2)
entry_within p s e n m h = elim (eqb_tells e.project p) [ inl is ↦ rw is.0 (change_within s e.change n m h) | inr none ↦ rw none.0 (wider s n m h) ]

fold_within : (p : ℕ) (s : ProjectState) (j : List Entry) (n m : ℕ) → Within s n m → Within (fold (with_entry p) s j) (n + length j) (m + 2 * length j)
fold_within p s [] n m h = record { some = h.some; versions_in = let v = h.versions_in in omega arith; made_in = let k = h.made_in in omega arith }
fold_within p s (e ∷ es) n m h =
    let r = fold_within p (with_entry p s e) es (n + 1) (m + 2) (entry_within p s e n m h) in
    record { some = r.some; versions_in = let v = r.versions_in in omega arith; made_in = let k = r.made_in in omega arith }

pub within : (p : ℕ) (j : List Entry) → Within (state_of p j) (length j + 1) (2 * length j)
unfolding state_of
within p j =
    let start : Within untouched 1 0 = record { some = omega arith; versions_in = omega arith; made_in = omega arith } in
    let r = fold_within p untouched j 1 0 start in
    record { some = r.some; versions_in = let v = r.versions_in in omega arith; made_in = let k = r.made_in in omega arith }
