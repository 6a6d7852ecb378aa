-- Changes of topics, comments and viewpoints.
use Rattle.std.proofs.Common.{◌≡◌, ◌+◌, ◌<◌, ◌≤◌, ◌^◌, ℕ, List, [], ◌∷◌, ◌++◌, length, Option, Some, None, refl, sym, ◌∙◌, ap, subst, arith}
use Rattle.bim_model.specs.declared.guid.Guid.{Guid}
use Rattle.bim_model.specs.declared.author.Author.{Author}
use Rattle.bcf_topics.specs.declared.topic_body.TopicBody.{TopicBody}
use Rattle.bcf_topics.specs.declared.comment.CommentBody.{CommentBody}
use Rattle.bcf_viewpoints.specs.declared.view.ViewBody.{ViewBody}
use Rattle.book_turn.specs.declared.object.Stamp.{Stamp}
use Rattle.book_topics.specs.Boards.{BoardState}
use Rattle.book_history.specs.declared.changes.Change.{Change}
use Rattle.book_history.specs.declared.changes.Change.TheVariants.{Upload, Remove, SetRules, BucketDone, PostTopic, PutTopic, DeleteTopic, ClashTopic, PostComment, PutComment, DeleteComment, PostView, DeleteView}
use Rattle.book_history.specs.declared.changes.Entry.{Entry}
use Rattle.book_history.specs.declared.book_fault.BookFault.{BookFault}
use Rattle.book_history.specs.declared.limits.Settings.{Settings}
use Rattle.book_history.specs.declared.replies.ReplyBody.{ReplyBody}
use Rattle.book_history.specs.declared.replies.ReplyBody.TheVariants as reply
use Rattle.book_history.specs.Versions.{live_in}
use Rattle.book_history.specs.Projects.{ProjectState, with_change}
use Rattle.book_history.specs.History.{state_of, left_in}
use Rattle.book_history.specs.Refusals.{first_of, too_many, store_full, not_noted, triangles_if, text_if, journal_if, left_after}
use Rattle.book_history.specs.Requests.{Accepted, refused_or, noted, entry_of}
use Rattle.book_history.specs.Weights.{told, text_of, triangles_of}
use Rattle.book_history.proofs.States.{within}
use Rattle.federation_book.specs.declared.project.Project.{Project}
use Rattle.federation_book.specs.KeptProjects.{KeepsProject}
use Rattle.federation_book.specs.inner.Done.{IsDone}
use Rattle.federation_book.specs.inner.Noting.{IsNote, IsFurther, IsApplied, clash_of, Fits}
use Rattle.federation_book.proofs.Accepting.{AreNone, none_of}
use Rattle.federation_book.proofs.Finding.{refusal_done}

-- ---- what such a change leaves as it is
pub versions_stay : (s : ProjectState) (c : Change) → IsNote c → (with_change s c).versions ≡ s.versions
versions_stay s (Upload name model) note = absurd note
versions_stay s (Remove name) note = absurd note
versions_stay s (SetRules rules weight) note = absurd note
versions_stay s (BucketDone version cell) note = absurd note
versions_stay s _ note = refl

pub no_triangles : (c : Change) → IsNote c → 0 ≡ triangles_of c
no_triangles (Upload name model) note = absurd note
no_triangles _ note = refl

-- what is about things that are there is such a change
pub fits_note : (b : BoardState) (pair : Option (Guid × Guid)) (c : Change) → Fits b pair c → IsNote c
fits_note b pair (Upload name model) fits = absurd fits
fits_note b pair (Remove name) fits = absurd fits
fits_note b pair (SetRules rules weight) fits = absurd fits
fits_note b pair (BucketDone version cell) fits = absurd fits
fits_note b pair _ fits = tt

-- one that is not about topics is about comments or viewpoints
pub fits_further : (b : BoardState) (pair : Option (Guid × Guid)) (c : Change) → Fits b pair c
    → ((body : TopicBody) (author : Author) (weight : ℕ) → c ≡ PostTopic body author weight → ⊥)
    → ((topic : ℕ) (body : TopicBody) (author : Author) (weight : ℕ) → c ≡ PutTopic topic body author weight → ⊥)
    → ((topic : ℕ) → c ≡ DeleteTopic topic → ⊥)
    → ((version : ℕ) (place : ℕ) (author : Author) (weight : ℕ) → c ≡ ClashTopic version place author weight → ⊥)
    → IsFurther c
fits_further b pair (PostTopic body author weight) fits h0 h1 h2 h3 = absurd (h0 body author weight refl)
fits_further b pair (PutTopic topic body author weight) fits h0 h1 h2 h3 = absurd (h1 topic body author weight refl)
fits_further b pair (DeleteTopic topic) fits h0 h1 h2 h3 = absurd (h2 topic refl)
fits_further b pair (ClashTopic version place author weight) fits h0 h1 h2 h3 = absurd (h3 version place author weight refl)
fits_further b pair (Upload name model) fits h0 h1 h2 h3 = absurd fits
fits_further b pair (Remove name) fits h0 h1 h2 h3 = absurd fits
fits_further b pair (SetRules rules weight) fits h0 h1 h2 h3 = absurd fits
fits_further b pair (BucketDone version cell) fits h0 h1 h2 h3 = absurd fits
fits_further b pair _ fits h0 h1 h2 h3 = tt

-- one of comments or viewpoints is one of these
pub further_only : (c : Change) → IsFurther c
    → ((topic : ℕ) (body : CommentBody) (author : Author) (weight : ℕ) → c ≡ PostComment topic body author weight → ⊥)
    → ((topic : ℕ) (comment : ℕ) (body : CommentBody) (author : Author) (weight : ℕ) → c ≡ PutComment topic comment body author weight → ⊥)
    → ((topic : ℕ) (comment : ℕ) → c ≡ DeleteComment topic comment → ⊥)
    → ((topic : ℕ) (body : ViewBody) (weight : ℕ) → c ≡ PostView topic body weight → ⊥)
    → ((topic : ℕ) (view : ℕ) → c ≡ DeleteView topic view → ⊥)
    → ⊥
further_only (PostComment topic body author weight) is h0 h1 h2 h3 h4 = h0 topic body author weight refl
further_only (PutComment topic comment body author weight) is h0 h1 h2 h3 h4 = h1 topic comment body author weight refl
further_only (DeleteComment topic comment) is h0 h1 h2 h3 h4 = h2 topic comment refl
further_only (PostView topic body weight) is h0 h1 h2 h3 h4 = h3 topic body weight refl
further_only (DeleteView topic view) is h0 h1 h2 h3 h4 = h4 topic view refl
further_only _ is h0 h1 h2 h3 h4 = is

pub left_stays : (p : Project) (s : ProjectState) (c : Change) (left : ℕ) → KeepsProject p s → IsNote c → left ≡ told (left_in p.live.items)
    → left ≡ told (left_in (live_in (with_change s c).versions))
left_stays p s c left k note is =
    is ∙ ap (λ vs. told (left_in vs)) k.live ∙ ap (λ vs. told (left_in (live_in vs))) (sym (versions_stay s c note))

-- the project after it
pub noted_keeps : (p : Project) (s : ProjectState) (c : Change) (q : Project) → KeepsProject p s → IsNote c → q.board ≡ (with_change s c).board → q.newest ≡ p.newest → q.live.items ≡ p.live.items
    → KeepsProject q (with_change s c)
noted_keeps p s c q k note board newest live =
    let versions = versions_stay s c note in
    let number = k.newest in
    let count : length (with_change s c).versions ≡ length s.versions = ap length versions in
    record {
      board = board;
      newest = omega (arith, number, count, newest);
      live = live ∙ k.live ∙ ap live_in (sym versions);
    }

-- ---- refusals one list after the other
pub behind_some : (xs ys : List (Option BookFault)) (f : BookFault) → first_of xs ≡ Some f → first_of (xs ++ ys) ≡ Some f
behind_some [] ys f e = cc
behind_some (None ∷ xs) ys f e = behind_some xs ys f e
behind_some (Some g ∷ xs) ys f e = e

pub behind_all : (xs ys : List (Option BookFault)) → first_of xs ≡ None → first_of (xs ++ ys) ≡ first_of ys
behind_all [] ys e = refl
behind_all (None ∷ xs) ys e = behind_all xs ys e
behind_all (Some g ∷ xs) ys e = cc

-- .. of which none holds
pub none_behind : (xs ys : List (Option BookFault)) → first_of (xs ++ ys) ≡ None → first_of ys ≡ None
none_behind [] ys e = e
none_behind (None ∷ xs) ys e = none_behind xs ys e
none_behind (Some g ∷ xs) ys e = cc

-- ---- what becomes of it
pub noted_refused : (settings : Settings) (h : List Entry) (stamp : Stamp) (number : ℕ) (c : Change) (fault : BookFault) → first_of (not_noted settings h number c) ≡ Some fault
    → IsDone h h stamp (noted settings h number c) (reply.Refused fault)
noted_refused settings h stamp number c fault e =
    subst (λ o. IsDone h h stamp (refused_or o (Accepted number c)) (reply.Refused fault)) (sym e) (refusal_done h stamp fault)

pub noted_done : (settings : Settings) (h k : List Entry) (stamp : Stamp) (number : ℕ) (c : Change) (pair : Option (Guid × Guid)) (before after : BoardState) (body : ReplyBody)
    → first_of (not_noted settings h number c) ≡ None → IsApplied pair c before after body → before ≡ (state_of number h).board → pair ≡ clash_of (state_of number h) c
    → k ≡ h ++ entry_of stamp number c ∷ [] → IsDone h k stamp (noted settings h number c) body
noted_done settings h k stamp number c pair before after body none applied board clash added =
    subst (λ o. IsDone h k stamp (refused_or o (Accepted number c)) body) (sym none)
    (record { reply = applied.told (state_of number h) (sym board) clash; added = added })

-- no refusal of the store
pub store_none : (settings : Settings) (h : List Entry) (number : ℕ) (c : Change) → first_of (not_noted settings h number c) ≡ None
    → AreNone (triangles_if settings.limits h (triangles_of c)) (text_if settings.limits h (text_of c)) (journal_if settings h (left_after settings.projects h number c))
store_none settings h number c e = none_of _ _ _ (none_behind (too_many settings h c) (store_full settings h number c) e)

-- there is room for two more numbers
pub made_room : (number : ℕ) (h : List Entry) (limit made : ℕ) → length h ≤ limit → limit ≤ 4000000 → made ≡ (state_of number h).board.made → made + 2 < 2 ^ 48
made_room number h limit made few most is =
    let m = (within number h).made_in in
    omega (arith, m, few, most, is)
