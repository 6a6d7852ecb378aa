-- A change that makes a version.
use Rattle.std.proofs.Common.{◌≡◌, ◌+◌, ◌-◌, ◌<◌, ◌≤◌, ℕ, Bool, false, is_some, true≢false, List, [], ◌∷◌, ◌++◌, length, drop, get_or, Option, Some, None, refl, sym, ◌∙◌, ap, ap₂, subst, arith, length-append}
use Rattle.std.proofs.lemmas.List.{drop-append-le}
use Rattle.bim_model.specs.Snapshots.{Version}
use Rattle.book_history.specs.declared.changes.Change.{Change}
use Rattle.book_history.specs.declared.changes.Change.TheVariants.{Upload, Remove, SetRules}
use Rattle.book_history.specs.declared.book_fault.BookFault.{BookFault}
use Rattle.book_history.specs.declared.limits.Limits.{Limits}
use Rattle.book_history.specs.Versions.{VersionState, nothing, version_at, live_in, made_after}
use Rattle.book_history.specs.Projects.{ProjectState, newest, newest_content, next_content, with_change, with_version, with_next}
use Rattle.book_history.specs.History.{left_in}
use Rattle.book_history.specs.Refusals.{first_of, elements_full, too_spread}
use Rattle.book_history.specs.Weights.{told}
use Rattle.book_history.proofs.Live.{gone, live_push, live_at, live_length}
use Rattle.federation_book.specs.declared.project.Project.{Project}
use Rattle.federation_book.specs.KeptProjects.{KeepsProject}
use Rattle.federation_book.proofs.Taking.{left_snoc}

none_some : (v : Version) → None ≡ Some v → ⊥
none_some v e = cc

-- a change that makes a version adds it
pub advances : (s : ProjectState) (c : Change) (v : Version) → next_content (newest_content s) c ≡ Some v → with_change s c ≡ with_version s v
advances s (Upload name model) v e = ap (with_next s) e
advances s (Remove name) v e = ap (with_next s) e
advances s (SetRules rules weight) v e = ap (with_next s) e
advances s _ v e = absurd (none_some v e)

-- the newest version of a kept project
pub last_is : (p : Project) (s : ProjectState) (v : VersionState) → KeepsProject p s → 0 < length s.versions → ((d : VersionState) → v ≡ get_or p.live.items (length p.live.items - 1) d) → v ≡ version_at s.versions (newest s)
last_is p s v k some is =
    let count = ap length k.live in
    let all = live_length s.versions in
    let from : gone s.versions ≤ newest s = omega (arith, some) in
    let at : length p.live.items - 1 ≡ newest s - gone s.versions = omega (arith, count, all) in
    is nothing ∙ ap (λ l. get_or l (length p.live.items - 1) nothing) k.live ∙ ap (λ m. get_or (live_in s.versions) m nothing) at ∙ live_at s.versions (newest s) nothing from

-- a project after one more version
pub keeps_next : (p q : Project) (s : ProjectState) (v : VersionState) (content : Version) → KeepsProject p s
    → q.live.items ≡ live_in (p.live.items ++ v ∷ []) → q.newest ≡ p.newest + 1 → q.board ≡ p.board
    → v ≡ made_after (version_at s.versions (newest s)) content → KeepsProject q (with_version s content)
keeps_next p q s v content k live number board is =
    let one = length-append s.versions (made_after (version_at s.versions (newest s)) content ∷ []) in
    let n = k.newest in
    record {
      board = board ∙ k.board;
      newest = omega (arith, one, n, number);
      live = live ∙ ap₂ (λ vs w. live_in (vs ++ w ∷ [])) k.live is ∙ live_push s.versions (made_after (version_at s.versions (newest s)) content);
    }

-- what is left then of the live versions
pub left_next : (p : Project) (s : ProjectState) (v : VersionState) (content : Version) → KeepsProject p s → v ≡ made_after (version_at s.versions (newest s)) content → 0 < length p.live.items
    → left_in (drop (length p.live.items + 1 - 16) p.live.items) + length v.undone ≡ left_in (live_in (with_version s content).versions)
left_next p s v content k is some =
    let ps = p.live.items in
    let cut = length ps + 1 - 16 in
    let m = length-append ps (v ∷ []) in
    let count : length (ps ++ v ∷ []) - 16 ≡ cut = omega (arith, m) in
    let low : cut ≤ length ps = omega (arith, some) in
    let all : live_in (with_version s content).versions ≡ drop cut ps ++ v ∷ [] =
    sym (live_push s.versions (made_after (version_at s.versions (newest s)) content))
    ∙ ap₂ (λ vs w. live_in (vs ++ w ∷ [])) (sym k.live) (sym is)
    ∙ ap (λ n. drop n (ps ++ v ∷ [])) count
    ∙ drop-append-le cut ps (v ∷ []) low in
    sym (ap left_in all ∙ left_snoc (drop cut ps) v)

pub two_none : (a b : Option BookFault) (rest : List (Option BookFault)) → first_of (a ∷ b ∷ []) ≡ None → first_of (a ∷ b ∷ rest) ≡ first_of rest
two_none None None rest e = refl
two_none None (Some g) rest e = cc
two_none (Some g) b rest e = cc

-- .. and its number
pub newest_is : (p : Project) (s : ProjectState) → KeepsProject p s → p.newest ≡ newest s
newest_is p s k = let n = k.newest in omega (arith, n)

-- the project after the change, whose newest version is this one
module _ (p : Project) (s : ProjectState) (change : Change) (before v : VersionState) (content : Version) (k : KeepsProject p s) (some : 0 < length s.versions)
    (last : (d : VersionState) → before ≡ get_or p.live.items (length p.live.items - 1) d) (made : v ≡ made_after before content) (next : next_content (newest_content s) change ≡ Some content) where
  newer : v ≡ made_after (version_at s.versions (newest s)) content
  newer = made ∙ ap (λ (b : VersionState). made_after b content) (last_is p s before k some last)

  live_some : 0 < length p.live.items
  live_some =
      let count = ap length k.live in
      let all = live_length s.versions in
      omega (arith, some, count, all)

  pub left_then : (old new : ℕ) → old ≡ length v.undone → new ≡ told (left_in (drop (length p.live.items + 1 - 16) p.live.items) + old) → new ≡ told (left_in (live_in (with_change s change).versions))
  left_then old new is e =
      e ∙ ap (λ n. told (left_in (drop (length p.live.items + 1 - 16) p.live.items) + n)) is
      ∙ ap told (left_next p s v content k newer live_some ∙ ap (λ (t : ProjectState). left_in (live_in t.versions)) (sym (advances s change content next)))

  pub keeps_then : (q r : Project) → KeepsProject q s → r.live.items ≡ live_in (q.live.items ++ v ∷ []) → r.newest ≡ q.newest + 1 → r.board ≡ q.board → KeepsProject r (with_change s change)
  keeps_then q r l live number board = subst (KeepsProject r) (sym (advances s change content next)) (keeps_next q r s v content l live number board newer)

  pub full_then : (limits : Limits) (rest : List (Option BookFault)) (r : Option BookFault) → first_of (elements_full limits (Some content) ∷ too_spread limits (Some content) ∷ []) ≡ None → r ≡ first_of rest
      → r ≡ first_of (elements_full limits (next_content (newest_content s) change) ∷ too_spread limits (next_content (newest_content s) change) ∷ rest)
  full_then limits rest r none is =
      is ∙ sym (ap (λ o. first_of (elements_full limits o ∷ too_spread limits o ∷ rest)) next ∙ two_none (elements_full limits (Some content)) (too_spread limits (Some content)) rest none)

pub not_some : (o : Option BookFault) (b : Bool) → b ≡ is_some o → b ≡ false → o ≡ None
not_some None b e f = refl
not_some (Some x) b e f = absurd (true≢false (sym e ∙ f))
