-- What a version holds stays as a history grows.
use Rattle.std.proofs.Common.{◌≡◌, ◌≢◌, ◌+◌, ◌-◌, ◌<◌, ◌≤◌, ◌⊎◌, ℕ, List, [], ◌∷◌, ◌++◌, length, get_or, set, fold, inl, inr, refl, sym, ◌∙◌, ap, subst, arith, length-append}
use Rattle.std.proofs.lemmas.Bool.{cases_eq}
use Rattle.std.proofs.lemmas.Bool.Decides.{eqb_tells}
use Rattle.std.proofs.lemmas.List.{get_or_append_left, get_or-set_same, get_or-set_other, length-set}
use Rattle.std.proofs.lemmas.List.Sums.{fold-append}
use Rattle.bim_model.specs.Snapshots.{Version}
use Rattle.bucket_grid.specs.declared.cell.Cell.{Cell}
use Rattle.book_history.specs.declared.changes.Entry.{Entry}
use Rattle.book_history.specs.declared.changes.Change.{Change}
use Rattle.book_history.specs.declared.changes.Change.TheVariants.{Upload, Remove, SetRules, BucketDone}
use Rattle.book_history.specs.Versions.{VersionState, nothing, version_at, with_done}
use Rattle.book_history.specs.Projects.{ProjectState, untouched, with_change}
use Rattle.book_history.specs.History.{state_of, content_of, with_entry}

-- the version is there, and holds this
pub record Holds (s : ProjectState) (number : ℕ) (content : Version) : Type 0 where
  pub there : number < length s.versions
  pub is : (version_at s.versions number).content ≡ content

push_holds : (vs : List VersionState) (v : VersionState) (number : ℕ) (content : Version) → number < length vs → (version_at vs number).content ≡ content
    → (number < length (vs ++ v ∷ [])) × ((version_at (vs ++ v ∷ []) number).content ≡ content)
push_holds vs v number content lt is =
    let more = length-append vs (v ∷ []) in
    (omega (arith, lt, more), ap (λ (x : VersionState). x.content) (get_or_append_left vs (v ∷ []) nothing number lt) ∙ is)

done_holds : (vs : List VersionState) (n : ℕ) (cell : Cell) (number : ℕ) → number < length vs → (n ≡ number) ⊎ (n ≡ number → ⊥)
    → (version_at (set vs n (with_done cell (version_at vs n))) number).content ≡ (version_at vs number).content
done_holds vs n cell number lt (inl e) =
    subst (λ m. (version_at (set vs n (with_done cell (version_at vs n))) m).content ≡ (version_at vs m).content) e
    (ap (λ (x : VersionState). x.content) (get_or-set_same vs n (with_done cell (version_at vs n)) nothing (subst (λ m. m < length vs) (sym e) lt)))
done_holds vs n cell number lt (inr ne) = ap (λ (x : VersionState). x.content) (get_or-set_other vs n number (with_done cell (version_at vs n)) nothing (λ e. ne (sym e)))

change_holds : (s : ProjectState) (c : Change) (number : ℕ) (content : Version) → Holds s number content → Holds (with_change s c) number content
change_holds s (Upload name model) number content h = let r = push_holds s.versions _ number content h.there h.is in record { there = r.0; is = r.1 }
change_holds s (Remove name) number content h = let r = push_holds s.versions _ number content h.there h.is in record { there = r.0; is = r.1 }
change_holds s (SetRules rules weight) number content h = let r = push_holds s.versions _ number content h.there h.is in record { there = r.0; is = r.1 }
change_holds s (BucketDone n cell) number content h =
    let same = length-set s.versions n (with_done cell (version_at s.versions n)) in
    let there = h.there in
    record { there = omega (arith, same, there); is = done_holds s.versions n cell number h.there (cases_eq n number) ∙ h.is }
change_holds s _ number content h = record { there = h.there; is = h.is }

entry_holds : (p : ℕ) (s : ProjectState) (e : Entry) (number : ℕ) (content : Version) → Holds s number content → Holds (with_entry p s e) number content
entry_holds p s e number content h = elim (eqb_tells e.project p) [ inl is ↦ rw is.0 (change_holds s e.change number content h) | inr none ↦ rw none.0 h ]

fold_holds : (p : ℕ) (s : ProjectState) (j : List Entry) (number : ℕ) (content : Version) → Holds s number content → Holds (fold (with_entry p) s j) number content
fold_holds p s [] number content h = h
fold_holds p s (e ∷ es) number content h = fold_holds p (with_entry p s e) es number content (entry_holds p s e number content h)

-- a version that is there is there in every longer history, and holds the same
pub stays : (p : ℕ) (j more : List Entry) (number : ℕ) (content : Version) → Holds (state_of p j) number content → Holds (state_of p (j ++ more)) number content
unfolding state_of
stays p j more number content h =
    subst (λ s. Holds s number content) (sym (fold-append (with_entry p) untouched j more)) (fold_holds p (fold (with_entry p) untouched j) more number content h)
