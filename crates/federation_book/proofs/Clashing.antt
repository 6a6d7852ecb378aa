-- Topics that are made of clashes.
use Rattle.std.proofs.Common.{◌≡◌, ◌<◌, ◌≤◌, ℕ, nat_le, Bool, true, false, if◌then◌else◌, List, [], ◌∷◌, length, Option, Some, None, inl, inr, Result, refl, sym, ◌∙◌, ap, subst, arith}
use Rattle.std.specs.List.{slice_get}
use Rattle.std.specs.Option.{option_map}
use Rattle.std.specs.Result.{IfOk}
use Rattle.std.proofs.lemmas.Bool.{cases_lt}
use Rattle.std.proofs.lemmas.Bool.Decides.{nat_tests}
use Rattle.std.proofs.lemmas.Option.{slice_get-get_or, slice_get_within}
use Rattle.bim_model.specs.declared.guid.Guid.{Guid}
use Rattle.bim_model.specs.declared.author.Author.{Author}
use Rattle.bim_model.specs.Snapshots.{Version}
use Rattle.bucket_check.specs.declared.pair.SetPair.{SetPair}
use Rattle.bucket_check.specs.Clashes.{clashes}
use Rattle.book_turn.specs.declared.object.Stamp.{Stamp}
use Rattle.book_history.specs.declared.changes.Change.{Change}
use Rattle.book_history.specs.declared.changes.Change.TheVariants.{ClashTopic}
use Rattle.book_history.specs.declared.changes.Entry.{Entry}
use Rattle.book_history.specs.declared.book_fault.BookFault.{BookFault}
use Rattle.book_history.specs.declared.book_fault.BookFault.TheVariants as fault
use Rattle.book_history.specs.declared.limits.Settings.{Settings}
use Rattle.book_history.specs.declared.replies.ReplyBody.{ReplyBody}
use Rattle.book_history.specs.declared.replies.ReplyBody.TheVariants as reply
use Rattle.book_history.specs.declared.requests.Wanted.{Wanted}
use Rattle.book_history.specs.Versions.{VersionState, version_at}
use Rattle.book_history.specs.Projects.{ProjectState, guids_of, clash_at}
use Rattle.book_history.specs.History.{state_of, version_of}
use Rattle.book_history.specs.Refusals.{first_of, wanted_in, not_yet, dropped, pending, no_clash}
use Rattle.book_history.specs.Requests.{Outcome, Answer, refused_or, unless, noted, clashes_read, clash_noted, body_of}
use Rattle.federation_book.specs.inner.Done.{IsDone}
use Rattle.federation_book.proofs.Finding.{refusal_done}
use Rattle.federation_book.proofs.Noted.{behind_some, behind_all}

-- ---- the clash at a place
no_pair : SetPair
no_pair = record { a = 0; b = 0; rule = 0 }

map_none : {A B : Type 0} (f : A → B) (o : Option A) → option_map f o ≡ None → o ≡ None
map_none f None e = refl
map_none f (Some x) e = cc

map_some : {A B : Type 0} (f : A → B) (o : Option A) (y : B) → option_map f o ≡ Some y → (x : A) × (o ≡ Some x)
map_some f None y e = cc
map_some f (Some x) y e = (x, refl)

past : (pairs : List SetPair) (place : ℕ) → slice_get pairs place ≡ None → length pairs ≤ place
past pairs place e = elim (cases_lt place (length pairs)) [
  | inl lt ↦ absurd (some_none (sym (slice_get-get_or pairs place no_pair lt) ∙ e))
  | inr ge ↦ ge
]
  where
    some_none : {p : SetPair} → Some p ≡ None → ⊥
    some_none q = cc

tested : (a b : ℕ) → a ≤ b → nat_le a b ≡ true
tested a b h = grind (arith, nat_tests)

untested : (a b : ℕ) → b < a → nat_le a b ≡ false
untested a b h = grind (arith, nat_tests)

abbrev none_by : ℕ → ℕ → Bool → Option BookFault
none_by place total b = if b then Some (fault.NoClash place total) else None

pub no_clash_at : (version : VersionState) (place : ℕ) → None ≡ clash_at version.content place → no_clash version place ≡ Some (fault.NoClash place (length (clashes version.content)))
no_clash_at version place e =
    let total = length (clashes version.content) in
    let le = past (clashes version.content) place (map_none (guids_of version.content) (slice_get (clashes version.content) place) (sym e)) in
    ap (none_by place total) (tested total place le)

pub a_clash_at : (version : VersionState) (place : ℕ) (pair : Guid × Guid) → Some pair ≡ clash_at version.content place → no_clash version place ≡ None
a_clash_at version place pair e =
    let total = length (clashes version.content) in
    let found = map_some (guids_of version.content) (slice_get (clashes version.content) place) pair (sym e) in
    ap (none_by place total) (untested total place (slice_get_within (clashes version.content) place found.0 found.1))

-- ---- by what reading the clashes answered
module _ (settings : Settings) (h : List Entry) (stamp : Stamp) (n : ℕ) (wanted : Wanted) (place : ℕ) (author : Author) (weight : ℕ) where
  abbrev s : ProjectState
  s = state_of n h

  abbrev v : ℕ
  v = wanted_in s wanted

  abbrev version : VersionState
  version = version_at s.versions v

  abbrev three : List (Option BookFault)
  three = not_yet s v ∷ dropped s v ∷ pending v version ∷ []

  abbrev last : List (Option BookFault)
  last = no_clash version place ∷ []

  abbrev after : Outcome
  after = noted settings h n (ClashTopic v place author weight)

  -- they aren't ready
  pub not_ready : (body : ReplyBody) → body ≡ body_of h (clashes_read h wanted place 1 n) → ((number : ℕ) (set : Version) (first count : ℕ) → body ≡ reply.Clashes number set first count → ⊥)
      → IsDone h h stamp (clash_noted settings h wanted place author weight n) body
  not_ready body e other = by (first_of three) refl
    where
      by : (o : Option BookFault) → first_of three ≡ o → IsDone h h stamp (clash_noted settings h wanted place author weight n) body
      by None none = absurd (other v version.content place 1 (e ∙ ap (λ o. body_of h (refused_or o (Answer (reply.Clashes v version.content place 1)))) none))
      by (Some f) some =
          let is : body ≡ reply.Refused f = e ∙ ap (λ o. body_of h (refused_or o (Answer (reply.Clashes v version.content place 1)))) some in
          subst (IsDone h h stamp (clash_noted settings h wanted place author weight n)) (sym is)
          (subst (λ o. IsDone h h stamp (refused_or o after) (reply.Refused f)) (sym (behind_some three last f some)) (refusal_done h stamp f))

  -- they are those of the version
  pub record IsReady (number : ℕ) (set : Version) : Type 0 where
    pub none : first_of three ≡ None
    pub number_is : v ≡ number
    pub set_is : version.content ≡ set

  pub ready : (number : ℕ) (set : Version) (first count : ℕ) → reply.Clashes number set first count ≡ body_of h (clashes_read h wanted place 1 n) → IsReady number set
  ready number set first count e = by (first_of three) refl
    where
      same_number : {a b c d k l : ℕ} {x y : Version} → reply.Clashes a x b c ≡ reply.Clashes k y l d → a ≡ k
      same_number p = cc

      same_set : {a b c d k l : ℕ} {x y : Version} → reply.Clashes a x b c ≡ reply.Clashes k y l d → x ≡ y
      same_set p = cc

      by : (o : Option BookFault) → first_of three ≡ o → IsReady number set
      by None none =
          let is : reply.Clashes number set first count ≡ reply.Clashes v version.content place 1 = e ∙ ap (λ o. body_of h (refused_or o (Answer (reply.Clashes v version.content place 1)))) none in
          record { none = none; number_is = sym (same_number is); set_is = sym (same_set is) }
      by (Some f) some =
          let is : reply.Clashes number set first count ≡ reply.Refused f = e ∙ ap (λ o. body_of h (refused_or o (Answer (reply.Clashes v version.content place 1)))) some in
          absurd (apart is)
        where
          apart : reply.Clashes number set first count ≡ reply.Refused f → ⊥
          apart p = cc

  -- .. and what is asked of the clash then decides
  pub then_noted : {E : Type 0} (r : Result ReplyBody E) (k : List Entry) (number : ℕ) (set : Version) → IsReady number set
      → IfOk r (IsDone h k stamp (unless (no_clash (version_at s.versions number) place ∷ []) (noted settings h n (ClashTopic number place author weight))))
      → IfOk r (IsDone h k stamp (clash_noted settings h wanted place author weight n))
  then_noted r k number set is done =
      subst (λ o. IfOk r (IsDone h k stamp (refused_or o after))) (sym (behind_all three last is.none))
      (subst (λ m. IfOk r (IsDone h k stamp (unless (no_clash (version_at s.versions m) place ∷ []) (noted settings h n (ClashTopic m place author weight))))) (sym is.number_is) done)

-- ---- there is no such clash, or there is
pub no_clash_done : (h : List Entry) (stamp : Stamp) (version : VersionState) (content : Version) (place total : ℕ) (o : Outcome) → content ≡ version.content → None ≡ clash_at content place → total ≡ length (clashes content)
    → IsDone h h stamp (unless (no_clash version place ∷ []) o) (reply.Refused (fault.NoClash place total))
no_clash_done h stamp version content place total o same none count =
    let at : None ≡ clash_at version.content place = none ∙ ap (λ c. clash_at c place) same in
    let total_is : total ≡ length (clashes version.content) = count ∙ ap (λ c. length (clashes c)) same in
    let f = fault.NoClash place (length (clashes version.content)) in
    subst (λ t. IsDone h h stamp (unless (no_clash version place ∷ []) o) (reply.Refused (fault.NoClash place t))) (sym total_is)
    (subst (λ x. IsDone h h stamp (unless (x ∷ []) o) (reply.Refused f)) (sym (no_clash_at version place at)) (refusal_done h stamp f))

pub clash_done : {E : Type 0} (r : Result ReplyBody E) (h k : List Entry) (stamp : Stamp) (version : VersionState) (content : Version) (place : ℕ) (pair : Guid × Guid) (o : Outcome) → content ≡ version.content
    → Some pair ≡ clash_at content place → IfOk r (IsDone h k stamp o) → IfOk r (IsDone h k stamp (unless (no_clash version place ∷ []) o))
clash_done r h k stamp version content place pair o same found done =
    subst (λ x. IfOk r (IsDone h k stamp (unless (x ∷ []) o))) (sym (a_clash_at version place pair (found ∙ ap (λ c. clash_at c place) same))) done

-- the same at a book that was only asked before
pub still_done : {E : Type 0} (r : Result ReplyBody E) (settings settings' : Settings) (h h' k : List Entry) (stamp : Stamp) (n number place : ℕ) (c : Change) → settings' ≡ settings → h' ≡ h
    → IfOk r (IsDone h' k stamp (unless (no_clash (version_of n number h') place ∷ []) (noted settings' h' n c)))
    → IfOk r (IsDone h k stamp (unless (no_clash (version_of n number h) place ∷ []) (noted settings h n c)))
still_done r settings settings' h h' k stamp n number place c same is done =
    subst (λ x. IfOk r (IsDone h k stamp (unless (no_clash (version_of n number h) place ∷ []) (noted x h n c)))) same
    (subst (λ j. IfOk r (IsDone j k stamp (unless (no_clash (version_of n number j) place ∷ []) (noted settings' j n c)))) is done)
