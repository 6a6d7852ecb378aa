-- What is answered where something is read, and that nothing is added then.
use Rattle.std.proofs.Common.{◌≡◌, ◌<◌, ◌≤◌, ◌^◌, ◌/◌, ◌==◌, ◌&&◌, nat_lt, nat_le, ℕ, Bool, true, false, if◌then◌else◌, List, [], ◌∷◌, ◌++◌, length, Option, Some, None, refl, sym, ◌∙◌, ap, subst, arith, append-nil}
use Rattle.std.specs.Option.{IfSome}
use Rattle.std.proofs.lemmas.Bool.{ltb-true, leb-true, lt-ltb}
use Rattle.bim_model.specs.Identifiers.{identifier}
use Rattle.book_turn.specs.declared.object.Stamp.{Stamp}
use Rattle.book_turn.specs.Entries.{listed}
use Rattle.book_history.specs.declared.changes.Entry.{Entry}
use Rattle.book_history.specs.declared.book_fault.BookFault.{BookFault}
use Rattle.book_history.specs.declared.book_fault.BookFault.TheVariants as fault
use Rattle.book_history.specs.declared.replies.ReplyBody.{ReplyBody}
use Rattle.book_history.specs.declared.replies.ReplyBody.TheVariants as reply
use Rattle.book_history.specs.declared.requests.Wanted.{Wanted}
use Rattle.book_history.specs.Orders.{OrderValue}
use Rattle.book_history.specs.Versions.{version_at}
use Rattle.book_history.specs.Projects.{ProjectState, newest}
use Rattle.book_history.specs.History.{state_of}
use Rattle.book_history.specs.Refusals.{first_of, project_of, wanted_in, not_yet, dropped, pending}
use Rattle.book_history.specs.Requests.{Outcome, Answer, refused_or, in_project, version_read, clashes_read, order_for, body_of, entry_by}

-- ---- a version is read
module _ (j : List Entry) (n : ℕ) (wanted : Wanted) (number : ℕ) (is : number ≡ wanted_in (state_of n j) wanted) where
  abbrev s : ProjectState
  s = state_of n j

  abbrev refusals : ℕ → Option BookFault
  refusals v = first_of (not_yet s v ∷ dropped s v ∷ [])

  abbrev answer : ℕ → Outcome
  answer v = Answer (reply.Version v (newest s) (version_at s.versions v).content)

  pub read_refused : (f : BookFault) → Some f ≡ refusals number → body_of j (version_read j wanted n) ≡ reply.Refused f
  read_refused f e = subst (λ v. body_of j (refused_or (refusals v) (answer v)) ≡ reply.Refused f) is (ap (λ o. body_of j (refused_or o (answer number))) (sym e))

  pub read_answered : None ≡ refusals number → body_of j (version_read j wanted n) ≡ reply.Version number (newest s) (version_at s.versions number).content
  read_answered e =
      subst (λ v. body_of j (refused_or (refusals v) (answer v)) ≡ reply.Version number (newest s) (version_at s.versions number).content) is
      (ap (λ o. body_of j (refused_or o (answer number))) (sym e))

  module _ (first count : ℕ) where
    abbrev behind : ℕ → Option BookFault
    behind v = first_of (not_yet s v ∷ dropped s v ∷ pending v (version_at s.versions v) ∷ [])

    abbrev clashes : ℕ → Outcome
    clashes v = Answer (reply.Clashes v (version_at s.versions v).content first count)

    by_refusal : (a b c : Option BookFault) (f : BookFault) → Some f ≡ first_of (a ∷ b ∷ []) → first_of (a ∷ b ∷ c ∷ []) ≡ Some f
    by_refusal (Some g) b c f e = sym e
    by_refusal None (Some g) c f e = sym e
    by_refusal None None c f e = absurd (some_none e)
      where
        some_none : Some f ≡ None → ⊥
        some_none p = cc

    by_last : (a b c : Option BookFault) → None ≡ first_of (a ∷ b ∷ []) → first_of (a ∷ b ∷ c ∷ []) ≡ c
    by_last None None None e = refl
    by_last None None (Some f) e = refl
    by_last None (Some g) c e = absurd (none_some e)
      where
        none_some : None ≡ Some g → ⊥
        none_some p = cc
    by_last (Some g) b c e = absurd (none_some e)
      where
        none_some : None ≡ Some g → ⊥
        none_some p = cc

    waiting : (left : ℕ) → 0 < left → (if nat_lt 0 left then Some (fault.Pending number left) else None) ≡ Some (fault.Pending number left)
    waiting left some = ap (λ (b : Bool). (if b then Some (fault.Pending number left) else None)) (tested 0 left some)
      where
        tested : (a b : ℕ) → a < b → nat_lt a b ≡ true
        tested a b h = lt-ltb a b h

    pub clashes_refused : (f : BookFault) → Some f ≡ refusals number → body_of j (clashes_read j wanted first count n) ≡ reply.Refused f
    clashes_refused f e =
        subst (λ v. body_of j (refused_or (behind v) (clashes v)) ≡ reply.Refused f) is
        (ap (λ o. body_of j (refused_or o (clashes number))) (by_refusal (not_yet s number) (dropped s number) (pending number (version_at s.versions number)) f e))

    pub clashes_pending : (left : ℕ) → None ≡ refusals number → left ≡ length (version_at s.versions number).undone → 0 < left
        → body_of j (clashes_read j wanted first count n) ≡ reply.Refused (fault.Pending number left)
    clashes_pending left e many some =
        let waits : pending number (version_at s.versions number) ≡ Some (fault.Pending number left) =
        subst (λ l. (if nat_lt 0 l then Some (fault.Pending number l) else None) ≡ Some (fault.Pending number left)) many (waiting left some) in
        subst (λ v. body_of j (refused_or (behind v) (clashes v)) ≡ reply.Refused (fault.Pending number left)) is
        (ap (λ o. body_of j (refused_or o (clashes number))) (by_last (not_yet s number) (dropped s number) (pending number (version_at s.versions number)) e ∙ waits))

    pub clashes_answered : (left : ℕ) → None ≡ refusals number → left ≡ length (version_at s.versions number).undone → left ≡ 0
        → body_of j (clashes_read j wanted first count n) ≡ reply.Clashes number (version_at s.versions number).content first count
    clashes_answered left e many none =
        let rests : pending number (version_at s.versions number) ≡ None = ap (λ l. (if nat_lt 0 l then Some (fault.Pending number l) else None)) (sym many ∙ none) in
        subst (λ v. body_of j (refused_or (behind v) (clashes v)) ≡ reply.Clashes number (version_at s.versions number).content first count) is
        (ap (λ o. body_of j (refused_or o (clashes number))) (by_last (not_yet s number) (dropped s number) (pending number (version_at s.versions number)) e ∙ rests))

-- ---- nothing is added
unless_adds : (stamp : Stamp) (f : Option BookFault) (body : ReplyBody) → listed (entry_by stamp (refused_or f (Answer body))) ≡ []
unless_adds stamp None body = refl
unless_adds stamp (Some f) body = refl

pub read_adds : (stamp : Stamp) (j : List Entry) (wanted : Wanted) (number : Option ℕ) → listed (entry_by stamp (in_project number (version_read j wanted))) ≡ []
read_adds stamp j wanted None = refl
read_adds stamp j wanted (Some n) = unless_adds stamp _ _

pub clashes_add : (stamp : Stamp) (j : List Entry) (wanted : Wanted) (first count : ℕ) (number : Option ℕ) → listed (entry_by stamp (in_project number (clashes_read j wanted first count))) ≡ []
clashes_add stamp j wanted first count None = refl
clashes_add stamp j wanted first count (Some n) = unless_adds stamp _ _

pub work_adds : (stamp : Stamp) (os : List OrderValue) (seat : ℕ) → listed (entry_by stamp (order_for os seat)) ≡ []
work_adds stamp [] seat = refl
work_adds stamp (o ∷ os) seat = refl

pub nothing_added : (j k : List Entry) → k ≡ [] → j ≡ j ++ k
nothing_added j k e = sym (append-nil j) ∙ ap (λ l. j ++ l) (sym e)

-- ---- the project of an identifier is one of those that are there
pub numbered : (projects id : ℕ) → IfSome (project_of projects id) (λ n. (1 ≤ n) × (n ≤ projects))
numbered projects id = by (id == identifier (id / 2 ^ 96) 0) (nat_lt 0 (id / 2 ^ 96)) (nat_le (id / 2 ^ 96) projects) refl refl
  where
    by : (a b c : Bool) → nat_lt 0 (id / 2 ^ 96) ≡ b → nat_le (id / 2 ^ 96) projects ≡ c → IfSome (if a && b && c then Some (id / 2 ^ 96) else None) (λ n. (1 ≤ n) × (n ≤ projects))
    by true true true low high = (let h = ltb-true 0 (id / 2 ^ 96) low in omega (arith, h), leb-true (id / 2 ^ 96) projects high)
    by false b c low high = tt
    by true false c low high = tt
    by true true false low high = tt
