-- What the turns of a worker teach its pass.
use Rattle.std.proofs.Common.{◌≡◌, ◌⊎◌, ℕ, List, [], ◌∷◌, ◌++◌, Bool, true, false, if◌then◌else◌, inl, inr, refl, sym, ◌∙◌, ap, subst, append-nil}
use Rattle.book_turn.specs.NumberLists.{has}
use Rattle.book_turn.specs.declared.object.Stamp.{Stamp}
use Rattle.book_turn.specs.Entries.{calls_by, listed}
use Rattle.book_turn.specs.Passes.{KeepsNumbers}
use Rattle.book_turn.specs.declared.call_fault.CallFault.{CallFault}
use Rattle.book_turn.specs.declared.call_fault.CallFault.TheVariants.{Memory, PassSpent}
use Rattle.book_turn.specs.TurnFaults.{Failed}
use Rattle.book_turn.proofs.Prefixes.{calls_by-append}
use Rattle.bucket_grid.specs.Cells.{IsBucket}
use Rattle.bucket_check.specs.ClashSets.{SetValue}
use Rattle.book_history.specs.declared.limits.Settings.{Settings}
use Rattle.book_history.specs.declared.changes.Entry.{Entry}
use Rattle.book_history.specs.declared.book_fault.BookFault.TheVariants.{NoWork}
use Rattle.book_history.specs.declared.requests.BookCall.{BookCall}
use Rattle.book_history.specs.declared.requests.BookRequest.TheVariants.{TakeWork, Finish}
use Rattle.book_history.specs.declared.replies.BookReply.{BookReply}
use Rattle.book_history.specs.declared.replies.ReplyBody.{ReplyBody}
use Rattle.book_history.specs.declared.replies.ReplyBody.TheVariants.{Work, Refused}
use Rattle.book_history.specs.Orders.{OrderValue}
use Rattle.book_history.specs.History.{left_all}
use Rattle.book_history.specs.Requests.{Outcome, Refusal, Answer, Accepted, without_turn, outcome_of, outcome_in, body_of, entry_by, added_by}
use Rattle.book_history.specs.Legal.{IsLegal}
use Rattle.book_passes.specs.Lessons.{BookPass, CallerSeen, IsAnswered, TakesTurn, caller_of, own_of, stamp_of, stamp_in}
use Rattle.book_passes.proofs.Learning.{takes_call, takes_idly, learns_turn, learns_trans, learns_none}
use Rattle.check_workers.specs.WorkerTurns.{IsDone, AreDone, AreMadeBy, Teaches, IsFoundFor, IsFinishTold, tells, WorksOne}
use Rattle.check_workers.specs.declared.work.Worked.{Worked}
use Rattle.check_workers.specs.declared.work.Worked.TheVariants.{Done, Already, Dropped, Nothing}
use Rattle.check_workers.proofs.Finishing.{finish_adds, finish_told}
use Rattle.check_workers.proofs.Orders.{taken, take_adds_none, set_legal}

-- ---- entries that say that buckets are checked

done_append : (a b : List Entry) → AreDone a → AreDone b → AreDone (a ++ b)
done_append [] b p q = q
done_append (e ∷ es) b p q = (p.0, done_append es b p.1 q)

some_done : (ps : List ℕ) (e : Entry) (rest : List Entry) (mine : Bool) → IsDone e → AreDone rest → AreDone (if mine then e ∷ rest else rest)
some_done ps e rest true one are = (one, are)
some_done ps e rest false one are = are

calls_done : (ps : List ℕ) (es : List Entry) → AreDone es → AreDone (calls_by (λ (e : Entry). e.stamp.pass) ps es)
calls_done ps [] are = tt
calls_done ps (e ∷ es) are = some_done ps e (calls_by (λ (x : Entry). x.stamp.pass) ps es) (has e.stamp.pass ps) are.0 (calls_done ps es are.1)

-- ---- entries of one pass

made_append : (number : ℕ) (a b : List Entry) → AreMadeBy number a → AreMadeBy number b → AreMadeBy number (a ++ b)
made_append number [] b p q = q
made_append number (e ∷ es) b p q = (p.0, made_append number es b p.1 q)

some_made : (number : ℕ) (e : Entry) (rest : List Entry) (mine : Bool) → e.stamp.pass ≡ number → AreMadeBy number rest → AreMadeBy number (if mine then e ∷ rest else rest)
some_made number e rest true one are = (one, are)
some_made number e rest false one are = are

calls_made : (number : ℕ) (ps : List ℕ) (es : List Entry) → AreMadeBy number es → AreMadeBy number (calls_by (λ (e : Entry). e.stamp.pass) ps es)
calls_made number ps [] are = tt
calls_made number ps (e ∷ es) are = some_made number e (calls_by (λ (x : Entry). x.stamp.pass) ps es) (has e.stamp.pass ps) are.0 (calls_made number ps es are.1)

made_of : (stamp : Stamp) (o : Outcome) → AreMadeBy stamp.pass (listed (entry_by stamp o))
made_of stamp (Refusal f) = tt
made_of stamp (Answer body) = tt
made_of stamp (Accepted number change) = (refl, tt)

-- what a call adds carries its pass
added_made : (settings : Settings) (h : List Entry) (stamp : Stamp) (call : BookCall) → AreMadeBy stamp.pass (added_by settings h stamp call)
added_made settings h stamp call = made_of stamp (outcome_in settings h stamp.turn call)

own_append : (v : CallerSeen) (a b : List Entry) → own_of v (a ++ b) ≡ own_of v a ++ own_of v b
own_append v a b = calls_by-append (λ (e : Entry). e.stamp.pass) v.numbers a b

-- ---- what is learnt

pub teaches_none : (v : CallerSeen) → Teaches v v
teaches_none v = record { news = []; learns = learns_none v; done = tt; made_by = tt }

-- a turn in which buckets alone are said to be checked
pub teaches_turn : (turn : ℕ) (others added : List Entry) (v w : CallerSeen) → TakesTurn turn others added v w → AreDone added → AreMadeBy v.number added → Teaches v w
teaches_turn turn others added v w t done made =
    let own : own_of v added ≡ own_of v (others ++ added) = sym (own_append v others added ∙ ap (λ l. l ++ own_of v added) t.not_own) in
    record {
      news = others ++ added;
      learns = learns_turn turn others added v w t;
      done = subst AreDone own (calls_done v.numbers added done);
      made_by = subst (AreMadeBy v.number) own (calls_made v.number v.numbers added made);
    }

pub teaches_trans : (u v w : CallerSeen) → Teaches u v → Teaches v w → Teaches u w
teaches_trans u v w p q =
    let same : own_of v q.news ≡ own_of u q.news = ap (λ ps. calls_by (λ (e : Entry). e.stamp.pass) ps q.news) p.learns.keeps.numbers in
    let both : own_of u p.news ++ own_of u q.news ≡ own_of u (p.news ++ q.news) = sym (own_append u p.news q.news) in
    record {
      news = p.news ++ q.news;
      learns = learns_trans u v w p.news q.news p.learns q.learns;
      done = subst AreDone both (done_append (own_of u p.news) (own_of u q.news) p.done (subst AreDone same q.done));
      made_by = subst (AreMadeBy u.number) both (made_append u.number (own_of u p.news) (own_of u q.news) p.made_by
          (subst (AreMadeBy u.number) same (subst (λ (n : ℕ). AreMadeBy n (own_of v q.news)) p.learns.keeps.number q.made_by)));
    }

-- a call that got no reply
pub failed_teaches : (v w : BookPass) (fault : CallFault) → KeepsNumbers v w → Failed stamp_of v w fault → Teaches (caller_of v) (caller_of w)
failed_teaches v w Memory keeps failed = let t = takes_idly v w keeps failed in teaches_turn t.0 t.1 [] (caller_of v) (caller_of w) t.2 tt tt
failed_teaches v w (PassSpent spent) keeps failed = subst (λ (x : BookPass). Teaches (caller_of v) (caller_of x)) (sym failed.2) (teaches_none (caller_of v))

-- ---- the two calls

-- a call for work
pub asked_teaches : (settings : Settings) (seat turn : ℕ) (reply : BookReply) (v w : BookPass) → KeepsNumbers v w → IsAnswered settings (without_turn (TakeWork seat)) turn reply v w → Teaches (caller_of v) (caller_of w)
asked_teaches settings seat turn reply v w keeps a =
    let t = takes_call settings (without_turn (TakeWork seat)) turn reply v w keeps a in
    let none = take_adds_none settings (v.seen ++ t.others) (stamp_in turn (caller_of v)) seat in
    teaches_turn turn t.others (added_by settings (v.seen ++ t.others) (stamp_in turn (caller_of v)) (without_turn (TakeWork seat))) (caller_of v) (caller_of w) t.takes (subst AreDone (sym none) tt)
    (added_made settings (v.seen ++ t.others) (stamp_in turn (caller_of v)) (without_turn (TakeWork seat)))

-- a set that is brought
pub brought_teaches : (settings : Settings) (set : SetValue) (turn : ℕ) (reply : BookReply) (v w : BookPass) → KeepsNumbers v w → IsAnswered settings (without_turn (Finish set)) turn reply v w → Teaches (caller_of v) (caller_of w)
brought_teaches settings set turn reply v w keeps a =
    let t = takes_call settings (without_turn (Finish set)) turn reply v w keeps a in
    teaches_turn turn t.others (added_by settings (v.seen ++ t.others) (stamp_in turn (caller_of v)) (without_turn (Finish set))) (caller_of v) (caller_of w) t.takes
    (finish_adds settings (v.seen ++ t.others) (stamp_in turn (caller_of v)) set)
    (added_made settings (v.seen ++ t.others) (stamp_in turn (caller_of v)) (without_turn (Finish set)))

-- where a call for work is refused, no bucket of a live version is undone in what the pass has then seen
pub none_left : (settings : Settings) (seat turn : ℕ) (reply : BookReply) (v w : BookPass) → IsAnswered settings (without_turn (TakeWork seat)) turn reply v w → reply.body ≡ Refused NoWork
    → left_all settings.projects w.seen ≡ 0
none_left settings seat turn reply v w a refused =
    let h : List Entry = v.seen ++ a.news in
    let none = take_adds_none settings h (stamp_in turn (caller_of v)) seat in
    let seen : w.seen ≡ h = a.seen ∙ ap (λ l. h ++ l) none ∙ append-nil h in
    let is : body_of h (outcome_of settings h (TakeWork seat)) ≡ Refused NoWork = sym (ap (λ (r : BookReply). r.body) a.replied) ∙ refused in
    ap (λ es. left_all settings.projects es) seen ∙ of_taken h is (taken settings h seat)
  where
    of_taken : (h : List Entry) → body_of h (outcome_of settings h (TakeWork seat)) ≡ Refused NoWork
        → ((body_of h (outcome_of settings h (TakeWork seat)) ≡ Refused NoWork) × (left_all settings.projects h ≡ 0))
        ⊎ ((order : OrderValue) × (body_of h (outcome_of settings h (TakeWork seat)) ≡ Work order))
        → left_all settings.projects h ≡ 0
    of_taken h is (inl none) = none.1
    of_taken h is (inr some) = absurd (let f : Work some.0 ≡ Refused NoWork = sym some.1 ∙ is in cc)

-- what is told of a set is not that no bucket was to be checked
not_told : (reply : ReplyBody) (worked : Worked) → tells reply worked → worked ≡ Nothing → ⊥
not_told reply worked (inl done) is = let f : Done done.0 ≡ Nothing = sym done.2 ∙ is in absurd cc
not_told reply worked (inr (inl already)) is = let f : Already ≡ Nothing = sym already.1 ∙ is in absurd cc
not_told reply worked (inr (inr dropped)) is = let f : Dropped dropped.1 ≡ Nothing = sym dropped.3 ∙ is in absurd cc

-- where a worker's turn found no bucket, none is undone in what its pass has then seen
pub nothing_left : (settings : Settings) (seat : ℕ) (v w : BookPass) (worked : Worked) → WorksOne settings seat v w worked → worked ≡ Nothing
    → left_all settings.projects w.seen ≡ 0
nothing_left settings seat v w worked (inl finds) is = none_left settings seat finds.0.turn finds.0.reply v w finds.0.asked finds.0.refused
nothing_left settings seat v w worked (inr brings) is = absurd (not_told brings.answer.body worked brings.told is)

-- ---- the replies

-- a call for work that gives none is refused
pub finds_none : (settings : Settings) (seat turn : ℕ) (reply : BookReply) (v w : BookPass) → IsAnswered settings (without_turn (TakeWork seat)) turn reply v w
    → ((order : OrderValue) → reply.body ≡ Work order → ⊥) → reply.body ≡ Refused NoWork
finds_none settings seat turn reply v w a no_work =
    let h : List Entry = v.seen ++ a.news in
    let is : reply.body ≡ body_of h (outcome_of settings h (TakeWork seat)) = ap (λ (r : BookReply). r.body) a.replied in
    of_taken h is (taken settings h seat)
  where
    of_taken : (h : List Entry) → reply.body ≡ body_of h (outcome_of settings h (TakeWork seat))
        → ((body_of h (outcome_of settings h (TakeWork seat)) ≡ Refused NoWork) × (left_all settings.projects h ≡ 0))
        ⊎ ((order : OrderValue) × (body_of h (outcome_of settings h (TakeWork seat)) ≡ Work order))
        → reply.body ≡ Refused NoWork
    of_taken h is (inl none) = is ∙ none.0
    of_taken h is (inr some) = absurd (no_work some.0 (is ∙ some.1))

-- the set of an order that was given may be brought at what the pass has seen then
pub may_bring : (settings : Settings) (seat turn : ℕ) (reply : BookReply) (order : OrderValue) (set : SetValue) (v w : BookPass) → IsAnswered settings (without_turn (TakeWork seat)) turn reply v w
    → reply.body ≡ Work order → IsFoundFor order set → IsBucket set.work.grid.boxes set.work.cell → IsLegal settings w.seen (Finish set)
may_bring settings seat turn reply order set v w a given found bucket =
    let h : List Entry = v.seen ++ a.news in
    let is : body_of h (outcome_of settings h (TakeWork seat)) ≡ Work order = sym (ap (λ (r : BookReply). r.body) a.replied) ∙ given in
    subst (λ (es : List Entry). IsLegal settings es (Finish set)) (sym a.seen)
    (set_legal settings h (added_by settings h (stamp_in turn (caller_of v)) (without_turn (TakeWork seat))) seat order set is found bucket)

-- what is answered to a set
pub is_told : (settings : Settings) (turn : ℕ) (reply : BookReply) (set : SetValue) (v w : BookPass) → IsAnswered settings (without_turn (Finish set)) turn reply v w → IsFinishTold reply.body
is_told settings turn reply set v w a =
    subst IsFinishTold (sym (ap (λ (r : BookReply). r.body) a.replied)) (finish_told settings (v.seen ++ a.news) set)
