-- What the calls of a pass teach it.
use Rattle.std.proofs.Common.{◌≡◌, ◌≤◌, ◌<◌, ℕ, ◌+◌, ◌++◌, List, [], ◌∷◌, refl, sym, ◌∙◌, ap, subst, append-nil, append_assoc, arith}
use Rattle.book_turn.specs.Entries.{AllBefore, AllAfter}
use Rattle.book_turn.specs.Passes.{KeepsNumbers}
use Rattle.book_turn.proofs.Prefixes.{before_append, before_later, after_append, after_earlier}
use Rattle.book_history.specs.declared.limits.Settings.{Settings}
use Rattle.book_history.specs.declared.changes.Entry.{Entry}
use Rattle.book_history.specs.declared.requests.BookCall.{BookCall}
use Rattle.book_history.specs.declared.replies.BookReply.{BookReply}
use Rattle.book_history.specs.Requests.{added_by}
use Rattle.book_history.proofs.Histories.{added_of}
use Rattle.book_passes.specs.Lessons.{BookPass, CallerSeen, Keeps, IsAnswered, IsIdle, TakesTurn, Learns, AllOf, caller_of, turn_of, stamp_in}
use Rattle.book_passes.specs.LessonLaws.{TakesCall}

all_of : (turn : ℕ) (es : List Entry) → Rattle.book_history.proofs.Histories.AreOf turn es → AllOf turn es
all_of turn [] are = tt
all_of turn (e ∷ es) are = (are.0, all_of turn es are.1)

-- what a call adds is of its turn
pub added_all : (settings : Settings) (h : List Entry) (turn : ℕ) (v : CallerSeen) (call : BookCall) → AllOf turn (added_by settings h (stamp_in turn v) call)
added_all settings h turn v call = all_of turn (added_by settings h (stamp_in turn v) call) (added_of settings h (stamp_in turn v) call)

pub takes_call : (settings : Settings) (call : BookCall) (turn : ℕ) (reply : BookReply) (v w : BookPass) → KeepsNumbers v w → IsAnswered settings call turn reply v w
    → TakesCall settings call turn reply (caller_of v) (caller_of w)
takes_call settings call turn reply v w keeps a = record {
  others = a.news;
  takes = record {
    keeps = record { number = keeps.number; numbers = keeps.numbers };
    above = a.takes.later;
    last = a.takes.last;
    made = a.takes.made;
    seen = a.seen;
    since = a.takes.since;
    below = a.takes.before;
    not_own = a.takes.others;
    in_turn = added_all settings (v.seen ++ a.news) turn (caller_of v) call;
  };
  replied = a.replied;
}

pub takes_idly : (v w : BookPass) → KeepsNumbers v w → IsIdle v w → (turn : ℕ) × (others : List Entry) × TakesTurn turn others [] (caller_of v) (caller_of w)
takes_idly v w keeps n = (
  n.turn,
  n.news,
  record {
    keeps = record { number = keeps.number; numbers = keeps.numbers };
    above = n.takes.later;
    last = n.takes.last;
    made = n.takes.made;
    seen = n.seen ∙ sym (append-nil (v.seen ++ n.news));
    since = n.takes.since;
    below = n.takes.before;
    not_own = n.takes.others;
    in_turn = tt;
  },
)

-- ---- the entries of a turn

of_after : (s turn : ℕ) (es : List Entry) → s < turn → AllOf turn es → AllAfter turn_of s es
of_after s turn [] lt are = tt
of_after s turn (e ∷ es) lt are = (let is : e.stamp.turn ≡ turn = are.0 in omega arith, of_after s turn es lt are.1)

of_before : (turn : ℕ) (es : List Entry) → AllOf turn es → AllBefore turn_of (turn + 1) es
of_before turn [] are = tt
of_before turn (e ∷ es) are = (let is : e.stamp.turn ≡ turn = are.0 in omega arith, of_before turn es are.1)

pub learns_turn : (turn : ℕ) (others added : List Entry) (v w : CallerSeen) → TakesTurn turn others added v w → Learns v w (others ++ added)
learns_turn turn others added v w t =
    let above : v.last < turn = t.above in
    let last : w.last ≡ turn = t.last in
    record {
      keeps = t.keeps;
      seen = t.seen ∙ append_assoc v.seen others added;
      later = after_append turn_of v.last others added t.since (of_after v.last turn added above t.in_turn);
      rises = omega arith;
      up_to = λ _. subst (λ (n : ℕ). AllBefore turn_of (n + 1) w.seen) (sym last)
          (subst (λ (h : List Entry). AllBefore turn_of (turn + 1) h) (sym t.seen)
          (before_append turn_of (turn + 1) (v.seen ++ others) added (before_later turn_of turn (turn + 1) (v.seen ++ others) (omega arith) t.below)
          (of_before turn added t.in_turn)));
    }

keeps_trans : (u v w : CallerSeen) → Keeps u v → Keeps v w → Keeps u w
keeps_trans u v w p q = record { number = q.number ∙ p.number; numbers = q.numbers ∙ p.numbers }

pub learns_trans : (u v w : CallerSeen) (first second : List Entry) → Learns u v first → Learns v w second → Learns u w (first ++ second)
learns_trans u v w first second p q =
    let one : u.last ≤ v.last = p.rises in
    let two : v.last ≤ w.last = q.rises in
    record {
      keeps = keeps_trans u v w p.keeps q.keeps;
      seen = q.seen ∙ ap (λ h. h ++ second) p.seen ∙ append_assoc u.seen first second;
      later = after_append turn_of u.last first second p.later (after_earlier turn_of u.last v.last second one q.later);
      rises = omega arith;
      up_to = λ all. q.up_to (p.up_to all);
    }

pub learns_none : (v : CallerSeen) → Learns v v []
learns_none v = record {
  keeps = record { number = refl; numbers = refl };
  seen = sym (append-nil v.seen);
  later = tt;
  rises = omega arith;
  up_to = λ all. all;
}
