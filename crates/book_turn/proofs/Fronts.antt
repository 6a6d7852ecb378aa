-- What two passes of one turn have seen.
use Rattle.std.proofs.Common.{◌≡◌, ◌≤◌, ℕ, List, sym, ap, ◌∙◌, subst}
use Rattle.book_turn.specs.declared.object.Stamp.{Stamp}
use Rattle.book_turn.specs.Entries.{up_to, calls_by, OwnUpTo}
use Rattle.book_turn.specs.Passes.{PassState, HasSeen, IsFrontOf}
use Rattle.book_turn.proofs.Prefixes.{up_to_front, own_up_to, own_calls}

module _ {E : Type 0} (stamp_of : E → Stamp) where
  abbrev turn : E → ℕ
  turn e = (stamp_of e).turn

  abbrev pass : E → ℕ
  pass e = (stamp_of e).pass

  pub fronts_agree : {S : Type 0} (history : List E) (v w : PassState E S) → HasSeen stamp_of history v → HasSeen stamp_of history w → v.last ≤ w.last → IsFrontOf stamp_of v w
  fronts_agree history v w a b le =
      let front : up_to turn v.last w.seen ≡ up_to turn v.last history = ap (up_to turn v.last) b.seen ∙ up_to_front turn v.last w.last history le in
      let seen : v.seen ≡ up_to turn v.last w.seen = a.seen ∙ sym front in
      let own : OwnUpTo turn pass v.numbers v.last w.seen = subst (OwnUpTo turn pass v.numbers v.last) (sym b.seen) (own_up_to turn pass v.numbers v.last w.last history a.own) in
      record { seen = seen; own = sym (own_calls turn pass v.numbers v.last w.seen own) ∙ sym (ap (calls_by pass v.numbers) seen) }
