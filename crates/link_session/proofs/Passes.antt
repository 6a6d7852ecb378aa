-- How a caller by a pass goes on.
use Rattle.std.proofs.Common.{◌≡◌, [], ◌∷◌, Some, Ok, inl, refl}
use Rattle.book_history.specs.declared.limits.Settings.{Settings}
use Rattle.book_passes.specs.Lessons.{CallerSeen}
use Rattle.link_session.specs.Callers.{CallerLaws, GoesByPass, WorksBehind, start_of}
use Rattle.link_session.proofs.Turns.{known_none, known_trans}
use Rattle.link_session.proofs.Working.{none_works}

-- it works no buckets
pub laws_by_pass : CallerLaws (Some 0) GoesByPass
laws_by_pass = record {
  goes_on = λ u v w first second a b. known_trans u v w first second a b;
  learns = λ v w steps g. (g.news, g.learns);
  in_step = λ v w steps g. inl refl;
}

pub works_by_pass : (settings : Settings) (v : CallerSeen) → v.numbers ≡ v.number ∷ [] → WorksBehind settings (Some 0) GoesByPass v (Ok tt) v
works_by_pass settings v alone = ([], known_none v alone, none_works (start_of settings (Some 0) v v) refl)
