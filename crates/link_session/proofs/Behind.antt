-- A step of a session with the work after it.
use Rattle.std.proofs.Common.{ℕ, inl, inr, sym, subst, arith}
use Rattle.bim_io.specs.StreamViews.{Outside, EndsEmpty}
use Rattle.book_passes.specs.Lessons.{CallerSeen}
use Rattle.bim_session.specs.declared.end.SessionEnd.{SessionEnd}
use Rattle.bim_session.specs.Talking.{TalkState}
use Rattle.link_session.specs.inner.Loop.{WorksOn, WorksAfter, StepsAndWorks}
use Rattle.link_session.specs.declared.session.AfterStep.{AfterStep}
use Rattle.link_session.specs.declared.session.AfterStep.TheVariants.{Again, End}
use Rattle.link_session.proofs.SoFar.{Service, SoFar, Owes, Goes, GoesBehind, Finishes}
use Rattle.link_session.proofs.Stepping.{steps_on}

owes_behind : (k : Service) (v : CallerSeen) (w b : Outside) (talk : TalkState) (mid later : CallerSeen) (progress : AfterStep) → Owes k v w b talk mid
    → WorksOn k.settings k.buckets k.goes talk.served mid progress later → EndsEmpty b.source → GoesBehind k v w b progress talk later
owes_behind k v w b talk mid later Again owes works empty = owes.whole later works.0 works.1 works.2
owes_behind k v w b talk mid later (End e) owes works empty =
    subst (λ (z : SessionEnd). Finishes k v later w b z) (sym works.0) (owes.short later works.1.1.0 works.1.1.1 works.1.1.2 empty)

works_after : (k : Service) (v : CallerSeen) (served : ℕ) (w b : Outside) (talk : TalkState) (mid later : CallerSeen) (stepped progress : AfterStep) → Goes k v served w b stepped talk mid
    → WorksAfter k.settings k.buckets k.goes served talk mid stepped progress later → EndsEmpty b.source → GoesBehind k v w b progress talk later
works_after k v served w b talk mid later (End e) progress goes works empty =
    subst (λ (p : AfterStep). GoesBehind k v w b p talk later) (sym works.0)
    (subst (λ (z : CallerSeen). Finishes k v z w b e) (sym works.1) goes)
works_after k v served w b talk mid later Again progress (inl goes) (inl none) empty =
    subst (λ (p : AfterStep). GoesBehind k v w b p talk later) (sym none.1)
    (subst (λ (z : CallerSeen). SoFar k v w b talk z) (sym none.2) goes.1)
works_after k v served w b talk mid later Again progress (inl goes) (inr works) empty =
    absurd (let le = goes.0 in let lt = works.0 in omega (arith, le, lt))
works_after k v served w b talk mid later Again progress (inr owes) (inl none) empty =
    absurd (let lt = owes.0 in let le = none.0 in omega (arith, le, lt))
works_after k v served w b talk mid later Again progress (inr owes) (inr works) empty =
    owes_behind k v w b talk mid later progress owes.1 works.1 empty

pub steps_and_works : (k : Service) (v : CallerSeen) (w a b : Outside) (old new : TalkState) (server later : CallerSeen) (progress : AfterStep) → SoFar k v w a old server
    → StepsAndWorks k.settings k.buckets k.goes a b old server progress new later → EndsEmpty b.source → GoesBehind k v w b progress new later
steps_and_works k v w a b old new server later progress so steps empty =
    works_after k v old.served w b new steps.mid later steps.stepped progress
    (steps_on k v w a b old new server steps.mid steps.stepped so steps.step empty) steps.work empty
