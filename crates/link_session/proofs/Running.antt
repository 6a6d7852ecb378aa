-- A session from its first step to its last.
use Rattle.std.proofs.Common.{◌≡◌, ℕ, [], false, Option, Some, None, sym, ◌∙◌, subst}
use Rattle.bim_io.specs.StreamViews.{Outside, EndsEmpty}
use Rattle.book_passes.specs.Lessons.{CallerSeen}
use Rattle.http_frame.specs.Framers.{Stands}
use Rattle.bim_session.specs.declared.end.SessionEnd.{SessionEnd}
use Rattle.bim_session.specs.declared.end.SessionEnd.TheVariants as end
use Rattle.bim_session.specs.Talking.{TalkState, IsOwnLeaving, KeepsNone, fresh}
use Rattle.link_session.specs.inner.Loop.{StepsAndWorks}
use Rattle.link_session.specs.declared.session.AfterStep.{AfterStep}
use Rattle.link_session.specs.declared.session.AfterStep.TheVariants.{Again, End}
use Rattle.link_session.proofs.SoFar.{Service, SoFar, GoesBehind, Finishes}
use Rattle.link_session.proofs.Growing.{fresh_of, so_far_start}
use Rattle.link_session.proofs.Ending.{finish_leaving, finish_memory, some_end}
use Rattle.link_session.proofs.Behind.{steps_and_works}

-- nothing was done yet
pub starts : (k : Service) (v : CallerSeen) (w : Outside) (talk : TalkState) (turn : ℕ) → k.goes v [] v → Stands talk.framer [] false
    → talk ≡ fresh talk.framer talk.notes → KeepsNone turn talk.notes → turn ≡ v.last → SoFar k v w w talk v
starts k v w talk turn stays stands is_fresh none last =
    so_far_start k v w talk stays (fresh_of talk stands is_fresh) (subst (λ (n : ℕ). KeepsNone n talk.notes) last none)

-- the session goes on
pub again : (k : Service) (v : CallerSeen) (w a b : Outside) (old new : TalkState) (server later : CallerSeen) (result : AfterStep) → SoFar k v w a old server
    → StepsAndWorks k.settings k.buckets k.goes a b old server result new later → EndsEmpty b.source → result ≡ Again → SoFar k v w b new later
again k v w a b old new server later result so steps empty is =
    subst (λ (p : AfterStep). GoesBehind k v w b p new later) is (steps_and_works k v w a b old new server later result so steps empty)

-- the session ends
pub ends : (k : Service) (v : CallerSeen) (w a b : Outside) (old new : TalkState) (server later : CallerSeen) (result : AfterStep) (e : SessionEnd) → SoFar k v w a old server
    → StepsAndWorks k.settings k.buckets k.goes a b old server result new later → EndsEmpty b.source → result ≡ End e → Finishes k v later w b e
ends k v w a b old new server later result e so steps empty is =
    subst (λ (p : AfterStep). GoesBehind k v w b p new later) is (steps_and_works k v w a b old new server later result so steps empty)

-- it was leaving
pub leaves : (k : Service) (v : CallerSeen) (w a : Outside) (talk : TalkState) (server : CallerSeen) (o : Option SessionEnd) (e : SessionEnd) → SoFar k v w a talk server
    → o ≡ talk.leaving → o ≡ Some e → IsOwnLeaving o → EndsEmpty a.source → Finishes k v server w a e
leaves k v w a talk server o e so told is own empty =
    finish_leaving k v w a talk server so e (sym told ∙ is) (some_end e (subst (λ (z : Option SessionEnd). IsOwnLeaving z) is own)) empty

-- it made as many steps as there may be
pub stops : (k : Service) (v : CallerSeen) (w a : Outside) (talk : TalkState) (server : CallerSeen) (o : Option SessionEnd) (n : ℕ) → SoFar k v w a talk server → o ≡ talk.leaving → o ≡ None
    → EndsEmpty a.source → n ≡ talk.served → Finishes k v server w a (end.Memory n)
stops k v w a talk server o n so told is empty count =
    subst (λ (m : ℕ). Finishes k v server w a (end.Memory m)) (sym count) (finish_memory k v w a talk server so (sym told ∙ is) empty)
