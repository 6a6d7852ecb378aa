use Rattle.std.proofs.Common.{refl}
use Rattle.tri_exact.proofs.Choice.{not_both}
use Rattle.tri_pierce.specs.inner.LoneCorners.{face_of, mirror_of}
use Rattle.tri_pierce.proofs.CornerOrders.{over_up, over_down, mirrored_over, mirrored_pierces, mirrored_first_pierces, chain, pierces_along}
use Rattle.tri_pierce.proofs.LoneAnswers.{alone_at}
use Rattle.tri_pierce.proofs.lone_corners.lone_pierce.Goals as goal

-- both above
pub are_linked-requires-clause-over_t : goal.are_linked-requires-clause-over_t
are_linked-requires-clause-over_t c = over_up (face_of c.args.t) (face_of c.args.s) c.requires.over_t (c.requires.above_t_is.0 c.if-above_t.true)

pub are_linked-requires-clause-over_s : goal.are_linked-requires-clause-over_s
are_linked-requires-clause-over_s c = over_up (face_of c.args.s) (face_of c.args.t) c.requires.over_s (c.requires.above_s_is.0 c.if-above_s.true)

-- s turned over
pub are_linked-requires-then-above_t-clause-over_t : goal.are_linked-requires-then-above_t-clause-over_t
are_linked-requires-then-above_t-clause-over_t c =
    let t = face_of c.args.t in let s = face_of c.args.s in
    alone_at t (mirror_of s) t _ refl c.mirrored.ensures.value (mirrored_over t s (over_up t s c.requires.over_t (c.requires.above_t_is.0 c.if-above_t.true)))

pub are_linked-requires-then-above_t-clause-over_s : goal.are_linked-requires-then-above_t-clause-over_s
are_linked-requires-then-above_t-clause-over_s c =
    let t = face_of c.args.t in let s = face_of c.args.s in
    alone_at (mirror_of s) t _ t c.mirrored.ensures.value refl (over_down s t c.requires.over_s (λ h. not_both c.if-above_s.false (c.requires.above_s_is.1 h)))

pub returns-then-above_t : goal.returns-then-above_t
returns-then-above_t c =
    let t = face_of c.args.t in let s = face_of c.args.s in
    chain (pierces_along t _ t (mirror_of s) refl c.mirrored.ensures.value c.are_linked-then-above_t.ensures) (mirrored_pierces t s)

-- t turned over
pub are_linked-requires-then-above_s-2-clause-over_t : goal.are_linked-requires-then-above_s-2-clause-over_t
are_linked-requires-then-above_s-2-clause-over_t c =
    let t = face_of c.args.t in let s = face_of c.args.s in
    alone_at (mirror_of t) s _ s c.mirrored-then-above_s-2.ensures.value refl (over_down t s c.requires.over_t (λ h. not_both c.if-above_t.false (c.requires.above_t_is.1 h)))

pub are_linked-requires-then-above_s-2-clause-over_s : goal.are_linked-requires-then-above_s-2-clause-over_s
are_linked-requires-then-above_s-2-clause-over_s c =
    let t = face_of c.args.t in let s = face_of c.args.s in
    alone_at s (mirror_of t) s _ refl c.mirrored-then-above_s-2.ensures.value (mirrored_over s t (over_up s t c.requires.over_s (c.requires.above_s_is.0 c.if-above_s-2.true)))

pub returns-then-above_s-2 : goal.returns-then-above_s-2
returns-then-above_s-2 c =
    let t = face_of c.args.t in let s = face_of c.args.s in
    chain (pierces_along _ s (mirror_of t) s c.mirrored-then-above_s-2.ensures.value refl c.are_linked-then-above_s-2.ensures) (mirrored_first_pierces t s)

-- both turned over
pub are_linked-requires-2-clause-over_t : goal.are_linked-requires-2-clause-over_t
are_linked-requires-2-clause-over_t c =
    let t = face_of c.args.t in let s = face_of c.args.s in
    alone_at (mirror_of t) (mirror_of s) _ _ c.mirrored-2.ensures.value c.mirrored-3.ensures.value (mirrored_over (mirror_of t) s (over_down t s c.requires.over_t (λ h. not_both c.if-above_t.false (c.requires.above_t_is.1 h))))

pub are_linked-requires-2-clause-over_s : goal.are_linked-requires-2-clause-over_s
are_linked-requires-2-clause-over_s c =
    let t = face_of c.args.t in let s = face_of c.args.s in
    alone_at (mirror_of s) (mirror_of t) _ _ c.mirrored-3.ensures.value c.mirrored-2.ensures.value (mirrored_over (mirror_of s) t (over_down s t c.requires.over_s (λ h. not_both c.if-above_s-2.false (c.requires.above_s_is.1 h))))

pub returns : goal.returns
returns c =
    let t = face_of c.args.t in let s = face_of c.args.s in
    chain (pierces_along _ _ (mirror_of t) (mirror_of s) c.mirrored-2.ensures.value c.mirrored-3.ensures.value c.are_linked-2.ensures) (chain (mirrored_pierces (mirror_of t) s) (mirrored_first_pierces t s))
