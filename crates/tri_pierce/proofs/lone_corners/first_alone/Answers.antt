use Rattle.std.proofs.Common.{refl}
use Rattle.tri_exact.specs.Pierce.{height}
use Rattle.tri_exact.proofs.Choice.{not_both}
use Rattle.tri_pierce.specs.inner.LoneCorners.{face_of, turn_of}
use Rattle.tri_pierce.proofs.LoneSigns.{last_lone, split_turned}
use Rattle.tri_pierce.proofs.CornerOrders.{turned_under, turned_first_pierces, chain, pierces_along}
use Rattle.tri_pierce.proofs.LoneAnswers.{held, split_held, split_named, lone_named, above_named, lone_at, above_at, twice_turned, above_turned}
use Rattle.tri_pierce.proofs.lone_corners.first_alone.Goals as goal

-- ---- what the tests of heights require
pub is_lone-requires-clause-a_in : goal.is_lone-requires-clause-a_in
is_lone-requires-clause-a_in c = held c.args.over_s.a c.requires.tall.a_in

pub is_lone-requires-clause-b_in : goal.is_lone-requires-clause-b_in
is_lone-requires-clause-b_in c = held c.args.over_s.b c.requires.tall.b_in

pub is_lone-requires-clause-c_in : goal.is_lone-requires-clause-c_in
is_lone-requires-clause-c_in c = held c.args.over_s.c c.requires.tall.c_in

pub is_lone-requires-clause-split : goal.is_lone-requires-clause-split
is_lone-requires-clause-split c = split_held c.args.over_s.a c.args.over_s.b c.args.over_s.c c.requires.tall.a_in c.requires.tall.b_in c.requires.tall.c_in c.requires.split

pub is_lone-requires-2-clause-a_in : goal.is_lone-requires-2-clause-a_in
is_lone-requires-2-clause-a_in c = held c.args.over_s.b c.requires.tall.b_in

pub is_lone-requires-2-clause-b_in : goal.is_lone-requires-2-clause-b_in
is_lone-requires-2-clause-b_in c = held c.args.over_s.c c.requires.tall.c_in

pub is_lone-requires-2-clause-c_in : goal.is_lone-requires-2-clause-c_in
is_lone-requires-2-clause-c_in c = held c.args.over_s.a c.requires.tall.a_in

pub is_lone-requires-2-clause-split : goal.is_lone-requires-2-clause-split
is_lone-requires-2-clause-split c = split_held c.args.over_s.b c.args.over_s.c c.args.over_s.a c.requires.tall.b_in c.requires.tall.c_in c.requires.tall.a_in (split_turned c.args.over_s.a c.args.over_s.b c.args.over_s.c c.requires.split)

pub is_above-requires : goal.is_above-requires
is_above-requires c = held c.args.over_s.a c.requires.tall.a_in

pub is_above-requires-then-is_lone-2 : goal.is_above-requires-then-is_lone-2
is_above-requires-then-is_lone-2 c = held c.args.over_s.b c.requires.tall.b_in

pub is_above-requires-2 : goal.is_above-requires-2
is_above-requires-2 c = held c.args.over_s.c c.requires.tall.c_in

-- ---- the first corner of t is alone
pub lone_pierce-requires-clause-over_s : goal.lone_pierce-requires-clause-over_s
lone_pierce-requires-clause-over_s c = (lone_named c.args.over_s.a c.args.over_s.b c.args.over_s.c _ _ _ c.requires.tall.a_in c.requires.tall.b_in c.requires.tall.c_in c.requires.over_s_is.a_is c.requires.over_s_is.b_is c.requires.over_s_is.c_is c.is_lone.ensures).0 c.if-is_lone.true

pub lone_pierce-requires-clause-above_s_is : goal.lone_pierce-requires-clause-above_s_is
lone_pierce-requires-clause-above_s_is c = above_named c.args.over_s.a _ c.requires.tall.a_in c.requires.over_s_is.a_is c.is_above.ensures

-- ---- the second
pub lone_pierce-requires-then-is_lone-2-clause-over_t : goal.lone_pierce-requires-then-is_lone-2-clause-over_t
lone_pierce-requires-then-is_lone-2-clause-over_t c =
    let t = face_of c.args.t in let s = face_of c.args.s in
    lone_at (turn_of t) s _ s c.turned.ensures.value refl (turned_under t s c.requires.over_t)

pub lone_pierce-requires-then-is_lone-2-clause-over_s : goal.lone_pierce-requires-then-is_lone-2-clause-over_s
lone_pierce-requires-then-is_lone-2-clause-over_s c =
    let t = face_of c.args.t in let s = face_of c.args.s in
    lone_at s (turn_of t) s _ refl c.turned.ensures.value ((lone_named c.args.over_s.b c.args.over_s.c c.args.over_s.a _ _ _ c.requires.tall.b_in c.requires.tall.c_in c.requires.tall.a_in c.requires.over_s_is.b_is c.requires.over_s_is.c_is c.requires.over_s_is.a_is c.is_lone-2.ensures).0 c.if-is_lone-2.true)

pub lone_pierce-requires-then-is_lone-2-clause-above_t_is : goal.lone_pierce-requires-then-is_lone-2-clause-above_t_is
lone_pierce-requires-then-is_lone-2-clause-above_t_is c =
    let t = face_of c.args.t in let s = face_of c.args.s in
    above_at (turn_of t) s _ s c.turned.ensures.value refl (above_turned t s c.requires.above_t_is)

pub lone_pierce-requires-then-is_lone-2-clause-above_s_is : goal.lone_pierce-requires-then-is_lone-2-clause-above_s_is
lone_pierce-requires-then-is_lone-2-clause-above_s_is c =
    let t = face_of c.args.t in let s = face_of c.args.s in
    above_at s (turn_of t) s _ refl c.turned.ensures.value (above_named c.args.over_s.b _ c.requires.tall.b_in c.requires.over_s_is.b_is c.is_above-then-is_lone-2.ensures)

pub returns-then-is_lone-2 : goal.returns-then-is_lone-2
returns-then-is_lone-2 c =
    let t = face_of c.args.t in let s = face_of c.args.s in
    chain (pierces_along _ s (turn_of t) s c.turned.ensures.value refl c.lone_pierce-then-is_lone-2.ensures) (turned_first_pierces t s)

-- ---- the third
pub lone_pierce-requires-2-clause-over_t : goal.lone_pierce-requires-2-clause-over_t
lone_pierce-requires-2-clause-over_t c =
    let t = face_of c.args.t in let s = face_of c.args.s in
    lone_at (turn_of (turn_of t)) s _ s (twice_turned t _ _ c.turned-2.ensures.value c.turned-3.ensures.value) refl (turned_under (turn_of t) s (turned_under t s c.requires.over_t))

pub lone_pierce-requires-2-clause-over_s : goal.lone_pierce-requires-2-clause-over_s
lone_pierce-requires-2-clause-over_s c =
    let t = face_of c.args.t in let s = face_of c.args.s in
    let k = c.requires.over_s_is in let h = c.args.over_s in
    lone_at s (turn_of (turn_of t)) s _ refl (twice_turned t _ _ c.turned-2.ensures.value c.turned-3.ensures.value)
    (last_lone (height t.a s) (height t.b s) (height t.c s) (split_named h.a h.b h.c (height t.a s) (height t.b s) (height t.c s) k.a_is k.b_is k.c_is c.requires.split)
    (λ x. not_both c.if-is_lone.false ((lone_named c.args.over_s.a c.args.over_s.b c.args.over_s.c _ _ _ c.requires.tall.a_in c.requires.tall.b_in c.requires.tall.c_in c.requires.over_s_is.a_is c.requires.over_s_is.b_is c.requires.over_s_is.c_is c.is_lone.ensures).1 x))
    (λ x. not_both c.if-is_lone-2.false ((lone_named c.args.over_s.b c.args.over_s.c c.args.over_s.a _ _ _ c.requires.tall.b_in c.requires.tall.c_in c.requires.tall.a_in c.requires.over_s_is.b_is c.requires.over_s_is.c_is c.requires.over_s_is.a_is c.is_lone-2.ensures).1 x)))

pub lone_pierce-requires-2-clause-above_t_is : goal.lone_pierce-requires-2-clause-above_t_is
lone_pierce-requires-2-clause-above_t_is c =
    let t = face_of c.args.t in let s = face_of c.args.s in
    above_at (turn_of (turn_of t)) s _ s (twice_turned t _ _ c.turned-2.ensures.value c.turned-3.ensures.value) refl (above_turned (turn_of t) s (above_turned t s c.requires.above_t_is))

pub lone_pierce-requires-2-clause-above_s_is : goal.lone_pierce-requires-2-clause-above_s_is
lone_pierce-requires-2-clause-above_s_is c =
    let t = face_of c.args.t in let s = face_of c.args.s in
    above_at s (turn_of (turn_of t)) s _ refl (twice_turned t _ _ c.turned-2.ensures.value c.turned-3.ensures.value) (above_named c.args.over_s.c _ c.requires.tall.c_in c.requires.over_s_is.c_is c.is_above-2.ensures)

pub returns : goal.returns
returns c =
    let t = face_of c.args.t in let s = face_of c.args.s in
    chain (pierces_along _ s (turn_of (turn_of t)) s (twice_turned t _ _ c.turned-2.ensures.value c.turned-3.ensures.value) refl c.lone_pierce-2.ensures) (chain (turned_first_pierces (turn_of t) s) (turned_first_pierces t s))
