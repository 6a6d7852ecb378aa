use Rattle.std.proofs.Common.{refl}
use Rattle.tri_exact.specs.Pierce.{height}
use Rattle.tri_exact.proofs.Choice.{not_both}
use Rattle.tri_pierce.specs.inner.LoneCorners.{face_of, turn_of}
use Rattle.tri_pierce.proofs.LoneSigns.{last_lone, split_turned}
use Rattle.tri_pierce.proofs.CornerOrders.{turned_pierces, chain, pierces_along}
use Rattle.tri_pierce.proofs.LoneAnswers.{held, split_held, split_named, lone_named, above_named, lone_at, above_at, twice_turned, heights_turned, heights_at}
use Rattle.tri_pierce.proofs.lone_corners.split_pierce.Goals as goal

-- ---- what the tests of heights require
pub is_lone-requires-clause-a_in : goal.is_lone-requires-clause-a_in
is_lone-requires-clause-a_in c = held c.args.over_t.a c.requires.tall_t.a_in

pub is_lone-requires-clause-b_in : goal.is_lone-requires-clause-b_in
is_lone-requires-clause-b_in c = held c.args.over_t.b c.requires.tall_t.b_in

pub is_lone-requires-clause-c_in : goal.is_lone-requires-clause-c_in
is_lone-requires-clause-c_in c = held c.args.over_t.c c.requires.tall_t.c_in

pub is_lone-requires-clause-split : goal.is_lone-requires-clause-split
is_lone-requires-clause-split c = split_held c.args.over_t.a c.args.over_t.b c.args.over_t.c c.requires.tall_t.a_in c.requires.tall_t.b_in c.requires.tall_t.c_in c.requires.split_t

pub is_lone-requires-2-clause-a_in : goal.is_lone-requires-2-clause-a_in
is_lone-requires-2-clause-a_in c = held c.args.over_t.b c.requires.tall_t.b_in

pub is_lone-requires-2-clause-b_in : goal.is_lone-requires-2-clause-b_in
is_lone-requires-2-clause-b_in c = held c.args.over_t.c c.requires.tall_t.c_in

pub is_lone-requires-2-clause-c_in : goal.is_lone-requires-2-clause-c_in
is_lone-requires-2-clause-c_in c = held c.args.over_t.a c.requires.tall_t.a_in

pub is_lone-requires-2-clause-split : goal.is_lone-requires-2-clause-split
is_lone-requires-2-clause-split c = split_held c.args.over_t.b c.args.over_t.c c.args.over_t.a c.requires.tall_t.b_in c.requires.tall_t.c_in c.requires.tall_t.a_in (split_turned c.args.over_t.a c.args.over_t.b c.args.over_t.c c.requires.split_t)

pub is_above-requires : goal.is_above-requires
is_above-requires c = held c.args.over_t.a c.requires.tall_t.a_in

pub is_above-requires-then-is_lone-2 : goal.is_above-requires-then-is_lone-2
is_above-requires-then-is_lone-2 c = held c.args.over_t.b c.requires.tall_t.b_in

pub is_above-requires-2 : goal.is_above-requires-2
is_above-requires-2 c = held c.args.over_t.c c.requires.tall_t.c_in

-- ---- the first corner of s is alone
pub first_alone-requires-clause-over_t : goal.first_alone-requires-clause-over_t
first_alone-requires-clause-over_t c = (lone_named c.args.over_t.a c.args.over_t.b c.args.over_t.c _ _ _ c.requires.tall_t.a_in c.requires.tall_t.b_in c.requires.tall_t.c_in c.requires.over_t_is.a_is c.requires.over_t_is.b_is c.requires.over_t_is.c_is c.is_lone.ensures).0 c.if-is_lone.true

pub first_alone-requires-clause-above_t_is : goal.first_alone-requires-clause-above_t_is
first_alone-requires-clause-above_t_is c = above_named c.args.over_t.a _ c.requires.tall_t.a_in c.requires.over_t_is.a_is c.is_above.ensures

-- ---- the second
pub first_alone-requires-then-is_lone-2-clause-over_t : goal.first_alone-requires-then-is_lone-2-clause-over_t
first_alone-requires-then-is_lone-2-clause-over_t c =
    let t = face_of c.args.t in let s = face_of c.args.s in
    lone_at t (turn_of s) t _ refl c.turned.ensures.value ((lone_named c.args.over_t.b c.args.over_t.c c.args.over_t.a _ _ _ c.requires.tall_t.b_in c.requires.tall_t.c_in c.requires.tall_t.a_in c.requires.over_t_is.b_is c.requires.over_t_is.c_is c.requires.over_t_is.a_is c.is_lone-2.ensures).0 c.if-is_lone-2.true)

pub first_alone-requires-then-is_lone-2-clause-above_t_is : goal.first_alone-requires-then-is_lone-2-clause-above_t_is
first_alone-requires-then-is_lone-2-clause-above_t_is c =
    let t = face_of c.args.t in let s = face_of c.args.s in
    above_at t (turn_of s) t _ refl c.turned.ensures.value (above_named c.args.over_t.b _ c.requires.tall_t.b_in c.requires.over_t_is.b_is c.is_above-then-is_lone-2.ensures)

pub first_alone-requires-then-is_lone-2-clause-over_s_is : goal.first_alone-requires-then-is_lone-2-clause-over_s_is
first_alone-requires-then-is_lone-2-clause-over_s_is c =
    let t = face_of c.args.t in let s = face_of c.args.s in
    heights_at c.args.over_s (turn_of s) t _ t c.turned.ensures.value refl (heights_turned c.args.over_s s t c.requires.over_s_is)

pub returns-then-is_lone-2 : goal.returns-then-is_lone-2
returns-then-is_lone-2 c =
    let t = face_of c.args.t in let s = face_of c.args.s in
    chain (pierces_along t _ t (turn_of s) refl c.turned.ensures.value c.first_alone-then-is_lone-2.ensures) (turned_pierces t s)

-- ---- the third
pub first_alone-requires-2-clause-over_t : goal.first_alone-requires-2-clause-over_t
first_alone-requires-2-clause-over_t c =
    let t = face_of c.args.t in let s = face_of c.args.s in
    let k = c.requires.over_t_is in let h = c.args.over_t in
    lone_at t (turn_of (turn_of s)) t _ refl (twice_turned s _ _ c.turned-2.ensures.value c.turned-3.ensures.value)
    (last_lone (height s.a t) (height s.b t) (height s.c t) (split_named h.a h.b h.c (height s.a t) (height s.b t) (height s.c t) k.a_is k.b_is k.c_is c.requires.split_t)
    (λ x. not_both c.if-is_lone.false ((lone_named c.args.over_t.a c.args.over_t.b c.args.over_t.c _ _ _ c.requires.tall_t.a_in c.requires.tall_t.b_in c.requires.tall_t.c_in c.requires.over_t_is.a_is c.requires.over_t_is.b_is c.requires.over_t_is.c_is c.is_lone.ensures).1 x))
    (λ x. not_both c.if-is_lone-2.false ((lone_named c.args.over_t.b c.args.over_t.c c.args.over_t.a _ _ _ c.requires.tall_t.b_in c.requires.tall_t.c_in c.requires.tall_t.a_in c.requires.over_t_is.b_is c.requires.over_t_is.c_is c.requires.over_t_is.a_is c.is_lone-2.ensures).1 x)))

pub first_alone-requires-2-clause-above_t_is : goal.first_alone-requires-2-clause-above_t_is
first_alone-requires-2-clause-above_t_is c =
    let t = face_of c.args.t in let s = face_of c.args.s in
    above_at t (turn_of (turn_of s)) t _ refl (twice_turned s _ _ c.turned-2.ensures.value c.turned-3.ensures.value) (above_named c.args.over_t.c _ c.requires.tall_t.c_in c.requires.over_t_is.c_is c.is_above-2.ensures)

pub first_alone-requires-2-clause-over_s_is : goal.first_alone-requires-2-clause-over_s_is
first_alone-requires-2-clause-over_s_is c =
    let t = face_of c.args.t in let s = face_of c.args.s in
    heights_at c.args.over_s (turn_of (turn_of s)) t _ t (twice_turned s _ _ c.turned-2.ensures.value c.turned-3.ensures.value) refl (heights_turned c.args.over_s (turn_of s) t (heights_turned c.args.over_s s t c.requires.over_s_is))

pub returns : goal.returns
returns c =
    let t = face_of c.args.t in let s = face_of c.args.s in
    chain (pierces_along t _ t (turn_of (turn_of s)) refl (twice_turned s _ _ c.turned-2.ensures.value c.turned-3.ensures.value) c.first_alone-2.ensures) (chain (turned_pierces t (turn_of s)) (turned_pierces t s))
