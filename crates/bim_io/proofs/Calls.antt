-- What no call, one call and calls one after another leave of an object of the outside.
use Rattle.std.proofs.Common.{◌≡◌, ◌≤◌, ◌<◌, ℕ, List, [], ◌∷◌, ◌++◌, ◌||◌, ◌&&◌, ◌==◌, nat_lt, length, take, Bool, true, false, Option, Some, None, All, IsTrue, refl, sym, ◌∙◌, ap, subst, append_assoc, append-nil, arith}
use Rattle.std.proofs.lemmas.Bool.Decides.{nat_tests}
use Rattle.std.proofs.lemmas.Grind.{common_steps}
use Rattle.std.proofs.lemmas.List.Elements.{All-append}
use Rattle.std.specs.Io.KnownBytes.{append_known, prepend_known}
use Rattle.bim_model.specs.Moments.{IsMoment}
use Rattle.bim_io.specs.Causes.{Gains, Loses, Grows, GivesMoment}
use Rattle.bim_io.specs.StreamViews.{SourceSeen, SinkSeen, ClockSeen, SourceGives, SinkTakes, ClockGives, MayGive, Outside, Exchanges}

pub Grows_empty : (o : Option (List ℕ)) → Grows o o []
Grows_empty None = tt
Grows_empty (Some xs) = sym (append-nil xs)

pub Grows_trans : (a b c : Option (List ℕ)) (x y : List ℕ) → Grows a b x → Grows b c y → Grows a c (x ++ y)
Grows_trans None None None x y p q = tt
Grows_trans None None (Some zs) x y p q = q
Grows_trans None (Some ys) c x y p q = absurd p
Grows_trans (Some xs) None None x y p q = tt
Grows_trans (Some xs) None (Some zs) x y p q = absurd q
Grows_trans (Some xs) (Some ys) None x y p q = tt
Grows_trans (Some xs) (Some ys) (Some zs) x y p q = q ∙ ap (λ b. b ++ y) p ∙ append_assoc xs x y

append_none : (o : Option (List ℕ)) → o ≡ append_known o []
append_none None = refl
append_none (Some xs) = ap Some (sym (append-nil xs))

append_twice : (o : Option (List ℕ)) (x y : List ℕ) → append_known (append_known o x) y ≡ append_known o (x ++ y)
append_twice None x y = refl
append_twice (Some xs) x y = ap Some (append_assoc xs x y)

prepend_none : (o : Option (List ℕ)) → o ≡ prepend_known [] o
prepend_none None = refl
prepend_none (Some xs) = refl

prepend_twice : (o : Option (List ℕ)) (x y : List ℕ) → prepend_known x (prepend_known y o) ≡ prepend_known (x ++ y) o
prepend_twice None x y = refl
prepend_twice (Some xs) x y = ap Some (sym (append_assoc x y xs))

pub Gains_empty : (o : Option (List ℕ)) → Gains o o []
Gains_empty o = append_none o

pub Loses_empty : (o : Option (List ℕ)) → Loses o o []
Loses_empty o = prepend_none o

pub gives_none : (s : SourceSeen) → SourceGives s s []
gives_none s = record {
  left = Loses_empty s.left;
  given = Gains_empty s.given;
  most = refl;
  ended = λ e. e;
  faults = omega arith;
}

pub gives_trans : (a b c : SourceSeen) (x y : List ℕ) → SourceGives a b x → SourceGives b c y → SourceGives a c (x ++ y)
gives_trans a b c x y p q = record {
  left = p.left ∙ ap (prepend_known x) q.left ∙ prepend_twice c.left x y;
  given = q.given ∙ ap (λ o. append_known o y) p.given ∙ append_twice a.given x y;
  most = q.most ∙ p.most;
  ended = λ e. q.ended (p.ended e);
  faults = let first = p.faults in let then = q.faults in omega arith;
}

pub takes_none : (s : SinkSeen) → SinkTakes s s []
takes_none s = record {
  held = Grows_empty s.held;
  faults = omega arith;
}

pub takes_trans : (a b c : SinkSeen) (x y : List ℕ) → SinkTakes a b x → SinkTakes b c y → SinkTakes a c (x ++ y)
takes_trans a b c x y p q = record {
  held = Grows_trans a.held b.held c.held x y p.held q.held;
  faults = let first = p.faults in let then = q.faults in omega arith;
}

none_may : (one : Option ℕ) → All (MayGive one) []
none_may one = λ k d lt. absurd (omega arith)

one_may : (one : Option ℕ) (m : ℕ) → MayGive one m → All (MayGive one) (m ∷ [])
one_may one m may = λ k d lt. let first : k ≡ 0 = omega arith in rw first may

pub clock_none : (c : ClockSeen) → ClockGives c c []
clock_none c = record {
  gave = Grows_empty c.gave;
  one = refl;
  each = none_may c.one;
}

pub clock_one : (old new : ClockSeen) (m : ℕ) → IsMoment m → GivesMoment old.one m → new.one ≡ old.one → Grows old.gave new.gave (m ∷ []) → ClockGives old new (m ∷ [])
clock_one old new m is gives same gave = record {
  gave = gave;
  one = same;
  each = one_may old.one m (is, gives);
}

pub clock_trans : (a b c : ClockSeen) (x y : List ℕ) → ClockGives a b x → ClockGives b c y → ClockGives a c (x ++ y)
clock_trans a b c x y p q = record {
  gave = Grows_trans a.gave b.gave c.gave x y p.gave q.gave;
  one = q.one ∙ p.one;
  each = All-append (MayGive a.one) x y p.each (subst (λ (o : Option ℕ). All (MayGive o) y) p.one q.each);
}

pub exchanges_none : (w : Outside) → Exchanges w w [] [] []
exchanges_none w = record {
  gave = gives_none w.source;
  told = clock_none w.clock;
  took = takes_none w.sink;
}

pub exchanges_trans : (a b c : Outside) (i m o i' m' o' : List ℕ) → Exchanges a b i m o → Exchanges b c i' m' o' → Exchanges a c (i ++ i') (m ++ m') (o ++ o')
exchanges_trans a b c i m o i' m' o' p q = record {
  gave = gives_trans a.source b.source c.source i i' p.gave q.gave;
  told = clock_trans a.clock b.clock c.clock m m' p.told q.told;
  took = takes_trans a.sink b.sink c.sink o o' p.took q.took;
}
