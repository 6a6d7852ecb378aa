use Rattle.std.proofs.Common.{◌≡◌, ℕ, ◌-◌, ◌<◌, ◌⊎◌, ◌++◌, ◌∷◌, [], List, length, get_or, ap, ◌∙◌, sym, subst, Contains, arith}
use Rattle.std.proofs.lemmas.List.{length_push, get_or_default}
use Rattle.std.proofs.lemmas.List.Elements.{Contains-append_left}
use Rattle.placement.specs.inner.Walks.{IsFrom, Settling}
use Rattle.placement.proofs.Visiting.{from_one, settle_next}
use Rattle.placement.proofs.walk.Walk.settle.Goals as goal

pub loop-k-preserved : goal.loop-k-preserved
loop-k-preserved c =
    let i = c.loop-k.invariant in
    let met = c.args.self.now.met.items in
    let order = c.loop-k.self.order.items in
    let k = c.loop-k.k in
    let within = i.within in
    let most = i.most in
    let down : c.args.start < k = c.loop-k-test.true in
    let same = ap length i.met in
    let lt : k - 1 < length c.loop-k.self.met.items = omega arith in
    let e : c.push.new.self.items ≡ order ++ get_or met (k - 1) 0 ∷ [] =
    c.in_ok-push.ensures.items ∙ ap (λ (x : ℕ). order ++ x ∷ []) (c.index.ensures ∙ get_or_default c.loop-k.self.met.items (k - 1) c.index.result.now 0 lt ∙ ap (λ (m : List ℕ). get_or m (k - 1) 0) i.met) in
    let long = ap length e in
    let more = length_push order (get_or met (k - 1) 0) in
    let count = i.count in
    record {
      within = omega arith;
      most = omega arith;
      ranks = i.ranks;
      met = i.met;
      count = omega arith;
      grows = λ id h. subst (λ (x : List ℕ). Contains x id) (sym e) (Contains-append_left order (get_or met (k - 1) 0 ∷ []) id (i.grows id h));
      sound = λ id h. from_one c.args.self.now.order.items met order k (omega arith) most i.sound id (subst (λ (x : List ℕ). Contains x id) e h);
      settling = λ world rests s. subst (λ (x : List ℕ). Settling world x met c.args.start (k - 1)) (sym e) (settle_next world order met c.args.start k rests down most (i.settling world rests s));
    }

pub returns-clause-sound : goal.returns-clause-sound
returns-clause-sound c = λ id h.
    let i = c.loop-k.invariant in
    let w = i.within in
    let e : c.loop-k.k ≡ c.args.start = omega (arith, c.loop-k-test.false) in
    subst (λ n. Contains c.args.self.now.order.items id ⊎ IsFrom c.args.self.now.met.items n id) e (i.sound id h)
