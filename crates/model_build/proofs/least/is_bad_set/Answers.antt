use Rattle.std.proofs.Common.{◌≡◌, ℕ, Bool, true, false, List, Result, Ok, Err, IfOk, Some, subst, sym, ◌∙◌}
use Rattle.std.specs.Bool.{MatchBool}
use Rattle.p21_values.specs.declared.value.Instance.{Instance}
use Rattle.p21_values.specs.InstanceLookup.{look}
use Rattle.faceset.specs.FaceSets.{is_set, HasBadIndex}
use Rattle.model_build.specs.FaultyInstances.{IsBadSet}
use Rattle.model_build.proofs.least.is_bad_set.Goals as goal

told : {E : Type 0} (world : List Instance) (id : ℕ) (set : Instance) (r : Result Bool E) → Some set ≡ look world id → is_set set ≡ true → IfOk r (λ b. MatchBool b (HasBadIndex world set) (HasBadIndex world set → ⊥))
    → IfOk r (λ b. MatchBool b (IsBadSet world id) (IsBadSet world id → ⊥))
told world id set (Ok true) e is h = record { instance = set; found = sym e; holds = (is, h) }
told world id set (Ok false) e is h = λ f. h (let same : f.instance ≡ set = (let g = f.found in cc) in subst (HasBadIndex world) same f.holds.1)
told world id set (Err x) e is h = h

pub returns-clause-bad : goal.returns-clause-bad
returns-clause-bad c = told c.args.exchange.now c.args.id c.in-Some.set c.has_bad_index.result c.in-Some.ensures (sym c.is_set.ensures ∙ c.if-not-is_set.false) c.has_bad_index.ensures.bad
