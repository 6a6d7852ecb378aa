use Rattle.std.proofs.Common.{◌≡◌, ℕ, Some, refl, sym, ◌∙◌}
use Rattle.std.proofs.lemmas.Option.{same_Some}
use Rattle.p21_values.specs.declared.value.Value21.{Value21}
use Rattle.p21_values.specs.Values.{reference_of}
use Rattle.p21_values.proofs.Turns.{turn, spent}
use Rattle.spatial_tree.proofs.Adding.{one_added, nothing_added, then_given, all_added}
use Rattle.spatial_tree.proofs.relations.add_items.Goals as goal

pub loop-item-preserved-in-Continue-1 : goal.loop-item-preserved-in-Continue-1
loop-item-preserved-in-Continue-1 c =
    let At : Value21 → ℕ → ℕ → Type 0 = λ v o u. (reference_of v ≡ Some o) × (u ≡ c.args.above) in
    let at = turn c.args.items.now c.loop-item.yielded (cc) _ c.loop-item.yielded_by _ c.in-Some.is c.next.ensures.steps in
    let o = c.in-Some-reference.object in
    let r : reference_of c.in-Some.item ≡ Some o = sym c.reference.ensures ∙ c.in-Some-reference.is in
    then_given At c.args.items.now c.loop-item.yielded c.in-Some.item c.args.links.now.items c.loop-item.links.items c.push.new.self.items at c.loop-item.invariant
    (one_added (At c.in-Some.item) c.loop-item.links.items c.push.new.self.items o c.args.above c.in_ok-push.ensures.items (r, refl) (λ a b h. (same_Some o a (sym r ∙ h.0), sym h.1)))

pub loop-item-preserved : goal.loop-item-preserved
loop-item-preserved c =
    let At : Value21 → ℕ → ℕ → Type 0 = λ v o u. (reference_of v ≡ Some o) × (u ≡ c.args.above) in
    let at = turn c.args.items.now c.loop-item.yielded (cc) _ c.loop-item.yielded_by _ c.in-Some.is c.next.ensures.steps in
    then_given At c.args.items.now c.loop-item.yielded c.in-Some.item c.args.links.now.items c.loop-item.links.items c.loop-item.links.items at c.loop-item.invariant
    (nothing_added (At c.in-Some.item) c.loop-item.links.items (λ o u h. c.in_default.not-Some o (c.reference.ensures ∙ h.0)))

pub returns : goal.returns
returns c =
    let At : Value21 → ℕ → ℕ → Type 0 = λ v o u. (reference_of v ≡ Some o) × (u ≡ c.args.above) in
    all_added At c.args.items.now _ c.args.links.now.items c.loop-item.links.items
    (spent c.args.items.now c.loop-item.yielded (cc) _ c.loop-item.yielded_by _ c.in-None.is c.next.ensures.steps) c.loop-item.invariant
