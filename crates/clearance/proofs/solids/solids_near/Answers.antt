use Rattle.std.proofs.Common.{◌≡◌, ◌↔◌, List, All, ℕ, sym, subst}
use Rattle.bim_model.specs.declared.geometry.Triangle.{Triangle}
use Rattle.bim_model.specs.Points.{IsInGrid}
use Rattle.clearance.specs.Near.{ListsNear, ElementsNear, ElementInGrid}
use Rattle.clearance.proofs.Decided.{elements_told}
use Rattle.clearance.proofs.solids.solids_near.Goals as goal

pub lists_near-requires-clause-ps_in : goal.lists_near-requires-clause-ps_in
unfolding ElementInGrid
lists_near-requires-clause-ps_in g c = subst (All IsInGrid) (sym c.as_slice.ensures) c.requires.a_in

pub lists_near-requires-clause-qs_in : goal.lists_near-requires-clause-qs_in
unfolding ElementInGrid
lists_near-requires-clause-qs_in g c = subst (All IsInGrid) (sym c.as_slice-2.ensures) c.requires.b_in

along : {P : Type 0} (ps qs ts ss : List Triangle) (d : ℕ) → ps ≡ ts → qs ≡ ss → P ↔ ListsNear ps qs d → P ↔ ListsNear ts ss d
along {P} ps qs ts ss d e f q = subst (λ (x : List Triangle). P ↔ ListsNear ts x d) f (subst (λ (x : List Triangle). P ↔ ListsNear x qs d) e q)

pub returns-clause-near : goal.returns-clause-near
unfolding ElementsNear
returns-clause-near g c = along _ _ _ _ c.args.d c.as_slice.ensures c.as_slice-2.ensures c.lists_near.ensures.near

pub returns-clause-value : goal.returns-clause-value
unfolding ElementsNear
returns-clause-value g c = elements_told _ c.args.a.now c.args.b.now c.args.d (along _ _ _ _ c.args.d c.as_slice.ensures c.as_slice-2.ensures c.lists_near.ensures.near)
