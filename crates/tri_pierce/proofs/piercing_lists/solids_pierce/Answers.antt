use Rattle.std.proofs.Common.{◌≡◌, ◌↔◌, List, All, sym, subst}
use Rattle.bim_model.specs.declared.geometry.Triangle.{Triangle}
use Rattle.bim_model.specs.Points.{IsInGrid}
use Rattle.clearance.specs.Near.{ElementInGrid}
use Rattle.tri_pierce.specs.Piercing.{ListsPierce, ElementsPierce}
use Rattle.tri_pierce.proofs.DecidedSigns.{elements_told}
use Rattle.tri_pierce.proofs.piercing_lists.solids_pierce.Goals as goal

pub lists_pierce-requires-clause-ps_in : goal.lists_pierce-requires-clause-ps_in
unfolding ElementInGrid
lists_pierce-requires-clause-ps_in g c = subst (All IsInGrid) (sym c.as_slice.ensures) c.requires.a_in

pub lists_pierce-requires-clause-qs_in : goal.lists_pierce-requires-clause-qs_in
unfolding ElementInGrid
lists_pierce-requires-clause-qs_in g c = subst (All IsInGrid) (sym c.as_slice-2.ensures) c.requires.b_in

along : {P : Type 0} (ps qs ts ss : List Triangle) → ps ≡ ts → qs ≡ ss → P ↔ ListsPierce ps qs → P ↔ ListsPierce ts ss
along {P} ps qs ts ss e f q = subst (λ (x : List Triangle). P ↔ ListsPierce ts x) f (subst (λ (x : List Triangle). P ↔ ListsPierce x qs) e q)

pub returns-clause-pierce : goal.returns-clause-pierce
unfolding ElementsPierce
returns-clause-pierce g c = along _ _ _ _ c.as_slice.ensures c.as_slice-2.ensures c.lists_pierce.ensures.pierce

pub returns-clause-value : goal.returns-clause-value
unfolding ElementsPierce
returns-clause-value g c = elements_told _ c.args.a.now c.args.b.now (along _ _ _ _ c.as_slice.ensures c.as_slice-2.ensures c.lists_pierce.ensures.pierce)
