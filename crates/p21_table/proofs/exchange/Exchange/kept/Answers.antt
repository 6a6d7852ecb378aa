use Rattle.std.proofs.Common.{◌≡◌, map}
use Rattle.std.specs.Coded.{codes}
use base.Stored.{Coded-set, coded_ℕ}
use mathlib.Core.Logic.{∥∥₁_elim}
use Rattle.p21_values.specs.declared.instance_head.Head.{Head}
use Rattle.p21_values.specs.declared.value.Instance.{Instance}
use Rattle.p21_values.proofs.Told.{same_ids}
use Rattle.p21_table.proofs.exchange.Exchange.kept.Goals as goal

pub returns-clause-ids : goal.returns-clause-ids
returns-clause-ids c =
    let i = c.self.inside in
    let e : map (λ (h : Head). h.id) i.heads.items ≡ map (λ (x : Instance). x.id) i.holds.0 =
    ∥∥₁_elim i.holds.1 (Coded-set (Prim.hlevel (codes, coded_ℕ)) _ _) (λ h. same_ids _ _ _ _ h) in
    let v = c.self.view_is in
    let w = c.as_slice-2.ensures.value in
    cc
