use Rattle.std.proofs.Common.{ℤ, ◌-ℤ◌, ◌+◌, unsigned_abs, ◌≤◌, ◌∙◌, ap}
use Rattle.exact_arith.proofs.Ranges.{Kept, value_kept_64, difference_kept, kept_64, in_64, bounded}
use Rattle.exact_arith.specs.Space.{Vector}
use Rattle.bim_model.specs.Points.{vector_of}
use Rattle.ear_cut.specs.Registers.{as_way}
use Rattle.ear_cut.proofs.Parts.{same_vector}
use Rattle.ear_cut.proofs.normals.step.Goals as goal

less : (a b : ℤ) → unsigned_abs a ≤ 8000000 → unsigned_abs b ≤ 8000000 → Kept (in_64 (in_64 a -ℤ in_64 b)) (a -ℤ b) (8000000 + 8000000)
less a b h k = kept_64 (difference_kept (value_kept_64 a h tt) (value_kept_64 b k tt)) tt

abbrev minus : Vector → Vector → Vector
minus a b = record { x = a.x -ℤ b.x; y = a.y -ℤ b.y; z = a.z -ℤ b.z }

pub invariant_of-result-clause-x_in : goal.invariant_of-result-clause-x_in
invariant_of-result-clause-x_in c = bounded (less c.from_origin-to.result.x c.from_origin-from.result.x c.from_origin-to.ensures.small.x_in c.from_origin-from.ensures.small.x_in)

pub invariant_of-result-clause-y_in : goal.invariant_of-result-clause-y_in
invariant_of-result-clause-y_in c = bounded (less c.from_origin-to.result.y c.from_origin-from.result.y c.from_origin-to.ensures.small.y_in c.from_origin-from.ensures.small.y_in)

pub invariant_of-result-clause-z_in : goal.invariant_of-result-clause-z_in
invariant_of-result-clause-z_in c = bounded (less c.from_origin-to.result.z c.from_origin-from.result.z c.from_origin-to.ensures.small.z_in c.from_origin-from.ensures.small.z_in)

pub returns : goal.returns
returns c =
    let p = c.from_origin-to.result in let q = c.from_origin-from.result in
    let h = c.from_origin-to.ensures.small in let k = c.from_origin-from.ensures.small in
    same_vector _ _ _ _ _ _ (less p.x q.x h.x_in k.x_in).same (less p.y q.y h.y_in k.y_in).same (less p.z q.z h.z_in k.z_in).same
    ∙ (ap (λ (v : Vector). minus v (as_way q)) c.from_origin-to.ensures.value ∙ ap (λ (v : Vector). minus (vector_of c.args.b) v) c.from_origin-from.ensures.value)
