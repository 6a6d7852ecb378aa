use Rattle.std.proofs.Common.{ℕ, ◌+◌, ◌*◌, ◌<◌, length}
use Rattle.std.specs.Prelude.{slice_index_or}
use Rattle.bim_model.specs.declared.geometry.Triangle.{Triangle}
use Rattle.clearance.specs.Near.{NearAny}
use Rattle.clearance.proofs.triangle_runs.row_near.Given as goal

abbrev pub invariant-loop-j : goal.invariant-loop-j
invariant-loop-j l = (i : ℕ) (p : Triangle) → i < l.j → 16 * i + l.fn.start < length l.ps → NearAny (slice_index_or l.ps (16 * i + l.fn.start) p) l.qs l.fn.d → ⊥
