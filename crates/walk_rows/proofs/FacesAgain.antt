-- A face that is listed again: what was read of it serves for each value that refers to it.
use Rattle.std.proofs.Common.{◌≡◌, ◌∙◌, sym, refl, subst, ap, ℕ, List, [], ◌∷◌, ◌++◌, length, drop, Option, Some, None, IfSome}
use Rattle.std.proofs.Math.Seq.{drop-append_seam}
use Rattle.p21_values.specs.declared.value.Value21.{Value21}
use Rattle.p21_values.specs.declared.value.Instance.{Instance}
use Rattle.p21_values.specs.Values.{reference_of}
use Rattle.p21_values.specs.Attributes.{led_to}
use Rattle.bim_model.specs.declared.geometry.Point.{Point}
use Rattle.bim_model.specs.declared.geometry.Triangle.{Triangle}
use Rattle.faceset.specs.FaceSets.{Joined}
use Rattle.walk_rows.specs.declared.triangle_rows.Row.{Row}
use Rattle.walk_rows.specs.Rows.{triangles_at}
use Rattle.walk_rows.specs.SetRows.{LeadsToFace}

-- two values with the same reference lead to the same
led_same : (world : List Instance) (v w : Value21) (id : ℕ) → reference_of v ≡ Some id → reference_of w ≡ Some id → led_to world (v ∷ []) ≡ led_to world (w ∷ [])
led_same world v w id e f = rw (e, f) refl

pub leads_again : (world : List Instance) (v w : Value21) (id : ℕ) → reference_of v ≡ Some id → reference_of w ≡ Some id → LeadsToFace world w → LeadsToFace world v
leads_again world v w id e f h = record { to = h.to; refers = e ∙ sym f ∙ h.refers; face = h.face; found = h.found; kind = h.kind }

-- what was added for one value stands at the end, for each value with its reference
pub kept_again : (Gives : Instance → List Triangle → Type 0) (world : List Instance) (points : List Point) (v w : Value21) (id : ℕ) (old more new : List Row)
    → new ≡ old ++ more → reference_of v ≡ Some id → reference_of w ≡ Some id → Joined Gives (led_to world (w ∷ [])) (triangles_at points more)
    → Joined Gives (led_to world (v ∷ [])) (triangles_at points (drop (length old) new))
kept_again Gives world points v w id old more new grown e f h =
    subst (λ (rs : List Row). Joined Gives (led_to world (v ∷ [])) (triangles_at points rs)) (sym (ap (drop (length old)) grown ∙ drop-append_seam old more))
    (subst (λ (faces : List Instance). Joined Gives faces (triangles_at points more)) (led_same world w v id f e) h)

-- what holds of each that may be a last one holds of the last one, if there is one
pub last_kept : {X : Type 0} {P : X → Type 0} (last : Option X) (Q : X → Type 0) → IfSome last P → ((x : X) → P x → Q x) → IfSome last Q
last_kept None Q p each = p
last_kept (Some x) Q p each = each x p
