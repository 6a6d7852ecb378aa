-- Numbers that are read have a length on the grid, or a fault; and so have points and lists of them.
use Rattle.std.proofs.Common.{ℕ, ℤ, ◌<◌, ◌≤◌, ◌⊎◌, inl, inr, List, [], ◌∷◌, arith}
use Rattle.std.specs.Prelude.{unsigned_abs}
use Rattle.std.specs.List.{All}
use Rattle.std.proofs.lemmas.List.Elements.{All-head, All-tail}
use Rattle.bim_model.specs.declared.upload.Mode.{Mode}
use Rattle.bim_model.specs.declared.geometry.Point.{Point}
use Rattle.p21_values.specs.declared.value.Value21.{Value21}
use Rattle.ifc_units.specs.declared.scale.Scale.{Scale}
use Rattle.ifc_units.specs.declared.length_error.GridFault.{GridFault}
use Rattle.ifc_units.specs.declared.length_error.GridFault.TheVariants.{OffGrid, TooFar}
use Rattle.ifc_units.specs.Lengths.{reach, IsLength, LengthRefused, IsPoint, PointRefused, ArePoints, PointsRefused}
use Rattle.model_build.proofs.AttributesFormed.{SpellsNumber}
use Rattle.model_build.proofs.UsedFormed.{ThreeOf}

near_or_far : (a b : ℕ) → (a ≤ b) ⊎ (b < a)
near_or_far a b = grind arith

pub readable_number : (scale : Scale) (mode : Mode) (v : Value21) → SpellsNumber v → ((g : ℤ) → IsLength scale mode v g → ⊥) → ((f : GridFault) → LengthRefused scale mode v f → ⊥) → ⊥
readable_number scale mode v h none unrefused =
    unrefused OffGrid (record {
      bytes = h.bytes;
      number = h.number;
      decimal = h.reads.0;
      read = h.reads.1;
      refused = λ g grid. elim (near_or_far (unsigned_abs g) reach) [
        | inl near ↦ none g (record { bytes = h.bytes; number = h.number; decimal = h.reads.0; read = h.reads.1; grid = grid; near = near })
        | inr far ↦ unrefused TooFar (record { bytes = h.bytes; number = h.number; decimal = h.reads.0; read = h.reads.1; refused = (g, grid, far) })
      ];
    })

pub readable_point : (scale : Scale) (mode : Mode) (v : Value21) → ThreeOf SpellsNumber v → ((p : Point) → IsPoint scale mode v p → ⊥) → ((f : GridFault) → PointRefused scale mode v f → ⊥) → ⊥
readable_point scale mode v h none unrefused =
    readable_number scale mode h.a h.first
    (λ x is_x. readable_number scale mode h.b h.second
    (λ y is_y. readable_number scale mode h.c h.third
    (λ z is_z. none (record { x = x; y = y; z = z }) (record { a = h.a; b = h.b; c = h.c; three = h.three; x = is_x; y = is_y; z = is_z }))
    (λ f r. unrefused f (record { a = h.a; b = h.b; c = h.c; three = h.three; first = inr ((x, is_x), inr ((y, is_y), inl r)) })))
    (λ f r. unrefused f (record { a = h.a; b = h.b; c = h.c; three = h.three; first = inr ((x, is_x), inl r) })))
    (λ f r. unrefused f (record { a = h.a; b = h.b; c = h.c; three = h.three; first = inl r }))

pub readable_points : (scale : Scale) (mode : Mode) (vs : List Value21) → All (ThreeOf SpellsNumber) vs → ((ps : List Point) → ArePoints scale mode vs ps → ⊥) → ((f : GridFault) → PointsRefused scale mode vs f → ⊥) → ⊥
readable_points scale mode [] h none unrefused = none [] tt
readable_points scale mode (v ∷ vs) h none unrefused =
    readable_point scale mode v (All-head (ThreeOf SpellsNumber) v vs h)
    (λ p is. readable_points scale mode vs (All-tail (ThreeOf SpellsNumber) v vs h) (λ ps are. none (p ∷ ps) (is, are)) (λ f r. unrefused f (inr ((p, is), r))))
    (λ f r. unrefused f (inl r))
