-- What of an element decides whether it clashes, beside its key.
use Rattle.std.specs.Prelude.{◌≡◌}
use Rattle.bim_model.specs.declared.element.Element.{Element}

-- two elements of one class, storey and surface
pub record IsLike (a b : Element) : Type 0 where
  pub class : a.class ≡ b.class
  pub storey : a.storey ≡ b.storey
  pub triangles : a.triangles ≡ b.triangles
