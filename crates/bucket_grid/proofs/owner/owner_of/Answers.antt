use Rattle.std.proofs.Common.{◌≡◌, ℤ, ap₂, ◌∙◌, rules}
use Rattle.std.specs.Int.{w32, int_max}
use Rattle.std.proofs.lemmas.Int.{to_z-of_z}
use mir.Val.{SFits, to_z, of_z}
use Rattle.bucket_grid.proofs.owner.owner_of.Goals as goal

read : (r f g a b : ℤ) → SFits w32 r → SFits w32 f → SFits w32 g → r ≡ int_max (to_z w32 (of_z w32 f)) (to_z w32 (of_z w32 g)) → f ≡ a → g ≡ b → to_z w32 (of_z w32 r) ≡ int_max a b
read r f g a b x y z e h k = to_z-of_z w32 r x ∙ e ∙ ap₂ int_max (to_z-of_z w32 f y ∙ h) (to_z-of_z w32 g z ∙ k)

pub returns-clause-x : goal.returns-clause-x
returns-clause-x c = read c.later.result c.first_on.result c.first_on-2.result _ _ (search rules) (search rules) (search rules) c.later.ensures c.first_on.ensures.is c.first_on-2.ensures.is

pub returns-clause-y : goal.returns-clause-y
returns-clause-y c = read c.later-2.result c.first_on-3.result c.first_on-4.result _ _ (search rules) (search rules) (search rules) c.later-2.ensures c.first_on-3.ensures.is c.first_on-4.ensures.is

pub returns-clause-z : goal.returns-clause-z
returns-clause-z c = read c.later-3.result c.first_on-5.result c.first_on-6.result _ _ (search rules) (search rules) (search rules) c.later-3.ensures c.first_on-5.ensures.is c.first_on-6.ensures.is
