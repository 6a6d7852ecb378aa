-- What a walk found of a file makes the file's model.
use Rattle.std.proofs.Common.{◌≡◌, List, Option, Some, Result, Ok, Err, sym, subst}
use Rattle.std.specs.List.Sorted.{IsPermutation}
use Rattle.std.specs.Option.{IfSome}
use Rattle.std.specs.Result.{IfOk}
use Rattle.std.specs.declared.alloc.AllocError.{AllocError}
use Rattle.bim_model.specs.declared.element.Element.{Element}
use Rattle.bim_model.specs.declared.upload.Mode.{Mode}
use Rattle.bim_model.specs.Models.{IsModel}
use Rattle.p21_values.specs.declared.value.Instance.{Instance}
use Rattle.model_walk.specs.Walked.{IsWalked}
use Rattle.model_build.specs.StageFaults.{IsClear}
use Rattle.model_walk.specs.Checked.{Differ}
use Rattle.model_build.specs.Order.{Rise}
use Rattle.model_build.specs.Profile.{IsModelOf}
use Rattle.model_build.specs.Stages.{FileFault}
use Rattle.model_build.proofs.WalkClear.{walk_clear, walk_model, walk_sound}

-- the elements that were taken out are those that were found
taken : (world : List Instance) (mode : Mode) (walked made : List Element) → made ≡ walked → IsWalked world mode walked → IsWalked world mode made
taken world mode walked made e w = subst (IsWalked world mode) (sym e) w

pub model_sound : (world : List Instance) (mode : Mode) (walked made elements : List Element) → made ≡ walked → IsWalked world mode walked → IsPermutation made elements → (Differ made → Rise elements) → IsModel elements
model_sound world mode walked made elements e w order rise = walk_sound world mode made elements (taken world mode walked made e w) order rise

pub model_told : (world : List Instance) (mode : Mode) (walked made elements : List Element) (r : Result (List Element) AllocError) → made ≡ walked → IsWalked world mode walked → IsPermutation made elements → (Differ made → Rise elements)
    → IfOk r (λ model. model ≡ elements) → IfOk r (λ model. IsClear (FileFault world mode) × IsModelOf world mode model)
model_told world mode walked made elements (Err error) e w order rise h = h
model_told world mode walked made elements (Ok model) e w order rise h =
    (walk_clear world mode walked w, subst (IsModelOf world mode) (sym h) (walk_model world mode made elements (taken world mode walked made e w) order rise))

pub found_walked : (world : List Instance) (mode : Mode) (found : Option (List Element)) (walked : List Element) → found ≡ Some walked → IfSome found (IsWalked world mode) → IsWalked world mode walked
found_walked world mode found walked e h = subst (λ (o : Option (List Element)). IfSome o (IsWalked world mode)) e h
