use Rattle.std.proofs.Common.{◌≡◌, ◌==◌, ◌&&◌, ℕ, List, [], ◌∷◌, refl, ap, ◌∙◌}
use Rattle.std.specs.List as lists
use Rattle.http_frame.specs.Heads.{starts_with}
use Rattle.http_frame.proofs.head.starts_with.Goals as goal

same : (bytes text : List ℕ) → lists.starts_with (λ a b. a == b) bytes text ≡ starts_with text bytes
same bytes [] = refl
same [] (a ∷ text) = refl
same (b ∷ bytes) (a ∷ text) = ap (λ r. (a == b) && r) (same bytes text)

pub returns : goal.returns
returns c = c.starts_with.ensures.value ∙ same c.args.bytes.now c.args.text.now
