-- Elements that are near at the distance of their rule have boxes that are close, and close boxes have one owner.
use Rattle.std.proofs.Common.{◌≡◌, ℕ, ◌+◌, ◌<◌, ◌≤◌, leb, ℤ, pos, negsuc, ◌+ℤ◌, ◌-ℤ◌, ◌≤ℤ◌, Bool, true, false, cond, List, [], ◌∷◌, length, All, Option, Some, None, subst, arith}
use Rattle.std.proofs.lemmas.Int.{ints}
use Rattle.std.proofs.lemmas.Bool.{and_parts, leb-true}
use Rattle.std.proofs.lemmas.List.Elements.{All-head, All-tail}
use borrow.Author.Differences.{up}
use Rattle.bim_model.specs.declared.geometry.Triangle.{Triangle}
use Rattle.bim_model.specs.declared.geometry.Extent.{Extent}
use Rattle.bim_model.specs.declared.element.Element.{Element}
use Rattle.bim_model.specs.declared.rules.Rule.{Rule}
use Rattle.bim_model.specs.declared.rules.RuleKind.{RuleKind}
use Rattle.bim_model.specs.declared.rules.RuleKind.TheVariants.{Clash, Pierce, Ignore}
use Rattle.bim_model.specs.declared.rules.Found.{Found}
use Rattle.bim_model.specs.Distances.{IsDistance, in_grid_numbers}
use Rattle.bim_model.specs.Rules.{fits, decided, rule_from, rule_of, distance_of, IsRule, IsRules}
use Rattle.bim_model.specs.Boxes.{IsExtentOf}
use Rattle.bim_model.specs.Gaps.{gap, is_within}
use Rattle.clearance.specs.Near.{ListsNear, ElementsNear}
use Rattle.clearance.proofs.Surfaces.{elements_within}
use Rattle.bucket_grid.specs.declared.cell.TheConstants.{GROWTH}
use Rattle.bucket_grid.specs.Cells.{owner_of}
use Rattle.bucket_grid.specs.ElementPlaces.{IsInOrder}
use Rattle.bucket_grid.specs.GridLaws.{HaveOneOwner}
use Rattle.bucket_grid.proofs.Owners.{Close, CloseBoxes, owner_is_least}
use Rattle.bucket_grid.proofs.OneOwner.{one_owner}
use Rattle.bucket_grid.proofs.Reach.{in_order}

-- ---- the distance of a rule that decides is at most 1,000
abbrev distance_in : Option Found → ℕ
distance_in None = 0
distance_in (Some f) = f.distance

decided_small : (kind : RuleKind) (n : ℕ) (f : Found) → IsDistance (distance_of kind) → decided kind n ≡ Some f → IsDistance f.distance
decided_small (Clash distance) n f s e = let P : Option Found → Type 0 = λ o. IsDistance (distance_in o) in subst P e s
decided_small Pierce n f s e = let P : Option Found → Type 0 = λ o. IsDistance (distance_in o) in subst P e s
decided_small Ignore n f s e = cc

chosen_small : (b : Bool) (x y : Option Found) (f : Found) → cond b x y ≡ Some f → (x ≡ Some f → IsDistance f.distance) → (y ≡ Some f → IsDistance f.distance) → IsDistance f.distance
chosen_small true x y f e g h = g e
chosen_small false x y f e g h = h e

rule_small : (rules : List Rule) (n : ℕ) (a b : Element) (same : Bool) (f : Found) → All IsRule rules → rule_from n rules a b same ≡ Some f → IsDistance f.distance
rule_small [] n a b same f s e = cc
rule_small (r ∷ rules) n a b same f s e =
    chosen_small (fits r a b same) (decided r.kind n) (rule_from (n + 1) rules a b same) f e
    (λ g. decided_small r.kind n f (All-head IsRule r rules s).near g)
    (λ g. rule_small rules (n + 1) a b same f (All-tail IsRule r rules s) g)

-- that is at most a metre
in_numbers : (d : ℕ) → IsDistance d → pos (in_grid_numbers d) ≤ℤ GROWTH
in_numbers d h = omega (arith, ints)

-- ---- boxes with a gap of at most a metre are close
up_at_most : (z : ℤ) (d : ℕ) → up z ≤ d → z ≤ℤ pos d
up_at_most (pos n) d h = omega (arith, ints)
up_at_most (negsuc n) d h = omega (arith, ints)

apart : (a b g : ℤ) (d : ℕ) → (a -ℤ b) ≤ℤ pos d → pos d ≤ℤ g → a ≤ℤ (b +ℤ g)
apart a b g d h k = omega (arith, ints)

-- the first span against the second, whose gap is that of the second against the first
close_on : (l h m n : ℤ) (d : ℕ) → leb (gap m n l h) d ≡ true → pos d ≤ℤ GROWTH → l ≤ℤ h → m ≤ℤ n → Close l h m n
close_on l h m n d e s f g =
    let t : gap m n l h ≤ d = leb-true (gap m n l h) d e in
    let under : up (m -ℤ h) ≤ d = omega (arith, t) in
    let over : up (l -ℤ n) ≤ d = omega (arith, t) in
    record {
      is_span = f;
      is_other_span = g;
      over = apart l n GROWTH d (up_at_most (l -ℤ n) d over) s;
      under = apart m h GROWTH d (up_at_most (m -ℤ h) d under) s;
    }

close : (a b : Extent) (d : ℕ) → IsInOrder a → IsInOrder b → pos d ≤ℤ GROWTH → is_within a d b ≡ true → CloseBoxes a b
close a b d u v s w =
    let p = and_parts _ _ w in
    let q = and_parts _ _ p.0 in
    record {
      x = close_on a.low.x a.high.x b.low.x b.high.x d q.0 s u.x v.x;
      y = close_on a.low.y a.high.y b.low.y b.high.y d q.1 s u.y v.y;
      z = close_on a.low.z a.high.z b.low.z b.high.z d p.1 s u.z v.z;
    }

pub close_boxes : (a b : Extent) (d : ℕ) → IsInOrder a → IsInOrder b → pos d ≤ℤ GROWTH → is_within a d b ≡ true → HaveOneOwner a b
close_boxes a b d u v s w =
    let o = owner_is_least a b (close a b d u v s w) in
    record { owner = owner_of a b; is = o; only = λ c i. one_owner a b c (owner_of a b) i o }

-- ---- elements that are near
some : (ps qs : List Triangle) (d : ℕ) → ListsNear ps qs d → (0 < length ps) × (0 < length qs)
some ps qs d near = (omega (arith, near.2), omega (arith, near.4.2))

have_some : (a b : Element) (d : ℕ) → ElementsNear a b d → (0 < length a.triangles) × (0 < length b.triangles)
unfolding ElementsNear
have_some a b d near = some a.triangles b.triangles d near

pub near_elements : (rules : List Rule) (a b : Element) (same : Bool) (found : Found) (k m : Extent) → IsRules rules → rule_of rules a b same ≡ Some found
    → ElementsNear a b (in_grid_numbers found.distance) → IsExtentOf a.triangles k → IsExtentOf b.triangles m → HaveOneOwner k m
near_elements rules a b same found k m h e near f g =
    let d = in_grid_numbers found.distance in
    let n = have_some a b d near in
    close_boxes k m d (in_order a.triangles k n.0 f) (in_order b.triangles m n.1 g) (in_numbers found.distance (rule_small rules 0 a b same found h.each e)) (elements_within a b k m d f g near)
