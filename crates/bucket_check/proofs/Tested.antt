-- The rule that is found for two elements that are tested.
use Rattle.std.proofs.Common.{◌≡◌, ℕ, ℤ, List, [], ◌∷◌, ◌++◌, Bool, true, false, cond, Option, Some, None, sym, ap, ◌∙◌, append-nil}
use Rattle.std.specs.Str.{bytes_eq}
use Rattle.bim_model.specs.declared.geometry.Extent.{Extent}
use Rattle.bim_model.specs.declared.element.Element.{Element}
use Rattle.bim_model.specs.declared.rules.Rule.{Rule}
use Rattle.bim_model.specs.declared.rules.Found.{Found}
use Rattle.bim_model.specs.Rules.{rule_of}
use Rattle.bim_model.specs.Keys.{Subject}
use Rattle.box_lanes.specs.BoxPlaces.{box_at}
use Rattle.bucket_grid.specs.declared.cell.Cell.{Cell}
use Rattle.bucket_grid.specs.Cells.{owner_of}
use Rattle.bucket_check.specs.declared.pair.SetPair.{SetPair}
use Rattle.bucket_check.specs.Clashes.{meet_by, rule_between, clash_by, clash_of, pair_if}

abbrev cell : ℤ → ℤ → ℤ → Cell
cell x y z = record { x = x; y = y; z = z }

same_cell : (c d : Cell) → c.x ≡ d.x → c.y ≡ d.y → c.z ≡ d.z → c ≡ d
same_cell c d h k l = ap (λ t. cell t c.y c.z) h ∙ ap (λ t. cell d.x t c.z) k ∙ ap (λ t. cell d.x d.y t) l

-- the owner that was computed of two boxes that were read
pub owner_is : (boxes all : List Extent) (a b : ℕ) (k : Cell) → all ≡ boxes → k.x ≡ (owner_of (box_at all a) (box_at all b)).x → k.y ≡ (owner_of (box_at all a) (box_at all b)).y → k.z ≡ (owner_of (box_at all a) (box_at all b)).z
    → k ≡ owner_of (box_at boxes a) (box_at boxes b)
owner_is boxes all a b k e x y z = same_cell k (owner_of (box_at all a) (box_at all b)) x y z ∙ ap (λ l. owner_of (box_at l a) (box_at l b)) e

-- two elements that meet as a rule asks, or not
pub met_then : (f : Found) (x y : Element) (met : Bool) → met ≡ meet_by f.meeting f.distance x y → met ≡ true → Some f.rule ≡ clash_by (Some f) x y
met_then f x y met e h = ap (λ b. cond b (Some f.rule) None) (sym h ∙ e)

pub met_else : (f : Found) (x y : Element) (met : Bool) → met ≡ meet_by f.meeting f.distance x y → met ≡ false → None ≡ clash_by (Some f) x y
met_else f x y met e h = ap (λ b. cond b (Some f.rule) None) (sym h ∙ e)

-- the rule that was found of two elements of a version decides
pub decides : (rules : List Rule) (s t : Subject) (rs : List Rule) (x y : Element) (same : Bool) (o : Option Found) → rs ≡ rules → x ≡ s.element → y ≡ t.element → same ≡ bytes_eq s.name t.name → o ≡ rule_of rs x y same
    → clash_by o x y ≡ clash_of rules s t
decides rules s t rs x y same o e f g h i =
    ap (λ u. clash_by u x y)
    (i ∙ ap (λ u. rule_of u x y same) e ∙ ap (λ u. rule_of rules u y same) f ∙ ap (λ u. rule_of rules s.element u same) g
    ∙ ap (λ u. rule_of rules s.element t.element u) h)
    ∙ ap (λ u. clash_by (rule_between rules s t) u y) f ∙ ap (λ u. clash_by (rule_between rules s t) s.element u) g

-- the cell owns them, or not
pub owned : (t u : Bool) (o : Option ℕ) → t ≡ u → t ≡ true → o ≡ cond u o None
owned t u o e f = ap (λ b. cond b o None) (sym f ∙ e)

pub of_another : (t u : Bool) (o : Option ℕ) → t ≡ u → t ≡ false → None ≡ cond u o None
of_another t u o e f = ap (λ b. cond b o None) (sym f ∙ e)

-- a pair without a rule adds nothing
pub none_added : (pairs : List SetPair) (a b : ℕ) (o : Option ℕ) → None ≡ o → pairs ≡ pairs ++ pair_if a b o
none_added pairs a b o e = sym (append-nil pairs) ∙ ap (λ t. pairs ++ pair_if a b t) e

-- one with a rule is added
pub some_added : (old new : List SetPair) (a b r : ℕ) (o : Option ℕ) → new ≡ old ++ record { a = a; b = b; rule = r } ∷ [] → Some r ≡ o → new ≡ old ++ pair_if a b o
some_added old new a b r o e f = e ∙ ap (λ t. old ++ pair_if a b t) f
