-- What is known of two elements that are tested.
use Rattle.std.proofs.Common.{◌≡◌, ℕ, ◌+◌, ◌≤◌, ℤ, pos, ◌-ℤ◌, ◌≤ℤ◌, unsigned_abs, Bool, true, false, cond, List, [], ◌∷◌, All, Option, Some, None, subst, arith}
use Rattle.std.proofs.lemmas.Int.{ints}
use Rattle.std.proofs.lemmas.List.Elements.{All-head, All-tail, All-nil, All-cons}
use Rattle.bim_model.specs.declared.geometry.Point.{Point}
use Rattle.bim_model.specs.declared.geometry.Triangle.{Triangle}
use Rattle.bim_model.specs.declared.element.Element.{Element}
use Rattle.bim_model.specs.declared.rules.Rule.{Rule}
use Rattle.bim_model.specs.declared.rules.RuleKind.{RuleKind}
use Rattle.bim_model.specs.declared.rules.RuleKind.TheVariants.{Clash, Pierce, Ignore}
use Rattle.bim_model.specs.declared.rules.Found.{Found}
use Rattle.bim_model.specs.Boxes.{corners_of}
use Rattle.bim_model.specs.Models.{farthest, IsInReach, IsModelled}
use Rattle.bim_model.specs.Points.{grid_limit, IsGridPoint, IsInGrid}
use Rattle.bim_model.specs.Rules.{fits, decided, rule_from, rule_of, distance_of, greatest_distance}
use Rattle.clearance.specs.Near.{ElementInGrid}

coordinate : (n : ℤ) → (pos 0 -ℤ farthest) ≤ℤ n → n ≤ℤ farthest → unsigned_abs n ≤ grid_limit
coordinate n a b = omega (arith, ints)

point : (p : Point) → IsInReach p → IsGridPoint p
point p h = record { x_in = coordinate p.x h.x_low h.x_high; y_in = coordinate p.y h.y_low h.y_high; z_in = coordinate p.z h.z_low h.z_high }

triangles : (ts : List Triangle) → All IsInReach (corners_of ts) → All IsInGrid ts
triangles [] h = All-nil IsInGrid
triangles (t ∷ ts) h =
    let b = All-tail IsInReach t.a (t.b ∷ t.c ∷ corners_of ts) h in
    let c = All-tail IsInReach t.b (t.c ∷ corners_of ts) b in
    All-cons IsInGrid t ts
    (record { a_in = point t.a (All-head IsInReach t.a (t.b ∷ t.c ∷ corners_of ts) h); b_in = point t.b (All-head IsInReach t.b (t.c ∷ corners_of ts) b); c_in = point t.c (All-head IsInReach t.c (corners_of ts) c) })
    (triangles ts (All-tail IsInReach t.c (corners_of ts) c))

pub in_grid : (e : Element) → IsModelled e → ElementInGrid e
unfolding ElementInGrid
in_grid e m = triangles e.triangles m.near

abbrev distance_in : Option Found → ℕ
distance_in None = 0
distance_in (Some f) = f.distance

decided_at_most : (kind : RuleKind) (n m : ℕ) (f : Found) → distance_of kind ≤ m → decided kind n ≡ Some f → f.distance ≤ m
decided_at_most (Clash distance) n m f s e = let P : Option Found → Type 0 = λ o. distance_in o ≤ m in subst P e s
decided_at_most Pierce n m f s e = let P : Option Found → Type 0 = λ o. distance_in o ≤ m in subst P e s
decided_at_most Ignore n m f s e = cc

chosen : (b : Bool) (x y : Option Found) (f : Found) (m : ℕ) → cond b x y ≡ Some f → (x ≡ Some f → f.distance ≤ m) → (y ≡ Some f → f.distance ≤ m) → f.distance ≤ m
chosen true x y f m e g h = g e
chosen false x y f m e g h = h e

-- no rule's distance is above the greatest
rule_at_most : (rules : List Rule) (n : ℕ) (a b : Element) (same : Bool) (f : Found) → rule_from n rules a b same ≡ Some f → f.distance ≤ greatest_distance rules
rule_at_most [] n a b same f e = cc
rule_at_most (r ∷ rules) n a b same f e =
    chosen (fits r a b same) (decided r.kind n) (rule_from (n + 1) rules a b same) f (greatest_distance (r ∷ rules)) e
    (λ g. decided_at_most r.kind n (greatest_distance (r ∷ rules)) f (omega arith) g)
    (λ g. let t = rule_at_most rules (n + 1) a b same f g in omega (arith, t))

pub at_most : (rules : List Rule) (a b : Element) (same : Bool) (f : Found) → rule_of rules a b same ≡ Some f → f.distance ≤ greatest_distance rules
at_most rules a b same f e = rule_at_most rules 0 a b same f e
