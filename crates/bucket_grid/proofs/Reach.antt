-- The boxes of a model's elements, and that they lie in reach.
use Rattle.std.proofs.Common.{◌≡◌, ℕ, zero, ◌<◌, ◌≤◌, ℤ, pos, ◌-ℤ◌, ◌≤ℤ◌, unsigned_abs, List, [], ◌∷◌, ◌++◌, length, get_or, map, All, sym, subst, arith, ◌∙◌}
use Rattle.std.specs.List.{Contains, AllZip}
use Rattle.std.proofs.lemmas.Int.{ints}
use Rattle.std.proofs.lemmas.List.{get_or-map, length-map, get_or_default}
use Rattle.std.proofs.lemmas.List.Elements.{All-append}
use Rattle.bim_model.specs.declared.geometry.Point.{Point}
use Rattle.bim_model.specs.declared.geometry.Triangle.{Triangle}
use Rattle.bim_model.specs.declared.geometry.Extent.{Extent}
use Rattle.bim_model.specs.declared.element.Element.{Element}
use Rattle.bim_model.specs.declared.named_model.NamedModel.{NamedModel}
use Rattle.bim_model.specs.Boxes.{corners_of, IsExtentOf}
use Rattle.bim_model.specs.Models.{farthest, IsInReach, IsModelled, IsModel}
use Rattle.bim_model.specs.Models as boxes
use Rattle.bim_model.specs.Points.{grid_limit}
use Rattle.bim_model.specs.Keys.{Subject, in_model}
use Rattle.bucket_grid.specs.Subjects.{nobody, IsBoxOf}
use Rattle.bucket_grid.specs.ElementPlaces.{IsInOrder, IsGridBox}
use Rattle.bucket_grid.proofs.Zips.{zip_append, zip_at, zip_length}

in_reach : (n : ℤ) → (pos 0 -ℤ farthest) ≤ℤ n → n ≤ℤ farthest → unsigned_abs n ≤ grid_limit
in_reach n a b = omega (arith, ints)

-- a coordinate that a corner has
reached : (f : Point → ℤ) (ps : List Point) (n : ℤ) → ((k : ℕ) (d : Point) → k < length ps → unsigned_abs (f (get_or ps k d)) ≤ grid_limit) → Contains (map f ps) n → unsigned_abs n ≤ grid_limit
reached f ps n h c =
    let d : Point = record { x = pos 0; y = pos 0; z = pos 0 } in
    let l : c.0 < length ps = omega (arith, c.1, length-map ps f) in
    let e : f (get_or ps c.0 d) ≡ n = sym (get_or-map f ps c.0 d n l) ∙ c.2 in
    subst (λ z. unsigned_abs z ≤ grid_limit) e (h c.0 d l)

through : (a b c : ℤ) → a ≤ℤ b → b ≤ℤ c → a ≤ℤ c
through a b c x y = omega (arith, ints)

-- a box isn't turned round
ordered : (f : Point → ℤ) (ts : List Triangle) (low high : ℤ) → 0 < length ts → All (λ n. low ≤ℤ n) (map f (corners_of ts)) → All (λ n. n ≤ℤ high) (map f (corners_of ts)) → low ≤ℤ high
ordered f [] low high h a b = absurd (omega arith)
ordered f (t ∷ ts) low high h a b = through low (f t.a) high (a zero low (omega arith)) (b zero high (omega arith))

pub in_order : (ts : List Triangle) (k : Extent) → 0 < length ts → IsExtentOf ts k → IsInOrder k
in_order ts k some b = record {
  x = ordered (λ (p : Point). p.x) ts k.low.x k.high.x some b.low_x.bound b.high_x.bound;
  y = ordered (λ (p : Point). p.y) ts k.low.y k.high.y some b.low_y.bound b.high_y.bound;
  z = ordered (λ (p : Point). p.z) ts k.low.z k.high.z some b.low_z.bound b.high_z.bound;
}

near_box : (e : Element) (k : Extent) → IsModelled e → IsExtentOf e.triangles k → IsGridBox k
near_box e k m b =
    let ps = corners_of e.triangles in
    let x : (i : ℕ) (d : Point) → i < length ps → unsigned_abs (get_or ps i d).x ≤ grid_limit = λ i d l. in_reach _ (m.near i d l).x_low (m.near i d l).x_high in
    let y : (i : ℕ) (d : Point) → i < length ps → unsigned_abs (get_or ps i d).y ≤ grid_limit = λ i d l. in_reach _ (m.near i d l).y_low (m.near i d l).y_high in
    let z : (i : ℕ) (d : Point) → i < length ps → unsigned_abs (get_or ps i d).z ≤ grid_limit = λ i d l. in_reach _ (m.near i d l).z_low (m.near i d l).z_high in
    record {
      low = record { x_in = reached (λ (p : Point). p.x) ps k.low.x x b.low_x.reached; y_in = reached (λ (p : Point). p.y) ps k.low.y y b.low_y.reached; z_in = reached (λ (p : Point). p.z) ps k.low.z z b.low_z.reached };
      order = in_order e.triangles k m.some b;
      high = record { x_in = reached (λ (p : Point). p.x) ps k.high.x x b.high_x.reached; y_in = reached (λ (p : Point). p.y) ps k.high.y y b.high_y.reached; z_in = reached (λ (p : Point). p.z) ps k.high.z z b.high_z.reached };
    }

near_boxes : (es : List Element) (xs : List Extent) → IsModel es → boxes.AreBoxes es xs → All IsGridBox xs
near_boxes es xs m h k d l =
    let n : k < length es = omega (arith, zip_length boxes.IsBoxOf es xs h, l) in
    near_box (get_or es k nobody.element) (get_or xs k d) (m.modelled k nobody.element n) (zip_at boxes.IsBoxOf es xs k nobody.element d h n)

boxes_in : (n : ℕ) (name : List ℕ) (es : List Element) (xs : List Extent) → boxes.AreBoxes es xs → AllZip IsBoxOf (in_model n name es) xs
boxes_in n name [] [] h = tt
boxes_in n name [] (x ∷ xs) h = absurd h
boxes_in n name (e ∷ es) [] h = absurd h
boxes_in n name (e ∷ es) (x ∷ xs) h = (h.0, boxes_in n name es xs h.1)

pub boxes_added : (models : List NamedModel) (n : ℕ) (d named : NamedModel) (s : List Subject) (xs old new : List Extent) → n < length models → named ≡ get_or models n named → boxes.AreBoxes named.model xs
    → new ≡ old ++ xs → AllZip IsBoxOf s old → AllZip IsBoxOf (s ++ in_model n (get_or models n d).name (get_or models n d).model) new
boxes_added models n d named s xs old new h is are made before =
    let m : named ≡ get_or models n d = is ∙ get_or_default models n named d h in
    subst (λ (x : NamedModel). AllZip IsBoxOf (s ++ in_model n x.name x.model) new) m
    (subst (λ t. AllZip IsBoxOf (s ++ in_model n named.name named.model) t) (sym made) (zip_append IsBoxOf s old (in_model n named.name named.model) xs before (boxes_in n named.name named.model xs are)))

pub near_added : (es : List Element) (xs old new : List Extent) → IsModel es → boxes.AreBoxes es xs → new ≡ old ++ xs → All IsGridBox old → All IsGridBox new
near_added es xs old new m are made before = subst (All IsGridBox) (sym made) (All-append IsGridBox old xs before (near_boxes es xs m are))
