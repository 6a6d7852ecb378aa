-- The axes of a frame in one direction: of the three one counts.
use Rattle.std.proofs.Common.{◌≡◌, false, ◌≢◌, ℕ, ◌<◌, ℤ, pos, ◌+ℤ◌, ◌*ℤ◌, [], ◌∷◌, refl, sym, ◌∙◌, arith}
use Rattle.std.proofs.lemmas.Bool.Decides.{nat_tests}
use Rattle.exact_arith.proofs.Ring.{ring, at, lit, ◌⊕◌, ◌⊗◌}
use Rattle.bim_model.specs.declared.geometry.Point.{Point}
use Rattle.ifc_units.proofs.PointFacts.{same_point}
use Rattle.placement.specs.declared.axis.Axis.{Axis}
use Rattle.placement.specs.declared.frame.Offset.{Offset}
use Rattle.placement.specs.declared.frame.Frame.{Frame}
use Rattle.placement.specs.Frames.{sign_of, along, component, carried, lengths_of, IsFrame}
use Rattle.placement.proofs.Composing.{composed}

pub along_own : (a : Axis) (k : ℕ) → a.direction ≡ k → along a k ≡ sign_of a
along_own a k e = grind (arith, nat_tests)

pub along_other : (a : Axis) (k : ℕ) → a.direction ≢ k → along a k ≡ pos 0
along_other a k e = grind (arith, nat_tests)

first : (x y z s a b c : ℤ) → a ≡ s → b ≡ pos 0 → c ≡ pos 0 → x *ℤ a +ℤ y *ℤ b +ℤ z *ℤ c ≡ x *ℤ s
first x y z s a b c e f g = rw (e, f, g) (ring (x ∷ y ∷ z ∷ s ∷ []) (at 0 ⊗ at 3 ⊕ at 1 ⊗ lit (pos 0) ⊕ at 2 ⊗ lit (pos 0)) (at 0 ⊗ at 3) refl)

second : (x y z s a b c : ℤ) → a ≡ pos 0 → b ≡ s → c ≡ pos 0 → x *ℤ a +ℤ y *ℤ b +ℤ z *ℤ c ≡ y *ℤ s
second x y z s a b c e f g = rw (e, f, g) (ring (x ∷ y ∷ z ∷ s ∷ []) (at 0 ⊗ lit (pos 0) ⊕ at 1 ⊗ at 3 ⊕ at 2 ⊗ lit (pos 0)) (at 1 ⊗ at 3) refl)

third : (x y z s a b c : ℤ) → a ≡ pos 0 → b ≡ pos 0 → c ≡ s → x *ℤ a +ℤ y *ℤ b +ℤ z *ℤ c ≡ z *ℤ s
third x y z s a b c e f g = rw (e, f, g) (ring (x ∷ y ∷ z ∷ s ∷ []) (at 0 ⊗ lit (pos 0) ⊕ at 1 ⊗ lit (pos 0) ⊕ at 2 ⊗ at 3) (at 2 ⊗ at 3) refl)

pub component_x : (f : Frame) (l : Offset) (k : ℕ) → IsFrame f → f.x.direction ≡ k → component f l k ≡ l.x *ℤ sign_of f.x
component_x f l k h e = first l.x l.y l.z (sign_of f.x) _ _ _ (along_own f.x k e) (along_other f.y k (λ g. h.x_y (e ∙ sym g))) (along_other f.z k (λ g. h.x_z (e ∙ sym g)))

pub component_y : (f : Frame) (l : Offset) (k : ℕ) → IsFrame f → f.y.direction ≡ k → component f l k ≡ l.y *ℤ sign_of f.y
component_y f l k h e = second l.x l.y l.z (sign_of f.y) _ _ _ (along_other f.x k (λ g. h.x_y (g ∙ sym e))) (along_own f.y k e) (along_other f.z k (λ g. h.y_z (e ∙ sym g)))

pub component_z : (f : Frame) (l : Offset) (k : ℕ) → IsFrame f → f.z.direction ≡ k → component f l k ≡ l.z *ℤ sign_of f.z
component_z f l k h e = third l.x l.y l.z (sign_of f.z) _ _ _ (along_other f.x k (λ g. h.x_z (g ∙ sym e))) (along_other f.y k (λ g. h.y_z (g ∙ sym e))) (along_own f.z k e)

-- three directions that differ are all there are
pub last_direction : (f : Frame) (k : ℕ) → IsFrame f → k < 3 → f.x.direction ≢ k → f.y.direction ≢ k → f.z.direction ≡ k
last_direction f k h l m n =
    let a = h.x in let b = h.y in let c = h.z in let d = h.x_y in let e = h.x_z in let g = h.y_z in
    omega arith

still : (a b c : ℤ) → (pos 0 +ℤ (a *ℤ pos 1 +ℤ b *ℤ pos 0 +ℤ c *ℤ pos 0) ≡ a) × (pos 0 +ℤ (a *ℤ pos 0 +ℤ b *ℤ pos 1 +ℤ c *ℤ pos 0) ≡ b) × (pos 0 +ℤ (a *ℤ pos 0 +ℤ b *ℤ pos 0 +ℤ c *ℤ pos 1) ≡ c)
still a b c =
    let env = a ∷ b ∷ c ∷ [] in
    let one = lit (pos 1) in
    let none = lit (pos 0) in
    (ring env (none ⊕ (at 0 ⊗ one ⊕ at 1 ⊗ none ⊕ at 2 ⊗ none)) (at 0) refl, ring env (none ⊕ (at 0 ⊗ none ⊕ at 1 ⊗ one ⊕ at 2 ⊗ none)) (at 1) refl, ring env (none ⊕ (at 0 ⊗ none ⊕ at 1 ⊗ none ⊕ at 2 ⊗ one)) (at 2) refl)

-- the frame that leaves points where they are
pub carried_still : (p : Point) → carried (record { x = record { direction = 0; negative = false }; y = record { direction = 1; negative = false }; z = record { direction = 2; negative = false }; offset = record { x = pos 0; y = pos 0; z = pos 0 } }) p ≡ p
carried_still p = let s = still p.x p.y p.z in same_point _ p s.0 s.1 s.2

-- what an axis of an outer frame's object makes in each direction
abbrev pub Turns : Frame → Axis → Axis → Type 0
Turns outer axis turned = (k : ℕ) → along turned k ≡ along axis 0 *ℤ along outer.x k +ℤ along axis 1 *ℤ along outer.y k +ℤ along axis 2 *ℤ along outer.z k

coordinate : (outer inner made : Frame) (p : Point) (o n : ℤ) (k : ℕ) → Turns outer inner.x made.x → Turns outer inner.y made.y → Turns outer inner.z made.z
    → n ≡ o +ℤ component outer inner.offset k → n +ℤ component made (lengths_of p) k ≡ o +ℤ component outer (lengths_of (carried inner p)) k
coordinate outer inner made p o n k x y z e =
    rw (e, x k, y k, z k) (composed o (along outer.x k) (along outer.y k) (along outer.z k) inner.offset.x inner.offset.y inner.offset.z p.x p.y p.z
    (along inner.x 0) (along inner.x 1) (along inner.x 2) (along inner.y 0) (along inner.y 1) (along inner.y 2) (along inner.z 0) (along inner.z 1) (along inner.z 2))

pub carried_then : (outer inner made : Frame) → Turns outer inner.x made.x → Turns outer inner.y made.y → Turns outer inner.z made.z
    → made.offset.x ≡ outer.offset.x +ℤ component outer inner.offset 0 → made.offset.y ≡ outer.offset.y +ℤ component outer inner.offset 1 → made.offset.z ≡ outer.offset.z +ℤ component outer inner.offset 2
    → (p : Point) → carried made p ≡ carried outer (carried inner p)
carried_then outer inner made x y z a b c p = same_point _ _
    (coordinate outer inner made p outer.offset.x made.offset.x 0 x y z a)
    (coordinate outer inner made p outer.offset.y made.offset.y 1 x y z b)
    (coordinate outer inner made p outer.offset.z made.offset.z 2 x y z c)
