-- The six weights of a pose by name, and a slide of those that are live
use Rattle.std.proofs.Common.{◌≡◌, ◌⊎◌, inl, inr, arith, ℤ, pos, ◌+ℤ◌, ◌-ℤ◌, ◌*ℤ◌, ◌≤ℤ◌, ◌<ℤ◌, refl, sym, ◌∙◌, subst, List, [], ◌∷◌}
use Rattle.std.proofs.lemmas.Int.{ints}
use Rattle.exact_arith.specs.Space.{dot_of, Face, nowhere}
use Rattle.exact_arith.proofs.Ring.{ring, at, lit, ◌⊕◌, ◌⊖◌, ◌⊗◌}
use Rattle.exact_arith.proofs.Order.{add_nonneg, mul_nonneg, nonneg_by}
use Rattle.tri_exact.proofs.Pose.{Pose, Shift, gap, drift, move, aim, IsClose, first_moves, moved_free, moved_towards, reached_weight, reached, towards}
use Rattle.tri_exact.proofs.Slide.{Pace, Hold, OneStops, NoneNegative, NoneFalls, least}

pub data Six : Type 0 where
  a1 : Six
  a2 : Six
  a3 : Six
  b1 : Six
  b2 : Six
  b3 : Six

abbrev pub weight : Six → Pose → ℤ
weight a1 w = w.n -ℤ w.a2 -ℤ w.a3
weight a2 w = w.a2
weight a3 w = w.a3
weight b1 w = w.n -ℤ w.b2 -ℤ w.b3
weight b2 w = w.b2
weight b3 w = w.b3

abbrev pub change : Six → Shift → ℤ
change a1 o = pos 0 -ℤ o.a2 -ℤ o.a3
change a2 o = o.a2
change a3 o = o.a3
change b1 o = pos 0 -ℤ o.b2 -ℤ o.b3
change b2 o = o.b2
change b3 o = o.b3

abbrev pub NoNegative : Pose → Type 0
NoNegative w = (i : Six) → pos 0 ≤ℤ weight i w

pub weight_moves : (m k : ℤ) (w : Pose) (o : Shift) (i : Six) → weight i (move m k w o) ≡ m *ℤ weight i w +ℤ k *ℤ change i o
weight_moves m k w o a1 = first_moves m k w.n w.a2 w.a3 o.a2 o.a3
weight_moves m k w o a2 = refl
weight_moves m k w o a3 = refl
weight_moves m k w o b1 = first_moves m k w.n w.b2 w.b3 o.b2 o.b3
weight_moves m k w o b2 = refl
weight_moves m k w o b3 = refl

first_aims : (n h x y v w : ℤ) → pos 0 -ℤ (x *ℤ n -ℤ v *ℤ h) -ℤ (y *ℤ n -ℤ w *ℤ h) ≡ (h -ℤ x -ℤ y) *ℤ n -ℤ (n -ℤ v -ℤ w) *ℤ h
first_aims n h x y v w =
    ring (n ∷ h ∷ x ∷ y ∷ v ∷ w ∷ []) (lit (pos 0) ⊖ (at 2 ⊗ at 0 ⊖ at 4 ⊗ at 1) ⊖ (at 3 ⊗ at 0 ⊖ at 5 ⊗ at 1)) ((at 1 ⊖ at 2 ⊖ at 3) ⊗ at 0 ⊖ (at 0 ⊖ at 4 ⊖ at 5) ⊗ at 1) refl

pub change_aims : (w f : Pose) (i : Six) → change i (aim w f) ≡ weight i f *ℤ w.n -ℤ weight i w *ℤ f.n
change_aims w f a1 = first_aims w.n f.n f.a2 f.a3 w.a2 w.a3
change_aims w f a2 = refl
change_aims w f a3 = refl
change_aims w f b1 = first_aims w.n f.n f.b2 f.b3 w.b2 w.b3
change_aims w f b2 = refl
change_aims w f b3 = refl

abbrev pub In : Six → List Six → Type 0
In i [] = ⊥
In i (j ∷ js) = (i ≡ j) ⊎ In i js

abbrev pub paces : Pose → Shift → List Six → List Pace
paces w o [] = []
paces w o (i ∷ is) = record { now = weight i w; change = change i o } ∷ paces w o is

none_negative : (w : Pose) (o : Shift) (live : List Six) → NoNegative w → NoneNegative (paces w o live)
none_negative w o [] h = tt
none_negative w o (i ∷ is) h = (h i, none_negative w o is h)

held : (m k : ℤ) (w : Pose) (o : Shift) (live : List Six) (i : Six) → Hold m k (paces w o live) → In i live → pos 0 ≤ℤ (m *ℤ weight i w +ℤ k *ℤ change i o)
held m k w o [] i h x = absurd x
held m k w o (j ∷ js) i h (inl e) = subst (λ (l : Six). pos 0 ≤ℤ (m *ℤ weight l w +ℤ k *ℤ change l o)) (sym e) h.0
held m k w o (j ∷ js) i h (inr x) = held m k w o js i h.1 x

stopped : (m k : ℤ) (w : Pose) (o : Shift) (live : List Six) → OneStops m k (paces w o live) → (i : Six) × In i live × (m *ℤ weight i w +ℤ k *ℤ change i o ≡ pos 0)
stopped m k w o [] x = absurd x
stopped m k w o (j ∷ js) (inl e) = (j, inl refl, e)
stopped m k w o (j ∷ js) (inr x) = let r = stopped m k w o js x in (r.0, inr r.1, r.2)

-- a pose with one live weight less
pub record Next (t s : Face) (d : ℤ) (w : Pose) (o : Shift) (live : List Six) : Type 0 where
  pub pose : Pose
  pub close : IsClose t s d pose
  pub nonneg : NoNegative pose
  pub gone : (i : Six) × In i live × (weight i pose ≡ pos 0)
  pub kept : (i : Six) → weight i w ≡ pos 0 → change i o ≡ pos 0 → weight i pose ≡ pos 0

kept_zero : (m k : ℤ) (w : Pose) (o : Shift) (i : Six) → weight i w ≡ pos 0 → change i o ≡ pos 0 → weight i (move m k w o) ≡ pos 0
kept_zero m k w o i e f = weight_moves m k w o i ∙ rw (e, f) (ring (m ∷ k ∷ []) (at 0 ⊗ lit (pos 0) ⊕ at 1 ⊗ lit (pos 0)) (lit (pos 0)) refl)

still_nonneg : (m k x c : ℤ) → pos 0 <ℤ m → pos 0 ≤ℤ x → c ≡ pos 0 → pos 0 ≤ℤ (m *ℤ x +ℤ k *ℤ c)
still_nonneg m k x c hm hx e =
    let q : pos 0 ≤ℤ m = omega (arith, ints, hm) in
    rw e (add_nonneg (m *ℤ x) (k *ℤ pos 0) (mul_nonneg m x q hx) (omega (arith, ints)))

new_nonneg : (m k : ℤ) (w : Pose) (o : Shift) (live : List Six) → pos 0 <ℤ m → NoNegative w → ((i : Six) → In i live ⊎ (change i o ≡ pos 0)) → Hold m k (paces w o live) → NoNegative (move m k w o)
new_nonneg m k w o live hm nn cover h i =
    nonneg_by (weight i (move m k w o)) (m *ℤ weight i w +ℤ k *ℤ change i o) (weight_moves m k w o i)
    (elim (cover i) [ inl x ↦ held m k w o live i h x | inr e ↦ still_nonneg m k (weight i w) (change i o) hm (nn i) e ])

-- a move that changes both points alike
pub free_slide : (t s : Face) (d : ℤ) (w : Pose) (o : Shift) (live : List Six) (c : IsClose t s d w) → NoNegative w → drift t s o ≡ nowhere →
    ((i : Six) → In i live ⊎ (change i o ≡ pos 0)) → (NoneFalls (paces w o live) → ⊥) → Next t s d w o live
free_slide t s d w o live c nn e cover falls =
    elim (least (paces w o live) (none_negative w o live nn)) [
      | inl p ↦
          let r = stopped p.m p.k w o live p.stops in
          record {
            pose = move p.m p.k w o;
            close = moved_free t s d w o p.m p.k c p.m_positive e;
            nonneg = new_nonneg p.m p.k w o live p.m_positive nn cover p.holds;
            gone = (r.0, r.1, weight_moves p.m p.k w o r.0 ∙ r.2);
            kept = kept_zero p.m p.k w o;
          }
      | inr f ↦ absurd (falls f)
    ]

-- a move straight towards the aim f
pub towards_slide : (t s : Face) (d : ℤ) (w f : Pose) (live : List Six) (c : IsClose t s d w) → NoNegative w → pos 0 <ℤ f.n →
    dot_of (towards (gap t s w) (gap t s f) w.n f.n) (gap t s f) ≡ pos 0 → ((i : Six) → In i live ⊎ (change i (aim w f) ≡ pos 0)) →
    (NoNegative f × IsClose t s d f) ⊎ Next t s d w (aim w f) live
towards_slide t s d w f live c nn hf z cover =
    let whole : Pace = record { now = pos 1; change = pos 0 -ℤ f.n } in
    let o = aim w f in
    let one : pos 0 ≤ℤ pos 1 = omega (arith, ints) in
    elim (least (whole ∷ paces w o live) (one, none_negative w o live nn)) [
      | inl p ↦
          let nn' = new_nonneg p.m p.k w o live p.m_positive nn cover p.holds.1 in
          let c' = moved_towards t s d w f p.m p.k c p.m_positive p.k_nonneg hf p.holds.0 z in
          elim p.stops [
            | inl e ↦
                let r = reached t s d w f p.m p.k p.m_positive p.k_nonneg c.n_positive hf e c' in
                inl (λ i. reached_weight p.m p.k f.n w.n (weight i w) (weight i f) r.0 c.n_positive e (subst (λ (x : ℤ). pos 0 ≤ℤ (p.m *ℤ weight i w +ℤ p.k *ℤ x)) (change_aims w f i) (nonneg_by _ _ (sym (weight_moves p.m p.k w o i)) (nn' i))), r.1)
            | inr x ↦
                let r = stopped p.m p.k w o live x in
                inr (record { pose = move p.m p.k w o; close = c'; nonneg = nn'; gone = (r.0, r.1, weight_moves p.m p.k w o r.0 ∙ r.2); kept = kept_zero p.m p.k w o })
          ]
      | inr n ↦ absurd (omega (arith, ints, n.0, hf))
    ]
