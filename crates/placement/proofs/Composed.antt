-- Frames of placements, the parents first.
use Rattle.std.proofs.Common.{◌≡◌, ℕ, ◌+◌, ◌<◌, ◌≤◌, ◌⊎◌, inl, inr, List, length, get_or, Option, Some, None, Contains, sym, ap, ◌∙◌, subst, arith}
use Rattle.std.proofs.lemmas.Int.{ints}
use Rattle.std.proofs.lemmas.List.{get_or_default, get_or-take, length-take-le}
use Rattle.bim_model.specs.declared.upload.Mode.{Mode}
use Rattle.p21_values.specs.declared.value.Instance.{Instance}
use Rattle.ifc_units.specs.declared.scale.Scale.{Scale}
use Rattle.placement.specs.declared.frame.Offset.{Offset}
use Rattle.placement.specs.declared.frame.Frame.{Frame}
use Rattle.placement.specs.Frames.{IsFrame, AreWithin, most}
use Rattle.ifc_units.specs.Lengths.{reach}
use Rattle.placement.specs.Chains.{parent_of, ParentsFirst}
use Rattle.placement.specs.Placed.{OwnFrame, IsComposed, outermost, within, IsPlaced, AreFrames, StandsOn, AllWithin, AllPlaced, Composed, Puts}
use Rattle.placement.proofs.Walking.{same_or}

-- One frame.

wider : (a b : ℕ) (l : Offset) → a ≤ b → AreWithin a l → AreWithin b l
wider a b l le w =
    let xl = w.x.low in let xh = w.x.high in let yl = w.y.low in let yh = w.y.high in let zl = w.z.low in let zh = w.z.high in
    record {
      x = record { low = omega (arith, ints); high = omega (arith, ints) };
      y = record { low = omega (arith, ints); high = omega (arith, ints) };
      z = record { low = omega (arith, ints); high = omega (arith, ints) };
    }

pub composed_none : (world : List Instance) (s : Scale) (mode : Mode) (frames : ℕ → Option Frame) (id : ℕ) (own : Frame) → parent_of world id ≡ Some None → OwnFrame world s mode id own → IsFrame own → AreWithin reach own.offset
    → Composed world s mode frames id own
composed_none world s mode frames id own e o h n = record {
  frame_of = outermost id own e o;
  is_frame = h;
  near = λ bound all. wider reach (bound + reach) own.offset (omega arith) n;
}

pub composed_some : (world : List Instance) (s : Scale) (mode : Mode) (frames : ℕ → Option Frame) (id parent : ℕ) (own outer f : Frame) → parent_of world id ≡ Some (Some parent) → OwnFrame world s mode id own → AreWithin reach own.offset
    → frames parent ≡ Some outer → AllPlaced world s mode frames → IsFrame f → IsComposed outer own f → ((a b : ℕ) → AreWithin a outer.offset → AreWithin b own.offset → AreWithin (a + b) f.offset)
    → Composed world s mode frames id f
composed_some world s mode frames id parent own outer f e o n g placed h c w =
    let p = placed parent outer g in
    record {
      frame_of = within id parent own outer f e o p.frame_of c;
      is_frame = h;
      near = λ bound all. w bound reach (all parent outer g) n;
    }

-- One more.

some_same : (f g : Frame) → Some f ≡ Some g → f ≡ g
some_same f g e = cc

-- a frame of those, or the new one
put_cases : (old new : ℕ → Option Frame) (id : ℕ) (f : Frame) → Puts old new id f → (other : ℕ) (g : Frame) → new other ≡ Some g → ((other ≡ id) × (f ≡ g)) ⊎ (old other ≡ Some g)
put_cases old new id f p other g e = elim (same_or other id) [
  | inl s ↦ inl (s, some_same f g (sym p.here ∙ ap new (sym s) ∙ e))
  | inr n ↦ inr (sym (p.others other n) ∙ e)
]

pub placed_more : (world : List Instance) (s : Scale) (mode : Mode) (old new : ℕ → Option Frame) (id : ℕ) (f : Frame) → Puts old new id f → AllPlaced world s mode old → IsPlaced world s mode id f → AllPlaced world s mode new
placed_more world s mode old new id f p all here other g e = elim (put_cases old new id f p other g e) [
  | inl q ↦ subst (λ (h : Frame). IsPlaced world s mode other h) q.1 (subst (λ (n : ℕ). IsPlaced world s mode n f) (sym q.0) here)
  | inr b ↦ all other g b
]

pub within_more : (old new : ℕ → Option Frame) (id : ℕ) (f : Frame) (a b : ℕ) → Puts old new id f → a ≤ b → AllWithin a old → AreWithin b f.offset → AllWithin b new
within_more old new id f a b p le all here other g e = elim (put_cases old new id f p other g e) [
  | inl q ↦ subst (λ (h : Frame). AreWithin b h.offset) q.1 here
  | inr o ↦ wider a b g.offset le (all other g o)
]

pub listed_more : (ids : List ℕ) (old new : ℕ → Option Frame) (id : ℕ) (f : Frame) → Puts old new id f → Contains ids id → ((other : ℕ) (g : Frame) → old other ≡ Some g → Contains ids other) → (other : ℕ) (g : Frame) → new other ≡ Some g → Contains ids other
listed_more ids old new id f p here all other g e = elim (put_cases old new id f p other g e) [
  | inl q ↦ subst (λ (n : ℕ). Contains ids n) (sym q.0) here
  | inr o ↦ all other g o
]

pub still_there : (old new : ℕ → Option Frame) (id : ℕ) (f : Frame) → Puts old new id f → (other : ℕ) → (g : Frame) × (old other ≡ Some g) → (g : Frame) × (new other ≡ Some g)
still_there old new id f p other h = elim (same_or other id) [
  | inl s ↦ (f, ap new s ∙ p.here)
  | inr n ↦ (h.0, p.others other n ∙ h.1)
]

pub placed_one : (world : List Instance) (s : Scale) (mode : Mode) (frames : ℕ → Option Frame) (id : ℕ) (f : Frame) (bound : ℕ) → AllWithin bound frames → bound + reach ≤ most → Composed world s mode frames id f → IsPlaced world s mode id f
placed_one world s mode frames id f bound all le c = record { frame_of = c.frame_of; is_frame = c.is_frame; near = wider (bound + reach) most f.offset le (c.near bound all) }

-- All.

pub stands_on : (world : List Instance) (ids : List ℕ) (frames : ℕ → Option Frame) (k : ℕ) → ParentsFirst world ids → k < length ids → ((j : ℕ) → j < k → (f : Frame) × (frames (get_or ids j 0) ≡ Some f)) → StandsOn world frames (get_or ids k 0)
stands_on world ids frames k first lt all = elim (first k 0 lt) [
  | inl none ↦ inl none
  | inr r ↦ (
      let lj : r.2.0 < k = omega (arith, r.2.1, length-take-le k ids (omega arith)) in
      let same : get_or ids r.2.0 0 ≡ r.0 = get_or_default ids r.2.0 0 r.0 (omega (arith, lj, lt)) ∙ sym (get_or-take k ids r.2.0 r.0 lj) ∙ r.2.2 in
      let there = all r.2.0 lj in
      inr (r.0, there.0, r.1, ap frames (sym same) ∙ there.1))
]

pub are_frames : (world : List Instance) (s : Scale) (mode : Mode) (ids : List ℕ) (frames : ℕ → Option Frame) → AllPlaced world s mode frames → ((id : ℕ) (f : Frame) → frames id ≡ Some f → Contains ids id)
    → ((j : ℕ) → j < length ids → (f : Frame) × (frames (get_or ids j 0) ≡ Some f)) → AreFrames world s mode ids frames
are_frames world s mode ids frames placed listed all = record {
  sound = placed;
  listed = listed;
  all = λ id c.
      let there = all c.0 c.1 in
      (there.0, ap frames (sym (get_or_default ids c.0 0 id c.1 ∙ c.2)) ∙ there.1);
}
