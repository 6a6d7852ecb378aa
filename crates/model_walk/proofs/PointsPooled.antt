-- The points of one list of points after another come into a pool.
use Rattle.std.proofs.Common.{◌≡◌, ◌≢◌, ℕ, zero, suc, ◌+◌, ◌<◌, ◌⊎◌, inl, inr, Bool, true, false, List, length, get_or, Option, Some, refl, sym, ap, ◌∙◌, subst, arith}
use Rattle.std.specs.Bool.{MatchBool}
use Rattle.std.specs.List.{HoldsAt, slice_get}
use Rattle.std.proofs.lemmas.List.{get_or_default}
use Rattle.std.proofs.lemmas.Option.{same_Some, get_or_from_slice_get}
use Rattle.bim_model.specs.declared.upload.Mode.{Mode}
use Rattle.bim_model.specs.declared.geometry.Point.{Point}
use Rattle.p21_values.specs.declared.value.Instance.{Instance}
use Rattle.ifc_instances.specs.declared.entity.Entity.TheVariants.{PointList}
use Rattle.ifc_instances.specs.EntityLookup.{is_a}
use Rattle.ifc_instances.proofs.Rising.{below_next}
use Rattle.ifc_schema.specs.declared.worklist.Mark.{Mark}
use Rattle.ifc_schema.specs.declared.worklist.Mark.TheVariants.{Unseen, Used as Met, Mapped}
use Rattle.ifc_schema.specs.declared.worklist.Work.{Work}
use Rattle.ifc_schema.specs.InstanceMarks.{rank, rank_at, is_seen}
use Rattle.ifc_units.specs.declared.scale.Scale.{Scale}
use Rattle.walk_rows.specs.Pools.{pooled, Pools}
use Rattle.model_walk.specs.inner.PooledSets.{HasPoints, ArePooled, HasLists}

-- Pools.

pub cases_same : (a b : ℕ) → (a ≡ b) ⊎ (a ≢ b)
cases_same zero zero = inl refl
cases_same zero (suc b) = inr (λ e. omega (arith, e))
cases_same (suc a) zero = inr (λ e. omega (arith, e))
cases_same (suc a) (suc b) = elim (cases_same a b) [
  | inl e ↦ inl (ap suc e)
  | inr n ↦ inr (λ e. n (omega (arith, e)))
]

-- what is had is the new one, or was had before
pub put_cases : {T : Type 0} (old new : List (Option T)) (at : ℕ) (item : T) → Pools old new at item → (other : ℕ) (x : T) → pooled new other ≡ Some x → ((other ≡ at) × (item ≡ x)) ⊎ (pooled old other ≡ Some x)
put_cases old new at item p other x e = elim (cases_same other at) [
  | inl s ↦ inl (s, same_Some item x (sym p.here ∙ (ap (pooled new) (sym s) ∙ e)))
  | inr n ↦ inr (sym (p.others other n) ∙ e)
]

-- The pool so far: sound, and with all lists that are used below a place.

pub record IsFilled (world : List Instance) (scale : Scale) (mode : Mode) (work : Work) (at : ℕ) (pool : List (Option (List Point))) : Type 0 where
  pub sound : ArePooled world scale mode pool
  pub lists : HasLists world (λ k. (k < at) × (0 < rank_at work k)) pool
  pub size : length pool ≡ length world

-- one that isn't used adds none
pub filled_past : (world : List Instance) (scale : Scale) (mode : Mode) (work : Work) (at : ℕ) (pool : List (Option (List Point))) → (0 < rank_at work at → ⊥) → IsFilled world scale mode work at pool → IsFilled world scale mode work (at + 1) pool
filled_past world scale mode work at pool unused f = record {
  sound = f.sound;
  lists = λ k below is. elim (below_next k at below.0) [
    | inl lt ↦ f.lists k (lt, below.1) is
    | inr e ↦ absurd (unused (subst (λ (n : ℕ). 0 < rank_at work n) e below.1))
  ];
  size = f.size;
}

-- nor does one that is no list
other_past : (world : List Instance) (scale : Scale) (mode : Mode) (work : Work) (at : ℕ) (i : Instance) (pool : List (Option (List Point))) → slice_get world at ≡ Some i → is_a PointList i ≡ false → IsFilled world scale mode work at pool
    → IsFilled world scale mode work (at + 1) pool
other_past world scale mode work at i pool there other f = record {
  sound = f.sound;
  lists = λ k below is. elim (below_next k at below.0) [
    | inl lt ↦ f.lists k (lt, below.1) is
    | inr e ↦ absurd (
        let here : is_a PointList i ≡ true = subst (λ (j : Instance). is_a PointList j ≡ true) (get_or_from_slice_get world at i i there) (subst (λ (n : ℕ). HoldsAt (λ (j : Instance). is_a PointList j ≡ true) world n) e is i) in
        let no : true ≡ false = sym here ∙ other in cc)
  ];
  size = f.size;
}

-- a list adds its points
list_past : (world : List Instance) (scale : Scale) (mode : Mode) (work : Work) (at : ℕ) (i : Instance) (points : List Point) (old new : List (Option (List Point))) → slice_get world at ≡ Some i → HasPoints scale mode points i
    → Pools old new at points → IsFilled world scale mode work at old → IsFilled world scale mode work (at + 1) new
list_past world scale mode work at i points old new there has p f = record {
  sound = λ k found e. elim (put_cases old new at points p k found e) [
    | inl q ↦ (λ d.
        let here : HasPoints scale mode points (get_or world at d) = subst (HasPoints scale mode points) (sym (get_or_from_slice_get world at i d there)) has in
        subst (λ (n : ℕ). HasPoints scale mode found (get_or world n d)) (sym q.0) (subst (λ (ps : List Point). HasPoints scale mode ps (get_or world at d)) q.1 here))
    | inr before ↦ f.sound k found before
  ];
  lists = λ k below is. elim (cases_same k at) [
    | inl e ↦ (points, ap (pooled new) e ∙ p.here)
    | inr n ↦ (
        let lt : k < at = (let l = below.0 in strict k at l n) in
        let old_one = f.lists k (lt, below.1) is in
        (old_one.0, p.others k n ∙ old_one.1))
  ];
  size = p.size ∙ f.size;
}
  where
    strict : (a b : ℕ) → a < b + 1 → a ≢ b → a < b
    strict a b l n = elim (below_next a b l) [ inl lt ↦ lt | inr e ↦ absurd (n e) ]

-- what is made of one instance
pub filled_more : (world : List Instance) (scale : Scale) (mode : Mode) (work : Work) (at : ℕ) (i : Instance) (old new : List (Option (List Point))) → slice_get world at ≡ Some i
    → MatchBool (is_a PointList i) ((points : List Point) × HasPoints scale mode points i × Pools old new at points) (new ≡ old) → IsFilled world scale mode work at old → IsFilled world scale mode work (at + 1) new
filled_more world scale mode work at i old new there made f = by_kind (is_a PointList i) refl made
  where
    by_kind : (b : Bool) → is_a PointList i ≡ b → MatchBool b ((points : List Point) × HasPoints scale mode points i × Pools old new at points) (new ≡ old) → IsFilled world scale mode work (at + 1) new
    by_kind true e m = list_past world scale mode work at i m.0 old new there m.1 m.2 f
    by_kind false e m = subst (IsFilled world scale mode work (at + 1)) (sym m) (other_past world scale mode work at i old there e f)

-- Marks.

unseen_rank : (m : Mark) → is_seen m ≡ false → 0 < rank m → ⊥
unseen_rank Unseen s r = omega (arith, r)
unseen_rank Met s r = cc
unseen_rank Mapped s r = cc

-- where nothing was met the rank is 0
pub unmet : (work : Work) (at : ℕ) (m : Mark) → at < length work.marks.items → m ≡ get_or work.marks.items at m → is_seen m ≡ false → 0 < rank_at work at → ⊥
unmet work at m lt e s r = unseen_rank m s (subst (λ (n : Mark). 0 < rank n) (sym (e ∙ get_or_default work.marks.items at m Unseen lt)) r)

-- What one instance leaves.

pub kept_none : (b : Bool) (A B : Type 0) → b ≡ false → B → MatchBool b A B
kept_none true A B e h = cc
kept_none false A B e h = h

pub kept_some : (b : Bool) (A B : Type 0) → b ≡ true → A → MatchBool b A B
kept_some true A B e h = h
kept_some false A B e h = cc
