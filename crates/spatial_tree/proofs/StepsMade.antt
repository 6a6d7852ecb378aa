-- How the table of objects and their steps is made.
use Rattle.std.proofs.Common.{◌≡◌, ℕ, ◌+◌, ◌<◌, ◌||◌, ◌⊎◌, inl, inr, Bool, true, false, nat_eq, List, [], ◌∷◌, ◌++◌, length, get_or, Contains, Option, Some, None, MatchOption, refl, sym, ◌∙◌, subst}
use Rattle.std.proofs.lemmas.Bool.{both_ways}
use Rattle.std.specs.List.Retain.{IsFiltered, DiffersFromLast}
use Rattle.std.specs.List.Sorted.{IsStrictlyIncreasing, IsSorted, IsPermutation}
use Rattle.std.specs.Ordering.{nat_cmp}
use Rattle.std.proofs.lemmas.List.Filters.{dedup_is}
use Rattle.std.proofs.lemmas.List.Kept.{Contains-dedup_nat}
use Rattle.std.proofs.lemmas.List.Sorted.{Contains-permutation}
use Rattle.std.proofs.lemmas.List.{get_or_default}
use Rattle.std.proofs.lemmas.Map.Keys.{IsStrictlyIncreasing-dedup}
use Rattle.std.proofs.lemmas.List.Elements.{Contains-append_left, Contains-push}
use Rattle.std.proofs.lemmas.Option.{same_Some}
use Rattle.spatial_tree.specs.declared.relations.Link.{Link}
use Rattle.spatial_tree.specs.declared.only.Only.{Only}
use Rattle.spatial_tree.specs.declared.step.Step.{Step}
use Rattle.spatial_tree.specs.inner.Onlys.{Has, Counts, is_several, next_in}
use Rattle.spatial_tree.specs.inner.UpwardSteps.{NextIn, TornIn, IsPlaceIn, IsStepOf}
use Rattle.spatial_tree.proofs.Adding.{AnyBefore, before_more}
use Rattle.spatial_tree.proofs.Counting.{next_counted, next_once, several_two, two_several}

-- Objects.

pub object_pushed : (links : List Link) (at : ℕ) (d : Link) (xs ys : List ℕ) → at < length links → ys ≡ xs ++ (get_or links at d).object ∷ []
    → ((o : ℕ) → AnyBefore (λ (x : Link). x.object ≡ o) links at → Contains xs o) → (o : ℕ) → AnyBefore (λ (x : Link). x.object ≡ o) links (at + 1) → Contains ys o
object_pushed links at d xs ys lt e h o a =
    subst (λ zs. Contains zs o) (sym e) (elim (before_more (λ (x : Link). x.object ≡ o) links at (get_or links at d) lt (get_or_default links at d (get_or links at d) lt) a) [
      | inl b ↦ Contains-append_left xs ((get_or links at d).object ∷ []) o (h o b)
      | inr s ↦ subst (λ n. Contains (xs ++ (get_or links at d).object ∷ []) n) s (Contains-push xs (get_or links at d).object)
    ])

pub object_kept : (xs ys : List ℕ) (x o : ℕ) → ys ≡ xs ++ x ∷ [] → Contains xs o → Contains ys o
object_kept xs ys x o e c = subst (λ zs. Contains zs o) (sym e) (Contains-append_left xs (x ∷ []) o c)

pub deduped : (xs ys zs : List ℕ) → IsPermutation xs ys → IsFiltered (DiffersFromLast nat_eq) [] ys zs → (o : ℕ) → Contains xs o → Contains zs o
deduped xs ys zs p f o c = subst (λ l. Contains l o) (sym (dedup_is nat_eq ys zs f)) (Contains-dedup_nat ys o (Contains-permutation xs ys o p c))

pub dedup_rises : (ys zs : List ℕ) → IsSorted nat_cmp ys → IsFiltered (DiffersFromLast nat_eq) [] ys zs → IsStrictlyIncreasing zs
dedup_rises ys zs s f = subst (λ l. IsStrictlyIncreasing l) (sym (dedup_is nat_eq ys zs f)) (IsStrictlyIncreasing-dedup ys s)

-- Steps.

-- how a step is made from the next object
abbrev pub IsMade : List ℕ → List ℕ → Option ℕ → Step → Type 0
IsMade storeys objects None step = (step.up ≡ None) × (step.storey ≡ None)
IsMade storeys objects (Some next) step = IsPlaceIn objects next step.up × (((step.storey ≡ Some next) × Contains storeys next) ⊎ ((step.storey ≡ None) × (Contains storeys next → ⊥)))

no_some : (o : Option ℕ) (n : ℕ) → o ≡ None → o ≡ Some n → ⊥
no_some o n e f = cc

pub made : (containers wholes : List Link) (storeys objects : List ℕ) (object : ℕ) (c w : Only) (next : Option ℕ) (step : Step)
    → Counts (Has containers object) c → Counts (Has wholes object) w → step.torn ≡ (is_several c || is_several w) → next ≡ next_in c w → IsMade storeys objects next step
    → IsStepOf (NextIn containers wholes) (TornIn containers wholes) (Contains storeys) objects object step
made containers wholes storeys objects object c w next step cc' cw t e m =
    by next (subst (λ o. MatchOption o ((above : ℕ) → NextIn containers wholes object above → ⊥) (NextIn containers wholes object)) (sym e) (next_counted (Has containers) (Has wholes) object c w cc' cw)) m
  where
    or_true : (a b r : Bool) → r ≡ (a || b) → r ≡ true → (a ≡ true) ⊎ (b ≡ true)
    or_true true b r e i = inl refl
    or_true false true r e i = inr refl
    or_true false false r e i = absurd (both_ways r e i)

    left : (a b r : Bool) → r ≡ (a || b) → a ≡ true → r ≡ true
    left true b r e i = e
    left false b r e i = absurd (both_ways false refl i)

    right : (a b r : Bool) → r ≡ (a || b) → b ≡ true → r ≡ true
    right true b r e i = e
    right false true r e i = e
    right false false r e i = absurd (both_ways false refl i)

    torn : step.torn ≡ true → TornIn containers wholes object
    torn i = elim (or_true (is_several c) (is_several w) step.torn t i) [ inl a ↦ inl (several_two (Has containers object) c cc' a) | inr b ↦ inr (several_two (Has wholes object) w cw b) ]

    whole : TornIn containers wholes object → step.torn ≡ true
    whole h = elim h [
      | inl a ↦ left (is_several c) (is_several w) step.torn t (two_several (Has containers object) c cc' a)
      | inr b ↦ right (is_several c) (is_several w) step.torn t (two_several (Has wholes object) w cw b)
    ]

    by : (o : Option ℕ) → MatchOption o ((above : ℕ) → NextIn containers wholes object above → ⊥) (NextIn containers wholes object) → IsMade storeys objects o step
        → IsStepOf (NextIn containers wholes) (TornIn containers wholes) (Contains storeys) objects object step
    by None n m = record {
      torn = torn;
      whole = whole;
      up = λ at e. absurd (no_some step.up at m.0 e);
      place = λ above x. absurd (n above x);
      storey = λ s e. absurd (no_some step.storey s m.1 e);
      other = λ e above x. absurd (n above x);
    }
    by (Some next) n m = record {
      torn = torn;
      whole = whole;
      up = λ at e. (let p = subst (λ o. IsPlaceIn objects next o) e m.0 in (p.0, subst (λ x. NextIn containers wholes object x) (sym p.1) n));
      place = λ above x. subst (λ y. IsPlaceIn objects y step.up) (next_once (Has containers) (Has wholes) object next above n x) m.0;
      storey = λ s e. elim m.1 [
        | inl h ↦ (let q = same_Some next s (sym h.0 ∙ e) in (subst (λ x. NextIn containers wholes object x) q n, subst (λ x. Contains storeys x) q h.1))
        | inr h ↦ absurd (no_some step.storey s h.0 e)
      ];
      other = λ e above x y. elim m.1 [
        | inl h ↦ no_some step.storey next e h.0
        | inr h ↦ h.1 (subst (λ z. Contains storeys z) (next_once (Has containers) (Has wholes) object above next x n) y)
      ];
    }
