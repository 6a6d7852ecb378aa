-- How the steps between places and the ways up of objects belong together.
use Rattle.std.proofs.Common.{◌≡◌, ℕ, ◌+◌, ◌<◌, ◌⊎◌, inl, inr, List, [], ◌∷◌, ◌++◌, false, length, get_or, Contains, Option, Some, None, refl, sym, ap, ◌∙◌, subst, arith, length-append}
use Rattle.std.specs.List.{slice_get}
use Rattle.std.specs.List.Sorted.{IsStrictlyIncreasing}
use Rattle.std.proofs.lemmas.List.{get_or_default, get_or_append_left, get_or_push}
use Rattle.std.proofs.lemmas.List.Kept.{AllPairs-from_increasing}
use Rattle.std.proofs.lemmas.Option.{slice_get_within, slice_get-get_or, get_or_from_slice_get}
use Rattle.ifc_instances.proofs.Rising.{below_next}
use Rattle.spatial_tree.specs.declared.step.Step.{Step}
use Rattle.spatial_tree.specs.Climbing.{HasTwo, IsNext, IsAbove, IsFirstStorey}
use Rattle.spatial_tree.specs.Climbing as climbing
use Rattle.spatial_tree.specs.inner.UpwardSteps.{up_in, storey_in, up_of, storey_at, Goes, IsRound, AreWithin, Finds, here, further, IsPlaceIn, IsStepOf, AreStepsOf, AreFirstStepsOf}
use Rattle.spatial_tree.proofs.Rounds.{first_step}

some_step : Step
some_step = record { torn = false; up = None; storey = None }

-- Tables of steps.

pub steps_push : (N : ℕ → ℕ → Type 0) (T S : ℕ → Type 0) (objects : List ℕ) (steps : List Step) (at object : ℕ) (step : Step) → at < length objects → object ≡ get_or objects at object → IsStepOf N T S objects object step
    → AreFirstStepsOf N T S objects steps at → AreFirstStepsOf N T S objects (steps ++ step ∷ []) (at + 1)
steps_push N T S objects steps at object step l is s f = record {
  size = length-append steps (step ∷ []) ∙ ap (λ n. n + 1) f.size;
  each = λ k t e.
      let lt = slice_get_within (steps ++ step ∷ []) k t e in
      let n = length-append steps (step ∷ []) in
      elim (below_next k (length steps) (omega arith)) [
        | inl a ↦ f.each k t (slice_get-get_or steps k t a ∙ ap Some (sym (get_or_append_left steps (step ∷ []) t k a) ∙ get_or_from_slice_get (steps ++ step ∷ []) k t t e))
        | inr b ↦ (
            let g : step ≡ t = sym (get_or_push steps step t k (sym b)) ∙ get_or_from_slice_get (steps ++ step ∷ []) k t t e in
            let h : object ≡ get_or objects k 0 = is ∙ get_or_default objects at object 0 l ∙ ap (λ n. get_or objects n 0) (sym (b ∙ f.size)) in
            subst (λ n. IsStepOf N T S objects n t) h (subst (λ x. IsStepOf N T S objects object x) g s))
      ];
}

-- the same for other words that say the same
pub step_map : (N M : ℕ → ℕ → Type 0) (T U : ℕ → Type 0) (S R : ℕ → Type 0) (objects : List ℕ) (object : ℕ) (step : Step)
    → ((o u : ℕ) → N o u → M o u) → ((o u : ℕ) → M o u → N o u) → ((o : ℕ) → T o → U o) → ((o : ℕ) → U o → T o) → ((o : ℕ) → S o → R o) → ((o : ℕ) → R o → S o)
    → IsStepOf N T S objects object step → IsStepOf M U R objects object step
step_map N M T U S R objects object step nm mn tu ut sr rs s = record {
  torn = λ t. tu object (s.torn t);
  whole = λ u. s.whole (ut object u);
  up = λ at e. (let p = s.up at e in (p.0, nm object (get_or objects at 0) p.1));
  place = λ above m. s.place above (mn object above m);
  storey = λ t e. (let p = s.storey t e in (nm object t p.0, sr t p.1));
  other = λ e above m r. s.other e above (mn object above m) (rs above r);
}

pub steps_map : (N M : ℕ → ℕ → Type 0) (T U : ℕ → Type 0) (S R : ℕ → Type 0) (objects : List ℕ) (steps : List Step)
    → ((o u : ℕ) → N o u → M o u) → ((o u : ℕ) → M o u → N o u) → ((o : ℕ) → T o → U o) → ((o : ℕ) → U o → T o) → ((o : ℕ) → S o → R o) → ((o : ℕ) → R o → S o)
    → AreStepsOf N T S objects steps → AreStepsOf M U R objects steps
steps_map N M T U S R objects steps nm mn tu ut sr rs s = record {
  size = s.size;
  each = λ at step e. step_map N M T U S R objects (get_or objects at 0) step nm mn tu ut sr rs (s.each at step e);
}

-- Steps and the way up.

pub record At (steps : List Step) (at : ℕ) : Type 0 where
  pub step : Step
  pub there : slice_get steps at ≡ Some step

goes_from : (steps : List Step) (at to : ℕ) → Goes steps at to → At steps at
goes_from steps at to g = by (slice_get steps at) refl g
  where
    by : (o : Option Step) → slice_get steps at ≡ o → up_in o ≡ Some to → At steps at
    by None e h = absurd cc
    by (Some s) e h = record { step = s; there = e }

storey_from : (steps : List Step) (at s : ℕ) → storey_at steps at ≡ Some s → At steps at
storey_from steps at t g = by (slice_get steps at) refl g
  where
    by : (o : Option Step) → slice_get steps at ≡ o → storey_in o ≡ Some t → At steps at
    by None e h = absurd cc
    by (Some s) e h = record { step = s; there = e }

pub at_within : (steps : List Step) (at : ℕ) → at < length steps → At steps at
at_within steps at l = record { step = get_or steps at some_step; there = slice_get-get_or steps at some_step l }

pub goes_next : (N : ℕ → ℕ → Type 0) (T S : ℕ → Type 0) (objects : List ℕ) (steps : List Step) → AreStepsOf N T S objects steps → (at to : ℕ) → Goes steps at to → (to < length objects) × N (get_or objects at 0) (get_or objects to 0)
goes_next N T S objects steps a at to g =
    let s = goes_from steps at to g in
    (a.each at s.step s.there).up to (sym (ap up_in s.there) ∙ g)

pub steps_within : (N : ℕ → ℕ → Type 0) (T S : ℕ → Type 0) (objects : List ℕ) (steps : List Step) → AreStepsOf N T S objects steps → AreWithin steps
steps_within N T S objects steps a at to g = (let p = goes_next N T S objects steps a at to g in let l = p.0 in let s = a.size in omega arith)

pub record Lands (objects : List ℕ) (steps : List Step) (at above : ℕ) : Type 0 where
  pub to : ℕ
  pub goes : Goes steps at to
  pub within : to < length objects
  pub is : get_or objects to 0 ≡ above

pub next_goes : (N : ℕ → ℕ → Type 0) (T S : ℕ → Type 0) (objects : List ℕ) (steps : List Step) → AreStepsOf N T S objects steps → (at above : ℕ) → at < length objects → N (get_or objects at 0) above → Contains objects above → Lands objects steps at above
next_goes N T S objects steps a at above l n c =
    let s = at_within steps at (let z = a.size in omega arith) in
    by s.step.up (ap up_in s.there) ((a.each at s.step s.there).place above n)
  where
    by : (o : Option ℕ) → up_of steps at ≡ o → IsPlaceIn objects above o → Lands objects steps at above
    by None e p = absurd (p c)
    by (Some to) e p = record { to = to; goes = e; within = p.0; is = p.1 }

pub above_objects : (N : ℕ → ℕ → Type 0) (T S : ℕ → Type 0) (objects : List ℕ) (steps : List Step) → AreStepsOf N T S objects steps → (a b : ℕ) → IsAbove (Goes steps) a b → IsAbove N (get_or objects a 0) (get_or objects b 0)
above_objects N T S objects steps t _ _ (climbing.next a b s) = climbing.next (get_or objects a 0) (get_or objects b 0) (goes_next N T S objects steps t a b s).1
above_objects N T S objects steps t _ _ (climbing.further a m b s p) = climbing.further (get_or objects a 0) (get_or objects m 0) (get_or objects b 0) (goes_next N T S objects steps t a m s).1 (above_objects N T S objects steps t m b p)

pub record Reaches (objects : List ℕ) (steps : List Step) (at above : ℕ) : Type 0 where
  pub to : ℕ
  pub within : to < length objects
  pub is : get_or objects to 0 ≡ above
  pub way : IsAbove (Goes steps) at to

pub above_places : (N : ℕ → ℕ → Type 0) (T S : ℕ → Type 0) (objects : List ℕ) (steps : List Step) → AreStepsOf N T S objects steps → ((o u : ℕ) → N o u → Contains objects o)
    → (x y at : ℕ) → IsAbove N x y → at < length objects → get_or objects at 0 ≡ x → Contains objects y → Reaches objects steps at y
above_places N T S objects steps t all _ _ at (climbing.next x y n) l e c =
    let g = next_goes N T S objects steps t at y l (subst (λ z. N z y) (sym e) n) c in
    record { to = g.to; within = g.within; is = g.is; way = climbing.next at g.to g.goes }
above_places N T S objects steps t all _ _ at (climbing.further x m y n p) l e c =
    let f = first_step N m y p in
    let g = next_goes N T S objects steps t at m l (subst (λ z. N z m) (sym e) n) (all m f.to f.step) in
    let r = above_places N T S objects steps t all m y g.to p g.within g.is c in
    record { to = r.to; within = r.within; is = r.is; way = climbing.further at g.to r.to g.goes r.way }

pub increasing_once : (objects : List ℕ) → IsStrictlyIncreasing objects → (a b : ℕ) → a < length objects → b < length objects → get_or objects a 0 ≡ get_or objects b 0 → a ≡ b
increasing_once objects up a b l m e = elim (order a b) [
  | inl lt ↦ (let h = AllPairs-from_increasing objects up a b 0 lt m in absurd (omega arith))
  | inr r ↦ elim r [
    | inl s ↦ s
    | inr gt ↦ (let h = AllPairs-from_increasing objects up b a 0 gt l in absurd (omega arith))
  ]
]
  where
    order : (a b : ℕ) → (a < b) ⊎ ((a ≡ b) ⊎ (b < a))
    order a b = grind arith

pub record IsAt (objects : List ℕ) (object at : ℕ) : Type 0 where
  pub within : at < length objects
  pub is : get_or objects at 0 ≡ object

pub stands : (objects : List ℕ) (object : ℕ) → Contains objects object → (at : ℕ) × IsAt objects object at
stands objects object c = (c.0, record { within = c.1; is = get_or_default objects c.0 0 object c.1 ∙ c.2 })

-- an object that comes again on its own way up has its place on a loop
pub round_place : (N : ℕ → ℕ → Type 0) (T S : ℕ → Type 0) (objects : List ℕ) (steps : List Step) → AreStepsOf N T S objects steps → ((o u : ℕ) → N o u → Contains objects o) → IsStrictlyIncreasing objects
    → (object at : ℕ) → IsAt objects object at → IsAbove N object object → IsRound steps at
round_place N T S objects steps t all up object at i r =
    let f = first_step N object object r in
    let p = above_places N T S objects steps t all object object at r i.within i.is (all object f.to f.step) in
    subst (λ n. IsAbove (Goes steps) at n) (increasing_once objects up p.to at p.within i.within (p.is ∙ sym i.is)) p.way

-- the first storey on the way up
pub finds_storey : (N : ℕ → ℕ → Type 0) (T S : ℕ → Type 0) (objects : List ℕ) (steps : List Step) → AreStepsOf N T S objects steps → (at storey : ℕ) → Finds steps at storey → IsFirstStorey N S (get_or objects at 0) storey
finds_storey N T S objects steps t _ _ (here at storey e) =
    let s = storey_from steps at storey e in
    let p = (t.each at s.step s.there).storey storey (sym (ap storey_in s.there) ∙ e) in
    climbing.found (get_or objects at 0) storey p.0 p.1
finds_storey N T S objects steps t _ _ (further at up storey e g f) =
    let s = goes_from steps at up g in
    let n = (goes_next N T S objects steps t at up g).1 in
    climbing.beyond (get_or objects at 0) (get_or objects up 0) storey n (λ h. (t.each at s.step s.there).other (sym (ap storey_in s.there) ∙ e) (get_or objects up 0) n h) (finds_storey N T S objects steps t up storey f)

pub first_up : (N : ℕ → ℕ → Type 0) (S : ℕ → Type 0) (x y : ℕ) → IsFirstStorey N S x y → (u : ℕ) × N x u
first_up N S _ _ (climbing.found x y n h) = (y, n)
first_up N S _ _ (climbing.beyond x u y n h f) = (u, n)

pub from_within : (steps : List Step) (at to : ℕ) → Goes steps at to → at < length steps
from_within steps at to g = (let s = goes_from steps at to g in slice_get_within steps at s.step s.there)

pub storey_finds : (N : ℕ → ℕ → Type 0) (T S : ℕ → Type 0) (objects : List ℕ) (steps : List Step) → AreStepsOf N T S objects steps → ((o u : ℕ) → N o u → Contains objects o) → ((o a b : ℕ) → N o a → N o b → a ≡ b)
    → (object storey at : ℕ) → IsFirstStorey N S object storey → IsAt objects object at → Finds steps at storey
storey_finds N T S objects steps t all once _ _ at (climbing.found object storey n h) i =
    let s = at_within steps at (let z = t.size in let l = i.within in omega arith) in
    let m = subst (λ x. N x storey) (sym i.is) n in
    by s.step.storey (ap storey_in s.there) (λ e. (t.each at s.step s.there).other e storey m h) (λ v e. once (get_or objects at 0) v storey ((t.each at s.step s.there).storey v e).0 m)
  where
    by : (o : Option ℕ) → storey_at steps at ≡ o → (o ≡ None → ⊥) → ((v : ℕ) → o ≡ Some v → v ≡ storey) → Finds steps at storey
    by None e n f = absurd (n refl)
    by (Some v) e n f = here at storey (e ∙ ap Some (f v refl))
storey_finds N T S objects steps t all once _ _ at (climbing.beyond object above storey n other f) i =
    let s = at_within steps at (let z = t.size in let l = i.within in omega arith) in
    let m = subst (λ x. N x above) (sym i.is) n in
    let c = all above (first_up N S above storey f).0 (first_up N S above storey f).1 in
    let g = next_goes N T S objects steps t at above i.within m c in
    by s.step.storey (ap storey_in s.there) (λ v e. (let p = (t.each at s.step s.there).storey v e in other (subst (λ x. S x) (once (get_or objects at 0) v above p.0 m) p.1))) g
    (storey_finds N T S objects steps t all once above storey g.to f (record { within = g.within; is = g.is }))
  where
    by : (o : Option ℕ) → storey_at steps at ≡ o → ((v : ℕ) → o ≡ Some v → ⊥) → (g : Lands objects steps at above) → Finds steps g.to storey → Finds steps at storey
    by None e n g f = further at g.to storey e g.goes f
    by (Some v) e n g f = absurd (n v refl)

-- the same for other words that say the same
pub next_map : (C D W V : ℕ → ℕ → Type 0) → ((o u : ℕ) → C o u → D o u) → ((o u : ℕ) → D o u → C o u) → ((o u : ℕ) → W o u → V o u) → ((o u : ℕ) → V o u → W o u) → (o u : ℕ) → IsNext C W o u → IsNext D V o u
next_map C D W V cd dc wv vw o u n = elim n [
  | inl x ↦ inl (record { has = cd o u x.has; only = λ y d. x.only y (dc o y d) })
  | inr x ↦ inr (λ y d. x.0 y (dc o y d), record { has = wv o u x.1.has; only = λ y v. x.1.only y (vw o y v) })
]

two_map : (P Q : ℕ → Type 0) → ((n : ℕ) → P n → Q n) → HasTwo P → HasTwo Q
two_map P Q f h = record { first = h.first; second = h.second; has_first = f h.first h.has_first; has_second = f h.second h.has_second; differ = h.differ }

pub torn_map : (C D W V : ℕ → ℕ → Type 0) → ((o u : ℕ) → C o u → D o u) → ((o u : ℕ) → W o u → V o u) → (o : ℕ) → HasTwo (C o) ⊎ HasTwo (W o) → HasTwo (D o) ⊎ HasTwo (V o)
torn_map C D W V cd wv o n = elim n [ inl x ↦ inl (two_map (C o) (D o) (cd o) x) | inr x ↦ inr (two_map (W o) (V o) (wv o) x) ]
