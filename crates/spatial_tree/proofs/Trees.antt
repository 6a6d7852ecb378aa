-- From places back to the objects of a file.
use Rattle.std.proofs.Common.{◌≡◌, ℕ, ◌+◌, ◌-◌, ◌<◌, ◌≤◌, ◌==◌, ◌⊎◌, inl, inr, nat_lt, Bool, true, false, List, [], ◌∷◌, ◌++◌, length, get_or, Contains, Option, Some, None, refl, sym, ap, ◌∙◌, subst, arith}
use Rattle.std.proofs.lemmas.Bool.{cases_Bool}
use Rattle.std.specs.Ordering.{nat_cmp, is_lt}
use Rattle.std.specs.List.Sorted.{IsStrictlyIncreasing, IsNonDecreasingBy, IsSortedByKey}
use Rattle.std.proofs.lemmas.Bool.Decides.{nat_tests}
use Rattle.std.proofs.lemmas.List.{get_or_default}
use Rattle.std.proofs.lemmas.List.Kept.{AllPairs-from_increasing}
use Rattle.std.proofs.lemmas.List.Elements.{Contains-append_left, Contains-push, Contains-push_cases}
use Rattle.std.proofs.lemmas.List.Sorted.{IsNonDecreasingBy-push}
use Rattle.std.proofs.lemmas.Option.{same_Some, none-some}
use Rattle.ifc_instances.proofs.Rising.{below_next}
use Rattle.spatial_tree.specs.declared.step.Step.{Step}
use Rattle.spatial_tree.specs.declared.mark.Mark.{Mark}
use Rattle.spatial_tree.specs.declared.mark.Mark.TheVariants.{Unseen, OnWay, Looped, Settled}
use Rattle.spatial_tree.specs.declared.storey_tree.Placed.{Placed}
use Rattle.spatial_tree.specs.Climbing.{IsAbove, IsFirstStorey}
use Rattle.spatial_tree.specs.Placing.{placed, Tells, ArePlaced}
use Rattle.spatial_tree.specs.inner.UpwardSteps.{Goes, IsRound, Finds, here, further, storey_at, AreStepsOf}
use Rattle.spatial_tree.specs.inner.StoreyMarks.{mark_at, told_by, IsSurveyed, IsSettled, Says, IsDone}
use Rattle.spatial_tree.specs.inner.TreeFaults.{IsFaulty}
use Rattle.spatial_tree.proofs.Rounds.{first_step, one_up}
use Rattle.spatial_tree.proofs.Stepping.{IsAt, stands, at_within, round_place, above_objects, finds_storey, storey_finds, first_up, from_within}

pub increasing_rises : (xs : List ℕ) → IsStrictlyIncreasing xs → IsNonDecreasingBy (λ x. x) xs
increasing_rises xs up i j d l m = elim (order i j l) [
  | inl lt ↦ (let h = AllPairs-from_increasing xs up i j d lt m in omega arith)
  | inr e ↦ subst (λ n. get_or xs i d ≤ get_or xs n d) e (omega arith)
]
  where
    order : (i j : ℕ) → i ≤ j → (i < j) ⊎ (i ≡ j)
    order i j l = grind arith

-- The list of objects with storeys.

tells_more : (objects : List ℕ) (marks : List Mark) (at o s : ℕ) → Tells objects marks at o s → Tells objects marks (at + 1) o s
tells_more objects marks at o s t = record { place = t.place; within = (let l = t.within in omega arith); is = t.is; marked = t.marked }

pub placed_passed : (objects : List ℕ) (marks : List Mark) (at : ℕ) (list : List Placed) → ((s : ℕ) → mark_at marks at ≡ Settled (Some s) → ⊥) → ArePlaced objects marks at list → ArePlaced objects marks (at + 1) list
placed_passed objects marks at list n p = record {
  sound = λ o s c. tells_more objects marks at o s (p.sound o s c);
  all = λ o s t. elim (below_next t.place at t.within) [
    | inl l ↦ p.all o s (record { place = t.place; within = l; is = t.is; marked = t.marked })
    | inr e ↦ absurd (n s (ap (mark_at marks) (sym e) ∙ t.marked))
  ];
}

pub placed_pushed : (objects : List ℕ) (marks : List Mark) (at object storey : ℕ) (list : List Placed) → get_or objects at 0 ≡ object → mark_at marks at ≡ Settled (Some storey) → ArePlaced objects marks at list
    → ArePlaced objects marks (at + 1) (list ++ placed object storey ∷ [])
placed_pushed objects marks at object storey list is m p = record {
  sound = λ o s c. elim (Contains-push_cases list (placed object storey) (placed o s) c) [
    | inl b ↦ tells_more objects marks at o s (p.sound o s b)
    | inr e ↦ record { place = at; within = omega arith; is = is ∙ ap (λ (x : Placed). x.object) e; marked = m ∙ ap (λ (x : Placed). Settled (Some x.storey)) e }
  ];
  all = λ o s t. elim (below_next t.place at t.within) [
    | inl l ↦ Contains-append_left list (placed object storey ∷ []) (placed o s) (p.all o s (record { place = t.place; within = l; is = t.is; marked = t.marked }))
    | inr e ↦ (
        let a : object ≡ o = sym is ∙ ap (λ n. get_or objects n 0) (sym e) ∙ t.is in
        let b : storey ≡ s = told storey s (sym m ∙ ap (mark_at marks) (sym e) ∙ t.marked) in
        subst (λ n. Contains (list ++ placed object storey ∷ []) (placed o n)) b (subst (λ n. Contains (list ++ placed object storey ∷ []) (placed n storey)) a (Contains-push list (placed object storey))))
  ];
}
  where
    told : (a b : ℕ) → Settled (Some a) ≡ Settled (Some b) → a ≡ b
    told a b e = cc

-- the list rises
pub placed_rises : (objects : List ℕ) (marks : List Mark) (at object storey : ℕ) (list : List Placed) → IsStrictlyIncreasing objects → at < length objects → get_or objects at 0 ≡ object → ArePlaced objects marks at list
    → IsNonDecreasingBy (λ (p : Placed). p.object) list → IsNonDecreasingBy (λ (p : Placed). p.object) (list ++ placed object storey ∷ [])
placed_rises objects marks at object storey list up l is p r = IsNonDecreasingBy-push (λ (p : Placed). p.object) list (placed object storey) r (λ d some. below (length list - 1) d (omega arith))
  where
    below : (k : ℕ) (d : Placed) → k < length list → (get_or list k d).object ≤ object
    below k d m =
        let e = get_or list k d in
        let t = p.sound (get_or list k d).object (get_or list k d).storey (k, m, get_or_default list k (placed (get_or list k d).object (get_or list k d).storey) d m) in
        let h = AllPairs-from_increasing objects up t.place at 0 t.within l in
        let i = t.is in
        omega arith

pub told_settled : (m : Mark) (s : ℕ) → told_by m ≡ Some s → m ≡ Settled (Some s)
told_settled (Settled o) s e = ap Settled e
told_settled Unseen s e = absurd cc
told_settled OnWay s e = absurd cc
told_settled Looped s e = absurd cc

pub listed_at : (list : List Placed) (id at : ℕ) (d : Placed) → at < length list → (get_or list at d).object ≡ id → Contains list (placed id (get_or list at d).storey)
listed_at list id at d l e =
    (at, l, get_or_default list at (placed id (get_or list at d).storey) d l ∙ ap (λ o. placed o (get_or list at d).storey) e)

-- what a search found
pub found_placed : (list lent : List Placed) (id at : ℕ) (x : Placed) → lent ≡ list → at < length lent → x ≡ get_or list at x → (get_or lent at x).object ≡ id → Contains list (placed id x.storey)
found_placed list lent id at x e l is o =
    let m : at < length list = (let a = ap length e in omega arith) in
    let b : (get_or list at x).object ≡ id = ap (λ l. (get_or l at x).object) (sym e) ∙ o in
    subst (λ y. Contains list (placed id y)) (ap (λ (p : Placed). p.storey) (sym is)) (listed_at list id at x m b)

pub unlisted : (list : List Placed) (id : ℕ) → ((k : ℕ) (d : Placed) → k < length list → (get_or list k d).object ≡ id → ⊥) → (storey : ℕ) → Contains list (placed id storey) → ⊥
unlisted list id n storey c = n c.0 (placed id storey) c.1 (ap (λ (p : Placed). p.object) c.2)

-- What is found is what the relations say.

pub record Beyond (steps : List Step) (at storey : ℕ) : Type 0 where
  pub none : storey_at steps at ≡ None
  pub up : ℕ
  pub goes : Goes steps at up
  pub rest : Finds steps up storey

found_how : (steps : List Step) (at storey : ℕ) → Finds steps at storey → (storey_at steps at ≡ Some storey) ⊎ Beyond steps at storey
found_how steps _ _ (here at storey e) = inl e
found_how steps _ _ (further at up storey n g f) = inr (record { none = n; up = up; goes = g; rest = f })

-- a place finds one storey
pub finds_once : (steps : List Step) (at a b : ℕ) → Finds steps at a → Finds steps at b → a ≡ b
finds_once steps _ _ c (here at b e) q = elim (found_how steps at c q) [
  | inl f ↦ same_Some b c (sym e ∙ f)
  | inr r ↦ absurd (none-some b (sym r.none ∙ e))
]
finds_once steps _ _ c (further at up b n g p) q = elim (found_how steps at c q) [
  | inl f ↦ absurd (none-some c (sym n ∙ f))
  | inr r ↦ finds_once steps up b c p (subst (λ x. Finds steps x c) (one_up steps at r.up up r.goes g) r.rest)
]

-- steps and marks of all objects
pub record Table (N : ℕ → ℕ → Type 0) (T S : ℕ → Type 0) (objects : List ℕ) (steps : List Step) (marks : List Mark) : Type 0 where
  pub steps_are : AreStepsOf N T S objects steps
  pub all : (o u : ℕ) → N o u → Contains objects o
  pub torn_all : (o : ℕ) → T o → Contains objects o
  pub once : (o a b : ℕ) → N o a → N o b → a ≡ b
  pub rises : IsStrictlyIncreasing objects
  pub surveyed : IsSurveyed steps marks

abbrev pub IsWrong : (ℕ → ℕ → Type 0) → (ℕ → Type 0) → ℕ → Type 0
IsWrong N T object = T object ⊎ IsAbove N object object

pub wrong_object : (N : ℕ → ℕ → Type 0) (T S : ℕ → Type 0) (objects : List ℕ) (steps : List Step) (marks : List Mark) → Table N T S objects steps marks → (object : ℕ) → IsWrong N T object → Contains objects object
wrong_object N T S objects steps marks t object w = elim w [
  | inl x ↦ t.torn_all object x
  | inr r ↦ (let f = first_step N object object r in t.all object f.to f.step)
]

-- where a place is on a loop it is marked so
round_marked : (N : ℕ → ℕ → Type 0) (T S : ℕ → Type 0) (objects : List ℕ) (steps : List Step) (marks : List Mark) → Table N T S objects steps marks → (at : ℕ) → at < length steps → IsRound steps at → mark_at marks at ≡ Looped
round_marked N T S objects steps marks t at l r = by (mark_at marks at) refl (t.surveyed.done at l) (t.surveyed.says at)
  where
    by : (m : Mark) → mark_at marks at ≡ m → IsDone m → Says steps at m → mark_at marks at ≡ Looped
    by Unseen e d s = absurd d
    by OnWay e d s = absurd d
    by Looped e d s = e
    by (Settled o) e d s = absurd (s.single r)

pub fault_there : (N : ℕ → ℕ → Type 0) (T S : ℕ → Type 0) (objects : List ℕ) (steps : List Step) (marks : List Mark) → Table N T S objects steps marks → (at : ℕ) → IsFaulty steps marks at → IsWrong N T (get_or objects at 0)
fault_there N T S objects steps marks t at f = elim f.wrong [
  | inl x ↦ inl ((t.steps_are.each at f.step f.there).torn x)
  | inr m ↦ (let r : IsRound steps at = subst (λ x. Says steps at x) m (t.surveyed.says at) in inr (above_objects N T S objects steps t.steps_are at at r))
]

pub fault_found : (N : ℕ → ℕ → Type 0) (T S : ℕ → Type 0) (objects : List ℕ) (steps : List Step) (marks : List Mark) → Table N T S objects steps marks → (object at : ℕ) → IsAt objects object at → IsWrong N T object → IsFaulty steps marks at
fault_found N T S objects steps marks t object at i w =
    let l : at < length steps = (let z = t.steps_are.size in let b = i.within in omega arith) in
    let s = at_within steps at l in
    record {
      step = s.step;
      there = s.there;
      wrong = elim w [
        | inl x ↦ inl ((t.steps_are.each at s.step s.there).whole (subst T (sym i.is) x))
        | inr r ↦ inr (round_marked N T S objects steps marks t at l (round_place N T S objects steps t.steps_are t.all t.rises object at i r))
      ];
    }

pub none_wrong : (N : ℕ → ℕ → Type 0) (T S : ℕ → Type 0) (objects : List ℕ) (steps : List Step) (marks : List Mark) → Table N T S objects steps marks → ((at : ℕ) → IsFaulty steps marks at → ⊥) → (object : ℕ) → IsWrong N T object → ⊥
none_wrong N T S objects steps marks t n object w =
    let i = stands objects object (wrong_object N T S objects steps marks t object w) in
    n i.0 (fault_found N T S objects steps marks t object i.0 i.1 w)

pub none_lower : (N : ℕ → ℕ → Type 0) (T S : ℕ → Type 0) (objects : List ℕ) (steps : List Step) (marks : List Mark) → Table N T S objects steps marks → (at : ℕ) → at < length objects
    → ((k : ℕ) → k < at → IsFaulty steps marks k → ⊥) → (lower : ℕ) → lower < get_or objects at 0 → IsWrong N T lower → ⊥
none_lower N T S objects steps marks t at l n lower b w =
    let i = stands objects lower (wrong_object N T S objects steps marks t lower w) in
    n i.0 (before i.0 i.1) (fault_found N T S objects steps marks t lower i.0 i.1 w)
  where
    split : (k n : ℕ) → (k < n) ⊎ ((k ≡ n) ⊎ (n < k))
    split k n = grind arith

    before : (k : ℕ) → IsAt objects lower k → k < at
    before k i = elim (split k at) [
      | inl x ↦ x
      | inr r ↦ elim r [
        | inl e ↦ (let f = ap (λ x. get_or objects x 0) e in let g = i.is in absurd (omega arith))
        | inr g ↦ (let h = AllPairs-from_increasing objects t.rises at k 0 g i.within in let j = i.is in absurd (omega arith))
      ]
    ]

-- where there is no fault, the marks tell the storeys
pub storey_told : (N : ℕ → ℕ → Type 0) (T S : ℕ → Type 0) (objects : List ℕ) (steps : List Step) (marks : List Mark) → Table N T S objects steps marks → (o s : ℕ) → Tells objects marks (length objects) o s → IsFirstStorey N S o s
storey_told N T S objects steps marks t o s h =
    let z : IsSettled steps h.place (Some s) = subst (λ x. Says steps h.place x) h.marked (t.surveyed.says h.place) in
    subst (λ x. IsFirstStorey N S x s) h.is (finds_storey N T S objects steps t.steps_are h.place s z.answers)

pub told_storey : (N : ℕ → ℕ → Type 0) (T S : ℕ → Type 0) (objects : List ℕ) (steps : List Step) (marks : List Mark) → Table N T S objects steps marks → ((at : ℕ) → IsFaulty steps marks at → ⊥) → (o s : ℕ) → IsFirstStorey N S o s → Tells objects marks (length objects) o s
told_storey N T S objects steps marks t n o s f =
    let u = first_up N S o s f in
    let i = stands objects o (t.all o u.0 u.1) in
    let l : i.0 < length steps = (let z = t.steps_are.size in let b = i.1.within in omega arith) in
    record { place = i.0; within = i.1.within; is = i.1.is; marked = by i.0 l (storey_finds N T S objects steps t.steps_are t.all t.once o s i.0 f i.1) (mark_at marks i.0) refl (t.surveyed.done i.0 l) (t.surveyed.says i.0) }
  where
    faulty : (at : ℕ) → at < length steps → mark_at marks at ≡ Looped → IsFaulty steps marks at
    faulty at l e = (let s = at_within steps at l in record { step = s.step; there = s.there; wrong = inr e })

    on_loop : (at : ℕ) → IsRound steps at → ⊥
    on_loop at r =
        let g = first_step (Goes steps) at at r in
        let l = from_within steps at g.to g.step in
        n at (faulty at l (round_marked N T S objects steps marks t at l r))

    by : (at : ℕ) → at < length steps → Finds steps at s → (m : Mark) → mark_at marks at ≡ m → IsDone m → Says steps at m → mark_at marks at ≡ Settled (Some s)
    by at l f Unseen e d x = absurd d
    by at l f OnWay e d x = absurd d
    by at l f Looped e d x = absurd (n at (faulty at l e))
    by at l f (Settled None) e d x = elim x.answers [ inl k ↦ absurd (k s f) | inr h ↦ absurd (on_loop h.member h.round) ]
    by at l f (Settled (Some v)) e d x = e ∙ ap (λ y. Settled (Some y)) (finds_once steps at v s x.answers f)
