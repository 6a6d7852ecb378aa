-- How marks grow.
use Rattle.std.proofs.Common.{◌≡◌, ◌≢◌, ℕ, ◌+◌, ◌-◌, ◌*◌, ◌<◌, ◌≤◌, ◌⊎◌, inl, inr, true, false, nat_lt, if◌then◌else◌, List, [], ◌∷◌, ◌++◌, length, get_or, set, Some, Contains, Any, sym, ap, ◌∙◌, subst, arith, length-append}
use Rattle.std.proofs.lemmas.Bool.Decides.{nat_tests}
use Rattle.std.proofs.lemmas.List.{get_or-set_same, get_or-set_other, get_or_default, length-set, length_push}
use Rattle.std.proofs.lemmas.List.Sums.{sum_by-set}
use Rattle.std.proofs.lemmas.List.Elements.{Contains-append_left, Contains-push, Contains-push_cases}
use Rattle.p21_values.specs.declared.value.Instance.{Instance}
use Rattle.ifc_schema.specs.declared.form.Targets.{Targets}
use Rattle.ifc_schema.specs.declared.worklist.Mark.{Mark}
use Rattle.ifc_schema.specs.declared.worklist.Mark.TheVariants.{Unseen, Used as Met, Mapped}
use Rattle.ifc_schema.specs.declared.worklist.Work.{Work}
use Rattle.ifc_schema.specs.Forms.{holds}
use Rattle.p21_values.specs.InstancePlaces.{IsPlaceOf}
use Rattle.ifc_schema.specs.Used.{LeadsTo}
use Rattle.ifc_schema.specs.InstanceMarks.{rank, rank_at, mark_at, SoundAt, Grows, IsMarked}
use Rattle.p21_values.proofs.PlaceLemmas.{found_at, place_once}

pub grows_trans : (world : List Instance) (a b c : Work) → Grows world a b → Grows world b c → Grows world a c
grows_trans world a b c p q = record {
  size = q.size ∙ p.size;
  sound = λ h. q.sound (p.sound h);
  stacked = λ h. q.stacked (p.stacked h);
  rises = λ at. let x = p.rises at in let y = q.rises at in omega arith;
  pending = λ at. elim (q.pending at) [
    | inr k ↦ inr k
    | inl e ↦ elim (p.pending at) [ inl f ↦ inl (e ∙ f) | inr k ↦ inr (q.keeps at k) ]
  ];
  keeps = λ at h. q.keeps at (p.keeps at h);
  weight = let x = p.weight in let y = q.weight in omega arith;
}

-- marks stay
pub marked_on : (world : List Instance) (a b : Work) (least id : ℕ) → Grows world a b → IsMarked world a least id → IsMarked world b least id
marked_on world a b least id g m = λ at p. let x = g.rises at in let y = m at p in omega arith

rank_most : (m : Mark) → rank m ≤ 2
rank_most Unseen = omega arith
rank_most Met = omega arith
rank_most Mapped = omega arith

-- a mark is raised
raised : (world : List Instance) (old new : Work) (at : ℕ) (mark : Mark) → at < length old.marks.items → rank_at old at < rank mark → SoundAt world at mark
    → new.marks.items ≡ set old.marks.items at mark → new.stack.items ≡ old.stack.items ++ at ∷ [] → Grows world old new
raised world old new at mark lt up s em es =
    let here : mark_at new at ≡ mark = rw em (get_or-set_same old.marks.items at mark Unseen lt) in
    let other : (k : ℕ) → k ≢ at → mark_at new k ≡ mark_at old k = λ k n. rw em (get_or-set_other old.marks.items at k mark Unseen n) in
    let on : Contains new.stack.items at = rw es (Contains-push old.stack.items at) in
    record {
      size = rw em (length-set old.marks.items at mark);
      sound = λ h k. elim (same k at) [
        | inl e ↦ subst (λ j. SoundAt world j (mark_at new j)) (sym e) (subst (λ m. SoundAt world at m) (sym here) s)
        | inr n ↦ subst (λ m. SoundAt world k m) (sym (other k n)) (h k)
      ];
      stacked = λ h k c. elim (same k at) [
        | inl e ↦ (let f = ap rank here in rw e (omega arith))
        | inr n ↦ elim (Contains-push_cases old.stack.items at k (rw es at c)) [
          | inl c2 ↦ (let f = ap rank (other k n) in let g = h k c2 in omega arith)
          | inr e ↦ absurd (n (sym e))
        ]
      ];
      rises = λ k. elim (same k at) [
        | inl e ↦ (let f = ap rank here in rw e (omega arith))
        | inr n ↦ (let f = ap rank (other k n) in omega arith)
      ];
      pending = λ k. elim (same k at) [
        | inl e ↦ inr (rw e on)
        | inr n ↦ inl (other k n)
      ];
      keeps = λ k c. rw es (Contains-append_left old.stack.items (at ∷ []) k c);
      weight =
          let f = sum_by-set (λ m. 4 - 2 * rank m) old.marks.items at mark Unseen lt in
          let g = rank_most mark in
          rw (em, es) (omega (arith, length-append old.stack.items (at ∷ [])));
    }
  where
    same : (k n : ℕ) → (k ≡ n) ⊎ (k ≢ n)
    same k n = grind arith

order : (a b : ℕ) → ((a < b) × (nat_lt a b ≡ true)) ⊎ ((b ≤ a) × (nat_lt a b ≡ false))
order a b = grind (arith, nat_tests)

pub record Raised (world : List Instance) (old new : Work) (at : ℕ) (mark : Mark) : Type 0 where
  pub grows : Grows world old new
  pub reached : rank mark ≤ rank_at new at

-- what raising a mark does
pub raise_grows : (world : List Instance) (old new : Work) (at : ℕ) (mark : Mark) → at < length old.marks.items → SoundAt world at mark
    → new.marks.items ≡ (if nat_lt (rank_at old at) (rank mark) then set old.marks.items at mark else old.marks.items)
    → new.stack.items ≡ (if nat_lt (rank_at old at) (rank mark) then old.stack.items ++ at ∷ [] else old.stack.items)
    → Raised world old new at mark
raise_grows world old new at mark lt s em es = elim (order (rank_at old at) (rank mark)) [
  | inl t ↦ (
      let fm : new.marks.items ≡ set old.marks.items at mark = rw t.1 at em in
      let fs : new.stack.items ≡ old.stack.items ++ at ∷ [] = rw t.1 at es in
      let here : mark_at new at ≡ mark = rw fm (get_or-set_same old.marks.items at mark Unseen lt) in
      record { grows = raised world old new at mark lt t.0 s fm fs; reached = let f = ap rank here in omega arith })
  | inr f ↦ (
      let fm : new.marks.items ≡ old.marks.items = rw f.1 at em in
      let fs : new.stack.items ≡ old.stack.items = rw f.1 at es in
      let same : (k : ℕ) → mark_at new k ≡ mark_at old k = λ k. ap (λ (ms : List Mark). get_or ms k Unseen) fm in
      record {
        grows = record {
          size = ap length fm;
          sound = λ h k. subst (λ m. SoundAt world k m) (sym (same k)) (h k);
          stacked = λ h k c. let g = ap rank (same k) in let i = h k (rw fs at c) in omega arith;
          rises = λ k. let g = ap rank (same k) in omega arith;
          pending = λ k. inl (same k);
          keeps = λ k c. rw fs c;
          weight = rw (fm, fs) (omega arith);
        };
        reached = let g = ap rank (same at) in let h = f.0 in omega arith;
      })
]

-- a number leads to the instance at its place, which is meant
pub meant_there : (world : List Instance) (targets : Targets) (to at : ℕ) (i : Instance) → IsPlaceOf world to at → i ≡ get_or world at i → holds targets i.keyword ≡ true → LeadsTo world targets to
meant_there world targets to at i p e h = record { target = i; found = found_at world to at i p ∙ ap Some (sym e); meant = h }

pub not_meant : (world : List Instance) (targets : Targets) (to at : ℕ) (i : Instance) → IsPlaceOf world to at → i ≡ get_or world at i → holds targets i.keyword ≡ false → LeadsTo world targets to → ⊥
not_meant world targets to at i p e h l =
    let same : l.target ≡ i = (let f = found_at world to at i p in let g = l.found in cc) in
    let n = ap (λ (j : Instance). holds targets j.keyword) same in
    let m = l.meant in cc

-- a mark that is raised at the place of a number
pub reached_there : (world : List Instance) (new : Work) (to at low : ℕ) → IsPlaceOf world to at → low ≤ rank_at new at → (p : ℕ) → IsPlaceOf world to p → low ≤ rank_at new p
reached_there world new to at low here r p q = let e = place_once world to p at q here in rw e r

-- one more element of a list is dealt with
pub one_more : {X : Type 0} (D : Work → X → Type 0) (xs : List X) (old new : Work) (i : ℕ) (x : X) → i < length xs → x ≡ get_or xs i x → ((y : X) → D old y → D new y)
    → ((k : ℕ) → k < i → (d : X) → D old (get_or xs k d)) → D new x → (k : ℕ) → k < i + 1 → (d : X) → D new (get_or xs k d)
one_more D xs old new i x lt e on before here k l d = elim (last k i l) [
  | inl m ↦ on (get_or xs k d) (before k m d)
  | inr f ↦ (let g : x ≡ get_or xs k d = e ∙ (get_or_default xs i x d lt ∙ ap (λ j. get_or xs j d) (sym f)) in subst (D new) g here)
]
  where
    last : (k i : ℕ) → k < i + 1 → (k < i) ⊎ (k ≡ i)
    last k i l = grind arith

-- one more element of a list whose first elements were given
pub one_given : {X : Type 0} (D : Work → X → Type 0) (xs given : List X) (old new : Work) (x : X) → (length given < length xs) × (x ≡ get_or xs (length given) x) → ((y : X) → D old y → D new y)
    → ((k : ℕ) → k < length given → (d : X) → D old (get_or xs k d)) → D new x → (k : ℕ) → k < length (given ++ x ∷ []) → (d : X) → D new (get_or xs k d)
one_given D xs given old new x t on before here k l d = one_more D xs old new (length given) x t.0 t.1 on before here k (omega (arith, length_push given x)) d

-- what holds of each element, where it holds of one that is meant
pub any_of : {X : Type 0} (P : X → Type 0) (Q : Type 0) (xs : List X) (i : ℕ) → length xs ≤ i → ((k : ℕ) → k < i → (d : X) → P (get_or xs k d) → Q) → Any P xs → Q
any_of P Q xs i le h a = h a.0 (let lt = a.2 in omega arith) a.1 (subst P (sym a.3) a.4)
