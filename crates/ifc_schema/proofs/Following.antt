-- Rows are followed until none is left: then exactly what is used is marked.
use Rattle.std.proofs.Common.{◌≡◌, ℕ, ◌-◌, ◌<◌, ◌≤◌, ◌⊎◌, inl, inr, Bool, true, false, not, nat_eq, List, [], ◌∷◌, ◌++◌, length, get_or, replicate, Option, Some, Contains, Any, refl, sym, ap, ◌∙◌, subst, arith}
use Rattle.std.specs.Bool.{OnTrue}
use Rattle.std.specs.List.{slice_get}
use Rattle.std.specs.List.Sorted.{IsNonDecreasingBy}
use Rattle.std.proofs.lemmas.Bool.{eqb-false}
use Rattle.std.proofs.lemmas.Option.{slice_get-get_or, get_or_from_slice_get}
use Rattle.std.proofs.lemmas.List.{get_or_default, get_or_past, get_or-replicate, length-replicate}
use Rattle.std.proofs.lemmas.List.Elements.{Contains-append_left, Contains-push_cases}
use Rattle.p21_values.specs.declared.value.Instance.{Instance}
use Rattle.p21_values.specs.InstancePlaces.{Rises}
use Rattle.ifc_instances.specs.declared.entity.Entity.{Entity}
use Rattle.ifc_instances.specs.declared.entity.Entity.TheVariants.{RepresentationMap, Representation}
use Rattle.ifc_schema.specs.declared.form.Attribute.{Attribute}
use Rattle.ifc_schema.specs.declared.form.Targets.TheVariants as targets
use Rattle.ifc_schema.specs.declared.form.Leaf.TheVariants as leaf
use Rattle.ifc_schema.specs.declared.form.Shape.TheVariants as shape
use Rattle.ifc_schema.specs.declared.form.Need.TheVariants.{Must}
use Rattle.ifc_schema.specs.declared.form.When.{When}
use Rattle.ifc_schema.specs.declared.form.When.TheVariants.{Always, WithBody, WithItems, OfLength}
use Rattle.ifc_schema.specs.declared.worklist.Mark.{Mark}
use Rattle.ifc_schema.specs.declared.worklist.Mark.TheVariants.{Unseen, Used as Met, Mapped}
use Rattle.ifc_schema.specs.declared.worklist.Work.{Work}
use Rattle.ifc_schema.specs.Used.{is_root, Used, root, named, mapped, IsMapped, Names, NamesBy, Maps}
use Rattle.ifc_schema.specs.AttributeTable.{row_of, attribute, row_at, row_or_none}
use Rattle.p21_values.specs.InstanceLookup.{look}
use Rattle.ifc_instances.specs.EntityLookup.{entity_at}
use Rattle.p21_values.specs.InstancePlaces.{IsPlaceOf}
use Rattle.ifc_schema.specs.BodyRepresentations.{applies}
use Rattle.ifc_schema.specs.InstanceMarks.{rank, rank_at, mark_at, is_mapped, SoundAt, Grows, IsMarked, IsFollowed, FollowedAt, IsRootAt, Going}
use Rattle.p21_values.proofs.PlaceLemmas.{rising, place_found, found_at, some_instance}

-- The instance at a place.

there : (world : List Instance) (at : ℕ) (i : Instance) → at < length world → i ≡ get_or world at i → slice_get world at ≡ Some i
there world at i lt e = slice_get-get_or world at i lt ∙ ap Some (sym e)

-- an instance that is looked up by the number of its place
pub look_there : (world : List Instance) (id at : ℕ) (i : Instance) → IsPlaceOf world id at → i ≡ get_or world at i → look world id ≡ Some i
look_there world id at i p e = found_at world id at i p ∙ ap Some (sym e)

-- a place has one number
pub number_once : (world : List Instance) (a b at : ℕ) → IsPlaceOf world a at → IsPlaceOf world b at → a ≡ b
number_once world a b at p q = sym (p.number some_instance) ∙ q.number some_instance

-- Following.

pub mapped_rank : (m : Mark) → is_mapped m ≡ true → 1 < rank m
mapped_rank Unseen h = cc
mapped_rank Met h = cc
mapped_rank Mapped h = omega arith

pub rank_mapped : (m : Mark) → 1 < rank m → is_mapped m ≡ true
rank_mapped Unseen h = absurd (omega arith)
rank_mapped Met h = absurd (omega arith)
rank_mapped Mapped h = refl

-- what a used instance names is used
pub names_used : (world : List Instance) (at : ℕ) (m : Mark) (i : Instance) → SoundAt world at m → 0 < rank m → i ≡ get_or world at i → (to : ℕ) → Names world (is_mapped m) i to → Used world to
names_used world at Unseen i s r e to n = absurd (omega arith)
names_used world at Met i s r e to n =
    let u = s.used r in
    named u.id to i u.used (look_there world u.id at i u.place e) n
names_used world at Mapped i s r e to n =
    let u = s.mapped (omega arith) in
    mapped u.mapped.by u.id to u.mapped.map i u.mapped.used u.mapped.found u.mapped.maps (look_there world u.id at i u.place e) n

in_row : (e : Option Entity) → e ≡ Some RepresentationMap → Contains (row_or_none e) (attribute 1 Always Must shape.One (leaf.Reference (targets.One Representation)))
unfolding row_of
in_row e h = rw h (1, omega arith, refl)

-- the representation that a map maps is named by it
pub maps_names : (world : List Instance) (m : Bool) (i : Instance) (to : ℕ) → Maps world i to → Names world m i to
maps_names world m i to h = record {
  attribute = attribute 1 Always Must shape.One (leaf.Reference (targets.One Representation));
  listed = in_row (entity_at i) h.map;
  names = record { applied = refl; value = h.value; there = h.there; stands = h.refers; leads = h.leads };
}

pub maps_mapped : (world : List Instance) (at : ℕ) (m : Mark) (i : Instance) → SoundAt world at m → 0 < rank m → i ≡ get_or world at i → (to : ℕ) → Maps world i to → IsMapped world to
maps_mapped world at m i s r e to h =
    let u = s.used r in
    record { by = u.id; map = i; used = u.used; found = look_there world u.id at i u.place e; maps = h }

pub any_names : (world : List Instance) (m : Bool) (i : Instance) (to : ℕ) → Any (λ (a : Attribute). NamesBy world m i a to) (row_at i) → Names world m i to
any_names world m i to a = record { attribute = a.1; listed = (a.0, a.2, a.3); names = a.4 }

pub names_any : (world : List Instance) (m : Bool) (i : Instance) (to : ℕ) → Names world m i to → Any (λ (a : Attribute). NamesBy world m i a to) (row_at i)
names_any world m i to n = (n.listed.0, n.attribute, n.listed.1, n.listed.2, n.names)

-- a mapped instance names what it names where it isn't
applies_more : (world : List Instance) (m : Bool) (i : Instance) (w : When) → applies world false i w ≡ true → applies world m i w ≡ true
applies_more world m i Always h = refl
applies_more world m i WithBody h = h
applies_more world false i WithItems h = h
applies_more world true i WithItems h = refl
applies_more world m i OfLength h = h

pub names_more : (world : List Instance) (m : Bool) (i : Instance) (to : ℕ) → Names world false i to → Names world m i to
names_more world m i to n = record {
  attribute = n.attribute;
  listed = n.listed;
  names = record { applied = applies_more world m i n.attribute.when n.names.applied; value = n.names.value; there = n.names.there; stands = n.names.stands; leads = n.names.leads };
}

-- One turn: a place is taken off the stack, and its row is followed.
pub going_on : (world : List Instance) (old taken new : Work) (at : ℕ) → Going world old → taken.marks.items ≡ old.marks.items → old.stack.items ≡ taken.stack.items ++ at ∷ []
    → Grows world taken new → FollowedAt world new (is_mapped (mark_at taken at)) at → Going world new
going_on world old taken new at g em es grows f =
    let same : (k : ℕ) → mark_at taken k ≡ mark_at old k = λ k. ap (λ (ms : List Mark). get_or ms k Unseen) em in
    record {
      size = grows.size ∙ (ap length em ∙ g.size);
      sound = grows.sound (λ k. subst (λ m. SoundAt world k m) (sym (same k)) (g.sound k));
      stacked = grows.stacked (λ k c. let h = g.stacked k (rw es (Contains-append_left taken.stack.items (at ∷ []) k c)) in let e = ap rank (same k) in omega arith);
      pending = λ k r. elim (grows.pending k) [
        | inr c ↦ inl c
        | inl e ↦ (
            let old_rank : 0 < rank_at old k = (let x = ap rank (e ∙ same k) in omega arith) in
            elim (g.pending k old_rank) [
              | inl c ↦ elim (Contains-push_cases taken.stack.items at k (rw es at c)) [
                | inl d ↦ inl (grows.keeps k d)
                | inr p ↦ inr (let q : is_mapped (mark_at taken at) ≡ is_mapped (mark_at new k) = ap (λ j. is_mapped (mark_at taken j)) p ∙ ap is_mapped (sym e) in
                    subst (λ j. FollowedAt world new (is_mapped (mark_at new k)) j) p (subst (λ b. FollowedAt world new b at) q f))
              ]
              | inr h ↦ inr (λ i t.
                  let n : IsFollowed world old (is_mapped (mark_at old k)) i = h i t in
                  let q : is_mapped (mark_at old k) ≡ is_mapped (mark_at new k) = ap is_mapped (sym (e ∙ same k)) in
                  let on : IsFollowed world new (is_mapped (mark_at old k)) i = record {
                    names = λ to s a p. let x = n.names to s a p in let y = ap rank (same a) in let z = grows.rises a in omega arith;
                    maps = λ to s a p. let x = n.maps to s a p in let y = ap rank (same a) in let z = grows.rises a in omega arith;
                  } in
                  subst (λ b. IsFollowed world new b i) q on)
            ])
      ];
    }

-- At first nothing is marked.

nothing_met : (n k : ℕ) → get_or (replicate n Unseen) k Unseen ≡ Unseen
nothing_met n k = elim (side k n) [ inl lt ↦ get_or-replicate n k Unseen Unseen lt | inr le ↦ past n k le ]
  where
    side : (k n : ℕ) → (k < n) ⊎ (n ≤ k)
    side k n = grind arith

    past : (n k : ℕ) → n ≤ k → get_or (replicate n Unseen) k Unseen ≡ Unseen
    past n k le = get_or_past (replicate n Unseen) k Unseen (rw length-replicate le)

pub going_first : (world : List Instance) (first new : Work) (n : ℕ) → n ≡ length world → first.marks.items ≡ replicate n Unseen → first.stack.items ≡ [] → Grows world first new → Going world new
going_first world first new n en em es g =
    let unseen : (k : ℕ) → mark_at first k ≡ Unseen = λ k. rw em (nothing_met n k) in
    record {
      size = g.size ∙ rw em (rw length-replicate en);
      sound = g.sound (λ k. rw (unseen k) (record { used = λ l. absurd (omega arith); mapped = λ l. absurd (omega arith) }));
      stacked = g.stacked (λ k c. let d : Contains {X = ℕ} [] k = rw es at c in let lt = d.1 in absurd (omega arith));
      pending = λ k r. elim (g.pending k) [
        | inl e ↦ (let x = ap rank (e ∙ unseen k) in absurd (omega arith))
        | inr c ↦ inl c
      ];
    }

-- At the end all that is used is marked, since nothing is left to follow.

done : (world : List Instance) (w : Work) → Going world w → w.stack.items ≡ [] → (at : ℕ) → 0 < rank_at w at → FollowedAt world w (is_mapped (mark_at w at)) at
done world w g s at r = elim (g.pending at r) [
  | inl c ↦ (let d : Contains {X = ℕ} [] at = rw s at c in let lt = d.1 in absurd (omega arith))
  | inr f ↦ f
]

followed_there : (world : List Instance) (w : Work) (id : ℕ) (i : Instance) (least : ℕ) → Going world w → w.stack.items ≡ [] → look world id ≡ Some i → IsMarked world w least id
    → (m : Mark) × (least < rank m) × IsFollowed world w (is_mapped m) i
followed_there world w id i least g s f marked =
    let p = place_found world id i f in
    let r = marked p.at p.place in
    let lt = p.place.within in
    (mark_at w p.at, r, done world w g s p.at (omega arith) i (there world p.at i lt (sym (p.there i))))

pub all_used : (world : List Instance) (w : Work) → Going world w → w.stack.items ≡ [] → ((at : ℕ) → IsRootAt world at → 0 < rank_at w at) → (id : ℕ) → Used world id → IsMarked world w 0 id
all_used world w g s r _ (root id i f e) = λ at p. r at (record { id = id; place = p; instance = i; found = f; root = e })
all_used world w g s r _ (named from to i u f n) =
    let q = followed_there world w from i 0 g s f (all_used world w g s r from u) in
    q.2.names to (names_more world (is_mapped q.0) i to n)
all_used world w g s r _ (mapped by from to m i u fm h f n) =
    let q = followed_there world w by m 0 g s fm (all_used world w g s r by u) in
    let t = followed_there world w from i 1 g s f (q.2.maps from h) in
    t.2.names to (subst (λ b. Names world b i to) (sym (rank_mapped t.0 t.1)) n)

pub all_mapped : (world : List Instance) (w : Work) → Going world w → w.stack.items ≡ [] → ((at : ℕ) → IsRootAt world at → 0 < rank_at w at) → (id : ℕ) → IsMapped world id → IsMarked world w 1 id
all_mapped world w g s r id h =
    let q = followed_there world w h.by h.map 0 g s h.found (all_used world w g s r h.by h.used) in
    q.2.maps id h.maps

-- The first of its number.

pub first_there : (xs : List Instance) (at : ℕ) (d e : Instance) (a b : ℕ) → 0 < at → at < length xs → Rises xs → slice_get xs (at - 1) ≡ Some d → slice_get xs at ≡ Some e → a ≡ d.id → b ≡ e.id
    → OnTrue (not (nat_eq a b)) ((i : Instance) → IsPlaceOf xs (get_or xs at i).id at)
first_there xs at d e a b some lt rises before here is_a is_b = by (nat_eq a b) refl
  where
    up : IsNonDecreasingBy (λ (i : Instance). i.id) xs
    up = rising xs rises

    by : (c : Bool) → nat_eq a b ≡ c → OnTrue (not c) ((i : Instance) → IsPlaceOf xs (get_or xs at i).id at)
    by true h = tt
    by false h = λ i. record {
      within = lt;
      number = λ c. ap (λ (j : Instance). j.id) (get_or_default xs at c i lt);
      first = λ k l c same.
          let x = up k (at - 1) c (omega arith) (omega arith) in
          let y = up (at - 1) at d (omega arith) lt in
          let f1 = ap (λ (j : Instance). j.id) (get_or_from_slice_get xs (at - 1) d c before) in
          let f2 = ap (λ (j : Instance). j.id) (get_or_from_slice_get xs at e i here) in
          let f3 = ap (λ (j : Instance). j.id) (get_or_from_slice_get xs at e d here) in
          let f4 = ap (λ (j : Instance). j.id) (get_or_from_slice_get xs (at - 1) d d before) in
          eqb-false a b h (omega arith);
    }

-- a place that has a mark is one of the marks'
pub marked_within : (ms : List Mark) (at : ℕ) → 0 < rank (get_or ms at Unseen) → at < length ms
marked_within ms at r = elim (side at (length ms)) [ inl lt ↦ lt | inr le ↦ (let e = ap rank (get_or_past ms at Unseen le) in absurd (omega arith)) ]
  where
    side : (k n : ℕ) → (k < n) ⊎ (n ≤ k)
    side k n = grind arith

-- the flag of a mark that is read at a place that has one
pub flag_there : (w : Work) (at : ℕ) → 0 < rank_at w at → (d : Mark) → is_mapped (get_or w.marks.items at d) ≡ is_mapped (mark_at w at)
flag_there w at r d = ap is_mapped (get_or_default w.marks.items at d Unseen (marked_within w.marks.items at r))

-- where nothing is taken off, all goes on as it was
pub going_same : (world : List Instance) (old new : Work) → Going world old → new.marks.items ≡ old.marks.items → new.stack.items ≡ old.stack.items → Going world new
going_same world old new g em es =
    let same : (k : ℕ) → mark_at new k ≡ mark_at old k = λ k. ap (λ (ms : List Mark). get_or ms k Unseen) em in
    record {
      size = ap length em ∙ g.size;
      sound = λ k. subst (λ m. SoundAt world k m) (sym (same k)) (g.sound k);
      stacked = λ k c. let h = g.stacked k (rw es at c) in let e = ap rank (same k) in omega arith;
      pending = λ k r. elim (g.pending k (let e = ap rank (same k) in omega arith)) [
        | inl c ↦ inl (rw es c)
        | inr f ↦ inr (λ i t.
            let n : IsFollowed world old (is_mapped (mark_at old k)) i = f i t in
            let on : IsFollowed world new (is_mapped (mark_at old k)) i = record {
              names = λ to s a p. let x = n.names to s a p in let y = ap rank (same a) in omega arith;
              maps = λ to s a p. let x = n.maps to s a p in let y = ap rank (same a) in omega arith;
            } in
            subst (λ b. IsFollowed world new b i) (ap is_mapped (sym (same k))) on)
      ];
    }

-- One root: it is marked, or the place is none.

pub root_sound : (world : List Instance) (at : ℕ) (i : Instance) → IsPlaceOf world i.id at → i ≡ get_or world at i → is_root (entity_at i) ≡ true → SoundAt world at Met
root_sound world at i p e r = record {
  used = λ _. record { id = i.id; place = p; used = root i.id i (look_there world i.id at i p e) r };
  mapped = λ l. absurd (omega arith);
}

pub no_root : (world : List Instance) (at : ℕ) (i : Instance) → i ≡ get_or world at i → is_root (entity_at i) ≡ false → IsRootAt world at → ⊥
no_root world at i e f r =
    let same : r.instance ≡ i = (let g = look_there world r.id at i r.place e in let h = r.found in cc) in
    let a = ap (λ (j : Instance). is_root (entity_at j)) same in
    let b = r.root in cc
