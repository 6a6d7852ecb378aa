-- The numbers of instances are listed place by place.
use Rattle.std.proofs.Common.{◌≡◌, ℕ, ◌+◌, ◌<◌, ◌≤◌, ◌⊎◌, inl, inr, Bool, true, false, List, [], ◌∷◌, ◌++◌, ◌&&◌, length, get_or, Option, Some, None, is_some, Contains, refl, sym, ap, ◌∙◌, subst, arith, length-append}
use Rattle.std.proofs.lemmas.List.{get_or_default, get_or-append-add}
use Rattle.std.proofs.Math.ListN.{get_or-append}
use Rattle.std.proofs.lemmas.List.Elements.{Contains-append_left, Contains-push, Contains-push_cases}
use Rattle.ifc_instances.proofs.Rising.{below_next}
use Rattle.p21_values.specs.declared.value.Instance.{Instance}
use Rattle.p21_values.specs.InstancePlaces.{Rises}
use Rattle.ifc_schema.specs.declared.flaw.Flaw.{Flaw}
use Rattle.ifc_schema.specs.declared.worklist.Mark.{Mark}
use Rattle.ifc_schema.specs.declared.worklist.Mark.TheVariants.{Unseen, Used as Met, Mapped}
use Rattle.ifc_schema.specs.declared.worklist.Work.{Work}
use Rattle.p21_values.specs.InstanceLookup.{look}
use Rattle.ifc_instances.specs.EntityLookup.{entity_at}
use Rattle.p21_values.specs.InstancePlaces.{IsPlaceOf}
use Rattle.ifc_schema.specs.Used.{Used, root, named, mapped, IsMapped, is_root}
use Rattle.ifc_schema.specs.InstanceMarks.{rank, rank_at, mark_at, is_seen, is_mapped, Known}
use Rattle.ifc_schema.specs.Flaws.{InstanceFlaw}
use Rattle.ifc_schema.specs.Surveys.{UsedFlaw, SurveyFault, IsModelElement, is_model_element, is_subject, Lists, fault_of}
use Rattle.ifc_schema.specs.inner.InstanceFaults.{FaultAt, CheckedAt, Checked, Below}
use Rattle.ifc_schema.specs.BodyRepresentations.{has_body}
use Rattle.p21_values.proofs.PlaceLemmas.{rising, place_found, some_instance}
use Rattle.ifc_schema.proofs.Following.{look_there, number_once, mapped_rank, rank_mapped}
use Rattle.bim_model.specs.declared.upload.UploadFault.{UploadFault}
use Rattle.ifc_instances.specs.declared.entity.Entity.{Entity}
use Rattle.ifc_instances.specs.declared.entity.Entity.TheVariants.{Subject}

pub record Found (world : List Instance) (id : ℕ) : Type 0 where
  pub instance : Instance
  pub found : look world id ≡ Some instance

-- what is used is there
pub used_found : (world : List Instance) (id : ℕ) → Used world id → Found world id
used_found world _ (root id i f r) = record { instance = i; found = f }
used_found world _ (named from to i u f n) = record { instance = n.names.leads.target; found = n.names.leads.found }
used_found world _ (mapped by from to m i u fm h f n) = record { instance = n.names.leads.target; found = n.names.leads.found }

-- what is mapped is there
pub mapped_found : (world : List Instance) (id : ℕ) → IsMapped world id → Found world id
mapped_found world id m = record { instance = m.maps.leads.target; found = m.maps.leads.found }

-- an earlier place has a lower number
lower : (world : List Instance) → Rises world → (a b k at : ℕ) → IsPlaceOf world a k → IsPlaceOf world b at → k < at → a < b
lower world rises a b k at p q lt =
    let up = rising world rises in
    let w = q.within in
    let x = up k at some_instance (omega arith) w in
    let y = p.number some_instance in
    let z = q.number some_instance in
    let n = q.first k lt some_instance in
    strict a b (omega arith) (λ e. n (y ∙ e))
  where
    strict : (a b : ℕ) → a ≤ b → (a ≡ b → ⊥) → a < b
    strict a b h n = grind arith

-- a lower number has an earlier place
pub earlier : (world : List Instance) → Rises world → (a b k at : ℕ) → IsPlaceOf world a k → IsPlaceOf world b at → a < b → k < at
earlier world rises a b k at p q lt =
    let up = rising world rises in
    let y = p.number some_instance in
    let z = q.number some_instance in
    elim (side k at) [
      | inl l ↦ l
      | inr g ↦ (let w = p.within in let x = up at k some_instance g w in absurd (omega arith))
    ]
  where
    side : (k n : ℕ) → (k < n) ⊎ (n ≤ k)
    side k n = grind arith

below_on : (world : List Instance) (at : ℕ) (P : ℕ → Type 0) (id : ℕ) → Below world at P id → Below world (at + 1) P id
below_on world at P id b = record { place = b.place; below = let l = b.below in omega arith; there = b.there; holds = b.holds }

below_last : (world : List Instance) (at : ℕ) (P : ℕ → Type 0) (id : ℕ) → Below world (at + 1) P id → (Below world at P id) ⊎ (IsPlaceOf world id at × P id)
below_last world at P id b = elim (below_next b.place at b.below) [
  | inl l ↦ inl (record { place = b.place; below = l; there = b.there; holds = b.holds })
  | inr e ↦ inr (subst (IsPlaceOf world id) e b.there, b.holds)
]

-- one more number
pub lists_more : (world : List Instance) (at id : ℕ) (P : ℕ → Type 0) (ids : List ℕ) → Rises world → IsPlaceOf world id at → P id
    → Lists (Below world at P) ids → Lists (Below world (at + 1) P) (ids ++ id ∷ [])
lists_more world at id P ids rises p h ls = record {
  rises = λ k l. elim (below_next (k + 1) (length ids) (let e = length-append ids (id ∷ []) in omega arith)) [
    | inl lt ↦ (
        let a = get_or-append ids (id ∷ []) 0 k (omega arith) in
        let b = get_or-append ids (id ∷ []) 0 (k + 1) lt in
        let x = ls.rises k lt in omega arith)
    | inr e ↦ (
        let a = get_or-append ids (id ∷ []) 0 k (omega arith) in
        let b = ap (λ j. get_or (ids ++ id ∷ []) j 0) e ∙ seam ids id in
        let c : Contains ids (get_or ids k 0) = (k, omega arith, get_or_default ids k (get_or ids k 0) 0 (omega arith)) in
        let w = ls.each (get_or ids k 0) c in
        let x = lower world rises (get_or ids k 0) id w.place at w.there p w.below in omega arith)
  ];
  each = λ n c. elim (Contains-push_cases ids id n c) [
    | inl d ↦ below_on world at P n (ls.each n d)
    | inr e ↦ subst (Below world (at + 1) P) e (record { place = at; below = omega arith; there = p; holds = h })
  ];
  all = λ n b. elim (below_last world at P n b) [
    | inl d ↦ Contains-append_left ids (id ∷ []) n (ls.all n d)
    | inr q ↦ subst (Contains (ids ++ id ∷ [])) (number_once world id n at p q.0) (Contains-push ids id)
  ];
}
  where
    seam : (ids : List ℕ) (id : ℕ) → get_or (ids ++ id ∷ []) (length ids) 0 ≡ id
    seam ids id = (let e = get_or-append-add ids (id ∷ []) 0 0 in ap (λ j. get_or (ids ++ id ∷ []) j 0) (zero_more (length ids)) ∙ e)
      where
        zero_more : (n : ℕ) → n ≡ n + 0
        zero_more n = omega arith

-- no more number
pub lists_same : (world : List Instance) (at : ℕ) (P : ℕ → Type 0) (ids : List ℕ) → ((id : ℕ) → IsPlaceOf world id at → P id → ⊥) → Lists (Below world at P) ids → Lists (Below world (at + 1) P) ids
lists_same world at P ids none ls = record {
  rises = ls.rises;
  each = λ n c. below_on world at P n (ls.each n c);
  all = λ n b. elim (below_last world at P n b) [
    | inl d ↦ ls.all n d
    | inr q ↦ absurd (none n q.0 q.1)
  ];
}

-- all numbers
pub lists_all : (world : List Instance) (at : ℕ) (P : ℕ → Type 0) (ids : List ℕ) → length world ≤ at → ((id : ℕ) → P id → Found world id) → Lists (Below world at P) ids → Lists P ids
lists_all world at P ids le found ls = record {
  rises = ls.rises;
  each = λ n c. (ls.each n c).holds;
  all = λ n h.
      let f = found n h in
      let p = place_found world n f.instance f.found in
      let w = p.place.within in
      ls.all n (record { place = p.at; below = omega arith; there = p.place; holds = h });
}

-- What is known of the instance at a place.

-- its flaw, checked as its mark says
pub used_flaw : (world : List Instance) (w : Work) (id at : ℕ) (i : Instance) (b : Bool) (f : Option Flaw) → Known world w → IsPlaceOf world id at → i ≡ get_or world at i → b ≡ is_mapped (mark_at w at)
    → InstanceFlaw world b i f → UsedFlaw world id f
used_flaw world w id at i b f k p e be h = record {
  instance = i;
  found = look_there world id at i p e;
  mapped = b;
  is_mapped = (
    λ t. let s = (k.sound at).mapped (mapped_rank (mark_at w at) (sym be ∙ t)) in subst (IsMapped world) (number_once world s.id id at s.place p) s.mapped,
    λ m. be ∙ rank_mapped (mark_at w at) (k.mapped id m at p),
  );
  flawed = h;
}

seen_rank : (m : Mark) → is_seen m ≡ false → rank m ≡ 0
seen_rank Unseen h = refl
seen_rank Met h = cc
seen_rank Mapped h = cc

rank_seen : (m : Mark) → is_seen m ≡ true → 0 < rank m
rank_seen Unseen h = cc
rank_seen Met h = omega arith
rank_seen Mapped h = omega arith

-- a mark that is read at a place
pub seen_there : (world : List Instance) (w : Work) (at : ℕ) (m : Mark) → Known world w → at < length world → m ≡ get_or w.marks.items at m → is_seen m ≡ true → 0 < rank_at w at
seen_there world w at m k lt e s =
    let d = ap rank (e ∙ get_or_default w.marks.items at m Unseen (let z = k.size in omega arith)) in
    let r = rank_seen m s in omega arith

-- nothing that is used stands where nothing was met
pub unseen_there : (world : List Instance) (w : Work) (at : ℕ) (m : Mark) → Known world w → at < length world → m ≡ get_or w.marks.items at m → is_seen m ≡ false → (id : ℕ) → IsPlaceOf world id at → Used world id → ⊥
unseen_there world w at m k lt e s id p u =
    let d = ap rank (e ∙ get_or_default w.marks.items at m Unseen (let z = k.size in omega arith)) in
    let z = seen_rank m s in
    let r = k.used id u at p in omega arith

unmapped_rank : (m : Mark) → is_mapped m ≡ false → rank m ≤ 1
unmapped_rank Unseen h = omega arith
unmapped_rank Met h = omega arith
unmapped_rank Mapped h = cc

-- a mark of what is mapped, read at a place
pub mapped_there : (world : List Instance) (w : Work) (at : ℕ) (m : Mark) → Known world w → at < length world → m ≡ get_or w.marks.items at m → is_mapped m ≡ true → 1 < rank_at w at
mapped_there world w at m k lt e s =
    let d = ap rank (e ∙ get_or_default w.marks.items at m Unseen (let z = k.size in omega arith)) in
    let r = mapped_rank m s in omega arith

-- nothing that is mapped stands where another mark is
pub unmapped_there : (world : List Instance) (w : Work) (at : ℕ) (m : Mark) → Known world w → at < length world → m ≡ get_or w.marks.items at m → is_mapped m ≡ false → (id : ℕ) → IsPlaceOf world id at → IsMapped world id → ⊥
unmapped_there world w at m k lt e s id p u =
    let d = ap rank (e ∙ get_or_default w.marks.items at m Unseen (let z = k.size in omega arith)) in
    let z = unmapped_rank m s in
    let r = k.mapped id u at p in omega arith

pub fault_there : (world : List Instance) (w : Work) (at : ℕ) (i : Instance) (flaw : Flaw) (fault : UploadFault) → Known world w → 0 < rank_at w at → i ≡ get_or world at i
    → ((id : ℕ) → IsPlaceOf world id at → UsedFlaw world id (Some flaw)) → fault ≡ fault_of i.id flaw → FaultAt world at fault
fault_there world w at i flaw fault k r e h t =
    let s = (k.sound at).used r in
    let n : i.id ≡ s.id = ap (λ (j : Instance). j.id) e ∙ s.place.number i in
    record { id = s.id; place = s.place; used = s.used; flaw = flaw; flawed = h s.id s.place; told = t ∙ ap (λ m. fault_of m flaw) n }

-- the first place that has a fault has the least number
pub least_there : (world : List Instance) (at : ℕ) (fault : UploadFault) → Rises world → FaultAt world at fault
    → ((k : ℕ) → k < at → (id : ℕ) → IsPlaceOf world id k → Used world id → UsedFlaw world id None) → SurveyFault world fault
least_there world at fault rises f before = record {
  id = f.id;
  used = f.used;
  flaw = f.flaw;
  flawed = f.flawed;
  told = f.told;
  least = λ n lt u.
      let g = used_found world n u in
      let p = place_found world n g.instance g.found in
      before p.at (earlier world rises n f.id p.at at p.place f.place lt) n p.place u;
}

pub all_checked : (world : List Instance) (at : ℕ) → length world ≤ at → ((k : ℕ) → k < at → (id : ℕ) → IsPlaceOf world id k → Used world id → UsedFlaw world id None)
    → (id : ℕ) → Used world id → UsedFlaw world id None
all_checked world at le before id u =
    let g = used_found world id u in
    let p = place_found world id g.instance g.found in
    let w = p.place.within in
    before p.at (omega arith) id p.place u

subject_root : (e : Option Entity) (b : Bool) → (is_subject e && b) ≡ true → is_root e ≡ true
subject_root (Some Subject) b h = refl
subject_root _ b h = cc

-- an element that has a body is used
pub element_used : (world : List Instance) (id : ℕ) → IsModelElement world id → Used world id
element_used world id h = root id h.instance h.found (subject_root (entity_at h.instance) (has_body world h.instance) h.element)

pub no_element : (world : List Instance) (at : ℕ) (i : Instance) → i ≡ get_or world at i → is_model_element world i ≡ false → (id : ℕ) → IsPlaceOf world id at → IsModelElement world id → ⊥
no_element world at i e f id p h =
    let same : h.instance ≡ i = (let g = look_there world id at i p e in let k = h.found in cc) in
    let a = ap (is_model_element world) same in
    let b = h.element in cc

pub element_there : (world : List Instance) (id at : ℕ) (i : Instance) → IsPlaceOf world id at → i ≡ get_or world at i → is_model_element world i ≡ true → IsModelElement world id
element_there world id at i p e t = record { instance = i; found = look_there world id at i p e; element = t }

-- one more number, of the instance at the place
pub push_there : (world : List Instance) (at : ℕ) (i : Instance) (s : ℕ) (P : ℕ → Type 0) (ids new : List ℕ) → Rises world → IsPlaceOf world s at → i ≡ get_or world at i
    → P s → Lists (Below world at P) ids → new ≡ ids ++ i.id ∷ [] → Lists (Below world (at + 1) P) new
push_there world at i s P ids new rises p e h ls n =
    let same : i.id ≡ s = ap (λ (j : Instance). j.id) e ∙ p.number i in
    let q : new ≡ ids ++ s ∷ [] = n ∙ ap (λ m. ids ++ m ∷ []) same in
    rw q (lists_more world at s P ids rises p h ls)

-- what one place answers, and what is known after it
pub checked_some : (world : List Instance) (at : ℕ) (o : Option UploadFault) → Rises world → is_some o ≡ true → CheckedAt world at o
    → ((k : ℕ) → k < at → (id : ℕ) → IsPlaceOf world id k → Used world id → UsedFlaw world id None) → Checked world o
checked_some world at None rises h k before = cc
checked_some world at (Some fault) rises h k before = least_there world at fault rises k before

pub checked_none : (world : List Instance) (at : ℕ) (o : Option UploadFault) → is_some o ≡ false → CheckedAt world at o → (id : ℕ) → IsPlaceOf world id at → Used world id → UsedFlaw world id None
checked_none world at None h k = k
checked_none world at (Some fault) h k = cc
