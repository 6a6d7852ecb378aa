-- Identifiers in chains of one slot.
use Rattle.std.proofs.Common.{◌≡◌, ◌≢◌, ℕ, ◌+◌, ◌-◌, ◌<◌, ◌≤◌, ◌⊎◌, inl, inr, Bool, false, List, [], ◌∷◌, ◌++◌, length, map, get_or, set, sym, ◌∙◌, subst, ap, arith}
use Rattle.std.specs.Str.{bytes_eq}
use Rattle.std.proofs.lemmas.Slice.Eq.{bytes_eq-Decides}
use Rattle.std.proofs.lemmas.List.{get_or_append_left, get_or-set_same, get_or-set_other, get_or_push, get_or_default, get_or-map, length_push, length-map}
use Rattle.bim_model.specs.declared.element.Element.{Element}
use Rattle.model_walk.specs.Checked.{Differ}
use Rattle.model_walk.specs.inner.GuidSlots.{slot_seen, guids_seen, IsLastOf, AreNoted, AreChained, IsNew, IsSought}
use Rattle.model_walk.proofs.KeysDiffer.{from_keys}

abbrev guid_chars : Element → List ℕ
guid_chars element = element.guid.chars

abbrev slot_at : ℕ → List (List ℕ) → ℕ → ℕ
slot_at size guids k = slot_seen size (get_or guids k [])

by_place : (k place : ℕ) → (k < place) ⊎ ((k ≡ place) ⊎ (place < k))
by_place k place = grind arith

same_or : (k n : ℕ) → (k ≡ n) ⊎ (k ≢ n)
same_or k n = grind arith

below_or : (k n : ℕ) → k < n + 1 → (k < n) ⊎ (k ≡ n)
below_or k n lt = grind arith

-- the identifier of the element at a place
pub guid_there : (elements : List Element) (k : ℕ) (d : Element) → k < length elements → get_or (guids_seen elements) k [] ≡ (get_or elements k d).guid.chars
guid_there elements k d within =
    get_or-map guid_chars elements k d [] within

-- a chain begins at the note of the slot
pub sought_first : (size : ℕ) (guids : List (List ℕ)) (guid : List ℕ) (upto note slot : ℕ) → slot ≡ slot_seen size guid → IsLastOf size guids slot upto note → IsSought size guids guid upto note
sought_first size guids guid upto note slot e h = record {
  within = h.within;
  here = λ pos. h.here pos ∙ e;
  apart = λ k from lt same. h.none k from lt (ap (slot_seen size) same ∙ sym e);
}

-- and goes on at the note of the identifier, which is another one
pub sought_next : (size : ℕ) (guids : List (List ℕ)) (before : List ℕ) (guid : List ℕ) (other place : ℕ) → other ≡ place + 1 → AreChained size guids before → get_or guids place [] ≢ guid
    → IsSought size guids guid (length before) other → IsSought size guids guid (length before) (get_or before place 0)
sought_next size guids before guid other place e chained other_one h =
    let lt : place < length before = omega (arith, e, h.within) in
    let step = chained place lt in
    let p : other - 1 ≡ place = omega (arith, e) in
    let here : slot_seen size (get_or guids place []) ≡ slot_seen size guid = subst (λ n. slot_seen size (get_or guids n []) ≡ slot_seen size guid) p (h.here (omega (arith, e))) in record {
      within = omega (arith, step.within, lt);
      here = λ pos. step.here pos ∙ here;
      apart = λ k from below same. elim (by_place k place) [
        | inl l ↦ step.none k from l (ap (slot_seen size) same ∙ sym here)
        | inr r ↦ elim r [
          | inl is ↦ other_one (ap (λ n. get_or guids n []) (sym is) ∙ same)
          | inr above ↦ h.apart k (omega (arith, e, above)) below same
        ]
      ];
    }

-- the note of a chained identifier leads further down
pub falls : (size : ℕ) (guids : List (List ℕ)) (before : List ℕ) (upto other place : ℕ) → other ≡ place + 1 → upto ≡ length before → other ≤ upto → AreChained size guids before → get_or before place 0 < other
falls size guids before upto other place e n le chained =
    let step = chained place (omega (arith, e, n, le)) in
    omega (arith, step.within, e)

-- at a chain's end
pub sought_all : (size : ℕ) (guids : List (List ℕ)) (guid : List ℕ) (upto note : ℕ) → note ≡ 0 → IsSought size guids guid upto note → IsNew guids upto guid
sought_all size guids guid upto note e h = λ k lt same. h.apart k (omega (arith, e)) lt same

-- a test that failed
pub another : (guids : List (List ℕ)) (place : ℕ) (chars guid : List ℕ) (b : Bool) → get_or guids place [] ≡ chars → b ≡ bytes_eq chars guid → b ≡ false → get_or guids place [] ≢ guid
another guids place chars guid b e test apart same =
    let t = (bytes_eq-Decides chars guid).1 (sym e ∙ same) in
    absurd (cc)

-- one more is noted
pub noted_more : (size : ℕ) (guids : List (List ℕ)) (last : List ℕ) (at slot : ℕ) → length last ≡ size → slot < size → slot ≡ slot_seen size (get_or guids at []) → AreNoted size guids last at → AreNoted size guids (set last slot (at + 1)) (at + 1)
noted_more size guids last at slot n within is noted = λ s lt. elim (same_or s slot) [
  | inl e ↦ (
      let w : slot < length last = omega (arith, n, within) in
      let v : at + 1 ≡ get_or (set last slot (at + 1)) s 0 = sym (ap (λ m. get_or (set last slot (at + 1)) m 0) e ∙ get_or-set_same last slot (at + 1) 0 w) in
      subst (λ note. IsLastOf size guids s (at + 1) note) v (noted_here s (e ∙ is)))
  | inr ne ↦ (
      let v : get_or last s 0 ≡ get_or (set last slot (at + 1)) s 0 = sym (get_or-set_other last slot s (at + 1) 0 ne) in
      subst (λ note. IsLastOf size guids s (at + 1) note) v (noted_before s ne (noted s lt)))
]
  where
    noted_here : (s : ℕ) → s ≡ slot_seen size (get_or guids at []) → IsLastOf size guids s (at + 1) (at + 1)
    noted_here s e =
        let p : at ≡ at + 1 - 1 = omega arith in record {
          within = omega arith;
          here = λ pos. subst (λ m. slot_seen size (get_or guids m []) ≡ s) p (sym e);
          none = λ k from below. absurd (omega (arith, from, below));
        }

    noted_before : (s : ℕ) → s ≢ slot → IsLastOf size guids s at (get_or last s 0) → IsLastOf size guids s (at + 1) (get_or last s 0)
    noted_before s ne h = record {
      within = omega (arith, h.within);
      here = h.here;
      none = λ k from below same. elim (below_or k at below) [
        | inl l ↦ h.none k from l same
        | inr e ↦ ne (sym same ∙ (ap (λ m. slot_seen size (get_or guids m [])) e ∙ sym is))
      ];
    }

-- one more is chained
pub chained_more : (size : ℕ) (guids : List (List ℕ)) (before : List ℕ) (at slot note : ℕ) → length before ≡ at → slot ≡ slot_seen size (get_or guids at []) → IsLastOf size guids slot at note → AreChained size guids before → AreChained size guids (before ++ note ∷ [])
chained_more size guids before at slot note n is h chained = λ k lt. elim (below_or k (length before) (subst (λ m. k < m) (length_push before note) lt)) [
  | inl l ↦ (
      let v : get_or before k 0 ≡ get_or (before ++ note ∷ []) k 0 = sym (get_or_append_left before (note ∷ []) 0 k l) in
      subst (λ m. IsLastOf size guids (slot_at size guids k) k m) v (chained k l))
  | inr e ↦ (
      let a : at ≡ k = sym (e ∙ n) in
      let v : note ≡ get_or (before ++ note ∷ []) k 0 = sym (get_or_push before note 0 k (sym e)) in
      subst (λ m. IsLastOf size guids (slot_at size guids k) k m) v (subst (λ m. IsLastOf size guids (slot_at size guids m) m note) a (subst (λ s. IsLastOf size guids s at note) is h)))
]

-- elements of which each is new differ
pub news_differ : (elements : List Element) (upto : ℕ) → length elements ≤ upto → ((j : ℕ) → j < upto → IsNew (guids_seen elements) j (get_or (guids_seen elements) j [])) → Differ elements
news_differ elements upto le news = from_keys guid_chars elements (λ i j d lt within same.
    let m : i < length (map guid_chars elements) = omega (arith, lt, within) in
    let w : j < upto = omega (arith, le, within, length-map elements guid_chars) in
    news j w i lt (get_or_default (map guid_chars elements) i [] d m ∙ (same ∙ get_or_default (map guid_chars elements) j d [] within)))
