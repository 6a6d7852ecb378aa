-- How the first global identifier that stands twice is found.
use Rattle.std.proofs.Common.{◌≡◌, ℕ, ◌+◌, ◌<◌, ◌≤◌, inl, inr, true, false, cond, List, length, get_or, Some, Contains, refl, sym, ap, ◌∙◌, subst, arith}
use Rattle.std.proofs.lemmas.Bool.{cases_Bool, both_ways}
use Rattle.std.specs.Ordering.{nat_cmp, is_eq}
use Rattle.std.specs.Cmp.Lexicographic.{slice_cmp}
use Rattle.std.specs.declared.cmp.Ordering.{Ordering}
use Rattle.std.specs.declared.cmp.Ordering.TheVariants.{Less, Equal, Greater}
use Rattle.std.specs.List.Sorted.{IsStrictlyIncreasing}
use Rattle.std.specs.BTreeSet.{BTreeSet, contains, Updates}
use Rattle.std.proofs.lemmas.List.{get_or_default}
use Rattle.std.proofs.lemmas.List.Kept.{AllPairs-from_increasing}
use Rattle.std.proofs.lemmas.List.Elements.{Contains-get_or}
use Rattle.std.proofs.lemmas.Map.Lookups.{exact_bytes}
use Rattle.p21_values.specs.declared.value.Instance.{Instance}
use Rattle.ifc_instances.proofs.Rising.{earlier, below_next}
use Rattle.ifc_elements.specs.ElementTexts.{guid_of}
use Rattle.model_build.specs.DuplicateGuids.{HasGuid, RepeatsGuid, IsIdentified, HasNoGuid, NoneRepeats, IsFirstRepeated}

abbrev pub by_bytes : List ℕ → List ℕ → Ordering
by_bytes = slice_cmp nat_cmp

-- one of the first of the list has that identifier
pub record IsAmong (world : List Instance) (ids : List ℕ) (at : ℕ) (guid : List ℕ) : Type 0 where
  pub place : ℕ
  pub below : place < at
  pub there : HasGuid world (get_or ids place 0) guid

-- the identifiers of the first ones, none of which has that of one before it
pub record Searched (world : List Instance) (ids : List ℕ) (at : ℕ) (seen : BTreeSet (List ℕ)) : Type 0 where
  pub sound : (guid : List ℕ) → contains by_bytes seen guid ≡ true → IsAmong world ids at guid
  pub all : (guid : List ℕ) → IsAmong world ids at guid → contains by_bytes seen guid ≡ true
  pub none : (k : ℕ) → k < at → RepeatsGuid world (Contains ids) (get_or ids k 0) → ⊥

is_equal : (o : Ordering) → is_eq o ≡ true → o ≡ Equal
is_equal Less e = cc
is_equal Equal e = refl
is_equal Greater e = cc

-- an instance has one identifier
guid_once : (world : List Instance) (id : ℕ) (g h : List ℕ) → HasGuid world id g → HasGuid world id h → g ≡ h
guid_once world id g h f k =
    let same : f.instance ≡ k.instance = (let a = f.found in let b = k.found in cc) in
    let there : Some g ≡ Some h = sym f.holds ∙ ap guid_of same ∙ k.holds in
    cc

-- one that repeats an identifier has one that stands before it
repeats_earlier : (world : List Instance) (ids : List ℕ) (at : ℕ) (guid : List ℕ) → IsStrictlyIncreasing ids → at < length ids → HasGuid world (get_or ids at 0) guid → RepeatsGuid world (Contains ids) (get_or ids at 0) → IsAmong world ids at guid
repeats_earlier world ids at guid up lt here r =
    let e = earlier ids at (get_or ids at 0) r.lower up lt refl r.below r.of in
    record {
      place = e.0;
      below = e.1;
      there = subst (λ n. HasGuid world n guid) (sym e.2) (subst (λ g. HasGuid world r.lower g) (guid_once world (get_or ids at 0) r.guid guid r.here here) r.there);
    }

pub first_found : (world : List Instance) (ids : List ℕ) (at id : ℕ) (guid : List ℕ) (seen : BTreeSet (List ℕ)) → IsStrictlyIncreasing ids → at < length ids → id ≡ get_or ids at 0 → HasGuid world id guid
    → contains by_bytes seen guid ≡ true → Searched world ids at seen → IsFirstRepeated world ids id
first_found world ids at id guid seen up lt is here c s =
    let among = s.sound guid c in
    record {
      listed = subst (λ n. Contains ids n) (sym is) (Contains-get_or ids at 0 lt);
      repeats = record {
        guid = guid;
        here = here;
        lower = get_or ids among.place 0;
        below = subst (λ n. get_or ids among.place 0 < n) (sym is) (AllPairs-from_increasing ids up among.place at 0 among.below lt);
        of = Contains-get_or ids among.place 0 (let l = among.below in omega arith);
        there = among.there;
      };
      least = λ k below listed r. (
          let e = earlier ids at id k up lt (sym is) below listed in
          s.none e.0 e.1 (subst (λ n. RepeatsGuid world (Contains ids) n) (sym e.2) r));
    }

pub searched_more : (world : List Instance) (ids : List ℕ) (at id : ℕ) (guid : List ℕ) (old new : BTreeSet (List ℕ)) → IsStrictlyIncreasing ids → at < length ids → id ≡ get_or ids at 0 → HasGuid world id guid
    → contains by_bytes old guid ≡ false → Updates by_bytes old new guid true → Searched world ids at old → Searched world ids (at + 1) new
searched_more world ids at id guid old new up lt is given c u s =
    let here : HasGuid world (get_or ids at 0) guid = subst (λ n. HasGuid world n guid) is given in
    record {
      sound = λ g h. elim (cases_Bool (is_eq (by_bytes guid g))) [
        | inl t ↦ record { place = at; below = omega arith; there = subst (λ x. HasGuid world (get_or ids at 0) x) (exact_bytes guid g (is_equal (by_bytes guid g) t)) here }
        | inr f ↦ (
            let a = s.sound g (sym (u.2 g f) ∙ h) in
            record { place = a.place; below = (let l = a.below in omega arith); there = a.there })
      ];
      all = λ g a. elim (cases_Bool (is_eq (by_bytes guid g))) [
        | inl t ↦ u.0 g ∙ ap (λ b. cond b true (contains by_bytes old g)) t
        | inr f ↦ elim (below_next a.place at a.below) [
          | inl l ↦ u.2 g f ∙ s.all g (record { place = a.place; below = l; there = a.there })
          | inr e ↦ (
              let same : guid ≡ g = guid_once world (get_or ids at 0) guid g here (subst (λ n. HasGuid world (get_or ids n 0) g) e a.there) in
              subst (λ x. contains by_bytes new x ≡ true) same u.1)
        ]
      ];
      none = λ k l r. elim (below_next k at l) [
        | inl m ↦ s.none k m r
        | inr e ↦ both_ways (contains by_bytes old guid) c (s.all guid (repeats_earlier world ids at guid up lt here (subst (λ n. RepeatsGuid world (Contains ids) (get_or ids n 0)) e r)))
      ];
    }

pub none_repeat : (world : List Instance) (ids : List ℕ) (at : ℕ) (seen : BTreeSet (List ℕ)) → length ids ≤ at → Searched world ids at seen → NoneRepeats world ids
none_repeat world ids at seen l s id c r = s.none c.0 (let m = c.1 in omega arith) (subst (λ n. RepeatsGuid world (Contains ids) n) (sym (get_or_default ids c.0 0 id c.1 ∙ c.2)) r)

pub never_missing : (world : List Instance) (ids : List ℕ) (at id : ℕ) → at < length ids → id ≡ get_or ids at 0 → ((k : ℕ) → Contains ids k → IsIdentified world k) → HasNoGuid world id → ⊥
never_missing world ids at id lt is each none = none (each id (subst (λ n. Contains ids n) (sym is) (Contains-get_or ids at 0 lt)))
