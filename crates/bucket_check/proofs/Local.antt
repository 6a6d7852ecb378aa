-- What is found among the members of a cell is what the cell owns.
use Rattle.std.proofs.Common.{◌≡◌, ℕ, ◌<◌, ◌≤◌, ◌⊎◌, inl, inr, Bool, true, false, cond, List, length, get_or, map, Option, Some, None, refl, sym, ap, ap₂, subst, arith, ◌∙◌}
use Rattle.std.specs.List.{AllPairs, Contains}
use Rattle.std.proofs.lemmas.Bool.{cases_eq, cases_lt}
use Rattle.std.proofs.lemmas.List.{get_or-map, length-map, get_or_default}
use Rattle.std.proofs.lemmas.List.Elements.{Contains-get_or}
use Rattle.bim_model.specs.declared.geometry.Extent.{Extent}
use Rattle.bim_model.specs.Rules.{IsRules}
use Rattle.bim_model.specs.Snapshots.{Version}
use Rattle.bim_model.specs.Keys.{subjects_of}
use Rattle.box_lanes.specs.BoxPlaces.{box_at}
use Rattle.bucket_grid.specs.declared.cell.Cell.{Cell}
use Rattle.bucket_grid.specs.Cells.{holds, members, IsOwner}
use Rattle.bucket_grid.specs.Subjects.{subject_at, IsBoxOf, AreBoxes}
use Rattle.bucket_grid.proofs.Zips.{zip_length}
use Rattle.bucket_grid.proofs.Rising.{places_rise, places_within}
use Rattle.bucket_check.specs.declared.pair.SetPair.{SetPair}
use Rattle.bucket_check.specs.Clashes.{clash_of, is_cell, owner, own_clashes, IsBefore}
use Rattle.bucket_check.specs.ClashSets.{own_rule, rule_at, number_at, pair_at, found_among}
use Rattle.bucket_check.proofs.Lists.{lists_one}
use Rattle.bucket_check.proofs.Pairs.{once, IsPairBy, pairs_list}
use Rattle.bucket_check.proofs.Owned.{clash_owned, member}
use Rattle.bucket_check.proofs.Merged.{one_cell, IsOwn, own_list}

-- a rule that is found: the cell owns the pair, and it is the rule by which the two clash
found_rule : (b : Bool) (o : Option ℕ) (r : ℕ) → cond b o None ≡ Some r → (b ≡ true) × (o ≡ Some r)
found_rule true o r e = (refl, e)
found_rule false o r e = cc

to_found : (b : Bool) (o : Option ℕ) (r : ℕ) → b ≡ true → o ≡ Some r → cond b o None ≡ Some r
to_found b o r e f = ap (λ t. cond t o None) e ∙ f

mapped : {X Y : Type 0} (f : X → Y) (xs : List X) (x : X) → Contains xs x → Contains (map f xs) (f x)
mapped f xs x c =
    let l : c.0 < length (map f xs) = omega (arith, c.1, length-map xs f) in
    (c.0, l, get_or-map f xs c.0 x (f x) c.1 ∙ ap f c.2)

-- the item after one of a list that was made
record From {X Y : Type 0} (f : X → Y) (xs : List X) (y : Y) : Type 0 where
  item : X
  is_in : Contains xs item
  is : f item ≡ y

from : {X Y : Type 0} (f : X → Y) (xs : List X) (d : X) (y : Y) → Contains (map f xs) y → From f xs y
from f xs d y c =
    let l : c.0 < length xs = omega (arith, c.1, length-map xs f) in
    record { item = get_or xs c.0 d; is_in = Contains-get_or xs c.0 d l; is = sym (get_or-map f xs c.0 d y l) ∙ c.2 }

abbrev first : SetPair
first = record { a = 0; b = 0; rule = 0 }

pairs_map : (f : SetPair → SetPair) (xs : List SetPair) → ((p q : SetPair) → Contains xs p → Contains xs q → IsBefore p q → IsBefore (f p) (f q)) → AllPairs IsBefore xs → AllPairs IsBefore (map f xs)
pairs_map f xs on rising i j d below within =
    let l : j < length xs = omega (arith, within, length-map xs f) in
    let k : i < length xs = omega (arith, below, l) in
    let p : SetPair = get_or xs i first in
    let q : SetPair = get_or xs j first in
    let t : IsBefore (f p) (f q) = on p q (Contains-get_or xs i first k) (Contains-get_or xs j first l) (rising i j first below l) in
    subst (λ x. IsBefore x (get_or (map f xs) j d)) (sym (get_or-map f xs i first d k)) (subst (λ x. IsBefore (f p) x) (sym (get_or-map f xs j first d l)) t)

module _ (version : Version) (boxes : List Extent) (cell : Cell) (few : IsRules version.rules) (are : AreBoxes (subjects_of version.models) boxes) where
  abbrev numbers : List ℕ
  numbers = members boxes cell

  abbrev rule : ℕ → ℕ → Option ℕ
  rule i j = rule_at version boxes cell numbers i j

  rises : AllPairs (λ (x y : ℕ). x < y) numbers
  rises = places_rise (holds cell) boxes numbers refl

  inside : (i : ℕ) → i < length numbers → number_at numbers i < length (subjects_of version.models)
  inside i h =
      let b : number_at numbers i < length boxes = places_within (holds cell) boxes numbers refl i 0 h in
      omega (arith, b, zip_length IsBoxOf (subjects_of version.models) boxes are)

  -- a pair of members is a clash that the cell owns
  owned : (l : SetPair) → IsPairBy (length numbers) rule l → IsOwn version boxes cell (pair_at numbers l)
  owned l is =
      let f = found_rule (is_cell (owner boxes (pair_at numbers l)) cell) (clash_of version.rules (subject_at (subjects_of version.models) (number_at numbers l.a)) (subject_at (subjects_of version.models) (number_at numbers l.b))) l.rule is.decided in
      (record { below = rises l.a l.b 0 is.below is.within; within = inside l.b is.within; decided = f.1 }, f.0)

  -- two members are in the order of their places
  in_order : (i j : ℕ) → i < length numbers → number_at numbers i < number_at numbers j → (i < j) ⊎ (j ≤ i) → i < j
  in_order i j h lt (inl k) = k
  in_order i j h lt (inr k) = absurd (turned (cases_eq i j))
    where
      turned : (i ≡ j) ⊎ (i ≡ j → ⊥) → ⊥
      turned (inl e) = omega (arith, lt, ap (number_at numbers) e)
      turned (inr ne) = omega (arith, lt, rises j i 0 (omega (arith, k, ne)) h)

  -- the places of a clash that the cell owns
  record Placed (p : SetPair) : Type 0 where
    l : SetPair
    is : IsPairBy (length numbers) rule l
    at : pair_at numbers l ≡ p

  same_pair : (a b c d r : ℕ) → a ≡ c → b ≡ d → let p : SetPair = record { a = a; b = b; rule = r } in let q : SetPair = record { a = c; b = d; rule = r } in p ≡ q
  same_pair a b c d r e f = ap (λ x. let p : SetPair = record { a = x; b = b; rule = r } in p) e ∙ ap (λ x. let p : SetPair = record { a = c; b = x; rule = r } in p) f

  placed : (p : SetPair) → IsOwn version boxes cell p → Placed p
  placed p o =
      let c = o.0 in
      let w = subst (λ t. IsOwner t (box_at boxes p.a) (box_at boxes p.b)) (one_cell (owner boxes p) cell o.1) (clash_owned version.rules (subjects_of version.models) boxes few are p c) in
      let a = member version.rules (subjects_of version.models) boxes few are cell p.a (omega (arith, c.below, c.within)) w.holds_a in
      let b = member version.rules (subjects_of version.models) boxes few are cell p.b c.within w.holds_b in
      let x : number_at numbers a.0 ≡ p.a = get_or_default numbers a.0 0 p.a a.1 ∙ a.2 in
      let y : number_at numbers b.0 ≡ p.b = get_or_default numbers b.0 0 p.b b.1 ∙ b.2 in
      let order : a.0 < b.0 = in_order a.0 b.0 a.1 (omega (arith, x, y, c.below)) (cases_lt a.0 b.0) in
      let there : pair_at numbers (record { a = a.0; b = b.0; rule = p.rule }) ≡ p = same_pair (number_at numbers a.0) (number_at numbers b.0) p.a p.b p.rule x y in
      record {
        l = record { a = a.0; b = b.0; rule = p.rule };
        is = record {
          below = order;
          within = b.1;
          decided = ap₂ (own_rule version boxes cell) x y ∙ to_found (is_cell (owner boxes p) cell) _ p.rule o.1 c.decided;
        };
        at = there;
      }

  before : (p q : SetPair) → IsPairBy (length numbers) rule p → IsPairBy (length numbers) rule q → IsBefore p q → IsBefore (pair_at numbers p) (pair_at numbers q)
  before p q s t (inl h) = inl (rises p.a q.a 0 h (omega (arith, t.below, t.within)))
  before p q s t (inr h) = inr (ap (number_at numbers) h.0, rises p.b q.b 0 h.1 t.within)

  pub found : map (pair_at numbers) (found_among version boxes cell numbers) ≡ own_clashes version boxes cell
  found =
      let list = pairs_list (length numbers) rule in
      let xs = found_among version boxes cell numbers in
      lists_one IsBefore once (IsOwn version boxes cell) (map (pair_at numbers) xs) (own_clashes version boxes cell)
      (record {
        rising = pairs_map (pair_at numbers) xs (λ p q a b h. before p q (list.each p a) (list.each q b) h) list.rising;
        each = λ p c. let f = from (pair_at numbers) xs first p c in subst (IsOwn version boxes cell) f.is (owned f.item (list.each f.item f.is_in));
        all = λ p o. let l = placed p o in subst (Contains (map (pair_at numbers) xs)) l.at (mapped (pair_at numbers) xs l.l (list.all l.l l.is));
      })
      (own_list version boxes cell)
