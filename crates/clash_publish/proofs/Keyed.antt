-- The list of all clashes by keys.
use Rattle.std.proofs.Common.{◌≡◌, ℕ, ◌<◌, inl, inr, List, length, get_or, map, IsTrue, refl, sym, ap, ap₂, subst, arith, ◌∙◌}
use Rattle.std.specs.List.{AllPairs, Contains}
use Rattle.std.specs.declared.cmp.Ordering.{Ordering}
use Rattle.std.specs.declared.cmp.Ordering.TheVariants.{Less, Equal, Greater}
use Rattle.std.specs.Cmp.{IsTotalOrder}
use Rattle.std.specs.Ordering.{nat_cmp, ordering_then, ordering_reverse, is_lt}
use Rattle.std.proofs.lemmas.Bool.{cases_order}
use Rattle.std.proofs.lemmas.Cmp.{nat_list_cmp_total, on_total, then_total, tied_itself}
use Rattle.std.proofs.lemmas.List.{get_or_default, get_or-map, length-map}
use Rattle.std.proofs.lemmas.List.Elements.{All-contains, All-map, All-weaker}
use Rattle.bim_model.specs.declared.keys.ElementKey.{ElementKey}
use Rattle.bim_model.specs.declared.keys.Pair.{Pair}
use Rattle.bim_model.specs.Snapshots.{Version, IsSnapshot}
use Rattle.bim_model.specs.Keys.{Subject, subjects_of, key_of, key_cmp, is_key_below, IsBelow}
use Rattle.bim_model.proofs.Versions.{less}
use Rattle.bim_model.proofs.Rising.{subjects_rise}
use Rattle.bucket_grid.specs.Subjects.{nobody}
use Rattle.bucket_check.specs.declared.pair.SetPair.{SetPair}
use Rattle.bucket_check.specs.Clashes.{clashes, IsBefore}
use Rattle.bucket_check.proofs.Lists.{all_have}
use Rattle.clash_publish.specs.Listed.{element_of, ClashBy, IsClash, by_keys, IsKeyClash, IsKeyBefore}
use Rattle.clash_publish.specs.ClashListLaws.{AreKeyClashes}
use Rattle.clash_publish.proofs.Reasons.{listed}

key_order : IsTotalOrder key_cmp
key_order = then_total (on_total (λ (k : ElementKey). k.model) nat_list_cmp_total) (on_total (λ (k : ElementKey). k.guid.chars) nat_list_cmp_total)

then_less : (o r : Ordering) → o ≡ Less → IsTrue (is_lt (ordering_then o r))
then_less o r e = subst (λ x. IsTrue (is_lt (ordering_then x r))) (sym e) refl

then_equal : (o r : Ordering) → o ≡ Equal → IsTrue (is_lt r) → IsTrue (is_lt (ordering_then o r))
then_equal o r e h = subst (λ x. IsTrue (is_lt (ordering_then x r))) (sym e) h

-- no key is below another that is below it
not_back : (k l : ElementKey) → IsTrue (is_key_below k l) → IsTrue (is_key_below l k) → ⊥
not_back k l h b =
    let first : key_cmp k l ≡ Less = less (key_cmp k l) h in
    let second : key_cmp l k ≡ Less = less (key_cmp l k) b in
    let turned : key_cmp k l ≡ Greater = key_order.antisymm k l ∙ ap ordering_reverse second in
    let wrong : Less ≡ Greater = sym first ∙ turned in
    cc

map_pairs : {X Y : Type 0} (f : X → Y) (R : Y → Y → Type 0) (e : X) (xs : List X) → AllPairs (λ x y. R (f x) (f y)) xs → AllPairs R (map f xs)
map_pairs f R e xs h i j d below within =
    let long = length-map xs f in
    let first : get_or (map f xs) i d ≡ f (get_or xs i e) = get_or-map f xs i e d (omega arith) in
    let second : get_or (map f xs) j d ≡ f (get_or xs j e) = get_or-map f xs j e d (omega arith) in
    subst (λ y. R y (get_or (map f xs) j d)) (sym first) (subst (R (f (get_or xs i e))) (sym second) (h i j e below (omega arith)))

map_contains : {X Y : Type 0} (f : X → Y) (xs : List X) (x : X) → Contains xs x → Contains (map f xs) (f x)
map_contains f xs x c =
    let long = length-map xs f in
    (c.0, omega (arith, c.1), get_or-map f xs c.0 x (f x) c.1 ∙ ap f c.2)

abbrev none : SetPair
none = record { a = 0; b = 0; rule = 0 }

module _ (version : Version) (snapshot : IsSnapshot version.models) where
  lower : (m n : ℕ) → m < n → n < length (subjects_of version.models) → IsTrue (is_key_below (key_of (element_of version m)) (key_of (element_of version n)))
  lower m n below within = subjects_rise version.models snapshot m n nobody below within

  before : (p q : SetPair) → IsClash version p → IsClash version q → IsBefore p q → IsKeyBefore (by_keys version p) (by_keys version q)
  before p q c d (inl h) =
      then_less (key_cmp (key_of (element_of version p.a)) (key_of (element_of version q.a)))
      (ordering_then (key_cmp (key_of (element_of version p.b)) (key_of (element_of version q.b))) (nat_cmp p.rule q.rule))
      (less (key_cmp (key_of (element_of version p.a)) (key_of (element_of version q.a))) (lower p.a q.a h (omega (arith, d.below, d.within))))
  before p q c d (inr h) =
      let k = key_of (element_of version p.b) in
      let l = key_of (element_of version q.b) in
      then_equal (key_cmp (key_of (element_of version p.a)) (key_of (element_of version q.a)))
      (ordering_then (key_cmp k l) (nat_cmp p.rule q.rule))
      (ap (λ n. key_cmp (key_of (element_of version p.a)) (key_of (element_of version n))) (sym h.0) ∙ tied_itself key_order (key_of (element_of version p.a)))
      (then_less (key_cmp k l) (nat_cmp p.rule q.rule) (less (key_cmp k l) (lower p.b q.b h.1 d.within)))

  at : (n : ℕ) → n < length (subjects_of version.models) → Contains (subjects_of version.models) (element_of version n)
  at n h = (n, h, get_or_default (subjects_of version.models) n (element_of version n) nobody h)

  keyed : (p : SetPair) → IsClash version p → IsKeyClash version (by_keys version p)
  keyed p c = record {
    first = element_of version p.a;
    second = element_of version p.b;
    first_in = at p.a (omega (arith, c.below, c.within));
    second_in = at p.b c.within;
    first_key = refl;
    second_key = refl;
    below = lower p.a p.b c.below c.within;
    clash = c.clash;
  }

  number_is : (s : Subject) → (c : Contains (subjects_of version.models) s) → element_of version c.0 ≡ s
  number_is s c = get_or_default (subjects_of version.models) c.0 nobody s c.1 ∙ c.2

  in_order : (s t : Subject) (c : Contains (subjects_of version.models) s) (d : Contains (subjects_of version.models) t) → IsBelow s t → c.0 < d.0
  in_order s t c d h = elim (cases_order c.0 d.0) [
    | inl e ↦ absurd (let same : s ≡ t = sym (number_is s c) ∙ ap (element_of version) e ∙ number_is t d in
        let back : IsTrue (is_key_below (key_of t) (key_of s)) = subst (λ x. IsTrue (is_key_below (key_of t) (key_of x))) (sym same) (subst (λ x. IsTrue (is_key_below (key_of x) (key_of t))) same h) in
        not_back (key_of s) (key_of t) h back)
    | inr r ↦ elim r [
      | inl below ↦ below
      | inr above ↦ absurd (
          let back : IsTrue (is_key_below (key_of (element_of version d.0)) (key_of (element_of version c.0))) = lower d.0 c.0 above c.1 in
          not_back (key_of s) (key_of t) h
          (subst (λ x. IsTrue (is_key_below (key_of t) (key_of x))) (number_is s c) (subst (λ x. IsTrue (is_key_below (key_of x) (key_of (element_of version c.0)))) (number_is t d) back)))
    ]
  ]

  found : (p : Pair) → IsKeyClash version p → Contains (map (by_keys version) (clashes version)) p
  found p k =
      let q : SetPair = record { a = k.first_in.0; b = k.second_in.0; rule = p.rule } in
      let first = number_is k.first k.first_in in
      let second = number_is k.second k.second_in in
      let is : IsClash version q = record {
        below = in_order k.first k.second k.first_in k.second_in k.below;
        within = k.second_in.1;
        clash = subst (λ s. ClashBy version.rules s (element_of version k.second_in.0) p.rule) (sym first) (subst (λ t. ClashBy version.rules k.first t p.rule) (sym second) k.clash);
      } in
      let a : key_of (element_of version k.first_in.0) ≡ p.a = ap key_of first ∙ k.first_key in
      let b : key_of (element_of version k.second_in.0) ≡ p.b = ap key_of second ∙ k.second_key in
      let same : by_keys version q ≡ p = ap₂ (λ x y. let r : Pair = record { a = x; b = y; rule = p.rule } in r) a b in
      subst (Contains (map (by_keys version) (clashes version))) same (map_contains (by_keys version) (clashes version) q ((listed version).all q is))

  pub key_clashes : AreKeyClashes version (map (by_keys version) (clashes version))
  key_clashes =
      let l = listed version in
      let all = all_have IsBefore (IsClash version) (clashes version) l in
      record {
        rising = map_pairs (by_keys version) IsKeyBefore none (clashes version)
            (λ i j d below within. before (get_or (clashes version) i d) (get_or (clashes version) j d) (all i d (omega arith)) (all j d within) (l.rising i j d below within));
        each = λ p c.
            All-contains (IsKeyClash version) (map (by_keys version) (clashes version)) p
            (All-map (IsKeyClash version) (by_keys version) (clashes version) (All-weaker (IsClash version) (λ q. IsKeyClash version (by_keys version q)) keyed (clashes version) all)) c;
        all = found;
      }
