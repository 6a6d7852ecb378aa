-- The places of one topic are a range of all places.
use Rattle.std.proofs.Common.{◌≡◌, ℕ, zero, suc, ◌+◌, ◌<◌, ◌==◌, inl, inr, true, false, not, List, [], ◌∷◌, refl, sym, arith, filter}
use Rattle.std.proofs.lemmas.Bool.{cases_order, eq-eqb, ne_eqb, le-ltb, lt-ltb}
use Rattle.std.specs.Ordering.{nat_cmp, is_le}
use Rattle.std.specs.declared.cmp.Ordering.TheVariants.{Less, Equal, Greater}
use Rattle.std.specs.declared.ops.Bound.TheVariants.{Included, Excluded}
use Rattle.std.specs.BTreeMap.Range.{range_contains, entries_between}
use Rattle.bcf_topics.specs.Comments.{by_place}

less : (a b : ℕ) → a < b → nat_cmp a b ≡ Less
less a b h = rw (lt-ltb a b h) refl

equal : (a b : ℕ) → a ≡ b → nat_cmp a b ≡ Equal
equal a b e = rw (le-ltb a b (omega arith), eq-eqb a b e) refl

greater : (a b : ℕ) → b < a → nat_cmp a b ≡ Greater
greater a b h = rw (le-ltb a b (omega arith), ne_eqb a b (λ e. absurd (omega arith))) refl

-- no number is below zero
from_zero : (n : ℕ) → is_le (nat_cmp 0 n) ≡ true
from_zero zero = refl
from_zero (suc n) = rw (less 0 (suc n) (omega arith)) refl

-- a place is in the range of a topic exactly where it is one of the topic
in_range : (topic : ℕ) (place : ℕ × ℕ) → range_contains by_place (Included (topic, 0)) (Excluded (topic + 1, 0)) place ≡ (place.0 == topic)
in_range topic place = elim (cases_order topic place.0) [
  | inl e ↦ rw (equal topic place.0 e, from_zero place.1, greater (topic + 1) place.0 (omega arith), eq-eqb place.0 topic (sym e)) refl
  | inr r ↦ elim r [
    | inl below ↦ rw (less topic place.0 below, ne_eqb place.0 topic (λ e. absurd (omega arith))) (above topic place below)
    | inr over ↦ rw (greater topic place.0 over, ne_eqb place.0 topic (λ e. absurd (omega arith))) refl
  ]
]
  where
    above : (topic : ℕ) (place : ℕ × ℕ) → topic < place.0 → not (is_le (by_place (topic + 1, 0) place)) ≡ false
    above topic place below = elim (cases_order (topic + 1) place.0) [
      | inl e ↦ rw (equal (topic + 1) place.0 e, from_zero place.1) refl
      | inr r ↦ elim r [
        | inl lower ↦ rw (less (topic + 1) place.0 lower) refl
        | inr over ↦ absurd (omega arith)
      ]
    ]

pub of_topic : {X : Type 0} (topic : ℕ) (es : List ((ℕ × ℕ) × X))
    → entries_between by_place (Included (topic, 0)) (Excluded (topic + 1, 0)) es ≡ filter (λ e. e.0.0 == topic) es
of_topic topic [] = refl
of_topic topic (e ∷ es) = rw (in_range topic e.0, of_topic topic es) refl
