-- Items read and written one after another.
use Rattle.std.proofs.Common.{◌≡◌, ℕ, suc, ◌+◌, ◌<◌, ◌≤◌, Bool, true, false, ◌&&◌, inl, inr, ◌-◌, nat_le, List, [], ◌∷◌, ◌++◌, length, get_or, take, drop, map, Option, Some, None, codes, refl, sym, ap, ◌∙◌, append-nil, append_assoc, drop-cons, add-one, arith}
use Rattle.std.proofs.lemmas.Bool.{cases_lt, le-leb, lt-leb}
use Rattle.std.proofs.lemmas.List.{take_more, map-append}
use Rattle.serde_json.specs.Data.{Data, item}
use Rattle.serde_json.specs.Events.{items_len}
use Rattle.serde_json.specs.View.{view, items_view}
use Rattle.serde_json.specs.declared.value.Value.{Value}
use Rattle.bcf_bodies.specs.Members.{before, all_of, all_are, items_under}
use Rattle.bcf_bodies.specs.ViewBodies.{colored_count}

pub count_is : (values : List Value) → items_len (items_view values) ≡ length values
count_is [] = refl
count_is (v ∷ vs) = ap suc (count_is vs)

-- the values from a place on
pub from_place : (values : List Value) (i : ℕ) (d : Value) → i < length values
    → items_view (drop i values) ≡ item (view (get_or values i d)) (items_view (drop (i + 1) values))
from_place values i d h =
    ap items_view (drop-cons values i d h)
    ∙ ap (λ n. item (view (get_or values i d)) (items_view (drop n values))) (sym (add-one i))

-- these, and then the rest
abbrev pub front : {A : Type 0} → List A → Option (List A) → Option (List A)
front xs None = None
front xs (Some ys) = Some (xs ++ ys)

pub front_nil : {A : Type 0} (rest : Option (List A)) → front [] rest ≡ rest
front_nil None = refl
front_nil (Some ys) = refl

before_front : {A : Type 0} (xs : List A) (a : A) (rest : Option (List A)) → front xs (before (Some a) rest) ≡ front (xs ++ a ∷ []) rest
before_front xs a None = refl
before_front xs a (Some ys) = ap (λ l. Some l) (sym (append_assoc xs (a ∷ []) ys))

-- one more item is read
pub read_more : {A : Type 0} (read : Data → Option A) (values : List Value) (i : ℕ) (v : Value) (xs ys : List A) (a : A) (all : Option (List A))
    → i < length values → v ≡ get_or values i v → read (view v) ≡ Some a → ys ≡ xs ++ a ∷ []
    → front xs (all_of read (items_view (drop i values))) ≡ all → front ys (all_of read (items_view (drop (i + 1) values))) ≡ all
read_more read values i v xs ys a all h at e grown so_far =
    let rest = all_of read (items_view (drop (i + 1) values)) in
    let there : read (view (get_or values i v)) ≡ Some a = ap (λ x. read (view x)) (sym at) ∙ e in
    ap (λ l. front l rest) grown
    ∙ sym (before_front xs a rest)
    ∙ ap (λ r. front xs (before r rest)) (sym there)
    ∙ ap (λ l. front xs (all_of read l)) (sym (from_place values i v h))
    ∙ so_far

-- one can't be read
pub read_none : {A : Type 0} (read : Data → Option A) (values : List Value) (i : ℕ) (v : Value) (xs : List A) (all : Option (List A))
    → i < length values → v ≡ get_or values i v → read (view v) ≡ None
    → front xs (all_of read (items_view (drop i values))) ≡ all → None ≡ all
read_none read values i v xs all h at e so_far =
    let rest = all_of read (items_view (drop (i + 1) values)) in
    let there : read (view (get_or values i v)) ≡ None = ap (λ x. read (view x)) (sym at) ∙ e in
    ap (λ r. front xs (before r rest)) (sym there)
    ∙ ap (λ l. front xs (all_of read l)) (sym (from_place values i v h))
    ∙ so_far

-- all are read
pub read_all : {A : Type 0} (read : Data → Option A) (values : List Value) (i : ℕ) (xs : List A) (all : Option (List A))
    → drop i values ≡ [] → front xs (all_of read (items_view (drop i values))) ≡ all → Some xs ≡ all
read_all read values i xs all none so_far =
    ap (λ l. Some l) (sym (append-nil xs)) ∙ ap (λ l. front xs (all_of read (items_view l))) (sym none) ∙ so_far

-- one more item passes
pub test_more : (test : Data → Bool) (values : List Value) (i : ℕ) (v : Value) (all : Bool) → i < length values → v ≡ get_or values i v
    → test (view v) ≡ true → all_are test (items_view (drop i values)) ≡ all → all_are test (items_view (drop (i + 1) values)) ≡ all
test_more test values i v all h at e so_far =
    let rest = all_are test (items_view (drop (i + 1) values)) in
    let there : test (view (get_or values i v)) ≡ true = ap (λ x. test (view x)) (sym at) ∙ e in
    ap (λ b. b && rest) (sym there) ∙ ap (all_are test) (sym (from_place values i v h)) ∙ so_far

-- one doesn't
pub test_none : (test : Data → Bool) (values : List Value) (i : ℕ) (v : Value) (all : Bool) → i < length values → v ≡ get_or values i v
    → test (view v) ≡ false → all_are test (items_view (drop i values)) ≡ all → false ≡ all
test_none test values i v all h at e so_far =
    let rest = all_are test (items_view (drop (i + 1) values)) in
    let there : test (view (get_or values i v)) ≡ false = ap (λ x. test (view x)) (sym at) ∙ e in
    ap (λ b. b && rest) (sym there) ∙ ap (all_are test) (sym (from_place values i v h)) ∙ so_far

-- one more item is written
pub written_more : {A : Type 0} (tree : A → Data) (xs : List A) (i : ℕ) (x : A) (old new : List Value) → i < length xs → x ≡ get_or xs i x
    → map view new ≡ map view old ++ tree x ∷ [] → map view old ≡ map tree (take i xs) → map view new ≡ map tree (take (i + 1) xs)
written_more tree xs i x old new h at grown so_far =
    let more : take (i + 1) xs ≡ take i xs ++ x ∷ [] = take_more xs i x h ∙ ap (λ y. take i xs ++ y ∷ []) (sym at) in
    grown ∙ ap (λ l. l ++ tree x ∷ []) so_far ∙ sym (ap (map tree) more ∙ map-append tree (take i xs) (x ∷ []))

-- one more coloring is counted
pub counted_more : (values : List Value) (i : ℕ) (v : Value) (n : ℕ) → i < length values → v ≡ get_or values i v
    → items_len (items_under (codes "components") (view v)) ≡ n
    → colored_count (items_view (drop i values)) ≡ n + colored_count (items_view (drop (i + 1) values))
counted_more values i v n h at e =
    ap colored_count (from_place values i v h)
    ∙ ap (λ m. m + colored_count (items_view (drop (i + 1) values)))
    (ap (λ x. items_len (items_under (codes "components") (view x))) (sym at) ∙ e)

-- what is counted on is counted from the first
pub fits_if : (s e c most : ℕ) → s ≤ most → e ≤ most - s → nat_le c (most - s - e) ≡ nat_le (s + e + c) most
fits_if s e c most h k = elim (cases_lt (most - s - e) c) [
  | inl over ↦ lt-leb c (most - s - e) over ∙ sym (lt-leb (s + e + c) most (omega arith))
  | inr within ↦ le-leb c (most - s - e) within ∙ sym (le-leb (s + e + c) most (omega arith))
]
