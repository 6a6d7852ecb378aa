-- Trees for the elements of a list, one after another.
use Rattle.std.proofs.Common.{Option, Some, None, MatchOption, ◌≡◌, ◌+◌, ◌<◌, ◌≤◌, ℕ, List, [], ◌∷◌, ◌++◌, length, map, take, get_or, Vec, Global, sym, subst, ◌∙◌, ap}
use Rattle.std.proofs.lemmas.List.Elements.{filter_map-append}
use Rattle.std.proofs.lemmas.List.{take_more, take_all, get_or_default, append-nil}
use Rattle.std.specs.List.{slice_get, filter_map, cons_option}
use Rattle.serde_json.specs.Data.{Data, array}
use Rattle.serde_json.specs.View.{view, items_of, items_view}
use Rattle.serde_json.specs.declared.value.Value.{Value, Array}
use Rattle.serde_json.proofs.Views.{view-Array}
use Rattle.bcf_bodies.specs.TextMembers.{listed}
use Rattle.bcf_bodies.proofs.Lists.{written_more}
use Rattle.bcf_http.specs.Answers.{AreTrees, IsArrayOf}

trees_push : {A : Type 0} (IsTree : A → Data → Type 0) (xs : List A) (vs : List Value) (x : A) (v : Value)
    → AreTrees IsTree xs (items_view vs) → IsTree x (view v) → AreTrees IsTree (xs ++ x ∷ []) (items_view (vs ++ v ∷ []))
trees_push IsTree [] [] x v are is = (is, tt)
trees_push IsTree [] (w ∷ vs) x v are is = absurd are
trees_push IsTree (y ∷ xs) [] x v are is = absurd are
trees_push IsTree (y ∷ xs) (w ∷ vs) x v are is = (are.0, trees_push IsTree xs vs x v are.1 is)

-- one more tree stands for one more element
pub trees_more : {A : Type 0} (IsTree : A → Data → Type 0) (xs : List A) (i : ℕ) (old new : List Value) → i < length xs → (x : A) → x ≡ get_or xs i x
    → (v : Value) → IsTree x (view v) → new ≡ old ++ v ∷ []
    → AreTrees IsTree (take i xs) (items_view old) → AreTrees IsTree (take (i + 1) xs) (items_view new)
trees_more IsTree xs i old new lt x at v is grown are =
    let more : take (i + 1) xs ≡ take i xs ++ x ∷ [] = take_more xs i x lt ∙ ap (λ y. take i xs ++ y ∷ []) (sym at) in
    subst (λ ys. AreTrees IsTree ys (items_view new)) (sym more)
    (subst (λ vs. AreTrees IsTree (take i xs ++ x ∷ []) (items_view vs)) (sym grown) (trees_push IsTree (take i xs) old x v are is))

-- trees for all elements are the array of the list
pub trees_all : {A : Type 0} (IsTree : A → Data → Type 0) (xs : List A) (i : ℕ) (trees : Vec Value Global) → length xs ≤ i
    → AreTrees IsTree (take i xs) (items_view trees.items) → IsArrayOf IsTree xs (view (Array trees))
trees_all IsTree xs i trees all are =
    (items_view trees.items, subst (λ ys. AreTrees IsTree ys (items_view trees.items)) (take_all i xs all) are, view-Array trees)

-- one more tree is written for one more number
pub numbers_more : (tree : ℕ → Data) (xs : List ℕ) (i : ℕ) (old new : List Value) → i < length xs
    → map view new ≡ map view old ++ tree (get_or xs i 0) ∷ [] → map view old ≡ map tree (take i xs) → map view new ≡ map tree (take (i + 1) xs)
numbers_more tree xs i old new lt grown so_far =
    written_more tree xs i (get_or xs i 0) old new lt (get_or_default xs i 0 (get_or xs i 0) lt) grown so_far

-- trees that are written for all elements are the array of the list
pub listed_all : {A : Type 0} (tree : A → Data) (xs : List A) (i : ℕ) (trees : Vec Value Global) → length xs ≤ i
    → map view trees.items ≡ map tree (take i xs) → view (Array trees) ≡ array (listed tree xs)
listed_all tree xs i trees all are =
    view-Array trees ∙ ap (λ ds. array (items_of ds)) (are ∙ ap (map tree) (take_all i xs all))

-- ---- the elements at places

-- what is at one more place, if something is
trees_put : {A : Type 0} (IsTree : A → Data → Type 0) (xs : List A) (found : Option A) (old new : List Value)
    → MatchOption found (new ≡ old) (λ x. (v : Value) × IsTree x (view v) × (new ≡ old ++ v ∷ []))
    → AreTrees IsTree xs (items_view old) → AreTrees IsTree (xs ++ cons_option found []) (items_view new)
trees_put IsTree xs None old new same are =
    subst (λ ys. AreTrees IsTree ys (items_view new)) (sym (append-nil xs)) (subst (λ vs. AreTrees IsTree xs (items_view vs)) (sym same) are)
trees_put IsTree xs (Some x) old new put are =
    subst (λ vs. AreTrees IsTree (xs ++ x ∷ []) (items_view vs)) (sym put.2) (trees_push IsTree xs old x put.0 are put.1)

-- one more tree stands for what is at one more place
pub picked_more : {A : Type 0} (IsTree : A → Data → Type 0) (xs : List A) (ps : List ℕ) (i : ℕ) (old new : List Value) → i < length ps
    → MatchOption (slice_get xs (get_or ps i 0)) (new ≡ old) (λ x. (v : Value) × IsTree x (view v) × (new ≡ old ++ v ∷ []))
    → AreTrees IsTree (filter_map (slice_get xs) (take i ps)) (items_view old)
    → AreTrees IsTree (filter_map (slice_get xs) (take (i + 1) ps)) (items_view new)
picked_more IsTree xs ps i old new lt put are =
    let more : filter_map (slice_get xs) (take (i + 1) ps) ≡ filter_map (slice_get xs) (take i ps) ++ cons_option (slice_get xs (get_or ps i 0)) []
    = ap (filter_map (slice_get xs)) (take_more ps i 0 lt) ∙ filter_map-append (slice_get xs) (take i ps) (get_or ps i 0 ∷ []) in
    subst (λ ys. AreTrees IsTree ys (items_view new)) (sym more)
    (trees_put IsTree (filter_map (slice_get xs) (take i ps)) (slice_get xs (get_or ps i 0)) old new put are)

-- trees for all places are the array of what is there
pub picked_all : {A : Type 0} (IsTree : A → Data → Type 0) (xs : List A) (ps : List ℕ) (i : ℕ) (trees : Vec Value Global) → length ps ≤ i
    → AreTrees IsTree (filter_map (slice_get xs) (take i ps)) (items_view trees.items)
    → IsArrayOf IsTree (filter_map (slice_get xs) ps) (view (Array trees))
picked_all IsTree xs ps i trees all are = (
  items_view trees.items,
  subst (λ qs. AreTrees IsTree (filter_map (slice_get xs) qs) (items_view trees.items)) (take_all i ps all) are,
  view-Array trees,
)
