-- Whether an index is bad, put together.
use Rattle.std.proofs.Common.{◌≡◌, ℕ, inl, inr, Bool, true, false, List, Option, Some, None, Result, Ok, Err, IfOk, length, Any, sym, subst}
use Rattle.std.specs.Bool.{MatchBool}
use Rattle.std.specs.Option.{IfSome, IfNone, MatchOption}
use Rattle.p21_values.specs.declared.value.Value21.{Value21}
use Rattle.p21_values.specs.declared.value.Instance.{Instance}
use Rattle.faceset.specs.Indexes.{PointsAt, PointsNowhere}
use Rattle.faceset.specs.FaceSets.{numbering, spelled_points, counted_by, rows_of, HasBadNumber, HasBadIndex, IsMisnamed, NamesPoint}

same_count : (world : List Instance) (set : Instance) (numbers : Option (List Value21)) (count within : ℕ) → numbers ≡ numbering set → count ≡ length (spelled_points world set)
    → within ≡ counted_by numbers count → within ≡ counted_by (numbering set) (length (spelled_points world set))
same_count world set numbers count within e f g = subst (λ n. within ≡ counted_by n (length (spelled_points world set))) e (subst (λ k. within ≡ counted_by numbers k) f g)

-- where no number is bad, the rows decide
bad_rows : (world : List Instance) (set : Instance) (numbers : Option (List Value21)) (count within : ℕ) (bad : Bool) → numbers ≡ numbering set → count ≡ length (spelled_points world set)
    → within ≡ counted_by numbers count → (HasBadNumber numbers count → ⊥)
    → MatchBool bad (Any (Any (PointsNowhere within)) (rows_of world set)) (Any (Any (PointsNowhere within)) (rows_of world set) → ⊥)
    → MatchBool bad (HasBadIndex world set) (HasBadIndex world set → ⊥)
bad_rows world set numbers count within true e f g none h = inr (subst (λ k. Any (Any (PointsNowhere k)) (rows_of world set)) (same_count world set numbers count within e f g) h)
bad_rows world set numbers count within false e f g none h = λ bad. elim bad [
  | inl number ↦ none (subst (λ n. HasBadNumber n count) (sym e) (subst (HasBadNumber (numbering set)) (sym f) number))
  | inr row ↦ h (subst (λ k. Any (Any (PointsNowhere k)) (rows_of world set)) (sym (same_count world set numbers count within e f g)) row)
]

pub bad_rows_in : {E : Type 0} (world : List Instance) (set : Instance) (numbers : Option (List Value21)) (count within : ℕ) (r : Result Bool E) → numbers ≡ numbering set → count ≡ length (spelled_points world set)
    → within ≡ counted_by numbers count → (HasBadNumber numbers count → ⊥)
    → IfOk r (λ bad. MatchBool bad (Any (Any (PointsNowhere within)) (rows_of world set)) (Any (Any (PointsNowhere within)) (rows_of world set) → ⊥))
    → IfOk r (λ bad. MatchBool bad (HasBadIndex world set) (HasBadIndex world set → ⊥))
bad_rows_in world set numbers count within (Err e) same many counts none h = h
bad_rows_in world set numbers count within (Ok bad) same many counts none h = bad_rows world set numbers count within bad same many counts none h

-- an index that counts the points
pub named_directly : (count : ℕ) (v : Value21) (r : Option ℕ) → IfSome r (PointsAt count v) → IfNone r (PointsNowhere count v) → MatchOption r (IsMisnamed None count v) (NamesPoint None count v)
named_directly count v None some none = none
named_directly count v (Some place) some none = some
