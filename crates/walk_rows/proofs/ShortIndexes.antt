-- Short numbers that are indexes, one by one and in rows.
use Rattle.std.proofs.Common.{◌≡◌, ℕ, List, [], ◌∷◌, ◌++◌, Option, Some, None, sym, ap, ◌∙◌, append_assoc}
use Rattle.std.specs.Prelude.{IfSome}
use Rattle.p21_values.specs.declared.value.Value21.{Value21}
use Rattle.walk_rows.specs.declared.triangle_rows.Row.{Row}
use Rattle.walk_rows.specs.Rows.{AreNumbers, IsRowOf}

-- one more of what is passed over
pub passed_more : {A : Type 0} (all given left next : List A) (x : A) → all ≡ given ++ left → left ≡ x ∷ next → all ≡ (given ++ x ∷ []) ++ next
passed_more all given left next x e f = e ∙ ap (λ xs. given ++ xs) f ∙ sym (append_assoc given (x ∷ []) next)

-- what is told of the row of the next value
pub row_told : (count : ℕ) (numbers : Option (List ℕ)) (old next : List Value21) (v : Value21) (r : Option Row) → old ≡ v ∷ next → ((names : Option (List Value21)) → AreNumbers count names numbers → IfSome r (IsRowOf names count v))
    → IfSome r (λ row. (x : Value21) × (old ≡ x ∷ next) × ((names : Option (List Value21)) → AreNumbers count names numbers → IsRowOf names count x row))
row_told count numbers old next v None e h = tt
row_told count numbers old next v (Some row) e h = (v, e, h)
