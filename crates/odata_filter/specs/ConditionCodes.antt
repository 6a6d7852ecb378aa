-- Filters as lists, by which a proof tells them apart: each is what its parts are, and then how they are joined.
use Rattle.std.specs.Prelude.{◌≡◌, Bool, true, false, cond, List, [], ◌∷◌, ◌++◌, ◌⊎◌, Option, Some, None}
use Rattle.std.proofs.Common.{inl, inr, refl, sym, ap, ◌∙◌, append_assoc}
use Rattle.std.proofs.lemmas.List.{append-nil}
use Rattle.std.specs.Coded.{Coded, code_by, coded⊎, coded_list, coded_option, coded_bool}
use Rattle.odata_filter.specs.declared.topic_test.TopicTest.{TopicTest}
use Rattle.odata_filter.specs.declared.topic_test.TopicTest.TheVariants.{Labelled}
use Rattle.odata_filter.specs.Conditions.{Condition, Tested, Negated, Both, Either}

-- a test; or what joins the one or two filters before it: `not`, `and` (true) or `or`
abbrev pub Mark : Type 0
Mark = TopicTest ⊎ Option Bool

-- the marks of a filter
abbrev pub marks_of : Condition → List Mark
marks_of (Tested test) = inl test ∷ []
marks_of (Negated x) = marks_of x ++ inr None ∷ []
marks_of (Both x y) = marks_of x ++ (marks_of y ++ inr (Some true) ∷ [])
marks_of (Either x y) = marks_of x ++ (marks_of y ++ inr (Some false) ∷ [])

-- the last filters joined
abbrev pub join_last : Option Bool → List Condition → List Condition
join_last None [] = []
join_last None (x ∷ made) = Negated x ∷ made
join_last (Some both) [] = []
join_last (Some both) (y ∷ []) = y ∷ []
join_last (Some both) (y ∷ (x ∷ made)) = cond both (Both x y) (Either x y) ∷ made

-- the filters that marks make, the last one first
abbrev pub made_of : List Condition → List Mark → List Condition
made_of made [] = made
made_of made (inl test ∷ marks) = made_of (Tested test ∷ made) marks
made_of made (inr join ∷ marks) = made_of (join_last join made) marks

-- the first one of a list, or a test
abbrev pub first_made : List Condition → Condition
first_made [] = Tested (Labelled [])
first_made (x ∷ made) = x

-- the marks of a filter make it
marks_make : (x : Condition) (made : List Condition) (marks : List Mark)
    → made_of made (marks_of x ++ marks) ≡ made_of (x ∷ made) marks
marks_make (Tested test) made marks = refl
marks_make (Negated x) made marks =
    ap (made_of made) (append_assoc (marks_of x) (inr None ∷ []) marks) ∙ marks_make x made (inr None ∷ marks)
marks_make (Both x y) made marks =
    ap (made_of made) (append_assoc (marks_of x) (marks_of y ++ inr (Some true) ∷ []) marks)
    ∙ (marks_make x made ((marks_of y ++ inr (Some true) ∷ []) ++ marks)
    ∙ (ap (made_of (x ∷ made)) (append_assoc (marks_of y) (inr (Some true) ∷ []) marks)
    ∙ marks_make y (x ∷ made) (inr (Some true) ∷ marks)))
marks_make (Either x y) made marks =
    ap (made_of made) (append_assoc (marks_of x) (marks_of y ++ inr (Some false) ∷ []) marks)
    ∙ (marks_make x made ((marks_of y ++ inr (Some false) ∷ []) ++ marks)
    ∙ (ap (made_of (x ∷ made)) (append_assoc (marks_of y) (inr (Some false) ∷ []) marks)
    ∙ marks_make y (x ∷ made) (inr (Some false) ∷ marks)))

-- a filter is told by its marks
pub told_by_marks : (x : Condition) → first_made (made_of [] (marks_of x)) ≡ x
told_by_marks x =
    ap (λ ms. first_made (made_of [] ms)) (sym (append-nil (marks_of x))) ∙ ap first_made (marks_make x [] [])

-- the code of a filter, by that of a test
abbrev pub condition_code : Coded TopicTest → Coded Condition
condition_code test =
    code_by (List Mark) (coded_list (coded⊎ test (coded_option coded_bool))) marks_of
    (λ ms. first_made (made_of [] ms)) told_by_marks
