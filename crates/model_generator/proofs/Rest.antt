-- What is left of a file once the lines of one more element were given.
use Rattle.std.proofs.Common.{◌≡◌, ◌+◌, ◌-◌, ◌<◌, ℕ, zero, suc, length, List, ◌∷◌, ◌++◌, refl, sym, ◌∙◌, ap, arith}
use Rattle.model_generator.specs.Cuboids.{cuboid_of}
use Rattle.model_generator.specs.declared.cuboid.Cuboid.{Cuboid}
use Rattle.model_generator.specs.InstanceLines.{head, end, element_lines}
use Rattle.model_generator.specs.GeneratedFiles.{rest_from}

pub rest_more : (number place n : ℕ) → 0 < n → rest_from number place n ≡ element_lines place (cuboid_of number place) ++ rest_from number (place + 1) (n - 1)
rest_more number place zero some = absurd (omega arith)
rest_more number place (suc k) some =
    let e : suc k - 1 ≡ k = omega arith in
    rw e refl

-- none of a file's pieces is empty
some_byte : (text : List ℕ) (x : ℕ) (xs : List ℕ) → text ≡ x ∷ xs → 0 < length text
some_byte text x xs is = rw is (omega arith)

pub head_some : (text : List ℕ) → text ≡ head → 0 < length text
unfolding head
head_some text is = some_byte text _ _ is

pub end_some : (text : List ℕ) → text ≡ end → 0 < length text
unfolding end
end_some text is = some_byte text _ _ is

pub lines_some : (place : ℕ) (cuboid : Cuboid) (text : List ℕ) → text ≡ element_lines place cuboid → 0 < length text
lines_some place cuboid text is = some_byte text _ _ is

-- the same, where a text has these lines
pub rest_after : (number place n : ℕ) (text : List ℕ) → 0 < n → text ≡ element_lines place (cuboid_of number place)
    → rest_from number place n ≡ text ++ rest_from number (place + 1) (n - 1)
rest_after number place n text some is = rest_more number place n some ∙ ap (λ t. t ++ rest_from number (place + 1) (n - 1)) (sym is)
