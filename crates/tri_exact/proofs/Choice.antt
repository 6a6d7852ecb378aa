-- Words for answers: one of three tests, and products of equal vectors
use Rattle.std.proofs.Common.{◌≡◌, ◌↔◌, ◌⊎◌, inl, inr, Bool, IsTrue, true, false, refl, sym, ap, ◌∙◌}
use Rattle.exact_arith.specs.Space.{Vector, dot_of}

pub any_three : {r a b c : Bool} {A B C : Type 0} → IsTrue r ↔ (IsTrue a ⊎ (IsTrue b ⊎ IsTrue c)) → IsTrue a ↔ A → IsTrue b ↔ B → IsTrue c ↔ C → IsTrue r ↔ (A ⊎ (B ⊎ C))
any_three q f g h = (
  λ x. elim (q.0 x) [ inl y ↦ inl (f.0 y) | inr z ↦ elim z [ inl y ↦ inr (inl (g.0 y)) | inr y ↦ inr (inr (h.0 y)) ] ],
  λ x. q.1 (elim x [ inl y ↦ inl (f.1 y) | inr z ↦ elim z [ inl y ↦ inr (inl (g.1 y)) | inr y ↦ inr (inr (h.1 y)) ] ]),
)

pub not_both : {b : Bool} {X : Type 0} → b ≡ false → b ≡ true → X
not_both e f = absurd (cc (sym e ∙ f))

-- early answers of three tests
pub first_yes : {r : Bool} {A B C : Type 0} → IsTrue r ↔ A → r ≡ true → IsTrue true ↔ (A ⊎ (B ⊎ C))
first_yes f e = (λ x. inl (f.0 e), λ x. refl)

pub second_yes : {r : Bool} {A B C : Type 0} → IsTrue r ↔ B → r ≡ true → IsTrue true ↔ (A ⊎ (B ⊎ C))
second_yes f e = (λ x. inr (inl (f.0 e)), λ x. refl)

pub third : {a b r : Bool} {A B C : Type 0} → IsTrue a ↔ A → a ≡ false → IsTrue b ↔ B → b ≡ false → IsTrue r ↔ C → IsTrue r ↔ (A ⊎ (B ⊎ C))
third f e g e' h = (
  λ x. inr (inr (h.0 x)),
  λ x. elim x [ inl y ↦ not_both e (f.1 y) | inr z ↦ elim z [ inl y ↦ not_both e' (g.1 y) | inr y ↦ h.1 y ] ],
)

-- equal factors
pub both_products : (a b c d : Vector) → a ≡ c → b ≡ d → dot_of a b ≡ dot_of c d
both_products a b c d e f = ap (λ (v : Vector). dot_of v b) e ∙ ap (λ (v : Vector). dot_of c v) f
