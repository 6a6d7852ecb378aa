-- Serial numbers by identifiers.
use Rattle.std.proofs.Common.{◌≡◌, ◌-◌, ◌<◌, ◌^◌, ℕ, Option, Some, None, IfSome, inl, inr, refl, arith}
use Rattle.std.proofs.lemmas.Bool.{cases_lt, eq-eqb, lt-ltb, le-ltb}
use Rattle.std.proofs.lemmas.Bool.Decides.{eqb_tells}
use Rattle.bim_model.specs.Identifiers.{identifier, IsSerialOf}
use Rattle.book_topics.specs.TopicIdentifiers.{serial_of}

-- the number that an identifier has, or none, is the one that is meant
pub serial_is : (project id : ℕ) (r : Option ℕ) → IsSerialOf project id r → r ≡ serial_of project id
unfolding serial_of
serial_is project id (Some serial) h =
    let same : id ≡ identifier project serial = h.1 in
    let place : id - identifier project 0 ≡ serial = omega (arith, same) in
    let small : serial < 2 ^ 48 = h.0 in
    rw (place, eq-eqb id (identifier project serial) same, lt-ltb serial (2 ^ 48) small) refl
serial_is project id None h =
    let serial = id - identifier project 0 in
    elim (eqb_tells id (identifier project serial)) [
      | inl same ↦ rw same.0 (elim (cases_lt serial (2 ^ 48)) [
        | inl small ↦ absurd (h serial small same.1)
        | inr large ↦ rw (le-ltb serial (2 ^ 48) large) refl
      ])
      | inr other ↦ rw other.0 refl
    ]

-- .. and is small
pub serial_small : (project id : ℕ) (r : Option ℕ) → IsSerialOf project id r → IfSome r (λ serial. serial < 2 ^ 48)
serial_small project id (Some serial) h = h.0
serial_small project id None h = tt
