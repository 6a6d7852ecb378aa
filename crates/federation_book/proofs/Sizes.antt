-- How large a version is, and why it isn't made.
use Rattle.std.proofs.Common.{◌≡◌, ◌+◌, ◌<◌, ◌≤◌, nat_lt, ℕ, Bool, true, false, if◌then◌else◌, List, [], ◌∷◌, length, Option, Some, None, refl, sym, ◌∙◌, ap, ap₂, subst, arith, length-append}
use Rattle.std.proofs.lemmas.Bool.Decides.{nat_tests}
use Rattle.std.proofs.lemmas.List.Sums.{sum_by-cons}
use Rattle.bim_model.specs.declared.element.Element.{Element}
use Rattle.bim_model.specs.declared.named_model.NamedModel.{NamedModel}
use Rattle.bim_model.specs.Keys.{in_model, subjects_from, subjects_of}
use Rattle.bim_model.specs.Snapshots.{Version}
use Rattle.bucket_grid.specs.Cells.{memberships}
use Rattle.bucket_grid.specs.Grids.{HasMemberships}
use Rattle.book_history.specs.declared.limits.Limits.{Limits}
use Rattle.book_history.specs.declared.book_fault.BookFault.{BookFault}
use Rattle.book_history.specs.declared.book_fault.BookFault.TheVariants as fault
use Rattle.book_history.specs.Buckets.{memberships_of}
use Rattle.book_history.specs.Refusals.{first_of, too_spread}
use Rattle.book_history.specs.Weights.{told, elements_in}
use Rattle.book_history.proofs.Least.{boxes_are}

in_model_length : (place : ℕ) (name : List ℕ) (es : List Element) → length (in_model place name es) ≡ length es
in_model_length place name [] = refl
in_model_length place name (e ∷ es) = let r = in_model_length place name es in omega (arith, r)

subjects_from_length : (place : ℕ) (ms : List NamedModel) → length (subjects_from place ms) ≡ elements_in ms
subjects_from_length place [] = refl
subjects_from_length place (m ∷ ms) =
    let a = length-append (in_model place m.name m.model) (subjects_from (place + 1) ms) in
    let b = in_model_length place m.name m.model in
    let c = subjects_from_length (place + 1) ms in
    let d = sum_by-cons (λ (x : NamedModel). length x.model) m ms in
    omega (arith, a, b, c, d)

-- a version has as many elements as its models
pub subjects_length : (ms : List NamedModel) → length (subjects_of ms) ≡ elements_in ms
subjects_length ms = subjects_from_length 0 ms

pub count_is : (v : Version) (count : ℕ) → HasMemberships v count → count ≡ memberships_of v
count_is v count h = h.counted ∙ ap memberships (boxes_are v h.boxes h.boxed)

tested : (a b : ℕ) → a < b → nat_lt a b ≡ true
tested a b h = grind (arith, nat_tests)

untested : (a b : ℕ) → b ≤ a → nat_lt a b ≡ false
untested a b h = grind (arith, nat_tests)

pub spread : (limits : Limits) (v : Version) (count : ℕ) → HasMemberships v count → limits.memberships < count → too_spread limits (Some v) ≡ Some (fault.TooSpread count limits.memberships)
spread limits v count h lt =
    let is = count_is v count h in
    subst (λ n. (if nat_lt limits.memberships n then Some (fault.TooSpread n limits.memberships) else None) ≡ Some (fault.TooSpread count limits.memberships)) is
    (ap (λ (b : Bool). (if b then Some (fault.TooSpread count limits.memberships) else None)) (tested limits.memberships count lt))

pub not_spread : (limits : Limits) (v : Version) (count : ℕ) → HasMemberships v count → count ≤ limits.memberships → too_spread limits (Some v) ≡ None
not_spread limits v count h le =
    let is = count_is v count h in
    let few : memberships_of v ≤ limits.memberships = subst (λ n. n ≤ limits.memberships) is le in
    ap (λ (b : Bool). (if b then Some (fault.TooSpread (memberships_of v) limits.memberships) else None)) (untested limits.memberships (memberships_of v) few)

within_told : (a limit : ℕ) → told a ≤ limit → limit ≤ 100000 → a ≤ limit
within_told a limit h k = omega arith

-- so few elements get a grid
pub few_subjects : (limits : Limits) (v : Version) (count : ℕ) → count ≡ told (elements_in v.models) → count ≤ limits.elements → limits.elements ≤ 100000 → length (subjects_of v.models) ≤ 1000000
few_subjects limits v count is le small =
    let few = within_told (elements_in v.models) limits.elements (subst (λ n. n ≤ limits.elements) is le) small in
    let all = subjects_length v.models in
    omega (arith, few, all, small)

-- .. or of three, where the first two aren't
pub third_is : (a b c r : Option BookFault) → a ≡ None → b ≡ None → r ≡ c → r ≡ first_of (a ∷ b ∷ c ∷ [])
third_is a b c r e f is = is ∙ alone c ∙ ap₂ (λ o p. first_of (o ∷ p ∷ c ∷ [])) (sym e) (sym f)
  where
    alone : (o : Option BookFault) → o ≡ first_of (o ∷ [])
    alone None = refl
    alone (Some f) = refl
