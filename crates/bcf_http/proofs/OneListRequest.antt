-- A request for a list has one answer: its texts have one reading.
use Rattle.std.proofs.Common.{◌≡◌, ◌⊎◌, inl, inr, ℕ, Bool, List, Option, Some, None, Result, Ok, Err, true≢false, refl, sym, ap, ◌∙◌}
use Rattle.odata_filter.specs.declared.filter_error.FilterError.{FilterError}
use Rattle.odata_filter.specs.declared.filter_error.FilterError.TheVariants.{Bad, Memory}
use Rattle.odata_filter.specs.declared.listing.Listing.{Listing}
use Rattle.odata_filter.specs.FilterLexemes.{Lexeme, lexemes_of}
use Rattle.odata_filter.specs.FilterGrammar.{IsFilter}
use Rattle.odata_filter.specs.OrderGrammar.{IsOrder}
use Rattle.odata_filter.specs.Readings.{AreOneReading, HasOneReading}
use Rattle.odata_filter.proofs.TokenReading.{means_one}
use Rattle.odata_filter.proofs.FilterReadings.{reads_filters}
use Rattle.odata_filter.proofs.OrderReadings.{reads_orders}
use Rattle.odata_filter.proofs.OneReading.{one_reading}
use Rattle.http_routes.specs.declared.list_query.ListAsked.{ListAsked}
use Rattle.bcf_http.specs.declared.asked.RequestFault.{RequestFault}
use Rattle.bcf_http.specs.declared.asked.RequestFault.TheVariants as request
use Rattle.bcf_http.specs.declared.asked.Refusal.{Refusal}
use Rattle.bcf_http.specs.declared.asked.Refusal.TheVariants as refusal
use Rattle.bcf_http.specs.ListRequests.{SpellsIf, IsBadAt, AsksListing, RefusesListing, IsListingOf}

ok_ok : {A : Type 0} (x y : A) → AreOneReading (Ok x) (Ok y) → Some x ≡ Some y
ok_ok x y (inl same) = cc
ok_ok x y (inr (inl short)) = cc
ok_ok x y (inr (inr short)) = cc

ok_bad : {A : Type 0} (x : A) (at : ℕ) → AreOneReading (Ok x) (Err (Bad at)) → ⊥
ok_bad x at (inl same) = cc
ok_bad x at (inr (inl short)) = cc
ok_bad x at (inr (inr short)) = cc

bad_bad : {A : Type 0} (a b : ℕ) → AreOneReading {A = A} (Err (Bad a)) (Err (Bad b)) → a ≡ b
bad_bad a b (inl same) = cc
bad_bad a b (inr (inl short)) = cc
bad_bad a b (inr (inr short)) = cc

module _ {A : Type 0} (Means : List Lexeme → A → Type 0) (one : HasOneReading Means) where
  -- a text spells one thing
  one_spelled : (text : Option (List ℕ)) (a b : Option A) → SpellsIf Means text a → SpellsIf Means text b → a ≡ b
  one_spelled None a b d e = d ∙ sym e
  one_spelled (Some text) None b d e = absurd d
  one_spelled (Some text) (Some x) None d e = absurd e
  one_spelled (Some text) (Some x) (Some y) d e = ok_ok x y (one text (Ok x) (Ok y) d e)

  -- or is bad
  not_both : (text : Option (List ℕ)) (a : Option A) (at : ℕ) → SpellsIf Means text a → IsBadAt Means text at → ⊥
  not_both None a at d e = e
  not_both (Some text) None at d e = d
  not_both (Some text) (Some x) at d e = ok_bad x at (one text (Ok x) (Err (Bad at)) d e)

  -- at one place
  one_place : (text : Option (List ℕ)) (a b : ℕ) → IsBadAt Means text a → IsBadAt Means text b → a ≡ b
  one_place None a b d e = absurd d
  one_place (Some text) a b d e = bad_bad {A = A} a b (one text (Err (Bad a)) (Err (Bad b)) d e)

filters_one : HasOneReading IsFilter
filters_one text r s d e = one_reading IsFilter text (means_one reads_filters (lexemes_of text)) r s d e

orders_one : HasOneReading IsOrder
orders_one text r s d e = one_reading IsOrder text (means_one reads_orders (lexemes_of text)) r s d e

same_listing : (l m : Listing) → l.filter ≡ m.filter → l.order ≡ m.order → l.skip ≡ m.skip → l.top ≡ m.top → l ≡ m
same_listing l m a b c d =
    ap (λ x. (let it : Listing = record { filter = x; order = l.order; skip = l.skip; top = l.top } in it)) a
    ∙ ap (λ x. (let it : Listing = record { filter = m.filter; order = x; skip = l.skip; top = l.top } in it)) b
    ∙ ap (λ x. (let it : Listing = record { filter = m.filter; order = m.order; skip = x; top = l.top } in it)) c
    ∙ ap (λ x. (let it : Listing = record { filter = m.filter; order = m.order; skip = m.skip; top = x } in it)) d

one_listing : (asked : ListAsked) (l m : Listing) → AsksListing asked l → AsksListing asked m → l ≡ m
one_listing asked l m d e =
    same_listing l m (one_spelled IsFilter filters_one asked.filter l.filter m.filter d.filter e.filter)
    (one_spelled IsOrder orders_one asked.order l.order m.order d.order e.order) (d.skip ∙ sym e.skip) (d.top ∙ sym e.top)

one_fault : (asked : ListAsked) (bad_turn : Bool) (f g : RequestFault) → RefusesListing asked bad_turn f → RefusesListing asked bad_turn g → f ≡ g
one_fault asked bad_turn f g (inl x) (inl y) =
    x.2 ∙ ap (λ at. request.Filter at) (one_place IsFilter filters_one asked.filter x.0 y.0 x.1 y.1) ∙ sym y.2
one_fault asked bad_turn f g (inl x) (inr (inl y)) = absurd (not_both IsFilter filters_one asked.filter y.1.0 x.0 y.1.1 x.1)
one_fault asked bad_turn f g (inl x) (inr (inr y)) = absurd (not_both IsFilter filters_one asked.filter y.0.0.filter x.0 y.0.1.filter x.1)
one_fault asked bad_turn f g (inr (inl x)) (inl y) = absurd (not_both IsFilter filters_one asked.filter x.1.0 y.0 x.1.1 y.1)
one_fault asked bad_turn f g (inr (inl x)) (inr (inl y)) =
    x.3 ∙ ap (λ at. request.Order at) (one_place IsOrder orders_one asked.order x.0 y.0 x.2 y.2) ∙ sym y.3
one_fault asked bad_turn f g (inr (inl x)) (inr (inr y)) = absurd (not_both IsOrder orders_one asked.order y.0.0.order x.0 y.0.1.order x.2)
one_fault asked bad_turn f g (inr (inr x)) (inl y) = absurd (not_both IsFilter filters_one asked.filter x.0.0.filter y.0 x.0.1.filter y.1)
one_fault asked bad_turn f g (inr (inr x)) (inr (inl y)) = absurd (not_both IsOrder orders_one asked.order x.0.0.order y.0 x.0.1.order y.2)
one_fault asked bad_turn f g (inr (inr x)) (inr (inr y)) = x.2 ∙ sym y.2

not_refused : (asked : ListAsked) (bad_turn : Bool) (l : Listing) (f : RequestFault) → IsListingOf asked bad_turn (Ok l) → RefusesListing asked bad_turn f → ⊥
not_refused asked bad_turn l f d (inl x) = not_both IsFilter filters_one asked.filter l.filter x.0 d.0.filter x.1
not_refused asked bad_turn l f d (inr (inl x)) = not_both IsOrder orders_one asked.order l.order x.0 d.0.order x.2
not_refused asked bad_turn l f d (inr (inr x)) = true≢false (sym x.1 ∙ d.1)

pub one_answer : (asked : ListAsked) (bad_turn : Bool) (r s : Result Listing Refusal) → IsListingOf asked bad_turn r → IsListingOf asked bad_turn s
    → (r ≡ s) ⊎ ((r ≡ Err refusal.Memory) ⊎ (s ≡ Err refusal.Memory))
one_answer asked bad_turn (Ok l) (Ok m) d e = inl (ap (λ x. (let it : Result Listing Refusal = Ok x in it)) (one_listing asked l m d.0 e.0))
one_answer asked bad_turn (Ok l) (Err (refusal.Fault f)) d e = absurd (not_refused asked bad_turn l f d e)
one_answer asked bad_turn (Err (refusal.Fault f)) (Ok m) d e = absurd (not_refused asked bad_turn m f e d)
one_answer asked bad_turn (Err (refusal.Fault f)) (Err (refusal.Fault g)) d e =
    inl (ap (λ x. (let it : Result Listing Refusal = Err (refusal.Fault x) in it)) (one_fault asked bad_turn f g d e))
one_answer asked bad_turn r (Err refusal.Memory) d e = inr (inr refl)
one_answer asked bad_turn (Err refusal.Memory) s d e = inr (inl refl)
