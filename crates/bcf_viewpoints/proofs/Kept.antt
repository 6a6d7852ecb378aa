-- What is made of viewpoints keeps their identifiers.
use Rattle.std.proofs.Common.{◌≡◌, ℕ, ◌==◌, Bool, true, false, cond, not, [], ◌∷◌, filter, Option, Some, None, IfSome, is_some, Ok, Err, Bor, refl, sym, subst}
use Rattle.std.specs.List.{All}
use Rattle.std.specs.Map.{values_of, lookup}
use Rattle.std.specs.Option.{option_copied}
use Rattle.std.proofs.lemmas.List.Elements.{All-cons, All-filter, All-head, All-nil, All-tail}
use Rattle.std.proofs.lemmas.Map.Views.{All-values-insert_entry, All-map-remove_entry}
use Rattle.bcf_topics.specs.Comments.{by_place, is_place}
use Rattle.bcf_viewpoints.specs.declared.view.ViewBody.{ViewBody}
use Rattle.bcf_viewpoints.specs.declared.viewpoints.ViewError.TheVariants.{NoViewpoint}
use Rattle.bcf_viewpoints.specs.Viewpoints.{Views, IsViewBody, AreViews, view_of, views_with, views_but, views_off, deleted}

pub with_kept : (topic serial : ℕ) (body : ViewBody) (views new : Views) → new ≡ views_with topic serial body views → AreViews views → IsViewBody body → AreViews new
unfolding views_with
with_kept topic serial body views new e kept good =
    rw e (All-values-insert_entry by_place (topic, serial) body IsViewBody views kept good)

pub but_kept : (topic serial : ℕ) (views new : Views) → new ≡ views_but topic serial views → AreViews views → AreViews new
unfolding views_but
but_kept topic serial views new e kept =
    rw e (All-map-remove_entry (is_place topic serial) (λ e. e.1) IsViewBody views kept)

one_passed : (b : Bool) (x : (ℕ × ℕ) × ViewBody) (xs : Views) → IsViewBody x.1 → AreViews xs → AreViews (cond b (x ∷ xs) xs)
one_passed true x xs h k = All-cons IsViewBody x.1 (values_of xs) h k
one_passed false x xs h k = k

pub off_kept : (topic : ℕ) (views : Views) → AreViews views → AreViews (views_off topic views)
unfolding views_off
off_kept topic [] h = All-nil IsViewBody
off_kept topic (x ∷ xs) h =
    one_passed (not (x.0.0 == topic)) x (filter (λ e. not (e.0.0 == topic)) xs)
    (All-head IsViewBody x.1 (values_of xs) h)
    (off_kept topic xs (All-tail IsViewBody x.1 (values_of xs) h))

-- what is not there can't be deleted
pub answered : (found : Option ViewBody) → deleted found ≡ cond (is_some found) (Ok tt) (Err NoViewpoint)
answered None = refl
answered (Some body) = refl

one_found : (b : Bool) (body : ViewBody) (rest : Option ViewBody) → IsViewBody body → IfSome rest IsViewBody → IfSome (cond b (Some body) rest) IsViewBody
one_found true body rest h k = h
one_found false body rest h k = k

found_kept : (topic serial : ℕ) (views : Views) → AreViews views → IfSome (view_of topic serial views) IsViewBody
unfolding view_of
found_kept topic serial [] h = tt
found_kept topic serial (x ∷ xs) h =
    one_found (is_place topic serial x.0) x.1 (lookup (is_place topic serial) xs)
    (All-head IsViewBody x.1 (values_of xs) h)
    (found_kept topic serial xs (All-tail IsViewBody x.1 (values_of xs) h))

pub lent_kept : (topic serial : ℕ) (views : Views) (r : Option (Bor ViewBody)) → option_copied r ≡ view_of topic serial views → AreViews views
    → IfSome r (λ body. IsViewBody body.now)
lent_kept topic serial views None e h = tt
lent_kept topic serial views (Some body) e h =
    let P : Option ViewBody → Type 0 = λ o. IfSome o IsViewBody in
    subst P (sym e) (found_kept topic serial views h)

-- an entry has a good body
abbrev pub HasGood : (ℕ × ℕ) × ViewBody → Type 0
HasGood e = IsViewBody e.1

entries_good : (views : Views) → AreViews views → All HasGood views
entries_good [] h = All-nil HasGood
entries_good (x ∷ xs) h =
    All-cons HasGood x xs (All-head IsViewBody x.1 (values_of xs) h) (entries_good xs (All-tail IsViewBody x.1 (values_of xs) h))

-- those of one topic have
pub topic_good : (topic : ℕ) (views : Views) → AreViews views → All HasGood (filter (λ e. e.0.0 == topic) views)
topic_good topic views h = All-filter (λ e. e.0.0 == topic) HasGood views (entries_good views h)
