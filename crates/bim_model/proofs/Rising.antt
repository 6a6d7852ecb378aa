-- The elements of a version rise by their keys, and the names of its models differ.
use Rattle.std.proofs.Common.{◌≡◌, ◌≢◌, ◌↔◌, ℕ, zero, suc, ◌+◌, ◌<◌, inl, inr, List, [], ◌∷◌, length, get_or, false, IsTrue, true≢false, refl, sym, ◌∙◌, ap, subst, arith}
use Rattle.std.specs.List.{All, AllPairs, Contains}
use Rattle.std.specs.Ordering.{nat_cmp, ordering_then, is_lt}
use Rattle.std.specs.Cmp.Lexicographic.{slice_cmp}
use Rattle.std.proofs.lemmas.Cmp.{nat_list_cmp_total, tied_itself}
use Rattle.std.proofs.lemmas.Bool.{cases_order}
use Rattle.std.proofs.lemmas.List.Elements.{All-append, All-cons, All-nil, All-weaker, All-head, All-tail, All-contains}
use Rattle.std.proofs.lemmas.List.Kept.{AllPairs-cons}
use Rattle.bim_model.specs.Models.{is_below, IsModel}
use Rattle.bim_model.specs.Snapshots.{IsSnapshot}
use Rattle.bim_model.specs.Keys.{Subject, in_model, subjects_from, subjects_of, IsBelow}
use Rattle.bim_model.specs.declared.element.Element.{Element}
use Rattle.bim_model.specs.declared.named_model.NamedModel.{NamedModel}
use Rattle.bim_model.proofs.Versions.{less, pairs_append}

pairs_nil : {X : Type 0} (R : X → X → Type 0) → AllPairs R []
pairs_nil R i j d below within = absurd (omega arith)

pairs_head : {X : Type 0} (R : X → X → Type 0) (x : X) (xs : List X) → AllPairs R (x ∷ xs) → All (R x) xs
pairs_head R x xs h i d within = h zero (suc i) d (omega arith) (omega arith)

pairs_tail : {X : Type 0} (R : X → X → Type 0) (x : X) (xs : List X) → AllPairs R (x ∷ xs) → AllPairs R xs
pairs_tail R x xs h i j d below within = h (suc i) (suc j) d (omega arith) (omega arith)

-- in one model identifiers decide
below_within : (name g h : List ℕ) → IsTrue (is_below g h) → IsTrue (is_lt (ordering_then (slice_cmp nat_cmp name name) (slice_cmp nat_cmp g h)))
below_within name g h lower = rw (tied_itself nat_list_cmp_total name) lower

-- in two models names decide
below_across : (m n g h : List ℕ) → IsTrue (is_below m n) → IsTrue (is_lt (ordering_then (slice_cmp nat_cmp m n) (slice_cmp nat_cmp g h)))
below_across m n g h lower = rw (less (slice_cmp nat_cmp m n) lower) refl

not_below_itself : (name : List ℕ) → IsTrue (is_below name name) → ⊥
not_below_itself name lower =
    let e : is_below name name ≡ false = ap is_lt (tied_itself nat_list_cmp_total name) in
    true≢false (sym lower ∙ e)

all_in : (P : Subject → Type 0) (place : ℕ) (name : List ℕ) (es : List Element)
    → All (λ (e : Element). P (record { model = place; name = name; element = e })) es → All P (in_model place name es)
all_in P place name [] h = All-nil P
all_in P place name (e ∷ es) h =
    All-cons P (record { model = place; name = name; element = e }) (in_model place name es)
    (All-head (λ (e : Element). P (record { model = place; name = name; element = e })) e es h)
    (all_in P place name es (All-tail (λ (e : Element). P (record { model = place; name = name; element = e })) e es h))

in_model_rises : (place : ℕ) (name : List ℕ) (es : List Element)
    → AllPairs (λ (e f : Element). IsTrue (is_below e.guid.chars f.guid.chars)) es → AllPairs IsBelow (in_model place name es)
in_model_rises place name [] h = pairs_nil IsBelow
in_model_rises place name (e ∷ es) h =
    let R : Element → Element → Type 0 = λ a b. IsTrue (is_below a.guid.chars b.guid.chars) in
    let first : Subject = record { model = place; name = name; element = e } in
    AllPairs-cons IsBelow first (in_model place name es)
    (all_in (IsBelow first) place name es
    (All-weaker (R e) (λ (f : Element). IsBelow first (record { model = place; name = name; element = f }))
    (λ f lower. below_within name e.guid.chars f.guid.chars lower) es (pairs_head R e es h)))
    (in_model_rises place name es (pairs_tail R e es h))

names_from : (Q : List ℕ → Type 0) (place : ℕ) (ms : List NamedModel)
    → All (λ (m : NamedModel). Q m.name) ms → All (λ (s : Subject). Q s.name) (subjects_from place ms)
names_from Q place [] h = All-nil (λ (s : Subject). Q s.name)
names_from Q place (m ∷ ms) h =
    All-append (λ (s : Subject). Q s.name) (in_model place m.name m.model) (subjects_from (place + 1) ms)
    (all_in (λ (s : Subject). Q s.name) place m.name m.model (λ i d within. All-head (λ (m : NamedModel). Q m.name) m ms h))
    (names_from Q (place + 1) ms (All-tail (λ (m : NamedModel). Q m.name) m ms h))

rises_from : (place : ℕ) (ms : List NamedModel) → AllPairs (λ (m n : NamedModel). IsTrue (is_below m.name n.name)) ms
    → All (λ (m : NamedModel). IsModel m.model) ms → AllPairs IsBelow (subjects_from place ms)
rises_from place [] rising modelled = pairs_nil IsBelow
rises_from place (m ∷ ms) rising modelled =
    let R : NamedModel → NamedModel → Type 0 = λ a b. IsTrue (is_below a.name b.name) in
    let rest = subjects_from (place + 1) ms in
    let later : All (λ (t : Subject). IsTrue (is_below m.name t.name)) rest = names_from (λ n. IsTrue (is_below m.name n)) (place + 1) ms (pairs_head R m ms rising) in
    let own : IsModel m.model = All-head (λ (n : NamedModel). IsModel n.model) m ms modelled in
    pairs_append IsBelow (in_model place m.name m.model) rest
    (in_model_rises place m.name m.model own.rising)
    (rises_from (place + 1) ms (pairs_tail R m ms rising) (All-tail (λ (n : NamedModel). IsModel n.model) m ms modelled))
    (all_in (λ (s : Subject). All (IsBelow s) rest) place m.name m.model
    (λ i d within.
    let e : Element = get_or m.model i d in
    All-weaker (λ (t : Subject). IsTrue (is_below m.name t.name)) (IsBelow (record { model = place; name = m.name; element = e }))
    (λ t lower. below_across m.name t.name e.guid.chars t.element.guid.chars lower) rest later))

pub subjects_rise : (models : List NamedModel) → IsSnapshot models → AllPairs IsBelow (subjects_of models)
subjects_rise models h = rises_from 0 models h.rising h.modelled

pub names_differ : (models : List NamedModel) → IsSnapshot models → AllPairs (λ (m n : NamedModel). m.name ≢ n.name) models
names_differ models h i j d below within same =
    not_below_itself (get_or models j d).name
    (subst (λ (name : List ℕ). IsTrue (is_below name (get_or models j d).name)) same (h.rising i j d below within))

-- the element's model stands at its place, under its name
record IsPlaced (models : List NamedModel) (s : Subject) : Type 0 where
  within : s.model < length models
  named : (d : NamedModel) → s.name ≡ (get_or models s.model d).name

placed_from : (all : List NamedModel) (place : ℕ) (ms : List NamedModel) → place + length ms ≡ length all
    → ((k : ℕ) (d : NamedModel) → k < length ms → get_or all (place + k) d ≡ get_or ms k d) → All (IsPlaced all) (subjects_from place ms)
placed_from all place [] count at = All-nil (IsPlaced all)
placed_from all place (m ∷ ms) count at =
    All-append (IsPlaced all) (in_model place m.name m.model) (subjects_from (place + 1) ms)
    (all_in (IsPlaced all) place m.name m.model
    (λ i d within. record {
      within = omega arith;
      named = λ d. let here : place + 0 ≡ place = omega arith in ap (λ (n : NamedModel). n.name) (sym (at 0 d (omega arith)) ∙ ap (λ k. get_or all k d) here);
    }))
    (placed_from all (place + 1) ms (omega arith)
    (λ k d within. let next : place + 1 + k ≡ place + suc k = omega arith in ap (λ j. get_or all j d) next ∙ at (suc k) d (omega arith)))

all_placed : (models : List NamedModel) (s : Subject) → Contains (subjects_of models) s → IsPlaced models s
all_placed models s in_it =
    All-contains (IsPlaced models) (subjects_of models) s (placed_from models 0 models (omega arith) (λ k d within. let e : 0 + k ≡ k = omega arith in ap (λ j. get_or models j d) e)) in_it

nowhere : NamedModel
nowhere = record { name = []; model = [] }

-- where the names agree, neither place is below the other
not_before : (models : List NamedModel) → IsSnapshot models → (s t : Subject) → IsPlaced models s → IsPlaced models t → s.name ≡ t.name → s.model < t.model → ⊥
not_before models h s t p q same below =
    names_differ models h s.model t.model nowhere below q.within (sym (p.named nowhere) ∙ same ∙ q.named nowhere)

pub places_are_names : (models : List NamedModel) → IsSnapshot models → (s t : Subject) → Contains (subjects_of models) s → Contains (subjects_of models) t
    → (s.model ≡ t.model) ↔ (s.name ≡ t.name)
places_are_names models h s t a b =
    let p = all_placed models s a in
    let q = all_placed models t b in (
      λ same. p.named nowhere ∙ ap (λ k. (get_or models k nowhere).name) same ∙ sym (q.named nowhere),
      λ same. elim (cases_order s.model t.model) [
        | inl e ↦ e
        | inr r ↦ elim r [
          | inl below ↦ absurd (not_before models h s t p q same below)
          | inr above ↦ absurd (not_before models h t s q p (sym same) above)
        ]
      ],
    )
