-- The element of a number.
use Rattle.std.proofs.Common.{◌≡◌, ℕ, ◌<◌, eqb, List, length, get_or, refl, sym, ap, subst, ◌∙◌}
use Rattle.std.specs.Str.{bytes_eq}
use Rattle.std.proofs.lemmas.Bool.Decides.{Decides-eqb, Decides-like, same_from_decides}
use Rattle.std.proofs.lemmas.Slice.Eq.{bytes_eq-Decides}
use Rattle.std.proofs.lemmas.List.Elements.{Contains-get_or}
use Rattle.bim_model.specs.Snapshots.{IsSnapshot}
use Rattle.bim_model.proofs.Rising.{places_are_names}
use Rattle.std.specs.List.{AllZip}
use Rattle.std.proofs.lemmas.List.{get_or_default}
use Rattle.bim_model.specs.declared.element.Element.{Element}
use Rattle.bim_model.specs.declared.named_model.NamedModel.{NamedModel}
use Rattle.bucket_grid.specs.declared.subjects.Member.{Member}
use Rattle.bim_model.specs.Keys.{Subject, subjects_of}
use Rattle.bucket_grid.specs.Subjects.{subject_at, nobody}
use Rattle.bucket_grid.specs.ElementPlaces.{IsPlace}
use Rattle.bucket_grid.proofs.Zips.{zip_at}

abbrev none : Member
none = record { model = 0; element = 0 }

pub place_at : (models : List NamedModel) (places : List Member) (n : ℕ) (p : Member) → AllZip (IsPlace models) (subjects_of models) places → n < length (subjects_of models) → p ≡ get_or places n none → IsPlace models (subject_at (subjects_of models) n) p
place_at models places n p h l e = subst (IsPlace models (subject_at (subjects_of models) n)) (sym e) (zip_at (IsPlace models) (subjects_of models) places n nobody none h l)

-- the model that a place names
pub named_is : (models : List NamedModel) (s : Subject) (p : Member) (m : NamedModel) → (i : IsPlace models s p) → m ≡ get_or models p.model m → m ≡ i.named
named_is models s p m i e = e ∙ get_or_default models p.model m i.named i.model_in ∙ i.model_is

-- the element there
pub element_is : (models : List NamedModel) (s : Subject) (p : Member) (m : NamedModel) (es : List Element) (x : Element) → (i : IsPlace models s p) → m ≡ get_or models p.model m → es ≡ m.model → x ≡ get_or es p.element x → x ≡ s.element
element_is models s p m es x i e f g =
    let all : es ≡ i.named.model = f ∙ ap (λ (n : NamedModel). n.model) (named_is models s p m i e) in
    g ∙ ap (λ l. get_or l p.element x) all ∙ get_or_default i.named.model p.element x s.element i.element_in ∙ i.element_is

pub element_in : (models : List NamedModel) (s : Subject) (p : Member) (m : NamedModel) (es : List Element) → (i : IsPlace models s p) → m ≡ get_or models p.model m → es ≡ m.model → p.element < length es
element_in models s p m es i e f =
    let all : i.named.model ≡ es = sym (f ∙ ap (λ (n : NamedModel). n.model) (named_is models s p m i e)) in
    subst (λ (l : List Element). p.element < length l) all i.element_in

pub model_within : (models : List NamedModel) (s : Subject) (p : Member) (d : NamedModel) → (i : IsPlace models s p) → p.element < length (get_or models p.model d).model
model_within models s p d i = element_in models s p (get_or models p.model d) (get_or models p.model d).model i (get_or_default models p.model d (get_or models p.model d) i.model_in) refl

pub found_is : (models : List NamedModel) (s : Subject) (p : Member) (x : Element) → (i : IsPlace models s p) → ((d : NamedModel) (e : Element) → x ≡ get_or (get_or models p.model d).model p.element e) → x ≡ s.element
found_is models s p x i h = element_is models s p (get_or models p.model i.named) (get_or models p.model i.named).model x i (get_or_default models p.model i.named (get_or models p.model i.named) i.model_in) refl (h i.named x)

-- two elements of a version are of one model where its names agree
pub same_names : (models : List NamedModel) (a b : ℕ) → IsSnapshot models → a < length (subjects_of models) → b < length (subjects_of models)
    → eqb (subject_at (subjects_of models) a).model (subject_at (subjects_of models) b).model ≡ bytes_eq (subject_at (subjects_of models) a).name (subject_at (subjects_of models) b).name
same_names models a b h i j =
    let s = subject_at (subjects_of models) a in
    let t = subject_at (subjects_of models) b in
    let same = places_are_names models h s t (Contains-get_or (subjects_of models) a nobody i) (Contains-get_or (subjects_of models) b nobody j) in
    same_from_decides (eqb s.model t.model) (bytes_eq s.name t.name) (Decides-like (eqb s.model t.model) same.0 same.1 (Decides-eqb s.model t.model)) (bytes_eq-Decides s.name t.name)
