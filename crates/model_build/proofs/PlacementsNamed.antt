-- How the placements that elements name are listed.
use Rattle.std.proofs.Common.{◌≡◌, ℕ, inl, inr, List, [], ◌∷◌, ◌++◌, Some, Contains, ap, sym, ◌∙◌, subst}
use Rattle.std.proofs.lemmas.List.Elements.{Contains-append_left, Contains-push, Contains-push_cases}
use Rattle.p21_values.specs.declared.value.Instance.{Instance}
use Rattle.p21_values.specs.Attributes.{reference_at}
use Rattle.model_build.specs.NamedPlacements.{IsNamed, NamesPlacement, NamesNone, ListsNamed}

-- an element names one placement
names_once : (world : List Instance) (id p q : ℕ) → NamesPlacement world id p → NamesPlacement world id q → p ≡ q
names_once world id p q f g =
    let same : f.instance ≡ g.instance = (let a = f.found in let b = g.found in cc) in
    let there : Some p ≡ Some q = sym f.holds ∙ ap (λ i. reference_at i 5) same ∙ g.holds in
    cc

named_wider : (world : List Instance) (ids : List ℕ) (id p : ℕ) → IsNamed world (Contains ids) p → IsNamed world (Contains (ids ++ id ∷ [])) p
named_wider world ids id p n = record { element = n.element; of = Contains-append_left ids (id ∷ []) n.element n.of; names = n.names }

pub named_pushed : (world : List Instance) (ids named : List ℕ) (id p : ℕ) → NamesPlacement world id p → ListsNamed world ids named → ListsNamed world (ids ++ id ∷ []) (named ++ p ∷ [])
named_pushed world ids named id p f l = record {
  sound = λ q c. elim (Contains-push_cases named p q c) [
    | inl h ↦ named_wider world ids id q (l.sound q h)
    | inr e ↦ record { element = id; of = Contains-push ids id; names = subst (λ n. NamesPlacement world id n) e f }
  ];
  all = λ q n. elim (Contains-push_cases ids id n.element n.of) [
    | inl h ↦ Contains-append_left named (p ∷ []) q (l.all q (record { element = n.element; of = h; names = n.names }))
    | inr e ↦ subst (λ m. Contains (named ++ p ∷ []) m) (names_once world id p q f (subst (λ m. NamesPlacement world m q) (sym e) n.names)) (Contains-push named p)
  ];
}

pub named_passed : (world : List Instance) (ids named : List ℕ) (id : ℕ) → NamesNone world id → ListsNamed world ids named → ListsNamed world (ids ++ id ∷ []) named
named_passed world ids named id f l = record {
  sound = λ q c. named_wider world ids id q (l.sound q c);
  all = λ q n. elim (Contains-push_cases ids id n.element n.of) [
    | inl h ↦ l.all q (record { element = n.element; of = h; names = n.names })
    | inr e ↦ absurd (f q (subst (λ m. NamesPlacement world m q) (sym e) n.names))
  ];
}
