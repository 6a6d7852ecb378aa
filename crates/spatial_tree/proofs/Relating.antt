-- What an instance relates.
use Rattle.std.proofs.Common.{◌≡◌, ℕ, inl, inr, true, List, Some, Result, Ok, Err, OnOk, Any, option_and_then, sym, ap, ◌∙◌, subst}
use Rattle.std.specs.List.{slice_get}
use Rattle.std.proofs.lemmas.Option.{same_Some}
use Rattle.p21_values.specs.declared.value.Value21.{Value21}
use Rattle.p21_values.specs.declared.value.Instance.{Instance}
use Rattle.ifc_instances.specs.declared.entity.Entity.{Entity}
use Rattle.p21_values.specs.Values.{reference_of, items_of}
use Rattle.ifc_instances.specs.EntityLookup.{is_a}
use Rattle.spatial_tree.specs.declared.relations.Link.{Link}
use Rattle.spatial_tree.specs.Relations.{Relates}
use Rattle.spatial_tree.specs.inner.Onlys.{Adds}

abbrev pub Pairs : List Value21 → ℕ → ℕ → ℕ → Type 0
Pairs items above object up = Any (λ v. (reference_of v ≡ Some object) × (up ≡ above)) items

pub relates_added : (entity : Entity) (many one : ℕ) (i : Instance) (items : List Value21) (above : ℕ) (xs ys : List Link) → is_a entity i ≡ true
    → option_and_then items_of (slice_get i.values many) ≡ Some items → option_and_then reference_of (slice_get i.values one) ≡ Some above
    → Adds (Pairs items above) xs ys → Adds (Relates entity many one i) xs ys
relates_added entity many one i items above xs ys k l r a = record {
  sound = λ o u h. elim (a.sound o u h) [ inl g ↦ inl g | inr p ↦ inr (relates o u p) ];
  keeps = a.keeps;
  all = λ o u h. a.all o u (pairs o u h);
}
  where
    relates : (o u : ℕ) → Pairs items above o u → Relates entity many one i o u
    relates o u p = record { kind = k; items = items; lists = l; listed = (p.0, p.1, p.2, p.3, p.4.0); refers = r ∙ ap Some (sym p.4.1) }

    pairs : (o u : ℕ) → Relates entity many one i o u → Pairs items above o u
    pairs o u h =
        let e = same_Some h.items items (sym h.lists ∙ l) in
        let t = subst (λ xs. Any (λ v. reference_of v ≡ Some o) xs) e h.listed in
        (t.0, t.1, t.2, t.3, (t.4, same_Some u above (sym h.refers ∙ r)))

pub on_ok_map : {A E : Type 0} (P Q : Type 0) → (P → Q) → (r : Result A E) → OnOk r P → OnOk r Q
on_ok_map P Q f (Ok x) h = f h
on_ok_map P Q f (Err e) h = h
