-- What values and options say of one thing.
use Rattle.std.proofs.Common.{◌≡◌, ℕ, true, Option, Some, sym, ◌∙◌}
use Rattle.std.proofs.lemmas.Option.{same_Some}
use Rattle.p21_values.specs.declared.value.Value21.{Value21}
use Rattle.p21_values.specs.declared.value.Value21.TheOpen.{Value21-F}
use Rattle.p21_values.specs.declared.value.Value21.TheOpen as layer
use Rattle.p21_values.specs.declared.value.Value21.TheViews.{out-Value21}
use Rattle.p21_values.specs.Values.{reference_in, absent_in, reference_of, is_absent}

-- what is there is one thing
pub one : {X : Type 0} (o : Option X) (a b : X) → o ≡ Some a → o ≡ Some b → a ≡ b
one o a b e f = same_Some a b (sym e ∙ f)

-- A value that is absent is no reference.

never_both : {A : Type 0} (v : Value21-F Value21) (to : ℕ) → absent_in v ≡ true → reference_in v ≡ Some to → A
never_both layer.Absent to a e = absurd (cc)
never_both layer.Derived to a e = absurd (cc)
never_both (layer.Number _) to a e = absurd (cc)
never_both (layer.Words _) to a e = absurd (cc)
never_both (layer.Enumeration _) to a e = absurd (cc)
never_both (layer.Bits _) to a e = absurd (cc)
never_both (layer.Reference _) to a e = absurd (cc)
never_both (layer.List _) to a e = absurd (cc)
never_both (layer.Typed _ _) to a e = absurd (cc)

pub refers_absent : {A : Type 0} (v : Value21) (to : ℕ) → is_absent v ≡ true → reference_of v ≡ Some to → A
refers_absent v to a e = never_both (out-Value21 v) to a e
