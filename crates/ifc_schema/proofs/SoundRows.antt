-- Rows of short numbers have no flaw, and what is left behind them has the first.
use Rattle.std.proofs.Common.{◌≡◌, ℕ, ◌+◌, List, [], ◌∷◌, ◌++◌, length, get_or, Option, Some, None, is_some, Bool, true, false, sym, ap, subst, ◌∙◌, arith, append_assoc}
use Rattle.std.specs.Prelude.{All, MatchOption}
use Rattle.std.specs.Bool.{OnTrue}
use Rattle.std.proofs.lemmas.List.{get_or_append_left, length-append}
use Rattle.std.proofs.lemmas.List.Elements.{All-nil, All-push, All-append, All-get_or, All-weaker}
use Rattle.std.proofs.Math.Seq.{get_or-append_seam}
use Rattle.bim_text.specs.ScaledNumbers.{signed}
use Rattle.bim_text.specs.declared.short.Short.{Short}
use Rattle.bim_text.specs.declared.short.ShortRow.{ShortRow}
use Rattle.bim_text.proofs.ShortDecimals.{short_reads, short_whole}
use Rattle.p21_values.specs.declared.value.Value21.{Value21}
use Rattle.p21_values.specs.declared.value.Instance.{Instance}
use Rattle.p21_table.specs.ShortRows.{SaysShort, SaysRow}
use Rattle.ifc_schema.specs.declared.flaw.Flaw.{Flaw}
use Rattle.ifc_schema.specs.declared.flaw.Flaw.TheVariants.{BadShape}
use Rattle.ifc_schema.specs.declared.form.Leaf.{Leaf}
use Rattle.ifc_schema.specs.declared.form.Leaf.TheVariants.{Number, Whole}
use Rattle.ifc_schema.specs.declared.form.Count.{Count}
use Rattle.ifc_schema.specs.declared.form.Count.TheVariants.{Exactly}
use Rattle.ifc_schema.specs.AttributeWords.{IsNumber, IsWhole}
use Rattle.ifc_schema.specs.Flaws.{LeafFlaw, ListFlaw, ItemsFlaw, FirstFlaw}
use Rattle.ifc_schema.specs.inner.SoundValues.{IsSound, Passes}
use Rattle.ifc_schema.proofs.Firsts.{flawed_next}

-- Of one row.

number_leaf : (world : List Instance) (s : Short) (v : Value21) → SaysShort s v → LeafFlaw world Number v None
number_leaf world s v h = subst (λ (o : Option (List ℕ)). MatchOption o (None ≡ Some BadShape) (λ bs. IsNumber bs)) (sym h.number) (short_reads h.spelled s h.digits h.spells)

whole_leaf : (world : List Instance) (s : Short) (v : Value21) → SaysShort s v → s.places ≡ 0 → LeafFlaw world Whole v None
whole_leaf world s v h none =
    subst (λ (o : Option (List ℕ)). MatchOption o (None ≡ Some BadShape) (λ bs. IsWhole bs)) (sym h.number) (signed s.negative s.digits, short_whole h.spelled s none h.spells)

all_three : (P : Value21 → Type 0) (x y z : Value21) → P x → P y → P z → All P (x ∷ y ∷ z ∷ [])
all_three P x y z a b c = All-push P (x ∷ y ∷ []) z (All-push P (x ∷ []) y (All-push P [] x (All-nil P) a) b) c

three_sound : (R : Value21 → Option Flaw → Type 0) (r : ShortRow) (v : Value21) → (s : SaysRow r v) → R s.x None → R s.y None → R s.z None → ListFlaw (Exactly 3) R v None
three_sound R r v s a b c = subst (λ (o : Option (List Value21)). MatchOption o (None ≡ Some BadShape) (λ vs. ItemsFlaw (Exactly 3) R vs None)) (sym s.items) (all_three (λ x. R x None) s.x s.y s.z a b c)

pub numbers_sound : (inner : Count) (leaf : Leaf) (r : ShortRow) → inner ≡ Exactly 3 → leaf ≡ Number → (v : Value21) → SaysRow r v → IsSound inner leaf v
numbers_sound inner leaf r e f v s =
    subst (λ (n : Count). IsSound n leaf v) (sym e)
    (subst (λ (l : Leaf). IsSound (Exactly 3) l v) (sym f)
    (λ world. three_sound (LeafFlaw world Number) r v s (number_leaf world r.x s.x s.first) (number_leaf world r.y s.y s.second) (number_leaf world r.z s.z s.third)))

pub wholes_sound : (inner : Count) (leaf : Leaf) (r : ShortRow) → inner ≡ Exactly 3 → leaf ≡ Whole → (r.x.places ≡ 0) × (r.y.places ≡ 0) × (r.z.places ≡ 0) → (v : Value21) → SaysRow r v → IsSound inner leaf v
wholes_sound inner leaf r e f bare v s =
    subst (λ (n : Count). IsSound n leaf v) (sym e)
    (subst (λ (l : Leaf). IsSound (Exactly 3) l v) (sym f)
    (λ world. three_sound (LeafFlaw world Whole) r v s (whole_leaf world r.x s.x s.first bare.0) (whole_leaf world r.y s.y s.second bare.1) (whole_leaf world r.z s.z s.third bare.2)))

pub on_true : {A B : Type 0} (b : Bool) → OnTrue b A → (A → B) → OnTrue b B
on_true true h f = f h
on_true false h f = h

-- Of what is passed over.

pub passes_more : {X : Type 0} (Is : X → Type 0) (xs left next : List X) (x : X) → Passes Is xs left → left ≡ x ∷ next → Is x → Passes Is xs next
passes_more Is xs left next x p e is =
    (p.0 ++ x ∷ [], p.1 ∙ ap (λ ys. p.0 ++ ys) e ∙ sym (append_assoc p.0 (x ∷ []) next), All-push Is p.0 x p.2 is)

pub passes_on : {X : Type 0} (Is : X → Type 0) (xs ys zs : List X) → Passes Is xs ys → Passes Is ys zs → Passes Is xs zs
passes_on Is xs ys zs p q = (p.0 ++ q.0, p.1 ∙ ap (λ l. p.0 ++ l) q.1 ∙ sym (append_assoc p.0 q.0 zs), All-append Is p.0 q.0 p.2 q.2)

pub passes_weaker : {X : Type 0} (Is Was : X → Type 0) (xs ys : List X) → ((x : X) → Is x → Was x) → Passes Is xs ys → Passes Was xs ys
passes_weaker Is Was xs ys f p = (p.0, p.1, All-weaker Is Was f p.0 p.2)

-- the next one after them has the first flaw
pub flawed_behind : {X : Type 0} (R : X → Option Flaw → Type 0) (xs left rest : List X) (x : X) (f : Option Flaw) → Passes (λ y. R y None) xs left → left ≡ x ∷ rest → is_some f ≡ true → R x f → FirstFlaw R xs f
flawed_behind R xs left rest x f p e some h =
    let whole : xs ≡ p.0 ++ x ∷ rest = p.1 ∙ ap (λ ys. p.0 ++ ys) e in
    let size : length xs ≡ length p.0 + length (x ∷ rest) = ap length whole ∙ length-append p.0 (x ∷ rest) in
    let there : x ≡ get_or xs (length p.0) x = sym (ap (λ ys. get_or ys (length p.0) x) whole ∙ get_or-append_seam p.0 x rest x) in
    flawed_next R xs p.0 x f (omega (arith, size), there)
    (λ k lt d. subst (λ y. R y None) (sym (ap (λ ys. get_or ys k d) whole ∙ get_or_append_left p.0 (x ∷ rest) d k lt)) (All-get_or (λ y. R y None) p.0 k d lt p.2)) some h
