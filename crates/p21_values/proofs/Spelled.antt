-- The tokens that spell values, and that tokens begin with one value at most.
use Rattle.std.proofs.Common.{◌≡◌, List, [], ◌∷◌, ◌++◌, map, refl, sym, ap, subst, ◌∙◌, append_assoc}
use Rattle.p21_values.specs.declared.value.Value21.{Value21}
use Rattle.p21_values.specs.declared.value.Value21.TheOpen.{Value21-F}
use Rattle.p21_values.specs.declared.value.Value21.TheOpen as layer
use Rattle.p21_values.specs.declared.value.Value21.TheFolds.{fold-roll-Value21, ind-Value21, map-Value21}
use Rattle.p21_values.specs.Lexemes.{Lexeme, Absence, Derivation, Opening, Closing, Separator, NumberOf, WordsOf, EnumerationOf, BitsOf, KeywordOf, ReferenceTo}
use Rattle.p21_values.specs.Printing.{print, print_step, print_all, behind, joined}
use Rattle.p21_values.specs.inner.Saying.{Content, Contents, Absent, Derived, Number, Words, Enumeration, Bits, Reference, Listed, Typed, nothing, and, content, content_step, contents}

-- The tokens that spell a value, of what it says.

abbrev mutual
  pub spell : Content → List Lexeme
  spell Absent = Absence ∷ []
  spell Derived = Derivation ∷ []
  spell (Number bs) = NumberOf bs ∷ []
  spell (Words bs) = WordsOf bs ∷ []
  spell (Enumeration bs) = EnumerationOf bs ∷ []
  spell (Bits bs) = BitsOf bs ∷ []
  spell (Reference n) = ReferenceTo n ∷ []
  spell (Listed vs) = Opening ∷ (spell_all vs ++ Closing ∷ [])
  spell (Typed w v) = KeywordOf w ∷ Opening ∷ (spell v ++ Closing ∷ [])

  pub spell_all : Contents → List Lexeme
  spell_all nothing = []
  spell_all (and v vs) = spell v ++ spell_behind vs

  pub spell_behind : Contents → List Lexeme
  spell_behind nothing = []
  spell_behind (and v vs) = Separator ∷ (spell v ++ spell_behind vs)

abbrev Spelled : Type 0
Spelled = (v : Value21) × (print v ≡ spell (content v))

behind_is : (vs : List Spelled) → behind (map print (map (λ e. e.0) vs)) ≡ spell_behind (contents (map content (map (λ e. e.0) vs)))
behind_is [] = refl
behind_is (v ∷ vs) = ap (λ z. Separator ∷ (z ++ behind (map print (map (λ e. e.0) vs)))) v.1 ∙ ap (λ z. Separator ∷ (spell (content v.0) ++ z)) (behind_is vs)

joined_is : (vs : List Spelled) → joined (map print (map (λ e. e.0) vs)) ≡ spell_all (contents (map content (map (λ e. e.0) vs)))
joined_is [] = refl
joined_is (v ∷ vs) = ap (λ z. z ++ behind (map print (map (λ e. e.0) vs))) v.1 ∙ ap (λ z. spell (content v.0) ++ z) (behind_is vs)

layer_is : (y : Value21-F Spelled) → print_step (map-Value21 _ _ print (map-Value21 _ _ (λ e. e.0) y)) ≡ spell (content_step (map-Value21 _ _ content (map-Value21 _ _ (λ e. e.0) y)))
layer_is layer.Absent = refl
layer_is layer.Derived = refl
layer_is (layer.Number bs) = refl
layer_is (layer.Words bs) = refl
layer_is (layer.Enumeration bs) = refl
layer_is (layer.Bits bs) = refl
layer_is (layer.Reference n) = refl
layer_is (layer.List vs) = ap (λ z. Opening ∷ (z ++ Closing ∷ [])) (joined_is vs)
layer_is (layer.Typed w v) = ap (λ z. KeywordOf w ∷ Opening ∷ (z ++ Closing ∷ [])) v.1

pub print_is : (v : Value21) → print v ≡ spell (content v)
print_is = ind-Value21 (λ v. print v ≡ spell (content v)) (λ x y is.
    fold-roll-Value21 (List Lexeme) print_step x
    ∙ subst (λ z. print_step (map-Value21 _ _ print z) ≡ spell (content_step (map-Value21 _ _ content z))) is (layer_is y)
    ∙ sym (ap spell (fold-roll-Value21 Content content_step x)))

print_behind : (vs : List Value21) → behind (map print vs) ≡ spell_behind (contents (map content vs))
print_behind [] = refl
print_behind (v ∷ vs) = ap (λ z. Separator ∷ (z ++ behind (map print vs))) (print_is v) ∙ ap (λ z. Separator ∷ (spell (content v) ++ z)) (print_behind vs)

pub print_all_is : (vs : List Value21) → print_all vs ≡ spell_all (contents (map content vs))
print_all_is [] = refl
print_all_is (v ∷ vs) = ap (λ z. z ++ behind (map print vs)) (print_is v) ∙ ap (λ z. spell (content v) ++ z) (print_behind vs)

-- Tokens begin with one value at most.

pub not_closing : (v : Content) (x y : List Lexeme) → Closing ∷ x ≡ spell v ++ y → ⊥
not_closing Absent x y h = cc
not_closing Derived x y h = cc
not_closing (Number bs) x y h = cc
not_closing (Words bs) x y h = cc
not_closing (Enumeration bs) x y h = cc
not_closing (Bits bs) x y h = cc
not_closing (Reference n) x y h = cc
not_closing (Listed vs) x y h = cc
not_closing (Typed w v) x y h = cc

-- four lists, put together from the right
pub seam : (a b x c d y : List Lexeme) → (a ++ b) ++ x ≡ (c ++ d) ++ y → a ++ (b ++ x) ≡ c ++ (d ++ y)
seam a b x c d y e = sym (append_assoc a b x) ∙ e ∙ append_assoc c d y

mutual
  pub one_value : (v u : Content) (x y : List Lexeme) → spell v ++ x ≡ spell u ++ y → (v ≡ u) × (x ≡ y)
  one_value Absent Absent x y h = (refl, cc)
  one_value Derived Derived x y h = (refl, cc)
  one_value (Number a) (Number b) x y h = let e : a ≡ b = cc in (ap Number e, cc)
  one_value (Words a) (Words b) x y h = let e : a ≡ b = cc in (ap Words e, cc)
  one_value (Enumeration a) (Enumeration b) x y h = let e : a ≡ b = cc in (ap Enumeration e, cc)
  one_value (Bits a) (Bits b) x y h = let e : a ≡ b = cc in (ap Bits e, cc)
  one_value (Reference a) (Reference b) x y h = let e : a ≡ b = cc in (ap Reference e, cc)
  one_value (Listed vs) (Listed us) x y h =
      let e : (spell_all vs ++ Closing ∷ []) ++ x ≡ (spell_all us ++ Closing ∷ []) ++ y = cc in
      let r = one_all vs us x y (seam (spell_all vs) (Closing ∷ []) x (spell_all us) (Closing ∷ []) y e) in
      (ap Listed r.0, r.1)
  one_value (Typed a v) (Typed b u) x y h =
      let w : a ≡ b = cc in
      let e : (spell v ++ Closing ∷ []) ++ x ≡ (spell u ++ Closing ∷ []) ++ y = cc in
      let r = one_value v u (Closing ∷ x) (Closing ∷ y) (seam (spell v) (Closing ∷ []) x (spell u) (Closing ∷ []) y e) in
      let t : Closing ∷ x ≡ Closing ∷ y = r.1 in
      (ap (λ z. Typed z v) w ∙ ap (λ z. Typed b z) r.0, cc)
  one_value v u x y h = cc

  pub one_all : (vs us : Contents) (x y : List Lexeme) → spell_all vs ++ Closing ∷ x ≡ spell_all us ++ Closing ∷ y → (vs ≡ us) × (x ≡ y)
  one_all nothing nothing x y h = (refl, cc)
  one_all nothing (and u us) x y h = absurd (not_closing u x (spell_behind us ++ Closing ∷ y) (h ∙ append_assoc (spell u) (spell_behind us) (Closing ∷ y)))
  one_all (and v vs) nothing x y h = absurd (not_closing v y (spell_behind vs ++ Closing ∷ x) (sym h ∙ append_assoc (spell v) (spell_behind vs) (Closing ∷ x)))
  one_all (and v vs) (and u us) x y h =
      let r = one_value v u (spell_behind vs ++ Closing ∷ x) (spell_behind us ++ Closing ∷ y) (seam (spell v) (spell_behind vs) (Closing ∷ x) (spell u) (spell_behind us) (Closing ∷ y) h) in
      let s = one_behind vs us x y r.1 in
      (ap (λ z. and z vs) r.0 ∙ ap (λ z. and u z) s.0, s.1)

  one_behind : (vs us : Contents) (x y : List Lexeme) → spell_behind vs ++ Closing ∷ x ≡ spell_behind us ++ Closing ∷ y → (vs ≡ us) × (x ≡ y)
  one_behind nothing nothing x y h = (refl, cc)
  one_behind nothing (and u us) x y h = cc
  one_behind (and v vs) nothing x y h = cc
  one_behind (and v vs) (and u us) x y h =
      let e : (spell v ++ spell_behind vs) ++ Closing ∷ x ≡ (spell u ++ spell_behind us) ++ Closing ∷ y = cc in
      let r = one_value v u (spell_behind vs ++ Closing ∷ x) (spell_behind us ++ Closing ∷ y) (seam (spell v) (spell_behind vs) (Closing ∷ x) (spell u) (spell_behind us) (Closing ∷ y) e) in
      let s = one_behind vs us x y r.1 in
      (ap (λ z. and z vs) r.0 ∙ ap (λ z. and u z) s.0, s.1)
