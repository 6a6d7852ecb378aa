-- What derives from the sign of a value spells some value: a pass over tokens that builds nothing has read a value all the same. And the
-- tokens tell how many values it is.
use Rattle.std.proofs.Common.{◌≡◌, ℕ, ◌+◌, List, [], ◌∷◌, ◌++◌, map, sum, Option, arith, refl, sym, ap, ◌∙◌, append_assoc, subst}
use Rattle.std.proofs.lemmas.List.Sums.{sum_by-cons}
use Rattle.p21_values.specs.declared.value.Value21.{Value21}
use Rattle.p21_values.specs.declared.value.Value21.TheOpen.{Value21-F}
use Rattle.p21_values.specs.declared.value.Value21.TheOpen as layer
use Rattle.p21_values.specs.declared.value.Value21.TheViews.{roll-Value21}
use Rattle.p21_values.specs.declared.value.Value21.TheFolds.{fold-roll-Value21, ind-Value21, map-Value21}
use Rattle.p21_values.specs.Grammar.{Class, Simple, Name, Open, Close, Comma, Word, Sign, T, AnyWord, Value, Inside, After, Rule, simple, name, list, typed, empty, first, last, more, statement, ending, again, content, instance, finish, plain, complex, closed, one, Derives, done, token, word, rule}
use Rattle.p21_values.specs.Lexemes.{Lexeme, Absence, Derivation, Opening, Closing, Separator, NumberOf, WordsOf, EnumerationOf, BitsOf, KeywordOf, ReferenceTo, class_of, classes}
use Rattle.p21_values.specs.Printing.{print, print_step, print_all, joined, behind}
use Rattle.p21_values.specs.Counting.{size, size_step}
use Rattle.p21_values.specs.TokenPieces.{kind_of}
use Rattle.p21_reader.specs.inner.ValueNesting.{tells}

-- a value of its parts is spelled by theirs
printed : (x : Value21-F Value21) → print (roll-Value21 x) ≡ print_step (map-Value21 _ _ print x)
printed x = fold-roll-Value21 (List Lexeme) print_step x

-- what the tokens of a sign say
abbrev Said : Sign → List Lexeme → Type 0
Said (Value d) ls = (v : Value21) × (ls ≡ print v)
Said (Inside d) ls = (vs : List Value21) × (ls ≡ print_all vs ++ Closing ∷ [])
Said (After d) ls = (vs : List Value21) × (ls ≡ behind (map print vs) ++ Closing ∷ [])
Said (T c) ls = (l : Lexeme) × (ls ≡ l ∷ []) × (class_of l ≡ c)
Said AnyWord ls = (w : List ℕ) × (ls ≡ KeywordOf w ∷ [])
Said _ ls = Unit {0}

abbrev SaidAll : List Sign → List Lexeme → Type 0
SaidAll [] ls = ls ≡ []
SaidAll (s ∷ σ) ls = (front rest : List Lexeme) × Said s front × (ls ≡ front ++ rest) × SaidAll σ rest

-- signs in front of others
parted : (r α : List Sign) (ls : List Lexeme) → SaidAll (r ++ α) ls → (front rest : List Lexeme) × SaidAll r front × (ls ≡ front ++ rest) × SaidAll α rest
parted [] α ls h = ([], ls, refl, refl, h)
parted (s ∷ r) α ls h =
    let k = parted r α h.1 h.4 in
    (h.0 ++ k.0, k.1, (h.0, k.0, h.2, refl, k.2), h.3 ∙ ap (λ x. h.0 ++ x) k.3 ∙ sym (append_assoc h.0 k.0 k.1), k.4)

-- a token of a class
opening : (l : Lexeme) → class_of l ≡ Open → l ≡ Opening
opening Opening h = refl
opening _ h = cc

closing : (l : Lexeme) → class_of l ≡ Close → l ≡ Closing
closing Closing h = refl
closing _ h = cc

separator : (l : Lexeme) → class_of l ≡ Comma → l ≡ Separator
separator Separator h = refl
separator _ h = cc

simple_said : (l : Lexeme) → class_of l ≡ Simple → (v : Value21) × (l ∷ [] ≡ print v)
simple_said Absence h = (roll-Value21 layer.Absent, sym (printed layer.Absent))
simple_said Derivation h = (roll-Value21 layer.Derived, sym (printed layer.Derived))
simple_said (NumberOf bs) h = (roll-Value21 (layer.Number bs), sym (printed (layer.Number bs)))
simple_said (WordsOf bs) h = (roll-Value21 (layer.Words bs), sym (printed (layer.Words bs)))
simple_said (EnumerationOf bs) h = (roll-Value21 (layer.Enumeration bs), sym (printed (layer.Enumeration bs)))
simple_said (BitsOf bs) h = (roll-Value21 (layer.Bits bs), sym (printed (layer.Bits bs)))
simple_said _ h = cc

name_said : (l : Lexeme) → class_of l ≡ Name → (v : Value21) × (l ∷ [] ≡ print v)
name_said (ReferenceTo n) h = (roll-Value21 (layer.Reference n), sym (printed (layer.Reference n)))
name_said _ h = cc

word_said : (m : _) (l : Lexeme) → class_of l ≡ Word m → (w : List ℕ) × (l ≡ KeywordOf w)
word_said m (KeywordOf w) h = (w, refl)
word_said m _ h = cc

nil_right : {A : Type 0} (xs : List A) → xs ++ [] ≡ xs
nil_right [] = refl
nil_right (x ∷ xs) = ap (λ y. x ∷ y) (nil_right xs)

-- the last sign
last_said : (s : Sign) (ls : List Lexeme) → SaidAll (s ∷ []) ls → Said s ls
last_said s ls h = let e : h.0 ≡ ls = sym (h.3 ∙ ap (λ x. h.0 ++ x) h.4 ∙ nil_right h.0) in subst (λ x. Said s x) e h.2

-- a token in front of other signs
token_then : (c : Class) (σ : List Sign) (ls : List Lexeme) → SaidAll (T c ∷ σ) ls → (l : Lexeme) × (rest : List Lexeme) × (class_of l ≡ c) × (ls ≡ l ∷ rest) × SaidAll σ rest
token_then c σ ls h = (h.2.0, h.1, h.2.2, h.3 ∙ ap (λ x. x ++ h.1) h.2.1, h.4)

word_then : (σ : List Sign) (ls : List Lexeme) → SaidAll (AnyWord ∷ σ) ls → (w : List ℕ) × (rest : List Lexeme) × (ls ≡ KeywordOf w ∷ rest) × SaidAll σ rest
word_then σ ls h = (h.2.0, h.1, h.3 ∙ ap (λ x. x ++ h.1) h.2.1, h.4)

close_said : (ls : List Lexeme) → SaidAll (T Close ∷ []) ls → ls ≡ Closing ∷ []
close_said ls h =
    let k = token_then Close [] ls h in
    k.3 ∙ ap (λ x. x ∷ k.1) (closing k.0 k.2) ∙ ap (λ x. Closing ∷ x) k.4

one_said : (c : Class) (ls : List Lexeme) → SaidAll (T c ∷ []) ls → (l : Lexeme) × (class_of l ≡ c) × (ls ≡ l ∷ [])
one_said c ls h = let k = token_then c [] ls h in (k.0, k.2, k.3 ∙ ap (λ x. k.0 ∷ x) k.4)

-- a value and what stands behind it in its list
more_said : (d : Option ℕ) (ls : List Lexeme) → SaidAll (Value d ∷ After d ∷ []) ls → (v : Value21) × (vs : List Value21) × (ls ≡ (print v ++ behind (map print vs)) ++ Closing ∷ [])
more_said d ls h =
    let k = last_said (After d) h.1 h.4 in
    (h.2.0, k.0, h.3 ∙ ap (λ x. x ++ h.1) h.2.1 ∙ ap (λ x. print h.2.0 ++ x) k.1 ∙ sym (append_assoc (print h.2.0) (behind (map print k.0)) (Closing ∷ [])))

typed_said : (e : Option ℕ) (ls : List Lexeme) → SaidAll (AnyWord ∷ T Open ∷ Value e ∷ T Close ∷ []) ls → (v : Value21) × (ls ≡ print v)
typed_said e ls h =
    let w = word_then (T Open ∷ Value e ∷ T Close ∷ []) ls h in
    let o = token_then Open (Value e ∷ T Close ∷ []) w.1 w.3 in
    let k = o.4 in
    let inside : o.1 ≡ print k.2.0 ++ Closing ∷ [] = k.3 ∙ ap (λ x. x ++ k.1) k.2.1 ∙ ap (λ x. print k.2.0 ++ x) (close_said k.1 k.4) in
    let opened : w.1 ≡ Opening ∷ o.1 = o.3 ∙ ap (λ x. x ∷ o.1) (opening o.0 o.2) in
    (roll-Value21 (layer.Typed w.0 k.2.0), w.2 ∙ ap (λ x. KeywordOf w.0 ∷ x) (opened ∙ ap (λ x. Opening ∷ x) inside) ∙ sym (printed (layer.Typed w.0 k.2.0)))

by_rule : (s : Sign) (r : List Sign) (ls : List Lexeme) → Rule s r → SaidAll r ls → Said s ls
by_rule s r ls (simple d) h = let k = one_said Simple ls h in let v = simple_said k.0 k.1 in (v.0, k.2 ∙ v.1)
by_rule s r ls (name d) h = let k = one_said Name ls h in let v = name_said k.0 k.1 in (v.0, k.2 ∙ v.1)
by_rule s r ls (list d e x) h =
    let o = token_then Open (Inside e ∷ []) ls h in
    let k = last_said (Inside e) o.1 o.4 in
    (roll-Value21 (layer.List k.0), o.3 ∙ ap (λ x. x ∷ o.1) (opening o.0 o.2) ∙ ap (λ x. Opening ∷ x) k.1 ∙ sym (printed (layer.List k.0)))
by_rule s r ls (typed d e x) h = typed_said e ls h
by_rule s r ls (empty d) h = ([], close_said ls h)
by_rule s r ls (first d) h = let k = more_said d ls h in (k.0 ∷ k.1, k.2)
by_rule s r ls (last d) h = ([], close_said ls h)
by_rule s r ls (more d) h =
    let o = token_then Comma (Value d ∷ After d ∷ []) ls h in
    let k = more_said d o.1 o.4 in
    (k.0 ∷ k.1, o.3 ∙ ap (λ x. x ∷ o.1) (separator o.0 o.2) ∙ ap (λ x. Separator ∷ x) k.2)
by_rule s r ls (statement m x) h = tt
by_rule s r ls ending h = tt
by_rule s r ls again h = tt
by_rule s r ls content h = tt
by_rule s r ls instance h = tt
by_rule s r ls finish h = tt
by_rule s r ls plain h = tt
by_rule s r ls complex h = tt
by_rule s r ls closed h = tt
by_rule s r ls one h = tt

tails : (x y : Class) (xs ys : List Class) → x ∷ xs ≡ y ∷ ys → xs ≡ ys
tails x y xs ys e = cc

all_said : (σ : List Sign) (xs : List Class) (ls : List Lexeme) → xs ≡ classes ls → Derives σ xs → SaidAll σ ls
all_said σ xs [] e done = refl
all_said σ xs (l ∷ ls) e done = cc
all_said σ xs [] e (token c d) = cc
all_said σ xs (l ∷ ls) e (token c d) = let k : class_of l ≡ c = cc in (l ∷ [], ls, (l, refl, k), refl, all_said _ _ ls (tails _ _ _ _ e) d)
all_said σ xs [] e (word m d) = cc
all_said σ xs (l ∷ ls) e (word m d) =
    let k : class_of l ≡ Word m = cc in
    let w = word_said m l k in
    (l ∷ [], ls, (w.0, ap (λ x. x ∷ []) w.1), refl, all_said _ _ ls (tails _ _ _ _ e) d)
all_said σ xs ls e (rule s r w d) = let k = parted r _ ls (all_said _ _ ls e d) in (k.0, k.1, by_rule s r k.0 w k.2, k.3, k.4)

-- tokens that derive from the sign of a value spell some value
pub value_said : (d : Option ℕ) (ls : List Lexeme) → Derives (Value d ∷ []) (classes ls) → (v : Value21) × (ls ≡ print v)
value_said d ls h = last_said (Value d) ls (all_said (Value d ∷ []) (classes ls) ls refl h)

-- How many values they are.

-- how many values tokens tell
abbrev pub told : List Lexeme → ℕ
told [] = 0
told (l ∷ ls) = tells (kind_of (class_of l)) + told ls

pub told_append : (ls ms : List Lexeme) → told (ls ++ ms) ≡ told ls + told ms
told_append [] ms = omega arith
told_append (l ∷ ls) ms = let e = told_append ls ms in omega (arith, e)

abbrev Told : Type 0
Told = (v : Value21) × (size v ≡ told (print v))

behind_told : (vs : List Told) → sum (map size (map (λ e. e.0) vs)) ≡ told (behind (map print (map (λ e. e.0) vs)))
behind_told [] = refl
behind_told (v ∷ vs) =
    let s = sum_by-cons (λ x. x) (size v.0) (map size (map (λ e. e.0) vs)) in
    let r = behind_told vs in
    let t = told_append (print v.0) (behind (map print (map (λ e. e.0) vs))) in
    let w = v.1 in
    omega (arith, s, r, t, w)

all_told : (vs : List Told) → sum (map size (map (λ e. e.0) vs)) ≡ told (joined (map print (map (λ e. e.0) vs)))
all_told [] = refl
all_told (v ∷ vs) =
    let s = sum_by-cons (λ x. x) (size v.0) (map size (map (λ e. e.0) vs)) in
    let r = behind_told vs in
    let t = told_append (print v.0) (behind (map print (map (λ e. e.0) vs))) in
    let w = v.1 in
    omega (arith, s, r, t, w)

closed_told : (n : ℕ) (ls : List Lexeme) → n ≡ told ls → n + 1 ≡ told (Opening ∷ (ls ++ Closing ∷ []))
closed_told n ls h = let t = told_append ls (Closing ∷ []) in omega (arith, t, h)

typed_told : (n : ℕ) (ls : List Lexeme) (w : List ℕ) → n ≡ told ls → n + 1 ≡ told (KeywordOf w ∷ Opening ∷ (ls ++ Closing ∷ []))
typed_told n ls w h = let t = closed_told n ls h in omega (arith, t)

layer_told : (y : Value21-F Told) → size_step (map-Value21 _ _ size (map-Value21 _ _ (λ e. e.0) y)) ≡ told (print_step (map-Value21 _ _ print (map-Value21 _ _ (λ e. e.0) y)))
layer_told layer.Absent = refl
layer_told layer.Derived = refl
layer_told (layer.Number bs) = refl
layer_told (layer.Words bs) = refl
layer_told (layer.Enumeration bs) = refl
layer_told (layer.Bits bs) = refl
layer_told (layer.Reference n) = refl
layer_told (layer.List vs) = closed_told (sum (map size (map (λ e. e.0) vs))) (joined (map print (map (λ e. e.0) vs))) (all_told vs)
layer_told (layer.Typed w v) = typed_told (size v.0) (print v.0) w v.1

-- a value is as many as its tokens tell
pub size_told : (v : Value21) → size v ≡ told (print v)
size_told = ind-Value21 (λ v. size v ≡ told (print v)) (λ x y is.
    fold-roll-Value21 ℕ size_step x
    ∙ subst (λ z. size_step (map-Value21 _ _ size z) ≡ told (print_step (map-Value21 _ _ print z))) is (layer_told y)
    ∙ sym (ap told (printed x)))
