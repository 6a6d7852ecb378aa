-- What words say one after the other.
use Rattle.std.proofs.Common.{◌≡◌, ◌∙◌, ℕ, ◌+◌, ◌<◌, ◌≤◌, List, [], ◌∷◌, ◌++◌, length, map, take, drop, get_or, Option, Some, None, option_map, refl, sym, ap, subst}
use Rattle.std.proofs.lemmas.List.{drop_more, get_or-map, length-map, map-append, take_all, take_more, take-append-drop}
use Rattle.std.specs.Borrow.{Bor}
use Rattle.batch_commands.specs.declared.check_words.ModelWord.{ModelWord}
use Rattle.batch_commands.specs.CheckWords.{all_some, model_word}

swapped : {A : Type 0} (x y : A) (o : Option (List A)) → option_map (λ l. x ∷ l) (option_map (λ l. l ++ y ∷ []) o) ≡ option_map (λ l. l ++ y ∷ []) (option_map (λ l. x ∷ l) o)
swapped x y None = refl
swapped x y (Some l) = refl

-- one more that has something
some_more : {A : Type 0} (xs : List (Option A)) (y : A) → all_some (xs ++ Some y ∷ []) ≡ option_map (λ l. l ++ y ∷ []) (all_some xs)
some_more [] y = refl
some_more (None ∷ xs) y = refl
some_more (Some x ∷ xs) y = ap (option_map (λ l. x ∷ l)) (some_more xs y) ∙ swapped x y (all_some xs)

-- one that has nothing
some_none : {A : Type 0} (xs rest : List (Option A)) → all_some (xs ++ None ∷ rest) ≡ None
some_none [] rest = refl
some_none (None ∷ xs) rest = refl
some_none (Some x ∷ xs) rest = ap (option_map (λ l. x ∷ l)) (some_none xs rest)

-- one more word
words_more : (ts : List (List ℕ)) (i : ℕ) (t d : List ℕ) (ws made : List ModelWord) (w : ModelWord) → i < length ts → t ≡ get_or ts i d
    → all_some (map model_word (take i ts)) ≡ Some ws → Some w ≡ model_word t → made ≡ ws ++ w ∷ [] → all_some (map model_word (take (i + 1) ts)) ≡ Some made
words_more ts i t d ws made w h is so_far said e =
    ap (λ l. all_some (map model_word l)) (take_more ts i d h)
    ∙ ap all_some (map-append model_word (take i ts) (get_or ts i d ∷ []))
    ∙ ap (λ o. all_some (map model_word (take i ts) ++ o ∷ [])) (ap model_word (sym is) ∙ sym said)
    ∙ some_more (map model_word (take i ts)) w
    ∙ ap (option_map (λ l. l ++ w ∷ [])) so_far
    ∙ ap Some (sym e)

-- a word that says nothing
words_none : (ts : List (List ℕ)) (i : ℕ) (t d : List ℕ) → i < length ts → t ≡ get_or ts i d → None ≡ model_word t → None ≡ all_some (map model_word ts)
words_none ts i t d h is said =
    sym (ap (λ l. all_some (map model_word l)) (sym (take-append-drop i ts) ∙ ap (λ l. take i ts ++ l) (drop_more ts i d h))
    ∙ ap all_some (map-append model_word (take i ts) (get_or ts i d ∷ drop (i + 1) ts))
    ∙ ap (λ o. all_some (map model_word (take i ts) ++ o ∷ map model_word (drop (i + 1) ts))) (ap model_word (sym is) ∙ sym said)
    ∙ some_none (map model_word (take i ts)) (map model_word (drop (i + 1) ts)))

-- the same of lent words
abbrev bytes : List (Bor (List ℕ)) → List (List ℕ)
bytes ts = map (λ t. t.now) ts

within : (ts : List (Bor (List ℕ))) (i : ℕ) → i < length ts → i < length (bytes ts)
within ts i h = subst (λ n. i < n) (sym (length-map ts (λ t. t.now))) h

pub each_more : (ts : List (Bor (List ℕ))) (i : ℕ) (d : Bor (List ℕ)) (ws made : List ModelWord) (w : ModelWord) → i < length ts
    → all_some (map model_word (take i (map (λ t. t.now) ts))) ≡ Some ws → Some w ≡ model_word (get_or ts i d).now → made ≡ ws ++ w ∷ []
    → all_some (map model_word (take (i + 1) (map (λ t. t.now) ts))) ≡ Some made
each_more ts i d ws made w h so_far said e =
    let t : List ℕ = (get_or ts i d).now in
    words_more (bytes ts) i t t ws made w (within ts i h) (sym (get_or-map (λ t. t.now) ts i d t h)) so_far said e

pub each_none : (ts : List (Bor (List ℕ))) (i : ℕ) (d : Bor (List ℕ)) → i < length ts → None ≡ model_word (get_or ts i d).now
    → None ≡ all_some (map model_word (map (λ t. t.now) ts))
each_none ts i d h said =
    let t : List ℕ = (get_or ts i d).now in
    words_none (bytes ts) i t t (within ts i h) (sym (get_or-map (λ t. t.now) ts i d t h)) said

-- all of them
pub each_all : (ts : List (Bor (List ℕ))) (i : ℕ) (ws : List ModelWord) → length ts ≤ i → all_some (map model_word (take i (map (λ t. t.now) ts))) ≡ Some ws
    → Some ws ≡ all_some (map model_word (map (λ t. t.now) ts))
each_all ts i ws h so_far =
    sym so_far ∙ ap (λ l. all_some (map model_word l)) (take_all i (bytes ts) (subst (λ n. n ≤ i) (sym (length-map ts (λ t. t.now))) h))
