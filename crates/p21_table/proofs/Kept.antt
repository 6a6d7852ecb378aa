-- What a table tells of the instance at a place.
use Rattle.std.proofs.Common.{◌≡◌, ℕ, zero, suc, ◌+◌, ◌<◌, ◌≤◌, List, [], ◌∷◌, ◌++◌, length, get_or, map, take, drop, Option, Some, None, Ok, arith, refl, sym, ap, subst, ◌∙◌, slice_range, length-append, length-drop}
use Rattle.std.proofs.lemmas.List.{get_or-take, get_or-drop, length-take-le}
use Rattle.std.proofs.lemmas.Option.{slice_get_past}
use Rattle.std.specs.List.{AllZip, slice_get}
use Rattle.std.specs.Char.{to_ascii_uppercase}
use Rattle.std.specs.Coded.{codes, le_prop}
use base.Stored.{Coded-set, coded_ℕ}
use mathlib.Core.Logic.{∥∥₁_elim, ∥∥₁_prop}
use Rattle.p21_lexer.specs.declared.token.Token.{Token}
use Rattle.p21_lexer.specs.Spelling.{IsWord}
use Rattle.p21_lexer.specs.TokenSeparators.{Passes}
use Rattle.p21_lexer.specs.Cutting.{CutsFrom}
use Rattle.p21_values.specs.contracts.value.Value21 as row
use Rattle.p21_values.specs.declared.instance_head.Head.{Head}
use Rattle.ifc_keywords.specs.Codes.{code_at}
use Rattle.p21_values.specs.declared.value.Value21.{Value21}
use Rattle.p21_values.specs.declared.value.Instance.{Instance}
use Rattle.p21_values.specs.Lexemes.{Lexeme, Closing, Cuts}
use Rattle.p21_values.specs.InstanceLookup.{instance_at}
use Rattle.p21_values.specs.Printing.{print, print_all}
use Rattle.p21_values.specs.Standing.{Stands, StandInside}
use Rattle.p21_values.specs.Tables.{Tells, Holds, starts_of}
use Rattle.p21_values.proofs.Stood.{no_keyword, a_keyword, Worded}
use Rattle.p21_values.proofs.Told.{told_at}
use Rattle.p21_table.specs.Stood.{Stood, one_stood}
use Rattle.p21_table.proofs.FirstTokens.{some_token}
use Rattle.p21_table.proofs.Heads.{some_head}

abbrev head_at : List Head → ℕ → Head
head_at heads at = get_or heads at some_head

-- the head at a place tells the instance there
tells : (bytes starts : List ℕ) (heads : List Head) (world : List Instance) (at : ℕ) → Holds bytes starts heads world → at < length world → Tells bytes starts (head_at heads at) (instance_at world at)
tells bytes starts heads world at h lt = told_at bytes starts heads world at some_head (record { id = 0; keyword = None; values = [] }) h lt

-- Its number.

pub id_said : (bytes starts : List ℕ) (heads : List Head) (world : List Instance) (at : ℕ) → ∥ Holds bytes starts heads world ∥₁ → at < length world → (head_at heads at).id ≡ (instance_at world at).id
id_said bytes starts heads world at h lt = ∥∥₁_elim h (Coded-set coded_ℕ _ _) (λ k. (tells bytes starts heads world at k lt).number)

-- The number of its keyword.

pub code_said : (bytes starts : List ℕ) (heads : List Head) (world : List Instance) (at : ℕ) → ∥ Holds bytes starts heads world ∥₁ → at < length world
    → (head_at heads at).code ≡ code_at (instance_at world at).keyword
code_said bytes starts heads world at h lt = ∥∥₁_elim h (Coded-set coded_ℕ _ _) (λ k. (tells bytes starts heads world at k lt).coded)

-- Its keyword.

word_set : IsSet (Option (List ℕ))
word_set = Coded-set (Prim.hlevel codes)

pub keyword_none : (bytes starts : List ℕ) (heads : List Head) (world : List Instance) (at : ℕ) → ∥ Holds bytes starts heads world ∥₁ → at < length world
    → (head_at heads at).word ≡ (head_at heads at).word_end → None ≡ (instance_at world at).keyword
keyword_none bytes starts heads world at h lt e =
    ∥∥₁_elim h (word_set _ _) (λ k. sym (no_keyword bytes _ _ _ (tells bytes starts heads world at k lt).keyword e))

worded : (bytes starts : List ℕ) (heads : List Head) (world : List Instance) (at : ℕ) → Holds bytes starts heads world → at < length world
    → ((head_at heads at).word ≡ (head_at heads at).word_end → ⊥) → Worded bytes (head_at heads at).word (head_at heads at).word_end (instance_at world at).keyword
worded bytes starts heads world at h lt n = a_keyword bytes _ _ _ (tells bytes starts heads world at h lt).keyword n

pub word_before : (bytes starts : List ℕ) (heads : List Head) (world : List Instance) (at : ℕ) → ∥ Holds bytes starts heads world ∥₁ → at < length world
    → ((head_at heads at).word ≡ (head_at heads at).word_end → ⊥) → (head_at heads at).word ≤ (head_at heads at).word_end
word_before bytes starts heads world at h lt n = ∥∥₁_elim h le_prop (λ k. (worded bytes starts heads world at k lt n).before)

pub word_within : (bytes starts : List ℕ) (heads : List Head) (world : List Instance) (at : ℕ) → ∥ Holds bytes starts heads world ∥₁ → at < length world
    → ((head_at heads at).word ≡ (head_at heads at).word_end → ⊥) → (head_at heads at).word_end ≤ length bytes
word_within bytes starts heads world at h lt n = ∥∥₁_elim h le_prop (λ k. (worded bytes starts heads world at k lt n).within)

pub word_is : (bytes starts : List ℕ) (heads : List Head) (world : List Instance) (at : ℕ) → ∥ Holds bytes starts heads world ∥₁ → at < length world
    → ((head_at heads at).word ≡ (head_at heads at).word_end → ⊥) → ∥ IsWord (slice_range bytes (head_at heads at).word (head_at heads at).word_end) ∥₁
word_is bytes starts heads world at h lt n = ∥∥₁_elim h ∥∥₁_prop (λ k. (worded bytes starts heads world at k lt n).word)

pub word_said : (bytes starts : List ℕ) (heads : List Head) (world : List Instance) (at : ℕ) → ∥ Holds bytes starts heads world ∥₁ → at < length world
    → ((head_at heads at).word ≡ (head_at heads at).word_end → ⊥) → Some (map to_ascii_uppercase (slice_range bytes (head_at heads at).word (head_at heads at).word_end)) ≡ (instance_at world at).keyword
word_said bytes starts heads world at h lt n = ∥∥₁_elim h (word_set _ _) (λ k. sym (worded bytes starts heads world at k lt n).said)

-- Its values.

pub starts_within : (bytes starts : List ℕ) (heads : List Head) (world : List Instance) (at : ℕ) → ∥ Holds bytes starts heads world ∥₁ → at < length world
    → (head_at heads at).first + (head_at heads at).count ≤ length starts
starts_within bytes starts heads world at h lt = ∥∥₁_elim h le_prop (λ k. (tells bytes starts heads world at k lt).within)

-- there is a start for each value
zip_length : (bytes starts : List ℕ) (vs : List Value21) → AllZip (Stands bytes) starts vs → length starts ≡ length vs
zip_length bytes [] [] h = refl
zip_length bytes [] (v ∷ vs) h = absurd h
zip_length bytes (s ∷ starts) [] h = absurd h
zip_length bytes (s ∷ starts) (v ∷ vs) h = ap suc (zip_length bytes starts vs h.1)

taken : (starts : List ℕ) (first count : ℕ) → first + count ≤ length starts → length (take count (drop first starts)) ≡ count
taken starts first count h = let d = length-drop first starts in length-take-le count (drop first starts) (omega (arith, h, d))

many : (bytes starts : List ℕ) (head : Head) (i : Instance) → Tells bytes starts head i → head.count ≡ length i.values
many bytes starts head i t = sym (taken starts head.first head.count t.within) ∙ zip_length bytes (starts_of starts head) i.values t.values.0

start_is : (starts : List ℕ) (first count k : ℕ) → k < count → get_or (take count (drop first starts)) k 0 ≡ get_or starts (first + k) 0
start_is starts first count k lt = get_or-take count (drop first starts) k 0 lt ∙ get_or-drop first starts k 0

-- a value stands at each start
abbrev ValueAt : List ℕ → ℕ → List Value21 → ℕ → Type 0
ValueAt bytes start vs k = (v : Value21) × (slice_get vs k ≡ Some v) × Stands bytes start v

zip_at : (bytes starts : List ℕ) (vs : List Value21) (k : ℕ) → AllZip (Stands bytes) starts vs → k < length starts → ValueAt bytes (get_or starts k 0) vs k
zip_at bytes [] [] k h lt = absurd (omega (arith, lt))
zip_at bytes [] (v ∷ vs) k h lt = absurd h
zip_at bytes (s ∷ starts) [] k h lt = absurd h
zip_at bytes (s ∷ starts) (v ∷ vs) zero h lt = (v, refl, h.0)
zip_at bytes (s ∷ starts) (v ∷ vs) (suc k) h lt = zip_at bytes starts vs k h.1 (omega (arith, lt))

value_there : (bytes starts : List ℕ) (head : Head) (i : Instance) (k : ℕ) → Tells bytes starts head i → k < head.count → ValueAt bytes (get_or starts (head.first + k) 0) i.values k
value_there bytes starts head i k t lt =
    let n = taken starts head.first head.count t.within in
    subst (λ s. ValueAt bytes s i.values k) (start_is starts head.first head.count k lt) (zip_at bytes (starts_of starts head) i.values k t.values.0 (omega (arith, n, lt)))

-- tokens that are cut from a place are cut within the bytes
passes_less : (ps : List (List ℕ)) (bs rest : List ℕ) → Passes ps bs rest → length rest ≤ length bs
passes_less [] bs rest h = let e = ap (λ (xs : List ℕ). length xs) h in omega (arith, e)
passes_less (p ∷ ps) bs rest h =
    let e = ap (λ (xs : List ℕ). length xs) h.2 in
    let a = length-append p h.0 in
    let r = passes_less ps h.0 rest h.3 in
    omega (arith, e, a, r)

cut_from : (bytes : List ℕ) (at : ℕ) (t : Token) → CutsFrom bytes at (Ok (Some t)) → at ≤ length bytes
cut_from bytes at t h =
    let p = passes_less h.0.1.pieces (drop at bytes) (drop t.start bytes) h.0.1.passed in
    let w = h.2.within in
    let d = length-drop at bytes in
    let e = length-drop t.start bytes in
    omega (arith, h.1, p, w, d, e)

cuts_from : (bytes : List ℕ) (at end : ℕ) (ls : List Lexeme) → Cuts bytes at (ls ++ Closing ∷ []) end → at ≤ length bytes
cuts_from bytes at end [] h = cut_from bytes at h.0 h.1
cuts_from bytes at end (l ∷ ls) h = cut_from bytes at h.0 h.1

inside_within : (bytes : List ℕ) (at : ℕ) (vs : List Value21) → StandInside bytes at vs → at ≤ length bytes
inside_within bytes at vs h = cuts_from bytes at h.0 (print_all vs) h.1

pub values_none : (bytes starts : List ℕ) (heads : List Head) (world : List Instance) (at : ℕ) → ∥ Holds bytes starts heads world ∥₁ → at < length world
    → (head_at heads at).count ≡ 0 → [] ≡ (instance_at world at).values
values_none bytes starts heads world at h lt e = ∥∥₁_elim h (values_set _ _) (λ k. empty (instance_at world at).values (sym (many bytes starts _ _ (tells bytes starts heads world at k lt)) ∙ e))
  where
    values_set : IsSet (List Value21)
    values_set = Coded-set (Prim.hlevel (codes, row.the_row.coded))

    empty : (vs : List Value21) → length vs ≡ 0 → [] ≡ vs
    empty [] e = refl
    empty (v ∷ vs) e = cc

inside_first : (bytes starts : List ℕ) (head : Head) (i : Instance) → Tells bytes starts head i → (head.count ≡ 0 → ⊥) → StandInside bytes (get_or starts head.first 0) i.values
inside_first bytes starts head i t n = from (starts_of starts head) refl
  where
    some : (xs : List ℕ) → starts_of starts head ≡ xs → length xs ≡ head.count
    some xs e = ap (λ (ys : List ℕ). length ys) (sym e) ∙ taken starts head.first head.count t.within

    from : (xs : List ℕ) → starts_of starts head ≡ xs → StandInside bytes (get_or starts head.first 0) i.values
    from [] e = absurd (n (sym (some [] e)))
    from (s ∷ more) e =
        let f : get_or (starts_of starts head) 0 0 ≡ s = ap (λ (ys : List ℕ). get_or ys 0 0) e in
        let g : get_or (starts_of starts head) 0 0 ≡ get_or starts (head.first + 0) 0 = start_is starts head.first head.count 0 (let m = some (s ∷ more) e in omega (arith, m)) in
        let o : get_or starts (head.first + 0) 0 ≡ get_or starts head.first 0 = (let z : head.first + 0 ≡ head.first = omega arith in ap (λ (x : ℕ). get_or starts x 0) z) in
        subst (λ x. StandInside bytes x i.values) (sym f ∙ g ∙ o) (t.values.1 s more e)

pub values_stand : (bytes starts : List ℕ) (heads : List Head) (world : List Instance) (at : ℕ) → ∥ Holds bytes starts heads world ∥₁ → at < length world
    → ((head_at heads at).count ≡ 0 → ⊥) → (vs : List Value21) × ∥ StandInside bytes (get_or starts (head_at heads at).first 0) vs ∥₁
values_stand bytes starts heads world at h lt n = ((instance_at world at).values, ∥∥₁_elim h ∥∥₁_prop (λ k. ∣ inside_first bytes starts _ _ (tells bytes starts heads world at k lt) n ∣₁))

pub values_from : (bytes starts : List ℕ) (heads : List Head) (world : List Instance) (at : ℕ) → ∥ Holds bytes starts heads world ∥₁ → at < length world
    → ((head_at heads at).count ≡ 0 → ⊥) → get_or starts (head_at heads at).first 0 ≤ length bytes
values_from bytes starts heads world at h lt n = ∥∥₁_elim h le_prop (λ k. inside_within bytes _ _ (inside_first bytes starts _ _ (tells bytes starts heads world at k lt) n))

pub values_told : (bytes starts : List ℕ) (heads : List Head) (world : List Instance) (at : ℕ) (made : List Value21) → ∥ Holds bytes starts heads world ∥₁ → at < length world
    → ((head_at heads at).count ≡ 0 → ⊥) → ((vs : List Value21) → StandInside bytes (get_or starts (head_at heads at).first 0) vs → made ≡ vs) → made ≡ (instance_at world at).values
values_told bytes starts heads world at made h lt n m = ∥∥₁_elim h (values_set _ _) (λ k. m _ (inside_first bytes starts _ _ (tells bytes starts heads world at k lt) n))
  where
    values_set : IsSet (List Value21)
    values_set = Coded-set (Prim.hlevel (codes, row.the_row.coded))

-- One of its values.

maybe_set : IsSet (Option Value21)
maybe_set = Coded-set (Prim.hlevel (codes, row.the_row.coded))

pub attribute_none : (bytes starts : List ℕ) (heads : List Head) (world : List Instance) (at k : ℕ) → ∥ Holds bytes starts heads world ∥₁ → at < length world
    → (head_at heads at).count ≤ k → None ≡ slice_get (instance_at world at).values k
attribute_none bytes starts heads world at k h lt le =
    ∥∥₁_elim h (maybe_set _ _) (λ g. let n = many bytes starts _ _ (tells bytes starts heads world at g lt) in sym (slice_get_past (instance_at world at).values k (omega (arith, n, le))))

pub attribute_from : (bytes starts : List ℕ) (heads : List Head) (world : List Instance) (at k : ℕ) → ∥ Holds bytes starts heads world ∥₁ → at < length world
    → k < (head_at heads at).count → get_or starts ((head_at heads at).first + k) 0 ≤ length bytes
attribute_from bytes starts heads world at k h lt l =
    ∥∥₁_elim h le_prop (λ g. let v = value_there bytes starts _ _ k (tells bytes starts heads world at g lt) l in stand_within bytes _ v.0 v.2)
  where
    cut_first : (bytes : List ℕ) (at end : ℕ) (ls : List Lexeme) → (ls ≡ [] → ⊥) → Cuts bytes at ls end → at ≤ length bytes
    cut_first bytes at end [] n h = absurd (n refl)
    cut_first bytes at end (l ∷ ls) n h = cut_from bytes at h.0 h.1

    stand_within : (bytes : List ℕ) (at : ℕ) (v : Value21) → Stands bytes at v → at ≤ length bytes
    stand_within bytes at v s = cut_first bytes at s.end (print v) (some_token v) s.cuts

pub attribute_stands : (bytes starts : List ℕ) (heads : List Head) (world : List Instance) (at k : ℕ) → ∥ Holds bytes starts heads world ∥₁ → at < length world
    → k < (head_at heads at).count → Stood bytes (get_or starts ((head_at heads at).first + k) 0)
attribute_stands bytes starts heads world at k h lt l =
    ∥∥₁_elim h (one_stood bytes (get_or starts ((head_at heads at).first + k) 0)) (λ g. let v = value_there bytes starts _ _ k (tells bytes starts heads world at g lt) l in (v.0, ∣ v.2 ∣₁))

pub attribute_told : (bytes starts : List ℕ) (heads : List Head) (world : List Instance) (at k : ℕ) (made : Value21) → ∥ Holds bytes starts heads world ∥₁ → at < length world
    → k < (head_at heads at).count → ((v : Value21) → Stands bytes (get_or starts ((head_at heads at).first + k) 0) v → made ≡ v) → Some made ≡ slice_get (instance_at world at).values k
attribute_told bytes starts heads world at k made h lt l m =
    ∥∥₁_elim h (maybe_set _ _) (λ g. let v = value_there bytes starts _ _ k (tells bytes starts heads world at g lt) l in ap (λ (x : Value21). Some x) (m v.0 v.2) ∙ sym v.1)
