-- What begins with a token's first byte is no gap: the token that stands there is the one that is cut next.
use Rattle.std.proofs.Common.{◌≡◌, ℕ, ◌+◌, ◌-◌, ◌*◌, ◌/◌, ◌<◌, ◌≤◌, ◌⊎◌, inl, inr, List, [], ◌∷◌, ◌++◌, length, get_or, take, drop, slice_range, true, nat_lt, suc, refl, sym, ap, subst, ◌∙◌, arith, drop-cons, Option, Some, None, option_map, IfSome}
use Rattle.std.proofs.lemmas.Bool.{lt-ltb}
use Rattle.std.proofs.lemmas.Bool.Decides.{nat_tests}
use Rattle.std.proofs.lemmas.List.{length-drop, get_or-drop, take_more}
use Rattle.p21_lexer.specs.declared.token.TokenKind.{TokenKind}
use Rattle.p21_lexer.specs.declared.token.TokenKind.TheVariants as kinds
use Rattle.p21_lexer.specs.declared.limits.TheConstants.{GREATEST_NAME}
use Rattle.p21_lexer.specs.TokenSeparators.{is_blank, IsStop}
use Rattle.p21_lexer.specs.inner.Kinds.{kind_of, span}
use Rattle.p21_lexer.specs.inner.TokenSpans.{name_run, name_span}
use Rattle.p21_lexer.specs.Spelling.{is_digit, value_after}
use Rattle.p21_lexer.specs.There.{StandsThere}
use Rattle.p21_lexer.proofs.RunLemmas.{behind_at}
use Rattle.p21_lexer.proofs.Tokens.{first_at}

-- A token's first byte begins no gap.

blank_is : (b : ℕ) → is_blank b ≡ true → ((9 ≤ b) × (b ≤ 13)) ⊎ (b ≡ 32)
blank_is b h = grind (arith, nat_tests)

few_is : (b : ℕ) → 9 ≤ b → b ≤ 13 → (b ≡ 9) ⊎ ((b ≡ 10) ⊎ ((b ≡ 11) ⊎ ((b ≡ 12) ⊎ (b ≡ 13))))
few_is b l h = grind arith

few_none : (b : ℕ) → (b ≡ 9) ⊎ ((b ≡ 10) ⊎ ((b ≡ 11) ⊎ ((b ≡ 12) ⊎ (b ≡ 13)))) → kind_of b ≡ None
few_none b (inl e) = ap kind_of e
few_none b (inr (inl e)) = ap kind_of e
few_none b (inr (inr (inl e))) = ap kind_of e
few_none b (inr (inr (inr (inl e)))) = ap kind_of e
few_none b (inr (inr (inr (inr e)))) = ap kind_of e

blank_none : (b : ℕ) → is_blank b ≡ true → kind_of b ≡ None
blank_none b h = elim (blank_is b h) [ inl k ↦ few_none b (few_is b k.0 k.1) | inr e ↦ ap kind_of e ]

begun_stop : (b : ℕ) (bs : List ℕ) (k : TokenKind) → kind_of b ≡ Some k → IsStop (b ∷ bs)
begun_stop b bs k h p rest (inl w) e =
    let f : b ∷ bs ≡ w.byte ∷ rest = e ∙ ap (λ (x : List ℕ). x ++ rest) w.whole in
    let same : b ≡ w.byte = cc in
    let g : None ≡ Some k = sym (blank_none w.byte w.blank) ∙ ap kind_of (sym same) ∙ h in
    cc
begun_stop b bs k h p rest (inr w) e =
    let f : b ∷ bs ≡ 47 ∷ (42 ∷ (w.inner ++ 42 ∷ 47 ∷ []) ++ rest) = e ∙ ap (λ (x : List ℕ). x ++ rest) w.whole in
    let same : b ≡ 47 = cc in
    let g : None ≡ Some k = ap kind_of (sym same) ∙ h in
    cc

stop_there : (bytes : List ℕ) (at : ℕ) (k : TokenKind) → at < length bytes → kind_of (get_or bytes at 0) ≡ Some k → IsStop (drop at bytes)
stop_there bytes at k lt h =
    let e : get_or bytes at 0 ∷ drop (suc at) bytes ≡ drop at bytes = sym (drop-cons bytes at 0 lt) in
    subst IsStop e (begun_stop (get_or bytes at 0) (drop (suc at) bytes) k h)

-- Its longest spelling is the token that stands there.

pub stands : (bytes : List ℕ) (at end : ℕ) (k : TokenKind) → at < length bytes → kind_of (get_or bytes at 0) ≡ Some k
    → Some end ≡ option_map (λ n. at + n) (span k (drop at bytes)) → end ≤ length bytes → StandsThere bytes at k end
stands bytes at end k lt h s le =
    let f = first_at bytes at end k lt (sym h) s in
    (((omega (arith, lt), record { pieces = []; passed = refl; stop = stop_there bytes at k lt h }), f.0, f.1), le)

pub if_stands : (bytes : List ℕ) (at : ℕ) (k : TokenKind) (found : Option ℕ) → at < length bytes → kind_of (get_or bytes at 0) ≡ Some k
    → found ≡ option_map (λ n. at + n) (span k (drop at bytes)) → IfSome found (λ end. end ≤ length bytes) → IfSome found (StandsThere bytes at k)
if_stands bytes at k None lt h s le = tt
if_stands bytes at k (Some end) lt h s le = stands bytes at end k lt h s le

-- Names.

-- after a number of at most (bound - 9) / 10 any digit fits
pub digit_fits : (v b : ℕ) → v ≤ (GREATEST_NAME - 9) / 10 → is_digit b ≡ true → v * 10 + (b - 48) ≤ GREATEST_NAME
digit_fits v b h d =
    let most : b ≤ 57 = grind (arith, nat_tests) in
    omega (arith, h, most)

value_snoc : (n : ℕ) (ds : List ℕ) (b : ℕ) → value_after n (ds ++ b ∷ []) ≡ value_after n ds * 10 + (b - 48)
value_snoc n [] b = refl
value_snoc n (d ∷ ds) b = value_snoc (n * 10 + (d - 48)) ds b

range_more : (bytes : List ℕ) (from end : ℕ) → from ≤ end → end < length bytes
    → slice_range bytes from (end + 1) ≡ slice_range bytes from end ++ get_or bytes end 0 ∷ []
range_more bytes from end le lt =
    let n : end + 1 - from ≡ (end - from) + 1 = omega arith in
    let same : from + (end - from) ≡ end = omega arith in
    let long : end - from < length (drop from bytes) = omega (arith, length-drop from bytes) in
    ap (λ m. take m (drop from bytes)) n ∙ take_more (drop from bytes) (end - from) 0 long
    ∙ ap (λ b. slice_range bytes from end ++ b ∷ []) (get_or-drop from bytes (end - from) 0 ∙ ap (λ i. get_or bytes i 0) same)

-- one more digit
pub value_more : (bytes : List ℕ) (from end : ℕ) → from ≤ end → end < length bytes
    → value_after 0 (slice_range bytes from (end + 1)) ≡ value_after 0 (slice_range bytes from end) * 10 + (get_or bytes end 0 - 48)
value_more bytes from end le lt =
    ap (value_after 0) (range_more bytes from end le lt) ∙ value_snoc 0 (slice_range bytes from end) (get_or bytes end 0)

pub name_stands : (bytes : List ℕ) (at end : ℕ) → at < length bytes → get_or bytes at 0 ≡ 35 → end ≤ length bytes → at + 1 < end
    → (at + 1) + name_run 0 (drop (at + 1) bytes) ≡ end → StandsThere bytes at kinds.Name end
unfolding span
name_stands bytes at end lt hash le some run =
    let t : nat_lt 0 (name_run 0 (drop (at + 1) bytes)) ≡ true = lt-ltb 0 _ (omega arith) in
    let s : Some end ≡ option_map (λ n. (at + 1) + n) (name_span (drop (at + 1) bytes)) = rw t (ap Some (sym run)) in
    stands bytes at end kinds.Name lt (ap kind_of hash) (s ∙ behind_at name_span bytes at) le
