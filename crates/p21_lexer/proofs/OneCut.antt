-- Bytes have one next token from a place on, and one list of tokens.
use Rattle.std.proofs.Common.{◌≡◌, ℕ, ◌+◌, ◌-◌, ◌<◌, ◌≤◌, ◌==◌, ◌&&◌, inl, inr, List, [], ◌∷◌, ◌++◌, length, take, drop, false, suc, refl, sym, ap, subst, ◌∙◌, arith, Option, Some, None, Result, Ok, Err, append_assoc, length-drop}
use Rattle.std.proofs.lemmas.Bool.{cases_Bool}
use Rattle.p21_lexer.specs.declared.token.TokenKind.{TokenKind}
use Rattle.p21_lexer.specs.declared.token.Token.{Token}
use Rattle.p21_lexer.specs.declared.token.LexFault.{LexFault}
use Rattle.p21_lexer.specs.declared.token.LexFault.TheVariants.{BadToken}
use Rattle.p21_lexer.specs.Spelling.{Spells}
use Rattle.p21_lexer.specs.inner.TokenSpans.{comment_span}
use Rattle.p21_lexer.specs.TokenSeparators.{has_close, IsBlank, IsComment, IsPiece, Passes, IsStop}
use Rattle.p21_lexer.specs.Cutting.{IsFirst, StopsAt, CutsFrom, Tokens}
use Rattle.p21_lexer.specs.inner.Kinds.{kind_of}
use Rattle.p21_lexer.proofs.Gapping.{and_false}
use Rattle.p21_lexer.proofs.Tokens.{headed}

-- a comment's inside tells its length
close_at : (inner rest : List ℕ) → has_close (inner ++ 42 ∷ []) ≡ false → comment_span (inner ++ 42 ∷ 47 ∷ rest) ≡ Some (length inner + 2)
close_at [] rest h = refl
close_at (a ∷ []) rest h = rw (and_false (a == 42)) refl
close_at (a ∷ b ∷ bs) rest h = elim (cases_Bool ((a == 42) && (b == 47))) [
  | inl t ↦ (let h2 = rw t at h in cc)
  | inr f ↦ (let h2 = rw f at h in let e = close_at (b ∷ bs) rest h2 in rw (f, e) (ap Some (omega arith)))
]

comment_rest : (p rest : List ℕ) (c : IsComment p) → p ++ rest ≡ 47 ∷ 42 ∷ (c.inner ++ 42 ∷ 47 ∷ rest)
comment_rest p rest c = ap (λ x. x ++ rest) c.whole ∙ ap (λ x. 47 ∷ 42 ∷ x) (append_assoc c.inner (42 ∷ 47 ∷ []) rest)

behind : (inner rest : List ℕ) → drop (length inner + 2) (inner ++ 42 ∷ 47 ∷ rest) ≡ rest
behind [] rest = refl
behind (a ∷ inner) rest = let e : length (a ∷ inner) + 2 ≡ suc (length inner + 2) = omega arith in rw e (behind inner rest)

one_inside : (a b r s : List ℕ) → has_close (a ++ 42 ∷ []) ≡ false → has_close (b ++ 42 ∷ []) ≡ false → a ++ 42 ∷ 47 ∷ r ≡ b ++ 42 ∷ 47 ∷ s → r ≡ s
one_inside a b r s h k e =
    let x = close_at a r h in
    let y = close_at b s k in
    let z : Some (length a + 2) ≡ Some (length b + 2) = sym x ∙ ap comment_span e ∙ y in
    let n : length a + 2 ≡ length b + 2 = cc in
    sym (behind a r) ∙ ap (λ l. drop (length a + 2) l) e ∙ ap (λ m. drop m (b ++ 42 ∷ 47 ∷ s)) n ∙ behind b s

blank_comment : (p q r s : List ℕ) → IsBlank p → IsComment q → p ++ r ≡ q ++ s → ⊥
blank_comment p q r s b c e =
    let f : b.byte ∷ r ≡ 47 ∷ 42 ∷ (c.inner ++ 42 ∷ 47 ∷ s) = ap (λ x. x ++ r) (sym b.whole) ∙ e ∙ comment_rest q s c in
    let g : b.byte ≡ 47 = cc in
    let h = rw g at b.blank in
    cc

-- of two pieces that begin the same bytes, the rests are one
one_piece : (p q r s : List ℕ) → IsPiece p → IsPiece q → p ++ r ≡ q ++ s → r ≡ s
one_piece p q r s hp hq e = elim hp [
  | inl b ↦ (elim hq [
    | inl c ↦ (let f : b.byte ∷ r ≡ c.byte ∷ s = ap (λ x. x ++ r) (sym b.whole) ∙ e ∙ ap (λ x. x ++ s) c.whole in cc)
    | inr c ↦ absurd (blank_comment p q r s b c e)
  ])
  | inr b ↦ (elim hq [
    | inl c ↦ absurd (blank_comment q p s r c b (sym e))
    | inr c ↦ (let f : 47 ∷ 42 ∷ (b.inner ++ 42 ∷ 47 ∷ r) ≡ 47 ∷ 42 ∷ (c.inner ++ 42 ∷ 47 ∷ s) = sym (comment_rest p r b) ∙ e ∙ comment_rest q s c in
        let g : b.inner ++ 42 ∷ 47 ∷ r ≡ c.inner ++ 42 ∷ 47 ∷ s = cc in
        one_inside b.inner c.inner r s b.first c.first g)
  ])
]

-- the pieces at the front are passed over in one way
one_rest : (ps qs : List (List ℕ)) (a r s : List ℕ) → Passes ps a r → Passes qs a s → IsStop r → IsStop s → r ≡ s
one_rest [] [] a r s h k x y = sym h ∙ k
one_rest [] (q ∷ qs) a r s h k x y = absurd (x q k.0 k.1 (sym h ∙ k.2))
one_rest (p ∷ ps) [] a r s h k x y = absurd (y p h.0 h.1 (sym k ∙ h.2))
one_rest (p ∷ ps) (q ∷ qs) a r s h k x y =
    let e : h.0 ≡ k.0 = one_piece p q h.0 k.0 h.1 k.1 (sym h.2 ∙ k.2) in
    let P : List ℕ → Type 0 = λ l. Passes qs l s in
    one_rest ps qs h.0 r s h.3 (subst P (sym e) k.3) x y

same_size : (bs : List ℕ) (a b : ℕ) → a ≤ length bs → b ≤ length bs → drop a bs ≡ drop b bs → a ≡ b
same_size bs a b la lb e = let n : length (drop a bs) ≡ length (drop b bs) = ap length e in omega (arith, length-drop a bs, length-drop b bs, n)

one_stop : (bytes : List ℕ) (from a b : ℕ) → StopsAt bytes from a → StopsAt bytes from b → a ≡ b
one_stop bytes from a b h k = same_size bytes a b h.0 k.0 (one_rest h.1.pieces k.1.pieces (drop from bytes) (drop a bytes) (drop b bytes) h.1.passed k.1.passed h.1.stop k.1.stop)

-- one spelling has one kind
one_kind : (bs : List ℕ) (k j : TokenKind) → Spells k bs → Spells j bs → k ≡ j
one_kind bs k j h i =
    let x = headed k bs h in
    let y = headed j bs i in
    let e : x.head ∷ x.tail ≡ y.head ∷ y.tail = sym x.whole ∙ y.whole in
    let f : x.head ≡ y.head = cc in
    let g : Some k ≡ Some j = sym x.kind ∙ ap kind_of f ∙ y.kind in
    cc

one_size : (bs : List ℕ) (k j : TokenKind) (m n : ℕ) → IsFirst bs k m → IsFirst bs j n → m ≡ n
one_size bs k j m n h i =
    let a = h.longest j n i.within i.spelled in
    let b = i.longest k m h.within h.spelled in
    omega (arith, a, b)

one_first : (bs : List ℕ) (k j : TokenKind) (m n : ℕ) → IsFirst bs k m → IsFirst bs j n → (m ≡ n) × (k ≡ j)
one_first bs k j m n h i =
    let e = one_size bs k j m n h i in
    (e, one_kind (take m bs) k j h.spelled (rw (← e) at i.spelled))

first_along : (bytes : List ℕ) (a b : ℕ) (k : TokenKind) (n : ℕ) → a ≡ b → IsFirst (drop a bytes) k n → IsFirst (drop b bytes) k n
first_along bytes a b k n e h = rw (← e) h

same_token : (t u : Token) → t.kind ≡ u.kind → t.start ≡ u.start → t.end ≡ u.end → t ≡ u
same_token t u h i j =
    let made : TokenKind → ℕ → ℕ → Token = λ k s e. record { kind = k; start = s; end = e } in
    ap (λ (k : TokenKind). made k t.start t.end) h ∙ ap (λ s. made u.kind s t.end) i ∙ ap (λ e. made u.kind u.start e) j

one_token : (bytes : List ℕ) (from : ℕ) (t u : Token) → CutsFrom bytes from (Ok (Some t)) → CutsFrom bytes from (Ok (Some u)) → t ≡ u
one_token bytes from t u h k =
    let e : t.start ≡ u.start = one_stop bytes from t.start u.start h.0 k.0 in
    let f = one_first (drop u.start bytes) t.kind u.kind (t.end - t.start) (u.end - u.start) (first_along bytes t.start u.start t.kind (t.end - t.start) e h.2) k.2 in
    let g : t.end ≡ u.end = omega (arith, h.1, k.1, e, f.0) in
    same_token t u f.1 e g

ahead : (bytes : List ℕ) (t : Token) → (t.start < t.end) → IsFirst (drop t.start bytes) t.kind (t.end - t.start) → t.start < length bytes
ahead bytes t lt h = omega (arith, h.within, length-drop t.start bytes, lt)

pub one_answer : (bytes : List ℕ) (from : ℕ) (r s : Result (Option Token) LexFault) → CutsFrom bytes from r → CutsFrom bytes from s → r ≡ s
one_answer bytes from (Ok (Some t)) (Ok (Some u)) h k = ap (λ (x : Token). Ok (Some x)) (one_token bytes from t u h k)
one_answer bytes from (Ok (Some t)) (Ok None) h k = absurd (let e = one_stop bytes from t.start (length bytes) h.0 k in let a = ahead bytes t h.1 h.2 in omega (arith, a, e))
one_answer bytes from (Ok None) (Ok (Some u)) h k = absurd (let e = one_stop bytes from u.start (length bytes) k.0 h in let a = ahead bytes u k.1 k.2 in omega (arith, a, e))
one_answer bytes from (Ok None) (Ok None) h k = refl
one_answer bytes from (Ok (Some t)) (Err (BadToken b)) h k =
    absurd (let e = one_stop bytes from t.start b h.0 k.0 in let f = first_along bytes t.start b t.kind (t.end - t.start) e h.2 in k.2 t.kind (t.end - t.start) f.within f.spelled)
one_answer bytes from (Err (BadToken a)) (Ok (Some u)) h k =
    absurd (let e = one_stop bytes from u.start a k.0 h.0 in let f = first_along bytes u.start a u.kind (u.end - u.start) e k.2 in h.2 u.kind (u.end - u.start) f.within f.spelled)
one_answer bytes from (Ok None) (Err (BadToken b)) h k = absurd (let e = one_stop bytes from (length bytes) b h k.0 in omega (arith, e, k.1))
one_answer bytes from (Err (BadToken a)) (Ok None) h k = absurd (let e = one_stop bytes from a (length bytes) h.0 k in omega (arith, e, h.1))
one_answer bytes from (Err (BadToken a)) (Err (BadToken b)) h k = let e = one_stop bytes from a b h.0 k.0 in ap (λ x. Err (BadToken x)) e

pub one_list : (bytes : List ℕ) (from to end : ℕ) (ts us : List Token) → Tokens bytes from ts to → Tokens bytes from us end → length ts ≡ length us → ts ≡ us
one_list bytes from to end [] [] h k e = refl
one_list bytes from to end [] (u ∷ us) h k e = absurd (omega (arith, e))
one_list bytes from to end (t ∷ ts) [] h k e = absurd (omega (arith, e))
one_list bytes from to end (t ∷ ts) (u ∷ us) h k e =
    let same : t ≡ u = one_token bytes from t u h.0 k.0 in
    let P : ℕ → Type 0 = λ n. Tokens bytes n us end in
    let rest : ts ≡ us = one_list bytes t.end to end ts us h.1 (subst P (ap (λ (x : Token). x.end) (sym same)) k.1) (omega (arith, e)) in
    ap (λ (x : Token). x ∷ ts) same ∙ ap (λ (x : List Token). u ∷ x) rest
