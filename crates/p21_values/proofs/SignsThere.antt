-- A sign of the grammar that stands right there is the token that is cut next.
use Rattle.std.proofs.Common.{◌≡◌, ℕ, zero, suc, ◌+◌, ◌-◌, ◌<◌, ◌≤◌, ◌==◌, inl, inr, true, false, List, [], ◌∷◌, ◌++◌, length, get_or, take, drop, Some, Ok, refl, sym, ap, subst, ◌∙◌, arith, drop-cons, slice_range}
use Rattle.std.proofs.lemmas.Bool.{cases_Bool}
use Rattle.std.proofs.lemmas.Bool.Decides.{nat_tests}
use Rattle.std.proofs.lemmas.List.{length-take-le}
use Rattle.p21_lexer.specs.declared.token.TokenKind.{TokenKind}
use Rattle.p21_lexer.specs.declared.token.TokenKind.TheVariants as tokens
use Rattle.p21_lexer.specs.Spelling.{Spells, IsSingle, is_single}
use Rattle.p21_lexer.specs.TokenSeparators.{is_blank, IsStop}
use Rattle.p21_lexer.specs.Cutting.{IsFirst, CutsFrom}
use Rattle.p21_lexer.specs.inner.Kinds.{kind_of as kind_by}
use Rattle.p21_lexer.proofs.Tokens.{headed, kind_single}
use Rattle.p21_values.specs.declared.piece.Kind.{Kind}
use Rattle.p21_values.specs.Lexemes.{class_of, single_says, lexeme_of}
use Rattle.p21_values.specs.TokenPieces.{IsSign, kind_of}
use Rattle.p21_values.proofs.Seen.{alone_says}

sign_byte : (b : ℕ) → IsSign (kind_of (class_of (single_says b))) → is_single b ≡ true
sign_byte b h = elim (cases_Bool (b == 40)) [
  | inl k ↦ rw k refl
  | inr k ↦
      elim (cases_Bool (b == 41)) [
        | inl l ↦ rw (k, l) refl
        | inr l ↦
            elim (cases_Bool (b == 44)) [
              | inl m ↦ rw (k, l, m) refl
              | inr m ↦
                  elim (cases_Bool (b == 59)) [
                    | inl n ↦ rw (k, l, m, n) refl
                    | inr n ↦
                        elim (cases_Bool (b == 61)) [
                          | inl o ↦ rw (k, l, m, n, o) refl
                          | inr o ↦ elim (cases_Bool (b == 42)) [ inl p ↦ absurd (rw (k, l, m, n, o, p) at h) | inr p ↦ absurd (rw (k, l, m, n, o, p) at h) ]
                        ]
                  ]
            ]
      ]
]

single_no_blank : (b : ℕ) → is_single b ≡ true → is_blank b ≡ false
single_no_blank b h = elim (cases_Bool (is_blank b)) [ inl k ↦ grind (arith, nat_tests) | inr k ↦ k ]

single_no_slash : (b : ℕ) → is_single b ≡ true → b ≡ 47 → ⊥
single_no_slash b h e = grind (arith, nat_tests)

-- no gap begins with such a byte
single_stop : (b : ℕ) (bs : List ℕ) → is_single b ≡ true → IsStop (b ∷ bs)
single_stop b bs h p rest (inl w) e =
    let f : b ∷ bs ≡ w.byte ∷ rest = e ∙ ap (λ (x : List ℕ). x ++ rest) w.whole in
    let same : b ≡ w.byte = cc in
    let blank : is_blank b ≡ true = ap is_blank same ∙ w.blank in
    let none = single_no_blank b h in
    absurd (let g : true ≡ false = sym blank ∙ none in cc)
single_stop b bs h p rest (inr w) e =
    let f : b ∷ bs ≡ 47 ∷ (42 ∷ (w.inner ++ 42 ∷ 47 ∷ []) ++ rest) = e ∙ ap (λ (x : List ℕ). x ++ rest) w.whole in
    let same : b ≡ 47 = cc in
    single_no_slash b h same

longest_one : (b : ℕ) (bs : List ℕ) → is_single b ≡ true → (other : TokenKind) (m : ℕ) → m ≤ length (b ∷ bs) → Spells other (take m (b ∷ bs)) → m ≤ 1
longest_one b bs s other zero le w = omega arith
longest_one b bs s other (suc m) le w =
    let h = headed other (take (suc m) (b ∷ bs)) w in
    let f : b ∷ take m bs ≡ h.head ∷ h.tail = h.whole in
    let same : b ≡ h.head = cc in
    let kinds : Some tokens.Single ≡ Some other = sym (kind_single b s) ∙ ap kind_by same ∙ h.kind in
    let alike : other ≡ tokens.Single = cc in
    let single : IsSingle (take (suc m) (b ∷ bs)) = subst (λ (k : TokenKind). Spells k (take (suc m) (b ∷ bs))) alike w in
    let long = length-take-le (suc m) (b ∷ bs) le in
    let one : length (take (suc m) (b ∷ bs)) ≡ 1 = ap length single.whole in
    omega (arith, long, one)

first_sign : (b : ℕ) (bs : List ℕ) → is_single b ≡ true → IsFirst (b ∷ bs) tokens.Single 1
first_sign b bs s = record { within = omega arith; spelled = record { byte = b; whole = refl; single = s }; longest = longest_one b bs s }

first_there : (bytes : List ℕ) (at : ℕ) → at < length bytes → is_single (get_or bytes at 0) ≡ true → IsFirst (drop at bytes) tokens.Single (at + 1 - at)
first_there bytes at lt s =
    let n : 1 ≡ at + 1 - at = omega arith in
    let e : get_or bytes at 0 ∷ drop (suc at) bytes ≡ drop at bytes = sym (drop-cons bytes at 0 lt) in
    subst (λ (m : ℕ). IsFirst (drop at bytes) tokens.Single m) n (subst (λ (x : List ℕ). IsFirst x tokens.Single 1) e (first_sign (get_or bytes at 0) (drop (suc at) bytes) s))

stop_there : (bytes : List ℕ) (at : ℕ) → at < length bytes → is_single (get_or bytes at 0) ≡ true → IsStop (drop at bytes)
stop_there bytes at lt s =
    let e : get_or bytes at 0 ∷ drop (suc at) bytes ≡ drop at bytes = sym (drop-cons bytes at 0 lt) in
    subst IsStop e (single_stop (get_or bytes at 0) (drop (suc at) bytes) s)

pub sign_cut : (bytes : List ℕ) (at : ℕ) (kind : Kind) → at < length bytes → IsSign kind → kind ≡ kind_of (class_of (single_says (get_or bytes at 0)))
    → CutsFrom bytes at (Ok (Some (record { kind = tokens.Single; start = at; end = at + 1 })))
sign_cut bytes at kind lt sign is =
    let s = sign_byte (get_or bytes at 0) (subst IsSign is sign) in
    ((omega (arith, lt), record { pieces = []; passed = refl; stop = stop_there bytes at lt s }), omega arith, first_there bytes at lt s)

pub sign_spelled : (bytes : List ℕ) (at : ℕ) (kind : Kind) → at < length bytes → IsSign kind → kind ≡ kind_of (class_of (single_says (get_or bytes at 0)))
    → Spells tokens.Single (slice_range bytes at (at + 1))
sign_spelled bytes at kind lt sign is = let f = first_there bytes at lt (sign_byte (get_or bytes at 0) (subst IsSign is sign)) in f.spelled

pub sign_seen : (bytes : List ℕ) (at : ℕ) (kind : Kind) → at < length bytes → kind ≡ kind_of (class_of (single_says (get_or bytes at 0)))
    → kind ≡ kind_of (class_of (lexeme_of bytes (record { kind = tokens.Single; start = at; end = at + 1 })))
sign_seen bytes at kind lt is =
    is ∙ ap (λ l. kind_of (class_of l)) (sym (alone_says bytes at (at + 1) 0 (omega arith) (omega (arith, lt))))
