-- Where no gap stands before a value, its first byte tells the kind of its first token.
use Rattle.std.proofs.Common.{◌≡◌, ℕ, suc, ◌+◌, ◌-◌, ◌<◌, ◌≤◌, ◌==◌, ◌||◌, Bool, true, false, inl, inr, List, [], ◌∷◌, ◌++◌, length, get_or, take, drop, Option, Some, None, Ok, refl, sym, ap, subst, ◌∙◌, arith, drop-cons, slice_range, length-drop, IfSome, is_some}
use Rattle.std.proofs.lemmas.Bool.{cases_Bool, eqb-true}
use Rattle.std.proofs.lemmas.Bool.Decides.{nat_tests}
use Rattle.p21_lexer.specs.declared.token.Token.{Token}
use Rattle.p21_lexer.specs.declared.token.TokenKind.{TokenKind}
use Rattle.p21_lexer.specs.declared.token.TokenKind.TheVariants as tokens
use Rattle.p21_lexer.specs.Spelling.{Spells, is_single, value_after}
use Rattle.p21_lexer.specs.TokenSeparators.{is_blank, Passes, IsStop}
use Rattle.p21_lexer.specs.Cutting.{StopsAt, CutsFrom}
use Rattle.p21_lexer.specs.inner.Kinds.{kind_of as kind_by}
use Rattle.p21_lexer.proofs.Tokens.{headed, kind_single}
use Rattle.p21_values.specs.declared.piece.Kind.TheVariants as kinds
use Rattle.p21_values.specs.declared.value.Value21.{Value21}
use Rattle.p21_values.specs.Lexemes.{Lexeme, says, single_says, lexeme_of, class_of, inner}
use Rattle.p21_values.specs.TokenPieces.{kind_of}
use Rattle.p21_values.specs.Values.{words_of, reference_of, items_of, is_absent}
use Rattle.p21_values.specs.Standing.{Stands, Begins, StandInside, StandBehind}
use Rattle.p21_values.proofs.Contents.{name_kind, tail_of}
use Rattle.p21_values.proofs.Pieces.{words_two}
use Rattle.p21_values.proofs.Seen.{head_of}
use Rattle.bim_text.specs.Short.{IsByteAt}
use Rattle.p21_lexer.specs.declared.there.NameThere.{NameThere}
use Rattle.p21_table.specs.inner.FirstBytes.{BeginsToken, LeavesBehind}
use Rattle.p21_lexer.specs.There.{token_of, IsOneValue, IsValueThere, IsNameThere}
use Rattle.p21_table.proofs.FirstTokens.{first_cut, begun, first_inside, item_by, plain_end, absent_said, words_by, reference_by, absent_by, inside_by, not_inside, words_here, no_words, no_reference}
use Rattle.p21_table.proofs.RowsThere.{sign_token, says_sign, cuts_open}

-- No gap begins with such a byte.

no_blank : (b : ℕ) → 32 < b → is_blank b ≡ true → ⊥
no_blank b lt e = grind (arith, nat_tests)

byte_stop : (b : ℕ) (bs : List ℕ) → 32 < b → (b ≡ 47 → ⊥) → IsStop (b ∷ bs)
byte_stop b bs lt n p rest (inl w) e =
    let f : b ∷ bs ≡ w.byte ∷ rest = e ∙ ap (λ (x : List ℕ). x ++ rest) w.whole in
    let same : b ≡ w.byte = cc in
    no_blank b lt (ap is_blank same ∙ w.blank)
byte_stop b bs lt n p rest (inr w) e =
    let f : b ∷ bs ≡ 47 ∷ (42 ∷ (w.inner ++ 42 ∷ 47 ∷ []) ++ rest) = e ∙ ap (λ (x : List ℕ). x ++ rest) w.whole in
    let same : b ≡ 47 = cc in
    n same

front_is : (bytes : List ℕ) (at b : ℕ) → BeginsToken bytes at b → drop at bytes ≡ b ∷ drop (suc at) bytes
front_is bytes at b h = drop-cons bytes at 0 h.0 ∙ ap (λ (x : ℕ). x ∷ drop (suc at) bytes) h.1

stop_here : (bytes : List ℕ) (at b : ℕ) → BeginsToken bytes at b → IsStop (drop at bytes)
stop_here bytes at b h = subst IsStop (sym (front_is bytes at b h)) (byte_stop b (drop (suc at) bytes) h.2 h.3)

-- nothing is passed over where a stop is
passes_none : (ps : List (List ℕ)) (front rest : List ℕ) → IsStop front → Passes ps front rest → front ≡ rest
passes_none [] front rest s h = h
passes_none (p ∷ ps) front rest s h = absurd (s p h.0 h.1 h.2)

stops_here : (bytes : List ℕ) (at b start : ℕ) → BeginsToken bytes at b → StopsAt bytes at start → at ≡ start
stops_here bytes at b start h s =
    let e = ap (λ (xs : List ℕ). length xs) (passes_none s.1.pieces (drop at bytes) (drop start bytes) (stop_here bytes at b h) s.1.passed) in
    let m = length-drop at bytes in
    let n = length-drop start bytes in
    omega (arith, e, m, n, h.0, s.0)

-- The token that begins there.

-- the first token of the value, and its bytes
pub record RightThere (bytes : List ℕ) (b : ℕ) (v : Value21) : Type 0 where
  pub token : Token
  pub begins : Begins bytes token v
  pub tail : List ℕ
  pub spelled : slice_range bytes token.start token.end ≡ b ∷ tail
  pub spells : Spells token.kind (b ∷ tail)

cut_within : (bytes : List ℕ) (at : ℕ) (t : Token) → CutsFrom bytes at (Ok (Some t)) → t.end ≤ length bytes
cut_within bytes at t c = let w = c.2.within in let d = length-drop t.start bytes in omega (arith, w, d, c.1)

-- the bytes of a token that is cut right there
front_spelled : (bytes : List ℕ) (at b : ℕ) (t : Token) → BeginsToken bytes at b → CutsFrom bytes at (Ok (Some t)) → (tail : List ℕ) × (slice_range bytes t.start t.end ≡ b ∷ tail)
front_spelled bytes at b t h c =
    let same : get_or bytes t.start 0 ≡ b = ap (λ (x : ℕ). get_or bytes x 0) (sym (stops_here bytes at b t.start h c.0)) ∙ h.1 in
    let tail = take (t.end - suc t.start) (drop (suc t.start) bytes) in
    (tail, head_of bytes t.start t.end 0 c.1 (cut_within bytes at t c) ∙ ap (λ (x : ℕ). x ∷ tail) same)

right_there : (bytes : List ℕ) (at b : ℕ) (v : Value21) → BeginsToken bytes at b → Stands bytes at v → RightThere bytes b v
right_there bytes at b v h s =
    let cut = first_cut bytes at v s in
    let t = cut.0 in
    let front = front_spelled bytes at b t h cut.1 in
    let spells : Spells t.kind (slice_range bytes t.start t.end) = cut.1.2.spelled in
    record { token = t; begins = (begun bytes at t v cut.1 s).0; tail = front.0; spelled = front.1; spells = subst (λ (xs : List ℕ). Spells t.kind xs) front.1 spells }

-- its kind is the one that the byte tells
kind_told : (k : TokenKind) (b : ℕ) (tail : List ℕ) → Spells k (b ∷ tail) → kind_by b ≡ Some k
kind_told k b tail w =
    let h = headed k (b ∷ tail) w in
    let f : b ∷ tail ≡ h.head ∷ h.tail = h.whole in
    let same : b ≡ h.head = cc in
    ap kind_by same ∙ h.kind

-- Absent values.

-- the byte is `$` or `*`
abbrev is_mark : ℕ → Bool
is_mark b = b == 36 || b == 42

mark_single : (b : ℕ) → is_mark b ≡ true → is_single b ≡ true
mark_single b h = elim (cases_Bool (b == 36)) [ inl k ↦ rw (eqb-true b 36 k) refl | inr k ↦ (let g = rw k at h in rw (eqb-true b 42 g) refl) ]

single_mark : (b : ℕ) → is_single b ≡ true → is_mark b ≡ absent_said (single_says b)
single_mark b h = elim (cases_Bool (b == 40)) [
  | inl k ↦ rw (eqb-true b 40 k) refl
  | inr k ↦
      elim (cases_Bool (b == 41)) [
        | inl l ↦ rw (eqb-true b 41 l) refl
        | inr l ↦
            elim (cases_Bool (b == 44)) [
              | inl m ↦ rw (eqb-true b 44 m) refl
              | inr m ↦
                  elim (cases_Bool (b == 59)) [
                    | inl n ↦ rw (eqb-true b 59 n) refl
                    | inr n ↦
                        elim (cases_Bool (b == 61)) [
                          | inl o ↦ rw (eqb-true b 61 o) refl
                          | inr o ↦ elim (cases_Bool (b == 42)) [ inl p ↦ rw (eqb-true b 42 p) refl | inr p ↦ rw (k, l, m, n, o, p) (let g = rw (k, l, m, n, o, p) at h in g) ]
                        ]
                  ]
            ]
      ]
]

no_mark : (k : TokenKind) (b : ℕ) → kind_by b ≡ Some k → (k ≡ tokens.Single → ⊥) → is_mark b ≡ false
no_mark k b h n = elim (cases_Bool (is_mark b)) [
  | inl t ↦ absurd (n (let e : Some k ≡ Some tokens.Single = sym h ∙ kind_single b (mark_single b t) in cc))
  | inr f ↦ f
]

single_byte : (b : ℕ) (tail : List ℕ) → Spells tokens.Single (b ∷ tail) → is_single b ≡ true
single_byte b tail w = let f : b ∷ tail ≡ w.byte ∷ [] = w.whole in let same : b ≡ w.byte = cc in ap is_single same ∙ w.single

mark_said : (k : TokenKind) (b : ℕ) (tail : List ℕ) → Spells k (b ∷ tail) → is_mark b ≡ absent_said (says k (b ∷ tail))
mark_said tokens.Single b tail w = single_mark b (single_byte b tail w)
mark_said tokens.Word b tail w = no_mark tokens.Word b (kind_told tokens.Word b tail w) (λ e. cc)
mark_said tokens.Name b tail w = no_mark tokens.Name b (kind_told tokens.Name b tail w) (λ e. cc)
mark_said tokens.Number b tail w = no_mark tokens.Number b (kind_told tokens.Number b tail w) (λ e. cc)
mark_said tokens.Words b tail w = no_mark tokens.Words b (kind_told tokens.Words b tail w) (λ e. cc)
mark_said tokens.Enumeration b tail w = no_mark tokens.Enumeration b (kind_told tokens.Enumeration b tail w) (λ e. cc)
mark_said tokens.Bits b tail w = no_mark tokens.Bits b (kind_told tokens.Bits b tail w) (λ e. cc)

mark_there : (bytes : List ℕ) (at b : ℕ) (v : Value21) → BeginsToken bytes at b → Stands bytes at v → is_mark b ≡ is_absent v
mark_there bytes at b v h s =
    let r = right_there bytes at b v h s in
    mark_said r.token.kind b r.tail r.spells ∙ ap (λ (xs : List ℕ). absent_said (says r.token.kind xs)) (sym r.spelled) ∙ absent_by bytes r.token v r.begins

first_mark : (b : ℕ) → b ≡ 36 → (b == 36) ≡ is_mark b
first_mark b e = rw e refl

other_mark : (b : ℕ) → (b ≡ 36 → ⊥) → (b == 42) ≡ is_mark b
other_mark b n = elim (cases_Bool (b == 36)) [ inl k ↦ absurd (n (eqb-true b 36 k)) | inr k ↦ rw k refl ]

pub absent_there : (bytes : List ℕ) (at b : ℕ) (v : Value21) → BeginsToken bytes at b → b ≡ 36 → Stands bytes at v → (b == 36) ≡ is_absent v
absent_there bytes at b v h e s = first_mark b e ∙ mark_there bytes at b v h s

pub derived_there : (bytes : List ℕ) (at b : ℕ) (v : Value21) → BeginsToken bytes at b → (b ≡ 36 → ⊥) → Stands bytes at v → (b == 42) ≡ is_absent v
derived_there bytes at b v h n s = other_mark b n ∙ mark_there bytes at b v h s

-- References.

name_byte : (k : TokenKind) (b : ℕ) (tail : List ℕ) → Spells k (b ∷ tail) → k ≡ tokens.Name → b ≡ 35
name_byte tokens.Name b tail w e = let f : b ∷ tail ≡ 35 ∷ w.digits = w.whole in cc
name_byte k b tail w e = cc

-- where the byte is no `#`
pub no_reference_there : (bytes : List ℕ) (at b : ℕ) (v : Value21) → BeginsToken bytes at b → (b ≡ 35 → ⊥) → Stands bytes at v → None ≡ reference_of v
no_reference_there bytes at b v h n s =
    let r = right_there bytes at b v h s in
    let t = r.token in
    no_reference (lexeme_of bytes t) (λ k. n (name_byte t.kind b r.tail r.spells (name_kind t.kind (slice_range bytes t.start t.end) k))) ∙ reference_by bytes t v r.begins

-- where a name stands right there
pub reference_there : (bytes : List ℕ) (at : ℕ) (name : NameThere) (v : Value21) → IsNameThere bytes at name → Stands bytes at v → Some name.id ≡ reference_of v
reference_there bytes at name v h s =
    let t = token_of tokens.Name at name.end in
    let b = (begun bytes at t v h.there.0 s).0 in
    let tail = tail_of bytes at name.end h.there.0.1 h.there.1 in
    ap (λ (n : ℕ). Some n) (sym h.number ∙ ap (λ (xs : List ℕ). value_after 0 xs) (sym tail)) ∙ reference_by bytes t v b

-- Texts.

text_byte : (k : TokenKind) (b : ℕ) (tail : List ℕ) → Spells k (b ∷ tail) → k ≡ tokens.Words → b ≡ 39
text_byte tokens.Words b tail w e = let f : b ∷ tail ≡ 39 ∷ (w.inner ++ 39 ∷ []) = w.whole in cc
text_byte k b tail w e = cc

-- where the byte is no apostrophe
pub no_words_there : (bytes : List ℕ) (at b : ℕ) (v : Value21) → BeginsToken bytes at b → (b ≡ 39 → ⊥) → Stands bytes at v → None ≡ words_of v
no_words_there bytes at b v h n s =
    let r = right_there bytes at b v h s in
    let t = r.token in
    no_words t.kind (slice_range bytes t.start t.end) (λ k. n (text_byte t.kind b r.tail r.spells k)) ∙ words_by bytes t v r.begins

-- a value of one token that begins with an apostrophe is a text
text_kind : (bytes : List ℕ) (at b end : ℕ) (h : IsValueThere bytes at end) → BeginsToken bytes at b → b ≡ 39 → h.0 ≡ tokens.Words
text_kind bytes at b end h k e =
    let t = token_of h.0 at end in
    let front = front_spelled bytes at 39 t (subst (λ (x : ℕ). BeginsToken bytes at x) e k) h.2.0 in
    let spells : Spells h.0 (slice_range bytes at end) = h.2.0.2.spelled in
    let told : kind_by 39 ≡ Some h.0 = kind_told h.0 39 front.0 (subst (λ (xs : List ℕ). Spells h.0 xs) front.1 spells) in
    let is : Some tokens.Words ≡ Some h.0 = told in
    cc

pub words_there : (bytes : List ℕ) (at b end : ℕ) (v : Value21) → IsValueThere bytes at end → BeginsToken bytes at b → b ≡ 39 → Stands bytes at v
    → Some (inner (slice_range bytes at end)) ≡ words_of v
words_there bytes at b end v h k e s =
    let t = token_of h.0 at end in
    words_here bytes t (text_kind bytes at b end h k e) ∙ words_by bytes t v (begun bytes at t v h.2.0 s).0

pub words_long : (bytes : List ℕ) (at b end : ℕ) → IsValueThere bytes at end → BeginsToken bytes at b → b ≡ 39 → 2 ≤ length (slice_range bytes at end)
words_long bytes at b end h k e = words_two h.0 (slice_range bytes at end) ∣ h.2.0.2.spelled ∣₁ (text_kind bytes at b end h k e)

-- the first byte says whether it is a text
text_here : (bytes : List ℕ) (at b : ℕ) (v : Value21) → BeginsToken bytes at b → b ≡ 39 → Stands bytes at v → true ≡ is_some (words_of v)
text_here bytes at b v h e s =
    let r = right_there bytes at b v h s in
    let t = r.token in
    let told : Some tokens.Words ≡ Some t.kind = sym (ap kind_by e) ∙ kind_told t.kind b r.tail r.spells in
    let same : t.kind ≡ tokens.Words = cc in
    ap (λ (o : Option (List ℕ)). is_some o) (words_here bytes t same ∙ words_by bytes t v r.begins)

other_byte : (b : ℕ) → (b == 39) ≡ false → b ≡ 39 → ⊥
other_byte b k e = let g = rw e at k in cc

pub text_told : (bytes : List ℕ) (at b : ℕ) (v : Value21) → BeginsToken bytes at b → Stands bytes at v → (b == 39) ≡ is_some (words_of v)
text_told bytes at b v h s = elim (cases_Bool (b == 39)) [
  | inl k ↦ k ∙ text_here bytes at b v h (eqb-true b 39 k) s
  | inr k ↦ k ∙ ap (λ (o : Option (List ℕ)). is_some o) (no_words_there bytes at b v h (other_byte b k) s)
]

-- it ends after its beginning, within the bytes
pub one_order : (bytes : List ℕ) (at end : ℕ) → IsValueThere bytes at end → at < end
one_order bytes at end h = h.2.0.1

pub one_within : (bytes : List ℕ) (at end : ℕ) → IsValueThere bytes at end → end ≤ length bytes
one_within bytes at end h = h.2.1

-- Lists.

opening_byte : (b : ℕ) → kind_of (class_of (single_says b)) ≡ kinds.Open → b ≡ 40
opening_byte b h = elim (cases_Bool (b == 40)) [
  | inl k ↦ eqb-true b 40 k
  | inr k ↦
      elim (cases_Bool (b == 41)) [
        | inl l ↦ (let g = rw (k, l) at h in cc)
        | inr l ↦
            elim (cases_Bool (b == 44)) [
              | inl m ↦ (let g = rw (k, l, m) at h in cc)
              | inr m ↦
                  elim (cases_Bool (b == 59)) [
                    | inl n ↦ (let g = rw (k, l, m, n) at h in cc)
                    | inr n ↦
                        elim (cases_Bool (b == 61)) [
                          | inl o ↦ (let g = rw (k, l, m, n, o) at h in cc)
                          | inr o ↦ elim (cases_Bool (b == 42)) [ inl p ↦ (let g = rw (k, l, m, n, o, p) at h in cc) | inr p ↦ (let g = rw (k, l, m, n, o, p) at h in cc) ]
                        ]
                  ]
            ]
      ]
]

opening_said : (k : TokenKind) (b : ℕ) (tail : List ℕ) → kind_of (class_of (says k (b ∷ tail))) ≡ kinds.Open → b ≡ 40
opening_said tokens.Single b tail h = opening_byte b h
opening_said k b tail h = cc

-- where the byte is no opening parenthesis
pub no_items_there : (bytes : List ℕ) (at b : ℕ) (v : Value21) → BeginsToken bytes at b → (b ≡ 40 → ⊥) → Stands bytes at v → items_of v ≡ None
no_items_there bytes at b v h n s =
    let r = right_there bytes at b v h s in
    let t = r.token in
    not_inside bytes t v r.begins (λ k. n (opening_said t.kind b r.tail (ap (λ (xs : List ℕ). kind_of (class_of (says t.kind xs))) (sym r.spelled) ∙ k)))

-- where it is one
pub items_there : (bytes : List ℕ) (at b : ℕ) (v : Value21) → BeginsToken bytes at b → b ≡ 40 → Stands bytes at v → (vs : List Value21) × (items_of v ≡ Some vs) × StandInside bytes (at + 1) vs
items_there bytes at b v h e s =
    let t = sign_token at in
    let sign : IsByteAt bytes at 40 = (h.0, h.1 ∙ e) in
    inside_by bytes t v (begun bytes at t v (cuts_open bytes at sign) s).0 (ap (λ (l : Lexeme). kind_of (class_of l)) (says_sign bytes at 40 sign))

-- Values of one token.

-- it is no parenthesis, and no keyword
abbrev IsPlain : Lexeme → Type 0
IsPlain l = (kind_of (class_of l) ≡ kinds.Close → ⊥) × (kind_of (class_of l) ≡ kinds.Open → ⊥) × (kind_of (class_of l) ≡ kinds.Word → ⊥)

plain_said : (k : TokenKind) (b : ℕ) (tail : List ℕ) → IsOneValue k b → IsPlain (says k (b ∷ tail))
plain_said tokens.Word b tail h = absurd h
plain_said tokens.Single b tail (inl e) = rw e ((λ k. cc), (λ k. cc), (λ k. cc))
plain_said tokens.Single b tail (inr e) = rw e ((λ k. cc), (λ k. cc), (λ k. cc))
plain_said tokens.Name b tail h = ((λ k. cc), (λ k. cc), (λ k. cc))
plain_said tokens.Number b tail h = ((λ k. cc), (λ k. cc), (λ k. cc))
plain_said tokens.Words b tail h = ((λ k. cc), (λ k. cc), (λ k. cc))
plain_said tokens.Enumeration b tail h = ((λ k. cc), (λ k. cc), (λ k. cc))
plain_said tokens.Bits b tail h = ((λ k. cc), (λ k. cc), (λ k. cc))

plain_there : (bytes : List ℕ) (at end : ℕ) (h : IsValueThere bytes at end) → IsPlain (lexeme_of bytes (token_of h.0 at end))
plain_there bytes at end h =
    let front = head_of bytes at end 0 h.2.0.1 h.2.1 in
    subst (λ (xs : List ℕ). IsPlain (says h.0 xs)) (sym front) (plain_said h.0 (get_or bytes at 0) (take (end - suc at) (drop (suc at) bytes)) h.1)

-- it is the first of those that stand there, and the others stand after it
leaves_one : (bytes : List ℕ) (at end after : ℕ) → IsValueThere bytes at end → ((vs : List Value21) → StandBehind bytes end vs → StandInside bytes after vs) → LeavesBehind bytes at after
leaves_one bytes at end after h next = λ vs k.
    let t = token_of h.0 at end in
    let plain = plain_there bytes at end h in
    let i = item_by bytes at t vs h.2.0 plain.0 k in
    let f = first_inside bytes at i.0 i.1 (subst (λ (xs : List Value21). StandInside bytes at xs) i.2 k) in
    let b = begun bytes at t i.0 h.2.0 f.0 in
    let ends : f.0.end ≡ end = sym (plain_end bytes t i.0 b.0 plain.1 plain.2 ∙ b.1) in
    (i.0, i.1, i.2, f.0, next i.1 (subst (λ (n : ℕ). StandBehind bytes n i.1) ends f.1))

pub leaves_some : (bytes : List ℕ) (at end : ℕ) (found : Option ℕ) → IsValueThere bytes at end → IfSome found (λ after. (vs : List Value21) → StandBehind bytes end vs → StandInside bytes after vs)
    → IfSome found (LeavesBehind bytes at)
leaves_some bytes at end None h next = tt
leaves_some bytes at end (Some after) h next = leaves_one bytes at end after h next
