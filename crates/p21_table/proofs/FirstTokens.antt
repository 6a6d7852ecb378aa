-- What a value says, by the first of the tokens that spell it, and where it ends.
use Rattle.std.proofs.Common.{◌≡◌, ℕ, ◌+◌, ◌-◌, ◌<◌, ◌==◌, Bool, true, false, inl, inr, List, [], ◌∷◌, ◌++◌, append_assoc, map, Option, Some, None, Ok, refl, sym, ap, subst, ◌∙◌, arith, slice_range}
use Rattle.std.proofs.lemmas.Bool.{cases_Bool}
use Rattle.p21_lexer.specs.declared.token.Token.{Token}
use Rattle.p21_lexer.specs.declared.token.TokenKind.{TokenKind}
use Rattle.p21_lexer.specs.declared.token.TokenKind.TheVariants as tokens
use Rattle.p21_lexer.specs.Cutting.{CutsFrom}
use Rattle.p21_values.specs.declared.fault.ReadFault.{ReadFault}
use Rattle.p21_values.specs.declared.piece.Kind.TheVariants as kinds
use Rattle.p21_values.specs.declared.value.Value21.{Value21}
use Rattle.p21_values.specs.declared.value.Value21.TheOpen.{Value21-F}
use Rattle.p21_values.specs.declared.value.Value21.TheOpen as layer
use Rattle.p21_values.specs.declared.value.Value21.TheViews.{out-Value21}
use Rattle.p21_values.specs.declared.value.Value21.TheFolds.{fold_out-Value21, map-Value21}
use Rattle.p21_values.specs.Values.{number_in, words_in, letters_in, enumeration_in, reference_in, absent_in, items_in, typed_in, typed_of, number_of, words_of, enumeration_of, is_enumeration, reference_of, is_absent, items_of}
use Rattle.p21_values.specs.Lexemes.{Lexeme, Absence, Derivation, Opening, Closing, Separator, Ending, Assigning, NumberOf, WordsOf, EnumerationOf, BitsOf, KeywordOf, ReferenceTo, lexeme_of, class_of, says, single_says, inner, Cuts}
use Rattle.p21_values.specs.Printing.{print, print_step, print_all, joined, behind}
use Rattle.p21_values.specs.TokenPieces.{NoToken, kind_of}
use Rattle.p21_values.specs.inner.Saying.{Content, Contents, Absent, Derived, Number, Words, Enumeration, Bits, Reference, Listed, Typed, nothing, and, content, contents}
use Rattle.p21_values.specs.Standing.{Stands, Begins, StandInside, StandBehind, Closes, depth_after}
use Rattle.p21_values.proofs.Tokens.{no_token}
use Rattle.p21_values.proofs.Tokens.{one_token}
use Rattle.p21_values.proofs.Spelled.{spell, spell_all, spell_behind, print_is, print_all_is}

-- The first token of a value.

abbrev first_of : Value21-F Value21 → Lexeme
first_of layer.Absent = Absence
first_of layer.Derived = Derivation
first_of (layer.Number bs) = NumberOf bs
first_of (layer.Words bs) = WordsOf bs
first_of (layer.Enumeration bs) = EnumerationOf bs
first_of (layer.Bits bs) = BitsOf bs
first_of (layer.Reference n) = ReferenceTo n
first_of (layer.List vs) = Opening
first_of (layer.Typed word v) = KeywordOf word

-- .. and the others
abbrev rest_of : Value21-F Value21 → List Lexeme
rest_of (layer.List vs) = joined (map print vs) ++ Closing ∷ []
rest_of (layer.Typed word v) = Opening ∷ (print v ++ Closing ∷ [])
rest_of _ = []

shape : (x : Value21-F Value21) → print_step (map-Value21 _ _ print x) ≡ first_of x ∷ rest_of x
shape layer.Absent = refl
shape layer.Derived = refl
shape (layer.Number bs) = refl
shape (layer.Words bs) = refl
shape (layer.Enumeration bs) = refl
shape (layer.Bits bs) = refl
shape (layer.Reference n) = refl
shape (layer.List vs) = refl
shape (layer.Typed word v) = refl

pub shaped : (v : Value21) → print v ≡ first_of (out-Value21 v) ∷ rest_of (out-Value21 v)
shaped v = fold_out-Value21 (List Lexeme) print_step v ∙ shape (out-Value21 v)

no_lexeme : (l : Lexeme) (ls rest : List Lexeme) → ls ≡ l ∷ rest → ls ≡ [] → ⊥
no_lexeme l ls rest e n = let k : l ∷ rest ≡ [] = sym e ∙ n in cc

-- a value is a token at least
pub some_token : (v : Value21) → print v ≡ [] → ⊥
some_token v e = no_lexeme (first_of (out-Value21 v)) (print v) (rest_of (out-Value21 v)) (shaped v) e

first_same : (a b : Lexeme) (x y : List Lexeme) → a ∷ x ≡ b ∷ y → a ≡ b
first_same a b x y e = cc

rest_same : (a b : Lexeme) (x y : List Lexeme) → a ∷ x ≡ b ∷ y → x ≡ y
rest_same a b x y e = cc

first_said : (bytes : List ℕ) (t : Token) (v : Value21) → Begins bytes t v → first_of (out-Value21 v) ≡ lexeme_of bytes t
first_said bytes t v b = first_same (first_of (out-Value21 v)) (lexeme_of bytes t) (rest_of (out-Value21 v)) b.rest (sym (shaped v) ∙ b.spelled)

rest_said : (bytes : List ℕ) (t : Token) (v : Value21) (b : Begins bytes t v) → rest_of (out-Value21 v) ≡ b.rest
rest_said bytes t v b = rest_same (first_of (out-Value21 v)) (lexeme_of bytes t) (rest_of (out-Value21 v)) b.rest (sym (shaped v) ∙ b.spelled)

-- What it tells.

abbrev pub number_said : Lexeme → Option (List ℕ)
number_said (NumberOf bs) = Some bs
number_said _ = None

abbrev pub words_said : Lexeme → Option (List ℕ)
words_said (WordsOf bs) = Some bs
words_said _ = None

abbrev pub letters_said : Lexeme → Option (List ℕ)
letters_said (EnumerationOf bs) = Some bs
letters_said _ = None

abbrev pub enumeration_said : Lexeme → Bool
enumeration_said (EnumerationOf bs) = true
enumeration_said _ = false

abbrev pub reference_said : Lexeme → Option ℕ
reference_said (ReferenceTo n) = Some n
reference_said _ = None

abbrev pub absent_said : Lexeme → Bool
absent_said Absence = true
absent_said Derivation = true
absent_said _ = false

number_first : (x : Value21-F Value21) → number_in x ≡ number_said (first_of x)
number_first layer.Absent = refl
number_first layer.Derived = refl
number_first (layer.Number bs) = refl
number_first (layer.Words bs) = refl
number_first (layer.Enumeration bs) = refl
number_first (layer.Bits bs) = refl
number_first (layer.Reference n) = refl
number_first (layer.List vs) = refl
number_first (layer.Typed word v) = refl

words_first : (x : Value21-F Value21) → words_in x ≡ words_said (first_of x)
words_first layer.Absent = refl
words_first layer.Derived = refl
words_first (layer.Number bs) = refl
words_first (layer.Words bs) = refl
words_first (layer.Enumeration bs) = refl
words_first (layer.Bits bs) = refl
words_first (layer.Reference n) = refl
words_first (layer.List vs) = refl
words_first (layer.Typed word v) = refl

letters_first : (x : Value21-F Value21) → letters_in x ≡ letters_said (first_of x)
letters_first layer.Absent = refl
letters_first layer.Derived = refl
letters_first (layer.Number bs) = refl
letters_first (layer.Words bs) = refl
letters_first (layer.Enumeration bs) = refl
letters_first (layer.Bits bs) = refl
letters_first (layer.Reference n) = refl
letters_first (layer.List vs) = refl
letters_first (layer.Typed word v) = refl

enumeration_first : (x : Value21-F Value21) → enumeration_in x ≡ enumeration_said (first_of x)
enumeration_first layer.Absent = refl
enumeration_first layer.Derived = refl
enumeration_first (layer.Number bs) = refl
enumeration_first (layer.Words bs) = refl
enumeration_first (layer.Enumeration bs) = refl
enumeration_first (layer.Bits bs) = refl
enumeration_first (layer.Reference n) = refl
enumeration_first (layer.List vs) = refl
enumeration_first (layer.Typed word v) = refl

reference_first : (x : Value21-F Value21) → reference_in x ≡ reference_said (first_of x)
reference_first layer.Absent = refl
reference_first layer.Derived = refl
reference_first (layer.Number bs) = refl
reference_first (layer.Words bs) = refl
reference_first (layer.Enumeration bs) = refl
reference_first (layer.Bits bs) = refl
reference_first (layer.Reference n) = refl
reference_first (layer.List vs) = refl
reference_first (layer.Typed word v) = refl

absent_first : (x : Value21-F Value21) → absent_in x ≡ absent_said (first_of x)
absent_first layer.Absent = refl
absent_first layer.Derived = refl
absent_first (layer.Number bs) = refl
absent_first (layer.Words bs) = refl
absent_first (layer.Enumeration bs) = refl
absent_first (layer.Bits bs) = refl
absent_first (layer.Reference n) = refl
absent_first (layer.List vs) = refl
absent_first (layer.Typed word v) = refl

pub number_by : (bytes : List ℕ) (t : Token) (v : Value21) → Begins bytes t v → number_said (lexeme_of bytes t) ≡ number_of v
number_by bytes t v b = sym (number_first (out-Value21 v) ∙ ap number_said (first_said bytes t v b))

pub words_by : (bytes : List ℕ) (t : Token) (v : Value21) → Begins bytes t v → words_said (lexeme_of bytes t) ≡ words_of v
words_by bytes t v b = sym (words_first (out-Value21 v) ∙ ap words_said (first_said bytes t v b))

pub letters_by : (bytes : List ℕ) (t : Token) (v : Value21) → Begins bytes t v → letters_said (lexeme_of bytes t) ≡ enumeration_of v
letters_by bytes t v b = sym (letters_first (out-Value21 v) ∙ ap letters_said (first_said bytes t v b))

pub reference_by : (bytes : List ℕ) (t : Token) (v : Value21) → Begins bytes t v → reference_said (lexeme_of bytes t) ≡ reference_of v
reference_by bytes t v b = sym (reference_first (out-Value21 v) ∙ ap reference_said (first_said bytes t v b))

pub enumeration_by : (bytes : List ℕ) (t : Token) (v : Value21) → Begins bytes t v → enumeration_said (lexeme_of bytes t) ≡ is_enumeration v
enumeration_by bytes t v b = sym (enumeration_first (out-Value21 v) ∙ ap enumeration_said (first_said bytes t v b))

pub absent_by : (bytes : List ℕ) (t : Token) (v : Value21) → Begins bytes t v → absent_said (lexeme_of bytes t) ≡ is_absent v
absent_by bytes t v b = sym (absent_first (out-Value21 v) ∙ ap absent_said (first_said bytes t v b))

-- What a byte says that stands alone.

single_case : (P : Lexeme → Type 0) (b : ℕ) → P Opening → P Closing → P Separator → P Ending → P Assigning → P Derivation → P Absence → P (single_says b)
single_case P b opening closing separator ending assigning derivation absence = elim (cases_Bool (b == 40)) [
  | inl k ↦ rw k opening
  | inr k ↦
      elim (cases_Bool (b == 41)) [
        | inl l ↦ rw (k, l) closing
        | inr l ↦
            elim (cases_Bool (b == 44)) [
              | inl m ↦ rw (k, l, m) separator
              | inr m ↦
                  elim (cases_Bool (b == 59)) [
                    | inl n ↦ rw (k, l, m, n) ending
                    | inr n ↦
                        elim (cases_Bool (b == 61)) [
                          | inl o ↦ rw (k, l, m, n, o) assigning
                          | inr o ↦ elim (cases_Bool (b == 42)) [ inl p ↦ rw (k, l, m, n, o, p) derivation | inr p ↦ rw (k, l, m, n, o, p) absence ]
                        ]
                  ]
            ]
      ]
]

-- what a token of a kind says, and what it doesn't

pub number_here : (bytes : List ℕ) (t : Token) → t.kind ≡ tokens.Number → Some (slice_range bytes t.start t.end) ≡ number_said (lexeme_of bytes t)
number_here bytes t e = ap (λ (k : TokenKind). number_said (says k (slice_range bytes t.start t.end))) (sym e)

pub words_here : (bytes : List ℕ) (t : Token) → t.kind ≡ tokens.Words → Some (inner (slice_range bytes t.start t.end)) ≡ words_said (lexeme_of bytes t)
words_here bytes t e = ap (λ (k : TokenKind). words_said (says k (slice_range bytes t.start t.end))) (sym e)

pub letters_here : (bytes : List ℕ) (t : Token) → t.kind ≡ tokens.Enumeration → Some (inner (slice_range bytes t.start t.end)) ≡ letters_said (lexeme_of bytes t)
letters_here bytes t e = ap (λ (k : TokenKind). letters_said (says k (slice_range bytes t.start t.end))) (sym e)

pub no_number : (k : TokenKind) (bs : List ℕ) → (k ≡ tokens.Number → ⊥) → None ≡ number_said (says k bs)
no_number tokens.Number bs n = absurd (n refl)
no_number tokens.Single [] n = refl
no_number tokens.Single (b ∷ bs) n = single_case (λ l. None ≡ number_said l) b refl refl refl refl refl refl refl
no_number k bs n = refl

pub no_words : (k : TokenKind) (bs : List ℕ) → (k ≡ tokens.Words → ⊥) → None ≡ words_said (says k bs)
no_words tokens.Words bs n = absurd (n refl)
no_words tokens.Single [] n = refl
no_words tokens.Single (b ∷ bs) n = single_case (λ l. None ≡ words_said l) b refl refl refl refl refl refl refl
no_words k bs n = refl

pub no_letters : (k : TokenKind) (bs : List ℕ) → (k ≡ tokens.Enumeration → ⊥) → None ≡ letters_said (says k bs)
no_letters tokens.Enumeration bs n = absurd (n refl)
no_letters tokens.Single [] n = refl
no_letters tokens.Single (b ∷ bs) n = single_case (λ l. None ≡ letters_said l) b refl refl refl refl refl refl refl
no_letters k bs n = refl

pub enumeration_here : (k : TokenKind) (bs : List ℕ) → k ≡ tokens.Enumeration → true ≡ enumeration_said (says k bs)
enumeration_here tokens.Enumeration bs e = refl
enumeration_here k bs e = cc

pub no_enumeration : (k : TokenKind) (bs : List ℕ) → (k ≡ tokens.Enumeration → ⊥) → false ≡ enumeration_said (says k bs)
no_enumeration tokens.Enumeration bs n = absurd (n refl)
no_enumeration tokens.Single [] n = refl
no_enumeration tokens.Single (b ∷ bs) n = single_case (λ l. false ≡ enumeration_said l) b refl refl refl refl refl refl refl
no_enumeration k bs n = refl

-- what isn't a name, and what is no value

pub no_reference : (l : Lexeme) → (kind_of (class_of l) ≡ kinds.Name → ⊥) → None ≡ reference_said l
no_reference (ReferenceTo n) h = absurd (h refl)
no_reference l h = refl

pub absent_one : (k : TokenKind) (bs : List ℕ) → k ≡ tokens.Single → kind_of (class_of (says k bs)) ≡ kinds.Simple → true ≡ absent_said (says k bs)
absent_one tokens.Single [] e h = refl
absent_one tokens.Single (b ∷ bs) e h =
    single_case (λ l. kind_of (class_of l) ≡ kinds.Simple → true ≡ absent_said l) b (λ g. cc) (λ g. cc) (λ g. cc) (λ g. cc) (λ g. cc) (λ g. refl) (λ g. refl) h
absent_one k bs e h = cc

pub no_absent : (k : TokenKind) (bs : List ℕ) → (k ≡ tokens.Single → kind_of (class_of (says k bs)) ≡ kinds.Simple → ⊥) → false ≡ absent_said (says k bs)
no_absent tokens.Single [] n = absurd (n refl refl)
no_absent tokens.Single (b ∷ bs) n =
    single_case (λ l. (kind_of (class_of l) ≡ kinds.Simple → ⊥) → false ≡ absent_said l) b (λ g. refl) (λ g. refl) (λ g. refl) (λ g. refl) (λ g. refl) (λ g. absurd (g refl)) (λ g. absurd (g refl)) (n refl)
no_absent k bs n = refl

-- Lists.

opened : (l : Lexeme) → kind_of (class_of l) ≡ kinds.Open → l ≡ Opening
opened Opening h = refl
opened l h = cc

items_inside : (x : Value21-F Value21) → first_of x ≡ Opening → (vs : List Value21) × (items_in x ≡ Some vs) × (rest_of x ≡ print_all vs ++ Closing ∷ [])
items_inside (layer.List vs) e = (vs, refl, refl)
items_inside layer.Absent e = cc
items_inside layer.Derived e = cc
items_inside (layer.Number bs) e = cc
items_inside (layer.Words bs) e = cc
items_inside (layer.Enumeration bs) e = cc
items_inside (layer.Bits bs) e = cc
items_inside (layer.Reference n) e = cc
items_inside (layer.Typed word v) e = cc

no_items : (x : Value21-F Value21) → (first_of x ≡ Opening → ⊥) → items_in x ≡ None
no_items (layer.List vs) n = absurd (n refl)
no_items layer.Absent n = refl
no_items layer.Derived n = refl
no_items (layer.Number bs) n = refl
no_items (layer.Words bs) n = refl
no_items (layer.Enumeration bs) n = refl
no_items (layer.Bits bs) n = refl
no_items (layer.Reference n) m = refl
no_items (layer.Typed word v) n = refl

pub inside_by : (bytes : List ℕ) (t : Token) (v : Value21) → Begins bytes t v → kind_of (class_of (lexeme_of bytes t)) ≡ kinds.Open
    → (vs : List Value21) × (items_of v ≡ Some vs) × StandInside bytes t.end vs
inside_by bytes t v b k =
    let i = items_inside (out-Value21 v) (first_said bytes t v b ∙ opened (lexeme_of bytes t) k) in
    (i.0, i.1, (b.end, subst (λ (ls : List Lexeme). Cuts bytes t.end ls b.end) (sym (rest_said bytes t v b) ∙ i.2) b.cuts))

pub not_inside : (bytes : List ℕ) (t : Token) (v : Value21) → Begins bytes t v → (kind_of (class_of (lexeme_of bytes t)) ≡ kinds.Open → ⊥) → items_of v ≡ None
not_inside bytes t v b n = no_items (out-Value21 v) (λ e. n (ap (λ (l : Lexeme). kind_of (class_of l)) (sym (first_said bytes t v b) ∙ e)))

-- The first token of what stands there.

pub begun : (bytes : List ℕ) (at : ℕ) (t : Token) (v : Value21) → CutsFrom bytes at (Ok (Some t)) → (s : Stands bytes at v) → (b : Begins bytes t v) × (b.end ≡ s.end)
begun bytes at t v c s =
    let k : Cuts bytes at (first_of (out-Value21 v) ∷ rest_of (out-Value21 v)) s.end = subst (λ (ls : List Lexeme). Cuts bytes at ls s.end) (shaped v) s.cuts in
    let e : k.0 ≡ t = one_token bytes at k.0 t k.1 c in
    let says : first_of (out-Value21 v) ≡ lexeme_of bytes t = sym k.2 ∙ ap (λ (x : Token). lexeme_of bytes x) e in (
      record {
        rest = rest_of (out-Value21 v);
        end = s.end;
        spelled = shaped v ∙ ap (λ (l : Lexeme). l ∷ rest_of (out-Value21 v)) says;
        cuts = subst (λ (x : Token). Cuts bytes x.end (rest_of (out-Value21 v)) s.end) e k.3;
      },
      refl,
    )

-- a value that stands there has one
pub first_cut : (bytes : List ℕ) (at : ℕ) (v : Value21) → Stands bytes at v → (t : Token) × CutsFrom bytes at (Ok (Some t))
first_cut bytes at v s =
    let k : Cuts bytes at (first_of (out-Value21 v) ∷ rest_of (out-Value21 v)) s.end = subst (λ (ls : List Lexeme). Cuts bytes at ls s.end) (shaped v) s.cuts in
    (k.0, k.1)

pub never_stands : {A : Type 0} (bytes : List ℕ) (at : ℕ) (f : ReadFault) (v : Value21) → NoToken bytes at f → Stands bytes at v → A
never_stands bytes at f v missing s =
    let k : Cuts bytes at (first_of (out-Value21 v) ∷ rest_of (out-Value21 v)) s.end = subst (λ (ls : List Lexeme). Cuts bytes at ls s.end) (shaped v) s.cuts in
    absurd (no_token bytes at f missing k.0 k.1)

-- Values between commas.

parted : (bytes : List ℕ) (at end : ℕ) (ls ms : List Lexeme) → Cuts bytes at (ls ++ ms) end → (mid : ℕ) × Cuts bytes at ls mid × Cuts bytes mid ms end
parted bytes at end [] ms h = (at, refl, h)
parted bytes at end (l ∷ ls) ms h = let r = parted bytes h.0.end end ls ms h.3 in (r.0, (h.0, h.1, h.2, r.1), r.2)

-- the first of them, and what stands behind it
pub first_inside : (bytes : List ℕ) (at : ℕ) (v : Value21) (vs : List Value21) → StandInside bytes at (v ∷ vs) → (s : Stands bytes at v) × StandBehind bytes s.end vs
first_inside bytes at v vs h =
    let whole = subst (λ (ls : List Lexeme). Cuts bytes at ls h.0) (append_assoc (print v) (behind (map print vs)) (Closing ∷ [])) h.1 in
    let p = parted bytes at h.0 (print v) (behind (map print vs) ++ Closing ∷ []) whole in
    (record { end = p.0; cuts = p.1 }, (h.0, p.2))

no_closing : (x : Value21-F Value21) → (kind_of (class_of (first_of x)) ≡ kinds.Close → ⊥)
no_closing layer.Absent h = cc
no_closing layer.Derived h = cc
no_closing (layer.Number bs) h = cc
no_closing (layer.Words bs) h = cc
no_closing (layer.Enumeration bs) h = cc
no_closing (layer.Bits bs) h = cc
no_closing (layer.Reference n) h = cc
no_closing (layer.List vs) h = cc
no_closing (layer.Typed word v) h = cc

-- a closing parenthesis begins no value
pub none_closing : {A : Type 0} (bytes : List ℕ) (at : ℕ) (t : Token) (v : Value21) (vs : List Value21) → CutsFrom bytes at (Ok (Some t)) → kind_of (class_of (lexeme_of bytes t)) ≡ kinds.Close → StandInside bytes at (v ∷ vs) → A
none_closing bytes at t v vs c k h =
    let b = (begun bytes at t v c (first_inside bytes at v vs h).0).0 in
    absurd (no_closing (out-Value21 v) (ap (λ (l : Lexeme). kind_of (class_of l)) (first_said bytes t v b) ∙ k))

pub all_closed : (bytes : List ℕ) (at : ℕ) (t : Token) (vs : List Value21) → CutsFrom bytes at (Ok (Some t)) → kind_of (class_of (lexeme_of bytes t)) ≡ kinds.Close → StandInside bytes at vs → vs ≡ []
all_closed bytes at t [] c k h = refl
all_closed bytes at t (v ∷ vs) c k h = none_closing bytes at t v vs c k h

-- where the list hasn't ended, the first of them begins with that token
pub item_by : (bytes : List ℕ) (at : ℕ) (t : Token) (vs : List Value21) → CutsFrom bytes at (Ok (Some t)) → (kind_of (class_of (lexeme_of bytes t)) ≡ kinds.Close → ⊥) → StandInside bytes at vs
    → (v : Value21) × (others : List Value21) × (vs ≡ v ∷ others) × Begins bytes t v
item_by bytes at t [] c n h =
    let e : h.1.0 ≡ t = one_token bytes at h.1.0 t h.1.1 c in
    absurd (n (ap (λ (x : Token). kind_of (class_of (lexeme_of bytes x))) (sym e) ∙ ap (λ (l : Lexeme). kind_of (class_of l)) h.1.2))
item_by bytes at t (v ∷ vs) c n h = (v, vs, refl, (begun bytes at t v c (first_inside bytes at v vs h).0).0)

pub never_inside : {A : Type 0} (bytes : List ℕ) (at : ℕ) (f : ReadFault) (vs : List Value21) → NoToken bytes at f → StandInside bytes at vs → A
never_inside bytes at f [] missing h = absurd (no_token bytes at f missing h.1.0 h.1.1)
never_inside bytes at f (v ∷ vs) missing h = never_stands bytes at f v missing (first_inside bytes at v vs h).0

-- what stands behind a value, by its first token

comma_next : (bytes : List ℕ) (at : ℕ) (t : Token) (vs : List Value21) → CutsFrom bytes at (Ok (Some t)) → lexeme_of bytes t ≡ Separator → StandBehind bytes at vs → StandInside bytes t.end vs
comma_next bytes at t [] c k h =
    let e : h.1.0 ≡ t = one_token bytes at h.1.0 t h.1.1 c in
    absurd (let f : Closing ≡ Separator = sym h.1.2 ∙ ap (λ (x : Token). lexeme_of bytes x) e ∙ k in cc)
comma_next bytes at t (v ∷ vs) c k h =
    let e : h.1.0 ≡ t = one_token bytes at h.1.0 t h.1.1 c in
    (h.0, subst (λ (x : Token). Cuts bytes x.end ((print v ++ behind (map print vs)) ++ Closing ∷ []) h.0) e h.1.3)

close_next : (bytes : List ℕ) (at : ℕ) (t : Token) (vs : List Value21) → CutsFrom bytes at (Ok (Some t)) → (lexeme_of bytes t ≡ Separator → ⊥) → StandBehind bytes at vs → StandInside bytes at vs
close_next bytes at t [] c n h = h
close_next bytes at t (v ∷ vs) c n h =
    let e : h.1.0 ≡ t = one_token bytes at h.1.0 t h.1.1 c in
    absurd (n (ap (λ (x : Token). lexeme_of bytes x) (sym e) ∙ h.1.2))

pub never_behind : {A : Type 0} (bytes : List ℕ) (at : ℕ) (f : ReadFault) (vs : List Value21) → NoToken bytes at f → StandBehind bytes at vs → A
never_behind bytes at f [] missing h = absurd (no_token bytes at f missing h.1.0 h.1.1)
never_behind bytes at f (v ∷ vs) missing h = absurd (no_token bytes at f missing h.1.0 h.1.1)

separated : (l : Lexeme) → kind_of (class_of l) ≡ kinds.Comma → l ≡ Separator
separated Separator h = refl
separated l h = cc

pub next_comma : (bytes : List ℕ) (at : ℕ) (t : Token) (vs : List Value21) → CutsFrom bytes at (Ok (Some t)) → kind_of (class_of (lexeme_of bytes t)) ≡ kinds.Comma → StandBehind bytes at vs → StandInside bytes t.end vs
next_comma bytes at t vs c k h = comma_next bytes at t vs c (separated (lexeme_of bytes t) k) h

pub next_close : (bytes : List ℕ) (at : ℕ) (t : Token) (vs : List Value21) → CutsFrom bytes at (Ok (Some t)) → (kind_of (class_of (lexeme_of bytes t)) ≡ kinds.Comma → ⊥) → StandBehind bytes at vs → StandInside bytes at vs
next_close bytes at t vs c n h = close_next bytes at t vs c (λ e. n (ap (λ (l : Lexeme). kind_of (class_of l)) e)) h

-- where the value ends is where what follows begins
pub behind_end : (bytes : List ℕ) (at : ℕ) (t : Token) (v : Value21) (vs : List Value21) (found : Option ℕ) → ((u : Value21) (b : Begins bytes t u) → found ≡ Some b.end)
    → CutsFrom bytes at (Ok (Some t)) → StandInside bytes at (v ∷ vs) → (end : ℕ) × (found ≡ Some end) × StandBehind bytes end vs
behind_end bytes at t v vs found ends c h =
    let f = first_inside bytes at v vs h in
    let b = begun bytes at t v c f.0 in
    (f.0.end, ends v b.0 ∙ ap (λ (n : ℕ). Some n) b.1, f.1)

-- The end of a value.

closing : (d : ℕ) (ls : List Lexeme) → Closes d ls → Closes (d + 1) (Closing ∷ ls)
closing d ls h = (omega arith, (let e : d ≡ d + 1 - 1 = omega arith in subst (λ (n : ℕ). Closes n ls) e h))

mutual
  value_closes : (v : Content) (d : ℕ) (ls : List Lexeme) → 0 < d → Closes d ls → Closes d (spell v ++ ls)
  value_closes (Listed vs) d ls p h =
      (p, subst (λ (ms : List Lexeme). Closes (d + 1) ms) (sym (append_assoc (spell_all vs) (Closing ∷ []) ls)) (all_closes vs (d + 1) (Closing ∷ ls) (omega arith) (closing d ls h)))
  value_closes (Typed word v) d ls p h =
      (p, (p, subst (λ (ms : List Lexeme). Closes (d + 1) ms) (sym (append_assoc (spell v) (Closing ∷ []) ls)) (value_closes v (d + 1) (Closing ∷ ls) (omega arith) (closing d ls h))))
  value_closes Absent d ls p h = (p, h)
  value_closes Derived d ls p h = (p, h)
  value_closes (Number bs) d ls p h = (p, h)
  value_closes (Words bs) d ls p h = (p, h)
  value_closes (Enumeration bs) d ls p h = (p, h)
  value_closes (Bits bs) d ls p h = (p, h)
  value_closes (Reference n) d ls p h = (p, h)

  all_closes : (vs : Contents) (d : ℕ) (ls : List Lexeme) → 0 < d → Closes d ls → Closes d (spell_all vs ++ ls)
  all_closes nothing d ls p h = h
  all_closes (and v vs) d ls p h =
      subst (λ (ms : List Lexeme). Closes d ms) (sym (append_assoc (spell v) (spell_behind vs) ls)) (value_closes v d (spell_behind vs ++ ls) p (behind_closes vs d ls p h))

  behind_closes : (vs : Contents) (d : ℕ) (ls : List Lexeme) → 0 < d → Closes d ls → Closes d (spell_behind vs ++ ls)
  behind_closes nothing d ls p h = h
  behind_closes (and v vs) d ls p h =
      (p, subst (λ (ms : List Lexeme). Closes d ms) (sym (append_assoc (spell v) (spell_behind vs) ls)) (value_closes v d (spell_behind vs ++ ls) p (behind_closes vs d ls p h)))

list_closes : (vs : List Value21) → Closes 1 (print_all vs ++ Closing ∷ [])
list_closes vs = subst (λ (ls : List Lexeme). Closes 1 (ls ++ Closing ∷ [])) (sym (print_all_is vs)) (all_closes (contents (map content vs)) 1 (Closing ∷ []) (omega arith) (closing 0 [] refl))

one_closes : (v : Value21) → Closes 1 (print v ++ Closing ∷ [])
one_closes v = subst (λ (ls : List Lexeme). Closes 1 (ls ++ Closing ∷ [])) (sym (print_is v)) (value_closes (content v) 1 (Closing ∷ []) (omega arith) (closing 0 [] refl))

-- of a list
pub list_end : (bytes : List ℕ) (t : Token) (v : Value21) (b : Begins bytes t v) → kind_of (class_of (lexeme_of bytes t)) ≡ kinds.Open → Closes 1 b.rest
list_end bytes t v b k =
    let i = items_inside (out-Value21 v) (first_said bytes t v b ∙ opened (lexeme_of bytes t) k) in
    subst (λ (ls : List Lexeme). Closes 1 ls) (sym i.2 ∙ rest_said bytes t v b) (list_closes i.0)

typed_rest : (x : Value21-F Value21) → kind_of (class_of (first_of x)) ≡ kinds.Word → (v : Value21) × (rest_of x ≡ Opening ∷ (print v ++ Closing ∷ []))
typed_rest (layer.Typed word v) k = (v, refl)
typed_rest layer.Absent k = cc
typed_rest layer.Derived k = cc
typed_rest (layer.Number bs) k = cc
typed_rest (layer.Words bs) k = cc
typed_rest (layer.Enumeration bs) k = cc
typed_rest (layer.Bits bs) k = cc
typed_rest (layer.Reference n) k = cc
typed_rest (layer.List vs) k = cc

-- of a typed value: after its opening parenthesis
pub typed_end : (bytes : List ℕ) (t : Token) (v : Value21) (b : Begins bytes t v) → kind_of (class_of (lexeme_of bytes t)) ≡ kinds.Word
    → (o : Token) × CutsFrom bytes t.end (Ok (Some o)) × (ls : List Lexeme) × Closes 1 ls × Cuts bytes o.end ls b.end
typed_end bytes t v b k =
    let r = typed_rest (out-Value21 v) (ap (λ (l : Lexeme). kind_of (class_of l)) (first_said bytes t v b) ∙ k) in
    let c : Cuts bytes t.end (Opening ∷ (print r.0 ++ Closing ∷ [])) b.end = subst (λ (ls : List Lexeme). Cuts bytes t.end ls b.end) (sym (rest_said bytes t v b) ∙ r.1) b.cuts in
    (c.0, c.1, print r.0 ++ Closing ∷ [], one_closes r.0, c.3)

-- The value that a typed value holds.

typed_held : (x : Value21-F Value21) → kind_of (class_of (first_of x)) ≡ kinds.Word → (v : Value21) × (typed_in x ≡ Some v) × (rest_of x ≡ Opening ∷ (print v ++ Closing ∷ []))
typed_held (layer.Typed word v) k = (v, refl, refl)
typed_held layer.Absent k = cc
typed_held layer.Derived k = cc
typed_held (layer.Number bs) k = cc
typed_held (layer.Words bs) k = cc
typed_held (layer.Enumeration bs) k = cc
typed_held (layer.Bits bs) k = cc
typed_held (layer.Reference n) k = cc
typed_held (layer.List vs) k = cc

none_held : (x : Value21-F Value21) → (kind_of (class_of (first_of x)) ≡ kinds.Word → ⊥) → typed_in x ≡ None
none_held (layer.Typed word v) n = absurd (n refl)
none_held layer.Absent n = refl
none_held layer.Derived n = refl
none_held (layer.Number bs) n = refl
none_held (layer.Words bs) n = refl
none_held (layer.Enumeration bs) n = refl
none_held (layer.Bits bs) n = refl
none_held (layer.Reference i) n = refl
none_held (layer.List vs) n = refl

-- it stands behind the opening parenthesis that the keyword has after it
pub typed_by : (bytes : List ℕ) (t o : Token) (v : Value21) → Begins bytes t v → kind_of (class_of (lexeme_of bytes t)) ≡ kinds.Word → CutsFrom bytes t.end (Ok (Some o))
    → (w : Value21) × (typed_of v ≡ Some w) × Stands bytes o.end w
typed_by bytes t o v b k cut =
    let r = typed_held (out-Value21 v) (ap (λ (l : Lexeme). kind_of (class_of l)) (first_said bytes t v b) ∙ k) in
    let c : Cuts bytes t.end (Opening ∷ (print r.0 ++ Closing ∷ [])) b.end = subst (λ (ls : List Lexeme). Cuts bytes t.end ls b.end) (sym (rest_said bytes t v b) ∙ r.2) b.cuts in
    let e : c.0 ≡ o = one_token bytes t.end c.0 o c.1 cut in
    let p = parted bytes o.end b.end (print r.0) (Closing ∷ []) (subst (λ (x : Token). Cuts bytes x.end (print r.0 ++ Closing ∷ []) b.end) e c.3) in
    (r.0, r.1, record { end = p.0; cuts = p.1 })

pub never_typed : {A : Type 0} (bytes : List ℕ) (t : Token) (f : ReadFault) (v : Value21) → Begins bytes t v → kind_of (class_of (lexeme_of bytes t)) ≡ kinds.Word → NoToken bytes t.end f → A
never_typed bytes t f v b k missing =
    let r = typed_held (out-Value21 v) (ap (λ (l : Lexeme). kind_of (class_of l)) (first_said bytes t v b) ∙ k) in
    let c : Cuts bytes t.end (Opening ∷ (print r.0 ++ Closing ∷ [])) b.end = subst (λ (ls : List Lexeme). Cuts bytes t.end ls b.end) (sym (rest_said bytes t v b) ∙ r.2) b.cuts in
    absurd (no_token bytes t.end f missing c.0 c.1)

pub not_typed : (bytes : List ℕ) (t : Token) (v : Value21) → Begins bytes t v → (kind_of (class_of (lexeme_of bytes t)) ≡ kinds.Word → ⊥) → typed_of v ≡ None
not_typed bytes t v b n = none_held (out-Value21 v) (λ e. n (ap (λ (l : Lexeme). kind_of (class_of l)) (sym (first_said bytes t v b)) ∙ e))

plain_rest : (x : Value21-F Value21) → (kind_of (class_of (first_of x)) ≡ kinds.Open → ⊥) → (kind_of (class_of (first_of x)) ≡ kinds.Word → ⊥) → rest_of x ≡ []
plain_rest (layer.List vs) n m = absurd (n refl)
plain_rest (layer.Typed word v) n m = absurd (m refl)
plain_rest layer.Absent n m = refl
plain_rest layer.Derived n m = refl
plain_rest (layer.Number bs) n m = refl
plain_rest (layer.Words bs) n m = refl
plain_rest (layer.Enumeration bs) n m = refl
plain_rest (layer.Bits bs) n m = refl
plain_rest (layer.Reference i) n m = refl

-- of one token
pub plain_end : (bytes : List ℕ) (t : Token) (v : Value21) (b : Begins bytes t v) → (kind_of (class_of (lexeme_of bytes t)) ≡ kinds.Open → ⊥) → (kind_of (class_of (lexeme_of bytes t)) ≡ kinds.Word → ⊥) → t.end ≡ b.end
plain_end bytes t v b n m =
    let same = ap (λ (l : Lexeme). kind_of (class_of l)) (sym (first_said bytes t v b)) in
    subst (λ (ls : List Lexeme). Cuts bytes t.end ls b.end) (sym (rest_said bytes t v b) ∙ plain_rest (out-Value21 v) (λ k. n (same ∙ k)) (λ k. m (same ∙ k))) b.cuts

-- one token more of those that close
pub closes_more : (bytes : List ℕ) (at end depth : ℕ) (t : Token) (ls : List Lexeme) → 0 < depth → CutsFrom bytes at (Ok (Some t)) → Closes depth ls → Cuts bytes at ls end
    → (ms : List Lexeme) × Closes (depth_after (kind_of (class_of (lexeme_of bytes t))) depth) ms × Cuts bytes t.end ms end
closes_more bytes at end depth t [] some c h k = absurd (omega (arith, h, some))
closes_more bytes at end depth t (l ∷ ls) some c h k =
    let e : k.0 ≡ t = one_token bytes at k.0 t k.1 c in
    let says : l ≡ lexeme_of bytes t = sym k.2 ∙ ap (λ (x : Token). lexeme_of bytes x) e in
    (ls, subst (λ (m : Lexeme). Closes (depth_after (kind_of (class_of m)) depth) ls) says h.1, subst (λ (x : Token). Cuts bytes x.end ls end) e k.3)

-- where none is open they have ended
pub closes_end : (bytes : List ℕ) (at end : ℕ) (ls : List Lexeme) → Closes 0 ls → Cuts bytes at ls end → at ≡ end
closes_end bytes at end [] h k = k
closes_end bytes at end (l ∷ ls) h k = absurd (let lt = h.0 in omega (arith, lt))

pub closes_missing : {A : Type 0} (bytes : List ℕ) (at end depth : ℕ) (f : ReadFault) (ls : List Lexeme) → 0 < depth → NoToken bytes at f → Closes depth ls → Cuts bytes at ls end → A
closes_missing bytes at end depth f [] some missing h k = absurd (omega (arith, h, some))
closes_missing bytes at end depth f (l ∷ ls) some missing h k = absurd (no_token bytes at f missing k.0 k.1)
