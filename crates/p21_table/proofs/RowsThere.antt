-- A row of three short numbers is a value where it stands in a list.
use Rattle.std.proofs.Common.{◌≡◌, ℕ, ◌+◌, ◌<◌, List, [], ◌∷◌, ◌++◌, length, get_or, refl, sym, ap, subst, ◌∙◌, arith, Some, Ok}
use Rattle.std.specs.Prelude.{slice_range}
use Rattle.std.specs.Coded.{codes}
use base.Stored.{Coded-set}
use mathlib.Core.Logic.{∥∥₁_elim, ∥∥₁_prop}
use Rattle.p21_lexer.specs.declared.token.Token.{Token}
use Rattle.p21_lexer.specs.declared.token.TokenKind.TheVariants as tokens
use Rattle.p21_lexer.specs.Cutting.{CutsFrom}
use Rattle.p21_values.specs.contracts.value.Value21 as row
use Rattle.p21_values.specs.declared.piece.Kind.TheVariants as kinds
use Rattle.p21_values.specs.declared.value.Value21.{Value21}
use Rattle.p21_values.specs.declared.value.Value21.TheOpen.{Value21-F}
use Rattle.p21_values.specs.declared.value.Value21.TheOpen as layer
use Rattle.p21_values.specs.declared.value.Value21.TheViews.{roll-Value21}
use Rattle.p21_values.specs.declared.value.Value21.TheFolds.{fold-roll-Value21, map-Value21}
use Rattle.p21_values.specs.Lexemes.{Lexeme, Opening, Closing, Separator, NumberOf, lexeme_of, class_of, single_says, Cuts}
use Rattle.p21_values.specs.TokenPieces.{kind_of}
use Rattle.p21_values.specs.Printing.{print, print_all, print_step}
use Rattle.p21_values.specs.Values.{items_of}
use Rattle.p21_values.specs.Standing.{Begins, StandInside, StandBehind}
use Rattle.p21_values.proofs.Tokens.{one_token}
use Rattle.p21_values.proofs.Seen.{alone_says}
use Rattle.p21_values.proofs.SignsThere.{sign_cut}
use Rattle.p21_values.proofs.Stood.{stands_once, inside_once}
use Rattle.bim_text.specs.declared.short.Short.{Short}
use Rattle.bim_text.specs.declared.short.ShortRow.{ShortRow}
use Rattle.bim_text.specs.Short.{IsByteAt, IsShortAt, IsRowAt, number_token}
use Rattle.p21_table.specs.ShortRows.{SaysShort, SaysRow}
use Rattle.p21_table.proofs.FirstTokens.{item_by, first_inside, next_comma, next_close, number_by, inside_by}

-- The tokens of a row.

abbrev pub sign_token : ℕ → Token
sign_token at = record { kind = tokens.Single; start = at; end = at + 1 }

pub says_sign : (bytes : List ℕ) (at b : ℕ) → IsByteAt bytes at b → lexeme_of bytes (sign_token at) ≡ single_says b
says_sign bytes at b h = let lt = h.0 in alone_says bytes at (at + 1) 0 (omega arith) (omega (arith, lt)) ∙ ap single_says h.1

pub cuts_open : (bytes : List ℕ) (at : ℕ) → IsByteAt bytes at 40 → CutsFrom bytes at (Ok (Some (sign_token at)))
cuts_open bytes at h = sign_cut bytes at kinds.Open h.0 tt (ap (λ (b : ℕ). kind_of (class_of (single_says b))) (sym h.1))

cuts_close : (bytes : List ℕ) (at : ℕ) → IsByteAt bytes at 41 → CutsFrom bytes at (Ok (Some (sign_token at)))
cuts_close bytes at h = sign_cut bytes at kinds.Close h.0 tt (ap (λ (b : ℕ). kind_of (class_of (single_says b))) (sym h.1))

cuts_comma : (bytes : List ℕ) (at : ℕ) → IsByteAt bytes at 44 → CutsFrom bytes at (Ok (Some (sign_token at)))
cuts_comma bytes at h = sign_cut bytes at kinds.Comma h.0 tt (ap (λ (b : ℕ). kind_of (class_of (single_says b))) (sym h.1))

-- the number that stands between two places
abbrev pub number_value : List ℕ → ℕ → ℕ → Value21
number_value bytes from end = roll-Value21 (layer.Number (slice_range bytes from end))

-- the value of the row
abbrev pub row_value : List ℕ → ℕ → ShortRow → Value21
row_value bytes at r = roll-Value21 (layer.List (number_value bytes (at + 1) r.x.end ∷ number_value bytes (r.x.end + 1) r.y.end ∷ number_value bytes (r.y.end + 1) r.z.end ∷ []))

printed : (x : Value21-F Value21) → print (roll-Value21 x) ≡ print_step (map-Value21 _ _ print x)
printed x = fold-roll-Value21 (List Lexeme) print_step x

-- the tokens of three values in a list
three_printed : (x y z : Value21) (a b c : Lexeme) → print x ≡ a ∷ [] → print y ≡ b ∷ [] → print z ≡ c ∷ []
    → print (roll-Value21 (layer.List (x ∷ y ∷ z ∷ []))) ≡ Opening ∷ a ∷ Separator ∷ b ∷ Separator ∷ c ∷ Closing ∷ []
three_printed x y z a b c e f g = printed (layer.List (x ∷ y ∷ z ∷ [])) ∙ rw (e, f, g) refl

number_printed : (bytes : List ℕ) (from end : ℕ) → print (number_value bytes from end) ≡ NumberOf (slice_range bytes from end) ∷ []
number_printed bytes from end = printed (layer.Number (slice_range bytes from end))

row_printed : (bytes : List ℕ) (at : ℕ) (r : ShortRow) → print (row_value bytes at r)
    ≡ Opening ∷ NumberOf (slice_range bytes (at + 1) r.x.end) ∷ Separator ∷ NumberOf (slice_range bytes (r.x.end + 1) r.y.end) ∷ Separator ∷ NumberOf (slice_range bytes (r.y.end + 1) r.z.end) ∷ Closing ∷ []
row_printed bytes at r =
    three_printed (number_value bytes (at + 1) r.x.end) (number_value bytes (r.x.end + 1) r.y.end) (number_value bytes (r.y.end + 1) r.z.end) (NumberOf (slice_range bytes (at + 1) r.x.end))
    (NumberOf (slice_range bytes (r.x.end + 1) r.y.end)) (NumberOf (slice_range bytes (r.y.end + 1) r.z.end)) (number_printed bytes (at + 1) r.x.end) (number_printed bytes (r.x.end + 1) r.y.end) (number_printed bytes (r.y.end + 1) r.z.end)

abbrev rest_of_row : List ℕ → ℕ → ShortRow → List Lexeme
rest_of_row bytes at r = NumberOf (slice_range bytes (at + 1) r.x.end) ∷ Separator ∷ NumberOf (slice_range bytes (r.x.end + 1) r.y.end) ∷ Separator ∷ NumberOf (slice_range bytes (r.y.end + 1) r.z.end) ∷ Closing ∷ []

tokens_rest : (bytes : List ℕ) (at : ℕ) (r : ShortRow) → IsRowAt bytes at r → Cuts bytes (at + 1) (rest_of_row bytes at r) (r.z.end + 1)
tokens_rest bytes at r h =
    let end : ℕ = r.z.end + 1 in
    let close : Cuts bytes r.z.end (Closing ∷ []) end = (sign_token r.z.end, cuts_close bytes r.z.end h.closing, says_sign bytes r.z.end 41 h.closing, refl) in
    let third : Cuts bytes (r.y.end + 1) (NumberOf (slice_range bytes (r.y.end + 1) r.z.end) ∷ Closing ∷ []) end = (number_token (r.y.end + 1) r.z.end, h.z.cuts, refl, close) in
    let second : Cuts bytes r.y.end (Separator ∷ NumberOf (slice_range bytes (r.y.end + 1) r.z.end) ∷ Closing ∷ []) end = (sign_token r.y.end, cuts_comma bytes r.y.end h.second, says_sign bytes r.y.end 44 h.second, third) in
    let middle : Cuts bytes (r.x.end + 1) (NumberOf (slice_range bytes (r.x.end + 1) r.y.end) ∷ Separator ∷ NumberOf (slice_range bytes (r.y.end + 1) r.z.end) ∷ Closing ∷ []) end =
    (number_token (r.x.end + 1) r.y.end, h.y.cuts, refl, second) in
    let first : Cuts bytes r.x.end (Separator ∷ NumberOf (slice_range bytes (r.x.end + 1) r.y.end) ∷ Separator ∷ NumberOf (slice_range bytes (r.y.end + 1) r.z.end) ∷ Closing ∷ []) end =
    (sign_token r.x.end, cuts_comma bytes r.x.end h.first, says_sign bytes r.x.end 44 h.first, middle) in
    (number_token (at + 1) r.x.end, h.x.cuts, refl, first)

tokens_cut : (bytes : List ℕ) (at : ℕ) (r : ShortRow) → IsRowAt bytes at r → Cuts bytes at (Opening ∷ rest_of_row bytes at r) (r.z.end + 1)
tokens_cut bytes at r h = (sign_token at, cuts_open bytes at h.opening, says_sign bytes at 40 h.opening, tokens_rest bytes at r h)

row_cuts : (bytes : List ℕ) (at : ℕ) (r : ShortRow) → IsRowAt bytes at r → Cuts bytes at (print (row_value bytes at r)) (r.z.end + 1)
row_cuts bytes at r h = subst (λ (ls : List Lexeme). Cuts bytes at ls (r.z.end + 1)) (sym (row_printed bytes at r)) (tokens_cut bytes at r h)

-- tokens that are cut from a place on end at one
cuts_end : (bytes : List ℕ) (at end fin : ℕ) (ls : List Lexeme) → Cuts bytes at ls end → Cuts bytes at ls fin → end ≡ fin
cuts_end bytes at end fin [] h k = sym h ∙ k
cuts_end bytes at end fin (l ∷ ls) h k =
    let e : k.0 ≡ h.0 = one_token bytes at k.0 h.0 k.1 h.1 in
    let rest : Cuts bytes h.0.end ls fin = (let P : Token → Type 0 = λ t. Cuts bytes t.end ls fin in subst P e k.3) in
    cuts_end bytes h.0.end end fin ls h.3 rest

-- What the list says.

-- it begins with the row, and the others stand after it
abbrev Follows : List ℕ → ℕ → ShortRow → List Value21 → Type 0
Follows bytes at r vs = (others : List Value21) × (vs ≡ row_value bytes at r ∷ others) × StandBehind bytes r.end others

no_close : (bytes : List ℕ) (at : ℕ) → IsByteAt bytes at 40 → kind_of (class_of (lexeme_of bytes (sign_token at))) ≡ kinds.Close → ⊥
no_close bytes at h e = let k : kinds.Open ≡ kinds.Close = ap (λ (l : Lexeme). kind_of (class_of l)) (sym (says_sign bytes at 40 h)) ∙ e in cc

row_first : (bytes : List ℕ) (at : ℕ) (r : ShortRow) (vs : List Value21) → IsRowAt bytes at r → StandInside bytes at vs → Follows bytes at r vs
row_first bytes at r vs h k =
    let i = item_by bytes at (sign_token at) vs (cuts_open bytes at h.opening) (no_close bytes at h.opening) k in
    let inside : StandInside bytes at (i.0 ∷ i.1) = subst (λ (xs : List Value21). StandInside bytes at xs) i.2 k in
    let f = first_inside bytes at i.0 i.1 inside in
    let cuts = row_cuts bytes at r h in
    let same : row_value bytes at r ≡ i.0 = stands_once bytes at (row_value bytes at r) i.0 (record { end = r.z.end + 1; cuts = cuts }) f.0 in
    let end : f.0.end ≡ r.end = cuts_end bytes at f.0.end (r.z.end + 1) (print i.0) f.0.cuts (subst (λ (v : Value21). Cuts bytes at (print v) (r.z.end + 1)) same cuts) ∙ sym h.end in
    (i.1, i.2 ∙ ap (λ (v : Value21). v ∷ i.1) (sym same), subst (λ (n : ℕ). StandBehind bytes n i.1) end f.1)

values_set : IsSet (List Value21)
values_set = Coded-set (Prim.hlevel (codes, row.the_row.coded))

nothing : IsProp ⊥
nothing a b = absurd a

not_empty : (v : Value21) (vs : List Value21) → [] ≡ v ∷ vs → ⊥
not_empty v vs e = cc

same_rest : (v w : Value21) (vs ws : List Value21) → v ∷ vs ≡ w ∷ ws → ws ≡ vs
same_rest v w vs ws e = cc

-- the others stand after the row
pub rows_stand : (bytes : List ℕ) (at after : ℕ) (r : ShortRow) (says : (vs : List Value21) × ∥ StandInside bytes at vs ∥₁) → IsRowAt bytes at r
    → ((vs : List Value21) → StandBehind bytes r.end vs → StandInside bytes after vs) → (vs : List Value21) × ∥ StandInside bytes after vs ∥₁
rows_stand bytes at after r ([], s) h next = absurd (∥∥₁_elim s nothing (λ k. let f = row_first bytes at r [] h k in not_empty (row_value bytes at r) f.0 f.1))
rows_stand bytes at after r (v ∷ vs, s) h next =
    (vs, ∥∥₁_elim s ∥∥₁_prop (λ k. let f = row_first bytes at r (v ∷ vs) h k in ∣ subst (λ (xs : List Value21). StandInside bytes after xs) (same_rest v (row_value bytes at r) vs f.0 f.1) (next f.0 f.2) ∣₁))

-- the list is the row and the others
pub row_told : (bytes : List ℕ) (at after : ℕ) (r : ShortRow) (says : (vs : List Value21) × ∥ StandInside bytes at vs ∥₁) (left : List Value21) → IsRowAt bytes at r
    → ((vs : List Value21) → StandBehind bytes r.end vs → StandInside bytes after vs) → ((vs : List Value21) → StandInside bytes after vs → left ≡ vs) → says.0 ≡ row_value bytes at r ∷ left
row_told bytes at after r says left h next are =
    ∥∥₁_elim says.1 (values_set says.0 (row_value bytes at r ∷ left))
    (λ k. let f = row_first bytes at r says.0 h k in f.1 ∙ ap (λ (xs : List Value21). row_value bytes at r ∷ xs) (sym (are f.0 (next f.0 f.2))))

says_short : (bytes : List ℕ) (from : ℕ) (s : Short) → IsShortAt bytes from s → SaysShort s (number_value bytes from s.end)
says_short bytes from s h =
    let b : Begins bytes (number_token from s.end) (number_value bytes from s.end) = record { rest = []; end = s.end; spelled = number_printed bytes from s.end; cuts = refl } in
    record { spelled = slice_range bytes from s.end; number = sym (number_by bytes (number_token from s.end) (number_value bytes from s.end) b); spells = h.spells; digits = h.digits; places = h.places }

abbrev three_values : List ℕ → ℕ → ShortRow → List Value21
three_values bytes at r = number_value bytes (at + 1) r.x.end ∷ number_value bytes (r.x.end + 1) r.y.end ∷ number_value bytes (r.y.end + 1) r.z.end ∷ []

three_inside : (x y z : Value21) (a b c : Lexeme) → print x ≡ a ∷ [] → print y ≡ b ∷ [] → print z ≡ c ∷ []
    → print_all (x ∷ y ∷ z ∷ []) ++ Closing ∷ [] ≡ a ∷ Separator ∷ b ∷ Separator ∷ c ∷ Closing ∷ []
three_inside x y z a b c e f g = rw (e, f, g) refl

row_items : (bytes : List ℕ) (at : ℕ) (r : ShortRow) → IsRowAt bytes at r → items_of (row_value bytes at r) ≡ Some (three_values bytes at r)
row_items bytes at r h =
    let cut = tokens_rest bytes at r h in
    let says = says_sign bytes at 40 h.opening in
    let b : Begins bytes (sign_token at) (row_value bytes at r) =
    record { rest = rest_of_row bytes at r; end = r.z.end + 1; spelled = row_printed bytes at r ∙ ap (λ (l : Lexeme). l ∷ rest_of_row bytes at r) (sym says); cuts = cut } in
    let i = inside_by bytes (sign_token at) (row_value bytes at r) b (ap (λ (l : Lexeme). kind_of (class_of l)) says) in
    let same =
    three_inside (number_value bytes (at + 1) r.x.end) (number_value bytes (r.x.end + 1) r.y.end) (number_value bytes (r.y.end + 1) r.z.end) (NumberOf (slice_range bytes (at + 1) r.x.end))
    (NumberOf (slice_range bytes (r.x.end + 1) r.y.end)) (NumberOf (slice_range bytes (r.y.end + 1) r.z.end)) (number_printed bytes (at + 1) r.x.end) (number_printed bytes (r.x.end + 1) r.y.end) (number_printed bytes (r.y.end + 1) r.z.end) in
    let inside : StandInside bytes (at + 1) (three_values bytes at r) = (r.z.end + 1, subst (λ (ls : List Lexeme). Cuts bytes (at + 1) ls (r.z.end + 1)) (sym same) cut) in
    i.1 ∙ ap (λ (vs : List Value21). Some vs) (inside_once bytes (at + 1) i.0 (three_values bytes at r) i.2 inside)

-- what the row says
pub says_row : (bytes : List ℕ) (at : ℕ) (r : ShortRow) → IsRowAt bytes at r → SaysRow r (row_value bytes at r)
says_row bytes at r h = record {
  x = number_value bytes (at + 1) r.x.end;
  y = number_value bytes (r.x.end + 1) r.y.end;
  z = number_value bytes (r.y.end + 1) r.z.end;
  items = row_items bytes at r h;
  first = says_short bytes (at + 1) r.x h.x;
  second = says_short bytes (r.x.end + 1) r.y h.y;
  third = says_short bytes (r.y.end + 1) r.z h.z;
}

-- What stands behind a value.

pub behind_comma : (bytes : List ℕ) (at : ℕ) (vs : List Value21) → at < length bytes → get_or bytes at 0 ≡ 44 → StandBehind bytes at vs → StandInside bytes (at + 1) vs
behind_comma bytes at vs lt e h =
    let k : kind_of (class_of (lexeme_of bytes (sign_token at))) ≡ kinds.Comma = ap (λ (l : Lexeme). kind_of (class_of l)) (says_sign bytes at 44 (lt, e)) in
    next_comma bytes at (sign_token at) vs (cuts_comma bytes at (lt, e)) k h

pub behind_close : (bytes : List ℕ) (at : ℕ) (vs : List Value21) → at < length bytes → get_or bytes at 0 ≡ 41 → StandBehind bytes at vs → StandInside bytes at vs
behind_close bytes at vs lt e h =
    next_close bytes at (sign_token at) vs (cuts_close bytes at (lt, e)) (λ k. let c : kinds.Close ≡ kinds.Comma = ap (λ (l : Lexeme). kind_of (class_of l)) (sym (says_sign bytes at 41 (lt, e))) ∙ k in cc) h
