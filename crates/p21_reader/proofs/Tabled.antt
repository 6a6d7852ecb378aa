-- The table of a file grows start by start and head by head.
use Rattle.std.proofs.Common.{◌≡◌, ℕ, zero, suc, ◌+◌, ◌^◌, ◌<◌, ◌≤◌, List, [], ◌∷◌, ◌++◌, length, sum_by, Some, Ok, arith, refl, sym, ap, subst, ◌∙◌, append_assoc, length-append}
use Rattle.std.proofs.lemmas.List.Sums.{sum_by-cons}
use Rattle.std.specs.List.{AllZip}
use Rattle.p21_lexer.specs.declared.token.Token.{Token}
use Rattle.p21_lexer.specs.Cutting.{CutsFrom}
use Rattle.p21_values.specs.declared.fault.ReadFault.{ReadFault}
use Rattle.p21_values.specs.declared.piece.Kind.{Kind}
use Rattle.p21_values.specs.declared.piece.Kind.TheVariants as kinds
use Rattle.p21_values.specs.declared.value.Value21.{Value21}
use Rattle.p21_reader.specs.declared.table.Table.{Table}
use Rattle.p21_values.specs.Lexemes.{Lexeme, lexeme_of, class_of, Separator, Closing, Cuts}
use Rattle.p21_values.specs.Printing.{print_all}
use Rattle.p21_values.specs.Counting.{size}
use Rattle.p21_reader.specs.inner.TokenReading.{Fails}
use Rattle.p21_values.specs.TokenPieces.{kind_of}
use Rattle.p21_values.specs.Grammar.{Class, Close, Sign, Value, After, Inside}
use Rattle.p21_reader.specs.Machine.{next}
use Rattle.p21_values.specs.Standing.{Stands, StandInside}
use Rattle.p21_values.proofs.Tokens.{one_token}
use Rattle.p21_reader.specs.inner.Tabling.{Counts, PutsStart, PutsFirst, PutsMany, PutsMore, PutsStarts}
use Rattle.p21_reader.proofs.Steps.{goes_one}
use Rattle.p21_reader.proofs.Inwards.{Inwards, inwards_first, inwards_more, inwards_close, inwards_fails, stands_there}

pub append_nil : {A : Type 0} (xs : List A) → xs ++ [] ≡ xs
append_nil [] = refl
append_nil (x ∷ xs) = ap (λ y. x ∷ y) (append_nil xs)

pub sum_append : {A : Type 0} (f : A → ℕ) (xs : List A) (x : A) → sum_by f (xs ++ x ∷ []) ≡ sum_by f xs + f x
sum_append f [] x = let e = sum_by-cons f x [] in omega (arith, e)
sum_append f (y ∷ xs) x =
    let e = sum_by-cons f y (xs ++ x ∷ []) in
    let g = sum_by-cons f y xs in
    let r = sum_append f xs x in
    omega (arith, e, g, r)

pub zip_append : {A B : Type 0} (P : A → B → Type 0) (xs : List A) (ys : List B) (x : A) (y : B) → AllZip P xs ys → P x y → AllZip P (xs ++ x ∷ []) (ys ++ y ∷ [])
zip_append P [] [] x y h k = (k, tt)
zip_append P [] (b ∷ ys) x y h k = absurd h
zip_append P (a ∷ xs) [] x y h k = absurd h
zip_append P (a ∷ xs) (b ∷ ys) x y h k = (h.0, zip_append P xs ys x y h.1 k)

-- the starts of so many values are put, one at least
pub record Putting (d : ℕ) (bytes : List ℕ) (from at : ℕ) (old now : Table) : Type 0 where
  pub starts : List ℕ
  pub values : List Value21
  pub stack : now.starts.items ≡ old.starts.items ++ starts
  pub stand : AllZip (Stands bytes) starts values
  pub head : Token
  pub rest : List ℕ
  pub headed : starts ≡ head.start ∷ rest
  pub begins : CutsFrom bytes from (Ok (Some head))
  pub counts : Counts old.values now.values (sum_by size values)
  pub inwards : Inwards d bytes from at values

counts_first : (before after n : ℕ) → Counts before after n → Counts before after (0 + n)
counts_first before after n h = omega (arith, h)

pub counts_again : (before middle after m n : ℕ) → Counts before middle m → Counts middle after n → Counts before after (m + n)
counts_again before middle after m n h k = omega (arith, h, k)

pub putting_first : (d : ℕ) (bytes : List ℕ) (at end : ℕ) (t : Token) (k : Kind) (old now : Table) → CutsFrom bytes at (Ok (Some t)) → k ≡ kind_of (class_of (lexeme_of bytes t)) → (k ≡ kinds.Close → ⊥)
    → PutsStart d bytes t old now (Ok end) → Putting d bytes at end old now
putting_first d bytes at end t k old now h e n p = record {
  starts = t.start ∷ [];
  values = p.0 ∷ [];
  stack = p.2;
  stand = (stands_there d bytes at end t p.0 h p.1, tt);
  head = t;
  rest = [];
  headed = refl;
  begins = h;
  counts = subst (λ x. Counts old.values now.values x) (sym (sum_append size [] p.0)) (counts_first old.values now.values (size p.0) p.3);
  inwards = inwards_first d bytes at end t k p.0 h e n p.1;
}

-- a closing parenthesis is no value
value_not_close : (d : ℕ) (c : Class) (wanted : List Sign) → next (Value (Some d)) c ≡ Some wanted → kind_of c ≡ kinds.Close → ⊥
value_not_close d Close wanted h e = cc
value_not_close d c wanted h e = cc

pub putting_plain : (d : ℕ) (bytes : List ℕ) (at end : ℕ) (old now : Table) → PutsFirst d bytes at old now end → Putting d bytes at end old now
putting_plain d bytes at end old now p =
    let puts = p.2 in
    let read = puts.1 in
    let c = class_of (lexeme_of bytes p.0) in
    putting_first d bytes at end p.0 (kind_of c) old now p.1 refl (value_not_close d c read.wanted read.begins) puts

pub putting_more : (d : ℕ) (bytes : List ℕ) (from at end : ℕ) (comma item : Token) (old now new : Table) → Putting d bytes from at old now → CutsFrom bytes at (Ok (Some comma)) → lexeme_of bytes comma ≡ Separator
    → CutsFrom bytes comma.end (Ok (Some item)) → PutsStart d bytes item now new (Ok end) → Putting d bytes from end old new
putting_more d bytes from at end comma item old now new g h l k p = record {
  starts = g.starts ++ item.start ∷ [];
  values = g.values ++ p.0 ∷ [];
  stack = p.2 ∙ ap (λ x. x ++ item.start ∷ []) g.stack ∙ append_assoc old.starts.items g.starts (item.start ∷ []);
  stand = zip_append (Stands bytes) g.starts g.values item.start p.0 g.stand (stands_there d bytes comma.end end item p.0 k p.1);
  head = g.head;
  rest = g.rest ++ item.start ∷ [];
  headed = ap (λ x. x ++ item.start ∷ []) g.headed;
  begins = g.begins;
  counts = subst (λ x. Counts old.values new.values x) (sym (sum_append size g.values p.0)) (counts_again old.values now.values new.values (sum_by size g.values) (size p.0) g.counts p.3);
  inwards = inwards_more d bytes from at end comma item g.values p.0 g.inwards h l k p.1;
}

-- with values behind it that are put one after another
putting_many : (many d : ℕ) (bytes : List ℕ) (from at end : ℕ) (old now new : Table) → Putting d bytes from at old now → PutsMany many d bytes at now new end → Putting d bytes from end old new
putting_many zero d bytes from at end old now new g h =
    let P : ℕ → Type 0 = λ n. Putting d bytes from n old now in
    subst (Putting d bytes from end old) h.1 (subst P h.0 g)
putting_many (suc many) d bytes from at end old now new g h =
    let p = h.3 in
    putting_more d bytes from h.0 end p.0 p.1 old h.1 new (putting_many many d bytes from at h.0 old now h.1 g h.2) p.2 p.3 p.4 p.5

pub putting_on : (d : ℕ) (bytes : List ℕ) (from at end : ℕ) (old now new : Table) → Putting d bytes from at old now → PutsMore d bytes at now new end → Putting d bytes from end old new
putting_on d bytes from at end old now new g h = putting_many h.0 d bytes from at end old now new g h.1

-- tokens that are cut from before a token are cut from where it begins
from_start : (bytes : List ℕ) (at end : ℕ) (t : Token) (l : Lexeme) (ls : List Lexeme) → CutsFrom bytes at (Ok (Some t)) → Cuts bytes at (l ∷ ls) end → Cuts bytes t.start (l ∷ ls) end
from_start bytes at end t l ls h k =
    let m = k.1 in
    let P : Token → Type 0 = λ u. Cuts bytes u.start (l ∷ ls) end in
    subst P (one_token bytes at k.0 t k.1 h) (k.0, ((m.0.0, record { pieces = []; passed = refl; stop = m.0.1.stop }), m.1, m.2), k.2, k.3)

inside_start : (bytes : List ℕ) (at end : ℕ) (t : Token) (ls : List Lexeme) → CutsFrom bytes at (Ok (Some t)) → Cuts bytes at (ls ++ Closing ∷ []) end → Cuts bytes t.start (ls ++ Closing ∷ []) end
inside_start bytes at end t [] h k = from_start bytes at end t Closing [] h k
inside_start bytes at end t (l ∷ ls) h k = from_start bytes at end t l (ls ++ Closing ∷ []) h k

first_is : (a b : ℕ) (xs ys : List ℕ) → a ∷ xs ≡ b ∷ ys → a ≡ b
first_is a b xs ys e = cc

-- values at their starts stand from the first one on
stand_from : (bytes : List ℕ) (at end : ℕ) (t : Token) (starts rest : List ℕ) (vs : List Value21) → starts ≡ t.start ∷ rest → CutsFrom bytes at (Ok (Some t)) → Cuts bytes at (print_all vs ++ Closing ∷ []) end
    → (start : ℕ) (more : List ℕ) → starts ≡ start ∷ more → StandInside bytes start vs
stand_from bytes at end t starts rest vs e h k start more f =
    subst (λ s. StandInside bytes s vs) (first_is t.start start rest more (sym e ∙ f)) (end, inside_start bytes at end t (print_all vs) h k)

pub putting_close : (d : ℕ) (bytes : List ℕ) (from at : ℕ) (close : Token) (old now : Table) → Putting d bytes from at old now → CutsFrom bytes at (Ok (Some close)) → lexeme_of bytes close ≡ Closing
    → PutsStarts d bytes from old now (Ok close.end)
putting_close d bytes from at close old now g h l =
    let read = inwards_close d bytes from at close g.values g.inwards h l in
    (g.starts, g.values, g.stack, (g.stand, stand_from bytes from close.end g.head g.starts g.rest g.values g.headed g.begins read.cuts), g.counts, read)

pub putting_fails : (d : ℕ) (bytes : List ℕ) (from at : ℕ) (old now : Table) (f : ReadFault) → Putting d bytes from at old now → Fails (After (Some d) ∷ []) bytes at f → Fails (Inside (Some d) ∷ []) bytes from f
putting_fails d bytes from at old now f g k = inwards_fails d bytes from at g.values f g.inwards k

pub counts_none : (n : ℕ) → n < 2 ^ 64 → Counts n n (sum_by size [])
counts_none n h = omega (arith, h)

pub no_start : (start : ℕ) (more : List ℕ) → [] ≡ start ∷ more → ⊥
no_start start more e = cc

-- no values
pub puts_none : (d : ℕ) (bytes : List ℕ) (at : ℕ) (close : Token) (table : Table) → table.values < 2 ^ 64 → CutsFrom bytes at (Ok (Some close)) → lexeme_of bytes close ≡ Closing → PutsStarts d bytes at table table (Ok close.end)
puts_none d bytes at close table s h l =
    ([], [], sym (append_nil table.starts.items), (tt, λ start more e. absurd (no_start start more e)), counts_none table.values s, rw l at (goes_one (Inside (Some d)) [] bytes at close h (rw l refl)))

-- each start takes a byte at least
pub more_past : (old now new : List ℕ) (start from at end : ℕ) → length now + from ≤ length old + at → new ≡ now ++ start ∷ [] → at < end → length new + from ≤ length old + end
more_past old now new start from at end h e k =
    let s = ap length e in
    let t = length-append now (start ∷ []) in
    let u : length (start ∷ []) ≡ 1 = refl in
    omega (arith, h, s, t, u, k)
