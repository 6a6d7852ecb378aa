-- The values of a list are passed over one after another, from after its opening parenthesis.
use Rattle.std.proofs.Common.{◌≡◌, ℕ, List, [], ◌∷◌, ◌++◌, map, Option, Some, None, Result, Ok, Err, refl, sym, ap, subst, ◌∙◌, append_assoc}
use Rattle.p21_lexer.specs.declared.token.Token.{Token}
use Rattle.p21_lexer.specs.Cutting.{CutsFrom}
use Rattle.p21_values.specs.declared.fault.ReadFault.{ReadFault}
use Rattle.p21_values.specs.declared.piece.Kind.{Kind}
use Rattle.p21_values.specs.declared.piece.Kind.TheVariants as kinds
use Rattle.p21_values.specs.declared.value.Value21.{Value21}
use Rattle.p21_values.specs.Grammar.{Class, Open, Close, Comma, Word, T, Ones, Inside, After}
use Rattle.p21_reader.specs.Machine.{next}
use Rattle.p21_reader.specs.Instances.{Passes}
use Rattle.p21_values.specs.Lexemes.{Lexeme, Opening, lexeme_of, class_of, Closing, Separator}
use Rattle.p21_values.specs.Printing.{print, print_all, behind}
use Rattle.p21_reader.specs.inner.TokenReading.{Goes, Fails, ReadsValue}
use Rattle.p21_values.specs.TokenPieces.{kind_of}
use Rattle.p21_values.specs.Standing.{Stands}
use Rattle.p21_reader.proofs.Steps.{goes_here, goes_trans, fails_after}
use Rattle.p21_reader.proofs.Bodies.{opens_goes, opens_fails}
use Rattle.p21_reader.proofs.Lists.{Behind, behind_value, behind_close, inside_value}

-- so many values of a list are passed over, one at least
pub record Inwards (d : ℕ) (bytes : List ℕ) (from at : ℕ) (vs : List Value21) : Type 0 where
  pub mid : ℕ
  pub first : Value21
  pub begins : Goes (Inside (Some d) ∷ []) (After (Some d) ∷ []) bytes from mid (print first)
  pub others : List Value21
  pub all : vs ≡ first ∷ others
  pub goes : Behind (Some d) bytes mid at others

pub inwards_first : (d : ℕ) (bytes : List ℕ) (at end : ℕ) (t : Token) (k : Kind) (v : Value21) → CutsFrom bytes at (Ok (Some t)) → k ≡ kind_of (class_of (lexeme_of bytes t)) → (k ≡ kinds.Close → ⊥) → ReadsValue d bytes t end v
    → Inwards d bytes at end (v ∷ [])
inwards_first d bytes at end t k v h e n r = record {
  mid = end;
  first = v;
  begins = inside_value d bytes at end t k v h e n r;
  others = [];
  all = refl;
  goes = goes_here (After (Some d) ∷ []) bytes end;
}

pub inwards_more : (d : ℕ) (bytes : List ℕ) (from at end : ℕ) (comma item : Token) (vs : List Value21) (v : Value21) → Inwards d bytes from at vs
    → CutsFrom bytes at (Ok (Some comma)) → lexeme_of bytes comma ≡ Separator → CutsFrom bytes comma.end (Ok (Some item)) → ReadsValue d bytes item end v → Inwards d bytes from end (vs ++ v ∷ [])
inwards_more d bytes from at end comma item vs v i h l k r = record {
  mid = i.mid;
  first = i.first;
  begins = i.begins;
  others = i.others ++ v ∷ [];
  all = ap (λ x. x ++ v ∷ []) i.all;
  goes = behind_value d bytes i.mid at end comma item i.others v i.goes h l k r;
}

pub inwards_close : (d : ℕ) (bytes : List ℕ) (from at : ℕ) (close : Token) (vs : List Value21) → Inwards d bytes from at vs → CutsFrom bytes at (Ok (Some close)) → lexeme_of bytes close ≡ Closing
    → Goes (Inside (Some d) ∷ []) [] bytes from close.end (print_all vs ++ Closing ∷ [])
inwards_close d bytes from at close vs i h l =
    let g : Goes (Inside (Some d) ∷ []) [] bytes from close.end (print_all (i.first ∷ i.others) ++ Closing ∷ []) =
    rw (append_assoc (print i.first) (behind (map print i.others)) (Closing ∷ []))
    (goes_trans (Inside (Some d) ∷ []) (After (Some d) ∷ []) [] bytes from i.mid close.end (print i.first) (behind (map print i.others) ++ Closing ∷ []) i.begins (behind_close d bytes i.mid at close i.others i.goes h l)) in
    subst (λ (x : List Value21). Goes (Inside (Some d) ∷ []) [] bytes from close.end (print_all x ++ Closing ∷ [])) (sym i.all) g

pub inwards_fails : (d : ℕ) (bytes : List ℕ) (from at : ℕ) (vs : List Value21) (f : ReadFault) → Inwards d bytes from at vs → Fails (After (Some d) ∷ []) bytes at f → Fails (Inside (Some d) ∷ []) bytes from f
inwards_fails d bytes from at vs f i k =
    fails_after (Inside (Some d) ∷ []) (After (Some d) ∷ []) bytes from i.mid (print i.first) f i.begins
    (fails_after (After (Some d) ∷ []) (After (Some d) ∷ []) bytes i.mid at (behind (map print i.others)) f i.goes k)

-- a value stands where its first token begins
pub stands_there : (d : ℕ) (bytes : List ℕ) (at end : ℕ) (t : Token) (v : Value21) → CutsFrom bytes at (Ok (Some t)) → ReadsValue d bytes t end v → Stands bytes t.start v
stands_there d bytes at end t v h r = record {
  end = end;
  cuts = rw r.spelled (t, ((h.0.0, record { pieces = []; passed = refl; stop = h.0.1.stop }), h.1, h.2), refl, r.goes.cuts);
}

-- a token after a value that is neither a comma nor the end
class_after_none : (d : Option ℕ) (c : Class) → (kind_of c ≡ kinds.Close → ⊥) → (kind_of c ≡ kinds.Comma → ⊥) → next (After d) c ≡ None
class_after_none d Close h k = absurd (h refl)
class_after_none d Comma h k = absurd (k refl)
class_after_none d c h k = refl

pub after_none : (d : Option ℕ) (l : Lexeme) (k : Kind) → k ≡ kind_of (class_of l) → (k ≡ kinds.Close → ⊥) → (k ≡ kinds.Comma → ⊥) → next (After d) (class_of l) ≡ None
after_none d l k e h g = class_after_none d (class_of l) (λ x. h (e ∙ x)) (λ x. g (e ∙ x))

-- an opening parenthesis, and what is passed over after it
pub opens_passes : (d : ℕ) (bytes : List ℕ) (at opened : ℕ) (r : Result ℕ ReadFault) → Goes (T Open ∷ []) [] bytes at opened (Opening ∷ []) → Passes (Inside (Some d) ∷ []) bytes opened r → Passes (T Open ∷ Inside (Some d) ∷ []) bytes at r
opens_passes d bytes at opened (Ok end) h p = (Opening ∷ p.0, opens_goes d bytes at opened end p.0 h p.1)
opens_passes d bytes at opened (Err f) h p = opens_fails d bytes at opened f h p

-- a token after the parts of a complex instance that begins no other
class_ones_none : (c : Class) → (kind_of c ≡ kinds.Word → ⊥) → (kind_of c ≡ kinds.Close → ⊥) → next Ones c ≡ None
class_ones_none Close h k = absurd (k refl)
class_ones_none (Word m) h k = absurd (h refl)
class_ones_none c h k = refl

pub ones_none : (l : Lexeme) (k : Kind) → k ≡ kind_of (class_of l) → (k ≡ kinds.Word → ⊥) → (k ≡ kinds.Close → ⊥) → next Ones (class_of l) ≡ None
ones_none l k e h g = class_ones_none (class_of l) (λ x. h (e ∙ x)) (λ x. g (e ∙ x))
