-- Tokens that wait after bytes that hold no parenthesis: what the byte at a place leaves of them.
use Rattle.std.proofs.Common.{◌≡◌, ℕ, suc, ◌+◌, ◌-◌, ◌<◌, ◌≤◌, ◌==◌, ◌||◌, ◌⊎◌, inl, inr, true, false, List, [], ◌∷◌, ◌++◌, length, get_or, take, drop, Some, None, Ok, refl, sym, ap, subst, ◌∙◌, arith, add-one, slice_range}
use Rattle.std.proofs.lemmas.Bool.{cases_Bool, eqb-true}
use Rattle.std.proofs.lemmas.List.{length-take-le, length-drop, get_or-take, get_or-drop}
use Rattle.std.proofs.Math.Seq.{drop-cons}
use Rattle.p21_lexer.specs.declared.token.TokenKind.{TokenKind}
use Rattle.p21_lexer.specs.declared.token.TokenKind.TheVariants as tokens
use Rattle.p21_lexer.specs.declared.token.Token.{Token}
use Rattle.p21_lexer.specs.Spelling.{Spells}
use Rattle.p21_lexer.specs.TokenSeparators.{is_blank, IsPiece, Passes, IsStop, Skips}
use Rattle.p21_lexer.specs.Cutting.{IsFirst, StopsAt, CutsFrom}
use Rattle.p21_lexer.specs.inner.Kinds.{kind_of as kind_by}
use Rattle.p21_lexer.proofs.Tokens.{headed}
use Rattle.p21_values.specs.declared.fault.ReadFault.{ReadFault}
use Rattle.p21_values.specs.declared.piece.Kind.{Kind}
use Rattle.p21_values.specs.declared.piece.Kind.TheVariants as kinds
use Rattle.p21_values.specs.Lexemes.{Lexeme, lexeme_of, class_of, says, single_says, Cuts}
use Rattle.p21_values.specs.TokenPieces.{NoToken, IsSign, kind_of}
use Rattle.p21_values.specs.Standing.{Closes, depth_after, is_plain, Waits, Leaves}
use Rattle.p21_values.proofs.Seen.{head_of}
use Rattle.p21_values.proofs.Tokens.{one_token}
use Rattle.p21_table.proofs.FirstTokens.{closes_more, closes_end, closes_missing}
use Rattle.p21_values.proofs.SignsThere.{sign_cut, sign_seen}
use Rattle.p21_table.proofs.PlainBytes.{spelled_plain, plain_at, plain_depth}

-- Gaps.

piece_head : (b : ℕ) (bs p mid : List ℕ) → IsPiece p → b ∷ bs ≡ p ++ mid → (is_blank b ≡ true) ⊎ (b ≡ 47)
piece_head b bs p mid (inl w) e =
    let f : b ∷ bs ≡ w.byte ∷ mid = e ∙ ap (λ (x : List ℕ). x ++ mid) w.whole in
    let same : b ≡ w.byte = cc in
    inl (ap is_blank same ∙ w.blank)
piece_head b bs p mid (inr w) e =
    let f : b ∷ bs ≡ 47 ∷ (42 ∷ (w.inner ++ 42 ∷ 47 ∷ []) ++ mid) = e ∙ ap (λ (x : List ℕ). x ++ mid) w.whole in
    inr (cc)

-- where no gap begins at a byte, what is skipped is nothing
skips_none : (b : ℕ) (bs rest : List ℕ) → is_blank b ≡ false → (b ≡ 47 → ⊥) → (ps : List (List ℕ)) → Passes ps (b ∷ bs) rest → b ∷ bs ≡ rest
skips_none b bs rest n m [] h = h
skips_none b bs rest n m (p ∷ ps) h = elim (piece_head b bs p h.0 h.1 h.2) [
  | inl k ↦ absurd (let g : true ≡ false = sym k ∙ n in cc)
  | inr k ↦ absurd (m k)
]

pub starts_here : (bytes : List ℕ) (at start : ℕ) → at < length bytes → is_blank (get_or bytes at 0) ≡ false → (get_or bytes at 0 ≡ 47 → ⊥) → StopsAt bytes at start → start ≡ at
starts_here bytes at start lt n m h =
    let e : drop at bytes ≡ get_or bytes at 0 ∷ drop (suc at) bytes = drop-cons bytes at 0 lt in
    let passes = subst (λ (x : List ℕ). Passes h.1.pieces x (drop start bytes)) e h.1.passed in
    let same : drop at bytes ≡ drop start bytes = e ∙ skips_none (get_or bytes at 0) (drop (suc at) bytes) (drop start bytes) n m h.1.pieces passes in
    let long = ap length same in
    let a = length-drop at bytes in
    let b = length-drop start bytes in
    let within = h.0 in
    omega (arith, long, a, b, within, lt)

one_blank : (b : ℕ) → is_blank b ≡ true → IsPiece (b ∷ [])
one_blank b h = inl (record { byte = b; whole = refl; blank = h })

blank_slash : (b : ℕ) → is_blank b ≡ true → b ≡ 47 → ⊥
blank_slash b h e = let g : is_blank 47 ≡ true = subst (λ (n : ℕ). is_blank n ≡ true) e h in cc

-- a blank is one of the pieces that are skipped
skips_blank : (b : ℕ) (bs rest : List ℕ) → is_blank b ≡ true → IsStop rest → (ps : List (List ℕ)) → Passes ps (b ∷ bs) rest → Skips bs rest
skips_blank b bs rest h stop [] e = absurd (stop (b ∷ []) bs (one_blank b h) (sym e))
skips_blank b bs rest h stop (p ∷ ps) e = from b bs rest h stop p ps e.0 e.1 e.2 e.3
  where
    from : (b : ℕ) (bs rest : List ℕ) → is_blank b ≡ true → IsStop rest → (p : List ℕ) (ps : List (List ℕ)) (mid : List ℕ) → IsPiece p → b ∷ bs ≡ p ++ mid → Passes ps mid rest → Skips bs rest
    from b bs rest h stop p ps mid (inl w) e more =
        let f : b ∷ bs ≡ w.byte ∷ mid = e ∙ ap (λ (x : List ℕ). x ++ mid) w.whole in
        let same : mid ≡ bs = cc in
        record { pieces = ps; passed = subst (λ (x : List ℕ). Passes ps x rest) same more; stop = stop }
    from b bs rest h stop p ps mid (inr w) e more =
        let f : b ∷ bs ≡ 47 ∷ (42 ∷ (w.inner ++ 42 ∷ 47 ∷ []) ++ mid) = e ∙ ap (λ (x : List ℕ). x ++ mid) w.whole in
        let same : b ≡ 47 = cc in
        absurd (blank_slash b h same)

cut_later : (bytes : List ℕ) (at : ℕ) (t : Token) → at < length bytes → is_blank (get_or bytes at 0) ≡ true → CutsFrom bytes at (Ok (Some t)) → CutsFrom bytes (at + 1) (Ok (Some t))
cut_later bytes at t lt h c =
    let e : drop at bytes ≡ get_or bytes at 0 ∷ drop (suc at) bytes = drop-cons bytes at 0 lt in
    let s = c.0.1 in
    let passes = subst (λ (x : List ℕ). Passes s.pieces x (drop t.start bytes)) e s.passed in
    let later = skips_blank (get_or bytes at 0) (drop (suc at) bytes) (drop t.start bytes) h s.stop s.pieces passes in
    let next : drop (suc at) bytes ≡ drop (at + 1) bytes = ap (λ (n : ℕ). drop n bytes) (sym (add-one at)) in
    ((c.0.0, subst (λ (x : List ℕ). Skips x (drop t.start bytes)) next later), c.1, c.2)

-- a token is cut from where it begins
cut_start : (bytes : List ℕ) (at : ℕ) (t : Token) → CutsFrom bytes at (Ok (Some t)) → CutsFrom bytes t.start (Ok (Some t))
cut_start bytes at t c = let s = c.0.1 in ((c.0.0, record { pieces = []; passed = refl; stop = s.stop }), c.1, c.2)

-- Tokens.

within : (bytes : List ℕ) (t : Token) → t.start < t.end → IsFirst (drop t.start bytes) t.kind (t.end - t.start) → t.end ≤ length bytes
within bytes t lt f = let w = f.within in let e = length-drop t.start bytes in omega (arith, w, e, lt)

-- the bytes of one that begins with a plain byte
token_plain : (bytes : List ℕ) (t : Token) → t.start < t.end → IsFirst (drop t.start bytes) t.kind (t.end - t.start) → is_plain (get_or bytes t.start 0) ≡ true
    → (i : ℕ) → t.start ≤ i → i < t.end → is_plain (get_or bytes i 0) ≡ true
token_plain bytes t lt f h i low high =
    let le = within bytes t lt f in
    let n = t.end - t.start in
    let front = slice_range bytes t.start t.end in
    let tail = take (t.end - suc t.start) (drop (suc t.start) bytes) in
    let e : front ≡ get_or bytes t.start 0 ∷ tail = head_of bytes t.start t.end 0 lt le in
    let spelled : Spells t.kind (get_or bytes t.start 0 ∷ tail) = subst (λ (x : List ℕ). Spells t.kind x) e f.spelled in
    let plain = spelled_plain t.kind (get_or bytes t.start 0) tail spelled h in
    let long : length front ≡ n = length-take-le n (drop t.start bytes) (let d = length-drop t.start bytes in omega (arith, d, le)) in
    let same = ap length e in
    let at : is_plain (get_or (get_or bytes t.start 0 ∷ tail) (i - t.start) 0) ≡ true = plain_at (get_or bytes t.start 0 ∷ tail) (i - t.start) plain (omega (arith, long, same, low, high)) in
    let here : get_or (get_or bytes t.start 0 ∷ tail) (i - t.start) 0 ≡ get_or bytes i 0 =
    ap (λ (x : List ℕ). get_or x (i - t.start) 0) (sym e) ∙ get_or-take n (drop t.start bytes) (i - t.start) 0 (omega (arith, low, high))
    ∙ get_or-drop t.start bytes (i - t.start) 0 ∙ ap (λ (k : ℕ). get_or bytes k 0) (let s : t.start + (i - t.start) ≡ i = omega (arith, low) in s) in
    subst (λ (b : ℕ). is_plain b ≡ true) here at

-- Waiting.

side : (a b : ℕ) → a ≤ b → (b ≡ a) ⊎ (a < b)
side a b h = grind arith

pub waits_here : (bytes : List ℕ) (at : ℕ) (ls : List Lexeme) (end : ℕ) → Cuts bytes at ls end → Waits bytes at ls end
waits_here bytes at ls end k = record { from = at; on = omega arith; plain = λ i low high. absurd (omega (arith, low, high)); cuts = k }

-- at a byte that isn't plain they are cut from there on
waits_cut : (bytes : List ℕ) (at : ℕ) (ls : List Lexeme) (end : ℕ) → is_plain (get_or bytes at 0) ≡ false → Waits bytes at ls end → Cuts bytes at ls end
waits_cut bytes at ls end n w = elim (side at w.from w.on) [
  | inl e ↦ subst (λ (q : ℕ). Cuts bytes q ls end) e w.cuts
  | inr lt ↦ absurd (let g : true ≡ false = sym (w.plain at (omega arith) lt) ∙ n in cc)
]

pub waits_end : {A : Type 0} (bytes : List ℕ) (at depth : ℕ) (ls : List Lexeme) (end : ℕ) → length bytes ≤ at → 0 < depth → Closes depth ls → Waits bytes at ls end → A
waits_end bytes at depth [] end over some h w = absurd (omega (arith, h, some))
waits_end bytes at depth (l ∷ ls) end over some h w = last bytes at w.from w.on w.cuts.0 w.cuts.1 over
  where
    last : {A : Type 0} (bytes : List ℕ) (at from : ℕ) → at ≤ from → (t : Token) → CutsFrom bytes from (Ok (Some t)) → length bytes ≤ at → A
    last bytes at from on t c over =
        let le = within bytes t c.1 c.2 in
        let lt = c.1 in
        let s = c.0.1 in
        let none : drop from bytes ≡ [] = gone bytes from (omega (arith, on, over)) in
        let e = empty s.pieces (drop t.start bytes) (subst (λ (x : List ℕ). Passes s.pieces x (drop t.start bytes)) none s.passed) in
        let long = ap length e in
        let d = length-drop t.start bytes in
        absurd (omega (arith, long, d, le, lt))
      where
        gone : (bytes : List ℕ) (n : ℕ) → length bytes ≤ n → drop n bytes ≡ []
        gone bytes n le = nil (drop n bytes) (let d = length-drop n bytes in omega (arith, d, le))
          where
            nil : (xs : List ℕ) → length xs ≡ 0 → xs ≡ []
            nil [] e = refl
            nil (x ∷ xs) e = absurd (omega (arith, e))

        empty : (ps : List (List ℕ)) (rest : List ℕ) → Passes ps [] rest → [] ≡ rest
        empty [] rest h = h
        empty (p ∷ ps) rest h = absurd (no_piece p h.0 h.1 h.2)
          where
            no_piece : (p mid : List ℕ) → IsPiece p → [] ≡ p ++ mid → ⊥
            no_piece p mid (inl w) e = let f : [] ≡ w.byte ∷ mid = e ∙ ap (λ (x : List ℕ). x ++ mid) w.whole in cc
            no_piece p mid (inr w) e = let f : [] ≡ 47 ∷ (42 ∷ (w.inner ++ 42 ∷ 47 ∷ []) ++ mid) = e ∙ ap (λ (x : List ℕ). x ++ mid) w.whole in cc

-- What a parenthesis leaves.

sign_left : (bytes : List ℕ) (at depth end : ℕ) (ls : List Lexeme) (kind : Kind) → at < length bytes → IsSign kind → kind ≡ kind_of (class_of (single_says (get_or bytes at 0))) → is_plain (get_or bytes at 0) ≡ false
    → 0 < depth → Closes depth ls → Waits bytes at ls end → (ms : List Lexeme) × Closes (depth_after kind depth) ms × Cuts bytes (at + 1) ms end
sign_left bytes at depth end ls kind lt sign is n some h w =
    let t : Token = record { kind = tokens.Single; start = at; end = at + 1 } in
    let m = closes_more bytes at end depth t ls some (sign_cut bytes at kind lt sign is) h (waits_cut bytes at ls end n w) in
    (m.0, subst (λ (k : Kind). Closes (depth_after k depth) m.0) (sym (sign_seen bytes at kind lt is)) m.1, m.2)

pub open_left : (bytes : List ℕ) (at depth end : ℕ) (ls : List Lexeme) → at < length bytes → get_or bytes at 0 ≡ 40 → 0 < depth → Closes depth ls → Waits bytes at ls end → Leaves bytes (at + 1) (depth + 1) end
open_left bytes at depth end ls lt e some h w =
    let m = sign_left bytes at depth end ls kinds.Open lt tt (sym (ap (λ (b : ℕ). kind_of (class_of (single_says b))) e)) (ap is_plain e) some h w in
    record { left = m.0; closes = m.1; waits = waits_here bytes (at + 1) m.0 end m.2; ended = λ z. absurd (omega (arith, z)) }

pub close_left : (bytes : List ℕ) (at depth end : ℕ) (ls : List Lexeme) → at < length bytes → get_or bytes at 0 ≡ 41 → 0 < depth → Closes depth ls → Waits bytes at ls end → Leaves bytes (at + 1) (depth - 1) end
close_left bytes at depth end ls lt e some h w =
    let m = sign_left bytes at depth end ls kinds.Close lt tt (sym (ap (λ (b : ℕ). kind_of (class_of (single_says b))) e)) (ap is_plain e) some h w in
    record {
      left = m.0;
      closes = m.1;
      waits = waits_here bytes (at + 1) m.0 end m.2;
      ended = λ z. closes_end bytes (at + 1) end m.0 (subst (λ (d : ℕ). Closes d m.0) z m.1) m.2;
    }

-- What a text or comments leave.

mark_unplain : (b : ℕ) → (b == 39 || b == 47) ≡ true → (is_plain b ≡ false) × (is_blank b ≡ false)
mark_unplain b h = elim (cases_Bool (b == 39)) [
  | inl k ↦ (let e = eqb-true b 39 k in (ap is_plain e, ap is_blank e))
  | inr k ↦ (let e = eqb-true b 47 (let g = rw k at h in g) in (ap is_plain e, ap is_blank e))
]

mark_kind : (b : ℕ) (k : TokenKind) → (b == 39 || b == 47) ≡ true → kind_by b ≡ Some k → k ≡ tokens.Words
mark_kind b k h is = elim (cases_Bool (b == 39)) [
  | inl e ↦ (let f : Some tokens.Words ≡ Some k = sym (ap kind_by (eqb-true b 39 e)) ∙ is in cc)
  | inr e ↦ absurd (let f : None ≡ Some k = sym (ap kind_by (eqb-true b 47 (let g = rw e at h in g))) ∙ is in cc)
]

pub text_left : (bytes : List ℕ) (at depth end : ℕ) (ls : List Lexeme) (t : Token) → (get_or bytes at 0 == 39 || get_or bytes at 0 == 47) ≡ true → t.start ≡ at → CutsFrom bytes at (Ok (Some t))
    → 0 < depth → Closes depth ls → Waits bytes at ls end → Leaves bytes t.end depth end
text_left bytes at depth end ls t mark start c some h w =
    let m = closes_more bytes at end depth t ls some c h (waits_cut bytes at ls end (mark_unplain (get_or bytes at 0) mark).0 w) in
    let f = c.2 in
    let front = slice_range bytes t.start t.end in
    let e : front ≡ get_or bytes t.start 0 ∷ take (t.end - suc t.start) (drop (suc t.start) bytes) = head_of bytes t.start t.end 0 c.1 (within bytes t c.1 c.2) in
    let head = headed t.kind front f.spelled in
    let g : head.head ∷ head.tail ≡ get_or bytes t.start 0 ∷ take (t.end - suc t.start) (drop (suc t.start) bytes) = sym head.whole ∙ e in
    let first : head.head ≡ get_or bytes t.start 0 = cc in
    let there : head.head ≡ get_or bytes at 0 = first ∙ ap (λ (n : ℕ). get_or bytes n 0) start in
    let words : t.kind ≡ tokens.Words = mark_kind (get_or bytes at 0) t.kind mark (ap kind_by (sym there) ∙ head.kind) in
    let same : depth_after (kind_of (class_of (lexeme_of bytes t))) depth ≡ depth = ap (λ (k : TokenKind). depth_after (kind_of (class_of (says k front))) depth) words in
    record {
      left = m.0;
      closes = subst (λ (d : ℕ). Closes d m.0) same m.1;
      waits = waits_here bytes t.end m.0 end m.2;
      ended = λ z. absurd (omega (arith, z, some));
    }

start_cuts : (bytes : List ℕ) (at end : ℕ) (ls : List Lexeme) (t : Token) (depth : ℕ) → 0 < depth → Closes depth ls → CutsFrom bytes at (Ok (Some t)) → Cuts bytes at ls end → Cuts bytes t.start ls end
start_cuts bytes at end [] t depth some h c k = absurd (omega (arith, h, some))
start_cuts bytes at end (l ∷ ls) t depth some h c k =
    let e : k.0 ≡ t = one_token bytes at k.0 t k.1 c in
    let here : Cuts bytes k.0.start (l ∷ ls) end = (k.0, cut_start bytes at k.0 k.1, k.2, k.3) in
    subst (λ (x : Token). Cuts bytes x.start (l ∷ ls) end) e here

pub comment_left : (bytes : List ℕ) (at depth end : ℕ) (ls : List Lexeme) (t : Token) → (get_or bytes at 0 == 39 || get_or bytes at 0 == 47) ≡ true → CutsFrom bytes at (Ok (Some t))
    → 0 < depth → Closes depth ls → Waits bytes at ls end → Leaves bytes t.start depth end
comment_left bytes at depth end ls t mark c some h w =
    let k = start_cuts bytes at end ls t depth some h c (waits_cut bytes at ls end (mark_unplain (get_or bytes at 0) mark).0 w) in
    record { left = ls; closes = h; waits = waits_here bytes t.start ls end k; ended = λ z. absurd (omega (arith, z, some)) }

pub missing_left : {A : Type 0} (bytes : List ℕ) (at depth end : ℕ) (ls : List Lexeme) (f : ReadFault) → (get_or bytes at 0 == 39 || get_or bytes at 0 == 47) ≡ true → NoToken bytes at f
    → 0 < depth → Closes depth ls → Waits bytes at ls end → A
missing_left bytes at depth end ls f mark missing some h w =
    closes_missing bytes at end depth f ls some missing h (waits_cut bytes at ls end (mark_unplain (get_or bytes at 0) mark).0 w)

-- What a plain byte leaves.

plain_cut : (bytes : List ℕ) (at depth end : ℕ) (ls : List Lexeme) → at < length bytes → is_plain (get_or bytes at 0) ≡ true → (get_or bytes at 0 ≡ 47 → ⊥)
    → 0 < depth → Closes depth ls → Cuts bytes at ls end → Leaves bytes (at + 1) depth end
plain_cut bytes at depth end [] lt p n some h k = absurd (omega (arith, h, some))
plain_cut bytes at depth end (l ∷ ls) lt p n some h k = elim (cases_Bool (is_blank (get_or bytes at 0))) [
  | inl blank ↦
      record {
        left = l ∷ ls;
        closes = h;
        waits = waits_here bytes (at + 1) (l ∷ ls) end (k.0, cut_later bytes at k.0 lt blank k.1, k.2, k.3);
        ended = λ z. absurd (omega (arith, z, some));
      }
  | inr none ↦
      (let t = k.0 in
      let c = k.1 in
      let start : t.start ≡ at = starts_here bytes at t.start lt none n c.0 in
      let m = closes_more bytes at end depth t (l ∷ ls) some c h k in
      let front = slice_range bytes t.start t.end in
      let tail = take (t.end - suc t.start) (drop (suc t.start) bytes) in
      let e : front ≡ get_or bytes t.start 0 ∷ tail = head_of bytes t.start t.end 0 c.1 (within bytes t c.1 c.2) in
      let plain : is_plain (get_or bytes t.start 0) ≡ true = ap (λ (q : ℕ). is_plain (get_or bytes q 0)) start ∙ p in
      let same : depth_after (kind_of (class_of (lexeme_of bytes t))) depth ≡ depth = ap (λ (x : List ℕ). depth_after (kind_of (class_of (says t.kind x))) depth) e ∙ plain_depth t.kind (get_or bytes t.start 0) tail depth plain in
      record {
        left = m.0;
        closes = subst (λ (d : ℕ). Closes d m.0) same m.1;
        waits = record {
          from = t.end;
          on = (let s = c.1 in omega (arith, s, start));
          plain = λ i low high. token_plain bytes t c.1 c.2 plain i (omega (arith, low, start)) high;
          cuts = m.2;
        };
        ended = λ z. absurd (omega (arith, z, some));
      })
]

pub plain_left : (bytes : List ℕ) (at depth end : ℕ) (ls : List Lexeme) → at < length bytes → is_plain (get_or bytes at 0) ≡ true → (get_or bytes at 0 ≡ 47 → ⊥)
    → 0 < depth → Closes depth ls → Waits bytes at ls end → Leaves bytes (at + 1) depth end
plain_left bytes at depth end ls lt p n some h w = elim (side at w.from w.on) [
  | inl e ↦ plain_cut bytes at depth end ls lt p n some h (subst (λ (q : ℕ). Cuts bytes q ls end) e w.cuts)
  | inr more ↦
      record {
        left = ls;
        closes = h;
        waits = record { from = w.from; on = omega (arith, more); plain = λ i low high. w.plain i (omega (arith, low)) high; cuts = w.cuts };
        ended = λ z. absurd (omega (arith, z, some));
      }
]

-- a byte that is none of four
pub plain_byte : (b : ℕ) → (b ≡ 40 → ⊥) → (b ≡ 41 → ⊥) → (b ≡ 39 → ⊥) → (b ≡ 47 → ⊥) → is_plain b ≡ true
plain_byte b n m o p = rw (no b 40 n, no b 41 m, no b 39 o, no b 47 p) refl
  where
    no : (b k : ℕ) → (b ≡ k → ⊥) → (b == k) ≡ false
    no b k n = elim (cases_Bool (b == k)) [ inl e ↦ absurd (n (eqb-true b k e)) | inr e ↦ e ]
