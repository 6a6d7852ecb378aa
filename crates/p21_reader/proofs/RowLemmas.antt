-- Lists of three numbers are passed over at once: they lead on as their tokens do one by one.
use Rattle.std.proofs.Common.{◌≡◌, ℕ, zero, suc, ◌+◌, ◌-◌, ◌*◌, ◌<◌, inl, inr, ◌⊎◌, Bool, false, List, [], ◌∷◌, ◌++◌, length, Option, Some, Ok, arith, refl, sym, ap, subst, ◌∙◌}
use Rattle.std.specs.Prelude.{slice_range, slice_index, slice_index_or}
use Rattle.p21_lexer.specs.declared.token.Token.{Token}
use Rattle.p21_lexer.specs.declared.token.TokenKind.TheVariants as tokens
use Rattle.p21_lexer.specs.Cutting.{CutsFrom}
use Rattle.p21_values.specs.Grammar.{Sign, Inside, After}
use Rattle.p21_values.specs.Lexemes.{Lexeme, Opening, Closing, Separator, NumberOf, lexeme_of, class_of, single_says, Cuts}
use Rattle.p21_values.specs.TokenPieces.{IsSign, kind_of}
use Rattle.p21_values.proofs.Seen.{alone_says}
use Rattle.p21_values.proofs.SignsThere.{sign_cut}
use Rattle.p21_reader.specs.declared.passing.Level.{Level}
use Rattle.p21_reader.specs.declared.passing.Reached.{Reached}
use Rattle.p21_reader.specs.declared.passing.Top.{Top}
use Rattle.p21_reader.specs.declared.passing.Top.TheVariants as tops
use Rattle.p21_reader.specs.Machine.{run}
use Rattle.p21_reader.specs.inner.ValueNesting.{wanted, signs, IsFit, row_rest, EndsRow, HasRow, HasRows}
use Rattle.p21_reader.specs.inner.TokenReading.{Goes, classes}
use Rattle.p21_reader.specs.inner.Tabling.{Counts, PassesRow, PassesRows, PassesMore}
use Rattle.p21_lexer.specs.There.{StandsThere}
use Rattle.p21_reader.proofs.Contained.{told, told_append}
use Rattle.p21_reader.proofs.Levels.{one_less}
use Rattle.p21_reader.proofs.Midway.{Taken, counts_more}
use Rattle.p21_reader.proofs.Steps.{cuts_append, goes_here, goes_trans, goes_under}

-- The tokens of a row.

abbrev pub sign_token : ℕ → Token
sign_token at = record { kind = tokens.Single; start = at; end = at + 1 }

abbrev pub IsSignByte : ℕ → Type 0
IsSignByte b = IsSign (kind_of (class_of (single_says b)))

-- a sign whose byte stands there
pub sign_by : (bytes : List ℕ) (at b : ℕ) → IsSignByte b → at < length bytes → slice_index bytes at ≡ b → CutsFrom bytes at (Ok (Some (sign_token at)))
sign_by bytes at b s lt e = sign_cut bytes at (kind_of (class_of (single_says b))) lt s (ap (λ (x : ℕ). kind_of (class_of (single_says x))) (sym e))

pub sign_said_by : (bytes : List ℕ) (at b : ℕ) → at < length bytes → slice_index bytes at ≡ b → lexeme_of bytes (sign_token at) ≡ single_says b
sign_said_by bytes at b lt e = alone_says bytes at (at + 1) 0 (omega arith) (omega (arith, lt)) ∙ ap single_says e

cuts_sign : (bytes : List ℕ) (at b end : ℕ) (ls : List Lexeme) → IsSignByte b → at < length bytes → slice_index bytes at ≡ b → Cuts bytes (at + 1) ls end → Cuts bytes at (single_says b ∷ ls) end
cuts_sign bytes at b end ls s lt e k = (sign_token at, sign_by bytes at b s lt e, sign_said_by bytes at b lt e, k)

comma_or_close : (b : ℕ) → (b ≡ 44) ⊎ (b ≡ 41) → IsSignByte b
comma_or_close b (inl e) = rw e tt
comma_or_close b (inr e) = rw e tt

-- a number right there, and a sign right after it
pub number_sign : (bytes : List ℕ) (at end sign : ℕ) → (sign ≡ 44) ⊎ (sign ≡ 41) → StandsThere bytes at tokens.Number end → end < length bytes → slice_index bytes end ≡ sign
    → (x : List ℕ) × Cuts bytes at (NumberOf x ∷ single_says sign ∷ []) (end + 1)
number_sign bytes at end sign s h lt e =
    let t : Token = record { kind = tokens.Number; start = at; end = end } in
    (slice_range bytes at end, (t, h.0, refl, cuts_sign bytes end sign (end + 1) [] (comma_or_close sign s) lt e refl))

pub three_numbers : (bytes : List ℕ) (at second third end : ℕ) → ((x : List ℕ) × Cuts bytes at (NumberOf x ∷ Separator ∷ []) second) → ((y : List ℕ) × Cuts bytes second (NumberOf y ∷ Separator ∷ []) third)
    → ((z : List ℕ) × Cuts bytes third (NumberOf z ∷ Closing ∷ []) end) → EndsRow bytes at end
three_numbers bytes at second third end a b c =
    let ls : List Lexeme = NumberOf b.0 ∷ Separator ∷ NumberOf c.0 ∷ Closing ∷ [] in
    let k = cuts_append bytes second third end (NumberOf b.0 ∷ Separator ∷ []) (NumberOf c.0 ∷ Closing ∷ []) b.1 c.1 in
    (a.0, b.0, c.0, cuts_append bytes at second end (NumberOf a.0 ∷ Separator ∷ []) ls a.1 k)

-- a comma and a row right after it
pub row_behind_comma : (bytes : List ℕ) (at end : ℕ) → at + 1 < length bytes → slice_index bytes at ≡ 44 → slice_index bytes (at + 1) ≡ 40 → EndsRow bytes (at + 2) end → HasRow bytes at end
row_behind_comma bytes at end lt e f h =
    let ls : List Lexeme = row_rest h.0 h.1 h.2 in
    let two : at + 2 ≡ at + 1 + 1 = omega arith in
    let k = subst (λ (n : ℕ). Cuts bytes n ls end) two h.3 in
    (h.0, h.1, h.2, cuts_sign bytes at 44 end (Opening ∷ ls) tt (omega (arith, lt)) e (cuts_sign bytes (at + 1) 40 end ls tt lt f k))

-- What it leads to.

row_goes : (d : Option ℕ) (bytes : List ℕ) (at end : ℕ) (x y z : List ℕ) → Cuts bytes at (row_rest x y z) end → Goes (Inside d ∷ []) [] bytes at end (row_rest x y z)
row_goes d bytes at end x y z h = record { cuts = h; leads = λ α. refl }

row_taken : (most depth : ℕ) (typed : List Bool) (bytes : List ℕ) (t : Token) (at end before middle after : ℕ) → Taken most tops.Inside depth typed bytes t at before middle → EndsRow bytes at end → Counts middle after 3
    → Taken most tops.Behind (depth - 1) typed bytes t end before after
row_taken most depth typed bytes t at end before middle after m h c =
    let ls : List Lexeme = row_rest h.0 h.1 h.2 in
    let e = told_append (lexeme_of bytes t ∷ m.rest) ls in
    let P : ℕ → Type 0 = λ n. Counts before after n in
    record {
      wanted = m.wanted;
      rest = m.rest ++ ls;
      begins = m.begins;
      goes = goes_trans m.wanted (signs most tops.Inside depth typed) (signs most tops.Behind (depth - 1) typed) bytes t.end at end m.rest ls m.goes
          (goes_under (Inside (Some (most - depth)) ∷ []) [] (wanted most (depth - 1) typed) bytes at end ls (row_goes (Some (most - depth)) bytes at end h.0 h.1 h.2 h.3));
      counts = subst P (sym e) (counts_more before middle after (told (lexeme_of bytes t ∷ m.rest)) 3 m.counts c);
    }

-- with what is passed over at once
pub taken_row : (most : ℕ) (level : Level) (typed : List Bool) (bytes : List ℕ) (t : Token) (at before middle after : ℕ) (r : Reached) → Taken most level.top level.depth typed bytes t at before middle
    → PassesRow bytes at level middle after r → Taken most r.level.top r.level.depth typed bytes t r.end before after
taken_row most level typed bytes t at before middle after r m (inl h) = rw (h.0, h.1, h.2) m
taken_row most level typed bytes t at before middle after r m (inr h) =
    let P : Top → Type 0 = λ x. Taken most x level.depth typed bytes t at before middle in
    rw (h.1, h.2) (row_taken most level.depth typed bytes t at r.end before middle after (subst P h.0 m) h.3 h.4)

pub fit_row : (level : Level) (typed : List Bool) (bytes : List ℕ) (at before after : ℕ) (r : Reached) → IsFit level.top level.depth typed → PassesRow bytes at level before after r → IsFit r.level.top r.level.depth typed
fit_row level typed bytes at before after r f (inl h) = rw h.0 f
fit_row level typed bytes at before after r f (inr h) = rw h.1 tt

-- a list is open whose inside is wanted
pub inside_open : (top : Top) (depth : ℕ) (typed : List Bool) → IsFit top depth typed → top ≡ tops.Inside → 0 < depth
inside_open tops.Inside depth typed f e = f.0
inside_open _ depth typed f e = cc

-- Rows after a comma.

pub one_row_more : (bytes : List ℕ) (at mid end before middle after : ℕ) → PassesRows bytes at before middle mid → HasRow bytes mid end → Counts middle after 4 → PassesRows bytes at before after end
one_row_more bytes at mid end before middle after (inl h) r c =
    let P : ℕ → Type 0 = λ n. Counts n after 4 in
    inr (1, (mid, sym h.0, r), subst P h.1 c)
one_row_more bytes at mid end before middle after (inr h) r c =
    let e : 4 * h.0 + 4 ≡ 4 * suc h.0 = omega arith in
    let P : ℕ → Type 0 = λ n. Counts before after n in
    inr (suc h.0, (mid, h.1, r), subst P e (counts_more before middle after (4 * h.0) 4 h.2 c))

-- one of them leads back to where it begins
open_leads : (d e : ℕ) (ρ α : List Sign) (x y z : List ℕ) → d ≡ suc e → run ((After (Some d) ∷ ρ) ++ α) (classes (Separator ∷ Opening ∷ row_rest x y z)) ≡ Some ((After (Some d) ∷ ρ) ++ α)
open_leads d e ρ α x y z h = rw h refl

behind_leads : (most k : ℕ) (typed : List Bool) (α : List Sign) (x y z : List ℕ) → suc k < most → slice_index_or typed k false ≡ false
    → run (wanted most (suc k) typed ++ α) (classes (Separator ∷ Opening ∷ row_rest x y z)) ≡ Some (wanted most (suc k) typed ++ α)
behind_leads most k typed α x y z lt f =
    rw f (open_leads (most - suc k) (most - (suc k + 1)) (wanted most k typed) α x y z (one_less most (suc k) lt))

rows_go : (most k many : ℕ) (typed : List Bool) (bytes : List ℕ) (at end : ℕ) → suc k < most → slice_index_or typed k false ≡ false → HasRows many bytes at end
    → (ls : List Lexeme) × (told ls ≡ 4 * many) × Goes (wanted most (suc k) typed) (wanted most (suc k) typed) bytes at end ls
rows_go most k zero typed bytes at end lt f h =
    let P : ℕ → Type 0 = λ x. Goes (wanted most (suc k) typed) (wanted most (suc k) typed) bytes at x [] in
    ([], refl, subst P h (goes_here (wanted most (suc k) typed) bytes at))
rows_go most k (suc many) typed bytes at end lt f h =
    let r = rows_go most k many typed bytes at h.0 lt f h.1 in
    let row = h.2 in
    let w : List Sign = wanted most (suc k) typed in
    let ls : List Lexeme = Separator ∷ Opening ∷ row_rest row.0 row.1 row.2 in
    let t = told_append r.0 ls in
    let four : told ls ≡ 4 = refl in
    let s = r.1 in
    let goes : Goes w w bytes h.0 end ls = record { cuts = row.3; leads = λ α. behind_leads most k typed α row.0 row.1 row.2 lt f } in
    (r.0 ++ ls, omega (arith, t, four, s), goes_trans w w w bytes at h.0 end r.0 ls r.2 goes)

many_taken : (most k many : ℕ) (typed : List Bool) (bytes : List ℕ) (t : Token) (at end before middle after : ℕ) → suc k < most → slice_index_or typed k false ≡ false
    → Taken most tops.Behind (suc k) typed bytes t at before middle → HasRows many bytes at end → Counts middle after (4 * many) → Taken most tops.Behind (suc k) typed bytes t end before after
many_taken most k many typed bytes t at end before middle after lt f m h c =
    let g = rows_go most k many typed bytes at end lt f h in
    let w : List Sign = wanted most (suc k) typed in
    let e = told_append (lexeme_of bytes t ∷ m.rest) g.0 in
    let n : told (lexeme_of bytes t ∷ m.rest) + 4 * many ≡ told ((lexeme_of bytes t ∷ m.rest) ++ g.0) = sym (e ∙ ap (λ (x : ℕ). told (lexeme_of bytes t ∷ m.rest) + x) g.1) in
    let P : ℕ → Type 0 = λ x. Counts before after x in
    record {
      wanted = m.wanted;
      rest = m.rest ++ g.0;
      begins = m.begins;
      goes = goes_trans m.wanted w w bytes t.end at end m.rest g.0 m.goes g.2;
      counts = subst P n (counts_more before middle after (told (lexeme_of bytes t ∷ m.rest)) (4 * many) m.counts c);
    }

-- after a value where a list may hold lists
open_taken : (most depth many : ℕ) (typed : List Bool) (bytes : List ℕ) (t : Token) (at end before middle after : ℕ) → 0 < depth → depth < most → slice_index_or typed (depth - 1) false ≡ false
    → Taken most tops.Behind depth typed bytes t at before middle → HasRows many bytes at end → Counts middle after (4 * many) → Taken most tops.Behind depth typed bytes t end before after
open_taken most zero many typed bytes t at end before middle after some lt f m h c = absurd (omega (arith, some))
open_taken most (suc k) many typed bytes t at end before middle after some lt f m h c =
    let one : suc k - 1 ≡ k = omega arith in
    let lists = subst (λ (i : ℕ). slice_index_or typed i false ≡ false) one f in
    many_taken most k many typed bytes t at end before middle after lt lists m h c

rows_taken : (most depth : ℕ) (typed : List Bool) (bytes : List ℕ) (t : Token) (at end before middle after : ℕ) → 0 < depth → depth < most → slice_index_or typed (depth - 1) false ≡ false
    → Taken most tops.Behind depth typed bytes t at before middle → PassesRows bytes at middle after end → Taken most tops.Behind depth typed bytes t end before after
rows_taken most depth typed bytes t at end before middle after some lt f m (inl h) = rw (h.0, h.1) m
rows_taken most depth typed bytes t at end before middle after some lt f m (inr h) = open_taken most depth h.0 typed bytes t at end before middle after some lt f m h.1 h.2

pub taken_more : (most : ℕ) (typed : List Bool) (bytes : List ℕ) (t : Token) (before middle after : ℕ) (old new : Reached) → Taken most old.level.top old.level.depth typed bytes t old.end before middle
    → PassesMore bytes most typed old middle after new → Taken most new.level.top new.level.depth typed bytes t new.end before after
taken_more most typed bytes t before middle after old new m (inl h) = rw (h.0, h.1) m
taken_more most typed bytes t before middle after old new m (inr h) =
    let P : Top → Type 0 = λ x. Taken most x old.level.depth typed bytes t old.end before middle in
    rw (h.0, h.1) (rows_taken most old.level.depth typed bytes t old.end new.end before middle after h.2 h.3 h.4 (subst P h.1 m) h.5)
