-- Steps of scans over a text: what a definition makes of the bytes from a place on.
use Rattle.std.proofs.Common.{◌≡◌, ℕ, zero, suc, ◌+◌, ◌-◌, ◌<◌, ◌≤◌, Bool, true, false, not, cond, eqb, List, [], ◌∷◌, length, get_or, drop, Some, None, sym, ap, ◌∙◌, arith}
use Rattle.std.specs.List.{take_while}
use Rattle.std.proofs.lemmas.List.{at_drop_more, at_drop_all}
use Rattle.std.proofs.lemmas.List.Sums.{take_while-cons}
use Rattle.odata_filter.specs.declared.filter_tokens.Token.{Token}
use Rattle.odata_filter.specs.FilterTokens.{is_word_byte, text_end, token_at, tokens_from}
use Rattle.odata_filter.specs.FilterLiterals.{unquoted}

pub text_end_more : (text : List ℕ) (at : ℕ) (after : Bool) → at < length text
    → text_end after at (drop at text)
    ≡ cond (eqb (get_or text at 0) 39) (text_end (not after) (at + 1) (drop (at + 1) text))
    (cond after (Some at) (text_end false (at + 1) (drop (at + 1) text)))
text_end_more text at after h = at_drop_more (text_end after at) text at 0 h

pub text_end_all : (text : List ℕ) (at : ℕ) (after : Bool) → length text ≤ at
    → text_end after at (drop at text) ≡ cond after (Some at) None
text_end_all text at after h = at_drop_all (text_end after at) text at h

pub word_more : (text : List ℕ) (at : ℕ) → at < length text → is_word_byte (get_or text at 0) ≡ true
    → length (take_while is_word_byte (drop at text)) ≡ suc (length (take_while is_word_byte (drop (at + 1) text)))
word_more text at h is =
    at_drop_more (λ bytes. length (take_while is_word_byte bytes)) text at 0 h
    ∙ (ap length (take_while-cons is_word_byte (get_or text at 0) (drop (at + 1) text))
    ∙ ap (λ b. length (cond b (get_or text at 0 ∷ take_while is_word_byte (drop (at + 1) text)) [])) is)

pub word_ends : (text : List ℕ) (at : ℕ) → at < length text → is_word_byte (get_or text at 0) ≡ false
    → length (take_while is_word_byte (drop at text)) ≡ 0
word_ends text at h is =
    at_drop_more (λ bytes. length (take_while is_word_byte bytes)) text at 0 h
    ∙ (ap length (take_while-cons is_word_byte (get_or text at 0) (drop (at + 1) text))
    ∙ ap (λ b. length (cond b (get_or text at 0 ∷ take_while is_word_byte (drop (at + 1) text)) [])) is)

pub word_all : (text : List ℕ) (at : ℕ) → length text ≤ at → length (take_while is_word_byte (drop at text)) ≡ 0
word_all text at h = at_drop_all (λ bytes. length (take_while is_word_byte bytes)) text at h

pub blank_more : (text : List ℕ) (at : ℕ) → at < length text → eqb (get_or text at 0) 32 ≡ true
    → tokens_from at zero (drop at text) ≡ tokens_from (at + 1) zero (drop (at + 1) text)
unfolding tokens_from
blank_more text at h is =
    at_drop_more (tokens_from at zero) text at 0 h
    ∙ ap (λ b. cond b (tokens_from (at + 1) zero (drop (at + 1) text))
    (token_at at (get_or text at 0) (drop (at + 1) text) ∷ tokens_from (at + 1)
    ((token_at at (get_or text at 0) (drop (at + 1) text)).end - (at + 1)) (drop (at + 1) text))) is

pub tokens_all : (text : List ℕ) (at : ℕ) → length text ≤ at → tokens_from at zero (drop at text) ≡ []
unfolding tokens_from
tokens_all text at h = at_drop_all (tokens_from at zero) text at h

-- the bytes of a token belong to no other
pub skip_more : (text : List ℕ) (n at : ℕ) → at + n ≤ length text
    → tokens_from at n (drop at text) ≡ tokens_from (at + n) zero (drop (at + n) text)
unfolding tokens_from
skip_more text zero at h =
    let e : at ≡ at + zero = omega arith in ap (λ k. tokens_from k zero (drop k text)) e
skip_more text (suc n) at h =
    let e : (at + 1) + n ≡ at + suc n = omega arith in
    at_drop_more (tokens_from at (suc n)) text at 0 (omega arith)
    ∙ (skip_more text n (at + 1) (omega arith) ∙ ap (λ k. tokens_from k zero (drop k text)) e)

pub token_more : (text : List ℕ) (at : ℕ) (t : Token) → at < length text → eqb (get_or text at 0) 32 ≡ false
    → t ≡ token_at at (get_or text at 0) (drop (at + 1) text) → at < t.end → t.end ≤ length text
    → tokens_from at zero (drop at text) ≡ t ∷ tokens_from t.end zero (drop t.end text)
unfolding tokens_from
token_more text at t h other is low high =
    let e : (at + 1) + (t.end - (at + 1)) ≡ t.end = omega arith in
    at_drop_more (tokens_from at zero) text at 0 h
    ∙ (ap (λ b. cond b (tokens_from (at + 1) zero (drop (at + 1) text))
    (token_at at (get_or text at 0) (drop (at + 1) text) ∷ tokens_from (at + 1)
    ((token_at at (get_or text at 0) (drop (at + 1) text)).end - (at + 1)) (drop (at + 1) text))) other
    ∙ (ap (λ (u : Token). u ∷ tokens_from (at + 1) (u.end - (at + 1)) (drop (at + 1) text)) (sym is)
    ∙ ap (λ ts. t ∷ ts) (skip_more text (t.end - (at + 1)) (at + 1) (omega arith)
    ∙ ap (λ k. tokens_from k zero (drop k text)) e)))

pub unquoted_more : (bytes : List ℕ) (at : ℕ) (after : Bool) → at < length bytes
    → unquoted after (drop at bytes)
    ≡ cond (eqb (get_or bytes at 0) 39)
    (cond after (unquoted false (drop (at + 1) bytes)) (get_or bytes at 0 ∷ unquoted true (drop (at + 1) bytes)))
    (get_or bytes at 0 ∷ unquoted false (drop (at + 1) bytes))
unquoted_more bytes at after h = at_drop_more (unquoted after) bytes at 0 h

pub unquoted_all : (bytes : List ℕ) (at : ℕ) (after : Bool) → length bytes ≤ at → unquoted after (drop at bytes) ≡ []
unquoted_all bytes at after h = at_drop_all (unquoted after) bytes at h

pub ruleset words = (word_more, word_ends, word_all)

pub ruleset texts = (text_end_more, text_end_all)

pub ruleset cuts = (blank_more, token_more, tokens_all)

pub ruleset quotes = (unquoted_more, unquoted_all)
