use Rattle.std.proofs.Common.{◌≡◌, ℕ, List, [], get_or, map, true, arith, sym, ap, ◌∙◌}
use Rattle.std.proofs.lemmas.List.{length-map}
use Rattle.std.specs.Char.{to_ascii_uppercase}
use Rattle.std.specs.Str.{bytes_eq}
use Rattle.ifc_keywords.specs.Codes.{known, hash_of}
use Rattle.ifc_keywords.proofs.Numbered.{is_same, same_is, in_upper, has_number, no_number, short_none}
use Rattle.ifc_keywords.proofs.known_words.code_of.Goals as goal
use Rattle.ifc_keywords.proofs.known_words.code_of.Goals.{then-eq-via-then-eq, then-eq-via-else-eq+then-is_word}

pub returns-then-word-lt4 : goal.returns-then-word-lt4
returns-then-word-lt4 c = let n = length-map c.args.word.now to_ascii_uppercase in short_none _ (omega (arith, n, c.if-word-lt4.true))

pub returns-then-eq : goal.returns-then-eq
returns-then-eq c =
    let word : c.as_bytes-known.result.now ≡ get_or known c.entry-code.result [] = c.as_bytes-known.ensures.value ∙ c.word_at.ensures in
    let said : map to_ascii_uppercase c.args.word.now ≡ get_or known c.entry-code.result [] = elim c.then-eq.branch [
      | then-eq-via-then-eq w ↦
          ap (λ (k : List ℕ). map to_ascii_uppercase k) (is_same _ _ (sym c.eq.ensures ∙ w.if-eq.true) ∙ word) ∙ in_upper c.entry-code.result c.if-code-lt-KEYWORDS.true
      | then-eq-via-else-eq+then-is_word w ↦ is_same _ _ (sym w.is_word.ensures ∙ w.if-is_word.true) ∙ word
    ] in
    has_number _ c.entry-code.result c.if-code-lt-KEYWORDS.true said

pub returns-else-is_word : goal.returns-else-is_word
returns-else-is_word c = no_number _ (λ j lt e.
    let same : c.entry-code.result ≡ j = c.entry-code.ensures j lt (sym (ap hash_of e) ∙ sym c.hash.ensures.hash) in
    let word : c.as_bytes-known.result.now ≡ get_or known j [] = c.as_bytes-known.ensures.value ∙ c.word_at.ensures ∙ ap (λ (n : ℕ). get_or known n []) same in
    let yes : bytes_eq (map to_ascii_uppercase c.args.word.now) c.as_bytes-known.result.now ≡ true = same_is _ _ (e ∙ sym word) in
    let no = c.if-is_word.false in
    let told = c.is_word.ensures ∙ yes in
    cc)

pub returns-else-code-lt-KEYWORDS : goal.returns-else-code-lt-KEYWORDS
returns-else-code-lt-KEYWORDS c = no_number _ (λ j lt e. let same = c.entry-code.ensures j lt (sym (ap hash_of e) ∙ sym c.hash.ensures.hash) in omega (arith, same, lt, c.if-code-lt-KEYWORDS.false))
