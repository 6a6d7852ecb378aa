use Rattle.std.proofs.Common.{List, ℕ, Some, sym, ap, ◌∙◌}
use Rattle.ifc_keywords.proofs.Numbered.{keyword_of}
use Rattle.ifc_keywords.proofs.known_words.known_word.Goals as goal

pub returns-then-code-lt-KEYWORDS-clause-some : goal.returns-then-code-lt-KEYWORDS-clause-some
returns-then-code-lt-KEYWORDS-clause-some c = λ keyword e. keyword_of keyword c.args.code c.if-code-lt-KEYWORDS.true e ∙ ap (λ (w : List ℕ). Some w) (sym c.word_at.ensures)
