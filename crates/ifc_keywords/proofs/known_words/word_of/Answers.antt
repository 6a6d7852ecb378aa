use Rattle.std.proofs.Common.{ℕ, List, [], Bor, sym}
use Rattle.std.proofs.lemmas.List.{get_or-map}
use Rattle.ifc_keywords.proofs.known_words.word_of.Goals as goal

pub returns : goal.returns
returns c = sym (get_or-map (λ (w : Bor (List ℕ)). w.now) c.args.words.now c.args.code _ [] c.requires)
