use Rattle.ifc_keywords.specs.Codes.{known}
use Rattle.ifc_keywords.proofs.known_words.word_at.Goals as goal

pub returns : goal.returns
unfolding known
returns c = c.word_of.ensures
