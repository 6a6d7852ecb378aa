use Rattle.std.proofs.Common.{refl}
use Rattle.ifc_keywords.specs.Codes.{known, hash_of}
use Rattle.ifc_keywords.specs.declared.known_words.TheConstants.{TABLE}
use Rattle.ifc_keywords.proofs.Numbered.{entry_is}
use Rattle.ifc_keywords.proofs.known_words.entry.Goals as goal

pub returns : goal.returns
unfolding known hash_of
returns c = λ k lt e. entry_is TABLE c.args.hash k refl lt e
