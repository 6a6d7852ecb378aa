use Rattle.std.proofs.Common.{refl}
use Rattle.std.proofs.lemmas.List.{length-map}
use Rattle.std.specs.Char.{to_ascii_uppercase}
use Rattle.ifc_keywords.specs.Codes.{hash_of}
use Rattle.ifc_keywords.proofs.known_words.hash.Goals as goal

pub returns-clause-hash : goal.returns-clause-hash
unfolding hash_of
returns-clause-hash c =
    let n = length-map c.args.word.now to_ascii_uppercase in
    let a = c.upper_at-third.ensures.upper in
    let b = c.upper_at-middle.ensures.upper in
    let d = c.upper_at-last.ensures.upper in
    rw (a, b, d, n) refl
