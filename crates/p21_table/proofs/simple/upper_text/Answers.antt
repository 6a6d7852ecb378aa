use Rattle.std.proofs.Common.{◌≡◌, map, refl, rules}
use Rattle.std.specs.Char.{to_ascii_uppercase}
use Rattle.p21_lexer.specs.declared.token.TokenKind.TheVariants as tokens
use Rattle.p21_values.proofs.Pieces.{ascii_said}
use Rattle.p21_table.proofs.simple.upper_text.Goals as goal

pub text_of-requires : goal.text_of-requires
text_of-requires c =
    let e : c.deref.result.now ≡ map to_ascii_uppercase c.args.word.now = search rules in
    rw e (ascii_said tokens.Word c.args.word.now c.requires refl)
