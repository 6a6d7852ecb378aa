use Rattle.std.proofs.Common.{◌<◌, refl, arith}
use Rattle.bim_text.specs.TextSpellings.{is_plain}
use Rattle.p21_table.specs.declared.first_byte.TheConstants.{PLAIN_BYTES}
use Rattle.p21_table.proofs.TextsThere.{byte_told}
use Rattle.p21_table.proofs.first_byte.is_plain_byte.Goals as goal

pub returns : goal.returns
returns c = let lt : c.args.byte < 256 = omega arith in byte_told is_plain PLAIN_BYTES c.args.byte refl refl lt
