use Rattle.std.proofs.Common.{◌<◌, refl, arith}
use Rattle.p21_table.specs.declared.first_byte.TheConstants.{GUID_BYTES}
use Rattle.bim_model.specs.Guids.{is_guid_char}
use Rattle.p21_table.proofs.TextsThere.{byte_told}
use Rattle.p21_table.proofs.first_byte.is_guid_byte.Goals as goal

pub returns : goal.returns
returns c = let lt : c.args.byte < 256 = omega arith in byte_told is_guid_char GUID_BYTES c.args.byte refl refl lt
