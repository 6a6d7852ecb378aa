use Rattle.std.proofs.Common.{◌≡◌, take}
use Rattle.std.specs.List.{list_all}
use Rattle.bim_model.specs.Guids.{is_guid_char}
use Rattle.p21_table.proofs.first_byte.are_guid_bytes.Given as goal

abbrev pub invariant-loop-byte : goal.invariant-loop-byte
invariant-loop-byte l = l.all ≡ list_all is_guid_char (take l.byte-index l.bytes)
