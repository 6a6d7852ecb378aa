use Rattle.std.proofs.Common.{◌+◌, ◌≤◌, length, sym, ◌∙◌, arith}
use Rattle.p21_table.proofs.TextsThere.{guid_long, guid_there}
use Rattle.p21_table.proofs.first_byte.guid_by_bytes.Goals as goal

pub returns-then-are_guid_bytes-clause-guid : goal.returns-then-are_guid_bytes-clause-guid
returns-then-are_guid_bytes-clause-guid c =
    let le : c.args.at + 25 ≤ length c.args.bytes.now = omega arith in
    (guid_long c.args.bytes.now c.args.at le, sym c.are_guid_bytes.ensures ∙ c.if-are_guid_bytes.true)

pub returns-then-are_guid_bytes-clause-words : goal.returns-then-are_guid_bytes-clause-words
returns-then-are_guid_bytes-clause-words c = λ v s.
    let le : c.args.at + 25 ≤ length c.args.bytes.now = omega arith in
    guid_there c.args.bytes.now c.args.at v le c.if-bytes-at-ne39.false c.if-bytes-at-ne39-2.false c.if-bytes-at-eq39.false (sym c.are_guid_bytes.ensures ∙ c.if-are_guid_bytes.true) s
