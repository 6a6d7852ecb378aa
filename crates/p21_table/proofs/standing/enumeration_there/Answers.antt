use Rattle.std.proofs.Common.{ℕ, List, Some, ap, ◌∙◌, rules, slice_range}
use Rattle.p21_table.proofs.FirstTokens.{letters_by, letters_here, no_letters}
use Rattle.p21_values.proofs.Pieces.{letters_two}
use Rattle.p21_table.proofs.standing.enumeration_there.Goals as goal

pub returns-in-Enumeration : goal.returns-in-Enumeration
returns-in-Enumeration c = λ v b. ap (λ (bs : List ℕ). Some bs) c.inner.ensures ∙ letters_here c.args.bytes.now c.args.first.token c.in-Enumeration.is ∙ letters_by c.args.bytes.now c.args.first.token v b

pub returns-in_default : goal.returns-in_default
returns-in_default c = λ v b.
    let t = c.args.first.token in
    no_letters t.kind (slice_range c.args.bytes.now t.start t.end) (search rules) ∙ letters_by c.args.bytes.now t v b

pub inner-requires : goal.inner-requires
inner-requires c =
    let t = c.args.first.token in
    letters_two t.kind (slice_range c.args.bytes.now t.start t.end) c.requires.spelled c.in-Enumeration.is
