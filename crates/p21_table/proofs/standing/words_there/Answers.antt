use Rattle.std.proofs.Common.{ℕ, List, Some, ap, ◌∙◌, rules, slice_range}
use Rattle.p21_table.proofs.FirstTokens.{words_by, words_here, no_words}
use Rattle.p21_values.proofs.Pieces.{words_two}
use Rattle.p21_table.proofs.standing.words_there.Goals as goal

pub returns-in-Words : goal.returns-in-Words
returns-in-Words c = λ v b. ap (λ (bs : List ℕ). Some bs) c.inner.ensures ∙ words_here c.args.bytes.now c.args.first.token c.in-Words.is ∙ words_by c.args.bytes.now c.args.first.token v b

pub returns-in_default : goal.returns-in_default
returns-in_default c = λ v b.
    let t = c.args.first.token in
    no_words t.kind (slice_range c.args.bytes.now t.start t.end) (search rules) ∙ words_by c.args.bytes.now t v b

pub inner-requires : goal.inner-requires
inner-requires c =
    let t = c.args.first.token in
    words_two t.kind (slice_range c.args.bytes.now t.start t.end) c.requires.spelled c.in-Words.is
