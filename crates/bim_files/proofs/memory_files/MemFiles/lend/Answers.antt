use Rattle.std.proofs.Common.{◌≡◌, List, ℕ}
use Rattle.bim_files.specs.MemoryFiles.{LentState, fresh_source}
use Rattle.bim_files.proofs.Lending.{lends_first, ok_gives, pushed}
use Rattle.bim_files.proofs.memory_files.MemFiles.lend.Goals as goal

pub returns-clause-lends : goal.returns-clause-lends
returns-clause-lends c =
    let first = rw c.as_slice-2.ensures.value at c.in_ok-place.ensures.found in
    let whole = ok_gives c.source_of.result c.in_ok-source.source (λ (s : LentState). s ≡ fresh_source c.index.result.now c.self.inside.most) c.in_ok-source.ensures.value c.source_of.ensures in
    let named = ok_gives c.copy.result c.in_ok-lent.lent (λ (t : List ℕ). t ≡ c.args.name.now) c.in_ok-lent.ensures.value c.copy.ensures in
    let more = pushed c.self.inside.lent.items c.push.new.self.items c.in_ok-lent.lent c.args.name.now c.push.result c.push.ensures.items c.in_ok-ok.ensures.variant named in
    rw (← c.self.view_is)
    (lends_first c.self.inside.files.items c.self.inside.lent.items c.push.new.self.items c.args.name.now c.in_ok-place.place c.self.inside.most c.index.result.now
    c.in_ok-source.source first c.index.ensures whole more)
