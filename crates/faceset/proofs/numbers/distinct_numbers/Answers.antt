use Rattle.std.proofs.Common.{filter_map}
use Rattle.p21_values.specs.Values.{reference_of}
use Rattle.faceset.proofs.Numbered.{once_rises, once_same}
use Rattle.faceset.proofs.numbers.distinct_numbers.Goals as goal

pub returns-clause-rises : goal.returns-clause-rises
returns-clause-rises c = once_rises c.sort.new.self.items c.dedup.new.self.items c.in_ok-sort.ensures.sorted c.dedup.ensures.filtered

pub returns-clause-same : goal.returns-clause-same
returns-clause-same c =
    once_same c.in_ok-ids.ids.items c.sort.new.self.items c.dedup.new.self.items (filter_map reference_of c.args.values.now) c.in_ok-ids.ensures c.sort.ensures.permutation c.dedup.ensures.filtered
