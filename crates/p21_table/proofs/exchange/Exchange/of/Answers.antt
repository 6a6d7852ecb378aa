use Rattle.std.proofs.Common.{List, ◌≤◌, length, sym, subst}
use Rattle.p21_values.specs.Counting.{values_of}
use Rattle.p21_values.specs.InstancePlaces.{Rises}
use Rattle.p21_values.specs.declared.limits.TheConstants.{MOST_INSTANCES, MOST_VALUES}
use Rattle.p21_values.specs.declared.value.Instance.{Instance}
use Rattle.p21_values.proofs.Stood.{world_told}
use Rattle.p21_table.proofs.exchange.Exchange.of.Goals as goal

pub invariant_of-result-2 : goal.invariant_of-result-2
invariant_of-result-2 c =
    let P : List Instance → Type 0 = λ w. Rises w × (length w ≤ MOST_INSTANCES) × (values_of w ≤ MOST_VALUES) in
    subst P (sym (world_told c.args.bytes c.args.starts.items c.args.heads.items c.result-1.given.0 c.requires.0 c.requires.1)) (c.requires.2, c.requires.3, c.requires.4)

pub returns : goal.returns
returns c = λ world h. world_told c.args.bytes c.args.starts.items c.args.heads.items c.result-1.given.0 world h
