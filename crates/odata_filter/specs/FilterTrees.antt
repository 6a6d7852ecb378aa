-- What a filter's tree means.
use Rattle.odata_filter.specs.declared.filter_node.FilterNode.{FilterNode}
use Rattle.odata_filter.specs.declared.filter_node.FilterNode.TheVariants.{Test, Not', And', Or'}
use Rattle.odata_filter.specs.Conditions.{Condition, Tested, Negated, Both, Either}

-- the filter that a tree stands for
abbrev pub condition_of : FilterNode → Condition
condition_of (Test test) = Tested test
condition_of (Not' p x) = Negated (condition_of x)
condition_of (And' p x q y) = Both (condition_of x) (condition_of y)
condition_of (Or' p x q y) = Either (condition_of x) (condition_of y)
