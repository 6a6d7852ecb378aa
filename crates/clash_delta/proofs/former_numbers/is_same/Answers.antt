use Rattle.clash_delta.specs.inner.ElementNumbers.{subject_of}
use Rattle.clash_delta.proofs.Keys.{same_key, other_key}
use Rattle.clash_delta.proofs.former_numbers.is_same.Goals as goal

pub returns-then-is_eq : goal.returns-then-is_eq
returns-then-is_eq c =
    same_key (subject_of c.args.before.now c.args.old) (subject_of c.args.after.now c.args.new) c.element.result.now c.element-then-is_eq.result.now c.key_order.result c.is_eq.result c.is_like.result c.element.ensures.element
    c.element-then-is_eq.ensures.element c.key_order.ensures c.is_eq.ensures c.if-is_eq.true c.is_like.ensures

pub returns-else-is_eq : goal.returns-else-is_eq
returns-else-is_eq c =
    other_key (subject_of c.args.before.now c.args.old) (subject_of c.args.after.now c.args.new) c.key_order.result c.is_eq.result c.key_order.ensures c.is_eq.ensures c.if-is_eq.false
