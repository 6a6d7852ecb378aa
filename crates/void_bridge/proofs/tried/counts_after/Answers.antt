use Rattle.std.proofs.Common.{length, ◌∙◌, ap, ℕ, ◌+◌}
use Rattle.std.proofs.lemmas.List.{length_push}
use Rattle.void_bridge.proofs.TriedBridges.{none_yet, one_more}
use Rattle.void_bridge.proofs.tried.counts_after.Goals as goal

pub loop-m-init : goal.loop-m-init
loop-m-init c = record {
  count = ap length c.in_ok-made.ensures.items;
  tried = none_yet c.args.tried.now c.args.from c.args.more c.args.taken c.in_ok-made.made.items c.in_ok-made.ensures.items;
}

pub loop-m-preserved : goal.loop-m-preserved
loop-m-preserved c = record {
  count = ap length c.in_ok-push.ensures.items ∙ (length_push c.loop-m.made.items c.count_of.result ∙ ap (λ (n : ℕ). n + 1) c.loop-m.invariant.count);
  tried = one_more c.args.tried.now c.args.from c.args.more c.args.taken c.loop-m.made.items c.push.new.self.items c.count_of.result c.loop-m.m c.loop-m.invariant.count c.in_ok-push.ensures.items c.loop-m.invariant.tried c.count_of.ensures;
}
