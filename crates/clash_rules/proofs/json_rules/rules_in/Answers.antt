use Rattle.std.proofs.Common.{◌+◌, length, drop, sym, ap, subst, ◌∙◌, arith}
use Rattle.std.proofs.lemmas.List.{drop_all, length_push}
use Rattle.std.proofs.lemmas.List.Elements.{All-push, All-same}
use Rattle.serde_json.specs.View.{view, items_view}
use Rattle.bim_model.specs.Rules.{IsRule}
use Rattle.clash_rules.specs.Json.{rule_in, rules_from, IsFault}
use Rattle.clash_rules.proofs.Loops.{front, rule_read, fault_on, all_read, residual}
use Rattle.clash_rules.proofs.json_rules.rules_in.Goals as goal

pub loop-index-preserved : goal.loop-index-preserved
loop-index-preserved c =
    let l = c.loop-index in
    let items = c.args.items.now in
    let v = c.index-items-index.result in
    let rule = c.in_ok-rule.rule in
    let push = c.in_ok-push_rule.ensures in
    record {
      read =
          ap (λ rs. front rs (rules_from (l.index + 1) (items_view (drop (l.index + 1) items)))) push
          ∙ rule_read items l.index v l.rules.items rule (rules_from 0 (items_view items)) c.loop-index-test.true (ap (λ x. rule_in l.index (view x)) (sym c.index-items-index.is) ∙ c.in_ok-rule.ensures.read) l.invariant.read;
      good = All-same IsRule _ _ push (All-push IsRule l.rules.items rule l.invariant.good c.in_ok-rule.ensures.good);
      count = ap length push ∙ length_push l.rules.items rule ∙ ap (λ n. n + 1) l.invariant.count;
    }

pub returns-clause-read : goal.returns-clause-read
returns-clause-read c =
    let l = c.loop-index in
    all_read c.args.items.now l.index l.rules.items (rules_from 0 (items_view c.args.items.now)) (drop_all l.index c.args.items.now (omega arith)) l.invariant.read

pub returns-in_err-rule-clause-fault : goal.returns-in_err-rule-clause-fault
returns-in_err-rule-clause-fault c =
    let l = c.loop-index in
    let items = c.args.items.now in
    let v = c.index-items-index.result in
    let e = c.in_err-rule.field-0.0 in
    rw (residual _ _ c.from_residual-in_err-rule.ensures.1)
    (fault_on items l.index v l.rules.items e (rules_from 0 (items_view items)) c.loop-index-test.true (subst (λ x. IsFault e (rule_in l.index (view x))) c.index-items-index.is c.in_err-rule.ensures.read) l.invariant.read)
