use Rattle.std.proofs.Common.{List, sym, ap, ◌∙◌}
use Rattle.bim_model.specs.Snapshots.{Version}
use Rattle.bim_model.specs.declared.rules.Rule.{Rule}
use Rattle.bim_model.specs.declared.rules.RuleKind.TheVariants.{Clash, Pierce, Ignore}
use Rattle.bucket_grid.specs.Grids.{GridValue}
use Rattle.clash_publish.specs.Listed.{distance_at}
use Rattle.clash_publish.proofs.Ruled.{distance_past, distance_here}
use Rattle.clash_publish.proofs.published.Published.distance.Goals as goal

pub returns-then-rule-rules : goal.returns-then-rule-rules
returns-then-rule-rules c =
    let rules = c.list-rules.ensures.same ∙ c.rules.ensures.same ∙ ap (λ (g : GridValue). g.version.rules) c.get.ensures ∙ ap (λ (v : Version). v.rules) c.self.view_is in
    sym (distance_past c.list-rules.result.now c.args.rule c.if-rule-rules.true) ∙ ap (λ (l : List Rule). distance_at l c.args.rule) rules

pub returns-in-Clash : goal.returns-in-Clash
returns-in-Clash c =
    let rules = c.list-rules.ensures.same ∙ c.rules.ensures.same ∙ ap (λ (g : GridValue). g.version.rules) c.get.ensures ∙ ap (λ (v : Version). v.rules) c.self.view_is in
    sym (distance_here c.list-rules.result.now c.args.rule _ (Clash c.in-Clash.distance) c.if-rule-rules.false c.in-Clash.is) ∙ ap (λ (l : List Rule). distance_at l c.args.rule) rules

pub returns-in-Pierce : goal.returns-in-Pierce
returns-in-Pierce c =
    let rules = c.list-rules.ensures.same ∙ c.rules.ensures.same ∙ ap (λ (g : GridValue). g.version.rules) c.get.ensures ∙ ap (λ (v : Version). v.rules) c.self.view_is in
    sym (distance_here c.list-rules.result.now c.args.rule _ Pierce c.if-rule-rules.false c.in-Pierce.is) ∙ ap (λ (l : List Rule). distance_at l c.args.rule) rules

pub returns-in-Ignore : goal.returns-in-Ignore
returns-in-Ignore c =
    let rules = c.list-rules.ensures.same ∙ c.rules.ensures.same ∙ ap (λ (g : GridValue). g.version.rules) c.get.ensures ∙ ap (λ (v : Version). v.rules) c.self.view_is in
    sym (distance_here c.list-rules.result.now c.args.rule _ Ignore c.if-rule-rules.false c.in-Ignore.is) ∙ ap (λ (l : List Rule). distance_at l c.args.rule) rules
