use Rattle.std.proofs.Common.{◌≡◌, List, [], ◌∷◌, ◌++◌, Some, sym, ap, ◌∙◌}
use Rattle.odata_filter.specs.declared.filter_state.Level.{Level}
use Rattle.odata_filter.specs.inner.FilterSteps.{split_last}
use Rattle.odata_filter.proofs.Accepts.{split_last_push}
use Rattle.odata_filter.proofs.filter_levels.split_last.Goals as goal

pub returns-in-Some : goal.returns-in-Some
returns-in-Some c =
    let pop : c.into_vec-levels.result.items ≡ c.pop.new.self.items ++ c.in-Some.level ∷ [] = c.in-Some.ensures.items in
    ap (λ (ls : List Level). Some (ls, c.in-Some.level)) c.from_vec.ensures
    ∙ (sym (split_last_push c.pop.new.self.items c.in-Some.level)
    ∙ ap (λ (ls : List Level). split_last ls) (sym pop ∙ c.into_vec-levels.ensures))
