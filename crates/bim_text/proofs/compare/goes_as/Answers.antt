use Rattle.std.proofs.Common.{◌<◌, List, ℕ, length, sym, ap, ◌∙◌}
use Rattle.std.proofs.lemmas.Bool.{ltb-true}
use Rattle.bim_text.specs.TextSpellings.{cleaned, rows}
use Rattle.bim_text.specs.Says.{accepts}
use Rattle.bim_text.proofs.Saying.{rows_some, rows_none, nothing_left}
use Rattle.bim_text.proofs.compare.goes_as.Goals as goal

pub loop-rest-preserved : goal.loop-rest-preserved
loop-rest-preserved c =
    let l = c.loop-rest in
    let bs = cleaned l.rest.now in
    let some : 0 < length bs = ltb-true 0 (length bs) (sym c.has_kept.ensures ∙ c.loop-rest-test.true) in
    let step = c.in-Some.step in
    ap (λ (r : List ℕ). accepts step.wanted (rows r)) c.in-Some.ensures.rest ∙ (sym (rows_some bs (accepts l.left) (accepts step.wanted) some c.in-Some.ensures.text) ∙ l.invariant)

pub returns-in-None : goal.returns-in-None
returns-in-None c =
    let l = c.loop-rest in
    let bs = cleaned l.rest.now in
    let some : 0 < length bs = ltb-true 0 (length bs) (sym c.has_kept.ensures ∙ c.loop-rest-test.true) in
    sym (rows_none bs (accepts l.left) some c.in-None.ensures.text) ∙ l.invariant

pub returns : goal.returns
returns c =
    let l = c.loop-rest in
    c.is_done.ensures ∙ (sym (nothing_left (cleaned l.rest.now) (accepts l.left) (sym c.has_kept.ensures ∙ c.loop-rest-test.false)) ∙ l.invariant)
