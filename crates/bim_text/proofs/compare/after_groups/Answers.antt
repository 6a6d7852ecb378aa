use Rattle.std.proofs.Common.{◌≡◌, ℕ, ◌++◌, List, ap, ◌∙◌, subst, arith}
use Rattle.std.specs.Prelude.{encode_utf8}
use Rattle.bim_text.specs.TextSpellings.{cleaned, character, group, wide_row}
use Rattle.bim_text.specs.Says.{accepts, Leaves, Lacks}
use Rattle.bim_text.proofs.RowLemmas.{groups_room, groups_end}
use Rattle.bim_text.proofs.Saying.{group_some, group_none}
use Rattle.bim_text.proofs.compare.after_groups.Goals as goal

pub returns-in-None : goal.returns-in-None
unfolding wide_row
returns-in-None c =
    let bs = cleaned c.args.spelled.now in
    let l = c.loop-left in
    let code : c.character.result ≡ character (group c.args.width bs l.at) = c.character.ensures ∙ ap character c.group_digits.ensures in
    let lacks : Lacks (accepts l.rest) (encode_utf8 (character (group c.args.width bs l.at))) = subst (λ k. Lacks (accepts l.rest) (encode_utf8 k)) code c.in-None.ensures in
    rw (← c.wide_digits-digits.ensures.digits) (record { differs = λ more. l.invariant.same more ∙ group_none l.left c.args.width l.at bs (accepts l.rest) more (omega (arith, c.loop-left-test.true)) lacks })

pub loop-left-preserved : goal.loop-left-preserved
loop-left-preserved c =
    let bs = cleaned c.args.spelled.now in
    let l = c.loop-left in
    let code : c.character.result ≡ character (group c.args.width bs l.at) = c.character.ensures ∙ ap character c.group_digits.ensures in
    let leaves : Leaves (accepts l.rest) (encode_utf8 (character (group c.args.width bs l.at))) (accepts c.in-Some.behind) = subst (λ k. Leaves (accepts l.rest) (encode_utf8 k) (accepts c.in-Some.behind)) code c.in-Some.ensures in
    record {
      room = groups_room l.left c.args.width l.at _ (omega (arith, c.loop-left-test.true)) l.invariant.room;
      same = λ more. l.invariant.same more ∙ group_some l.left c.args.width l.at bs (accepts l.rest) (accepts c.in-Some.behind) more (omega (arith, c.loop-left-test.true)) leaves;
    }

pub returns : goal.returns
unfolding wide_row
returns c =
    let bs = cleaned c.args.spelled.now in
    let l = c.loop-left in
    rw (← c.wide_digits-digits.ensures.digits) (record { same = λ more. l.invariant.same more ∙ ap (λ (front : List ℕ). accepts l.rest (front ++ more)) (groups_end l.left c.args.width l.at bs (omega (arith, c.loop-left-test.false))) })
