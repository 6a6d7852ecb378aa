use Rattle.std.proofs.Common.{◌∙◌, sym}
use Rattle.ear_cut.specs.Registers.{as_spot}
use Rattle.void_bridge.specs.Bridges.{is_left, leads_inside}
use Rattle.void_bridge.proofs.FreeBridges.{turns_both, turns_outside, bends_inside, bends_other}
use Rattle.void_bridge.proofs.bridges.leads_inside.Goals as goal

pub returns-then-is_left-2 : goal.returns-then-is_left-2
unfolding leads_inside
returns-then-is_left-2 c =
    let v = c.args.view in let a = as_spot c.args.a in let b = as_spot c.args.b in let d = as_spot c.args.c in let q = as_spot c.args.q in
    turns_both (is_left v a b d) (is_left v a b q) (is_left v b d q) c.is_left-then-is_left-2.result (sym c.is_left.ensures ∙ c.if-is_left.true) (sym c.is_left-then-is_left.ensures ∙ c.if-is_left-2.true) c.is_left-then-is_left-2.ensures

pub returns-else-is_left-2 : goal.returns-else-is_left-2
unfolding leads_inside
returns-else-is_left-2 c =
    let v = c.args.view in let a = as_spot c.args.a in let b = as_spot c.args.b in let d = as_spot c.args.c in let q = as_spot c.args.q in
    c.if-is_left-2.false ∙ turns_outside (is_left v a b d) (is_left v a b q) (is_left v b d q) (sym c.is_left.ensures ∙ c.if-is_left.true) (sym c.is_left-then-is_left.ensures ∙ c.if-is_left-2.false)

pub returns-then-is_left-3 : goal.returns-then-is_left-3
unfolding leads_inside
returns-then-is_left-3 c =
    let v = c.args.view in let a = as_spot c.args.a in let b = as_spot c.args.b in let d = as_spot c.args.c in let q = as_spot c.args.q in
    c.if-is_left-3.true ∙ bends_inside (is_left v a b d) (is_left v a b q) (is_left v b d q) (sym c.is_left.ensures ∙ c.if-is_left.false) (sym c.is_left-else-is_left.ensures ∙ c.if-is_left-3.true)

pub returns-else-is_left-3 : goal.returns-else-is_left-3
unfolding leads_inside
returns-else-is_left-3 c =
    let v = c.args.view in let a = as_spot c.args.a in let b = as_spot c.args.b in let d = as_spot c.args.c in let q = as_spot c.args.q in
    bends_other (is_left v a b d) (is_left v a b q) (is_left v b d q) c.is_left-else-is_left-3.result (sym c.is_left.ensures ∙ c.if-is_left.false) (sym c.is_left-else-is_left.ensures ∙ c.if-is_left-3.false) c.is_left-else-is_left-3.ensures
