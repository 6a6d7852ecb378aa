use Rattle.std.proofs.Common.{ℕ, suc, ◌≡◌, ◌-◌, ◌+◌, [], ◌∷◌, ◌++◌, refl, sym, ap, ◌∙◌, subst, arith}
use Rattle.book_turn.specs.PassViews.{dealt_view}
use Rattle.book_turn.specs.Passes.{new_pass, new_passes, pass_state}
use Rattle.book_turn.proofs.Ends.{cut_kept, cut_given, may_cut, new_idle, new_state, new_passes_next}
use Rattle.book_turn.proofs.turn.deal.Goals as goal

pub loop-number-init : goal.loop-number-init
loop-number-init g c =
    let e : c.args.passes ≡ c.args.passes - 0 = omega arith in
    (refl, c.requires.seat ∙ ap (λ (x : ℕ). (dealt_view (g.O.SeqObject.settings c.args.board.now.table.shared.key.object.value) 0 x, [])) e, c.new-all.ensures.items)

pub cut-other-requires-clause-own : goal.cut-other-requires-clause-own
cut-other-requires-clause-own g c = c.loop-number.invariant.0 ∙ c.requires.own

pub cut-other-requires-clause-free : goal.cut-other-requires-clause-free
cut-other-requires-clause-free g c = may_cut _ _ _ _ c.loop-number.invariant.1 (omega arith)

pub invariant_of-pass : goal.invariant_of-pass
invariant_of-pass g c =
    let more : c.args.passes - c.loop-number.number ≡ suc (c.args.passes - (c.loop-number.number + 1)) = omega arith in
    new_idle (g.O.SeqObject.settings c.args.board.now.table.shared.key.object.value) c.loop-number.number c.cut-other.result (cut_given _ _ _ _ _ _ more c.loop-number.invariant.1 c.cut-other.ensures.cut.1)

pub loop-number-preserved : goal.loop-number-preserved
loop-number-preserved g c =
    let i = c.loop-number.invariant in let o = c.cut-other.ensures in
    let chosen = g.O.SeqObject.settings c.args.board.now.table.shared.key.object.value in
    let n : ℕ = c.loop-number.number in let k : ℕ = c.args.passes - (n + 1) in
    let more : c.args.passes - n ≡ suc k = omega arith in
    let up : suc n ≡ n + 1 = omega arith in
    let given = cut_given chosen n _ k _ _ more i.1 o.cut.1 in
    let t : Rattle.book_turn.specs.Passes.TurnState g.row.O-Settings.Denot = record { turn_id = c.args.board.now.table.shared.table_id; settings = chosen; passes = c.args.board.now.table.shared.key.passes } in
    let state = new_state t n c.cut-other.result (o.own.2 ∙ i.0 ∙ c.requires.own) given in (
      o.own.0 ∙ i.0,
      cut_kept chosen n _ k _ _ more i.1 o.cut.0 ∙ ap (λ (x : ℕ). (dealt_view chosen x k, [])) up,
      c.in_ok-push.ensures.items ∙ ap (λ l. l ++ pass_state c.cut-other.result n 0 ∷ []) i.2 ∙ ap (λ p. new_passes t 0 n ++ p ∷ []) state ∙ new_passes_next t n ∙ ap (λ (x : ℕ). new_passes t 0 x) up,
    )

pub invariant_of-pass-2 : goal.invariant_of-pass-2
invariant_of-pass-2 g c =
    let chosen = g.O.SeqObject.settings c.args.board.now.table.shared.key.object.value in
    let last : c.loop-number.number ≡ c.args.passes - 1 = let a = c.loop-number.auto.number-end in let b = c.loop-number-test.false in omega arith in
    let p = c.requires.passes in
    let one : c.args.passes - c.loop-number.number ≡ 1 = omega arith in
    subst (λ (x : ℕ). Rattle.book_turn.specs.Passes.IsIdle c.loop-number.seat x 0 0) last
    (new_idle chosen c.loop-number.number c.loop-number.seat (c.loop-number.invariant.1 ∙ ap (λ (x : ℕ). (dealt_view chosen c.loop-number.number x, [])) one))

pub returns : goal.returns
returns g c =
    let i = c.loop-number.invariant in
    let chosen = g.O.SeqObject.settings c.args.board.now.table.shared.key.object.value in
    let n : ℕ = c.loop-number.number in
    let last : n ≡ c.args.passes - 1 = let a = c.loop-number.auto.number-end in let b = c.loop-number-test.false in omega arith in
    let p = c.requires.passes in
    let one : c.args.passes - n ≡ 1 = omega arith in
    let up : suc n ≡ c.args.passes = omega arith in
    let t : Rattle.book_turn.specs.Passes.TurnState g.row.O-Settings.Denot = record { turn_id = c.args.board.now.table.shared.table_id; settings = chosen; passes = c.args.board.now.table.shared.key.passes } in
    let state = new_state t n c.loop-number.seat (i.0 ∙ c.requires.own) (i.1 ∙ ap (λ (x : ℕ). (dealt_view chosen n x, [])) one) in
    c.in_ok-push-2.ensures.items ∙ ap (λ l. l ++ pass_state c.loop-number.seat (c.args.passes - 1) 0 ∷ []) i.2 ∙ ap (λ (x : ℕ). new_passes t 0 n ++ pass_state c.loop-number.seat x 0 ∷ []) (sym last) ∙ ap (λ p. new_passes t 0 n ++ p ∷ []) state ∙ new_passes_next t n ∙ ap (λ (x : ℕ). new_passes t 0 x) up
