use Rattle.std.proofs.Common.{rules, List, ℕ, ◌≡◌, ◌<◌, ◌≤◌, [], ◌∷◌, Some, sym, ap, subst}
use Rattle.atomic_table.specs.Table.{opening}
use Rattle.book_turn.specs.PassViews.{first_view}
use Rattle.book_turn.specs.Rule.{Kept}
use Rattle.book_turn.proofs.Keeps.{opens}
use Rattle.book_turn.proofs.tickets.board_of.Goals as goal

pub new-requires : goal.new-requires
new-requires g c =
    let items : c.push.new.self.items ≡ Some c.args.object ∷ [] = search rules in
    let same : c.of.result.value ≡ c.args.object = search rules in
    let n : c.from.result ≡ c.args.passes = search rules in
    let some_pass : 0 < c.from.result = subst (λ x. 0 < x) (sym n) c.requires.passes.0 in
    let most : c.from.result ≤ 64 = subst (λ x. x ≤ 64) (sym n) c.requires.passes.1 in
    let chosen = g.O.SeqObject.settings c.of.result.value in
    let words : c.first_words.result ≡ 1 ∷ 1 ∷ [] = search rules in
    subst (λ (ws : List ℕ). Kept g.O.SeqObject.journal g.O.SeqObject.settings (λ e. (g.O.SeqObject.stamp_of e).turn) (λ e. (g.O.SeqObject.stamp_of e).pass) c.from.result chosen (opening ws c.push.new.self.items (first_view chosen c.from.result))) (sym words)
    (subst (λ xs. Kept g.O.SeqObject.journal g.O.SeqObject.settings (λ e. (g.O.SeqObject.stamp_of e).turn) (λ e. (g.O.SeqObject.stamp_of e).pass) c.from.result chosen (opening (1 ∷ 1 ∷ []) xs (first_view chosen c.from.result))) (sym items)
    (opens g.O.SeqObject.journal g.O.SeqObject.settings (λ e. (g.O.SeqObject.stamp_of e).turn) (λ e. (g.O.SeqObject.stamp_of e).pass) c.from.result chosen c.args.object c.requires.empty (ap g.O.SeqObject.settings (sym same)) some_pass most))
