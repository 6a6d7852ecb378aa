use Rattle.std.proofs.Common.{◌≡◌, false, eqb, get_or, sym, ◌∙◌, arith}
use Rattle.std.proofs.lemmas.Bool.{ne_eqb}
use Rattle.odata_filter.proofs.Scans.{token_more}
use Rattle.odata_filter.proofs.filter_tokens.next_token.Goals as goal

pub returns-then-text-at-ne32-clause-tokens : goal.returns-then-text-at-ne32-clause-tokens
returns-then-text-at-ne32-clause-tokens c =
    let text = c.args.text.now in
    let at = c.loop-at.at in
    let other : eqb (get_or text at 0) 32 ≡ false = ne_eqb (get_or text at 0) 32 (λ e. omega arith) in
    sym c.loop-at.invariant.same
    ∙ token_more text at c.token_at.result (omega arith) other c.token_at.ensures.value c.token_at.ensures.within.0 c.token_at.ensures.within.1
