use Rattle.std.proofs.Common.{◌≡◌, ◌+◌, ◌<◌, ap, sym, arith, ◌∙◌, option_map, get_or, length}
use Rattle.p21_lexer.proofs.RunLemmas.{text_past, text_closes}
use Rattle.p21_lexer.proofs.spelling.text_end.Goals.{else-quote-bytes-2-via-then-quote-bytes-2+else-bytes-quote-eq39, else-quote-bytes-2-via-else-quote-bytes-2}
use Rattle.p21_lexer.proofs.spelling.text_end.Goals as goal

pub returns-then-quote-bytes-clause-span : goal.returns-then-quote-bytes-clause-span
returns-then-quote-bytes-clause-span c =
    let q = c.quote_from-quote.result in
    sym (c.quote_from-quote.ensures.span ∙ ap (option_map (λ n. q + n)) (text_past c.args.bytes.now q c.if-quote-bytes.true))

pub returns-clause-span : goal.returns-clause-span
returns-clause-span c =
    let q = c.quote_from-quote.result in
    let bs = c.args.bytes.now in
    let last : q + 1 < length bs → get_or bs (q + 1) 0 ≡ 39 → ⊥ = elim c.else-quote-bytes-2.branch [
      | else-quote-bytes-2-via-then-quote-bytes-2+else-bytes-quote-eq39 w ↦ (λ lt e. w.if-bytes-quote-eq39.false e)
      | else-quote-bytes-2-via-else-quote-bytes-2 w ↦ (λ lt e. omega (arith, lt, w.if-quote-bytes-2.false))
    ] in
    sym (c.quote_from-quote.ensures.span ∙ ap (option_map (λ n. q + n)) (text_closes bs q c.if-quote-bytes.false (c.quote_from-quote.ensures.quote c.if-quote-bytes.false) last))
