use Rattle.std.proofs.Common.{List, ℕ, sym, ap, subst, ◌∙◌, length, arith}
use Rattle.std.proofs.lemmas.Bool.{eqb-true, eqb-false}
use Rattle.std.proofs.lemmas.List.{nil_from_length}
use Rattle.std.proofs.lemmas.Result.{err_from_is_err_and}
use Rattle.feed_frames.specs.SpelledEntries.{UploadsModelOf}
use Rattle.feed_frames.specs.inner.Readers.{Refuses}
use Rattle.feed_frames.specs.inner.EntryReaders.{entry_at}
use Rattle.feed_frames.proofs.Payloads.{found, longer, lacks_entry}
use Rattle.feed_frames.proofs.decoding.entry_of.Goals as goal

pub returns-in_err-entry-clause-none : goal.returns-in_err-entry-clause-none
returns-in_err-entry-clause-none c =
    let p = err_from_is_err_and c.from_residual.result c.from_residual.ensures.1 in
    let e = c.in_err-entry.field-0.0 in
    rw (p.1, p.2)
    (lacks_entry e c.args.bytes.now
    (subst (λ (l : List ℕ). Refuses UploadsModelOf e (entry_at l)) c.new-unread.ensures c.in_err-entry.ensures))

pub returns-then-whole-clause-found : goal.returns-then-whole-clause-found
returns-then-whole-clause-found c =
    found _ _ _ (λ i. omega (arith, c.type_inv.bytes i)) (omega arith)
    (ap entry_at (sym c.new-unread.ensures) ∙ c.in_ok-entry.ensures.0)
    (nil_from_length _ (eqb-true _ _ (sym c.is_empty-whole.ensures ∙ c.if-whole.true)))
    c.in_ok-entry.ensures.1

pub returns-else-whole-clause-none : goal.returns-else-whole-clause-none
returns-else-whole-clause-none c =
    longer _ _ _ (ap entry_at (sym c.new-unread.ensures) ∙ c.in_ok-entry.ensures.0)
    (λ empty. eqb-false _ _ (sym c.is_empty-whole.ensures ∙ c.if-whole.false) (ap length empty))
