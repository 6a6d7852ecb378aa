use Rattle.std.proofs.Common.{◌≡◌, ℕ, ◌-◌, ◌≤◌, length, get_or, nat_lt, inl, inr, sym, ap, ◌∙◌, subst, arith}
use Rattle.std.specs.Str.{IsUtf8}
use Rattle.std.proofs.lemmas.Bool.{ltb-true, cases_Bool}
use Rattle.bim_text.specs.TextSpellings.{cleaned, sequence_len}
use Rattle.bim_text.proofs.RowLemmas.{high_whole}
use Rattle.bim_text.proofs.compare.sequence_size.Goals as goal

at_most_four : (b : ℕ) → sequence_len b ≤ 4
at_most_four b = elim (cases_Bool (nat_lt b 224)) [
  | inl t ↦ rw t (omega arith)
  | inr t ↦ rw t (elim (cases_Bool (nat_lt b 240)) [ inl u ↦ rw u (omega arith) | inr u ↦ rw u (omega arith) ])
]

pub returns-in-Ok-clause-some : goal.returns-in-Ok-clause-some
returns-in-Ok-clause-some c =
    let bs = cleaned c.args.spelled.now in
    let n = c.sequence_len-size.result in
    let e : n ≡ sequence_len (get_or bs 0 0) = c.sequence_len-size.ensures ∙ ap sequence_len c.kept_at.ensures in
    let le : n ≤ length bs = omega (arith, ltb-true (n - 1) (length bs) (sym c.has_kept.ensures ∙ c.if-not-has_kept.false)) in
    let few : n ≤ 4 = rw e (at_most_four (get_or bs 0 0)) in
    high_whole bs n e le (subst IsUtf8 (c.front_of-bytes.ensures n few le) c.in-Ok.ensures.cases.1)
