use Rattle.std.proofs.Common.{◌≡◌, ℕ, sym, subst, ◌∙◌, rules}
use Rattle.std.proofs.lemmas.Option.{same_Some}
use Rattle.p21_values.specs.declared.piece.Kind.TheVariants as kinds
use Rattle.p21_values.specs.Standing.{StandBehind}
use Rattle.p21_table.proofs.FirstTokens.{behind_end, next_comma, next_close, never_behind}
use Rattle.p21_table.proofs.standing.next_there.Goals as goal

pub returns-in_default-clause-next : goal.returns-in_default-clause-next
returns-in_default-clause-next c = λ at v vs h cuts.
    let e = behind_end c.args.bytes.now at c.args.first.token v vs c.end_there.result c.end_there.ensures.end cuts h in
    absurd (c.in_default.not-Some e.0 e.1)

pub returns-then-eq-clause-next : goal.returns-then-eq-clause-next
returns-then-eq-clause-next c =
    let comma : c.in-Ok.sign.kind ≡ kinds.Comma = search rules in
    λ at v vs h cuts.
    let e = behind_end c.args.bytes.now at c.args.first.token v vs c.end_there.result c.end_there.ensures.end cuts h in
    let same : e.0 ≡ c.in-Some.end = same_Some e.0 c.in-Some.end (sym e.1 ∙ c.in-Some.is) in
    next_comma c.args.bytes.now c.in-Some.end c.in-Ok.sign.token vs c.in-Ok.ensures.cuts (sym c.in-Ok.ensures.piece.seen ∙ comma) (subst (λ (n : ℕ). StandBehind c.args.bytes.now n vs) same e.2)

pub returns-else-eq-clause-next : goal.returns-else-eq-clause-next
returns-else-eq-clause-next c = λ at v vs h cuts.
    let e = behind_end c.args.bytes.now at c.args.first.token v vs c.end_there.result c.end_there.ensures.end cuts h in
    let same : e.0 ≡ c.in-Some.end = same_Some e.0 c.in-Some.end (sym e.1 ∙ c.in-Some.is) in
    next_close c.args.bytes.now c.in-Some.end c.in-Ok.sign.token vs c.in-Ok.ensures.cuts (λ k. let comma : c.in-Ok.sign.kind ≡ kinds.Comma = c.in-Ok.ensures.piece.seen ∙ k in search rules)
    (subst (λ (n : ℕ). StandBehind c.args.bytes.now n vs) same e.2)

pub returns-in-Err-clause-next : goal.returns-in-Err-clause-next
returns-in-Err-clause-next c = λ at v vs h cuts.
    let e = behind_end c.args.bytes.now at c.args.first.token v vs c.end_there.result c.end_there.ensures.end cuts h in
    let same : e.0 ≡ c.in-Some.end = same_Some e.0 c.in-Some.end (sym e.1 ∙ c.in-Some.is) in
    never_behind c.args.bytes.now c.in-Some.end c.in-Err.field-0 vs c.in-Err.ensures.fault (subst (λ (n : ℕ). StandBehind c.args.bytes.now n vs) same e.2)
