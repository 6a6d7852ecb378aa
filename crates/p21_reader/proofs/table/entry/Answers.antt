use Rattle.std.proofs.Common.{arith, ◌∷◌, [], ◌-◌, ◌++◌, refl, ap, ◌∙◌}
use Rattle.p21_values.specs.declared.instance_head.Head.{Head}
use Rattle.p21_reader.specs.declared.table.Table.{Table}
use Rattle.p21_values.specs.Grammar.{T, Equals, Semi, Body}
use Rattle.p21_values.specs.Lexemes.{lexeme_of}
use Rattle.p21_reader.proofs.Steps.{residual, fails_none, fails_under, after_fails}
use Rattle.p21_reader.proofs.Bodies.{instance_first}
use Rattle.p21_reader.proofs.Entries.{entry_end, entry_made}
use Rattle.p21_reader.proofs.table.entry.Goals as goal

pub returns-in_err-at-clause-instance : goal.returns-in_err-at-clause-instance
returns-in_err-at-clause-instance c =
    rw (residual _ _ c.from_residual.ensures.1) (fails_under (T Equals ∷ []) (Body ∷ T Semi ∷ []) c.args.bytes.now c.args.name.piece.token.end c.in_err-at.field-0.0 c.in_err-at.ensures.expects)

pub returns-in_err-word-clause-instance : goal.returns-in_err-word-clause-instance
returns-in_err-word-clause-instance c =
    rw (residual _ _ c.from_residual-in_err-word.ensures.1)
    (instance_first c.args.bytes.now c.args.name.piece.token.end c.in_ok-at.at c.in_err-word.field-0.0 c.in_ok-at.ensures.expects
    (fails_none Body [] c.args.bytes.now c.in_ok-at.at c.in_err-word.field-0.0 c.in_err-word.ensures.fault))

pub returns-in_err-end-clause-instance : goal.returns-in_err-end-clause-instance
returns-in_err-end-clause-instance c =
    rw (residual _ _ c.from_residual-in_err-end.ensures.1)
    (instance_first c.args.bytes.now c.args.name.piece.token.end c.in_ok-at.at c.in_err-end.field-0.0 c.in_ok-at.ensures.expects
    (after_fails Body [] c.args.bytes.now c.in_ok-at.at c.in_ok-word.word.token c.in_err-end.field-0.0 c.in_ok-word.ensures.cuts c.in_err-end.ensures.body))

pub returns-in_err-close-clause-instance : goal.returns-in_err-close-clause-instance
returns-in_err-close-clause-instance c =
    rw (residual _ _ c.from_residual-in_err-close.ensures.1)
    (entry_end c.args.bytes.now c.args.name.piece.token.end c.in_ok-at.at c.in_ok-end.end c.args.table.now c.body.new.table c.in_ok-word.word.token c.in_err-close.field-0.0 c.in_ok-at.ensures.expects
    c.in_ok-word.ensures.cuts c.in_ok-end.ensures.body c.in_err-close.ensures.expects)

pub returns-clause-instance : goal.returns-clause-instance
returns-clause-instance c =
    let t = c.in_ok-word.word.token in
    let old = c.args.table.now in
    let new = c.body.new.table in
    let head : Head = record { id = c.args.name.id; word = t.start; word_end = c.keyword_end.result; first = c.len-first.result; count = c.len.result - c.len-first.result; code = c.keyword_code.result } in
    let f = c.len-first.ensures ∙ old.starts.ok.0 in
    let l = c.len.ensures ∙ new.starts.ok.0 in
    let final : Table = record { heads = c.push.new.self; starts = new.starts; values = new.values } in
    entry_made c.args.bytes.now (lexeme_of c.args.bytes.now c.args.name.piece.token) c.args.name.piece.token.end c.in_ok-at.at c.in_ok-end.end c.in_ok-close.close old new final head t c.in_ok-word.word.kind
    c.requires.number c.in_ok-at.ensures.expects c.in_ok-word.ensures.cuts c.in_ok-word.ensures.piece.seen c.in_ok-word.ensures.piece.spelled c.in_ok-end.ensures.body c.in_ok-close.ensures.expects
    refl c.keyword_end.ensures.some c.keyword_end.ensures.none c.keyword_code.ensures.some c.keyword_code.ensures.none f (omega (arith, l, f)) (c.in_ok-push.ensures.items ∙ ap (λ x. x ++ head ∷ []) c.in_ok-end.ensures.heads) refl refl
