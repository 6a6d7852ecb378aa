use Rattle.std.proofs.Common.{ℕ, List, slice_range, sym, ap, ◌∙◌}
use Rattle.std.specs.Coded.{le_prop}
use Rattle.std.proofs.Math.Logic.{∥∥₁_elim}
use Rattle.p21_lexer.specs.declared.token.TokenKind.{TokenKind}
use Rattle.p21_lexer.specs.Spelling.{value_after}
use Rattle.p21_values.specs.Lexemes.{ReferenceTo, says}
use Rattle.p21_values.proofs.Contents.{name_bound, name_kind, tail_of}
use Rattle.p21_table.proofs.simple.name_of.Goals as goal

pub number_of-requires : goal.number_of-requires
number_of-requires c =
    let t = c.args.piece.token in
    let k = name_kind t.kind (slice_range c.args.bytes.now t.start t.end) (sym c.requires.piece.seen ∙ c.requires.name) in
    let e = tail_of c.args.bytes.now t.start t.end c.requires.piece.some c.requires.piece.within in
    rw (← e) (∥∥₁_elim c.requires.piece.spelled le_prop (λ s. name_bound t.kind (slice_range c.args.bytes.now t.start t.end) s k))

pub returns : goal.returns
returns c =
    let t = c.args.piece.token in
    let k = name_kind t.kind (slice_range c.args.bytes.now t.start t.end) (sym c.requires.piece.seen ∙ c.requires.name) in
    let e = tail_of c.args.bytes.now t.start t.end c.requires.piece.some c.requires.piece.within in
    ap (λ (n : ℕ). ReferenceTo n) (c.number_of.ensures ∙ ap (λ (bs : List ℕ). value_after 0 bs) (sym e))
    ∙ ap (λ (q : TokenKind). says q (slice_range c.args.bytes.now t.start t.end)) (sym k)
