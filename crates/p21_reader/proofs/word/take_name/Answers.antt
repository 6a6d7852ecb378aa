use Rattle.std.proofs.Common.{◌≡◌, ℕ, List, get_or, true, Some, Ok, refl, sym, ap, subst, ◌∙◌, arith}
use Rattle.p21_lexer.specs.declared.token.Token.{Token}
use Rattle.p21_lexer.specs.declared.token.TokenKind.TheVariants as tokens
use Rattle.p21_lexer.specs.TokenSeparators.{is_blank}
use Rattle.p21_lexer.specs.Spelling.{value_after}
use Rattle.p21_lexer.specs.Cutting.{CutsFrom}
use Rattle.p21_values.specs.Lexemes.{ReferenceTo}
use Rattle.p21_values.proofs.Contents.{tail_of}
use Rattle.p21_reader.proofs.Blanks.{cut_behind}
use Rattle.p21_reader.proofs.word.take_name.Goals.{then-at-bytes+then-bytes-at-eq10, else-at-bytes}
use Rattle.p21_reader.proofs.word.take_name.Goals as goal

pub returns-in-Some-clause-cuts : goal.returns-in-Some-clause-cuts
returns-in-Some-clause-cuts c =
    let bytes = c.args.bytes.now in
    let t : Token = record { kind = tokens.Name; start = c.if-at-bytes.start; end = c.in-Some.name.end } in
    let P : ℕ → Type 0 = λ n. CutsFrom bytes n (Ok (Some t)) in
    let cuts : P c.if-at-bytes.start = c.in-Some.ensures.there.0 in
    elim c.if-at-bytes.branch [
      | then-at-bytes+then-bytes-at-eq10 w ↦ (
          let blank : is_blank (get_or bytes c.args.at 0) ≡ true = rw w.if-bytes-at-eq10.true refl in
          cut_behind bytes c.args.at t w.if-at-bytes.true blank (subst P w.start-is cuts))
      | else-at-bytes w ↦ subst P w.start-is cuts
    ]

pub returns-in-Some-clause-piece : goal.returns-in-Some-clause-piece
returns-in-Some-clause-piece c =
    let w = c.in-Some.ensures.there in
    record {
      some = w.0.1;
      within = w.1;
      spelled = ∣ w.0.2.spelled ∣₁;
      seen = refl;
    }

pub returns-in-Some-clause-number : goal.returns-in-Some-clause-number
returns-in-Some-clause-number c =
    let w = c.in-Some.ensures in
    let tail = tail_of c.args.bytes.now c.if-at-bytes.start c.in-Some.name.end w.there.0.1 w.there.1 in
    λ name. ap (λ (n : ℕ). ReferenceTo n) (sym w.number ∙ ap (λ (bs : List ℕ). value_after 0 bs) (sym tail))

pub returns-in-Some-clause-on : goal.returns-in-Some-clause-on
returns-in-Some-clause-on c = elim c.if-at-bytes.branch [
  | then-at-bytes+then-bytes-at-eq10 w ↦ omega (arith, w.start-is)
  | else-at-bytes w ↦ omega (arith, w.start-is)
]

pub returns-in_ok-take-in-None-clause-cuts : goal.returns-in_ok-take-in-None-clause-cuts
returns-in_ok-take-in-None-clause-cuts c = rw c.with_number.ensures.same c.in_ok-take-in-None.ensures.cuts

pub returns-in_ok-take-in-None-clause-piece : goal.returns-in_ok-take-in-None-clause-piece
returns-in_ok-take-in-None-clause-piece c = rw c.with_number.ensures.same c.in_ok-take-in-None.ensures.piece

pub returns-in_ok-take-in-None-clause-number : goal.returns-in_ok-take-in-None-clause-number
returns-in_ok-take-in-None-clause-number c = rw c.with_number.ensures.same c.with_number.ensures.number

pub returns-in_ok-take-in-None-clause-on : goal.returns-in_ok-take-in-None-clause-on
returns-in_ok-take-in-None-clause-on c = rw c.with_number.ensures.same c.in_ok-take-in-None.ensures.on
