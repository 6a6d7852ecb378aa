use Rattle.std.proofs.Common.{◌≡◌, true, false, inl, inr, ap, ◌∙◌, slice_range, rules}
use Rattle.std.proofs.lemmas.Bool.{cases_Bool}
use Rattle.p21_lexer.specs.declared.token.TokenKind.TheVariants as tokens
use Rattle.p21_values.specs.Values.{is_enumeration}
use Rattle.p21_table.proofs.FirstTokens.{enumeration_by, enumeration_here, no_enumeration}
use Rattle.p21_table.proofs.Handles.{bool_asked, never_stood}
use Rattle.p21_table.proofs.value_ref.ValueRef.is_enumeration.Goals as goal

pub returns-in-Some : goal.returns-in-Some
returns-in-Some c =
    let i = c.self.inside in
    let t = c.in-Some.first.token in
    let spelled = slice_range i.bytes.now t.start t.end in
    elim (cases_Bool c.eq.result) [
      | inl is ↦
          let kind : t.kind ≡ tokens.Enumeration = search rules in
          is
          ∙ bool_asked i.bytes.now i.at i.says is_enumeration true (λ v s. enumeration_here t.kind spelled kind ∙ enumeration_by i.bytes.now t v (c.in-Some.ensures.begins v s))
          ∙ ap is_enumeration c.self.view_is
      | inr isnt ↦
          isnt
          ∙ bool_asked i.bytes.now i.at i.says is_enumeration false (λ v s. no_enumeration t.kind spelled (λ kind. search rules) ∙ enumeration_by i.bytes.now t v (c.in-Some.ensures.begins v s))
          ∙ ap is_enumeration c.self.view_is
    ]

pub returns-in-None : goal.returns-in-None
returns-in-None c = never_stood c.self.inside.bytes.now c.self.inside.at c.self.inside.says c.in-None.ensures.begins
