use Rattle.std.proofs.Common.{Ok, subst, refl, true, false}
use Rattle.p21_reader.specs.declared.header.Part.{Part}
use Rattle.p21_reader.specs.inner.Heading.{ReadsPart}
use Rattle.p21_reader.proofs.Steps.{residual}
use Rattle.p21_reader.proofs.Statements.{stated_fails, stated_more, stated_whole, says_named, says_unnamed}
use Rattle.p21_reader.proofs.header.statements.Goals as goal

pub returns-in_err-word-clause-statements : goal.returns-in_err-word-clause-statements
returns-in_err-word-clause-statements c =
    rw (residual _ _ c.from_residual.ensures.1) (stated_fails c.args.bytes.now c.args.at c.loop-word.place c.loop-word.schema c.in_err-word.field-0.0 c.loop-word.invariant.read c.in_err-word.ensures.part)

pub loop-word-preserved : goal.loop-word-preserved
loop-word-preserved c =
    let P : Part → Type 0 = λ x. ReadsPart c.args.bytes.now c.loop-word.place (Ok x) in
    let p = subst P c.in-Statement.is c.in_ok-word.ensures.part in record {
      within = p.3;
      read = stated_more c.args.bytes.now c.args.at c.loop-word.place c.in-Statement.inside c.in-Statement.end c.loop-word.schema c.in_ok-schema-in-Statement.schema c.in-Statement.word c.loop-word.invariant.read p
          c.in_ok-schema-in-Statement.ensures.says;
    }

pub returns-in-Ifc4-clause-statements : goal.returns-in-Ifc4-clause-statements
returns-in-Ifc4-clause-statements c =
    let P : Part → Type 0 = λ x. ReadsPart c.args.bytes.now c.loop-word.place (Ok x) in
    let p = subst P c.in-Data.is c.in_ok-word.ensures.part in
    stated_whole c.args.bytes.now c.args.at c.loop-word.place c.in-Data.end c.loop-word.schema (record { is_ifc4 = true; end = c.in-Data.end }) c.loop-word.invariant.read p refl
    ((λ t. says_named c.loop-word.schema c.loop-word.invariant.read.statements c.loop-word.invariant.read.says c.in-Ifc4.is), (λ n. refl))

pub returns-in_default : goal.returns-in_default
returns-in_default c =
    let P : Part → Type 0 = λ x. ReadsPart c.args.bytes.now c.loop-word.place (Ok x) in
    let p = subst P c.in-Data.is c.in_ok-word.ensures.part in
    let stated = c.loop-word.invariant.read in record {
      statements = stated_whole c.args.bytes.now c.args.at c.loop-word.place c.in-Data.end c.loop-word.schema (record { is_ifc4 = false; end = c.in-Data.end }) stated p refl
          ((λ t. absurd (let e = t in cc)), (λ n. absurd (says_unnamed c.loop-word.schema stated.statements stated.says c.in_default.not-Ifc4 n)));
      within = p.0;
    }
