use Rattle.std.proofs.Common.{◌≡◌, true, false, length, refl, sym, ap, ◌∙◌, subst, arith, Ok, Err}
use Rattle.httparse.specs.declared.Error.{Error}
use Rattle.httparse.specs.declared.Error.TheVariants.{HeaderName, HeaderValue, NewLine, Token, TooManyHeaders, Version}
use Rattle.httparse.specs.declared.Error.TheVariants as E
use Rattle.httparse.specs.declared.Status.{Status}
use Rattle.httparse.specs.declared.Status.TheVariants.{Partial}
use Rattle.httparse.specs.declared.spans.RequestSpans.{RequestSpans}
use Rattle.httparse.specs.Outcome.{OnPartial}
use Rattle.httparse.specs.Grammar.{HasNoRequest, MayBecomeRequest}
use Rattle.http_frame.specs.inner.Judged.{is_crowded}
use Rattle.http_frame.proofs.Room.{never_too_many}
use Rattle.http_frame.proofs.parser.ask_parser.Goals as goal

at_partial : (s : Status RequestSpans) (P : Type 0) → s ≡ Partial → OnPartial {A = RequestSpans} {E = Error} (Ok s) P → P
at_partial s P e x = subst (λ (t : Status RequestSpans). OnPartial {A = RequestSpans} {E = Error} (Ok t) P) e x

pub returns-in-Ok-Partial : goal.returns-in-Ok-Partial
returns-in-Ok-Partial c =
    let none : HasNoRequest c.args.front.now = at_partial _ _ c.in-Ok-Partial.field-0-is c.in-Ok-Partial.ensures.partial in
    let may : MayBecomeRequest c.args.front.now = at_partial _ _ c.in-Ok-Partial.field-0-is c.in-Ok-Partial.ensures.unfinished in
    (none, may)

crowded_is : (e : Error) → is_crowded e ≡ true → e ≡ TooManyHeaders
crowded_is HeaderName x = cc
crowded_is HeaderValue x = cc
crowded_is NewLine x = cc
crowded_is E.Status x = cc
crowded_is Token x = cc
crowded_is TooManyHeaders x = refl
crowded_is Version x = cc

is_crowded_of : (e : Error) → e ≡ TooManyHeaders → is_crowded e ≡ false → ⊥
is_crowded_of e x f = let bad : true ≡ false = sym (ap is_crowded x) ∙ f in cc

pub returns-then-is_crowded : goal.returns-then-is_crowded
returns-then-is_crowded c =
    let many = crowded_is c.in-Err.error (sym c.is_crowded.ensures ∙ c.if-is_crowded.true) in
    omega (
      arith,
      never_too_many (length c.args.headers.now) c.args.front.now c.requires
          (c.in-Err.ensures.too_many (ap (λ (x : Error). Err x) many)),
    )

pub returns-else-is_crowded : goal.returns-else-is_crowded
returns-else-is_crowded c =
    c.in-Err.ensures.invalid (λ e. is_crowded_of c.in-Err.error e (sym c.is_crowded.ensures ∙ c.if-is_crowded.false))
