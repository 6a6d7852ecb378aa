-- What is seen of tokens that stand alone, and of signs.
use Rattle.std.proofs.Common.{◌≡◌, [], Some, None, refl}
use Rattle.p21_values.specs.declared.piece.Kind.{Kind}
use Rattle.p21_values.specs.declared.piece.Kind.TheVariants as kinds
use Rattle.p21_values.specs.Grammar.{Class, Open, Close, Comma, Semi, Equals, T}
use Rattle.p21_reader.specs.Machine.{next}
use Rattle.p21_values.specs.Lexemes.{Lexeme, Opening, Closing, Separator, Ending, Assigning, class_of}
use Rattle.p21_values.specs.TokenPieces.{kind_of, IsSign}
use Rattle.p21_reader.specs.inner.TokenReading.{sign_class, sign_says}

pub sign_said : (w : Kind) (l : Lexeme) → IsSign w → kind_of (class_of l) ≡ w → l ≡ sign_says w
sign_said kinds.Simple l s h = absurd s
sign_said kinds.Name l s h = absurd s
sign_said kinds.Word l s h = absurd s
sign_said kinds.Open Opening s h = refl
sign_said kinds.Close Closing s h = refl
sign_said kinds.Comma Separator s h = refl
sign_said kinds.Semicolon Ending s h = refl
sign_said kinds.Equals Assigning s h = refl
sign_said w l s h = cc

pub sign_led : (w : Kind) → IsSign w → next (T (sign_class w)) (class_of (sign_says w)) ≡ Some []
sign_led kinds.Simple s = absurd s
sign_led kinds.Name s = absurd s
sign_led kinds.Word s = absurd s
sign_led w s = refl

pub sign_refused : (w : Kind) (c : Class) → IsSign w → (kind_of c ≡ w → ⊥) → next (T (sign_class w)) c ≡ None
sign_refused kinds.Simple c s h = absurd s
sign_refused kinds.Name c s h = absurd s
sign_refused kinds.Word c s h = absurd s
sign_refused kinds.Open Open s h = absurd (h refl)
sign_refused kinds.Close Close s h = absurd (h refl)
sign_refused kinds.Comma Comma s h = absurd (h refl)
sign_refused kinds.Semicolon Semi s h = absurd (h refl)
sign_refused kinds.Equals Equals s h = absurd (h refl)
sign_refused w c s h = refl
