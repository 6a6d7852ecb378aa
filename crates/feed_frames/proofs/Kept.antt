-- What was read keeps the rules of its type.
use Rattle.std.proofs.Common.{◌≡◌, ℕ, ◌≤◌, true, false, List, length, Option, Some, None, refl, arith}
use Rattle.std.specs.Prelude.{IfSome}
use Rattle.std.specs.Str.{IsUtf8, is_utf8}
use Rattle.std.proofs.lemmas.Str.{IsUtf8-from_is_utf8, is_utf8-from_IsUtf8}
use Rattle.std.specs.List.{list_all}
use Rattle.bim_model.specs.Guids.{IsGuid, is_guid_char}
use Rattle.bim_model.specs.Rules.{IsClassTest, IsRule, IsRules, distance_of}
use Rattle.bim_model.specs.declared.limits.TheConstants.{MOST_RULES, MOST_DISTANCE, MOST_LEVEL}
use Rattle.bim_model.specs.declared.rules.ClassTest.{ClassTest}
use Rattle.bim_model.specs.declared.rules.ClassTest.TheVariants.{Any, Named}
use Rattle.bim_model.specs.declared.rules.RuleKind.{RuleKind}
use Rattle.bim_model.specs.declared.rules.RuleKind.TheVariants.{Clash, Pierce, Ignore}
use Rattle.bim_model.specs.declared.rules.Rule.{Rule}
use Rattle.bcf_viewpoints.specs.Components.{IsColoring}
use Rattle.bcf_viewpoints.specs.Viewpoints.{IsViewBody}
use Rattle.bcf_viewpoints.specs.declared.component.Coloring.{Coloring}
use Rattle.bcf_viewpoints.specs.declared.view.ViewBody.{ViewBody}
use Rattle.feed_frames.specs.SpelledEntries.{FitsClassTest, FitsLevel, FitsRuleKind, FitsRule, FitsColoring}
use Rattle.feed_frames.specs.inner.FieldReaders.{counted_at}
use Rattle.feed_frames.specs.inner.EntryReaders.{rule_at, view_at}
use Rattle.feed_frames.proofs.Formats.{IsBytes}
use Rattle.feed_frames.proofs.Fields.{counted}
use Rattle.feed_frames.proofs.Parts.{rule, view}

-- what is no UTF-8 fails the test
pub fails_utf8 : (bytes : List ℕ) → (IsUtf8 bytes → ⊥) → is_utf8 bytes ≡ false
fails_utf8 bytes not =
    elim (is_utf8 bytes) as (λ b. is_utf8 bytes ≡ b → b ≡ false) [
      | true ↦ λ e. absurd (not (IsUtf8-from_is_utf8 bytes e))
      | false ↦ λ e. refl
    ] refl

pub passes_utf8 : (bytes : List ℕ) → IsUtf8 bytes → is_utf8 bytes ≡ true
passes_utf8 bytes good = is_utf8-from_IsUtf8 bytes good

-- characters of which no identifier was read, and of which one was
pub no_guid : (cs : List ℕ) → length cs ≡ 22 → (IsGuid cs → ⊥) → list_all is_guid_char cs ≡ false
no_guid cs len not =
    elim (list_all is_guid_char cs) as (λ b. list_all is_guid_char cs ≡ b → b ≡ false) [
      | true ↦ λ e. absurd (not (len, e))
      | false ↦ λ e. refl
    ] refl

class_is : (c : ClassTest) → FitsClassTest c → IsClassTest c
class_is Any p = tt
class_is (Named name) p = p.1

level_is : (o : Option (List ℕ)) → IfSome o FitsLevel → IfSome o (λ level. length level ≤ MOST_LEVEL)
level_is None p = tt
level_is (Some level) p = p.1

kind_is : (k : RuleKind) → FitsRuleKind k → distance_of k ≤ MOST_DISTANCE
kind_is (Clash d) p = p
kind_is Ignore p = omega arith
kind_is Pierce p = omega arith

rule_is : (r : Rule) → FitsRule r → IsRule r
rule_is r p = record {
  a = class_is r.a p.0;
  b = class_is r.b p.1.0;
  level = level_is r.level p.1.1.0;
  near = kind_is r.kind p.1.1.1;
}

-- rules that were read, and aren't too many
pub rules_are : (bytes : List ℕ) (xs : List Rule) (rest : List ℕ) → IsBytes bytes → counted_at rule_at bytes ≡ Some (xs, rest) → length xs ≤ MOST_RULES → IsRules xs
rules_are bytes xs rest fits read few =
    let t = (counted rule).takes bytes xs rest fits read in
    record { few = few; each = λ k d lt. rule_is _ (t.1.1 k d lt) }

coloring_is : (c : Coloring) → FitsColoring c → IsColoring c
coloring_is c p = λ k d lt. (p.1.1 k d lt).0

-- a viewpoint that was read
pub view_is : (bytes : List ℕ) (v : ViewBody) (rest : List ℕ) → IsBytes bytes → view_at bytes ≡ Some (v, rest) → IsViewBody v
view_is bytes v rest fits read =
    let p = (view.takes bytes v rest fits read).1 in
    record {
      selection = λ k d lt. (p.1.0.1 k d lt).0;
      coloring = λ k d lt. coloring_is _ (p.1.1.0.1 k d lt);
      exceptions = λ k d lt. (p.1.1.1.1 k d lt).0;
    }
