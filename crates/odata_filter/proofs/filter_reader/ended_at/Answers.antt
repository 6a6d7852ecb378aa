use Rattle.std.proofs.Common.{◌≡◌, List, [], None, refl, sym, subst, arith}
use Rattle.std.specs.Prelude.{IfOk}
use Rattle.std.proofs.lemmas.List.{nil_from_length}
use Rattle.odata_filter.specs.declared.filter_state.Expected.{Expected}
use Rattle.odata_filter.specs.declared.filter_state.Expected.TheVariants.{Operand, Operator, Literal, SearchOpen, SearchMember, SearchComma, SearchText, SearchClose, Joint}
use Rattle.odata_filter.specs.declared.filter_state.Level.{Level}
use Rattle.odata_filter.specs.declared.filter_state.Levels.{Levels}
use Rattle.odata_filter.specs.inner.FilterSteps.{ended_at}
use Rattle.odata_filter.proofs.filter_reader.ended_at.Goals as goal

-- a filter ends behind an operand alone
elsewhere : (levels : Levels) (e : Expected) → (e ≡ Joint → ⊥) → None ≡ ended_at levels [] e
elsewhere levels Operand other = refl
elsewhere levels (Operator member) other = refl
elsewhere levels (Literal member comparison) other = refl
elsewhere levels SearchOpen other = refl
elsewhere levels SearchMember other = refl
elsewhere levels (SearchComma searched) other = refl
elsewhere levels (SearchText searched) other = refl
elsewhere levels (SearchClose test) other = refl
elsewhere levels Joint other = absurd (other refl)

pub returns-in-Joint : goal.returns-in-Joint
returns-in-Joint c =
    let none : c.args.levels.outer ≡ [] = nil_from_length c.args.levels.outer (omega arith) in
    subst (λ (ls : List Level). IfOk c.closed.result (λ found. found ≡ ended_at c.args.levels ls c.args.expected.now)) (sym none)
    (subst (λ (e : Expected). IfOk c.closed.result (λ found. found ≡ ended_at c.args.levels [] e)) (sym c.in-Joint.is) c.closed.ensures)

pub returns-in_default : goal.returns-in_default
returns-in_default c =
    let none : c.args.levels.outer ≡ [] = nil_from_length c.args.levels.outer (omega arith) in
    subst (λ (ls : List Level). None ≡ ended_at c.args.levels ls c.args.expected.now) (sym none)
    (elsewhere c.args.levels c.args.expected.now c.in_default.not-Joint)
