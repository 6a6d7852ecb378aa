use Rattle.std.proofs.Common.{◌≡◌, List, [], ◌∷◌, length, arith, sym, ap, subst, ◌∙◌}
use mathlib.Core.Logic.{∥∥₁_elim}
use Rattle.p21_values.specs.declared.value.Value21.{Value21}
use Rattle.p21_values.specs.Standing.{StandInside}
use Rattle.p21_table.specs.Stood.{one_stood}
use Rattle.p21_table.proofs.FirstTokens.{first_inside}
use Rattle.p21_table.proofs.Handles.{leaves, first_stands, others_stand, list_told, none_told}
use Rattle.p21_table.proofs.value_list.ValuesIterator.next.Goals as goal

pub of-value-requires-clause-says : goal.of-value-requires-clause-says
of-value-requires-clause-says c = first_stands c.self.inside.bytes.now c.self.inside.at c.in-Some.after c.self.inside.says c.in-Some.ensures.behind

pub of-requires-clause-says : goal.of-requires-clause-says
of-requires-clause-says c = others_stand c.self.inside.bytes.now c.self.inside.at c.in-Some.after c.self.inside.says c.in-Some.ensures.behind

pub returns-in-Some-clause-steps : goal.returns-in-Some-clause-steps
returns-in-Some-clause-steps c =
    sym c.self.view_is
    ∙ list_told c.self.inside.bytes.now c.self.inside.at c.in-Some.after c.self.inside.says c.of-value.result c.of.result c.in-Some.ensures.behind c.of-value.ensures c.of.ensures.says
    ∙ ap (λ (left : List Value21). c.of-value.result ∷ left) (sym c.self-in-Some.view_is)

pub returns-in-Some-clause-goes : goal.returns-in-Some-clause-goes
returns-in-Some-clause-goes c =
    let e : c.args.self.now ≡ c.of-value.result ∷ c.of.result =
    sym c.self.view_is
    ∙ list_told c.self.inside.bytes.now c.self.inside.at c.in-Some.after c.self.inside.says c.of-value.result c.of.result c.in-Some.ensures.behind c.of-value.ensures c.of.ensures.says in
    let left = ap (λ (xs : List Value21). length xs) c.self-in-Some.view_is in
    record { on = λ _. (tt, tt, omega (arith, ap length e, left)); keeps = tt; rests = λ _. tt }

pub returns-in_err-first-clause-steps : goal.returns-in_err-first-clause-steps
returns-in_err-first-clause-steps c =
    let e : c.args.self.now ≡ [] = sym c.self.view_is ∙ none_told c.self.inside.bytes.now c.self.inside.at c.self.inside.says c.in_err-first.ensures.item in
    rw c.from_residual.ensures (e, e)

pub of-value-requires-2-clause-says : goal.of-value-requires-2-clause-says
of-value-requires-2-clause-says c =
    let bytes = c.self.inside.bytes.now in
    let start = c.self.inside.at in
    let says = c.self.inside.says in
    ∥∥₁_elim says.1 (one_stood bytes start)
    (λ k. let f = c.in_ok-first.ensures.item says.0 k in (f.0, ∣ (first_inside bytes start f.0 f.1 (subst (λ (xs : List Value21). StandInside bytes start xs) f.2 k)).0 ∣₁))

pub of-requires-2-clause-says : goal.of-requires-2-clause-says
of-requires-2-clause-says c =
    let behind = leaves c.self.inside.bytes.now c.self.inside.at c.next_there.result c.in_ok-first.first.token c.in_ok-first.ensures.item c.next_there.ensures.next c.in_ok-first.ensures.cuts in
    others_stand c.self.inside.bytes.now c.self.inside.at c.next_there.result c.self.inside.says behind

pub returns-clause-steps : goal.returns-clause-steps
returns-clause-steps c =
    let behind = leaves c.self.inside.bytes.now c.self.inside.at c.next_there.result c.in_ok-first.first.token c.in_ok-first.ensures.item c.next_there.ensures.next c.in_ok-first.ensures.cuts in
    sym c.self.view_is
    ∙ list_told c.self.inside.bytes.now c.self.inside.at c.next_there.result c.self.inside.says c.of-value-2.result c.of-2.result behind c.of-value-2.ensures c.of-2.ensures.says
    ∙ ap (λ (left : List Value21). c.of-value-2.result ∷ left) (sym c.self-2.view_is)

pub returns-clause-goes : goal.returns-clause-goes
returns-clause-goes c =
    let behind = leaves c.self.inside.bytes.now c.self.inside.at c.next_there.result c.in_ok-first.first.token c.in_ok-first.ensures.item c.next_there.ensures.next c.in_ok-first.ensures.cuts in
    let e : c.args.self.now ≡ c.of-value-2.result ∷ c.of-2.result =
    sym c.self.view_is ∙ list_told c.self.inside.bytes.now c.self.inside.at c.next_there.result c.self.inside.says c.of-value-2.result c.of-2.result behind c.of-value-2.ensures c.of-2.ensures.says in
    let left = ap (λ (xs : List Value21). length xs) c.self-2.view_is in
    record { on = λ _. (tt, tt, omega (arith, ap length e, left)); keeps = tt; rests = λ _. tt }
