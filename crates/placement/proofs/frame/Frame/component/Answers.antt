use Rattle.std.proofs.Common.{ℕ, ℤ, ◌*ℤ◌, ◌≡◌, ◌∙◌, sym, ap, subst, to_z, of_z, w64}
use Rattle.placement.specs.Frames.{sign_of, IsWithin, most}
use Rattle.placement.proofs.Components.{component_x, component_y, component_z, last_direction}
use Rattle.placement.proofs.Numbers.{held}
use Rattle.placement.proofs.frame.Frame.component.Goals as goal

-- what a call gave of a length that is kept in 64 bits
passed : (length result sign made : ℤ) → IsWithin most length → result ≡ to_z w64 (of_z w64 length) *ℤ sign → ((bound : ℕ) → IsWithin bound (to_z w64 (of_z w64 length)) → IsWithin bound result) → made ≡ length *ℤ sign
    → to_z w64 (of_z w64 result) ≡ made
passed length result sign made w e h f =
    held result (h most (subst (λ (n : ℤ). IsWithin most n) (sym (held length w)) w)) ∙ e ∙ ap (λ (n : ℤ). n *ℤ sign) (held length w) ∙ sym f

kept : (length result : ℤ) → IsWithin most length → ((bound : ℕ) → IsWithin bound (to_z w64 (of_z w64 length)) → IsWithin bound result) → (bound : ℕ) → IsWithin bound length → IsWithin bound (to_z w64 (of_z w64 result))
kept length result w h bound v =
    subst (λ (n : ℤ). IsWithin bound n) (sym (held result (h most (subst (λ (n : ℤ). IsWithin most n) (sym (held length w)) w)))) (h bound (subst (λ (n : ℤ). IsWithin bound n) (sym (held length w)) v))

pub returns-then-self-direction-clause-value : goal.returns-then-self-direction-clause-value
returns-then-self-direction-clause-value c =
    let f = c.args.self.now in
    let l = c.args.lengths in
    passed l.x c.signed.result (sign_of f.x) _ c.requires.within.x c.signed.ensures.value c.signed.ensures.within (component_x f l c.args.direction c.requires.frame c.if-self-direction.true)

pub returns-then-self-direction-clause-within : goal.returns-then-self-direction-clause-within
returns-then-self-direction-clause-within c = λ bound w. kept c.args.lengths.x c.signed.result c.requires.within.x c.signed.ensures.within bound w.x

pub returns-then-self-direction-2-clause-value : goal.returns-then-self-direction-2-clause-value
returns-then-self-direction-2-clause-value c =
    let f = c.args.self.now in
    let l = c.args.lengths in
    passed l.y c.signed-then-self-direction-2.result (sign_of f.y) _ c.requires.within.y c.signed-then-self-direction-2.ensures.value c.signed-then-self-direction-2.ensures.within (component_y f l c.args.direction c.requires.frame c.if-self-direction-2.true)

pub returns-then-self-direction-2-clause-within : goal.returns-then-self-direction-2-clause-within
returns-then-self-direction-2-clause-within c = λ bound w. kept c.args.lengths.y c.signed-then-self-direction-2.result c.requires.within.y c.signed-then-self-direction-2.ensures.within bound w.y

pub returns-else-self-direction-2-clause-value : goal.returns-else-self-direction-2-clause-value
returns-else-self-direction-2-clause-value c =
    let f = c.args.self.now in
    let l = c.args.lengths in
    passed l.z c.signed-else-self-direction-2.result (sign_of f.z) _ c.requires.within.z c.signed-else-self-direction-2.ensures.value c.signed-else-self-direction-2.ensures.within (component_z f l c.args.direction c.requires.frame (last_direction f c.args.direction c.requires.frame c.requires.known c.if-self-direction.false c.if-self-direction-2.false))

pub returns-else-self-direction-2-clause-within : goal.returns-else-self-direction-2-clause-within
returns-else-self-direction-2-clause-within c = λ bound w. kept c.args.lengths.z c.signed-else-self-direction-2.result c.requires.within.z c.signed-else-self-direction-2.ensures.within bound w.z
