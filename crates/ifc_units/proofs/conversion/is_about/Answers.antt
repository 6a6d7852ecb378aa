use Rattle.std.proofs.Common.{◌≡◌, ◌+◌, ◌-◌, ℤ, ◌+ℤ◌, subst, sym, ◌∙◌, arith, to_z, of_z, w32}
use Rattle.std.proofs.lemmas.Int.{ints}
use Rattle.bim_text.specs.ScaledNumbers.{size_order}
use Rattle.ifc_units.proofs.Abouts.{length, millionths, never_about, not_about, about_below}
use Rattle.ifc_units.proofs.conversion.is_about.Goals as goal

pub returns-then-length : goal.returns-then-length
returns-then-length c =
    let n = c.args.length.number in
    never_about n.negative n.digits c.args.millionths (n.exp +ℤ c.args.length.power) c.if-length.true c.requires.some

pub returns-then-eq : goal.returns-then-eq
returns-then-eq c =
    let n = c.args.length.number in
    let m = c.args.millionths in
    let p = c.args.length.power in
    let same : to_z w32 (of_z w32 p) ≡ p = omega (arith, ints) in
    let low = subst (λ (x : ℤ). c.compare_size.result ≡ size_order (length n.negative n.digits (n.exp +ℤ x)) (millionths (m - 1))) same c.compare_size.ensures in
    let high = subst (λ (x : ℤ). c.compare_size-then-eq.result ≡ size_order (length n.negative n.digits (n.exp +ℤ x)) (millionths (m + 1))) same c.compare_size-then-eq.ensures in
    c.eq-then-eq.ensures
    ∙ about_below n.negative n.digits m (n.exp +ℤ p) c.compare_size.result c.compare_size-then-eq.result c.if-length.false c.requires.some low (sym c.eq.ensures ∙ c.if-eq.true) high

pub returns-else-eq : goal.returns-else-eq
returns-else-eq c =
    let n = c.args.length.number in
    let m = c.args.millionths in
    let p = c.args.length.power in
    let same : to_z w32 (of_z w32 p) ≡ p = omega (arith, ints) in
    let low = subst (λ (x : ℤ). c.compare_size.result ≡ size_order (length n.negative n.digits (n.exp +ℤ x)) (millionths (m - 1))) same c.compare_size.ensures in
    c.if-eq.false ∙ not_about n.negative n.digits m (n.exp +ℤ p) c.compare_size.result c.if-length.false c.requires.some low (sym c.eq.ensures ∙ c.if-eq.false)
