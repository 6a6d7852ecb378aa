use Rattle.std.proofs.Common.{◌≡◌, ℕ, ◌+◌, ◌*◌, ◌%◌, ◌^◌, List, get_or, add-one, refl, sym, ◌∙◌, ap}
use Rattle.model_walk.specs.inner.GuidSlots.{hash_seen}
use Rattle.model_walk.proofs.distinct_guids.hash_of.Goals as goal

-- one character more
step : (n h : ℕ) (chars : List ℕ) → h ≡ hash_seen n chars → (h * 31 % 2 ^ 32 + get_or chars (n + 10) 0) % 2 ^ 32 ≡ hash_seen (n + 1) chars
unfolding hash_seen
step n h chars e =
    ap (λ x. (x * 31 % 2 ^ 32 + get_or chars (n + 10) 0) % 2 ^ 32) e ∙ ap (λ m. hash_seen m chars) (sym (add-one n))

pub loop-at-init : goal.loop-at-init
unfolding hash_seen
loop-at-init c = refl

pub loop-at-preserved : goal.loop-at-preserved
loop-at-preserved c = step c.loop-at.at c.loop-at.hash c.args.chars.now c.loop-at.invariant
