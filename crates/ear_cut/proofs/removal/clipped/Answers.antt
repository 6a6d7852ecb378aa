use Rattle.std.proofs.Common.{◌≡◌, ◌∙◌, ◌+◌, ◌-◌, ◌<◌, ◌≤◌, ap, sym, subst, ℕ, suc, length, List, [], ◌∷◌, ◌++◌, refl, Some, arith}
use Rattle.std.specs.Prelude.{remove}
use Rattle.std.proofs.lemmas.List.Edits.{length-remove}
use Rattle.ear_cut.specs.declared.corners.Corner.{Corner}
use Rattle.ear_cut.specs.declared.corners.Turn.{Turn}
use Rattle.ear_cut.specs.declared.ears.Ear.{Ear}
use Rattle.ear_cut.specs.Corners.{InGrid, turn_at, angle_of}
use Rattle.ear_cut.specs.Removal.{is_turned_over, ear_of, cut_by}
use Rattle.ear_cut.specs.inner.EarNotes.{IsNoted, IsRemoval}
use Rattle.ear_cut.specs.inner.CornerFrames.{AreFramesIn}
use Rattle.ear_cut.proofs.Closed.{turn_in_grid}
use Rattle.ear_cut.proofs.Steps.{behind, step_on, step_stuck, last_one, last_stuck, behind_nothing}
use Rattle.ear_cut.proofs.removal.clipped.Goals as goal

pub loop-step-init : goal.loop-step-init
loop-step-init c =
    let left = c.args.left.items in
    record {
      count = refl;
      in_grid = c.requires.left_in;
      noted = subst (λ (cs : List Corner). IsNoted c.args.view cs c.in_ok-notes.notes.items) c.deref.ensures.value c.in_ok-notes.ensures;
      framed = subst (λ (cs : List Corner). AreFramesIn c.args.view cs c.in_ok-frames.frames) c.deref-2.ensures.value c.in_ok-frames.ensures;
      whole = subst (λ (es : List Ear). cut_by c.args.view (length left - 3) left ≡ behind es (cut_by c.args.view (length left - 3) left)) (sym c.in_ok-ears.ensures.items) (behind_nothing (cut_by c.args.view (length left - 3) left));
    }

-- removals that are still to come, one of them now
to_come : (n k : ℕ) → k < n → n - k ≡ suc (n - (k + 1))
to_come n k h = omega (arith, h)

pub returns-in-None : goal.returns-in-None
returns-in-None c =
    let n = length c.args.left.items in let k = c.loop-step.step in
    step_stuck c.args.view (n - k) (n - (k + 1)) c.loop-step.left.items c.loop-step.ears.items (cut_by c.args.view (length c.args.left.items - 3) c.args.left.items) (to_come n k (omega (arith, c.loop-step-test.true, c.len-n.ensures))) (sym c.in-None.ensures) c.loop-step.invariant.whole

pub loop-step-preserved : goal.loop-step-preserved
loop-step-preserved c =
    let n = length c.args.left.items in let k = c.loop-step.step in let view = c.args.view in
    let left = c.loop-step.left.items in let r : IsRemoval view left c.in-Some.t c.take_next.new.left.items c.take_next.new.frames c.take_next.new.notes.items = c.in-Some.ensures in
    let l = length-remove left r.i r.i_in in
    record {
      count = shorter (length c.take_next.new.left.items) (length (remove left r.i)) (length left) k n (ap length r.left_is) l c.loop-step.invariant.count;
      in_grid = r.in_grid;
      noted = r.noted;
      framed = r.framed;
      whole =
          subst (λ (es : List Ear). cut_by view (n - 3) c.args.left.items ≡ behind es (cut_by view (n - (k + 1)) c.take_next.new.left.items)) (sym (c.in_ok-push-in-Some.ensures.items ∙ ap (λ (e : Ear). c.loop-step.ears.items ++ e ∷ []) (c.ear_of.ensures ∙ ap ear_of r.turn)))
          (subst (λ (cs : List Corner). cut_by view (n - 3) c.args.left.items ≡ behind (c.loop-step.ears.items ++ ear_of (turn_at left r.i) ∷ []) (cut_by view (n - (k + 1)) cs)) (sym r.left_is)
          (step_on view (n - k) (n - (k + 1)) left r.i c.loop-step.ears.items (cut_by view (n - 3) c.args.left.items) (to_come n k (omega (arith, c.loop-step-test.true, c.len-n.ensures))) (sym r.chosen) c.loop-step.invariant.whole));
    }
  where
    shorter : (a b d k n : ℕ) → a ≡ b → b + 1 ≡ d → d + k ≡ n + 3 → a + (k + 1) ≡ n + 3
    shorter a b d k n e f g = omega (arith, e, f, g)

-- three are left
three_left : (a k n : ℕ) → a + k ≡ n + 3 → k ≤ n → n ≤ k → 2 < n → 1 < a
three_left a k n e f g h = omega (arith, e, f, g, h)

no_more : (n k : ℕ) → n ≤ k → n - k ≡ 0
no_more n k h = omega (arith, h)

pub angle_of-requires : goal.angle_of-requires
angle_of-requires c =
    let left = c.loop-step.left.items in let i = c.loop-step.invariant in
    subst (λ (t : Turn). InGrid t) (sym (c.turn_at-last.ensures ∙ ap (λ (cs : List Corner). turn_at cs 1) c.deref-3.ensures.value))
    (turn_in_grid left 1 i.in_grid (three_left (length left) c.loop-step.step (length c.args.left.items) i.count (omega arith) (omega arith) c.requires.many))

pub returns-then-is_turned_over : goal.returns-then-is_turned_over
returns-then-is_turned_over c =
    let left = c.loop-step.left.items in let n = length c.args.left.items in let k = c.loop-step.step in let view = c.args.view in
    let t = c.turn_at-last.ensures ∙ ap (λ (cs : List Corner). turn_at cs 1) c.deref-3.ensures.value in
    last_stuck view (n - k) left c.loop-step.ears.items (cut_by c.args.view (length c.args.left.items - 3) c.args.left.items) (no_more n k (omega (arith, c.loop-step-test.false)))
    (sym (c.is_turned_over.ensures ∙ ap (is_turned_over view) (c.angle_of.ensures ∙ ap (angle_of view) t)) ∙ c.if-is_turned_over.true) c.loop-step.invariant.whole

pub returns : goal.returns
returns c =
    let left = c.loop-step.left.items in let n = length c.args.left.items in let k = c.loop-step.step in let view = c.args.view in
    let t = c.turn_at-last.ensures ∙ ap (λ (cs : List Corner). turn_at cs 1) c.deref-3.ensures.value in
    last_one view (n - k) left c.loop-step.ears.items (cut_by c.args.view (length c.args.left.items - 3) c.args.left.items) (no_more n k (omega (arith, c.loop-step-test.false)))
    (sym (c.is_turned_over.ensures ∙ ap (is_turned_over view) (c.angle_of.ensures ∙ ap (angle_of view) t)) ∙ c.if-is_turned_over.false) c.loop-step.invariant.whole
    ∙ ap Some (sym (c.in_ok-push.ensures.items ∙ ap (λ (e : Ear). c.loop-step.ears.items ++ e ∷ []) (c.ear_of-2.ensures ∙ ap ear_of t)))
