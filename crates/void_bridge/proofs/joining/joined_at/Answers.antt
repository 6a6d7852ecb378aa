use Rattle.std.proofs.Common.{◌≡◌, ◌∙◌, ap, ℕ, ◌+◌, ◌-◌, ◌++◌, ◌∷◌, [], List, length, take, drop}
use Rattle.std.specs.Prelude.{slice_index_or}
use Rattle.std.proofs.lemmas.List.{take_rest}
use Rattle.std.proofs.lemmas.Slice.{pushed}
use Rattle.ear_cut.specs.declared.corners.Corner.{Corner}
use Rattle.ear_cut.specs.Corners.{nobody}
use Rattle.void_bridge.specs.Bridges.{joined_at}
use Rattle.void_bridge.proofs.joining.joined_at.Goals as goal

-- parts that end where their lists do
whole_parts : (current hole : List Corner) (i j : ℕ)
    → take (i + 1) current ++ take (length hole - j) (drop j hole) ++ take j hole ++ slice_index_or hole j nobody ∷ [] ++ slice_index_or current i nobody ∷ [] ++ take (length current - (i + 1)) (drop (i + 1) current) ≡ joined_at current i hole j
unfolding joined_at
whole_parts current hole i j =
    let q = slice_index_or hole j nobody in let p = slice_index_or current i nobody in
    ap (λ (l : List Corner). take (i + 1) current ++ l ++ take j hole ++ q ∷ [] ++ p ∷ [] ++ take (length current - (i + 1)) (drop (i + 1) current)) (take_rest hole j)
    ∙ ap (λ (l : List Corner). take (i + 1) current ++ drop j hole ++ take j hole ++ q ∷ [] ++ p ∷ [] ++ l) (take_rest current (i + 1))

pub returns : goal.returns
returns c =
    let a = pushed _ c.new-list.ensures.items c.in_ok-extend_from_slice.was c.extend_from_slice.ensures.items in
    let b = pushed _ a c.in_ok-extend_from_slice-2.was c.extend_from_slice-2.ensures.items in
    let d = pushed _ b c.in_ok-extend_from_slice-3.was c.extend_from_slice-3.ensures.items in
    let e = pushed _ d c.in_ok-push.was c.push.ensures.items in
    let f = pushed _ e c.in_ok-push-2.was c.push-2.ensures.items in
    let g = pushed _ f c.in_ok-extend_from_slice-4.was c.extend_from_slice-4.ensures.items in
    g ∙ whole_parts c.args.current.now c.args.hole.now c.args.i c.args.j
