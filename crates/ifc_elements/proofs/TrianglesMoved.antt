-- Where triangles lie in the building.
use Rattle.std.proofs.Common.{◌≡◌, ℕ, zero, suc, ◌+◌, ◌<◌, List, [], ◌∷◌, ◌++◌, length, get_or, take, map, refl, sym, ap, ◌∙◌, subst, arith}
use Rattle.std.specs.List.{All, Any}
use Rattle.std.proofs.lemmas.List.{take_more, map-append}
use Rattle.std.proofs.lemmas.List.Elements.{All-append}
use Rattle.std.proofs.lemmas.Grind.{common_steps}
use Rattle.bim_model.specs.Boxes.{corners_of}
use Rattle.bim_model.specs.Models.{IsInReach}
use Rattle.bim_model.specs.declared.geometry.Point.{Point}
use Rattle.bim_model.specs.declared.geometry.Triangle.{Triangle}
use Rattle.placement.specs.declared.frame.Frame.{Frame}
use Rattle.ifc_elements.specs.Surfaces.{moved}

any_left : {X : Type 0} (P : X → Type 0) (xs ys : List X) → Any P xs → Any P (xs ++ ys)
any_left P xs ys (k, x, lt, at, h) = (k, x, grind (arith, common_steps), grind (arith, common_steps), h)

any_right : {X : Type 0} (P : X → Type 0) (xs ys : List X) → Any P ys → Any P (xs ++ ys)
any_right P [] ys h = h
any_right P (x ∷ xs) ys h = let r = any_right P xs ys h in (suc r.0, r.1, omega (arith, r.2), r.3, r.4)

pub corners_append : (xs ys : List Triangle) → corners_of (xs ++ ys) ≡ corners_of xs ++ corners_of ys
corners_append [] ys = refl
corners_append (x ∷ xs) ys = ap (λ z. x.a ∷ x.b ∷ x.c ∷ z) (corners_append xs ys)

pub any_corner : (P : Point → Type 0) (f : Triangle → Triangle) (ts : List Triangle) (k : ℕ) (d : Triangle) → k < length ts → Any P (corners_of (f (get_or ts k d) ∷ [])) → Any P (corners_of (map f ts))
any_corner P f [] k d lt any = absurd (omega (arith, lt))
any_corner P f (s ∷ ts) zero d lt any = any_left P (corners_of (f s ∷ [])) (corners_of (map f ts)) any
any_corner P f (s ∷ ts) (suc k) d lt any = any_right P (corners_of (f s ∷ [])) (corners_of (map f ts)) (any_corner P f ts k d (omega (arith, lt)) any)

pub moved_more : (frame : Frame) (own : List Triangle) (k : ℕ) (d there : Triangle) (old new : List Triangle) → k < length own → (there ≡ moved frame (get_or own k d)) × All IsInReach (corners_of (there ∷ [])) → new ≡ old ++ there ∷ []
    → (old ≡ map (moved frame) (take k own)) × All IsInReach (corners_of old) → (new ≡ map (moved frame) (take (k + 1) own)) × All IsInReach (corners_of new)
moved_more frame own k d there old new lt is grown h =
    let t = get_or own k d in
    let all : map (moved frame) (take (k + 1) own) ≡ map (moved frame) (take k own) ++ moved frame t ∷ [] = ap (map (moved frame)) (take_more own k d lt) ∙ map-append (moved frame) (take k own) (t ∷ []) in
    let same : old ++ there ∷ [] ≡ map (moved frame) (take k own) ++ moved frame t ∷ [] = ap (λ z. z ++ there ∷ []) h.0 ∙ ap (λ z. map (moved frame) (take k own) ++ z ∷ []) is.0 in
    let corners : corners_of new ≡ corners_of old ++ corners_of (there ∷ []) = ap corners_of grown ∙ corners_append old (there ∷ []) in
    (grown ∙ same ∙ sym all, subst (All IsInReach) (sym corners) (All-append IsInReach (corners_of old) (corners_of (there ∷ [])) h.1 is.1))
