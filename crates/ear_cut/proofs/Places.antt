-- Points with their places.
use Rattle.std.proofs.Common.{◌≡◌, ◌∙◌, ap, sym, refl, ℕ, ◌+◌, ◌<◌, List, [], ◌∷◌, ◌++◌, take, length, get_or, arith, suc}
use Rattle.std.proofs.lemmas.List.{take_more, length-take-le}
use Rattle.bim_model.specs.declared.geometry.Point.{Point}
use Rattle.ear_cut.specs.declared.corners.Corner.{Corner}
use Rattle.ear_cut.specs.Corners.{corners_from}

abbrev pub corner : ℕ → Point → Corner
corner n p = record { place = n; point = p }

shifted : (n m : ℕ) → (n + 1) + m ≡ n + suc m
shifted n m = omega arith

nothing : (n : ℕ) → n ≡ n + 0
nothing n = omega arith

pub corners_push : (n : ℕ) (ps : List Point) (p : Point) → corners_from n (ps ++ p ∷ []) ≡ corners_from n ps ++ corner (n + length ps) p ∷ []
corners_push n [] p = ap (λ (m : ℕ). corner m p ∷ []) (nothing n)
corners_push n (q ∷ qs) p = ap (λ (cs : List Corner). corner n q ∷ cs) (corners_push (n + 1) qs p ∙ ap (λ (m : ℕ). corners_from (n + 1) qs ++ corner m p ∷ []) (shifted n (length qs)))

pub length-corners : (n : ℕ) (ps : List Point) → length (corners_from n ps) ≡ length ps
length-corners n [] = refl
length-corners n (p ∷ ps) = ap suc (length-corners (n + 1) ps)

pub corners_more : (ps : List Point) (i : ℕ) (d : Point) → i < length ps → corners_from 0 (take i ps) ++ corner i (get_or ps i d) ∷ [] ≡ corners_from 0 (take (i + 1) ps)
corners_more ps i d h =
    let n : length (take i ps) ≡ i = length-take-le i ps (omega arith) in
    sym (ap (corners_from 0) (take_more ps i d h) ∙ (corners_push 0 (take i ps) (get_or ps i d) ∙ ap (λ (m : ℕ). corners_from 0 (take i ps) ++ corner m (get_or ps i d) ∷ []) (same (length (take i ps)) i n)))
  where
    same : (a i : ℕ) → a ≡ i → 0 + a ≡ i
    same a i e = omega arith
