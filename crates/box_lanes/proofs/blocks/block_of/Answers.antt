use Rattle.std.proofs.Common.{rules, ◌≡◌, ℤ, List, false, [], ◌∷◌}
use Rattle.std.specs.List.{All}
use Rattle.std.proofs.lemmas.List.Elements.{All-nil, All-cons, All-weaker}
use Rattle.bim_model.specs.declared.geometry.Extent.{Extent}
use Rattle.box_lanes.specs.CoarseBoxes.{Fits32}
use Rattle.box_lanes.proofs.Vectors.{Fit}
use Rattle.box_lanes.proofs.Eights.{read_sides}
use Rattle.box_lanes.proofs.Coarse.{coarse_sides_are}
use Rattle.box_lanes.proofs.blocks.block_of.Goals as goal

eight : (a b c d e f g h : Extent) → Fits32 a → Fits32 b → Fits32 c → Fits32 d → Fits32 e → Fits32 f → Fits32 g → Fits32 h → All Fits32 (a ∷ b ∷ c ∷ d ∷ e ∷ f ∷ g ∷ h ∷ [])
eight a b c d e f g h ia ib ic id ie if' ig ih =
    All-cons Fits32 a (b ∷ c ∷ d ∷ e ∷ f ∷ g ∷ h ∷ []) ia (All-cons Fits32 b (c ∷ d ∷ e ∷ f ∷ g ∷ h ∷ []) ib (All-cons Fits32 c (d ∷ e ∷ f ∷ g ∷ h ∷ []) ic (All-cons Fits32 d (e ∷ f ∷ g ∷ h ∷ []) id (All-cons Fits32 e (f ∷ g ∷ h ∷ []) ie (All-cons Fits32 f (g ∷ h ∷ []) if' (All-cons Fits32 g (h ∷ []) ig (All-cons Fits32 h [] ih (All-nil Fits32))))))))

six : {a b c d e f a2 b2 c2 d2 e2 f2 : List ℤ} → a ≡ a2 → b ≡ b2 → c ≡ c2 → d ≡ d2 → e ≡ e2 → f ≡ f2 → (a ∷ b ∷ c ∷ d ∷ e ∷ f ∷ []) ≡ (a2 ∷ b2 ∷ c2 ∷ d2 ∷ e2 ∷ f2 ∷ [])
six p q r s t u = rw (p, q, r, s, t, u)

pub returns : goal.returns
returns c =
    let es = c.args.a ∷ c.args.b ∷ c.args.c ∷ c.args.d ∷ c.args.e ∷ c.args.f ∷ c.args.g ∷ c.args.h ∷ [] in
    let fits : All Fits32 es = eight c.args.a c.args.b c.args.c c.args.d c.args.e c.args.f c.args.g c.args.h
    (record { low_x = search rules; low_y = search rules; low_z = search rules; high_x = search rules; high_y = search rules; high_z = search rules })
    (record { low_x = search rules; low_y = search rules; low_z = search rules; high_x = search rules; high_y = search rules; high_z = search rules })
    (record { low_x = search rules; low_y = search rules; low_z = search rules; high_x = search rules; high_y = search rules; high_z = search rules })
    (record { low_x = search rules; low_y = search rules; low_z = search rules; high_x = search rules; high_y = search rules; high_z = search rules })
    (record { low_x = search rules; low_y = search rules; low_z = search rules; high_x = search rules; high_y = search rules; high_z = search rules })
    (record { low_x = search rules; low_y = search rules; low_z = search rules; high_x = search rules; high_y = search rules; high_z = search rules })
    (record { low_x = search rules; low_y = search rules; low_z = search rules; high_x = search rules; high_y = search rules; high_z = search rules })
    (record { low_x = search rules; low_y = search rules; low_z = search rules; high_x = search rules; high_y = search rules; high_z = search rules }) in
    record {
      low_x_is = read_sides (λ (b : Extent). b.low.x) es (All-weaker Fits32 (Fit false (λ (b : Extent). b.low.x)) (λ b (f : Fits32 b). f.low_x) es fits);
      low_y_is = read_sides (λ (b : Extent). b.low.y) es (All-weaker Fits32 (Fit false (λ (b : Extent). b.low.y)) (λ b (f : Fits32 b). f.low_y) es fits);
      low_z_is = read_sides (λ (b : Extent). b.low.z) es (All-weaker Fits32 (Fit false (λ (b : Extent). b.low.z)) (λ b (f : Fits32 b). f.low_z) es fits);
      high_x_is = read_sides (λ (b : Extent). b.high.x) es (All-weaker Fits32 (Fit false (λ (b : Extent). b.high.x)) (λ b (f : Fits32 b). f.high_x) es fits);
      high_y_is = read_sides (λ (b : Extent). b.high.y) es (All-weaker Fits32 (Fit false (λ (b : Extent). b.high.y)) (λ b (f : Fits32 b). f.high_y) es fits);
      high_z_is = read_sides (λ (b : Extent). b.high.z) es (All-weaker Fits32 (Fit false (λ (b : Extent). b.high.z)) (λ b (f : Fits32 b). f.high_z) es fits);
      coarse_is =
          six
          (coarse_sides_are (λ (b : Extent). b.low.x) es (All-weaker Fits32 (Fit false (λ (b : Extent). b.low.x)) (λ b (f : Fits32 b). f.low_x) es fits) c.coarse_of.ensures)
          (coarse_sides_are (λ (b : Extent). b.low.y) es (All-weaker Fits32 (Fit false (λ (b : Extent). b.low.y)) (λ b (f : Fits32 b). f.low_y) es fits) c.coarse_of-2.ensures)
          (coarse_sides_are (λ (b : Extent). b.low.z) es (All-weaker Fits32 (Fit false (λ (b : Extent). b.low.z)) (λ b (f : Fits32 b). f.low_z) es fits) c.coarse_of-3.ensures)
          (coarse_sides_are (λ (b : Extent). b.high.x) es (All-weaker Fits32 (Fit false (λ (b : Extent). b.high.x)) (λ b (f : Fits32 b). f.high_x) es fits) c.coarse_of-4.ensures)
          (coarse_sides_are (λ (b : Extent). b.high.y) es (All-weaker Fits32 (Fit false (λ (b : Extent). b.high.y)) (λ b (f : Fits32 b). f.high_y) es fits) c.coarse_of-5.ensures)
          (coarse_sides_are (λ (b : Extent). b.high.z) es (All-weaker Fits32 (Fit false (λ (b : Extent). b.high.z)) (λ b (f : Fits32 b). f.high_z) es fits) c.coarse_of-6.ensures);
      fits = fits;
    }
