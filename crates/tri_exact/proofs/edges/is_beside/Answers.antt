use Rattle.std.proofs.Common.{ℕ, ℤ, pos, ◌*ℤ◌, ◌≤ℤ◌, ◌<ℤ◌, ◌*◌, ◌≤◌, unsigned_abs, to_z, arith, ◌∙◌}
use Rattle.std.proofs.lemmas.Int.{ints}
use mir.Syntax.{w64}
use Rattle.exact_arith.proofs.Ranges.{Kept, value_kept, value_kept_64, product_kept, kept_128, kept_64, in_64, fits_128, fits_64, renamed, at_most, above, zero_kept, test_kept, natural_kept_64, same_64, difference_of_products}
use Rattle.tri_exact.proofs.edges.is_beside.Goals as goal

clash : (x y : ℤ) → x <ℤ y → y ≤ℤ x → ⊥
clash x y h k = omega (arith, ints)

arg : (a : ℤ) → unsigned_abs a ≤ 768000000000000 → Kept (in_64 a) a 768000000000000
arg a h = value_kept_64 a h tt

bound_kept : (d : ℕ) → d ≤ 10000 → Kept (in_64 (to_z w64 d *ℤ to_z w64 d)) (pos d *ℤ pos d) (10000 * 10000)
bound_kept d h = kept_64 (product_kept (natural_kept_64 d h tt) (natural_kept_64 d h tt)) tt

pub returns-then-share-le0 : goal.returns-then-share-le0
returns-then-share-le0 c = (λ x. absurd (cc x), λ f. absurd (clash (pos 0) c.args.share f.starts (at_most (arg c.args.share c.requires.share_in) zero_kept c.if-share-le0.true)))

pub returns-then-length-share : goal.returns-then-length-share
returns-then-length-share c = (λ x. absurd (cc x), λ f. absurd (clash c.args.share c.args.length f.ends (at_most (arg c.args.length c.requires.length_in) (arg c.args.share c.requires.share_in) c.if-length-share.true)))

pub overflow_mul-bound : goal.overflow_mul-bound
overflow_mul-bound c = fits_64 (product_kept (natural_kept_64 c.args.d c.requires.d_in tt) (natural_kept_64 c.args.d c.requires.d_in tt)) tt

pub overflow_mul-result : goal.overflow_mul-result
overflow_mul-result c = fits_128 (product_kept (kept_128 (bound_kept c.args.d c.requires.d_in) tt) (kept_128 (arg c.args.length c.requires.length_in) tt)) tt

pub returns : goal.returns
returns c =
    test_kept (renamed (kept_128 (value_kept c.minor.result c.minor.ensures.small) tt) (c.minor.ensures.value ∙ difference_of_products _ _ _ _ _ _ _ _ (same_64 c.args.length c.requires.length_in tt) (same_64 c.args.gap c.requires.gap_in tt) (same_64 c.args.share c.requires.share_in tt) (same_64 c.args.share c.requires.share_in tt))) (kept_128 (product_kept (kept_128 (bound_kept c.args.d c.requires.d_in) tt) (kept_128 (arg c.args.length c.requires.length_in) tt)) tt) (
      λ h. record {
        starts = above (arg c.args.share c.requires.share_in) zero_kept c.if-share-le0.false;
        ends = above (arg c.args.length c.requires.length_in) (arg c.args.share c.requires.share_in) c.if-length-share.false;
        low = h;
      },
      λ f. f.low,
    )
