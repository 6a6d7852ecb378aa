use Rattle.std.proofs.Common.{◌≡◌, ℕ, ◌+◌, ◌<◌, List, [], ◌∷◌, ◌++◌, length, get_or, take, take_all, ap, sym, subst, ◌∙◌}
use Rattle.std.specs.List.{AllZip}
use Rattle.std.proofs.lemmas.List.{take_more}
use Rattle.bucket_grid.specs.declared.bucket_table.Bucket.{Bucket}
use Rattle.bucket_grid.specs.Grids.{GridValue}
use Rattle.bucket_grid.proofs.Zips.{zip_push}
use Rattle.bucket_check.specs.ClashSets.{SetValue, IsSetOf}
use Rattle.clash_publish.specs.Merged.{AreSetsOf}
use Rattle.clash_check.proofs.version_check.sets_of.Goals as goal

-- one more set
more : (grid : GridValue) (bs : List Bucket) (ss made : List SetValue) (i : ℕ) (b : Bucket) (s : SetValue) → i < length bs → b ≡ get_or bs i b
    → AllZip (λ (x : Bucket) (y : SetValue). IsSetOf grid x.cell y) (take i bs) ss → IsSetOf grid b.cell s → made ≡ ss ++ s ∷ []
    → AllZip (λ (x : Bucket) (y : SetValue). IsSetOf grid x.cell y) (take (i + 1) bs) made
more grid bs ss made i b s h is zip set e =
    let R : Bucket → SetValue → Type 0 = λ x y. IsSetOf grid x.cell y in
    subst (λ l. AllZip R l made) (sym (take_more bs i b h))
    (subst (AllZip R (take i bs ++ get_or bs i b ∷ [])) (sym e)
    (zip_push R (take i bs) ss (get_or bs i b) s zip (subst (λ (x : Bucket). IsSetOf grid x.cell s) is set)))

-- all of them
all : (grid : GridValue) (bs : List Bucket) (ss : List SetValue) (i : ℕ) → take i bs ≡ bs → bs ≡ grid.buckets
    → AllZip (λ (x : Bucket) (y : SetValue). IsSetOf grid x.cell y) (take i bs) ss → AreSetsOf grid ss
all grid bs ss i e f zip = subst (λ l. AllZip (λ (x : Bucket) (y : SetValue). IsSetOf grid x.cell y) l ss) (e ∙ f) zip

pub loop-bucket-preserved : goal.loop-bucket-preserved
loop-bucket-preserved g c =
    more c.args.grid.now c.buckets-buckets.result.now c.loop-bucket.sets.items c.push.new.self.items c.loop-bucket.bucket-index c.bucket-item.result c.in_ok-set.set c.loop-bucket-test.true c.bucket-item.is c.loop-bucket.invariant
    c.in_ok-set.ensures c.in_ok-push.ensures.items

pub returns : goal.returns
returns g c =
    all c.args.grid.now c.buckets-buckets.result.now c.loop-bucket.sets.items c.loop-bucket.bucket-index
    (take_all c.loop-bucket.bucket-index c.buckets-buckets.result.now c.loop-bucket-test.false)
    (c.buckets-buckets.ensures.buckets ∙ ap (λ (x : GridValue). x.buckets) c.get.ensures) c.loop-bucket.invariant
