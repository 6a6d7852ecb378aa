-- What is carried to the buckets of a grid.
use Rattle.std.proofs.Common.{◌≡◌, ◌↔◌, ℕ, ◌+◌, ◌<◌, ◌≤◌, ◌⊎◌, inl, inr, pos, List, [], ◌∷◌, ◌++◌, length, get_or, take, map, Option, Some, None, IfSome, IsSome, MatchOption, is_none, true, true≢false, refl, sym, ap, ap₂, subst, arith, ◌∙◌}
use Rattle.std.specs.List.{All, Any, AllPairs, AllZip}
use Rattle.std.specs.declared.cmp.Ordering.TheVariants.{Less}
use Rattle.std.proofs.lemmas.Bool.{cases_order}
use Rattle.std.proofs.lemmas.List.{take_more, length-map, get_or-map, get_or_default}
use Rattle.std.proofs.lemmas.List.Elements.{All-nil, All-cons}
use Rattle.bucket_grid.specs.declared.cell.Cell.{Cell}
use Rattle.bucket_grid.specs.declared.bucket_table.Bucket.{Bucket}
use Rattle.bucket_grid.specs.Cells.{cell_cmp, members, IsBucket}
use Rattle.bucket_grid.specs.Grids.{GridValue}
use Rattle.bucket_grid.specs.BucketTable.{IsTable}
use Rattle.bucket_grid.specs.Subjects.{subject_at}
use Rattle.bucket_grid.proofs.Zips.{zip_at, zip_length, zip_push}
use Rattle.bucket_check.specs.ClashSets.{SetValue, IsSame, subjects_at, IsUnmoved, IsSetOf}
use Rattle.clash_delta.specs.declared.slot.Slot.{Slot}
use Rattle.clash_delta.specs.inner.ElementNumbers.{subjects}
use Rattle.clash_delta.specs.BucketProgress.{cells_of, bucket_cells, IsDone, IsOf}
use Rattle.clash_delta.specs.BucketPlaces.{Rise, IsPlaceOf}
use Rattle.clash_delta.specs.Carried.{IsCarried, IsMoved, IsCarriedSet, IsCarriedTo, IsUnmovedAt, IsReachedCell}
use Rattle.clash_delta.proofs.Cells.{not_less, lesser}
use Rattle.clash_delta.proofs.Filled.{rise_by}
use Rattle.clash_delta.proofs.Undone.{nothing, fact, done_at, not_done_at}

-- what stands past the end of a list of buckets of a grid
abbrev pub no_bucket : Bucket
no_bucket = record { cell = nothing.cell; members = [] }

-- the buckets of a progress stand where those of its grid do
pub place_of_bucket : (slots : List Slot) (grid : GridValue) (cell : Cell) (place : ℕ) → cells_of slots ≡ bucket_cells grid → place < length grid.buckets → ((d : Bucket) → (get_or grid.buckets place d).cell ≡ cell) → IsPlaceOf slots cell place
place_of_bucket slots grid cell place same h is =
    let count : length slots ≡ length grid.buckets = sym (length-map slots (λ (s : Slot). s.cell)) ∙ ap length same ∙ length-map grid.buckets (λ (b : Bucket). b.cell) in
    let l : place < length slots = omega (arith, h, count) in
    record {
      within = l;
      is =
          λ d. sym (get_or-map (λ (s : Slot). s.cell) slots place d d.cell l) ∙ ap (λ m. get_or m place d.cell) same
          ∙ get_or-map (λ (b : Bucket). b.cell) grid.buckets place no_bucket d.cell h ∙ is no_bucket;
    }

module _ (done : List Slot) (before after : GridValue) (version : ℕ) where
  -- a bucket that isn't unmoved where it is reached isn't carried
  pub none_unmoved : (place : ℕ) (cell : Cell) → IsTable before.boxes before.buckets → IsReachedCell before.buckets cell place → (IsUnmovedAt before after place cell → ⊥) → IsCarried done before after cell → ⊥
  none_unmoved place cell table reached never carried =
      let a : Any (λ (b : Bucket). b.cell ≡ cell) before.buckets = table.all cell carried.was_bucket in
      let here : (get_or before.buckets a.0 a.1).cell ≡ cell = ap (λ (b : Bucket). b.cell) a.3 ∙ a.4 in
      by a.0 a.1 a.2 here (cases_order a.0 place)
    where
      by : (j : ℕ) (b : Bucket) → j < length before.buckets → (get_or before.buckets j b).cell ≡ cell → (j ≡ place) ⊎ ((j < place) ⊎ (place < j)) → ⊥
      by j b l here (inl e) =
          never
          (record {
            within = omega (arith, l, e);
            is = λ d. ap (λ (k : ℕ). (get_or before.buckets k d).cell) (sym e) ∙ ap (λ (x : Bucket). x.cell) (get_or_default before.buckets j d b l) ∙ here;
            members = carried.unmoved.members;
          })
      by j b l here (inr (inl lt)) = not_less (get_or before.buckets j b).cell cell here (reached.below j b lt)
      by j b l here (inr (inr gt)) =
          reached.first b (omega (arith, l, gt)) (subst (λ c. cell_cmp (get_or before.buckets place b).cell c ≡ Less) here (table.rising place j b gt l))

  module _ (of : IsOf before done) (cell : Cell) (place : ℕ) (at : IsUnmovedAt before after place cell) (unmoved : IsUnmoved before after cell) (table : IsTable before.boxes before.buckets) where
    pub place_is : IsPlaceOf done cell place
    place_is = place_of_bucket done before cell place of.buckets at.within at.is

    -- the set that the bucket had is right for its grid
    pub old_right : (s : Slot) (x : SetValue) → s ≡ get_or done place s → s.set ≡ Some x → IsSetOf before cell x
    old_right s x e f =
        let right : IfSome s.set (IsSetOf before s.cell) = subst (λ (t : Slot). IfSome t.set (IsSetOf before t.cell)) (sym e) (of.right place s place_is.within) in
        let there : IfSome (Some x) (IsSetOf before s.cell) = subst (λ o. IfSome o (IsSetOf before s.cell)) f right in
        subst (λ c. IsSetOf before c x) (ap (λ (t : Slot). t.cell) e ∙ place_is.is s) there

    -- a bucket with a set is carried
    pub is_carried : (s : Slot) (x : SetValue) → s ≡ get_or done place s → s.set ≡ Some x → IsCarried done before after cell
    is_carried s x e f = record {
      was_bucket = subst (IsBucket before.boxes) (at.is no_bucket) (table.only place no_bucket at.within);
      was_done = done_at done cell place s place_is e (subst (λ (o : Option SetValue). IsSome o) (sym f) refl);
      unmoved = unmoved;
    }

    pub is_moved : (s : Slot) (x y : SetValue) → s ≡ get_or done place s → s.set ≡ Some x → y.work ≡ record { project = x.work.project; version = version; cell = x.work.cell; grid = after } → y.pairs ≡ x.pairs → IsSetOf after x.work.cell y
        → IsCarriedSet done before after version cell y
    is_moved s x y e f w p r =
        let c : x.work.cell ≡ cell = (old_right s x e f).cell_is in
        let whole : s ≡ record { cell = cell; set = Some x } = ap₂ (λ k o. let t : Slot = record { cell = k; set = o } in t) (ap (λ (t : Slot). t.cell) e ∙ place_is.is s) f in
        record {
          carried = is_carried s x e f;
          moved = record {
            old = x;
            was = (place, place_is.within, get_or_default done place _ s place_is.within ∙ sym e ∙ whole);
            work = w ∙ ap (λ k. record { project = x.work.project; version = version; cell = k; grid = after }) c;
            pairs = p;
          };
          right = subst (λ k. IsSetOf after k y) c r;
        }

    -- a bucket without one isn't
    pub isnt_carried : (s : Slot) → Rise done → s ≡ get_or done place s → is_none s.set ≡ true → IsCarried done before after cell → ⊥
    isnt_carried s rise e none carried = not_done_at done cell place s rise place_is e none carried.was_done

  -- ---- all buckets
  pub record IsFor (b : Bucket) (s : Slot) : Type 0 where
    pub cell : s.cell ≡ b.cell
    pub set : IsCarriedTo done before after version b.cell s.set

  -- one more bucket
  pub for_more : (bs : List Bucket) (i : ℕ) (b : Bucket) (slots new : List Slot) (s : Slot) → i < length bs → b ≡ get_or bs i b → AllZip IsFor (take i bs) slots → s.cell ≡ b.cell → IsCarriedTo done before after version b.cell s.set → new ≡ slots ++ s ∷ [] → AllZip IsFor (take (i + 1) bs) new
  for_more bs i b slots new s h e zip c is made =
      subst (λ (l : List Slot). AllZip IsFor (take (i + 1) bs) l) (sym made)
      (subst (λ (l : List Bucket). AllZip IsFor l (slots ++ s ∷ [])) (sym (take_more bs i b h ∙ ap (λ (x : Bucket). take i bs ++ x ∷ []) (sym e)))
      (zip_push IsFor (take i bs) slots b s zip (record { cell = c; set = is })))

  pub cells_for : (bs : List Bucket) (slots : List Slot) → AllZip IsFor bs slots → cells_of slots ≡ map (λ (b : Bucket). b.cell) bs
  cells_for [] [] h = refl
  cells_for [] (s ∷ ss) h = absurd h
  cells_for (b ∷ bs) [] h = absurd h
  cells_for (b ∷ bs) (s ∷ ss) h = ap₂ (λ c l. c ∷ l) h.0.cell (cells_for bs ss h.1)

  all_for : (P : Cell → SetValue → Type 0) → ((c : Cell) (x : SetValue) → IsCarriedSet done before after version c x → P c x) → (bs : List Bucket) (slots : List Slot) → AllZip IsFor bs slots → All (λ (s : Slot). IfSome s.set (P s.cell)) slots
  all_for P on [] [] h = All-nil (λ (s : Slot). IfSome s.set (P s.cell))
  all_for P on [] (s ∷ ss) h = absurd h
  all_for P on (b ∷ bs) [] h = absurd h
  all_for P on (b ∷ bs) (s ∷ ss) h =
      All-cons (λ (t : Slot). IfSome t.set (P t.cell)) s ss
      (subst (λ c. IfSome s.set (P c)) (sym h.0.cell) (one b.cell s.set h.0.set)) (all_for P on bs ss h.1)
    where
      one : (c : Cell) (o : Option SetValue) → IsCarriedTo done before after version c o → IfSome o (P c)
      one c None k = tt
      one c (Some x) k = on c x k

  pub right_for : (bs : List Bucket) (slots : List Slot) → AllZip IsFor bs slots → All (λ (s : Slot). IfSome s.set (IsSetOf after s.cell)) slots
  right_for bs slots h = all_for (IsSetOf after) (λ c x k. k.right) bs slots h

  pub moved_for : (bs : List Bucket) (slots : List Slot) → AllZip IsFor bs slots → All (λ (s : Slot). IfSome s.set (IsMoved done after version s.cell)) slots
  moved_for bs slots h = all_for (IsMoved done after version) (λ c x k. k.moved) bs slots h

  carried_by : (c : Cell) (o : Option SetValue) → IsCarriedTo done before after version c o → IsSome o → IsCarried done before after c
  carried_by c None k some = absurd (true≢false (sym some))
  carried_by c (Some x) k some = k.carried

  some_by : (c : Cell) (o : Option SetValue) → IsCarriedTo done before after version c o → IsCarried done before after c → IsSome o
  some_by c None k carried = absurd (k carried)
  some_by c (Some x) k carried = refl

  -- what is carried is a bucket of the next grid too
  still_bucket : (cell : Cell) → IsCarried done before after cell → IsBucket after.boxes cell
  still_bucket cell carried =
      let count = zip_length IsSame (subjects_at before (members before.boxes cell)) (subjects_at after (members after.boxes cell)) carried.unmoved.members in
      omega (arith, carried.was_bucket, count, length-map (members before.boxes cell) (subject_at (subjects before)), length-map (members after.boxes cell) (subject_at (subjects after)))

  -- done is exactly what is carried
  pub done_is_carried : (slots : List Slot) → AllZip IsFor after.buckets slots → IsTable after.boxes after.buckets → (cell : Cell) → IsDone slots cell ↔ IsCarried done before after cell
  done_is_carried slots h table cell = (to, from)
    where
      at : (j : ℕ) → j < length after.buckets → IsFor (get_or after.buckets j no_bucket) (get_or slots j nothing)
      at j l = zip_at IsFor after.buckets slots j no_bucket nothing h l

      count : length after.buckets ≡ length slots
      count = zip_length IsFor after.buckets slots h

      to : IsDone slots cell → IsCarried done before after cell
      to d =
          let f = at d.0 (omega (arith, d.2, count)) in
          let g = fact (λ (s : Slot). (s.cell ≡ cell) × IsSome s.set) slots d in
          let is : get_or slots d.0 nothing ≡ d.1 = get_or_default slots d.0 nothing d.1 d.2 ∙ d.3 in
          let c : (get_or after.buckets d.0 no_bucket).cell ≡ cell = sym f.cell ∙ ap (λ (s : Slot). s.cell) is ∙ g.0 in
          subst (IsCarried done before after) c (carried_by _ _ f.set (subst (λ (s : Slot). IsSome s.set) (sym is) g.1))

      from : IsCarried done before after cell → IsDone slots cell
      from carried =
          let a : Any (λ (b : Bucket). b.cell ≡ cell) after.buckets = table.all cell (still_bucket cell carried) in
          let f = at a.0 a.2 in
          let c : (get_or after.buckets a.0 no_bucket).cell ≡ cell = ap (λ (b : Bucket). b.cell) (get_or_default after.buckets a.0 no_bucket a.1 a.2 ∙ a.3) ∙ a.4 in
          let l : a.0 < length slots = omega (arith, a.2, count) in
          let s : Slot = get_or slots a.0 nothing in
          (a.0, s, l, get_or_default slots a.0 s nothing l, (f.cell ∙ c, some_by _ _ f.set (subst (IsCarried done before after) (sym c) carried)))

  -- the buckets of the progress rise, and it is of the next grid
  pub rise_for : (slots : List Slot) → AllZip IsFor after.buckets slots → IsTable after.boxes after.buckets → Rise slots
  rise_for slots h table = rise_by (λ (b : Bucket). b.cell) (λ (s : Slot). s.cell) after.buckets slots no_bucket (sym (cells_for after.buckets slots h)) table.rising

  pub of_for : (slots : List Slot) → AllZip IsFor after.buckets slots → IsOf after slots
  of_for slots h = record { buckets = cells_for after.buckets slots h; right = right_for after.buckets slots h }

-- what is below a bucket's cell is below the next ones
pub below_next : (before after : List Bucket) (i j k place : ℕ) (b d e : Bucket) → IsReachedCell before b.cell place → b ≡ get_or after i b → AllPairs (λ (x y : Bucket). cell_cmp x.cell y.cell ≡ Less) after → i < j → j < length after → k < place
    → cell_cmp (get_or before k d).cell (get_or after j e).cell ≡ Less
below_next before after i j k place b d e reached is rising lt within h =
    let same : b ≡ get_or after i e = is ∙ get_or_default after i b e (omega (arith, lt, within)) in
    let up : cell_cmp b.cell (get_or after j e).cell ≡ Less = ap (λ (x : Bucket). cell_cmp x.cell (get_or after j e).cell) same ∙ rising i j e lt within in
    lesser (get_or before k d).cell b.cell (get_or after j e).cell (reached.below k d h) up
