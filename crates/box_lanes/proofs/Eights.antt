-- Boxes and the blocks of their sides.
use Rattle.std.proofs.Common.{◌≡◌, ℕ, zero, suc, ◌+◌, ◌*◌, ◌/◌, ◌<◌, ◌≤◌, ◌^◌, ◌%◌, ℤ, Bool, List, [], ◌∷◌, ◌++◌, map, length, take, drop, get_or, refl, sym, ap, ap₂, ◌∙◌, subst, arith, to_z, of_z}
use Rattle.std.specs.List.{All, flat_map, take-map}
use Rattle.std.proofs.lemmas.Int.{to_z-of_z}
use Rattle.std.proofs.lemmas.List.{length-drop, drop-drop, append_assoc, get_or-drop}
use Rattle.std.proofs.lemmas.List.Elements.{All-nil, All-cons, All-head, All-tail}
use lib.Lanes.{mask_l}
use mir.Syntax.{w32}
use mir.Val.{SFits}
use Rattle.bim_model.specs.declared.geometry.Extent.{Extent}
use Rattle.box_lanes.specs.declared.blocks.Block.{Block}
use Rattle.box_lanes.specs.declared.box_table.BoxTable.TheInside.{Inside}
use Rattle.box_lanes.specs.BoxPlaces.{nowhere, box_at}
use Rattle.box_lanes.specs.Blocks.{boxes_of, boxes_in_block, boxes_in, padded, IsBlock, AreBlocks, HasBlocks, IsTable}
use Rattle.box_lanes.specs.CoarseBoxes.{Fits32}
use Rattle.box_lanes.proofs.Bits.{mask_take}

-- ---- a block
-- the sides of a list of boxes make the boxes
boxes_again : (boxes : List Extent) {lx ly lz hx hy hz : List ℤ} → lx ≡ map (λ (b : Extent). b.low.x) boxes → ly ≡ map (λ (b : Extent). b.low.y) boxes → lz ≡ map (λ (b : Extent). b.low.z) boxes
    → hx ≡ map (λ (b : Extent). b.high.x) boxes → hy ≡ map (λ (b : Extent). b.high.y) boxes → hz ≡ map (λ (b : Extent). b.high.z) boxes → boxes_of lx ly lz hx hy hz ≡ boxes
boxes_again boxes a b c d e f = rw (a, b, c, d, e, f) (again boxes)
  where
    again : (boxes : List Extent) → boxes_of (map (λ (b : Extent). b.low.x) boxes) (map (λ (b : Extent). b.low.y) boxes) (map (λ (b : Extent). b.low.z) boxes)
        (map (λ (b : Extent). b.high.x) boxes) (map (λ (b : Extent). b.high.y) boxes) (map (λ (b : Extent). b.high.z) boxes) ≡ boxes
    again [] = refl
    again (x ∷ xs) = ap (λ l. x ∷ l) (again xs)

block_is : (b : Block) (boxes : List Extent) → IsBlock b boxes → boxes_in_block b ≡ boxes
block_is b boxes a = boxes_again boxes a.low_x_is a.low_y_is a.low_z_is a.high_x_is a.high_y_is a.high_z_is

-- sides that were read from boxes
pub read_sides : {A : Type 0} (side : A → ℤ) (boxes : List A) → All (λ b. SFits w32 (side b)) boxes → map (λ b. to_z w32 (of_z w32 (side b))) boxes ≡ map side boxes
read_sides side [] fits = refl
read_sides side (b ∷ boxes) fits = ap₂ (λ x l. x ∷ l) (to_z-of_z w32 (side b) (All-head (λ b. SFits w32 (side b)) b boxes fits)) (read_sides side boxes (All-tail (λ b. SFits w32 (side b)) b boxes fits))

-- ---- boxes with others behind
head_padded : (n : ℕ) (boxes : List Extent) → padded (suc n) boxes ≡ box_at boxes 0 ∷ padded n (drop 1 boxes)
head_padded n [] = refl
head_padded n (b ∷ boxes) = refl

next_padded : (n k m : ℕ) (boxes : List Extent) → k + 1 ≡ m → padded (suc n) (drop k boxes) ≡ box_at boxes k ∷ padded n (drop m boxes)
next_padded n k m boxes e =
    let same : k + 0 ≡ k = omega arith in
    let here : box_at (drop k boxes) 0 ≡ box_at boxes k = get_or-drop k boxes 0 nowhere ∙ ap (box_at boxes) same in
    let there : drop 1 (drop k boxes) ≡ drop m boxes = drop-drop 1 k boxes ∙ ap (λ j. drop j boxes) e in
    head_padded n (drop k boxes) ∙ ap₂ (λ x l. x ∷ padded n l) here there

-- the eight boxes from a place on
pub eight_padded : (k : ℕ) (boxes : List Extent) → padded 8 (drop k boxes)
    ≡ box_at boxes k ∷ box_at boxes (k + 1) ∷ box_at boxes (k + 2) ∷ box_at boxes (k + 3) ∷ box_at boxes (k + 4) ∷ box_at boxes (k + 5) ∷ box_at boxes (k + 6) ∷ box_at boxes (k + 7) ∷ []
eight_padded k boxes =
    next_padded 7 k (k + 1) boxes (omega arith)
    ∙ ap (λ l. box_at boxes k ∷ l) (next_padded 6 (k + 1) (k + 2) boxes (omega arith)
    ∙ ap (λ l. box_at boxes (k + 1) ∷ l) (next_padded 5 (k + 2) (k + 3) boxes (omega arith)
    ∙ ap (λ l. box_at boxes (k + 2) ∷ l) (next_padded 4 (k + 3) (k + 4) boxes (omega arith)
    ∙ ap (λ l. box_at boxes (k + 3) ∷ l) (next_padded 3 (k + 4) (k + 5) boxes (omega arith)
    ∙ ap (λ l. box_at boxes (k + 4) ∷ l) (next_padded 2 (k + 5) (k + 6) boxes (omega arith)
    ∙ ap (λ l. box_at boxes (k + 5) ∷ l) (next_padded 1 (k + 6) (k + 7) boxes (omega arith)
    ∙ ap (λ l. box_at boxes (k + 6) ∷ l) (next_padded 0 (k + 7) (k + 8) boxes (omega arith))))))))

pub length_padded : (n : ℕ) (boxes : List Extent) → length (padded n boxes) ≡ n
length_padded zero boxes = refl
length_padded (suc n) [] = ap suc (length_padded n [])
length_padded (suc n) (b ∷ boxes) = ap suc (length_padded n boxes)

-- the first of them
front_padded : (m n : ℕ) (boxes : List Extent) → n ≤ m → n ≤ length boxes → take n (padded m boxes) ≡ take n boxes
front_padded m zero boxes h k = refl
front_padded zero (suc n) boxes h k = absurd (omega (arith, h))
front_padded (suc m) (suc n) [] h k = absurd (omega (arith, k))
front_padded (suc m) (suc n) (b ∷ boxes) h k = ap (λ l. b ∷ l) (front_padded m n boxes (omega (arith, h)) (omega (arith, k)))

-- they and the rest
glued : (n : ℕ) (boxes rest : List Extent) → take (length (drop n boxes)) rest ≡ drop n boxes → take (length boxes) (padded n boxes ++ rest) ≡ boxes
glued zero boxes rest e = e
glued (suc n) [] rest e = refl
glued (suc n) (b ∷ boxes) rest e = ap (λ l. b ∷ l) (glued n boxes rest e)

all_padded : (P : Extent → Type 0) (n : ℕ) (boxes : List Extent) → All P (padded n boxes) → All P (drop n boxes) → All P boxes
all_padded P zero boxes a d = d
all_padded P (suc n) [] a d = All-nil P
all_padded P (suc n) (b ∷ boxes) a d = All-cons P b boxes (All-head P b (padded n boxes) a) (all_padded P n boxes (All-tail P b (padded n boxes) a) d)

-- the bits of the first of them
pub padded_bits : (p : Extent → Bool) (boxes : List Extent) (n : ℕ) → n ≤ 8 → n ≤ length boxes → mask_l (map p (padded 8 boxes)) % 2 ^ n ≡ mask_l (map p (take n boxes))
padded_bits p boxes n h k = mask_take (map p (padded 8 boxes)) n ∙ ap mask_l (take-map p n (padded 8 boxes)) ∙ ap (λ l. mask_l (map p l)) (front_padded 8 n boxes h k)

-- ---- blocks
-- the boxes of the blocks, and those after them
glued_blocks : (blocks : List Block) (boxes : List Extent) → AreBlocks blocks boxes → take (length boxes) (flat_map boxes_in_block blocks) ≡ boxes
glued_blocks [] boxes e = subst (λ (l : List Extent). take (length l) [] ≡ l) (sym e) refl
glued_blocks (b ∷ blocks) boxes (h, t) =
    ap (λ l. take (length boxes) (l ++ flat_map boxes_in_block blocks)) (block_is b (padded 8 boxes) h) ∙ glued 8 boxes (flat_map boxes_in_block blocks) (glued_blocks blocks (drop 8 boxes) t)

fits_blocks : (blocks : List Block) (boxes : List Extent) → AreBlocks blocks boxes → All Fits32 boxes
fits_blocks [] boxes e = subst (All Fits32) (sym e) (All-nil Fits32)
fits_blocks (b ∷ blocks) boxes (h, t) = all_padded Fits32 8 boxes h.fits (fits_blocks blocks (drop 8 boxes) t)

-- there is a block for each box
enough_blocks : (blocks : List Block) (boxes : List Extent) → AreBlocks blocks boxes → length boxes ≤ 8 * length blocks
enough_blocks [] boxes e = omega (arith, ap length e)
enough_blocks (b ∷ blocks) boxes (h, t) = omega (arith, enough_blocks blocks (drop 8 boxes) t, length-drop 8 boxes)

pub block_in : (blocks : List Block) (boxes : List Extent) (at : ℕ) → AreBlocks blocks boxes → at < length boxes → at / 8 < length blocks
block_in blocks boxes at h lt = omega (arith, enough_blocks blocks boxes h, lt)

-- the block of that number
pub block_at : (blocks : List Block) (boxes : List Extent) (k : ℕ) (d : Block) → AreBlocks blocks boxes → k < length blocks → IsBlock (get_or blocks k d) (padded 8 (drop (8 * k) boxes))
block_at [] boxes k d e lt = absurd (omega (arith, lt))
block_at (b ∷ blocks) boxes zero d (h, t) lt = h
block_at (b ∷ blocks) boxes (suc k) d (h, t) lt =
    let there : 8 + 8 * k ≡ 8 * suc k = omega arith in
    subst (λ l. IsBlock (get_or blocks k d) (padded 8 l)) (drop-drop (8 * k) 8 boxes ∙ ap (λ n. drop n boxes) there) (block_at blocks (drop 8 boxes) k d t (omega (arith, lt)))

-- eight boxes, each at its place
pub eight_are : (m : ℕ) (boxes : List Extent) (a b c d e f g h : Extent) → a ≡ box_at boxes m → b ≡ box_at boxes (m + 1) → c ≡ box_at boxes (m + 2) → d ≡ box_at boxes (m + 3) → e ≡ box_at boxes (m + 4) → f ≡ box_at boxes (m + 5)
    → g ≡ box_at boxes (m + 6) → h ≡ box_at boxes (m + 7) → a ∷ b ∷ c ∷ d ∷ e ∷ f ∷ g ∷ h ∷ [] ≡ padded 8 (drop m boxes)
eight_are m boxes a b c d e f g h ia ib ic id ie if' ig ih =
    ap₂ (λ x l. x ∷ l) ia (ap₂ (λ x l. x ∷ l) ib (ap₂ (λ x l. x ∷ l) ic (ap₂ (λ x l. x ∷ l) id (ap₂ (λ x l. x ∷ l) ie (ap₂ (λ x l. x ∷ l) if' (ap₂ (λ x l. x ∷ l) ig (ap (λ x. x ∷ []) ih)))))))
    ∙ sym (eight_padded m boxes)

pub at_place : (boxes : List Extent) (x : Extent) (p q : ℕ) → x ≡ box_at boxes p → p ≡ q → x ≡ box_at boxes q
at_place boxes x p q e f = e ∙ ap (box_at boxes) f

-- nothing is left behind the end
pub none_left : {A : Type 0} (n : ℕ) (xs : List A) → length xs ≤ n → drop n xs ≡ []
none_left zero [] h = refl
none_left zero (x ∷ xs) h = absurd (omega (arith, h))
none_left (suc n) [] h = refl
none_left (suc n) (x ∷ xs) h = none_left n xs (omega (arith, h))

-- one block more, where others follow
pub one_more : (blocks : List Block) (b : Block) (tail : List Block) (boxes : List Extent) (k : ℕ) → ((tail : List Block) → AreBlocks tail (drop (8 * k) boxes) → AreBlocks (blocks ++ tail) boxes) → IsBlock b (padded 8 (drop (8 * k) boxes))
    → AreBlocks tail (drop (8 * (k + 1)) boxes) → AreBlocks ((blocks ++ b ∷ []) ++ tail) boxes
one_more blocks b tail boxes k more is t =
    let there : 8 * k + 8 ≡ 8 * (k + 1) = omega arith in
    subst (λ l. AreBlocks l boxes) (sym (append_assoc blocks (b ∷ []) tail)) (more (b ∷ tail) (is, subst (AreBlocks tail) (sym (drop-drop 8 (8 * k) boxes ∙ ap (λ n. drop n boxes) there)) t))

-- ---- a table
pub boxes_are : (blocks : List Block) (n : ℕ) (boxes : List Extent) → HasBlocks blocks boxes → n ≡ length boxes → take n (flat_map boxes_in_block blocks) ≡ boxes
boxes_are blocks n boxes h e = ap (λ m. take m (flat_map boxes_in_block blocks)) e ∙ glued_blocks blocks boxes h.are

pub blocks_are : (blocks : List Block) (n : ℕ) (boxes : List Extent) → HasBlocks blocks boxes → n ≡ length boxes → AreBlocks blocks (take n (flat_map boxes_in_block blocks))
blocks_are blocks n boxes h e = subst (AreBlocks blocks) (sym (boxes_are blocks n boxes h e)) h.are

pub count_are : (blocks : List Block) (n : ℕ) (boxes : List Extent) → HasBlocks blocks boxes → n ≡ length boxes → n ≡ length (take n (flat_map boxes_in_block blocks))
count_are blocks n boxes h e = e ∙ sym (ap length (boxes_are blocks n boxes h e))

pub no_blocks : (blocks : List Block) → blocks ≡ [] → HasBlocks blocks []
no_blocks blocks e = record { are = subst (λ l. AreBlocks l []) (sym e) refl }

-- the boxes of a table fit 32 bits
pub fit : (t : Inside) → IsTable t → All Fits32 (boxes_in t)
fit t h = fits_blocks t.blocks.items (boxes_in t) h.blocks

-- how many there are
pub count_is : (t : Inside) → IsTable t → length (boxes_in t) ≡ t.count
count_is t h = sym h.count_is

pub few_in : (t : Inside) → IsTable t → length (boxes_in t) < 2 ^ 32
few_in t h = subst (λ m. m < 2 ^ 32) h.count_is h.few
