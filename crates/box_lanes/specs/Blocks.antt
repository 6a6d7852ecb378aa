-- Boxes kept in blocks of eight, one list for each side.
use Rattle.std.specs.Prelude.{◌<◌, ◌^◌, ◌≡◌, ℕ, zero, suc, ℤ, List, [], ◌∷◌, map, take, drop, length, All}
use Rattle.std.specs.List.{flat_map}
use Rattle.bim_model.specs.declared.geometry.Extent.{Extent}
use Rattle.box_lanes.specs.declared.blocks.Block.{Block}
use Rattle.box_lanes.specs.declared.box_table.BoxTable.TheInside.{Inside}
use Rattle.box_lanes.specs.CoarseBoxes.{Fits32, coarse}
use Rattle.box_lanes.specs.BoxPlaces.{nowhere}

-- the boxes whose sides stand in the lists, as far as the lists reach
abbrev pub boxes_of : (low_x low_y low_z high_x high_y high_z : List ℤ) → List Extent
boxes_of [] ly lz hx hy hz = []
boxes_of (a ∷ lx) [] lz hx hy hz = []
boxes_of (a ∷ lx) (b ∷ ly) [] hx hy hz = []
boxes_of (a ∷ lx) (b ∷ ly) (c ∷ lz) [] hy hz = []
boxes_of (a ∷ lx) (b ∷ ly) (c ∷ lz) (d ∷ hx) [] hz = []
boxes_of (a ∷ lx) (b ∷ ly) (c ∷ lz) (d ∷ hx) (e ∷ hy) [] = []
boxes_of (a ∷ lx) (b ∷ ly) (c ∷ lz) (d ∷ hx) (e ∷ hy) (f ∷ hz) =
    record { low = record { x = a; y = b; z = c }; high = record { x = d; y = e; z = f } }
    ∷ boxes_of lx ly lz hx hy hz

-- the boxes of a block
abbrev pub boxes_in_block : Block → List Extent
boxes_in_block b = boxes_of b.low_x b.low_y b.low_z b.high_x b.high_y b.high_z

-- the sides of the boxes in steps of 256, those of each kind in a list of their own, low ones first
abbrev pub coarse_lists : List Extent → List (List ℤ)
coarse_lists boxes =
    map (λ (b : Extent). coarse b.low.x) boxes
    ∷ map (λ (b : Extent). coarse b.low.y) boxes
    ∷ map (λ (b : Extent). coarse b.low.z) boxes
    ∷ map (λ (b : Extent). coarse b.high.x) boxes
    ∷ map (λ (b : Extent). coarse b.high.y) boxes
    ∷ map (λ (b : Extent). coarse b.high.z) boxes
    ∷ []

-- each list has its side of every box, also in steps of 256, and the sides fit 32 bits
pub record IsBlock (block : Block) (boxes : List Extent) : Type 0 where
  pub low_x_is : block.low_x ≡ map (λ (b : Extent). b.low.x) boxes
  pub low_y_is : block.low_y ≡ map (λ (b : Extent). b.low.y) boxes
  pub low_z_is : block.low_z ≡ map (λ (b : Extent). b.low.z) boxes
  pub high_x_is : block.high_x ≡ map (λ (b : Extent). b.high.x) boxes
  pub high_y_is : block.high_y ≡ map (λ (b : Extent). b.high.y) boxes
  pub high_z_is : block.high_z ≡ map (λ (b : Extent). b.high.z) boxes
  pub coarse_is : block.coarse ≡ coarse_lists boxes
  pub fits : All Fits32 boxes

-- the first n boxes, with others after where there are fewer
abbrev pub padded : ℕ → List Extent → List Extent
padded zero boxes = []
padded (suc n) [] = nowhere ∷ padded n []
padded (suc n) (b ∷ boxes) = b ∷ padded n boxes

-- the first block has the first eight boxes, the second the next eight, and so on to the end
abbrev pub AreBlocks : List Block → List Extent → Type 0
AreBlocks [] boxes = boxes ≡ []
AreBlocks (b ∷ blocks) boxes = IsBlock b (padded 8 boxes) × AreBlocks blocks (drop 8 boxes)

-- the blocks are those of the boxes
pub record HasBlocks (blocks : List Block) (boxes : List Extent) : Type 0 where
  pub are : AreBlocks blocks boxes

-- the boxes of a table
abbrev pub boxes_in : Inside → List Extent
boxes_in t = take t.count (flat_map boxes_in_block t.blocks.items)

-- the blocks have the boxes of the table; a place fits 32 bits
pub record IsTable (t : Inside) : Type 0 where
  pub blocks : AreBlocks t.blocks.items (boxes_in t)
  pub count_is : t.count ≡ length (boxes_in t)
  pub few : t.count < 2 ^ 32
