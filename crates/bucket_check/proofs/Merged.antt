-- What the buckets own together is all clashes.
use Rattle.std.proofs.Common.{◌≡◌, ◌↔◌, ℤ, true, ◌&&◌, List, refl, sym, ap, ◌∙◌}
use Rattle.std.specs.List.{AllPairs, Contains}
use Rattle.std.specs.Ordering.{int_eq}
use Rattle.std.proofs.lemmas.Bool.{and_parts, and_from}
use Rattle.std.proofs.lemmas.Bool.Decides.{Decides-int_eq}
use Rattle.bim_model.specs.declared.geometry.Extent.{Extent}
use Rattle.bim_model.specs.Rules.{IsRules}
use Rattle.bim_model.specs.Snapshots.{Version}
use Rattle.bim_model.specs.Keys.{subjects_of}
use Rattle.bucket_grid.specs.declared.cell.Cell.{Cell}
use Rattle.bucket_grid.specs.Subjects.{AreBoxes}
use Rattle.bucket_grid.specs.Cells.{IsBucket, IsOwner}
use Rattle.box_lanes.specs.BoxPlaces.{box_at}
use Rattle.bucket_check.specs.declared.pair.SetPair.{SetPair}
use Rattle.bucket_check.specs.Clashes.{clashes, is_cell, owner, own_clashes, IsBefore}
use Rattle.bucket_check.specs.OwnershipLaws.{IsOfBucket}
use Rattle.bucket_check.proofs.Lists.{Lists, lists_filter, lists_one}
use Rattle.bucket_check.proofs.Pairs.{once}
use Rattle.bucket_check.proofs.Owned.{IsClash, clashes_list, clash_owned, owner_is_bucket}

same_number : (a : ℤ) → int_eq a a ≡ true
same_number a = (Decides-int_eq a a).1 refl

pub same_cell : (c : Cell) → is_cell c c ≡ true
same_cell c =
    and_from (int_eq c.x c.x && int_eq c.y c.y) (int_eq c.z c.z) (and_from (int_eq c.x c.x) (int_eq c.y c.y) (same_number c.x) (same_number c.y))
    (same_number c.z)

abbrev cell : ℤ → ℤ → ℤ → Cell
cell x y z = record { x = x; y = y; z = z }

pub one_cell : (c d : Cell) → is_cell c d ≡ true → c ≡ d
one_cell c d e =
    let p = and_parts (int_eq c.x d.x && int_eq c.y d.y) (int_eq c.z d.z) e in
    let q = and_parts (int_eq c.x d.x) (int_eq c.y d.y) p.0 in
    ap (λ t. cell t c.y c.z) ((Decides-int_eq c.x d.x).0 q.0) ∙ ap (λ t. cell d.x t c.z) ((Decides-int_eq c.y d.y).0 q.1) ∙ ap (λ t. cell d.x d.y t) ((Decides-int_eq c.z d.z).0 p.1)

-- a clash that the cell owns
abbrev pub IsOwn : Version → List Extent → Cell → SetPair → Type 0
IsOwn version boxes cell p = IsClash version.rules (subjects_of version.models) p × (is_cell (owner boxes p) cell ≡ true)

pub own_list : (version : Version) (boxes : List Extent) (cell : Cell) → Lists IsBefore (IsOwn version boxes cell) (own_clashes version boxes cell)
own_list version boxes cell =
    lists_filter IsBefore (IsClash version.rules (subjects_of version.models)) (λ (p : SetPair). is_cell (owner boxes p) cell) (clashes version) (clashes_list version.rules (subjects_of version.models))

pub all_owned : (version : Version) (boxes : List Extent) → IsRules version.rules → AreBoxes (subjects_of version.models) boxes → (p : SetPair) → Contains (clashes version) p
    → IsOwner (owner boxes p) (box_at boxes p.a) (box_at boxes p.b) × IsBucket boxes (owner boxes p)
all_owned version boxes few are p c =
    let rules = version.rules in
    let subjects = subjects_of version.models in
    let is = (clashes_list rules subjects).each p c in
    (clash_owned rules subjects boxes few are p is, owner_is_bucket rules subjects boxes few are p is)

pub merged : (version : Version) (boxes : List Extent) → IsRules version.rules → AreBoxes (subjects_of version.models) boxes
    → (all : List SetPair) → AllPairs IsBefore all → ((p : SetPair) → Contains all p ↔ IsOfBucket version boxes p) → all ≡ clashes version
merged version boxes few are all rising same =
    let rules = version.rules in
    let subjects = subjects_of version.models in
    lists_one IsBefore once (IsClash rules subjects) all (clashes version)
    (record {
      rising = rising;
      each = λ p c. let from = (same p).0 c in ((own_list version boxes from.0).each p from.2).0;
      all = λ p is. (same p).1 (owner boxes p, owner_is_bucket rules subjects boxes few are p is, (own_list version boxes (owner boxes p)).all p (is, same_cell (owner boxes p)));
    })
    (clashes_list rules subjects)

-- a pair is owned by one cell
pub owned_once : (version : Version) (boxes : List Extent) (c d : Cell) (p : SetPair) → Contains (own_clashes version boxes c) p → Contains (own_clashes version boxes d) p → c ≡ d
owned_once version boxes c d p h k =
    sym (one_cell (owner boxes p) c ((own_list version boxes c).each p h).1) ∙ one_cell (owner boxes p) d ((own_list version boxes d).each p k).1
