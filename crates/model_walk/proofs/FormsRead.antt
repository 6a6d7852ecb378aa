-- What the reading of a list of points or of a triangulated set says of its form.
use Rattle.std.proofs.Common.{◌≡◌, ℕ, zero, suc, ◌<◌, ℤ, pos, List, [], ◌∷◌, length, get_or, Option, Some, None, sym, subst, arith}
use Rattle.std.specs.Prelude.{MatchOption}
use Rattle.std.specs.List.{All, AllZip}
use Rattle.std.proofs.lemmas.Bool.{le-leb}
use Rattle.bim_model.specs.declared.upload.Mode.{Mode}
use Rattle.bim_model.specs.declared.geometry.Point.{Point}
use Rattle.bim_model.specs.declared.geometry.Triangle.{Triangle}
use Rattle.p21_values.specs.declared.value.Value21.{Value21}
use Rattle.p21_values.specs.declared.value.Instance.{Instance}
use Rattle.p21_values.specs.Values.{items_of}
use Rattle.ifc_schema.specs.declared.flaw.Flaw.{Flaw}
use Rattle.ifc_schema.specs.declared.flaw.Flaw.TheVariants.{BadShape}
use Rattle.ifc_schema.specs.declared.form.Count.TheVariants.{Exactly, AtLeast}
use Rattle.ifc_schema.specs.declared.form.Leaf.TheVariants as leaf
use Rattle.ifc_schema.specs.Flaws.{LeafFlaw, ItemsFlaw, ListFlaw, NumberFlaw, WholeFlaw}
use Rattle.ifc_units.specs.declared.scale.Scale.{Scale}
use Rattle.ifc_units.specs.Lengths.{IsLength, IsPoint, ArePoints}
use Rattle.faceset.specs.Indexes.{PointsAt}
use Rattle.faceset.specs.FaceSets.{IsCorner, IsTriangle, AreTriangles}

-- Leaves.

pub whole_leaf : (world : List Instance) (count : ℕ) (v : Value21) (k : ℕ) → PointsAt count v k → LeafFlaw world leaf.Whole v None
whole_leaf world count v k p = subst (λ (o : Option (List ℕ)). MatchOption o (None ≡ Some bad) (λ bs. WholeFlaw bs None)) (sym p.number) (pos (suc k), p.written)
  where
    bad : Flaw
    bad = BadShape

named_whole : (world : List Instance) (names : Option (List Value21)) (points : List Point) (v : Value21) (corner : Point) → IsCorner names points v corner → LeafFlaw world leaf.Whole v None
named_whole world None points v corner c = whole_leaf world (length points) v c.place c.names
named_whole world (Some vs) points v corner c = whole_leaf world (length vs) v c.names.0 c.names.1

number_leaf : (world : List Instance) (scale : Scale) (mode : Mode) (v : Value21) (g : ℤ) → IsLength scale mode v g → LeafFlaw world leaf.Number v None
number_leaf world scale mode v g l = subst (λ (o : Option (List ℕ)). MatchOption o (None ≡ Some bad) (λ bs. NumberFlaw bs None)) (sym l.number) (l.decimal, l.read)
  where
    bad : Flaw
    bad = BadShape

-- Rows of three.

three_formed : (F : Value21 → Option Flaw → Type 0) (v a b c : Value21) → items_of v ≡ Some (a ∷ b ∷ c ∷ []) → F a None → F b None → F c None → ListFlaw (Exactly 3) F v None
three_formed F v a b c e f g h = subst (λ (o : Option (List Value21)). MatchOption o (None ≡ Some bad) (λ vs. ItemsFlaw (Exactly 3) F vs None)) (sym e) all
  where
    bad : Flaw
    bad = BadShape

    all : (k : ℕ) (d : Value21) → k < 3 → F (get_or (a ∷ b ∷ c ∷ []) k d) None
    all zero d lt = f
    all (suc zero) d lt = g
    all (suc (suc zero)) d lt = h
    all (suc (suc (suc k))) d lt = absurd (omega (arith, lt))

row_formed : (world : List Instance) (names : Option (List Value21)) (points : List Point) (v : Value21) (t : Triangle) → IsTriangle names points v t → ListFlaw (Exactly 3) (LeafFlaw world leaf.Whole) v None
row_formed world names points v t r = three_formed (LeafFlaw world leaf.Whole) v r.a r.b r.c r.three (named_whole world names points r.a t.a r.first) (named_whole world names points r.b t.b r.second) (named_whole world names points r.c t.c r.third)

point_formed : (world : List Instance) (scale : Scale) (mode : Mode) (v : Value21) (p : Point) → IsPoint scale mode v p → ListFlaw (Exactly 3) (LeafFlaw world leaf.Number) v None
point_formed world scale mode v p r = three_formed (LeafFlaw world leaf.Number) v r.a r.b r.c r.three (number_leaf world scale mode r.a p.x r.x) (number_leaf world scale mode r.b p.y r.y) (number_leaf world scale mode r.c p.z r.z)

all_formed : {B : Type 0} (F : Value21 → Option Flaw → Type 0) (R : Value21 → B → Type 0) → ((v : Value21) (b : B) → R v b → F v None) → (vs : List Value21) (bs : List B) → AllZip R vs bs → All (λ v. F v None) vs
all_formed F R f [] [] z k d lt = absurd (omega (arith, lt))
all_formed F R f [] (b ∷ bs) z k d lt = absurd z
all_formed F R f (v ∷ vs) [] z k d lt = absurd z
all_formed F R f (v ∷ vs) (b ∷ bs) z zero d lt = f v b z.0
all_formed F R f (v ∷ vs) (b ∷ bs) z (suc k) d lt = all_formed F R f vs bs z.1 k d (omega (arith, lt))

-- a value that lists values, of which there is one at least
pub table_formed : (F : Value21 → Option Flaw → Type 0) (v : Value21) (vs : List Value21) → items_of v ≡ Some vs → 0 < length vs → All (λ x. F x None) vs → ListFlaw (AtLeast 1) F v None
table_formed F v vs e some all = subst (λ (o : Option (List Value21)). MatchOption o (None ≡ Some bad) (λ xs. ItemsFlaw (AtLeast 1) F xs None)) (sym e) (by_count vs some all)
  where
    bad : Flaw
    bad = BadShape

    by_count : (xs : List Value21) → 0 < length xs → All (λ x. F x None) xs → ItemsFlaw (AtLeast 1) F xs None
    by_count [] some all = absurd (omega (arith, some))
    by_count (x ∷ xs) some all = rw (le-leb 1 (length (x ∷ xs)) some) all

-- the rows of a triangulated set have their form
pub rows_formed : (world : List Instance) (names : Option (List Value21)) (points : List Point) (v : Value21) (vs : List Value21) (ts : List Triangle) → items_of v ≡ Some vs → 0 < length vs → AreTriangles names points vs ts
    → ListFlaw (AtLeast 1) (ListFlaw (Exactly 3) (LeafFlaw world leaf.Whole)) v None
rows_formed world names points v vs ts e some z =
    table_formed (ListFlaw (Exactly 3) (LeafFlaw world leaf.Whole)) v vs e some (all_formed (ListFlaw (Exactly 3) (LeafFlaw world leaf.Whole)) (IsTriangle names points) (row_formed world names points) vs ts z)

-- the points of a list have their form
pub points_formed : (world : List Instance) (scale : Scale) (mode : Mode) (v : Value21) (vs : List Value21) (ps : List Point) → items_of v ≡ Some vs → 0 < length vs → ArePoints scale mode vs ps
    → ListFlaw (AtLeast 1) (ListFlaw (Exactly 3) (LeafFlaw world leaf.Number)) v None
points_formed world scale mode v vs ps e some z =
    table_formed (ListFlaw (Exactly 3) (LeafFlaw world leaf.Number)) v vs e some (all_formed (ListFlaw (Exactly 3) (LeafFlaw world leaf.Number)) (IsPoint scale mode) (point_formed world scale mode) vs ps z)
