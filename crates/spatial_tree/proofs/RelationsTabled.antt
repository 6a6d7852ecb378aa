-- The table of a file's objects says what its relations say.
use Rattle.std.proofs.Common.{◌≡◌, ℕ, ◌<◌, inl, inr, List, length, get_or, Contains, Option, Some, None, refl, sym, ap, subst, arith}
use Rattle.bim_model.specs.declared.upload.UploadFault.TheVariants as faults
use Rattle.p21_values.specs.declared.value.Instance.{Instance}
use Rattle.spatial_tree.specs.declared.relations.Link.{Link}
use Rattle.spatial_tree.specs.declared.step.Step.{Step}
use Rattle.spatial_tree.specs.declared.mark.Mark.{Mark}
use Rattle.spatial_tree.specs.declared.storey_tree.Placed.{Placed}
use Rattle.spatial_tree.specs.Relations.{HasContainer, HasWhole, IsStorey}
use Rattle.spatial_tree.specs.Trees.{Next, IsTorn, IsTree, LeastTreeFault, ListsStoreys, ListsStoreyIds, HasTreeFault}
use Rattle.spatial_tree.specs.inner.Onlys.{Has, ListsLinks}
use Rattle.spatial_tree.specs.inner.UpwardSteps.{NextIn, TornIn, AreWithin, IsTableOf}
use Rattle.spatial_tree.specs.inner.StoreyMarks.{IsSurveyed}
use Rattle.spatial_tree.specs.Placing.{ArePlaced}
use Rattle.spatial_tree.specs.inner.TreeFaults.{IsFirstFault}
use Rattle.spatial_tree.proofs.Counting.{next_once}
use Rattle.spatial_tree.proofs.Stepping.{steps_map, steps_within, next_map, torn_map}
use Rattle.spatial_tree.proofs.Listing.{fault_within}
use Rattle.spatial_tree.proofs.Trees.{Table, none_wrong, none_lower, fault_there, storey_told, told_storey}

abbrev pub WorldTable : List Instance → List ℕ → List Step → List Mark → Type 0
WorldTable world objects steps marks = Table (Next world) (IsTorn world) (IsStorey world) objects steps marks

pub table : (world : List Instance) (containers wholes : List Link) (storeys objects : List ℕ) (steps : List Step) (marks : List Mark)
    → ListsLinks (HasContainer world) containers → ListsLinks (HasWhole world) wholes → ListsStoreyIds world storeys
    → IsTableOf containers wholes storeys objects steps → IsSurveyed steps marks → WorldTable world objects steps marks
table world containers wholes storeys objects steps marks c w s t m = record {
  steps_are = steps_map (NextIn containers wholes) (Next world) (TornIn containers wholes) (IsTorn world) (Contains storeys) (IsStorey world) objects steps
      (next_map (Has containers) (HasContainer world) (Has wholes) (HasWhole world) c.sound c.all w.sound w.all)
      (next_map (HasContainer world) (Has containers) (HasWhole world) (Has wholes) c.all c.sound w.all w.sound)
      (torn_map (Has containers) (HasContainer world) (Has wholes) (HasWhole world) c.sound w.sound)
      (torn_map (HasContainer world) (Has containers) (HasWhole world) (Has wholes) c.all w.all)
      s.sound s.all t.are_steps;
  all = λ o u n. elim n [ inl x ↦ t.contents o u (c.all o u x.has) | inr x ↦ t.parts o u (w.all o u x.1.has) ];
  torn_all = λ o n. elim n [ inl x ↦ t.contents o x.first (c.all o x.first x.has_first) | inr x ↦ t.parts o x.first (w.all o x.first x.has_first) ];
  once = next_once (HasContainer world) (HasWhole world);
  rises = t.rises;
  surveyed = m;
}

pub is_tree : (world : List Instance) (objects : List ℕ) (steps : List Step) (marks : List Mark) → WorldTable world objects steps marks → IsFirstFault steps marks None → IsTree world
is_tree world objects steps marks t n object f = none_wrong (Next world) (IsTorn world) (IsStorey world) objects steps marks t n object f

pub lists_storeys : (world : List Instance) (objects : List ℕ) (steps : List Step) (marks : List Mark) (list : List Placed) → WorldTable world objects steps marks → IsFirstFault steps marks None → ArePlaced objects marks (length objects) list
    → ListsStoreys world list
lists_storeys world objects steps marks list t n p = record {
  sound = λ o s c. storey_told (Next world) (IsTorn world) (IsStorey world) objects steps marks t o s (p.sound o s c);
  all = λ o s f. p.all o s (told_storey (Next world) (IsTorn world) (IsStorey world) objects steps marks t n o s f);
}

pub least_fault_told : (world : List Instance) (objects : List ℕ) (steps : List Step) (marks : List Mark) (at id : ℕ) → WorldTable world objects steps marks → at < length objects → get_or objects at 0 ≡ id → IsFirstFault steps marks (Some at)
    → LeastTreeFault world (faults.TreeFault id)
least_fault_told world objects steps marks at id t l is f = record {
  id = id;
  flawed = subst (HasTreeFault world) is (fault_there (Next world) (IsTorn world) (IsStorey world) objects steps marks t at f.0);
  told = refl;
  least = λ lower b w. none_lower (Next world) (IsTorn world) (IsStorey world) objects steps marks t at l f.1 lower (subst (λ n. lower < n) (sym is) b) w;
}

-- the same where lists were lent
pub world_table : (world instances : List Instance) (containers lent_containers wholes lent_wholes : List Link) (storeys lent_storeys objects : List ℕ) (steps lent_steps : List Step) (marks : List Mark)
    → instances ≡ world → lent_containers ≡ containers → lent_wholes ≡ wholes → lent_storeys ≡ storeys → lent_steps ≡ steps
    → ListsLinks (HasContainer world) containers → ListsLinks (HasWhole world) wholes → ListsStoreyIds instances storeys
    → IsTableOf lent_containers lent_wholes lent_storeys objects steps → IsSurveyed lent_steps marks → WorldTable world objects steps marks
world_table world instances containers lent_containers wholes lent_wholes storeys lent_storeys objects steps lent_steps marks ei ec ew es et c w s t m =
    table world containers wholes storeys objects steps marks c w (subst (λ x. ListsStoreyIds x storeys) ei s)
    (subst (λ x. IsTableOf containers wholes x objects steps) es (subst (λ x. IsTableOf containers x lent_storeys objects steps) ew (subst (λ x. IsTableOf x lent_wholes lent_storeys objects steps) ec t)))
    (subst (λ x. IsSurveyed x marks) et m)

pub lent_within : (containers wholes : List Link) (storeys objects : List ℕ) (steps lent : List Step) → lent ≡ steps → IsTableOf containers wholes storeys objects steps → AreWithin lent
lent_within containers wholes storeys objects steps lent e t =
    subst (λ s. AreWithin s) (sym e) (steps_within (NextIn containers wholes) (TornIn containers wholes) (Contains storeys) objects steps t.are_steps)

pub fault_fits : (containers wholes : List Link) (storeys objects lent_objects : List ℕ) (steps lent_steps : List Step) (marks : List Mark) (at : ℕ) → lent_objects ≡ objects → lent_steps ≡ steps → IsTableOf containers wholes storeys objects steps
    → IsFirstFault lent_steps marks (Some at) → at < length lent_objects
fault_fits containers wholes storeys objects lent_objects steps lent_steps marks at eo es t f =
    let w = fault_within lent_steps marks at f.0 in
    let a = ap length es in
    let b = ap length eo in
    let c = t.are_steps.size in
    omega arith

first_fault_is : (steps lent_steps : List Step) (marks lent_marks : List Mark) (at : Option ℕ) → lent_steps ≡ steps → lent_marks ≡ marks → IsFirstFault lent_steps lent_marks at → IsFirstFault steps marks at
first_fault_is steps lent_steps marks lent_marks at es em f = subst (λ m. IsFirstFault steps m at) em (subst (λ s. IsFirstFault s lent_marks at) es f)

pub refused_at : (world : List Instance) (objects lent_objects : List ℕ) (steps lent_steps : List Step) (marks lent_marks : List Mark) (at : ℕ) → WorldTable world objects steps marks → lent_objects ≡ objects → lent_steps ≡ steps → lent_marks ≡ marks
    → IsFirstFault lent_steps lent_marks (Some at) → LeastTreeFault world (faults.TreeFault (get_or lent_objects at 0))
refused_at world objects lent_objects steps lent_steps marks lent_marks at t eo es em f =
    let g = first_fault_is steps lent_steps marks lent_marks (Some at) es em f in
    let l : at < length objects = (let w = fault_within steps marks at g.0 in let z = t.steps_are.size in omega arith) in
    least_fault_told world objects steps marks at (get_or lent_objects at 0) t l (ap (λ l. get_or l at 0) (sym eo)) g

pub tree_of : (world : List Instance) (objects : List ℕ) (steps lent_steps : List Step) (marks lent_marks : List Mark) → WorldTable world objects steps marks → lent_steps ≡ steps → lent_marks ≡ marks → IsFirstFault lent_steps lent_marks None → IsTree world
tree_of world objects steps lent_steps marks lent_marks t es em f = is_tree world objects steps marks t (first_fault_is steps lent_steps marks lent_marks None es em f)

pub storeys_listed : (world : List Instance) (objects lent_objects : List ℕ) (steps lent_steps : List Step) (marks lent_marks again_marks : List Mark) (list : List Placed) → WorldTable world objects steps marks → lent_objects ≡ objects → lent_steps ≡ steps → lent_marks ≡ marks → again_marks ≡ marks
    → IsFirstFault lent_steps lent_marks None → ArePlaced lent_objects again_marks (length lent_objects) list → ListsStoreys world list
storeys_listed world objects lent_objects steps lent_steps marks lent_marks again_marks list t eo es em ea f p =
    lists_storeys world objects steps marks list t (first_fault_is steps lent_steps marks lent_marks None es em f)
    (subst (λ m. ArePlaced objects m (length objects) list) ea (subst (λ o. ArePlaced o again_marks (length o) list) eo p))
