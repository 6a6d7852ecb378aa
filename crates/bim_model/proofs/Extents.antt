-- A box widened by a point; the corners of one more triangle.
use Rattle.std.proofs.Common.{◌≡◌, ℕ, ◌+◌, ◌<◌, ◌⊎◌, inl, inr, ℤ, ◌≤ℤ◌, List, [], ◌∷◌, ◌++◌, length, get_or, take, map, refl, sym, ap, subst, arith, append_assoc, ◌∙◌, add-one, zero, suc}
use Rattle.std.specs.List.{Contains}
use Rattle.std.specs.Int.{int_min, int_max}
use Rattle.std.proofs.lemmas.List.Elements.{All-push, All-weaker, All-tail, Contains-append_left, Contains-push, Contains-append_cases}
use Rattle.std.proofs.Math.Seq.{take-length}
use Rattle.std.proofs.lemmas.List.{map-append}
use Rattle.bim_model.specs.declared.geometry.Point.{Point}
use Rattle.bim_model.specs.declared.geometry.Triangle.{Triangle}
use Rattle.bim_model.specs.declared.geometry.Extent.{Extent}
use Rattle.bim_model.specs.Boxes.{corners_of, IsLeast, IsGreatest, Bounds}
use Rattle.std.proofs.lemmas.Int.{ints, clamps}

-- the lower of two numbers is one of them, and is above neither
min_one : (low n m : ℤ) → m ≡ int_min low n → (low ≡ m) ⊎ (n ≡ m)
min_one low n m e = grind (arith, ints)

min_low : (low n m : ℤ) → m ≡ int_min low n → m ≤ℤ low
min_low low n m e = omega (arith, ints, clamps)

min_new : (low n m : ℤ) → m ≡ int_min low n → m ≤ℤ n
min_new low n m e = omega (arith, ints, clamps)

max_one : (high n m : ℤ) → m ≡ int_max high n → (high ≡ m) ⊎ (n ≡ m)
max_one high n m e = grind (arith, ints)

max_high : (high n m : ℤ) → m ≡ int_max high n → high ≤ℤ m
max_high high n m e = omega (arith, ints, clamps)

max_new : (high n m : ℤ) → m ≡ int_max high n → n ≤ℤ m
max_new high n m e = omega (arith, ints, clamps)

-- one of two numbers that a list has, with one more number
reached_push : (ns : List ℤ) (old n m : ℤ) → Contains ns old → (old ≡ m) ⊎ (n ≡ m) → Contains (ns ++ n ∷ []) m
reached_push ns old n m h (inl e) = subst (λ x. Contains (ns ++ n ∷ []) x) e (Contains-append_left ns (n ∷ []) old h)
reached_push ns old n m h (inr e) = subst (λ x. Contains (ns ++ n ∷ []) x) e (Contains-push ns n)

lower_bound : (m low x : ℤ) → m ≤ℤ low → low ≤ℤ x → m ≤ℤ x
lower_bound m low x a b = omega (arith, ints)

-- the least number of a list, with one more number
pub least_push : (ns : List ℤ) (low n m : ℤ) → m ≡ int_min low n → IsLeast ns low → IsLeast (ns ++ n ∷ []) m
least_push ns low n m e h = record {
  reached = reached_push ns low n m h.reached (min_one low n m e);
  bound = All-push (λ x. m ≤ℤ x) ns n (All-weaker (λ x. low ≤ℤ x) (λ x. m ≤ℤ x) (λ x b. lower_bound m low x (min_low low n m e) b) ns h.bound) (min_new low n m e);
}

-- the greatest number of a list, with one more number
pub greatest_push : (ns : List ℤ) (high n m : ℤ) → m ≡ int_max high n → IsGreatest ns high → IsGreatest (ns ++ n ∷ []) m
greatest_push ns high n m e h = record {
  reached = reached_push ns high n m h.reached (max_one high n m e);
  bound = All-push (λ x. x ≤ℤ m) ns n (All-weaker (λ x. x ≤ℤ high) (λ x. x ≤ℤ m) (λ x b. lower_bound x high m b (max_high high n m e)) ns h.bound) (max_new high n m e);
}

-- the box round a list of points, with one more point
pub bounds_push : (ps : List Point) (p : Point) (from to : Extent) → to.low.x ≡ int_min from.low.x p.x → to.low.y ≡ int_min from.low.y p.y → to.low.z ≡ int_min from.low.z p.z → to.high.x ≡ int_max from.high.x p.x → to.high.y ≡ int_max from.high.y p.y → to.high.z ≡ int_max from.high.z p.z → Bounds ps from → Bounds (ps ++ p ∷ []) to
bounds_push ps p from to lx ly lz hx hy hz h = record {
  low_x = subst (λ (ns : List ℤ). IsLeast ns to.low.x) (sym (map-append (λ (q : Point). q.x) ps (p ∷ []))) (least_push (map (λ (q : Point). q.x) ps) from.low.x p.x to.low.x lx h.low_x);
  low_y = subst (λ (ns : List ℤ). IsLeast ns to.low.y) (sym (map-append (λ (q : Point). q.y) ps (p ∷ []))) (least_push (map (λ (q : Point). q.y) ps) from.low.y p.y to.low.y ly h.low_y);
  low_z = subst (λ (ns : List ℤ). IsLeast ns to.low.z) (sym (map-append (λ (q : Point). q.z) ps (p ∷ []))) (least_push (map (λ (q : Point). q.z) ps) from.low.z p.z to.low.z lz h.low_z);
  high_x = subst (λ (ns : List ℤ). IsGreatest ns to.high.x) (sym (map-append (λ (q : Point). q.x) ps (p ∷ []))) (greatest_push (map (λ (q : Point). q.x) ps) from.high.x p.x to.high.x hx h.high_x);
  high_y = subst (λ (ns : List ℤ). IsGreatest ns to.high.y) (sym (map-append (λ (q : Point). q.y) ps (p ∷ []))) (greatest_push (map (λ (q : Point). q.y) ps) from.high.y p.y to.high.y hy h.high_y);
  high_z = subst (λ (ns : List ℤ). IsGreatest ns to.high.z) (sym (map-append (λ (q : Point). q.z) ps (p ∷ []))) (greatest_push (map (λ (q : Point). q.z) ps) from.high.z p.z to.high.z hz h.high_z);
}

-- a number that stands twice at the front
reached_once : (n : ℤ) (ns : List ℤ) (m : ℤ) → Contains (n ∷ n ∷ ns) m → Contains (n ∷ ns) m
reached_once n ns m h = twice (Contains-append_cases (n ∷ []) (n ∷ ns) m h)
  where
    twice : Contains (n ∷ []) m ⊎ Contains (n ∷ ns) m → Contains (n ∷ ns) m
    twice (inl k) = Contains-append_left (n ∷ []) ns m k
    twice (inr k) = k

pub least_once : (n : ℤ) (ns : List ℤ) (m : ℤ) → IsLeast (n ∷ n ∷ ns) m → IsLeast (n ∷ ns) m
least_once n ns m h = record {
  reached = reached_once n ns m h.reached;
  bound = All-tail (λ x. m ≤ℤ x) n (n ∷ ns) h.bound;
}

pub greatest_once : (n : ℤ) (ns : List ℤ) (m : ℤ) → IsGreatest (n ∷ n ∷ ns) m → IsGreatest (n ∷ ns) m
greatest_once n ns m h = record {
  reached = reached_once n ns m h.reached;
  bound = All-tail (λ x. x ≤ℤ m) n (n ∷ ns) h.bound;
}

-- a point that stands twice at the front
pub bounds_once : (p : Point) (ps : List Point) (e : Extent) → Bounds (p ∷ p ∷ ps) e → Bounds (p ∷ ps) e
bounds_once p ps e h = record {
  low_x = least_once p.x (map (λ (q : Point). q.x) ps) e.low.x h.low_x;
  low_y = least_once p.y (map (λ (q : Point). q.y) ps) e.low.y h.low_y;
  low_z = least_once p.z (map (λ (q : Point). q.z) ps) e.low.z h.low_z;
  high_x = greatest_once p.x (map (λ (q : Point). q.x) ps) e.high.x h.high_x;
  high_y = greatest_once p.y (map (λ (q : Point). q.y) ps) e.high.y h.high_y;
  high_z = greatest_once p.z (map (λ (q : Point). q.z) ps) e.high.z h.high_z;
}

-- the corners of one more triangle
corners_suc : (ts : List Triangle) (i : ℕ) (d : Triangle) → i < length ts → corners_of (take (suc i) ts) ≡ corners_of (take i ts) ++ (get_or ts i d).a ∷ (get_or ts i d).b ∷ (get_or ts i d).c ∷ []
corners_suc [] i d h = absurd (omega arith)
corners_suc (t ∷ ts) zero d h = refl
corners_suc (t ∷ ts) (suc i) d h = ap (λ ps. t.a ∷ t.b ∷ t.c ∷ ps) (corners_suc ts i d (omega arith))

three_pushed : (p : Point) (ps : List Point) (a b c : Point) → (((p ∷ ps) ++ a ∷ []) ++ b ∷ []) ++ c ∷ [] ≡ p ∷ (ps ++ a ∷ b ∷ c ∷ [])
three_pushed p ps a b c = simp append_assoc

pub bounds_more : (p : Point) (ts : List Triangle) (i : ℕ) (d : Triangle) (e : Extent) → i < length ts → Bounds ((((p ∷ corners_of (take i ts)) ++ (get_or ts i d).a ∷ []) ++ (get_or ts i d).b ∷ []) ++ (get_or ts i d).c ∷ []) e → Bounds (p ∷ corners_of (take (i + 1) ts)) e
bounds_more p ts i d e h b = subst (λ j. Bounds (p ∷ corners_of (take j ts)) e) (sym (add-one i)) (subst (λ qs. Bounds (p ∷ qs) e) (sym (corners_suc ts i d h)) (subst (λ ps. Bounds ps e) (three_pushed p (corners_of (take i ts)) (get_or ts i d).a (get_or ts i d).b (get_or ts i d).c) b))

-- all triangles: the point that the box began with is the first corner
pub bounds_all : (ts : List Triangle) (d : Triangle) (n : ℕ) (e : Extent) → 0 < length ts → n ≡ length ts → Bounds ((get_or ts 0 d).a ∷ corners_of (take n ts)) e → Bounds (corners_of ts) e
bounds_all [] d n e h k b = absurd (omega arith)
bounds_all (t ∷ ts) d n e h k b = bounds_once t.a (t.b ∷ t.c ∷ corners_of ts) e (subst (λ l. Bounds (t.a ∷ corners_of l) e) (ap (λ m. take m (t ∷ ts)) k ∙ take-length (t ∷ ts)) b)
