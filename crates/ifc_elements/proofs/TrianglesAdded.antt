-- Triangles that are added, value by value.
use Rattle.std.proofs.Common.{◌≡◌, ℕ, zero, suc, ◌+◌, ◌<◌, ◌≤◌, Bool, true, false, Result, Ok, Err, Vec, Global, List, [], ◌∷◌, ◌++◌, length, get_or, take, take_all, map, flat_map, sum_by, if◌then◌else◌, Option, Some, None, refl, sym, ap, ap₂, ◌∙◌, subst, append_assoc, append-nil, arith}
use Rattle.std.proofs.lemmas.Bool.{MatchBool-at_true, MatchBool-at_false}
use Rattle.std.specs.declared.alloc.AllocError.{AllocError}
use Rattle.std.specs.Prelude.{IfOk}
use Rattle.std.specs.Bool.{MatchBool}
use Rattle.std.specs.Option.{MatchOption}
use Rattle.std.specs.List.{All}
use Rattle.std.proofs.lemmas.List.{take_more, length-map, length-append}
use Rattle.std.proofs.lemmas.List.Elements.{All-nil, All-cons, All-append}
use Rattle.std.proofs.lemmas.List.Sums.{sum_by-cons}
use Rattle.std.proofs.lemmas.Grind.{flat_map-append}
use Rattle.bim_model.specs.Boxes.{corners_of}
use Rattle.bim_model.specs.Models.{IsInReach}
use Rattle.bim_model.specs.declared.upload.Mode.{Mode}
use Rattle.bim_model.specs.declared.geometry.Triangle.{Triangle}
use Rattle.p21_values.specs.declared.value.Value21.{Value21}
use Rattle.p21_values.specs.declared.value.Instance.{Instance}
use Rattle.p21_values.specs.InstanceLookup.{look}
use Rattle.p21_values.specs.Values.{reference_of}
use Rattle.p21_values.proofs.PlaceLemmas.{some_instance}
use Rattle.ifc_units.specs.declared.scale.Scale.{Scale}
use Rattle.placement.specs.declared.frame.Frame.{Frame}
use Rattle.placement.specs.Operators.{OperatorFrame}
use Rattle.faceset.specs.FaceSets.{Joined, triangle_count}
use Rattle.ifc_instances.proofs.LedTo.{led_append, led_one}
use Rattle.faceset.proofs.Joins.{joined_one, joined_append}
use Rattle.p21_values.specs.Attributes.{reference_at, led_to}
use Rattle.ifc_elements.specs.Items.{is_mapped_item, item_count, items_of, mapped_sets, spelled_items, spelled_sets, bodies, body_items}
use Rattle.ifc_elements.specs.Finding.{Number}
use Rattle.ifc_elements.specs.Surfaces.{SetSurface, MappedSurface, ItemSurface, moved}
use Rattle.ifc_elements.specs.Sound.{AreSets, ReadySet, ReadyMapped, ReadyItem, ReadyBody, Adds, KeptSet, KeptMapped, KeptItem, set_in}
use Rattle.ifc_elements.proofs.TrianglesMoved.{corners_append}

-- Corners in reach.

pub near_append : (xs ys zs : List Triangle) → zs ≡ xs ++ ys → All IsInReach (corners_of ys) → All IsInReach (corners_of xs) → All IsInReach (corners_of zs)
near_append xs ys zs e more before =
    subst (All IsInReach) (sym (ap corners_of e ∙ corners_append xs ys)) (All-append IsInReach (corners_of xs) (corners_of ys) before more)

pub near_at : (ts : List Triangle) (k : ℕ) (d : Triangle) → k < length ts → All IsInReach (corners_of ts) → All IsInReach (corners_of (get_or ts k d ∷ []))
near_at [] k d lt all = absurd (omega (arith, lt))
near_at (t ∷ ts) zero d lt all =
    All-cons IsInReach t.a (t.b ∷ t.c ∷ []) (all 0 t.a (omega arith)) (All-cons IsInReach t.b (t.c ∷ []) (all 1 t.b (omega arith)) (All-cons IsInReach t.c [] (all 2 t.c (omega arith)) (All-nil IsInReach)))
near_at (t ∷ ts) (suc k) d lt all = near_at ts k d (omega (arith, lt)) (λ j e l. all (suc (suc (suc j))) e (omega (arith, l)))

-- What was added.

pub adds_one : (G : Instance → List Triangle → Type 0) (world : List Instance) (v : Value21) (id : ℕ) (i : Instance) (old new : List Triangle) → reference_of v ≡ Some id → look world id ≡ Some i
    → Adds (G i) old new → Adds (Joined G (led_to world (v ∷ []))) old new
adds_one G world v id i old new refers found h =
    (h.0, subst (λ is. Joined G is h.0) (sym (led_one world v id i refers found)) (joined_one G i h.0 h.1), h.2)

-- .. by all values up to one
pub adds_more : (G : Instance → List Triangle → Type 0) (world : List Instance) (given : List Value21) (v : Value21) (start old new : List Triangle) → Adds (Joined G (led_to world given)) start old
    → Adds (Joined G (led_to world (v ∷ []))) old new → Adds (Joined G (led_to world (given ++ v ∷ []))) start new
adds_more G world given v start old new h one = (
  h.0 ++ one.0,
  subst (λ is. Joined G is (h.0 ++ one.0)) (sym (led_append world given (v ∷ []))) (joined_append G (led_to world given) (led_to world (v ∷ [])) h.0 one.0 h.1 one.1),
  one.2 ∙ ap (λ z. z ++ one.0) h.2 ∙ append_assoc start h.0 one.0,
)

-- one value isn't ready, so not all are
pub unready_there : (Ready : Value21 → Type 0) (vs : List Value21) (k : ℕ) (v : Value21) → k < length vs → v ≡ get_or vs k v → (Ready v → ⊥) → All Ready vs → ⊥
unready_there Ready vs k v lt at never all = never (subst Ready (sym at) (all k v lt))

-- Sets.

pub set_added : (world : List Instance) (scale : Scale) (mode : Mode) (listed : List ℕ) (entries : List (ℕ × List Triangle)) (v : Value21) (id : ℕ) (triangles old new : List Triangle) → AreSets world scale mode listed entries
    → reference_of v ≡ Some id → set_in entries id ≡ Some triangles → new ≡ old ++ triangles → Adds (Joined (KeptSet world scale mode) (led_to world (v ∷ []))) old new
set_added world scale mode listed entries v id triangles old new are refers there grown =
    let f = are.sound id triangles there in
    adds_one (KeptSet world scale mode) world v id f.instance old new refers f.found (triangles, (f.holds.surface, f.holds.count), grown)

pub set_missing : (world : List Instance) (scale : Scale) (mode : Mode) (listed : List ℕ) (entries : List (ℕ × List Triangle)) (v : Value21) (id : ℕ) (i : Instance) → AreSets world scale mode listed entries
    → reference_of v ≡ Some id → look world id ≡ Some i → set_in entries id ≡ None → ReadySet world listed v → ⊥
set_missing world scale mode listed entries v id i are refers found none ready =
    let r = ready id refers i found in
    let there = are.all id r.1 (record { instance = i; found = found; holds = r.0 }) in
    differ (sym none ∙ there.1)
  where
    differ : {ts : List Triangle} → None ≡ Some ts → ⊥
    differ e = cc

-- Counts of what is joined.

pub joined_length : {X : Type 0} (P : X → List Triangle → Type 0) (f : X → ℕ) (xs : List X) (ts : List Triangle) → Joined (λ x us. P x us × (length us ≡ f x)) xs ts → length ts ≡ sum_by f xs
joined_length P f [] ts j = ap length j
joined_length P f (x ∷ xs) ts j =
    let rest = joined_length P f xs j.1 j.3 in
    ap length j.4 ∙ length-append j.0 j.1 ∙ ap₂ (λ m n. m + n) j.2.1 rest ∙ sym (sum_by-cons f x xs)

pub joined_by : {X : Type 0} (G H : X → List Triangle → Type 0) → ((x : X) (us : List Triangle) → G x us → H x us) → (xs : List X) (ts : List Triangle) → Joined G xs ts → Joined H xs ts
joined_by G H each [] ts j = j
joined_by G H each (x ∷ xs) ts j = (j.0, j.1, each x j.0 j.2, joined_by G H each xs j.1 j.3, j.4)

pub joined_first : (P : Instance → List Triangle → Type 0) (f : Instance → ℕ) (xs : List Instance) (ts : List Triangle) → Joined (λ x us. P x us × (length us ≡ f x)) xs ts → Joined P xs ts
joined_first P f xs ts j = joined_by (λ x us. P x us × (length us ≡ f x)) P (λ x us h. h.0) xs ts j

-- Mapped items.

pub mapped_added : (world : List Instance) (scale : Scale) (mode : Mode) (item : Instance) (operator : ℕ) (frame : Frame) (values : List Value21) (start own old new : List Triangle) → reference_at item 1 ≡ Some operator
    → OperatorFrame world scale mode operator frame → values ≡ spelled_sets world item → start ≡ [] → Adds (Joined (KeptSet world scale mode) (led_to world values)) start own → new ≡ old ++ map (moved frame) own
    → Adds (KeptMapped world scale mode item) old new
mapped_added world scale mode item operator frame values start own old new refers is_frame are none h grown =
    let all : own ≡ h.0 = h.2 ∙ ap (λ z. z ++ h.0) none in
    let j : Joined (KeptSet world scale mode) (mapped_sets world item) own = subst (λ (us : List Value21). Joined (KeptSet world scale mode) (led_to world us) own) are (subst (Joined (KeptSet world scale mode) (led_to world values)) (sym all) h.1) in (
      map (moved frame) own,
      (
        record {
          operator = operator;
          refers = refers;
          frame = frame;
          is_frame = is_frame;
          own = own;
          of_sets = joined_first (SetSurface world scale mode) (triangle_count world) (mapped_sets world item) own j;
          all = refl;
        },
        length-map own (moved frame) ∙ joined_length (SetSurface world scale mode) (triangle_count world) (mapped_sets world item) own j,
      ),
      grown,
    )

pub unframed : (world : List Instance) (scale : Scale) (mode : Mode) (listed : List ℕ) (item : Instance) (operator : ℕ) → reference_at item 1 ≡ Some operator → ((f : Frame) → OperatorFrame world scale mode operator f → ⊥)
    → ReadyMapped world scale mode listed item → ⊥
unframed world scale mode listed item operator refers none ready =
    let same : ready.operator ≡ operator = (let e = ready.refers in cc) in
    none ready.frame (subst (λ n. OperatorFrame world scale mode n ready.frame) same ready.is_frame)

-- Items.

-- an item that is mapped, and one that isn't
pub mapped_kept : (world : List Instance) (scale : Scale) (mode : Mode) (item : Instance) (triangles : List Triangle) → is_mapped_item item ≡ true → KeptMapped world scale mode item triangles → KeptItem world scale mode item triangles
mapped_kept world scale mode item triangles is kept =
    (subst (λ b. MatchBool b (MappedSurface world scale mode item triangles) (SetSurface world scale mode item triangles)) (sym is) kept.0, kept.1 ∙ counted (is_mapped_item item) is)
  where
    counted : (b : Bool) → b ≡ true → sum_by (triangle_count world) (mapped_sets world item) ≡ if b then sum_by (triangle_count world) (mapped_sets world item) else triangle_count world item
    counted b e = rw e refl

pub set_kept : (world : List Instance) (scale : Scale) (mode : Mode) (item : Instance) (triangles : List Triangle) → is_mapped_item item ≡ false → KeptSet world scale mode item triangles → KeptItem world scale mode item triangles
set_kept world scale mode item triangles is kept =
    (subst (λ b. MatchBool b (MappedSurface world scale mode item triangles) (SetSurface world scale mode item triangles)) (sym is) kept.0, kept.1 ∙ counted (is_mapped_item item) is)
  where
    counted : (b : Bool) → b ≡ false → triangle_count world item ≡ if b then sum_by (triangle_count world) (mapped_sets world item) else triangle_count world item
    counted b e = rw e refl

pub item_mapped : (world : List Instance) (scale : Scale) (mode : Mode) (listed : List ℕ) (v : Value21) (id : ℕ) (i : Instance) (old new : List Triangle) (r : Result Bool AllocError) → reference_of v ≡ Some id → look world id ≡ Some i → is_mapped_item i ≡ true
    → IfOk r (λ done. MatchBool done (Adds (KeptMapped world scale mode i) old new) (ReadyMapped world scale mode listed i → ⊥))
    → IfOk r (λ done. MatchBool done (Adds (Joined (KeptItem world scale mode) (led_to world (v ∷ []))) old new) (ReadyItem world scale mode listed v → ⊥))
item_mapped world scale mode listed v id i old new (Err e) refers found is h = h
item_mapped world scale mode listed v id i old new (Ok true) refers found is h = adds_one (KeptItem world scale mode) world v id i old new refers found (h.0, mapped_kept world scale mode i h.0 is h.1, h.2)
item_mapped world scale mode listed v id i old new (Ok false) refers found is h =
    λ ready. h (MatchBool-at_true _ _ is (ready id refers i found))

set_item : (world : List Instance) (scale : Scale) (mode : Mode) (i : Instance) (more : List Triangle) → is_mapped_item i ≡ false → Joined (KeptSet world scale mode) (i ∷ []) more → Joined (KeptItem world scale mode) (i ∷ []) more
set_item world scale mode i more is j = (j.0, j.1, set_kept world scale mode i j.0 is j.2, j.3, j.4)

pub item_set : (world : List Instance) (scale : Scale) (mode : Mode) (listed : List ℕ) (v : Value21) (id : ℕ) (i : Instance) (old new : List Triangle) (r : Result Bool AllocError) → reference_of v ≡ Some id → look world id ≡ Some i → is_mapped_item i ≡ false
    → IfOk r (λ done. MatchBool done (Adds (Joined (KeptSet world scale mode) (led_to world (v ∷ []))) old new) (ReadySet world listed v → ⊥))
    → IfOk r (λ done. MatchBool done (Adds (Joined (KeptItem world scale mode) (led_to world (v ∷ []))) old new) (ReadyItem world scale mode listed v → ⊥))
item_set world scale mode listed v id i old new (Err e) refers found is h = h
item_set world scale mode listed v id i old new (Ok true) refers found is h =
    let one = led_one world v id i refers found in
    (h.0, subst (λ is. Joined (KeptItem world scale mode) is h.0) (sym one) (set_item world scale mode i h.0 is (subst (λ is. Joined (KeptSet world scale mode) is h.0) one h.1)), h.2)
item_set world scale mode listed v id i old new (Ok false) refers found is h =
    λ ready. h (λ k refers_k s found_s. (
    let same_k : k ≡ id = cc in
    let same_s : s ≡ i = (let at : look world id ≡ Some s = subst (λ n. look world n ≡ Some s) same_k found_s in cc) in
    let set : is_mapped_item s ≡ false = ap is_mapped_item same_s ∙ is in
    MatchBool-at_false _ _ set (ready k refers_k s found_s)))

-- Bodies.

-- what stands at one place of the numbers and of their instances
number_there : (world : List Instance) (ids : List ℕ) (are : List Instance) (k : ℕ) (d : ℕ) (e : Instance) → Number world ids are → k < length ids
    → (k < length are) × (look world (get_or ids k d) ≡ Some (get_or are k e))
number_there world [] are k d e h lt = absurd (omega (arith, lt))
number_there world (i ∷ ids) [] k d e h lt = cc
number_there world (i ∷ ids) (s ∷ are) zero d e h lt = (omega arith, cc)
number_there world (i ∷ ids) (s ∷ are) (suc k) d e h lt =
    let rest : Number world ids are = cc in
    let r = number_there world ids are k d e rest (omega (arith, lt)) in
    (omega (arith, r.0), r.1)

pub never_missing : (world : List Instance) (ids : List ℕ) (are : List Instance) (k : ℕ) → k < length ids → None ≡ look world (get_or ids k 0) → Number world ids are → ⊥
never_missing world ids are k lt none h = differ (none ∙ (number_there world ids are k 0 some_instance h lt).1)
  where
    differ : {i : Instance} → None ≡ Some i → ⊥
    differ h = cc

-- the body at a place
body_there : (world : List Instance) (ids : List ℕ) (are : List Instance) (k : ℕ) (body : Instance) → k < length ids → Some body ≡ look world (get_or ids k 0) → Number world ids are
    → (k < length are) × (body ≡ get_or are k body)
body_there world ids are k body lt found h =
    let r = number_there world ids are k 0 body h lt in
    (r.0, same (found ∙ r.1))
  where
    same : {i j : Instance} → Some i ≡ Some j → i ≡ j
    same h = cc

pub unready_body : (world : List Instance) (scale : Scale) (mode : Mode) (listed : List ℕ) (ids : List ℕ) (are : List Instance) (k : ℕ) (body : Instance) (values : List Value21) → k < length ids → Some body ≡ look world (get_or ids k 0)
    → values ≡ spelled_items body → (All (ReadyItem world scale mode listed) values → ⊥) → Number world ids are → All (ReadyBody world scale mode listed) are → ⊥
unready_body world scale mode listed ids are k body values lt found spelled says h all =
    let r = body_there world ids are k body lt found h in
    says (subst (All (ReadyItem world scale mode listed)) (sym spelled) (subst (ReadyBody world scale mode listed) (sym r.1) (all k body r.0)))

pub own_more : (world : List Instance) (scale : Scale) (mode : Mode) (ids : List ℕ) (are : List Instance) (k : ℕ) (body : Instance) (values : List Value21) (old new : List Triangle) → k < length ids → Some body ≡ look world (get_or ids k 0)
    → values ≡ spelled_items body → Adds (Joined (KeptItem world scale mode) (led_to world values)) old new → Number world ids are → Joined (KeptItem world scale mode) (flat_map (items_of world) (take k are)) old
    → Joined (KeptItem world scale mode) (flat_map (items_of world) (take (k + 1) are)) new
own_more world scale mode ids are k body values old new lt found spelled h number so_far =
    let at = body_there world ids are k body lt found number in
    let step : take (k + 1) are ≡ take k are ++ body ∷ [] = take_more are k body at.0 ∙ ap (λ z. take k are ++ z ∷ []) (sym at.1) in
    let parts : flat_map (items_of world) (take (k + 1) are) ≡ flat_map (items_of world) (take k are) ++ items_of world body =
    ap (flat_map (items_of world)) step ∙ flat_map-append (items_of world) (take k are) (body ∷ []) ∙ ap (λ z. flat_map (items_of world) (take k are) ++ z) (append-nil (items_of world body)) in
    let more : Joined (KeptItem world scale mode) (items_of world body) h.0 = subst (λ (us : List Value21). Joined (KeptItem world scale mode) (led_to world us) h.0) spelled h.1 in
    subst (Joined (KeptItem world scale mode) (flat_map (items_of world) (take (k + 1) are))) (sym h.2)
    (subst (λ (is : List Instance). Joined (KeptItem world scale mode) is (old ++ h.0)) (sym parts) (joined_append (KeptItem world scale mode) (flat_map (items_of world) (take k are)) (items_of world body) old h.0 so_far more))

-- as many numbers as bodies
number_long : (world : List Instance) (ids : List ℕ) (are : List Instance) → Number world ids are → length ids ≡ length are
number_long world ids are h = sym (length-map ids (look world)) ∙ ap length h ∙ length-map are Some

pub own_whole : (world : List Instance) (scale : Scale) (mode : Mode) (ids : List ℕ) (are : List Instance) (k : ℕ) (own : List Triangle) → length ids ≤ k → Number world ids are
    → Joined (KeptItem world scale mode) (flat_map (items_of world) (take k are)) own → Joined (KeptItem world scale mode) (flat_map (items_of world) are) own
own_whole world scale mode ids are k own le h so_far =
    let long = number_long world ids are h in
    subst (λ z. Joined (KeptItem world scale mode) (flat_map (items_of world) z) own) (take_all k are (omega arith)) so_far

pub own_counted : (world : List Instance) (scale : Scale) (mode : Mode) (listed : List ℕ) (element : Instance) (r : Result (Option (Vec Triangle Global)) AllocError)
    → IfOk r (λ made. MatchOption made (All (ReadyBody world scale mode listed) (bodies world element) → ⊥) (λ own. Joined (KeptItem world scale mode) (flat_map (items_of world) (bodies world element)) own.items))
    → IfOk r (λ made. MatchOption made (All (ReadyBody world scale mode listed) (bodies world element) → ⊥) (λ own. Joined (ItemSurface world scale mode) (body_items world element) own.items × (length own.items ≡ sum_by (item_count world) (body_items world element))))
own_counted world scale mode listed element (Err e) h = h
own_counted world scale mode listed element (Ok None) h = h
own_counted world scale mode listed element (Ok (Some own)) h =
    (joined_first (ItemSurface world scale mode) (item_count world) (body_items world element) own.items h, joined_length (ItemSurface world scale mode) (item_count world) (body_items world element) own.items h)
