-- Elements with the surfaces that their sketches show.
use Rattle.std.proofs.Common.{◌≡◌, ℕ, ◌+◌, ◌<◌, ◌≤◌, List, [], ◌∷◌, ◌++◌, length, get_or, set, map, take, take_all, drop, refl, sym, ap, ◌∙◌, subst, arith}
use Rattle.std.specs.List.{All}
use Rattle.std.proofs.lemmas.List.{take_more, take_more_set, drop-set-lt, drop_more, length-set, length-take-le}
use Rattle.std.proofs.lemmas.List.Elements.{All-get_or}
use Rattle.std.proofs.lemmas.Grind.{drop_more_same}
use Rattle.bim_model.specs.declared.element.Element.{Element}
use Rattle.model_walk.specs.declared.sketch_list.Sketch.{Sketch}
use Rattle.model_walk.specs.declared.element_sketches.Stock.{Stock}
use Rattle.model_walk.specs.Sketches.{element_of, elements_of, IsNearSketch}

-- the identifier of an element
abbrev pub guid_chars : Element → List ℕ
guid_chars element = element.guid.chars

-- a surface changes no identifier
pub same_guids : (stock : Stock) (elements : List Element) (sketches : List Sketch) → length elements ≡ length sketches → map guid_chars (elements_of stock elements sketches) ≡ map guid_chars elements
same_guids stock [] sketches same = refl
same_guids stock (e ∷ es) [] same = absurd (omega (arith, same))
same_guids stock (e ∷ es) (s ∷ ss) same = ap (λ (gs : List (List ℕ)). guid_chars e ∷ gs) (same_guids stock es ss (omega (arith, same)))

-- an element and its sketch more
pub elements_more : (stock : Stock) (elements : List Element) (sketches : List Sketch) (element : Element) (sketch : Sketch) → length elements ≡ length sketches
    → elements_of stock (elements ++ element ∷ []) (sketches ++ sketch ∷ []) ≡ elements_of stock elements sketches ++ element_of stock element sketch ∷ []
elements_more stock [] [] element sketch same = refl
elements_more stock [] (s ∷ ss) element sketch same = absurd (omega (arith, same))
elements_more stock (e ∷ es) [] element sketch same = absurd (omega (arith, same))
elements_more stock (e ∷ es) (s ∷ ss) element sketch same = ap (λ (made : List Element). element_of stock e s ∷ made) (elements_more stock es ss element sketch (omega (arith, same)))

-- the sketch at a place is near
pub near_there : (stock : Stock) (sketches : List Sketch) (at : ℕ) (sketch : Sketch) → All (IsNearSketch stock) sketches → at < length sketches → sketch ≡ get_or sketches at sketch → IsNearSketch stock sketch
near_there stock sketches at sketch near lt is = subst (IsNearSketch stock) (sym is) (All-get_or (IsNearSketch stock) sketches at sketch lt near)

-- Below that place the elements have their surfaces, and from there on they are as they were.
pub record SurfacedTo (stock : Stock) (elements : List Element) (sketches : List Sketch) (at : ℕ) (made : List Element) : Type 0 where
  pub done : take at made ≡ elements_of stock (take at elements) (take at sketches)
  pub rest : drop at made ≡ drop at elements
  pub long : length made ≡ length elements

pub none_surfaced : (stock : Stock) (elements : List Element) (sketches : List Sketch) → SurfacedTo stock elements sketches 0 elements
none_surfaced stock elements sketches = record { done = refl; rest = refl; long = refl }

-- one surface more
pub one_surfaced : (stock : Stock) (elements : List Element) (sketches : List Sketch) (at : ℕ) (old new : List Element) (bare made : Element) (sketch : Sketch) → SurfacedTo stock elements sketches at old → at < length elements → length elements ≡ length sketches
    → bare ≡ get_or old at bare → sketch ≡ get_or sketches at sketch → made ≡ element_of stock bare sketch → new ≡ set old at made → SurfacedTo stock elements sketches (at + 1) new
one_surfaced stock elements sketches at old new bare made sketch so_far lt same is drawn makes stored =
    let there : at < length sketches = omega (arith, lt, same) in
    let within : at < length old = omega (arith, lt, so_far.long) in
    let first : List Element → Element = λ es. get_or es 0 bare in
    let left : bare ≡ get_or elements at bare = is ∙ sym (ap first (drop_more old at bare within)) ∙ ap first so_far.rest ∙ ap first (drop_more elements at bare lt) in
    let long : length (take at elements) ≡ length (take at sketches) = length-take-le at elements (omega (arith, lt)) ∙ sym (length-take-le at sketches (omega (arith, there))) in
    let es : take (at + 1) elements ≡ take at elements ++ bare ∷ [] = take_more elements at bare lt ∙ ap (λ (e : Element). take at elements ++ e ∷ []) (sym left) in
    let ss : take (at + 1) sketches ≡ take at sketches ++ sketch ∷ [] = take_more sketches at sketch there ∙ ap (λ (s : Sketch). take at sketches ++ s ∷ []) (sym drawn) in
    record {
      done =
          ap (take (at + 1)) stored ∙ take_more_set old at made within ∙ ap (λ (l : List Element). l ++ made ∷ []) so_far.done
          ∙ ap (λ (e : Element). elements_of stock (take at elements) (take at sketches) ++ e ∷ []) makes
          ∙ sym (ap (λ (l : List Element). elements_of stock l (take (at + 1) sketches)) es ∙ ap (elements_of stock (take at elements ++ bare ∷ [])) ss ∙ elements_more stock (take at elements) (take at sketches) bare sketch long);
      rest = ap (drop (at + 1)) stored ∙ drop-set-lt (at + 1) old at made (omega arith) ∙ drop_more_same old elements at so_far.rest;
      long = ap length stored ∙ length-set old at made ∙ so_far.long;
    }

pub all_surfaced : (stock : Stock) (elements : List Element) (sketches : List Sketch) (at : ℕ) (made : List Element) → SurfacedTo stock elements sketches at made → length made ≤ at → length elements ≡ length sketches → made ≡ elements_of stock elements sketches
all_surfaced stock elements sketches at made so_far le same =
    sym (take_all at made le) ∙ so_far.done ∙ ap (λ (l : List Element). elements_of stock l (take at sketches)) (take_all at elements (omega (arith, le, so_far.long)))
    ∙ ap (elements_of stock elements) (take_all at sketches (omega (arith, le, so_far.long, same)))
