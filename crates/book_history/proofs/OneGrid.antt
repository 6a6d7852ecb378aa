-- A version has one grid.
use Rattle.std.proofs.Common.{◌≡◌, ℕ, ◌<◌, ◌⊎◌, inl, inr, true, IsTrue, List, [], ◌∷◌, length, get_or, map, drop, refl, sym, ap, ap₂, subst, arith, ◌∙◌, ◌≤◌}
use Rattle.std.specs.List.{All, AllPairs, AllZip}
use Rattle.std.specs.Ordering.{nat_cmp, is_lt, ordering_reverse}
use Rattle.std.specs.Cmp.Lexicographic.{slice_cmp, nat_list_cmp_total}
use Rattle.std.specs.declared.cmp.Ordering.{Ordering}
use Rattle.std.specs.declared.cmp.Ordering.TheVariants.{Less, Greater}
use Rattle.std.proofs.lemmas.Bool.{cases_lt, cases_eq}
use Rattle.std.proofs.lemmas.List.{get_or_default}
use Rattle.std.proofs.lemmas.List.Elements.{All-head, All-tail}
use Rattle.bim_model.specs.declared.element.Element.{Element}
use Rattle.bim_model.specs.declared.geometry.Extent.{Extent}
use Rattle.bim_model.specs.declared.named_model.NamedModel.{NamedModel}
use Rattle.bim_model.specs.Models.{is_below, IsModel}
use Rattle.bim_model.specs.Keys.{Subject, subjects_of}
use Rattle.bim_model.specs.Snapshots.{Version, IsSnapshot}
use Rattle.bim_model.proofs.Unique.{extent_same}
use Rattle.bim_model.proofs.Versions.{less}
use Rattle.bim_model.proofs.Zips.{zip_same}
use Rattle.bucket_grid.specs.declared.cell.Cell.{Cell}
use Rattle.bucket_grid.specs.declared.subjects.Member.{Member}
use Rattle.bucket_grid.specs.declared.bucket_table.Bucket.{Bucket}
use Rattle.bucket_grid.specs.Cells.{members}
use Rattle.bucket_grid.specs.Subjects.{IsBoxOf, AreBoxes}
use Rattle.bucket_grid.specs.ElementPlaces.{IsPlace, IsGridBox}
use Rattle.bucket_grid.specs.BucketTable.{IsTable}
use Rattle.bucket_grid.specs.Grids.{GridValue}
use Rattle.book_history.proofs.Listing.{table_cells}

-- what a grid says of its parts
pub record HasParts (g : GridValue) : Type 0 where
  pub snapshot : IsSnapshot g.version.models
  pub placed : AllZip (IsPlace g.version.models) (subjects_of g.version.models) g.places
  pub boxed : AreBoxes (subjects_of g.version.models) g.boxes
  pub near : All IsGridBox g.boxes
  pub table : IsTable g.boxes g.buckets

reversed : (o : Ordering) → o ≡ Less → o ≡ ordering_reverse o → ⊥
reversed o e h = differ (sym e ∙ h ∙ ap ordering_reverse e)
  where
    differ : Less ≡ Greater → ⊥
    differ e = cc

-- no text is below itself
below_itself : (a : List ℕ) → is_below a a ≡ true → ⊥
below_itself a h = reversed (slice_cmp nat_cmp a a) (less (slice_cmp nat_cmp a a) h) (nat_list_cmp_total.antisymm a a)

abbrev Rise : List Element → Type 0
Rise es = AllPairs (λ (e f : Element). IsTrue (is_below e.guid.chars f.guid.chars)) es

apart : (es : List Element) (e : Element) (i j : ℕ) → Rise es → i < j → j < length es → get_or es i e ≡ e → get_or es j e ≡ e → ⊥
apart es e i j rise lt within h k =
    let below : is_below (get_or es i e).guid.chars (get_or es j e).guid.chars ≡ true = rise i j e lt within in
    below_itself e.guid.chars (ap₂ (λ (x y : Element). is_below x.guid.chars y.guid.chars) (sym h) (sym k) ∙ below)

-- an element stands at one place of a model
one_place : (es : List Element) (e : Element) (i j : ℕ) → Rise es → i < length es → j < length es → get_or es i e ≡ e → get_or es j e ≡ e → i ≡ j
one_place es e i j rise a b h k = by (cases_eq i j)
  where
    other : (i ≡ j → ⊥) → (i < j) ⊎ (j < i) → ⊥
    other ne (inl lt) = apart es e i j rise lt b h k
    other ne (inr lt) = apart es e j i rise lt a k h

    by : (i ≡ j) ⊎ (i ≡ j → ⊥) → i ≡ j
    by (inl e) = e
    by (inr ne) = absurd (other ne (split (cases_lt i j)))
      where
        split : (i < j) ⊎ (j ≤ i) → (i < j) ⊎ (j < i)
        split (inl lt) = inl lt
        split (inr le) = inr (omega (arith, le, ne))

same_member : (p q : Member) → p.model ≡ q.model → p.element ≡ q.element → p ≡ q
same_member p q e f = ap (λ m. (let r : Member = record { model = m; element = p.element } in r)) e ∙ ap (λ n. (let r : Member = record { model = q.model; element = n } in r)) f

place_same : (models : List NamedModel) → IsSnapshot models → (s : Subject) (p q : Member) → IsPlace models s p → IsPlace models s q → p ≡ q
place_same models snap s p q a b =
    let at : p.model ≡ q.model = sym a.same ∙ b.same in
    let named : b.named ≡ a.named =
    sym b.model_is ∙ ap (λ n. get_or models n b.named) (sym at) ∙ get_or_default models p.model b.named a.named a.model_in ∙ a.model_is in
    let model : IsModel a.named.model = subst (λ (m : NamedModel). IsModel m.model) a.model_is (snap.modelled p.model a.named a.model_in) in
    let there : get_or a.named.model q.element s.element ≡ s.element = subst (λ (m : NamedModel). get_or m.model q.element s.element ≡ s.element) named b.element_is in
    let within : q.element < length a.named.model = subst (λ (m : NamedModel). q.element < length m.model) named b.element_in in
    same_member p q at (one_place a.named.model s.element p.element q.element model.rising a.element_in within a.element_is there)

same_buckets : (boxes : List Extent) (bs cs : List Bucket) → All (λ (b : Bucket). b.members ≡ members boxes b.cell) bs → All (λ (b : Bucket). b.members ≡ members boxes b.cell) cs → map (λ (b : Bucket). b.cell) bs ≡ map (λ (b : Bucket). b.cell) cs → bs ≡ cs
same_buckets boxes [] [] h k e = refl
same_buckets boxes [] (c ∷ cs) h k e = absurd (nil_cons e)
  where
    nil_cons : [] ≡ c.cell ∷ map (λ (b : Bucket). b.cell) cs → ⊥
    nil_cons p = cc
same_buckets boxes (b ∷ bs) [] h k e = absurd (cons_nil e)
  where
    cons_nil : b.cell ∷ map (λ (b : Bucket). b.cell) bs ≡ [] → ⊥
    cons_nil p = cc
same_buckets boxes (b ∷ bs) (c ∷ cs) h k e =
    let P : Bucket → Type 0 = λ (x : Bucket). x.members ≡ members boxes x.cell in
    let first : b.cell ≡ c.cell = head_same e in
    let m : b.members ≡ c.members = All-head P b bs h ∙ ap (members boxes) first ∙ sym (All-head P c cs k) in
    ap₂ (λ x xs. x ∷ xs)
    (ap (λ t. (let r : Bucket = record { cell = t; members = b.members } in r)) first ∙ ap (λ t. (let r : Bucket = record { cell = c.cell; members = t } in r)) m)
    (same_buckets boxes bs cs (All-tail P b bs h) (All-tail P c cs k) (tail_same e))
  where
    head_same : b.cell ∷ map (λ (x : Bucket). x.cell) bs ≡ c.cell ∷ map (λ (x : Bucket). x.cell) cs → b.cell ≡ c.cell
    head_same p = ap (λ (l : List Cell). get_or l 0 b.cell) p

    tail_same : b.cell ∷ map (λ (x : Bucket). x.cell) bs ≡ c.cell ∷ map (λ (x : Bucket). x.cell) cs → map (λ (x : Bucket). x.cell) bs ≡ map (λ (x : Bucket). x.cell) cs
    tail_same p = ap (drop 1) p

abbrev grid : Version → List Member → List Extent → List Bucket → GridValue
grid v ps xs bs = record { version = v; places = ps; boxes = xs; buckets = bs }

same_version : (v : Version) (ps qs : List Member) (xs ys : List Extent) (bs cs : List Bucket) → HasParts (grid v ps xs bs) → HasParts (grid v qs ys cs) → grid v ps xs bs ≡ grid v qs ys cs
same_version v ps qs xs ys bs cs h k =
    let places : ps ≡ qs = zip_same (IsPlace v.models) (place_same v.models h.snapshot) (subjects_of v.models) ps qs h.placed k.placed in
    let boxes : xs ≡ ys = zip_same IsBoxOf (λ s x y p q. extent_same s.element.triangles x y p q) (subjects_of v.models) xs ys h.boxed k.boxed in
    let table : IsTable xs cs = subst (λ l. IsTable l cs) (sym boxes) k.table in
    let cells = table_cells xs bs h.near h.table ∙ sym (table_cells xs cs h.near table) in
    let buckets : bs ≡ cs = same_buckets xs bs cs h.table.each table.each cells in
    ap (λ l. grid v l xs bs) places ∙ ap (λ l. grid v qs l bs) boxes ∙ ap (λ l. grid v qs ys l) buckets

-- two grids of one version are the same
pub one_grid : (g k : GridValue) → HasParts g → HasParts k → g.version ≡ k.version → g ≡ k
one_grid g k h i e =
    let moved : HasParts (grid k.version g.places g.boxes g.buckets) = subst (λ v. HasParts (grid v g.places g.boxes g.buckets)) e h in
    ap (λ v. grid v g.places g.boxes g.buckets) e ∙ same_version k.version g.places k.places g.boxes k.boxes g.buckets k.buckets moved i
