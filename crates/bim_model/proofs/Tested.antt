-- Items that are tested one by one.
use Rattle.std.proofs.Common.{◌≡◌, ◌↔◌, ℕ, zero, suc, ◌+◌, ◌-◌, ◌<◌, ◌≤◌, ◌⊎◌, inl, inr, List, [], ◌∷◌, ◌++◌, length, get_or, take, Bool, false, IsTrue, true≢false, refl, sym, ◌∙◌, ap, subst, arith}
use Rattle.std.specs.List.{All, AllPairs}
use Rattle.std.proofs.lemmas.Bool.{cases_lt}
use Rattle.std.proofs.lemmas.List.{take_more, take_all, get_or-take, length-take-le}
use Rattle.std.proofs.lemmas.List.Elements.{All-append, All-cons, All-nil, All-push, All-head, All-tail}
use Rattle.std.proofs.lemmas.List.Quantifiers.{all_pairs_push}
use Rattle.bim_model.specs.Boxes.{corners_of}
use Rattle.bim_model.specs.Models.{is_below}
use Rattle.bim_model.specs.declared.geometry.Point.{Point}
use Rattle.bim_model.specs.declared.geometry.Triangle.{Triangle}
use Rattle.bim_model.specs.declared.element.Element.{Element}
use Rattle.bim_model.proofs.Versions.{below_trans}

any_default : {X : Type 0} (xs : List X) (i : ℕ) (d e : X) → i < length xs → get_or xs i d ≡ get_or xs i e
any_default [] i d e h = absurd (omega arith)
any_default (x ∷ xs) zero d e h = refl
any_default (x ∷ xs) (suc i) d e h = any_default xs i d e (omega arith)

-- one more item
pub all_more : {X : Type 0} (P : X → Type 0) (xs : List X) (i : ℕ) (x : X)
    → i < length xs → x ≡ get_or xs i x → All P (take i xs) → P x → All P (take (i + 1) xs)
all_more P xs i x lt at h p =
    let more : take (i + 1) xs ≡ take i xs ++ x ∷ [] = take_more xs i x lt ∙ ap (λ z. take i xs ++ z ∷ []) (sym at) in
    rw more (All-push P (take i xs) x h p)

-- all items
pub all_whole : {X : Type 0} (P : X → Type 0) (xs : List X) (n : ℕ) → length xs ≤ n → All P (take n xs) → All P xs
all_whole P xs n h all = subst (All P) (take_all n xs h) all

pub corners_append : (xs ys : List Triangle) → corners_of (xs ++ ys) ≡ corners_of xs ++ corners_of ys
corners_append [] ys = refl
corners_append (t ∷ ts) ys = ap (λ ps. t.a ∷ t.b ∷ t.c ∷ ps) (corners_append ts ys)

-- the corners of one more triangle
pub corners_more : (P : Point → Type 0) (ts : List Triangle) (i : ℕ) (d : Triangle)
    → i < length ts → All P (corners_of (take i ts)) → All P (corners_of (get_or ts i d ∷ [])) → All P (corners_of (take (i + 1) ts))
corners_more P ts i d lt h one =
    let t : Triangle = get_or ts i d in
    let all : All P (corners_of (take i ts) ++ corners_of (t ∷ [])) = All-append P (corners_of (take i ts)) (corners_of (t ∷ [])) h one in
    subst (All P) (sym (ap corners_of (take_more ts i d lt) ∙ corners_append (take i ts) (t ∷ []))) all

pub corners_whole : (P : Point → Type 0) (ts : List Triangle) (n : ℕ) → length ts ≤ n → All P (corners_of (take n ts)) → All P (corners_of ts)
corners_whole P ts n h all = subst (λ us. All P (corners_of us)) (take_all n ts h) all

three : (P : Point → Type 0) (t : Triangle) (ps : List Point) → All P (t.a ∷ t.b ∷ t.c ∷ ps) → All P (corners_of (t ∷ []))
three P t ps all =
    let a = All-head P t.a (t.b ∷ t.c ∷ ps) all in
    let bs = All-tail P t.a (t.b ∷ t.c ∷ ps) all in
    let b = All-head P t.b (t.c ∷ ps) bs in
    let cs = All-tail P t.b (t.c ∷ ps) bs in
    let c = All-head P t.c ps cs in
    All-cons P t.a (t.b ∷ t.c ∷ []) a (All-cons P t.b (t.c ∷ []) b (All-cons P t.c [] c (All-nil P)))

-- the corners of one of the triangles
pub corners_at : (P : Point → Type 0) (ts : List Triangle) (i : ℕ) (d : Triangle) → i < length ts → All P (corners_of ts) → All P (corners_of (get_or ts i d ∷ []))
corners_at P [] i d h all = absurd (omega arith)
corners_at P (t ∷ ts) zero d h all = three P t (corners_of ts) all
corners_at P (t ∷ ts) (suc i) d h all =
    corners_at P ts i d (omega arith)
    (All-tail P t.c (corners_of ts) (All-tail P t.b (t.c ∷ corners_of ts) (All-tail P t.a (t.b ∷ t.c ∷ corners_of ts) all)))

-- three corners that are tested, the last of them by r
pub three_tested : (P : Point → Type 0) (t : Triangle) (r : Bool) → P t.a → P t.b → (IsTrue r ↔ P t.c) → IsTrue r ↔ All P (corners_of (t ∷ []))
three_tested P t r a b last = (
  λ h. All-cons P t.a (t.b ∷ t.c ∷ []) a (All-cons P t.b (t.c ∷ []) b (All-cons P t.c [] (last.0 h) (All-nil P))),
  λ all. last.1 (all 2 t.c (omega arith)),
)

-- one of the first two corners fails
pub two_failed : (P : Point → Type 0) (t : Triangle) → (P t.a → P t.b → ⊥) → IsTrue false ↔ All P (corners_of (t ∷ []))
two_failed P t never = (λ h. absurd (true≢false (sym h)), λ all. absurd (never (all 0 t.a (omega arith)) (all 1 t.b (omega arith))))

abbrev pub Below : Element → Element → Type 0
Below e f = IsTrue (is_below e.guid.chars f.guid.chars)

-- the last of the first i items is below the next one, and so all before are
pub rising_more : (es : List Element) (i : ℕ) (d e : Element) → 1 ≤ i → i < length es → Below (get_or es (i - 1) d) (get_or es i e)
    → AllPairs Below (take i es) → AllPairs Below (take (i + 1) es)
rising_more es i d e low lt next h =
    rw (take_more es i e lt)
    (all_pairs_push Below (take i es) (get_or es i e) h
    (λ k b within. each k b within (cases_lt k (i - 1))))
  where
    count : length (take i es) ≡ i
    count = length-take-le i es (omega arith)

    last : (b : Element) → get_or (take i es) (i - 1) b ≡ get_or es (i - 1) d
    last b = get_or-take i es (i - 1) b (omega arith) ∙ any_default es (i - 1) b d (omega arith)

    each : (k : ℕ) (b : Element) → k < length (take i es) → (k < i - 1) ⊎ (i - 1 ≤ k) → Below (get_or (take i es) k b) (get_or es i e)
    each k b within (inl below) =
        below_trans (get_or (take i es) k b).guid.chars (get_or es (i - 1) d).guid.chars (get_or es i e).guid.chars
        (subst (λ (x : Element). Below (get_or (take i es) k b) x) (last b) (h k (i - 1) b below (omega (arith, count)))) next
    each k b within (inr at) =
        let same : i - 1 ≡ k = omega (arith, count) in
        subst (λ (x : Element). Below x (get_or es i e)) (sym (last b) ∙ ap (λ j. get_or (take i es) j b) same) next

-- two neighbours do not rise
pub not_rising : (es : List Element) (i : ℕ) (d e : Element) (r : Bool) → 1 ≤ i → i < length es
    → r ≡ is_below (get_or es (i - 1) d).guid.chars (get_or es i e).guid.chars → r ≡ false → IsTrue false ↔ AllPairs Below es
not_rising es i d e r low lt is fails = (
  λ h. absurd (true≢false (sym h)),
  λ all.
      let here : Below (get_or es (i - 1) e) (get_or es i e) = all (i - 1) i e (omega arith) lt in
      let same : get_or es (i - 1) e ≡ get_or es (i - 1) d = any_default es (i - 1) e d (omega arith) in
      sym fails ∙ is ∙ subst (λ (x : Element). Below x (get_or es i e)) same here,
)

pub rising_whole : (es : List Element) (n : ℕ) → length es ≤ n → AllPairs Below (take n es) → AllPairs Below es
rising_whole es n h all = subst (AllPairs Below) (take_all n es h) all
