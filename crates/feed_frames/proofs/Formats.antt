-- A reader and a spelling that belong together: what is read was spelled so, and what is spelled is read.
use Rattle.std.proofs.Common.{◌≡◌, ℕ, zero, suc, ◌+◌, ◌<◌, ◌≤◌, ◌⊎◌, Bool, true, false, cond, eqb, leb, List, [], ◌∷◌, ◌++◌, length, get_or, take, drop, Option, Some, None, refl, sym, ap, subst, ◌∙◌, append_assoc, arith, inl, inr}
use Rattle.std.specs.List.{flat_map, AllByRecursion}
use Rattle.std.proofs.lemmas.Bool.{eqb-true, leb-true, le-leb, cases_lt}
use Rattle.std.proofs.lemmas.List.{take_at, drop_at, take-append-drop, length-append, length-take, get_or_append_left, get_or-append-add, get_or_past}
use Rattle.std.proofs.lemmas.Option.{same_Some, cond_some}
use Rattle.feed_frames.specs.inner.Readers.{Reader, Kinds, option_then, nothing_at, cut_at, both_at, made_at, checked_at, items_at, no_kind, kind_at, kinds_at}

-- each is a byte
abbrev pub IsBytes : List ℕ → Type 0
IsBytes bytes = (i : ℕ) → get_or bytes i 0 < 256

-- a front of bytes
pub IsBytes-front : (front rest : List ℕ) → IsBytes (front ++ rest) → IsBytes front
IsBytes-front front rest h i =
    elim (cases_lt i (length front)) [
      | inl lt ↦ subst (λ (n : ℕ). n < 256) (get_or_append_left front rest 0 i lt) (h i)
      | inr le ↦ subst (λ (n : ℕ). n < 256) (sym (get_or_past front i 0 le)) (omega arith)
    ]

-- what stands behind it
pub IsBytes-behind : (front rest : List ℕ) → IsBytes (front ++ rest) → IsBytes rest
IsBytes-behind front rest h i =
    subst (λ (n : ℕ). n < 256) (get_or-append-add front rest i 0) (h (length front + i))

-- the value of a step that found one
pub then_some : {A B : Type 0} (o : Option A) (f : A → Option B) (y : B) → option_then o f ≡ Some y → (x : A) × (o ≡ Some x) × (f x ≡ Some y)
then_some None f y e = absurd cc
then_some (Some x) f y e = (x, refl, e)

-- what a reader took from the front
pub record Takes (bytes text rest : List ℕ) : Type 0 where
  pub parts : bytes ≡ text ++ rest
  pub rest_fits : IsBytes rest

pub Takes-then : (a x b y c : List ℕ) → Takes a x b → Takes b y c → Takes a (x ++ y) c
Takes-then a x b y c p q = record {
  parts = p.parts ∙ ap (λ (t : List ℕ). x ++ t) q.parts ∙ sym (append_assoc x y c);
  rest_fits = q.rest_fits;
}

pub record IsFormat (A : Type 0) (read : Reader A) (spell : A → List ℕ) (good : A → Type 0) : Type 0 where
  pub takes :
      (bytes : List ℕ) (x : A) (rest : List ℕ) → IsBytes bytes → read bytes ≡ Some (x, rest)
      → Takes bytes (spell x) rest × good x
  pub again : (x : A) (rest : List ℕ) → good x → read (spell x ++ rest) ≡ Some (x, rest)

-- nothing
pub nothing : IsFormat (Unit {0}) nothing_at (λ _. []) (λ _. Unit {0})
nothing = record {
  takes = λ bytes x rest fits e.
      let same : bytes ≡ rest = ap (λ (p : Unit {0} × List ℕ). p.1) (same_Some (tt, bytes) (x, rest) e) in
      (record { parts = same; rest_fits = subst (λ (l : List ℕ). IsBytes l) same fits }, tt);
  again = λ x rest good. refl;
}

-- so many bytes
cut_takes : (n : ℕ) (bytes x rest : List ℕ) → IsBytes bytes → cut_at n bytes ≡ Some (x, rest) → Takes bytes x rest × (length x ≡ n)
cut_takes n bytes x rest fits e =
    let c = cond_some (leb n (length bytes)) (take n bytes, drop n bytes) (x, rest) e in
    let long : n ≤ length bytes = leb-true _ _ c.0 in
    let len : length (take n bytes) ≡ n = omega (arith, length-take n bytes) in
    let whole : bytes ≡ take n bytes ++ drop n bytes = sym (take-append-drop n bytes) in
    let behind : IsBytes (drop n bytes) =
    IsBytes-behind (take n bytes) (drop n bytes) (subst (λ (l : List ℕ). IsBytes l) whole fits)
    in
    subst (λ (p : List ℕ × List ℕ). Takes bytes p.0 p.1 × (length p.0 ≡ n)) c.1
    (record { parts = whole; rest_fits = behind }, len)

cut_again : (n : ℕ) (x rest : List ℕ) → length x ≡ n → cut_at n (x ++ rest) ≡ Some (x, rest)
cut_again n x rest len =
    let long : leb n (length (x ++ rest)) ≡ true = le-leb _ _ (omega (arith, length-append x rest)) in
    rw (long, take_at x rest n len, drop_at x rest n len) refl

pub cut : (n : ℕ) → IsFormat (List ℕ) (cut_at n) (λ x. x) (λ x. length x ≡ n)
cut n = record { takes = cut_takes n; again = cut_again n }

-- one value behind another
both_takes : {A B : Type 0} {r : Reader A} {s : A → List ℕ} {g : A → Type 0} {q : Reader B} {t : B → List ℕ} {h : B → Type 0} → IsFormat A r s g → IsFormat B q t h → (bytes : List ℕ) (p : A × B) (rest : List ℕ) → IsBytes bytes → both_at r q bytes ≡ Some (p, rest) → Takes bytes (s p.0 ++ t p.1) rest × (g p.0 × h p.1)
both_takes {A} {B} {r} {s} {g} {q} {t} {h} F G bytes p rest fits e =
    let a = then_some (r bytes) (λ x. option_then (q x.1) (λ y. Some ((x.0, y.0), y.1))) (p, rest) e in
    let b = then_some (q a.0.1) (λ y. Some ((a.0.0, y.0), y.1)) (p, rest) a.2 in
    let first = F.takes bytes a.0.0 a.0.1 fits a.1 in
    let second = G.takes a.0.1 b.0.0 b.0.1 first.0.rest_fits b.1 in
    let made : (A × B) × List ℕ = ((a.0.0, b.0.0), b.0.1) in
    subst (λ (w : (A × B) × List ℕ). Takes bytes (s w.0.0 ++ t w.0.1) w.1 × (g w.0.0 × h w.0.1))
    (same_Some made (p, rest) b.2)
    (Takes-then bytes (s a.0.0) a.0.1 (t b.0.0) b.0.1 first.0 second.0, (first.1, second.1))

both_again : {A B : Type 0} {r : Reader A} {s : A → List ℕ} {g : A → Type 0} {q : Reader B} {t : B → List ℕ} {h : B → Type 0} → IsFormat A r s g → IsFormat B q t h → (p : A × B) (rest : List ℕ) → (g p.0 × h p.1) → both_at r q ((s p.0 ++ t p.1) ++ rest) ≡ Some (p, rest)
both_again {A} {B} {r} {s} {g} {q} {t} {h} F G p rest good =
    ap (both_at r q) (append_assoc (s p.0) (t p.1) rest)
    ∙ ap (λ o. option_then o (λ x. option_then (q x.1) (λ y. Some ((x.0, y.0), y.1))))
    (F.again p.0 (t p.1 ++ rest) good.0)
    ∙ ap (λ o. option_then o (λ y. Some ((p.0, y.0), y.1))) (G.again p.1 rest good.1)

pub both : {A B : Type 0} {r : Reader A} {s : A → List ℕ} {g : A → Type 0} {q : Reader B} {t : B → List ℕ} {h : B → Type 0} → IsFormat A r s g → IsFormat B q t h → IsFormat (A × B) (both_at r q) (λ p. s p.0 ++ t p.1) (λ p. g p.0 × h p.1)
both F G = record { takes = both_takes F G; again = both_again F G }

-- what is made of a value
made_takes : {A B : Type 0} {r : Reader A} {s : A → List ℕ} {g : A → Type 0} (h : B → Type 0) → IsFormat A r s g → (into : A → B) (out : B → A) → ((x : A) → g x → out (into x) ≡ x) → ((x : A) → g x → h (into x)) → (bytes : List ℕ) (y : B) (rest : List ℕ) → IsBytes bytes → made_at into r bytes ≡ Some (y, rest) → Takes bytes (s (out y)) rest × h y
made_takes {A} {B} {r} {s} {g} h F into out left fit bytes y rest fits e =
    let a = then_some (r bytes) (λ x. Some (into x.0, x.1)) (y, rest) e in
    let t = F.takes bytes a.0.0 a.0.1 fits a.1 in
    let back : Takes bytes (s (out (into a.0.0))) a.0.1 =
    subst (λ (z : A). Takes bytes (s z) a.0.1) (sym (left a.0.0 t.1)) t.0
    in
    subst (λ (w : B × List ℕ). Takes bytes (s (out w.0)) w.1 × h w.0)
    (same_Some (into a.0.0, a.0.1) (y, rest) a.2)
    (back, fit a.0.0 t.1)

pub into_again : {A B : Type 0} {r : Reader A} {s : A → List ℕ} {g : A → Type 0} → IsFormat A r s g → (into : A → B) (x : A) (rest : List ℕ) → g x → made_at into r (s x ++ rest) ≡ Some (into x, rest)
into_again F into x rest good = ap (λ o. option_then o (λ x. Some (into x.0, x.1))) (F.again x rest good)

pub made : {A B : Type 0} {r : Reader A} {s : A → List ℕ} {g : A → Type 0} {h : B → Type 0} → IsFormat A r s g → (into : A → B) (out : B → A) → ((x : A) → g x → out (into x) ≡ x) → ((x : A) → g x → h (into x)) → ((y : B) → h y → into (out y) ≡ y) → ((y : B) → h y → g (out y)) → IsFormat B (made_at into r) (λ y. s (out y)) h
made {A} {B} {r} {s} {g} {h} F into out left fit right fit_out = record {
  takes = made_takes h F into out left fit;
  again = λ y rest good.
      into_again F into (out y) rest (fit_out y good)
      ∙ ap (λ (z : B). Some (z, rest)) (right y good);
}

-- a value that passes a test
checked_takes : {A : Type 0} {r : Reader A} {s : A → List ℕ} {g : A → Type 0} → IsFormat A r s g → (passes : A → Bool) (bytes : List ℕ) (y : A) (rest : List ℕ) → IsBytes bytes → checked_at passes r bytes ≡ Some (y, rest) → Takes bytes (s y) rest × (g y × (passes y ≡ true))
checked_takes {A} {r} {s} {g} F passes bytes y rest fits e =
    let a = then_some (r bytes) (λ x. cond (passes x.0) (Some x) None) (y, rest) e in
    let t = F.takes bytes a.0.0 a.0.1 fits a.1 in
    let c = cond_some (passes a.0.0) a.0 (y, rest) a.2 in
    subst (λ (w : A × List ℕ). Takes bytes (s w.0) w.1 × (g w.0 × (passes w.0 ≡ true))) c.1
    (t.0, (t.1, c.0))

pub checked : {A : Type 0} {r : Reader A} {s : A → List ℕ} {g : A → Type 0} → IsFormat A r s g → (passes : A → Bool) → IsFormat A (checked_at passes r) s (λ y. g y × (passes y ≡ true))
checked {A} F passes = record {
  takes = checked_takes F passes;
  again = λ y rest good.
      ap (λ o. option_then o (λ x. cond (passes x.0) (Some x) None)) (F.again y rest good.0)
      ∙ ap (λ (b : Bool). cond b (Some (y, rest)) None) good.1;
}

-- the same format, of which other words say what is good
pub good_as : {A : Type 0} {r : Reader A} {s : A → List ℕ} {g : A → Type 0} → IsFormat A r s g → (h : A → Type 0) → ((x : A) → g x → h x) → ((x : A) → h x → g x) → IsFormat A r s h
good_as F h there back = record {
  takes = λ bytes x rest fits e.
      let t = F.takes bytes x rest fits e in (t.0, there x t.1);
  again = λ x rest good. F.again x rest (back x good);
}

-- the same format in another spelling
pub spelled_as : {A : Type 0} {r : Reader A} {s : A → List ℕ} {g : A → Type 0} → IsFormat A r s g → (t : A → List ℕ) → ((x : A) → s x ≡ t x) → IsFormat A r t g
spelled_as {A} {r} F t same = record {
  takes = λ bytes x rest fits e.
      let f = F.takes bytes x rest fits e in
      (subst (λ (l : List ℕ). Takes bytes l rest) (same x) f.0, f.1);
  again = λ x rest good.
      ap (λ (l : List ℕ). r (l ++ rest)) (sym (same x)) ∙ F.again x rest good;
}

-- so many values
pub items_take : {A : Type 0} {r : Reader A} {s : A → List ℕ} {g : A → Type 0} → IsFormat A r s g → (n : ℕ) (bytes : List ℕ) (xs : List A) (rest : List ℕ) → IsBytes bytes → items_at r n bytes ≡ Some (xs, rest) → Takes bytes (flat_map s xs) rest × (length xs ≡ n) × AllByRecursion g xs
items_take {A} {r} {s} {g} F zero bytes xs rest fits e =
    subst (λ (w : List A × List ℕ). Takes bytes (flat_map s w.0) w.1 × (length w.0 ≡ 0) × AllByRecursion g w.0)
    (same_Some ([], bytes) (xs, rest) e)
    (record { parts = refl; rest_fits = fits }, refl, tt)
items_take {A} {r} {s} {g} F (suc n) bytes xs rest fits e =
    let a = then_some (r bytes) (λ x. option_then (items_at r n x.1) (λ ys. Some (x.0 ∷ ys.0, ys.1))) (xs, rest) e in
    let b = then_some (items_at r n a.0.1) (λ ys. Some (a.0.0 ∷ ys.0, ys.1)) (xs, rest) a.2 in
    let first = F.takes bytes a.0.0 a.0.1 fits a.1 in
    let second = items_take F n a.0.1 b.0.0 b.0.1 first.0.rest_fits b.1 in
    let whole = Takes-then bytes (s a.0.0) a.0.1 (flat_map s b.0.0) b.0.1 first.0 second.0 in
    let made : List A × List ℕ = (a.0.0 ∷ b.0.0, b.0.1) in
    subst (λ (w : List A × List ℕ). Takes bytes (flat_map s w.0) w.1 × (length w.0 ≡ suc n) × AllByRecursion g w.0)
    (same_Some made (xs, rest) b.2)
    (whole, ap suc second.1, (first.1, second.2))

pub items_again : {A : Type 0} {r : Reader A} {s : A → List ℕ} {g : A → Type 0} → IsFormat A r s g → (xs : List A) (rest : List ℕ) → AllByRecursion g xs → items_at r (length xs) (flat_map s xs ++ rest) ≡ Some (xs, rest)
items_again F [] rest good = refl
items_again {A} {r} {s} F (x ∷ xs) rest good =
    ap (items_at r (suc (length xs))) (append_assoc (s x) (flat_map s xs) rest)
    ∙ ap (λ o. option_then o (λ y. option_then (items_at r (length xs) y.1) (λ ys. Some (y.0 ∷ ys.0, ys.1))))
    (F.again x (flat_map s xs ++ rest) good.0)
    ∙ ap (λ o. option_then o (λ ys. Some (x ∷ ys.0, ys.1))) (items_again F xs rest good.1)

-- what stands behind a byte, by the byte
pub record IsKinds (A : Type 0) (kinds : Kinds A) (kind : A → ℕ) (fields : A → List ℕ) (good : A → Type 0) : Type 0 where
  pub takes :
      (k : ℕ) (bytes : List ℕ) (x : A) (rest : List ℕ) → IsBytes bytes → kinds k bytes ≡ Some (x, rest)
      → (kind x ≡ k) × (Takes bytes (fields x) rest × good x)

pub no_kinds : {A : Type 0} {kind : A → ℕ} {fields : A → List ℕ} {good : A → Type 0} → IsKinds A no_kind kind fields good
no_kinds = record { takes = λ k bytes x rest fits e. absurd cc }

pub chosen : {A : Type 0} (b : Bool) (x y z : A) → cond b x y ≡ z → ((b ≡ true) × (x ≡ z)) ⊎ ((b ≡ false) × (y ≡ z))
chosen true x y z e = inl (refl, e)
chosen false x y z e = inr (refl, e)

kind_takes : {A F : Type 0} {others : Kinds A} {kind : A → ℕ} {fields : A → List ℕ} {good : A → Type 0} {r : Reader F} {s : F → List ℕ} {g : F → Type 0} → (n : ℕ) (into : F → A) → IsFormat F r s g → ((f : F) → kind (into f) ≡ n) → ((f : F) → fields (into f) ≡ s f) → ((f : F) → g f → good (into f)) → IsKinds A others kind fields good → (k : ℕ) (bytes : List ℕ) (x : A) (rest : List ℕ) → IsBytes bytes → kind_at n (made_at into r) others k bytes ≡ Some (x, rest) → (kind x ≡ k) × (Takes bytes (fields x) rest × good x)
kind_takes {A} {F} {others} {kind} {fields} {good} {r} {s} {g} n into format kind_is fields_are good_is K k bytes x rest fits e =
    elim (chosen (eqb k n) (made_at into r bytes) (others k bytes) (Some (x, rest)) e) [
      | inl p ↦
          let a = then_some (r bytes) (λ f. Some (into f.0, f.1)) (x, rest) p.1 in
          let t = format.takes bytes a.0.0 a.0.1 fits a.1 in
          let took : Takes bytes (fields (into a.0.0)) a.0.1 =
          subst (λ (l : List ℕ). Takes bytes l a.0.1) (sym (fields_are a.0.0)) t.0
          in
          let number : kind (into a.0.0) ≡ k = kind_is a.0.0 ∙ sym (eqb-true _ _ p.0) in
          subst (λ (w : A × List ℕ). (kind w.0 ≡ k) × (Takes bytes (fields w.0) w.1 × good w.0))
          (same_Some (into a.0.0, a.0.1) (x, rest) a.2)
          (number, (took, good_is a.0.0 t.1))
      | inr p ↦ K.takes k bytes x rest fits p.1
    ]

pub with_kind : {A F : Type 0} {others : Kinds A} {kind : A → ℕ} {fields : A → List ℕ} {good : A → Type 0} {r : Reader F} {s : F → List ℕ} {g : F → Type 0} → (n : ℕ) (into : F → A) → IsFormat F r s g → ((f : F) → kind (into f) ≡ n) → ((f : F) → fields (into f) ≡ s f) → ((f : F) → g f → good (into f)) → IsKinds A others kind fields good → IsKinds A (kind_at n (made_at into r) others) kind fields good
with_kind n into format kind_is fields_are good_is K =
    record { takes = kind_takes n into format kind_is fields_are good_is K }

IsBytes-rest : (b : ℕ) (bytes : List ℕ) → IsBytes (b ∷ bytes) → IsBytes bytes
IsBytes-rest b bytes h i = h (suc i)

kinds_take : {A : Type 0} {kinds : Kinds A} {kind : A → ℕ} {fields : A → List ℕ} {good : A → Type 0} → IsKinds A kinds kind fields good → (bytes : List ℕ) (x : A) (rest : List ℕ) → IsBytes bytes → kinds_at kinds bytes ≡ Some (x, rest) → Takes bytes (kind x ∷ fields x) rest × good x
kinds_take K [] x rest fits e = absurd cc
kinds_take {A} {kinds} {kind} {fields} K (b ∷ bytes) x rest fits e =
    let t = K.takes b bytes x rest (IsBytes-rest b bytes fits) e in (
      record {
        parts = ap (λ (l : List ℕ). b ∷ l) t.1.0.parts ∙ ap (λ (k : ℕ). k ∷ (fields x ++ rest)) (sym t.0);
        rest_fits = t.1.0.rest_fits;
      },
      t.1.1,
    )

pub kinds_format : {A : Type 0} {kinds : Kinds A} {kind : A → ℕ} {fields : A → List ℕ} {good : A → Type 0} → IsKinds A kinds kind fields good → ((x : A) (rest : List ℕ) → good x → kinds (kind x) (fields x ++ rest) ≡ Some (x, rest)) → IsFormat A (kinds_at kinds) (λ x. kind x ∷ fields x) good
kinds_format K reads = record { takes = kinds_take K; again = reads }
