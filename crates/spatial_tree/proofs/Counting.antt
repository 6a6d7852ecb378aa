-- How many different numbers there are.
use Rattle.std.proofs.Common.{◌≡◌, ℕ, ◌+◌, ◌<◌, ◌≤◌, ◌==◌, ◌⊎◌, inl, inr, Bool, true, false, List, length, get_or, MatchOption, refl, sym, ap, ◌∙◌, arith}
use Rattle.std.proofs.lemmas.Bool.{eqb-true, eqb-false, cases_Bool}
use Rattle.std.proofs.lemmas.List.{get_or_default}
use Rattle.std.specs.List.Sorted.{IsNonDecreasingBy}
use Rattle.spatial_tree.specs.declared.relations.Link.{Link}
use Rattle.spatial_tree.specs.declared.only.Only.{Only}
use Rattle.spatial_tree.specs.declared.only.Only.TheVariants.{Nothing, One, Several}
use Rattle.spatial_tree.specs.Climbing.{HasTwo, IsNext}
use Rattle.spatial_tree.specs.inner.Onlys.{Has, link, Counts, with_number, is_several, next_in}
use Rattle.spatial_tree.proofs.Adding.{AnyBefore, before_more, before_kept, before_here}

-- the same numbers are counted alike
pub counts_same : (P Q : ℕ → Type 0) (o : Only) → ((n : ℕ) → P n → Q n) → ((n : ℕ) → Q n → P n) → Counts P o → Counts Q o
counts_same P Q Nothing f g c = λ n q. c n (g n q)
counts_same P Q (One m) f g c = record { has = f m c.has; only = λ n q. c.only n (g n q) }
counts_same P Q Several f g c = record { first = c.first; second = c.second; has_first = f c.first c.has_first; has_second = f c.second c.has_second; differ = c.differ }

-- with one number more
pub counts_with : (P Q : ℕ → Type 0) (o : Only) (m : ℕ) → ((n : ℕ) → Q n → P n ⊎ (n ≡ m)) → ((n : ℕ) → P n → Q n) → Q m → Counts P o → Counts Q (with_number o m)
counts_with P Q Nothing m f g q c = record { has = q; only = λ n h. elim (f n h) [ inl p ↦ absurd (c n p) | inr e ↦ e ] }
counts_with P Q (One k) m f g q c = elim (cases_Bool (k == m)) [
  | inl t ↦ (let s = eqb-true k m t in rw t (record { has = g k c.has; only = λ n h. elim (f n h) [ inl p ↦ c.only n p | inr e ↦ e ∙ sym s ] }))
  | inr t ↦ rw t (record { first = k; second = m; has_first = g k c.has; has_second = q; differ = λ e. eqb-false k m t e })
]
counts_with P Q Several m f g q c = record { first = c.first; second = c.second; has_first = g c.first c.has_first; has_second = g c.second c.has_second; differ = c.differ }

-- what stands above an object in the first pairs
abbrev pub HasBefore : List Link → ℕ → ℕ → ℕ → Type 0
HasBefore links at object above = AnyBefore (λ l. l ≡ link object above) links at

pub before_first : (links : List Link) (object first : ℕ) → ((k : ℕ) (d : Link) → k < first → (get_or links k d).object < object) → Counts (HasBefore links first object) Nothing
before_first links object first below n b =
    let lt = below b.place b.element b.before in
    let e : (get_or links b.place b.element).object ≡ object = ap (λ (l : Link). l.object) (b.is ∙ b.holds) in
    absurd (omega arith)

pub counts_more : (links : List Link) (object at : ℕ) (o : Only) (l : Link) → at < length links → l ≡ get_or links at l → l.object ≡ object → Counts (HasBefore links at object) o → Counts (HasBefore links (at + 1) object) (with_number o l.above)
counts_more links object at o l lt is same c =
    counts_with (HasBefore links at object) (HasBefore links (at + 1) object) o l.above
    (λ n q. elim (before_more (λ x. x ≡ link object n) links at l lt is q) [ inl b ↦ inl b | inr e ↦ inr (sym (ap (λ (x : Link). x.above) e)) ])
    (λ n b. before_kept (λ x. x ≡ link object n) links at b)
    (before_here (λ x. x ≡ link object l.above) links at l lt is (ap (λ n. link n l.above) same))
    c

pub counts_all : (links : List Link) (object at : ℕ) (o : Only) → ((k : ℕ) (d : Link) → at ≤ k → k < length links → (get_or links k d).object ≡ object → ⊥) → Counts (HasBefore links at object) o → Counts (Has links object) o
counts_all links object at o other c = counts_same (HasBefore links at object) (Has links object) o
    (λ n b. (b.place, b.within, found links object n b))
    (λ n h. before links object at other n h)
    c
  where
    found : (links : List Link) (object n : ℕ) (b : AnyBefore (λ l. l ≡ link object n) links at) → get_or links b.place (link object n) ≡ link object n
    found links object n b = get_or_default links b.place (link object n) b.element b.within ∙ b.is ∙ b.holds

    split : (k n : ℕ) → (k < n) ⊎ (n ≤ k)
    split k n = grind arith

    before : (links : List Link) (object at : ℕ) → ((k : ℕ) (d : Link) → at ≤ k → k < length links → (get_or links k d).object ≡ object → ⊥) → (n : ℕ) → Has links object n → HasBefore links at object n
    before links object at other n h = elim (split h.0 at) [
      | inl l ↦ record { place = h.0; element = link object n; before = l; within = h.1; is = h.2; holds = refl }
      | inr g ↦ absurd (other h.0 (link object n) g h.1 (ap (λ (l : Link). l.object) h.2))
    ]

-- in pairs that rise, where one has a higher object all later ones have
pub none_later : (links : List Link) (object at : ℕ) (e : Link) → IsNonDecreasingBy (λ (l : Link). l.object) links → at < length links → object ≤ (get_or links at e).object → ((get_or links at e).object ≡ object → ⊥)
    → (k : ℕ) (d : Link) → at ≤ k → k < length links → (get_or links k d).object ≡ object → ⊥
none_later links object at e up lt low n k d l m s =
    let u = up at k d l m in
    let v = ap (λ (x : Link). x.object) (get_or_default links at e d lt) in
    n (grind arith)

pub more_at : (links : List Link) (object at : ℕ) (o : Only) (d : Link) → at < length links → (get_or links at d).object ≡ object → Counts (HasBefore links at object) o → Counts (HasBefore links (at + 1) object) (with_number o (get_or links at d).above)
more_at links object at o d lt e c = counts_more links object at o (get_or links at d) lt (get_or_default links at d (get_or links at d) lt) e c

-- The next object.

pub next_counted : (C W : ℕ → ℕ → Type 0) (object : ℕ) (c w : Only) → Counts (C object) c → Counts (W object) w → MatchOption (next_in c w) ((above : ℕ) → IsNext C W object above → ⊥) (IsNext C W object)
next_counted C W object (One n) w a b = inl a
next_counted C W object Nothing (One n) a b = inr (a, b)
next_counted C W object Nothing Nothing a b = λ n h. elim h [ inl o ↦ a n o.has | inr p ↦ b n p.1.has ]
next_counted C W object Nothing Several a b = λ n h. elim h [ inl o ↦ a n o.has | inr p ↦ b.differ (p.1.only b.first b.has_first ∙ sym (p.1.only b.second b.has_second)) ]
next_counted C W object Several w a b = λ n h. elim h [ inl o ↦ a.differ (o.only a.first a.has_first ∙ sym (o.only a.second a.has_second)) | inr p ↦ p.0 a.first a.has_first ]

-- two different ones are counted so, and only they
pub several_two : (P : ℕ → Type 0) (o : Only) → Counts P o → is_several o ≡ true → HasTwo P
several_two P Nothing c e = absurd cc
several_two P (One n) c e = absurd cc
several_two P Several c e = c

pub two_several : (P : ℕ → Type 0) (o : Only) → Counts P o → HasTwo P → is_several o ≡ true
two_several P Nothing c h = absurd (c h.first h.has_first)
two_several P (One n) c h = absurd (h.differ (c.only h.first h.has_first ∙ sym (c.only h.second h.has_second)))
two_several P Several c h = refl

-- an object has one next
pub next_once : (C W : ℕ → ℕ → Type 0) (object a b : ℕ) → IsNext C W object a → IsNext C W object b → a ≡ b
next_once C W object a b p q = elim p [
  | inl x ↦ elim q [ inl y ↦ y.only a x.has | inr y ↦ absurd (y.0 a x.has) ]
  | inr x ↦ elim q [ inl y ↦ absurd (x.0 b y.has) | inr y ↦ y.1.only a x.1.has ]
]
