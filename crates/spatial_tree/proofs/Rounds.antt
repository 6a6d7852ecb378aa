-- Ways up, and loops on them.
use Rattle.std.proofs.Common.{◌≡◌, ℕ, zero, suc, ◌+◌, ◌<◌, ◌⊎◌, inl, inr, Some, List, length, get_or, Contains, refl, sym, ap, ◌∙◌, subst, arith}
use Rattle.std.proofs.lemmas.List.{get_or_default}
use Rattle.std.proofs.lemmas.Option.{same_Some}
use Rattle.spatial_tree.specs.declared.step.Step.{Step}
use Rattle.spatial_tree.specs.Climbing.{IsAbove, next, further}
use Rattle.spatial_tree.specs.inner.UpwardSteps.{Goes, IsRound}
use Rattle.spatial_tree.specs.inner.StoreyMarks.{IsWay}

pub decide : (a b : ℕ) → (a ≡ b) ⊎ (a ≡ b → ⊥)
decide a b = elim (order a b) [
  | inl l ↦ inr (λ e. omega arith)
  | inr r ↦ elim r [ inl e ↦ inl e | inr g ↦ inr (λ e. omega arith) ]
]
  where
    order : (a b : ℕ) → (a < b) ⊎ ((a ≡ b) ⊎ (b < a))
    order a b = grind arith

pub above_trans : (N : ℕ → ℕ → Type 0) (a b c : ℕ) → IsAbove N a b → IsAbove N b c → IsAbove N a c
above_trans N _ _ c (next a b s) q = further a b c s q
above_trans N _ _ c (further a m b s p) q = further a m c s (above_trans N m b c p q)

pub record FirstStep (N : ℕ → ℕ → Type 0) (a b : ℕ) : Type 0 where
  pub to : ℕ
  pub step : N a to
  pub rest : (to ≡ b) ⊎ IsAbove N to b

pub first_step : (N : ℕ → ℕ → Type 0) (a b : ℕ) → IsAbove N a b → FirstStep N a b
first_step N _ _ (next a b s) = record { to = b; step = s; rest = inl refl }
first_step N _ _ (further a m b s p) = record { to = m; step = s; rest = inr p }

-- where no place has two next ones, what a place of a loop leads to is on it
pub rotated : (N : ℕ → ℕ → Type 0) → ((a b c : ℕ) → N a b → N a c → b ≡ c) → (a b : ℕ) → N a b → IsAbove N a a → IsAbove N b b
rotated N one a b s r =
    let f = first_step N a a r in
    let e = one a f.to b f.step s in
    elim f.rest [
      | inl t ↦ subst (λ n. IsAbove N n n) (sym t ∙ e) r
      | inr p ↦ subst (λ n. IsAbove N n n) e (above_trans N f.to a f.to p (next a f.to f.step))
    ]

pub back_to : (N : ℕ → ℕ → Type 0) → ((a b c : ℕ) → N a b → N a c → b ≡ c) → (a b : ℕ) → N a b → IsAbove N a a → (b ≡ a) ⊎ IsAbove N b a
back_to N one a b s r =
    let f = first_step N a a r in
    let e = one a f.to b f.step s in
    elim f.rest [
      | inl t ↦ inl (sym e ∙ t)
      | inr p ↦ inr (subst (λ n. IsAbove N n a) e p)
    ]

pub kept_above : (N : ℕ → ℕ → Type 0) (C : ℕ → Type 0) → ((a b : ℕ) → C a → N a b → C b) → (a b : ℕ) → C a → IsAbove N a b → C b
kept_above N C closed _ _ h (next a b s) = closed a b h s
kept_above N C closed _ _ h (further a m b s p) = kept_above N C closed m b (closed a m h s) p

-- a step has one end
pub one_up : (steps : List Step) (a b c : ℕ) → Goes steps a b → Goes steps a c → b ≡ c
one_up steps a b c p q = same_Some b c (sym p ∙ q)

-- a later place of a way is above an earlier one
pub along : (steps : List Step) (way : List ℕ) → IsWay steps way → (k j n : ℕ) → j ≡ k + suc n → j < length way → IsAbove (Goes steps) (get_or way k 0) (get_or way j 0)
along steps way w k j zero e l =
    let f : j ≡ k + 1 = omega arith in
    next (get_or way k 0) (get_or way j 0) (subst (λ n. Goes steps (get_or way k 0) (get_or way n 0)) (sym f) (w.chain k (omega arith)))
along steps way w k j (suc n) e l =
    let f : j ≡ (k + suc n) + 1 = omega arith in
    above_trans (Goes steps) (get_or way k 0) (get_or way (k + suc n) 0) (get_or way j 0)
    (along steps way w k (k + suc n) n refl (omega arith))
    (next (get_or way (k + suc n) 0) (get_or way j 0) (subst (λ m. Goes steps (get_or way (k + suc n) 0) (get_or way m 0)) (sym f) (w.chain (k + suc n) (omega arith))))

-- where the end of a way leads to a place of it, that place is on a loop
pub comes_round : (steps : List Step) (way : List ℕ) → IsWay steps way → (top up : ℕ) → top + 1 ≡ length way → Goes steps (get_or way top 0) up → Contains way up → IsRound steps up
comes_round steps way w top up e g c =
    let is : get_or way c.0 0 ≡ up = get_or_default way c.0 0 up c.1 ∙ c.2 in
    elim (place c.0 top (length way) c.1 e) [
      | inl s ↦ next up up (subst (λ n. Goes steps n up) (ap (λ k. get_or way k 0) (sym s) ∙ is) g)
      | inr d ↦ subst (λ n. IsAbove (Goes steps) n up) is
          (above_trans (Goes steps) (get_or way c.0 0) (get_or way top 0) up (along steps way w c.0 top d.0 d.1 (omega arith)) (next (get_or way top 0) up g))
    ]
  where
    between : (k top : ℕ) → k < top → (n : ℕ) × (top ≡ k + suc n)
    between zero (suc t) l = (t, omega arith)
    between zero zero l = absurd (omega arith)
    between (suc k) zero l = absurd (omega arith)
    between (suc k) (suc t) l = (let r = between k t (omega arith) in (r.0, (let q = r.1 in omega arith)))

    below : (k top n : ℕ) → k < n → top + 1 ≡ n → (k ≡ top → ⊥) → k < top
    below k top n l e d = grind arith

    place : (k top n : ℕ) → k < n → top + 1 ≡ n → (k ≡ top) ⊎ ((m : ℕ) × (top ≡ k + suc m))
    place k top n l e = elim (decide k top) [ inl s ↦ inl s | inr d ↦ inr (between k top (below k top n l e d)) ]
