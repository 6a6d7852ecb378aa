-- Cleaned texts.
use Rattle.std.proofs.Common.{◌≡◌, ℕ, suc, ◌+◌, ◌-◌, ◌<◌, ◌≤◌, ◌==◌, ◌&&◌, List, [], ◌∷◌, length, get_or, drop, refl, sym, ap, ◌∙◌, add-one, arith, append_assoc, drop-cons, inl, inr}
use Rattle.std.proofs.lemmas.Bool.{le-leb, lt-leb, eqb-true, cases_Bool, and_parts}
use Rattle.std.proofs.lemmas.List.{append-nil, length-drop, get_or-drop, drop_all}
use Rattle.bim_text.specs.TextSpellings.{unpaired, cleaned}

pub cleaned_nil : cleaned [] ≡ []
unfolding cleaned
cleaned_nil = refl

-- two apostrophes
pub cleaned_pair : (bs : List ℕ) → cleaned (39 ∷ 39 ∷ bs) ≡ 39 ∷ cleaned bs
unfolding cleaned
cleaned_pair bs = refl

single_unpaired : (b : ℕ) (bs : List ℕ) → ((b ≡ 39) → (0 < length bs) → (get_or bs 0 0 ≡ 39) → ⊥) → unpaired (b ∷ bs) ≡ b ∷ unpaired bs
single_unpaired b [] h = refl
single_unpaired b (c ∷ bs) h = elim (cases_Bool (b == 39 && c == 39)) [
  | inl t ↦ absurd (h (eqb-true b 39 (and_parts (b == 39) (c == 39) t).0) (omega arith) (eqb-true c 39 (and_parts (b == 39) (c == 39) t).1))
  | inr t ↦ rw t refl
]

pub cleaned_kept : (b : ℕ) (bs : List ℕ) → ((b ≡ 39) → (0 < length bs) → (get_or bs 0 0 ≡ 39) → ⊥) → 32 ≤ b → cleaned (b ∷ bs) ≡ b ∷ cleaned bs
unfolding cleaned
cleaned_kept b bs h le = let t = le-leb 32 b le in rw (single_unpaired b bs h, t) refl

pub cleaned_dropped : (b : ℕ) (bs : List ℕ) → b < 32 → cleaned (b ∷ bs) ≡ cleaned bs
unfolding cleaned
cleaned_dropped b bs lt = let t = lt-leb 32 b lt in rw (single_unpaired b bs (λ e _ _. absurd (omega (arith, e, lt))), t) refl

-- at a place

pub clean_pair : (bs : List ℕ) (i : ℕ) → i + 1 < length bs → get_or bs i 0 ≡ 39 → get_or bs (i + 1) 0 ≡ 39 → cleaned (drop i bs) ≡ 39 ∷ cleaned (drop (i + 2) bs)
clean_pair bs i lt h k =
    let one : i < length bs = omega arith in
    let two : suc i < length bs = omega arith in
    let e1 : i + 1 ≡ suc i = add-one i in
    let e2 : i + 2 ≡ suc (suc i) = omega arith in
    let k2 : get_or bs (suc i) 0 ≡ 39 = rw e1 at k in
    rw (drop-cons bs i 0, e2, drop-cons bs (suc i) 0, h, k2) (cleaned_pair (drop (suc (suc i)) bs))

next_is : (bs : List ℕ) (i : ℕ) → (i + 1 < length bs → get_or bs (i + 1) 0 ≡ 39 → ⊥) → 0 < length (drop (i + 1) bs) → get_or (drop (i + 1) bs) 0 0 ≡ 39 → ⊥
next_is bs i h some e =
    let z : i + 1 ≡ i + 1 + 0 = omega arith in
    h (omega (arith, length-drop (i + 1) bs, some)) (ap (λ (k : ℕ). get_or bs k 0) z ∙ sym (get_or-drop (i + 1) bs 0 0) ∙ e)

pub clean_kept : (bs : List ℕ) (i : ℕ) → i < length bs → (get_or bs i 0 ≡ 39 → i + 1 < length bs → get_or bs (i + 1) 0 ≡ 39 → ⊥) → 32 ≤ get_or bs i 0 → cleaned (drop i bs) ≡ get_or bs i 0 ∷ cleaned (drop (i + 1) bs)
clean_kept bs i lt h le =
    let step = cleaned_kept (get_or bs i 0) (drop (i + 1) bs) (λ e. next_is bs i (h e)) le in
    let e : drop i bs ≡ get_or bs i 0 ∷ drop (i + 1) bs = rw (add-one i, drop-cons bs i 0) refl in
    ap cleaned e ∙ step

pub clean_dropped : (bs : List ℕ) (i : ℕ) → i < length bs → get_or bs i 0 < 32 → cleaned (drop i bs) ≡ cleaned (drop (i + 1) bs)
clean_dropped bs i lt low =
    let e : drop i bs ≡ get_or bs i 0 ∷ drop (i + 1) bs = rw (add-one i, drop-cons bs i 0) refl in
    ap cleaned e ∙ cleaned_dropped (get_or bs i 0) (drop (i + 1) bs) low

pub clean_past : (bs : List ℕ) (i : ℕ) → length bs ≤ i → cleaned (drop i bs) ≡ []
clean_past bs i h = ap cleaned (drop_all i bs h) ∙ cleaned_nil

pub ruleset cleanings = (clean_pair, clean_kept, clean_dropped)

pub ruleset ends = (clean_past, append_assoc, append-nil)
