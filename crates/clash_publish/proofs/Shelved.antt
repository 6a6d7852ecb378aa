-- A shelf as a finite map.
use Rattle.std.proofs.Common.{◌≡◌, ℕ, zero, suc, ◌<◌, Bool, true, false, cond, eqb, ◌&&◌, List, [], ◌∷◌, ◌++◌, length, get_or, set, filter, Option, Some, None, refl, sym, ap, subst, arith, ◌∙◌}
use Rattle.std.specs.List.{find}
use Rattle.std.specs.Option.{option_map}
use Rattle.std.proofs.lemmas.Bool.{and_parts, eqb-true}
use Rattle.bim_model.specs.Snapshots.{Version}
use Rattle.clash_publish.specs.declared.entry.Entry.{Entry}
use Rattle.clash_publish.specs.Shelves.{is_of, set_of, is_live}

module _ {X : Type 0} (t : X → Bool) where
  chosen : (x : X) (b : Bool) (y : Option X) → t x ≡ b → cond (t x) (Some x) y ≡ cond b (Some x) y
  chosen x b y e = ap (λ c. cond c (Some x) y) e

  -- the first that passes
  pub find_here : (xs : List X) (i : ℕ) (x : X) → i < length xs → x ≡ get_or xs i x → t x ≡ true → ((k : ℕ) (d : X) → k < i → t (get_or xs k d) ≡ false) → find t xs ≡ Some x
  find_here [] i x h is passes before = absurd (omega arith)
  find_here (y ∷ ys) zero x h is passes before = ap (λ z. cond (t z) (Some z) (find t ys)) (sym is) ∙ chosen x true (find t ys) passes
  find_here (y ∷ ys) (suc i) x h is passes before = chosen y false (find t ys) (before zero y (omega arith)) ∙ find_here ys i x (omega arith) is passes (λ k d lt. before (suc k) d (omega arith))

  -- .. where neither does
  pub find_none : (xs : List X) → ((k : ℕ) (d : X) → k < length xs → t (get_or xs k d) ≡ false) → find t xs ≡ None
  find_none [] fails = refl
  find_none (y ∷ ys) fails = chosen y false (find t ys) (fails zero y (omega arith)) ∙ find_none ys (λ k d lt. fails (suc k) d (omega arith))

  -- an element that passes is put in place of the first that does
  pub find_set : (xs : List X) (i : ℕ) (y : X) → i < length xs → t y ≡ true → ((k : ℕ) (d : X) → k < i → t (get_or xs k d) ≡ false) → find t (set xs i y) ≡ Some y
  find_set [] i y h passes before = absurd (omega arith)
  find_set (x ∷ xs) zero y h passes before = chosen y true (find t xs) passes
  find_set (x ∷ xs) (suc i) y h passes before = chosen x false (find t (set xs i y)) (before zero x (omega arith)) ∙ find_set xs i y (omega arith) passes (λ k d lt. before (suc k) d (omega arith))

  -- one that doesn't in place of one that doesn't
  pub find_past : (xs : List X) (i : ℕ) (x y : X) → i < length xs → x ≡ get_or xs i x → t x ≡ false → t y ≡ false → find t (set xs i y) ≡ find t xs
  find_past [] i x y h is fails none = absurd (omega arith)
  find_past (z ∷ zs) zero x y h is fails none = chosen y false (find t zs) none ∙ sym (ap (λ u. cond (t u) (Some u) (find t zs)) (sym is) ∙ chosen x false (find t zs) fails)
  find_past (z ∷ zs) (suc i) x y h is fails none = ap (λ o. cond (t z) (Some z) o) (find_past zs i x y (omega arith) is fails none)

  -- at the end
  behind : (y : X) (b : Bool) (o : Option X) → t y ≡ b → o ≡ None → cond (t y) (Some y) None ≡ cond b (Some y) o
  behind y true o e f = chosen y true None e
  behind y false o e f = chosen y false None e ∙ sym f

  taken : (x y : X) (b : Bool) → (b ≡ true → Some x ≡ None) → Some x ≡ cond b (Some y) (Some x)
  taken x y true g = let wrong : Some x ≡ None = g refl in cc
  taken x y false g = refl

  end_step : (x y : X) (b c : Bool) (o p : Option X) → t x ≡ c → (b ≡ true → cond (t x) (Some x) o ≡ None) → ((b ≡ true → o ≡ None) → p ≡ cond b (Some y) o)
      → cond (t x) (Some x) p ≡ cond b (Some y) (cond (t x) (Some x) o)
  end_step x y b true o p q h ih =
      chosen x true p q ∙ taken x y b (λ passes. sym (chosen x true o q) ∙ h passes) ∙ ap (cond b (Some y)) (sym (chosen x true o q))
  end_step x y b false o p q h ih =
      chosen x false p q ∙ ih (λ passes. sym (chosen x false o q) ∙ h passes) ∙ ap (cond b (Some y)) (sym (chosen x false o q))

  pub find_end : (xs : List X) (y : X) (b : Bool) → t y ≡ b → (b ≡ true → find t xs ≡ None) → find t (xs ++ y ∷ []) ≡ cond b (Some y) (find t xs)
  find_end [] y b e h = behind y b None e refl
  find_end (x ∷ xs) y b e h = end_step x y b (t x) (find t xs) (find t (xs ++ y ∷ [])) refl h (λ g. find_end xs y b e g)

  module _ (live : X → Bool) (b : Bool) (agree : (x : X) → t x ≡ true → live x ≡ b) where
    neither : (c : Bool) → find t [] ≡ cond c (find t []) None
    neither true = refl
    neither false = refl

    step : (l s : Bool) (x : X) (xs ys : List X) → live x ≡ l → t x ≡ s → find t ys ≡ cond b (find t xs) None → find t (cond (live x) (x ∷ ys) ys) ≡ cond b (cond (t x) (Some x) (find t xs)) None
    step true true x xs ys p q ih =
        ap (λ c. find t (cond c (x ∷ ys) ys)) p ∙ chosen x true (find t ys) q
        ∙ ap (λ c. cond c (Some x) None) (sym p ∙ agree x q) ∙ ap (λ o. cond b o None) (sym (chosen x true (find t xs) q))
    step true false x xs ys p q ih =
        ap (λ c. find t (cond c (x ∷ ys) ys)) p ∙ chosen x false (find t ys) q ∙ ih ∙ ap (λ o. cond b o None) (sym (chosen x false (find t xs) q))
    step false true x xs ys p q ih =
        let off : b ≡ false = sym (agree x q) ∙ p in
        ap (λ c. find t (cond c (x ∷ ys) ys)) p ∙ ih ∙ ap (λ c. cond c (find t xs) None) off ∙ ap (λ c. cond c (cond (t x) (Some x) (find t xs)) None) (sym off)
    step false false x xs ys p q ih =
        ap (λ c. find t (cond c (x ∷ ys) ys)) p ∙ ih ∙ ap (λ o. cond b o None) (sym (chosen x false (find t xs) q))

    -- a filter that keeps what passes, or drops it
    pub find_filter : (xs : List X) → find t (filter live xs) ≡ cond b (find t xs) None
    find_filter [] = neither b
    find_filter (x ∷ xs) = step (live x) (t x) x xs (filter live xs) refl refl (find_filter xs)

set_chosen : (b : Bool) (y : Entry) (o : Option Entry) → option_map (λ (e : Entry). e.set) (cond b (Some y) o) ≡ cond b (Some y.set) (option_map (λ (e : Entry). e.set) o)
set_chosen true y o = refl
set_chosen false y o = refl

set_dropped : (b : Bool) (o : Option Entry) → option_map (λ (e : Entry). e.set) (cond b o None) ≡ cond b (option_map (λ (e : Entry). e.set) o) None
set_dropped true o = refl
set_dropped false o = refl

-- the entry of that very version is of a version exactly where the two are the same
same_key : (e : Entry) (project version : ℕ) → is_of project version e ≡ true → (p v : ℕ) → is_of p v e ≡ (eqb project p && eqb version v)
same_key e project version h p v =
    let both = and_parts (eqb e.project project) (eqb e.version version) h in
    let first = eqb-true e.project project both.0 in
    let second = eqb-true e.version version both.1 in
    ap (λ n. eqb n p && eqb e.version v) first ∙ ap (λ n. eqb project p && eqb n v) second

asked : (project version p v : ℕ) → (eqb project p && eqb version v) ≡ true → (project ≡ p) × (version ≡ v)
asked project version p v h =
    let both = and_parts (eqb project p) (eqb version v) h in
    (eqb-true project p both.0, eqb-true version v both.1)

-- a set is put in place of the one of its version
pub put_over : (entries new : List Entry) (i project version : ℕ) (set_now : Version) (old made : Entry) → i < length entries → old ≡ get_or entries i old → is_of project version old ≡ true
    → ((k : ℕ) (d : Entry) → k < i → is_of project version (get_or entries k d) ≡ false) → made ≡ record old { set = set_now } → new ≡ set entries i made
    → (p v : ℕ) → set_of new p v ≡ cond (eqb project p && eqb version v) (Some set_now) (set_of entries p v)
put_over entries new i project version set_now old made h is hit before e f p v = by (eqb project p && eqb version v) refl
  where
    same : is_of p v made ≡ (eqb project p && eqb version v)
    same = ap (is_of p v) e ∙ same_key old project version hit p v

    by : (b : Bool) → (eqb project p && eqb version v) ≡ b → set_of new p v ≡ cond (eqb project p && eqb version v) (Some set_now) (set_of entries p v)
    by true q =
        let keys = asked project version p v q in
        let here = find_set (is_of p v) entries i made h (same ∙ q)
        (λ k d lt. subst (λ n. is_of n v (get_or entries k d) ≡ false) keys.0 (subst (λ n. is_of project n (get_or entries k d) ≡ false) keys.1 (before k d lt))) in
        ap (λ l. set_of l p v) f ∙ ap (option_map (λ (e : Entry). e.set)) here ∙ ap (λ (x : Entry). Some x.set) e ∙ ap (λ c. cond c (Some set_now) (set_of entries p v)) (sym q)
    by false q =
        let past = find_past (is_of p v) entries i old made h is (same_key old project version hit p v ∙ q) (same ∙ q) in
        ap (λ l. set_of l p v) f ∙ ap (option_map (λ (e : Entry). e.set)) past ∙ ap (λ c. cond c (Some set_now) (set_of entries p v)) (sym q)

-- a set is put after the others, where none is of its version
pub put_behind : (entries new : List Entry) (project version : ℕ) (set_now : Version) → ((k : ℕ) (d : Entry) → k < length entries → is_of project version (get_or entries k d) ≡ false)
    → new ≡ entries ++ record { project = project; version = version; set = set_now } ∷ []
    → (p v : ℕ) → set_of new p v ≡ cond (eqb project p && eqb version v) (Some set_now) (set_of entries p v)
put_behind entries new project version set_now none f p v =
    let made : Entry = record { project = project; version = version; set = set_now } in
    let b = eqb project p && eqb version v in
    ap (λ l. set_of l p v) f
    ∙ ap (option_map (λ (e : Entry). e.set))
    (find_end (is_of p v) entries made (eqb project p && eqb version v) refl
    (λ q. let keys = asked project version p v q in
    find_none (is_of p v) entries (λ k d lt. subst (λ n. is_of n v (get_or entries k d) ≡ false) keys.0 (subst (λ n. is_of project n (get_or entries k d) ≡ false) keys.1 (none k d lt)))))
    ∙ set_chosen (eqb project p && eqb version v) made (find (is_of p v) entries)

-- exactly what isn't live is dropped
pub kept_live : (entries new : List Entry) (newest : List ℕ) → new ≡ filter (λ (e : Entry). is_live newest e.project e.version) entries
    → (p v : ℕ) → set_of new p v ≡ cond (is_live newest p v) (set_of entries p v) None
kept_live entries new newest f p v =
    ap (λ l. set_of l p v) f
    ∙ ap (option_map (λ (e : Entry). e.set))
    (find_filter (is_of p v) (λ (e : Entry). is_live newest e.project e.version) (is_live newest p v)
    (λ x h.
    let both = and_parts (eqb x.project p) (eqb x.version v) h in
    ap (λ n. is_live newest n x.version) (eqb-true x.project p both.0) ∙ ap (λ n. is_live newest p n) (eqb-true x.version v both.1))
    entries)
    ∙ set_dropped (is_live newest p v) (find (is_of p v) entries)
