-- Blanks and comments are passed over up to where neither begins.
use Rattle.std.proofs.Common.{◌≡◌, ℕ, ◌+◌, ◌≤◌, ◌==◌, ◌&&◌, ◌⊎◌, inl, inr, List, [], ◌∷◌, ◌++◌, length, drop, Bool, true, false, refl, sym, ap, subst, ◌∙◌, add-one, arith, Option, Some, None, option_map, append_assoc}
use Rattle.std.proofs.lemmas.Bool.{eqb-true, cases_Bool, and_parts}
use Rattle.std.proofs.lemmas.List.{drop-drop}
use Rattle.p21_lexer.proofs.RunLemmas.{opens_past}
use Rattle.p21_lexer.specs.inner.TokenSpans.{comment_span, opens as opens_of}
use Rattle.p21_lexer.specs.Spelling.{run}
use Rattle.p21_lexer.specs.TokenSeparators.{is_blank, IsBlank, IsComment, IsPiece, Passes, IsStop, has_close}

-- bs begins with blanks and whole comments, and then the rest
pub record Gap (bs rest : List ℕ) : Type 0 where
  pub pieces : List (List ℕ)
  pub passed : Passes pieces bs rest

pub no_gap : (bs : List ℕ) → Gap bs bs
no_gap bs = record { pieces = []; passed = refl }

passes_append : (ps qs : List (List ℕ)) (a b c : List ℕ) → Passes ps a b → Passes qs b c → Passes (ps ++ qs) a c
passes_append [] qs a b c h k = let P : List ℕ → Type 0 = λ x. Passes qs x c in subst P (sym h) k
passes_append (p ∷ ps) qs a b c h k = (h.0, h.1, h.2, passes_append ps qs h.0 b c h.3 k)

pub gap_append : (a b c : List ℕ) → Gap a b → Gap b c → Gap a c
gap_append a b c h k = record { pieces = h.pieces ++ k.pieces; passed = passes_append h.pieces k.pieces a b c h.passed k.passed }

pub gap_piece : (p rest : List ℕ) → IsPiece p → Gap (p ++ rest) rest
gap_piece p rest h = record { pieces = p ∷ []; passed = (rest, h, refl, refl) }

blank : (b : ℕ) → is_blank b ≡ true → IsPiece (b ∷ [])
blank b h = inl (record { byte = b; whole = refl; blank = h })

pub gap_blanks : (bs : List ℕ) → Gap bs (drop (run is_blank bs) bs)
gap_blanks [] = no_gap []
gap_blanks (b ∷ bs) = elim (cases_Bool (is_blank b)) [
  | inl h ↦ rw (h, add-one (run is_blank bs)) (gap_append (b ∷ bs) bs (drop (run is_blank bs) bs) (gap_piece (b ∷ []) bs (blank b h)) (gap_blanks bs))
  | inr h ↦ rw h (no_gap _)
]

-- A comment's inside.
pub record Closes (bs rest : List ℕ) : Type 0 where
  pub inner : List ℕ
  pub whole : bs ≡ inner ++ 42 ∷ 47 ∷ rest
  pub first : has_close (inner ++ 42 ∷ []) ≡ false

pub and_false : (b : Bool) → b && false ≡ false
and_false true = refl
and_false false = refl

closes_on : (b c : ℕ) (bs rest inner : List ℕ) → (b == 42) && (c == 47) ≡ false → c ∷ bs ≡ inner ++ 42 ∷ 47 ∷ rest → has_close (inner ++ 42 ∷ []) ≡ false → Closes (b ∷ c ∷ bs) rest
closes_on b c bs rest [] h e k = record { inner = b ∷ []; whole = ap (λ x. b ∷ x) e; first = rw (and_false (b == 42)) refl }
closes_on b c bs rest (a ∷ more) h e k =
    let same : c ≡ a = cc in
    let h2 : (b == 42) && (a == 47) ≡ false = rw (← same) h in
    record { inner = b ∷ a ∷ more; whole = ap (λ x. b ∷ x) e; first = rw (h2, k) refl }

more_closes : (b c : ℕ) (bs rest : List ℕ) → (b == 42) && (c == 47) ≡ false → Closes (c ∷ bs) rest → Closes (b ∷ c ∷ bs) rest
more_closes b c bs rest h k = closes_on b c bs rest k.inner h k.whole k.first

some_is : (n : ℕ) (o : Option ℕ) → option_map (λ n. n + 1) o ≡ Some n → (m : ℕ) × (o ≡ Some m) × (n ≡ m + 1)
some_is n None h = cc
some_is n (Some k) h = (k, refl, (let e : k + 1 ≡ n = cc in sym e))

none_is : (o : Option ℕ) → option_map (λ n. n + 1) o ≡ None → o ≡ None
none_is None h = refl
none_is (Some k) h = cc

closes_here : (b c : ℕ) (bs : List ℕ) → b ≡ 42 → c ≡ 47 → Closes (b ∷ c ∷ bs) bs
closes_here b c bs h k = record { inner = []; whole = rw (h, k) refl; first = refl }

pub comment_closes : (bs : List ℕ) (n : ℕ) → comment_span bs ≡ Some n → Closes bs (drop n bs)
comment_closes [] n h = cc
comment_closes (b ∷ []) n h = cc
comment_closes (b ∷ c ∷ bs) n h = elim (cases_Bool ((b == 42) && (c == 47))) [
  | inl t ↦ (let h2 = rw t at h in
      let e : 2 ≡ n = cc in
      let P : ℕ → Type 0 = λ m. Closes (b ∷ c ∷ bs) (drop m (b ∷ c ∷ bs)) in
      subst P e (closes_here b c bs (eqb-true _ _ (and_parts _ _ t).0) (eqb-true _ _ (and_parts _ _ t).1)))
  | inr f ↦ (let h2 = rw f at h in
      let got = some_is n _ h2 in
      rw (got.2, add-one got.0) (more_closes b c bs _ f (comment_closes (c ∷ bs) got.0 got.1)))
]

pub comment_found_in : (inner rest : List ℕ) → comment_span (inner ++ 42 ∷ 47 ∷ rest) ≡ None → ⊥
comment_found_in [] rest h = cc
comment_found_in (a ∷ []) rest h = let h2 = rw (and_false (a == 42)) at h in cc
comment_found_in (a ∷ b ∷ bs) rest h = elim (cases_Bool ((a == 42) && (b == 47))) [
  | inl t ↦ (let h2 = rw t at h in cc)
  | inr f ↦ comment_found_in (b ∷ bs) rest (none_is _ (rw f at h))
]

stop_blank : (byte : ℕ) (rest : List ℕ) → is_blank byte ≡ true → run is_blank (byte ∷ rest) ≡ 0 → ⊥
stop_blank byte rest h k = let k2 = rw h at k in omega arith

at_blank : (bs p rest : List ℕ) → run is_blank bs ≡ 0 → IsBlank p → bs ≡ p ++ rest → ⊥
at_blank bs p rest h b e =
    let e2 : bs ≡ b.byte ∷ rest = e ∙ ap (λ x. x ++ rest) b.whole in
    stop_blank b.byte rest b.blank (rw e2 at h)

at_comment : (bs p rest : List ℕ) → ((x : List ℕ) → bs ≡ 47 ∷ 42 ∷ x → comment_span x ≡ None) → IsComment p → bs ≡ p ++ rest → ⊥
at_comment bs p rest k c e =
    let e2 : bs ≡ 47 ∷ 42 ∷ ((c.inner ++ 42 ∷ 47 ∷ []) ++ rest) = e ∙ ap (λ x. x ++ rest) c.whole in
    comment_found_in c.inner rest (rw append_assoc at (k _ e2))

pub stop_at : (bs : List ℕ) → run is_blank bs ≡ 0 → ((x : List ℕ) → bs ≡ 47 ∷ 42 ∷ x → comment_span x ≡ None) → IsStop bs
stop_at bs h k p rest piece e = elim piece [ inl b ↦ at_blank bs p rest h b e | inr c ↦ at_comment bs p rest k c e ]

-- At places.

short_or : (bs : List ℕ) (i : ℕ) → (length bs ≤ i + 1) ⊎ (i + 2 ≤ length bs)
short_or bs i = grind arith

pub opens_length : (bs : List ℕ) (i : ℕ) → opens_of (drop i bs) ≡ true → i + 2 ≤ length bs
opens_length bs i h = elim (short_or bs i) [ inl k ↦ absurd (let e = opens_past bs i k in cc) | inr k ↦ k ]

run_rest : (p : ℕ → Bool) (bs : List ℕ) → run p (drop (run p bs) bs) ≡ 0
run_rest p [] = refl
run_rest p (b ∷ bs) = elim (cases_Bool (p b)) [
  | inl h ↦ rw (h, add-one (run p bs)) (run_rest p bs)
  | inr h ↦ rw (h, h) refl
]

pub blanks_gap : (bs : List ℕ) (from at : ℕ) → at ≡ from + run is_blank (drop from bs) → Gap (drop from bs) (drop at bs)
blanks_gap bs from at e = rw (e, ← drop-drop (run is_blank (drop from bs)) from bs) (gap_blanks (drop from bs))

pub blanks_none : (bs : List ℕ) (from at : ℕ) → at ≡ from + run is_blank (drop from bs) → run is_blank (drop at bs) ≡ 0
blanks_none bs from at e = rw (e, ← drop-drop (run is_blank (drop from bs)) from bs) (run_rest is_blank (drop from bs))

opened : (bs : List ℕ) → opens_of bs ≡ true → bs ≡ 47 ∷ 42 ∷ drop 2 bs
opened [] h = cc
opened (b ∷ []) h = cc
opened (b ∷ c ∷ bs) h =
    let e : b ≡ 47 = eqb-true _ _ (and_parts _ _ h).0 in
    let f : c ≡ 42 = eqb-true _ _ (and_parts _ _ h).1 in
    cc

comment_gap_of : (bs : List ℕ) (n : ℕ) → opens_of bs ≡ true → comment_span (drop 2 bs) ≡ Some n → Gap bs (drop n (drop 2 bs))
comment_gap_of bs n h k =
    let c = comment_closes (drop 2 bs) n k in
    let rest : List ℕ = drop n (drop 2 bs) in
    let p : List ℕ = 47 ∷ 42 ∷ (c.inner ++ 42 ∷ 47 ∷ []) in
    let is : IsComment p = record { inner = c.inner; whole = refl; first = c.first } in
    let e : bs ≡ p ++ rest = opened bs h ∙ ap (λ x. 47 ∷ 42 ∷ x) (c.whole ∙ sym (append_assoc c.inner (42 ∷ 47 ∷ []) rest)) in
    let P : List ℕ → Type 0 = λ x. Gap x rest in
    subst P (sym e) (gap_piece p rest (inr is))

pub found_at : (k e : ℕ) (o : Option ℕ) → Some e ≡ option_map (λ n. k + n) o → (m : ℕ) × (o ≡ Some m) × (e ≡ k + m)
found_at k e None h = cc
found_at k e (Some m) h = (m, refl, cc)

pub none_at : (k : ℕ) (o : Option ℕ) → None ≡ option_map (λ n. k + n) o → o ≡ None
none_at k None h = refl
none_at k (Some m) h = cc

pub comment_gap : (bs : List ℕ) (at end : ℕ) → opens_of (drop at bs) ≡ true → Some end ≡ option_map (λ n. (at + 2) + n) (comment_span (drop (at + 2) bs))
    → Gap (drop at bs) (drop end bs)
comment_gap bs at end h k =
    let got = found_at (at + 2) end _ k in
    let g = comment_gap_of (drop at bs) got.0 h (rw (drop-drop 2 at bs) got.1) in
    let e : drop got.0 (drop 2 (drop at bs)) ≡ drop end bs = rw (drop-drop 2 at bs, drop-drop got.0 (at + 2) bs, ← got.2) refl in
    rw e at g

pub comment_far : (bs : List ℕ) (at end : ℕ) → Some end ≡ option_map (λ n. (at + 2) + n) (comment_span (drop (at + 2) bs)) → at + 2 ≤ end
comment_far bs at end k = let got = found_at (at + 2) end _ k in omega (arith, got.2)

pub stop_open : (bs : List ℕ) (at : ℕ) → run is_blank (drop at bs) ≡ 0 → None ≡ option_map (λ n. (at + 2) + n) (comment_span (drop (at + 2) bs)) → IsStop (drop at bs)
stop_open bs at h k = stop_at (drop at bs) h (λ x e.
    let n : comment_span (drop 2 (drop at bs)) ≡ None = rw (drop-drop 2 at bs) (none_at (at + 2) _ k) in
    rw e at n)
