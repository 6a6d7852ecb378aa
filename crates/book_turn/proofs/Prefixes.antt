-- Histories whose turns rise, and their beginnings.
use Rattle.std.proofs.Common.{◌≡◌, ℕ, ◌+◌, ◌<◌, ◌≤◌, ◌⊎◌, inl, inr, ⊎_elim, List, [], ◌∷◌, ◌++◌, sym, refl, ap, ◌∙◌, subst, arith, le-leb, leb, ltb, ltb-true, ltb-false, max, Bool, true, false, if◌then◌else◌}
use mathlib.Core.Logic.{dite}
use native.Mathlib.Decide.{dec_le}
use borrow.Author.Tests.{lt-leb}
use mathlib.Core.List.{append-nil}
use Rattle.book_turn.specs.declared.rule.Beginning.{Beginning}
use Rattle.book_turn.specs.TurnSteps.{AreBeginnings}
use Rattle.book_turn.specs.NumberLists.{times, has}
use Rattle.book_turn.proofs.Totals.{has_times, times_has, times_append}
use Rattle.book_turn.specs.Entries.{AllBefore, AllAfter, Rises, up_to, calls_by, IsOneOf, OwnUpTo}

module _ {E : Type 0} (turn : E → ℕ) where
  pub before_append : (t : ℕ) (h m : List E) → AllBefore turn t h → AllBefore turn t m → AllBefore turn t (h ++ m)
  before_append t [] m a b = b
  before_append t (e ∷ es) m a b = (a.0, before_append t es m a.1 b)

  pub before_later : (s t : ℕ) (h : List E) → s ≤ t → AllBefore turn s h → AllBefore turn t h
  before_later s t [] le a = tt
  before_later s t (e ∷ es) le a = let x : turn e < s = a.0 in (omega arith, before_later s t es le a.1)

  pub after_append : (t : ℕ) (h m : List E) → AllAfter turn t h → AllAfter turn t m → AllAfter turn t (h ++ m)
  after_append t [] m a b = b
  after_append t (e ∷ es) m a b = (a.0, after_append t es m a.1 b)

  pub after_earlier : (s t : ℕ) (h : List E) → s ≤ t → AllAfter turn t h → AllAfter turn s h
  after_earlier s t [] le a = tt
  after_earlier s t (e ∷ es) le a = let x : t < turn e = a.0 in (omega arith, after_earlier s t es le a.1)

  pub Rises_push : (h : List E) (e : E) → Rises turn h → AllBefore turn (turn e) h → Rises turn (h ++ e ∷ [])
  Rises_push [] e r a = (tt, tt)
  Rises_push (x ∷ xs) e r a = (after_append (turn x) xs (e ∷ []) r.0 (a.0, tt), Rises_push xs e r.1 a.1)

  taken : (t : ℕ) (e : E) (es : List E) → turn e ≤ t → up_to turn t (e ∷ es) ≡ e ∷ up_to turn t es
  taken t e es le = ap (λ b. if b then e ∷ up_to turn t es else up_to turn t es) (le-leb (turn e) t le)

  left_out : (t : ℕ) (e : E) (es : List E) → t < turn e → up_to turn t (e ∷ es) ≡ up_to turn t es
  left_out t e es lt = ap (λ b. if b then e ∷ up_to turn t es else up_to turn t es) (lt-leb (turn e) t lt)

  pub up_to_all : (t : ℕ) (h : List E) → AllBefore turn (t + 1) h → up_to turn t h ≡ h
  up_to_all t [] a = refl
  up_to_all t (e ∷ es) a = let x : turn e < t + 1 = a.0 in taken t e es (omega arith) ∙ ap (λ l. e ∷ l) (up_to_all t es a.1)

  pub up_to_none : (t : ℕ) (h : List E) → AllAfter turn t h → up_to turn t h ≡ []
  up_to_none t [] a = refl
  up_to_none t (e ∷ es) a = left_out t e es a.0 ∙ up_to_none t es a.1

  pub up_to_later : (t : ℕ) (h m : List E) → AllAfter turn t m → up_to turn t (h ++ m) ≡ up_to turn t h
  up_to_later t [] m b = up_to_none t m b
  up_to_later t (e ∷ es) m b = dite (dec_le (turn e) t)
      (λ le. taken t e (es ++ m) le ∙ ap (λ l. e ∷ l) (up_to_later t es m b) ∙ sym (taken t e es le))
      (λ not. let lt : t < turn e = omega arith in left_out t e (es ++ m) lt ∙ up_to_later t es m b ∙ sym (left_out t e es lt))

  -- the entries up to t are a beginning
  pub up_to_splits : (t : ℕ) (h : List E) → Rises turn h → (rest : List E) × (h ≡ up_to turn t h ++ rest) × AllAfter turn t rest
  up_to_splits t [] r = ([], refl, tt)
  up_to_splits t (e ∷ es) r = dite (dec_le (turn e) t)
      (λ le. let k = up_to_splits t es r.1 in (k.0, ap (λ l. e ∷ l) k.1 ∙ ap (λ l. l ++ k.0) (sym (taken t e es le)), k.2))
      (λ not. let lt : t < turn e = omega arith in let b = after_earlier t (turn e) es (omega arith) r.0 in (e ∷ es, ap (λ l. l ++ e ∷ es) (sym (left_out t e es lt ∙ up_to_none t es b)), (lt, b)))

  -- of a beginning an earlier one
  pub up_to_front : (s t : ℕ) (h : List E) → s ≤ t → up_to turn s (up_to turn t h) ≡ up_to turn s h
  up_to_front s t [] le = refl
  up_to_front s t (e ∷ es) le = dite (dec_le (turn e) t)
      (λ in_. ap (up_to turn s) (taken t e es in_) ∙ ap (λ l. if leb (turn e) s then e ∷ l else l) (up_to_front s t es le))
      (λ not. let out : t < turn e = omega arith in let far : s < turn e = omega (arith, le, out) in
      ap (up_to turn s) (left_out t e es out) ∙ up_to_front s t es le ∙ sym (left_out s e es far))

  -- of two beginnings the one with the later turn
  pub picked : (h : List E) (a b : ℕ) (xs ys : List E) → xs ≡ up_to turn a h → ys ≡ up_to turn b h → (if ltb a b then ys else xs) ≡ up_to turn (max a b) h
  picked h a b xs ys e f = go (ltb a b) refl
    where
      go : (c : Bool) → ltb a b ≡ c → (if c then ys else xs) ≡ up_to turn (max a b) h
      go true is = let l = ltb-true a b is in let m : b ≡ max a b = omega arith in f ∙ ap (λ (t : ℕ). up_to turn t h) m
      go false is = let l = ltb-false a b is in let m : a ≡ max a b = omega arith in e ∙ ap (λ (t : ℕ). up_to turn t h) m

module _ {E : Type 0} (pass : E → ℕ) where
  pub calls_by-append : (ps : List ℕ) (a b : List E) → calls_by pass ps (a ++ b) ≡ calls_by pass ps a ++ calls_by pass ps b
  calls_by-append ps [] b = refl
  calls_by-append ps (e ∷ es) b = go (calls_by-append ps es b) (has (pass e) ps)
    where
      go : calls_by pass ps (es ++ b) ≡ calls_by pass ps es ++ calls_by pass ps b → (c : Bool) → (if c then e ∷ calls_by pass ps (es ++ b) else calls_by pass ps (es ++ b)) ≡ (if c then e ∷ calls_by pass ps es else calls_by pass ps es) ++ calls_by pass ps b
      go ih true = ap (λ l. e ∷ l) ih
      go ih false = ih

module _ {E : Type 0} (turn pass : E → ℕ) where
  has_both : (x : ℕ) (ps qs : List ℕ) → has x (ps ++ qs) ≡ true → (has x ps ≡ true) ⊎ (has x qs ≡ true)
  has_both x ps qs e = let a = has_times x (ps ++ qs) e in let k = times_append x ps qs in dite (dec_le 1 (times x ps)) (λ l. inl (times_has x ps l)) (λ not. inr (times_has x qs (omega arith)))

  pub own_both : (ps qs : List ℕ) (t : ℕ) (h : List E) → OwnUpTo turn pass ps t h → OwnUpTo turn pass qs t h → OwnUpTo turn pass (ps ++ qs) t h
  own_both ps qs t [] a b = tt
  own_both ps qs t (e ∷ es) a b = ((λ is. ⊎_elim a.0 b.0 (has_both (pass e) ps qs is)), own_both ps qs t es a.1 b.1)

  pub own_append : (ps : List ℕ) (t : ℕ) (h m : List E) → OwnUpTo turn pass ps t h → OwnUpTo turn pass ps t m → OwnUpTo turn pass ps t (h ++ m)
  own_append ps t [] m a b = b
  own_append ps t (e ∷ es) m a b = (a.0, own_append ps t es m a.1 b)

  pub own_drop : (ps : List ℕ) (t : ℕ) (h m : List E) → OwnUpTo turn pass ps t (h ++ m) → OwnUpTo turn pass ps t m
  own_drop ps t [] m a = a
  own_drop ps t (e ∷ es) m a = own_drop ps t es m a.1

  pub own_later : (ps : List ℕ) (s t : ℕ) (h : List E) → s ≤ t → OwnUpTo turn pass ps s h → OwnUpTo turn pass ps t h
  own_later ps s t [] le a = tt
  own_later ps s t (e ∷ es) le a = ((λ is. let x : turn e ≤ s = a.0 is in omega arith), own_later ps s t es le a.1)

  pub own_all : (ps : List ℕ) (t : ℕ) (h : List E) → AllBefore turn (t + 1) h → OwnUpTo turn pass ps t h
  own_all ps t [] a = tt
  own_all ps t (e ∷ es) a = let x : turn e < t + 1 = a.0 in ((λ _. omega arith), own_all ps t es a.1)

  pub own_fewer : (ps qs : List ℕ) (t : ℕ) (h : List E) → ((x : ℕ) → has x qs ≡ true → has x ps ≡ true) → OwnUpTo turn pass ps t h → OwnUpTo turn pass qs t h
  own_fewer ps qs t [] sub a = tt
  own_fewer ps qs t (e ∷ es) sub a = ((λ is. a.0 (sub (pass e) is)), own_fewer ps qs t es sub a.1)

  pub own_up_to : (ps : List ℕ) (s t : ℕ) (h : List E) → OwnUpTo turn pass ps s h → OwnUpTo turn pass ps s (up_to turn t h)
  own_up_to ps s t [] a = tt
  own_up_to ps s t (e ∷ es) a = dite (dec_le (turn e) t)
      (λ le. subst (OwnUpTo turn pass ps s) (sym (taken turn t e es le)) (a.0, own_up_to ps s t es a.1))
      (λ not. let lt : t < turn e = omega arith in subst (OwnUpTo turn pass ps s) (sym (left_out turn t e es lt)) (own_up_to ps s t es a.1))

  pub own_none : (ps : List ℕ) (t : ℕ) (m : List E) → OwnUpTo turn pass ps t m → AllAfter turn t m → calls_by pass ps m ≡ []
  own_none ps t [] a b = refl
  own_none ps t (e ∷ es) a b = go (own_none ps t es a.1 b.1) (has (pass e) ps) refl
    where
      go : calls_by pass ps es ≡ [] → (c : Bool) → has (pass e) ps ≡ c → (if has (pass e) ps then e ∷ calls_by pass ps es else calls_by pass ps es) ≡ []
      go ih true h = let x : turn e ≤ t = a.0 h in let y : t < turn e = b.0 in absurd (omega arith)
      go ih false h = ap (λ c. if c then e ∷ calls_by pass ps es else calls_by pass ps es) h ∙ ih

  -- of these passes, the entries up to t are all
  pub own_calls : (ps : List ℕ) (t : ℕ) (h : List E) → OwnUpTo turn pass ps t h → calls_by pass ps (up_to turn t h) ≡ calls_by pass ps h
  own_calls ps t [] a = refl
  own_calls ps t (e ∷ es) a = dite (dec_le (turn e) t)
      (λ le. ap (calls_by pass ps) (taken turn t e es le) ∙ ap (λ l. if has (pass e) ps then e ∷ l else l) (own_calls ps t es a.1))
      (λ not. let lt : t < turn e = omega arith in ap (calls_by pass ps) (left_out turn t e es lt) ∙ own_calls ps t es a.1 ∙ skip lt (has (pass e) ps) refl)
    where
      skip : t < turn e → (c : Bool) → has (pass e) ps ≡ c → calls_by pass ps es ≡ (if has (pass e) ps then e ∷ calls_by pass ps es else calls_by pass ps es)
      skip lt true is = let le : turn e ≤ t = a.0 is in absurd (omega arith)
      skip lt false is = sym (ap (λ c. if c then e ∷ calls_by pass ps es else calls_by pass ps es) is)

  pub one_up_to : (t : ℕ) (ps : List ℕ) (m : List E) → IsOneOf turn pass t ps m → AllBefore turn (t + 1) m
  one_up_to t ps [] o = tt
  one_up_to t ps (e ∷ []) o = let x : turn e ≡ t = o.0 in (omega arith, tt)
  one_up_to t ps (e ∷ f ∷ es) o = absurd o

  pub one_since : (l t : ℕ) (ps : List ℕ) (m : List E) → IsOneOf turn pass t ps m → l < t → AllAfter turn l m
  one_since l t ps [] o lt = tt
  one_since l t ps (e ∷ []) o lt = let x : turn e ≡ t = o.0 in (omega arith, tt)
  one_since l t ps (e ∷ f ∷ es) o lt = absurd o

  pub one_rises : (h : List E) (t : ℕ) (ps : List ℕ) (m : List E) → IsOneOf turn pass t ps m → Rises turn h → AllBefore turn t h → Rises turn (h ++ m)
  one_rises h t ps [] o r a = subst (Rises turn) (sym (append-nil h)) r
  one_rises h t ps (e ∷ []) o r a = Rises_push turn h e r (subst (λ (x : ℕ). AllBefore turn x h) (sym o.0) a)
  one_rises h t ps (e ∷ f ∷ es) o r a = absurd o

  pub one_known : (n t : ℕ) (ps : List ℕ) (m : List E) → IsOneOf turn pass t ps m → ((x : ℕ) → has x ps ≡ true → x < n) → AllBefore pass n m
  one_known n t ps [] o h = tt
  one_known n t ps (e ∷ []) o h = (h (pass e) o.1, tt)
  one_known n t ps (e ∷ f ∷ es) o h = absurd o

  pub one_other : (t : ℕ) (ps qs : List ℕ) (l : ℕ) (m : List E) → IsOneOf turn pass t ps m → ((x : ℕ) → has x ps ≡ true → has x qs ≡ true → ⊥) → OwnUpTo turn pass qs l m
  one_other t ps qs l [] o h = tt
  one_other t ps qs l (e ∷ []) o h = ((λ is. absurd (h (pass e) o.1 is)), tt)
  one_other t ps qs l (e ∷ f ∷ es) o h = absurd o

  -- where these passes are all that there are, all entries have turns up to t
  pub own_whole : (ps : List ℕ) (n t : ℕ) (h : List E) → ((x : ℕ) → x < n → has x ps ≡ true) → AllBefore pass n h → OwnUpTo turn pass ps t h → AllBefore turn (t + 1) h
  own_whole ps n t [] every k a = tt
  own_whole ps n t (e ∷ es) every k a = let x : turn e ≤ t = a.0 (every (pass e) k.0) in (omega arith, own_whole ps n t es every k.1 a.1)

  pub begins_later : (ps : List ℕ) (bs : List (Beginning E)) (t : ℕ) (h m : List E) → AllAfter turn t m → ((qs : List ℕ) (l : ℕ) → ((x : ℕ) → has x qs ≡ true → has x ps ≡ true) → OwnUpTo turn pass qs l m) → AreBeginnings turn pass ps bs t h → AreBeginnings turn pass ps bs t (h ++ m)
  begins_later ps [] t h m b o a = tt
  begins_later ps (x ∷ xs) t h m b o a = ((a.0.0 ∙ sym (up_to_later turn x.last h m (after_earlier turn x.last t m a.0.1 b)), a.0.1, a.0.2, own_append x.passes x.last h m a.0.3 (o x.passes x.last a.0.2)), begins_later ps xs t h m b o a.1)

  own_front : (ps : List ℕ) (t : ℕ) (h m : List E) → OwnUpTo turn pass ps t (h ++ m) → OwnUpTo turn pass ps t h
  own_front ps t [] m a = tt
  own_front ps t (e ∷ es) m a = (a.0, own_front ps t es m a.1)

  pub begins_of : (ps : List ℕ) (bs : List (Beginning E)) (t : ℕ) (h m : List E) → AllAfter turn t m → AreBeginnings turn pass ps bs t (h ++ m) → AreBeginnings turn pass ps bs t h
  begins_of ps [] t h m b a = tt
  begins_of ps (x ∷ xs) t h m b a = ((a.0.0 ∙ up_to_later turn x.last h m (after_earlier turn x.last t m a.0.1 b), a.0.1, a.0.2, own_front x.passes x.last h m a.0.3), begins_of ps xs t h m b a.1)
