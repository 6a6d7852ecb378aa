-- The entries of some passes among those of a list.
use Rattle.std.proofs.Common.{◌≡◌, ℕ, ◌+◌, ◌≤◌, List, [], ◌∷◌, ◌++◌, Option, None, Some, Bool, true, false, if◌then◌else◌, ◌||◌, eqb, leb, All, refl, sym, ◌∙◌, ap, subst, arith}
use Rattle.std.specs.Option.{option_or}
use Rattle.std.proofs.lemmas.Bool.{eqb-true, eq-eqb, leb-true}
use Rattle.std.proofs.lemmas.List.Elements.{All-nil, All-cons, All-head, All-tail}
use Rattle.book_turn.specs.NumberLists.{has}
use Rattle.book_turn.specs.Entries.{AllBefore, OwnUpTo, up_to, calls_by}

-- ---- numbers

pub or_first : (a b : Bool) → a ≡ true → (a || b) ≡ true
or_first true b is = refl
or_first false b is = cc

pub or_second : (a b : Bool) → b ≡ true → (a || b) ≡ true
or_second true b is = refl
or_second false b is = is

pub or_left : (a : Bool) → (a || false) ≡ true → a ≡ true
or_left true is = refl
or_left false is = is

pub either : {P : Type 0} (a b c : Bool) → c ≡ (a || b) → (a ≡ true → P) → (b ≡ true → P) → c ≡ true → P
either true b c same first second is = first refl
either false b c same first second is = second (sym same ∙ is)

pub or_assoc : (a b c : Bool) → (a || (b || c)) ≡ ((a || b) || c)
or_assoc true b c = refl
or_assoc false b c = refl

-- ---- what may be none

pub option_or_assoc : (a b c : Option ℕ) → option_or (option_or a b) c ≡ option_or a (option_or b c)
option_or_assoc None b c = refl
option_or_assoc (Some x) b c = refl

-- ---- passes among others

pub has_append : (x : ℕ) (ps qs : List ℕ) → has x (ps ++ qs) ≡ (has x ps || has x qs)
has_append x [] qs = refl
has_append x (p ∷ ps) qs = ap (λ b. eqb x p || b) (has_append x ps qs) ∙ or_assoc (eqb x p) (has x ps) (has x qs)

pub has_first : (x : ℕ) (ps qs : List ℕ) → has x ps ≡ true → has x (ps ++ qs) ≡ true
has_first x ps qs is = has_append x ps qs ∙ or_first (has x ps) (has x qs) is

pub has_second : (x : ℕ) (ps qs : List ℕ) → has x qs ≡ true → has x (ps ++ qs) ≡ true
has_second x ps qs is = has_append x ps qs ∙ or_second (has x ps) (has x qs) is

pub has_one : (x : ℕ) → has x (x ∷ []) ≡ true
has_one x = or_first (eqb x x) false (eq-eqb x x refl)

pub one_of : (x k : ℕ) → has x (k ∷ []) ≡ true → x ≡ k
one_of x k is = eqb-true x k (or_left (eqb x k) is)

-- who is the one is one of those among whom the one is
one_has : (x k : ℕ) (ps : List ℕ) → has k ps ≡ true → has x (k ∷ []) ≡ true → has x ps ≡ true
one_has x k ps is one = subst (λ (y : ℕ). has y ps ≡ true) (sym (one_of x k one)) is

-- ---- entries

module _ {E : Type 0} (pass : E → ℕ) where
  within_one : (k : ℕ) (e : E) (inner outer : List E) (b c : Bool) → has (pass e) (k ∷ []) ≡ c → (c ≡ true → b ≡ true) → calls_by pass (k ∷ []) inner ≡ outer
      → calls_by pass (k ∷ []) (if b then e ∷ inner else inner) ≡ (if c then e ∷ outer else outer)
  within_one k e inner outer true c is sub rest =
      ap (λ (d : Bool). if d then e ∷ calls_by pass (k ∷ []) inner else calls_by pass (k ∷ []) inner) is ∙ ap (λ (l : List E). if c then e ∷ l else l) rest
  within_one k e inner outer false true is sub rest = absurd (let no = sub refl in cc)
  within_one k e inner outer false false is sub rest = rest

  -- the entries of one pass among those of several
  pub calls_within : (k : ℕ) (ps : List ℕ) (es : List E) → has k ps ≡ true → calls_by pass (k ∷ []) (calls_by pass ps es) ≡ calls_by pass (k ∷ []) es
  calls_within k ps [] is = refl
  calls_within k ps (e ∷ es) is =
      within_one k e (calls_by pass ps es) (calls_by pass (k ∷ []) es) (has (pass e) ps) (has (pass e) (k ∷ [])) refl (one_has (pass e) k ps is) (calls_within k ps es is)

  module _ (P : E → Type 0) where
    tail_of : (e : E) (es : List E) (b : Bool) → All P (if b then e ∷ es else es) → All P es
    tail_of e es true all = All-tail P e es all
    tail_of e es false all = all

    head_of : (e : E) (es : List E) (b : Bool) → b ≡ true → All P (if b then e ∷ es else es) → P e
    head_of e es true is all = All-head P e es all
    head_of e es false is all = absurd (cc)

    both_one : (e : E) (x y z : List E) (a b : Bool) → All P (if a then e ∷ x else x) → All P (if b then e ∷ y else y) → (All P x → All P y → All P z)
        → All P (if (a || b) then e ∷ z else z)
    both_one e x y z true b p q rest = All-cons P e z (All-head P e x p) (rest (All-tail P e x p) (tail_of e y b q))
    both_one e x y z false true p q rest = All-cons P e z (All-head P e y q) (rest p (All-tail P e y q))
    both_one e x y z false false p q rest = rest p q

    -- the entries of some passes and those of others
    pub calls_both : (ps qs : List ℕ) (es : List E) → All P (calls_by pass ps es) → All P (calls_by pass qs es) → All P (calls_by pass (ps ++ qs) es)
    calls_both ps qs [] p q = All-nil P
    calls_both ps qs (e ∷ es) p q =
        subst (λ (b : Bool). All P (if b then e ∷ calls_by pass (ps ++ qs) es else calls_by pass (ps ++ qs) es)) (sym (has_append (pass e) ps qs))
        (both_one e (calls_by pass ps es) (calls_by pass qs es) (calls_by pass (ps ++ qs) es) (has (pass e) ps) (has (pass e) qs) p q (calls_both ps qs es))

    whole_one : (e : E) (rest mine : List E) (b : Bool) → ((b ≡ false) → P e) → All P (if b then e ∷ mine else mine) → (All P mine → All P rest) → All P (e ∷ rest)
    whole_one e rest mine true other p all = All-cons P e rest (All-head P e mine p) (all (All-tail P e mine p))
    whole_one e rest mine false other p all = All-cons P e rest (other refl) (all p)

    -- where it holds of the entries of these passes, and of those of others, it holds of all
    pub calls_whole : (ps : List ℕ) (es : List E) → All P (calls_by pass ps es) → All (λ e. has (pass e) ps ≡ false → P e) es → All P es
    calls_whole ps [] p others = All-nil P
    calls_whole ps (e ∷ es) p others =
        whole_one e es (calls_by pass ps es) (has (pass e) ps) (All-head (λ x. has (pass x) ps ≡ false → P x) e es others) p
        (λ rest. calls_whole ps es rest (All-tail (λ x. has (pass x) ps ≡ false → P x) e es others))

    none_one : (k : ℕ) (e : E) (mine one : List E) (b c : Bool) → (c ≡ true → b ≡ true) → (c ≡ true → P e → ⊥) → All P (if b then e ∷ mine else mine) → (All P mine → one ≡ [])
        → (if c then e ∷ one else one) ≡ []
    none_one k e mine one b true sub never all rest = absurd (never refl (head_of e mine b (sub refl) all))
    none_one k e mine one b false sub never all rest = rest (tail_of e mine b all)

    -- where it holds of no entry of one pass, but of all of several of which that is one, the pass has none
    pub calls_none : (k : ℕ) (ps : List ℕ) (es : List E) → has k ps ≡ true → ((e : E) → pass e ≡ k → P e → ⊥) → All P (calls_by pass ps es) → calls_by pass (k ∷ []) es ≡ []
    calls_none k ps [] is never all = refl
    calls_none k ps (e ∷ es) is never all =
        none_one k e (calls_by pass ps es) (calls_by pass (k ∷ []) es) (has (pass e) ps) (has (pass e) (k ∷ [])) (one_has (pass e) k ps is)
        (λ one. never e (one_of (pass e) k one)) all (calls_none k ps es is never)

  -- each of the entries of some passes is of one of them
  pub calls_among : (ps : List ℕ) (es : List E) → All (λ e. has (pass e) ps ≡ true) (calls_by pass ps es)
  calls_among ps [] = All-nil (λ (e : E). has (pass e) ps ≡ true)
  calls_among ps (e ∷ es) = kept (has (pass e) ps) refl (calls_among ps es)
    where
      kept : (b : Bool) → has (pass e) ps ≡ b → All (λ x. has (pass x) ps ≡ true) (calls_by pass ps es) → All (λ x. has (pass x) ps ≡ true) (if b then e ∷ calls_by pass ps es else calls_by pass ps es)
      kept true is rest = All-cons (λ (x : E). has (pass x) ps ≡ true) e (calls_by pass ps es) is rest
      kept false is rest = rest

module _ {E : Type 0} (turn pass : E → ℕ) where
  kept_own : (ps : List ℕ) (t : ℕ) (e : E) (rest : List E) (b : Bool) → (has (pass e) ps ≡ true → turn e ≤ t) → OwnUpTo turn pass ps t rest → OwnUpTo turn pass ps t (if b then e ∷ rest else rest)
  kept_own ps t e rest true here are = (here, are)
  kept_own ps t e rest false here are = are

  own_to_calls : (ps : List ℕ) (t : ℕ) (es : List E) → OwnUpTo turn pass ps t es → OwnUpTo turn pass ps t (calls_by pass ps es)
  own_to_calls ps t [] own = tt
  own_to_calls ps t (e ∷ es) own = kept_own ps t e (calls_by pass ps es) (has (pass e) ps) own.0 (own_to_calls ps t es own.1)

  own_head : (ps : List ℕ) (t : ℕ) (e : E) (rest : List E) (b : Bool) → OwnUpTo turn pass ps t (if b then e ∷ rest else rest) → has (pass e) ps ≡ b → has (pass e) ps ≡ true → turn e ≤ t
  own_head ps t e rest true own same is = own.0 is
  own_head ps t e rest false own same is = absurd (cc)

  own_tail : (ps : List ℕ) (t : ℕ) (e : E) (rest : List E) (b : Bool) → OwnUpTo turn pass ps t (if b then e ∷ rest else rest) → OwnUpTo turn pass ps t rest
  own_tail ps t e rest true own = own.1
  own_tail ps t e rest false own = own

  own_of_calls : (ps : List ℕ) (t : ℕ) (es : List E) → OwnUpTo turn pass ps t (calls_by pass ps es) → OwnUpTo turn pass ps t es
  own_of_calls ps t [] own = tt
  own_of_calls ps t (e ∷ es) own = (
    own_head ps t e (calls_by pass ps es) (has (pass e) ps) own refl,
    own_of_calls ps t es (own_tail ps t e (calls_by pass ps es) (has (pass e) ps) own),
  )

  -- lists in which some passes have the same entries
  pub own_same : (ps : List ℕ) (t : ℕ) (es fs : List E) → calls_by pass ps fs ≡ calls_by pass ps es → OwnUpTo turn pass ps t es → OwnUpTo turn pass ps t fs
  own_same ps t es fs same own = own_of_calls ps t fs (subst (OwnUpTo turn pass ps t) (sym same) (own_to_calls ps t es own))

  before_one : (t : ℕ) (e : E) (rest : List E) (b : Bool) → leb (turn e) t ≡ b → AllBefore turn (t + 1) rest → AllBefore turn (t + 1) (if b then e ∷ rest else rest)
  before_one t e rest true is are = (let le : turn e ≤ t = leb-true (turn e) t is in omega arith, are)
  before_one t e rest false is are = are

  pub up_to_before : (t : ℕ) (es : List E) → AllBefore turn (t + 1) (up_to turn t es)
  up_to_before t [] = tt
  up_to_before t (e ∷ es) = before_one t e (up_to turn t es) (leb (turn e) t) refl (up_to_before t es)
