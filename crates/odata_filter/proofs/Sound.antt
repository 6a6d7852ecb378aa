-- What is read is spelled: each reading of tokens has the parts of a filter behind it.
use Rattle.std.proofs.Common.{◌≡◌, ℕ, zero, suc, ◌+◌, ◌-◌, ◌≤◌, ◌<◌, List, [], ◌∷◌, ◌++◌, Option, Some, None, refl, sym, ap, ◌∙◌, subst, append_assoc, arith, codes}
use Rattle.std.proofs.lemmas.List.{append-nil}
use Rattle.odata_filter.specs.declared.filter_state.Level.{Level}
use Rattle.odata_filter.specs.declared.filter_state.Levels.{Levels}
use Rattle.odata_filter.specs.declared.limits.TheConstants.{MOST_NESTED}
use Rattle.odata_filter.specs.Conditions.{Condition, Both, Either}
use Rattle.odata_filter.specs.FilterLexemes.{Lexeme, Word, Open}
use Rattle.odata_filter.specs.FilterGrammar.{Operand, Conjunction, Disjunction, Spells, negation, first, more, only, other}
use Rattle.odata_filter.specs.inner.FilterSteps.{negated, joined, level_with}

-- so many `not`
abbrev pub nots : ℕ → List Lexeme
nots zero = []
nots (suc n) = Word (codes "not") ∷ nots n

-- so many more than a number
abbrev pub raised : ℕ → ℕ → ℕ
raised zero room = room
raised (suc n) room = suc (raised n room)

pub raised_sum : (n room : ℕ) → raised n room ≡ n + room
raised_sum zero room = omega arith
raised_sum (suc n) room = let e = raised_sum n room in omega arith

-- operands that `and` joins, behind what `or` joins
pub data Joined : Option Condition → Condition → ℕ → List Lexeme → Type 0 where
  alone : {room : ℕ} {ls : List Lexeme} {b : Condition} → Spells Conjunction room ls b → Joined None b room ls
  behind_or : {room : ℕ} {ls ms : List Lexeme} {e b : Condition} → Spells Disjunction room ls e
      → Spells Conjunction room ms b → Joined (Some e) b room (ls ++ Word (codes "or") ∷ ms)

-- the same where one more operand has to come
pub data Begun : Option Condition → Option Condition → ℕ → List Lexeme → Type 0 where
  nothing : {room : ℕ} → Begun None None room []
  after_or : {room : ℕ} {ls : List Lexeme} {e : Condition} → Spells Disjunction room ls e
      → Begun (Some e) None room (ls ++ Word (codes "or") ∷ [])
  after_and : {room : ℕ} {ls : List Lexeme} {either : Option Condition} {b : Condition} → Joined either b room ls
      → Begun either (Some b) room (ls ++ Word (codes "and") ∷ [])

and_joined : {room : ℕ} {ls : List Lexeme} {either : Option Condition} {b : Condition} → Joined either b room ls
    → (ms : List Lexeme) (x : Condition) → Spells Operand room ms x
    → Joined either (Both b x) room (ls ++ Word (codes "and") ∷ ms)
and_joined (alone c) ms x d = alone (more c d)
and_joined {room} (behind_or {ls = ls} {ms = ks} {e = e} {b = b} p c) ms x d =
    subst (Joined (Some e) (Both b x) room) (sym (append_assoc ls (Word (codes "or") ∷ ks) (Word (codes "and") ∷ ms)))
    (behind_or p (more c d))

-- one more operand
pub begun_operand : {room : ℕ} {ls : List Lexeme} {either both : Option Condition} → Begun either both room ls
    → (ms : List Lexeme) (x : Condition) → Spells Operand room ms x → Joined either (joined Both both x) room (ls ++ ms)
begun_operand nothing ms x d = alone (first d)
begun_operand {room} (after_or {ls = ls} {e = e} p) ms x d =
    subst (Joined (Some e) x room) (sym (append_assoc ls (Word (codes "or") ∷ []) ms)) (behind_or p (first d))
begun_operand {room} (after_and {ls = ls} {either = either} {b = b} j) ms x d =
    subst (Joined either (Both b x) room) (sym (append_assoc ls (Word (codes "and") ∷ []) ms)) (and_joined j ms x d)

pub joined_closes : {room : ℕ} {ls : List Lexeme} {either : Option Condition} {b : Condition} → Joined either b room ls
    → Spells Disjunction room ls (joined Either either b)
joined_closes (alone c) = only c
joined_closes (behind_or p c) = other p c

pub nots_operand : (n room : ℕ) (ms : List Lexeme) (x : Condition) → Spells Operand room ms x
    → Spells Operand (raised n room) (nots n ++ ms) (negated n x)
nots_operand zero room ms x d = d
nots_operand (suc n) room ms x d = negation (nots_operand n room ms x d)

nots_push : (n : ℕ) → nots n ++ Word (codes "not") ∷ [] ≡ nots (suc n)
nots_push zero = refl
nots_push (suc n) = ap (λ ls. Word (codes "not") ∷ ls) (nots_push n)

-- what stands before the innermost level, which is behind so many `not` and `(`
pub data Around : List Level → ℕ → List Lexeme → Type 0 where
  outside : Around [] 0 []
  inside : {outer : List Level} {ls : List Lexeme} (level : Level) (ms : List Lexeme) (n : ℕ)
      → Around outer level.base ls → Begun level.either level.both (MOST_NESTED - level.base) ms
      → level.depth ≡ level.base + n → level.depth < MOST_NESTED
      → Around (outer ++ level ∷ []) (level.depth + 1) (ls ++ (ms ++ (nots n ++ Open ∷ [])))

-- where an operand begins
pub record AtOperand (levels : Levels) (ls : List Lexeme) : Type 0 where
  pub before : List Lexeme
  pub own : List Lexeme
  pub count : ℕ
  pub whole : ls ≡ before ++ (own ++ nots count)
  pub around : Around levels.outer levels.inner.base before
  pub begun : Begun levels.inner.either levels.inner.both (MOST_NESTED - levels.inner.base) own
  pub deep : levels.inner.depth ≡ levels.inner.base + count
  pub bound : levels.inner.depth ≤ MOST_NESTED

-- where operands are joined
pub record AtJoint (levels : Levels) (ls : List Lexeme) : Type 0 where
  pub before : List Lexeme
  pub own : List Lexeme
  pub both : Condition
  pub whole : ls ≡ before ++ own
  pub around : Around levels.outer levels.inner.base before
  pub is : levels.inner.both ≡ Some both
  pub joins : Joined levels.inner.either both (MOST_NESTED - levels.inner.base) own
  pub flat : levels.inner.depth ≡ levels.inner.base
  pub bound : levels.inner.depth ≤ MOST_NESTED

-- an operand stands complete
pub operand_joins : (levels : Levels) (ls ms : List Lexeme) (x : Condition) → AtOperand levels ls
    → Spells Operand (MOST_NESTED - levels.inner.depth) ms x
    → AtJoint (record { inner = level_with levels.inner x; outer = levels.outer }) (ls ++ ms)
operand_joins levels ls ms x h d =
    let n : levels.inner.depth - levels.inner.base ≡ h.count = omega (arith, h.deep) in
    let room : raised h.count (MOST_NESTED - levels.inner.depth) ≡ MOST_NESTED - levels.inner.base =
    raised_sum h.count (MOST_NESTED - levels.inner.depth) ∙ omega (arith, h.deep, h.bound) in
    let operand : Spells Operand (MOST_NESTED - levels.inner.base) (nots h.count ++ ms) (negated h.count x) =
    subst (λ r. Spells Operand r (nots h.count ++ ms) (negated h.count x)) room
    (nots_operand h.count (MOST_NESTED - levels.inner.depth) ms x d) in
    let same : negated h.count x ≡ negated (levels.inner.depth - levels.inner.base) x = ap (λ k. negated k x) (sym n) in
    record {
      before = h.before;
      own = h.own ++ (nots h.count ++ ms);
      both = joined Both levels.inner.both (negated (levels.inner.depth - levels.inner.base) x);
      whole = ap (λ k. k ++ ms) h.whole ∙ (append_assoc h.before (h.own ++ nots h.count) ms
          ∙ ap (λ k. h.before ++ k) (append_assoc h.own (nots h.count) ms));
      around = h.around;
      is = refl;
      joins = subst (λ y. Joined levels.inner.either (joined Both levels.inner.both y) (MOST_NESTED - levels.inner.base)
          (h.own ++ (nots h.count ++ ms))) same
          (begun_operand h.begun (nots h.count ++ ms) (negated h.count x) operand);
      flat = refl;
      bound = omega (arith, h.deep, h.bound);
    }

-- behind one more `not`
pub operand_not : (levels : Levels) (ls : List Lexeme) → AtOperand levels ls → levels.inner.depth < MOST_NESTED
    → AtOperand (record levels { inner = record levels.inner { depth = levels.inner.depth + 1 } })
    (ls ++ Word (codes "not") ∷ [])
operand_not levels ls h room = record {
  before = h.before;
  own = h.own;
  count = suc h.count;
  whole = ap (λ k. k ++ Word (codes "not") ∷ []) h.whole
      ∙ (append_assoc h.before (h.own ++ nots h.count) (Word (codes "not") ∷ [])
      ∙ ap (λ k. h.before ++ k) (append_assoc h.own (nots h.count) (Word (codes "not") ∷ [])
      ∙ ap (λ k. h.own ++ k) (nots_push h.count)));
  around = h.around;
  begun = h.begun;
  deep = omega (arith, h.deep);
  bound = omega arith;
}

-- behind `(`
pub operand_open : (levels : Levels) (ls : List Lexeme) → AtOperand levels ls → levels.inner.depth < MOST_NESTED
    → AtOperand (record {
      inner = record { either = None; both = None; base = levels.inner.depth + 1; depth = levels.inner.depth + 1 };
      outer = levels.outer ++ levels.inner ∷ [];
    }) (ls ++ Open ∷ [])
operand_open levels ls h room = record {
  before = h.before ++ (h.own ++ (nots h.count ++ Open ∷ []));
  own = [];
  count = 0;
  whole = ap (λ k. k ++ Open ∷ []) h.whole
      ∙ (append_assoc h.before (h.own ++ nots h.count) (Open ∷ [])
      ∙ (ap (λ k. h.before ++ k) (append_assoc h.own (nots h.count) (Open ∷ []))
      ∙ sym (append-nil (h.before ++ (h.own ++ (nots h.count ++ Open ∷ []))))));
  around = inside levels.inner h.own h.count h.around h.begun h.deep room;
  begun = nothing;
  deep = omega arith;
  bound = omega arith;
}

-- behind `and`
pub joint_and : (levels : Levels) (ls : List Lexeme) → AtJoint levels ls
    → AtOperand levels (ls ++ Word (codes "and") ∷ [])
joint_and levels ls h = record {
  before = h.before;
  own = h.own ++ Word (codes "and") ∷ [];
  count = 0;
  whole = ap (λ k. k ++ Word (codes "and") ∷ []) h.whole
      ∙ (append_assoc h.before h.own (Word (codes "and") ∷ [])
      ∙ ap (λ k. h.before ++ k) (sym (append-nil (h.own ++ Word (codes "and") ∷ []))));
  around = h.around;
  begun = subst (λ o. Begun levels.inner.either o (MOST_NESTED - levels.inner.base) (h.own ++ Word (codes "and") ∷ []))
      (sym h.is) (after_and h.joins);
  deep = omega (arith, h.flat);
  bound = h.bound;
}

-- behind `or`
pub joint_or : (levels : Levels) (ls : List Lexeme) → (h : AtJoint levels ls)
    → AtOperand (record {
      inner = record {
        either = Some (joined Either levels.inner.either h.both);
        both = None;
        base = levels.inner.base;
        depth = levels.inner.depth;
      };
      outer = levels.outer;
    }) (ls ++ Word (codes "or") ∷ [])
joint_or levels ls h = record {
  before = h.before;
  own = h.own ++ Word (codes "or") ∷ [];
  count = 0;
  whole = ap (λ k. k ++ Word (codes "or") ∷ []) h.whole
      ∙ (append_assoc h.before h.own (Word (codes "or") ∷ [])
      ∙ ap (λ k. h.before ++ k) (sym (append-nil (h.own ++ Word (codes "or") ∷ []))));
  around = h.around;
  begun = after_or (joined_closes h.joins);
  deep = omega (arith, h.flat);
  bound = h.bound;
}
