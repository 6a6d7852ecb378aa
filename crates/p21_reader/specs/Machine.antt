use Rattle.std.specs.Prelude.{ℕ, List, [], ◌∷◌, ◌++◌, Option, Some, None, option_map, Bool, true, false, cond, ◌-◌}
use Rattle.p21_values.specs.declared.limits.TheConstants.{MOST_DEPTH}
use Rattle.p21_values.specs.Grammar.{Mark, Iso, Header, Data, EndSec, EndIso, Other, Class, Simple, Name, Open, Close, Comma, Semi, Equals, Word, Sign, T, AnyWord, Statements, AfterEnd, Instances, Body, Ones, Value, Inside, After, down}

-- What is wanted next, as a table: what the code follows. Public contracts speak of the rules alone.

-- two marks are one
abbrev pub same_mark : Mark → Mark → Bool
same_mark Iso Iso = true
same_mark Header Header = true
same_mark Data Data = true
same_mark EndSec EndSec = true
same_mark EndIso EndIso = true
same_mark Other Other = true
same_mark _ _ = false

-- two classes are one
abbrev pub same : Class → Class → Bool
same Simple Simple = true
same Name Name = true
same Open Open = true
same Close Close = true
same Comma Comma = true
same Semi Semi = true
same Equals Equals = true
same (Word m) (Word n) = same_mark m n
same _ _ = false

-- what follows, where there is something
abbrev pub bind : {A B : Type 0} → Option A → (A → Option B) → Option B
bind None f = None
bind (Some x) f = f x

-- the signs that an answer leads to, where there is one
abbrev pub deeper : Option (Option ℕ) → (Option ℕ → List Sign) → Option (List Sign)
deeper None f = None
deeper (Some e) f = Some (f e)

-- what is wanted after a token, where a value is wanted
abbrev pub next_value : Option ℕ → Class → Option (List Sign)
next_value d Simple = Some []
next_value d Name = Some []
next_value d Open = deeper (down d) (λ e. Inside e ∷ [])
next_value d (Word m) = deeper (down d) (λ e. T Open ∷ Value e ∷ T Close ∷ [])
next_value d _ = None

-- what is wanted after a token in place of the sign that was
abbrev pub next : Sign → Class → Option (List Sign)
next (T c) x = cond (same c x) (Some []) None
next AnyWord (Word m) = Some []
next AnyWord _ = None
next Statements (Word EndSec) = Some (AfterEnd ∷ [])
next Statements (Word m) = Some (T Open ∷ Inside None ∷ T Semi ∷ Statements ∷ [])
next Statements _ = None
next AfterEnd Open = Some (Inside None ∷ T Semi ∷ Statements ∷ [])
next AfterEnd Semi = Some (T (Word Data) ∷ T Semi ∷ [])
next AfterEnd _ = None
next Instances Name = Some (T Equals ∷ Body ∷ T Semi ∷ Instances ∷ [])
next Instances (Word EndSec) = Some (T Semi ∷ T (Word EndIso) ∷ T Semi ∷ [])
next Instances _ = None
next Body (Word m) = Some (T Open ∷ Inside (Some (MOST_DEPTH - 1)) ∷ [])
next Body Open = Some (AnyWord ∷ T Open ∷ Inside (Some (MOST_DEPTH - 2)) ∷ Ones ∷ [])
next Body _ = None
next Ones Close = Some []
next Ones (Word m) = Some (T Open ∷ Inside (Some (MOST_DEPTH - 2)) ∷ Ones ∷ [])
next Ones _ = None
next (Value d) x = next_value d x
next (Inside d) Close = Some []
next (Inside d) x = option_map (λ r. r ++ After d ∷ []) (next_value d x)
next (After d) Close = Some []
next (After d) Comma = Some (Value d ∷ After d ∷ [])
next (After d) _ = None

-- the signs that are left after a class, where it can follow
abbrev pub step : List Sign → Class → Option (List Sign)
step [] x = None
step (s ∷ α) x = option_map (λ r. r ++ α) (next s x)

-- what is wanted after these tokens, none where one of them can't stand there
abbrev pub run : List Sign → List Class → Option (List Sign)
run α [] = Some α
run α (x ∷ xs) = bind (step α x) (λ β. run β xs)
