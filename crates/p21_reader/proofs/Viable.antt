-- The table of signs is the grammar: it leads through exactly the tokens that are a file or begin one.
use Rattle.std.proofs.Common.{◌≡◌, ℕ, List, [], ◌∷◌, ◌++◌, Option, Some, None, option_map, Bool, true, false, cond, refl, sym, ap, subst, ◌∙◌, append_assoc, ◌-◌}
use Rattle.std.specs.Prelude.{IsSome, ◌↔◌}
use Rattle.p21_values.specs.declared.limits.TheConstants.{MOST_DEPTH}
use Rattle.p21_values.specs.Grammar.{Mark, Iso, Header, Data, EndSec, EndIso, Other, Class, Simple, Name, Open, Close, Comma, Semi, Equals, Word, Sign, T, AnyWord, Statements, AfterEnd, Instances, Body, Ones, Value, Inside, After, down, file, Rule, simple, name, list, typed, empty, first, last, more, statement, ending, again, content, instance, finish, plain, complex, closed, one, Derives, done, token, word, rule, IsFile, IsViable, IsPlainMark}
use Rattle.p21_reader.specs.Machine.{same, same_mark, bind, deeper, next, next_value, step, run}

same_mark_refl : (m : Mark) → same_mark m m ≡ true
same_mark_refl Iso = refl
same_mark_refl Header = refl
same_mark_refl Data = refl
same_mark_refl EndSec = refl
same_mark_refl EndIso = refl
same_mark_refl Other = refl

same_refl : (c : Class) → same c c ≡ true
same_refl Simple = refl
same_refl Name = refl
same_refl Open = refl
same_refl Close = refl
same_refl Comma = refl
same_refl Semi = refl
same_refl Equals = refl
same_refl (Word m) = same_mark_refl m

-- Soundness: one token.

mark_is : (m n : Mark) → same_mark m n ≡ true → m ≡ n
mark_is Iso Iso h = refl
mark_is Header Header h = refl
mark_is Data Data h = refl
mark_is EndSec EndSec h = refl
mark_is EndIso EndIso h = refl
mark_is Other Other h = refl
mark_is m n h = cc

class_is : (c x : Class) → same c x ≡ true → c ≡ x
class_is Simple Simple h = refl
class_is Name Name h = refl
class_is Open Open h = refl
class_is Close Close h = refl
class_is Comma Comma h = refl
class_is Semi Semi h = refl
class_is Equals Equals h = refl
class_is (Word m) (Word n) h = ap Word (mark_is m n h)
class_is c x h = cc

pub bind_is : {A B : Type 0} (o : Option A) (f : A → Option B) (y : B) → bind o f ≡ Some y → (x : A) × (o ≡ Some x) × (f x ≡ Some y)
bind_is None f y h = cc
bind_is (Some x) f y h = (x, refl, h)

mapped : {A B : Type 0} (f : A → B) (o : Option A) (y : B) → option_map f o ≡ Some y → (x : A) × (o ≡ Some x) × (f x ≡ y)
mapped f None y h = cc
mapped f (Some x) y h = (x, refl, (let e : Some (f x) ≡ Some y = h in cc))

deeper_is : (o : Option (Option ℕ)) (f : Option ℕ → List Sign) (r : List Sign) → deeper o f ≡ Some r → (e : Option ℕ) × (o ≡ Some e) × (f e ≡ r)
deeper_is None f r h = cc
deeper_is (Some e) f r h = (e, refl, cc)

along : (α β : List Sign) (xs : List Class) → α ≡ β → Derives β xs → Derives α xs
along α β xs e h = let P : List Sign → Type 0 = λ x. Derives x xs in subst P (sym e) h

-- a value begins with this token, and goes on as the machine says
value_step : (d : Option ℕ) (x : Class) (r α : List Sign) (xs : List Class) → next_value d x ≡ Some r → Derives (r ++ α) xs → Derives (Value d ∷ α) (x ∷ xs)
value_step d Simple r α xs h k = let e : [] ≡ r = cc in rule (Value d) (T Simple ∷ []) (simple d) (token Simple (along α (r ++ α) xs (ap (λ q. q ++ α) e) k))
value_step d Name r α xs h k = let e : [] ≡ r = cc in rule (Value d) (T Name ∷ []) (name d) (token Name (along α (r ++ α) xs (ap (λ q. q ++ α) e) k))
value_step d Open r α xs h k =
    let got = deeper_is (down d) (λ e. Inside e ∷ []) r h in
    rule (Value d) (T Open ∷ Inside got.0 ∷ []) (list d got.0 got.1) (token Open (along (Inside got.0 ∷ α) (r ++ α) xs (ap (λ q. q ++ α) got.2) k))
value_step d (Word m) r α xs h k =
    let got = deeper_is (down d) (λ e. T Open ∷ Value e ∷ T Close ∷ []) r h in
    rule (Value d) (AnyWord ∷ T Open ∷ Value got.0 ∷ T Close ∷ []) (typed d got.0 got.1) (word m (along (T Open ∷ Value got.0 ∷ T Close ∷ α) (r ++ α) xs (ap (λ q. q ++ α) got.2) k))
value_step d Close r α xs h k = cc
value_step d Comma r α xs h k = cc
value_step d Semi r α xs h k = cc
value_step d Equals r α xs h k = cc

inside_step : (d : Option ℕ) (x : Class) (r α : List Sign) (xs : List Class) → option_map (λ r. r ++ After d ∷ []) (next_value d x) ≡ Some r → Derives (r ++ α) xs → Derives (Inside d ∷ α) (x ∷ xs)
inside_step d x r α xs h k =
    let got = mapped (λ r. r ++ After d ∷ []) (next_value d x) r h in
    let e : got.0 ++ (After d ∷ α) ≡ r ++ α = sym (append_assoc got.0 (After d ∷ []) α) ∙ ap (λ q. q ++ α) got.2 in
    rule (Inside d) (Value d ∷ After d ∷ []) (first d) (value_step d x got.0 (After d ∷ α) xs got.1 (along _ _ xs e k))

equal : (c : Class) (r : List Sign) (b : Bool) → cond b (Some []) None ≡ Some r → (b ≡ true) × (r ≡ [])
equal c r true h = (refl, (let e : [] ≡ r = cc in sym e))
equal c r false h = cc

token_step : (c x : Class) (r α : List Sign) (xs : List Class) → next (T c) x ≡ Some r → Derives (r ++ α) xs → Derives (T c ∷ α) (x ∷ xs)
token_step c x r α xs h k =
    let got = equal c r (same c x) h in
    let e : c ≡ x = class_is c x got.0 in
    let P : Class → Type 0 = λ y. Derives (T y ∷ α) (x ∷ xs) in
    subst P (sym e) (token x (along α (r ++ α) xs (ap (λ q. q ++ α) (sym got.1)) k))

by : (s : Sign) (q r α : List Sign) (c : Class) (xs : List Class) → Rule s (T c ∷ q) → Some q ≡ Some r → Derives (r ++ α) xs → Derives (s ∷ α) (c ∷ xs)
by s q r α c xs w h k = let e : q ≡ r = cc in rule s (T c ∷ q) w (token c (along (q ++ α) (r ++ α) xs (ap (λ y. y ++ α) e) k))

by_word : (s : Sign) (q r α : List Sign) (m : Mark) (xs : List Class) → Rule s (AnyWord ∷ q) → Some q ≡ Some r → Derives (r ++ α) xs → Derives (s ∷ α) (Word m ∷ xs)
by_word s q r α m xs w h k = let e : q ≡ r = cc in rule s (AnyWord ∷ q) w (word m (along (q ++ α) (r ++ α) xs (ap (λ y. y ++ α) e) k))

-- the machine's step is a rule and a token
one_step : (s : Sign) (x : Class) (r α : List Sign) (xs : List Class) → next s x ≡ Some r → Derives (r ++ α) xs → Derives (s ∷ α) (x ∷ xs)
one_step (T c) x r α xs h k = token_step c x r α xs h k
one_step AnyWord (Word m) r α xs h k = let e : [] ≡ r = cc in word m (along α (r ++ α) xs (ap (λ q. q ++ α) e) k)
one_step AnyWord _ r α xs h k = cc
one_step Statements (Word EndSec) r α xs h k = by Statements _ r α (Word EndSec) xs ending h k
one_step Statements (Word Iso) r α xs h k = by Statements _ r α (Word Iso) xs (statement Iso tt) h k
one_step Statements (Word Header) r α xs h k = by Statements _ r α (Word Header) xs (statement Header tt) h k
one_step Statements (Word Data) r α xs h k = by Statements _ r α (Word Data) xs (statement Data tt) h k
one_step Statements (Word EndIso) r α xs h k = by Statements _ r α (Word EndIso) xs (statement EndIso tt) h k
one_step Statements (Word Other) r α xs h k = by Statements _ r α (Word Other) xs (statement Other tt) h k
one_step Statements _ r α xs h k = cc
one_step AfterEnd Open r α xs h k = by AfterEnd _ r α Open xs again h k
one_step AfterEnd Semi r α xs h k = by AfterEnd _ r α Semi xs content h k
one_step AfterEnd _ r α xs h k = cc
one_step Instances Name r α xs h k = by Instances _ r α Name xs instance h k
one_step Instances (Word EndSec) r α xs h k = by Instances _ r α (Word EndSec) xs finish h k
one_step Instances _ r α xs h k = cc
one_step Body (Word m) r α xs h k = by_word Body _ r α m xs plain h k
one_step Body Open r α xs h k = by Body _ r α Open xs complex h k
one_step Body _ r α xs h k = cc
one_step Ones Close r α xs h k = by Ones _ r α Close xs closed h k
one_step Ones (Word m) r α xs h k = by_word Ones _ r α m xs one h k
one_step Ones _ r α xs h k = cc
one_step (Value d) x r α xs h k = value_step d x r α xs h k
one_step (Inside d) Close r α xs h k = by (Inside d) [] r α Close xs (empty d) h k
one_step (Inside d) x r α xs h k = inside_step d x r α xs h k
one_step (After d) Close r α xs h k = by (After d) [] r α Close xs (last d) h k
one_step (After d) Comma r α xs h k = by (After d) _ r α Comma xs (more d) h k
one_step (After d) _ r α xs h k = cc

pub sound : (α : List Sign) (xs : List Class) → run α xs ≡ Some [] → Derives α xs
sound α [] h = (let e : α ≡ [] = cc in along α [] [] e done)
sound [] (x ∷ xs) h = cc
sound (s ∷ α) (x ∷ xs) h =
    let got = bind_is (step (s ∷ α) x) (λ β. run β xs) [] h in
    let st = mapped (λ r. r ++ α) (next s x) got.0 got.1 in
    one_step s x st.0 α xs st.1 (along _ got.0 xs st.2 (sound got.0 xs got.2))

-- Completeness.

unmade : {α : List Sign} → Some α ≡ Some [] → α ≡ []
unmade h = cc

nonempty : (s : Sign) (q α : List Sign) → Rule s q → q ++ α ≡ [] → ⊥
nonempty s q α (simple d) h = cc
nonempty s q α w h = cc

statement_rule : (m n : Mark) (α : List Sign) (xs : List Class) → IsPlainMark m → run (T (Word m) ∷ T Open ∷ Inside None ∷ T Semi ∷ Statements ∷ α) (Word n ∷ xs) ≡ Some [] → run (Statements ∷ α) (Word n ∷ xs) ≡ Some []
statement_rule Iso Iso α xs w h = h
statement_rule Header Header α xs w h = h
statement_rule Data Data α xs w h = h
statement_rule EndIso EndIso α xs w h = h
statement_rule Other Other α xs w h = h
statement_rule EndSec n α xs w h = absurd w
statement_rule m n α xs w h = cc

first_rule : (d : Option ℕ) (o : Option (List Sign)) (α : List Sign) (xs : List Class) → bind (option_map (λ r. r ++ (After d ∷ α)) o) (λ β. run β xs) ≡ Some []
    → bind (option_map (λ r. r ++ α) (option_map (λ r. r ++ After d ∷ []) o)) (λ β. run β xs) ≡ Some []
first_rule d None α xs h = cc
first_rule d (Some r) α xs h = rw (append_assoc r (After d ∷ []) α) h

by_rule : (s : Sign) (q α : List Sign) (xs : List Class) → Rule s q → run (q ++ α) xs ≡ Some [] → run (s ∷ α) xs ≡ Some []
by_rule s q α [] w h = absurd (nonempty s q α w (unmade h))
by_rule s q α (Simple ∷ xs) (simple d) h = h
by_rule s q α (x ∷ xs) (simple d) h = cc
by_rule s q α (Name ∷ xs) (name d) h = h
by_rule s q α (x ∷ xs) (name d) h = cc
by_rule s q α (Open ∷ xs) (list d e w) h = rw w h
by_rule s q α (x ∷ xs) (list d e w) h = cc
by_rule s q α (Word m ∷ xs) (typed d e w) h = rw w h
by_rule s q α (x ∷ xs) (typed d e w) h = cc
by_rule s q α (Close ∷ xs) (empty d) h = h
by_rule s q α (x ∷ xs) (empty d) h = cc
by_rule s q α (Close ∷ xs) (first d) h = cc
by_rule s q α (x ∷ xs) (first d) h = first_rule d (next_value d x) α xs h
by_rule s q α (Close ∷ xs) (last d) h = h
by_rule s q α (x ∷ xs) (last d) h = cc
by_rule s q α (Comma ∷ xs) (more d) h = h
by_rule s q α (x ∷ xs) (more d) h = cc
by_rule s q α (Word n ∷ xs) (statement m w) h = statement_rule m n α xs w h
by_rule s q α (x ∷ xs) (statement m w) h = cc
by_rule s q α (Word EndSec ∷ xs) ending h = h
by_rule s q α (Word m ∷ xs) ending h = cc
by_rule s q α (x ∷ xs) ending h = cc
by_rule s q α (Open ∷ xs) again h = h
by_rule s q α (x ∷ xs) again h = cc
by_rule s q α (Semi ∷ xs) content h = h
by_rule s q α (x ∷ xs) content h = cc
by_rule s q α (Name ∷ xs) instance h = h
by_rule s q α (x ∷ xs) instance h = cc
by_rule s q α (Word EndSec ∷ xs) finish h = h
by_rule s q α (Word m ∷ xs) finish h = cc
by_rule s q α (x ∷ xs) finish h = cc
by_rule s q α (Word m ∷ xs) plain h = h
by_rule s q α (x ∷ xs) plain h = cc
by_rule s q α (Open ∷ xs) complex h = h
by_rule s q α (x ∷ xs) complex h = cc
by_rule s q α (Close ∷ xs) closed h = h
by_rule s q α (x ∷ xs) closed h = cc
by_rule s q α (Word m ∷ xs) one h = h
by_rule s q α (x ∷ xs) one h = cc

pub complete : (α : List Sign) (xs : List Class) → Derives α xs → run α xs ≡ Some []
complete α xs done = refl
complete α xs (token c d) = rw (same_refl c) (complete _ _ d)
complete α xs (word m d) = complete _ _ d
complete α xs (rule s q w d) = by_rule s q _ xs w (complete _ _ d)

-- What is wanted can come.

pub ending_of : (s : Sign) (α : List Sign) (xs : List Class) → Derives α xs → (ys : List Class) × Derives (s ∷ α) ys
ending_of (T c) α xs h = (c ∷ xs, token c h)
ending_of AnyWord α xs h = (Word Other ∷ xs, word Other h)
ending_of Statements α xs h = (_, rule Statements _ ending (token (Word EndSec) (rule AfterEnd _ content (token Semi (token (Word Data) (token Semi h))))))
ending_of AfterEnd α xs h = (_, rule AfterEnd _ content (token Semi (token (Word Data) (token Semi h))))
ending_of Instances α xs h = (_, rule Instances _ finish (token (Word EndSec) (token Semi (token (Word EndIso) (token Semi h)))))
ending_of Body α xs h = (_, rule Body _ plain (word Other (token Open (rule (Inside (Some (MOST_DEPTH - 1))) _ (empty (Some (MOST_DEPTH - 1))) (token Close h)))))
ending_of Ones α xs h = (_, rule Ones _ closed (token Close h))
ending_of (Value d) α xs h = (_, rule (Value d) _ (simple d) (token Simple h))
ending_of (Inside d) α xs h = (_, rule (Inside d) _ (empty d) (token Close h))
ending_of (After d) α xs h = (_, rule (After d) _ (last d) (token Close h))

ending_all : (α : List Sign) → (ys : List Class) × Derives α ys
ending_all [] = ([], done)
ending_all (s ∷ α) = let e = ending_all α in ending_of s α e.0 e.1

-- Viable fronts.

bind_run : (o : Option (List Sign)) (p q : List Class) → ((β : List Sign) → run β (p ++ q) ≡ bind (run β p) (λ γ. run γ q))
    → bind o (λ β. run β (p ++ q)) ≡ bind (bind o (λ β. run β p)) (λ γ. run γ q)
bind_run None p q h = refl
bind_run (Some β) p q h = h β

pub run_append : (α : List Sign) (p q : List Class) → run α (p ++ q) ≡ bind (run α p) (λ β. run β q)
run_append α [] q = refl
run_append α (x ∷ p) q = bind_run (step α x) p q (λ β. run_append β p q)

is_some : {A : Type 0} (o : Option A) (x : A) → o ≡ Some x → IsSome o
is_some o x h = rw h refl

some_is : {A : Type 0} (o : Option A) → IsSome o → (x : A) × (o ≡ Some x)
some_is None h = cc
some_is (Some x) h = (x, refl)

pub file_iff : (ts : List Class) → IsFile ts ↔ (run file ts ≡ Some [])
file_iff ts = (complete file ts, sound file ts)

viable_some : (ts : List Class) → IsViable ts → IsSome (run file ts)
viable_some ts v =
    let r = complete file (ts ++ v.0) v.1 in
    let got = bind_is (run file ts) (λ β. run β v.0) [] (sym (run_append file ts v.0) ∙ r) in
    is_some (run file ts) got.0 got.1

some_viable : (ts : List Class) → IsSome (run file ts) → IsViable ts
some_viable ts h =
    let got = some_is (run file ts) h in
    let e = ending_all got.0 in
    let r : run file (ts ++ e.0) ≡ Some [] = run_append file ts e.0 ∙ ap (λ o. bind o (λ β. run β e.0)) got.1 ∙ complete got.0 e.0 e.1 in
    (e.0, sound file (ts ++ e.0) r)

pub viable_iff : (ts : List Class) → IsViable ts ↔ IsSome (run file ts)
viable_iff ts = (viable_some ts, some_viable ts)
