-- Reading from left to right: what stands at the front of the bytes, and the bytes behind it.
use Rattle.std.specs.Prelude.{◌≡◌, ℕ, zero, suc, ◌==◌, Bool, cond, List, [], ◌∷◌, length, take, drop, nat_le, option_and_then, Option, Some, None, Result, Ok, Err}
use Rattle.feed_frames.specs.declared.read_error.ReadError.{ReadError}
use Rattle.feed_frames.specs.declared.read_error.ReadError.TheVariants.{NotSpelled, Memory}

-- a value at the front and the rest, or none where no value stands there
abbrev pub Reader : Type 0 → Type 0
Reader A = List ℕ → Option (A × List ℕ)

-- the next step, where the first found something
abbrev pub option_then : {A B : Type 0} → Option A → (A → Option B) → Option B
option_then o f = option_and_then f o

-- no bytes
abbrev pub nothing_at : Reader (Unit {0})
nothing_at bytes = Some (tt, bytes)

-- one byte
abbrev pub byte_at : Reader ℕ
byte_at [] = None
byte_at (b ∷ rest) = Some (b, rest)

-- so many bytes
abbrev pub cut_at : ℕ → Reader (List ℕ)
cut_at n bytes = cond (nat_le n (length bytes)) (Some (take n bytes, drop n bytes)) None

-- one value behind another
abbrev pub both_at : {A B : Type 0} → Reader A → Reader B → Reader (A × B)
both_at first second bytes =
    option_then (first bytes) (λ x. option_then (second x.1) (λ y. Some ((x.0, y.0), y.1)))

-- what is made of a value
abbrev pub made_at : {A B : Type 0} → (A → B) → Reader A → Reader B
made_at into read bytes = option_then (read bytes) (λ x. Some (into x.0, x.1))

-- a value that passes a test
abbrev pub checked_at : {A : Type 0} → (A → Bool) → Reader A → Reader A
checked_at passes read bytes = option_then (read bytes) (λ x. cond (passes x.0) (Some x) None)

-- so many values
abbrev pub items_at : {A : Type 0} → Reader A → ℕ → Reader (List A)
items_at read zero bytes = Some ([], bytes)
items_at read (suc n) bytes =
    option_then (read bytes) (λ x. option_then (items_at read n x.1) (λ xs. Some (x.0 ∷ xs.0, xs.1)))

-- what is read behind a byte, by the byte
abbrev pub Kinds : Type 0 → Type 0
Kinds A = ℕ → Reader A

-- behind none
abbrev pub no_kind : {A : Type 0} → Kinds A
no_kind kind bytes = None

-- behind this byte so, behind another as the others say
abbrev pub kind_at : {A : Type 0} → ℕ → Reader A → Kinds A → Kinds A
kind_at number read others kind bytes = cond (kind == number) (read bytes) (others kind bytes)

-- a byte, and what it says that follows
abbrev pub kinds_at : {A : Type 0} → Kinds A → Reader A
kinds_at kinds bytes = option_then (byte_at bytes) (λ b. kinds b.0 b.1)

-- a call that failed met want of memory, or no value stands at the front
abbrev pub Fails : {A : Type 0} → ReadError → Option A → Type 0
Fails Memory read = Unit {0}
Fails NotSpelled read = read ≡ None

-- what a call returned and left is what is read
abbrev pub Gives : {A : Type 0} → Result A ReadError → List ℕ → Option (A × List ℕ) → Type 0
Gives (Ok x) rest read = read ≡ Some (x, rest)
Gives (Err e) rest read = Fails e read

-- the same where a value has to meet a condition that is no test
abbrev pub Refuses : {A : Type 0} → (A → Type 0) → ReadError → Option (A × List ℕ) → Type 0
Refuses good Memory read = Unit {0}
Refuses {A} good NotSpelled read = (x : A) (rest : List ℕ) → read ≡ Some (x, rest) → good x → ⊥

-- what a call returned and left is what is read, and meets the condition; or nothing that does is read
abbrev pub Admits : {A : Type 0} → (A → Type 0) → Result A ReadError → List ℕ → Option (A × List ℕ) → Type 0
Admits good (Ok x) rest read = (read ≡ Some (x, rest)) × good x
Admits good (Err e) rest read = Refuses good e read

-- the same of what is seen of a value, as of bytes that are lent
abbrev pub GivesBy : {X A : Type 0} → (X → A) → Result X ReadError → List ℕ → Option (A × List ℕ) → Type 0
GivesBy view (Ok x) rest read = read ≡ Some (view x, rest)
GivesBy view (Err e) rest read = Fails e read

-- a call that failed met want of memory, or this holds
abbrev pub Lacks : {X : Type 0} → Result X ReadError → Type 0 → Type 0
Lacks (Ok x) missing = Unit {0}
Lacks (Err Memory) missing = Unit {0}
Lacks (Err NotSpelled) missing = missing
