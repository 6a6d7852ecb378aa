-- What a sink and a block hold of what was put.
use Rattle.std.proofs.Common.{◌≡◌, ℕ, List, [], ◌++◌, Result, Ok, Err, inl, inr, refl, sym, ◌∙◌, ap, append_assoc, append-nil, subst, arith}
use Rattle.std.specs.Prelude.{IsErrAnd}
use Rattle.bim_io.specs.Causes.{Rose, ComesOfFault}
use Rattle.bim_io.specs.StreamViews.{SinkSeen, SinkTakes}
use Rattle.bim_io.proofs.Calls.{takes_none, takes_trans}
use Rattle.batch_commands.specs.declared.block.Stop.{Stop}
use Rattle.batch_commands.specs.declared.block.Stop.TheVariants.{Write, Memory}
use Rattle.bim_io.specs.Writes.{WritesLess}
use Rattle.batch_commands.specs.PrintedOutput.{WritesFront, Stops, Flushes, Puts, Prints, status_of, stop_status}

-- what a `?` returns
pub residual : {A E : Type 0} (r : Result A E) (e : E) → IsErrAnd r (λ x. x ≡ e) → r ≡ Err e
residual (Ok a) e h = absurd h
residual (Err x) e h = ap (λ y. Err y) h

-- a write that failed is a reason to stop
pub less_stops : (a b : SinkSeen) (bytes : List ℕ) → WritesLess a b bytes → Flushes a b bytes (Err Write)
less_stops a b bytes w = ((w.0, w.1, w.2, w.4), w.5)

-- nothing is written if memory runs out first
pub memory_stops : (a : SinkSeen) (bytes : List ℕ) → WritesFront a a bytes × Stops a a Memory
memory_stops a bytes = (([], bytes, refl, takes_none a), refl)

-- more bytes would have come after those of which a front was written
front_longer : (a b : SinkSeen) (bytes rest whole : List ℕ) → WritesFront a b bytes → whole ≡ bytes ++ rest → WritesFront a b whole
front_longer a b bytes rest whole f e =
    (f.0, f.1 ++ rest, e ∙ ap (λ xs. xs ++ rest) f.2 ∙ append_assoc f.0 f.1 rest, f.3)

-- ---- a block

pub put_none : (a : SinkSeen) (block : List ℕ) → Puts a a block block [] (Ok tt)
put_none a block = ([], append-nil block, takes_none a, refl)

-- ---- one text after the other

pub put_more : (a b c : SinkSeen) (x y z s t : List ℕ) → Puts a b x y s (Ok tt) → Puts b c y z t (Ok tt) → Puts a c x z (s ++ t) (Ok tt)
put_more a b c x y z s t p q = (
  p.0 ++ q.0,
  sym (append_assoc x s t) ∙ ap (λ xs. xs ++ t) p.1 ∙ append_assoc p.0 y t ∙ ap (λ xs. p.0 ++ xs) q.1 ∙ sym (append_assoc p.0 q.0 z),
  takes_trans a b c p.0 q.0 p.2 q.2,
  q.3 ∙ p.3,
)

stops_later : (a b c : SinkSeen) (stop : Stop) → b.faults ≡ a.faults → Stops b c stop → Stops a c stop
stops_later a b c Write same rose = subst (λ n. Rose n c.faults) same rose
stops_later a b c Memory same still = still ∙ same

-- what was put stands written or in the block
put_parts : (x y s t written : List ℕ) → x ++ s ≡ written ++ y → x ++ (s ++ t) ≡ written ++ (y ++ t)
put_parts x y s t written e = sym (append_assoc x s t) ∙ ap (λ xs. xs ++ t) e ∙ append_assoc written y t

front_later : (a b c : SinkSeen) (x y s t : List ℕ) → Puts a b x y s (Ok tt) → WritesFront b c (y ++ t) → WritesFront a c (x ++ (s ++ t))
front_later a b c x y s t p f = (
  p.0 ++ f.0,
  f.1,
  put_parts x y s t p.0 p.1 ∙ ap (λ xs. p.0 ++ xs) f.2 ∙ sym (append_assoc p.0 f.0 f.1),
  takes_trans a b c p.0 f.0 p.2 f.3,
)

-- a text can't be put, so a front of the whole was written
pub put_stopped : (a b c : SinkSeen) (x y s t rest whole : List ℕ) (stop : Stop) → Puts a b x y s (Ok tt) → WritesFront b c (y ++ t) × Stops b c stop
    → whole ≡ s ++ (t ++ rest) → WritesFront a c (x ++ whole) × Stops a c stop
put_stopped a b c x y s t rest whole stop p f e =
    let same : x ++ whole ≡ (x ++ (s ++ t)) ++ rest = ap (λ xs. x ++ xs) (e ∙ sym (append_assoc s t rest)) ∙ sym (append_assoc x (s ++ t) rest) in
    (front_longer a c (x ++ (s ++ t)) rest (x ++ whole) (front_later a b c x y s t p f.0) same, stops_later a b c stop p.3 f.1)

-- memory runs out for a text
pub put_wanting : (a b : SinkSeen) (x y s rest whole : List ℕ) → Puts a b x y s (Ok tt) → whole ≡ s ++ rest → WritesFront a b (x ++ whole) × Stops a b Memory
put_wanting a b x y s rest whole p e =
    ((p.0, y ++ rest, ap (λ xs. x ++ xs) e ∙ put_parts x y s rest p.0 p.1, p.2), p.3)

-- what stands in the block is written last
pub put_last : (a b c : SinkSeen) (x y s : List ℕ) (r : Result (Unit {0}) Stop) → x ≡ [] → Puts a b x y s (Ok tt) → Flushes b c y r → Flushes a c s r
put_last a b c x y s (Ok u) none p f =
    let same : p.0 ++ y ≡ s = sym p.1 ∙ ap (λ xs. xs ++ s) none in
    (subst (λ xs. SinkTakes a c xs) same (takes_trans a b c p.0 y p.2 f.0), f.1 ∙ p.3)
put_last a b c x y s (Err stop) none p f =
    let front : WritesFront b c (y ++ []) = subst (λ xs. WritesFront b c xs) (sym (append-nil y)) f.0 in
    let whole : WritesFront a c (x ++ s) × Stops a c stop = put_stopped a b c x y s [] [] s stop p (front, f.1) (sym (append-nil s)) in
    (subst (λ xs. WritesFront a c xs) (ap (λ xs. xs ++ s) none) whole.0, whole.1)

-- the first of two texts can't be put into an empty block
pub first_stopped : (a b : SinkSeen) (x s rest whole : List ℕ) (stop : Stop) → x ≡ [] → WritesFront a b (x ++ s) × Stops a b stop → whole ≡ s ++ rest → Flushes a b whole (Err stop)
first_stopped a b x s rest whole stop none f e =
    (front_longer a b (x ++ s) rest whole f.0 (e ∙ ap (λ xs. (xs ++ s) ++ rest) (sym none)), f.1)

-- nor the second
pub second_stopped : (a b c : SinkSeen) (x y s t whole : List ℕ) (stop : Stop) → x ≡ [] → Puts a b x y s (Ok tt) → WritesFront b c (y ++ t) × Stops b c stop
    → whole ≡ s ++ t → Flushes a c whole (Err stop)
second_stopped a b c x y s t whole stop none p f e =
    let all : WritesFront a c (x ++ whole) × Stops a c stop = put_stopped a b c x y s t [] whole stop p f (e ∙ ap (λ xs. s ++ xs) (sym (append-nil t))) in
    (subst (λ xs. WritesFront a c xs) (ap (λ xs. xs ++ whole) none) all.0, all.1)

-- ---- statuses

pub prints_of : (a b : SinkSeen) (bytes : List ℕ) (done status : ℕ) (r : Result (Unit {0}) Stop) → Flushes a b bytes r → status ≡ status_of done r → Prints a b bytes done status
prints_of a b bytes done status (Ok u) f e = inl (e, f.0, f.1)
prints_of a b bytes done status (Err stop) f e = inr (stop, e, f.0, f.1)

-- such a status is never that of a file that can't be read
stop_not_four : (status : ℕ) (stop : Stop) → status ≡ stop_status stop → status ≡ 4 → ⊥
stop_not_four status Write e four = omega (arith, e, four)
stop_not_four status Memory e four = omega (arith, e, four)

pub prints_not_four : (a b : SinkSeen) (bytes : List ℕ) (done status : ℕ) → Prints a b bytes done status → (done ≡ 4 → ⊥) → status ≡ 4 → ⊥
prints_not_four a b bytes done status (inl p) other four = other (sym p.0 ∙ four)
prints_not_four a b bytes done status (inr p) other four = stop_not_four status p.0 p.1 four

-- the status of a failed write comes of one
stop_rose : (a b : SinkSeen) (status : ℕ) (stop : Stop) → status ≡ stop_status stop → Stops a b stop → status ≡ 5 → Rose a.faults b.faults
stop_rose a b status Write e rose five = rose
stop_rose a b status Memory e still five = absurd (omega (arith, e, five))

pub prints_rose : (a b : SinkSeen) (bytes : List ℕ) (done status : ℕ) → Prints a b bytes done status → (done ≡ 5 → ⊥) → status ≡ 5 → Rose a.faults b.faults
prints_rose a b bytes done status (inl p) other five = absurd (other (sym p.0 ∙ five))
prints_rose a b bytes done status (inr p) other five = stop_rose a b status p.0 p.1 p.3 five

-- nothing failed, and another status
pub no_fault : (n n' status : ℕ) → n' ≡ n → (status ≡ 4 → ⊥) → ComesOfFault n n' (status ≡ 4)
no_fault n n' status same other = record { only = λ four. absurd (other four); always = λ less. absurd (omega (arith, same, less)) }
