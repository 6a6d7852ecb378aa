-- A head while its bytes come.
use Rattle.std.proofs.Common.{◌≡◌, ℕ, suc, ◌<◌, length, get_or, drop-cons, ◌==◌, ◌||◌, ◌&&◌, Bool, true, false, List, [], ◌∷◌, ◌++◌, take, drop, if◌then◌else◌, Option, Some, None, IsSome, refl, sym, ap, ◌∙◌, arith, subst, inl, inr, ◌⊎◌}
use Rattle.std.proofs.lemmas.List.{take-append-drop}
use Rattle.std.proofs.lemmas.Bool.{eqb-true}
use Rattle.httparse.specs.declared.spans.HeaderSpan.{HeaderSpan}
use Rattle.httparse.specs.Grammar.{HasNoRequest, NeverHasRequest}
use Rattle.http_frame.specs.declared.parser.Judged.{Judged}
use Rattle.http_frame.specs.declared.parser.Judged.TheVariants.{Open, Never, Head, Crowded}
use Rattle.http_frame.specs.declared.field_lines.Place.{Place}
use Rattle.http_frame.specs.declared.field_lines.Place.TheVariants.{Start, Name, Value, Cr, Last, Done, Dead}
use Rattle.http_frame.specs.declared.field_lines.Spot.{Spot}
use Rattle.http_frame.specs.declared.field_lines.Spot.TheVariants.{Before, BeforeCr, Line, Fields}
use Rattle.http_frame.specs.declared.watch.Look.TheVariants.{Unfinished, Hopeless}
use Rattle.http_frame.specs.Heads.{before, begins_lf, line_at, first_line}
use Rattle.http_frame.specs.inner.Judged.{IsJudged}
use Rattle.http_frame.specs.Scan.{run, step, IsOpen, after_lf, after_line, IsStarted, spot_step, spot_run, IsAsked}
use Rattle.http_frame.specs.Watched.{is_early, is_open, is_open_place, look_of, IsLook}
use Rattle.http_frame.proofs.Lines.{head_line, may_is_hope}
use Rattle.http_frame.proofs.HeadLaws.{line_of_some, some_of_line}
use Rattle.http_frame.proofs.Started.{started_stays, may_is_started, open_has_none, open_has_hope}

spots-append : (s : Spot) (xs ys : List ℕ) → spot_run s (xs ++ ys) ≡ spot_run (spot_run s xs) ys
spots-append s [] ys = refl
spots-append s (b ∷ xs) ys = spots-append (spot_step s b) xs ys

fields_run : (p : Place) (t : List ℕ) → spot_run (Fields p) t ≡ Fields (run p t)
fields_run p [] = refl
fields_run p (b ∷ t) = fields_run (step p b) t

-- the new bytes go on from where the earlier ones led
pub walked : (s r : Spot) (n : ℕ) (xs : List ℕ) → s ≡ spot_run Before (take n xs) → r ≡ spot_run s (drop n xs) → r ≡ spot_run Before xs
walked s r n xs e f =
    f ∙ ap (λ v. spot_run v (drop n xs)) e ∙ sym (spots-append Before (take n xs) (drop n xs)) ∙ ap (spot_run Before) (take-append-drop n xs)

done_stays : (t : List ℕ) → spot_run (Fields Done) t ≡ Fields Done
done_stays [] = refl
done_stays (b ∷ t) = done_stays t

dead_stays : (t : List ℕ) → spot_run (Fields Dead) t ≡ Fields Dead
dead_stays [] = refl
dead_stays (b ∷ t) = dead_stays t

-- what follows the end of a head, or a byte that ends all hope, leads nowhere else
pub closed_stays : (s : Spot) (t : List ℕ) → is_open s ≡ false → spot_run s t ≡ s
closed_stays Before t e = let bad : true ≡ false = e in cc
closed_stays BeforeCr t e = let bad : true ≡ false = e in cc
closed_stays Line t e = let bad : true ≡ false = e in cc
closed_stays (Fields Start) t e = let bad : true ≡ false = e in cc
closed_stays (Fields Name) t e = let bad : true ≡ false = e in cc
closed_stays (Fields Value) t e = let bad : true ≡ false = e in cc
closed_stays (Fields Cr) t e = let bad : true ≡ false = e in cc
closed_stays (Fields Last) t e = let bad : true ≡ false = e in cc
closed_stays (Fields Done) t e = done_stays t
closed_stays (Fields Dead) t e = dead_stays t

pub walked_out : (s here r : Spot) (bytes : List ℕ) (i : ℕ) → i < length bytes → spot_run here (drop i bytes) ≡ spot_run s bytes
    → r ≡ spot_step here (get_or bytes i 0) → is_open r ≡ false → r ≡ spot_run s bytes
walked_out s here r bytes i lt so_far next closed =
    let behind = drop (suc i) bytes in
    sym (closed_stays r behind closed) ∙ ap (λ v. spot_run v behind) next ∙ sym (ap (spot_run here) (drop-cons bytes i 0 lt)) ∙ so_far

-- the first line is whole and the fields follow, or it is not whole
abbrev IsBegun : Option (List ℕ) → List ℕ → Spot → Type 0
IsBegun line after s = ((l : List ℕ) × (line ≡ Some l) × (s ≡ Fields (run Start after))) ⊎ ((line ≡ None) × (is_early s ≡ true))

later : (b : ℕ) (o : Option (List ℕ)) (a : List ℕ) (s : Spot) → IsBegun o a s → IsBegun (before b o) a s
later b o a s (inl (l, e, f)) = inl (b ∷ l, rw e refl, f)
later b o a s (inr (e, f)) = inr (rw e refl, f)

line_step : (c : Bool) (b : ℕ) (o : Option (List ℕ)) (bytes a : List ℕ) → IsBegun o a (spot_run Line bytes)
    → IsBegun (if c then Some [] else before b o) (if c then bytes else a) (spot_run (if c then Fields Start else Line) bytes)
line_step true b o bytes a x = inl ([], refl, fields_run Start bytes)
line_step false b o bytes a x = later b o a (spot_run Line bytes) x

line_begun : (bytes : List ℕ) → IsBegun (line_at bytes) (after_lf bytes) (spot_run Line bytes)
unfolding line_at
line_begun [] = inr (refl, refl)
line_begun (b ∷ bytes) = line_step (b == 10) b (line_at bytes) bytes (after_lf bytes) (line_begun bytes)

cr_step : (b k : ℕ) (e f : Bool) (x y o : Option (List ℕ)) (bs m n a : List ℕ) → IsBegun x m (spot_run Before bs) → IsBegun o a (spot_run Line bs)
    → IsBegun (if e then (if e || f then x else y) else before b (if e then Some [] else before k o)) (if e then (if e || f then m else n) else (if e then bs else a)) (spot_run (if e then Before else Line) bs)
cr_step b k true f x y o bs m n a p q = p
cr_step b k false f x y o bs m n a p q = later b (before k o) a (spot_run Line bs) (later k o a (spot_run Line bs) q)

first_step : (b : ℕ) (c d e : Bool) (x o : Option (List ℕ)) (m a bytes : List ℕ) → (c ≡ true → d ≡ true → ⊥)
    → IsBegun x m (spot_run Before bytes)
    → IsBegun (if e then x else before b o) (if e then m else a) (spot_run BeforeCr bytes)
    → IsBegun o a (spot_run Line bytes)
    → IsBegun (if d || (c && e) then x else (if d then Some [] else before b o)) (if d || (c && e) then m else (if d then bytes else a)) (spot_run (if c then BeforeCr else (if d then Before else Line)) bytes)
first_step b true true e x o m a bytes not_both p q r = absurd (not_both refl refl)
first_step b true false e x o m a bytes not_both p q r = q
first_step b false true e x o m a bytes not_both p q r = p
first_step b false false e x o m a bytes not_both p q r = later b o a (spot_run Line bytes) r

not_both : (b : ℕ) → (b == 13) ≡ true → (b == 10) ≡ true → ⊥
not_both b c d = two b (eqb-true b 13 c) (eqb-true b 10 d)
  where
    two : (b : ℕ) → b ≡ 13 → b ≡ 10 → ⊥
    two b e f = omega arith

begun : (bytes : List ℕ) → IsBegun (first_line bytes) (after_line bytes) (spot_run Before bytes)
unfolding first_line line_at after_line
begun [] = inr (refl, refl)
begun (b ∷ []) =
    first_step b (b == 13) (b == 10) false None None [] [] [] (not_both b) (inr (refl, refl)) (inr (refl, refl)) (inr (refl, refl))
begun (b ∷ k ∷ bs) =
    first_step b (b == 13) (b == 10) (k == 10) (first_line (k ∷ bs)) (line_at (k ∷ bs)) (after_line (k ∷ bs)) (after_lf (k ∷ bs)) (k ∷ bs) (not_both b)
    (begun (k ∷ bs))
    (cr_step b k (k == 10) (k == 13 && begins_lf bs) (first_line bs) (line_at (k ∷ bs)) (line_at bs) bs (after_line bs) (after_lf (k ∷ bs)) (after_lf bs) (begun bs) (line_begun bs))
    (line_begun (k ∷ bs))

fields_not_early : (s : Spot) (p : Place) → s ≡ Fields p → is_early s ≡ true → ⊥
fields_not_early s p e f = let bad : false ≡ true = sym (ap is_early e) ∙ f in cc

-- ---- what the walk tells

pub early_is_none : (front : List ℕ) → is_early (spot_run Before front) ≡ true → first_line front ≡ None
early_is_none front early = elim (begun front) [ inl x ↦ absurd (fields_not_early (spot_run Before front) _ x.2 early) | inr x ↦ x.0 ]

pub late_is_some : (front : List ℕ) → is_early (spot_run Before front) ≡ false → (l : List ℕ) × (first_line front ≡ Some l) × (spot_run Before front ≡ Fields (run Start (after_line front)))
late_is_some front late = elim (begun front) [ inl x ↦ x | inr x ↦ absurd (both (is_early (spot_run Before front)) x.1 late) ]
  where
    both : (b : Bool) → b ≡ true → b ≡ false → ⊥
    both b e f = let bad : true ≡ false = sym e ∙ f in cc

none_has_no_head : (front : List ℕ) → first_line front ≡ None → HasNoRequest front × ¬ (IsSome (first_line front) × NeverHasRequest front)
none_has_no_head front none = (
  λ h rest reads. let l = head_line front h rest reads in apart (first_line front) l.0 none l.1,
  λ x. let l = line_of_some (first_line front) x.0 in apart (first_line front) l.0 none l.1,
)
  where
    apart : (o : Option (List ℕ)) (l : List ℕ) → o ≡ None → o ≡ Some l → ⊥
    apart o l e f = let bad : None ≡ Some l = sym e ∙ f in cc

pub early_look : (front : List ℕ) (s : Spot) → s ≡ spot_run Before front → is_early s ≡ true → HasNoRequest front × ¬ (IsSome (first_line front) × NeverHasRequest front)
early_look front s e early = none_has_no_head front (early_is_none front (ap is_early (sym e) ∙ early))

pub early_asked : (s : Spot) (bytes : List ℕ) → is_early s ≡ true → IsAsked s bytes
early_asked Before bytes e = tt
early_asked BeforeCr bytes e = tt
early_asked Line bytes e = tt
early_asked (Fields p) bytes e = let bad : false ≡ true = e in cc

asked_at : (s : Spot) (p : Place) (bytes : List ℕ) → s ≡ Fields p → IsStarted bytes → IsAsked s bytes
asked_at s p bytes e x = subst (λ (v : Spot). IsAsked v bytes) (sym e) x

started_at : (s : Spot) (p : Place) (bytes : List ℕ) → s ≡ Fields p → IsAsked s bytes → IsStarted bytes
started_at s p bytes e x = subst (λ (v : Spot). IsAsked v bytes) e x

open_at : (p : Place) → is_open_place p ≡ true → IsOpen p
open_at Start e = tt
open_at Name e = tt
open_at Value e = tt
open_at Cr e = tt
open_at Last e = tt
open_at Done e = let bad : false ≡ true = e in cc
open_at Dead e = let bad : false ≡ true = e in cc

-- what was asked of the earlier bytes holds of all
pub asked_stays : (n : ℕ) (front : List ℕ) (old new : Spot) → old ≡ spot_run Before (take n front) → new ≡ spot_run Before front
    → is_early old ≡ false → is_early new ≡ false → IsAsked old (take n front) → IsAsked new front
asked_stays n front old new e f late later asked =
    let early = late_is_some (take n front) (ap is_early (sym e) ∙ late) in
    let whole = late_is_some front (ap is_early (sym f) ∙ later) in
    let started = started_at old _ (take n front) (e ∙ early.2) asked in
    let grown : IsStarted front = subst (λ (b : List ℕ). IsStarted b) (take-append-drop n front) (started_stays (take n front) (drop n front) early.0 early.1 started) in
    asked_at new _ front (f ∙ whole.2) grown

pub open_look : (front : List ℕ) (s : Spot) → s ≡ spot_run Before front → is_early s ≡ false → is_open s ≡ true → IsAsked s front
    → HasNoRequest front × ¬ (IsSome (first_line front) × NeverHasRequest front)
open_look front s e late opened asked =
    let whole = late_is_some front (ap is_early (sym e) ∙ late) in
    let here : IsOpen (run Start (after_line front)) = open_at (run Start (after_line front)) (ap is_open (sym (e ∙ whole.2)) ∙ opened) in
    let started = started_at s _ front (e ∙ whole.2) asked in
    (open_has_none front here, λ x. open_has_hope front started here x.1)

-- ---- what the parser tells

pub judged_look : (front : List ℕ) (headers : List HeaderSpan) (s : Spot) (j : Judged) → s ≡ spot_run Before front → is_early s ≡ false
    → IsJudged front headers j → IsLook front headers (look_of j)
judged_look front headers s Open e late x =
    let whole = late_is_some front (ap is_early (sym e) ∙ late) in
    (x.0, λ y. may_is_hope front whole.0 whole.1 x.1 y.1)
judged_look front headers s Never e late x =
    let whole = late_is_some front (ap is_early (sym e) ∙ late) in (some_of_line (first_line front) whole.0 whole.1, x)
judged_look front headers s (Head spans) e late x = x
judged_look front headers s Crowded e late x = x

pub judged_asked : (front : List ℕ) (headers : List HeaderSpan) (s : Spot) (j : Judged) → s ≡ spot_run Before front → is_early s ≡ false
    → IsJudged front headers j → look_of j ≡ Unfinished → IsAsked s front
judged_asked front headers s Open e late x is =
    let whole = late_is_some front (ap is_early (sym e) ∙ late) in asked_at s _ front (e ∙ whole.2) (may_is_started front whole.0 whole.1 x.1)
judged_asked front headers s Never e late x is = absurd (apart is)
  where
    apart : Hopeless ≡ Unfinished → ⊥
    apart e = cc
judged_asked front headers s (Head spans) e late x is = cc
judged_asked front headers s Crowded e late x is = cc
