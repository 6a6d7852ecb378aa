-- What a framer keeps while bytes are fed and let go.
use Rattle.std.proofs.Common.{◌≡◌, ℕ, ◌+◌, ◌<◌, ◌≤◌, ◌==◌, ◌↔◌, Bool, true, false, List, [], ◌∷◌, ◌++◌, length, take, drop, if◌then◌else◌, Some, None, Result, Ok, Err, refl, sym, ap, ◌∙◌, arith, append_assoc, subst}
use Rattle.std.specs.Prelude.{OnOk, OnErr}
use Rattle.std.proofs.lemmas.Bool.{eqb-true}
use Rattle.std.proofs.lemmas.List.{length-append, length-drop, take_all, take-append-le, drop-append-le}
use Rattle.httparse.specs.Grammar.{RequestHead, LineEnd, crlf, lf, print_blank}
use Rattle.http_frame.specs.declared.types.FrameFault.{FrameFault}
use Rattle.http_frame.specs.declared.watch.Watch.{Watch}
use Rattle.http_frame.specs.declared.field_lines.Spot.{Spot}
use Rattle.http_frame.specs.declared.field_lines.Spot.TheVariants.{Before, BeforeCr, Line, Fields}
use Rattle.http_frame.specs.declared.field_lines.Place.TheVariants.{Start}
use Rattle.http_frame.specs.declared.field_lines.Place.{Place}
use Rattle.http_frame.specs.declared.seen.GoodHead.{GoodHead}
use Rattle.http_frame.specs.declared.seen.Seen.TheVariants as seen
use Rattle.http_frame.specs.declared.head.Plan.{Plan}
use Rattle.http_frame.specs.declared.head.Plan.TheVariants as plan
use Rattle.http_frame.specs.declared.stage.Awaited.{Awaited}
use Rattle.http_frame.specs.declared.stage.Awaited.TheVariants.{Sized, Chunked, Whole}
use Rattle.http_frame.specs.declared.stage.Pending.{Pending}
use Rattle.http_frame.specs.declared.stage.Stage.{Stage}
use Rattle.http_frame.specs.declared.stage.Stage.TheVariants.{Head, Body, Failed}
use Rattle.http_frame.specs.Heads.{front, first_line, framing, most_body, most_head, HasGoodHead}
use Rattle.http_frame.specs.Bodies.{ReadsBody}
use Rattle.http_frame.specs.Events.{IsRest, IsBlank}
use Rattle.http_frame.specs.Scan.{spot_step, spot_run}
use Rattle.http_frame.specs.Watched.{is_early, IsWatch}
use Rattle.http_frame.specs.inner.RequestHeads.{IsSeen}
use Rattle.http_frame.specs.Chunks.{IsReading}
use Rattle.http_frame.specs.FramerStages.{awaited_of, pending_of, IsBodyAt, IsOwed, StandsAt, IsFilled, IsSafe, Keeps, Grows, is_failed, is_before}
use Rattle.http_frame.proofs.Lines.{head_line}
use Rattle.http_frame.proofs.HeadLaws.{front_more, good_stays}
use Rattle.http_frame.proofs.BodyLaws.{body_stays}
use Rattle.http_frame.proofs.EventLaws.{fails_stays, asks_stays, told_stays, fails_settles, settled}
use Rattle.http_frame.proofs.Watching.{early_is_none}

-- ---- bytes are let go

pub keeps_same : (stage : Stage) (items : List ℕ) (at : ℕ) → Keeps stage items at items at
unfolding Keeps
keeps_same stage items at = λ bytes told x. x

pub keeps_items : (stage : Stage) (items new : List ℕ) (at : ℕ) → new ≡ items → Keeps stage items at new at
unfolding Keeps
keeps_items stage items new at e = λ bytes told x. subst (λ (i : List ℕ). StandsAt stage i at bytes told) (sym e) x

pub head_keeps : (watch : Watch) (items new : List ℕ) (at place : ℕ) → drop place new ≡ drop at items → Keeps (Head watch) items at new place
unfolding Keeps
head_keeps watch items new at place e = λ bytes told x. (x.0, x.1 ∙ sym e)

pub head_safe : (watch : Watch) (items new : List ℕ) (at place : ℕ) → place ≤ length new → drop place new ≡ drop at items → IsSafe (Head watch) items at → IsSafe (Head watch) new place
head_safe watch items new at place le e x = (
  le,
  subst (λ (b : List ℕ). watch.seen ≤ length (front b)) (sym e) x.1,
  subst (λ (b : List ℕ). IsWatch watch (take watch.seen (front b))) (sym e) x.2,
)

pub safe_items : (stage : Stage) (items new : List ℕ) (at : ℕ) → new ≡ items → IsSafe stage items at → IsSafe stage new at
safe_items stage items new at e x = subst (λ (i : List ℕ). IsSafe stage i at) (sym e) x

-- ---- bytes are fed

pub safe_at : (stage : Stage) (items : List ℕ) (at : ℕ) → IsSafe stage items at → at ≤ length items
safe_at (Head watch) items at x = x.0
safe_at (Body p) items at x = x.0
safe_at (Failed fault) items at x = x

longer : (at : ℕ) (items piece : List ℕ) → at ≤ length items → at ≤ length (items ++ piece)
longer at items piece le = omega (arith, length-append items piece)

watch_grows : (watch : Watch) (bytes more : List ℕ) → watch.seen ≤ length (front bytes) → IsWatch watch (take watch.seen (front bytes))
    → (watch.seen ≤ length (front (bytes ++ more))) × IsWatch watch (take watch.seen (front (bytes ++ more)))
watch_grows watch bytes more le is =
    let m = front_more bytes more in
    let size : length (front (bytes ++ more)) ≡ length (front bytes) + length m.0 = ap length m.1 ∙ length-append (front bytes) m.0 in
    let same : take watch.seen (front (bytes ++ more)) ≡ take watch.seen (front bytes) = ap (take watch.seen) m.1 ∙ take-append-le watch.seen (front bytes) m.0 le in
    (omega arith, subst (λ (b : List ℕ). IsWatch watch b) (sym same) is)

pub safe_grows : (stage : Stage) (items piece new : List ℕ) (at : ℕ) → new ≡ items ++ piece → IsSafe stage items at → IsSafe stage new at
safe_grows stage items piece new at e x = subst (λ (i : List ℕ). IsSafe stage i at) (sym e) (grown stage x)
  where
    grown : (s : Stage) → IsSafe s items at → IsSafe s (items ++ piece) at
    grown (Head watch) x =
        let cut = drop-append-le at items piece x.0 in
        let w = watch_grows watch (drop at items) piece x.1 x.2 in (
          longer at items piece x.0,
          subst (λ (b : List ℕ). watch.seen ≤ length (front b)) (sym cut) w.0,
          subst (λ (b : List ℕ). IsWatch watch (take watch.seen (front b))) (sym cut) w.1,
        )
    grown (Body p) x = (longer at items piece x.0, x.1)
    grown (Failed fault) x = longer at items piece x

owed_grows : (owes told : Bool) (bytes piece behind : List ℕ) (h : RequestHead) → HasGoodHead bytes h behind → IsOwed owes told bytes → IsOwed owes told (bytes ++ piece)
owed_grows true told bytes piece behind h good x = (x.0, asks_stays bytes piece x.1)
owed_grows false told bytes piece behind h good x = told_stays bytes piece told (settled bytes piece h behind good) x

body_grows : (body : Awaited) (h : RequestHead) (behind items piece : List ℕ) (at : ℕ) → at ≤ length items → IsFilled body at → IsBodyAt body h behind items at
    → IsBodyAt body h (behind ++ piece) (items ++ piece) at
body_grows (Sized n) h behind items piece at le fill x =
    (x.0, ap (λ b. b ++ piece) x.1 ∙ sym (drop-append-le at items piece le))
body_grows (Chunked c) h behind items piece at le fill x =
    let same : take c.filled (items ++ piece) ≡ take c.filled items = take-append-le c.filled items piece (within c.filled at (length items) fill le) in (
      x.0,
      (
        x.1.0,
        ap (λ b. b ++ piece) x.1.1 ∙ append_assoc x.1.0 (drop at items) piece ∙ ap (λ b. x.1.0 ++ b) (sym (drop-append-le at items piece le)),
        subst (λ (t : List ℕ). IsReading (most_body h) x.1.0 t c.part c.room) (sym same) x.1.2,
      ),
    )
  where
    within : (a b c : ℕ) → a ≤ b → b ≤ c → a ≤ c
    within a b c x y = omega arith
body_grows (Whole filled) h behind items piece at le fill x =
    let same : take filled (items ++ piece) ≡ take filled items = take-append-le filled items piece (within filled at (length items) fill le) in
    let more = body_stays (most_body h) (framing h) behind piece (take filled items) (drop at items) x in
    subst (λ (t : List ℕ). ReadsBody (most_body h) (framing h) (behind ++ piece) t (drop at (items ++ piece))) (sym same)
    (subst (λ (t : List ℕ). ReadsBody (most_body h) (framing h) (behind ++ piece) (take filled items) t) (sym (drop-append-le at items piece le)) more)
  where
    within : (a b c : ℕ) → a ≤ b → b ≤ c → a ≤ c
    within a b c x y = omega arith

stands_grows : (stage : Stage) (items piece : List ℕ) (at : ℕ) → IsSafe stage items at → (bytes : List ℕ) (told : Bool) → StandsAt stage items at bytes told
    → StandsAt stage (items ++ piece) at (bytes ++ piece) told
stands_grows (Head watch) items piece at safe bytes told x =
    (x.0, ap (λ b. b ++ piece) x.1 ∙ sym (drop-append-le at items piece safe.0))
stands_grows (Body p) items piece at safe bytes told x =
    let of = x.1 in (
      owed_grows p.owes told bytes piece of.behind of.head of.good x.0,
      record {
        head = of.head;
        behind = of.behind ++ piece;
        good = good_stays bytes piece of.head of.behind of.good;
        facts_are = of.facts_are;
        body_is = body_grows p.body of.head of.behind items piece at safe.0 safe.1 of.body_is;
      },
    )
stands_grows (Failed fault) items piece at safe bytes told x =
    (told_stays bytes piece told (fails_settles bytes piece fault x.1) x.0, fails_stays bytes piece fault x.1)

pub grows : (stage : Stage) (items piece new : List ℕ) (at : ℕ) → new ≡ items ++ piece → IsSafe stage items at → Grows stage items at new piece
unfolding Grows
grows stage items piece new at e safe = λ bytes told x.
    subst (λ (i : List ℕ). StandsAt stage i at (bytes ++ piece) told) (sym e) (stands_grows stage items piece at safe bytes told x)

failed_stands : (stage : Stage) (items piece : List ℕ) (at : ℕ) → is_failed stage ≡ true → (bytes : List ℕ) (told : Bool) → StandsAt stage items at bytes told
    → StandsAt stage items at (bytes ++ piece) told
failed_stands (Head watch) items piece at is bytes told x = let bad : false ≡ true = is in cc
failed_stands (Body p) items piece at is bytes told x = let bad : false ≡ true = is in cc
failed_stands (Failed fault) items piece at is bytes told x =
    (told_stays bytes piece told (fails_settles bytes piece fault x.1) x.0, fails_stays bytes piece fault x.1)

pub failed_grows : (stage : Stage) (items piece : List ℕ) (at : ℕ) → is_failed stage ≡ true → Grows stage items at items piece
unfolding Grows
failed_grows stage items piece at is = λ bytes told x. failed_stands stage items piece at is bytes told x

-- ---- the stages that a step leaves are safe

take_none : (items : List ℕ) → take 0 items ≡ []
take_none [] = refl
take_none (b ∷ items) = refl

pub start_safe : (items : List ℕ) (at : ℕ) → at ≤ length items → IsSafe (Head (record { spot = Before; seen = 0 })) items at
start_safe items at le = (le, omega arith, (sym (ap (spot_run Before) (take_none (front (drop at items)))), tt))

pub seen_safe : (next : Watch) (items : List ℕ) (at : ℕ) → at ≤ length items → IsSeen (drop at items) (seen.Unfinished next) → IsSafe (Head next) items at
seen_safe next items at le is =
    let bytes = drop at items in
    let short : length bytes < most_head = is.2 in
    let whole : front bytes ≡ bytes = take_all most_head bytes (omega arith) in
    let all : next.seen ≡ length bytes = is.3 in
    let taken : take next.seen (front bytes) ≡ bytes = ap (take next.seen) whole ∙ take_all next.seen bytes (omega arith) in
    let size : length (front bytes) ≡ length bytes = ap length whole in
    (le, omega arith, subst (λ (b : List ℕ). IsWatch next b) (sym taken) is.4)

planned_filled : (p : Plan) (at : ℕ) → IsFilled (awaited_of p) at
planned_filled plan.Absent at = tt
planned_filled (plan.Sized n) at = tt
planned_filled (plan.Chunked most) at = omega arith

pub good_safe : (g : GoodHead) (items : List ℕ) (at : ℕ) → at ≤ length items → IsSeen (drop at items) (seen.Good g) → IsSafe (Body (pending_of g)) items (at + g.len)
good_safe g items at le is =
    let fits : g.len ≤ length (drop at items) = is.0 in
    (omega (arith, length-drop at items), planned_filled g.plan (at + g.len))

-- ---- between requests

abbrev IsAfter : Spot → Type 0
IsAfter Before = ⊥
IsAfter BeforeCr = ⊥
IsAfter Line = Unit {0}
IsAfter (Fields p) = Unit {0}

after_line : (c : Bool) (p : Place) → IsAfter (if c then Fields p else Line)
after_line true p = tt
after_line false p = tt

after_step : (s : Spot) (b : ℕ) → IsAfter s → IsAfter (spot_step s b)
after_step Before b a = absurd a
after_step BeforeCr b a = absurd a
after_step Line b a = after_line (b == 10) Start
after_step (Fields p) b a = tt

after_run : (s : Spot) (t : List ℕ) → IsAfter s → IsAfter (spot_run s t)
after_run s [] a = a
after_run s (b ∷ t) a = after_run (spot_step s b) t (after_step s b a)

not_before : (s : Spot) → IsAfter s → is_before s ≡ true → ⊥
not_before Before a e = a
not_before BeforeCr a e = a
not_before Line a e = let bad : false ≡ true = e in cc
not_before (Fields p) a e = let bad : false ≡ true = e in cc

-- the bytes are empty lines, the first of which lacks its CR
abbrev IsRestOf : Spot → List ℕ → Type 0
IsRestOf Before t = IsBlank t
IsRestOf BeforeCr t = IsBlank (13 ∷ t)
IsRestOf Line t = ⊥
IsRestOf (Fields p) t = ⊥

add_lf : (t : List ℕ) → IsBlank t → IsBlank (10 ∷ t)
add_lf t (ends, e) = (lf ∷ ends, ap (λ x. 10 ∷ x) e)

add_crlf : (t : List ℕ) → IsBlank t → IsBlank (13 ∷ 10 ∷ t)
add_crlf t (ends, e) = (crlf ∷ ends, ap (λ x. 13 ∷ 10 ∷ x) e)

blank_first : (b : ℕ) (t : List ℕ) (c d : Bool) → (c ≡ true → b ≡ 13) → (d ≡ true → b ≡ 10)
    → ((s : Spot) → is_before (spot_run s t) ≡ true → IsRestOf s t)
    → is_before (spot_run (if c then BeforeCr else (if d then Before else Line)) t) ≡ true → IsBlank (b ∷ t)
blank_first b t true d cr nl ih e = subst (λ (v : ℕ). IsBlank (v ∷ t)) (sym (cr refl)) (ih BeforeCr e)
blank_first b t false true cr nl ih e = subst (λ (v : ℕ). IsBlank (v ∷ t)) (sym (nl refl)) (add_lf t (ih Before e))
blank_first b t false false cr nl ih e = absurd (ih Line e)

blank_second : (b : ℕ) (t : List ℕ) (d : Bool) → (d ≡ true → b ≡ 10) → ((s : Spot) → is_before (spot_run s t) ≡ true → IsRestOf s t)
    → is_before (spot_run (if d then Before else Line) t) ≡ true → IsBlank (13 ∷ b ∷ t)
blank_second b t true nl ih e = subst (λ (v : ℕ). IsBlank (13 ∷ v ∷ t)) (sym (nl refl)) (add_crlf t (ih Before e))
blank_second b t false nl ih e = absurd (ih Line e)

no_bytes : (s : Spot) → is_before s ≡ true → IsRestOf s []
no_bytes Before e = ([], refl)
no_bytes BeforeCr e = let bad : false ≡ true = e in cc
no_bytes Line e = let bad : false ≡ true = e in cc
no_bytes (Fields p) e = let bad : false ≡ true = e in cc

walked_blank : (s : Spot) (t : List ℕ) → is_before (spot_run s t) ≡ true → IsRestOf s t
walked_blank s [] e = no_bytes s e
walked_blank Before (b ∷ t) e = blank_first b t (b == 13) (b == 10) (eqb-true b 13) (eqb-true b 10) (λ s. walked_blank s t) e
walked_blank BeforeCr (b ∷ t) e = blank_second b t (b == 10) (eqb-true b 10) (λ s. walked_blank s t) e
walked_blank Line (b ∷ t) e = not_before (spot_run Line (b ∷ t)) (after_run Line (b ∷ t) tt) e
walked_blank (Fields p) (b ∷ t) e = not_before (spot_run (Fields p) (b ∷ t)) (after_run (Fields p) (b ∷ t) tt) e

blank_walk : (ends : List LineEnd) → spot_run Before (print_blank ends) ≡ Before
blank_walk [] = refl
blank_walk (crlf ∷ ends) = blank_walk ends
blank_walk (lf ∷ ends) = blank_walk ends

blank_is_before : (bytes : List ℕ) → IsBlank bytes → is_before (spot_run Before bytes) ≡ true
blank_is_before bytes (ends, e) = ap (λ b. is_before (spot_run Before b)) e ∙ ap is_before (blank_walk ends)

pub head_between : (bytes items : List ℕ) (at : ℕ) (b : Bool) → bytes ≡ drop at items → b ≡ is_before (spot_run Before (drop at items)) → (b ≡ true) ↔ IsBlank bytes
head_between bytes items at b e is = (
  λ t. walked_blank Before bytes (ap (λ x. is_before (spot_run Before x)) e ∙ sym is ∙ t),
  λ blank. is ∙ ap (λ x. is_before (spot_run Before x)) (sym e) ∙ blank_is_before bytes blank,
)

-- bytes with a head are not empty lines alone
pub head_not_blank : (bytes : List ℕ) (h : RequestHead) (behind : List ℕ) → HasGoodHead bytes h behind → IsBlank bytes → ⊥
head_not_blank bytes h behind good (ends, e) =
    let l = head_line bytes h behind good.whole.0 in
    let none : first_line bytes ≡ None = early_is_none bytes (ap (λ b. is_early (spot_run Before b)) e ∙ ap is_early (blank_walk ends)) in
    let bad : Some l.0 ≡ None = sym l.1 ∙ none in cc

apart : false ≡ true → ⊥
apart e = cc

pub body_between : (p : Pending) (items : List ℕ) (at : ℕ) (bytes : List ℕ) (told : Bool) → StandsAt (Body p) items at bytes told → (false ≡ true) ↔ IsBlank bytes
body_between p items at bytes told x = (λ t. absurd (apart t), λ blank. absurd (head_not_blank bytes x.1.head x.1.behind x.1.good blank))

pub failed_between : (fault : FrameFault) (items : List ℕ) (at : ℕ) (bytes : List ℕ) (told : Bool) → StandsAt (Failed fault) items at bytes told → IsRest bytes
    → (false ≡ true) ↔ IsBlank bytes
failed_between fault items at bytes told x rest = absurd (rest.1 fault x.1)

pub on_err : {A E : Type 0} (r : Result A E) (P : Type 0) → P → OnErr r P
on_err (Ok a) P x = tt
on_err (Err e) P x = x

pub feed_ok : {A E : Type 0} (r : Result A E) (stage : Stage) (old mid new piece : List ℕ) (at place : ℕ) → Keeps stage old at mid place → OnOk r (Grows stage mid place new piece)
    → OnOk r ((bytes : List ℕ) (told : Bool) → StandsAt stage old at bytes told → StandsAt stage new place (bytes ++ piece) told)
unfolding Keeps Grows
feed_ok (Ok a) stage old mid new piece at place k g = λ bytes told x. g bytes told (k bytes told x)
feed_ok (Err e) stage old mid new piece at place k g = tt

pub feed_err : {A E : Type 0} (r : Result A E) (stage : Stage) (old mid new : List ℕ) (at place : ℕ) → Keeps stage old at mid place → OnErr r (Keeps stage mid place new place)
    → OnErr r ((bytes : List ℕ) (told : Bool) → StandsAt stage old at bytes told → StandsAt stage new place bytes told)
unfolding Keeps
feed_err (Ok a) stage old mid new at place k g = tt
feed_err (Err e) stage old mid new at place k g = λ bytes told x. g bytes told (k bytes told x)
