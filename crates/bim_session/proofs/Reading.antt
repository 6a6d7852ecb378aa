-- The events that a session reads.
use Rattle.std.proofs.Common.{◌≡◌, ℕ, ◌+◌, Bool, true, false, List, [], ◌∷◌, ◌++◌, ◌||◌, refl, sym, ap, ◌∙◌, subst, add_assoc, arith}
use Rattle.http_frame.specs.Events.{Event, Ending, Spells}
use Rattle.http_frame.specs.Events as frame
use Rattle.http_frame.proofs.EventLaws.{begins_stays, asks_stays, begins_settles, told_stays}
use Rattle.bim_session.specs.Session.{Reads, counted, requests, closes, is_closed}

-- what was read stays, whatever follows
pub Reads_more : (bytes : List ℕ) (told : Bool) (events : List Event) (rest : List ℕ) (mark : Bool) (piece : List ℕ)
    → Reads bytes told events rest mark → Reads (bytes ++ piece) told events (rest ++ piece) mark
Reads_more bytes told [] rest mark piece reads = (ap (λ b. b ++ piece) reads.0, reads.1)
Reads_more bytes told (frame.continue ∷ events) rest mark piece reads =
    (reads.0, asks_stays bytes piece reads.1, Reads_more bytes true events rest mark piece reads.2)
Reads_more bytes told (frame.request r ∷ events) rest mark piece reads = (
  told_stays bytes piece told (begins_settles bytes piece r reads.1.0 reads.1.1) reads.0,
  (
    reads.1.0 ++ piece,
    begins_stays bytes piece r reads.1.0 reads.1.1,
    Reads_more reads.1.0 false events rest mark piece reads.1.2,
  ),
)

-- events are read one after another
pub Reads_append : (bytes : List ℕ) (told : Bool) (events : List Event) (rest : List ℕ) (mark : Bool) (later : List Event) (last : List ℕ) (end : Bool)
    → Reads bytes told events rest mark → Reads rest mark later last end → Reads bytes told (events ++ later) last end
Reads_append bytes told [] rest mark later last end reads next =
    subst (λ (b : List ℕ). Reads b told later last end) (sym reads.0) (subst (λ (t : Bool). Reads rest t later last end) (sym reads.1) next)
Reads_append bytes told (frame.continue ∷ events) rest mark later last end reads next =
    (reads.0, reads.1, Reads_append bytes true events rest mark later last end reads.2 next)
Reads_append bytes told (frame.request r ∷ events) rest mark later last end reads next =
    (reads.0, (reads.1.0, reads.1.1, Reads_append reads.1.0 false events rest mark later last end reads.1.2 next))

-- what the rest spells follows what was read
pub reads_spell : (bytes rest : List ℕ) (told mark : Bool) (events more : List Event) (ending : Ending)
    → Reads bytes told events rest mark → Spells rest mark more ending → Spells bytes told (events ++ more) ending
reads_spell bytes rest told mark [] more ending reads spells =
    subst (λ (b : List ℕ). Spells b told more ending) (sym reads.0) (subst (λ (t : Bool). Spells rest t more ending) (sym reads.1) spells)
reads_spell bytes rest told mark (frame.continue ∷ events) more ending reads spells =
    (reads.0, reads.1, reads_spell bytes rest true mark events more ending reads.2 spells)
reads_spell bytes rest told mark (frame.request r ∷ events) more ending reads spells =
    (reads.0, (reads.1.0, reads.1.1, reads_spell reads.1.0 rest false mark events more ending reads.1.2 spells))

-- ---- how many requests, and whether one closes

pub requests-push : (events : List Event) (event : Event) → requests (events ++ event ∷ []) ≡ requests events + counted event
requests-push [] event = let e : counted event + 0 ≡ 0 + counted event = omega arith in e
requests-push (q ∷ events) event =
    ap (λ n. counted q + n) (requests-push events event) ∙ sym (add_assoc (counted q) (requests events) (counted event))

pub or_false : (a b : Bool) → (a || b) ≡ false → (a ≡ false) × (b ≡ false)
or_false true b e = cc
or_false false b e = (refl, e)

or_last : (a : Bool) → (a || false) ≡ a
or_last true = refl
or_last false = refl

-- after events of which none closes the last one decides
pub is_closed-push : (n : ℕ) (events : List Event) (event : Event) → is_closed n events ≡ false → is_closed n (events ++ event ∷ []) ≡ closes (n + requests events) event
is_closed-push n [] event open_ =
    or_last (closes n event) ∙ ap (λ k. closes k event) (let e : n ≡ n + 0 = omega arith in e)
is_closed-push n (q ∷ events) event open_ =
    let parts = or_false (closes n q) (is_closed (n + counted q) events) open_ in
    ap (λ b. b || is_closed (n + counted q) (events ++ event ∷ [])) parts.0
    ∙ is_closed-push (n + counted q) events event parts.1
    ∙ ap (λ k. closes k event) (add_assoc n (counted q) (requests events))
