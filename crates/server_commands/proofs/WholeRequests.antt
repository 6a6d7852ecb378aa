-- A source that has whole requests to give, where nothing fails.
use Rattle.std.proofs.Common.{◌≡◌, ◌⊎◌, ◌<◌, ℕ, ◌+◌, Bool, true, false, List, [], ◌∷◌, ◌++◌, length, Option, None, Some, IsTrue, inl, inr, refl, sym, ap, ◌∙◌, subst, add_assoc, append-nil, arith}
use Rattle.std.specs.Io.KnownBytes.{prepend_known, IsAtEnd}
use Rattle.bim_io.specs.StreamViews.{Outside}
use Rattle.http_frame.specs.declared.types.FrameFault.{FrameFault}
use Rattle.http_frame.specs.Events.{Event, Ending, Spells}
use Rattle.http_frame.specs.Events as frame
use Rattle.http_frame.proofs.EventLaws.{told_not, ends_not, begins_unique, spells_unique, spells_fault}
use Rattle.book_history.specs.declared.limits.Settings.{Settings}
use Rattle.bim_session.specs.declared.end.SessionEnd.{SessionEnd}
use Rattle.bim_session.specs.declared.end.SessionEnd.TheVariants as end
use Rattle.bim_session.specs.Session.{Stop, Ends, Reads, counted, requests, most_requests, is_closed, behind}
use Rattle.bim_session.specs.Replay.{Replays, beginning, status_of}
use Rattle.bim_session.proofs.Reading.{Reads_more, reads_spell}
use Rattle.server_commands.specs.WholeSessions.{ReplaysAlone, AreWhole, NothingFailed, AllAnswered, EndsWhole, WholeRequestsAreAnswered}

-- what was read is the first of what the bytes spell
reads_front : (bytes : List ℕ) (told : Bool) (es : List Event) (rest : List ℕ) (mark : Bool) (fs : List Event) → Reads bytes told es rest mark → Spells bytes told fs frame.between
    → (gs : List Event) × (fs ≡ es ++ gs)
reads_front bytes told [] rest mark fs x y = (fs, refl)
reads_front bytes told (frame.continue ∷ es) rest mark [] x y = absurd (told_not told bytes y.0 x.0 x.1)
reads_front bytes told (frame.continue ∷ es) rest mark (frame.continue ∷ fs) x y =
    let s = reads_front bytes true es rest mark fs x.2 y.2 in (s.0, ap (λ v. frame.continue ∷ v) s.1)
reads_front bytes told (frame.continue ∷ es) rest mark (frame.request r ∷ fs) x y = absurd (told_not told bytes y.0 x.0 x.1)
reads_front bytes told (frame.request r ∷ es) rest mark [] x y = absurd (ends_not bytes frame.between r x.1.0 y.1 x.1.1)
reads_front bytes told (frame.request r ∷ es) rest mark (frame.continue ∷ fs) x y = absurd (told_not told bytes x.0 y.0 y.1)
reads_front bytes told (frame.request r ∷ es) rest mark (frame.request q ∷ fs) x y =
    let same = begins_unique bytes r q x.1.0 y.1.0 x.1.1 y.1.1 in
    let s = reads_front x.1.0 false es rest mark fs x.1.2 (subst (λ (v : List ℕ). Spells v false fs frame.between) (sym same.1) y.1.2) in
    (s.0, λ i. frame.request (sym same.0 i) ∷ s.1 i)

requests_append : (es gs : List Event) → requests (es ++ gs) ≡ requests es + requests gs
requests_append [] gs = let e : requests gs ≡ 0 + requests gs = omega arith in e
requests_append (e ∷ es) gs = ap (λ n. counted e + n) (requests_append es gs) ∙ sym (add_assoc (counted e) (requests es) (requests gs))

-- what was given is a front of what there was
given_front : (bytes input : List ℕ) (left : Option (List ℕ)) → Some bytes ≡ prepend_known input left → (more : List ℕ) × (left ≡ Some more) × (bytes ≡ input ++ more)
given_front bytes input None e = let no : Some bytes ≡ None = e in let bad : ⊥ = cc in absurd bad
given_front bytes input (Some more) e = let same : Some bytes ≡ Some (input ++ more) = e in (more, refl, cc)

-- all was given where the end was answered
all_given : (bytes input more : List ℕ) (left : Option (List ℕ)) → left ≡ Some more → bytes ≡ input ++ more → IsAtEnd left → input ≡ bytes
all_given bytes input more left is front at_end =
    let none : more ≡ [] = subst (λ (l : Option (List ℕ)). IsAtEnd l) is at_end in
    sym (front ∙ ap (λ l. input ++ l) none ∙ append-nil input)

-- the events of the whole are those that were answered
module _ (bytes input more : List ℕ) (events answered : List Event) (rest : List ℕ) (told : Bool) (front : bytes ≡ input ++ more) (whole : AreWhole bytes events)
    (reads : Reads input false answered rest told) where
  later : (gs : List Event) × (events ≡ answered ++ gs)
  later = reads_front (input ++ more) false answered (rest ++ more) told events (Reads_more input false answered rest told more reads)
      (subst (λ (b : List ℕ). Spells b false events frame.between) front whole.spells)

  -- where the bytes that are left spell nothing, all was answered, and they end as the whole does
  all_read : (ending : Ending) → input ≡ bytes → Spells rest told [] ending → (answered ++ [] ≡ events) × (ending ≡ frame.between)
  all_read ending all spells =
      spells_unique input false (answered ++ []) events ending frame.between (reads_spell input rest false told answered [] ending reads spells)
      (subst (λ (b : List ℕ). Spells b false events frame.between) (sym all) whole.spells)

  no_fault_left : (f : FrameFault) → Spells rest told [] (frame.bad f) → ⊥
  no_fault_left f spells =
      let is : Spells bytes false (answered ++ []) (frame.bad f) =
      subst (λ (b : List ℕ). Spells b false (answered ++ []) (frame.bad f)) (sym front)
      (spells_fault input more false (answered ++ []) f (reads_spell input rest false told answered [] (frame.bad f) reads spells)) in
      let same : frame.bad f ≡ frame.between = (spells_unique bytes false (answered ++ []) events (frame.bad f) frame.between is whole.spells).1 in cc

  not_spent : requests answered ≡ most_requests → ⊥
  not_spent spent =
      let sum : requests events ≡ requests answered + requests later.0 = ap requests later.1 ∙ requests_append answered later.0 in
      let few : requests events < most_requests = whole.few in omega (arith, sum, few, spent)

-- how the session ends
module _ (bytes : List ℕ) (events : List Event) (settings : Settings) (buckets : Option ℕ) (before after : Outside) (e : SessionEnd) (alone : ReplaysAlone settings buckets before after e)
    (whole : AreWhole bytes events) (good : NothingFailed before after) (more : List ℕ) (left : after.source.left ≡ Some more) (front : bytes ≡ alone.replays.input ++ more) where
  abbrev r : Replays settings buckets before after e
  r = alone.replays

  abbrev answered : List Event
  answered = r.session.events

  abbrev stop : Stop
  stop = record {
    standing = behind (beginning settings buckets r.history (length r.steps)) answered r.session.done r.session.printed;
    closed = is_closed 0 answered;
    ended = after.source.ended;
    rest = r.session.rest;
    told = r.session.told;
    moments = r.session.late;
    bytes = r.session.tail;
    steps = r.session.more;
  }

  abbrev Well : Type 0
  Well = EndsWhole events answered e (length r.steps)

  ended_well : Ends stop e → Well
  ended_well (inl x) =
      let all : r.input ≡ bytes = all_given bytes r.input more after.source.left left front (r.empty x.3) in
      let same = all_read bytes r.input more events answered r.session.rest r.session.told front whole r.session.reads frame.between all x.4 in
      inl (ap status_of x.0, inl (sym (append-nil answered) ∙ same.0))
  ended_well (inr (inl x)) =
      inl (ap status_of x.0, inr (x.1, later bytes r.input more events answered r.session.rest r.session.told front whole r.session.reads))
  ended_well (inr (inr (inl x))) =
      let all : r.input ≡ bytes = all_given bytes r.input more after.source.left left front (r.empty x.3) in
      let same : frame.within ≡ frame.between = (all_read bytes r.input more events answered r.session.rest r.session.told front whole r.session.reads frame.within all x.4).1 in let bad : ⊥ = cc in absurd bad
  ended_well (inr (inr (inr (inl x)))) = absurd (good.0 (r.read_fault.only (stop.standing.served, x.0)))
  ended_well (inr (inr (inr (inr (inl x))))) = absurd (good.1 (r.write_fault.only (stop.standing.served, x.0)))
  ended_well (inr (inr (inr (inr (inr (inl x)))))) =
      absurd (no_fault_left bytes r.input more events answered r.session.rest r.session.told front whole r.session.reads x.0 x.3.0)
  ended_well (inr (inr (inr (inr (inr (inr (inl x))))))) =
      let spent : requests answered ≡ most_requests = (let e : 0 + requests answered ≡ most_requests = x.3 in omega (arith, e)) in
      absurd (not_spent bytes r.input more events answered r.session.rest r.session.told front whole r.session.reads spent)
  ended_well (inr (inr (inr (inr (inr (inr (inr (inl x)))))))) = inr (inr (ap status_of x.0, alone.turns stop.standing.served x.0))
  ended_well (inr (inr (inr (inr (inr (inr (inr (inr (inl x))))))))) = inr (inl (ap status_of x.0))
  ended_well (inr (inr (inr (inr (inr (inr (inr (inr (inr x))))))))) = inr (inl (ap status_of x.end_is))

pub whole_answered : WholeRequestsAreAnswered
whole_answered settings buckets before after e bytes events alone left whole good =
    let given = given_front bytes alone.replays.input after.source.left (sym left ∙ alone.replays.exchanges.gave.left) in
    ended_well bytes events settings buckets before after e alone whole good given.0 given.1 given.2 alone.replays.session.ends
