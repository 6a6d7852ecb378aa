-- Lanes that end, and whose passes are joined one after another.
use Rattle.std.proofs.Common.{◌≡◌, ◌≢◌, ◌≤◌, ◌<◌, ◌⊎◌, ℕ, zero, suc, ◌+◌, List, [], ◌∷◌, ◌++◌, map, length, Bool, true, false, ◌||◌, nat_lt, eqb, Option, None, Some, IsSome, All, inl, inr, refl, sym, ◌∙◌, ap, subst, arith}
use mathlib.Core.Logic.{dite}
use native.Mathlib.Decide.{dec_le}
use Rattle.std.proofs.lemmas.List.{map-append, length-map}
use Rattle.std.proofs.lemmas.List.Folds.{list_any-append}
use Rattle.std.proofs.lemmas.Bool.{eqb-true, lt-ltb}
use Rattle.std.proofs.lemmas.List.Elements.{All-nil, All-cons, All-push, All-weaker}
use Rattle.bim_io.specs.StreamViews.{ClockSeen}
use Rattle.bim_io.specs.Causes.{Rose}
use Rattle.bim_net.specs.ConnectionViews.{EndedLink, DoorSeen, IsNew, told}
use Rattle.bim_net.specs.Doors.{GrowsBy}
use Rattle.bim_net.specs.Hosts.{some_failed}
use Rattle.book_turn.specs.NumberLists.{has, numbers_from}
use Rattle.book_turn.specs.Entries.{AllBefore, calls_by}
use Rattle.book_turn.specs.Passes.{TurnState, BelongsTo, IsSingle, Joined}
use Rattle.book_history.specs.declared.limits.Settings.{Settings}
use Rattle.book_history.specs.declared.changes.Entry.{Entry}
use Rattle.book_passes.specs.Lessons.{BookPass, caller_of, own_of, turn_of, stamp_of}
use Rattle.check_workers.specs.WorkerTurns.{IsDone}
use Rattle.check_workers.specs.declared.workers.Lack.{Lack}
use Rattle.serve_lanes.specs.declared.lane.LaneEnd.{LaneEnd}
use Rattle.serve_lanes.specs.declared.lane.LaneEnd.TheVariants.{Closed, Full, Failed}
use Rattle.serve_lanes.specs.Lanes.{ServedLink, LaneServed, some_memory, some_turns}
use Rattle.serve_lanes.specs.Histories.{Service, IsReady, LaneDone, LaneOver, LanesJoined, DoorDone, EndsLane, IsOver, AreAmong, is_failed, told_memory, told_turns, lacked_memory, some_lacked, some_spent}
use Rattle.check_workers.specs.Joins.{IsNewWorker, ExtendsByWork, HasEach, AreOfLanes, pass_of}
use Rattle.check_workers.proofs.Entries.{either, or_first, or_second, or_left, has_first, has_second, has_one, calls_both, calls_among, calls_whole}
use Rattle.check_workers.proofs.Joins.{joined_up_to, joined_extends}
use Rattle.serve_lanes.proofs.Histories.{doors_grown, door_joined}

-- ---- one lane

-- why it ended
pub ends_lane : (links : ℕ) (end : LaneEnd) (old new : DoorSeen) → old.faults ≡ 0 → old.gave ≡ 0 → (end ≡ Failed → Rose old.faults new.faults)
    → (end ≢ Failed → new.faults ≡ old.faults) → (end ≡ Closed → new.closed ≡ true) → (end ≡ Full → (0 < links) × (new.gave ≡ old.gave + links)) → EndsLane links end new
ends_lane links Closed old new none zero_given failed sound closed full = (closed refl, sound (λ is. cc) ∙ none)
ends_lane links Full old new none zero_given failed sound closed full =
    let f = full refl in
    let gave : new.gave ≡ old.gave + links = f.1 in
    (f.0, (let is : new.gave ≡ links = omega (arith, gave, zero_given) in is), sound (λ is. cc) ∙ none)
ends_lane links Failed old new none zero_given failed sound closed full =
    let rose : 1 ≤ new.faults = subst (λ (n : ℕ). Rose n new.faults) none (failed refl) in omega arith

pub lane_over : (s : Service) (links : ℕ) (turn : TurnState Settings) (v w : BookPass) (door door' : DoorSeen) (clock : ClockSeen) (lack lack' : Lack) (end : LaneEnd)
    → IsReady s turn v door clock lack → IsSingle turn w → w.number ≡ v.number
    → LaneServed (ServedLink clock.one turn.settings v.number) v.seen v.last w.seen w.last door door' lack lack' → EndsLane links end door' → LaneOver s links turn w door' end lack'
lane_over s links turn v w door door' clock lack lack' end ready own number served ends =
    let same : door.number ≡ door'.number = sym served.number in
    let mine : v.number ≡ door'.number = ready.number ∙ same in
    let b = subst (λ (t : Settings). LaneServed (ServedLink clock.one t v.number) v.seen v.last w.seen w.last door door' lack lack') ready.settings served in
    let c = subst (λ (n : ℕ). LaneServed (ServedLink clock.one s.settings n) v.seen v.last w.seen w.last door door' lack lack') mine b in
    let d = subst (λ (h : List Entry). LaneServed (ServedLink clock.one s.settings door'.number) h v.last w.seen w.last door door' lack lack') ready.unseen c in
    let e = subst (λ (n : ℕ). LaneServed (ServedLink clock.one s.settings door'.number) [] n w.seen w.last door door' lack lack') ready.untaken d in
    let f = subst (λ (l : Lack). LaneServed (ServedLink clock.one s.settings door'.number) [] 0 w.seen w.last door door' l lack') ready.unnoted e in
    record {
      own = own;
      number = number ∙ mine;
      done = record { first = door; new = subst (λ (n : ℕ). IsNew s.tells n door) same ready.new; one = clock.one; one_is = ready.one; lane = f };
      ends = ends;
    }

-- ---- joins

failed_told : (links : ℕ) (end : LaneEnd) (d : DoorSeen) → EndsLane links end d → nat_lt 0 d.faults ≡ is_failed end
failed_told links Closed d ends = ap (λ (n : ℕ). nat_lt 0 n) ends.1
failed_told links Full d ends = ap (λ (n : ℕ). nat_lt 0 n) ends.2
failed_told links Failed d ends = lt-ltb 0 d.faults ends

over_of : (links : ℕ) (end : LaneEnd) (failed : Bool) (d : DoorSeen) → (is_failed end ≡ true → failed ≡ true) → EndsLane links end d → IsOver links failed d
over_of links Closed failed d told ends = inl ends.0
over_of links Full failed d told ends = inr (inr (ends.0, ends.1))
over_of links Failed failed d told ends = inr (inl (ends, told refl))

over_more : (links : ℕ) (a b : Bool) (d : DoorSeen) → (a ≡ true → b ≡ true) → IsOver links a d → IsOver links b d
over_more links a b d more (inl closed) = inl closed
over_more links a b d more (inr (inl failed)) = inr (inl (failed.0, more failed.1))
over_more links a b d more (inr (inr full)) = inr (inr full)

memory_told : (tells : Bool) (o o' : Option (List EndedLink)) (links : List EndedLink) → o ≡ told tells [] → GrowsBy o o' links → (told_memory o' ≡ some_memory links) ⊎ (told_memory o' ≡ false)
memory_told tells o None links is grows = inr refl
memory_told true o (Some ys) links is grows =
    let all : ys ≡ links = subst (λ (p : Option (List EndedLink)). GrowsBy p (Some ys) links) is grows in inl (ap some_memory all)
memory_told false o (Some ys) links is grows = absurd (subst (λ (p : Option (List EndedLink)). GrowsBy p (Some ys) links) is grows)

turns_told : (tells : Bool) (o o' : Option (List EndedLink)) (links : List EndedLink) → o ≡ told tells [] → GrowsBy o o' links → (told_turns o' ≡ some_turns links) ⊎ (told_turns o' ≡ false)
turns_told tells o None links is grows = inr refl
turns_told true o (Some ys) links is grows =
    let all : ys ≡ links = subst (λ (p : Option (List EndedLink)). GrowsBy p (Some ys) links) is grows in inl (ap some_turns all)
turns_told false o (Some ys) links is grows = absurd (subst (λ (p : Option (List EndedLink)). GrowsBy p (Some ys) links) is grows)

-- what a lane noted tells of its door's sessions
memory_noted : (s : Service) (seen : List Entry) (last : ℕ) (door : DoorSeen) (lack : Lack) → LaneDone s seen last door lack → lacked_memory door ≡ true → lack.memory ≡ true
memory_noted s seen last door lack d is = of_told (memory_told s.tells d.first.ended door.ended d.lane.links d.new.none_ended d.lane.grown)
  where
    of_told : (told_memory door.ended ≡ some_memory d.lane.links) ⊎ (told_memory door.ended ≡ false) → lack.memory ≡ true
    of_told (inl same) = d.lane.memory ∙ sym same ∙ is
    of_told (inr none) = absurd (cc)

turns_noted : (s : Service) (seen : List Entry) (last : ℕ) (door : DoorSeen) (lack : Lack) → LaneDone s seen last door lack → told_turns door.ended ≡ true → IsSome lack.spent
turns_noted s seen last door lack d is = of_told (turns_told s.tells d.first.ended door.ended d.lane.links d.new.none_ended d.lane.grown)
  where
    of_told : (told_turns door.ended ≡ some_turns d.lane.links) ⊎ (told_turns door.ended ≡ false) → IsSome lack.spent
    of_told (inl same) = d.lane.turns (sym same ∙ is)
    of_told (inr none) = absurd (cc)

-- the entries of a pass into which one more was joined
among_more : (v other w : BookPass) (ps : List ℕ) (k : ℕ) (qs : List ℕ) → Joined stamp_of v other w → other.numbers ≡ k ∷ [] → AreAmong ps (own_of (caller_of v) v.seen) → qs ≡ ps ++ k ∷ []
    → AreAmong qs (own_of (caller_of w) w.seen)
among_more v other w ps k qs j alone before names =
    let Among : Entry → Type 0 = λ e. has e.stamp.pass (ps ++ k ∷ []) ≡ true in
    let mine : All Among (calls_by pass_of v.numbers w.seen) = subst (All Among) (sym j.own_first)
    (All-weaker (λ (e : Entry). has e.stamp.pass ps ≡ true) Among (λ e is. has_first e.stamp.pass ps (k ∷ []) is) (calls_by pass_of v.numbers v.seen) before) in
    let others : All Among (calls_by pass_of other.numbers w.seen) =
    All-weaker (λ (e : Entry). has e.stamp.pass other.numbers ≡ true) Among
    (λ e is. has_second e.stamp.pass ps (k ∷ []) (subst (λ (ns : List ℕ). has e.stamp.pass ns ≡ true) alone is)) (calls_by pass_of other.numbers w.seen) (calls_among pass_of other.numbers w.seen) in
    subst (λ (ns : List ℕ). AreAmong ns (own_of (caller_of w) w.seen)) (sym names)
    (subst (λ (ns : List ℕ). All Among (calls_by pass_of ns w.seen)) (sym j.numbers) (calls_both pass_of Among v.numbers other.numbers w.seen mine others))

or_none : (b : Bool) → b ≡ (b || false)
or_none true = refl
or_none false = refl

-- no pass was joined yet
pub joined_none : (s : Service) (links : ℕ) (turn : TurnState Settings) (own : BookPass) (lack : Lack) → IsNewWorker turn own → LanesJoined s links turn own [] false lack
joined_none s links turn own lack new = record {
  belongs = new.own.own;
  numbers = new.own.alone;
  done = All-nil (DoorDone s own);
  over = All-nil (IsOver links false);
  failed_is = refl;
  memory = λ is. cc;
  turns = λ is. cc;
  entries = subst (λ (h : List Entry). AreAmong [] (own_of (caller_of own) h)) (sym new.unseen) (All-nil (λ (e : Entry). has e.stamp.pass [] ≡ true));
  up_to = subst (λ (h : List Entry). AllBefore turn_of (own.last + 1) h) (sym new.unseen) tt;
}

-- one more is joined
pub joined_more : (s : Service) (links : ℕ) (turn : TurnState Settings) (v other w : BookPass) (doors : List DoorSeen) (door : DoorSeen) (failed failed' : Bool) (end : LaneEnd) (lack own lack' : Lack)
    → Joined stamp_of v other w → BelongsTo turn w → LanesJoined s links turn v doors failed lack → LaneOver s links turn other door end own → door.number ≢ v.number
    → failed' ≡ (failed || is_failed end) → lack'.memory ≡ (lack.memory || own.memory) → (IsSome lack.spent → IsSome lack'.spent) → (IsSome own.spent → IsSome lack'.spent)
    → LanesJoined s links turn w (doors ++ door ∷ []) failed' lack'
joined_more s links turn v other w doors door failed failed' end lack own lack' j belongs before lane apart fails memory kept added =
    let number : DoorSeen → ℕ = λ d. d.number in
    let alone : other.numbers ≡ door.number ∷ [] = lane.own.alone ∙ ap (λ (k : ℕ). k ∷ []) lane.number in
    let names : map number (doors ++ door ∷ []) ≡ map number doors ++ door.number ∷ [] = map-append number doors (door ∷ []) in
    record {
      belongs = belongs;
      numbers = j.numbers ∙ ap (λ (ps : List ℕ). ps ++ other.numbers) before.numbers ∙ ap (λ (ps : List ℕ). (v.number ∷ map number doors) ++ ps) alone
          ∙ ap (λ (ps : List ℕ). v.number ∷ ps) (sym names) ∙ ap (λ (k : ℕ). k ∷ map number (doors ++ door ∷ [])) (sym j.number);
      done = All-push (DoorDone s w) doors door (doors_grown s v w doors (joined_extends v other w j) before.done) (door_joined s links turn v other w door end own j lane apart);
      over = All-push (IsOver links failed') doors door
          (All-weaker (IsOver links failed) (IsOver links failed') (λ d is. over_more links failed failed' d (λ yes. fails ∙ or_first failed (is_failed end) yes) is) doors before.over)
          (over_of links end failed' door (λ yes. fails ∙ or_second failed (is_failed end) yes) lane.ends);
      failed_is = fails ∙ ap (λ (b : Bool). b || is_failed end) before.failed_is ∙ ap (λ (b : Bool). some_failed doors || b) (sym (failed_told links end door lane.ends) ∙ or_none (nat_lt 0 door.faults))
          ∙ sym (list_any-append (λ (d : DoorSeen). nat_lt 0 d.faults) doors (door ∷ []));
      memory = either (some_lacked doors) (lacked_memory door || false) (some_lacked (doors ++ door ∷ [])) (list_any-append lacked_memory doors (door ∷ []))
          (λ yes. memory ∙ or_first lack.memory own.memory (before.memory yes))
          (λ yes. memory ∙ or_second lack.memory own.memory (memory_noted s other.seen other.last door own lane.done (or_left (lacked_memory door) yes)));
      turns = either (some_spent doors) (told_turns door.ended || false) (some_spent (doors ++ door ∷ [])) (list_any-append (λ (d : DoorSeen). told_turns d.ended) doors (door ∷ []))
          (λ yes. kept (before.turns yes))
          (λ yes. added (turns_noted s other.seen other.last door own lane.done (or_left (told_turns door.ended) yes)));
      entries = among_more v other w (map number doors) door.number (map number (doors ++ door ∷ [])) j alone before.entries names;
      up_to = joined_up_to v other w j;
    }

-- ---- numbers

has_from : (x a n : ℕ) → has x (numbers_from a n) ≡ true → (a ≤ x) × (x < a + n)
has_from x a zero is = absurd (cc)
has_from x a (suc n) is =
    either (eqb x a) (has x (numbers_from (suc a) n)) (has x (numbers_from a (suc n))) refl
    (λ here. let same : x ≡ a = eqb-true x a here in (omega arith, omega arith))
    (λ later. let h = has_from x (suc a) n later in let low : suc a ≤ x = h.0 in let high : x < suc a + n = h.1 in (omega arith, omega arith)) is

pub numbers_length : (a n : ℕ) → length (numbers_from a n) ≡ n
numbers_length a zero = refl
numbers_length a (suc n) = ap suc (numbers_length (suc a) n)

pub numbers_next : (a n : ℕ) → numbers_from a n ++ (a + n) ∷ [] ≡ numbers_from a (suc n)
numbers_next a zero = (let e : a + 0 ≡ a = omega arith in ap (λ (k : ℕ). k ∷ []) e)
numbers_next a (suc n) = (let e : a + suc n ≡ suc a + n = omega arith in ap (λ (k : ℕ). a ∷ (numbers_from (suc a) n ++ k ∷ [])) e ∙ ap (λ (l : List ℕ). a ∷ l) (numbers_next (suc a) n))

-- how many have numbers
pub numbered_length : {X : Type 0} (f : X → ℕ) (xs : List X) (n : ℕ) → map f xs ≡ numbers_from 0 n → length xs ≡ n
numbered_length f xs n is = sym (length-map xs f) ∙ ap (λ (l : List ℕ). length l) is ∙ numbers_length 0 n

pub numbered_alike : {X : Type 0} (f : X → ℕ) (xs ys : List X) → map f ys ≡ map f xs → length ys ≡ length xs
numbered_alike f xs ys is = sym (length-map ys f) ∙ ap (λ (l : List ℕ). length l) is ∙ length-map xs f

-- one more, which has the next number
pub numbers_more : {X : Type 0} (f : X → ℕ) (xs all : List X) (x : X) (n m : ℕ) → all ≡ xs ++ x ∷ [] → m ≡ n + 1 → f x ≡ n → map f xs ≡ numbers_from 0 n → map f all ≡ numbers_from 0 m
numbers_more {X = X} f xs all x n m is more here before =
    let next : suc n ≡ m = omega arith in
    let from_zero : n ≡ 0 + n = omega arith in
    ap (λ (l : List X). map f l) is ∙ map-append f xs (x ∷ []) ∙ ap (λ (l : List ℕ). l ++ f x ∷ []) before
    ∙ ap (λ (y : ℕ). numbers_from 0 n ++ y ∷ []) (here ∙ from_zero) ∙ numbers_next 0 n ∙ ap (λ (y : ℕ). numbers_from 0 y) next

-- numbers below a top one
pub numbers_apart : {X : Type 0} (f : X → ℕ) (xs : List X) (a n top : ℕ) → map f xs ≡ numbers_from a n → a + n ≤ top → All (λ x. f x ≢ top) xs
numbers_apart f [] a n top is le = All-nil (λ x. f x ≢ top)
numbers_apart f (x ∷ xs) a zero top is le = absurd (cc)
numbers_apart f (x ∷ xs) a (suc n) top is le =
    let here : f x ≡ a = cc in
    let rest : map f xs ≡ numbers_from (suc a) n = cc in
    All-cons (λ y. f y ≢ top) x xs (λ same. let t : f x ≡ top = same in absurd (omega arith)) (numbers_apart f xs (suc a) n top rest (omega arith))

-- ---- whose entries a history has

before_all : (n : ℕ) (Q : Entry → Type 0) (es : List Entry) → AllBefore pass_of n es → ((e : Entry) → e.stamp.pass < n → Q e) → All Q es
before_all n Q [] before each = All-nil Q
before_all n Q (e ∷ es) before each = All-cons Q e es (each e before.0) (before_all n Q es before.1 each)

among_lanes : (lanes : ℕ) (ps : List ℕ) (es : List Entry) → ps ≡ numbers_from 0 lanes → AreAmong ps es → AreOfLanes lanes es
among_lanes lanes ps es are among =
    All-weaker (λ (e : Entry). has e.stamp.pass ps ≡ true) (λ (e : Entry). IsDone e ⊎ (e.stamp.pass < lanes))
    (λ e is. inr (let h = has_from e.stamp.pass 0 lanes (subst (λ (ns : List ℕ). has e.stamp.pass ns ≡ true) are is) in let lt : e.stamp.pass < 0 + lanes = h.1 in omega arith)) es among

pub of_lanes : (lanes : ℕ) (v0 v1 v2 : BookPass) (ps seats : List ℕ) → AreAmong ps (own_of (caller_of v0) v0.seen) → ps ≡ numbers_from 0 lanes → v0.numbers ≡ v0.number ∷ ps → v1.numbers ≡ v0.numbers ++ seats
    → ExtendsByWork v0 v1 → ExtendsByWork v1 v2 → HasEach lanes v0.number seats → AllBefore pass_of (v0.number + 1) v2.seen → AreOfLanes lanes v2.seen
of_lanes lanes v0 v1 v2 ps seats among are own numbers p q each before =
    let all : AreOfLanes lanes (own_of (caller_of v2) v2.seen) = q.entries lanes (p.entries lanes (among_lanes lanes ps (own_of (caller_of v0) v0.seen) are among)) in
    let head : has v0.number v0.numbers ≡ true = subst (λ (ns : List ℕ). has v0.number ns ≡ true) (sym own) (has_first v0.number (v0.number ∷ []) ps (has_one v0.number)) in
    let seat : (x : ℕ) → has x seats ≡ true → has x v1.numbers ≡ true = λ x is. subst (λ (ns : List ℕ). has x ns ≡ true) (sym numbers) (has_second x v0.numbers seats is) in
    calls_whole pass_of (λ (e : Entry). IsDone e ⊎ (e.stamp.pass < lanes)) v2.numbers v2.seen all
    (before_all (v0.number + 1) (λ (e : Entry). has e.stamp.pass v2.numbers ≡ false → IsDone e ⊎ (e.stamp.pass < lanes)) v2.seen before
    (λ e lt none. inr (in_lanes e.stamp.pass lt none (q.extends.named v0.number (p.extends.named v0.number head)) (λ x is. q.extends.named x (seat x is)))))
  where
    in_lanes : (x : ℕ) → x < v0.number + 1 → has x v2.numbers ≡ false → has v0.number v2.numbers ≡ true → ((y : ℕ) → has y seats ≡ true → has y v2.numbers ≡ true) → x < lanes
    in_lanes x lt none here seated = dite (dec_le lanes x)
        (λ le. dite (dec_le v0.number x)
        (λ high. let same : v0.number ≡ x = omega arith in absurd (let is = subst (λ (y : ℕ). has y v2.numbers ≡ true) same here in cc))
        (λ low. absurd (let is = seated x (each x le (omega arith)) in cc)))
        (λ not. omega arith)
