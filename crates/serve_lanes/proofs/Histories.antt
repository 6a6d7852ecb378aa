-- Doors whose passes were joined, and the one history in which their connections stand.
use Rattle.std.proofs.Common.{◌≡◌, ◌≢◌, ◌≤◌, ℕ, ◌+◌, max, List, [], ◌∷◌, ◌++◌, length, Bool, true, false, IsSome, IfSome, All, refl, sym, ◌∙◌, ap, subst, arith}
use Rattle.std.proofs.lemmas.List.Elements.{All-weaker}
use Rattle.bim_net.specs.ConnectionViews.{EndedLink, DoorSeen, IsNew, told}
use Rattle.bim_net.specs.Doors.{GrowsBy}
use Rattle.book_turn.specs.NumberLists.{has}
use Rattle.book_turn.specs.Entries.{AllBefore, calls_by}
use Rattle.book_turn.specs.Passes.{TurnState, Joined}
use Rattle.book_turn.proofs.Prefixes.{own_all}
use Rattle.book_history.specs.declared.limits.Settings.{Settings}
use Rattle.book_history.specs.declared.changes.Entry.{Entry}
use Rattle.book_passes.specs.Lessons.{BookPass, turn_of, stamp_of}
use Rattle.check_workers.specs.declared.workers.Lack.{Lack}
use Rattle.serve_lanes.specs.declared.lane.LaneEnd.{LaneEnd}
use Rattle.serve_lanes.specs.Lanes.{ServedLink, Chain, IsBalanced, end_turn}
use Rattle.check_workers.specs.Joins.{seen_at, Extends, pass_of, of_pass}
use Rattle.serve_lanes.specs.Histories.{Service, LaneOver, DoorDone, DoorServed, OwnWithin, last_turn}
use Rattle.check_workers.proofs.Fronts.{seen_twice}
use Rattle.serve_lanes.proofs.Chains.{chain_in}
use Rattle.check_workers.proofs.Entries.{has_second, has_one, own_same}
use Rattle.serve_lanes.proofs.Links.{link_grew}

-- a door stays served as what the pass has seen grows
pub door_grown : (s : Service) (v w : BookPass) → Extends v w → (door : DoorSeen) → DoorDone s v door → DoorDone s w door
door_grown s v w e door d =
    let within : d.last ≤ v.last = d.within in
    let rises : v.last ≤ w.last = e.rises in
    record {
      seen = d.seen;
      last = d.last;
      lack = d.lack;
      done = d.done;
      front = d.front ∙ ap (λ (h : List Entry). seen_at d.last h) e.front ∙ seen_twice d.last v.last w.seen within;
      within = omega (arith, within, rises);
      named = e.named door.number d.named;
      other = λ same. d.other (same ∙ e.number);
      own = own_same turn_of pass_of (door.number ∷ []) d.last v.seen w.seen (e.stay door.number d.named d.other) d.own;
    }

pub doors_grown : (s : Service) (v w : BookPass) (doors : List DoorSeen) → Extends v w → All (DoorDone s v) doors → All (DoorDone s w) doors
doors_grown s v w doors e all = All-weaker (DoorDone s v) (DoorDone s w) (λ d done. door_grown s v w e d done) doors all

-- the pass of a lane that has ended is joined into another
pub door_joined : (s : Service) (links : ℕ) (turn : TurnState Settings) (v other w : BookPass) (door : DoorSeen) (end : LaneEnd) (lack : Lack) → Joined stamp_of v other w
    → LaneOver s links turn other door end lack → door.number ≢ v.number → DoorDone s w door
door_joined s links turn v other w door end lack j lane apart =
    let last : w.last ≡ max v.last other.last = j.last in
    let alone : other.numbers ≡ door.number ∷ [] = lane.own.alone ∙ ap (λ (k : ℕ). k ∷ []) lane.number in
    let up : AllBefore turn_of (other.last + 1) other.seen = lane.done.lane.up_to tt in
    let own : OwnWithin door.number other.last other.seen = own_all turn_of pass_of (door.number ∷ []) other.last other.seen up in
    let same : of_pass door.number w.seen ≡ of_pass door.number other.seen = subst (λ (ps : List ℕ). calls_by pass_of ps w.seen ≡ calls_by pass_of ps other.seen) alone j.own_second in
    record {
      seen = other.seen;
      last = other.last;
      lack = lack;
      done = lane.done;
      front = j.second;
      within = (let le : other.last ≤ w.last = omega (arith, last) in le);
      named = subst (λ (ps : List ℕ). has door.number ps ≡ true) (sym (j.numbers ∙ ap (λ (ps : List ℕ). v.numbers ++ ps) alone))
          (has_second door.number v.numbers (door.number ∷ []) (has_one door.number));
      other = λ is. apart (is ∙ j.number);
      own = own_same turn_of pass_of (door.number ∷ []) other.last other.seen w.seen same own;
    }

-- ---- in the end

some_told : (tells : Bool) → tells ≡ true → IsSome (told {X = EndedLink} tells [])
some_told true is = refl
some_told false is = cc

even_told : (tells : Bool) (gave : ℕ) → gave ≡ 0 → IfSome (told {X = EndedLink} tells []) (λ es. length es ≡ gave)
even_told true gave none = sym none
even_told false gave none = tt

new_even : (tells : Bool) (number : ℕ) (d : DoorSeen) → IsNew tells number d → IsBalanced d
new_even tells number d new = subst (λ o. IfSome o (λ es. length es ≡ d.gave)) (sym new.none_ended) (even_told tells d.gave new.none_given)

-- the last turn of a chain stands at its last connection
chain_last : (serves : List Entry → ℕ → EndedLink → List Entry → Type 0) (before : List Entry) (last : ℕ) (links : List EndedLink) (history : List Entry) (top : ℕ)
    → Chain serves before last links history top → top ≡ last_turn last links
chain_last serves before last [] history top chain = chain.1
chain_last serves before last (x ∷ xs) history top chain = chain_last serves chain.0 (end_turn x) xs history top chain.2

-- a door's connections stand in one history
door_in : (s : Service) (v : BookPass) (door : DoorSeen) → DoorDone s v door → DoorServed s v.seen door
door_in s v door d =
    let lane = d.done.lane in
    let new = d.done.new in
    let even = new_even s.tells door.number d.done.first new in
    let gave : door.gave ≡ d.done.first.gave + length lane.links = lane.gave in
    let none : d.done.first.gave ≡ 0 = new.none_given in
    record {
      links = lane.links;
      grown = subst (λ o. GrowsBy o door.ended lane.links) new.none_ended lane.grown;
      gave = omega (arith, gave, none);
      balanced = lane.balanced even;
      tells = λ is. lane.tells even (subst IsSome (sym new.none_ended) (some_told s.tells is));
      one = d.done.one;
      one_is = d.done.one_is;
      chain = (chain_in (ServedLink d.done.one s.settings door.number) (link_grew d.done.one s.settings door.number) [] 0 lane.links d.seen d.last v.seen lane.chain tt d.front).1;
      own = subst (λ (t : ℕ). OwnWithin door.number t v.seen) (chain_last (ServedLink d.done.one s.settings door.number) [] 0 lane.links d.seen d.last lane.chain) d.own;
    }

pub doors_in : (s : Service) (v : BookPass) (doors : List DoorSeen) → All (DoorDone s v) doors → All (DoorServed s v.seen) doors
doors_in s v doors all = All-weaker (DoorDone s v) (DoorServed s v.seen) (λ d done. door_in s v d done) doors all
