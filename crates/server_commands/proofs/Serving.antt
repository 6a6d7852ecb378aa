-- How a server ends, by what its lanes left.
use Rattle.std.proofs.Common.{◌≡◌, ◌⊎◌, ◌↔◌, ◌∙◌, ℕ, Bool, true, false, true≢false, List, Option, Some, None, IsSome, All, inl, inr, map, refl, sym, ap, subst, arith}
use Rattle.std.proofs.lemmas.List.Elements.{All-weaker}
use Rattle.bim_io.specs.Causes.{Rose, counted}
use Rattle.bim_net.specs.declared.hosts.Opening.{Opening}
use Rattle.bim_net.specs.ConnectionViews.{DoorSeen}
use Rattle.bim_net.specs.Hosts.{HostSeen, Closes, some_failed}
use Rattle.book_turn.specs.NumberLists.{numbers_from}
use Rattle.book_history.specs.History.{left_all}
use Rattle.book_history.specs.Requests.{BookState}
use Rattle.serve_lanes.specs.Histories.{Service, DoorServed, IsOver, some_lacked, some_spent}
use Rattle.check_workers.specs.Joins.{AreOfLanes}
use Rattle.server_commands.specs.declared.serve.Ended.{Ended}
use Rattle.server_commands.specs.declared.serve_words.ServeCounts.{ServeCounts}
use Rattle.server_commands.specs.declared.serve_words.ServeWords.{ServeWords}
use Rattle.server_commands.specs.ServeCommand.{EndsAs, IsOverAt, ServesAll, ServesDoors, Serves, ServesBy, service_of, spent_by, status_by, without_book}

-- ---- the status

lacked_status : (memory : Bool) (spent : Option ℕ) (failed : Bool) → memory ≡ true → status_by memory spent failed ≡ 6
lacked_status memory spent failed is = ap (λ b. status_by b spent failed) is

spent_status : (memory : Bool) (spent : Option ℕ) (failed : Bool) → IsSome spent → (status_by memory spent failed ≡ 6) ⊎ (status_by memory spent failed ≡ 7)
spent_status true spent failed some = inl refl
spent_status false (Some pass) failed some = inr refl
spent_status false None failed some = absurd (true≢false (sym some))

failed_status : (memory : Bool) (spent : Option ℕ) (failed : Bool) → failed ≡ true
    → (status_by memory spent failed ≡ 4) ⊎ ((status_by memory spent failed ≡ 6) ⊎ (status_by memory spent failed ≡ 7))
failed_status true spent failed is = inr (inl refl)
failed_status false (Some pass) failed is = inr (inr refl)
failed_status false None failed is = inl (ap (λ b. status_by false None b) is)

four_failed : (memory : Bool) (spent : Option ℕ) (failed : Bool) → status_by memory spent failed ≡ 4 → failed ≡ true
four_failed true spent failed four = absurd (omega (arith, four))
four_failed false (Some pass) failed four = absurd (omega (arith, four))
four_failed false None true four = refl
four_failed false None false four = absurd (omega (arith, four))

known_status : (memory : Bool) (spent : Option ℕ) (failed : Bool)
    → (status_by memory spent failed ≡ 0) ⊎ ((status_by memory spent failed ≡ 4) ⊎ ((status_by memory spent failed ≡ 6) ⊎ (status_by memory spent failed ≡ 7)))
known_status true spent failed = inr (inr (inl refl))
known_status false (Some pass) failed = inr (inr (inr refl))
known_status false None true = inr (inl refl)
known_status false None false = inl refl

left_status : (memory : Bool) (spent : Option ℕ) (failed : Bool) (left : ℕ) → (left ≡ 0) ⊎ ((memory ≡ true) ⊎ IsSome spent)
    → (left ≡ 0) ⊎ ((status_by memory spent failed ≡ 6) ⊎ (status_by memory spent failed ≡ 7))
left_status memory spent failed left (inl none) = inl none
left_status memory spent failed left (inr (inl lacked)) = inr (inl (lacked_status memory spent failed lacked))
left_status memory spent failed left (inr (inr some)) = inr (spent_status memory spent failed some)

-- status 7 comes exactly with a pass that had made all its turns
pub spent_told : (book : BookState) (failed memory : Bool) (spent : Option ℕ) (ended : Ended) → EndsAs book failed memory spent ended → (ended.status ≡ 7) ↔ IsSome ended.spent
spent_told book failed memory spent ended is = (
  λ seven. subst (λ (e : Ended). IsSome e.spent) (sym is) (told memory spent failed (sym (ap (λ (e : Ended). e.status) is) ∙ seven)),
  λ some. ap (λ (e : Ended). e.status) is ∙ seven_of memory spent failed (subst (λ (e : Ended). IsSome e.spent) is some),
)
  where
    told : (memory : Bool) (spent : Option ℕ) (failed : Bool) → status_by memory spent failed ≡ 7 → IsSome (spent_by memory spent)
    told true spent failed seven = absurd (omega (arith, seven))
    told false (Some pass) failed seven = refl
    told false None true seven = absurd (omega (arith, seven))
    told false None false seven = absurd (omega (arith, seven))

    seven_of : (memory : Bool) (spent : Option ℕ) (failed : Bool) → IsSome (spent_by memory spent) → status_by memory spent failed ≡ 7
    seven_of true spent failed some = absurd (true≢false (sym some))
    seven_of false (Some pass) failed some = refl
    seven_of false None failed some = absurd (true≢false (sym some))

pub none_spent : (status : ℕ) (ended : Ended) → (status ≡ 7 → ⊥) → ended ≡ without_book status → (ended.status ≡ 7) ↔ IsSome ended.spent
none_spent status ended other is = (
  λ seven. absurd (other (sym (ap (λ (e : Ended). e.status) is) ∙ seven)),
  λ some. absurd (true≢false (sym (subst (λ (e : Ended). IsSome e.spent) is some))),
)

-- ---- all doors

over_status : (memory : Bool) (spent : Option ℕ) (failed : Bool) (links : ℕ) (d : DoorSeen) → IsOver links failed d → IsOverAt links (status_by memory spent failed) d
over_status memory spent failed links d (inl closed) = inl closed
over_status memory spent failed links d (inr (inl fault)) = inr (inl (fault.0, failed_status memory spent failed fault.1))
over_status memory spent failed links d (inr (inr full)) = inr (inr (inl full))

-- what the lanes left, and doors that were handed back
pub doors_served : (counts : ServeCounts) (host host' : HostSeen) (s : Service) (book : BookState) (count : ℕ) (doors : List DoorSeen) (failed memory : Bool)
    (spent : Option ℕ) (ended : Ended) → s ≡ service_of counts host → count ≡ counts.lanes → book.settings ≡ s.settings
    → All (DoorServed s book.journal) doors → map (λ (d : DoorSeen). d.number) doors ≡ numbers_from 0 count → AreOfLanes count book.journal
    → All (IsOver counts.links failed) doors → failed ≡ some_failed doors → (some_lacked doors ≡ true → memory ≡ true) → (some_spent doors ≡ true → IsSome spent)
    → (left_all book.settings.projects book.journal ≡ 0) ⊎ ((memory ≡ true) ⊎ IsSome spent) → Closes doors host host' → EndsAs book failed memory spent ended
    → ServesDoors counts host host' ended
doors_served counts host host' s book count doors failed memory spent ended service lanes settings served numbers entries over failed_is lacked turns work closes is =
    let status = status_by memory spent failed in
    let status_is : ended.status ≡ status = ap (λ (e : Ended). e.status) is in
    let closed : doors ≡ host'.closed = sym (ap (λ (h : HostSeen). h.closed) closes.others) in
    let all : ServesAll counts host host' book status = record {
      others = subst (λ (ds : List DoorSeen). host' ≡ record host { closings = counted host.closings; closed = ds; faults = host'.faults }) closed closes.others;
      numbers = subst (λ (ds : List DoorSeen). map (λ (d : DoorSeen). d.number) ds ≡ numbers_from 0 counts.lanes) closed (numbers ∙ ap (numbers_from 0) lanes);
      settings = settings ∙ ap (λ (x : Service). x.settings) service;
      doors = subst (λ (ds : List DoorSeen). All (DoorServed (service_of counts host) book.journal) ds) closed
          (subst (λ (x : Service). All (DoorServed x book.journal) doors) service served);
      entries = subst (λ n. AreOfLanes n book.journal) lanes entries;
      over = subst (λ (ds : List DoorSeen). All (IsOverAt counts.links status) ds) closed
          (All-weaker (IsOver counts.links failed) (IsOverAt counts.links status) (over_status memory spent failed counts.links) doors over);
      memory = subst (λ (ds : List DoorSeen). some_lacked ds ≡ true → status ≡ 6) closed (λ some. lacked_status memory spent failed (lacked some));
      turns = subst (λ (ds : List DoorSeen). some_spent ds ≡ true → (status ≡ 6) ⊎ (status ≡ 7)) closed (λ some. spent_status memory spent failed (turns some));
      failed = subst (λ (ds : List DoorSeen). some_failed ds ≡ true → (status ≡ 4) ⊎ ((status ≡ 6) ⊎ (status ≡ 7))) closed
          (λ some. failed_status memory spent failed (failed_is ∙ some));
      sound = subst (λ (ds : List DoorSeen). status ≡ 4 → some_failed ds ≡ true) closed (λ four. sym failed_is ∙ four_failed memory spent failed four);
      known = known_status memory spent failed;
      buckets = left_status memory spent failed (left_all book.settings.projects book.journal) work;
    } in
    let rose : status ≡ 4 → Rose host.faults host'.faults = λ four. closes.failed (sym failed_is ∙ four_failed memory spent failed four) in
    (book, ap (λ (e : Ended). e.book) is, subst (λ n. ServesAll counts host host' book n) (sym status_is) all, λ four. rose (sym status_is ∙ four))

-- ---- doors that are opened

-- doors that were opened are new, and the clocks are the host's still
pub same_told : (opening : Opening) (host mid open_ : HostSeen) → mid ≡ host → open_ ≡ record mid { openings = counted mid.openings; opened = Some opening }
    → (open_.tells ≡ mid.tells) × (open_.moment ≡ host.moment)
same_told opening host mid open_ same opens = (ap (λ (h : HostSeen). h.tells) opens, ap (λ (h : HostSeen). h.moment) opens ∙ ap (λ (h : HostSeen). h.moment) same)

pub opened_served : (said : ServeWords) (host mid open_ host' : HostSeen) (ended : Ended) → mid ≡ host
    → open_ ≡ record mid { openings = counted mid.openings; opened = Some (record { addr = said.addr; doors = said.counts.lanes }) } → ServesDoors said.counts open_ host' ended
    → Serves said host host' ended
opened_served said host mid open_ host' ended same opens served =
    inl (open_, subst (λ (h : HostSeen). open_ ≡ record h { openings = counted h.openings; opened = Some (record { addr = said.addr; doors = said.counts.lanes }) }) same opens, served)

pub unopened_served : (said : ServeWords) (host mid host' : HostSeen) (ended : Ended) → mid ≡ host → host' ≡ record mid { faults = host'.faults } → Rose mid.faults host'.faults
    → ended ≡ without_book 4 → Serves said host host' ended
unopened_served said host mid host' ended same failed rose is =
    inr (inl (is, ap (λ (h : HostSeen). h.openings) failed ∙ ap (λ (h : HostSeen). h.openings) same, subst (λ (h : HostSeen). Rose h.faults host'.faults) same rose))

-- ---- status 4 comes of a fault

pub without_four : (host host' : HostSeen) (ended : Ended) (status : ℕ) → (status ≡ 4 → ⊥) → ended ≡ without_book status → ended.status ≡ 4 → Rose host.faults host'.faults
without_four host host' ended status other is four = absurd (other (sym (ap (λ (e : Ended). e.status) is) ∙ four))

pub served_fault : (said : ServeWords) (host host' : HostSeen) (ended : Ended) → Serves said host host' ended → ended.status ≡ 4 → Rose host.faults host'.faults
served_fault said host host' ended (inl (open_, opens, all)) four = subst (λ n. Rose n host'.faults) (ap (λ (h : HostSeen). h.faults) opens) (all.3 four)
served_fault said host host' ended (inr (inl failed)) four = failed.2
served_fault said host host' ended (inr (inr lacks)) four = without_four host host' ended 6 (λ e. omega (arith, e)) lacks.0 four

-- ---- which statuses there are

of_known : (n : ℕ) → (n ≡ 0) ⊎ ((n ≡ 4) ⊎ ((n ≡ 6) ⊎ (n ≡ 7))) → (other : ℕ) → (other ≡ 2) ⊎ (other ≡ 5) → n ≡ other → ⊥
of_known n (inl zero) other (inl two) is = omega (arith, zero, two, is)
of_known n (inl zero) other (inr five) is = omega (arith, zero, five, is)
of_known n (inr (inl four)) other (inl two) is = omega (arith, four, two, is)
of_known n (inr (inl four)) other (inr five) is = omega (arith, four, five, is)
of_known n (inr (inr (inl six))) other (inl two) is = omega (arith, six, two, is)
of_known n (inr (inr (inl six))) other (inr five) is = omega (arith, six, five, is)
of_known n (inr (inr (inr seven))) other (inl two) is = omega (arith, seven, two, is)
of_known n (inr (inr (inr seven))) other (inr five) is = omega (arith, seven, five, is)

served_known : (said : ServeWords) (host host' : HostSeen) (ended : Ended) → Serves said host host' ended
    → (ended.status ≡ 0) ⊎ ((ended.status ≡ 4) ⊎ ((ended.status ≡ 6) ⊎ (ended.status ≡ 7)))
served_known said host host' ended (inl (open_, opens, all)) = all.2.known
served_known said host host' ended (inr (inl failed)) = inr (inl (ap (λ (e : Ended). e.status) failed.0))
served_known said host host' ended (inr (inr lacks)) = inr (inr (inl (ap (λ (e : Ended). e.status) lacks.0)))

-- status 2 is the one of words outside the grammar, and 5 is none of a server's
pub usage_alone : (said : Option ServeWords) (host host' : HostSeen) (ended : Ended) → ServesBy said host host' ended → ended.status ≡ 2 → ended ≡ without_book 2
usage_alone None host host' ended (inl none) two = none.0
usage_alone (Some said) host host' ended (inl serves) two = absurd (of_known ended.status (served_known said host host' ended serves) 2 (inl refl) two)
usage_alone said host host' ended (inr lacks) two = let six = ap (λ (e : Ended). e.status) lacks.0 in absurd (omega (arith, six, two))

pub never_five : (said : Option ServeWords) (host host' : HostSeen) (ended : Ended) → ServesBy said host host' ended → ended.status ≡ 5 → ⊥
never_five None host host' ended (inl none) five = let two = ap (λ (e : Ended). e.status) none.0 in omega (arith, two, five)
never_five (Some said) host host' ended (inl serves) five = of_known ended.status (served_known said host host' ended serves) 5 (inr refl) five
never_five said host host' ended (inr lacks) five = let six = ap (λ (e : Ended). e.status) lacks.0 in omega (arith, six, five)
