-- One connection that was served, and how its door and what its pass has seen grow.
use Rattle.std.proofs.Common.{◌≡◌, ℕ, ◌+◌, ◌≤◌, List, [], ◌∷◌, ◌++◌, length, Option, Some, None, IsSome, IfSome, refl, sym, ◌∙◌, ap, subst, length-append, arith, Bool, true, false, ◌||◌}
use Rattle.bim_io.specs.StreamViews.{ClockSeen, outside}
use Rattle.bim_net.specs.declared.ends.LinkEnd.{LinkEnd}
use Rattle.bim_net.specs.ConnectionViews.{LinkSeen, EndedLink, DoorSeen, IsFresh}
use Rattle.bim_net.specs.Doors.{GrowsBy, HasOut, TakesBack}
use Rattle.book_turn.specs.Entries.{AllBefore, AllAfter}
use Rattle.book_history.specs.declared.limits.Settings.{Settings}
use Rattle.book_history.specs.declared.changes.Entry.{Entry}
use Rattle.book_passes.specs.Lessons.{CallerSeen, turn_of}
use Rattle.bim_session.specs.declared.end.SessionEnd.{SessionEnd}
use Rattle.link_session.specs.Callers.{GoesByPass}
use Rattle.link_session.specs.CallerSessions.{Serves}
use Rattle.check_workers.specs.declared.workers.Lack.{Lack}
use Rattle.serve_lanes.specs.Lanes.{ServedLink, LaneServed, NotesEnd, IsBalanced, kind_of, end_turn, is_memory, is_spent}
use Rattle.serve_lanes.proofs.Chains.{Grew, grows_by_none}
use Rattle.bim_session.specs.declared.end.SessionEnd.TheVariants as ends
use Rattle.bim_net.specs.declared.ends.EndKind.TheVariants as kinds

-- the session over a connection that was given back
pub served_link : (settings : Settings) (v w : CallerSeen) (first after : LinkSeen) (clock clock' : ClockSeen) (end : SessionEnd) (x : LinkEnd) → IsFresh first
    → Serves settings (Some 0) GoesByPass v w (outside first.source first.sink clock) (outside after.source after.sink clock') end → x.kind ≡ kind_of end → x.last ≡ w.last
    → ServedLink clock.one settings v.number v.seen v.last (record { link = after; end = x }) w.seen
served_link settings v w first after clock clock' end x fresh serves kind last = record {
  end = end;
  kind_is = kind;
  first = first;
  fresh = fresh;
  clock = clock;
  clock_after = clock';
  one_is = refl;
  v = v;
  w = w;
  number_is = refl;
  before_is = refl;
  last_is = refl;
  history_is = refl;
  turn_is = sym last;
  serves = serves;
}

-- a session whose end is of that kind ended for want of a turn
pub spent_end : (end : SessionEnd) → kind_of end ≡ kinds.SpentTurns → (n : ℕ) × (end ≡ ends.SpentTurns n)
spent_end (ends.Closed n) is = cc
spent_end (ends.Asked n) is = cc
spent_end (ends.Cut n) is = cc
spent_end (ends.ReadFault n) is = cc
spent_end (ends.WriteFault n) is = cc
spent_end (ends.Frame n fault) is = cc
spent_end (ends.Spent n) is = cc
spent_end (ends.SpentTurns n) is = (n, refl)
spent_end (ends.Memory n) is = cc

-- what a pass had seen grows by a connection that it served
pub link_grew : (one : Option ℕ) (settings : Settings) (number : ℕ) (before : List Entry) (last : ℕ) (x : EndedLink) (history : List Entry)
    → ServedLink one settings number before last x history → Grew before last history (end_turn x)
link_grew one settings number before last x history s =
    let news : List Entry = s.serves.learns.0 in
    let l = s.serves.learns.1 in
    let rises : s.v.last ≤ s.w.last = l.rises in
    let first : s.v.last ≡ last = s.last_is in
    let second : s.w.last ≡ x.end.last = s.turn_is in
    record {
      news = news;
      grown = sym s.history_is ∙ l.seen ∙ ap (λ h. h ++ news) s.before_is;
      later = subst (λ (n : ℕ). AllAfter turn_of n news) s.last_is l.later;
      rises = (let le : last ≤ x.end.last = omega (arith, rises, first, second) in le);
      up_to = λ are.
          let at : AllBefore turn_of (s.v.last + 1) s.v.seen =
          subst (λ (n : ℕ). AllBefore turn_of (n + 1) s.v.seen) (sym s.last_is) (subst (λ (h : List Entry). AllBefore turn_of (last + 1) h) (sym s.before_is) are) in
          subst (λ (n : ℕ). AllBefore turn_of (n + 1) history) s.turn_is (subst (λ (h : List Entry). AllBefore turn_of (s.w.last + 1) h) s.history_is (l.up_to at));
    }

-- ---- the door

-- a door that gave one connection more than it took back
abbrev pub IsOneOut : DoorSeen → Type 0
IsOneOut d = IfSome d.ended (λ es. length es + 1 ≡ d.gave)

out_of : (o : Option (List EndedLink)) (gave : ℕ) → IfSome o (λ es. length es ≡ gave) → IfSome o (λ es. length es + 1 ≡ gave + 1)
out_of None gave even = tt
out_of (Some es) gave even = ap (λ n. n + 1) even

-- a connection is given
pub gives_out : (a b : DoorSeen) → b ≡ record a { gave = a.gave + 1 } → IsBalanced a → IsOneOut b
gives_out a b is even = subst IsOneOut (sym is) (out_of a.ended a.gave even)

has_out : (o : Option (List EndedLink)) (gave : ℕ) → IfSome o (λ es. length es + 1 ≡ gave) → IsSome o → HasOut o gave
has_out None gave one some = cc
has_out (Some es) gave one some = omega (arith, one)

even_of : (o o' : Option (List EndedLink)) (x : EndedLink) (gave : ℕ) → GrowsBy o o' (x ∷ []) → IfSome o (λ es. length es + 1 ≡ gave) → IfSome o' (λ es. length es ≡ gave)
even_of None None x gave grows one = tt
even_of None (Some ys) x gave grows one = absurd grows
even_of (Some xs) None x gave grows one = tt
even_of (Some xs) (Some ys) x gave grows one = ap length grows ∙ length-append xs (x ∷ []) ∙ one

-- .. and is given back
pub back_even : (b c : DoorSeen) (x : EndedLink) → TakesBack x b c → IsOneOut b → IsBalanced c
back_even b c x back one =
    let gave : c.gave ≡ b.gave = ap (λ (d : DoorSeen). d.gave) back.others in
    subst (λ n. IfSome c.ended (λ es. length es ≡ n)) (sym gave) (even_of b.ended c.ended x b.gave back.grows one)

noted_one : (m n b : Bool) → n ≡ (m || b) → n ≡ (m || (b || false))
noted_one m n true is = is
noted_one m n false is = is

noted_none : (m : Bool) → m ≡ (m || false)
noted_none true = refl
noted_none false = refl

one_spent : {P : Type 0} (b : Bool) → (b ≡ true → P) → (b || false) ≡ true → P
one_spent true noted is = noted refl
one_spent false noted is = cc

-- a lane that served one connection
pub lane_one : (serves : List Entry → ℕ → EndedLink → List Entry → Type 0) (before : List Entry) (last : ℕ) (x : EndedLink) (history : List Entry) (top : ℕ) (a b c : DoorSeen) (m n : Lack)
    → b ≡ record a { gave = a.gave + 1 } → TakesBack x b c → serves before last x history → end_turn x ≡ top
    → (AllBefore turn_of (last + 1) before → AllBefore turn_of (top + 1) history) → NotesEnd x.end.kind m n
    → LaneServed serves before last history top a c m n
lane_one serves before last x history top a b c m n given back one is up noted =
    let ended : b.ended ≡ a.ended = ap (λ (d : DoorSeen). d.ended) given in
    record {
      links = x ∷ [];
      grown = subst (λ (o : Option (List EndedLink)). GrowsBy o c.ended (x ∷ [])) ended back.grows;
      chain = (history, one, (refl, sym is));
      up_to = up;
      number = ap (λ (d : DoorSeen). d.number) back.others ∙ ap (λ (d : DoorSeen). d.number) given;
      gave = ap (λ (d : DoorSeen). d.gave) back.others ∙ ap (λ (d : DoorSeen). d.gave) given;
      balanced = λ even. back_even b c x back (gives_out a b given even);
      tells = λ even some. back.tells (has_out b.ended b.gave (gives_out a b given even) (subst IsSome (sym ended) some));
      memory = noted_one m.memory n.memory (is_memory x.end.kind) noted.memory;
      turns = one_spent (is_spent x.end.kind) noted.turns;
      kept = noted.kept;
    }

-- a lane that served none: its door is closed, or failed
pub lane_none : (serves : List Entry → ℕ → EndedLink → List Entry → Type 0) (before : List Entry) (last : ℕ) (a c : DoorSeen) (m : Lack)
    → c.ended ≡ a.ended → c.gave ≡ a.gave → c.number ≡ a.number → LaneServed serves before last before last a c m m
lane_none serves before last a c m ended gave number = record {
  links = [];
  grown = subst (λ (o : Option (List EndedLink)). GrowsBy a.ended o []) (sym ended) (grows_by_none a.ended);
  chain = (refl, refl);
  up_to = λ are. are;
  number = number;
  gave = (let none : c.gave ≡ a.gave + 0 = omega (arith, gave) in none);
  balanced = λ even. subst (λ n. IfSome c.ended (λ es. length es ≡ n)) (sym gave) (subst (λ o. IfSome o (λ es. length es ≡ a.gave)) (sym ended) even);
  tells = λ even some. subst IsSome (sym ended) some;
  memory = noted_none m.memory;
  turns = λ is. cc;
  kept = λ some. some;
}
