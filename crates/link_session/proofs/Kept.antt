-- What a session's shelf holds, by what was printed and by the history.
use Rattle.std.proofs.Common.{◌≡◌, ◌⊎◌, ◌==◌, ◌&&◌, ℕ, zero, suc, ◌+◌, ◌<◌, ◌≤◌, Bool, true, false, cond, nat_lt, nat_le, if◌then◌else◌, List, [], ◌∷◌, ◌++◌, map, Option, Some, None, Result, Ok, Err, inl, inr, refl, sym, ◌∙◌, ap, subst, arith, append-nil, append_assoc}
use Rattle.std.specs.List.{Contains, slice_index_or}
use Rattle.std.proofs.lemmas.Bool.{and_parts, and_from, eq-eqb, eqb-true, le-leb, lt-ltb, ltb-true}
use Rattle.std.proofs.lemmas.Bool.Decides.{nat_tests}
use Rattle.std.proofs.lemmas.List.Elements.{Contains-append_right, Contains-append_cases}
use Rattle.bim_model.specs.Snapshots.{Version}
use Rattle.http_frame.specs.declared.types.HttpRequest.{HttpRequest}
use Rattle.clash_publish.specs.Shelves.{set_of, is_live}
use Rattle.clash_publish.specs.Shelves as shelves
use Rattle.clash_publish.specs.declared.horizon.Horizon.{Horizon}
use Rattle.book_turn.specs.declared.object.Stamp.{Stamp}
use Rattle.book_turn.specs.Entries.{listed, AllBefore}
use Rattle.book_turn.proofs.Prefixes.{before_append, before_later}
use Rattle.book_history.specs.declared.limits.Settings.{Settings}
use Rattle.book_history.specs.declared.changes.Entry.{Entry}
use Rattle.book_history.specs.declared.requests.BookRequest.{BookRequest}
use Rattle.book_history.specs.declared.requests.BookCall.{BookCall}
use Rattle.book_history.specs.declared.requests.BookRequest.TheVariants.{ReadClashes}
use Rattle.book_history.specs.declared.requests.Wanted.{Wanted}
use Rattle.book_history.specs.declared.requests.Wanted.TheVariants.{Number}
use Rattle.book_history.specs.declared.book_fault.BookFault.{BookFault}
use Rattle.book_history.specs.declared.replies.ReplyBody.TheVariants as reply
use Rattle.book_history.specs.declared.replies.BookReply.{BookReply}
use Rattle.book_history.specs.History.{state_of, newest_of, at_turn, horizon_of, project_numbers, IsBefore}
use Rattle.book_history.specs.Refusals.{project_of}
use Rattle.book_history.specs.Requests.{Outcome, Answer, in_project, clashes_read, refused_or, ahead, outcome_of, outcome_in, body_of, entry_by, reply_of, added_by}
use Rattle.book_history.specs.Runs.{Step}
use Rattle.book_history.proofs.Histories.{AreAbove, before_all, at_turn-new}
use Rattle.book_history.proofs.Ahead.{not_ahead}
use Rattle.book_passes.specs.Lessons.{CallerSeen, AllOf, stamp_in, turn_of}
use Rattle.book_passes.specs.LessonLaws.{TakesCall}
use Rattle.bcf_http.specs.declared.asked.RequestFault.{RequestFault}
use Rattle.bcf_http.specs.declared.asked.Action.{Action}
use Rattle.bcf_http.specs.declared.asked.Action.TheVariants.{Call, Build, AskList}
use Rattle.bcf_http.specs.declared.answers.Answer.TheVariants as answer
use Rattle.bcf_http.specs.ReplyKinds.{kind_of}
use Rattle.bcf_http.specs.Asked.{asked_by}
use Rattle.bcf_http.specs.Answers.{IsResponse}
use Rattle.bim_session.specs.declared.notes.Notes.{Notes}
use Rattle.bim_session.specs.ShelfNotes.{project_read, set_told, put_set, IsUpTo, AsksShelf, AsksKept, Noted}
use Rattle.bim_session.specs.Works.{Standing, Printed}
use Rattle.bim_session.specs.Session.{Means, MeansRequest, kept_call, IsKept, IsShelved, asking, up_to_printed, with_set, printed_after, closes_after}
use Rattle.bim_session.specs.Talking.{AnswersKept, KeepsNone, waiting_alone}
use Rattle.bim_session.proofs.Sessions.{up_to_grown}
use Rattle.book_history.proofs.Staying.{Settled, settled_later, newest_later, read_settled}
use Rattle.link_session.proofs.ToldClashes.{read_told}

-- a version on the shelf: the session was answered it, and at these entries it is live and checked
pub record OnShelf (settings : Settings) (front : List Entry) (sets : List (ℕ × ℕ)) (p v : ℕ) (content : Version) : Type 0 where
  pub answered : Contains sets (p, v)
  pub low : 1 ≤ p
  pub few : p ≤ 8
  pub high : p ≤ settings.projects
  pub live : newest_of p front < v + 16
  pub settled : Settled (state_of p front) v content

-- the shelf holds just the versions that were answered and are live
pub record Holds (settings : Settings) (front : List Entry) (notes : Notes) (sets : List (ℕ × ℕ)) : Type 0 where
  pub horizon : notes.horizon ≡ horizon_of settings.projects front
  pub each : (p v : ℕ) (content : Version) → set_of notes.shelf p v ≡ Some content → OnShelf settings front sets p v content
  pub all : (p v : ℕ) → Contains sets (p, v) → newest_of p front < v + 16 → (content : Version) × (set_of notes.shelf p v ≡ Some content)

-- the entries with turns up to this one come first
pub record Front (turn : ℕ) (seen front : List Entry) : Type 0 where
  pub late : List Entry
  pub seen_is : seen ≡ front ++ late
  pub early : IsBefore (turn + 1) front
  pub later : AreAbove turn late

-- no clashes were answered
abbrev pub KeepsNothing : Notes → List (ℕ × ℕ) → Type 0
KeepsNothing notes sets = ((p v : ℕ) → set_of notes.shelf p v ≡ None) × (sets ≡ [])

-- the shelf is that of the entries up to the printed turn
pub record KeepsSome (settings : Settings) (seen : List Entry) (notes : Notes) (printed : Printed) : Type 0 where
  pub front : List Entry
  pub first : Front printed.turn seen front
  pub holds : Holds settings front notes printed.sets

pub record Keeps (settings : Settings) (seen : List Entry) (notes : Notes) (printed : Printed) : Type 0 where
  pub turn_is : notes.turn ≡ printed.turn
  pub kept : KeepsNothing notes printed.sets ⊎ KeepsSome settings seen notes printed

-- ---- the entries up to a turn

at_front : (turn : ℕ) (seen front : List Entry) → Front turn seen front → at_turn (turn + 1) seen ≡ front
at_front turn seen front f =
    ap (λ (es : List Entry). at_turn (turn + 1) es) f.seen_is
    ∙ up_to_grown turn turn front f.late (omega arith) f.later
    ∙ ap (λ (es : List Entry). at_turn (turn + 1) es) (sym (append-nil front))
    ∙ at_turn-new (turn + 1) front [] f.early tt

pub above_join : (turn : ℕ) (xs ys : List Entry) → AreAbove turn xs → AreAbove turn ys → AreAbove turn (xs ++ ys)
above_join turn [] ys a b = b
above_join turn (x ∷ xs) ys a b = (a.0, above_join turn xs ys a.1 b)

front_grown : (turn : ℕ) (seen front news : List Entry) → Front turn seen front → AreAbove turn news → Front turn (seen ++ news) front
front_grown turn seen front news f above = record {
  late = f.late ++ news;
  seen_is = ap (λ (es : List Entry). es ++ news) f.seen_is ∙ append_assoc front f.late news;
  early = f.early;
  later = above_join turn f.late news f.later above;
}

of_turns : (turn : ℕ) (es : List Entry) → AllOf turn es → AllBefore turn_of (turn + 1) es
of_turns turn [] are = tt
of_turns turn (e ∷ es) are = (let is : e.stamp.turn ≡ turn = are.0 in omega (arith, is), of_turns turn es are.1)

-- .. are all that were seen, where the turn is the last
front_all : (turn : ℕ) (h added : List Entry) → AllBefore turn_of turn h → AllOf turn added → Front turn (h ++ added) (h ++ added)
front_all turn h added below are = record {
  late = [];
  seen_is = sym (append-nil (h ++ added));
  early = before_all (turn + 1) (h ++ added) (before_append turn_of (turn + 1) h added (before_later turn_of turn (turn + 1) h (omega arith) below) (of_turns turn added are));
  later = tt;
}

-- ---- from the start, and as the history grows

pub keeps_start : (settings : Settings) (seen : List Entry) (turn : ℕ) (notes : Notes) → KeepsNone turn notes → Keeps settings seen notes (record { turn = turn; sets = [] })
keeps_start settings seen turn notes none = record { turn_is = none.0; kept = inl (none.1, refl) }

pub keeps_grown : (settings : Settings) (seen news : List Entry) (notes : Notes) (printed : Printed) → Keeps settings seen notes printed → AreAbove printed.turn news
    → Keeps settings (seen ++ news) notes printed
keeps_grown settings seen news notes printed k above = record { turn_is = k.turn_is; kept = of_kind k.kept }
  where
    of_kind : KeepsNothing notes printed.sets ⊎ KeepsSome settings seen notes printed → KeepsNothing notes printed.sets ⊎ KeepsSome settings (seen ++ news) notes printed
    of_kind (inl nothing) = inl nothing
    of_kind (inr some) = inr (record { front = some.front; first = front_grown printed.turn seen some.front news some.first above; holds = some.holds })

-- ---- the project of an identifier

project_within : (projects id n : ℕ) → project_of projects id ≡ Some n → (1 ≤ n) × (n ≤ projects)
project_within projects id n is = grind (arith, nat_tests, is)

project_same : (few projects id n m : ℕ) → project_of few id ≡ Some n → project_of projects id ≡ Some m → m ≡ n
project_same few projects id n m e d = grind (arith, nat_tests, e, d)

project_in : (few projects id n : ℕ) → project_of few id ≡ Some n → n ≤ projects → project_of projects id ≡ Some n
project_in few projects id n e le = grind (arith, nat_tests, e, le)

-- ---- a kept reply

none_is : (o : Option Version) (content : Version) → o ≡ None → o ≡ Some content → ⊥
none_is o content e d = cc

outcome_settled : (settings : Settings) (h : List Entry) (id p v first count : ℕ) (content : Version) → project_of 8 id ≡ Some p → p ≤ settings.projects → Settled (state_of p h) v content
    → newest_of p h < v + 16 → outcome_of settings h (ReadClashes id (Number v) first count) ≡ Answer (reply.Clashes v content first count)
outcome_settled settings h id p v first count content named high settled live =
    ap (λ (o : Option ℕ). in_project o (clashes_read h (Number v) first count)) (project_in 8 settings.projects id p named high)
    ∙ read_settled h p v first count content settled live

-- what the book replies to a call for the clashes of a version that is checked
reply_settled : (settings : Settings) (h : List Entry) (stamp : Stamp) (seen : Option ℕ) (id p v first count : ℕ) (content : Version) → ahead stamp.turn seen ≡ None
    → project_of 8 id ≡ Some p → p ≤ settings.projects → Settled (state_of p h) v content → newest_of p h < v + 16
    → (let told : BookReply = record { body = reply.Clashes v content first count; horizon = horizon_of settings.projects h } in
    reply_of settings h stamp (kept_call seen id v first count) ≡ told)
reply_settled settings h stamp seen id p v first count content below named high settled live =
    let asked : Outcome = outcome_of settings h (ReadClashes id (Number v) first count) in
    let is : refused_or (ahead stamp.turn seen) asked ≡ Answer (reply.Clashes v content first count) =
    ap (λ (o : Option BookFault). refused_or o asked) below ∙ outcome_settled settings h id p v first count content named high settled live in
    let by : Outcome → BookReply = λ (o : Outcome). record { body = body_of h o; horizon = horizon_of settings.projects (h ++ listed (entry_by stamp o)) } in
    let same : by (Answer (reply.Clashes v content first count)) ≡ record { body = reply.Clashes v content first count; horizon = horizon_of settings.projects h } =
    λ i. record { body = reply.Clashes v content first count; horizon = horizon_of settings.projects (append-nil h i) } in
    ap by is ∙ same

-- a turn up to the printed one isn't ahead in the turn after it
up_to_below : (turn printed : ℕ) (seen : Option ℕ) → turn ≡ printed + 1 → IsUpTo printed seen → ahead turn seen ≡ None
up_to_below turn printed None is le = refl
up_to_below turn printed (Some given) is le = let low : given ≤ printed = le in not_ahead turn given (omega (arith, is, low))

-- the answer to a request for clashes that are kept
pub shelved : (s : Standing) (m : ℕ) (r : HttpRequest) (notes : Notes) (bytes : List ℕ) → Keeps s.settings s.history notes s.printed
    → AnswersKept m r notes (waiting_alone r (s.served + 1)) bytes → IsShelved (asking s m r) bytes [] s.printed
shelved s m r notes bytes keeps x = of_kind keeps.kept
  where
    of_kind : KeepsNothing notes s.printed.sets ⊎ KeepsSome s.settings s.history notes s.printed → IsShelved (asking s m r) bytes [] s.printed
    of_kind (inl nothing) = let asks = x.is_kept.0.0 in absurd (none_is (set_of notes.shelf asks.project asks.version) asks.content (nothing.0 asks.project asks.version) asks.kept)
    of_kind (inr some) =
        let asks = x.is_kept.0.0 in
        let seen : Option ℕ = x.call.seen in
        let up_to : IsUpTo s.printed.turn seen = subst (λ (t : ℕ). IsUpTo t seen) keeps.turn_is x.is_kept.1 in
        let on = some.holds.each asks.project asks.version asks.content asks.kept in
        let at : up_to_printed s ≡ some.front = at_front s.printed.turn s.history some.front some.first in
        let kept : IsKept (asking s m r) = record {
          seen = seen;
          id = asks.id;
          project = asks.project;
          version = asks.version;
          first = asks.first;
          count = asks.count;
          means = (subst (λ (q : BookRequest). MeansRequest (asked_by m r) q) asks.request_is x.means.0, x.means.1);
          up_to = up_to;
          named = asks.named;
          answered = on.answered;
          live = subst (λ (es : List Entry). newest_of asks.project es < asks.version + 16) (sym at) on.live;
        } in
        let same : (stamp : Stamp) → stamp.turn ≡ s.printed.turn + 1 → x.kept ≡ reply_of s.settings (up_to_printed s) stamp (kept_call seen asks.id asks.version asks.first asks.count) = λ (stamp : Stamp) next.
        x.is_kept.0.1 ∙ ap (λ (z : Horizon). (let b : BookReply = record { body = reply.Clashes asks.version asks.content asks.first asks.count; horizon = z } in b)) some.holds.horizon
        ∙ sym (reply_settled s.settings some.front stamp seen asks.id asks.project asks.version asks.first asks.count asks.content (up_to_below stamp.turn s.printed.turn seen next up_to) asks.named on.high on.settled on.live)
        ∙ ap (λ (es : List Entry). reply_of s.settings es stamp (kept_call seen asks.id asks.version asks.first asks.count)) (sym at) in
        record {
          kept = kept;
          response = λ (stamp : Stamp) next.
              subst (λ (t : ℕ). IsResponse (answer.Book (reply_of s.settings (up_to_printed s) stamp (kept_call seen asks.id asks.version asks.first asks.count))) (kind_of r) (Some t)
              (closes_after r (s.served + 1)) bytes) keeps.turn_is
              (subst (λ (b : BookReply). IsResponse (answer.Book b) (kind_of r) (Some notes.turn) (closes_after r (s.served + 1)) bytes) (same stamp next) x.response);
          none = refl;
          printed_is = refl;
        }

-- ---- a call that is made

none_in : (x : ℕ × ℕ) → Contains [] x → ⊥
none_in x c = let lt = c.1 in absurd (omega (arith, lt))

-- what is asked for means one request
means_one : (asked : Result Action RequestFault) (id v first count : ℕ) (request : BookRequest) → MeansRequest asked (ReadClashes id (Number v) first count) → MeansRequest asked request
    → request ≡ ReadClashes id (Number v) first count
means_one (Ok (Call one)) id v first count request a b = sym b ∙ a
means_one (Ok (Build project name mode body)) id v first count request a b = let e = a.2 in cc
means_one (Ok (AskList project query bad_turn)) id v first count request a b = let e = a.2 in cc
means_one (Err fault) id v first count request a b = absurd a

-- the request of a call that is made asks for no clashes that are kept
pub unkept : (s : Standing) (m : ℕ) (r : HttpRequest) (notes : Notes) (call : BookCall) → Keeps s.settings s.history notes s.printed → Means m r call → ¬ (AsksKept notes call)
    → ¬ (IsKept (asking s m r))
unkept s m r notes call keeps means asks_none = λ k. of_kind k keeps.kept
  where
    of_kind : IsKept (asking s m r) → KeepsNothing notes s.printed.sets ⊎ KeepsSome s.settings s.history notes s.printed → ⊥
    of_kind k (inl nothing) = none_in (k.project, k.version) (subst (λ (xs : List (ℕ × ℕ)). Contains xs (k.project, k.version)) nothing.1 k.answered)
    of_kind k (inr some) =
        let at : up_to_printed s ≡ some.front = at_front s.printed.turn s.history some.front some.first in
        let x = some.holds.all k.project k.version k.answered (subst (λ (es : List Entry). newest_of k.project es < k.version + 16) at k.live) in
        let shelf : AsksShelf notes call.request = record {
          id = k.id;
          project = k.project;
          version = k.version;
          first = k.first;
          count = k.count;
          content = x.0;
          request_is = means_one (asked_by m r) k.id k.version k.first k.count call.request k.means.0 means.0;
          named = k.named;
          kept = x.1;
        } in
        let seen : k.seen ≡ call.seen = k.means.1 ∙ sym means.1 in
        asks_none (shelf, subst (λ (t : ℕ). IsUpTo t call.seen) (sym keeps.turn_is) (subst (λ (o : Option ℕ). IsUpTo s.printed.turn o) seen k.up_to))

-- ---- a reply that is noted

at_place : (f : ℕ → ℕ) (place : ℕ) → place < 8 → slice_index_or (map f (project_numbers 8)) place 0 ≡ f (place + 1)
at_place f zero lt = refl
at_place f (suc zero) lt = refl
at_place f (suc (suc zero)) lt = refl
at_place f (suc (suc (suc zero))) lt = refl
at_place f (suc (suc (suc (suc zero)))) lt = refl
at_place f (suc (suc (suc (suc (suc zero))))) lt = refl
at_place f (suc (suc (suc (suc (suc (suc zero)))))) lt = refl
at_place f (suc (suc (suc (suc (suc (suc (suc zero))))))) lt = refl
at_place f (suc (suc (suc (suc (suc (suc (suc (suc place)))))))) lt = absurd (omega (arith, lt))

test_in : (b : Bool) (n : ℕ) → b ≡ true → (if b then n else 0) ≡ n
test_in true n e = refl
test_in false n e = cc

newest_told : (projects p : ℕ) (h : List Entry) → 1 ≤ p → p ≤ 8 → p ≤ projects → shelves.newest_of (horizon_of projects h).newest p ≡ newest_of p h
newest_told projects zero h low few high = absurd (omega (arith, low))
newest_told projects (suc place) h low few high =
    let next : place + 1 ≡ suc place = omega arith in
    at_place (λ n. if nat_le n projects then newest_of n h else 0) place (omega (arith, few))
    ∙ ap (λ n. if nat_le n projects then newest_of n h else 0) next
    ∙ test_in (nat_le (suc place) projects) (newest_of (suc place) h) (le-leb (suc place) projects high)

live_told : (projects p v : ℕ) (h : List Entry) → 1 ≤ p → p ≤ 8 → p ≤ projects → newest_of p h < v + 16 → is_live (horizon_of projects h).newest p v ≡ true
live_told projects p v h low few high lt =
    ap (λ n. nat_lt n (v + 16)) (newest_told projects p h low few high) ∙ lt-ltb (newest_of p h) (v + 16) lt

live_is : (projects p v : ℕ) (h : List Entry) → 1 ≤ p → p ≤ 8 → p ≤ projects → is_live (horizon_of projects h).newest p v ≡ true → newest_of p h < v + 16
live_is projects p v h low few high e =
    ltb-true (newest_of p h) (v + 16) (sym (ap (λ n. nat_lt n (v + 16)) (newest_told projects p h low few high)) ∙ e)

kept_some : (b : Bool) (o : Option Version) (content : Version) → cond b o None ≡ Some content → (b ≡ true) × (o ≡ Some content)
kept_some true o content e = (refl, e)
kept_some false o content e = cc

pair_is : (x : ℕ × Version) (v : ℕ) (content : Version) → x.0 ≡ v → Some x.1 ≡ Some content → Some x ≡ Some (v, content)
pair_is x v content e d = let same : x.1 ≡ content = cc in λ i. Some (e i, same i)

-- what is put stands there, or stood there before
put_cases : (read : Option ℕ) (told : Option (ℕ × Version)) (sets : ℕ → ℕ → Option Version) (p v : ℕ) (content : Version) → put_set read told sets p v ≡ Some content
    → (sets p v ≡ Some content) ⊎ ((read ≡ Some p) × (told ≡ Some (v, content)))
put_cases None told sets p v content e = inl e
put_cases (Some q) None sets p v content e = inl e
put_cases (Some q) (Some x) sets p v content e = by (q == p && x.0 == v) refl
  where
    by : (b : Bool) → (q == p && x.0 == v) ≡ b → (sets p v ≡ Some content) ⊎ ((Some q ≡ Some p) × (Some x ≡ Some (v, content)))
    by true t =
        let keys = and_parts (q == p) (x.0 == v) t in
        inr (ap Some (eqb-true q p keys.0), pair_is x v content (eqb-true x.0 v keys.1) (sym (ap (λ b. cond b (Some x.1) (sets p v)) t) ∙ e))
    by false t = inl (sym (ap (λ b. cond b (Some x.1) (sets p v)) t) ∙ e)

-- .. and something does where something did
put_some : (read : Option ℕ) (told : Option (ℕ × Version)) (sets : ℕ → ℕ → Option Version) (p v : ℕ) (content : Version) → sets p v ≡ Some content
    → (now : Version) × (put_set read told sets p v ≡ Some now)
put_some None told sets p v content e = (content, e)
put_some (Some q) None sets p v content e = (content, e)
put_some (Some q) (Some x) sets p v content e = by (q == p && x.0 == v) refl
  where
    by : (b : Bool) → (q == p && x.0 == v) ≡ b → (now : Version) × (cond (q == p && x.0 == v) (Some x.1) (sets p v) ≡ Some now)
    by true t = (x.1, ap (λ b. cond b (Some x.1) (sets p v)) t)
    by false t = (content, ap (λ b. cond b (Some x.1) (sets p v)) t ∙ e)

put_new : (sets : ℕ → ℕ → Option Version) (p v : ℕ) (content : Version) → put_set (Some p) (Some (v, content)) sets p v ≡ Some content
put_new sets p v content = ap (λ b. cond b (Some content) (sets p v)) (and_from (p == p) (v == v) (eq-eqb p p refl) (eq-eqb v v refl))

with_old : (read : Option ℕ) (told : Option (ℕ × Version)) (sets : List (ℕ × ℕ)) (x : ℕ × ℕ) → Contains sets x → Contains (with_set read told sets) x
with_old None told sets x c = c
with_old (Some q) None sets x c = c
with_old (Some q) (Some y) sets x c = Contains-append_right ((q, y.0) ∷ []) sets x c

with_new : (p v : ℕ) (content : Version) (sets : List (ℕ × ℕ)) → Contains (with_set (Some p) (Some (v, content)) sets) (p, v)
with_new p v content sets = (0, omega arith, refl)

one_in : (x y : ℕ × ℕ) → Contains (x ∷ []) y → x ≡ y
one_in x y (zero, lt, e) = e
one_in x y (suc k, lt, e) = absurd (omega (arith, lt))

with_cases : (read : Option ℕ) (told : Option (ℕ × Version)) (sets : List (ℕ × ℕ)) (p v : ℕ) → Contains (with_set read told sets) (p, v)
    → Contains sets (p, v) ⊎ ((content : Version) × (read ≡ Some p) × (told ≡ Some (v, content)))
with_cases None told sets p v c = inl c
with_cases (Some q) None sets p v c = inl c
with_cases (Some q) (Some x) sets p v c = of_two (Contains-append_cases ((q, x.0) ∷ []) sets (p, v) c)
  where
    of_two : Contains {X = ℕ × ℕ} ((q, x.0) ∷ []) (p, v) ⊎ Contains sets (p, v) → Contains sets (p, v) ⊎ ((content : Version) × (Some q ≡ Some p) × (Some x ≡ Some (v, content)))
    of_two (inl own) =
        let e = one_in (q, x.0) (p, v) own in
        inr (x.1, ap (λ (y : ℕ × ℕ). Some y.0) e, pair_is x v x.1 (ap (λ (y : ℕ × ℕ). y.1) e) refl)
    of_two (inr old) = inl old

-- a version whose clashes are told
record IsTold (settings : Settings) (h : List Entry) (p v : ℕ) (content : Version) : Type 0 where
  low : 1 ≤ p
  few : p ≤ 8
  high : p ≤ settings.projects
  settled : Settled (state_of p h) v content
  live : newest_of p h < v + 16

told_in : (settings : Settings) (h : List Entry) (id : ℕ) (wanted : Wanted) (first count p v : ℕ) (content : Version) (o : Option ℕ) → project_of 8 id ≡ Some p
    → project_of settings.projects id ≡ o → set_told (body_of h (in_project o (clashes_read h wanted first count))) ≡ Some (v, content) → IsTold settings h p v content
told_in settings h id wanted first count p v content None named is told = cc
told_in settings h id wanted first count p v content (Some n) named is told =
    let same : n ≡ p = project_same 8 settings.projects id p n named is in
    let low = project_within 8 id p named in
    let high = project_within settings.projects id n is in
    let x = read_told h wanted first count n v content told in
    subst (λ (k : ℕ). IsTold settings h k v content) same
    (record { low = high.0; few = (let le : p ≤ 8 = low.1 in omega (arith, le, same)); high = high.1; settled = x.0; live = x.1 })

told_unless : (settings : Settings) (h : List Entry) (fault : Option BookFault) (request : BookRequest) (p v : ℕ) (content : Version) → project_read request ≡ Some p
    → set_told (body_of h (refused_or fault (outcome_of settings h request))) ≡ Some (v, content) → IsTold settings h p v content
told_unless settings h (Some fault) request p v content named told = cc
told_unless settings h None (ReadClashes id wanted first count) p v content named told =
    told_in settings h id wanted first count p v content (project_of settings.projects id) named refl told
told_unless settings h None other p v content named told = cc

told_of : (settings : Settings) (h : List Entry) (turn : ℕ) (call : BookCall) (p v : ℕ) (content : Version) → project_read call.request ≡ Some p
    → set_told (body_of h (outcome_in settings h turn call)) ≡ Some (v, content) → IsTold settings h p v content
told_of settings h turn call p v content named told = told_unless settings h (ahead turn call.seen) call.request p v content named told

-- ---- the shelf after a reply

-- a version on the shelf at some entries stays on it as the history grows, while it is live
on_later : (settings : Settings) (front more : List Entry) (sets later : List (ℕ × ℕ)) (p v : ℕ) (content : Version) → OnShelf settings front sets p v content
    → Contains later (p, v) → newest_of p (front ++ more) < v + 16 → OnShelf settings (front ++ more) later p v content
on_later settings front more sets later p v content on answered live = record {
  answered = answered;
  low = on.low;
  few = on.few;
  high = on.high;
  live = live;
  settled = settled_later p front more v content on.settled;
}

module _ (settings : Settings) (call : BookCall) (stamp : Stamp) (seen others : List Entry) (notes now : Notes) (printed : Printed)
    (keeps : Keeps settings seen notes printed) where
  -- the entries below the turn, those that the call adds, and what it is told
  abbrev before : List Entry
  before = seen ++ others

  abbrev added : List Entry
  added = added_by settings before stamp call

  abbrev told : BookReply
  told = reply_of settings before stamp call

  abbrev sets : List (ℕ × ℕ)
  sets = with_set (project_read call.request) (set_told told.body) printed.sets

  module _ (noted : Noted stamp.turn (project_read call.request) told notes now) where
    -- from the shelf before
    old_on : (p v : ℕ) (content : Version) → is_live told.horizon.newest p v ≡ true → set_of notes.shelf p v ≡ Some content → OnShelf settings (before ++ added) sets p v content
    old_on p v content live is = of_kind keeps.kept
      where
        of_kind : KeepsNothing notes printed.sets ⊎ KeepsSome settings seen notes printed → OnShelf settings (before ++ added) sets p v content
        of_kind (inl nothing) = absurd (none_is (set_of notes.shelf p v) content (nothing.0 p v) is)
        of_kind (inr some) =
            let on = some.holds.each p v content is in
            let more : List Entry = some.first.late ++ (others ++ added) in
            let whole : before ++ added ≡ some.front ++ more =
            append_assoc seen others added ∙ ap (λ (es : List Entry). es ++ (others ++ added)) some.first.seen_is ∙ append_assoc some.front some.first.late (others ++ added) in
            let lives : newest_of p (before ++ added) < v + 16 = live_is settings.projects p v (before ++ added) on.low on.few on.high live in
            subst (λ (es : List Entry). OnShelf settings es sets p v content) (sym whole)
            (on_later settings some.front more printed.sets sets p v content on (with_old (project_read call.request) (set_told told.body) printed.sets (p, v) on.answered)
            (subst (λ (es : List Entry). newest_of p es < v + 16) whole lives))

    -- from the reply
    new_on : (p v : ℕ) (content : Version) → is_live told.horizon.newest p v ≡ true → project_read call.request ≡ Some p → set_told told.body ≡ Some (v, content)
        → OnShelf settings (before ++ added) sets p v content
    new_on p v content live read is =
        let x = told_of settings before stamp.turn call p v content read is in
        record {
          answered = subst (λ (o : Option ℕ). Contains (with_set o (set_told told.body) printed.sets) (p, v)) (sym read)
              (subst (λ (o : Option (ℕ × Version)). Contains (with_set (Some p) o printed.sets) (p, v)) (sym is) (with_new p v content printed.sets));
          low = x.low;
          few = x.few;
          high = x.high;
          live = live_is settings.projects p v (before ++ added) x.low x.few x.high live;
          settled = settled_later p before added v content x.settled;
        }

    each_now : (p v : ℕ) (content : Version) → set_of now.shelf p v ≡ Some content → OnShelf settings (before ++ added) sets p v content
    each_now p v content is =
        let put = kept_some (is_live told.horizon.newest p v) (put_set (project_read call.request) (set_told told.body) (set_of notes.shelf) p v) content (sym (noted.sets_are p v) ∙ is) in
        of_two put.0 (put_cases (project_read call.request) (set_told told.body) (set_of notes.shelf) p v content put.1)
      where
        of_two : is_live told.horizon.newest p v ≡ true → (set_of notes.shelf p v ≡ Some content) ⊎ ((project_read call.request ≡ Some p) × (set_told told.body ≡ Some (v, content)))
            → OnShelf settings (before ++ added) sets p v content
        of_two live (inl old) = old_on p v content live old
        of_two live (inr new) = new_on p v content live new.0 new.1

    -- what is put and live is on the shelf
    put_now : (p v : ℕ) (content : Version) → is_live told.horizon.newest p v ≡ true → put_set (project_read call.request) (set_told told.body) (set_of notes.shelf) p v ≡ Some content
        → set_of now.shelf p v ≡ Some content
    put_now p v content live put =
        noted.sets_are p v ∙ ap (λ b. cond b (put_set (project_read call.request) (set_told told.body) (set_of notes.shelf) p v) None) live ∙ put

    all_now : (p v : ℕ) → Contains sets (p, v) → newest_of p (before ++ added) < v + 16 → (content : Version) × (set_of now.shelf p v ≡ Some content)
    all_now p v has lives = of_two (with_cases (project_read call.request) (set_told told.body) printed.sets p v has)
      where
        of_kind : Contains printed.sets (p, v) → KeepsNothing notes printed.sets ⊎ KeepsSome settings seen notes printed → (content : Version) × (set_of now.shelf p v ≡ Some content)
        of_kind c (inl nothing) = absurd (none_in (p, v) (subst (λ (xs : List (ℕ × ℕ)). Contains xs (p, v)) nothing.1 c))
        of_kind c (inr some) =
            let more : List Entry = some.first.late ++ (others ++ added) in
            let whole : before ++ added ≡ some.front ++ more =
            append_assoc seen others added ∙ ap (λ (es : List Entry). es ++ (others ++ added)) some.first.seen_is ∙ append_assoc some.front some.first.late (others ++ added) in
            let rises : newest_of p some.front ≤ newest_of p (some.front ++ more) = newest_later p some.front more in
            let there : newest_of p (some.front ++ more) < v + 16 = subst (λ (es : List Entry). newest_of p es < v + 16) whole lives in
            let x = some.holds.all p v c (omega (arith, rises, there)) in
            let on = some.holds.each p v x.0 x.1 in
            let y = put_some (project_read call.request) (set_told told.body) (set_of notes.shelf) p v x.0 x.1 in
            (y.0, put_now p v y.0 (live_told settings.projects p v (before ++ added) on.low on.few on.high lives) y.1)

        of_two : Contains printed.sets (p, v) ⊎ ((content : Version) × (project_read call.request ≡ Some p) × (set_told told.body ≡ Some (v, content)))
            → (content : Version) × (set_of now.shelf p v ≡ Some content)
        of_two (inl old) = of_kind old keeps.kept
        of_two (inr (content, read, is)) =
            let x = told_of settings before stamp.turn call p v content read is in
            let put : put_set (project_read call.request) (set_told told.body) (set_of notes.shelf) p v ≡ Some content =
            ap (λ (o : Option ℕ). put_set o (set_told told.body) (set_of notes.shelf) p v) read
            ∙ ap (λ (o : Option (ℕ × Version)). put_set (Some p) o (set_of notes.shelf) p v) is ∙ put_new (set_of notes.shelf) p v content in
            (content, put_now p v content (live_told settings.projects p v (before ++ added) x.low x.few x.high lives) put)

    pub holds_now : Holds settings (before ++ added) now sets
    holds_now = record { horizon = noted.horizon_is; each = each_now; all = all_now }

-- the shelf after the reply to a call in a turn
pub keeps_noted : (settings : Settings) (call : BookCall) (turn : ℕ) (told : BookReply) (v w : CallerSeen) (notes now : Notes) (printed : Printed) (step : Step)
    → Keeps settings v.seen notes printed → TakesCall settings call turn told v w → Noted turn (project_read call.request) told notes now
    → step ≡ record { stamp = stamp_in turn v; call = call } → Keeps settings w.seen now (printed_after step told printed)
keeps_noted settings call turn told v w notes now printed step keeps c noted is =
    let h : List Entry = v.seen ++ c.others in
    let more : List Entry = added_by settings h (stamp_in turn v) call in
    let own : Step = record { stamp = stamp_in turn v; call = call } in
    let here : Noted turn (project_read call.request) (reply_of settings h (stamp_in turn v) call) notes now =
    subst (λ (b : BookReply). Noted turn (project_read call.request) b notes now) c.replied noted in
    let holds = holds_now settings call (stamp_in turn v) v.seen c.others notes now printed keeps here in
    let front : Front turn (h ++ more) (h ++ more) = front_all turn h more c.takes.below c.takes.in_turn in
    let kept : KeepsSome settings (h ++ more) now (printed_after own (reply_of settings h (stamp_in turn v) call) printed) =
    record { front = h ++ more; first = front; holds = holds } in
    let whole : Keeps settings (h ++ more) now (printed_after own (reply_of settings h (stamp_in turn v) call) printed) = record { turn_is = noted.turn_is; kept = inr kept } in
    subst (λ (s : Step). Keeps settings w.seen now (printed_after s told printed)) (sym is)
    (subst (λ (b : BookReply). Keeps settings w.seen now (printed_after own b printed)) (sym c.replied)
    (subst (λ (es : List Entry). Keeps settings es now (printed_after own (reply_of settings h (stamp_in turn v) call) printed)) (sym c.takes.seen) whole))
