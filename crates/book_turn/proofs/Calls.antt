-- What the calls of a turn tell.
use Rattle.std.proofs.Common.{◌≡◌, ℕ, ◌<◌, ◌^◌, List, [], ◌∷◌, ◌++◌, length, Option, None, Some, true, true≢false, refl, sym, ap, ◌∙◌, subst, arith}
use Rattle.std.specs.Prelude.{Result, Ok, Err, IfOk, OnOk, OnErr}
use Rattle.std.specs.declared.alloc.AllocError.{AllocError}
use mathlib.Core.List.{append-nil}
use Rattle.atomic_table.specs.Table.{Me, Step, rest}
use Rattle.book_turn.specs.declared.object.Stamp.{Stamp}
use Rattle.book_turn.specs.declared.rule.View.{View}
use Rattle.book_turn.specs.declared.rule.Stage.TheVariants.{Waiting, Called}
use Rattle.book_turn.specs.NumberLists.{has}
use Rattle.book_turn.specs.Entries.{listed, IsOneOf}
use Rattle.book_turn.specs.PassViews.{drawn_view, awaited, done_view}
use Rattle.book_turn.specs.TurnSteps.{TakesTurn, looked, Comes, Adds, Serves, journal_in}
use Rattle.book_turn.proofs.Keeps.{some-inj}

pub came : {O E S : Type 0} (journal : O → List E) (settings : O → S) (turn pass : E → ℕ) (st : Step (Option O)) (me0 me me' : Me (Option O) (View E S)) (t r : ℕ)
    → me ≡ me0 → me0.0.stage ≡ Waiting t → r ≡ t → looked journal settings turn pass st me r me' → Comes journal settings turn pass t me0 me'
came journal settings turn pass st me0 me me' t r is waits same told =
    let l = subst (λ m. looked journal settings turn pass st m r me') is told in
    subst (λ (x : ℕ). Comes journal settings turn pass x me0 me') same (l.1 (same ∙ sym (ap awaited waits)))

front : {A : Type 0} → A → List (ℕ × A) → A
front a [] = a
front a (x ∷ xs) = x.1

-- the object was taken out, and what it became was put back
pub put_hand : {O V : Type 0} (m m1 m2 : Me (Option O) V) (o p : O) (x : Option O) → m.1 ≡ (0, Some o) ∷ [] → m1 ≡ (m.0, (0, x) ∷ rest m.1) → m2 ≡ (m1.0, (0, Some p) ∷ rest m1.1) → m2 ≡ (m.0, (0, Some p) ∷ [])
put_hand m m1 m2 o p x known out back = back ∙ ap (λ z. (z.0, (0, Some p) ∷ rest z.1)) out ∙ ap (λ l. (m.0, (0, Some p) ∷ rest l)) known

-- what was taken out of the slot is what the seat had
pub same_hand : {O : Type 0} (cs : List (ℕ × Option O)) (o p : O) (x : Option O) → cs ≡ (0, Some o) ∷ [] → cs ≡ (0, x) ∷ rest cs → x ≡ Some p → p ≡ o
unfolding front
same_hand cs o p x known found is = some-inj (sym is ∙ sym (ap (front (Some o)) found) ∙ ap (front (Some o)) known)

module _ {O E S Rq Rp : Type 0} (journal : O → List E) (settings : O → S) (stamp_of : E → Stamp) (reply_of : S → List E → Stamp → Rq → Rp) (added_by : S → List E → Stamp → Rq → Option E) where
  -- what `pass_on` asks
  abbrev pub MayPass : ℕ → Me (Option O) (View E S) → Type 0
  MayPass t m = (o : O) × (m.0.stage ≡ Called t) × (0 < length m.0.passes) × (m.1 ≡ (0, Some o) ∷ []) × Adds journal settings (λ e. (stamp_of e).turn) (λ e. (stamp_of e).pass) t o m.0

  pub may_pass : (t : ℕ) (m m2 : Me (Option O) (View E S)) (p : O) → m2 ≡ (m.0, (0, Some p) ∷ []) → m.0.stage ≡ Called t → 0 < length m.0.passes → Adds journal settings (λ e. (stamp_of e).turn) (λ e. (stamp_of e).pass) t p m.0 → MayPass t m2
  may_pass t m m2 p is called some_pass adds = subst (MayPass t) (sym is) (p, called, some_pass, refl, adds)

  one_listed : (ps : List ℕ) (st : Stamp) (x : Option E) → ((e : E) → x ≡ Some e → stamp_of e ≡ st) → has st.pass ps ≡ true → IsOneOf (λ e. (stamp_of e).turn) (λ e. (stamp_of e).pass) st.turn ps (listed x)
  one_listed ps st None law named = tt
  one_listed ps st (Some e) law named = let q = law e refl in (ap (λ (s : Stamp). s.turn) q, subst (λ (s : Stamp). has s.pass ps ≡ true) (sym q) named)

  pub acted : (o o' : O) (v : View E S) (st : Stamp) (rq : Rq) (res : Result Rp AllocError) → journal o ≡ v.seen → v.settings ≡ Some (settings o) → settings o' ≡ settings o
      → IfOk res (λ r. r ≡ reply_of (settings o) (journal o) st rq) → OnOk res (journal o' ≡ journal o ++ listed (added_by (settings o) (journal o) st rq)) → OnErr res (journal o' ≡ journal o)
      → ((s : S) (h : List E) (t : Stamp) (r : Rq) (e : E) → added_by s h t r ≡ Some e → stamp_of e ≡ t) → has st.pass v.passes ≡ true
      → Adds journal settings (λ e. (stamp_of e).turn) (λ e. (stamp_of e).pass) st.turn o' v × ((w : View E S) → w ≡ done_view v (journal o') → Serves reply_of added_by st rq v w res)
  acted o o' v st rq (Ok reply) here known kept replied added same law named =
      let s : S = settings o in
      let now : journal o' ≡ v.seen ++ listed (added_by s v.seen st rq) = added ∙ ap (λ h. h ++ listed (added_by s h st rq)) here in (
        (known ∙ ap Some (sym kept), listed (added_by s v.seen st rq), now, one_listed v.passes st (added_by s v.seen st rq) (law s v.seen st rq) named),
        λ w is. (s, known, replied ∙ ap (λ h. reply_of s h st rq) here, is ∙ ap (done_view v) now),
      )
  acted o o' v st rq (Err e) here known kept replied added same law named =
      let now : journal o' ≡ v.seen = same ∙ here in (
        (known ∙ ap Some (sym kept), [], now ∙ sym (append-nil v.seen), tt),
        λ w is. is ∙ ap (done_view v) now,
      )

pub some_has : (x : ℕ) (ps : List ℕ) → has x ps ≡ true → 0 < length ps
some_has x [] e = absurd (true≢false (sym e))
some_has x (p ∷ ps) e = omega arith

-- what the seat knows after a call
pub served : {O E S : Type 0} (journal : O → List E) (m m2 m3 : Me (Option O) (View E S)) (p : O) → m2 ≡ (m.0, (0, Some p) ∷ []) → m3 ≡ (done_view m2.0 (journal_in journal m2.1), []) → m3 ≡ (done_view m.0 (journal p), [])
served journal m m2 m3 p is done = done ∙ ap (λ z. (done_view z.0 (journal_in journal z.1), [])) is

pub takes_turn : {O E S Rq Rp : Type 0} (journal : O → List E) (settings : O → S) (stamp_of : E → Stamp) (reply_of : S → List E → Stamp → Rq → Rp) (added_by : S → List E → Stamp → Rq → Option E) (t number call : ℕ) (rq : Rq) (v w : View E S) (res : Result Rp AllocError) (cs : List (ℕ × Option O)) (m1 m2 : Me (Option O) (View E S))
    → m1 ≡ (drawn_view v t, cs) → v.last < t → t < 2 ^ 47 → Comes journal settings (λ e. (stamp_of e).turn) (λ e. (stamp_of e).pass) t m1 m2 → Serves reply_of added_by (record { turn = t; pass = number; call = call }) rq m2.0 w res
    → TakesTurn stamp_of reply_of added_by t number call rq v w res
takes_turn {E = E} {S = S} journal settings stamp_of reply_of added_by t number call rq v w res cs m1 m2 drawn later within comes serves =
    let c = subst (λ m. Comes journal settings (λ e. (stamp_of e).turn) (λ e. (stamp_of e).pass) t m m2) drawn comes in record {
      news = c.1;
      later = later;
      within = within;
      since = c.5;
      before = c.6;
      others = c.7;
      rises = c.8;
      served = subst (λ (x : View E S). Serves reply_of added_by (record { turn = t; pass = number; call = call }) rq x w res) (ap (λ m. m.0) c.2) serves;
    }
