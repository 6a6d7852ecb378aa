-- What bytes spell: one reading, and it stays whatever follows.
use Rattle.std.proofs.Common.{◌≡◌, ℕ, Bool, true, false, List, [], ◌∷◌, ◌++◌, refl, sym, ap, ◌∙◌, inl, inr, subst}
use Rattle.httparse.specs.Grammar.{RequestHead}
use Rattle.http_frame.specs.declared.types.FrameFault.{FrameFault}
use Rattle.http_frame.specs.declared.types.HttpRequest.{HttpRequest}
use Rattle.http_frame.specs.Heads.{most_body, framing, asks_continue, closes, is_encoded, user_of, turn_of, HasGoodHead}
use Rattle.http_frame.specs.Bodies.{ReadsBody, FailsInBody}
use Rattle.http_frame.specs.Events.{Begins, Fails, Asks, Event, continue, request, Ending, between, within, bad, Ends, IsTold, Spells}
use Rattle.http_frame.proofs.HeadLaws.{good_unique, good_is_no_fault, head_fault_unique, head_fault_stays, good_stays}
use Rattle.http_frame.proofs.BodyLaws.{body_unique, body_fault_unique, body_is_no_fault, body_stays, body_fault_stays}

same_request : (r q : HttpRequest) → r.method ≡ q.method → r.target ≡ q.target → r.minor ≡ q.minor → r.user ≡ q.user → r.close ≡ q.close → r.encoded ≡ q.encoded → r.seen ≡ q.seen → r.body ≡ q.body → r ≡ q
same_request r q m t v u c e s b =
    λ i. record { method = m i; target = t i; minor = v i; user = u i; close = c i; encoded = e i; seen = s i; body = b i }

body_at : (h k : RequestHead) (t u b x : List ℕ) → h ≡ k → t ≡ u → ReadsBody (most_body k) (framing k) u b x → ReadsBody (most_body h) (framing h) t b x
body_at h k t u b x e f y =
    subst (λ (v : List ℕ). ReadsBody (most_body h) (framing h) v b x) (sym f) (subst (λ (g : RequestHead). ReadsBody (most_body g) (framing g) u b x) (sym e) y)

fault_at : (h k : RequestHead) (t u : List ℕ) (f : FrameFault) → h ≡ k → t ≡ u → FailsInBody (most_body k) (framing k) u f → FailsInBody (most_body h) (framing h) t f
fault_at h k t u f e d y =
    subst (λ (v : List ℕ). FailsInBody (most_body h) (framing h) v f) (sym d) (subst (λ (g : RequestHead). FailsInBody (most_body g) (framing g) u f) (sym e) y)

pub begins_unique : (bytes : List ℕ) (r q : HttpRequest) (x y : List ℕ) → Begins bytes r x → Begins bytes q y → (r ≡ q) × (x ≡ y)
begins_unique bytes r q x y a b =
    let heads = good_unique bytes a.head b.head a.behind b.behind a.good b.good in
    let bodies = body_unique (most_body a.head) (framing a.head) a.behind r.body q.body x y a.body (body_at a.head b.head a.behind b.behind q.body y heads.0 heads.1 b.body) in
    let e = heads.0 in (
      same_request r q (a.method ∙ ap (λ (h : RequestHead). h.method) e ∙ sym b.method)
          (a.target ∙ ap (λ (h : RequestHead). h.target) e ∙ sym b.target)
          (a.minor ∙ ap (λ (h : RequestHead). h.minor) e ∙ sym b.minor)
          (a.user ∙ ap user_of e ∙ sym b.user) (a.close ∙ ap closes e ∙ sym b.close) (a.encoded ∙ ap is_encoded e ∙ sym b.encoded) (a.seen ∙ ap turn_of e ∙ sym b.seen) bodies.0,
      bodies.1,
    )

pub fails_unique : (bytes : List ℕ) (f g : FrameFault) → Fails bytes f → Fails bytes g → f ≡ g
fails_unique bytes f g (inl x) (inl y) = head_fault_unique bytes f g x y
fails_unique bytes f g (inl x) (inr (k, t, good, y)) = absurd (good_is_no_fault bytes k t f good x)
fails_unique bytes f g (inr (h, t, good, x)) (inl y) = absurd (good_is_no_fault bytes h t g good y)
fails_unique bytes f g (inr (h, t, good, x)) (inr (k, u, fine, y)) =
    let heads = good_unique bytes h k t u good fine in
    body_fault_unique (most_body h) (framing h) t f g x (fault_at h k t u g heads.0 heads.1 y)

pub begins_is_no_fault : (bytes : List ℕ) (r : HttpRequest) (x : List ℕ) (f : FrameFault) → Begins bytes r x → Fails bytes f → ⊥
begins_is_no_fault bytes r x f a (inl y) = good_is_no_fault bytes a.head a.behind f a.good y
begins_is_no_fault bytes r x f a (inr (k, u, fine, y)) =
    let heads = good_unique bytes a.head k a.behind u a.good fine in
    body_is_no_fault (most_body a.head) (framing a.head) a.behind r.body x f a.body (fault_at a.head k a.behind u f heads.0 heads.1 y)

pub begins_stays : (bytes more : List ℕ) (r : HttpRequest) (x : List ℕ) → Begins bytes r x → Begins (bytes ++ more) r (x ++ more)
begins_stays bytes more r x a = record {
  head = a.head;
  behind = a.behind ++ more;
  good = good_stays bytes more a.head a.behind a.good;
  body = body_stays (most_body a.head) (framing a.head) a.behind more r.body x a.body;
  method = a.method;
  target = a.target;
  minor = a.minor;
  user = a.user;
  close = a.close;
  encoded = a.encoded;
  seen = a.seen;
}

pub fails_stays : (bytes more : List ℕ) (f : FrameFault) → Fails bytes f → Fails (bytes ++ more) f
fails_stays bytes more f (inl x) = inl (head_fault_stays bytes more f x)
fails_stays bytes more f (inr (h, t, good, x)) = inr (h, t ++ more, good_stays bytes more h t good, body_fault_stays (most_body h) (framing h) t more f x)

pub asks_stays : (bytes more : List ℕ) → Asks bytes → Asks (bytes ++ more)
asks_stays bytes more (h, t, good, a, n) = (h, t ++ more, good_stays bytes more h t good, a, n)

-- after a good head it is settled whether it asks
pub settled : (bytes more : List ℕ) (h : RequestHead) (t : List ℕ) → HasGoodHead bytes h t → Asks (bytes ++ more) → Asks bytes
settled bytes more h t good (k, u, fine, a, n) =
    let e = (good_unique (bytes ++ more) k h u (t ++ more) fine (good_stays bytes more h t good)).0 in
    (h, t, good, ap asks_continue (sym e) ∙ a, λ x. n (ap framing e ∙ x))

pub begins_settles : (bytes more : List ℕ) (r : HttpRequest) (x : List ℕ) → Begins bytes r x → Asks (bytes ++ more) → Asks bytes
begins_settles bytes more r x a = settled bytes more a.head a.behind a.good

pub fails_settles : (bytes more : List ℕ) (f : FrameFault) → Fails bytes f → Asks (bytes ++ more) → Asks bytes
fails_settles bytes more f (inl x) (k, u, fine, a, n) = absurd (good_is_no_fault (bytes ++ more) k u f fine (head_fault_stays bytes more f x))
fails_settles bytes more f (inr (h, t, good, x)) asks = settled bytes more h t good asks

-- ---- one list of events

pub told_not : (told : Bool) (bytes : List ℕ) → IsTold told bytes → told ≡ false → Asks bytes → ⊥
told_not told bytes (inl t) f asks = let e : true ≡ false = sym t ∙ f in cc
told_not told bytes (inr none) f asks = none asks

pub ends_not : (bytes : List ℕ) (e : Ending) (r : HttpRequest) (x : List ℕ) → Ends bytes e → Begins bytes r x → ⊥
ends_not bytes between r x a b = a.0.0 r x b
ends_not bytes within r x a b = a.0.0 r x b
ends_not bytes (bad f) r x a b = begins_is_no_fault bytes r x f b a

ends_unique : (bytes : List ℕ) (e d : Ending) → Ends bytes e → Ends bytes d → e ≡ d
ends_unique bytes between between a b = refl
ends_unique bytes between within a b = absurd (b.1 a.1)
ends_unique bytes between (bad f) a b = absurd (a.0.1 f b)
ends_unique bytes within between a b = absurd (a.1 b.1)
ends_unique bytes within within a b = refl
ends_unique bytes within (bad f) a b = absurd (a.0.1 f b)
ends_unique bytes (bad f) between a b = absurd (b.0.1 f a)
ends_unique bytes (bad f) within a b = absurd (b.0.1 f a)
ends_unique bytes (bad f) (bad g) a b = ap bad (fails_unique bytes f g a b)

pub spells_unique : (bytes : List ℕ) (told : Bool) (es fs : List Event) (e d : Ending) → Spells bytes told es e → Spells bytes told fs d → (es ≡ fs) × (e ≡ d)
spells_unique bytes told [] [] e d x y = (refl, ends_unique bytes e d x.1 y.1)
spells_unique bytes told [] (continue ∷ fs) e d x y = absurd (told_not told bytes x.0 y.0 y.1)
spells_unique bytes told [] (request r ∷ fs) e d x y = absurd (ends_not bytes e r y.1.0 x.1 y.1.1)
spells_unique bytes told (continue ∷ es) [] e d x y = absurd (told_not told bytes y.0 x.0 x.1)
spells_unique bytes told (continue ∷ es) (continue ∷ fs) e d x y =
    let s = spells_unique bytes true es fs e d x.2 y.2 in (ap (λ v. continue ∷ v) s.0, s.1)
spells_unique bytes told (continue ∷ es) (request r ∷ fs) e d x y = absurd (told_not told bytes y.0 x.0 x.1)
spells_unique bytes told (request r ∷ es) [] e d x y = absurd (ends_not bytes d r x.1.0 y.1 x.1.1)
spells_unique bytes told (request r ∷ es) (continue ∷ fs) e d x y = absurd (told_not told bytes x.0 y.0 y.1)
spells_unique bytes told (request r ∷ es) (request q ∷ fs) e d x y =
    let same = begins_unique bytes r q x.1.0 y.1.0 x.1.1 y.1.1 in
    let s = spells_unique x.1.0 false es fs e d x.1.2 (subst (λ (v : List ℕ). Spells v false fs d) (sym same.1) y.1.2) in
    (λ i. request (same.0 i) ∷ s.0 i, s.1)

-- the events of a front are the first events of the whole
pub spells_front : (bytes more : List ℕ) (told : Bool) (es fs : List Event) (e d : Ending) → Spells bytes told es e → Spells (bytes ++ more) told fs d → (gs : List Event) × (fs ≡ es ++ gs)
spells_front bytes more told [] fs e d x y = (fs, refl)
spells_front bytes more told (continue ∷ es) [] e d x y = absurd (told_not told (bytes ++ more) y.0 x.0 (asks_stays bytes more x.1))
spells_front bytes more told (continue ∷ es) (continue ∷ fs) e d x y =
    let s = spells_front bytes more true es fs e d x.2 y.2 in (s.0, ap (λ v. continue ∷ v) s.1)
spells_front bytes more told (continue ∷ es) (request r ∷ fs) e d x y = absurd (told_not told (bytes ++ more) y.0 x.0 (asks_stays bytes more x.1))
spells_front bytes more told (request r ∷ es) [] e d x y = absurd (ends_not (bytes ++ more) d r (x.1.0 ++ more) y.1 (begins_stays bytes more r x.1.0 x.1.1))
spells_front bytes more told (request r ∷ es) (continue ∷ fs) e d x y = absurd (told_not told bytes x.0 y.0 (begins_settles bytes more r x.1.0 x.1.1 y.1))
spells_front bytes more told (request r ∷ es) (request q ∷ fs) e d x y =
    let same = begins_unique (bytes ++ more) r q (x.1.0 ++ more) y.1.0 (begins_stays bytes more r x.1.0 x.1.1) y.1.1 in
    let s = spells_front x.1.0 more false es fs e d x.1.2 (subst (λ (v : List ℕ). Spells v false fs d) (sym same.1) y.1.2) in
    (s.0, λ i. request (sym same.0 i) ∷ s.1 i)

pub told_stays : (bytes more : List ℕ) (told : Bool) → (Asks (bytes ++ more) → Asks bytes) → IsTold told bytes → IsTold told (bytes ++ more)
told_stays bytes more told f (inl t) = inl t
told_stays bytes more told f (inr none) = inr (λ asks. none (f asks))

-- after a fault nothing changes, whatever follows
pub spells_fault : (bytes more : List ℕ) (told : Bool) (es : List Event) (f : FrameFault) → Spells bytes told es (bad f) → Spells (bytes ++ more) told es (bad f)
spells_fault bytes more told [] f x = (told_stays bytes more told (fails_settles bytes more f x.1) x.0, fails_stays bytes more f x.1)
spells_fault bytes more told (continue ∷ es) f x = (x.0, asks_stays bytes more x.1, spells_fault bytes more true es f x.2)
spells_fault bytes more told (request r ∷ es) f x = (
  told_stays bytes more told (begins_settles bytes more r x.1.0 x.1.1) x.0,
  (x.1.0 ++ more, begins_stays bytes more r x.1.0 x.1.1, spells_fault x.1.0 more false es f x.1.2),
)
