-- What holds of a board holds of what is made of it.
use Rattle.std.proofs.Common.{◌≡◌, ◌+◌, ◌<◌, ◌≤◌, ◌==◌, ℕ, Bool, true, false, not, cond, List, [], ◌∷◌, length, filter, map, Option, Some, None, is_some, Result, Ok, Err, IsSome, inl, inr, refl, ◌∙◌, ap, arith, length-append}
use Rattle.std.specs.List.{All}
use Rattle.std.specs.declared.cmp.Ordering.{Ordering}
use Rattle.std.specs.declared.cmp.Ordering.TheVariants.{Less, Equal, Greater}
use Rattle.std.specs.Ordering.{nat_cmp, match_ordering}
use Rattle.std.specs.Map.{keys_of, remove_entry, set_value}
use Rattle.std.specs.BTreeMap.{insert_entry}
use Rattle.std.proofs.lemmas.Bool.{eq-eqb, ne_eqb, le-ltb, false≢true}
use Rattle.std.proofs.lemmas.Bool.Decides.{eqb_tells}
use Rattle.std.proofs.lemmas.List.Elements.{All-nil, All-cons, All-head, All-tail, All-map, All-weaker, All-filter, All-push}
use Rattle.std.proofs.lemmas.Map.Views.{All-keys-insert_entry, All-map-remove_entry}
use Rattle.bim_model.specs.declared.guid.Guid.{Guid}
use Rattle.bim_model.specs.declared.author.Author.{Author}
use Rattle.bim_model.specs.Guids.{IsGuid}
use Rattle.bcf_topics.specs.declared.topic_body.TopicBody.{TopicBody}
use Rattle.bcf_topics.specs.declared.topic.Topic.{Topic}
use Rattle.bcf_topics.specs.declared.comment.Comment.{Comment}
use Rattle.bcf_topics.specs.declared.comment.CommentBody.{CommentBody}
use Rattle.bcf_topics.specs.Topics.{topic_of, new_topic, topic_put, topics_put, topics_but}
use Rattle.bcf_topics.specs.Comments.{Comments, by_place, is_place, comment_put, put_over, comment_of, comments_with, comments_put, comments_but, comments_off}
use Rattle.bcf_topics.specs.Discussions.{Discussion, topic_refusal, comment_refusal, answer_of, IsAnswer}
use Rattle.bcf_topics.specs.declared.topics.TopicError.{TopicError}
use Rattle.bcf_topics.specs.declared.topics.TopicError.TheVariants.{NoTopic, NoComment, Memory}
use Rattle.bcf_viewpoints.specs.Components.{IsComponent, IsColoring}
use Rattle.bcf_viewpoints.specs.declared.view.ViewBody.{ViewBody}
use Rattle.bcf_viewpoints.specs.declared.viewpoints.ViewError.{ViewError}
use Rattle.bcf_viewpoints.specs.Viewpoints.{Views, IsViewBody, views_with, views_but, views_off, deleted}
use Rattle.book_topics.specs.Boards.{BoardState, blank, next_serial, topic_at, topic_added, topic_replaced, topic_removed, comment_added, comment_replaced, comment_removed, view_added, view_removed, IsBoard}
use Rattle.book_topics.specs.OfClashes.{clash_body, component_of, clash_view, clash_added}

-- a board of these
abbrev pub board : Discussion → Views → ℕ → BoardState
board discussion views made = record { discussion = discussion; views = views; made = made }

by_bool : {A : Type 0} (P : A → Type 0) (b : Bool) (x y : A) → P x → P y → P (cond b x y)
by_bool P true x y px py = px
by_bool P false x y px py = py

by_order : {A : Type 0} (P : A → Type 0) (o : Ordering) (x y z : A) → P x → P y → P z → P (match_ordering o x y z)
by_order P Less x y z px py pz = px
by_order P Equal x y z px py pz = py
by_order P Greater x y z px py pz = pz

-- ---- lengths
with_longer : {K X : Type 0} (cmp : K → K → Ordering) (es : List (K × X)) (k : K) (v : X) → length (insert_entry cmp es k v) ≤ length es + 1
with_longer cmp [] k v = omega arith
with_longer cmp (e ∷ es) k v =
    let rest = with_longer cmp es k v in
    by_order (λ l. length l ≤ length (e ∷ es) + 1) (cmp k e.0) ((k, v) ∷ e ∷ es) ((e.0, v) ∷ es) (e ∷ insert_entry cmp es k v)
    (omega arith) (omega arith) (omega (arith, rest))

but_shorter : {K X : Type 0} (test : K → Bool) (es : List (K × X)) → length (remove_entry test es) ≤ length es
but_shorter test [] = omega arith
but_shorter test (e ∷ es) =
    let rest = but_shorter test es in
    by_bool (λ l. length l ≤ length (e ∷ es)) (test e.0) es (e ∷ remove_entry test es) (omega arith) (omega (arith, rest))

put_same : {K X : Type 0} (test : K → Bool) (es : List (K × X)) (v : X) → length (set_value test es v) ≡ length es
put_same test [] v = refl
put_same test (e ∷ es) v =
    let rest = put_same test es v in
    by_bool (λ l. length l ≡ length (e ∷ es)) (test e.0) ((e.0, v) ∷ es) (e ∷ set_value test es v) refl (omega (arith, rest))

filter_shorter : {A : Type 0} (p : A → Bool) (xs : List A) → length (filter p xs) ≤ length xs
filter_shorter p [] = omega arith
filter_shorter p (x ∷ xs) =
    let rest = filter_shorter p xs in
    by_bool (λ l. length l ≤ length (x ∷ xs)) (p x) (x ∷ filter p xs) (filter p xs) (omega (arith, rest)) (omega (arith, rest))

map_same : {A B : Type 0} (f : A → B) (xs : List A) → length (map f xs) ≡ length xs
map_same f [] = refl
map_same f (x ∷ xs) = let rest = map_same f xs in omega (arith, rest)

over_same : (topic serial : ℕ) (body : CommentBody) (author : Author) (cs : Comments) (o : Option Comment) → length (put_over topic serial body author cs o) ≡ length cs
over_same topic serial body author cs None = refl
over_same topic serial body author cs (Some c) = put_same (is_place topic serial) cs (comment_put body author c)

-- ---- numbers
abbrev Below : ℕ → Topic → Type 0
Below n t = t.serial ≤ n

abbrev Early : ℕ → (ℕ × ℕ) → Type 0
Early n p = p.0 ≤ n

keys_filter : {K X : Type 0} (P : K → Type 0) (p : K × X → Bool) (es : List (K × X)) → All P (keys_of es) → All P (keys_of (filter p es))
keys_filter P p [] h = All-nil P
keys_filter P p (e ∷ es) h =
    let rest = keys_filter P p es (All-tail P e.0 (keys_of es) h) in
    by_bool (λ l. All P (keys_of l)) (p e) (e ∷ filter p es) (filter p es) (All-cons P e.0 (keys_of (filter p es)) (All-head P e.0 (keys_of es) h) rest) rest

wider_topics : (n m : ℕ) → n ≤ m → (ts : List Topic) → All (Below n) ts → All (Below m) ts
wider_topics n m le ts h = All-weaker (Below n) (Below m) (λ t b. let c : t.serial ≤ n = b in omega (arith, c, le)) ts h

wider_places : (n m : ℕ) → n ≤ m → (ps : List (ℕ × ℕ)) → All (Early n) ps → All (Early m) ps
wider_places n m le ps h = All-weaker (Early n) (Early m) (λ p b. let c : p.0 ≤ n = b in omega (arith, c, le)) ps h

put_below : (n serial : ℕ) (body : TopicBody) (author : Author) (ts : List Topic) → All (Below n) ts → All (Below n) (topics_put serial body author ts)
unfolding topics_put
put_below n serial body author ts h =
    All-map (Below n) (λ (t : Topic). cond (t.serial == serial) (topic_put body author t) t) ts
    (All-weaker (Below n) (λ (t : Topic). Below n (cond (t.serial == serial) (topic_put body author t) t)) (λ t b. by_bool (Below n) (t.serial == serial) (topic_put body author t) t b b) ts h)

topics_same : (serial : ℕ) (body : TopicBody) (author : Author) (ts : List Topic) → length (topics_put serial body author ts) ≡ length ts
unfolding topics_put
topics_same serial body author ts = map_same (λ (t : Topic). cond (t.serial == serial) (topic_put body author t) t) ts

but_below : (n serial : ℕ) (ts : List Topic) → All (Below n) ts → All (Below n) (topics_but serial ts)
unfolding topics_but
but_below n serial ts h = All-filter (λ (t : Topic). not (t.serial == serial)) (Below n) ts h

topics_fewer : (serial : ℕ) (ts : List Topic) → length (topics_but serial ts) ≤ length ts
unfolding topics_but
topics_fewer serial ts = filter_shorter (λ (t : Topic). not (t.serial == serial)) ts

comments_more : (topic serial : ℕ) (body : CommentBody) (author : Author) (cs : Comments) → length (comments_with topic serial body author cs) ≤ length cs + 1
unfolding comments_with
comments_more topic serial body author cs = with_longer by_place cs (topic, serial) _

comments_same : (topic serial : ℕ) (body : CommentBody) (author : Author) (cs : Comments) → length (comments_put topic serial body author cs) ≡ length cs
unfolding comments_put
comments_same topic serial body author cs = over_same topic serial body author cs (comment_of topic serial cs)

comments_fewer : (topic serial : ℕ) (cs : Comments) → length (comments_but topic serial cs) ≤ length cs
unfolding comments_but
comments_fewer topic serial cs = but_shorter (is_place topic serial) cs

comments_away : (topic : ℕ) (cs : Comments) → length (comments_off topic cs) ≤ length cs
unfolding comments_off
comments_away topic cs = filter_shorter (λ e. not (e.0.0 == topic)) cs

views_more : (topic serial : ℕ) (body : ViewBody) (vs : Views) → length (views_with topic serial body vs) ≤ length vs + 1
unfolding views_with
views_more topic serial body vs = with_longer by_place vs (topic, serial) body

views_early : (n topic serial : ℕ) (body : ViewBody) (vs : Views) → topic ≤ n → All (Early n) (keys_of vs) → All (Early n) (keys_of (views_with topic serial body vs))
unfolding views_with
views_early n topic serial body vs le h = All-keys-insert_entry by_place (topic, serial) body (Early n) vs h le

views_fewer : (topic serial : ℕ) (vs : Views) → length (views_but topic serial vs) ≤ length vs
unfolding views_but
views_fewer topic serial vs = but_shorter (is_place topic serial) vs

but_early : (n topic serial : ℕ) (vs : Views) → All (Early n) (keys_of vs) → All (Early n) (keys_of (views_but topic serial vs))
unfolding views_but
but_early n topic serial vs h = All-map-remove_entry (is_place topic serial) (λ e. e.0) (Early n) vs h

views_away : (topic : ℕ) (vs : Views) → length (views_off topic vs) ≤ length vs
unfolding views_off
views_away topic vs = filter_shorter (λ e. not (e.0.0 == topic)) vs

off_early : (n topic : ℕ) (vs : Views) → All (Early n) (keys_of vs) → All (Early n) (keys_of (views_off topic vs))
unfolding views_off
off_early n topic vs h = keys_filter (Early n) (λ e. not (e.0.0 == topic)) vs h

number_here : (n serial : ℕ) (t : Topic) (o : Option Topic) → t.serial ≤ n → (IsSome o → serial ≤ n) → IsSome (cond (t.serial == serial) (Some t) o) → serial ≤ n
number_here n serial t o below rest there = elim (eqb_tells t.serial serial) [
  | inl same ↦ let e = same.1 in omega (arith, e, below)
  | inr other ↦ rest (rw other.0 at there)
]

number_among : (n serial : ℕ) (ts : List Topic) → All (Below n) ts → IsSome (topic_of serial ts) → serial ≤ n
unfolding topic_of
number_among n serial [] h there = absurd (false≢true there)
number_among n serial (t ∷ ts) h there =
    number_here n serial t (topic_of serial ts) (All-head (Below n) t ts h) (number_among n serial ts (All-tail (Below n) t ts h)) there

-- the number of a topic that is there is one of an object that was made
pub topic_made : (b : BoardState) (serial : ℕ) → IsBoard b → IsSome (topic_at b serial) → serial ≤ b.made
topic_made b serial is there = number_among b.made serial b.discussion.topics is.topics there

-- ---- the boards that are made
pub blank_is : IsBoard blank
blank_is = record {
  topics = All-nil (Below 0);
  views = All-nil (Early 0);
  few_topics = omega arith;
  few_comments = omega arith;
  few_views = omega arith;
}

pub topic_added_is : (b : BoardState) (body : TopicBody) (author : Author) → IsBoard b → IsBoard (topic_added b body author)
topic_added_is b body author is =
    let ts = b.discussion.topics in
    let n = b.made in
    let new = new_topic (next_serial b) body author in
    let more = length-append ts (new ∷ []) in
    let t = is.few_topics in
    let c = is.few_comments in
    let v = is.few_views in
    record {
      topics = All-push (Below (n + 1)) ts new (wider_topics n (n + 1) (omega arith) ts is.topics) (omega arith);
      views = wider_places n (n + 1) (omega arith) (keys_of b.views) is.views;
      few_topics = omega (arith, more, t);
      few_comments = omega (arith, c);
      few_views = omega (arith, v);
    }

pub topic_replaced_is : (b : BoardState) (serial : ℕ) (body : TopicBody) (author : Author) → IsBoard b → IsBoard (topic_replaced b serial body author)
topic_replaced_is b serial body author is =
    let same = topics_same serial body author b.discussion.topics in
    let t = is.few_topics in
    record {
      topics = put_below b.made serial body author b.discussion.topics is.topics;
      views = is.views;
      few_topics = omega (arith, same, t);
      few_comments = is.few_comments;
      few_views = is.few_views;
    }

pub topic_removed_is : (b : BoardState) (serial : ℕ) → IsBoard b → IsBoard (topic_removed b serial)
topic_removed_is b serial is =
    let fewer = topics_fewer serial b.discussion.topics in
    let off = comments_away serial b.discussion.comments in
    let away = views_away serial b.views in
    let t = is.few_topics in
    let c = is.few_comments in
    let v = is.few_views in
    record {
      topics = but_below b.made serial b.discussion.topics is.topics;
      views = off_early b.made serial b.views is.views;
      few_topics = omega (arith, fewer, t);
      few_comments = omega (arith, off, c);
      few_views = omega (arith, away, v);
    }

pub comment_added_is : (b : BoardState) (topic : ℕ) (body : CommentBody) (author : Author) → IsBoard b → IsBoard (comment_added b topic body author)
comment_added_is b topic body author is =
    let n = b.made in
    let more = comments_more topic (next_serial b) body author b.discussion.comments in
    let t = is.few_topics in
    let c = is.few_comments in
    let v = is.few_views in
    record {
      topics = wider_topics n (n + 1) (omega arith) b.discussion.topics is.topics;
      views = wider_places n (n + 1) (omega arith) (keys_of b.views) is.views;
      few_topics = omega (arith, t);
      few_comments = omega (arith, more, c);
      few_views = omega (arith, v);
    }

pub comment_replaced_is : (b : BoardState) (topic serial : ℕ) (body : CommentBody) (author : Author) → IsBoard b → IsBoard (comment_replaced b topic serial body author)
comment_replaced_is b topic serial body author is =
    let same = comments_same topic serial body author b.discussion.comments in
    let c = is.few_comments in
    record {
      topics = is.topics;
      views = is.views;
      few_topics = is.few_topics;
      few_comments = omega (arith, same, c);
      few_views = is.few_views;
    }

pub comment_removed_is : (b : BoardState) (topic serial : ℕ) → IsBoard b → IsBoard (comment_removed b topic serial)
comment_removed_is b topic serial is =
    let fewer = comments_fewer topic serial b.discussion.comments in
    let c = is.few_comments in
    record {
      topics = is.topics;
      views = is.views;
      few_topics = is.few_topics;
      few_comments = omega (arith, fewer, c);
      few_views = is.few_views;
    }

pub view_added_is : (b : BoardState) (topic : ℕ) (body : ViewBody) → topic ≤ b.made → IsBoard b → IsBoard (view_added b topic body)
view_added_is b topic body known is =
    let n = b.made in
    let more = views_more topic (next_serial b) body b.views in
    let t = is.few_topics in
    let c = is.few_comments in
    let v = is.few_views in
    record {
      topics = wider_topics n (n + 1) (omega arith) b.discussion.topics is.topics;
      views = views_early (n + 1) topic (next_serial b) body b.views (omega (arith, known)) (wider_places n (n + 1) (omega arith) (keys_of b.views) is.views);
      few_topics = omega (arith, t);
      few_comments = omega (arith, c);
      few_views = omega (arith, more, v);
    }

pub view_removed_is : (b : BoardState) (topic serial : ℕ) → IsBoard b → IsBoard (view_removed b topic serial)
view_removed_is b topic serial is =
    let fewer = views_fewer topic serial b.views in
    let v = is.few_views in
    record {
      topics = is.topics;
      views = but_early b.made topic serial b.views is.views;
      few_topics = is.few_topics;
      few_comments = is.few_comments;
      few_views = omega (arith, fewer, v);
    }

-- ---- a viewpoint of a topic that isn't there yet goes without a trace
greater : (a b : ℕ) → b < a → nat_cmp a b ≡ Greater
greater a b h = rw (le-ltb a b (omega arith), ne_eqb a b (λ e. absurd (omega arith))) refl

pub taken_back : (made serial : ℕ) (body : ViewBody) (vs : Views) → All (λ p. p.0 ≤ made) (keys_of vs) → views_off (made + 1) (views_with (made + 1) serial body vs) ≡ vs
unfolding views_off views_with
taken_back made serial body [] h = rw (eq-eqb (made + 1) (made + 1) refl) refl
taken_back made serial body (e ∷ es) h =
    let low : e.0.0 ≤ made = All-head (Early made) e.0 (keys_of es) h in
    let rest = taken_back made serial body es (All-tail (Early made) e.0 (keys_of es) h) in
    rw (greater (made + 1) e.0.0 (omega (arith, low)), ne_eqb e.0.0 (made + 1) (λ same. absurd (omega (arith, low, same)))) (ap (λ l. e ∷ l) rest)

-- ---- what calls need
-- a new number is above all others
pub below_next : (n : ℕ) (ts : List Topic) → All (λ (t : Topic). t.serial ≤ n) ts → All (λ (t : Topic). t.serial < n + 1) ts
below_next n ts h = All-weaker (Below n) (λ (t : Topic). t.serial < n + 1) (λ t b. let c : t.serial ≤ n = b in omega (arith, c)) ts h

-- the elements of a model are good components
pub clash_view_good : (a b : Guid) → IsGuid a.chars → IsGuid b.chars → IsViewBody (clash_view a b)
unfolding clash_view
clash_view_good a b first second = record {
  selection = All-cons IsComponent (component_of a) (component_of b ∷ []) first (All-cons IsComponent (component_of b) [] second (All-nil IsComponent));
  coloring = All-nil IsColoring;
  exceptions = All-nil IsComponent;
}

pub clash_added_is : (b : BoardState) (first second : Guid) (author : Author) → IsBoard b → IsBoard (clash_added b first second author)
clash_added_is b first second author is =
    view_added_is (topic_added b (clash_body first second) author) (next_serial b) (clash_view first second) (omega arith)
    (topic_added_is b (clash_body first second) author is)

-- ---- calls about what is there aren't refused
pub topic_unrefused : (serial : ℕ) (d : Discussion) → IsSome (topic_of serial d.topics) → topic_refusal serial d ≡ None
topic_unrefused serial d there = ap (λ b. cond b None (Some NoTopic)) there

pub comment_unrefused : (topic serial : ℕ) (d : Discussion) → IsSome (topic_of topic d.topics) → IsSome (comment_of topic serial d.comments) → comment_refusal topic serial d ≡ None
comment_unrefused topic serial d one two =
    ap (λ b. cond b (cond (is_some (comment_of topic serial d.comments)) None (Some NoComment)) (Some NoTopic)) one
    ∙ ap (λ b. cond b None (Some NoComment)) two

pub answered_ok : (r : Result (Unit {0}) TopicError) (refusal : Option TopicError) → r ≡ answer_of refusal → refusal ≡ None → r ≡ Ok tt
answered_ok r refusal is none = is ∙ ap answer_of none

pub no_error : (r : Result (Unit {0}) TopicError) (refusal : Option TopicError) (error : TopicError) → r ≡ answer_of refusal → refusal ≡ None → r ≡ Err error → ⊥
no_error r refusal error is none wrong = let ok : r ≡ Ok tt = answered_ok r refusal is none in cc

memory_alone : (error : TopicError) (refusal : Option TopicError) → IsAnswer (Err error) refusal → refusal ≡ None → error ≡ Memory
memory_alone NoTopic refusal is none = cc
memory_alone NoComment refusal is none = cc
memory_alone Memory refusal is none = refl

-- .. so that out of memory is their one error
pub answered_memory : (r : Result (Unit {0}) TopicError) (error : TopicError) (refusal : Option TopicError) → IsAnswer r refusal → refusal ≡ None → r ≡ Err error → error ≡ Memory
answered_memory r error refusal is none told = memory_alone error refusal (rw told at is) none

pub view_unrefused : (r : Result (Unit {0}) ViewError) (found : Option ViewBody) (error : ViewError) → r ≡ deleted found → IsSome found → r ≡ Err error → ⊥
view_unrefused r None error is there wrong = absurd (false≢true there)
view_unrefused r (Some body) error is there wrong = cc
