-- The last members of a topic that are put in.
use Rattle.std.proofs.Common.{◌≡◌, ℕ, List, codes, Option, Result, Ok, Err, refl, sym, subst}
use Rattle.std.specs.Result.{IsErrAnd}
use Rattle.serde_json.specs.Data.{Data}
use Rattle.bcf_topics.specs.declared.topic_body.TopicBody.{TopicBody}
use Rattle.bcf_bodies.specs.declared.body_fault.BodyError.{BodyError}
use Rattle.bcf_bodies.specs.declared.body_fault.BodyError.TheVariants.{Fault, Memory}
use Rattle.bcf_bodies.specs.BodyFaults.{IsFault, IsPutAs}
use Rattle.bcf_bodies.specs.TopicBodies.{word_in, with_last, last_in}

third_fault : (tree : Data) (body : TopicBody) (p s : Option (List ℕ)) (error : BodyError)
    → word_in (codes "priority") tree ≡ Ok p → word_in (codes "stage") tree ≡ Ok s
    → IsFault error (word_in (codes "topic_status") tree) → IsFault error (last_in tree body)
unfolding last_in with_last
third_fault tree body p s (Fault fault) a b e = rw (a, b, e) refl
third_fault tree body p s Memory a b e = tt

-- the third of them is bad
pub third_put : {T : Type 0} (tree : Data) (body new : TopicBody) (p s : Option (List ℕ)) (result : Result T BodyError) (error : BodyError)
    → word_in (codes "priority") tree ≡ Ok p → word_in (codes "stage") tree ≡ Ok s
    → IsFault error (word_in (codes "topic_status") tree) → IsErrAnd result (λ x. x ≡ error) → IsPutAs result new (last_in tree body)
third_put tree body new p s (Ok done) error a b e is = absurd is
third_put tree body new p s (Err x) error a b e is =
    third_fault tree body p s x a b (subst (λ y. IsFault y (word_in (codes "topic_status") tree)) (sym is) e)

-- the first three of them are good
pub last_put : {T : Type 0} (tree : Data) (body : TopicBody) (p s o k : Option (List ℕ)) (result : Result T BodyError)
    → word_in (codes "priority") tree ≡ Ok p → word_in (codes "stage") tree ≡ Ok s → word_in (codes "topic_status") tree ≡ Ok o
    → IsPutAs result k (word_in (codes "topic_type") tree)
    → IsPutAs result (record {
      title = body.title;
      topic_type = k;
      topic_status = o;
      priority = p;
      index = body.index;
      labels = body.labels;
      assigned_to = body.assigned_to;
      stage = s;
      description = body.description;
      due = body.due;
    }) (last_in tree body)
unfolding last_in with_last
last_put tree body p s o k (Ok done) a b c e = rw (a, b, c, e) refl
last_put tree body p s o k (Err (Fault fault)) a b c e = rw (a, b, c, e) refl
last_put tree body p s o k (Err Memory) a b c e = tt
