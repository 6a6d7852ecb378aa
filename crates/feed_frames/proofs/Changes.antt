-- The formats of changes and entries.
use Rattle.std.proofs.Common.{◌≡◌, ℕ, eqb, inl, inr, List, ◌++◌, Some, refl, subst}
use Rattle.std.proofs.lemmas.Option.{same_Some}
use Rattle.bim_model.specs.declared.author.Author.{Author}
use Rattle.book_history.specs.declared.changes.Change.{Change}
use Rattle.book_history.specs.declared.changes.Change.TheVariants as change
use Rattle.book_history.specs.declared.changes.Entry.{Entry}
use Rattle.feed_frames.specs.FieldBytes.{long_bytes}
use Rattle.feed_frames.specs.EntryBytes.{author_bytes, kind_of, fields_of, change_bytes, payload}
use Rattle.feed_frames.specs.SpelledEntries.{IsLong, FitsAuthor, FitsChange, FitsEntry, UploadsModel}
use Rattle.feed_frames.specs.inner.Readers.{Reader, Kinds, made_at, kind_at, no_kind}
use Rattle.feed_frames.specs.inner.EntryReaders.{upload_at, remove_at, set_rules_at, bucket_done_at, post_topic_at, put_topic_at, delete_topic_at, post_comment_at, put_comment_at, delete_comment_at, post_view_at, delete_view_at, clash_topic_at, source_at, other_kinds, change_at, entry_at}
use Rattle.feed_frames.proofs.Formats.{chosen, IsFormat, both, made, into_again, then_some, IsKinds, no_kinds, with_kind, kinds_format}
use Rattle.feed_frames.proofs.Fields as field
use Rattle.feed_frames.proofs.Parts as part

source : IsFormat (Author × ℕ) source_at (λ s. author_bytes s.0 ++ long_bytes s.1) (λ s. FitsAuthor s.0 × IsLong s.1)
source = both part.author field.long

others : IsKinds Change other_kinds kind_of fields_of FitsChange
unfolding other_kinds remove_at set_rules_at bucket_done_at post_topic_at put_topic_at delete_topic_at post_comment_at put_comment_at delete_comment_at post_view_at delete_view_at clash_topic_at
others =
    (with_kind 2 (λ p. change.Remove p) (field.text) (λ _. refl) (λ _. refl) (λ _ p. p)
    (with_kind 3 (λ p. change.SetRules p.0 p.1) (both part.rules field.long) (λ _. refl) (λ _. refl) (λ _ p. p)
    (with_kind 4 (λ p. change.BucketDone p.0 p.1) (both field.long part.cell) (λ _. refl) (λ _. refl) (λ _ p. p)
    (with_kind 5 (λ p. change.PostTopic p.0 p.1.0 p.1.1) (both part.topic source) (λ _. refl) (λ _. refl) (λ _ p. p)
    (with_kind 6 (λ p. change.PutTopic p.0 p.1.0 p.1.1.0 p.1.1.1) (both field.long (both part.topic source)) (λ _. refl) (λ _. refl) (λ _ p. p)
    (with_kind 7 (λ p. change.DeleteTopic p) (field.long) (λ _. refl) (λ _. refl) (λ _ p. p)
    (with_kind 8 (λ p. change.PostComment p.0 p.1.0 p.1.1.0 p.1.1.1) (both field.long (both part.comment source)) (λ _. refl) (λ _. refl) (λ _ p. p)
    (with_kind 9 (λ p. change.PutComment p.0 p.1.0 p.1.1.0 p.1.1.1.0 p.1.1.1.1) (both field.long (both field.long (both part.comment source))) (λ _. refl) (λ _. refl) (λ _ p. p)
    (with_kind 10 (λ p. change.DeleteComment p.0 p.1) (both field.long field.long) (λ _. refl) (λ _. refl) (λ _ p. p)
    (with_kind 11 (λ p. change.PostView p.0 p.1.0 p.1.1) (both field.long (both part.view field.long)) (λ _. refl) (λ _. refl) (λ _ p. p)
    (with_kind 12 (λ p. change.DeleteView p.0 p.1) (both field.long field.long) (λ _. refl) (λ _. refl) (λ _ p. p)
    (with_kind 13 (λ p. change.ClashTopic p.0 p.1.0 p.1.1.0 p.1.1.1) (both field.long (both field.long source)) (λ _. refl) (λ _. refl) (λ _ p. p)
    no_kinds))))))))))))

-- each kind is read behind its byte
change_reads : (c : Change) (rest : List ℕ) → FitsChange c → kind_at 1 upload_at other_kinds (kind_of c) (fields_of c ++ rest) ≡ Some (c, rest)
unfolding upload_at other_kinds remove_at set_rules_at bucket_done_at post_topic_at put_topic_at delete_topic_at post_comment_at put_comment_at delete_comment_at post_view_at delete_view_at clash_topic_at
change_reads (change.Upload name model) rest good =
    into_again (both field.text (field.counted part.element)) (λ p. change.Upload p.0 p.1) (name, model) rest good
change_reads (change.Remove name) rest good =
    into_again (field.text) (λ p. change.Remove p) name rest good
change_reads (change.SetRules rules weight) rest good =
    into_again (both part.rules field.long) (λ p. change.SetRules p.0 p.1) (rules, weight) rest good
change_reads (change.BucketDone version cell) rest good =
    into_again (both field.long part.cell) (λ p. change.BucketDone p.0 p.1) (version, cell) rest good
change_reads (change.PostTopic body author weight) rest good =
    into_again (both part.topic source) (λ p. change.PostTopic p.0 p.1.0 p.1.1) (body, (author, weight)) rest good
change_reads (change.PutTopic topic body author weight) rest good =
    into_again (both field.long (both part.topic source)) (λ p. change.PutTopic p.0 p.1.0 p.1.1.0 p.1.1.1) (topic, (body, (author, weight))) rest good
change_reads (change.DeleteTopic topic) rest good =
    into_again (field.long) (λ p. change.DeleteTopic p) topic rest good
change_reads (change.PostComment topic body author weight) rest good =
    into_again (both field.long (both part.comment source)) (λ p. change.PostComment p.0 p.1.0 p.1.1.0 p.1.1.1) (topic, (body, (author, weight))) rest good
change_reads (change.PutComment topic comment body author weight) rest good =
    into_again (both field.long (both field.long (both part.comment source))) (λ p. change.PutComment p.0 p.1.0 p.1.1.0 p.1.1.1.0 p.1.1.1.1) (topic, (comment, (body, (author, weight)))) rest good
change_reads (change.DeleteComment topic comment) rest good =
    into_again (both field.long field.long) (λ p. change.DeleteComment p.0 p.1) (topic, comment) rest good
change_reads (change.PostView topic body weight) rest good =
    into_again (both field.long (both part.view field.long)) (λ p. change.PostView p.0 p.1.0 p.1.1) (topic, (body, weight)) rest good
change_reads (change.DeleteView topic view) rest good =
    into_again (both field.long field.long) (λ p. change.DeleteView p.0 p.1) (topic, view) rest good
change_reads (change.ClashTopic version place author weight) rest good =
    into_again (both field.long (both field.long source)) (λ p. change.ClashTopic p.0 p.1.0 p.1.1.0 p.1.1.1) (version, (place, (author, weight))) rest good

pub change_format : IsFormat Change change_at change_bytes FitsChange
unfolding change_at change_bytes upload_at
change_format =
    kinds_format
    (with_kind 1 (λ p. change.Upload p.0 p.1) (both field.text (field.counted part.element)) (λ _. refl) (λ _. refl) (λ _ p. p)
    others)
    change_reads

pub entry_format : IsFormat Entry entry_at payload FitsEntry
unfolding entry_at payload
entry_format =
    made (both (both part.stamp field.short) change_format)
    (λ p. record { stamp = p.0.0; project = p.0.1; change = p.1 })
    (λ (e : Entry). ((e.stamp, e.project), e.change))
    (λ x p. refl) (λ x p. (p.0.0, (p.0.1, p.1))) (λ y p. refl) (λ y p. ((p.0, p.1.0), p.1.1))

-- ---- no kind but the first uploads a model

record NoModels (kinds : Kinds Change) : Type 0 where
  pub none : (k : ℕ) (bytes : List ℕ) (x : Change) (rest : List ℕ) → kinds k bytes ≡ Some (x, rest) → UploadsModel x

no_models : NoModels no_kind
no_models = record { none = λ k bytes x rest e. absurd cc }

modelless : {F : Type 0} (r : Reader F) {kinds : Kinds Change} → (n : ℕ) (into : F → Change) → ((f : F) → UploadsModel (into f)) → NoModels kinds → NoModels (kind_at n (made_at into r) kinds)
modelless {F} r {kinds} n into none K = record {
  none = λ k bytes x rest e.
      elim (chosen (eqb k n) (made_at into r bytes) (kinds k bytes) (Some (x, rest)) e) [
        | inl p ↦
            let a = then_some (r bytes) (λ f. Some (into f.0, f.1)) (x, rest) p.1 in
            subst (λ (w : Change × List ℕ). UploadsModel w.0) (same_Some (into a.0.0, a.0.1) (x, rest) a.2)
            (none a.0.0)
        | inr p ↦ K.none k bytes x rest p.1
      ];
}

others_modelless : NoModels other_kinds
unfolding other_kinds remove_at set_rules_at bucket_done_at post_topic_at put_topic_at delete_topic_at post_comment_at put_comment_at delete_comment_at post_view_at delete_view_at clash_topic_at
others_modelless =
    (modelless _ 2 (λ p. change.Remove p) (λ _. tt)
    (modelless _ 3 (λ p. change.SetRules p.0 p.1) (λ _. tt)
    (modelless _ 4 (λ p. change.BucketDone p.0 p.1) (λ _. tt)
    (modelless _ 5 (λ p. change.PostTopic p.0 p.1.0 p.1.1) (λ _. tt)
    (modelless _ 6 (λ p. change.PutTopic p.0 p.1.0 p.1.1.0 p.1.1.1) (λ _. tt)
    (modelless _ 7 (λ p. change.DeleteTopic p) (λ _. tt)
    (modelless _ 8 (λ p. change.PostComment p.0 p.1.0 p.1.1.0 p.1.1.1) (λ _. tt)
    (modelless _ 9 (λ p. change.PutComment p.0 p.1.0 p.1.1.0 p.1.1.1.0 p.1.1.1.1) (λ _. tt)
    (modelless _ 10 (λ p. change.DeleteComment p.0 p.1) (λ _. tt)
    (modelless _ 11 (λ p. change.PostView p.0 p.1.0 p.1.1) (λ _. tt)
    (modelless _ 12 (λ p. change.DeleteView p.0 p.1) (λ _. tt)
    (modelless _ 13 (λ p. change.ClashTopic p.0 p.1.0 p.1.1.0 p.1.1.1) (λ _. tt)
    no_models))))))))))))

pub no_model_is_read : (k : ℕ) (bytes : List ℕ) (x : Change) (rest : List ℕ) → other_kinds k bytes ≡ Some (x, rest) → UploadsModel x
no_model_is_read k bytes x rest e = others_modelless.none k bytes x rest e
