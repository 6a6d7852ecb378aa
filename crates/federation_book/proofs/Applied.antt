-- What becomes of a board is what the change makes of it.
use Rattle.std.proofs.Common.{◌≡◌, ℕ, Option, Some, refl, sym, ◌∙◌, ap, subst}
use Rattle.std.specs.Option.{option_map}
use Rattle.bim_model.specs.declared.guid.Guid.{Guid}
use Rattle.bim_model.specs.declared.author.Author.{Author}
use Rattle.bcf_topics.specs.declared.topic_body.TopicBody.{TopicBody}
use Rattle.bcf_topics.specs.declared.topic.Topic.{Topic}
use Rattle.bcf_topics.specs.declared.comment.CommentBody.{CommentBody}
use Rattle.bcf_topics.specs.declared.comment.Comment.{Comment}
use Rattle.bcf_topics.specs.Topics.{new_topic, topic_put}
use Rattle.bcf_topics.specs.Comments.{new_comment, comment_put}
use Rattle.bcf_viewpoints.specs.declared.view.ViewBody.{ViewBody}
use Rattle.bcf_viewpoints.specs.declared.view.ViewIs.{ViewIs}
use Rattle.bcf_viewpoints.specs.Viewpoints.{viewpoint}
use Rattle.book_topics.specs.Boards.{BoardState, next_serial, topic_at, comment_at, topic_added, topic_replaced, topic_removed, comment_added, comment_replaced, comment_removed, view_added, view_removed}
use Rattle.book_topics.specs.OfClashes.{clash_topic, clash_added}
use Rattle.book_history.specs.declared.changes.Change.{Change}
use Rattle.book_history.specs.declared.changes.Change.TheVariants as change
use Rattle.book_history.specs.declared.replies.ReplyBody.TheVariants as reply
use Rattle.book_history.specs.Projects.{with_clash}
use Rattle.book_history.specs.Requests.{topic_told, comment_told}
use Rattle.federation_book.specs.inner.Noting.{IsApplied}

module _ (pair : Option (Guid × Guid)) (c : Change) (before after : BoardState) where
  pub post_topic_applied : (body : TopicBody) (author : Author) (weight : ℕ) (told : Topic) → c ≡ change.PostTopic body author weight → told ≡ new_topic (next_serial before) body author
      → after ≡ topic_added before body author → IsApplied pair c before after (reply.TopicIs told)
  post_topic_applied body author weight told is t a =
      subst (λ x. IsApplied pair x before after (reply.TopicIs told)) (sym is) (record {
        told = λ s e f. ap reply.TopicIs (t ∙ ap (λ (b : BoardState). new_topic (next_serial b) body author) (sym e));
        board = λ s e f. a ∙ ap (λ (b : BoardState). topic_added b body author) (sym e);
      })

  pub put_topic_applied : (topic : ℕ) (body : TopicBody) (author : Author) (weight : ℕ) (told : Topic) → c ≡ change.PutTopic topic body author weight → Some told ≡ option_map (topic_put body author) (topic_at before topic)
      → after ≡ topic_replaced before topic body author → IsApplied pair c before after (reply.TopicIs told)
  put_topic_applied topic body author weight told is t a =
      subst (λ x. IsApplied pair x before after (reply.TopicIs told)) (sym is) (record {
        told = λ s e f. ap topic_told (t ∙ ap (λ (b : BoardState). option_map (topic_put body author) (topic_at b topic)) (sym e));
        board = λ s e f. a ∙ ap (λ (b : BoardState). topic_replaced b topic body author) (sym e);
      })

  pub delete_topic_applied : (topic : ℕ) → c ≡ change.DeleteTopic topic → after ≡ topic_removed before topic → IsApplied pair c before after reply.Gone
  delete_topic_applied topic is a =
      subst (λ x. IsApplied pair x before after reply.Gone) (sym is) (record {
        told = λ s e f. refl;
        board = λ s e f. a ∙ ap (λ (b : BoardState). topic_removed b topic) (sym e);
      })

  pub post_comment_applied : (topic : ℕ) (body : CommentBody) (author : Author) (weight : ℕ) (told : Comment) → c ≡ change.PostComment topic body author weight
      → told ≡ new_comment topic (next_serial before) body author → after ≡ comment_added before topic body author → IsApplied pair c before after (reply.CommentIs told)
  post_comment_applied topic body author weight told is t a =
      subst (λ x. IsApplied pair x before after (reply.CommentIs told)) (sym is) (record {
        told = λ s e f. ap reply.CommentIs (t ∙ ap (λ (b : BoardState). new_comment topic (next_serial b) body author) (sym e));
        board = λ s e f. a ∙ ap (λ (b : BoardState). comment_added b topic body author) (sym e);
      })

  pub put_comment_applied : (topic comment : ℕ) (body : CommentBody) (author : Author) (weight : ℕ) (told : Comment) → c ≡ change.PutComment topic comment body author weight
      → Some told ≡ option_map (comment_put body author) (comment_at before topic comment) → after ≡ comment_replaced before topic comment body author
      → IsApplied pair c before after (reply.CommentIs told)
  put_comment_applied topic comment body author weight told is t a =
      subst (λ x. IsApplied pair x before after (reply.CommentIs told)) (sym is) (record {
        told = λ s e f. ap comment_told (t ∙ ap (λ (b : BoardState). option_map (comment_put body author) (comment_at b topic comment)) (sym e));
        board = λ s e f. a ∙ ap (λ (b : BoardState). comment_replaced b topic comment body author) (sym e);
      })

  pub delete_comment_applied : (topic comment : ℕ) → c ≡ change.DeleteComment topic comment → after ≡ comment_removed before topic comment → IsApplied pair c before after reply.Gone
  delete_comment_applied topic comment is a =
      subst (λ x. IsApplied pair x before after reply.Gone) (sym is) (record {
        told = λ s e f. refl;
        board = λ s e f. a ∙ ap (λ (b : BoardState). comment_removed b topic comment) (sym e);
      })

  pub post_view_applied : (topic : ℕ) (body : ViewBody) (weight : ℕ) (told : ViewIs) → c ≡ change.PostView topic body weight → told ≡ viewpoint (next_serial before) body
      → after ≡ view_added before topic body → IsApplied pair c before after (reply.View told)
  post_view_applied topic body weight told is t a =
      subst (λ x. IsApplied pair x before after (reply.View told)) (sym is) (record {
        told = λ s e f. ap reply.View (t ∙ ap (λ (b : BoardState). viewpoint (next_serial b) body) (sym e));
        board = λ s e f. a ∙ ap (λ (b : BoardState). view_added b topic body) (sym e);
      })

  pub delete_view_applied : (topic view : ℕ) → c ≡ change.DeleteView topic view → after ≡ view_removed before topic view → IsApplied pair c before after reply.Gone
  delete_view_applied topic view is a =
      subst (λ x. IsApplied pair x before after reply.Gone) (sym is) (record {
        told = λ s e f. refl;
        board = λ s e f. a ∙ ap (λ (b : BoardState). view_removed b topic view) (sym e);
      })

  pub clash_applied : (version place : ℕ) (author : Author) (weight : ℕ) (both : Guid × Guid) (told : Topic) → c ≡ change.ClashTopic version place author weight → pair ≡ Some both
      → told ≡ clash_topic before both.0 both.1 author → after ≡ clash_added before both.0 both.1 author → IsApplied pair c before after (reply.TopicIs told)
  clash_applied version place author weight both told is some t a =
      subst (λ x. IsApplied pair x before after (reply.TopicIs told)) (sym is) (record {
        told = λ s e f.
            ap reply.TopicIs (t ∙ ap (λ (b : BoardState). clash_topic b both.0 both.1 author) (sym e))
            ∙ ap (λ (o : Option (Guid × Guid)). topic_told (option_map (λ p. clash_topic s.board p.0 p.1 author) o)) (sym some ∙ f);
        board = λ s e f.
            a ∙ ap (λ (b : BoardState). clash_added b both.0 both.1 author) (sym e)
            ∙ ap (with_clash s.board author) (sym some ∙ f);
      })
