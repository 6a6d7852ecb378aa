-- What is answered by what is found, or where nothing is found.
use Rattle.std.proofs.Common.{◌≡◌, ℕ, List, Option, Some, None, option_map, Result, refl, sym, ◌∙◌, subst, append-nil}
use Rattle.std.specs.Result.{IfOk}
use Rattle.bcf_topics.specs.declared.comment.CommentBody.{CommentBody}
use Rattle.bcf_topics.specs.declared.comment.CommentIn.{CommentIn}
use Rattle.bcf_viewpoints.specs.declared.view.ViewBody.{ViewBody}
use Rattle.bcf_viewpoints.specs.declared.view.ViewIs.{ViewIs}
use Rattle.bcf_viewpoints.specs.Viewpoints.{viewpoint}
use Rattle.book_turn.specs.declared.object.Stamp.{Stamp}
use Rattle.book_topics.specs.Boards.{BoardState}
use Rattle.book_topics.specs.TopicIdentifiers.{topic_named, comment_named, view_named, comment_kept}
use Rattle.book_history.specs.declared.changes.Entry.{Entry}
use Rattle.book_history.specs.declared.book_fault.BookFault.{BookFault}
use Rattle.book_history.specs.declared.replies.ReplyBody.{ReplyBody}
use Rattle.book_history.specs.declared.replies.ReplyBody.TheVariants as reply
use Rattle.book_history.specs.Requests.{Outcome, Refusal, Answer, found, view_told}
use Rattle.federation_book.specs.inner.Done.{IsDone, IsTold}

-- ---- a refusal
pub refusal_done : (h : List Entry) (stamp : Stamp) (fault : BookFault) → IsDone h h stamp (Refusal fault) (reply.Refused fault)
refusal_done h stamp fault = record { reply = refl; added = sym (append-nil h) }

pub refusal_told : (h : List Entry) (fault : BookFault) → IsTold h (Refusal fault) (reply.Refused fault)
refusal_told h fault = record { reply = refl; nothing = λ stamp. refl }

-- ---- an answer
pub answer_told : (h : List Entry) (body meant : ReplyBody) → body ≡ meant → IsTold h (Answer meant) body
answer_told h body meant e = record { reply = e; nothing = λ stamp. refl }

-- ---- nothing is found
pub none_done : {A : Type 0} (h : List Entry) (stamp : Stamp) (fault : BookFault) (o : Option A) (f : A → Outcome) → o ≡ None → IsDone h h stamp (found fault o f) (reply.Refused fault)
none_done h stamp fault o f e = subst (λ p. IsDone h h stamp (found fault p f) (reply.Refused fault)) (sym e) (refusal_done h stamp fault)

pub none_told : {A : Type 0} (h : List Entry) (fault : BookFault) (o : Option A) (f : A → Outcome) → o ≡ None → IsTold h (found fault o f) (reply.Refused fault)
none_told h fault o f e = subst (λ p. IsTold h (found fault p f) (reply.Refused fault)) (sym e) (refusal_told h fault)

-- ---- this is found
pub some_done : {A E : Type 0} (r : Result ReplyBody E) (h k : List Entry) (stamp : Stamp) (fault : BookFault) (o : Option A) (x : A) (f : A → Outcome) → o ≡ Some x → IfOk r (IsDone h k stamp (f x)) → IfOk r (IsDone h k stamp (found fault o f))
some_done r h k stamp fault o x f e done = subst (λ p. IfOk r (IsDone h k stamp (found fault p f))) (sym e) done

pub one_done : {A : Type 0} (h k : List Entry) (stamp : Stamp) (fault : BookFault) (o : Option A) (x : A) (f : A → Outcome) (body : ReplyBody) → o ≡ Some x → IsDone h k stamp (f x) body → IsDone h k stamp (found fault o f) body
one_done h k stamp fault o x f body e done = subst (λ p. IsDone h k stamp (found fault p f) body) (sym e) done

pub one_told : {A : Type 0} (h : List Entry) (fault : BookFault) (o : Option A) (x : A) (f : A → Outcome) (body : ReplyBody) → o ≡ Some x → IsTold h (f x) body → IsTold h (found fault o f) body
one_told h fault o x f body e told = subst (λ p. IsTold h (found fault p f) body) (sym e) told

-- ---- by the board that is lent
pub topic_is : (b c : BoardState) (number id : ℕ) (o r : Option ℕ) → b ≡ c → o ≡ topic_named number b id → o ≡ r → topic_named number c id ≡ r
topic_is b c number id o r same is got = subst (λ (d : BoardState). topic_named number d id ≡ r) same (sym is ∙ got)

pub comment_is : (b c : BoardState) (number topic id : ℕ) (o r : Option ℕ) → b ≡ c → o ≡ comment_named number b topic id → o ≡ r → comment_named number c topic id ≡ r
comment_is b c number topic id o r same is got = subst (λ (d : BoardState). comment_named number d topic id ≡ r) same (sym is ∙ got)

pub view_is : (b c : BoardState) (number topic id : ℕ) (o r : Option ℕ) → b ≡ c → o ≡ view_named number b topic id → o ≡ r → view_named number c topic id ≡ r
view_is b c number topic id o r same is got = subst (λ (d : BoardState). view_named number d topic id ≡ r) same (sym is ∙ got)

pub body_is : (b c : BoardState) (number topic : ℕ) (sent : CommentIn) (o r : Option CommentBody) → b ≡ c → o ≡ comment_kept number b topic sent → o ≡ r → comment_kept number c topic sent ≡ r
body_is b c number topic sent o r same is got = subst (λ (d : BoardState). comment_kept number d topic sent ≡ r) same (sym is ∙ got)

-- ---- a viewpoint as it is told
pub view_some : (serial : ℕ) (o : Option ViewBody) (v : ViewIs) → Some v ≡ option_map (viewpoint serial) o → reply.View v ≡ view_told serial o
view_some serial None v e = cc
view_some serial (Some body) v e = cc

pub view_none : (serial : ℕ) (o : Option ViewBody) → None ≡ option_map (viewpoint serial) o → reply.Gone ≡ view_told serial o
view_none serial None e = refl
view_none serial (Some body) e = cc
