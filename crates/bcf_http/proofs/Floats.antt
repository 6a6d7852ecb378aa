-- The trees of answers have no float, so their text is stated.
use Rattle.std.proofs.Common.{◌≡◌, ℕ, Result, Ok, Err, IfOk, false, string_bytes, String, refl, ◌∙◌, ap}
use Rattle.std.specs.declared.alloc.Global.{Global}
use Rattle.std.specs.declared.alloc.AllocError.{AllocError}
use Rattle.serde_json.specs.Data.{Data}
use Rattle.serde_json.specs.Written.{has_float, compact_text}
use Rattle.bcf_viewpoints.specs.declared.part.ViewPart.{ViewPart}
use Rattle.book_history.specs.declared.replies.ReplyBody.{ReplyBody}
use Rattle.book_history.specs.declared.replies.ReplyBody.TheVariants as reply
use Rattle.book_history.specs.declared.book_fault.BookFault.{BookFault}
use Rattle.book_history.specs.declared.book_fault.BookFault.TheVariants as refusal
use Rattle.bcf_bodies.specs.declared.body_fault.BodyFault.{BodyFault}
use Rattle.bcf_bodies.specs.declared.body_fault.BodyFault.TheVariants.{Title, BadMember, BadComponent}
use Rattle.bcf_bodies.specs.TopicTrees.{IsTopicTree}
use Rattle.bcf_bodies.specs.CommentTrees.{IsCommentTree}
use Rattle.bcf_bodies.specs.ViewTrees.{whole_tree}
use Rattle.coord_json.specs.RuleTrees.{rule_items}
use Rattle.coord_json.proofs.Floats.{version_has_none, models_have_none, rules_have_none, changed_has_none, clashes_have_none, pending_has_none}
use Rattle.error_json.proofs.ErrorFloats.{error_has_none, at_has_none, named_has_none, full_has_none, place_has_none, turn_has_none, store_has_none, newest_has_none, dropped_has_none, upload_has_none, rule_fault_has_none}
use Rattle.bcf_http.specs.declared.asked.RequestFault.{RequestFault}
use Rattle.bcf_http.specs.declared.asked.RequestFault.TheVariants.{NoRoute, Method, Encoding, Query, Filter, Order, BadTurn, BadJson, Rules, Body}
use Rattle.http_frame.specs.declared.types.FrameFault.{FrameFault}
use Rattle.http_frame.specs.declared.types.FrameFault.TheVariants as frame
use Rattle.bcf_http.specs.declared.answers.Answer.{Answer}
use Rattle.odata_filter.specs.declared.listing.Listing.{Listing}
use Rattle.bcf_http.specs.ListRequests.{topics_at}
use Rattle.bcf_http.specs.declared.answers.Answer.TheVariants as answer
use Rattle.bcf_http.specs.Answers.{IsReplyTree, IsListedTree, IsAnswerTree, IsAnswerText, body_fault_tree, project_tree, request_fault_tree, book_fault_tree, frame_fault_tree}
use Rattle.bcf_http.proofs.BodyFloats.{topic_has_none, comment_has_none, view_has_none, whole_has_none, items_have_none, trees_have_none}

body_fault_has_none : (fault : BodyFault) → has_float (body_fault_tree fault) ≡ false
body_fault_has_none Title = error_has_none _ _
body_fault_has_none (BadMember name) = named_has_none _ _ name
body_fault_has_none BadComponent = error_has_none _ _

project_has_none : (n : ℕ) → has_float (project_tree n) ≡ false
project_has_none n = refl

refusal_has_none : (f : BookFault) → has_float (book_fault_tree f) ≡ false
refusal_has_none refusal.NoProject = error_has_none _ _
refusal_has_none refusal.NoModel = error_has_none _ _
refusal_has_none (refusal.NoVersion newest) = newest_has_none _ _ newest
refusal_has_none (refusal.VersionDropped version newest) = dropped_has_none _ _ newest version
refusal_has_none (refusal.Pending version left) = pending_has_none left version
refusal_has_none (refusal.StoreFull what count limit) = store_has_none _ _ count limit _
refusal_has_none (refusal.ElementsFull count limit) = full_has_none _ _ count limit
refusal_has_none (refusal.TooSpread count limit) = full_has_none _ _ count limit
refusal_has_none (refusal.JournalFull count limit) = full_has_none _ _ count limit
refusal_has_none refusal.AlreadyDone = error_has_none _ _
refusal_has_none refusal.NoWork = error_has_none _ _
refusal_has_none (refusal.NoClash place total) = place_has_none _ _ place total
refusal_has_none (refusal.TurnAhead given turn) = turn_has_none _ _ given turn
refusal_has_none refusal.NoTopic = error_has_none _ _
refusal_has_none refusal.NoComment = error_has_none _ _
refusal_has_none (refusal.TopicsFull count limit) = full_has_none _ _ count limit
refusal_has_none (refusal.CommentsFull count limit) = full_has_none _ _ count limit
refusal_has_none refusal.NoViewpoint = error_has_none _ _
refusal_has_none (refusal.ViewpointsFull count limit) = full_has_none _ _ count limit

reply_has_none : (project : ℕ) (part : ViewPart) (body : ReplyBody) (tree : Data) → IsReplyTree project part body tree → has_float tree ≡ false
reply_has_none project part (reply.Projects numbers) tree is = ap has_float is ∙ items_have_none project_tree project_has_none numbers
reply_has_none project part (reply.Project number) tree is = ap has_float is ∙ project_has_none number
reply_has_none project part (reply.TopicIs topic) tree is = topic_has_none project topic tree is
reply_has_none project part (reply.TopicList topics) tree (items, are, is) =
    ap has_float is ∙ trees_have_none (IsTopicTree project) (topic_has_none project) topics items are
reply_has_none project part (reply.CommentIs comment) tree is = comment_has_none project comment tree is
reply_has_none project part (reply.CommentList comments) tree (items, are, is) =
    ap has_float is ∙ trees_have_none (IsCommentTree project) (comment_has_none project) comments items are
reply_has_none project part (reply.View view) tree is = ap has_float is ∙ view_has_none project view part
reply_has_none project part (reply.ViewList views) tree is = ap has_float is ∙ items_have_none (whole_tree project) (whole_has_none project) views
reply_has_none project part reply.Gone tree is = ap has_float is
reply_has_none project part (reply.Changed version elements triangles left) tree is = ap has_float is ∙ changed_has_none _ _ _ _
reply_has_none project part (reply.Version version newest snapshot) tree is =
    ap has_float is.2
    ∙ version_has_none is.0 newest (rule_items snapshot.rules) version (models_have_none snapshot.models is.0 is.1) (rules_have_none snapshot.rules)
reply_has_none project part (reply.Clashes version set first count) tree is = ap has_float is ∙ clashes_have_none version set first count
reply_has_none project part (reply.Work order) tree is = ap has_float is
reply_has_none project part (reply.Finished left) tree is = ap has_float is
reply_has_none project part (reply.Refused fault) tree is = ap has_float is ∙ refusal_has_none fault

fault_has_none : (fault : RequestFault) → has_float (request_fault_tree fault) ≡ false
fault_has_none NoRoute = error_has_none _ _
fault_has_none (Method row) = error_has_none _ _
fault_has_none Encoding = error_has_none _ _
fault_has_none (Query name) = named_has_none _ _ _
fault_has_none (Filter at) = at_has_none _ _ at
fault_has_none (Order at) = at_has_none _ _ at
fault_has_none BadTurn = error_has_none _ _
fault_has_none BadJson = error_has_none _ _
fault_has_none (Rules fault) = rule_fault_has_none fault
fault_has_none (Body fault) = body_fault_has_none fault

frame_has_none : (fault : FrameFault) → has_float (frame_fault_tree fault) ≡ false
frame_has_none frame.BadHead = error_has_none _ _
frame_has_none frame.HeadTooLong = error_has_none _ _
frame_has_none frame.BadLength = error_has_none _ _
frame_has_none frame.BodyTooLong = error_has_none _ _
frame_has_none frame.BadChunk = error_has_none _ _
frame_has_none frame.Version = error_has_none _ _

-- a reply whose topics are listed
listed_has_none : (project : ℕ) (part : ViewPart) (listing : Listing) (body : ReplyBody) (tree : Data)
    → IsListedTree project part listing body tree → has_float tree ≡ false
listed_has_none project part listing (reply.TopicList topics) tree (places, listed, (items, are, is)) =
    ap has_float is ∙ trees_have_none (IsTopicTree project) (topic_has_none project) (topics_at topics places) items are
listed_has_none project part listing other tree is = reply_has_none project part other tree is

has_none : (project : ℕ) (part : ViewPart) (a : Answer) (tree : Data) → IsAnswerTree project part a tree → has_float tree ≡ false
has_none project part (answer.Book reply) tree is = reply_has_none project part reply.body tree is
has_none project part (answer.Listed reply listing) tree is = listed_has_none project part listing reply.body tree is
has_none project part (answer.Refused fault) tree is = ap has_float is ∙ fault_has_none fault
has_none project part (answer.Built fault) tree is = ap has_float is ∙ upload_has_none fault
has_none project part (answer.Frame fault) tree is = ap has_float is ∙ frame_has_none fault
has_none project part answer.Memory tree is = ap has_float is ∙ error_has_none _ _

pub text_stated : (project : ℕ) (part : ViewPart) (a : Answer) (tree : Data) (r : Result (String Global) AllocError) → IsAnswerTree project part a tree
    → IfOk r (λ s. has_float tree ≡ false → string_bytes s ≡ compact_text tree) → IfOk r (λ s. IsAnswerText project part a (string_bytes s))
text_stated project part a tree (Ok s) is text = (tree, is, text (has_none project part a tree is))
text_stated project part a tree (Err e) is text = tt
