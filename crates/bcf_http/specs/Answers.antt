-- The tree and the status of each answer.
use Rattle.std.specs.Prelude.{◌≡◌, ℕ, List, [], ◌∷◌, ◌++◌, Bool, if◌then◌else◌, Option, Some, None, codes, decimal}
use Rattle.serde_json.specs.Written.{compact_text}
use Rattle.serde_json.specs.Data.{Data, null, string, array, object, Items, no_items, item, member, no_members}
use Rattle.book_history.specs.declared.book_fault.BookFault.{BookFault}
use Rattle.book_history.specs.declared.book_fault.BookFault.TheVariants as refusal
use Rattle.book_history.specs.declared.book_fault.StoreWhat.{StoreWhat}
use Rattle.book_history.specs.declared.book_fault.StoreWhat.TheVariants as store
use Rattle.book_history.specs.declared.replies.ReplyBody.{ReplyBody}
use Rattle.book_history.specs.declared.replies.ReplyBody.TheVariants as reply
use Rattle.bcf_json.specs.JsonTexts.{identifier_text}
use Rattle.bcf_viewpoints.specs.declared.part.ViewPart.{ViewPart}
use Rattle.bcf_topics.specs.declared.topic.Topic.{Topic}
use Rattle.odata_filter.specs.declared.listing.Listing.{Listing}
use Rattle.odata_filter.specs.Listings.{IsListed}
use Rattle.bcf_http.specs.ListRequests.{topics_at}
use Rattle.bcf_bodies.specs.declared.body_fault.BodyFault.{BodyFault}
use Rattle.bcf_bodies.specs.declared.body_fault.BodyFault.TheVariants.{Title, BadMember, BadComponent}
use Rattle.bcf_bodies.specs.TextMembers.{listed}
use Rattle.bcf_bodies.specs.TopicTrees.{IsTopicTree}
use Rattle.bcf_bodies.specs.CommentTrees.{IsCommentTree}
use Rattle.bcf_bodies.specs.ViewTrees.{whole_tree, view_tree}
use Rattle.bcf_http.specs.declared.asked.RequestFault.{RequestFault}
use Rattle.bcf_http.specs.declared.asked.RequestFault.TheVariants.{NoRoute, Method, Encoding, Query, Filter, Order, BadTurn, BadJson, Rules, Body}
use Rattle.http_routes.specs.declared.paths.RoutePath.{RoutePath}
use Rattle.http_routes.specs.declared.query.QueryName.{QueryName}
use Rattle.http_routes.specs.declared.query.QueryName.TheVariants as query
use Rattle.http_frame.specs.declared.types.FrameFault.{FrameFault}
use Rattle.http_frame.specs.declared.types.FrameFault.TheVariants as frame
use Rattle.bcf_http.specs.declared.reply_kind.ReplyKind.{ReplyKind}
use Rattle.bcf_http.specs.declared.answers.Answer.{Answer}
use Rattle.bcf_http.specs.declared.answers.Answer.TheVariants as answer
use Rattle.error_json.specs.Errors.{error_tree, error_named, error_newest, error_version, error_store, error_full, error_place, error_turn, error_at}
use Rattle.error_json.specs.FaultTrees.{upload_fault_tree, rule_fault_tree}
use Rattle.coord_json.specs.VersionTrees.{changed_tree, IsVersionTree}
use Rattle.coord_json.specs.ClashTrees.{clashes_tree, pending_tree}
use Rattle.bcf_http.specs.Responses.{response_bytes}

-- a parameter of a query, as it is spelled
abbrev pub query_text : QueryName → List ℕ
query_text query.Grid = codes "grid"
query_text query.First = codes "first"
query_text query.Count = codes "count"
query_text query.Filter = codes "$filter"
query_text query.OrderBy = codes "$orderby"
query_text query.Skip = codes "$skip"
query_text query.Top = codes "$top"

-- what a book may be full of
abbrev pub store_text : StoreWhat → List ℕ
store_text store.Triangles = codes "triangles"
store_text store.Text = codes "text"

-- a fault of the body of a topic, a comment or a viewpoint
abbrev pub body_fault_tree : BodyFault → Data
body_fault_tree Title = error_tree (codes "B3") (codes "Title")
body_fault_tree (BadMember name) = error_named (codes "B4") (codes "BadMember") name
body_fault_tree BadComponent = error_tree (codes "B8") (codes "BadComponent")

-- a fault that the request alone decides
abbrev pub request_fault_tree : RequestFault → Data
request_fault_tree NoRoute = error_tree (codes "H7") (codes "NoRoute")
request_fault_tree (Method row) = error_tree (codes "H8") (codes "Method")
request_fault_tree Encoding = error_tree (codes "H12") (codes "Encoding")
request_fault_tree (Query name) = error_named (codes "H11") (codes "Query") (query_text name)
request_fault_tree (Filter at) = error_at (codes "H14") (codes "Filter") at
request_fault_tree (Order at) = error_at (codes "H15") (codes "Order") at
request_fault_tree BadTurn = error_tree (codes "H13") (codes "TurnField")
request_fault_tree BadJson = error_tree (codes "H9") (codes "BadJson")
request_fault_tree (Rules fault) = rule_fault_tree fault
request_fault_tree (Body fault) = body_fault_tree fault

-- a fault of framing
abbrev pub frame_fault_tree : FrameFault → Data
frame_fault_tree frame.BadHead = error_tree (codes "H1") (codes "BadHead")
frame_fault_tree frame.HeadTooLong = error_tree (codes "H2") (codes "HeadTooLong")
frame_fault_tree frame.BadLength = error_tree (codes "H3") (codes "BadLength")
frame_fault_tree frame.BodyTooLong = error_tree (codes "H4") (codes "BodyTooLong")
frame_fault_tree frame.BadChunk = error_tree (codes "H5") (codes "BadChunk")
frame_fault_tree frame.Version = error_tree (codes "H6") (codes "Version")

-- a refusal of the book, with its fields; a version whose buckets are not all checked has no code
abbrev pub book_fault_tree : BookFault → Data
book_fault_tree refusal.NoProject = error_tree (codes "K1") (codes "NoProject")
book_fault_tree refusal.NoModel = error_tree (codes "K2") (codes "NoModel")
book_fault_tree (refusal.NoVersion newest) = error_newest (codes "K3") (codes "NoVersion") newest
book_fault_tree (refusal.VersionDropped version newest) =
    error_version (codes "K4") (codes "VersionDropped") newest version
book_fault_tree (refusal.Pending version left) = pending_tree left version
book_fault_tree (refusal.StoreFull what count limit) =
    error_store (codes "K6") (codes "StoreFull") count limit (store_text what)
book_fault_tree (refusal.ElementsFull count limit) =
    error_full (codes "K7") (codes "ElementsFull") count limit
book_fault_tree (refusal.TooSpread count limit) = error_full (codes "K8") (codes "TooSpread") count limit
book_fault_tree (refusal.JournalFull count limit) = error_full (codes "K9") (codes "JournalFull") count limit
book_fault_tree refusal.AlreadyDone = error_tree (codes "K10") (codes "AlreadyDone")
book_fault_tree refusal.NoWork = error_tree (codes "K11") (codes "NoWork")
book_fault_tree (refusal.NoClash place total) = error_place (codes "K12") (codes "NoClash") place total
book_fault_tree (refusal.TurnAhead given turn) = error_turn (codes "K13") (codes "TurnAhead") given turn
book_fault_tree refusal.NoTopic = error_tree (codes "B1") (codes "NoTopic")
book_fault_tree refusal.NoComment = error_tree (codes "B2") (codes "NoComment")
book_fault_tree (refusal.TopicsFull count limit) = error_full (codes "B5") (codes "TopicsFull") count limit
book_fault_tree (refusal.CommentsFull count limit) =
    error_full (codes "B6") (codes "CommentsFull") count limit
book_fault_tree refusal.NoViewpoint = error_tree (codes "B7") (codes "NoViewpoint")
book_fault_tree (refusal.ViewpointsFull count limit) =
    error_full (codes "B9") (codes "ViewpointsFull") count limit

-- a project, which is named by its number
abbrev pub project_tree : ℕ → Data
project_tree n =
    object (member (codes "name") (string (codes "Project " ++ decimal n))
    (member (codes "project_id") (string (identifier_text n 0)) no_members))

-- an array of one tree for each of a list
abbrev pub AreTrees : {A : Type 0} → (A → Data → Type 0) → List A → Items → Type 0
AreTrees IsTree [] no_items = Unit {0}
AreTrees IsTree [] (item d ds) = ⊥
AreTrees IsTree (x ∷ xs) no_items = ⊥
AreTrees IsTree (x ∷ xs) (item d ds) = IsTree x d × AreTrees IsTree xs ds

-- an array of such trees
abbrev pub IsArrayOf : {A : Type 0} → (A → Data → Type 0) → List A → Data → Type 0
IsArrayOf IsTree xs tree = (items : Items) × AreTrees IsTree xs items × (tree ≡ array items)

-- the tree of a reply of the book, for a project and a part of a viewpoint; no client is given work
abbrev pub IsReplyTree : ℕ → ViewPart → ReplyBody → Data → Type 0
IsReplyTree project part (reply.Projects numbers) tree = tree ≡ array (listed project_tree numbers)
IsReplyTree project part (reply.Project number) tree = tree ≡ project_tree number
IsReplyTree project part (reply.TopicIs topic) tree = IsTopicTree project topic tree
IsReplyTree project part (reply.TopicList topics) tree = IsArrayOf (IsTopicTree project) topics tree
IsReplyTree project part (reply.CommentIs comment) tree = IsCommentTree project comment tree
IsReplyTree project part (reply.CommentList comments) tree = IsArrayOf (IsCommentTree project) comments tree
IsReplyTree project part (reply.View view) tree = tree ≡ view_tree project view part
IsReplyTree project part (reply.ViewList views) tree = tree ≡ array (listed (whole_tree project) views)
IsReplyTree project part reply.Gone tree = tree ≡ object no_members
IsReplyTree project part (reply.Changed version elements triangles left) tree =
    tree ≡ changed_tree version elements triangles left
IsReplyTree project part (reply.Version version newest snapshot) tree =
    IsVersionTree version newest snapshot tree
IsReplyTree project part (reply.Clashes version set first count) tree =
    tree ≡ clashes_tree version set first count
IsReplyTree project part (reply.Work order) tree = tree ≡ null
IsReplyTree project part (reply.Finished left) tree = tree ≡ null
IsReplyTree project part (reply.Refused fault) tree = tree ≡ book_fault_tree fault

-- the tree of topics of a project that a listing lists
abbrev pub IsListTree : ℕ → Listing → List Topic → Data → Type 0
IsListTree project listing topics tree =
    (places : List ℕ) × IsListed listing topics places
    × IsArrayOf (IsTopicTree project) (topics_at topics places) tree

-- the tree of a reply of the book, whose topics are listed by a listing
abbrev pub IsListedTree : ℕ → ViewPart → Listing → ReplyBody → Data → Type 0
IsListedTree project part listing (reply.TopicList topics) tree = IsListTree project listing topics tree
IsListedTree project part listing other tree = IsReplyTree project part other tree

-- the tree of an answer, for a project and a part of a viewpoint
abbrev pub IsAnswerTree : ℕ → ViewPart → Answer → Data → Type 0
IsAnswerTree project part (answer.Book reply) tree = IsReplyTree project part reply.body tree
IsAnswerTree project part (answer.Listed reply listing) tree =
    IsListedTree project part listing reply.body tree
IsAnswerTree project part (answer.Refused fault) tree = tree ≡ request_fault_tree fault
IsAnswerTree project part (answer.Built fault) tree = tree ≡ upload_fault_tree fault
IsAnswerTree project part (answer.Frame fault) tree = tree ≡ frame_fault_tree fault
IsAnswerTree project part answer.Memory tree = tree ≡ error_tree (codes "M1") (codes "Memory")

-- the status of a refusal of the book
abbrev pub refusal_status : BookFault → ℕ
refusal_status refusal.NoProject = 404
refusal_status refusal.NoModel = 404
refusal_status (refusal.NoVersion newest) = 404
refusal_status (refusal.VersionDropped version newest) = 410
refusal_status (refusal.Pending version left) = 202
refusal_status (refusal.StoreFull what count limit) = 507
refusal_status (refusal.ElementsFull count limit) = 507
refusal_status (refusal.TooSpread count limit) = 507
refusal_status (refusal.JournalFull count limit) = 507
refusal_status refusal.AlreadyDone = 404
refusal_status refusal.NoWork = 404
refusal_status (refusal.NoClash place total) = 404
refusal_status (refusal.TurnAhead given turn) = 409
refusal_status refusal.NoTopic = 404
refusal_status refusal.NoComment = 404
refusal_status (refusal.TopicsFull count limit) = 507
refusal_status (refusal.CommentsFull count limit) = 507
refusal_status refusal.NoViewpoint = 404
refusal_status (refusal.ViewpointsFull count limit) = 507

-- the status of a reply of the book, where success is answered 201 or not
abbrev pub reply_status : Bool → ReplyBody → ℕ
reply_status created (reply.Projects numbers) = 200
reply_status created (reply.Project number) = 200
reply_status created (reply.TopicIs topic) = if created then 201 else 200
reply_status created (reply.TopicList topics) = 200
reply_status created (reply.CommentIs comment) = if created then 201 else 200
reply_status created (reply.CommentList comments) = 200
reply_status created (reply.View view) = if created then 201 else 200
reply_status created (reply.ViewList views) = 200
reply_status created reply.Gone = 200
reply_status created (reply.Changed version elements triangles left) = if created then 201 else 200
reply_status created (reply.Version version newest snapshot) = 200
reply_status created (reply.Clashes version set first count) = 200
reply_status created (reply.Work order) = 200
reply_status created (reply.Finished left) = 200
reply_status created (reply.Refused fault) = refusal_status fault

-- the status of a fault that the request alone decides
abbrev pub fault_status : RequestFault → ℕ
fault_status NoRoute = 404
fault_status (Method row) = 405
fault_status Encoding = 415
fault_status (Query name) = 400
fault_status (Filter at) = 400
fault_status (Order at) = 400
fault_status BadTurn = 400
fault_status BadJson = 400
fault_status (Rules fault) = 422
fault_status (Body fault) = 422

-- the status of a fault of framing
abbrev pub frame_status : FrameFault → ℕ
frame_status frame.BadHead = 400
frame_status frame.HeadTooLong = 431
frame_status frame.BadLength = 400
frame_status frame.BodyTooLong = 413
frame_status frame.BadChunk = 400
frame_status frame.Version = 505

-- the status of an answer
abbrev pub status_of : Bool → Answer → ℕ
status_of created (answer.Book reply) = reply_status created reply.body
status_of created (answer.Listed reply listing) = reply_status created reply.body
status_of created (answer.Refused fault) = fault_status fault
status_of created (answer.Built fault) = 422
status_of created (answer.Frame fault) = frame_status fault
status_of created answer.Memory = 503

-- the row whose methods are told, where the request's method is none of them
abbrev pub allow_of : Answer → Option RoutePath
allow_of (answer.Refused (Method row)) = Some row
allow_of other = None

-- the bytes are the response to a request of this kind that is so answered
abbrev pub IsResponse : Answer → ReplyKind → Option ℕ → Bool → List ℕ → Type 0
IsResponse answer kind turn close bytes =
    (tree : Data) × IsAnswerTree kind.project kind.part answer tree
    × (bytes ≡ response_bytes turn close kind.head (status_of kind.created answer) (allow_of answer) tree)

-- the tree of an answer as compact text
abbrev pub IsAnswerText : ℕ → ViewPart → Answer → List ℕ → Type 0
IsAnswerText project part answer text =
    (tree : Data) × IsAnswerTree project part answer tree × (text ≡ compact_text tree)
