-- What the bytes of a connection spell (RFC 9112), as a relation on the whole bytes.
use Rattle.std.specs.Prelude.{◌≡◌, ℕ, ◌⊎◌, Bool, true, false, List, [], ◌∷◌}
use Rattle.httparse.specs.Grammar.{RequestHead, LineEnd, print_blank}
use Rattle.http_frame.specs.declared.types.FrameFault.{FrameFault}
use Rattle.http_frame.specs.declared.types.HttpRequest.{HttpRequest}
use Rattle.http_frame.specs.Heads.{HasGoodHead, FailsInHead, framing, most_body, asks_continue, closes, is_encoded, user_of, turn_of, absent}
use Rattle.http_frame.specs.Bodies.{ReadsBody, FailsInBody}

-- the bytes begin with the request, and the rest follows
pub record Begins (bytes : List ℕ) (request : HttpRequest) (rest : List ℕ) : Type 0 where
  pub head : RequestHead
  pub behind : List ℕ
  pub good : HasGoodHead bytes head behind
  pub body : ReadsBody (most_body head) (framing head) behind request.body rest
  pub method : request.method ≡ head.method
  pub target : request.target ≡ head.target
  pub minor : request.minor ≡ head.minor
  pub user : request.user ≡ user_of head
  pub close : request.close ≡ closes head
  pub encoded : request.encoded ≡ is_encoded head
  pub seen : request.seen ≡ turn_of head

-- the bytes begin with a fault, in a head or in the body after a good one
abbrev pub Fails : List ℕ → FrameFault → Type 0
Fails bytes fault =
    FailsInHead bytes fault
    ⊎ ((head : RequestHead) × (behind : List ℕ) × HasGoodHead bytes head behind
    × FailsInBody (most_body head) (framing head) behind fault)

-- the bytes begin with a good head that asks for `100 Continue` and has a body
abbrev pub Asks : List ℕ → Type 0
Asks bytes =
    (head : RequestHead) × (behind : List ℕ) × HasGoodHead bytes head behind
    × (asks_continue head ≡ true) × ¬ (framing head ≡ absent)

-- what the bytes spell, one after another
pub data Event : Type 0 where
  continue : Event
  request : HttpRequest → Event

-- how they end
pub data Ending : Type 0 where
  between : Ending
  within : Ending
  bad : FrameFault → Ending

-- neither a request nor a fault stands at the front
abbrev pub IsRest : List ℕ → Type 0
IsRest bytes =
    ((r : HttpRequest) (rest : List ℕ) → ¬ (Begins bytes r rest))
    × ((fault : FrameFault) → ¬ (Fails bytes fault))

-- the bytes are empty lines alone
abbrev pub IsBlank : List ℕ → Type 0
IsBlank bytes = (ends : List LineEnd) × (bytes ≡ print_blank ends)

-- nothing more can be told of the bytes, and this is how they end
abbrev pub Ends : List ℕ → Ending → Type 0
Ends bytes between = IsRest bytes × IsBlank bytes
Ends bytes within = IsRest bytes × ¬ (IsBlank bytes)
Ends bytes (bad fault) = Fails bytes fault

-- the Continue of the first request has been answered, or it asks for none
abbrev pub IsTold : Bool → List ℕ → Type 0
IsTold told bytes = (told ≡ true) ⊎ ¬ (Asks bytes)

-- the events that the bytes spell, and their end; told: the Continue of the first request was answered before
abbrev pub Spells : List ℕ → Bool → List Event → Ending → Type 0
Spells bytes told [] ending = IsTold told bytes × Ends bytes ending
Spells bytes told (continue ∷ events) ending = (told ≡ false) × Asks bytes × Spells bytes true events ending
Spells bytes told (request r ∷ events) ending =
    IsTold told bytes × ((rest : List ℕ) × Begins bytes r rest × Spells rest false events ending)
