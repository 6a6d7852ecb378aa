use Rattle.std.proofs.Common.{◌≡◌, ℕ, List, ◌++◌, ap, subst, ◌∙◌}
use Rattle.std.specs.Result.{IfOk}
use Rattle.feed_frames.specs.FieldBytes.{long_bytes}
use Rattle.feed_frames.specs.EntryBytes.{payload}
use Rattle.feed_frames.proofs.FrameFronts.{room_for, framed}
use Rattle.feed_frames.proofs.encoding.encode.Goals as goal

pub set_count-requires : goal.set_count-requires
set_count-requires c =
    room_for _ c.args.entry.now
    (c.in_ok-put_payload.ensures
    ∙ ap (λ (l : List ℕ). l ++ payload c.args.entry.now) (c.in_ok-write_to.ensures ∙ ap (λ (l : List ℕ). l ++ long_bytes 0) c.new-out.ensures.items))

pub returns : goal.returns
returns c =
    subst (λ (l : List ℕ). IfOk c.from_vec.result (λ (b : List ℕ). b ≡ l))
    (c.set_count.ensures
    ∙ framed c.args.entry.now _
    (c.in_ok-put_payload.ensures
    ∙ ap (λ (l : List ℕ). l ++ payload c.args.entry.now) (c.in_ok-write_to.ensures ∙ ap (λ (l : List ℕ). l ++ long_bytes 0) c.new-out.ensures.items)))
    c.from_vec.ensures
