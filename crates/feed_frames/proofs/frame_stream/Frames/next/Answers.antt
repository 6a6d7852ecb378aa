use Rattle.std.proofs.Common.{◌≡◌, ℕ, ◌+◌, ◌-◌, ◌^◌, min, List, drop, length, Option, IfSome, refl, sym, ap, subst, ◌∙◌, arith}
use Rattle.book_history.specs.declared.changes.Entry.{Entry}
use Rattle.feed_frames.specs.EntryBytes.{payload, frame}
use Rattle.feed_frames.specs.SpelledEntries.{IsEntry}
use Rattle.feed_frames.specs.FrameStreams.{Unanswered}
use Rattle.feed_frames.specs.inner.FrameFronts.{IsFrameAt}
use Rattle.feed_frames.proofs.Formats.{IsBytes}
use Rattle.feed_frames.proofs.FrameFronts.{at_rest, IsWhole, is_whole, behind_whole}
use Rattle.feed_frames.proofs.frame_stream.Frames.next.Goals as goal

pub returns-in-Some-2 : goal.returns-in-Some-2
returns-in-Some-2 c =
    let items = c.self.inside.buf.items in
    let start = c.self.inside.start in
    let inside = c.in-Some.payload.now in
    let e = c.in-Some-2.entry in
    let there = at_rest (λ (l : List ℕ). IsFrameAt l inside) c.deref-2.result.now items start c.deref-2.ensures.value c.in-Some.ensures in
    let fits = at_rest (λ (l : List ℕ). IsBytes l) c.deref.result.now items start c.deref.ensures.value c.are_bytes.ensures in
    let found = subst (λ (o : Option Entry). IfSome o (λ (x : Entry). IsEntry x × (payload x ≡ inside))) c.in-Some-2.is c.in_ok-entry.ensures.found in
    let w : IsWhole (drop start items) e (8 + length inside) = is_whole (drop start items) inside e (8 + length inside) fits there found.1 refl in
    let at = ap (λ (u : Unanswered). u.at) c.self.view_is in
    let size = w.long in
    let sum : c.self.inside.at + (8 + length inside) ≡ c.args.self.now.at + length (frame e) = omega (arith, at, size) in (
      found.0,
      sym (ap (λ (u : Unanswered). u.rest) c.self.view_is) ∙ behind_whole items start (8 + length inside) e w,
      c.saturating_add-self-inside.ensures ∙ ap (λ (n : ℕ). min n (2 ^ 64 - 1)) sum,
    )
