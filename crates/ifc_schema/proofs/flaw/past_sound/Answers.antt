use Rattle.std.proofs.Common.{sym, ◌∙◌}
use Rattle.ifc_schema.specs.inner.SoundValues.{IsSound}
use Rattle.ifc_schema.proofs.SoundRows.{passes_more}
use Rattle.ifc_schema.proofs.flaw.past_sound.Goals as goal

pub loop-row-preserved : goal.loop-row-preserved
loop-row-preserved c =
    let next = c.in-Some.ensures in
    passes_more (IsSound c.args.inner c.args.leaf) c.args.rows c.loop-row.left c.next_row.new.self next.0 c.loop-row.invariant (sym c.iter-ahead.ensures ∙ next.1) (c.if-not-is_sound.ensures next.0 next.2)
